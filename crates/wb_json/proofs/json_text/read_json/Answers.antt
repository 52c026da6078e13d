use Rattle.std.proofs.Common.{◌≡◌, ℕ, List, false, None, sym, ◌∙◌, refl, inl, inr}
use Rattle.std.proofs.lemmas.Bool.{cases_Bool, false≢true}
use Rattle.std.proofs.lemmas.Str.{IsUtf8-from_is_utf8, is_utf8-from_IsUtf8}
use Rattle.std.specs.Str.{is_utf8, IsUtf8}
use Rattle.serde_json.specs.Read.{read}
use Rattle.serde_json.specs.View.{view}
use Rattle.serde_json.specs.Written.{has_float}
use Rattle.wb_model.specs.Bodies.{json}
use Rattle.wb_json.proofs.json_text.read_json.Goals as goal

unread : (b : List ℕ) → (IsUtf8 b → read b ≡ None) → json b ≡ None
unread b none = elim (cases_Bool (is_utf8 b)) [
  | inl good ↦ rw (good, none (IsUtf8-from_is_utf8 b good)) refl
  | inr bad ↦ rw bad refl
]

pub returns-else-keeps_float-clause-ok : goal.returns-else-keeps_float-clause-ok
returns-else-keeps_float-clause-ok c =
    let read = c.in-Ok.ensures.ok in
    let utf8 = is_utf8-from_IsUtf8 _ read.0 in
    let whole : has_float (view c.in-Ok.value) ≡ false = sym c.keeps_float.ensures ∙ c.if-keeps_float.false in
    rw (utf8, read.1, whole) refl

pub returns-else-is_memory-clause-other : goal.returns-else-is_memory-clause-other
returns-else-is_memory-clause-other c =
    λ _. unread _ (c.in-Err.ensures.err (λ m. false≢true (c.if-is_memory.ensures.1 m)))
