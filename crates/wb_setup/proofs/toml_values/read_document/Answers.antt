use Rattle.std.proofs.Common.{◌≡◌, ℕ, List, None, refl, inl, inr}
use Rattle.std.proofs.lemmas.Bool.{cases_Bool, false≢true}
use Rattle.std.proofs.lemmas.Str.{IsUtf8-from_is_utf8, is_utf8-from_IsUtf8}
use Rattle.std.specs.Str.{is_utf8, IsUtf8}
use Rattle.toml.specs.Parse.{parse_document}
use Rattle.toml.proofs.Views.{view-Table}
use Rattle.wb_setup.specs.TomlValues.{document}
use Rattle.wb_setup.proofs.toml_values.read_document.Goals as goal

unread : (b : List ℕ) → (IsUtf8 b → parse_document b ≡ None) → document b ≡ None
unread b none = elim (cases_Bool (is_utf8 b)) [
  | inl good ↦ rw (good, none (IsUtf8-from_is_utf8 b good)) refl
  | inr bad ↦ rw bad refl
]

pub returns-in-Ok-clause-ok : goal.returns-in-Ok-clause-ok
returns-in-Ok-clause-ok c =
    let read = c.in-Ok.ensures.ok in
    let utf8 = is_utf8-from_IsUtf8 _ read.0 in
    rw (utf8, read.1, view-Table c.in-Ok.table) refl

pub returns-else-is_memory-clause-other : goal.returns-else-is_memory-clause-other
returns-else-is_memory-clause-other c =
    λ _. unread _ (c.in-Err.ensures.refused (λ m. false≢true (c.if-is_memory.ensures.1 m)))
