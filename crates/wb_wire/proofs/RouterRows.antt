-- The router's rows, computed, and the number that a path has by them.
use Rattle.std.proofs.Common.{◌≡◌, ℕ, List, [], true, false, drop, codes, None, option_map, IsUtf8, refl, inl, inr}
use Rattle.std.specs.Str.{is_utf8}
use Rattle.std.proofs.lemmas.Bool.{cases_Bool}
use Rattle.std.proofs.lemmas.Str.{IsUtf8-from_is_utf8, is_utf8-from_IsUtf8}
use Rattle.matchit.specs.Router.{RouteOf}
use Rattle.matchit.specs.Seek.{first}
use Rattle.matchit.proofs.OnLiterals.{matchit_on_literals}
use Rattle.wb_base.specs.AnswerList.{is_text}
use Rattle.wb_model.specs.Routes.{paths, patterns, router, number_of_path}
use Rattle.wb_wire.specs.Fitting.{all_fit}

pub patterns_fit : all_fit (drop 1 patterns) 2 [] ≡ true
unfolding paths matchit_on_literals
patterns_fit = refl

-- bytes that are no text have no row
pub no_row : (path : List ℕ) → is_text path (codes "/health") ≡ false → (IsUtf8 path → ⊥) → number_of_path path ≡ None
no_row path other broken = elim (cases_Bool (is_utf8 path)) [
  | inl good ↦ absurd (broken (IsUtf8-from_is_utf8 path good))
  | inr bad ↦ rw (other, bad) refl
]

-- a text has the router's
pub router_row : (path : List ℕ) → is_text path (codes "/health") ≡ false → IsUtf8 path → number_of_path path ≡ option_map (λ (r : RouteOf ℕ). r.value) (first router path)
router_row path other good = rw (other, is_utf8-from_IsUtf8 path good) refl
