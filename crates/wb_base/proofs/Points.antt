-- Counting points of 1 each is what any and all of the conditions say.
use Rattle.std.proofs.Common.{◌≡◌, ℕ, suc, ◌+◌, ◌≤◌, Bool, true, false, ◌&&◌, ◌||◌, if◌then◌else◌, List, [], ◌∷◌, length, map, nat_le, refl, ap, ◌∙◌, arith}
use Rattle.std.specs.List.{list_any, list_all}
use Rattle.std.proofs.lemmas.Bool.{le-leb, lt-leb}
use Rattle.std.proofs.Math.Dec.{leb-suc-suc}
use Rattle.wb_base.specs.declared.form.Cond.{Cond}
use Rattle.wb_base.specs.FormFields.{one_point}
use Rattle.wb_base.specs.ShownFields.{Look, is_met, points_met}

none : (n : ℕ) → 0 + n ≡ n
none n = omega arith

one : (n : ℕ) → 1 + n ≡ suc n
one n = omega arith

module _ (shows : List ℕ → Bool) (look : Look) where
  abbrev met : Cond → Bool
  met c = is_met shows look (one_point c)

  abbrev points : List Cond → ℕ
  points cs = points_met shows look (map one_point cs)

  pub any-points : (cs : List Cond) → nat_le 1 (points cs) ≡ list_any met cs
  any-points [] = refl
  any-points (c ∷ cs) = elim (met c) as (λ b. nat_le 1 ((if b then 1 else 0) + points cs) ≡ (b || list_any met cs)) [
    | true ↦ le-leb 1 (1 + points cs) (omega arith)
    | false ↦ ap (nat_le 1) (none (points cs)) ∙ any-points cs
  ]

  few : (cs : List Cond) → points cs ≤ length cs
  few [] = omega arith
  few (c ∷ cs) = elim (met c) as (λ b. (if b then 1 else 0) + points cs ≤ length (c ∷ cs)) [
    | true ↦ omega (arith, few cs)
    | false ↦ omega (arith, few cs)
  ]

  pub all-points : (cs : List Cond) → nat_le (length cs) (points cs) ≡ list_all met cs
  all-points [] = refl
  all-points (c ∷ cs) = elim (met c) as (λ b. nat_le (length (c ∷ cs)) ((if b then 1 else 0) + points cs) ≡ (b && list_all met cs)) [
    | true ↦ ap (nat_le (length (c ∷ cs))) (one (points cs)) ∙ leb-suc-suc (length cs) (points cs) ∙ all-points cs
    | false ↦ ap (nat_le (length (c ∷ cs))) (none (points cs)) ∙ lt-leb (length (c ∷ cs)) (points cs) (omega (arith, few cs))
  ]
