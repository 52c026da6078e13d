-- A login's turn is above those of the sessions that are left for it.
use Rattle.std.proofs.Common.{◌≡◌, ℕ, ◌<◌, nat_lt, Bool, true, false, List, [], ◌∷◌, cond, All, count_by, sym}
use Rattle.std.specs.declared.cmp.Ordering.TheVariants.{Less}
use Rattle.std.specs.Ordering.{nat_cmp}
use Rattle.std.specs.Cmp.{nat_cmp_is}
use Rattle.std.proofs.lemmas.List.Elements.{All-cons, All-head, All-tail, All-weaker}
use Rattle.wb_list.specs.Keyed.{without_first}
use Rattle.wb_base.specs.declared.callers.Principal.{Principal}
use Rattle.wb_access.specs.Sessions.{is_of}
use Rattle.wb_access.specs.declared.sessions.Session.{Session}

all-without_first : {X : Type 0} (P : X → Type 0) (test : X → Bool) (xs : List X) → All P xs → All P (without_first test xs)
all-without_first P test [] all = all
all-without_first P test (x ∷ xs) all =
    elim (test x) as (λ b. All P (cond b xs (x ∷ without_first test xs))) [
      | true ↦ All-tail P x xs all
      | false ↦ All-cons P x (without_first test xs) (All-head P x xs all) (all-without_first P test xs (All-tail P x xs all))
    ]

pub last-after : (p : Principal) (turn : ℕ) (sessions : List Session) → All (λ s. s.turn < turn) sessions → All (λ s. nat_cmp s.turn turn ≡ Less) (cond (nat_lt (count_by (is_of p) sessions) 8) sessions (without_first (is_of p) sessions))
last-after p turn sessions later =
    let all = All-weaker (λ (s : Session). s.turn < turn) (λ s. nat_cmp s.turn turn ≡ Less) (λ s lt. sym (nat_cmp_is s.turn turn Less lt)) sessions later in
    elim (nat_lt (count_by (is_of p) sessions) 8) as (λ b. All (λ s. nat_cmp s.turn turn ≡ Less) (cond b sessions (without_first (is_of p) sessions))) [
      | true ↦ all
      | false ↦ all-without_first (λ s. nat_cmp s.turn turn ≡ Less) (is_of p) sessions all
    ]
