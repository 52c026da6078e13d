use Rattle.std.proofs.Common.{◌≡◌, ℕ, Bool, true, false, cond, not, List, [], ◌∷◌, map, refl, ap, ◌∙◌, arith}
use Rattle.std.specs.Prelude.{◌==◌, ◌&&◌, filter}
use Rattle.wb_model.specs.Tables.{Session, Who, same_who}
use Rattle.wb_tables.specs.Kept.{case_of}
use Rattle.wb_tables.specs.Logins.{session_of}
use Rattle.wb_commands.specs.Made.{AreBy}
use Rattle.wb_commands.proofs.login.log_out.Goals as goal

-- where each session of the turn is of its caller, none of another caller's is left or dropped
same_left : (turn : ℕ) (who : Who) (ss : List Session) → AreBy turn who ss → filter (λ s. not (s.turn == turn)) ss ≡ filter (λ s. not ((s.turn == turn) && same_who s.who who)) ss
same_left turn who [] all = refl
same_left turn who (s ∷ ss) all = by (same_left turn who ss all.1) (s.turn == turn) (same_who s.who who) all.0
  where
    left : List Session
    left = filter (λ z. not ((z.turn == turn) && same_who z.who who)) ss

    by : filter (λ z. not (z.turn == turn)) ss ≡ left → (b d : Bool) → (b ≡ true → d ≡ true) → cond (not b) (s ∷ filter (λ z. not (z.turn == turn)) ss) (filter (λ z. not (z.turn == turn)) ss) ≡ cond (not (b && d)) (s ∷ left) left
    by rest false d is = ap (λ l. s ∷ l) rest
    by rest true true is = rest
    by rest true false is = absurd (let bad : false ≡ true = is refl in grind (arith, bad))

pub returns-clause-plain : goal.returns-clause-plain
returns-clause-plain c = λ time who all.
    let x = c.args.tenancy.now in
    let ended = c.close.ensures.items ∙ same_left c.args.turn who (map session_of x.sessions.items) all in
    λ i. record { registry = x.configuration.registry; numbering = x.numbering; cases = map case_of x.cases.items; sessions = ended i }
