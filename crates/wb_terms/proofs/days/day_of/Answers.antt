-- The quotient is a day, so the casts keep it.
use Rattle.std.proofs.Common.{◌≡◌, pos, arith, sym, ap, subst, ◌∙◌}
use Rattle.std.specs.Int.{int_div_euclid}
use Rattle.jiff_core.proofs.SignedLemmas.{signed_casts}
use Rattle.wb_base.specs.Days.{IsEarlyDay, day_of}
use Rattle.wb_terms.proofs.Ranges.{day_casts, IsDay-day_of, IsEarlyDay-day_of}
use Rattle.wb_terms.proofs.days.day_of.Goals as goal

pub returns : goal.returns
returns c =
    let quotient : c.div_euclid.result ≡ day_of c.args.moment c.args.offset = c.div_euclid.ensures ∙ ap (λ z. int_div_euclid z (pos 86_400)) (omega (arith, signed_casts)) in
    let is = IsDay-day_of c.args.moment c.args.offset c.seconds.ensures.high c.requires in
    let day = c.new.ensures ∙ day_casts _ (rw quotient is) ∙ quotient in
    record { day = day; early = subst IsEarlyDay (sym day) (IsEarlyDay-day_of c.args.moment c.args.offset c.seconds.ensures.high c.requires) }
