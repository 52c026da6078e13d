-- The reply to bytes that ask nothing.
use Rattle.std.proofs.Common.{◌≡◌, inr, Bool, true, false, cond, Option, Some, None, refl, sym, ap, ◌∙◌, subst}
use Rattle.wb_model.specs.declared.wire.WireFault.{WireFault}
use Rattle.wb_model.specs.Readings.{closes_always}
use Rattle.wb_model.specs.Scripts.{Reply}
use Rattle.wb_wire.specs.Responses.{refusal}
use Rattle.wb_front.specs.Answers.{IsFatal}

fatal_by : (b : Bool) (fault : WireFault) (close : Bool) (reply : Reply) → closes_always fault ≡ b → reply ≡ refusal fault close → IsFatal (cond b (Some fault) None) reply None
fatal_by true fault close reply test is = (test, refl, is ∙ ap (λ (r : Reply). refusal fault r.close) (sym is))
fatal_by false fault close reply test is = inr (fault, close, test, is)

pub fatal_of : (fatal : Option WireFault) (fault : WireFault) (close : Bool) (reply : Reply) → fatal ≡ cond (closes_always fault) (Some fault) None → reply ≡ refusal fault close → IsFatal fatal reply None
fatal_of fatal fault close reply e is = subst (λ o. IsFatal o reply None) (sym e) (fatal_by (closes_always fault) fault close reply refl is)
