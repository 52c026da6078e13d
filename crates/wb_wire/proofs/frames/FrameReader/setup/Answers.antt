use Rattle.std.proofs.Common.{◌≡◌, ◌+◌, ℕ, [], length, ap, ◌∙◌, arith, refl, subst}
use Rattle.std.specs.Io.KnownBytes.{Consumes}
use Rattle.wb_wire.specs.FrameReading.{Progress}
use Rattle.wb_wire.specs.SetupText.{setup_text}
use Rattle.wb_wire.proofs.SetupLemmas.{begins_no_setup, no_setup_nil, nothing_there, setup_is, setup_length}
use Rattle.wb_wire.proofs.TakingLemmas.{stops_alike}
use Rattle.wb_wire.proofs.frames.FrameReader.setup.Goals as goal

pub returns-in-Ok-Some-clause-ok : goal.returns-in-Ok-Some-clause-ok
returns-in-Ok-Some-clause-ok g c =
    let took = rw c.in-Ok-Some.field-0-is at c.in-Ok-Some.ensures.ok in
    rw c.into_vec.ensures (took.1.0, subst (Consumes _ _) (setup_is c.in-Ok-Some.text.bytes took.0 took.1) took.2)

pub returns-in-Ok-Some-clause-goes_on : goal.returns-in-Ok-Some-clause-goes_on
returns-in-Ok-Some-clause-goes_on g c =
    let took = rw c.in-Ok-Some.field-0-is at c.in-Ok-Some.ensures.ok in
    let on = rw c.in-Ok-Some.field-0-is at c.in-Ok-Some.ensures.goes_on in
    let p : Progress = c.args.self.now in
    let size : c.in-Ok-Some.text.size ≡ length (setup_text c.in-Ok-Some.text.bytes) = omega (arith, took.3, setup_length c.in-Ok-Some.text.bytes took.0 took.1) in
    rw c.into_vec.ensures (on ∙ ap (λ (n : ℕ). record p { taken = p.taken + n }) size)

pub returns-in-Ok-None-clause-cause : goal.returns-in-Ok-None-clause-cause
returns-in-Ok-None-clause-cause g c =
    let took = rw c.in-Ok-None.field-0-is at c.in-Ok-None.ensures.ok in
    let on = rw c.in-Ok-None.field-0-is at c.in-Ok-None.ensures.goes_on in
    let taken : c.self.inside.taken ≡ c.args.self.now.taken = ap (λ (p : Progress). p.taken) (c.self.view_is ∙ on) in
    λ going. rw c.stop.ensures.same (refl, nothing_there _ _ took.0 took.1, ([], took.0, no_setup_nil, omega (arith, taken, c.self.invariant)))

pub returns-in-Err-clause-cause : goal.returns-in-Err-clause-cause
returns-in-Err-clause-cause g c = λ going. stops_alike begins_no_setup (λ text goes_on. begins_no_setup text goes_on.1) _ _ _ _ _ _ _ c.in-Err.no refl (c.in-Err.ensures.cause going)
