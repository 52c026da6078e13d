use Rattle.std.proofs.Common.{◌≡◌, ◌+◌, ℕ, length, ap, ◌∙◌, arith, subst}
use Rattle.std.specs.Io.KnownBytes.{Consumes}
use Rattle.wb_model.specs.declared.wire.ScriptFrame.{ScriptFrame}
use Rattle.wb_model.specs.FrameTexts.{frame_text}
use Rattle.wb_wire.specs.FrameReading.{Progress}
use Rattle.wb_wire.proofs.FrameLemmas.{begins_no_frame, goes_on_broken, is_frame, frame_is, frame_length}
use Rattle.wb_wire.proofs.TakingLemmas.{stops_alike}
use Rattle.wb_wire.proofs.frames.FrameReader.next.Goals as goal

pub returns-in-Ok-Some-clause-ok : goal.returns-in-Ok-Some-clause-ok
returns-in-Ok-Some-clause-ok g c =
    let took = rw c.in-Ok-Some.field-0-is at c.in-Ok-Some.ensures.ok in
    let f : ScriptFrame = record { moment = c.in-Ok-Some.text.head.moment; words = c.in-Ok-Some.text.head.words; bytes = c.in-Ok-Some.text.bytes } in
    (is_frame f took.0 took.1, subst (Consumes _ _) (frame_is f took.0 took.1) took.2)

pub returns-in-Ok-Some-clause-goes_on : goal.returns-in-Ok-Some-clause-goes_on
returns-in-Ok-Some-clause-goes_on g c =
    let took = rw c.in-Ok-Some.field-0-is at c.in-Ok-Some.ensures.ok in
    let on = rw c.in-Ok-Some.field-0-is at c.in-Ok-Some.ensures.goes_on in
    let f : ScriptFrame = record { moment = c.in-Ok-Some.text.head.moment; words = c.in-Ok-Some.text.head.words; bytes = c.in-Ok-Some.text.bytes } in
    let seen = c.self-2.view_is ∙ on in
    let size : c.in-Ok-Some.text.size ≡ length (frame_text f) = omega (arith, took.3, frame_length f took.0 took.1) in
    let p : Progress = c.args.self.now in
    ap (λ (q : Progress). record q { given = q.given + 1 }) seen ∙ ap (λ (n : ℕ). record p { given = p.given + 1; taken = p.taken + n }) size

pub returns-in-Err-clause-cause : goal.returns-in-Err-clause-cause
returns-in-Err-clause-cause g c = λ going.
    let number = ap (λ (p : Progress). p.given + 1) c.self.view_is in
    stops_alike begins_no_frame goes_on_broken _ _ _ _ _ _ _ c.in-Err.no number (c.in-Err.ensures.cause going)
