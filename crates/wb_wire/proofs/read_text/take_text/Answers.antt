use Rattle.std.proofs.Common.{◌≡◌, ◌-◌, ◌^◌, ◌++◌, ◌∷◌, [], length, take, arith, refl, length-append}
use Rattle.std.proofs.lemmas.List.{length-take-le}
use Rattle.wb_wire.specs.TextReading.{BeginsNone, GoesOnOtherwise}
use Rattle.wb_wire.proofs.TextLemmas.{line_part, no_line, no_body, too_short}
use Rattle.wb_wire.proofs.TakingLemmas.{stops, stopped_after, broken_in_line, broken_line_text, broken_body, line_and}
use Rattle.wb_wire.proofs.read_text.take_text.Goals as goal

pub returns-in-Ok-Broken-clause-cause : goal.returns-in-Ok-Broken-clause-cause
returns-in-Ok-Broken-clause-cause g c =
    let took = rw c.in-Ok-Broken.field-0-is at c.in-Ok-Broken.ensures.ok in
    let part = take took.0 c.take_line.new.room in
    let whole : length part ≡ took.0 = length-take-le took.0 c.take_line.new.room (omega arith) in (
      refl,
      broken_in_line g.H.FirstLine.is_line _ _ part took.4 (omega (arith, whole, took.1)) took.5 (λ h. took.6 (omega (arith, whole, h))),
      (part, took.4, line_part g.H.FirstLine.is_line part took.5, omega (arith, whole, took.3, c.requires)),
    )

pub returns-in-Err-clause-cause : goal.returns-in-Err-clause-cause
returns-in-Err-clause-cause g c =
    let part = c.in-Err.ensures.err in
    stops (BeginsNone g.H.FirstLine.is_line) (GoesOnOtherwise g.H.FirstLine.is_line) c.args.taken c.args.number (2 ^ 40 - c.args.taken) _ _ _ _ part.0 c.in-Err.no (omega (arith, c.requires)) (line_part g.H.FirstLine.is_line part.0 part.1) part.2

pub returns-in-None-clause-cause : goal.returns-in-None-clause-cause
returns-in-None-clause-cause g c =
    let took = rw c.in-Ok-Whole.field-0-is at c.in-Ok-Whole.ensures.ok in
    let line = take c.in-Ok-Whole.used c.take_line.new.room in
    let whole : length line ≡ c.in-Ok-Whole.used = length-take-le c.in-Ok-Whole.used c.take_line.new.room (omega arith) in (
      refl,
      broken_line_text g.H.FirstLine.is_line _ _ line took.2 took.3 c.in-None.ensures.only,
      (line ++ 10 ∷ [], took.2, no_line g.H.FirstLine.is_line line [] took.3 c.in-None.ensures.only, omega (arith, whole, took.1, length-append line (10 ∷ []), c.requires)),
    )

pub returns-in-Ok-Broken-take_body-clause-cause : goal.returns-in-Ok-Broken-take_body-clause-cause
returns-in-Ok-Broken-take_body-clause-cause g c =
    let took = rw c.in-Ok-Whole.field-0-is at c.in-Ok-Whole.ensures.ok in
    let line = take c.in-Ok-Whole.used c.take_line.new.room in
    let whole : length line ≡ c.in-Ok-Whole.used = length-take-le c.in-Ok-Whole.used c.take_line.new.room (omega arith) in
    let body = rw c.in-Ok-Broken-take_body.field-0-is at c.in-Ok-Broken-take_body.ensures.ok in (
      refl,
      broken_body g.H.FirstLine.is_line _ _ line c.in-Some.said.1 took.2 took.3 c.in-Some.ensures.only body.4,
      (
        line ++ 10 ∷ body.0,
        line_and _ _ _ line body.0 took.2 body.2,
        no_body g.H.FirstLine.is_line line body.0 c.in-Some.said.1 took.3 c.in-Some.ensures.only body.3,
        omega (arith, whole, took.1, body.1, length-append line (10 ∷ body.0), c.requires),
      ),
    )

pub returns-in-Ok-NoMemory-clause-cause : goal.returns-in-Ok-NoMemory-clause-cause
returns-in-Ok-NoMemory-clause-cause g c =
    let took = rw c.in-Ok-Whole.field-0-is at c.in-Ok-Whole.ensures.ok in
    let line = take c.in-Ok-Whole.used c.take_line.new.room in
    let whole : length line ≡ c.in-Ok-Whole.used = length-take-le c.in-Ok-Whole.used c.take_line.new.room (omega arith) in
    let body = rw c.in-Ok-NoMemory.field-0-is at c.in-Ok-NoMemory.ensures.ok in (
      line ++ 10 ∷ [],
      line_and _ _ _ line [] took.2 body,
      no_body g.H.FirstLine.is_line line [] c.in-Some.said.1 took.3 c.in-Some.ensures.only (too_short c.in-Some.said.1 [] (omega arith)),
      omega (arith, whole, took.1, length-append line (10 ∷ []), c.requires),
    )

pub returns-in-Err-take_body-clause-cause : goal.returns-in-Err-take_body-clause-cause
returns-in-Err-take_body-clause-cause g c =
    let took = rw c.in-Ok-Whole.field-0-is at c.in-Ok-Whole.ensures.ok in
    let line = take c.in-Ok-Whole.used c.take_line.new.room in
    let whole : length line ≡ c.in-Ok-Whole.used = length-take-le c.in-Ok-Whole.used c.take_line.new.room (omega arith) in
    let body = c.in-Err-take_body.ensures.err in
    stops (BeginsNone g.H.FirstLine.is_line) (GoesOnOtherwise g.H.FirstLine.is_line) c.args.taken c.args.number (2 ^ 40 - c.args.taken) _ _ _ _ (line ++ 10 ∷ body.0) c.in-Err-take_body.no (omega (arith, c.requires))
    (no_body g.H.FirstLine.is_line line body.0 c.in-Some.said.1 took.3 c.in-Some.ensures.only body.1)
    (stopped_after (2 ^ 40 - c.args.taken) c.in-Ok-Whole.used _ _ _ _ _ _ line body.0 c.in-Err-take_body.no c.take_line.ensures.counts.later whole took.1 took.2 body.2)
