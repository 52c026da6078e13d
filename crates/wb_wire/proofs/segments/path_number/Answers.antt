use Rattle.std.proofs.Common.{◌≡◌, true, refl, arith}
use Rattle.std.proofs.lemmas.Bool.{and_from, le-leb}
use Rattle.wb_model.specs.Fits.{is_path_number}
use Rattle.wb_wire.proofs.NumberLemmas.{number_back}
use Rattle.wb_wire.proofs.segments.path_number.Goals as goal

pub returns-then-number-le4294967295 : goal.returns-then-number-le4294967295
returns-then-number-le4294967295 c =
    let back = number_back c.in-Some.number c.args.text.now (omega arith) c.in-Some.ensures.found in
    let fits : is_path_number c.in-Some.number ≡ true = and_from _ _ (le-leb 1 c.in-Some.number (omega arith)) (le-leb c.in-Some.number 4_294_967_295 (omega arith)) in
    rw (back.1, back.0, fits) refl
