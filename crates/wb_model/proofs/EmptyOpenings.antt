-- A tenant that is set up and has no report: what it is opened with.
use Rattle.std.proofs.Common.{ℕ, refl, arith}
use Rattle.wb_model.specs.Tables.{Registry}
use Rattle.wb_model.specs.Legal.{IsSound}
use Rattle.wb_model.specs.Opened.{AreVersions, AreOrdered, AreOpened}
use Rattle.wb_model.specs.Openings.{empty_tables}

pub empty_opened : (at : ℕ) (g : Registry) → IsSound g → AreVersions g.forms → AreOrdered g → AreOpened at (empty_tables g)
empty_opened at g sound versions ordered = record {
  sound = sound;
  versions = versions;
  ordered = ordered;
  numbering = refl;
  drawn = omega arith;
  ascend = tt;
  most = tt;
  begun = tt;
  legal = tt;
  forms = tt;
  receipts = tt;
  marks = λ r. refl;
  sessions = refl;
}
