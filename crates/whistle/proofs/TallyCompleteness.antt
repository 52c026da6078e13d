-- A tally over rows that are read is written where the sink did not fail, or there was no memory, or the keeper failed in opening.
use Rattle.std.proofs.Common.{◌≡◌, ◌⊎◌, inl, inr, ℕ, List, Ok, Err, refl, arith}
use Rattle.wb_base.specs.declared.rows.Row.{Row}
use Rattle.wb_base.specs.Outside.{Rose}
use Rattle.wb_model.specs.declared.registry.Lists.{Lists}
use Rattle.wb_rows.specs.declared.faults.RowFault.{RowFault}
use Rattle.wb_rows.specs.Held.{Held}
use Rattle.wb_rows.specs.Judged.{judged}
use Rattle.wb_setup.specs.declared.setup.SetupFault.{SetupFault}
use Rattle.wb_setup.specs.Setups.{setup as lists_in}
use Rattle.whistle.specs.declared.sample_setup.TheConstants.{HARBOUR}
use Rattle.wb_cli.specs.declared.status.Status.{Status}
use Rattle.wb_cli.specs.declared.status.Status.TheVariants.{Done, Usage, ReadFault, WriteFault, NoMemory, BadFrame, Setup, OpenFault, KeptRows, TooLong, ListenFault, OutboxRows, NotThere, OutboxFault}
use Rattle.wb_server.specs.Opens.{Refuses}
use Rattle.whistle.specs.Tallies.{StoppedTally, Tallied}
use Rattle.wb_base.specs.Ends.{KeeperEnd, SinkEnd}
use Rattle.wb_cli.specs.Loads.{SinkStood}

setup_stands : (text : List ℕ) (lists : Lists) (fault : SetupFault) → lists_in text ≡ Ok lists → lists_in text ≡ Err fault → ⊥
setup_stands text lists fault reads refused = grind (arith, reads, refused)

rows_stand : (rows loaded : List Row) (h : Held) (fault : RowFault) → rows ≡ loaded → judged rows ≡ Ok h → judged loaded ≡ Err fault → ⊥
rows_stand rows loaded h fault same reads refused = grind (arith, same, reads, refused)

module _ (keeper keeper' : KeeperEnd) (lists : Lists) (reads : lists_in HARBOUR.now ≡ Ok lists) (h : keeper'.honest) (kept : List Row) (holding : keeper.holds kept) (held_rows : Held) (reads_rows : judged kept ≡ Ok held_rows) where
  abbrev Comes : Status → Type 0
  Comes status = (status ≡ Done) ⊎ ((status ≡ NoMemory) ⊎ ((status ≡ OpenFault) × Rose keeper.count keeper'.count))

  not_opened : (status : Status) → Refuses keeper keeper' HARBOUR.now status → Comes status
  not_opened Done refuses = absurd refuses
  not_opened Usage refuses = absurd refuses
  not_opened ReadFault refuses = absurd refuses
  not_opened WriteFault refuses = absurd refuses
  not_opened NoMemory refuses = inr (inl refl)
  not_opened (BadFrame n) refuses = absurd refuses
  not_opened (Setup fault) refuses = absurd (setup_stands HARBOUR.now lists fault reads refuses.1)
  not_opened OpenFault refuses = inr (inr (refl, refuses.0))
  not_opened (KeptRows fault) refuses = let refused = refuses.0 in absurd (rows_stand kept refused.0 held_rows fault (refused.1 h kept holding) reads_rows refused.2)
  not_opened TooLong refuses = absurd refuses
  not_opened ListenFault refuses = absurd refuses
  not_opened (OutboxRows key) refuses = absurd refuses
  not_opened NotThere refuses = absurd refuses
  not_opened OutboxFault refuses = absurd refuses

  stopped : (turns : ℕ) (status : Status) → StoppedTally keeper keeper' turns status → Comes status
  stopped turns status (inl none) = not_opened status none.cause
  stopped turns status (inr some) = inr (inl some.0)

  pub comes : (sink sink' : SinkEnd) (turns : ℕ) (status : Status) → SinkStood sink sink' → Tallied keeper keeper' sink sink' turns status → Comes status
  comes sink sink' turns Done wrote told = inl refl
  comes sink sink' turns WriteFault wrote told = absurd (wrote told.2)
  comes sink sink' turns Usage wrote told = stopped turns Usage told.0
  comes sink sink' turns ReadFault wrote told = stopped turns ReadFault told.0
  comes sink sink' turns NoMemory wrote told = inr (inl refl)
  comes sink sink' turns (BadFrame n) wrote told = stopped turns (BadFrame n) told.0
  comes sink sink' turns (Setup fault) wrote told = stopped turns (Setup fault) told.0
  comes sink sink' turns OpenFault wrote told = stopped turns OpenFault told.0
  comes sink sink' turns (KeptRows fault) wrote told = stopped turns (KeptRows fault) told.0
  comes sink sink' turns TooLong wrote told = stopped turns TooLong told.0
  comes sink sink' turns ListenFault wrote told = stopped turns ListenFault told.0
  comes sink sink' turns (OutboxRows key) wrote told = stopped turns (OutboxRows key) told.0
  comes sink sink' turns NotThere wrote told = stopped turns NotThere told.0
  comes sink sink' turns OutboxFault wrote told = stopped turns OutboxFault told.0
