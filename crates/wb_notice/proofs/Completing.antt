-- Where nothing failed, notices over rows that are read and an outbox of notices are delivered, or there was no memory.
use Rattle.std.proofs.Common.{◌≡◌, inl, inr, ℕ, List, [], ◌∷◌, ◌++◌, Ok, refl, ◌∙◌, subst}
use Rattle.std.proofs.lemmas.List.Elements.{recursion_from_All}
use Rattle.std.specs.List.{AllByRecursion}
use Rattle.std.specs.Prelude.{All, ℕ}
use Rattle.wb_rows.specs.Held.{Held}
use Rattle.wb_rows.specs.Judged.{judged}
use Rattle.wb_cli.specs.declared.status.Status.{Status}
use Rattle.wb_cli.specs.declared.status.Status.TheVariants.{Done, Usage, ReadFault, WriteFault, NoMemory, BadFrame, Setup, OpenFault, KeptRows, TooLong, ListenFault, OutboxRows, NotThere, OutboxFault}
use Rattle.wb_notice.specs.Notices.{IsNotice}
use Rattle.wb_notice.specs.Notifies.{NotifiedAt, NothingHinders}
use Rattle.wb_base.specs.Ends.{KeeperEnd, SinkEnd}
use Rattle.wb_cli.specs.Statuses.{IsDoneOrNoMemory}

there : {X : Type 0} (P : X → Type 0) (before : List X) (x : X) (after : List X) → AllByRecursion P (before ++ x ∷ after) → P x
there P [] x after all = all.0
there P (y ∷ ys) x after all = there P ys x after all.1

pub completed : (keeper keeper' outbox outbox' : KeeperEnd) (sink sink' : SinkEnd) (moment : ℕ) (h : Held)
    → NothingHinders keeper keeper' outbox outbox' sink sink' h
    → (status : Status) → NotifiedAt keeper keeper' outbox outbox' sink sink' moment status → IsDoneOrNoMemory status
completed keeper keeper' outbox outbox' sink sink' moment h free = by
  where
    by : (status : Status) → NotifiedAt keeper keeper' outbox outbox' sink sink' moment status → IsDoneOrNoMemory status
    by Done did = inl refl
    by NoMemory did = inr refl
    by WriteFault did = absurd (free.wrote did.2)
    by OpenFault did = absurd (free.kept did.0)
    by (KeptRows fault) did =
        let same : free.rows ≡ did.0.0 = did.0.1 free.honest free.rows free.holds in
        let refused = did.0.2 in
        let accepted = subst (λ rows. judged rows ≡ Ok h) same free.read in
        absurd (cc (refused, accepted))
    by OutboxFault did = absurd (free.put did.0.0)
    by (OutboxRows key) did =
        let first = did.0.0.2 in
        let same : free.notices.1.0 ≡ did.0.0.0 = did.0.0.1.held free.notices.0 free.notices.1.0 free.notices.1.1 in
        let all = recursion_from_All IsNotice (first.before ++ first.row ∷ first.after) (subst (All IsNotice) (same ∙ first.parts) free.notices.1.2) in
        absurd (first.other (there IsNotice first.before first.row first.after all))
    by Usage did = absurd did.0
    by ReadFault did = absurd did.0
    by (BadFrame n) did = absurd did.0
    by (Setup fault) did = absurd did.0
    by TooLong did = absurd did.0
    by ListenFault did = absurd did.0
    by NotThere did = absurd did.0
