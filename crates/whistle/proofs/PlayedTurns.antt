-- A generated script, played turn after turn and counted.
use Rattle.std.proofs.Common.{◌≡◌, ◌≢◌, inl, inr, ℕ, ◌+◌, List, [], ◌∷◌, length, map, Ok, refl, sym, ap, ◌∙◌, subst, arith}
use Rattle.std.specs.List.{sum_by}
use Rattle.std.specs.Io.KnownBytes.{Keeps}
use Rattle.std.proofs.lemmas.List.FromFn.{map-range_with_len_more}
use Rattle.std.proofs.lemmas.List.Sums.{sum_by-cons}
use Rattle.wb_base.specs.declared.rows.Row.{Row}
use Rattle.wb_model.specs.declared.wire.ScriptFrame.{ScriptFrame}
use Rattle.wb_model.specs.Counts.{sum_of, counts_of}
use Rattle.wb_model.specs.Past.{Past}
use Rattle.wb_model.specs.Pasts.{AllOpened}
use Rattle.wb_model.specs.Rows.{rows as rows_of_past}
use Rattle.wb_model.specs.Scripts.{Place, Reply, play, script_replies, past_after}
use Rattle.wb_model.specs.Tenants.{Tenancy, Hosts}
use Rattle.std.specs.Ordering.{nat_cmp}
use Rattle.wb_list.specs.Keyed.{IsAscending}
use Rattle.wb_tables.specs.declared.counts.Counts.{Counts as DeskCounts}
use Rattle.wb_tables.specs.Kept.{PlainTenancy as Kept, tenancy_of}
use Rattle.wb_tables.specs.Standing.{Standing, hosts_of, counts_of as desk_counts}
use Rattle.wb_desk.specs.Turns.{StandsFor}
use Rattle.wb_rows.specs.Judged.{judged}
use Rattle.wb_rows.specs.Left.{left}
use Rattle.wb_wire.specs.declared.responses.Response.{Response}
use Rattle.whistle.specs.declared.counting.StatusCount.{StatusCount}
use Rattle.whistle.specs.declared.sample_setup.TheConstants.{HARBOUR}
use Rattle.wb_cli.specs.declared.status.Status.{Status}
use Rattle.wb_cli.specs.declared.status.Status.TheVariants.{Done, Usage, ReadFault, WriteFault, NoMemory, BadFrame, Setup, OpenFault, KeptRows, TooLong, ListenFault, OutboxRows, NotThere, OutboxFault}
use Rattle.whistle.specs.Answered.{IsAnswerTo}
use Rattle.whistle.specs.Counted.{IsCounted}
use Rattle.whistle.specs.Generated.{frame_at, frames_from}
use Rattle.whistle.specs.Played.{HasPlayed}
use Rattle.wb_desk.specs.Openings.{IsOpenedBy}
use Rattle.wb_server.specs.Opens.{Opens, Refuses}
use Rattle.wb_rows.specs.Loaded.{KeepsRows}
use Rattle.whistle.specs.TallyText.{counted, tally_text}
use Rattle.whistle.specs.Tallies.{PlayedTurns, IsTallyOf, StoppedTally, Tallied}
use Rattle.wb_promise.specs.Promises.{AllAsPromised}
use Rattle.whistle.proofs.TurnLemmas.{IsReadBy, more, replies_more, none_played, one_more, stands_more}
use Rattle.whistle.proofs.PlayLemmas.{length_more}
use Rattle.wb_base.specs.Ends.{KeeperEnd, SinkEnd}

-- ---- what a desk counts

module _ (d : Standing) (f : Kept → ℕ) (g : Tenancy → ℕ) (same : (x : Kept) → f x ≡ g (tenancy_of d.sealed x)) where
  sums : (xs : List Kept) → sum_by f xs ≡ sum_of g (map (tenancy_of d.sealed) xs)
  sums [] = refl
  sums (x ∷ xs) = sum_by-cons f x xs ∙ (ap (λ n. n + sum_by f xs) (same x) ∙ ap (λ n. g (tenancy_of d.sealed x) + n) (sums xs))

-- is what its hosts count
pub counts_same : (d : Standing) → counted (desk_counts d) ≡ counts_of (hosts_of d)
counts_same d = λ i. record {
  turns = d.turns;
  live = sums d (λ x. length x.plain.cases) (λ x. length x.tables.plain.cases) (λ x. refl) d.tenants i;
  numbers = sums d (λ x. x.plain.numbering.last) (λ x. x.tables.plain.numbering.last) (λ x. refl) d.tenants i;
  sessions = sums d (λ x. length x.plain.sessions) (λ x. length x.tables.plain.sessions) (λ x. refl) d.tenants i;
}

-- ---- turn after turn

-- what the keeper counted and held before the run
module _ (keeper : KeeperEnd) where
  -- how it stands between two turns
  pub record SoFar (keeper' : KeeperEnd) (hosts : Hosts) (rows : List StatusCount) (turns : ℕ) : Type 0 where
    pub played : PlayedTurns keeper keeper' turns
    pub stands : StandsFor hosts (past_after played.start played.places)
    pub counts : IsCounted (script_replies played.start played.places) rows
    pub many : length (script_replies played.start played.places) ≡ turns

  pub at_start : (loaded : List Row) (setup : List ℕ) (start : Past AllOpened) → setup ≡ HARBOUR.now → AllAsPromised loaded HARBOUR.now start → (keeper' : KeeperEnd) (hosts : Hosts) → Opens keeper keeper' loaded setup start hosts → judged (rows_of_past start) ≡ Ok (left start)
      → SoFar keeper' hosts [] 0
  at_start loaded setup start same promise keeper' hosts opens read = record {
    played = record { loaded = loaded; start = start; opened = subst (λ (text : List ℕ). IsOpenedBy loaded text start) same opens.opened; places = []; played = none_played loaded HARBOUR.now start keeper promise keeper' opens.later opens.kept read };
    stands = opens.stands;
    counts = λ status. refl;
    many = refl;
  }

  -- one more turn
  module _ (keeper' : KeeperEnd) (hosts : Hosts) (rows : List StatusCount) (turns : ℕ) (so_far : SoFar keeper' hosts rows turns) (promise : AllAsPromised so_far.played.loaded HARBOUR.now so_far.played.start)
      (keeper'' : KeeperEnd) (back : keeper''.honest → keeper'.honest) (after : Hosts) (frame : ScriptFrame) (is_frame : frame ≡ frame_at (turns + 1)) (answer : Response) (place : Place)
      (is : IsAnswerTo keeper' keeper'' (past_after so_far.played.start so_far.played.places) frame answer after place) (read : IsReadBy after)
    where
      frames_are : frames_from 1 (turns + 1) ≡ more (frames_from 1 turns) frame
      frames_are = map-range_with_len_more frame_at 1 turns (turns + 1) (omega arith) ∙ ap (λ f. more (frames_from 1 turns) f) (sym is_frame)

      pub played_next : PlayedTurns keeper keeper'' (turns + 1)
      played_next =
          let was = so_far.played in
          record {
            loaded = was.loaded;
            start = was.start;
            opened = was.opened;
            places = more was.places place;
            played = subst (λ frames. HasPlayed keeper keeper'' was.loaded HARBOUR.now was.start frames (more was.places place)) (sym frames_are) (one_more was.loaded HARBOUR.now was.start keeper promise keeper' (frames_from 1 turns) was.places was.played keeper'' back after frame answer place is read);
          }

      pub next : (rows' : List StatusCount) → ((replies : List Reply) (reply : Reply) → IsCounted replies rows → reply.told.status ≡ answer.told.status → IsCounted (more replies reply) rows') → SoFar keeper'' after rows' (turns + 1)
      unfolding played_next
      next rows' counting =
          let was = so_far.played in
          let replies : List Reply = script_replies was.start was.places in
          let reply : Reply = (play (past_after was.start was.places) place).reply in
          record {
            played = played_next;
            stands = stands_more was.start was.places place after is.stands;
            counts = subst (λ rs. IsCounted rs rows') (sym (replies_more was.start was.places place)) (counting replies reply so_far.counts (ap (λ (r : Reply). r.told.status) (sym is.reply)));
            many = omega (arith, so_far.many, ap length (replies_more was.start was.places place), length_more replies reply);
          }

  -- ---- a tally

  -- all turns were played, and the desk counts what its hosts count
  pub told_at_end : (keeper' : KeeperEnd) (desk : Standing) (rows listed : List StatusCount) (counts : DeskCounts) (played turns : ℕ) → played ≡ turns → SoFar keeper' (hosts_of desk) rows played
      → IsAscending nat_cmp (λ (row : StatusCount). row.status) rows → listed ≡ rows → counts ≡ desk_counts desk → (p : PlayedTurns keeper keeper' turns) × IsTallyOf keeper keeper' turns p (tally_text turns listed (counted counts))
  told_at_end keeper' desk rows listed counts played turns all so_far ascending same is =
      subst (λ n. (p : PlayedTurns keeper keeper' n) × IsTallyOf keeper keeper' n p (tally_text n listed (counted counts))) all (
        so_far.played,
        (rows, record { ascending = ascending; counted = so_far.counts }, ap (λ (l : List StatusCount). tally_text played l (counted counts)) same ∙ ap (tally_text played rows) (ap counted is ∙ (counts_same desk ∙ ap counts_of so_far.stands))),
      )

-- ---- no tally

module _ (keeper keeper' : KeeperEnd) where
  -- the generated setup was refused
  pub not_opened : (turns : ℕ) (setup : List ℕ) (status : Status) → setup ≡ HARBOUR.now → Refuses keeper keeper' setup status × KeepsRows keeper keeper' → StoppedTally keeper keeper' turns status
  not_opened turns setup status same both = inl (record { cause = subst (λ (text : List ℕ). Refuses keeper keeper' text status) same both.0; rows_as_they_were = both.1 })

  -- and not since the words are no form
  pub not_usage : (turns : ℕ) (status : Status) → StoppedTally keeper keeper' turns status → status ≢ Usage
  not_usage turns status (inl none) e = subst (λ (s : Status). Refuses keeper keeper' HARBOUR.now s) e none.cause
  not_usage turns status (inr some) e = grind (arith, some.0, e)

  -- nothing is written then
  pub none_told : (turns : ℕ) (status : Status) (sink sink' : SinkEnd) → StoppedTally keeper keeper' turns status → Keeps sink.held sink'.held → Tallied keeper keeper' sink sink' turns status
  none_told turns Done sink sink' (inl none) keeps = absurd none.cause
  none_told turns Done sink sink' (inr some) keeps = grind (arith, some.0)
  none_told turns WriteFault sink sink' (inl none) keeps = absurd none.cause
  none_told turns WriteFault sink sink' (inr some) keeps = grind (arith, some.0)
  none_told turns Usage sink sink' stopped keeps = (stopped, keeps)
  none_told turns ReadFault sink sink' stopped keeps = (stopped, keeps)
  none_told turns NoMemory sink sink' stopped keeps = (stopped, keeps)
  none_told turns (BadFrame n) sink sink' stopped keeps = (stopped, keeps)
  none_told turns (Setup fault) sink sink' stopped keeps = (stopped, keeps)
  none_told turns OpenFault sink sink' stopped keeps = (stopped, keeps)
  none_told turns (KeptRows fault) sink sink' stopped keeps = (stopped, keeps)
  none_told turns TooLong sink sink' stopped keeps = (stopped, keeps)
  none_told turns ListenFault sink sink' stopped keeps = (stopped, keeps)
  none_told turns (OutboxRows key) sink sink' stopped keeps = (stopped, keeps)
  none_told turns NotThere sink sink' stopped keeps = (stopped, keeps)
  none_told turns OutboxFault sink sink' stopped keeps = (stopped, keeps)
