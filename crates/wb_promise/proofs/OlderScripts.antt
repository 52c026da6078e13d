-- What is promised of a report that was kept before the start: what rows open that differ in it, and the laws of openings.
use Rattle.std.proofs.Common.{◌≡◌, ℕ, ◌≤◌, true, false, List, Option, Some, refl, sym, ap, subst}
use Rattle.std.specs.Prelude.{map, option_map}
use Rattle.wb_base.specs.declared.rows.Row.{Row}
use Rattle.wb_desk.specs.Openings.{IsOpeningOver}
use Rattle.wb_model.specs.declared.wire.ScriptFrame.{ScriptFrame}
use Rattle.wb_model.specs.Absence.{AllDrawAnother, HoldsLive, NoneIsLost, holds, is_purged, replies_purged}
use Rattle.wb_model.specs.OtherOpenings.{OpeningsAlike, IsOpenedWithout, StartTogether, rows_without}
use Rattle.wb_model.specs.Past.{Past, Opening, last}
use Rattle.wb_model.specs.Pasts.{AllOpened, part, standing_hosts}
use Rattle.wb_model.specs.Playing.{ArePlacesOf, written}
use Rattle.wb_model.specs.Readings.{Reading, Reads}
use Rattle.wb_model.specs.Rows.{rows, rows_but}
use Rattle.wb_model.specs.Scripts.{Place, Reply, script_replies, past_after}
use Rattle.wb_model.specs.ScriptsAlike.{AllPlacesAlike, hidden_replies}
use Rattle.wb_model.specs.Tenants.{AllHostsAlike}
use Rattle.wb_desk.specs.Openings.{IsOpenedBy}
use Rattle.wb_promise.specs.Headline.{bytes_of}
use Rattle.wb_promise.specs.OlderReports.{KeepsOlderIdentities, BeginTogether, IsForgottenThere, ForgetsOlderReports}
use Rattle.wb_promise.proofs.AlikeRows.{held_alike, opened_alike}
use Rattle.wb_promise.proofs.Identities.{later_places, same_places}
use Rattle.wb_promise.proofs.JudgedRows.{ok_same}
use Rattle.wb_promise.proofs.RowsWithout.{held_without, opened_without}

-- ---- what rows open

pub alike_openings : (t r : ℕ) (loaded kept : List Row) (setup : List ℕ) (start other : Past AllOpened) (x : IsOpenedBy loaded setup start) (y : IsOpenedBy kept setup other) → rows_but t r loaded ≡ rows_but t r kept → OpeningsAlike t r x.opening y.opening
alike_openings t r loaded kept setup start other x y e =
    opened_alike t r x.lists x.held y.held x.opening y.opening (held_alike t r loaded kept x.held y.held e x.kept y.kept) x.over
    (subst (λ l. IsOpeningOver l y.held y.opening) (ok_same y.lists x.lists _ y.reads x.reads) y.over)

pub opening_without : (t r : ℕ) (loaded kept : List Row) (setup : List ℕ) (start other : Past AllOpened) (x : IsOpenedBy loaded setup start) (y : IsOpenedBy kept setup other) → kept ≡ rows_without t r loaded → r ≤ last (part t start) → IsOpenedWithout t r x.opening y.opening
opening_without t r loaded kept setup start other x y e drawn =
    opened_without t r x.lists x.held y.held x.opening y.opening (held_without t r loaded kept x.held y.held e x.kept y.kept) x.over
    (subst (λ l. IsOpeningOver l y.held y.opening) (ok_same y.lists x.lists _ y.reads x.reads) y.over) (subst (λ s. r ≤ last (part t s)) x.opens drawn)

-- bytes are read in one way
module _ (one_reading : (bytes : List ℕ) (a b : Reading) → Reads bytes a → Reads bytes b → a ≡ b) where
  -- ---- the first half

  module _ (by_openings : (t r : ℕ) (o p : AllOpened) → OpeningsAlike t r o p → AllHostsAlike t r (standing_hosts (Opening o)) (standing_hosts (Opening p)))
      (by_replies : (t r : ℕ) (past other : Past AllOpened) (places others : List Place) → AllHostsAlike t r (standing_hosts past) (standing_hosts other) → AllPlacesAlike t r past places others
      → hidden_replies t r past places (script_replies past places) ≡ hidden_replies t r past places (script_replies other others))
      (by_hosts : (t r : ℕ) (past other : Past AllOpened) (places others : List Place) → AllHostsAlike t r (standing_hosts past) (standing_hosts other) → AllPlacesAlike t r past places others
      → AllHostsAlike t r (standing_hosts (past_after past places)) (standing_hosts (past_after other others)))
      (by_rows : (t r : ℕ) (past other : Past AllOpened) → AllHostsAlike t r (standing_hosts past) (standing_hosts other) → rows_but t r (rows past) ≡ rows_but t r (rows other)) where
    pub keeps_older : (loaded : List Row) (setup : List ℕ) (start : Past AllOpened) (frames : List ScriptFrame) (places : List Place) → IsOpenedBy loaded setup start → ArePlacesOf frames places → KeepsOlderIdentities loaded setup start frames places
    keeps_older loaded setup start frames places x placed t r kept other others theirs e played alike =
        let same : AllPlacesAlike t r start places theirs = later_places one_reading t r start frames others places theirs placed played.placed played.lost alike in
        let y : IsOpenedBy kept setup other = played.opened in
        let hosts : AllHostsAlike t r (standing_hosts start) (standing_hosts other) =
        subst (λ s. AllHostsAlike t r (standing_hosts s) (standing_hosts other)) (sym x.opens)
        (subst (λ s. AllHostsAlike t r (standing_hosts (Opening x.opening)) (standing_hosts s)) (sym y.opens) (by_openings t r x.opening y.opening (alike_openings t r loaded kept setup start other x y e))) in
        record {
          replies = ap (map (λ (z : Option Reply). option_map written z)) (by_replies t r start other places theirs hosts same);
          rows = by_rows t r (past_after start places) (past_after other theirs) (by_hosts t r start other places theirs hosts same);
        }

  -- ---- the second half

  module _ (by_replies : (t r : ℕ) (o p : AllOpened) (places : List Place) → IsOpenedWithout t r o p → StartTogether o p places → AllDrawAnother t r (Opening o) places
      → replies_purged t r (Opening o) places (map Some (script_replies (Opening o) places)) ≡ replies_purged t r (Opening o) places (map Some (script_replies (Opening p) places)))
      (by_hosts : (t r : ℕ) (o p : AllOpened) (places : List Place) → IsOpenedWithout t r o p → StartTogether o p places → AllDrawAnother t r (Opening o) places → is_purged t r (Opening o) places ≡ true
      → standing_hosts (past_after (Opening p) places) ≡ standing_hosts (past_after (Opening o) places))
      (by_tables : (t r : ℕ) (o p : AllOpened) (places : List Place) → IsOpenedWithout t r o p → StartTogether o p places → AllDrawAnother t r (Opening o) places → holds t r (past_after (Opening o) places) ≡ false
      → (standing_hosts (past_after (Opening p) places)).list ≡ (standing_hosts (past_after (Opening o) places)).list)
      (by_purge : (t r : ℕ) (o p : AllOpened) (places : List Place) → IsOpenedWithout t r o p → AllDrawAnother t r (Opening o) places → is_purged t r (Opening o) places ≡ true → holds t r (past_after (Opening o) places) ≡ false)
      (by_life : (t r : ℕ) (past : Past AllOpened) (places : List Place) → HoldsLive t r past → NoneIsLost places → HoldsLive t r (past_after past places))
      (by_rows : (t r : ℕ) (o p : AllOpened) (places : List Place) → IsOpenedWithout t r o p → StartTogether o p places → AllDrawAnother t r (Opening o) places
      → rows (past_after (Opening p) places) ≡ rows_without t r (rows (past_after (Opening o) places))) where
    over_openings : (t r : ℕ) (o p : AllOpened) (places : List Place) → IsOpenedWithout t r o p → StartTogether o p places → AllDrawAnother t r (Opening o) places → IsForgottenThere t r (Opening o) (Opening p) places places
    over_openings t r o p places w together draw = record {
      replies = ap bytes_of (by_replies t r o p places w together draw);
      hosts = by_hosts t r o p places w together draw;
      tables = by_tables t r o p places w together draw;
      purged = by_purge t r o p places w draw;
      gone = by_life t r (Opening o) places;
      rows = by_rows t r o p places w together draw;
    }

    over_pasts : (t r : ℕ) (start other : Past AllOpened) (o p : AllOpened) (places : List Place) → start ≡ Opening o → other ≡ Opening p → IsOpenedWithout t r o p → BeginTogether start other places → AllDrawAnother t r start places → IsForgottenThere t r start other places places
    over_pasts t r start other o p places first second w together draw =
        subst (λ s. IsForgottenThere t r s other places places) (sym first)
        (subst (λ s. IsForgottenThere t r (Opening o) s places places) (sym second)
        (over_openings t r o p places w (subst (λ s. BeginTogether (Opening o) s places) second (subst (λ s. BeginTogether s other places) first together)) (subst (λ s. AllDrawAnother t r s places) first draw)))

    pub forgets_older : (loaded : List Row) (setup : List ℕ) (start : Past AllOpened) (frames : List ScriptFrame) (places : List Place) → IsOpenedBy loaded setup start → ArePlacesOf frames places → ForgetsOlderReports loaded setup start frames places
    forgets_older loaded setup start frames places x placed t r other theirs played drawn together draw =
        let y : IsOpenedBy (rows_without t r loaded) setup other = played.opened in
        subst (IsForgottenThere t r start other places) (same_places one_reading frames frames places theirs placed played.placed played.lost refl)
        (over_pasts t r start other x.opening y.opening places x.opens y.opens (opening_without t r loaded (rows_without t r loaded) setup start other x y refl drawn) together draw)
