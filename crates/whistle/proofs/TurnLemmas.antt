-- What a host played, turn after turn.
use Rattle.std.proofs.Common.{◌≡◌, ◌≤◌, ◌+◌, ℕ, List, [], ◌∷◌, ◌++◌, refl, sym, ap, ◌∙◌, append_assoc, append-nil, subst, arith}
use Rattle.wb_base.specs.declared.rows.Row.{Row}
use Rattle.wb_model.specs.declared.wire.ScriptFrame.{ScriptFrame}
use Rattle.wb_model.specs.Past.{Past}
use Rattle.wb_model.specs.Pasts.{AllOpened, standing_hosts}
use Rattle.wb_model.specs.Playing.{IsPlaceOf, ArePlacesOf, written, output, one_by_keeper, keeper_losses}
use Rattle.wb_model.specs.Scripts.{Place, IsPossible, ArePossible, play, script_replies, past_after}
use Rattle.wb_model.specs.Rows.{rows}
use Rattle.wb_model.specs.Tenants.{Hosts}
use Rattle.wb_desk.specs.Turns.{StandsFor}
use Rattle.wb_wire.specs.declared.responses.Response.{Response}
use Rattle.whistle.specs.Answered.{IsAnswerTo}
use Rattle.whistle.specs.Played.{HasPlayed}
use Rattle.wb_promise.specs.Promises.{AllAsPromised}
use Rattle.wb_rows.specs.Judged.{judged}
use Rattle.wb_rows.specs.Left.{left}
use Rattle.std.specs.Prelude.{Ok}
use Rattle.wb_base.specs.Ends.{KeeperEnd}

-- one more at the end
abbrev pub more : {X : Type 0} → List X → X → List X
more xs x = xs ++ x ∷ []

pub past_more : (past : Past AllOpened) (ps : List Place) (p : Place) → past_after past (more ps p) ≡ (play (past_after past ps) p).past
past_more past [] p = refl
past_more past (q ∷ ps) p = past_more (play past q).past ps p

pub output_more : (past : Past AllOpened) (ps : List Place) (p : Place) → output (script_replies past (more ps p)) ≡ output (script_replies past ps) ++ written (play (past_after past ps) p).reply
output_more past [] p = append-nil (written (play past p).reply)
output_more past (q ∷ ps) p =
    ap (λ l. written (play past q).reply ++ l) (output_more (play past q).past ps p) ∙ sym (append_assoc (written (play past q).reply) (output (script_replies (play past q).past ps)) (written (play (past_after (play past q).past ps) p).reply))

pub replies_more : (past : Past AllOpened) (ps : List Place) (p : Place) → script_replies past (more ps p) ≡ more (script_replies past ps) (play (past_after past ps) p).reply
replies_more past [] p = refl
replies_more past (q ∷ ps) p = ap (λ rs. (play past q).reply ∷ rs) (replies_more (play past q).past ps p)

placed_more : (fs : List ScriptFrame) (ps : List Place) (f : ScriptFrame) (p : Place) → ArePlacesOf fs ps → IsPlaceOf f p → ArePlacesOf (more fs f) (more ps p)
placed_more [] [] f p all one = (one, tt)
placed_more (g ∷ fs) [] f p all one = absurd all
placed_more [] (q ∷ ps) f p all one = absurd all
placed_more (g ∷ fs) (q ∷ ps) f p all one = (all.0, placed_more fs ps f p all.1 one)

possible_more : (past : Past AllOpened) (ps : List Place) (p : Place) → ArePossible past ps → IsPossible (past_after past ps) p p.reading p.loss → ArePossible past (more ps p)
possible_more past [] p all one = (one, tt)
possible_more past (q ∷ ps) p all one = (all.0, possible_more (play past q).past ps p all.1 one)

losses_more : (ps : List Place) (p : Place) → keeper_losses (more ps p) ≡ keeper_losses ps + one_by_keeper p.loss
losses_more [] p = omega arith
losses_more (q ∷ ps) p = omega (arith, losses_more ps p)

-- the rows of the pasts that these hosts stand for are read as what they hold
abbrev pub IsReadBy : Hosts → Type 0
IsReadBy after = (past : Past AllOpened) → StandsFor after past → judged (rows past) ≡ Ok (left past)

-- the hosts after one more
pub stands_more : (start : Past AllOpened) (places : List Place) (place : Place) (after : Hosts) → StandsFor after (play (past_after start places) place).past → StandsFor after (past_after start (more places place))
stands_more start places place after stands = stands ∙ ap standing_hosts (sym (past_more start places place))

-- of loaded rows, a setup and the past that they open, and what the keeper counted and held before
module _ (loaded : List Row) (setup : List ℕ) (start : Past AllOpened) (keeper : KeeperEnd) where
  -- before the first turn
  pub none_played : AllAsPromised loaded setup start → (keeper' : KeeperEnd) → keeper.count ≤ keeper'.count → (keeper'.honest → (before : List Row) → keeper.holds before → (before ≡ loaded) × keeper'.holds (rows start)) → judged (rows start) ≡ Ok (left start)
      → HasPlayed keeper keeper' loaded setup start [] []
  none_played promise keeper' later kept read = record {
    placed = tt;
    possible = tt;
    counted = omega (arith, later);
    kept = kept;
    read_back = read;
    promised = promise [] [] tt tt;
  }

  -- one more frame
  pub one_more : AllAsPromised loaded setup start → (keeper' : KeeperEnd) (frames : List ScriptFrame) (places : List Place) → HasPlayed keeper keeper' loaded setup start frames places
      → (keeper'' : KeeperEnd) → (keeper''.honest → keeper'.honest) → (after : Hosts) (frame : ScriptFrame) (answer : Response) (place : Place) → IsAnswerTo keeper' keeper'' (past_after start places) frame answer after place → IsReadBy after
      → HasPlayed keeper keeper'' loaded setup start (more frames frame) (more places place)
  one_more promise keeper' frames places so_far keeper'' back after frame answer place is read =
      let placed : ArePlacesOf (more frames frame) (more places place) = placed_more frames places frame place so_far.placed is.of_frame in
      let possible : ArePossible start (more places place) = possible_more start places place so_far.possible is.possible in
      record {
        placed = placed;
        possible = possible;
        counted = omega (arith, so_far.counted, losses_more places place, is.counted);
        kept = λ h before held. let was = so_far.kept (back h) before held in (was.0, subst (λ past. keeper''.holds (rows past)) (sym (past_more start places place)) (is.kept h was.1));
        read_back = read (past_after start (more places place)) (stands_more start places place after is.stands);
        promised = promise (more frames frame) (more places place) placed possible;
      }
