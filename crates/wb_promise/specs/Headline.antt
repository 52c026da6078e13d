-- The two halves of what a host promises, of a report that is submitted in the frames that it played: scripts whose bytes differ in its
-- valid identity answers alone, and the script in which its submission only drew a number.
use Rattle.std.specs.Prelude.{◌≡◌, ◌⊎◌, ℕ, zero, suc, Bool, true, false, List, [], ◌∷◌, map, Option, Some, option_map}
use Rattle.wb_base.specs.declared.rows.Row.{Row}
use Rattle.wb_base.specs.declared.words.Words.{Words}
use Rattle.wb_model.specs.declared.command.Asked.{Asked}
use Rattle.wb_model.specs.declared.wire.ScriptFrame.{ScriptFrame}
use Rattle.wb_model.specs.Requests.{Frame}
use Rattle.wb_model.specs.Tenants.{OneLaterAlike, FirstAlike}
use Rattle.wb_model.specs.Past.{Past, live}
use Rattle.wb_model.specs.Pasts.{AllOpened, standing_hosts, part, time}
use Rattle.wb_model.specs.Playing.{IsPlaceOf, ArePlacesOf, written}
use Rattle.wb_model.specs.Readings.{Asks, Reads}
use Rattle.wb_model.specs.OtherOpenings.{rows_without}
use Rattle.wb_model.specs.Rows.{rows, rows_but}
use Rattle.wb_model.specs.Absence.{Item, Stands, Skips, BeginsAt, DrawOthersAfter, replies, past_with, replies_after, is_purged_after, holds, NoneIsLost}
use Rattle.wb_model.specs.Scripts.{Place, Reply, play, script_replies, past_after}
use Rattle.wb_model.specs.ScriptsAlike.{is_accepted, hidden_replies}
use Rattle.wb_desk.specs.Openings.{IsOpenedBy}

-- ---- scripts

-- the request of a frame whose bytes ask this
abbrev pub frame_asking : ScriptFrame → Asked → Frame
frame_asking f asked = record { moment = f.moment; words = f.words; asked = asked }

-- the frames ask two things that are so related, and are the same otherwise
pub record FramesAsk (R : Frame → Frame → Type 0) (f g : ScriptFrame) : Type 0 where
  pub moment : f.moment ≡ g.moment
  pub words : f.words ≡ g.words
  pub left : Asked
  pub right : Asked
  pub reads : Reads f.bytes (Asks left)
  pub other_reads : Reads g.bytes (Asks right)
  pub related : R (frame_asking f left) (frame_asking g right)
  pub close : left.close ≡ right.close

-- a later frame: the same bytes, or two identities that the reporter of report r of tenant t gives
abbrev pub FrameAlike : ℕ → ℕ → Past AllOpened → ScriptFrame → ScriptFrame → Type 0
FrameAlike t r past f g = (f ≡ g) ⊎ FramesAsk (OneLaterAlike t r (standing_hosts past)) f g

-- frames that were played as these places, and others
abbrev pub AllFramesAlike : ℕ → ℕ → Past AllOpened → List ScriptFrame → List Place → List ScriptFrame → Type 0
AllFramesAlike t r past (f ∷ fs) (p ∷ ps) (g ∷ gs) = FrameAlike t r past f g × AllFramesAlike t r (play past p).past fs ps gs
AllFramesAlike t r past [] ps [] = Unit {0}
AllFramesAlike t r past _ ps _ = ⊥

-- what may follow the submission: where it was not accepted, the same
abbrev pub FramesFollow : Bool → ℕ → ℕ → Past AllOpened → List ScriptFrame → List Place → List ScriptFrame → Type 0
FramesFollow true t r past fs ps gs = AllFramesAlike t r past fs ps gs
FramesFollow false t r past fs ps gs = fs ≡ gs

-- the scripts differ in the submission at place i, to tenant t, which draws the number r, and in the identities that r's reporter gives later
abbrev pub ScriptFramesAlike : ℕ → ℕ → ℕ → Past AllOpened → List ScriptFrame → List Place → List ScriptFrame → Type 0
ScriptFramesAlike zero t r past (f ∷ fs) (p ∷ ps) (g ∷ gs) = FramesAsk (FirstAlike t r (standing_hosts past)) f g × FramesFollow (is_accepted past p p.reading) t r (play past p).past fs ps gs
ScriptFramesAlike (suc i) t r past (f ∷ fs) (p ∷ ps) (g ∷ gs) = (f ≡ g) × ScriptFramesAlike i t r (play past p).past fs ps gs
ScriptFramesAlike i t r past _ ps _ = ⊥

-- ---- replies

-- the same was lost at each place
abbrev pub AreLostAlike : List Place → List Place → Type 0
AreLostAlike [] [] = Unit {0}
AreLostAlike (p ∷ ps) [] = ⊥
AreLostAlike [] (q ∷ qs) = ⊥
AreLostAlike (p ∷ ps) (q ∷ qs) = (p.loss ≡ q.loss) × AreLostAlike ps qs

-- the bytes of each reply, but at the places where one of the readers of report r of tenant t asks
abbrev pub hidden_output : ℕ → ℕ → Past AllOpened → List Place → List Reply → List (Option (List ℕ))
hidden_output t r past places replies = map (λ (x : Option Reply). option_map written x) (hidden_replies t r past places replies)

-- two scripts that were played from these pasts: each reply is byte for byte the same, but where one of that report's readers asks; and so
-- are the rows at the end, but for the one that has that report's identity answers
pub record AreAnsweredAlike (t r : ℕ) (start other : Past AllOpened) (places theirs : List Place) : Type 0 where
  pub replies : hidden_output t r start places (script_replies start places) ≡ hidden_output t r start places (script_replies other theirs)
  pub rows : rows_but t r (rows (past_after start places)) ≡ rows_but t r (rows (past_after other theirs))

-- another script, that was played from the past which these rows and the setup open, and lost at each place what is lost at these
pub record ArePlayed (loaded : List Row) (setup : List ℕ) (places : List Place) (other : Past AllOpened) (others : List ScriptFrame) (theirs : List Place) : Type 0 where
  pub opened : IsOpenedBy loaded setup other
  pub placed : ArePlacesOf others theirs
  pub lost : AreLostAlike places theirs

-- whether the submission at place i was accepted
abbrev pub is_accepted_at : ℕ → Past AllOpened → List Place → Bool
is_accepted_at i past [] = false
is_accepted_at zero past (p ∷ ps) = is_accepted past p p.reading
is_accepted_at (suc i) past (p ∷ ps) = is_accepted_at i (play past p).past ps

-- each reply is byte for byte the same, to whoever asks, and so are all rows at the end
pub record AreAnsweredTheSame (start other : Past AllOpened) (places theirs : List Place) : Type 0 where
  pub replies : map written (script_replies start places) ≡ map written (script_replies other theirs)
  pub rows : rows (past_after start places) ≡ rows (past_after other theirs)

-- the scripts are answered alike; and the same where the submission at place i was refused or lost, so that there is no report r of it
pub record HidesSubmission (i t r : ℕ) (start other : Past AllOpened) (places theirs : List Place) : Type 0 where
  pub alike : AreAnsweredAlike t r start other places theirs
  pub refused : is_accepted_at i start places ≡ false → AreAnsweredTheSame start other places theirs

-- over the same kept rows and setup: each script that differs in the valid identity answers of one report alone, which is submitted in it, is
-- answered alike, and the same where that submission was not accepted
abbrev pub KeepsIdentities : List Row → List ℕ → Past AllOpened → List ScriptFrame → List Place → Type 0
KeepsIdentities loaded setup start frames places = (i t r : ℕ) (other : Past AllOpened) (others : List ScriptFrame) (theirs : List Place) →
    ArePlayed loaded setup places other others theirs → ScriptFramesAlike i t r start frames places others → HidesSubmission i t r start other places theirs

-- ---- the script in which a submission only drew a number

-- a frame of a script, or a draw of a number: its moment, its random words and its tenant
pub data ScriptItem : Type 0 where
  Framed : ScriptFrame → ScriptItem
  Skipped : ℕ → Words → ℕ → ScriptItem

-- the script with a draw of tenant t in the place of frame i
abbrev pub without_frame : ℕ → ℕ → List ScriptFrame → List ScriptItem
without_frame i t [] = []
without_frame zero t (f ∷ fs) = Skipped f.moment f.words t ∷ map Framed fs
without_frame (suc i) t (f ∷ fs) = Framed f ∷ without_frame i t fs

-- what a frame is read as, or the draw
abbrev pub IsItemOf : ScriptItem → Item → Type 0
IsItemOf (Framed f) (Stands p) = IsPlaceOf f p
IsItemOf (Framed f) (Skips m w t) = ⊥
IsItemOf (Skipped n v u) (Stands p) = ⊥
IsItemOf (Skipped n v u) (Skips m w t) = (m ≡ n) × ((w ≡ v) × (t ≡ u))

abbrev pub AreItemsOf : List ScriptItem → List Item → Type 0
AreItemsOf [] [] = Unit {0}
AreItemsOf (x ∷ xs) [] = ⊥
AreItemsOf [] (y ∷ ys) = ⊥
AreItemsOf (x ∷ xs) (y ∷ ys) = IsItemOf x y × AreItemsOf xs ys

-- a draw is not lost
abbrev pub LosesAlike : Place → Item → Type 0
LosesAlike p (Stands q) = q.loss ≡ p.loss
LosesAlike p (Skips m w t) = Unit {0}

-- the same was lost at each place that is left
abbrev pub LoseAlike : List Place → List Item → Type 0
LoseAlike [] [] = Unit {0}
LoseAlike (p ∷ ps) [] = ⊥
LoseAlike [] (y ∷ ys) = ⊥
LoseAlike (p ∷ ps) (y ∷ ys) = LosesAlike p y × LoseAlike ps ys

-- the bytes of each reply
abbrev pub bytes_of : List (Option Reply) → List (Option (List ℕ))
bytes_of xs = map (λ (x : Option Reply). option_map written x) xs

-- the script in which a submission only drew a number has these replies from the place on at which its report is purged; and the same
-- hosts at the end, where those that were left do not hold the report. They do not once it is purged, nor where nothing is lost and the
-- report, expired or deleted, is not live at the end. Its rows at the end are, at any time, those without the report's
pub record IsForgotten (past : Past AllOpened) (places : List Place) (i t r : ℕ) (items : List Item) : Type 0 where
  pub replies : bytes_of (replies_after i t r past places (map Some (script_replies past places))) ≡ bytes_of (replies_after i t r past places (replies past items))
  pub hosts : holds t r (past_after past places) ≡ false → standing_hosts (past_with past items) ≡ standing_hosts (past_after past places)
  pub purged : is_purged_after i t r past places ≡ true → holds t r (past_after past places) ≡ false
  pub gone : NoneIsLost places → live (part t (past_after past places)) r (time (past_after past places)) ≡ false → holds t r (past_after past places) ≡ false
  pub rows : rows (past_with past items) ≡ rows_without t r (rows (past_after past places))

-- where a submission among the frames that were played as these places drew the number r of tenant t, and no later submission to t draws
-- its receipt while the report is live, the report is forgotten: byte for byte, by the script in which it only drew the number and the
-- same is lost at each place
abbrev pub ForgetsReports : Past AllOpened → List ScriptFrame → List Place → Type 0
ForgetsReports past frames places = (i t r : ℕ) (items : List Item) → AreItemsOf (without_frame i t frames) items → LoseAlike places items → BeginsAt i t r past places → DrawOthersAfter i t r past places → IsForgotten past places i t r items
