-- The replies to a script that was played keep identities, from the law of scripts.
use Rattle.std.proofs.Common.{zero, suc, ◌≡◌, inl, inr, ℕ, Bool, true, false, List, [], ◌∷◌, Option, refl, sym, ap, ◌∙◌, subst}
use Rattle.std.specs.Prelude.{map, option_map}
use Rattle.wb_base.specs.declared.rows.Row.{Row}
use Rattle.wb_model.specs.declared.command.Asked.{Asked}
use Rattle.wb_model.specs.declared.wire.ScriptFrame.{ScriptFrame}
use Rattle.wb_model.specs.Requests.{Frame}
use Rattle.wb_model.specs.Tenants.{OneLaterAlike, FirstAlike}
use Rattle.wb_model.specs.Past.{Past}
use Rattle.wb_model.specs.Pasts.{AllOpened, standing_hosts}
use Rattle.wb_model.specs.Playing.{IsPlaceOf, ArePlacesOf, written}
use Rattle.wb_model.specs.Readings.{Reading, Asks, Reads}
use Rattle.wb_model.specs.Rows.{rows, rows_but}
use Rattle.wb_model.specs.Scripts.{Place, Reply, Played, frame_of, play, script_replies, past_after}
use Rattle.wb_model.specs.ScriptsAlike.{AskAlike, PlaceAlike, AllPlacesAlike, FollowWhere, PlacesAlike, is_accepted, hidden_replies}
use Rattle.wb_promise.specs.Headline.{FramesAsk, frame_asking, FrameAlike, AllFramesAlike, FramesFollow, ScriptFramesAlike, AreLostAlike, is_accepted_at, AreAnsweredTheSame, HidesSubmission, KeepsIdentities}
use Rattle.wb_promise.proofs.RefusedSubmissions.{played_same}
use Rattle.wb_desk.specs.Openings.{IsOpenedBy}

-- ---- scripts that end the same

-- the replies are the same, and the past at the end
abbrev EndTheSame : Past AllOpened → List Place → Past AllOpened → List Place → Type 0
EndTheSame past ps other qs = (script_replies past ps ≡ script_replies other qs) × (past_after past ps ≡ past_after other qs)

-- so do the same places from one past
same_start : (past other : Past AllOpened) (ps qs : List Place) → past ≡ other → ps ≡ qs → EndTheSame past ps other qs
same_start past other ps qs e same = ((λ i. script_replies (e i) (same i)), (λ i. past_after (e i) (same i)))

-- and places at the first of which the same is played, where the rest do
same_after : (past other : Past AllOpened) (p q : Place) (ps qs : List Place) → play past p ≡ play other q → EndTheSame (play past p).past ps (play other q).past qs → EndTheSame past (p ∷ ps) other (q ∷ qs)
same_after past other p q ps qs e rest = ((λ i. (e i).reply ∷ rest.0 i), rest.1)

answered_the_same : (past : Past AllOpened) (ps qs : List Place) → EndTheSame past ps past qs → AreAnsweredTheSame past past ps qs
answered_the_same past ps qs same = record { replies = ap (map written) same.0; rows = ap rows same.1 }

-- ---- bytes are read in one way
module _ (one_reading : (bytes : List ℕ) (a b : Reading) → Reads bytes a → Reads bytes b → a ≡ b) where
  same_place : (p q : Place) → p.moment ≡ q.moment → p.words ≡ q.words → p.reading ≡ q.reading → p.loss ≡ q.loss → p ≡ q
  same_place p q m w r l = λ i. record { moment = m i; words = w i; reading = r i; loss = l i }

  -- places of one frame
  pub of_one : (f g : ScriptFrame) (p q : Place) → IsPlaceOf f p → IsPlaceOf g q → p.loss ≡ q.loss → f ≡ g → p ≡ q
  of_one f g p q x y a e =
      same_place p q (x.at ∙ (ap (λ (h : ScriptFrame). h.moment) e ∙ sym y.at)) (x.drawn ∙ (ap (λ (h : ScriptFrame). h.words) e ∙ sym y.drawn))
      (one_reading g.bytes p.reading q.reading (subst (λ (h : ScriptFrame). Reads h.bytes p.reading) e x.reads) y.reads) a

  same_frame : (f : ScriptFrame) (p : Place) (a : Asked) → IsPlaceOf f p → frame_asking f a ≡ frame_of p a
  same_frame f p a x = λ i. record { moment = sym x.at i; words = sym x.drawn i; asked = a }

  ask_places : (R : Frame → Frame → Type 0) (f g : ScriptFrame) (p q : Place) → IsPlaceOf f p → IsPlaceOf g q → p.loss ≡ q.loss → FramesAsk R f g → AskAlike R p q
  ask_places R f g p q x y a ask = record {
    left = ask.left;
    right = ask.right;
    reads = one_reading f.bytes p.reading (Asks ask.left) x.reads ask.reads;
    other_reads = one_reading g.bytes q.reading (Asks ask.right) y.reads ask.other_reads;
    related = subst (λ u. R u (frame_of q ask.right)) (same_frame f p ask.left x) (subst (λ u. R (frame_asking f ask.left) u) (same_frame g q ask.right y) ask.related);
    close = ask.close;
    loss = a;
  }

  later_place : (t r : ℕ) (past : Past AllOpened) (f g : ScriptFrame) (p q : Place) → IsPlaceOf f p → IsPlaceOf g q → p.loss ≡ q.loss → FrameAlike t r past f g → PlaceAlike t r past p q
  later_place t r past f g p q x y a (inl e) = inl (of_one f g p q x y a e)
  later_place t r past f g p q x y a (inr ask) = inr (ask_places (OneLaterAlike t r (standing_hosts past)) f g p q x y a ask)

  pub later_places : (t r : ℕ) (past : Past AllOpened) (fs gs : List ScriptFrame) (ps qs : List Place) → ArePlacesOf fs ps → ArePlacesOf gs qs → AreLostAlike ps qs → AllFramesAlike t r past fs ps gs → AllPlacesAlike t r past ps qs
  later_places t r past [] [] [] [] x y a l = tt
  later_places t r past (f ∷ fs) (g ∷ gs) (p ∷ ps) (q ∷ qs) x y a l = (later_place t r past f g p q x.0 y.0 a.0 l.0, later_places t r (play past p).past fs gs ps qs x.1 y.1 a.1 l.1)
  later_places t r past [] (g ∷ gs) ps qs x y a l = absurd l
  later_places t r past (f ∷ fs) [] [] qs x y a l = absurd x
  later_places t r past (f ∷ fs) [] (p ∷ ps) qs x y a l = absurd l
  later_places t r past [] [] (p ∷ ps) qs x y a l = absurd x
  later_places t r past [] [] [] (q ∷ qs) x y a l = absurd y
  later_places t r past (f ∷ fs) (g ∷ gs) [] qs x y a l = absurd x
  later_places t r past (f ∷ fs) (g ∷ gs) (p ∷ ps) [] x y a l = absurd y

  pub same_places : (fs gs : List ScriptFrame) (ps qs : List Place) → ArePlacesOf fs ps → ArePlacesOf gs qs → AreLostAlike ps qs → fs ≡ gs → ps ≡ qs
  same_places fs gs ps qs x y a e = by fs ps qs x (subst (λ hs. ArePlacesOf hs qs) (sym e) y) a
    where
      by : (fs : List ScriptFrame) (ps qs : List Place) → ArePlacesOf fs ps → ArePlacesOf fs qs → AreLostAlike ps qs → ps ≡ qs
      by [] [] [] x y a = refl
      by [] (p ∷ ps) qs x y a = absurd x
      by [] [] (q ∷ qs) x y a = absurd y
      by (f ∷ fs) [] qs x y a = absurd x
      by (f ∷ fs) (p ∷ ps) [] x y a = absurd y
      by (f ∷ fs) (p ∷ ps) (q ∷ qs) x y a = ap (λ z. z ∷ ps) (of_one f f p q x.0 y.0 a.0 refl) ∙ ap (λ zs. q ∷ zs) (by fs ps qs x.1 y.1 a.1)

  follow_places : (accepted : Bool) (t r : ℕ) (past : Past AllOpened) (fs gs : List ScriptFrame) (ps qs : List Place) → ArePlacesOf fs ps → ArePlacesOf gs qs → AreLostAlike ps qs → FramesFollow accepted t r past fs ps gs → FollowWhere accepted t r past ps qs
  follow_places true t r past fs gs ps qs x y a l = later_places t r past fs gs ps qs x y a l
  follow_places false t r past fs gs ps qs x y a e = same_places fs gs ps qs x y a e

  alike_places : (i t r : ℕ) (past : Past AllOpened) (fs gs : List ScriptFrame) (ps qs : List Place) → ArePlacesOf fs ps → ArePlacesOf gs qs → AreLostAlike ps qs → ScriptFramesAlike i t r past fs ps gs → PlacesAlike i t r past ps qs
  alike_places zero t r past (f ∷ fs) (g ∷ gs) (p ∷ ps) (q ∷ qs) x y a l =
      (ask_places (FirstAlike t r (standing_hosts past)) f g p q x.0 y.0 a.0 l.0, follow_places (is_accepted past p p.reading) t r (play past p).past fs gs ps qs x.1 y.1 a.1 l.1)
  alike_places (suc i) t r past (f ∷ fs) (g ∷ gs) (p ∷ ps) (q ∷ qs) x y a l = (of_one f g p q x.0 y.0 a.0 l.0, alike_places i t r (play past p).past fs gs ps qs x.1 y.1 a.1 l.1)
  alike_places zero t r past [] gs ps qs x y a l = absurd l
  alike_places (suc i) t r past [] gs ps qs x y a l = absurd l
  alike_places zero t r past (f ∷ fs) [] [] qs x y a l = absurd x
  alike_places zero t r past (f ∷ fs) [] (p ∷ ps) qs x y a l = absurd l
  alike_places (suc i) t r past (f ∷ fs) [] [] qs x y a l = absurd x
  alike_places (suc i) t r past (f ∷ fs) [] (p ∷ ps) qs x y a l = absurd l
  alike_places zero t r past (f ∷ fs) (g ∷ gs) [] qs x y a l = absurd x
  alike_places (suc i) t r past (f ∷ fs) (g ∷ gs) [] qs x y a l = absurd x
  alike_places zero t r past (f ∷ fs) (g ∷ gs) (p ∷ ps) [] x y a l = absurd y
  alike_places (suc i) t r past (f ∷ fs) (g ∷ gs) (p ∷ ps) [] x y a l = absurd y

  -- where the submission was not accepted, the scripts end the same
  same_ends : (i t r : ℕ) (past : Past AllOpened) (fs gs : List ScriptFrame) (ps qs : List Place) → ArePlacesOf fs ps → ArePlacesOf gs qs → AreLostAlike ps qs → ScriptFramesAlike i t r past fs ps gs → is_accepted_at i past ps ≡ false → EndTheSame past ps past qs
  same_ends zero t r past (f ∷ fs) (g ∷ gs) (p ∷ ps) (q ∷ qs) x y a l off =
      let ask = ask_places (FirstAlike t r (standing_hosts past)) f g p q x.0 y.0 a.0 l.0 in
      let played : play past p ≡ play past q = played_same t r past p q ask (x.0.drawn ∙ (l.0.words ∙ sym y.0.drawn)) off in
      let rest : fs ≡ gs = subst (λ b. FramesFollow b t r (play past p).past fs ps gs) off l.1 in
      same_after past past p q ps qs played (same_start (play past p).past (play past q).past ps qs (ap (λ (z : Played). z.past) played) (same_places fs gs ps qs x.1 y.1 a.1 rest))
  same_ends (suc i) t r past (f ∷ fs) (g ∷ gs) (p ∷ ps) (q ∷ qs) x y a l off =
      by (of_one f g p q x.0 y.0 a.0 l.0) (same_ends i t r (play past p).past fs gs ps qs x.1 y.1 a.1 l.1 off)
    where
      by : p ≡ q → EndTheSame (play past p).past ps (play past p).past qs → EndTheSame past (p ∷ ps) past (q ∷ qs)
      by e rest = subst (λ z. EndTheSame past (p ∷ ps) past (z ∷ qs)) e (same_after past past p p ps qs refl rest)
  same_ends zero t r past [] gs ps qs x y a l off = absurd l
  same_ends (suc i) t r past [] gs ps qs x y a l off = absurd l
  same_ends zero t r past (f ∷ fs) [] [] qs x y a l off = absurd x
  same_ends zero t r past (f ∷ fs) [] (p ∷ ps) qs x y a l off = absurd l
  same_ends (suc i) t r past (f ∷ fs) [] [] qs x y a l off = absurd x
  same_ends (suc i) t r past (f ∷ fs) [] (p ∷ ps) qs x y a l off = absurd l
  same_ends zero t r past (f ∷ fs) (g ∷ gs) [] qs x y a l off = absurd x
  same_ends (suc i) t r past (f ∷ fs) (g ∷ gs) [] qs x y a l off = absurd x
  same_ends zero t r past (f ∷ fs) (g ∷ gs) (p ∷ ps) [] x y a l off = absurd y
  same_ends (suc i) t r past (f ∷ fs) (g ∷ gs) (p ∷ ps) [] x y a l off = absurd y

  -- and alike scripts get the same replies, and leave the same rows, over each past that the rows and the setup open
  module _ (one_start : (loaded : List Row) (setup : List ℕ) (start other : Past AllOpened) → IsOpenedBy loaded setup start → IsOpenedBy loaded setup other → start ≡ other)
      (by_replies : (i t r : ℕ) (past : Past AllOpened) (places others : List Place) → PlacesAlike i t r past places others → hidden_replies t r past places (script_replies past places) ≡ hidden_replies t r past places (script_replies past others))
      (by_rows : (i t r : ℕ) (past : Past AllOpened) (places others : List Place) → PlacesAlike i t r past places others → rows_but t r (rows (past_after past places)) ≡ rows_but t r (rows (past_after past others))) where
    pub keeps : (loaded : List Row) (setup : List ℕ) (start : Past AllOpened) (frames : List ScriptFrame) (places : List Place) → IsOpenedBy loaded setup start → ArePlacesOf frames places → KeepsIdentities loaded setup start frames places
    keeps loaded setup start frames places opened placed i t r other others theirs played alike =
        let same = alike_places i t r start frames others places theirs placed played.placed played.lost alike in
        subst (λ past. HidesSubmission i t r start past places theirs) (one_start loaded setup start other opened played.opened) (record {
          alike = record {
            replies = ap (map (λ (x : Option Reply). option_map written x)) (by_replies i t r start places theirs same);
            rows = by_rows i t r start places theirs same;
          };
          refused = λ off. answered_the_same start places theirs (same_ends i t r start frames others places theirs placed played.placed played.lost alike off);
        })
