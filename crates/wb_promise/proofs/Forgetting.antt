-- From the purge of a report on, replies and hosts are those of the script in which its submission only drew a number, from the law of scripts.
use Rattle.std.proofs.Common.{zero, suc, ◌≡◌, ℕ, true, false, List, [], ◌∷◌, Some, refl, sym, ap, ◌∙◌}
use Rattle.std.specs.Prelude.{map}
use Rattle.wb_base.specs.declared.words.Words.{Words}
use Rattle.wb_model.specs.declared.wire.ScriptFrame.{ScriptFrame}
use Rattle.wb_model.specs.Past.{Past, live}
use Rattle.wb_model.specs.Pasts.{AllOpened, standing_hosts, part, time}
use Rattle.wb_model.specs.Playing.{IsPlaceOf, ArePlacesOf}
use Rattle.wb_model.specs.OtherOpenings.{rows_without}
use Rattle.wb_model.specs.Readings.{Reading, Reads}
use Rattle.wb_model.specs.Rows.{rows}
use Rattle.wb_model.specs.Scripts.{Place, script_replies, past_after}
use Rattle.wb_model.specs.Absence.{Item, Stands, Skips, replies, past_with, without_place, AreApart, BeginsAt, DrawOthersAfter, is_purged_after, replies_after, holds, NoneIsLost}
use Rattle.wb_promise.specs.Headline.{Framed, Skipped, without_frame, IsItemOf, AreItemsOf, LosesAlike, LoseAlike, bytes_of, ForgetsReports}
use Rattle.wb_promise.proofs.Identities.{of_one}

same_skip : (m n : ℕ) (w v : Words) (t u : ℕ) → m ≡ n → w ≡ v → t ≡ u → Skips m w t ≡ Skips n v u
same_skip m n w v t u a b c = λ i. Skips (a i) (b i) (c i)

module _ (one_reading : (bytes : List ℕ) (a b : Reading) → Reads bytes a → Reads bytes b → a ≡ b) where
  framed : (f : ScriptFrame) (p : Place) (x : Item) → IsPlaceOf f p → LosesAlike p x → IsItemOf (Framed f) x → x ≡ Stands p
  framed f p (Stands q) h lost k = ap Stands (of_one one_reading f f q p k h lost refl)
  framed f p (Skips m w t) h lost k = absurd k

  all_framed : (fs : List ScriptFrame) (ps : List Place) (xs : List Item) → ArePlacesOf fs ps → LoseAlike ps xs → AreItemsOf (map Framed fs) xs → xs ≡ map Stands ps
  all_framed [] [] [] h lost k = refl
  all_framed [] [] (x ∷ xs) h lost k = absurd k
  all_framed [] (p ∷ ps) xs h lost k = absurd h
  all_framed (f ∷ fs) [] xs h lost k = absurd h
  all_framed (f ∷ fs) (p ∷ ps) [] h lost k = absurd k
  all_framed (f ∷ fs) (p ∷ ps) (x ∷ xs) h lost k = ap (λ y. y ∷ xs) (framed f p x h.0 lost.0 k.0) ∙ ap (λ ys. Stands p ∷ ys) (all_framed fs ps xs h.1 lost.1 k.1)

  skipped : (f : ScriptFrame) (p : Place) (t : ℕ) (x : Item) → IsPlaceOf f p → IsItemOf (Skipped f.moment f.words t) x → x ≡ Skips p.moment p.words t
  skipped f p t (Stands q) h k = absurd k
  skipped f p t (Skips m w u) h k = same_skip m p.moment w p.words u t (k.0 ∙ sym h.at) (k.1.0 ∙ sym h.drawn) k.1.1

  -- the items of the script are its places, and the draw
  items_are : (i t : ℕ) (fs : List ScriptFrame) (ps : List Place) (xs : List Item) → ArePlacesOf fs ps → LoseAlike ps xs → AreItemsOf (without_frame i t fs) xs → xs ≡ without_place i t ps
  items_are i t [] [] [] h lost k = refl
  items_are i t [] [] (x ∷ xs) h lost k = absurd k
  items_are i t [] (p ∷ ps) xs h lost k = absurd h
  items_are i t (f ∷ fs) [] xs h lost k = absurd h
  items_are zero t (f ∷ fs) (p ∷ ps) [] h lost k = absurd k
  items_are (suc i) t (f ∷ fs) (p ∷ ps) [] h lost k = absurd k
  items_are zero t (f ∷ fs) (p ∷ ps) (x ∷ xs) h lost k = ap (λ y. y ∷ xs) (skipped f p t x h.0 k.0) ∙ ap (λ ys. Skips p.moment p.words t ∷ ys) (all_framed fs ps xs h.1 lost.1 k.1)
  items_are (suc i) t (f ∷ fs) (p ∷ ps) (x ∷ xs) h lost k = ap (λ y. y ∷ xs) (framed f p x h.0 lost.0 k.0) ∙ ap (λ ys. Stands p ∷ ys) (items_are i t fs ps xs h.1 lost.1 k.1)

  module _ (by_replies : (i t r : ℕ) (past : Past AllOpened) (places : List Place) → AreApart t past → BeginsAt i t r past places → DrawOthersAfter i t r past places
      → replies_after i t r past places (map Some (script_replies past places)) ≡ replies_after i t r past places (replies past (without_place i t places)))
      (by_hosts : (i t r : ℕ) (past : Past AllOpened) (places : List Place) → AreApart t past → BeginsAt i t r past places → DrawOthersAfter i t r past places → holds t r (past_after past places) ≡ false
      → standing_hosts (past_with past (without_place i t places)) ≡ standing_hosts (past_after past places))
      (by_purge : (i t r : ℕ) (past : Past AllOpened) (places : List Place) → AreApart t past → BeginsAt i t r past places → DrawOthersAfter i t r past places → is_purged_after i t r past places ≡ true
      → holds t r (past_after past places) ≡ false)
      (by_life : (i t r : ℕ) (past : Past AllOpened) (places : List Place) → BeginsAt i t r past places → NoneIsLost places → live (part t (past_after past places)) r (time (past_after past places)) ≡ false
      → holds t r (past_after past places) ≡ false)
      (by_rows : (i t r : ℕ) (past : Past AllOpened) (places : List Place) → AreApart t past → BeginsAt i t r past places → DrawOthersAfter i t r past places
      → rows (past_with past (without_place i t places)) ≡ rows_without t r (rows (past_after past places))) where
    pub forgets : (past : Past AllOpened) → ((t : ℕ) → AreApart t past) → (frames : List ScriptFrame) (places : List Place) → ArePlacesOf frames places → ForgetsReports past frames places
    forgets past apart frames places placed i t r items are lost begins others =
        let same : items ≡ without_place i t places = items_are i t frames places items placed lost are in record {
          replies = ap bytes_of (by_replies i t r past places (apart t) begins others) ∙ ap (λ xs. bytes_of (replies_after i t r past places (replies past xs))) (sym same);
          hosts = λ gone. ap (λ xs. standing_hosts (past_with past xs)) same ∙ by_hosts i t r past places (apart t) begins others gone;
          purged = by_purge i t r past places (apart t) begins others;
          gone = by_life i t r past places begins;
          rows = ap (λ xs. rows (past_with past xs)) same ∙ by_rows i t r past places (apart t) begins others;
        }
