-- What a seat has after one entry.
use Rattle.std.proofs.Common.{◌≡◌, ℕ, ◌<◌, List, [], ◌∷◌, ◌++◌, true, false, ap, ◌∙◌, subst}
use Rattle.std.specs.Prelude.{Option, Some, None}
use Rattle.atomic_table.specs.Table.{Me}
use Rattle.wb_ticket_lock.specs.declared.entry.Entry.{Entry}
use Rattle.wb_ticket_lock.specs.declared.entry.View.{View}
use Rattle.wb_ticket_lock.specs.Contents.{Content}
use Rattle.wb_ticket_lock.specs.Histories.{entered, entry_of, is_rising, places, times, with_turn}
use Rattle.wb_ticket_lock.proofs.Counts.{rising-more}

abbrev pub Mine : Type 0 → Type 0 → Type 0
Mine X D = Me (Option (Content X D)) (View X D)

-- a seat that knew v drew ticket k, took x and brought y back
module _ {X D : Type 0} (v : View X D) (k : ℕ) (x y : X) (d : D) (during after : Mine X D) (came : during ≡ (with_turn v k x, (0, None) ∷ []))
    (left : (z : X) → during.0.took ≡ Some z → after ≡ (entered during.0 k z d y, [])) where
  pub took : during.0.took ≡ Some x
  took = ap (λ (m : Mine X D). m.0.took) came

  pub whole : after ≡ (entered v k x d y, [])
  whole = left x took ∙ ap (λ (m : Mine X D). (entered m.0 k x d y, [])) came

  pub rests : (v.parts ≡ 1) → ((i : ℕ) → 0 < times i (places during.0.mine) → i < k) → is_rising (places v.mine) ≡ true
      → (after.0.parts ≡ 1) × (after.0.tickets ≡ []) × (after.0.turn ≡ false) × (after.1 ≡ []) × (is_rising (places after.0.mine) ≡ true)
  rests one above was =
      let P : List (Entry X D) → Type 0 = λ es. (i : ℕ) → 0 < times i (places es) → i < k in
      let low = subst P (ap (λ (m : Mine X D). m.0.mine) came) above in (
        ap (λ (m : Mine X D). m.0.parts) whole ∙ one,
        ap (λ (m : Mine X D). m.0.tickets) whole,
        ap (λ (m : Mine X D). m.0.turn) whole,
        ap (λ (m : Mine X D). m.1) whole,
        ap (λ (m : Mine X D). is_rising (places m.0.mine)) whole ∙ rising-more v.mine (entry_of k x d y) was low,
      )

  pub grown : (mine : List (Entry X D)) (d' : D) → v.mine ≡ mine → d ≡ d' → after.0.mine ≡ mine ++ entry_of k x d' y ∷ []
  grown mine d' same deed = ap (λ (m : Mine X D). m.0.mine) whole ∙ (λ i. same i ++ entry_of k x (deed i) y ∷ [])
