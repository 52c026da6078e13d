-- The writes of a generated script, one after another.
use Rattle.std.proofs.Common.{◌≡◌, ◌<◌, ◌≤◌, ℕ, suc, ◌+◌, ◌-◌, List, [], ◌∷◌, ◌++◌, Option, length, sym, ap, subst, ◌∙◌, append_assoc, append-nil, arith}
use Rattle.std.specs.Io.KnownBytes.{Appends}
use Rattle.std.proofs.KnownBytes.{Appends-trans}
use Rattle.wb_base.specs.Outside.{AppendsFront}
use Rattle.wb_model.specs.FrameTexts.{frame_text, texts}
use Rattle.wb_wire.specs.SetupText.{setup_line, setup_text}
use Rattle.whistle.specs.declared.sample_setup.TheConstants.{HARBOUR}
use Rattle.whistle.specs.Generated.{frame_at, frames_from, generated}
use Rattle.wb_cli.proofs.SinkLemmas.{front_more, front_after}

-- eight parts, put one after another
pub eight : (a b c d e f g h : List ℕ) → (((((((a ++ b) ++ c) ++ d) ++ e) ++ f) ++ g) ++ h) ≡ a ++ (b ++ (c ++ (d ++ (e ++ (f ++ (g ++ h))))))
eight a b c d e f g h =
    append_assoc ((((((a ++ b) ++ c) ++ d) ++ e) ++ f)) g h
    ∙ (append_assoc (((((a ++ b) ++ c) ++ d) ++ e)) f (g ++ h)
    ∙ (append_assoc ((((a ++ b) ++ c) ++ d)) e (f ++ (g ++ h))
    ∙ (append_assoc (((a ++ b) ++ c)) d (e ++ (f ++ (g ++ h)))
    ∙ (append_assoc ((a ++ b)) c (d ++ (e ++ (f ++ (g ++ h))))
    ∙ append_assoc a b (c ++ (d ++ (e ++ (f ++ (g ++ h)))))))))

-- the setup's three writes, up to the first that fails
module _ (line bytes : List ℕ) (is_line : line ≡ setup_line (length bytes) ++ 10 ∷ []) where
  whole : setup_text bytes ≡ line ++ (bytes ++ 10 ∷ [])
  unfolding setup_text
  whole = sym (append_assoc (setup_line (length bytes)) (10 ∷ []) (bytes ++ 10 ∷ [])) ∙ ap (λ l. l ++ (bytes ++ 10 ∷ [])) (sym is_line)

  pub sent_line : (a b : Option (List ℕ)) → AppendsFront a b line → AppendsFront a b (setup_text bytes)
  sent_line a b h = subst (AppendsFront a b) (sym whole) (front_more a b line (bytes ++ 10 ∷ []) h)

  pub sent_bytes : (a b c : Option (List ℕ)) → Appends a b line → AppendsFront b c bytes → AppendsFront a c (setup_text bytes)
  sent_bytes a b c first h = subst (AppendsFront a c) (sym whole) (front_after a b c line (bytes ++ 10 ∷ []) first (front_more b c bytes (10 ∷ []) h))

  pub sent_end : (a b c d : Option (List ℕ)) → Appends a b line → Appends b c bytes → AppendsFront c d (10 ∷ []) → AppendsFront a d (setup_text bytes)
  sent_end a b c d first second h = subst (AppendsFront a d) (sym whole) (front_after a b d line (bytes ++ 10 ∷ []) first (front_after b c d bytes (10 ∷ []) second h))

  pub sent_all : (a b c d : Option (List ℕ)) → Appends a b line → Appends b c bytes → Appends c d (10 ∷ []) → Appends a d (setup_text bytes)
  sent_all a b c d first second third = subst (Appends a d) (sym whole) (Appends-trans a b d line (bytes ++ 10 ∷ []) first (Appends-trans b c d bytes (10 ∷ []) second third))

-- what was written before the next turn, and what is left, are the whole
pub record SoFar (old now : Option (List ℕ)) (before turns : ℕ) : Type 0 where
  pub done : List ℕ
  pub told : Appends old now done
  pub left : generated turns ≡ done ++ texts (frames_from (before + 1) (turns - before))

pub at_setup : (old now : Option (List ℕ)) (turns : ℕ) → Appends old now (setup_text HARBOUR.now) → SoFar old now 0 turns
at_setup old now turns h = record { done = setup_text HARBOUR.now; told = h; left = ap (λ n. setup_text HARBOUR.now ++ texts (frames_from 1 n)) (omega arith) }

-- the setup's front is the whole's
pub of_setup : (old now : Option (List ℕ)) (turns : ℕ) → AppendsFront old now (setup_text HARBOUR.now) → AppendsFront old now (generated turns)
of_setup old now turns h = front_more old now (setup_text HARBOUR.now) (texts (frames_from 1 turns)) h

-- the next frame comes first of what is left
next : (done : List ℕ) (before turns : ℕ) → before < turns → generated turns ≡ done ++ texts (frames_from (before + 1) (turns - before))
    → generated turns ≡ done ++ (frame_text (frame_at (before + 1)) ++ texts (frames_from (before + 1 + 1) (turns - (before + 1))))
next done before turns more h = let one : turns - before ≡ suc (turns - (before + 1)) = omega (arith, more) in h ∙ ap (λ n. done ++ texts (frames_from (before + 1) n)) one

pub after_frame : (old now now' : Option (List ℕ)) (before turns : ℕ) → before < turns → SoFar old now before turns → Appends now now' (frame_text (frame_at (before + 1))) → SoFar old now' (before + 1) turns
after_frame old now now' before turns more so_far h =
    record {
      done = so_far.done ++ frame_text (frame_at (before + 1));
      told = Appends-trans old now now' so_far.done (frame_text (frame_at (before + 1))) so_far.told h;
      left = next so_far.done before turns more so_far.left ∙ sym (append_assoc so_far.done (frame_text (frame_at (before + 1))) (texts (frames_from (before + 1 + 1) (turns - (before + 1)))));
    }

pub in_frame : (old now now' : Option (List ℕ)) (before turns : ℕ) → before < turns → SoFar old now before turns → AppendsFront now now' (frame_text (frame_at (before + 1))) → AppendsFront old now' (generated turns)
in_frame old now now' before turns more so_far h =
    let frame : List ℕ = frame_text (frame_at (before + 1)) in
    let rest : List ℕ = texts (frames_from (before + 1 + 1) (turns - (before + 1))) in
    subst (AppendsFront old now') (sym (next so_far.done before turns more so_far.left)) (front_after old now now' so_far.done (frame ++ rest) so_far.told (front_more now now' frame rest h))

pub at_end : (old now : Option (List ℕ)) (before turns : ℕ) → turns ≤ before → SoFar old now before turns → Appends old now (generated turns)
at_end old now before turns all so_far =
    let none : turns - before ≡ 0 = omega (arith, all) in
    subst (Appends old now) (sym (so_far.left ∙ (ap (λ n. so_far.done ++ texts (frames_from (before + 1) n)) none ∙ append-nil so_far.done))) so_far.told
