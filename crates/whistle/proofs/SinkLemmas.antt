-- The writes of a reply, one after another.
use Rattle.std.proofs.Common.{◌≡◌, ℕ, List, ◌++◌, Option, sym, ap, ◌∙◌, ◌+◌, length, length-append, subst}
use Rattle.std.specs.Prelude.{codes}
use Rattle.std.specs.Io.KnownBytes.{Appends}
use Rattle.std.proofs.KnownBytes.{Appends-trans}
use Rattle.wb_base.specs.Outside.{AppendsFront}
use Rattle.wb_model.specs.Playing.{written}
use Rattle.wb_model.specs.Replies.{head_text, output_line}
use Rattle.wb_model.specs.Scripts.{Reply}
use Rattle.wb_cli.proofs.SinkLemmas.{front_more, front_after}

-- a reply's four writes, up to the first that fails
module _ (r : Reply) (line head body : List ℕ) (is_line : line ≡ output_line r.told.status (length head + length body)) (is_head : head ≡ head_text r.told.status r.allow (length body) r.close) (is_body : body ≡ r.told.body) where
  whole : written r ≡ (line ++ (head ++ body)) ++ codes "\n"
  whole =
      ap (λ n. (output_line r.told.status n ++ (head_text r.told.status r.allow (length r.told.body) r.close ++ r.told.body)) ++ codes "\n") (length-append (head_text r.told.status r.allow (length r.told.body) r.close) r.told.body)
      ∙ (ap (λ (b : List ℕ). (output_line r.told.status (length (head_text r.told.status r.allow (length b) r.close) + length b) ++ (head_text r.told.status r.allow (length b) r.close ++ b)) ++ codes "\n") (sym is_body)
      ∙ (ap (λ (h : List ℕ). (output_line r.told.status (length h + length body) ++ (h ++ body)) ++ codes "\n") (sym is_head)
      ∙ ap (λ l. (l ++ (head ++ body)) ++ codes "\n") (sym is_line)))

  pub sent_line : (a b : Option (List ℕ)) → AppendsFront a b line → AppendsFront a b (written r)
  sent_line a b h = subst (AppendsFront a b) (sym whole) (front_more a b (line ++ (head ++ body)) (codes "\n") (front_more a b line (head ++ body) h))

  pub sent_head : (a b c : Option (List ℕ)) → Appends a b line → AppendsFront b c head → AppendsFront a c (written r)
  sent_head a b c first h = subst (AppendsFront a c) (sym whole) (front_more a c (line ++ (head ++ body)) (codes "\n") (front_after a b c line (head ++ body) first (front_more b c head body h)))

  pub sent_body : (a b c d : Option (List ℕ)) → Appends a b line → Appends b c head → AppendsFront c d body → AppendsFront a d (written r)
  sent_body a b c d first second h =
      subst (AppendsFront a d) (sym whole) (front_more a d (line ++ (head ++ body)) (codes "\n") (front_after a b d line (head ++ body) first (front_after b c d head body second h)))

  sent_reply : (a b c d : Option (List ℕ)) → Appends a b line → Appends b c head → Appends c d body → Appends a d (line ++ (head ++ body))
  sent_reply a b c d first second third = Appends-trans a b d line (head ++ body) first (Appends-trans b c d head body second third)

  pub sent_end : (a b c d e : Option (List ℕ)) → Appends a b line → Appends b c head → Appends c d body → AppendsFront d e (codes "\n") → AppendsFront a e (written r)
  sent_end a b c d e first second third h = subst (AppendsFront a e) (sym whole) (front_after a d e (line ++ (head ++ body)) (codes "\n") (sent_reply a b c d first second third) h)

  pub sent_all : (a b c d e : Option (List ℕ)) → Appends a b line → Appends b c head → Appends c d body → Appends d e (codes "\n") → Appends a e (written r)
  sent_all a b c d e first second third last = subst (Appends a e) (sym whole) (Appends-trans a d e (line ++ (head ++ body)) (codes "\n") (sent_reply a b c d first second third) last)
