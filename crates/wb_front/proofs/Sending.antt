-- Parts of a reply that were sent.
use Rattle.std.specs.Prelude.{◌||◌, nat_eq}
use Rattle.std.proofs.Common.{◌≡◌, ◌++◌, ℕ, Bool, List, Option, Some, None, sym, ap, ◌∙◌, refl, length}
use Rattle.std.proofs.lemmas.List.{append_assoc}
use Rattle.std.specs.Io.KnownBytes.{Appends}
use Rattle.wb_base.specs.Outside.{AppendsFront}
use Rattle.wb_model.specs.Replies.{head_text}
use Rattle.wb_wire.specs.declared.responses.Response.{Response}
use Rattle.wb_front.specs.Served.{closing, reply_bytes, said}
use Rattle.wb_wire.specs.Responses.{reply_of}

-- a front part of the head is one of the reply
pub head_cut : (old new : Option (List ℕ)) (head body : List ℕ) → AppendsFront old new head → AppendsFront old new (head ++ body)
head_cut old new head body sent = (sent.0, sent.1 ++ body, ap (λ bs. bs ++ body) sent.2 ∙ append_assoc sent.0 sent.1 body, sent.3)

-- and so are the head and a front part of the body
pub body_cut : (old mid new : Option (List ℕ)) (head body : List ℕ) → Appends old mid head → AppendsFront mid new body → AppendsFront old new (head ++ body)
body_cut None mid new head body first sent = (head, body, refl, tt)
body_cut (Some xs) None new head body first sent = absurd first
body_cut (Some xs) (Some ys) None head body first sent = absurd sent.3
body_cut (Some xs) (Some ys) (Some zs) head body first sent =
    (head ++ sent.0, sent.1, ap (λ bs. head ++ bs) sent.2 ∙ sym (append_assoc head sent.0 sent.1), sent.3 ∙ (ap (λ bs. bs ++ sent.0) first ∙ append_assoc xs head sent.0))

-- the head for a body, and the body, are the reply with this closing
pub both_are : (a : Response) (close : Bool) (head body : List ℕ) → body ≡ a.told.body → head ≡ head_text a.told.status a.allow (length body) close → head ++ body ≡ reply_bytes (closing (reply_of a) close)
both_are a close head body body_is head_is = ap (λ h. h ++ body) head_is ∙ ap (λ (b : List ℕ). head_text a.told.status a.allow (length b) close ++ b) body_is

-- so it is that of a reply after so many others
pub as_said : (a : Response) (close : Bool) (before n : ℕ) → close ≡ (a.close || nat_eq before 999) → n ≡ before → reply_bytes (closing (reply_of a) close) ≡ reply_bytes (said n (reply_of a))
as_said a close before n is same = ap (λ b. reply_bytes (closing (reply_of a) b)) (is ∙ ap (λ k. a.close || nat_eq k 999) (sym same))
