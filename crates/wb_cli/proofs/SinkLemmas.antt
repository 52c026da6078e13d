-- Writes one after another.
use Rattle.std.proofs.Common.{ℕ, List, ◌++◌, Option, Result, Ok, Err, sym, ap, ◌∙◌, append_assoc}
use Rattle.std.specs.Prelude.{OnOk, OnErr}
use Rattle.std.specs.Io.KnownBytes.{Appends}
use Rattle.std.proofs.KnownBytes.{Appends-trans}
use Rattle.wb_base.specs.Outside.{AppendsFront}

-- the front of a text is a front of more
pub front_more : (a b : Option (List ℕ)) (xs ys : List ℕ) → AppendsFront a b xs → AppendsFront a b (xs ++ ys)
front_more a b xs ys h = (h.0, h.1 ++ ys, ap (λ l. l ++ ys) h.2 ∙ append_assoc h.0 h.1 ys, h.3)

-- a front after a whole
pub front_after : (a b c : Option (List ℕ)) (xs ys : List ℕ) → Appends a b xs → AppendsFront b c ys → AppendsFront a c (xs ++ ys)
front_after a b c xs ys whole h = (xs ++ h.0, h.1, ap (λ l. xs ++ l) h.2 ∙ sym (append_assoc xs h.0 h.1), Appends-trans a b c xs h.0 whole h.3)

-- the same where the last write may be whole
pub front_if_err : {T E : Type 0} (r : Result T E) (a b c : Option (List ℕ)) (xs ys : List ℕ) → Appends a b xs → OnErr r (AppendsFront b c ys) → OnErr r (AppendsFront a c (xs ++ ys))
front_if_err (Ok x) a b c xs ys whole h = tt
front_if_err (Err e) a b c xs ys whole h = front_after a b c xs ys whole h

-- a whole after a whole, where the last write is
pub whole_if_ok : {T E : Type 0} (r : Result T E) (a b c : Option (List ℕ)) (xs ys : List ℕ) → Appends a b xs → OnOk r (Appends b c ys) → OnOk r (Appends a c (xs ++ ys))
whole_if_ok (Ok x) a b c xs ys whole h = Appends-trans a b c xs ys whole h
whole_if_ok (Err e) a b c xs ys whole h = tt
