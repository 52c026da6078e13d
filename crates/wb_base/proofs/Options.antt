-- Options that are made of others: the parts of one that is there, and those of one that is not.
use Rattle.std.proofs.Common.{◌≡◌, Bool, true, false, cond, Option, Some, None, refl, subst, arith}
use Rattle.std.specs.Prelude.{option_map, option_and_then}
use Rattle.std.specs.Option.{option_or}
use Rattle.wb_base.specs.FormShape.{keep}

pub then_some : {X Y : Type 0} (f : X → Option Y) (o : Option X) (y : Y) → option_and_then f o ≡ Some y → (x : X) × (o ≡ Some x) × (f x ≡ Some y)
then_some f None y is = absurd cc
then_some f (Some x) y is = (x, refl, is)

pub map_some : {X Y : Type 0} (f : X → Y) (o : Option X) (y : Y) → option_map f o ≡ Some y → (x : X) × (o ≡ Some x) × (f x ≡ y)
map_some f None y is = absurd cc
map_some f (Some x) y is = (x, refl, cc)

pub if_some : {X : Type 0} (test : Bool) (o : Option X) (x : X) → cond test o None ≡ Some x → (test ≡ true) × (o ≡ Some x)
if_some true o x is = (refl, is)
if_some false o x is = absurd cc

-- what keeping gives passes the test, and is what was given
pub kept : {X : Type 0} (test : X → Bool) (x y : X) → keep test x ≡ Some y → (test y ≡ true) × (x ≡ y)
kept test x y is = let k = if_some (test x) (Some x) y is in let same : x ≡ y = (let e = k.1 in cc) in (subst (λ z. test z ≡ true) same k.0, same)

pub first_none : {X : Type 0} (a b : Option X) → option_or a b ≡ None → (a ≡ None) × (b ≡ None)
first_none None b e = (refl, e)
first_none (Some x) b e = absurd (grind (arith, e))

pub mapped_none : {X Y : Type 0} (f : X → Y) (o : Option X) → option_map f o ≡ None → o ≡ None
mapped_none f None e = refl
mapped_none f (Some x) e = absurd (grind (arith, e))
