-- On which side of a key or of a run an item lies.
use Rattle.std.proofs.Common.{◌≡◌, true, false, refl}
use Rattle.std.specs.declared.cmp.Ordering.{Ordering}
use Rattle.std.specs.declared.cmp.Ordering.TheVariants.{Less, Equal, Greater}
use Rattle.std.specs.Ordering.{is_lt, is_le}

pub is_less : (r : Ordering) → is_lt r ≡ true → r ≡ Less
is_less Less e = refl
is_less Equal e = cc
is_less Greater e = cc

pub is_greater : (r : Ordering) → is_le r ≡ false → r ≡ Greater
is_greater Less e = cc
is_greater Equal e = cc
is_greater Greater e = refl

pub not_both : (r : Ordering) → is_lt r ≡ true → is_le r ≡ false → ⊥
not_both Less e f = cc
not_both Equal e f = cc
not_both Greater e f = cc
