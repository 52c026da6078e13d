-- What is told where nothing is.
use Rattle.std.proofs.Common.{◌≡◌, refl, ℕ, List, [], None, Some, Result, Ok, Err}
use Rattle.std.specs.Prelude.{OnOk, OnErr}
use Rattle.std.specs.Io.KnownBytes.{ReadConsumes, WriteAppends}
use Rattle.wb_base.specs.Outside.{AppendsFront}
use Rattle.std.proofs.lemmas.Option.{none-some}

-- any fact of what nothing tells
pub nothing_told : {A : Type 0} (P : Type 0) (x : A) → None ≡ Some x → P
nothing_told P x told = absurd (none-some x told)

-- a fact holds also where a call failed
pub on_err_too : {T E : Type 0} (P : Type 0) (r : Result T E) → P → OnErr r P
on_err_too P (Ok value) p = tt
on_err_too P (Err e) p = p

-- a fact holds also where a call was Ok
pub on_ok_too : {T E : Type 0} (P : Type 0) (r : Result T E) → P → OnOk r P
on_ok_too P (Ok value) p = p
on_ok_too P (Err e) p = tt

-- a read of bytes that are not told
pub read_untold : {E : Type 0} (r : Result ℕ E) (bytes : List ℕ) → ReadConsumes None None r bytes
read_untold (Ok n) bytes = (tt, λ _ _. tt)
read_untold (Err e) bytes = tt

-- a write of bytes that are not told
pub write_untold : {E : Type 0} (r : Result ℕ E) (bytes : List ℕ) → WriteAppends None None r bytes
write_untold (Ok n) bytes = tt
write_untold (Err e) bytes = tt

-- a part of a write of bytes that are not told
pub front_untold : (bytes : List ℕ) → AppendsFront None None bytes
front_untold bytes = ([], bytes, refl, tt)
