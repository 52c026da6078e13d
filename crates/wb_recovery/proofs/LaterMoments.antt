-- The latest of moments, one after another.
use Rattle.std.proofs.Common.{◌≡◌, ℕ, List, [], ◌∷◌, ◌++◌, arith}
use Rattle.std.specs.Prelude.{max}
use Rattle.wb_model.specs.Reopened.{latest}

pub latest_append : (a b : List ℕ) → latest (a ++ b) ≡ max (latest a) (latest b)
latest_append [] b = omega arith
latest_append (m ∷ ms) b = let more : latest (ms ++ b) ≡ max (latest ms) (latest b) = latest_append ms b in omega (arith, more)

-- one more moment, and those that are left
pub one_later : (x last new : ℕ) (ms : List ℕ) → new ≡ max last x → max new (latest ms) ≡ max last (latest (x ∷ ms))
one_later x last new ms is = omega (arith, is)

pub some_later : (xs : List ℕ) (last new : ℕ) (ms : List ℕ) → new ≡ max last (latest xs) → max new (latest ms) ≡ max last (latest (xs ++ ms))
some_later xs last new ms is = let whole : latest (xs ++ ms) ≡ max (latest xs) (latest ms) = latest_append xs ms in omega (arith, is, whole)
