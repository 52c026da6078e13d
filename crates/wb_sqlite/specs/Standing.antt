-- What is seen of a keeper over a connection.
use Rattle.std.specs.Prelude.{ℕ, refl}
use Rattle.std.specs.Coded.{Coded, code_by, coded×, coded_ℕ}
use Rattle.sqlite.specs.Held.{Held, held_code}

-- its connection, and how many of its calls failed
pub record Standing (S : Type 0) : Type 0 where
  pub conn : Held S
  pub faults : ℕ

abbrev pub standing_code : {S : Type 0} → Coded S → Coded (Standing S)
standing_code {S} store = code_by (Held S × ℕ) (coded× (held_code store) coded_ℕ) (λ k. (k.conn, k.faults)) (λ p. record { conn = p.0; faults = p.1 }) (λ _. refl)
