-- A host that is to be opened, as the tests see it.
use Rattle.std.specs.Prelude.{◌≡◌, ℕ}
use Rattle.wb_tables.specs.Standing.{Standing}

-- a desk, over an honest keeper of its rows, and two new ledgers of two parts each: that of turns and that of numbers
pub record NewHost : Type 0 where
  pub desk : Standing
  pub turns : ℕ
  pub numbers : ℕ

-- its books are opened at these ledgers, of which the first says over which desk
abbrev pub IsOpenedAt : NewHost → Standing → Type 0 → ℕ → ℕ → ℕ → ℕ → Type 0
IsOpenedAt host desk honest turns turn_parts numbers number_parts =
    (desk ≡ host.desk) × honest × (host.turns ≡ turns) × (turn_parts ≡ 2) × (host.numbers ≡ numbers) × (number_parts ≡ 2)
