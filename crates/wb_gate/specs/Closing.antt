-- A gate that is closed, as contracts see it.
use Rattle.std.specs.Prelude.{◌≡◌, ◌↔◌, ℕ, Result, IsOk, IfErr}
use Rattle.wb_tables.specs.Standing.{Standing}
use Rattle.wb_desk.specs.declared.tally.Tally.{Tally}
use Rattle.wb_desk.specs.Hosted.{Hosted}
use Rattle.wb_desk.specs.Whole.{IsWholeHost}

-- for some whole host that was opened with a desk, shares in so many turns and numbers are answered Ok exactly where they add up to its books, and an Err
-- tells these books
pub record ClosesExactly {C E : Type 0} (desk : Standing) (turns numbers : ℕ) (book : E → Tally) (answer : Result C E) : Type 0 where
  pub host : Hosted
  pub of : host.opened ≡ desk
  pub whole : IsWholeHost host
  pub exact : IsOk answer ↔ ((turns ≡ host.turns) × (numbers ≡ host.numbers))
  pub told : IfErr answer (λ e. book e ≡ record { turns = host.turns; numbers = host.numbers })
