-- The numbers that hosts have drawn, and what draws one.
use Rattle.std.specs.Prelude.{ℕ, ◌==◌, ◌&&◌, Bool, sum_by}
use Rattle.wb_model.specs.declared.body.Told.{Told}
use Rattle.wb_model.specs.declared.command.Command.{Command}
use Rattle.wb_model.specs.Commands.{is_submission}
use Rattle.wb_model.specs.Tenants.{Tenancy, Hosts}

-- how many numbers all tenants have drawn
abbrev pub numbers_of : Hosts → ℕ
numbers_of h = sum_by (λ (x : Tenancy). x.tables.plain.numbering.last) h.list

-- a submission was asked, and it is accepted
abbrev pub is_accepted : Command → Told → Bool
is_accepted command told = is_submission command && (told.status == 201)
