use Rattle.std.proofs.Common.{◌∙◌, refl}
use Rattle.toml.proofs.Views.{view-Table}
use Rattle.wb_setup.proofs.TomlViews.{members_len-view}
use Rattle.wb_setup.proofs.toml_values.size.Goals as goal

pub returns-in-Table : goal.returns-in-Table
returns-in-Table c =
    c.len.ensures.len ∙ rw (c.in-Table.is, view-Table c.in-Table.members, members_len-view c.in-Table.members.entries) refl
