-- How the two tables hold a kept row.
use Rattle.std.specs.Prelude.{◌≡◌, ◌≢◌, pos, List, [], ◌∷◌}
use Rattle.sqlite_value.specs.declared.value.Value.TheVariants.{Int, Text}
use Rattle.sqlite_value.specs.Order.{Row as SqlRow, column}
use Rattle.wb_base.specs.declared.rows.Row.{Row}

-- the columns of a row of `record`: its key and its text, for all kinds but 7
pub record IsRecordRow (columns : SqlRow) (row : Row) : Type 0 where
  pub kind : column columns 0 ≡ Int (pos row.key.kind)
  pub unsealed : row.key.kind ≢ 7
  pub tenant : column columns 1 ≡ Int (pos row.key.tenant)
  pub a : column columns 2 ≡ Int (pos row.key.a)
  pub b : column columns 3 ≡ Int (pos row.key.b)
  pub text : column columns 4 ≡ Text row.text

-- the columns of a row of `sealed`: the tenant, the report and the text of its sealed answers
pub record IsSealedRow (columns : SqlRow) (row : Row) : Type 0 where
  pub kind : row.key.kind ≡ 7
  pub tenant : column columns 0 ≡ Int (pos row.key.tenant)
  pub a : column columns 1 ≡ Int (pos row.key.a)
  pub b : row.key.b ≡ 0
  pub text : column columns 2 ≡ Text row.text

-- each stored row, in turn, is the kept row at its place, and there are as many
abbrev pub AreInTurn : (SqlRow → Row → Type 0) → List SqlRow → List Row → Type 0
AreInTurn IsOf [] [] = Unit {0}
AreInTurn IsOf (c ∷ cs) (r ∷ rs) = IsOf c r × AreInTurn IsOf cs rs
AreInTurn IsOf _ _ = ⊥
