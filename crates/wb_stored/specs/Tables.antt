-- The two tables of kept rows, and the schemas that they may stand in.
use Rattle.std.specs.Prelude.{true, false, [], ◌∷◌, None, codes, List, ℕ}
use Rattle.sqlite_value.specs.Keys.{plain}
use Rattle.sqlite_schema.specs.declared.schema.Column.{Column}
use Rattle.sqlite.specs.Collation.TheVariants.{Binary}
use Rattle.sqlite.specs.declared.types.Value.TheVariants.{Null}
use Rattle.sqlite.specs.Table.{Table}
use Rattle.sqlite.specs.Schema.{Schema}
use Rattle.sqlite.specs.Kind.{Kind}
use Rattle.sqlite.specs.Kind.TheVariants.{Integer, Text}
use Rattle.sqlite.specs.Change.{created}

abbrev pub column_of : List ℕ → Kind → Column
column_of name kind = record { name = name; kind = kind; is_strict = false; not_null = true; default = Null; collation = Binary }

-- a table that is made with these columns and this key, in a tree
abbrev pub kept_table : List ℕ → List Column → List ℕ → ℕ → Table
kept_table name columns places tree = record {
  name = name;
  tree = tree;
  columns = columns;
  key = None;
  primary = places;
  uniques = places ∷ [];
  orders = plain ∷ [];
  checks = [];
  references = [];
  computed = [];
  stamps = record { places = []; terms = []; formats = [] };
  is_counted = false;
}

-- the table of all kinds but 7
abbrev pub record_columns : List Column
record_columns = column_of (codes "kind") Integer ∷ column_of (codes "tenant") Integer ∷ column_of (codes "a") Integer ∷ column_of (codes "b") Integer ∷ column_of (codes "body") Text ∷ []

abbrev pub record_key : List ℕ
record_key = 1 ∷ 2 ∷ 3 ∷ 4 ∷ []

abbrev pub record_table : ℕ → Table
record_table = kept_table (codes "record") record_columns record_key

-- the table of sealed answers
abbrev pub sealed_columns : List Column
sealed_columns = column_of (codes "tenant") Integer ∷ column_of (codes "a") Integer ∷ column_of (codes "body") Text ∷ []

abbrev pub sealed_key : List ℕ
sealed_key = 1 ∷ 2 ∷ []

abbrev pub sealed_table : ℕ → Table
sealed_table = kept_table (codes "sealed") sealed_columns sealed_key

abbrev pub no_schema : Schema
no_schema = record { tables = []; indexes = []; views = [] }

-- one of the tables alone
abbrev pub record_schema : Schema
record_schema = created no_schema (record_table 0)

abbrev pub sealed_schema : Schema
sealed_schema = created no_schema (sealed_table 0)

-- both, made in this order
abbrev pub both_schema : Schema
both_schema = created record_schema (sealed_table 0)

-- both, the other one first
abbrev pub turned_schema : Schema
turned_schema = created sealed_schema (record_table 0)
