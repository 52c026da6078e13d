-- The keys under which a store has rows, as bytes, and the ranges of keys that begin alike.
use Rattle.std.specs.Prelude.{◌≡◌, ℕ, ◌<◌, ◌^◌, List, ◌++◌, codes}
use Rattle.wb_base.specs.Secrets.{last_digits}
use Rattle.wb_base.specs.declared.rows.Key.{Key}
use Rattle.wb_etcd.specs.declared.keys.KeyRange.{KeyRange}

-- its numbers are in the ranges of their types
pub record IsKey (key : Key) : Type 0 where
  pub kind : key.kind < 2 ^ 8
  pub tenant : key.tenant < 2 ^ 32
  pub a : key.a < 2 ^ 32
  pub b : key.b < 2 ^ 32

-- a slash, and so many decimal digits of a number
unfoldable pub part : ℕ → ℕ → List ℕ
part width number = codes "/" ++ last_digits width number

-- all that is of one kind, tenant and number stands under this text
unfoldable pub trunk_text : List ℕ → ℕ → ℕ → ℕ → List ℕ
trunk_text prefix kind tenant a = prefix ++ (part 3 kind ++ (part 10 tenant ++ part 10 a))

-- the key of a row under a prefix: its four numbers in digits of fixed width
unfoldable pub key_text : List ℕ → Key → List ℕ
key_text prefix key = trunk_text prefix key.kind key.tenant key.a ++ part 10 key.b

-- the key of what tells which host writes
unfoldable pub holder_text : List ℕ → List ℕ
holder_text prefix = prefix ++ codes "/holder"

-- keys from the first on and below the second
pub record Keys : Type 0 where
  pub from : List ℕ
  pub below : List ℕ

-- a range has these two ends
pub record IsRange (range : KeyRange) (keys : Keys) : Type 0 where
  pub from : range.from.items ≡ keys.from
  pub below : range.below.items ≡ keys.below

-- the keys that go on with a slash after this text, since `0` is the byte after `/`
unfoldable pub all_under : List ℕ → Keys
all_under text = record { from = text ++ codes "/"; below = text ++ codes "0" }

-- the keys of all rows: those whose first part begins with a digit, since `:` is the byte after `9`
unfoldable pub all_rows : List ℕ → Keys
all_rows prefix = record { from = prefix ++ codes "/0"; below = prefix ++ codes "/:" }
