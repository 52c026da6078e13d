-- How a host takes the rows of a store, and how it changes them.
use Rattle.std.specs.Prelude.{◌≡◌, ℕ, ◌-◌, ◌≤◌, true, false, List, [], ◌∷◌, ◌++◌, length, slice_get, sum_by, Option, Some, None, codes}
use Rattle.serde_json.specs.Data.{Data}
use Rattle.wb_base.specs.declared.rows.Row.{Row}
use Rattle.wb_base.specs.declared.rows.Change.{Change}
use Rattle.wb_base.specs.Outside.{one_more}
use Rattle.wb_etcd.specs.declared.standing.Standing.{Standing}
use Rattle.wb_etcd.specs.declared.standing.Standing.TheVariants.{Unloaded, Holds, Ended}
use Rattle.wb_etcd.specs.KeyTexts.{Keys, key_text, holder_text, all_rows}
use Rattle.wb_etcd.specs.Transactions.{operations, batch_text, take_over_text, one_text, range_text}
use Rattle.wb_etcd.specs.Answers.{is_made, has_more, HasRevision, told_items, WasPutAt, AreRowsOf}
use Rattle.wb_transport.specs.Dials.{Dialed}
use Rattle.wb_etcd.specs.Exchanges.{Asks}

abbrev pub transaction_path : List ℕ
transaction_path = codes "/v3/kv/txn"

abbrev pub range_path : List ℕ
range_path = codes "/v3/kv/range"

-- how many rows are asked for at once
abbrev pub piece_limit : ℕ
piece_limit = 16

-- how many operations a transaction may have
abbrev pub operation_limit : ℕ
operation_limit = 32_768

-- ---- taking the rows

-- the keys behind a row's
abbrev pub keys_behind : List ℕ → Option Row → Keys
keys_behind prefix None = all_rows prefix
keys_behind prefix (Some row) = record (all_rows prefix) { from = key_text prefix row.key ++ 0 ∷ [] }

-- the keys of the rows that follow these
abbrev pub keys_after : List ℕ → List Row → Keys
keys_after prefix rows = keys_behind prefix (slice_get rows (length rows - 1))

-- the store was asked for the rows that follow these, as they stood at a revision
abbrev pub AsksForMore : List (List ℕ) → List ℕ → ℕ → List Row → Dialed → Dialed → Data → Type 0
AsksForMore endpoints prefix revision rows = Asks endpoints range_path (range_text (keys_after prefix rows) piece_limit revision)

-- after some rows, all rows of a revision were read piece by piece
pub data ReadsAll (endpoints : List (List ℕ)) (prefix : List ℕ) (revision : ℕ) : Dialed → Dialed → List Row → List Row → Type 0 where
  ends : (x y : Dialed) (rows piece : List Row) (answer : Data) → AsksForMore endpoints prefix revision rows x y answer → AreRowsOf prefix (told_items answer) piece → has_more answer ≡ false → ReadsAll endpoints prefix revision x y rows (rows ++ piece)
  goes_on : (x y z : Dialed) (rows piece all : List Row) (answer : Data) → AsksForMore endpoints prefix revision rows x y answer → AreRowsOf prefix (told_items answer) piece → has_more answer ≡ true → ReadsAll endpoints prefix revision y z (rows ++ piece) all → ReadsAll endpoints prefix revision x z rows all

-- the store was taken since a revision, where nobody took it in between, and these are its rows at that revision
pub record TakesOver (endpoints : List (List ℕ)) (prefix : List ℕ) (old new : Dialed) (revision : ℕ) (rows : List Row) : Type 0 where
  pub before : ℕ
  pub held : Data
  pub taken : Data
  pub x : Dialed
  pub y : Dialed
  pub asks : Asks endpoints range_path (one_text (holder_text prefix)) old x held
  pub was : WasPutAt (told_items held) before
  pub takes : Asks endpoints transaction_path (take_over_text prefix before) x y taken
  pub made : is_made taken ≡ true
  pub since : HasRevision taken revision
  pub reads : ReadsAll endpoints prefix revision y new [] rows

-- changes were made by the host that holds the store since a revision
pub record Commits (endpoints : List (List ℕ)) (prefix : List ℕ) (revision : ℕ) (old new : Dialed) (changes : List Change) : Type 0 where
  pub fits : sum_by operations changes ≤ operation_limit
  pub answer : Data
  pub asks : Asks endpoints transaction_path (batch_text prefix revision changes) old new answer
  pub made : is_made answer ≡ true

-- ---- a keeper

-- what is known of a keeper: its store, how it stands with it, what its dialer tells, and how many of its calls failed
pub record EtcdState : Type 0 where
  pub endpoints : List (List ℕ)
  pub prefix : List ℕ
  pub standing : Standing
  pub told : Option Dialed
  pub faults : ℕ

-- the revision since which the store is held
abbrev pub held_since : Standing → Option ℕ
held_since Unloaded = None
held_since (Holds revision) = Some revision
held_since Ended = None

-- one more call failed, and nothing else is changed
abbrev pub after_fault : EtcdState → EtcdState
after_fault k = record k { faults = one_more k.faults }

-- a keeper has taken its store over since a revision, and these are the rows
abbrev pub HasTakenOver : EtcdState → Dialed → EtcdState → List Row → Type 0
HasTakenOver k x k' rows = (revision : ℕ) × (y : Dialed) × (k'.standing ≡ Holds revision) × (k'.told ≡ Some y) × TakesOver k.endpoints k.prefix x y revision rows
