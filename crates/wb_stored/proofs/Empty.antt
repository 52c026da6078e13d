-- A database without tables tells no rows, and one in memory is always honest.
use Rattle.std.proofs.Common.{◌≡◌, inl, inr, List, [], refl, sym, subst}
use Rattle.std.specs.List.Sorted.{IsStrictlySortedBy}
use Rattle.sqlite_trees.specs.Tree.{Trees}
use Rattle.sqlite_trees.specs.declared.memory.MemStore.{MemStore}
use Rattle.sqlite.specs.Effect.{Database}
use Rattle.sqlite.specs.Held.{Held, state}
use Rattle.sqlite.specs.State.{State, Opens, IsLive}
use Rattle.sqlite.specs.Steps.{over_memory, IsEmpty}
use Rattle.sqlite.proofs.Callers.{memory_is_clean}
use Rattle.wb_list.specs.Keyed.{IsAscending}
use Rattle.wb_base.specs.declared.rows.Row.{Row}
use Rattle.wb_base.specs.KeptRows.{key_cmp, key_of}
use Rattle.wb_stored.specs.Tables.{no_schema}
use Rattle.wb_stored.specs.Told.{AreTold, HoldsRows, IsHonest, LeavesRows, Tells}

none_ascend : IsAscending key_cmp key_of []
unfolding IsStrictlySortedBy
none_ascend = tt

none_told : AreTold [] [] []
none_told = record {
  record_kept = record { rising = tt; each = λ c h. absurd h };
  sealed_kept = record { rising = tt; each = λ c h. absurd h };
  ascending = none_ascend;
  each = λ row. (λ h. absurd h, λ s. elim s [ inl here ↦ here.2 | inr there ↦ there.2 ]);
}

pub none_hold : (s : State) → Opens s → IsLive s → s.now.schema ≡ no_schema → HoldsRows s []
none_hold s opens live none = record {
  settled = opens.clean;
  told = record { sound = (live opens.is_open).0; records = []; sealed = []; tables = inl (none, refl, refl); told = none_told };
}

pub empty_holds : (s : State) → IsEmpty s → HoldsRows s []
empty_holds s (opens, live, none) = none_hold s opens live none

pub memory_is_honest : (c : Held MemStore) → IsHonest (state over_memory c)
memory_is_honest c = (memory_is_clean c, refl)

-- what was committed leaves the rows that are told
pub commit_leaves : (s : State) (rows : List Row) (db : Trees) → HoldsRows s rows → db ≡ s.committed.trees → LeavesRows db rows
commit_leaves s rows db holds is =
    let told : Tells s.committed rows = subst (λ (d : Database). Tells d rows) holds.settled holds.told in
    (s.committed.schema, subst (λ (t : Trees). Tells (record { schema = s.committed.schema; trees = t }) rows) (sym is) told)
