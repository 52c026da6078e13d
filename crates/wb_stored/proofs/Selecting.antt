-- What a selection of all rows answers.
use Rattle.std.proofs.Common.{◌≡◌, ℕ, List, [], ◌∷◌, map, filter, false, refl, ap, subst}
use Rattle.std.specs.List.Sorted.{IsPermutation}
use Rattle.sqlite_value.specs.declared.keys.Key.{Key}
use Rattle.sqlite.specs.declared.types.Value.TheVariants.{Null}
use Rattle.sqlite.specs.Order.{Row}
use Rattle.sqlite.specs.Term.{Term}
use Rattle.sqlite.specs.Query.{IsAnswer}
use Rattle.sqlite.specs.Program.{overlay}
use Rattle.sqlite.specs.Command.TheVariants.{Select}
use Rattle.sqlite.specs.Listing.{understood, reads_listing}
use Rattle.sqlite.specs.Schema.{Schema}
use Rattle.sqlite.specs.State.{State, Shown}
use Rattle.sqlite.proofs.Callers.{IsPlain, command_of, reads_as}
use Rattle.wb_stored.proofs.Texts.{query_over}
use Rattle.wb_stored.proofs.Parts.{chosen, shows, passes}

all_pass : (params : Row) (rows : List Row) → filter (passes [] params) rows ≡ rows
all_pass params [] = refl
all_pass params (r ∷ more) = ap (λ rest. r ∷ rest) (all_pass params more)

module _ (schema : Schema) (tree : ℕ) (project : List Term) (order : List (Term × Key)) (names : List (List ℕ)) where
  -- what it shows of each row, in some order
  pub selects : (sql : List ℕ) (old new : State) (rows : List Row) → old.now.schema ≡ schema → command_of (understood schema sql) ≡ Select (record { lets = []; body = query_over tree [] project order }) names
      → IsPlain (understood schema sql) → reads_listing schema sql ≡ false → Shown sql [] old new rows → IsPermutation (map (shows project []) (old.now.trees tree)) rows
  selects sql old new rows has is plain unlisted h =
      let q = query_over tree [] project order in
      let got = (reads_as sql [] old new schema has _ is plain unlisted rows h).answer in
      let a : IsAnswer q (overlay old.now.trees []) [] rows = got Null in
      subst (λ t. IsPermutation (map (shows project []) t) rows) (all_pass [] (old.now.trees tree)) (chosen tree [] project order old.now.trees [] rows a)
