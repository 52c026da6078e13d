-- Patterns that a router takes.
use Rattle.std.specs.Prelude.{◌+◌, ◌&&◌, ℕ, List, [], ◌∷◌, Bool, true, false, Result, Ok, Err, is_none}
use Rattle.matchit.specs.Router.{nearest}
use Rattle.matchit.specs.Route.{parse_route, Scan}
use Rattle.matchit.specs.declared.error.InsertError.{InsertError}
use Rattle.wb_model.specs.Routes.{Rows, with_read}

-- the pattern reads as one, and stands beside the rows
abbrev pub fits_in : Result Scan InsertError → Rows → Bool
fits_in (Ok scan) rows = is_none (nearest scan.pattern rows)
fits_in (Err fault) rows = false

-- and so do all, one after another
abbrev pub all_fit : List (List ℕ) → ℕ → Rows → Bool
all_fit [] number rows = true
all_fit (pattern ∷ more) number rows = fits_in (parse_route pattern) rows && all_fit more (number + 1) (with_read (parse_route pattern) number rows)
