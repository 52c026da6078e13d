-- The table of routes: each path with its methods, and what each method asks. The path's row, its numbers and the methods that a reply lists follow from it.
use Rattle.std.specs.Prelude.{ℕ, ◌+◌, ◌-◌, ◌==◌, ◌&&◌, ◌||◌, not, Bool, true, if◌then◌else◌, List, [], ◌∷◌, map, drop, find, slice_get, slice_index, codes, Option, Some, None, Result, Ok, Err, is_some, option_map, unwrap_or}
use Rattle.std.specs.List.{slice_split, join_by}
use Rattle.std.specs.Option.{option_map_or}
use Rattle.std.specs.Str.{is_utf8}
use Rattle.std.specs.Str.Parse.{digits_value}
use Rattle.matchit.specs.Rows.{RowsOf}
use Rattle.matchit.specs.Router.{RouteOf, route_from}
use Rattle.matchit.specs.Order.{placed}
use Rattle.matchit.specs.Route.{parse_route, Scan}
use Rattle.matchit.specs.Seek.{first}
use Rattle.matchit.specs.declared.error.InsertError.{InsertError}
use Rattle.wb_base.specs.AnswerList.{is_text}
use Rattle.wb_base.specs.FormShape.{keep}
use Rattle.wb_model.specs.declared.route.Route.{Route}
use Rattle.wb_model.specs.declared.route.Route.TheVariants as routes
use Rattle.wb_model.specs.Fits.{is_path_number}
use Rattle.wb_model.specs.Heads.{is_number}

-- a method, and what it asks
pub record Method : Type 0 where
  pub name : List ℕ
  pub route : Route

-- a path, in which a name in braces stands for a number, and its methods in the order in which a reply lists them
pub record Path : Type 0 where
  pub pattern : List ℕ
  pub methods : List Method

abbrev pub path : List ℕ → List Method → Path
path pattern methods = record { pattern = pattern; methods = methods }

abbrev pub gets : Route → Method
gets route = record { name = codes "GET"; route = route }

abbrev pub posts : Route → Method
posts route = record { name = codes "POST"; route = route }

abbrev pub puts : Route → Method
puts route = record { name = codes "PUT"; route = route }

abbrev pub deletes : Route → Method
deletes route = record { name = codes "DELETE"; route = route }

-- the paths, numbered from 1
unfoldable pub paths : List Path
paths =
    path (codes "/health") (gets routes.Health ∷ []) ∷
    path (codes "/t/{t}") (gets routes.Public ∷ []) ∷
    path (codes "/t/{t}/contexts/{c}") (gets routes.ContextOf ∷ []) ∷
    path (codes "/t/{t}/sessions") (posts routes.Login ∷ deletes routes.Logout ∷ []) ∷
    path (codes "/t/{t}/reports") (posts routes.Submit ∷ gets routes.List ∷ []) ∷
    path (codes "/t/{t}/report") (gets routes.OwnReport ∷ []) ∷
    path (codes "/t/{t}/report/comments") (posts routes.OwnComment ∷ []) ∷
    path (codes "/t/{t}/report/identity") (puts routes.GiveIdentity ∷ []) ∷
    path (codes "/t/{t}/due") (gets routes.DueList ∷ []) ∷
    path (codes "/t/{t}/reports/{n}") (gets routes.ReadReport ∷ deletes routes.Delete ∷ []) ∷
    path (codes "/t/{t}/reports/{n}/comments") (posts routes.Comment ∷ []) ∷
    path (codes "/t/{t}/reports/{n}/label") (puts routes.Label ∷ []) ∷
    path (codes "/t/{t}/reports/{n}/status") (puts routes.SetStatus ∷ []) ∷
    path (codes "/t/{t}/reports/{n}/acknowledgement") (posts routes.Acknowledge ∷ []) ∷
    path (codes "/t/{t}/reports/{n}/feedback") (posts routes.Feedback ∷ []) ∷
    path (codes "/t/{t}/reports/{n}/readers") (posts routes.Share ∷ []) ∷
    path (codes "/t/{t}/reports/{n}/readers/{u}") (deletes routes.Unshare ∷ []) ∷
    path (codes "/t/{t}/reports/{n}/transfer") (posts routes.Transfer ∷ []) ∷
    path (codes "/t/{t}/reports/{n}/postponement") (posts routes.Postpone ∷ []) ∷
    path (codes "/t/{t}/reports/{n}/access") (posts routes.Ask ∷ []) ∷
    path (codes "/t/{t}/reports/{n}/identity") (gets routes.ReadIdentity ∷ []) ∷
    path (codes "/t/{t}/access") (gets routes.Requests ∷ []) ∷
    path (codes "/t/{t}/access/{n}/{k}") (posts routes.Decide ∷ []) ∷
    path (codes "/t/{t}/admin") (gets routes.Admin ∷ []) ∷
    path (codes "/t/{t}/admin/settings") (puts routes.SetSettings ∷ []) ∷
    path (codes "/t/{t}/admin/users/{u}") (puts routes.SetUser ∷ []) ∷
    path (codes "/t/{t}/admin/contexts/{c}") (puts routes.SetContext ∷ []) ∷
    path (codes "/t/{t}/admin/forms/{f}") (puts routes.SetForm ∷ []) ∷
    path (codes "/t/{t}/reports/{n}/extension") (posts routes.Extend ∷ []) ∷
    []

-- ---- the row of a path

-- the rows of a router, whose values are numbers of paths
abbrev pub Rows : Type 0
Rows = RowsOf (RouteOf ℕ)

abbrev pub with_read : Result Scan InsertError → ℕ → Rows → Rows
with_read (Ok scan) number rows = placed (scan.pattern, route_from scan number) rows
with_read (Err fault) number rows = rows

-- a router with more patterns, numbered from this one
abbrev pub with_patterns : List (List ℕ) → ℕ → Rows → Rows
with_patterns [] number rows = rows
with_patterns (pattern ∷ more) number rows = with_patterns more (number + 1) (with_read (parse_route pattern) number rows)

abbrev pub patterns : List (List ℕ)
patterns = map (λ (p : Path). p.pattern) paths

-- the router holds every path but the first
unfoldable pub router : Rows
router = with_patterns (drop 1 patterns) 2 []

-- the number of a path's row: the first row is `/health` alone, and the others are the router's
abbrev pub number_of_path : List ℕ → Option ℕ
number_of_path text =
    if is_text text (codes "/health") then Some 1
    else if is_utf8 text then option_map (λ (r : RouteOf ℕ). r.value) (first router text)
    else None

-- the row of a number
abbrev pub path_at : ℕ → Option Path
path_at number = slice_get paths (number - 1)

-- ---- the numbers of a path

-- a number in digits without a leading zero, from 1 to 4,294,967,295
abbrev pub path_number : List ℕ → Option ℕ
path_number text = if is_number text then keep is_path_number (digits_value 10 text) else None

abbrev pub segments : List ℕ → List (List ℕ)
segments text = slice_split (λ c. c == 47) text

-- a name in braces
abbrev pub is_name : List ℕ → Bool
is_name segment = slice_index segment 0 == 123

-- each segment that stands for a name is a number
abbrev pub are_numbers : List (List ℕ) → List (List ℕ) → Bool
are_numbers [] texts = true
are_numbers (name ∷ names) [] = true
are_numbers (name ∷ names) (text ∷ texts) = (not (is_name name) || is_some (path_number text)) && are_numbers names texts

-- the number that stands for a name, and 1 where none does
abbrev pub number_under : List (List ℕ) → List (List ℕ) → List ℕ → ℕ
number_under [] texts wanted = 1
number_under (name ∷ names) [] wanted = 1
number_under (name ∷ names) (text ∷ texts) wanted = if is_text name wanted then unwrap_or (path_number text) 1 else number_under names texts wanted

-- ---- the methods of a path

abbrev pub methods : ℕ → List Method
methods number = option_map_or (λ (p : Path). p.methods) (path_at number) []

-- what a method asks
abbrev pub route : List ℕ → List Method → Option Route
route name methods = option_map (λ (m : Method). m.route) (find (λ (m : Method). is_text m.name name) methods)

-- the methods' names, parted by a comma and a space
abbrev pub method_names : List Method → List ℕ
method_names methods = join_by (λ (m : Method). m.name) (codes ", ") methods
