-- How many sessions each principal has, as a table by hash has it.
use Rattle.std.specs.Prelude.{◌≡◌, ℕ, ◌==◌, ◌&&◌, Bool, List, count_by}
use Rattle.std.specs.Map.{lookup, count_at}
use Rattle.wb_base.specs.declared.callers.Principal.{Principal}
use Rattle.wb_base.specs.declared.callers.Principal.TheVariants.{User, Report}
use Rattle.wb_access.specs.Sessions.{is_of}
use Rattle.wb_access.specs.declared.sessions.Session.{Session}

-- an entry: a principal's key, and how many sessions it has
abbrev pub Counted : Type 0
Counted = (ℕ × ℕ × ℕ) × ℕ

abbrev pub key_of : Principal → ℕ × ℕ × ℕ
key_of (User t u) = (0, t, u)
key_of (Report t n) = (1, t, n)

abbrev pub same_key : ℕ × ℕ × ℕ → ℕ × ℕ × ℕ → Bool
same_key a b = ((a.0 == b.0) && (a.1 == b.1)) && (a.2 == b.2)

-- how many sessions a principal has, by the entries
abbrev pub count_in : Principal → List Counted → ℕ
count_in p entries = count_at (λ k. lookup (same_key k) entries) (key_of p)

-- each principal has as many sessions as is counted
abbrev pub AreCounted : List Session → List Counted → Type 0
AreCounted sessions entries = (p : Principal) → count_in p entries ≡ count_by (is_of p) sessions
