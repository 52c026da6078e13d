-- The rule of trails, rule 5: each runs from 1 without a gap, and each entry is legal after those before it.
use Rattle.std.specs.Prelude.{ℕ, ◌+◌, ◌==◌, ◌&&◌, if◌then◌else◌, Bool, List, [], ◌∷◌, ◌++◌, length, Result, Ok, Err}
use Rattle.wb_base.specs.declared.rows.Key.{Key}
use Rattle.wb_row_codec.specs.declared.item.EntryItem.{EntryItem}
use Rattle.wb_model.specs.declared.registry.Lists.{Lists}
use Rattle.wb_model.specs.Legal.{Reckoning, reckoning, is_first, is_legal, is_next, last_at}
use Rattle.wb_model.specs.Openings.{registry_of}
use Rattle.wb_rows.specs.Reports.{Report}
use Rattle.wb_rows.specs.Places.{entry_key}

-- how a tenant reckons days
abbrev pub days : Lists → ℕ → Reckoning
days lists t = reckoning (registry_of lists t).settings

-- a report that has one entry
abbrev pub begun : EntryItem → Report
begun x = record { tenant = x.tenant; number = x.number; trail = x.entry ∷ [] }

-- a report with one more entry
abbrev pub continued : Report → EntryItem → Report
continued r x = record r { trail = r.trail ++ x.entry ∷ [] }

abbrev pub is_of : Report → EntryItem → Bool
is_of r x = (r.tenant == x.tenant) && (r.number == x.number)

-- an entry that begins a trail stands at its first place, and is legal there
unfoldable pub begins : Lists → EntryItem → Bool
begins lists x = (x.place == 1) && is_first (days lists x.tenant) x.entry

-- an entry that goes on with a trail stands at its next place, and is legal after it
unfoldable pub goes_on : Lists → Report → EntryItem → Bool
goes_on lists r x = (x.place == length r.trail + 1) && is_next (days lists r.tenant) (last_at 0 r.trail) r.trail x.entry

-- a report before others
abbrev pub with_report : Report → Result (List Report) Key → Result (List Report) Key
with_report r (Ok rs) = Ok (r ∷ rs)
with_report r (Err k) = Err k

-- the report that is read so far and those of the entries that are left, or the key of the first entry that breaks the rule
abbrev pub reports_after : Lists → Report → List EntryItem → Result (List Report) Key
reports_after lists r [] = Ok (r ∷ [])
reports_after lists r (x ∷ xs) =
    if is_of r x then (if goes_on lists r x then reports_after lists (continued r x) xs else Err (entry_key x))
    else (if begins lists x then with_report r (reports_after lists (begun x) xs) else Err (entry_key x))

-- the reports of entries, or the key of the first entry that breaks the rule
abbrev pub reports_of : Lists → List EntryItem → Result (List Report) Key
reports_of lists [] = Ok []
reports_of lists (x ∷ xs) = if begins lists x then reports_after lists (begun x) xs else Err (entry_key x)

-- a report's trail is legal as its tenant reckons days
abbrev pub is_legal_report : Lists → Report → Bool
is_legal_report lists r = is_legal (days lists r.tenant) r.trail
