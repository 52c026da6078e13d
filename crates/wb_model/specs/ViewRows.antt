-- The rows that bodies list: a report that is read, what is due of one, and the requests for its identity.
use Rattle.std.specs.Prelude.{ℕ, ◌+◌, if◌then◌else◌, List, [], ◌∷◌, ◌++◌, filter, map, fold, int_lt, is_some}
use Rattle.wb_model.specs.declared.access.AccessRequest.{AccessRequest}
use Rattle.wb_model.specs.declared.entry.Entry.{Entry}
use Rattle.wb_model.specs.declared.registry.UserItem.{UserItem}
use Rattle.wb_model.specs.declared.view.Listed.{Listed}
use Rattle.wb_model.specs.declared.view.Due.{Due}
use Rattle.wb_model.specs.declared.view.DueKind.TheVariants as kinds
use Rattle.wb_model.specs.declared.view.Custodied.{Custodied}
use Rattle.wb_model.specs.Access.{requests, state_now}
use Rattle.wb_model.specs.Trails.{received, ack_due, context, status, is_closed, label, acknowledged, feedback_due, feedback_given, expires, reads}
use Rattle.wb_model.specs.Tables.{Case, disablings}

-- the reports that a user reads
abbrev pub readable : ℕ → List Case → List Case
readable user cases = filter (λ (c : Case). reads user c.trail) cases

-- ---- reports

-- the row of the report of a number with this trail
abbrev pub listed : ℕ → List Entry → Listed
listed number trail = record {
  number = number;
  context = context trail;
  label = label trail;
  status = status trail;
  received = received trail;
  ack_due = ack_due trail;
  expires = expires trail;
}

abbrev pub all_listed : List Case → List Listed
all_listed cases = map (λ (c : Case). listed c.number c.trail) cases

-- ---- what is due

-- on the report of a number with this trail, the acknowledgement first
abbrev pub dues_of : ℕ → List Entry → List Due
dues_of number trail =
    if is_closed trail then [] else
    ((if is_some (acknowledged trail) then [] else record { day = ack_due trail; kind = kinds.Ack; number = number } ∷ []) ++
    (if feedback_given trail then [] else record { day = feedback_due trail; kind = kinds.Feedback; number = number } ∷ []))

abbrev pub dues : List Case → List Due
dues [] = []
dues (c ∷ cs) = dues_of c.number c.trail ++ dues cs

-- a due among others by its day, after those of the same day
abbrev pub due_among : List Due → Due → List Due
due_among [] d = d ∷ []
due_among (x ∷ xs) d = if int_lt d.day x.day then d ∷ x ∷ xs else x ∷ due_among xs d

-- by day, and those of one day by number and kind, since they come so
abbrev pub all_due : List Case → List Due
all_due cases = fold due_among [] (dues cases)

-- ---- requests for an identity

-- those on a report, numbered from the number on, with the states that they have by now
abbrev pub custodied_from : List UserItem → ℕ → ℕ → List AccessRequest → List Custodied
custodied_from users number id [] = []
custodied_from users number id (r ∷ rs) = record {
  number = number;
  id = id;
  by = r.by;
  reason = r.reason;
  state = state_now (disablings r.by users) r;
  effective = r.effective;
} ∷ custodied_from users number (id + 1) rs

abbrev pub custodied : List UserItem → ℕ → List AccessRequest → List Custodied
custodied users number asked = custodied_from users number 1 asked

abbrev pub all_custodied : List UserItem → List Case → List Custodied
all_custodied users [] = []
all_custodied users (c ∷ cs) = custodied users c.number (requests c.trail) ++ all_custodied users cs
