-- The rules of reports and numberings: rules 6 to 10.
use Rattle.std.specs.Prelude.{ℕ, ◌==◌, ◌&&◌, ◌||◌, not, nat_le, if◌then◌else◌, Bool, true, false, List, [], ◌∷◌, find, Option, Some, None, is_some}
use Rattle.std.specs.List.{list_all}
use Rattle.std.specs.Option.{option_map_or, option_or}
use Rattle.wb_base.specs.AnswerList.{Answered, is_text}
use Rattle.wb_custody.specs.declared.sealed.SealedItem.{SealedItem}
use Rattle.wb_custody.specs.SealedAnswers.{answers_of}
use Rattle.wb_row_codec.specs.declared.item.EntryItem.{EntryItem}
use Rattle.wb_row_codec.specs.declared.item.NumberingItem.{NumberingItem}
use Rattle.wb_model.specs.declared.entry.Entry.{Entry}
use Rattle.wb_model.specs.declared.registry.FormItem.{FormItem}
use Rattle.wb_model.specs.declared.registry.Lists.{Lists}
use Rattle.wb_model.specs.KeptRules.{is_named, has_public_answers, are_valid_after}
use Rattle.wb_model.specs.Opened.{is_numbering}
use Rattle.wb_model.specs.Openings.{registry_of}
use Rattle.wb_model.specs.Trails.{Submission, submission_in, is_marked, has_identity}
use Rattle.wb_rows.specs.Reports.{Report}
use Rattle.wb_base.specs.declared.rows.Key.{Key}
use Rattle.wb_rows.specs.Blame.{first_breaking}
use Rattle.wb_rows.specs.Places.{entry_key, sealed_key}

-- ---- 6

-- a submission's answers are public ones, and valid for its form, which is there
unfoldable pub has_right_answers : List FormItem → Entry → Bool
has_right_answers forms e = if is_some (submission_in e.deed) then has_public_answers forms (e ∷ []) else true

-- 6: what an entry names is there, users with the role of what they did, and a submission's answers are right
unfoldable pub is_right_entry : Lists → EntryItem → Bool
is_right_entry lists x = is_named (registry_of lists x.tenant) x.entry && has_right_answers (registry_of lists x.tenant).forms x.entry

-- ---- 7

abbrev pub is_numbering_of : ℕ → NumberingItem → Bool
is_numbering_of t x = x.tenant == t

-- 7: a tenant has drawn the number
unfoldable pub is_drawn : List NumberingItem → ℕ → ℕ → Bool
is_drawn numberings t n = option_map_or (λ (x : NumberingItem). nat_le n x.numbering.last) (find (is_numbering_of t) numberings) false

-- ---- 8

-- 8: where an entry says that identity answers were given, they are there
unfoldable pub has_its_seal : List SealedItem → EntryItem → Bool
has_its_seal sealed x = if is_marked x.entry.deed then is_some (answers_of sealed x.tenant x.number) else true

-- identity answers are some, and valid after the public answers of a submission
unfoldable pub is_late_after : List FormItem → Answered → Entry → Bool
is_late_after forms given e = if is_some (submission_in e.deed) then are_valid_after forms (e ∷ []) (Some given) else false

-- they are that after the submission with which a trail begins
abbrev pub are_late_answers : List FormItem → Answered → List Entry → Bool
are_late_answers forms given [] = false
are_late_answers forms given (e ∷ es) = is_late_after forms given e

abbrev pub is_report : ℕ → ℕ → Report → Bool
is_report t n r = (r.tenant == t) && (r.number == n)

-- 8: identity answers are of a report whose trail says that they were given, and they are valid
unfoldable pub is_right_seal : Lists → List Report → SealedItem → Bool
is_right_seal lists reports x = option_map_or (λ (r : Report). has_identity r.trail && are_late_answers (registry_of lists x.tenant).forms x.answers r.trail) (find (is_report x.tenant x.number) reports) false

-- ---- 9

-- two submissions have the same receipt
abbrev pub is_same_receipt : Option Submission → Option Submission → Bool
is_same_receipt (Some s) (Some r) = is_text s.receipt r.receipt
is_same_receipt (Some s) None = false
is_same_receipt None other = false

-- 9: no other submission to the tenant has the submission's receipt
unfoldable pub same_receipt : EntryItem → EntryItem → Bool
same_receipt x y = (x.tenant == y.tenant) && is_same_receipt (submission_in x.entry.deed) (submission_in y.entry.deed)

-- ---- 10

-- an entry is no submission to the tenant, or not after the moment of its last draw
unfoldable pub is_by_draw : NumberingItem → EntryItem → Bool
is_by_draw x e = not ((e.tenant == x.tenant) && is_some (submission_in e.entry.deed)) || nat_le e.entry.at x.numbering.at

-- 10: a numbering is one that draws may have left, and no submission is after its moment
unfoldable pub is_right_numbering : List EntryItem → NumberingItem → Bool
is_right_numbering entries x = is_numbering x.numbering && list_all (is_by_draw x) entries

-- the first entry, or else the first identity answers, of a number that was not drawn
abbrev pub first_undrawn_in : List NumberingItem → List EntryItem → List SealedItem → Option Key
first_undrawn_in numberings entries sealed = option_or (first_breaking (λ x. is_drawn numberings x.tenant x.number) entry_key entries) (first_breaking (λ x. is_drawn numberings x.tenant x.number) sealed_key sealed)
