-- The reports of a tenant, and the indexes of the days on which they expire, of those that have requests and of those on which something is due.
use Rattle.std.specs.Prelude.{◌≡◌, ◌≤◌, ℕ, ℤ, ◌==◌, not, Bool, true, false, List, [], ◌∷◌, length, map, filter, if◌then◌else◌}
use Rattle.std.specs.List.{list_any, list_all}
use Rattle.std.specs.Ordering.{nat_cmp}
use Rattle.wb_base.specs.declared.kind.Kind.TheVariants.{Expiry}
use Rattle.wb_list.specs.Keyed.{has_key, insert_item}
use Rattle.wb_model.specs.Access.{requests}
use Rattle.wb_model.specs.Opened.{Apart}
use Rattle.wb_model.specs.Tables.{Case, has_number}
use Rattle.wb_model.specs.Trails.{expires}
use Rattle.wb_model.specs.ViewRows.{dues_of}
use Rattle.wb_terms.specs.Index.{same_term}
use Rattle.wb_terms.specs.declared.term_index.Term.{Term}
use Rattle.wb_tables.specs.Lives.{lives_on, is_dead}
use Rattle.wb_tables.specs.declared.numbered.Numbered.{Numbered}
use Rattle.wb_tables.specs.declared.tenancy.Report.{Report}

-- what is seen of the table: whose reports they are, the reports, and the room for more
pub record Reports : Type 0 where
  pub tenant : ℕ
  pub items : List Report
  pub spare : ℕ

-- a report expires on a day
abbrev pub expiry_of : ℕ → Case → Term
expiry_of tenant c = record { tenant = tenant; day = expires c.trail; number = c.number; kind = Expiry }

-- a report has an entry
abbrev pub is_begun : Case → Bool
is_begun c = not (length c.trail == 0)

-- the index has the expiry of each report, and nothing else
pub record IsIndexed (tenant : ℕ) (cs : List Case) (ts : List Term) : Type 0 where
  pub apart : Apart has_number cs
  pub begun : list_all is_begun cs ≡ true
  pub terms : (t : Term) → list_any (same_term t) ts ≡ list_any (λ c. same_term t (expiry_of tenant c)) cs

-- whether a term is in the index after one moved, where this tells of it before
abbrev pub moved : Term → Term → Term → Bool → Bool
moved before after t old = if same_term t after then true else if same_term t before then false else old

-- these are the numbers of the reports that do not live on this day, in whatever order
abbrev pub AreExpired : ℤ → List Case → List ℕ → Type 0
AreExpired today cs ns = (n : ℕ) → list_any (λ m. m == n) ns ≡ is_dead n today cs

-- a report that does not live on this day was taken out
pub record IsTakenOut (today : ℤ) (n : ℕ) (old new : List Case) : Type 0 where
  pub dead : is_dead n today old ≡ true
  pub left : new ≡ filter (λ c. not (has_number n c)) old
  pub live : filter (lives_on today) new ≡ filter (lives_on today) old

-- ---- the requests for an identity

-- those that are kept of each report are those of its trail
abbrev pub AreCustodied : List Report → Type 0
AreCustodied [] = Unit {0}
AreCustodied (r ∷ rs) = (r.desk.items ≡ requests r.case.items) × AreCustodied rs

-- each report has at most 100
abbrev pub AreFewRequests : List Case → Type 0
AreFewRequests [] = Unit {0}
AreFewRequests (c ∷ cs) = (length (requests c.trail) ≤ 100) × AreFewRequests cs

-- a report has requests
abbrev pub has_requests : Case → Bool
has_requests c = not (length (requests c.trail) == 0)

-- ---- what is due

-- something is due on a report
abbrev pub has_dues : Case → Bool
has_dues c = not (length (dues_of c.number c.trail) == 0)

-- ---- the indexes of those that pass a test

-- the index has their numbers, in their order
abbrev pub AreNumbersOf : (Case → Bool) → List Case → List Numbered → Type 0
AreNumbersOf passes cs index = map (λ (n : Numbered). n.number) index ≡ map (λ (c : Case). c.number) (filter passes cs)

-- the index with a number that belongs to it, or without one that does not
abbrev pub number_where : Bool → ℕ → List Numbered → List Numbered
number_where true n index = insert_item nat_cmp (λ (k : Numbered). k.number) index (record { number = n })
number_where false n index = filter (λ k. not (has_key nat_cmp (λ (k : Numbered). k.number) n k)) index
