-- The counts of all tenants.
use Rattle.std.proofs.Common.{◌≡◌, ℕ, ◌<◌, ◌≤◌, ◌+◌, ◌*◌, List, [], ◌∷◌, length, map, set, get_or, zero, suc, arith}
use Rattle.std.specs.Ordering.{nat_cmp}
use Rattle.std.specs.List.{All}
use Rattle.std.proofs.lemmas.List.{length-map}
use Rattle.std.proofs.lemmas.List.Elements.{All-nil, All-cons}
use Rattle.std.proofs.lemmas.List.Sums.{sum_by-cons}
use Rattle.std.proofs.lemmas.Map.Views.{length-le_from_below}
use Rattle.wb_list.specs.Keyed.{IsAscending}
use Rattle.wb_custody.specs.declared.sealed.SealedItem.{SealedItem}
use Rattle.wb_model.specs.Opened.{AtMost}
use Rattle.wb_tables.specs.Places.{ArePlaces}
use Rattle.wb_tables.specs.Kept.{PlainTenancy, case_of, place_of, live_at, numbers_at, sessions_at}
use Rattle.wb_tables.specs.declared.tenancy.Report.{Report as KeptCase}
use Rattle.wb_tables.specs.declared.tenancy.Tenancy.{Tenancy as KeptTenancy}
use Rattle.wb_tables.proofs.CaseLists.{number_of}

abbrev cases_at : PlainTenancy → ℕ
cases_at x = length x.plain.cases

abbrev last_at : PlainTenancy → ℕ
last_at x = x.plain.numbering.last

abbrev standing_at : PlainTenancy → ℕ
standing_at x = length x.plain.sessions

-- ---- what was counted

-- of all tenants, those up to an id were counted, and these are left
pub record IsCounted (all left : List PlainTenancy) (live numbers sessions : ℕ) : Type 0 where
  pub id : ℕ
  pub turns : ℕ
  pub sealed : List SealedItem
  pub places : ArePlaces turns id sealed left
  pub live_is : live + live_at left ≡ live_at all
  pub numbers_is : numbers + numbers_at left ≡ numbers_at all
  pub sessions_is : sessions + sessions_at left ≡ sessions_at all
  pub live_most : live ≤ id * 4_294_967_296
  pub numbers_most : numbers ≤ id * 4_294_967_296

numbers_below : (last : ℕ) (cs : List KeptCase) → AtMost last (map case_of cs) → All (λ n. n < last + 1) (map number_of cs)
numbers_below last [] h = All-nil (λ n. n < last + 1)
numbers_below last (c ∷ cs) h = All-cons (λ n. n < last + 1) c.number (map number_of cs) (omega (arith, h.0)) (numbers_below last cs h.1)

-- a tenant has no more reports than numbers, and 0
few_cases : (last : ℕ) (cs : List KeptCase) → IsAscending nat_cmp number_of cs → AtMost last (map case_of cs) → length cs ≤ last + 1
few_cases last cs ascending h = simp length-map at (length-le_from_below (last + 1) (map number_of cs) ascending (numbers_below last cs h))

pub counted_next : (all : List PlainTenancy) (x : KeptTenancy) (left : List PlainTenancy) (live numbers sessions : ℕ) → IsAscending nat_cmp number_of x.cases.items → x.numbering.last < 4_294_967_296 → IsCounted all (place_of x ∷ left) live numbers sessions
    → IsCounted all left (live + length x.cases.items) (numbers + x.numbering.last) (sessions + length x.sessions.items)
counted_next all x left live numbers sessions ascending small h =
    let few : length x.cases.items ≤ x.numbering.last + 1 = few_cases x.numbering.last x.cases.items ascending h.places.0.1.most in
    let above : h.id < x.configuration.tenant = h.places.0.0 in
    let cases : length (map case_of x.cases.items) ≡ length x.cases.items = simp length-map in
    let live_split : live_at (place_of x ∷ left) ≡ length (map case_of x.cases.items) + live_at left = sum_by-cons cases_at (place_of x) left in
    let numbers_split : numbers_at (place_of x ∷ left) ≡ x.numbering.last + numbers_at left = sum_by-cons last_at (place_of x) left in
    let sessions_split : sessions_at (place_of x ∷ left) ≡ standing_at (place_of x) + sessions_at left = sum_by-cons standing_at (place_of x) left in
    let standing : standing_at (place_of x) ≡ length x.sessions.items = simp length-map in
    record {
      id = x.configuration.tenant;
      turns = h.turns;
      sealed = h.sealed;
      places = h.places.1;
      live_is = omega (arith, h.live_is);
      numbers_is = omega (arith, h.numbers_is);
      sessions_is = omega (arith, h.sessions_is);
      live_most = omega (arith, h.live_most);
      numbers_most = omega (arith, h.numbers_most);
    }

-- ---- a turn

-- one session more at one tenant
pub sessions_set : (i : ℕ) (ks : List KeptTenancy) (y d : KeptTenancy) → i < length ks → standing_at (place_of y) ≤ standing_at (place_of (get_or ks i d)) + 1 → sessions_at (map place_of (set ks i y)) ≤ sessions_at (map place_of ks) + 1
sessions_set i [] y d lt le = absurd (omega arith)
sessions_set zero (x ∷ ks) y d lt le = omega (arith, le, sum_by-cons standing_at (place_of y) (map place_of ks), sum_by-cons standing_at (place_of x) (map place_of ks))
sessions_set (suc i) (x ∷ ks) y d lt le =
    let rest : sessions_at (map place_of (set ks i y)) ≤ sessions_at (map place_of ks) + 1 = sessions_set i ks y d (omega arith) le in
    omega (arith, rest, sum_by-cons standing_at (place_of x) (map place_of (set ks i y)), sum_by-cons standing_at (place_of x) (map place_of ks))
