-- The rule of a lock with tickets that keeps one history, and what its steps tell.
use Rattle.std.specs.Prelude.{◌≡◌, ℕ, ◌+◌, ◌-◌, ◌^◌, ◌<◌, List, [], ◌∷◌, ◌++◌, Bool, true, false, if◌then◌else◌, nat_eq, nat_lt, MatchBool, Option, Some, None, ◌==◌, zero, suc, length}
use mathlib.Core.Option.{none, some}
use mathlib.Core.Option as m
use lib.ListN.{get_elem?}
use Rattle.atomic_table.specs.Table.{State, Me, Step}
use Rattle.wb_ticket_lock.specs.declared.entry.Entry.{Entry}
use Rattle.wb_ticket_lock.specs.declared.entry.View.{View}
use Rattle.wb_ticket_lock.specs.Contents.{Content}

abbrev pub is_at : ℕ → ℕ → ℕ
is_at x y = if nat_eq y x then 1 else 0

-- how often x stands in the list
abbrev pub times : ℕ → List ℕ → ℕ
times x [] = 0
times x (y ∷ ys) = is_at x y + times x ys

abbrev pub once_below : ℕ → ℕ → ℕ
once_below x n = if nat_lt x n then 1 else 0

abbrev pub is_below_all : ℕ → List ℕ → Bool
is_below_all x [] = true
is_below_all x (y ∷ ys) = if nat_lt x y then is_below_all x ys else false

-- each is below those after it
abbrev pub is_rising : List ℕ → Bool
is_rising [] = true
is_rising (x ∷ xs) = if is_below_all x xs then is_rising xs else false

-- ---- histories

module _ {X D : Type 0} where
  abbrev pub places : List (Entry X D) → List ℕ
  places [] = []
  places (e ∷ es) = e.place ∷ places es

  -- each of these entries stands in the history at its place
  abbrev pub StandIn : List (Entry X D) → List (Entry X D) → Type 0
  StandIn history [] = Unit {0}
  StandIn history (e ∷ es) = (get_elem? history e.place ≡ some e) × StandIn history es

  -- entries, the first of which has this place, lead from a value to a value: each begins where the one before it ended, and what was done
  -- in it makes of the value before it the value after it
  abbrev pub Leads : (X → D → X → Type 0) → ℕ → X → List (Entry X D) → X → Type 0
  Leads does place x [] y = y ≡ x
  Leads does place x (e ∷ es) y = (e.place ≡ place) × (e.before ≡ x) × does e.before e.deed e.after × Leads does (suc place) e.after es y

-- ---- how a history is split

module _ {X D : Type 0} where
  -- each of these lists stands in the history
  abbrev pub AllStandIn : List (Entry X D) → List (List (Entry X D)) → Type 0
  AllStandIn history [] = Unit {0}
  AllStandIn history (m ∷ ms) = StandIn history m × AllStandIn history ms

  -- the places of each list rise
  abbrev pub AllRise : List (List (Entry X D)) → Type 0
  AllRise [] = Unit {0}
  AllRise (m ∷ ms) = (is_rising (places m) ≡ true) × AllRise ms

  -- how many entries these lists have
  abbrev pub count_all : List (List (Entry X D)) → ℕ
  count_all [] = 0
  count_all (m ∷ ms) = length m + count_all ms

  -- how often a place stands in them
  abbrev pub times_in_all : ℕ → List (List (Entry X D)) → ℕ
  times_in_all x [] = 0
  times_in_all x (m ∷ ms) = times x (places m) + times_in_all x ms

-- a history is split into these lists: they have as many entries, each stands in the history at its place, each list keeps the order of
-- places, and each place is that of one entry of one list
pub record IsSplitInto {X D : Type 0} (history : List (Entry X D)) (lists : List (List (Entry X D))) : Type 0 where
  pub as_many : count_all lists ≡ length history
  pub stand : AllStandIn history lists
  pub rise : AllRise lists
  pub once : (x : ℕ) → times_in_all x lists ≡ once_below x (length history)

-- ---- the rule

module _ {X D : Type 0} where
  -- f of each view, added up
  abbrev pub total : (View X D → ℕ) → List (View X D) → ℕ
  total f [] = 0
  total f (v ∷ vs) = f v + total f vs

  abbrev pub turn_of : View X D → ℕ
  turn_of v = if v.turn then 1 else 0

  -- the slot is at home where no view has its turn, and then it holds the value
  abbrev pub Homed : ℕ → X → ℕ → List (m.Option (Option (Content X D))) → Type 0
  Homed served value zero homes = (f : Content X D) × (homes ≡ some (Some f) ∷ []) × (f.entries ≡ served) × (f.value ≡ value)
  Homed served value (suc n) homes = homes ≡ none ∷ []

-- all are the parts; the words are the number of the next ticket, that of the ticket that is served, and waiting, of which nothing is said;
-- and the value went from the first one through all entries in the order of their places
pub record InOrder {X D : Type 0} (does : X → D → X → Type 0) (all : ℕ) (first : X) (s : State (Option (Content X D)) (View X D)) : Type 0 where
  pub next : ℕ
  pub served : ℕ
  pub waiting : List ℕ
  pub value : X
  pub history : List (Entry X D)
  pub words : s.words ≡ next ∷ served ∷ waiting
  pub small : next < 2 ^ 64
  pub parts : total (λ v. v.parts) s.views ≡ all
  -- the places of all entries are the numbers below the one that is served, each once, and there are as many entries
  pub placed : (x : ℕ) → total (λ v. times x (places v.mine)) s.views ≡ once_below x served
  pub counted : total (λ v. length v.mine) s.views ≡ served
  -- they are those of the history, each at its place
  pub stand : (id : ℕ) (v : View X D) → get_elem? s.views id ≡ some v → StandIn history v.mine
  pub long : length history ≡ served
  pub leads : Leads does 0 first history value
  -- the tickets that are out are the numbers from it up to before the next one, each once
  pub out : (x : ℕ) → total (λ v. times x v.tickets) s.views + once_below x served ≡ once_below x next
  -- who has its turn has the ticket that is served, and took the value
  pub turns : (id : ℕ) (v : View X D) → get_elem? s.views id ≡ some v → v.turn ≡ true → (v.tickets ≡ served ∷ []) × (v.took ≡ Some value)
  pub idle : (id : ℕ) (v : View X D) → get_elem? s.views id ≡ some v → v.parts ≡ 0 → (v.tickets ≡ []) × (v.turn ≡ false) × (v.mine ≡ [])
  pub home : Homed served value (total turn_of s.views) s.homes

-- ---- views

module _ {X D : Type 0} where
  abbrev pub newcomer : ℕ → View X D
  newcomer all = record { parts = all; tickets = []; turn = false; took = None; mine = [] }

  abbrev pub with_ticket : View X D → ℕ → View X D
  with_ticket v k = record { parts = v.parts; tickets = k ∷ []; turn = false; took = None; mine = v.mine }

  abbrev pub with_turn : View X D → ℕ → X → View X D
  with_turn v k x = record { parts = v.parts; tickets = k ∷ []; turn = true; took = Some x; mine = v.mine }

  abbrev pub entry_of : ℕ → X → D → X → Entry X D
  entry_of k x d y = record { place = k; before = x; deed = d; after = y }

  abbrev pub entered : View X D → ℕ → X → D → X → View X D
  entered v k x d y = record { parts = v.parts; tickets = []; turn = false; took = None; mine = v.mine ++ entry_of k x d y ∷ [] }

  abbrev pub one_less : View X D → View X D
  one_less v = record { parts = v.parts - 1; tickets = v.tickets; turn = v.turn; took = v.took; mine = v.mine }

  abbrev pub merged : View X D → View X D → View X D
  merged v w = record { parts = v.parts + w.parts; tickets = v.tickets; turn = v.turn; took = v.took; mine = v.mine ++ w.mine }

-- ---- what steps tell

module _ {X D : Type 0} where
  -- the view stays
  abbrev pub Stays : Step (Option (Content X D)) → Me (Option (Content X D)) (View X D) → ℕ → Me (Option (Content X D)) (View X D) → Type 0
  Stays s v n w = w ≡ v

  -- the number asked for was drawn, or it was gone
  abbrev pub Draws : Step (Option (Content X D)) → Me (Option (Content X D)) (View X D) → ℕ → Me (Option (Content X D)) (View X D) → Type 0
  Draws s v n w = MatchBool (n == s.first) (w ≡ (with_ticket v.0 s.first, [])) (w ≡ v)

  -- it is the ticket's turn, and the value is at hand, or not yet
  abbrev pub Looks : Step (Option (Content X D)) → Me (Option (Content X D)) (View X D) → ℕ → Me (Option (Content X D)) (View X D) → Type 0
  Looks s v n w =
      (k : ℕ) → v.0.tickets ≡ k ∷ []
      → MatchBool (n == k) ((f : Content X D) × (f.entries ≡ k) × (w ≡ (with_turn v.0 k f.value, (0, Some f) ∷ []))) (w ≡ v)

  -- the value went back, and the entry is the last of the seat's own
  abbrev pub PassesOn : Step (Option (Content X D)) → Me (Option (Content X D)) (View X D) → ℕ → Me (Option (Content X D)) (View X D) → Type 0
  PassesOn s v n w =
      (k : ℕ) (f : Content X D) (x : X) (d : D) → v.0.tickets ≡ k ∷ [] → v.1 ≡ (0, Some f) ∷ [] → v.0.took ≡ Some x → f.last ≡ Some d
      → (n ≡ k) × (w ≡ (entered v.0 k x d f.value, [])) × ((i : ℕ) → 0 < times i (places v.0.mine) → i < k)
