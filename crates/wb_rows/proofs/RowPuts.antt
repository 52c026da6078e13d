-- A row that is put among the rows of a list's items, and among the rows of a host.
use Rattle.std.proofs.Common.{◌≡◌, inl, inr, ℕ, zero, suc, ◌+◌, ◌<◌, List, [], ◌∷◌, ◌++◌, map, Option, Some, None, refl, sym, ap, ◌∙◌, subst, arith}
use Rattle.std.specs.declared.cmp.Ordering.{Ordering}
use Rattle.std.specs.declared.cmp.Ordering.TheVariants.{Less, Equal, Greater}
use Rattle.std.specs.Ordering.{nat_cmp, match_ordering, ordering_then}
use Rattle.std.specs.Cmp.{nat_cmp_is}
use Rattle.std.specs.Prelude.{All}
use Rattle.std.proofs.lemmas.List.Elements.{All-head, All-tail}
use Rattle.wb_list.specs.Keyed.{insert_item}
use Rattle.wb_base.specs.AnswerList.{Answered}
use Rattle.wb_base.specs.KeptRows.{key_cmp}
use Rattle.wb_base.specs.declared.rows.Key.{Key}
use Rattle.wb_base.specs.declared.rows.Row.{Row}
use Rattle.wb_model.specs.declared.entry.Entry.{Entry}
use Rattle.wb_model.specs.Rows.{entries_from, trail_rows, sealed_row, sealed_rows, kinds, of_tenants, of_kinds, tenants_rows}
use Rattle.wb_model.specs.Tables.{Case}
use Rattle.wb_model.specs.Tenants.{Tenancy}
use Rattle.wb_model.proofs.Found.{Held}
use Rattle.wb_model.proofs.KindRows.{each}
use Rattle.wb_model.proofs.PutLaw.{AreBefore, AreAfter, less_kind, above_kind, less_tenant, above_tenant, put, put_past, put_here, before_each, after_each, after_append, each_append, each_same, each_swap}

-- what holds of all of a list holds of each that is in it
pub held_all : {X : Type 0} (P : X → Type 0) (xs : List X) → All P xs → (x : X) → Held x xs → P x
held_all P [] all x held = absurd held
held_all P (y ∷ ys) all x (inl e) = subst P (sym e) (All-head P y ys all)
held_all P (y ∷ ys) all x (inr held) = held_all P ys (All-tail P y ys all) x held

-- ---- among the rows of a list's items

-- with rows after its key, a row is put into those that come first
pub put_front : (a b : List Row) (x : Row) → AreAfter x.key b → put (a ++ b) x ≡ put a x ++ b
put_front [] b x h = put_here [] b x tt h
put_front (r ∷ a) b x h = by (key_cmp r.key x.key) (put_front a b x h)
  where
    by : (o : Ordering) → put (a ++ b) x ≡ put a x ++ b → match_ordering o (r ∷ put (a ++ b) x) (x ∷ (a ++ b)) (x ∷ r ∷ (a ++ b)) ≡ match_ordering o (r ∷ put a x) (x ∷ a) (x ∷ r ∷ a) ++ b
    by Less more = ap (λ l. r ∷ l) more
    by Equal more = refl
    by Greater more = refl

-- where it changes the rows of one item, that item is changed, and the rows of the others are as they were
pub put_each : {X : Type 0} (f g : X → List Row) (before after : List X) (y z : X) (x : Row) → ((b : X) → Held b before → AreBefore x.key (f b)) → ((b : X) → Held b after → AreAfter x.key (f b))
    → ((b : X) → Held b before → f b ≡ g b) → ((b : X) → Held b after → f b ≡ g b) → put (f y) x ≡ g z → put (each f (before ++ (y ∷ after))) x ≡ each g (before ++ (z ∷ after))
put_each f g before after y z x low high old new is =
    ap (λ l. put l x) (each_append f before (y ∷ after))
    ∙ (put_past (each f before) (f y ++ each f after) x (before_each x.key f before low)
    ∙ (ap (λ l. each f before ++ l) (put_front (f y) (each f after) x (after_each x.key f after high))
    ∙ ((λ i. each_same f g before old i ++ (is i ++ each_same f g after new i)) ∙ sym (each_append g before (z ∷ after)))))

-- the row of an item is put among the rows of items as the item is put among them
pub put_item : {X : Type 0} (key : X → ℕ) (r : X → Row) (xs : List X) (x : X) → ((y : X) → Held y xs → key_cmp (r y).key (r x).key ≡ nat_cmp (key y) (key x)) → put (map r xs) (r x) ≡ map r (insert_item nat_cmp key xs x)
put_item key r [] x same = refl
put_item {X} key r (y ∷ ys) x same = rw (same y (inl refl)) (by (nat_cmp (key y) (key x)) (put_item key r ys x (λ z held. same z (inr held))))
  where
    by : (o : Ordering) → put (map r ys) (r x) ≡ map r (insert_item nat_cmp key ys x) → match_ordering o (r y ∷ put (map r ys) (r x)) (r x ∷ map r ys) (r x ∷ r y ∷ map r ys) ≡ map r (match_ordering o (y ∷ insert_item nat_cmp key ys x) (x ∷ ys) (x ∷ y ∷ ys))
    by Less more = ap (λ l. r y ∷ l) more
    by Equal more = refl
    by Greater more = refl

-- ---- the keys of rows

abbrev pub key : ℕ → ℕ → ℕ → ℕ → Key
key kind t a b = record { kind = kind; tenant = t; a = a; b = b }

-- of one kind and tenant they have the order of their numbers
pub numbers_order : (kind t a b c d : ℕ) → key_cmp (key kind t a b) (key kind t c d) ≡ ordering_then (nat_cmp a c) (nat_cmp b d)
numbers_order kind t a b c d = rw (sym (nat_cmp_is kind kind Equal refl), sym (nat_cmp_is t t Equal refl)) refl

pub number_below : (kind t a b c d : ℕ) → a < c → key_cmp (key kind t a b) (key kind t c d) ≡ Less
number_below kind t a b c d lt = numbers_order kind t a b c d ∙ ap (λ o. ordering_then o (nat_cmp b d)) (sym (nat_cmp_is a c Less lt))

pub number_above : (kind t a b c d : ℕ) → c < a → key_cmp (key kind t a b) (key kind t c d) ≡ Greater
number_above kind t a b c d lt = numbers_order kind t a b c d ∙ ap (λ o. ordering_then o (nat_cmp b d)) (sym (nat_cmp_is a c Greater lt))

-- all rows have such keys
abbrev pub HaveKeys : (Key → Type 0) → List Row → Type 0
HaveKeys P [] = Unit {0}
HaveKeys P (r ∷ rs) = P r.key × HaveKeys P rs

pub keys_before : (P : Key → Type 0) (k : Key) (rs : List Row) → ((m : Key) → P m → key_cmp m k ≡ Less) → HaveKeys P rs → AreBefore k rs
keys_before P k [] less have = tt
keys_before P k (r ∷ rs) less have = (less r.key have.0, keys_before P k rs less have.1)

pub keys_after : (P : Key → Type 0) (k : Key) (rs : List Row) → ((m : Key) → P m → key_cmp m k ≡ Greater) → HaveKeys P rs → AreAfter k rs
keys_after P k [] greater have = tt
keys_after P k (r ∷ rs) greater have = (greater r.key have.0, keys_after P k rs greater have.1)

pub keys_append : (P : Key → Type 0) (a b : List Row) → HaveKeys P a → HaveKeys P b → HaveKeys P (a ++ b)
keys_append P [] b h g = g
keys_append P (r ∷ a) b h g = (h.0, keys_append P a b h.1 g)

keys_map : {X : Type 0} (P : Key → Type 0) (f : X → Row) (xs : List X) → ((x : X) → P (f x).key) → HaveKeys P (map f xs)
keys_map P f [] h = tt
keys_map P f (x ∷ xs) h = (h x, keys_map P f xs h)

pub entry_keys : (P : Key → Type 0) (t n place : ℕ) (es : List Entry) → ((b : ℕ) → P (key 6 t n b)) → HaveKeys P (entries_from t n place es)
entry_keys P t n place [] h = tt
entry_keys P t n place (e ∷ es) h = (h place, entry_keys P t n (place + 1) es h)

trail_keys : (P : Key → Type 0) (t : ℕ) (cs : List Case) → ((a b : ℕ) → P (key 6 t a b)) → HaveKeys P (trail_rows t cs)
trail_keys P t [] h = tt
trail_keys P t (c ∷ cs) h = keys_append P (entries_from t c.number 1 c.trail) (trail_rows t cs) (entry_keys P t c.number 1 c.trail (h c.number)) (trail_keys P t cs h)

pub answer_keys : (P : Key → Type 0) (t n : ℕ) (o : Option Answered) → P (key 7 t n 0) → HaveKeys P (sealed_row t n o)
answer_keys P t n None h = tt
answer_keys P t n (Some a) h = (h, tt)

sealed_keys : (P : Key → Type 0) (t : ℕ) (sealed : ℕ → Option Answered) (cs : List Case) → ((a : ℕ) → P (key 7 t a 0)) → HaveKeys P (sealed_rows t sealed cs)
sealed_keys P t sealed [] h = tt
sealed_keys P t sealed (c ∷ cs) h = keys_append P (sealed_row t c.number (sealed c.number)) (sealed_rows t sealed cs) (answer_keys P t c.number (sealed c.number) (h c.number)) (sealed_keys P t sealed cs h)

-- ---- the kinds of rows

-- a key of this kind and tenant
abbrev pub IsOf : ℕ → ℕ → Key → Type 0
IsOf kind t k = (k.kind ≡ kind) × (k.tenant ≡ t)

-- the kinds of these rows follow one another from this one on
abbrev pub AreKinds : ℕ → List (Tenancy → List Row) → Type 0
AreKinds kind [] = Unit {0}
AreKinds kind (f ∷ fs) = ((x : Tenancy) → HaveKeys (IsOf kind x.id) (f x)) × AreKinds (kind + 1) fs

pub kinds_follow : AreKinds 1 kinds
kinds_follow = (
  λ x. ((refl, refl), tt),
  (
    λ x. ((refl, refl), tt),
    (
      λ x. keys_map (IsOf 3 x.id) _ x.tables.plain.registry.users (λ u. (refl, refl)),
      (
        λ x. keys_map (IsOf 4 x.id) _ x.tables.plain.registry.forms (λ f. (refl, refl)),
        (
          λ x. keys_map (IsOf 5 x.id) _ x.tables.plain.registry.contexts (λ c. (refl, refl)),
          (
            λ x. trail_keys (IsOf 6 x.id) x.id x.tables.plain.cases (λ a b. (refl, refl)),
            (λ x. sealed_keys (IsOf 7 x.id) x.id x.tables.sealed x.tables.plain.cases (λ a. (refl, refl)), tt),
          ),
        ),
      ),
    ),
  ),
)

-- ---- among the rows of a host

-- two tenancies have the same rows of these kinds
abbrev pub AreSame : List (Tenancy → List Row) → Tenancy → Tenancy → Type 0
AreSame [] y z = Unit {0}
AreSame (f ∷ fs) y z = (f y ≡ f z) × AreSame fs y z

-- a row that is put makes of a tenancy's rows of the kind at a place those of the other; of the other kinds these have the same
abbrev pub Makes : ℕ → List (Tenancy → List Row) → Row → Tenancy → Tenancy → Type 0
Makes place [] x y z = ⊥
Makes zero (f ∷ fs) x y z = (put (f y) x ≡ f z) × AreSame fs y z
Makes (suc place) (f ∷ fs) x y z = (f y ≡ f z) × Makes place fs x y z

pub of_each : (f : Tenancy → List Row) (xs : List Tenancy) → of_tenants f xs ≡ each f xs
of_each f [] = refl
of_each f (x ∷ xs) = ap (λ l. f x ++ l) (of_each f xs)

-- the rows of a kind come before a key of a later one
pub kind_before : (kind : ℕ) (f : Tenancy → List Row) (xs : List Tenancy) (k : Key) → ((b : Tenancy) → HaveKeys (IsOf kind b.id) (f b)) → kind < k.kind → AreBefore k (of_tenants f xs)
kind_before kind f xs k of lt = subst (AreBefore k) (sym (of_each f xs)) (before_each k f xs (λ b held. keys_before (IsOf kind b.id) k (f b) (λ m of_b. less_kind m k (omega (arith, of_b.0, lt))) (of b)))

-- and the rows of later kinds come after it
pub kinds_after : (kind : ℕ) (fs : List (Tenancy → List Row)) (xs : List Tenancy) (k : Key) → AreKinds kind fs → k.kind < kind → AreAfter k (of_kinds fs xs)
kinds_after kind [] xs k follow lt = tt
kinds_after kind (f ∷ fs) xs k follow lt =
    after_append k (of_tenants f xs) (of_kinds fs xs)
    (subst (AreAfter k) (sym (of_each f xs)) (after_each k f xs (λ b held. keys_after (IsOf kind b.id) k (f b) (λ m of_b. above_kind m k (omega (arith, of_b.0, lt))) (follow.0 b))))
    (kinds_after (kind + 1) fs xs k follow.1 (omega (arith, lt)))

module _ (before after : List Tenancy) (y z : Tenancy) (below : (b : Tenancy) → Held b before → b.id < y.id) (above : (b : Tenancy) → Held b after → y.id < b.id) where
  abbrev whole : List Tenancy
  whole = before ++ (y ∷ after)

  abbrev made : List Tenancy
  made = before ++ (z ∷ after)

  kind_same : (f : Tenancy → List Row) → f y ≡ f z → of_tenants f whole ≡ of_tenants f made
  kind_same f same = of_each f whole ∙ (each_swap f before after y z same ∙ sym (of_each f made))

  kinds_same : (fs : List (Tenancy → List Row)) → AreSame fs y z → of_kinds fs whole ≡ of_kinds fs made
  kinds_same [] same = refl
  kinds_same (f ∷ fs) same = λ i. kind_same f same.0 i ++ kinds_same fs same.1 i

  kind_made : (kind : ℕ) (f : Tenancy → List Row) (x : Row) → ((b : Tenancy) → HaveKeys (IsOf kind b.id) (f b)) → x.key.kind ≡ kind → x.key.tenant ≡ y.id → put (f y) x ≡ f z → put (of_tenants f whole) x ≡ of_tenants f made
  kind_made kind f x of same here is =
      ap (λ l. put l x) (of_each f whole)
      ∙ (put_each f f before after y z x
      (λ b held. keys_before (IsOf kind b.id) x.key (f b) (λ m of_b. less_tenant m x.key (of_b.0 ∙ sym same) (let lower = below b held in omega (arith, lower, of_b.1, here))) (of b))
      (λ b held. keys_after (IsOf kind b.id) x.key (f b) (λ m of_b. above_tenant m x.key (of_b.0 ∙ sym same) (let higher = above b held in omega (arith, higher, of_b.1, here))) (of b))
      (λ b held. refl) (λ b held. refl) is
      ∙ sym (of_each f made))

  kinds_made : (kind place : ℕ) (fs : List (Tenancy → List Row)) (x : Row) → AreKinds kind fs → x.key.kind ≡ kind + place → x.key.tenant ≡ y.id → Makes place fs x y z → put (of_kinds fs whole) x ≡ of_kinds fs made
  kinds_made kind place [] x follow is here makes = absurd makes
  kinds_made kind zero (f ∷ fs) x follow is here makes =
      put_front (of_tenants f whole) (of_kinds fs whole) x (kinds_after (kind + 1) fs whole x.key follow.1 (omega (arith, is)))
      ∙ (λ i. kind_made kind f x follow.0 (omega (arith, is)) here makes.0 i ++ kinds_same fs makes.1 i)
  kinds_made kind (suc place) (f ∷ fs) x follow is here makes =
      put_past (of_tenants f whole) (of_kinds fs whole) x (kind_before kind f whole x.key follow.0 (omega (arith, is)))
      ∙ (λ i. kind_same f makes.0 i ++ kinds_made (kind + 1) place fs x follow.1 (omega (arith, is)) here makes.1 i)

-- THE LAW of a row of a tenant: where it makes of the tenant's rows those of another state of the tenant, it makes of the host's rows those with that state
pub put_rows : (before after : List Tenancy) (y z : Tenancy) → ((b : Tenancy) → Held b before → b.id < y.id) → ((b : Tenancy) → Held b after → y.id < b.id)
    → (place : ℕ) (x : Row) → x.key.kind ≡ 1 + place → x.key.tenant ≡ y.id → Makes place kinds x y z → put (tenants_rows (before ++ (y ∷ after))) x ≡ tenants_rows (before ++ (z ∷ after))
put_rows before after y z below above place x is here makes = kinds_made before after y z below above 1 place kinds x kinds_follow is here makes
