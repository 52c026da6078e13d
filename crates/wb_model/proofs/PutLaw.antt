-- The rows after a submission's changes are the rows of the changed tables.
use Rattle.std.proofs.Common.{◌≡◌, inl, inr, ℕ, ◌<◌, ◌≤◌, ◌+◌, true, false, List, [], ◌∷◌, ◌++◌, map, Option, Some, None, refl, sym, ap, ◌∙◌, arith}
use Rattle.std.specs.Prelude.{◌==◌}
use Rattle.std.specs.declared.cmp.Ordering.TheVariants.{Less, Equal, Greater}
use Rattle.std.specs.Cmp.{nat_cmp_is}
use Rattle.std.proofs.lemmas.Bool.Decides.{nat_tests}
use Rattle.std.proofs.lemmas.List.{append_assoc}
use Rattle.wb_list.specs.Keyed.{insert_item}
use Rattle.wb_base.specs.AnswerList.{Answered}
use Rattle.wb_base.specs.KeptRows.{key_cmp, key_of, all_changed}
use Rattle.wb_base.specs.declared.rows.Key.{Key}
use Rattle.wb_base.specs.declared.rows.Row.{Row}
use Rattle.wb_model.specs.declared.entry.Entry.{Entry}
use Rattle.wb_model.specs.Tables.{Case}
use Rattle.wb_model.specs.Opened.{AtMost}
use Rattle.wb_model.specs.Changes.{Begins}
use Rattle.wb_model.specs.Host.{Sealed, sealed_under, changed, drawn}
use Rattle.wb_model.specs.Tenants.{Tenancy}
use Rattle.wb_model.proofs.KindRows.{Texts, row, each, settings_rows, numbering_rows, user_rows, form_rows, context_rows, entry_rows, trail_rows, sealed_row, sealed_rows, rows_of, opened_puts}
use Rattle.wb_model.proofs.Found.{Held}

-- ---- keys below and above

abbrev pub AreBefore : Key → List Row → Type 0
AreBefore k [] = Unit {0}
AreBefore k (r ∷ rs) = (key_cmp r.key k ≡ Less) × AreBefore k rs

abbrev pub AreAfter : Key → List Row → Type 0
AreAfter k [] = Unit {0}
AreAfter k (r ∷ rs) = (key_cmp r.key k ≡ Greater) × AreAfter k rs

pub less_kind : (k m : Key) → k.kind < m.kind → key_cmp k m ≡ Less
less_kind k m lt = rw (sym (nat_cmp_is k.kind m.kind Less lt)) refl

pub above_kind : (k m : Key) → m.kind < k.kind → key_cmp k m ≡ Greater
above_kind k m lt = rw (sym (nat_cmp_is k.kind m.kind Greater lt)) refl

pub less_tenant : (k m : Key) → k.kind ≡ m.kind → k.tenant < m.tenant → key_cmp k m ≡ Less
less_tenant k m same lt = rw (sym (nat_cmp_is k.kind m.kind Equal same), sym (nat_cmp_is k.tenant m.tenant Less lt)) refl

pub above_tenant : (k m : Key) → k.kind ≡ m.kind → m.tenant < k.tenant → key_cmp k m ≡ Greater
above_tenant k m same lt = rw (sym (nat_cmp_is k.kind m.kind Equal same), sym (nat_cmp_is k.tenant m.tenant Greater lt)) refl

pub less_number : (k m : Key) → k.kind ≡ m.kind → k.tenant ≡ m.tenant → k.a < m.a → key_cmp k m ≡ Less
less_number k m same here lt = rw (sym (nat_cmp_is k.kind m.kind Equal same), sym (nat_cmp_is k.tenant m.tenant Equal here), sym (nat_cmp_is k.a m.a Less lt)) refl

pub same_key : (t a b kind : ℕ) → key_cmp (record { kind = kind; tenant = t; a = a; b = b }) (record { kind = kind; tenant = t; a = a; b = b }) ≡ Equal
same_key t a b kind = rw (sym (nat_cmp_is kind kind Equal refl), sym (nat_cmp_is t t Equal refl), sym (nat_cmp_is a a Equal refl), sym (nat_cmp_is b b Equal refl)) refl

-- ---- a row that is put

abbrev pub put : List Row → Row → List Row
put rows x = insert_item key_cmp key_of rows x

pub put_past : (a b : List Row) (x : Row) → AreBefore x.key a → put (a ++ b) x ≡ a ++ put b x
put_past [] b x h = refl
put_past (r ∷ a) b x h = rw h.0 (ap (λ l. r ∷ l) (put_past a b x h.1))

-- in place of a row with its key
pub put_at : (a b c : List Row) (r x : Row) → AreBefore x.key a → key_cmp r.key x.key ≡ Equal → put ((a ++ (r ∷ b)) ++ c) x ≡ (a ++ (x ∷ b)) ++ c
put_at [] b c r x h e = rw e refl
put_at (s ∷ a) b c r x h e = rw h.0 (ap (λ l. s ∷ l) (put_at a b c r x h.1 e))

pub put_here : (a b : List Row) (x : Row) → AreAfter x.key a → AreAfter x.key b → put (a ++ b) x ≡ x ∷ (a ++ b)
put_here [] [] x h k = refl
put_here [] (r ∷ b) x h k = rw k.0 refl
put_here (r ∷ a) b x h k = rw h.0 refl

-- between rows
pub put_mid : (a b c : List Row) (x : Row) → AreBefore x.key a → AreAfter x.key b → AreAfter x.key c → put ((a ++ b) ++ c) x ≡ (a ++ (x ∷ b)) ++ c
put_mid [] b c x h k m = put_here b c x k m
put_mid (r ∷ a) b c x h k m = rw h.0 (ap (λ l. r ∷ l) (put_mid a b c x h.1 k m))

pub put_last : (a b : List Row) (x : Row) → AreBefore x.key a → AreAfter x.key b → put (a ++ b) x ≡ a ++ (x ∷ b)
put_last [] [] x h k = refl
put_last [] (r ∷ b) x h k = rw k.0 refl
put_last (r ∷ a) b x h k = rw h.0 (ap (λ l. r ∷ l) (put_last a b x h.1 k))

pub before_append : (k : Key) (a b : List Row) → AreBefore k a → AreBefore k b → AreBefore k (a ++ b)
before_append k [] b h g = g
before_append k (r ∷ a) b h g = (h.0, before_append k a b h.1 g)

pub before_each : {X : Type 0} (k : Key) (f : X → List Row) (xs : List X) → ((x : X) → Held x xs → AreBefore k (f x)) → AreBefore k (each f xs)
before_each k f [] h = tt
before_each k f (x ∷ xs) h = before_append k (f x) (each f xs) (h x (inl refl)) (before_each k f xs (λ y held. h y (inr held)))

pub before_map : {X : Type 0} (k : Key) (f : X → Row) (xs : List X) → ((x : X) → key_cmp (f x).key k ≡ Less) → AreBefore k (map f xs)
before_map k f [] h = tt
before_map k f (x ∷ xs) h = (h x, before_map k f xs h)

pub after_append : (k : Key) (a b : List Row) → AreAfter k a → AreAfter k b → AreAfter k (a ++ b)
after_append k [] b h g = g
after_append k (r ∷ a) b h g = (h.0, after_append k a b h.1 g)

pub after_each : {X : Type 0} (k : Key) (f : X → List Row) (xs : List X) → ((x : X) → Held x xs → AreAfter k (f x)) → AreAfter k (each f xs)
after_each k f [] h = tt
after_each k f (x ∷ xs) h = after_append k (f x) (each f xs) (h x (inl refl)) (after_each k f xs (λ y held. h y (inr held)))

pub each_append : {X : Type 0} (f : X → List Row) (xs ys : List X) → each f (xs ++ ys) ≡ each f xs ++ each f ys
each_append f [] ys = refl
each_append f (x ∷ xs) ys = ap (λ l. f x ++ l) (each_append f xs ys) ∙ sym (append_assoc (f x) (each f xs) (each f ys))

pub each_mid : {X : Type 0} (f : X → List Row) (xs ys : List X) (x : X) → each f (xs ++ (x ∷ ys)) ≡ (each f xs ++ f x) ++ each f ys
each_mid f xs ys x = each_append f xs (x ∷ ys) ∙ sym (append_assoc (each f xs) (f x) (each f ys))

pub entries_before : (w : Texts) (k : Key) (t n i : ℕ) (es : List Entry) → ((j : ℕ) → key_cmp (record { kind = 6; tenant = t; a = n; b = j }) k ≡ Less) → AreBefore k (entry_rows w t n i es)
entries_before w k t n i [] h = tt
entries_before w k t n i (e ∷ es) h = (h i, entries_before w k t n (i + 1) es h)

pub entries_after : (w : Texts) (k : Key) (t n i : ℕ) (es : List Entry) → ((j : ℕ) → key_cmp (record { kind = 6; tenant = t; a = n; b = j }) k ≡ Greater) → AreAfter k (entry_rows w t n i es)
entries_after w k t n i [] h = tt
entries_after w k t n i (e ∷ es) h = (h i, entries_after w k t n (i + 1) es h)

pub sealed_before : (w : Texts) (k : Key) (t n : ℕ) (o : Option Answered) → key_cmp (record { kind = 7; tenant = t; a = n; b = 0 }) k ≡ Less → AreBefore k (sealed_row w t n o)
sealed_before w k t n None h = tt
sealed_before w k t n (Some a) h = (h, tt)

pub sealed_after : (w : Texts) (k : Key) (t n : ℕ) (o : Option Answered) → key_cmp (record { kind = 7; tenant = t; a = n; b = 0 }) k ≡ Greater → AreAfter k (sealed_row w t n o)
sealed_after w k t n None h = tt
sealed_after w k t n (Some a) h = (h, tt)

pub at_most : (last : ℕ) (cs : List Case) (c : Case) → AtMost last cs → Held c cs → c.number ≤ last
at_most last [] c h held = absurd held
at_most last (d ∷ cs) c h (inl e) = let same : c.number ≡ d.number = ap (λ (x : Case). x.number) e in omega (arith, same, h.0)
at_most last (d ∷ cs) c h (inr held) = at_most last cs c h.1 held

pub under_other : (n k : ℕ) (given : Option Answered) (sealed : Sealed) → (n == k) ≡ false → sealed_under k given sealed n ≡ sealed n
under_other n k None sealed ne = refl
under_other n k (Some a) sealed ne = rw ne refl

pub under_here : (k : ℕ) (given : Option Answered) (sealed : Sealed) → sealed k ≡ None → sealed_under k given sealed k ≡ given
under_here k None sealed none = none
under_here k (Some a) sealed none = let self : (k == k) ≡ true = grind (arith, nat_tests) in rw self refl

pub shift : (a b c : List Row) (x : Row) → (a ++ (b ++ (x ∷ []))) ++ c ≡ (a ++ b) ++ (x ∷ c)
shift a b c x = append_assoc a (b ++ (x ∷ [])) c ∙ (ap (λ l. a ++ l) (append_assoc b (x ∷ []) c) ∙ sym (append_assoc a b (x ∷ c)))

pub each_same : {X : Type 0} (f g : X → List Row) (xs : List X) → ((x : X) → Held x xs → f x ≡ g x) → each f xs ≡ each g xs
each_same f g [] h = refl
each_same f g (x ∷ xs) h = ap (λ l. l ++ each f xs) (h x (inl refl)) ∙ ap (λ l. g x ++ l) (each_same f g xs (λ y held. h y (inr held)))

pub each_swap : {X : Type 0} (f : X → List Row) (xs ys : List X) (x y : X) → f x ≡ f y → each f (xs ++ (x ∷ ys)) ≡ each f (xs ++ (y ∷ ys))
each_swap f xs ys x y e = each_append f xs (x ∷ ys) ∙ (ap (λ l. each f xs ++ (l ++ each f ys)) e ∙ sym (each_append f xs (y ∷ ys)))

pub append_nil : (a : List Row) → a ++ [] ≡ a
append_nil [] = refl
append_nil (r ∷ a) = ap (λ l. r ∷ l) (append_nil a)

-- ---- the whole

abbrev pub opened_one : ℕ → Entry → Option Answered → Tenancy → Tenancy
opened_one now entry given y = record { id = y.id; tables = changed now (Begins entry) given y.tables }

-- the rows, kind by kind
abbrev rows7 : List Row → List Row → List Row → List Row → List Row → List Row → List Row → List Row
rows7 a b c d e f g = a ++ (b ++ (c ++ (d ++ (e ++ (f ++ g)))))

module _ (w : Texts) (before after : List Tenancy) (y : Tenancy) (below : (x : Tenancy) → Held x before → x.id < y.id) (above : (x : Tenancy) → Held x after → y.id < x.id) (most : AtMost y.tables.plain.numbering.last y.tables.plain.cases) (now : ℕ) (entry : Entry) where
  abbrev whole : List Tenancy
  whole = before ++ (y ∷ after)

  abbrev last : ℕ
  last = y.tables.plain.numbering.last

  trails_mid : (text : List ℕ) → put ((((each (trail_rows w) before ++ trail_rows w y)) ++ each (trail_rows w) after) ++ each (sealed_rows w) whole) (row 6 y.id (last + 1) 1 text)
      ≡ ((each (trail_rows w) before ++ trail_rows w y) ++ (row 6 y.id (last + 1) 1 text ∷ each (trail_rows w) after)) ++ each (sealed_rows w) whole
  trails_mid text = let k : Key = record { kind = 6; tenant = y.id; a = last + 1; b = 1 } in
      put_mid (each (trail_rows w) before ++ trail_rows w y) (each (trail_rows w) after) (each (sealed_rows w) whole) (row 6 y.id (last + 1) 1 text)
      (before_append k (each (trail_rows w) before) (trail_rows w y)
      (before_each k (trail_rows w) before (λ x held. before_each k (λ c. entry_rows w x.id c.number 1 c.trail) x.tables.plain.cases (λ c here. entries_before w k x.id c.number 1 c.trail (λ j. less_tenant (record { kind = 6; tenant = x.id; a = c.number; b = j }) k refl (below x held)))))
      (before_each k (λ c. entry_rows w y.id c.number 1 c.trail) y.tables.plain.cases (λ c here. entries_before w k y.id c.number 1 c.trail (λ j. less_number (record { kind = 6; tenant = y.id; a = c.number; b = j }) k refl refl (let m = at_most last y.tables.plain.cases c most here in omega (arith, m))))))
      (after_each k (trail_rows w) after (λ x held. after_each k (λ c. entry_rows w x.id c.number 1 c.trail) x.tables.plain.cases (λ c here. entries_after w k x.id c.number 1 c.trail (λ j. above_tenant (record { kind = 6; tenant = x.id; a = c.number; b = j }) k refl (above x held)))))
      (after_each k (sealed_rows w) whole (λ x held. after_each k (λ c. sealed_row w x.id c.number (x.tables.sealed c.number)) x.tables.plain.cases (λ c here. sealed_after w k x.id c.number (x.tables.sealed c.number) (above_kind (record { kind = 7; tenant = x.id; a = c.number; b = 0 }) k (omega arith)))))

  seals_last : (text : List ℕ) → put ((each (sealed_rows w) before ++ sealed_rows w y) ++ each (sealed_rows w) after) (row 7 y.id (last + 1) 0 text) ≡ (each (sealed_rows w) before ++ sealed_rows w y) ++ (row 7 y.id (last + 1) 0 text ∷ each (sealed_rows w) after)
  seals_last text = let k : Key = record { kind = 7; tenant = y.id; a = last + 1; b = 0 } in
      put_last (each (sealed_rows w) before ++ sealed_rows w y) (each (sealed_rows w) after) (row 7 y.id (last + 1) 0 text)
      (before_append k (each (sealed_rows w) before) (sealed_rows w y)
      (before_each k (sealed_rows w) before (λ x held. before_each k (λ c. sealed_row w x.id c.number (x.tables.sealed c.number)) x.tables.plain.cases (λ c here. sealed_before w k x.id c.number (x.tables.sealed c.number) (less_tenant (record { kind = 7; tenant = x.id; a = c.number; b = 0 }) k refl (below x held)))))
      (before_each k (λ c. sealed_row w y.id c.number (y.tables.sealed c.number)) y.tables.plain.cases (λ c here. sealed_before w k y.id c.number (y.tables.sealed c.number) (less_number (record { kind = 7; tenant = y.id; a = c.number; b = 0 }) k refl refl (let m = at_most last y.tables.plain.cases c most here in omega (arith, m))))))
      (after_each k (sealed_rows w) after (λ x held. after_each k (λ c. sealed_row w x.id c.number (x.tables.sealed c.number)) x.tables.plain.cases (λ c here. sealed_after w k x.id c.number (x.tables.sealed c.number) (above_tenant (record { kind = 7; tenant = x.id; a = c.number; b = 0 }) k refl (above x held)))))

  numbers_at : (text : List ℕ) (rest : List Row) → put ((each (numbering_rows w) before ++ (numbering_rows w y ++ each (numbering_rows w) after)) ++ rest) (row 2 y.id 0 0 text) ≡ (each (numbering_rows w) before ++ (row 2 y.id 0 0 text ∷ each (numbering_rows w) after)) ++ rest
  numbers_at text rest = let k : Key = record { kind = 2; tenant = y.id; a = 0; b = 0 } in
      put_at (each (numbering_rows w) before) (each (numbering_rows w) after) rest (row 2 y.id 0 0 (w.numbering y.tables.plain.numbering)) (row 2 y.id 0 0 text)
      (before_each k (numbering_rows w) before (λ x held. (less_tenant (record { kind = 2; tenant = x.id; a = 0; b = 0 }) k refl (below x held), tt))) (same_key y.id 0 0 2)

  -- the tenant with one report more
  module _ (given : Option Answered) (unsealed : y.tables.sealed (y.tables.plain.numbering.last + 1) ≡ None) where
    abbrev z : Tenancy
    z = opened_one now entry given y

    abbrev made : List Tenancy
    made = before ++ (z ∷ after)

    abbrev number_row : Row
    number_row = row 2 y.id 0 0 (w.numbering (drawn now y.tables.plain.registry.settings y.tables.plain.numbering))

    abbrev entry_row : Row
    entry_row = row 6 y.id (y.tables.plain.numbering.last + 1) 1 (w.entry entry)

    kinds_before : (k : Key) → 5 < k.kind → (AreBefore k (each (settings_rows w) whole) × AreBefore k (each (numbering_rows w) made)) × ((AreBefore k (each (user_rows w) whole) × AreBefore k (each (form_rows w) whole)) × AreBefore k (each (context_rows w) whole))
    kinds_before k high = (
      (
        before_each k (settings_rows w) whole (λ x held. (less_kind (record { kind = 1; tenant = x.id; a = 0; b = 0 }) k (omega (arith, high)), tt)),
        before_each k (numbering_rows w) made (λ x held. (less_kind (record { kind = 2; tenant = x.id; a = 0; b = 0 }) k (omega (arith, high)), tt)),
      ),
      (
        (
          before_each k (user_rows w) whole (λ x held. before_map k (λ u. row 3 x.id u.id 0 (w.user u)) x.tables.plain.registry.users (λ u. less_kind (record { kind = 3; tenant = x.id; a = u.id; b = 0 }) k (omega (arith, high)))),
          before_each k (form_rows w) whole (λ x held. before_map k (λ f. row 4 x.id f.id f.version (w.form f)) x.tables.plain.registry.forms (λ f. less_kind (record { kind = 4; tenant = x.id; a = f.id; b = f.version }) k (omega (arith, high)))),
        ),
        before_each k (context_rows w) whole (λ x held. before_map k (λ c. row 5 x.id c.id 0 (w.context c)) x.tables.plain.registry.contexts (λ c. less_kind (record { kind = 5; tenant = x.id; a = c.id; b = 0 }) k (omega (arith, high)))),
      ),
    )

    -- past the kinds up to 5
    past_five : (k : Row) → 5 < k.key.kind → (rest : List Row)
        → put (each (settings_rows w) whole ++ (each (numbering_rows w) made ++ (each (user_rows w) whole ++ (each (form_rows w) whole ++ (each (context_rows w) whole ++ rest))))) k
        ≡ each (settings_rows w) whole ++ (each (numbering_rows w) made ++ (each (user_rows w) whole ++ (each (form_rows w) whole ++ (each (context_rows w) whole ++ put rest k))))
    past_five k high rest =
        let b = kinds_before k.key high in
        put_past (each (settings_rows w) whole) _ k b.0.0
        ∙ ap (λ l. each (settings_rows w) whole ++ l) (put_past (each (numbering_rows w) made) _ k b.0.1
        ∙ ap (λ l. each (numbering_rows w) made ++ l) (put_past (each (user_rows w) whole) _ k b.1.0.0
        ∙ ap (λ l. each (user_rows w) whole ++ l) (put_past (each (form_rows w) whole) _ k b.1.0.1
        ∙ ap (λ l. each (form_rows w) whole ++ l) (put_past (each (context_rows w) whole) rest k b.1.1))))

    numbers_made : (rest : List Row) → put (each (numbering_rows w) whole ++ rest) number_row ≡ each (numbering_rows w) made ++ rest
    numbers_made rest =
        ap (λ l. put (l ++ rest) number_row) (each_append (numbering_rows w) before (y ∷ after))
        ∙ (numbers_at (w.numbering (drawn now y.tables.plain.registry.settings y.tables.plain.numbering)) rest
        ∙ sym (ap (λ l. l ++ rest) (each_append (numbering_rows w) before (z ∷ after))))

    trail_more : trail_rows w z ≡ trail_rows w y ++ (entry_row ∷ [])
    trail_more = each_append (λ c. entry_rows w y.id c.number 1 c.trail) y.tables.plain.cases _

    trails_made : put (each (trail_rows w) whole ++ each (sealed_rows w) whole) entry_row ≡ each (trail_rows w) made ++ each (sealed_rows w) whole
    trails_made =
        ap (λ l. put (l ++ each (sealed_rows w) whole) entry_row) (each_mid (trail_rows w) before after y)
        ∙ (trails_mid (w.entry entry)
        ∙ sym (ap (λ l. l ++ each (sealed_rows w) whole) (each_mid (trail_rows w) before after z ∙ (ap (λ l. (each (trail_rows w) before ++ l) ++ each (trail_rows w) after) trail_more ∙ shift (each (trail_rows w) before) (trail_rows w y) (each (trail_rows w) after) entry_row))))

    -- the number and the entry are put
    two_put : put (put (rows_of w whole) number_row) entry_row
        ≡ each (settings_rows w) whole ++ (each (numbering_rows w) made ++ (each (user_rows w) whole ++ (each (form_rows w) whole ++ (each (context_rows w) whole ++ (each (trail_rows w) made ++ each (sealed_rows w) whole)))))
    two_put =
        ap (λ l. put l entry_row) (put_past (each (settings_rows w) whole) _ number_row (before_each number_row.key (settings_rows w) whole (λ x held. (less_kind (record { kind = 1; tenant = x.id; a = 0; b = 0 }) number_row.key (omega arith), tt)))
        ∙ ap (λ l. each (settings_rows w) whole ++ l) (numbers_made _))
        ∙ (past_five entry_row (omega arith) (each (trail_rows w) whole ++ each (sealed_rows w) whole)
        ∙ ap (λ l. each (settings_rows w) whole ++ (each (numbering_rows w) made ++ (each (user_rows w) whole ++ (each (form_rows w) whole ++ (each (context_rows w) whole ++ l))))) trails_made)

    -- the registry's rows are as they were
    as_made : (s : List Row) → s ≡ each (trail_rows w) made ++ each (sealed_rows w) made
        → each (settings_rows w) whole ++ (each (numbering_rows w) made ++ (each (user_rows w) whole ++ (each (form_rows w) whole ++ (each (context_rows w) whole ++ s)))) ≡ rows_of w made
    as_made s e = λ i. each_swap (settings_rows w) before after y z refl i ++ (each (numbering_rows w) made ++ (each_swap (user_rows w) before after y z refl i ++ (each_swap (form_rows w) before after y z refl i ++ (each_swap (context_rows w) before after y z refl i ++ e i))))

    sealed_more : sealed_rows w z ≡ sealed_rows w y ++ sealed_row w y.id (y.tables.plain.numbering.last + 1) given
    sealed_more =
        each_append (λ c. sealed_row w y.id c.number (z.tables.sealed c.number)) y.tables.plain.cases _
        ∙ (ap (λ l. l ++ (sealed_row w y.id (y.tables.plain.numbering.last + 1) (z.tables.sealed (y.tables.plain.numbering.last + 1)) ++ [])) older
        ∙ ap (λ l. sealed_rows w y ++ l) (append_nil _ ∙ ap (sealed_row w y.id (y.tables.plain.numbering.last + 1)) (under_here (y.tables.plain.numbering.last + 1) given y.tables.sealed unsealed)))
      where
        older : each (λ c. sealed_row w y.id c.number (z.tables.sealed c.number)) y.tables.plain.cases ≡ sealed_rows w y
        older = each_same (λ c. sealed_row w y.id c.number (z.tables.sealed c.number)) (λ c. sealed_row w y.id c.number (y.tables.sealed c.number)) y.tables.plain.cases
            (λ c here. ap (sealed_row w y.id c.number) (under_other c.number (y.tables.plain.numbering.last + 1) given y.tables.sealed
            (let m = at_most y.tables.plain.numbering.last y.tables.plain.cases c most here in let ne : (c.number == y.tables.plain.numbering.last + 1) ≡ false = grind (arith, nat_tests, m) in ne)))

    trails_below : (k : Key) → 6 < k.kind → AreBefore k (each (trail_rows w) made)
    trails_below k high = before_each k (trail_rows w) made (λ x held. before_each k (λ c. entry_rows w x.id c.number 1 c.trail) x.tables.plain.cases (λ c here. entries_before w k x.id c.number 1 c.trail (λ j. less_kind (record { kind = 6; tenant = x.id; a = c.number; b = j }) k (omega (arith, high)))))

    -- with no identity answers, and with some
    rows_without : sealed_row w y.id (y.tables.plain.numbering.last + 1) given ≡ [] → put (put (rows_of w whole) number_row) entry_row ≡ rows_of w made
    rows_without none = two_put ∙ as_made (each (trail_rows w) made ++ each (sealed_rows w) whole)
        (ap (λ l. each (trail_rows w) made ++ l) (each_swap (sealed_rows w) before after y z (sym (sealed_more ∙ (ap (λ l. sealed_rows w y ++ l) none ∙ append_nil (sealed_rows w y))))))

    rows_with : (text : List ℕ) → sealed_row w y.id (y.tables.plain.numbering.last + 1) given ≡ row 7 y.id (y.tables.plain.numbering.last + 1) 0 text ∷ []
        → put (put (put (rows_of w whole) number_row) entry_row) (row 7 y.id (y.tables.plain.numbering.last + 1) 0 text) ≡ rows_of w made
    rows_with text some =
        ap (λ l. put l s) two_put
        ∙ (past_five s (omega arith) (each (trail_rows w) made ++ each (sealed_rows w) whole)
        ∙ as_made (put (each (trail_rows w) made ++ each (sealed_rows w) whole) s)
        (put_past (each (trail_rows w) made) (each (sealed_rows w) whole) s (trails_below s.key (omega arith))
        ∙ ap (λ l. each (trail_rows w) made ++ l)
        (ap (λ l. put l s) (each_mid (sealed_rows w) before after y)
        ∙ (seals_last text
        ∙ sym (each_mid (sealed_rows w) before after z ∙ (ap (λ l. (each (sealed_rows w) before ++ l) ++ each (sealed_rows w) after) (sealed_more ∙ ap (λ l. sealed_rows w y ++ l) some) ∙ shift (each (sealed_rows w) before) (sealed_rows w y) (each (sealed_rows w) after) s))))))
      where
        s : Row
        s = row 7 y.id (y.tables.plain.numbering.last + 1) 0 text

-- THE LAW: the rows after a submission's changes are the rows of the changed tables
pub open_rows : (w : Texts) (before after : List Tenancy) (y : Tenancy) → ((x : Tenancy) → Held x before → x.id < y.id) → ((x : Tenancy) → Held x after → y.id < x.id) → AtMost y.tables.plain.numbering.last y.tables.plain.cases → y.tables.sealed (y.tables.plain.numbering.last + 1) ≡ None
    → (now : ℕ) (entry : Entry) (given : Option Answered) → all_changed (rows_of w (before ++ (y ∷ after))) (opened_puts w y.id now entry given y.tables.plain) ≡ rows_of w (before ++ (opened_one now entry given y ∷ after))
open_rows w before after y below above most unsealed now entry None = rows_without w before after y below above most now entry None unsealed refl
open_rows w before after y below above most unsealed now entry (Some a) = rows_with w before after y below above most now entry (Some a) unsealed (w.sealed a) refl
