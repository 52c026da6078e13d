-- The rows after the batch of a turn: its purges, and then what its change puts.
use Rattle.std.proofs.Common.{◌≡◌, inl, inr, ℕ, ◌<◌, ◌+◌, List, [], ◌∷◌, ◌++◌, map, Option, Some, None, refl, sym, ap, ◌∙◌, subst, arith}
use Rattle.std.proofs.lemmas.List.{map-append}
use Rattle.wb_base.specs.AnswerList.{Answered}
use Rattle.wb_base.specs.KeptRows.{changed, all_changed}
use Rattle.wb_base.specs.declared.rows.Row.{Row}
use Rattle.wb_base.specs.declared.rows.Change.{Change as RowChange}
use Rattle.wb_base.specs.declared.rows.Change.TheVariants.{Put, DropReport}
use Rattle.wb_model.specs.Tables.{Plain}
use Rattle.wb_model.specs.declared.entry.Entry.{Entry}
use Rattle.wb_model.specs.Opened.{AtMost}
use Rattle.wb_model.specs.Host.{purged}
use Rattle.wb_model.specs.Tenants.{Tenancy}
use Rattle.wb_model.specs.Rows as rows
use Rattle.wb_model.proofs.Found.{Held}
use Rattle.wb_model.proofs.KindRows.{texts, opened_puts, sealed_put, rows_same}
use Rattle.wb_model.proofs.FormatRow.{AreBehind, all_behind}
use Rattle.wb_model.proofs.RowLaw.{AreDrops, DropsDead, purged_one, dead_rows}
use Rattle.wb_model.proofs.PutLaw.{opened_one, open_rows}

pub changed_append : (rows : List Row) (ds es : List RowChange) → all_changed rows (ds ++ es) ≡ all_changed (all_changed rows ds) es
changed_append rows [] es = refl
changed_append rows (d ∷ ds) es = changed_append (changed rows d) ds es

-- an element of a mapped list comes of one of the list
pub map_held : {X Y : Type 0} (f : X → Y) (xs : List X) (y : Y) → Held y (map f xs) → (x : X) × (Held x xs × (y ≡ f x))
map_held f [] y h = absurd h
map_held f (x ∷ xs) y (inl e) = (x, (inl refl, e))
map_held f (x ∷ xs) y (inr h) = let k = map_held f xs y h in (k.0, (inr k.1.0, k.1.1))

all_drops : (ds : List RowChange) → AreDrops ds → AreBehind ds
all_drops [] a = tt
all_drops (Put r ∷ ds) a = absurd a
all_drops (DropReport t n ∷ ds) a = (tt, all_drops ds a)

-- the drops of a purge, and what is put where a report begins, are no rows of kind 0
drops_behind : (now : ℕ) (ys : List Tenancy) (ds : List RowChange) → DropsDead now ys ds → AreBehind ds
drops_behind now ys ds dead = all_drops ds dead.drops

given_behind : (t n : ℕ) (given : Option Answered) → AreBehind (sealed_put texts t n given)
given_behind t n None = tt
given_behind t n (Some a) = (omega arith, tt)

puts_behind : (t now : ℕ) (entry : Entry) (given : Option Answered) (p : Plain) → AreBehind (opened_puts texts t now entry given p)
puts_behind t now entry given p = (omega arith, (omega arith, given_behind t (p.numbering.last + 1) given))

-- THE LAW of a purge: the rows after the drops of what is not live, in whatever order, are the rows of the purged tables
pub purge_rows : (now : ℕ) (ys : List Tenancy) (ds : List RowChange) → DropsDead now ys ds → all_changed (rows.rows_of ys) ds ≡ rows.rows_of (map (purged_one now) ys)
purge_rows now ys ds dead =
    all_behind (rows.tenants_rows ys) ds (drops_behind now ys ds dead)
    ∙ ap (λ l. rows.format_row ∷ l) (ap (λ l. all_changed l ds) (rows_same ys) ∙ (dead_rows texts now ys ds dead ∙ sym (rows_same (map (purged_one now) ys))))

-- THE LAW of a submission: the rows after its puts are the rows of the changed tables
pub opened_rows : (before after : List Tenancy) (y : Tenancy) → ((x : Tenancy) → Held x before → x.id < y.id) → ((x : Tenancy) → Held x after → y.id < x.id) → AtMost y.tables.plain.numbering.last y.tables.plain.cases
    → y.tables.sealed (y.tables.plain.numbering.last + 1) ≡ None → (now : ℕ) (entry : Entry) (given : Option Answered)
    → all_changed (rows.rows_of (before ++ (y ∷ after))) (opened_puts texts y.id now entry given y.tables.plain) ≡ rows.rows_of (before ++ (opened_one now entry given y ∷ after))
opened_rows before after y below above most unsealed now entry given =
    all_behind (rows.tenants_rows (before ++ (y ∷ after))) (opened_puts texts y.id now entry given y.tables.plain) (puts_behind y.id now entry given y.tables.plain)
    ∙ ap (λ l. rows.format_row ∷ l) (ap (λ l. all_changed l (opened_puts texts y.id now entry given y.tables.plain)) (rows_same (before ++ (y ∷ after)))
    ∙ (open_rows texts before after y below above most unsealed now entry given ∙ sym (rows_same (before ++ (opened_one now entry given y ∷ after)))))

-- THE LAW of the batch of a submission that also purges: first the drops, then the puts
pub submission_rows : (now : ℕ) (before after : List Tenancy) (y : Tenancy) (ds : List RowChange) → DropsDead now (before ++ (y ∷ after)) ds
    → ((x : Tenancy) → Held x before → x.id < y.id) → ((x : Tenancy) → Held x after → y.id < x.id) → AtMost y.tables.plain.numbering.last (purged_one now y).tables.plain.cases → (purged_one now y).tables.sealed (y.tables.plain.numbering.last + 1) ≡ None
    → (entry : Entry) (given : Option Answered) → all_changed (rows.rows_of (before ++ (y ∷ after))) (ds ++ opened_puts texts y.id now entry given (purged now y.tables).plain)
    ≡ rows.rows_of (map (purged_one now) before ++ (opened_one now entry given (purged_one now y) ∷ map (purged_one now) after))
submission_rows now before after y ds dead below above most unsealed entry given =
    let ys = before ++ (y ∷ after) in
    let ps = opened_puts texts y.id now entry given (purged now y.tables).plain in
    changed_append (rows.rows_of ys) ds ps
    ∙ (ap (λ l. all_changed l ps) (purge_rows now ys ds dead ∙ ap rows.rows_of (map-append (purged_one now) before (y ∷ after)))
    ∙ opened_rows (map (purged_one now) before) (map (purged_one now) after) (purged_one now y)
    (λ x held. let k = map_held (purged_one now) before x held in subst (λ (z : Tenancy). z.id < y.id) (sym k.1.1) (below k.0 k.1.0))
    (λ x held. let k = map_held (purged_one now) after x held in subst (λ (z : Tenancy). y.id < z.id) (sym k.1.1) (above k.0 k.1.0))
    most unsealed now entry given)
