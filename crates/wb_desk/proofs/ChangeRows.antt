-- The rows that a change puts make the rows of the host those of the changed tables.
use Rattle.std.proofs.Common.{◌≡◌, ℕ, ◌<◌, ◌≤◌, ◌+◌, Bool, true, false, not, List, [], ◌∷◌, ◌++◌, length, Option, Some, None, refl, sym, ap, ◌∙◌, subst, arith}
use Rattle.std.specs.Prelude.{All, nat_le, is_some}
use Rattle.std.specs.Option.{option_or}
use Rattle.std.proofs.lemmas.List.Elements.{All-nil, All-cons}
use Rattle.std.proofs.lemmas.Bool.Decides.{nat_tests}
use Rattle.wb_base.specs.AnswerList.{Answered}
use Rattle.wb_base.specs.KeptRows.{all_changed, IsGoodChange}
use Rattle.wb_base.specs.declared.rows.Row.{Row}
use Rattle.wb_base.specs.declared.rows.Change.TheVariants.{Put, DropReport}
use Rattle.wb_model.specs.declared.entry.Entry.{Entry}
use Rattle.wb_model.specs.declared.setting.AdminFault.{AdminFault}
use Rattle.wb_model.specs.declared.setting.AdminFault.TheVariants.{Full}
use Rattle.wb_model.specs.Host.{changed, drawn}
use Rattle.wb_model.specs.Json.{answers_data}
use Rattle.wb_model.specs.Opened.{Ascend, AtMost, AreVersions, Apart}
use Rattle.wb_model.specs.Refusing.{refuses_where}
use Rattle.wb_model.specs.Rows.{row, format_row, rows_of, of_tenants, of_kinds, kinds, numbering_data, entry_data}
use Rattle.wb_model.specs.Settings.{next_version}
use Rattle.wb_model.specs.Tables.{Registry, Case, has_number, is_live, is_there, report}
use Rattle.wb_model.specs.Tenants.{Tenancy}
use Rattle.wb_model.proofs.DeletedRows.{deleted_rows}
use Rattle.wb_model.proofs.Found.{Held}
use Rattle.wb_model.proofs.KindRows.{texts, opened_puts}
use Rattle.wb_model.proofs.PastLaw.{there_before}
use Rattle.wb_model.proofs.TurnRows.{opened_rows}
use Rattle.wb_commands.specs.declared.mutation.Mutation.{Mutation}
use Rattle.wb_commands.specs.declared.opening.Opening.{Opening}
use Rattle.wb_commands.specs.declared.mutation.Mutation.TheVariants as planned
use Rattle.wb_commands.specs.Plans.{IsDraw, IsFit, IsRoomyFor, begins, change_of, given_of}
use Rattle.wb_rows.specs.Puts.{sealed_put, setting_row, IsVersion}
use Rattle.wb_rows.proofs.ConfiguredRows.{configured_rows}
use Rattle.wb_rows.proofs.NotedRows.{noted_rows}
use Rattle.wb_rows.proofs.PutsBehind.{sealed_behind, setting_behind, lifted}
use Rattle.wb_rows.proofs.RowPuts.{AreSame}
use Rattle.wb_tables.specs.Configured.{fault_of, row_of, setting_of}
use Rattle.wb_tables.specs.Kept.{PlainTenancy, place_of, live_place}
use Rattle.wb_tables.specs.declared.proposal.Proposal.{Proposal}
use Rattle.wb_tables.specs.declared.proposal.Proposal.TheVariants as proposals
use Rattle.wb_tables.specs.declared.tenancy.Tenancy.{Tenancy as KeptTenancy}
use Rattle.wb_tables.proofs.Lookups.{there-found}
use Rattle.wb_commands.specs.Puts.{first_puts, noted_puts, puts_of}
use Rattle.wb_desk.proofs.Rooms.{live_report}

-- ---- what is asked of a change

-- a report begins with its draw, an entry comes to a report that is there, and a setting has its row and a version that may be
abbrev pub IsPuttable : ℕ → PlainTenancy → Mutation → Type 0
IsPuttable time x (planned.Begins o) = IsDraw time x.plain o
IsPuttable time x (planned.Notes n) = is_there n.number x.plain.cases ≡ true
IsPuttable time x (planned.Configures c) = (c.row ≡ setting_row x.id x.plain.registry (setting_of x.id x.plain.registry c.proposal)) × IsVersion (setting_of x.id x.plain.registry c.proposal)
IsPuttable time x _ = Unit {0}

setting_is : (t : ℕ) (g : Registry) (p : Proposal) → row_of t g p ≡ setting_row t g (setting_of t g p)
setting_is t g (proposals.ToTenant next) = refl
setting_is t g (proposals.ToUser u next) = refl
setting_is t g (proposals.ToContext c next) = refl
setting_is t g (proposals.ToForm f form) = refl

few_versions : (a : Option AdminFault) (n : ℕ) → option_or a (refuses_where (not (nat_le n 99)) Full) ≡ None → n ≤ 99
few_versions (Some x) n e = absurd (grind (arith, e))
few_versions None n e = by (nat_le n 99) refl e
  where
    by : (b : Bool) → nat_le n 99 ≡ b → refuses_where (not b) Full ≡ None → n ≤ 99
    by true is f = grind (arith, nat_tests, is)
    by false is f = absurd (grind (arith, f))

version_is : (t : ℕ) (g : Registry) (p : Proposal) → fault_of g p ≡ None → IsVersion (setting_of t g p)
version_is t g (proposals.ToTenant next) e = tt
version_is t g (proposals.ToUser u next) e = tt
version_is t g (proposals.ToContext c next) e = tt
version_is t g (proposals.ToForm f form) e = few_versions _ (next_version f g.forms) e

pub puttable : (time spare : ℕ) (x : KeptTenancy) (c : Mutation) → IsRoomyFor time x spare c → IsPuttable time (place_of x) c
puttable time spare x (planned.Begins o) h = h.fit.0
puttable time spare x (planned.Notes n) h = there_before (is_live x.configuration.registry.settings time) n.number (place_of x).plain.cases h.fit
puttable time spare x (planned.Configures c) h = (
  h.fit ∙ setting_is x.configuration.tenant x.configuration.registry c.proposal,
  version_is x.configuration.tenant x.configuration.registry c.proposal h.room.fault,
)
puttable time spare x _ h = tt

-- ---- the rows over the tables before and after a purge

pub live_puts : (now time : ℕ) (x : PlainTenancy) (c : Mutation) → Apart has_number x.plain.cases → IsPuttable now (live_place time x) c → puts_of (live_place time x) c ≡ puts_of x c
live_puts now time x (planned.Notes n) apart h = ap (noted_puts x.id n.number n.entry n.secret) (live_report n.number (is_live x.plain.registry.settings time) x.plain.cases apart h)
live_puts now time x _ apart h = refl

-- ---- the rows after it

drawn_puts : (now : ℕ) (x : PlainTenancy) (entry : Entry) (es : List Entry) (secret : Option Answered) → first_puts x.id (x.plain.numbering.last + 1) (drawn now x.plain.registry.settings x.plain.numbering) (entry ∷ es) secret ≡ opened_puts texts x.id now entry secret x.plain
drawn_puts now x entry es None = refl
drawn_puts now x entry es (Some a) = refl

puts_same : (now : ℕ) (x : PlainTenancy) (o : Opening) (entry : Entry) (es : List Entry) → IsDraw now x.plain o → first_puts x.id o.number o.numbering (entry ∷ es) o.secret ≡ opened_puts texts x.id now entry o.secret x.plain
puts_same now x o entry es draw = (λ i. first_puts x.id (draw.0 i) (draw.1 i) (entry ∷ es) o.secret) ∙ drawn_puts now x entry es o.secret

-- no row tells of a session
of_same : (f : Tenancy → List Row) (before after : List Tenancy) (y z : Tenancy) → f y ≡ f z → of_tenants f (before ++ (y ∷ after)) ≡ of_tenants f (before ++ (z ∷ after))
of_same f [] after y z same = ap (λ l. l ++ of_tenants f after) same
of_same f (x ∷ before) after y z same = ap (λ l. f x ++ l) (of_same f before after y z same)

kinds_same : (fs : List (Tenancy → List Row)) (before after : List Tenancy) (y z : Tenancy) → AreSame fs y z → of_kinds fs (before ++ (y ∷ after)) ≡ of_kinds fs (before ++ (z ∷ after))
kinds_same [] before after y z same = refl
kinds_same (f ∷ fs) before after y z same = λ i. of_same f before after y z same.0 i ++ kinds_same fs before after y z same.1 i

-- a tenant as a place
abbrev pub as_place : Tenancy → PlainTenancy
as_place y = record { id = y.id; plain = y.tables.plain }

abbrev pub made_one : ℕ → Mutation → Tenancy → Tenancy
made_one now c y = record { id = y.id; tables = changed now (change_of y.id y.tables.plain.registry c) (given_of c) y.tables }

-- what holds of the tables of a tenant whose rows are changed
pub record IsRowed (y : Tenancy) : Type 0 where
  pub most : AtMost y.tables.plain.numbering.last y.tables.plain.cases
  pub unsealed : y.tables.sealed (y.tables.plain.numbering.last + 1) ≡ None
  pub ascend : Ascend 0 y.tables.plain.cases
  pub versions : AreVersions y.tables.plain.registry.forms

pub change_rows : (before after : List Tenancy) (y : Tenancy) → ((x : Tenancy) → Held x before → x.id < y.id) → ((x : Tenancy) → Held x after → y.id < x.id) → IsRowed y → (now : ℕ) (c : Mutation) → IsPuttable now (as_place y) c
    → all_changed (rows_of (before ++ (y ∷ after))) (puts_of (as_place y) c) ≡ rows_of (before ++ (made_one now c y ∷ after))
change_rows before after y below above is now (planned.Begins o) h = by o.case.items
  where
    by : (trail : List Entry) → all_changed (rows_of (before ++ (y ∷ after))) (first_puts y.id o.number o.numbering trail o.secret) ≡ rows_of (before ++ (record { id = y.id; tables = changed now (begins trail) o.secret y.tables } ∷ after))
    by [] = refl
    by (e ∷ es) = ap (all_changed (rows_of (before ++ (y ∷ after)))) (puts_same now (as_place y) o e es h) ∙ opened_rows before after y below above is.most is.unsealed now e o.secret
change_rows before after y below above is now (planned.Notes n) h = by (report n.number y.tables.plain.cases) refl
  where
    by : (o : Option Case) → report n.number y.tables.plain.cases ≡ o → all_changed (rows_of (before ++ (y ∷ after))) (noted_puts y.id n.number n.entry n.secret o) ≡ rows_of (before ++ (made_one now (planned.Notes n) y ∷ after))
    by None e = absurd (let none = sym h ∙ (there-found n.number y.tables.plain.cases ∙ ap is_some e) in grind (arith, none))
    by (Some case) e = lifted (before ++ (y ∷ after)) (before ++ (made_one now (planned.Notes n) y ∷ after)) (Put (row 6 y.id n.number (length case.trail + 1) (entry_data n.entry)) ∷ sealed_put y.id n.number n.secret) (omega arith, sealed_behind y.id n.number n.secret)
        (noted_rows before after y below above is.ascend n.number case e now n.entry n.secret)
change_rows before after y below above is now (planned.Deletes n) h = deleted_rows now n before after y below above
change_rows before after y below above is now (planned.Configures c) h =
    let setting = setting_of y.id y.tables.plain.registry c.proposal in
    ap (λ r. all_changed (rows_of (before ++ (y ∷ after))) (Put r ∷ [])) h.0
    ∙ lifted (before ++ (y ∷ after)) (before ++ (made_one now (planned.Configures c) y ∷ after)) (Put (setting_row y.id y.tables.plain.registry setting) ∷ []) (setting_behind y.id y.tables.plain.registry setting)
    (configured_rows before after y below above is.versions setting h.1 now None)
change_rows before after y below above is now planned.Nothing h = refl
change_rows before after y below above is now c h = ap (λ rows. format_row ∷ rows) (kinds_same kinds before after y (made_one now c y) (refl, (refl, (refl, (refl, (refl, (refl, (refl, tt))))))))

-- ---- changes that a keeper takes

good_sealed : (t n : ℕ) (s : Option Answered) → All IsGoodChange (sealed_put t n s)
good_sealed t n None = All-nil IsGoodChange
good_sealed t n (Some a) = All-cons IsGoodChange (Put (row 7 t n 0 (answers_data a))) [] (omega arith, λ e. refl) (All-nil IsGoodChange)

good_row : (t : ℕ) (g : Registry) (p : Proposal) → IsGoodChange (Put (row_of t g p))
good_row t g (proposals.ToTenant next) = (omega arith, λ e. absurd (omega (arith, e)))
good_row t g (proposals.ToUser u next) = (omega arith, λ e. absurd (omega (arith, e)))
good_row t g (proposals.ToContext c next) = (omega arith, λ e. absurd (omega (arith, e)))
good_row t g (proposals.ToForm f form) = (omega arith, λ e. absurd (omega (arith, e)))

pub good_puts : (now : ℕ) (x : KeptTenancy) (c : Mutation) → IsFit now x c → All IsGoodChange (puts_of (place_of x) c)
good_puts now x (planned.Begins o) fit = by o.case.items
  where
    by : (trail : List Entry) → All IsGoodChange (first_puts x.configuration.tenant o.number o.numbering trail o.secret)
    by [] = All-nil IsGoodChange
    by (e ∷ es) =
        All-cons IsGoodChange (Put (row 2 x.configuration.tenant 0 0 (numbering_data o.numbering))) (Put (row 6 x.configuration.tenant o.number 1 (entry_data e)) ∷ sealed_put x.configuration.tenant o.number o.secret) (omega arith, λ e. absurd (omega (arith, e)))
        (All-cons IsGoodChange (Put (row 6 x.configuration.tenant o.number 1 (entry_data e))) (sealed_put x.configuration.tenant o.number o.secret) (omega arith, λ e. absurd (omega (arith, e))) (good_sealed x.configuration.tenant o.number o.secret))
good_puts now x (planned.Notes n) fit = by (report n.number (place_of x).plain.cases)
  where
    by : (o : Option Case) → All IsGoodChange (noted_puts x.configuration.tenant n.number n.entry n.secret o)
    by None = All-nil IsGoodChange
    by (Some case) = All-cons IsGoodChange (Put (row 6 x.configuration.tenant n.number (length case.trail + 1) (entry_data n.entry))) (sealed_put x.configuration.tenant n.number n.secret) (omega arith, λ e. absurd (omega (arith, e))) (good_sealed x.configuration.tenant n.number n.secret)
good_puts now x (planned.Deletes n) fit = All-cons IsGoodChange (DropReport x.configuration.tenant n) [] tt (All-nil IsGoodChange)
good_puts now x (planned.Configures c) fit = All-cons IsGoodChange (Put c.row) [] (subst (λ r. IsGoodChange (Put r)) (sym fit) (good_row x.configuration.tenant x.configuration.registry c.proposal)) (All-nil IsGoodChange)
good_puts now x _ fit = All-nil IsGoodChange
