-- Tenants stay set up right.
use Rattle.std.proofs.Common.{◌≡◌, ℕ, ◌<◌, ◌≤◌, zero, suc, true, List, [], ◌∷◌, length, map, set, get_or, refl, sym, ◌∙◌, subst, arith}
use Rattle.std.specs.Ordering.{nat_cmp, match_ordering}
use Rattle.std.specs.declared.cmp.Ordering.{Ordering}
use Rattle.std.specs.declared.cmp.Ordering.TheVariants.{Less, Equal, Greater}
use Rattle.wb_list.specs.Keyed.{insert_item}
use Rattle.wb_base.specs.FormFaults.{is_good}
use Rattle.wb_base.specs.Days.{IsOffset}
use Rattle.wb_model.specs.declared.entry.Entry.{Entry}
use Rattle.wb_model.specs.declared.registry.FormItem.{FormItem}
use Rattle.wb_model.specs.Host.{registry_after}
use Rattle.wb_model.specs.Settings.{configured, form_key, form_item}
use Rattle.wb_model.specs.Tables.{Registry}
use Rattle.wb_commands.specs.declared.mutation.Mutation.{Mutation}
use Rattle.wb_commands.specs.declared.mutation.Mutation.TheVariants as planned
use Rattle.wb_commands.specs.Plans.{IsRoomyFor, begins}
use Rattle.wb_tables.specs.Configured.{IsSoundProposal, setting_of}
use Rattle.wb_tables.specs.Kept.{PlainTenancy, place_of, live_place}
use Rattle.wb_tables.specs.Places.{AreGoodForms}
use Rattle.wb_tables.specs.declared.proposal.Proposal.{Proposal}
use Rattle.wb_tables.specs.declared.proposal.Proposal.TheVariants as proposals
use Rattle.wb_tables.specs.declared.tenancy.Tenancy.{Tenancy as KeptTenancy}
use Rattle.wb_commands.specs.Made.{planned_change}
use Rattle.wb_recovery.specs.SetUp.{IsSetUpRight, AreSetUpRight}

-- what changes neither the id nor the registry
pub right_same : (x y : PlainTenancy) → y.id ≡ x.id → y.plain.registry ≡ x.plain.registry → IsSetUpRight x → IsSetUpRight y
right_same x y id registry right = record {
  id = subst (λ n. n ≤ 64) (sym id) right.id;
  offset = subst (λ (g : Registry). IsOffset g.settings.offset) (sym registry) right.offset;
  forms = subst (λ (g : Registry). AreGoodForms g.forms) (sym registry) right.forms;
}

-- a form that is put in is good
good_put : (xs : List FormItem) (x : FormItem) → AreGoodForms xs → is_good x.form ≡ true → AreGoodForms (insert_item nat_cmp form_key xs x)
good_put [] x all good = (good, tt)
good_put (y ∷ ys) x all good = by (nat_cmp (form_key y) (form_key x)) (good_put ys x all.1 good)
  where
    by : (o : Ordering) → AreGoodForms (insert_item nat_cmp form_key ys x) → AreGoodForms (match_ordering o (y ∷ insert_item nat_cmp form_key ys x) (x ∷ ys) (x ∷ y ∷ ys))
    by Less rest = (all.0, rest)
    by Equal rest = (good, all.1)
    by Greater rest = (good, all)

right_set : (t : ℕ) (x y : PlainTenancy) (next : Proposal) → IsSoundProposal next → y.id ≡ x.id → y.plain.registry ≡ configured (setting_of t x.plain.registry next) x.plain.registry → IsSetUpRight x → IsSetUpRight y
right_set t x y next sound id registry right = right_same (record { id = x.id; plain = record x.plain { registry = configured (setting_of t x.plain.registry next) x.plain.registry } }) y id registry (by next sound)
  where
    by : (p : Proposal) → IsSoundProposal p → IsSetUpRight (record { id = x.id; plain = record x.plain { registry = configured (setting_of t x.plain.registry p) x.plain.registry } })
    by (proposals.ToTenant next) sound = record { id = right.id; offset = right.offset; forms = right.forms }
    by (proposals.ToUser u next) sound = record { id = right.id; offset = right.offset; forms = right.forms }
    by (proposals.ToContext c next) sound = record { id = right.id; offset = right.offset; forms = right.forms }
    by (proposals.ToForm f form) sound = record { id = right.id; offset = right.offset; forms = good_put x.plain.registry.forms (form_item t f x.plain.registry.forms form) right.forms sound }

-- a planned change
pub right_planned : (time spare : ℕ) (x : KeptTenancy) (y : PlainTenancy) (c : Mutation) → IsRoomyFor time x spare c → y.id ≡ x.configuration.tenant → y.plain.registry ≡ registry_after (planned_change x c) x.configuration.registry → IsSetUpRight (place_of x) → IsSetUpRight y
right_planned time spare x y (planned.Begins o) h id registry right = right_same (place_of x) y id (registry ∙ by o.case.items) right
  where
    by : (es : List Entry) → registry_after (begins es) x.configuration.registry ≡ x.configuration.registry
    by [] = refl
    by (e ∷ es) = refl
right_planned time spare x y (planned.Configures c) h id registry right = right_set x.configuration.tenant (place_of x) y c.proposal h.room.sound id registry right
right_planned time spare x y _ h id registry right = right_same (place_of x) y id registry right

-- a purge
pub right_purged : (k time : ℕ) (xs : List PlainTenancy) → AreSetUpRight k xs → AreSetUpRight k (map (live_place time) xs)
right_purged k time [] right = tt
right_purged k time (x ∷ xs) right = ((right.0.0, record { id = right.0.1.id; offset = right.0.1.offset; forms = right.0.1.forms }), right_purged x.id time xs right.1)

-- a change of the tenant at a place
pub right_at : (k i : ℕ) (ks : List KeptTenancy) (y d : KeptTenancy) → i < length ks → y.configuration.tenant ≡ (get_or ks i d).configuration.tenant → (IsSetUpRight (place_of (get_or ks i d)) → IsSetUpRight (place_of y)) → AreSetUpRight k (map place_of ks) → AreSetUpRight k (map place_of (set ks i y))
right_at k i [] y d lt id made right = absurd (omega arith)
right_at k zero (x ∷ ks) y d lt id made right = ((subst (λ n. k < n) (sym id) right.0.0, made right.0.1), subst (λ n. AreSetUpRight n (map place_of ks)) (sym id) right.1)
right_at k (suc i) (x ∷ ks) y d lt id made right = (right.0, right_at x.configuration.tenant i ks y d (omega arith) id made right.1)
