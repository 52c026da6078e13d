-- An opening over what was read and a setup is such that the rows of its hosts are read back.
use Rattle.std.proofs.Common.{◌≡◌, ℕ, Bool, true, false, refl, sym, subst}
use Rattle.wb_model.specs.declared.registry.Lists.{Lists}
use Rattle.wb_model.specs.Openings.{registry_of, empty_tables}
use Rattle.wb_model.specs.Readable.{are_stored, AreReadable}
use Rattle.wb_model.specs.SetUps.{has_tenant, AreSetUp}
use Rattle.wb_model.proofs.SetUpsReadable.{set_up_readable}
use Rattle.wb_rows.specs.Held.{Held}
use Rattle.wb_rows.specs.Openings.{tables_of, with_setup}
use Rattle.wb_setup.specs.Joined.{joined}
use Rattle.wb_setup.proofs.OtherLists.{joined_are_set_up}
use Rattle.wb_setup.proofs.StoredJoined.{joined_are_stored}
use Rattle.wb_tenants.proofs.Kept.{kept_stays}

pub opening-readable : (setup : Lists) (h : Held) → AreSetUp setup → are_stored setup ≡ true → AreSetUp h.lists → are_stored h.lists ≡ true → ((t : ℕ) → has_tenant h.lists t ≡ true → AreReadable t (tables_of h t)) → ((t : ℕ) → has_tenant h.lists t ≡ false → tables_of h t ≡ empty_tables (registry_of h.lists t)) →
    (t : ℕ) → has_tenant (joined setup h.lists) t ≡ true → AreReadable t (tables_of (with_setup setup h) t)
opening-readable setup h up stored old old_stored readable others t there = by (has_tenant h.lists t) refl
  where
    by : (b : Bool) → has_tenant h.lists t ≡ b → AreReadable t (tables_of (with_setup setup h) t)
    by true is = subst (AreReadable t) (λ i. record (tables_of h t) { plain = record (tables_of h t).plain { registry = sym (kept_stays setup h.lists t is) i } }) (readable t is)
    by false is = subst (AreReadable t) (λ i. record (sym (others t is) i) { plain = record (sym (others t is) i).plain { registry = registry_of (joined setup h.lists) t } })
        (set_up_readable (joined setup h.lists) t (joined_are_set_up setup h.lists up old) (joined_are_stored setup h.lists stored old_stored) there)
