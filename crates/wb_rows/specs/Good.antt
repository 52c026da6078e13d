-- Tables that keep the rules of kept rows, with each value in its range. Their rows are refused by no rule.
use Rattle.std.specs.Prelude.{◌≡◌, ℕ, true, map}
use Rattle.std.specs.List.{list_all}
use Rattle.wb_custody.specs.SealedAnswers.{pair_cmp}
use Rattle.wb_row_codec.specs.declared.item.NumberingItem.{NumberingItem}
use Rattle.wb_row_codec.specs.Good.{is_good}
use Rattle.wb_list.specs.Keyed.{IsAscending}
use Rattle.wb_model.specs.KeptRules.{AreKept}
use Rattle.wb_model.specs.SetUps.{has_tenant, tenant_ids}
use Rattle.wb_rows.specs.Reports.{Report}
use Rattle.wb_rows.specs.Held.{Held}
use Rattle.wb_rows.specs.HeldItems.{items_of}
use Rattle.wb_rows.specs.Openings.{tables_of}
use Rattle.wb_rows.specs.Places.{report_place}

-- tables of all tenants that keep the rules of kept rows at a moment
pub record AreGood (at : ℕ) (h : Held) : Type 0 where
  -- the tables of each tenant keep the rules that an opening asks for
  pub kept : (t : ℕ) → AreKept at h.lists t (tables_of h t)
  -- each tenant has one numbering, in the order of the tenants
  pub numbered : map (λ (x : NumberingItem). x.tenant) h.numberings ≡ tenant_ids h.lists
  -- the reports stand in the order of tenant and number, each of a tenant that is there
  pub order : IsAscending pair_cmp report_place h.reports
  pub owned : list_all (λ (r : Report). has_tenant h.lists r.tenant) h.reports ≡ true
  -- each value is in its range
  pub fits : list_all is_good (items_of h) ≡ true
