-- What is readable keeps the rules of kept rows, where a host may be opened with it.
use Rattle.std.proofs.Common.{◌≡◌, inl, inr, ℕ, ◌≤◌, Bool, true, false, cond, not, List, [], ◌∷◌, Some, None, refl, sym, ap, ◌∙◌, subst, arith}
use Rattle.std.specs.Prelude.{map, find, is_some, nat_le, ◌&&◌, ◌||◌, ◌==◌}
use Rattle.std.specs.List.{list_all, list_any}
use Rattle.std.proofs.lemmas.Bool.{and_parts, and_from}
use Rattle.std.proofs.lemmas.Bool.Decides.{nat_tests}
use Rattle.std.specs.Cmp.Lexicographic.{bytes_decides}
use Rattle.wb_base.specs.AnswerList.{is_text}
use Rattle.wb_model.specs.declared.registry.FormItem.{FormItem}
use Rattle.wb_model.specs.declared.registry.Lists.{Lists}
use Rattle.wb_model.specs.Trails.{receipt}
use Rattle.wb_model.specs.Tables.{Case, has_receipt}
use Rattle.wb_model.specs.AskingForms.{form_of_trail}
use Rattle.wb_model.specs.Host.{Tables}
use Rattle.wb_model.specs.Legal.{Reckoning, reckoning, ascends_from, is_legal, last_at, AreLegal, ascends}
use Rattle.wb_model.specs.Opened.{Ascend, AtMost, Apart, begun, AreBegunBy, HaveForms, AreOpened}
use Rattle.wb_model.specs.SetUps.{are_apart, AreSetUp}
use Rattle.wb_model.specs.KeptRules.{is_named, has_public_answers, are_valid_after, same_receipt, AreKept}
use Rattle.wb_model.specs.Openings.{registry_of}
use Rattle.wb_model.specs.Readable.{is_stored, is_entry_of, are_sealed, is_readable, AreReadable, AreRanged, OpensReadable}
use Rattle.wb_model.specs.Tenants.{Tenancy}
use Rattle.wb_model.specs.Past.{Past}
use Rattle.wb_model.specs.Pasts.{AllOpened, part, tenants, has_tenant, held_tenancy, standing_hosts}
use Rattle.wb_model.specs.ByVerdicts.{AreByVerdicts}
use Rattle.wb_model.specs.Reopened.{left_time, without_sessions}
use Rattle.wb_model.specs.LeftLists.{lists_of}
use Rattle.wb_model.proofs.Found.{Held, same_number}
use Rattle.wb_model.proofs.TurnRows.{map_held}
use Rattle.wb_model.proofs.KeptPasts.{held_opened}
use Rattle.wb_model.proofs.Reopenings.{one_of, tenants_ascend}
use Rattle.wb_model.proofs.ReadablePasts.{held_readable, left_readable}
use Rattle.wb_model.proofs.LeftSetUps.{ids, lists_set_up, registry_back}
use Rattle.wb_model.proofs.ItemPuts.{all_more, flip_text}

least : (a b : ℕ) → a ≤ b → nat_le a b ≡ true
least a b le = grind (arith, nat_tests, le)

left_keys : (k : ℕ) (cs : List Case) → Ascend k cs → ascends_from k (map (λ (c : Case). c.number) cs) ≡ true
left_keys k [] up = refl
left_keys k (c ∷ cs) up = and_from _ _ (let lt = up.0 in grind (arith, nat_tests, lt)) (left_keys c.number cs up.1)

left_legal : (days : Reckoning) (at : ℕ) (cs : List Case) → AreLegal days at cs → (list_all (λ (c : Case). is_legal days c.trail) cs ≡ true) × (list_all (λ (c : Case). nat_le (last_at 0 c.trail) at) cs ≡ true)
left_legal days at [] legal = (refl, refl)
left_legal days at (c ∷ cs) legal = let more = left_legal days at cs legal.1 in (and_from _ _ legal.0.0 more.0, and_from _ _ (least (last_at 0 c.trail) at legal.0.1) more.1)

left_forms : (forms : List FormItem) (cs : List Case) → HaveForms forms cs → list_all (λ (c : Case). is_some (form_of_trail c.trail forms)) cs ≡ true
left_forms forms [] have = refl
left_forms forms (c ∷ cs) have = and_from _ _ have.0 (left_forms forms cs have.1)

left_most : (k : ℕ) (cs : List Case) → AtMost k cs → list_all (λ (c : Case). nat_le c.number k) cs ≡ true
left_most k [] most = refl
left_most k (c ∷ cs) most = and_from _ _ (least c.number k most.0) (left_most k cs most.1)

left_begun : (m : ℕ) (cs : List Case) → AreBegunBy m cs → list_all (λ (c : Case). nat_le (begun c.trail) m) cs ≡ true
left_begun m [] all = refl
left_begun m (c ∷ cs) all = and_from _ _ (least (begun c.trail) m all.0) (left_begun m cs all.1)

none_same : (c : Case) (cs : List Case) → find (has_receipt (record { 0 = receipt c.trail })) cs ≡ None → list_any (same_receipt c) cs ≡ false
none_same c [] none = refl
none_same c (d ∷ cs) none = by (is_text (receipt d.trail) (receipt c.trail)) refl none (is_text (receipt c.trail) (receipt d.trail)) refl (none_same c cs)
  where
    by : (b : Bool) → is_text (receipt d.trail) (receipt c.trail) ≡ b → cond b (Some d) (find (has_receipt (record { 0 = receipt c.trail })) cs) ≡ None → (x : Bool) → is_text (receipt c.trail) (receipt d.trail) ≡ x →
        (find (has_receipt (record { 0 = receipt c.trail })) cs ≡ None → list_any (same_receipt c) cs ≡ false) → (x || list_any (same_receipt c) cs) ≡ false
    by true is f x k ih = absurd (grind (arith, f))
    by false is f false k ih = ih f
    by false is f true k ih = absurd (let bad : false ≡ true = sym is ∙ flip_text (receipt c.trail) (receipt d.trail) k in grind (arith, bad))

left_apart : (cs : List Case) → Apart has_receipt cs → are_apart same_receipt cs ≡ true
left_apart [] apart = refl
left_apart (c ∷ cs) apart = and_from _ _ (ap not (none_same c cs (apart.0 (record { 0 = receipt c.trail }) ((bytes_decides (receipt c.trail) (receipt c.trail)).1 refl)))) (left_apart cs apart.1)

pub left_kept : (at t : ℕ) (lists : Lists) (x : Tables) → AreSetUp lists → x.plain.registry ≡ registry_of lists t → AreOpened at x → AreReadable t x → AreKept at lists t x
left_kept at t lists x up registry opened is = record {
  set_up = up;
  registry = registry;
  keys = left_keys 0 x.plain.cases opened.ascend;
  legal = (left_legal (reckoning x.plain.registry.settings) at x.plain.cases opened.legal).0;
  forms = left_forms x.plain.registry.forms x.plain.cases opened.forms;
  named = all_more (is_readable x.plain.registry x.sealed) (λ (c : Case). list_all (is_named x.plain.registry) c.trail) x.plain.cases
      (λ c k. all_more (is_entry_of x.plain.registry) (is_named x.plain.registry) c.trail (λ e j. (and_parts (is_named x.plain.registry e) (is_stored e.deed) j).0) (parts c k).0) is.cases;
  answers = all_more (is_readable x.plain.registry x.sealed) (λ (c : Case). has_public_answers x.plain.registry.forms c.trail) x.plain.cases (λ c k. (parts c k).1) is.cases;
  numbers = left_most x.plain.numbering.last x.plain.cases opened.most;
  marks = opened.marks;
  sealed = all_more (is_readable x.plain.registry x.sealed) (λ (c : Case). are_valid_after x.plain.registry.forms c.trail (x.sealed c.number)) x.plain.cases (λ c k. (parts c k).2) is.cases;
  receipts = left_apart x.plain.cases opened.receipts;
  numbering = opened.numbering;
  begun = left_begun x.plain.numbering.at x.plain.cases opened.begun;
  drawn = least x.plain.numbering.at at opened.drawn;
  entries = (left_legal (reckoning x.plain.registry.settings) at x.plain.cases opened.legal).1;
  sessions = opened.sessions;
}
  where
    parts : (c : Case) → is_readable x.plain.registry x.sealed c ≡ true → (list_all (is_entry_of x.plain.registry) c.trail ≡ true) × (has_public_answers x.plain.registry.forms c.trail ≡ true) × (are_valid_after x.plain.registry.forms c.trail (x.sealed c.number) ≡ true)
    parts c k =
        let a = and_parts (list_all (is_entry_of x.plain.registry) c.trail && has_public_answers x.plain.registry.forms c.trail && are_valid_after x.plain.registry.forms c.trail (x.sealed c.number)) (are_sealed (x.sealed c.number)) k in
        let b = and_parts (list_all (is_entry_of x.plain.registry) c.trail && has_public_answers x.plain.registry.forms c.trail) (are_valid_after x.plain.registry.forms c.trail (x.sealed c.number)) a.0 in
        let d = and_parts (list_all (is_entry_of x.plain.registry) c.trail) (has_public_answers x.plain.registry.forms c.trail) b.0 in
        (d.0, d.1, b.1)

-- ---- what the hosts of a past leave

ids_are : (past : Past AllOpened) (ts : List ℕ) → ids (map (held_tenancy past) ts) ≡ ts
ids_are past [] = refl
ids_are past (t ∷ ts) = ap (λ more. t ∷ more) (ids_are past ts)

pub left_ids : (past : Past AllOpened) → ascends (ids (standing_hosts past).list) ≡ true
left_ids past = ap ascends (ids_are past (tenants past)) ∙ tenants_ascend past

there_by : (t : ℕ) (ts : List ℕ) → Held t ts → list_any (λ u. u == t) ts ≡ true
there_by t [] h = absurd h
there_by t (u ∷ ts) (inl e) = ap (λ b. b || list_any (λ v. v == t) ts) (same_number u t (sym e))
there_by t (u ∷ ts) (inr h) = by (u == t) (there_by t ts h)
  where
    by : (b : Bool) → list_any (λ v. v == t) ts ≡ true → (b || list_any (λ v. v == t) ts) ≡ true
    by true ih = refl
    by false ih = ih

module _ (past : Past AllOpened) (verdicts : (t : ℕ) → AreByVerdicts t (part t past)) (ranged : (t : ℕ) → AreRanged t (part t past)) (opens : (t : ℕ) → has_tenant past t ≡ true → OpensReadable t (part t past)) where
  own_tenant : (x : Tenancy) → Held x (standing_hosts past).list → (t : ℕ) × (has_tenant past t ≡ true) × (x ≡ held_tenancy past t)
  own_tenant x h = let k = map_held (held_tenancy past) (tenants past) x h in (k.0, there_by k.0 (tenants past) k.1.0, k.1.1)

  pub hosts_readable : (x : Tenancy) → Held x (standing_hosts past).list → AreReadable x.id x.tables
  hosts_readable x h = let k = own_tenant x h in subst (λ (z : Tenancy). AreReadable z.id z.tables) (sym k.2) (held_readable k.0 (part k.0 past) (opens k.0 k.1) (verdicts k.0) (ranged k.0))

  pub hosts_opened : (x : Tenancy) → Held x (standing_hosts past).list → AreOpened (left_time past) (without_sessions x.tables)
  hosts_opened x h = let k = own_tenant x h in subst (λ (z : Tenancy). AreOpened (left_time past) (without_sessions z.tables)) (sym k.2) (held_opened k.0 (left_time past) (part k.0 past) (verdicts k.0) (one_of past k.0 (tenants past) k.1))

  pub hosts_set_up : AreSetUp (lists_of (standing_hosts past).list)
  hosts_set_up = lists_set_up (standing_hosts past).list (left_ids past) (λ x h. (hosts_readable x h).registry) (λ x h. (hosts_opened x h).ordered)

  pub hosts_kept : (x : Tenancy) → Held x (standing_hosts past).list → AreKept (left_time past) (lists_of (standing_hosts past).list) x.id (without_sessions x.tables)
  hosts_kept x h = left_kept (left_time past) x.id (lists_of (standing_hosts past).list) (without_sessions x.tables) hosts_set_up
      (sym (registry_back (standing_hosts past).list (left_ids past) (λ z k. (hosts_readable z k).registry) (λ z k. (hosts_opened z k).ordered) x h)) (hosts_opened x h) (left_readable x.id x.tables (hosts_readable x h))
