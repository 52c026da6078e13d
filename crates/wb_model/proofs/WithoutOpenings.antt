-- An opening without one report: what it is known to be, and how scripts over it are answered.
use Rattle.std.proofs.Common.{◌≡◌, ◌≢◌, ◌⊎◌, inl, inr, ℕ, ◌≤◌, Bool, true, false, cond, eqb, not, List, [], ◌∷◌, Option, Some, None, refl, sym, ap, ◌∙◌, subst, arith}
use Rattle.std.specs.Prelude.{map, filter, is_some}
use Rattle.wb_base.specs.AnswerList.{Answered}
use Rattle.wb_model.specs.declared.registry.FormItem.{FormItem}
use Rattle.wb_model.specs.Trails.{has_identity}
use Rattle.wb_model.specs.Tables.{Case, Session, has_number, has_receipt, report, is_there, lasts, drawn_on, others, sessions_but}
use Rattle.wb_base.specs.Days.{day_of}
use Rattle.wb_model.specs.Host.{Tables}
use Rattle.wb_model.specs.Legal.{AreLegal, Reckoning, reckoning}
use Rattle.wb_model.specs.Opened.{Ascend, AtMost, AreBegunBy, HaveForms, AreOpened, entries_of}
use Rattle.wb_model.specs.Past.{Past, Opening, live_reports}
use Rattle.wb_model.specs.Pasts.{AllOpened, part, standing_hosts}
use Rattle.wb_model.specs.Scripts.{Place, play, script_replies, past_after}
use Rattle.wb_model.specs.Absence.{AllDrawAnother, Stands, without, replies, past_with, later_replies, is_purged, replies_purged, holds}
use Rattle.wb_model.specs.OtherOpenings.{IsOpenedWithout}
use Rattle.wb_model.proofs.Found.{decide, same_number, other_number}
use Rattle.wb_model.proofs.PastLaw.{same_tables, same_plain}
use Rattle.wb_model.proofs.Leaving.{apart_filter, report_others, report_gone, others_all}
use Rattle.wb_model.proofs.Gapless.{Gapless}
use Rattle.wb_model.proofs.GapSteps.{but}
use Rattle.wb_model.proofs.AbsentPast.{same_standing}
use Rattle.wb_model.proofs.OneOpening.{opened_prop, known_path}
use Rattle.wb_model.proofs.OpeningReceipts.{opening_apart}
use Rattle.wb_model.proofs.AbsentScripts.{Lacks, later_same, later_hosts}
use Rattle.wb_model.proofs.Purged.{purged_same, purged_end}

-- ---- tables without a report are what a host may be opened with

pub pick : (b : Bool) (Q : List Case → Type 0) (c : Case) (ds : List Case) → Q (c ∷ ds) → Q ds → Q (cond b (c ∷ ds) ds)
pick true Q c ds x y = x
pick false Q c ds x y = y

ascend_from : (j k : ℕ) (cs : List Case) → j ≤ k → Ascend k cs → Ascend j cs
ascend_from j k [] le a = tt
ascend_from j k (c ∷ cs) le a = (omega (arith, a.0), a.1)

ascend_others : (r k : ℕ) (cs : List Case) → Ascend k cs → Ascend k (others r cs)
ascend_others r k [] a = tt
ascend_others r k (c ∷ cs) a = pick (not (eqb c.number r)) (Ascend k) c (others r cs) (a.0, ascend_others r c.number cs a.1) (ascend_from k c.number (others r cs) (omega (arith, a.0)) (ascend_others r c.number cs a.1))

most_others : (r k : ℕ) (cs : List Case) → AtMost k cs → AtMost k (others r cs)
most_others r k [] a = tt
most_others r k (c ∷ cs) a = pick (not (eqb c.number r)) (AtMost k) c (others r cs) (a.0, most_others r k cs a.1) (most_others r k cs a.1)

begun_others : (r at : ℕ) (cs : List Case) → AreBegunBy at cs → AreBegunBy at (others r cs)
begun_others r at [] a = tt
begun_others r at (c ∷ cs) a = pick (not (eqb c.number r)) (AreBegunBy at) c (others r cs) (a.0, begun_others r at cs a.1) (begun_others r at cs a.1)

legal_others : (r : ℕ) (days : Reckoning) (at : ℕ) (cs : List Case) → AreLegal days at cs → AreLegal days at (others r cs)
legal_others r days at [] a = tt
legal_others r days at (c ∷ cs) a = pick (not (eqb c.number r)) (AreLegal days at) c (others r cs) (a.0, legal_others r days at cs a.1) (legal_others r days at cs a.1)

forms_others : (r : ℕ) (forms : List FormItem) (cs : List Case) → HaveForms forms cs → HaveForms forms (others r cs)
forms_others r forms [] a = tt
forms_others r forms (c ∷ cs) a = pick (not (eqb c.number r)) (HaveForms forms) c (others r cs) (a.0, forms_others r forms cs a.1) (forms_others r forms cs a.1)

marks_others : (r : ℕ) (t : Tables) → ((n : ℕ) → is_some (t.sealed n) ≡ has_identity (entries_of (report n t.plain.cases))) → (n : ℕ) → is_some ((without r t).sealed n) ≡ has_identity (entries_of (report n (others r t.plain.cases)))
marks_others r t marks n = by (decide n r)
  where
    by : (n ≡ r) ⊎ (n ≢ r) → is_some (cond (eqb n r) None (t.sealed n)) ≡ has_identity (entries_of (report n (others r t.plain.cases)))
    by (inl e) = ap (λ b. is_some (cond b None (t.sealed n))) (same_number n r e) ∙ sym (ap (λ m. has_identity (entries_of (report m (others r t.plain.cases)))) e ∙ ap (λ o. has_identity (entries_of o)) (report_gone r t.plain.cases))
    by (inr ne) = ap (λ b. is_some (cond b None (t.sealed n))) (other_number n r ne) ∙ (marks n ∙ sym (ap (λ o. has_identity (entries_of o)) (report_others n r t.plain.cases ne)))

pub without_opened : (r at : ℕ) (t : Tables) → AreOpened at t → AreOpened at (without r t)
without_opened r at t o = record {
  sound = o.sound;
  versions = o.versions;
  ordered = o.ordered;
  numbering = o.numbering;
  drawn = o.drawn;
  ascend = ascend_others r 0 t.plain.cases o.ascend;
  most = most_others r t.plain.numbering.last t.plain.cases o.most;
  begun = begun_others r t.plain.numbering.at t.plain.cases o.begun;
  legal = legal_others r (reckoning t.plain.registry.settings) at t.plain.cases o.legal;
  forms = forms_others r t.plain.registry.forms t.plain.cases o.forms;
  receipts = apart_filter has_receipt (λ (c : Case). not (has_number r c)) t.plain.cases o.receipts;
  marks = marks_others r t o.marks;
  sessions = ap (sessions_but r) o.sessions;
}

-- where the report is not there, nothing is left out
unsealed : (o : Option Answered) → is_some o ≡ false → o ≡ None
unsealed None e = refl
unsealed (Some x) e = absurd (grind (arith, e))

no_report : (r : ℕ) (cs : List Case) → is_there r cs ≡ false → report r cs ≡ None
no_report r cs none = ap (report r) (sym (others_all r cs none)) ∙ report_gone r cs

pub without_absent : (r at : ℕ) (t : Tables) → AreOpened at t → is_there r t.plain.cases ≡ false → without r t ≡ t
without_absent r at t o none =
    same_tables _ _
    (same_plain _ _ refl refl (others_all r t.plain.cases none) (ap (sessions_but r) o.sessions ∙ sym o.sessions))
    (λ q. by q (decide q r))
  where
    by : (q : ℕ) → (q ≡ r) ⊎ (q ≢ r) → cond (eqb q r) None (t.sealed q) ≡ t.sealed q
    by q (inl e) = ap (λ b. cond b None (t.sealed q)) (same_number q r e) ∙ sym (ap t.sealed e ∙ unsealed (t.sealed r) (o.marks r ∙ ap (λ x. has_identity (entries_of x)) (no_report r t.plain.cases none)))
    by q (inr ne) = ap (λ b. cond b None (t.sealed q)) (other_number q r ne)

-- ---- the opening without it lacks it

kept_number : (b : Bool) (n r : ℕ) (c : Case) (ds : List Case) (ns : List ℕ) → c.number ≡ n → map (λ (d : Case). d.number) ds ≡ ns → map (λ (d : Case). d.number) (cond b (c ∷ ds) ds) ≡ cond b (n ∷ ns) ns
kept_number true n r c ds ns e ih = ap (λ k. k ∷ map (λ (d : Case). d.number) ds) e ∙ ap (λ ks. n ∷ ks) ih
kept_number false n r c ds ns e ih = ih

numbers_others : (r : ℕ) (cs : List Case) → map (λ (c : Case). c.number) (others r cs) ≡ but r (map (λ (c : Case). c.number) cs)
numbers_others r [] = refl
numbers_others r (c ∷ cs) = kept_number (not (eqb c.number r)) c.number r c (others r cs) (but r (map (λ (d : Case). d.number) cs)) refl (numbers_others r cs)

own_without : (t r : ℕ) (o p : AllOpened) → p.at ≡ o.at → IsOpenedWithout t r o p → Gapless r (part t (Opening o)) (part t (Opening p))
own_without t r o p at w = record {
  moments = at;
  counts = refl;
  registries = ap (λ (x : Tables). x.plain.registry) w.own;
  days = λ m. ap (λ (x : Tables). day_of m x.plain.registry.settings.offset) w.own;
  lasts_drawn = ap (λ (x : Tables). x.plain.numbering.last) w.own;
  draw_times = ap (λ (x : Tables). x.plain.numbering.at) w.own;
  draws_of = λ d. ap (λ (x : Tables). drawn_on d x.plain.registry.settings x.plain.numbering) w.own;
  list = ap (λ (x : Tables). map (λ (c : Case). c.number) x.plain.cases) w.own ∙ numbers_others r (o.tables t).plain.cases;
  trails = λ q ne. ap (λ (x : Tables). entries_of (report q x.plain.cases)) w.own ∙ ap entries_of (report_others q r (o.tables t).plain.cases ne);
  secrets = λ q ne. ap (λ (x : Tables). x.sealed q) w.own ∙ ap (λ b. cond b None ((o.tables t).sealed q)) (other_number q r ne);
  recents = λ time le. ap (filter (lasts time (live_reports (part t (Opening p)) time))) (p.sound t).sessions ∙ sym (ap (λ (ss : List Session). sessions_but r (filter (lasts time (live_reports (part t (Opening o)) time)) ss)) (o.sound t).sessions);
}

rest_without : (t r u : ℕ) (o p : AllOpened) → p.at ≡ o.at → IsOpenedWithout t r o p → u ≢ t → part u (Opening p) ≡ part u (Opening o)
rest_without t r u o p at w ne = λ i. Opening (record {
  at = at i;
  tables = w.others u ne i;
  sound = known_path (λ j. AreOpened (at j) (w.others u ne j)) (p.sound u) (o.sound u) (opened_prop o.at (o.tables u)) i;
})

pub opening_lacks : (t r : ℕ) (o p : AllOpened) → p.at ≡ o.at → IsOpenedWithout t r o p → Lacks t r (Opening o) (Opening p)
opening_lacks t r o p at w = record {
  facts = record { moments = at; counts = refl; same_tenants = w.tenants; own = own_without t r o p at w; rest = λ u ne. rest_without t r u o p at w ne };
  drawn = w.drawn;
  receipts = opening_apart t o;
  held_same = λ none. w.own ∙ without_absent r o.at (o.tables t) (o.sound t) none;
  held_without = w.own;
}

-- ---- scripts

standing_replies : (past : Past AllOpened) (ps : List Place) → replies past (map Stands ps) ≡ map Some (script_replies past ps)
standing_replies past [] = refl
standing_replies past (p ∷ ps) = ap (λ xs. Some (play past p).reply ∷ xs) (standing_replies (play past p).past ps)

standing_past : (past : Past AllOpened) (ps : List Place) → past_with past (map Stands ps) ≡ past_after past ps
standing_past past [] = refl
standing_past past (p ∷ ps) = standing_past (play past p).past ps

pub without_live : (t r : ℕ) (past other : Past AllOpened) (ps : List Place) → Lacks t r past other → AllDrawAnother t r past ps → later_replies t r past ps (map Some (script_replies past ps)) ≡ later_replies t r past ps (map Some (script_replies other ps))
without_live t r past other ps l a = later_same t r past other ps a l ∙ ap (later_replies t r past ps) (standing_replies other ps)

pub without_replies : (t r : ℕ) (past other : Past AllOpened) (ps : List Place) → Lacks t r past other → AllDrawAnother t r past ps → replies_purged t r past ps (map Some (script_replies past ps)) ≡ replies_purged t r past ps (map Some (script_replies other ps))
without_replies t r past other ps l a = purged_same t r past other ps a l ∙ ap (replies_purged t r past ps) (standing_replies other ps)

pub without_past : (t r : ℕ) (past other : Past AllOpened) (ps : List Place) → Lacks t r past other → AllDrawAnother t r past ps → Lacks t r (past_after past ps) (past_after other ps)
without_past t r past other ps l a = subst (Lacks t r (past_after past ps)) (standing_past other ps) (later_hosts t r past other ps a l)

pub without_unheld : (t r : ℕ) (past other : Past AllOpened) (ps : List Place) → Lacks t r past other → AllDrawAnother t r past ps → is_purged t r past ps ≡ true → holds t r (past_after past ps) ≡ false
without_unheld t r past other ps l a is = (purged_end t r past other ps a l is).unheld

pub without_tables : (t r : ℕ) (past other : Past AllOpened) (ps : List Place) → Lacks t r past other → AllDrawAnother t r past ps → holds t r (past_after past ps) ≡ false → standing_hosts (past_after other ps) ≡ standing_hosts (past_after past ps)
without_tables t r past other ps l a none =
    let end : Lacks t r (past_after past ps) (past_after other ps) = without_past t r past other ps l a in
    same_standing t r (past_after past ps) (past_after other ps) end.facts (end.held_same none)

pub without_hosts : (t r : ℕ) (past other : Past AllOpened) (ps : List Place) → Lacks t r past other → AllDrawAnother t r past ps → is_purged t r past ps ≡ true → standing_hosts (past_after other ps) ≡ standing_hosts (past_after past ps)
without_hosts t r past other ps l a is = without_tables t r past other ps l a (without_unheld t r past other ps l a is)
