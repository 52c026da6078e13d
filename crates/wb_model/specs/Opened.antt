-- What a host of one tenant may be opened with.
use Rattle.std.specs.Prelude.{is_some, map, ◌≡◌, find, ℕ, ◌==◌, ◌&&◌, ◌||◌, ◌<◌, ◌≤◌, nat_le, Bool, true, List, [], ◌∷◌, Option, Some, None}
use Rattle.wb_model.specs.declared.entry.Entry.{Entry}
use Rattle.wb_model.specs.declared.numbering.Numbering.{Numbering}
use Rattle.wb_model.specs.declared.registry.ContextItem.{ContextItem}
use Rattle.wb_model.specs.declared.registry.FormItem.{FormItem}
use Rattle.wb_model.specs.declared.registry.UserItem.{UserItem}
use Rattle.wb_model.specs.Trails.{has_identity}
use Rattle.wb_model.specs.Tables.{Registry, has_receipt, Case, Session, Who, TheUser, TheReporter, report}
use Rattle.wb_model.specs.AskingForms.{form_of_trail}
use Rattle.wb_model.specs.Settings.{form_key}
use Rattle.wb_model.specs.Legal.{ascends, IsSound, AreLegal, reckoning, AreLegalIn}
use Rattle.wb_model.specs.Host.{Tables}

-- the reports' numbers ascend from above this one
abbrev pub Ascend : ℕ → List Case → Type 0
Ascend k [] = Unit {0}
Ascend k (c ∷ cs) = (k < c.number) × Ascend c.number cs

-- no report has a number above this one
abbrev pub AtMost : ℕ → List Case → Type 0
AtMost k [] = Unit {0}
AtMost k (c ∷ cs) = (c.number ≤ k) × AtMost k cs

-- the caller is no reporter of a report above this number
abbrev pub IsWithin : ℕ → Who → Type 0
IsWithin k (TheUser u) = Unit {0}
IsWithin k (TheReporter n) = n ≤ k

-- the sessions were made at no later turn, and for no report above this number
abbrev pub AreWithin : ℕ → ℕ → List Session → Type 0
AreWithin turn k [] = Unit {0}
AreWithin turn k (s ∷ ss) = ((s.turn ≤ turn) × IsWithin k s.who) × AreWithin turn k ss

-- the version of each form is from 1 to 99
abbrev pub AreVersions : List FormItem → Type 0
AreVersions [] = Unit {0}
AreVersions (x ∷ xs) = ((1 ≤ x.version) × (x.version ≤ 99)) × AreVersions xs

-- users, forms in their versions, and contexts stand in the order of their numbers, each once
pub record AreOrdered (g : Registry) : Type 0 where
  pub users : ascends (map (λ (x : UserItem). x.id) g.users) ≡ true
  pub forms : ascends (map form_key g.forms) ≡ true
  pub contexts : ascends (map (λ (x : ContextItem). x.id) g.contexts) ≡ true

-- no two have the same key
abbrev pub Apart : {K X : Type 0} → (K → X → Bool) → List X → Type 0
Apart P [] = Unit {0}
Apart {K} P (x ∷ xs) = ((k : K) → P k x ≡ true → find (P k) xs ≡ None) × Apart P xs

abbrev pub entries_of : Option Case → List Entry
entries_of None = []
entries_of (Some c) = c.trail

abbrev pub has_turn : ℕ → Session → Bool
has_turn k s = s.turn == k

-- the form in which each report was made is there
abbrev pub HaveForms : List FormItem → List Case → Type 0
HaveForms forms [] = Unit {0}
HaveForms forms (c ∷ cs) = (is_some (form_of_trail c.trail forms) ≡ true) × HaveForms forms cs

-- the moment of the submission with which a trail begins
abbrev pub begun : List Entry → ℕ
begun [] = 0
begun (e ∷ es) = e.at

-- no report began after this moment
abbrev pub AreBegunBy : ℕ → List Case → Type 0
AreBegunBy at [] = Unit {0}
AreBegunBy at (c ∷ cs) = (begun c.trail ≤ at) × AreBegunBy at cs

-- no number was drawn, or some were, and some of them on the day of the last draw
abbrev pub is_numbering : Numbering → Bool
is_numbering n = ((n.at == 0) && (n.drawn == 0) && (n.last == 0)) || (nat_le 1 n.drawn && nat_le n.drawn n.last)

-- tables that a host may be opened with at a moment
pub record AreOpened (at : ℕ) (t : Tables) : Type 0 where
  -- what the tenant is set up with is in its ranges: the days of notice, and each context's retention and recipients
  pub sound : IsSound t.plain.registry
  -- and so are the versions of its forms; and each of its lists is in order
  pub versions : AreVersions t.plain.registry.forms
  pub ordered : AreOrdered t.plain.registry
  -- a numbering that draws may have left, and no draw is to come
  pub numbering : is_numbering t.plain.numbering ≡ true
  pub drawn : t.plain.numbering.at ≤ at
  -- the reports' numbers ascend and were drawn, each by a submission that is not after the last draw
  pub ascend : Ascend 0 t.plain.cases
  pub most : AtMost t.plain.numbering.last t.plain.cases
  pub begun : AreBegunBy t.plain.numbering.at t.plain.cases
  -- each trail is legal, of no moment to come, and of a form that is there
  pub legal : AreLegal (reckoning t.plain.registry.settings) at t.plain.cases
  pub forms : HaveForms t.plain.registry.forms t.plain.cases
  -- no two reports have one receipt
  pub receipts : Apart has_receipt t.plain.cases
  -- a report has identity answers exactly where its trail says so
  pub marks : (r : ℕ) → is_some (t.sealed r) ≡ has_identity (entries_of (report r t.plain.cases))
  -- no session stands
  pub sessions : t.plain.sessions ≡ []

-- one tenant's opening: a moment, and the tables
pub record Opened : Type 0 where
  pub at : ℕ
  pub tables : Tables
  pub sound : AreOpened at tables

-- a tenant's trails are legal at a moment
abbrev pub HasLegalTrails : ℕ → Tables → Type 0
HasLegalTrails time t = AreLegalIn t.plain.registry time t.plain.cases
