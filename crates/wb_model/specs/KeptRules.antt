-- What the rules of kept rows give of one tenant's tables, at the greatest moment of the entries and draws of all.
use Rattle.std.specs.Prelude.{◌≡◌, is_some, is_none, ℕ, ◌==◌, ◌&&◌, not, nat_le, Bool, true, false, List, [], ◌∷◌, length, map, Option, Some, None}
use Rattle.std.specs.List.{list_all}
use Rattle.std.specs.Option.{option_map_or}
use Rattle.wb_base.specs.declared.callers.Role.{Role}
use Rattle.wb_base.specs.declared.callers.Role.TheVariants.{Recipient, Custodian}
use Rattle.wb_base.specs.AnswerList.{Answered, is_text}
use Rattle.wb_model.specs.declared.entry.Actor.{Actor}
use Rattle.wb_model.specs.declared.entry.Actor.TheVariants as actors
use Rattle.wb_model.specs.declared.entry.Deed.{Deed}
use Rattle.wb_model.specs.declared.entry.Deed.TheVariants as deeds
use Rattle.wb_model.specs.declared.entry.Entry.{Entry}
use Rattle.wb_model.specs.declared.registry.FormItem.{FormItem}
use Rattle.wb_model.specs.declared.registry.Lists.{Lists}
use Rattle.wb_model.specs.declared.registry.UserItem.{UserItem}
use Rattle.wb_model.specs.Trails.{answers, context_in, receipt, has_identity}
use Rattle.wb_model.specs.Tables.{Registry, Case, user, context, report, same_role}
use Rattle.wb_model.specs.Requests.{submission_fault, late_fault, mark}
use Rattle.wb_model.specs.AskingForms.{form_of_trail}
use Rattle.wb_model.specs.Host.{Tables}
use Rattle.wb_model.specs.Legal.{ascends_from, is_legal, last_at, reckoning}
use Rattle.wb_model.specs.Opened.{begun, entries_of, is_numbering}
use Rattle.wb_model.specs.SetUps.{are_apart, AreSetUp}
use Rattle.wb_model.specs.Openings.{registry_of}

-- ---- what an entry names

-- the role of the users who do this
abbrev pub role_of : Deed → Role
role_of (deeds.Granted effective reason request withheld) = Custodian
role_of (deeds.Denied reason request) = Custodian
role_of (deeds.Revoked reason request) = Custodian
role_of _ = Recipient

-- the user is there, with the role of the deed
abbrev pub is_doer : List UserItem → Deed → Actor → Bool
is_doer users deed actors.Reporter = true
is_doer users deed (actors.User u) = option_map_or (λ (x : UserItem). same_role x.role (role_of deed)) (user u users) false

-- the users that it names besides
abbrev pub users_in : Deed → List ℕ
users_in (deeds.Submitted ack_due answers context expires feedback_due form mark readers receipt received version) = readers
users_in (deeds.Transferred context readers) = readers
users_in (deeds.Shared user) = user ∷ []
users_in (deeds.Unshared user) = user ∷ []
users_in _ = []

-- an extension stands only in an external tenant
abbrev pub is_of_channel : Bool → Deed → Bool
is_of_channel external (deeds.Extended feedback_due reason) = external
is_of_channel external _ = true

-- whom and what an entry names is there
abbrev pub is_named : Registry → Entry → Bool
is_named g e = is_of_channel g.settings.external e.deed && is_doer g.users e.deed e.by && list_all (λ u. is_some (user u g.users)) (users_in e.deed) && option_map_or (λ c. is_some (context c g.contexts)) (context_in e.deed) true

-- ---- answers

-- the submission's answers are valid for the form in which it was made, and none is an identity answer
abbrev pub has_public_answers : List FormItem → List Entry → Bool
has_public_answers forms trail = option_map_or (λ (x : FormItem). is_none (submission_fault x.form (answers trail)) && not (mark x.form (answers trail))) (form_of_trail trail forms) false

-- identity answers are some, and valid after the public ones
abbrev pub are_valid_after : List FormItem → List Entry → Option Answered → Bool
are_valid_after forms trail None = true
are_valid_after forms trail (Some given) = not (length given == 0) && option_map_or (λ (x : FormItem). is_none (late_fault x.form (answers trail) given)) (form_of_trail trail forms) false

-- ---- receipts

abbrev pub same_receipt : Case → Case → Bool
same_receipt c d = is_text (receipt c.trail) (receipt d.trail)

-- ---- the whole

-- the tables of a tenant, with the lists of all tenants
pub record AreKept (at : ℕ) (lists : Lists) (tenant : ℕ) (t : Tables) : Type 0 where
  -- settings, users, forms and contexts keep their own rules
  pub set_up : AreSetUp lists
  pub registry : t.plain.registry ≡ registry_of lists tenant
  -- the reports' rows stand in the order of their numbers, from 1 on
  pub keys : ascends_from 0 (map (λ c. c.number) t.plain.cases) ≡ true
  -- each trail is legal
  pub legal : list_all (λ c. is_legal (reckoning t.plain.registry.settings) c.trail) t.plain.cases ≡ true
  -- each form version, context and user that a trail names is there, users with the role of what they did, and the answers are valid
  pub forms : list_all (λ c. is_some (form_of_trail c.trail t.plain.registry.forms)) t.plain.cases ≡ true
  pub named : list_all (λ c. list_all (is_named t.plain.registry) c.trail) t.plain.cases ≡ true
  pub answers : list_all (λ c. has_public_answers t.plain.registry.forms c.trail) t.plain.cases ≡ true
  -- each number was drawn
  pub numbers : list_all (λ c. nat_le c.number t.plain.numbering.last) t.plain.cases ≡ true
  -- identity answers stand exactly where the trail has a mark or an identity entry, and are valid
  pub marks : (r : ℕ) → is_some (t.sealed r) ≡ has_identity (entries_of (report r t.plain.cases))
  pub sealed : list_all (λ c. are_valid_after t.plain.registry.forms c.trail (t.sealed c.number)) t.plain.cases ≡ true
  -- receipts are distinct
  pub receipts : are_apart same_receipt t.plain.cases ≡ true
  -- the numbering is one that draws may have left, and no submission is after its moment
  pub numbering : is_numbering t.plain.numbering ≡ true
  pub begun : list_all (λ c. nat_le (begun c.trail) t.plain.numbering.at) t.plain.cases ≡ true
  -- the moment is not before the last draw, nor before any entry
  pub drawn : nat_le t.plain.numbering.at at ≡ true
  pub entries : list_all (λ c. nat_le (last_at 0 c.trail) at) t.plain.cases ≡ true
  -- no session is kept
  pub sessions : t.plain.sessions ≡ []
