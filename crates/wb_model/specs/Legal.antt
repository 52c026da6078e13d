-- Legal trails: each entry is one that a request may have written after those before it.
use Rattle.std.specs.Prelude.{◌≡◌, ◌≤◌, ℕ, ◌-◌, ◌*◌, ◌%◌, ◌==◌, ◌&&◌, ◌||◌, nat_lt, nat_le, not, Bool, true, false, List, [], ◌∷◌, ◌++◌, length, Option, Some, None, is_some, ℤ, pos, int_lt}
use Rattle.std.specs.Ordering.{int_eq}
use Rattle.std.specs.Option.{option_map_or}
use Rattle.wb_base.specs.Days.{day_of}
use Rattle.wb_base.specs.Calendars.{Calendar}
use Rattle.wb_base.specs.Terms as terms
use Rattle.wb_model.specs.declared.access.AccessRequest.{AccessRequest}
use Rattle.wb_model.specs.declared.act.Act.TheVariants as acts
use Rattle.wb_model.specs.declared.act.Move.TheVariants as moves
use Rattle.wb_model.specs.declared.entry.Actor.{Actor}
use Rattle.wb_model.specs.declared.entry.Actor.TheVariants as actors
use Rattle.wb_model.specs.declared.entry.Entry.{Entry}
use Rattle.wb_model.specs.declared.entry.Deed.{Deed}
use Rattle.wb_model.specs.declared.entry.Deed.TheVariants as deeds
use Rattle.wb_model.specs.declared.registry.ContextItem.{ContextItem}
use Rattle.wb_model.specs.declared.registry.TenantItem.{TenantItem}
use Rattle.wb_model.specs.Tables.{Registry, Case}
use Rattle.wb_model.specs.Access.{requests, request_at, user_by}
use Rattle.wb_model.specs.Trails.{submission_in, expires, received, acknowledged, is_extended}
use Rattle.wb_model.specs.Doings.{Doing, Acts, Moves, doing_deed, doing_fault}

-- ---- who may have done it

abbrev pub is_reporter : Actor → Bool
is_reporter actors.Reporter = true
is_reporter (actors.User u) = false

-- a submission and an identity are the reporter's, a comment is anybody's, and all else a user's
abbrev pub right_actor : Deed → Actor → Bool
right_actor (deeds.Submitted ack_due answers context expires feedback_due form mark readers receipt received version) by = is_reporter by
right_actor deeds.Identity by = is_reporter by
right_actor (deeds.Comment internal text) by = true
right_actor deed by = not (is_reporter by)

-- ---- what refuses it, by the report alone

-- the stamp of a request, as if it were the present one
abbrev pub own_stamp : ℕ → List Entry → ℕ
own_stamp k trail = option_map_or (λ (r : AccessRequest). r.stamp) (request_at k (requests trail)) 0

-- the doing that a deed was, but for what no refusal by the report looks at
abbrev pub done : List Entry → Deed → Option Doing
done trail (deeds.Submitted ack_due answers context expires feedback_due form mark readers receipt received version) = None
done trail deeds.Identity = Some (Acts acts.Identity)
done trail (deeds.Comment internal text) = Some (Acts (acts.Comment internal text))
done trail (deeds.Label text) = Some (Acts (acts.Label text))
done trail (deeds.SetStatus status) = Some (Acts (acts.SetStatus status))
done trail (deeds.Acknowledged day feedback_due) = Some (Acts (acts.Acknowledge day))
done trail (deeds.Feedback text) = Some (Acts (acts.Feedback text))
done trail (deeds.Shared user) = Some (Acts (acts.Share user))
done trail (deeds.Unshared user) = Some (Acts (acts.Unshare user))
done trail (deeds.Transferred context readers) = Some (Acts (acts.Transfer context true readers))
done trail (deeds.Postponed expires) = Some (Acts (acts.Postpone (pos 0) 0))
done trail (deeds.Extended feedback_due reason) = Some (Acts (acts.Extend reason true))
done trail (deeds.Asked reason stamp) = Some (Moves (moves.Ask reason stamp))
done trail (deeds.Granted effective reason request withheld) = Some (Moves (moves.Grant request (own_stamp request trail) 0 reason withheld))
done trail (deeds.Denied reason request) = Some (Moves (moves.Deny request (own_stamp request trail) reason))
done trail (deeds.Revoked reason request) = Some (Moves (moves.Revoke request (own_stamp request trail) reason))

abbrev pub is_free : List Entry → ℕ → Option Doing → Bool
is_free trail user None = false
is_free trail user (Some d) = not (is_some (doing_fault trail user d))

-- ---- its days, readers and moment

-- a day is at least so many days after another, and at most so many
abbrev pub is_within : ℤ → ℕ → ℕ → ℤ → Bool
is_within from least most day = not (int_lt day (terms.expiry from least)) && not (int_lt (terms.expiry from most) day)

abbrev pub ascends_from : ℕ → List ℕ → Bool
ascends_from k [] = true
ascends_from k (u ∷ us) = nat_lt k u && ascends_from u us

abbrev pub ascends : List ℕ → Bool
ascends [] = true
ascends (u ∷ us) = ascends_from u us

-- 1 to 32 users, which ascend
abbrev pub are_readers : List ℕ → Bool
are_readers us = nat_le 1 (length us) && nat_le (length us) 32 && ascends us

-- a grant is in force at once where its notice is withheld, and else after 0 to 30 whole days
abbrev pub is_effective : ℕ → ℕ → Option (List ℕ) → Bool
is_effective time effective (Some withheld) = effective == time
is_effective time effective None = nat_le time effective && nat_le (effective - time) (86_400 * 30) && ((effective - time) % 86_400 == 0)

-- how a tenant reckons days: its offset from UTC, and its calendar
pub record Reckoning : Type 0 where
  pub offset : ℤ
  pub calendar : Calendar

abbrev pub reckoning_by : ℤ → Calendar → Reckoning
reckoning_by offset calendar = record { offset = offset; calendar = calendar }

abbrev pub reckoning : TenantItem → Reckoning
reckoning settings = record { offset = settings.offset; calendar = settings.calendar }

-- its days, readers and moment are right, as the tenant reckons days, after this trail
abbrev pub right_values : Reckoning → List Entry → ℕ → Deed → Bool
right_values days trail time (deeds.Submitted ack_due answers context expires feedback_due form mark readers receipt received version) =
    let today = day_of time days.offset in
    int_eq received today && int_eq ack_due (terms.ack_due today days.calendar) && int_eq feedback_due (terms.feedback_due today None false days.calendar) && is_within today 1 3_650 expires && are_readers readers
right_values days trail time (deeds.Acknowledged day feedback_due) = int_eq day (day_of time days.offset) && int_eq feedback_due (terms.feedback_due (received trail) (Some day) (is_extended trail) days.calendar)
right_values days trail time (deeds.Transferred context readers) = are_readers readers
right_values days trail time (deeds.Postponed new) = not (int_lt new (expires trail)) && (int_eq new (expires trail) || not (int_lt (terms.expiry (day_of time days.offset) 3_650) new))
right_values days trail time (deeds.Extended feedback_due reason) = int_eq feedback_due (terms.feedback_due (received trail) (acknowledged trail) true days.calendar)
right_values days trail time (deeds.Granted effective reason request withheld) = is_effective time effective withheld
right_values days trail time deed = true

-- ---- the whole

-- a trail begins with a submission
abbrev pub is_first : Reckoning → Entry → Bool
is_first days e = is_some (submission_in e.deed) && right_actor e.deed e.by && right_values days [] e.at e.deed

-- an entry after a trail whose last entry is of this moment
abbrev pub is_next : Reckoning → ℕ → List Entry → Entry → Bool
is_next days time trail e = nat_le time e.at && right_actor e.deed e.by && right_values days trail e.at e.deed && is_free trail (user_by e.by) (done trail e.deed)

abbrev pub legal_from : Reckoning → ℕ → List Entry → List Entry → Bool
legal_from days time before [] = true
legal_from days time before (e ∷ es) = is_next days time before e && legal_from days e.at (before ++ e ∷ []) es

-- a trail of a tenant that reckons days so is legal
abbrev pub is_legal : Reckoning → List Entry → Bool
is_legal days [] = false
is_legal days (e ∷ es) = is_first days e && legal_from days e.at (e ∷ []) es

-- the moment of the last entry, or this one where there is none
abbrev pub last_at : ℕ → List Entry → ℕ
last_at time [] = time
last_at time (e ∷ es) = last_at e.at es

-- ---- what an act, a move and a submission ask of their values (the conditions of the calls that plan them)

abbrev pub AsksRightly : Reckoning → ℕ → Actor → Doing → Type 0
AsksRightly days time by (Acts acts.Identity) = is_reporter by ≡ true
AsksRightly days time by (Acts (acts.Comment internal text)) = Unit {0}
AsksRightly days time by (Acts (acts.Acknowledge today)) = (is_reporter by ≡ false) × (today ≡ day_of time days.offset)
AsksRightly days time by (Acts (acts.Transfer context is_open readers)) = (is_reporter by ≡ false) × (are_readers readers ≡ true)
AsksRightly days time by (Acts (acts.Postpone today retention)) = (is_reporter by ≡ false) × (today ≡ day_of time days.offset) × (retention ≤ 3_650)
AsksRightly days time by (Moves (moves.Grant request stamp notice_days reason withheld)) = (is_reporter by ≡ false) × (notice_days ≤ 30)
AsksRightly days time by d = is_reporter by ≡ false

-- a registry in its ranges, as far as trails hang on it: the days of notice, and each context's retention and recipients
abbrev pub AreSound : List ContextItem → Type 0
AreSound [] = Unit {0}
AreSound (c ∷ cs) = ((1 ≤ c.retention) × (c.retention ≤ 3_650) × (are_readers c.recipients ≡ true)) × AreSound cs

pub record IsSound (g : Registry) : Type 0 where
  pub notice : g.settings.notice_days ≤ 30
  pub contexts : AreSound g.contexts

-- a report's trail is legal and of no moment to come
abbrev pub LegalCase : Reckoning → ℕ → Case → Type 0
LegalCase days time c = (is_legal days c.trail ≡ true) × (last_at 0 c.trail ≤ time)

abbrev pub AreLegal : Reckoning → ℕ → List Case → Type 0
AreLegal days time [] = Unit {0}
AreLegal days time (c ∷ cs) = LegalCase days time c × AreLegal days time cs

-- what is done at a time by an actor on a trail
abbrev pub doing_by : Reckoning → ℕ → Actor → List Entry → Doing → Entry
doing_by days time by trail d = record { at = time; by = by; deed = doing_deed days.calendar time trail d }

-- so are they by a tenant's registry
abbrev pub AreLegalIn : Registry → ℕ → List Case → Type 0
AreLegalIn g time cases = AreLegal (reckoning g.settings) time cases

-- an entry is legal after this trail
abbrev pub GoesOn : Reckoning → List Entry → Entry → Type 0
GoesOn days trail entry = is_next days (last_at 0 trail) trail entry ≡ true
