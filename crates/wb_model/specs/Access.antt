-- The requests of readers for the identity of a report's reporter, as its trail has them (after Directive (EU) 2019/1937, Article 16).
use Rattle.std.specs.Prelude.{ℕ, zero, suc, ◌==◌, ◌&&◌, nat_le, Bool, true, false, if◌then◌else◌, List, [], ◌∷◌, ◌++◌, map, fold, Option, Some, None}
use Rattle.std.specs.List.{list_any}
use Rattle.wb_model.specs.declared.access.State.{State}
use Rattle.wb_model.specs.declared.access.State.TheVariants.{Waiting, Granted, Denied, Revoked, Ended}
use Rattle.wb_model.specs.declared.access.AccessRequest.{AccessRequest}
use Rattle.wb_model.specs.declared.entry.Actor.{Actor}
use Rattle.wb_model.specs.declared.entry.Actor.TheVariants.{Reporter, User}
use Rattle.wb_model.specs.declared.entry.Entry.{Entry}
use Rattle.wb_model.specs.declared.entry.Deed.{Deed}
use Rattle.wb_model.specs.declared.entry.Deed.TheVariants as deeds

-- the user who acted, 0 for the reporter
abbrev pub user_by : Actor → ℕ
user_by Reporter = 0
user_by (User u) = u

-- a waiting or granted request ends
abbrev pub ended_state : State → State
ended_state Waiting = Ended
ended_state Granted = Ended
ended_state Denied = Denied
ended_state Revoked = Revoked
ended_state Ended = Ended

abbrev pub ended : AccessRequest → AccessRequest
ended r = record r { state = ended_state r.state }

abbrev pub ended_of : ℕ → AccessRequest → AccessRequest
ended_of user r = if r.by == user then ended r else r

-- the requests with a change of the one of a number, counted from 1
abbrev pub with_request : ℕ → (AccessRequest → AccessRequest) → List AccessRequest → List AccessRequest
with_request k change [] = []
with_request zero change (r ∷ rs) = r ∷ rs
with_request (suc zero) change (r ∷ rs) = change r ∷ rs
with_request (suc (suc k)) change (r ∷ rs) = r ∷ with_request (suc k) change rs

-- the request of a number, counted from 1
abbrev pub request_at : ℕ → List AccessRequest → Option AccessRequest
request_at k [] = None
request_at zero (r ∷ rs) = None
request_at (suc zero) (r ∷ rs) = Some r
request_at (suc (suc k)) (r ∷ rs) = request_at (suc k) rs

-- the requests after an entry; a request that ended takes no decision, since no legal trail has one on it
abbrev pub requests_by : List AccessRequest → Entry → List AccessRequest
requests_by before entry = by_deed entry.deed
  where
    by_deed : Deed → List AccessRequest
    by_deed (deeds.Asked reason stamp) = before ++ record { by = user_by entry.by; reason = reason; stamp = stamp; state = Waiting; effective = None } ∷ []
    by_deed (deeds.Granted effective reason request withheld) = with_request request (λ r. record r { state = Granted; effective = Some effective }) before
    by_deed (deeds.Denied reason request) = with_request request (λ r. record r { state = Denied }) before
    by_deed (deeds.Revoked reason request) = with_request request (λ r. record r { state = Revoked }) before
    by_deed (deeds.Transferred context readers) = map ended before
    by_deed (deeds.Unshared user) = map (ended_of user) before
    by_deed _ = before

-- the requests of a trail, the first asked first
abbrev pub requests : List Entry → List AccessRequest
requests trail = fold requests_by [] trail

-- the state of a request whose asker was disabled so often by now: another disabling ends it
abbrev pub state_now : ℕ → AccessRequest → State
state_now stamp r = if r.stamp == stamp then r.state else ended_state r.state

abbrev pub is_granted : State → Bool
is_granted Granted = true
is_granted Waiting = false
is_granted Denied = false
is_granted Revoked = false
is_granted Ended = false

abbrev pub is_waiting : State → Bool
is_waiting Waiting = true
is_waiting Granted = false
is_waiting Denied = false
is_waiting Revoked = false
is_waiting Ended = false

abbrev pub is_reached : ℕ → Option ℕ → Bool
is_reached now None = false
is_reached now (Some moment) = nat_le moment now

-- among these requests a grant of this user, disabled so often by now, is in force
abbrev pub in_force_of : ℕ → ℕ → ℕ → List AccessRequest → Bool
in_force_of user stamp now asked = list_any (λ r. (r.by == user) && is_granted (state_now stamp r) && is_reached now r.effective) asked

-- and on the report of this trail
abbrev pub in_force : ℕ → ℕ → ℕ → List Entry → Bool
in_force user stamp now trail = in_force_of user stamp now (requests trail)
