-- A legal trail has at most 100 requests, and each of its entries is by whom it may be.
use Rattle.std.proofs.Common.{◌≡◌, ℕ, suc, ◌<◌, ◌≤◌, Bool, true, false, List, [], ◌∷◌, ◌++◌, length, Option, Some, None, refl, sym, ap, append-nil, append_assoc, arith, map}
use Rattle.std.specs.Prelude.{nat_le, ◌&&◌, not, is_some, option_map}
use Rattle.std.specs.Option.{option_or}
use Rattle.std.proofs.lemmas.Bool.Decides.{nat_tests}
use Rattle.std.proofs.lemmas.List.Sums.{fold-append}
use Rattle.wb_model.specs.declared.access.AccessRequest.{AccessRequest}
use Rattle.wb_model.specs.declared.access.State.TheVariants.{Waiting, Granted, Denied, Revoked}
use Rattle.wb_model.specs.declared.act.CustodyFault.{CustodyFault}
use Rattle.wb_model.specs.declared.entry.Actor.{Actor}
use Rattle.wb_model.specs.declared.entry.Entry.{Entry}
use Rattle.wb_model.specs.declared.entry.Deed.{Deed}
use Rattle.wb_model.specs.declared.entry.Deed.TheVariants as deeds
use Rattle.wb_model.specs.Access.{requests, requests_by, with_request, ended, ended_of, user_by}
use Rattle.wb_model.specs.Moves.{pending, full}
use Rattle.wb_model.specs.Refusing.{refuses_where}
use Rattle.wb_model.specs.declared.act.CustodyFault.TheVariants as faults
use Rattle.wb_model.specs.Faults.{custody_told}
use Rattle.wb_model.specs.Trails.{has_identity}
use Rattle.wb_model.specs.Legal.{Reckoning, is_legal, is_next, is_first, legal_from, right_actor, right_values, is_free, done}
use Rattle.wb_custody.specs.Desks.{have_right_actors}
use Rattle.wb_custody.proofs.RequestLists.{same_count}

second : (a b c d : Bool) → (a && b && c && d) ≡ true → b ≡ true
second a b c d e = grind (arith, e)

fourth : (a b c d : Bool) → (a && b && c && d) ≡ true → d ≡ true
fourth a b c d e = grind (arith, e)

middle : (a b c : Bool) → (a && b && c) ≡ true → b ≡ true
middle a b c e = grind (arith, e)

left : (a b : Bool) → (a && b) ≡ true → a ≡ true
left a b e = grind (arith, e)

right : (a b : Bool) → (a && b) ≡ true → b ≡ true
right a b e = grind (arith, e)

both : (a b : Bool) → a ≡ true → b ≡ true → (a && b) ≡ true
both a b e f = grind (arith, e, f)

-- the requests with one more entry
pub requests-more : (before : List Entry) (e : Entry) → requests (before ++ e ∷ []) ≡ requests_by (requests before) e
requests-more before e = fold-append requests_by [] before (e ∷ [])

mapped : (f : AccessRequest → AccessRequest) (rs : List AccessRequest) → length (map f rs) ≡ length rs
mapped f [] = refl
mapped f (r ∷ rs) = ap suc (mapped f rs)

one-more : (rs : List AccessRequest) (r : AccessRequest) → length (rs ++ r ∷ []) ≡ suc (length rs)
one-more [] r = refl
one-more (x ∷ rs) r = ap suc (one-more rs r)

at-most : {a b : ℕ} → a ≡ b → b ≤ 100 → a ≤ 100
at-most e h = omega (arith, e, h)

settled : (change : AccessRequest → AccessRequest) (n : ℕ) (rs : List AccessRequest) → length rs ≤ 100 → length (with_request n change rs) ≤ 100
settled change n rs few = at-most (same_count change n rs) few

-- an ask that nothing refuses finds fewer than 100
not-full : (a b : Option CustodyFault) (n : ℕ) (d : Option CustodyFault) → not (is_some (option_map custody_told (option_or a (option_or b (option_or (refuses_where (nat_le 100 n) faults.DeskFull) d))))) ≡ true → n < 100
not-full (Some x) b n d e = absurd (grind (arith, e))
not-full None (Some x) n d e = absurd (grind (arith, e))
not-full None None n d e = by (nat_le 100 n) refl e
  where
    by : (c : Bool) → nat_le 100 n ≡ c → not (is_some (option_map custody_told (option_or (refuses_where c faults.DeskFull) d))) ≡ true → n < 100
    by true is f = absurd (grind (arith, f))
    by false is f = grind (arith, nat_tests, is)

few-after : (days : Reckoning) (time : ℕ) (before : List Entry) (at : ℕ) (by : Actor) (d : Deed) → is_next days time before (record { at = at; by = by; deed = d }) ≡ true → length (requests before) ≤ 100 → length (requests_by (requests before) (record { at = at; by = by; deed = d })) ≤ 100
few-after days time before at by (deeds.Asked reason stamp) h few =
    let free = fourth (nat_le time at) (right_actor (deeds.Asked reason stamp) by) (right_values days before at (deeds.Asked reason stamp)) (is_free before (user_by by) (done before (deeds.Asked reason stamp))) h in
    let less = not-full (refuses_where (not (has_identity before)) faults.NoIdentity) (pending (user_by by) stamp (requests before)) (length (requests before)) (full (length before)) free in
    let more = one-more (requests before) (record { by = user_by by; reason = reason; stamp = stamp; state = Waiting; effective = None }) in
    omega (arith, less, more)
few-after days time before at by (deeds.Granted effective reason request withheld) h few = settled (λ r. record r { state = Granted; effective = Some effective }) request (requests before) few
few-after days time before at by (deeds.Denied reason request) h few = settled (λ r. record r { state = Denied }) request (requests before) few
few-after days time before at by (deeds.Revoked reason request) h few = settled (λ r. record r { state = Revoked }) request (requests before) few
few-after days time before at by (deeds.Transferred context readers) h few = at-most (mapped ended (requests before)) few
few-after days time before at by (deeds.Unshared user) h few = at-most (mapped (ended_of user) (requests before)) few
few-after days time before at by deeds.Identity h few = few
few-after days time before at by d h few = few

few-from : (days : Reckoning) (time : ℕ) (before es : List Entry) → legal_from days time before es ≡ true → length (requests before) ≤ 100 → length (requests (before ++ es)) ≤ 100
few-from days time before [] h few = at-most (ap (λ es. length (requests es)) (append-nil before)) few
few-from days time before (e ∷ es) h few =
    let next = left (is_next days time before e) (legal_from days e.at (before ++ e ∷ []) es) h in
    let rest = right (is_next days time before e) (legal_from days e.at (before ++ e ∷ []) es) h in
    let step = at-most (ap length (requests-more before e)) (few-after days time before e.at e.by e.deed next few) in
    at-most (ap (λ xs. length (requests xs)) (sym (append_assoc before (e ∷ []) es))) (few-from days e.at (before ++ e ∷ []) es rest step)

none-first : (days : Reckoning) (at : ℕ) (by : Actor) (d : Deed) → is_first days (record { at = at; by = by; deed = d }) ≡ true → length (requests (record { at = at; by = by; deed = d } ∷ [])) ≤ 100
none-first days at by (deeds.Asked reason stamp) h = omega arith
none-first days at by deeds.Identity h = omega arith
none-first days at by d h = omega arith

pub legal-few : (days : Reckoning) (trail : List Entry) → is_legal days trail ≡ true → length (requests trail) ≤ 100
legal-few days [] h = absurd (grind (arith, h))
legal-few days (e ∷ es) h =
    few-from days e.at (e ∷ []) es (right (is_first days e) (legal_from days e.at (e ∷ []) es) h)
    (none-first days e.at e.by e.deed (left (is_first days e) (legal_from days e.at (e ∷ []) es) h))

-- ---- by whom its entries are

pub legal-actor : (days : Reckoning) (time : ℕ) (trail : List Entry) (e : Entry) → is_next days time trail e ≡ true → right_actor e.deed e.by ≡ true
legal-actor days time trail e h = second (nat_le time e.at) (right_actor e.deed e.by) (right_values days trail e.at e.deed) (is_free trail (user_by e.by) (done trail e.deed)) h

actors-from : (days : Reckoning) (time : ℕ) (before es : List Entry) → legal_from days time before es ≡ true → have_right_actors es ≡ true
actors-from days time before [] h = refl
actors-from days time before (e ∷ es) h =
    both (right_actor e.deed e.by) (have_right_actors es)
    (legal-actor days time before e (left (is_next days time before e) (legal_from days e.at (before ++ e ∷ []) es) h))
    (actors-from days e.at (before ++ e ∷ []) es (right (is_next days time before e) (legal_from days e.at (before ++ e ∷ []) es) h))

pub legal-actors : (days : Reckoning) (trail : List Entry) → is_legal days trail ≡ true → have_right_actors trail ≡ true
legal-actors days [] h = absurd (grind (arith, h))
legal-actors days (e ∷ es) h =
    both (right_actor e.deed e.by) (have_right_actors es)
    (middle _ (right_actor e.deed e.by) (right_values days [] e.at e.deed) (left (is_first days e) (legal_from days e.at (e ∷ []) es) h))
    (actors-from days e.at (e ∷ []) es (right (is_first days e) (legal_from days e.at (e ∷ []) es) h))
