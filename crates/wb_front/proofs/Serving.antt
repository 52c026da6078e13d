-- One more exchange of a connection, and more of its bytes.
use Rattle.std.proofs.Common.{◌≡◌, ◌+◌, ℕ, suc, false, List, [], ◌∷◌, ◌++◌, length, Option, Some, None, refl, sym, ap, ◌∙◌, subst, arith}
use Rattle.std.proofs.lemmas.List.{append_assoc, append-nil, length-append}
use Rattle.std.specs.Io.KnownBytes.{Appends}
use Rattle.wb_model.specs.declared.body.Told.{Told}
use Rattle.wb_model.specs.Requests.{Frame}
use Rattle.wb_transport.specs.Lines.{Tick}
use Rattle.wb_front.specs.Arrivals.{Flows}
use Rattle.wb_front.specs.Endings.{IsOpenYet}
use Rattle.wb_front.specs.Served.{Exchange, IsExchange, AreExchanges, requests, replies_after, replies, reply_bytes, said, tick_of, ticks, StayOpen, Sides, Loses, HasExchanged}

-- ---- lists of exchanges

requests_more : (xs : List Exchange) (x : Exchange) → requests (xs ++ x ∷ []) ≡ requests xs ++ x.request
requests_more [] x = append-nil x.request
requests_more (y ∷ ys) x = ap (λ bs. y.request ++ bs) (requests_more ys x) ∙ sym (append_assoc y.request (requests ys) x.request)

replies_on : (n : ℕ) (xs : List Exchange) (x : Exchange) → replies_after n (xs ++ x ∷ []) ≡ replies_after n xs ++ reply_bytes (said (n + length xs) x.reply)
replies_on n [] x = append-nil (reply_bytes (said n x.reply)) ∙ (let same : n ≡ n + 0 = omega arith in ap (λ k. reply_bytes (said k x.reply)) same)
replies_on n (y ∷ ys) x =
    let same : suc n + length ys ≡ n + length (y ∷ ys) = omega arith in
    ap (λ bs. reply_bytes (said n y.reply) ++ bs) (replies_on (suc n) ys x ∙ ap (λ k. replies_after (suc n) ys ++ reply_bytes (said k x.reply)) same)
    ∙ sym (append_assoc (reply_bytes (said n y.reply)) (replies_after (suc n) ys) (reply_bytes (said (n + length (y ∷ ys)) x.reply)))

replies_more : (xs : List Exchange) (x : Exchange) → replies (xs ++ x ∷ []) ≡ replies xs ++ reply_bytes (said (length xs) x.reply)
replies_more xs x = let same : 0 + length xs ≡ length xs = omega arith in replies_on 0 xs x ∙ ap (λ k. replies xs ++ reply_bytes (said k x.reply)) same

ticks_more : (xs : List Exchange) (x : Exchange) → ticks (xs ++ x ∷ []) ≡ ticks xs ++ tick_of x.tick
ticks_more [] x = append-nil (tick_of x.tick)
ticks_more (y ∷ ys) x = ap (λ ts. tick_of y.tick ++ ts) (ticks_more ys x) ∙ sym (append_assoc (tick_of y.tick) (ticks ys) (tick_of x.tick))

exchanges_more : {O : Type 0} (Ran : O → Frame → Told → O → Type 0) (own mid own' : O) (xs : List Exchange) (x : Exchange) → AreExchanges Ran own xs mid → IsExchange Ran mid own' x → AreExchanges Ran own (xs ++ x ∷ []) own'
exchanges_more Ran own mid own' [] x all one = (own', subst (λ o. IsExchange Ran o own' x) all one, refl)
exchanges_more Ran own mid own' (y ∷ ys) x all one = (all.0, all.1, exchanges_more Ran all.0 mid own' ys x all.2 one)

pub stay_more : (xs : List Exchange) (x : Exchange) → StayOpen xs → x.reply.close ≡ false → StayOpen (xs ++ x ∷ [])
stay_more [] x all one = (one, tt)
stay_more (y ∷ ys) x all one = (all.0, stay_more ys x all.1 one)

pub length_more : (xs : List Exchange) (x : Exchange) → length (xs ++ x ∷ []) ≡ length xs + 1
length_more xs x = length-append xs (x ∷ [])

-- ---- what is told

loses_on : {X : Type 0} (a b c : Option (List X)) (front more : List X) → Loses a b front → Loses b c more → Loses a c (front ++ more)
loses_on a b c front more first then = λ xs is. let one = first xs is in let two = then one.0 one.1 in (two.0, two.1, one.2 ∙ (ap (λ zs. front ++ zs) two.2 ∙ sym (append_assoc front more two.0)))

appends_on : (a b c : Option (List ℕ)) (front more : List ℕ) → Appends a b front → Appends b c more → Appends a c (front ++ more)
appends_on None b c front more first then = tt
appends_on (Some xs) None c front more first then = absurd first
appends_on (Some xs) (Some ys) None front more first then = absurd then
appends_on (Some xs) (Some ys) (Some zs) front more first then = then ∙ (ap (λ bs. bs ++ more) first ∙ append_assoc xs front more)

-- ---- a connection

-- more bytes were read
pub read_on : {O : Type 0} (Ran : O → Frame → Told → O → Type 0) (a b : Sides O) (xs : List Exchange) (held held' : List ℕ) (left' : Option (List ℕ)) → HasExchanged Ran a b xs held → Flows held b.left held' left' → HasExchanged Ran a (record b { left = left' }) xs held'
read_on Ran a b xs held held' left' h flows = record {
  exchanges = h.exchanges;
  bytes = λ l is. let one = h.bytes l is in let two = flows one.0 one.1 in
      (two.0, two.1, one.2 ∙ (append_assoc (requests xs) held one.0 ∙ (ap (λ bs. requests xs ++ bs) two.2 ∙ sym (append_assoc (requests xs) held' two.0))));
  turns = h.turns;
}

-- one more exchange was made
pub served_more : {O : Type 0} (Ran : O → Frame → Told → O → Type 0) (a b : Sides O) (xs : List Exchange) (held rest : List ℕ) (x : Exchange) (got' : Option (List ℕ)) (moments' : Option (List Tick)) (own' : O) → HasExchanged Ran a b xs held → held ≡ x.request ++ rest →
    IsExchange Ran b.own own' x → Loses b.moments moments' (tick_of x.tick) → HasExchanged Ran a (record { left = b.left; got = got'; moments = moments'; own = own' }) (xs ++ x ∷ []) rest
served_more Ran a b xs held rest x got' moments' own' h parts one loses = record {
  exchanges = exchanges_more Ran a.own b.own own' xs x h.exchanges one;
  bytes = subst (Loses a.left b.left) (ap (λ bs. requests xs ++ bs) parts ∙ (sym (append_assoc (requests xs) x.request rest) ∙ ap (λ bs. bs ++ rest) (sym (requests_more xs x)))) h.bytes;
  turns = subst (Loses a.moments moments') (sym (ticks_more xs x)) (loses_on a.moments b.moments moments' (ticks xs) (tick_of x.tick) h.turns loses);
}

pub sent_more : {O : Type 0} (a b : Sides O) (xs : List Exchange) (x : Exchange) (got' : Option (List ℕ)) → Appends a.got b.got (replies xs) → Appends b.got got' (reply_bytes (said (length xs) x.reply)) → Appends a.got got' (replies (xs ++ x ∷ []))
sent_more a b xs x got' first then = subst (Appends a.got got') (sym (replies_more xs x)) (appends_on a.got b.got got' (replies xs) (reply_bytes (said (length xs) x.reply)) first then)

pub refused_more : {O : Type 0} (a b : Sides O) (xs : List Exchange) (bytes : List ℕ) (got' : Option (List ℕ)) → Appends a.got b.got (replies xs) → Appends b.got got' bytes → Appends a.got got' (replies xs ++ bytes)
refused_more a b xs bytes got' first then = appends_on a.got b.got got' (replies xs) bytes first then

-- none was made yet
pub nothing_yet : {O : Type 0} (Ran : O → Frame → Told → O → Type 0) (a : Sides O) → IsOpenYet Ran a a [] []
nothing_yet Ran a = record {
  replied = record { served = record { exchanges = refl; bytes = λ l is. (l, is, refl); turns = λ ts is. (ts, is, refl) }; sent = nothing a.got };
  stay = tt;
}
  where
    nothing : (o : Option (List ℕ)) → Appends o o []
    nothing None = tt
    nothing (Some xs) = sym (append-nil xs)
