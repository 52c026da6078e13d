-- Words ask one thing.
use Rattle.std.proofs.Common.{refl, ℤ, ◌==◌, if◌then◌else◌, subst, slice_index_or, ◌≡◌, ◌≤◌, ◌<◌, ◌^◌, ℕ, List, [], ◌∷◌, Option, Some, None, sym, ap, ◌∙◌, arith, slice_index, drop}
use Rattle.std.specs.Prelude.{codes}
use Rattle.std.proofs.lemmas.Fmt.{decimal_injective}
use Rattle.wb_cli.specs.declared.plans.Lock.{Lock}
use Rattle.wb_cli.specs.declared.plans.Lock.TheVariants.{Mutex, Ticket}
use Rattle.wb_cli.specs.declared.plans.Plan.{Plan}
use Rattle.wb_cli.specs.declared.plans.Plan.TheVariants.{Play, Make, Tally, Serve, Notices, Register, Forecast}
use Rattle.wb_cli.specs.CommandLine.{Asks, AsksForecast, AsksNotices, AsksPlay, AsksRegister, AsksServe, AsksTurns, SaysDate, SaysFile, SaysLock, SaysMoment, SaysNumber, SaysPath}

some_same : {X : Type 0} (a b : X) → Some a ≡ Some b → a ≡ b
some_same a b e = cc

-- words differ in their first letter
two_words : (word a b : List ℕ) → word ≡ a → word ≡ b → slice_index a 0 ≡ slice_index b 0
two_words word a b is also = ap (λ w. slice_index w 0) (sym is ∙ also)

one_number : (greatest : ℕ) (word : Option (List ℕ)) (n m : ℕ) → greatest < 2 ^ 32 → SaysNumber greatest word n → SaysNumber greatest word m → n ≡ m
one_number greatest None n m small a b = absurd a
one_number greatest (Some word) n m small a b = decimal_injective n m (omega (arith, small, a.2)) (omega (arith, small, b.2)) (sym a.0 ∙ b.0)

one_moment : (word : Option (List ℕ)) (n m : ℕ) → SaysMoment word n → SaysMoment word m → n ≡ m
one_moment None n m a b = absurd a
one_moment (Some word) n m a b = decimal_injective n m (omega (arith, a.1)) (omega (arith, b.1)) (sym a.0 ∙ b.0)

one_day : (word : Option (List ℕ)) (d e : ℤ) → SaysDate word d → SaysDate word e → d ≡ e
one_day None d e a b = absurd a
one_day (Some word) d e a b = some_same _ _ (sym a ∙ b)

one_path : (word : Option (List ℕ)) (p q : List ℕ) → SaysPath word p → SaysPath word q → p ≡ q
one_path None p q a b = absurd a
one_path (Some word) p q a b = sym a.0 ∙ b.0

one_file : (word : Option (List ℕ)) (p q : List ℕ) → SaysFile word p → SaysFile word q → p ≡ q
one_file None p q a b = absurd a
one_file (Some word) p q a b = sym a.0 ∙ b.0

-- the names of locks differ in their first letter
one_lock : (word : Option (List ℕ)) (l m : Lock) → SaysLock word l → SaysLock word m → l ≡ m
one_lock None l m a b = a ∙ sym b
one_lock (Some word) Mutex Mutex a b = refl
one_lock (Some word) Mutex Ticket a b = let bad : 109 ≡ 116 = two_words word (codes "mutex") (codes "ticket") a b in absurd (omega (arith, bad))
one_lock (Some word) Ticket Mutex a b = let bad : 116 ≡ 109 = two_words word (codes "ticket") (codes "mutex") a b in absurd (omega (arith, bad))
one_lock (Some word) Ticket Ticket a b = refl

one_serve : (words : List (List ℕ)) (setup listen : List ℕ) (workers : ℕ) (lock : Lock) (store : Option (List ℕ)) (setup' listen' : List ℕ) (workers' : ℕ) (lock' : Lock) (store' : Option (List ℕ))
    → AsksServe words setup listen workers lock store → AsksServe words setup' listen' workers' lock' store' → Serve setup listen workers lock store ≡ Serve setup' listen' workers' lock' store'
one_serve words setup listen workers lock store setup' listen' workers' lock' store' a b =
    let same_setup = one_path _ setup setup' a.set_up b.set_up in
    let same_listen = one_path _ listen listen' a.heard b.heard in
    let same_workers = one_number 64 _ workers workers' (omega arith) a.said b.said in
    let same_lock = one_lock _ lock lock' a.locked b.locked in
    let same_store : store ≡ store' = sym a.named ∙ b.named in
    rw (same_setup, same_listen, same_workers, same_lock, same_store) refl

one_notices : (words : List (List ℕ)) (m : ℕ) (s o : List ℕ) (m' : ℕ) (s' o' : List ℕ) → AsksNotices words m s o → AsksNotices words m' s' o' → Notices m s o ≡ Notices m' s' o'
one_notices words m s o m' s' o' a b =
    let at = one_moment _ m m' a.at b.at in
    let named = one_file _ s s' a.named b.named in
    let put = one_file _ o o' a.put b.put in
    rw (at, named, put) refl

one_register : (words : List (List ℕ)) (t u m : ℕ) (s : Option (List ℕ)) (t' u' m' : ℕ) (s' : Option (List ℕ)) → AsksRegister words t u m s → AsksRegister words t' u' m' s' → Register t u m s ≡ Register t' u' m' s'
one_register words t u m s t' u' m' s' a b =
    let of_same = one_number 64 _ t t' (omega arith) a.of b.of in
    let by_same = one_number 256 _ u u' (omega arith) a.by b.by in
    let at = one_moment _ m m' a.at b.at in
    let named : s ≡ s' = sym a.named ∙ b.named in
    rw (of_same, by_same, at, named) refl

one_forecast : (words : List (List ℕ)) (t : ℕ) (d : ℤ) (s : Option (List ℕ)) (t' : ℕ) (d' : ℤ) (s' : Option (List ℕ)) → AsksForecast words t d s → AsksForecast words t' d' s' → Forecast t d s ≡ Forecast t' d' s'
one_forecast words t d s t' d' s' a b =
    let of_same = one_number 64 _ t t' (omega arith) a.of b.of in
    let by_same = one_day _ d d' a.by b.by in
    let named : s ≡ s' = sym a.named ∙ b.named in
    rw (of_same, by_same, named) refl

-- ---- the forms, by the first word

pub data Form : Type 0 where
  Plays : Form
  Makes : Form
  Tallies : Form
  Serves : Form
  Notes : Form
  Registers : Form
  Forecasts : Form

abbrev pub name_of : Form → List ℕ
name_of Plays = codes "play"
name_of Makes = codes "make"
name_of Tallies = codes "tally"
name_of Serves = codes "serve"
name_of Notes = codes "notices"
name_of Registers = codes "register"
name_of Forecasts = codes "forecast"

-- what the rest of the words says, after the word of a form
abbrev pub AsksAs : List (List ℕ) → Form → Plan → Type 0
AsksAs rest Plays p = (store : Option (List ℕ)) × (p ≡ Play store) × AsksPlay rest store
AsksAs rest Makes p = (turns : ℕ) × (p ≡ Make turns) × AsksTurns rest turns
AsksAs rest Tallies p = (turns : ℕ) × (p ≡ Tally turns) × AsksTurns rest turns
AsksAs rest Serves p = (setup : List ℕ) × (listen : List ℕ) × (workers : ℕ) × (lock : Lock) × (store : Option (List ℕ)) × (p ≡ Serve setup listen workers lock store) × AsksServe rest setup listen workers lock store
AsksAs rest Notes p = (moment : ℕ) × (store : List ℕ) × (outbox : List ℕ) × (p ≡ Notices moment store outbox) × AsksNotices rest moment store outbox
AsksAs rest Registers p = (tenant : ℕ) × (user : ℕ) × (moment : ℕ) × (store : Option (List ℕ)) × (p ≡ Register tenant user moment store) × AsksRegister rest tenant user moment store
AsksAs rest Forecasts p = (tenant : ℕ) × (day : ℤ) × (store : Option (List ℕ)) × (p ≡ Forecast tenant day store) × AsksForecast rest tenant day store

as_form : (word : List ℕ) (rest : List (List ℕ)) (p : Plan) → Asks (word ∷ rest) p → (f : Form) × (word ≡ name_of f) × AsksAs rest f p
as_form word rest (Play s) a = (Plays, a.0, (s, refl, a.1))
as_form word rest (Make n) a = (Makes, a.0, (n, refl, a.1))
as_form word rest (Tally n) a = (Tallies, a.0, (n, refl, a.1))
as_form word rest (Serve s l w k t) a = (Serves, a.0, (s, l, w, k, t, refl, a.1))
as_form word rest (Notices m s o) a = (Notes, a.0, (m, s, o, refl, a.1))
as_form word rest (Register t u m s) a = (Registers, a.0, (t, u, m, s, refl, a.1))
as_form word rest (Forecast t d s) a = (Forecasts, a.0, (t, d, s, refl, a.1))

-- the names of forms differ in their first letter
abbrev form_by : ℕ → Option Form
form_by n =
    if n == 112 then Some Plays else
    if n == 109 then Some Makes else
    if n == 116 then Some Tallies else
    if n == 115 then Some Serves else
    if n == 110 then Some Notes else
    if n == 114 then Some Registers else Some Forecasts

form_of : (f : Form) → form_by (slice_index (name_of f) 0) ≡ Some f
form_of Plays = refl
form_of Makes = refl
form_of Tallies = refl
form_of Serves = refl
form_of Notes = refl
form_of Registers = refl
form_of Forecasts = refl

one_form : (word : List ℕ) (f g : Form) → word ≡ name_of f → word ≡ name_of g → f ≡ g
one_form word f g a b = some_same _ _ (sym (form_of f) ∙ (ap (λ w. form_by (slice_index w 0)) (sym a ∙ b) ∙ form_of g))

-- ---- one plan

one_plan : (rest : List (List ℕ)) (f : Form) (p q : Plan) → AsksAs rest f p → AsksAs rest f q → p ≡ q
one_plan rest Plays p q (s, p_is, a) (t, q_is, b) = p_is ∙ (ap Play (sym a.named ∙ b.named) ∙ sym q_is)
one_plan rest Makes p q (n, p_is, a) (m, q_is, b) = p_is ∙ (ap Make (one_number 20_000 _ n m (omega arith) a.said b.said) ∙ sym q_is)
one_plan rest Tallies p q (n, p_is, a) (m, q_is, b) = p_is ∙ (ap Tally (one_number 20_000 _ n m (omega arith) a.said b.said) ∙ sym q_is)
one_plan rest Serves p q (s, l, w, k, t, p_is, a) (s', l', w', k', t', q_is, b) = p_is ∙ (one_serve rest s l w k t s' l' w' k' t' a b ∙ sym q_is)
one_plan rest Notes p q (m, s, o, p_is, a) (m', s', o', q_is, b) = p_is ∙ (one_notices rest m s o m' s' o' a b ∙ sym q_is)
one_plan rest Registers p q (t, u, m, s, p_is, a) (t', u', m', s', q_is, b) = p_is ∙ (one_register rest t u m s t' u' m' s' a b ∙ sym q_is)
one_plan rest Forecasts p q (t, d, s, p_is, a) (t', d', s', q_is, b) = p_is ∙ (one_forecast rest t d s t' d' s' a b ∙ sym q_is)

pub asks_one : (words : List (List ℕ)) (p q : Plan) → Asks words p → Asks words q → p ≡ q
asks_one [] p q a b = absurd a
asks_one (word ∷ rest) p q a b =
    let (f, f_is, said) = as_form word rest p a in
    let (g, g_is, also) = as_form word rest q b in
    let same = one_form word f g f_is g_is in
    one_plan rest g p q (subst (λ h. AsksAs rest h p) same said) also

-- words are no form where the rest asks nothing of the form that the first word names
pub no_form : (words : List (List ℕ)) (first : List ℕ) (f : Form) → slice_index_or words 0 first ≡ name_of f → ((p : Plan) → AsksAs (drop 1 words) f p → ⊥) → (plan : Plan) → Asks words plan → ⊥
no_form [] first f is none plan asks = absurd asks
no_form (word ∷ rest) first f is none plan asks =
    let (g, g_is, said) = as_form word rest plan asks in
    none plan (subst (λ h. AsksAs rest h plan) (one_form word g f g_is is) said)

few_said : (word : Option (List ℕ)) (turns : ℕ) → SaysNumber 20_000 word turns → turns ≤ 20_000
few_said None turns said = absurd said
few_said (Some word) turns said = said.2

-- a tally is of at most so many turns
pub few_turns : (words : List (List ℕ)) (turns : ℕ) → Asks words (Tally turns) → turns ≤ 20_000
few_turns [] turns asks = absurd asks
few_turns (word ∷ rest) turns asks = few_said _ turns asks.1.said

-- one form is not another
abbrev turns_in : Plan → ℕ
turns_in (Make turns) = turns
turns_in (Tally turns) = turns
turns_in p = 0

abbrev pub form_in : Plan → ℕ
form_in (Play store) = 0
form_in (Make turns) = 1
form_in (Tally turns) = 2
form_in (Serve setup listen workers lock store) = 3
form_in (Notices moment store outbox) = 4
form_in (Register tenant user moment store) = 5
form_in (Forecast tenant day store) = 6

pub same_turns : (n m : ℕ) → Tally n ≡ Tally m → n ≡ m
same_turns n m e = ap turns_in e

workers_said : (word : Option (List ℕ)) (workers : ℕ) → SaysNumber 64 word workers → (1 ≤ workers) × (workers ≤ 64)
workers_said None workers said = absurd said
workers_said (Some word) workers said = (said.1, said.2)

-- a host is served by at least one worker, and at most so many
pub few_workers : (words : List (List ℕ)) (setup listen : List ℕ) (workers : ℕ) (lock : Lock) (store : Option (List ℕ)) → Asks words (Serve setup listen workers lock store) → (1 ≤ workers) × (workers ≤ 64)
few_workers [] setup listen workers lock store asks = absurd asks
few_workers (word ∷ rest) setup listen workers lock store asks = workers_said _ workers asks.1.said
