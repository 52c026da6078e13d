-- Bytes have one head, and are read in one way, as something that fits.
use Rattle.std.proofs.Common.{◌≡◌, List, ℕ, ◌&&◌, ◌==◌, Bool, true, false, [], ◌∷◌, Option, Some, None, Result, Ok, Err, IfSome, take, drop, length, ◌-◌, unwrap_or, codes, refl, sym, ap, ◌∙◌, inl, inr, cond, option_and_then, subst}
use Rattle.std.specs.Prelude.{slice_index, ok_or}
use Rattle.std.specs.Str.Parse.{digits_value}
use Rattle.std.proofs.lemmas.Bool.{cases_Bool, and_parts, and_from}
use Rattle.httparse.specs.Grammar.{RequestHead}
use Rattle.httparse.proofs.GrammarLemmas.{request_unique}
use Rattle.serde_json.specs.Data.{Data}
use Rattle.wb_base.specs.declared.callers.Presented.{Presented}
use Rattle.wb_base.specs.declared.callers.Presented.TheVariants as presented
use Rattle.wb_base.specs.AnswerList.{is_text}
use Rattle.wb_base.specs.FormShape.{keep}
use Rattle.wb_model.specs.declared.command.Asked.{Asked}
use Rattle.wb_model.specs.declared.command.Command.{Command}
use Rattle.wb_model.specs.declared.route.Route.{Route}
use Rattle.wb_model.specs.declared.wire.WireFault.{WireFault}
use Rattle.wb_model.specs.declared.wire.WireFault.TheVariants as faults
use Rattle.wb_model.specs.Bodies.{json}
use Rattle.wb_model.specs.RouteBodies.{Numbers, bare, shaped}
use Rattle.wb_model.specs.Fits.{fits_session, is_path_number}
use Rattle.wb_model.specs.Commands.{fits, fits_command, is_health}
use Rattle.wb_model.specs.Heads.{Fields, BeginsWithHead, closes, closes_by, path, fields_of, values, is_number, is_token, token, presented_by, session}
use Rattle.wb_model.specs.Readings.{Reading, Asks, Reads, Closes, and_then, sized, Located, located_by, located, located_or_fault, routed, body_by, command_by, command, asks, reading_by, reading_of}
use Rattle.wb_model.specs.Routes.{Path, number_of_path, path_at, segments, path_number, are_numbers, number_under, route}
use Rattle.wb_wire.proofs.ShapeLemmas.{GoodForms, GoodAnswers, HasGoodAnswers, body_answers, AreNumbers, IsOfBody, shaped_of, bare_fits}

-- ---- one head, one reading

one_head : (bytes : List ℕ) (h k : RequestHead) (r q : List ℕ) → BeginsWithHead bytes h r → BeginsWithHead bytes k q → (h ≡ k) × (r ≡ q)
one_head bytes h k r q x y = request_unique bytes h k r q x.reads y.reads

pub one_reading : (bytes : List ℕ) (a b : Reading) → Reads bytes a → Reads bytes b → a ≡ b
one_reading bytes a b (inl x) (inl y) =
    let same = one_head bytes x.0 y.0 x.1 y.1 x.2 y.2 in
    x.3 ∙ ap (λ h. reading_of h x.1) same.0 ∙ ap (reading_of y.0) same.1 ∙ sym y.3
one_reading bytes a b (inl x) (inr y) = absurd (y.0 x.0 x.1 x.2)
one_reading bytes a b (inr x) (inl y) = absurd (x.0 y.0 y.1 y.2)
one_reading bytes a b (inr x) (inr y) = x.1 ∙ sym y.1

pub one_closing : (bytes : List ℕ) (a b : Bool) → Closes bytes a → Closes bytes b → a ≡ b
one_closing bytes a b x y = x.3 ∙ ap closes (one_head bytes x.0 y.0 x.1 y.1 x.2 y.2).0 ∙ sym y.3

-- ---- the session fits

token_fits : (turn rest : List ℕ) → fits_session (token turn rest) ≡ true
token_fits turn rest = elim (cases_Bool (is_number turn && is_token (digits_value 10 turn) rest)) [
  | inl good ↦
      let parts = and_parts (is_number turn) (is_token (digits_value 10 turn) rest) good in
      rw good (and_parts (slice_index rest 0 == 45) (fits_session (presented.Token (digits_value 10 turn) (drop 1 rest))) parts.1).1
  | inr bad ↦ rw bad refl
]

session_fits : (vs : List (List ℕ)) → fits_session (presented_by vs) ≡ true
session_fits [] = refl
session_fits (text ∷ []) = token_fits (take (length text - 33) text) (drop (length text - 33) text)
session_fits (text ∷ second ∷ more) = refl

-- ---- the numbers of a path are in range

number_in_range : (text : List ℕ) (n : ℕ) → path_number text ≡ Some n → is_path_number n ≡ true
number_in_range text n is = elim (cases_Bool (is_number text)) [
  | inl good ↦ kept (digits_value 10 text) (rw good at is)
  | inr bad ↦ (let none : None ≡ Some n = rw bad at is in absurd cc)
]
  where
    kept : (x : ℕ) → keep is_path_number x ≡ Some n → is_path_number n ≡ true
    kept x e = elim (cases_Bool (is_path_number x)) [
      | inl good ↦ (let some : Some x ≡ Some n = rw good at e in let same : x ≡ n = cc in ap is_path_number (sym same) ∙ good)
      | inr bad ↦ (let none : None ≡ Some n = rw bad at e in absurd cc)
    ]

or_one : (o : Option ℕ) → ((n : ℕ) → o ≡ Some n → is_path_number n ≡ true) → is_path_number (unwrap_or o 1) ≡ true
or_one None h = refl
or_one (Some n) h = h n refl

numbers_fit : (names texts : List (List ℕ)) → AreNumbers (number_under names texts)
numbers_fit [] texts wanted = refl
numbers_fit (name ∷ names) [] wanted = refl
numbers_fit (name ∷ names) (text ∷ texts) wanted = elim (cases_Bool (is_text name wanted)) [
  | inl here ↦ rw here (or_one (path_number text) (number_in_range text))
  | inr other ↦ rw other (numbers_fit names texts wanted)
]

-- ---- the command fits

and_then_ok : {X Y : Type 0} (next : X → Result Y WireFault) (r : Result X WireFault) (y : Y) → and_then next r ≡ Ok y → (x : X) × (r ≡ Ok x) × (next x ≡ Ok y)
and_then_ok next (Ok x) y is = (x, refl, is)
and_then_ok next (Err fault) y is = absurd cc

ok_or_some : {X : Type 0} (o : Option X) (fault : WireFault) (x : X) → ok_or o fault ≡ Ok x → o ≡ Some x
ok_or_some None fault x is = absurd cc
ok_or_some (Some z) fault x is = cc

if_given : (P : Command → Type 0) (o : Option Command) (c : Command) → IfSome o P → o ≡ Some c → P c
if_given P o c all is = subst (λ x. IfSome x P) is all

-- the numbers that stand in a place of the table fit
place_fits : (text : List ℕ) (p : Located) → located text ≡ Some p → AreNumbers p.at
place_fits text p is = by_number (number_of_path text) is
  where
    by_test : (number : ℕ) (q : Path) (b : Bool) → (cond b (Some (record { number = number; methods = q.methods; at = number_under (segments q.pattern) (segments text) })) None) ≡ Some p → AreNumbers p.at
    by_test number q true e = (let same : record { number = number; methods = q.methods; at = number_under (segments q.pattern) (segments text) } ≡ p = cc in subst (λ (x : Located). AreNumbers x.at) same (numbers_fit (segments q.pattern) (segments text)))
    by_test number q false e = absurd cc

    by_row : (number : ℕ) (o : Option Path) → option_and_then (located_by text number) o ≡ Some p → AreNumbers p.at
    by_row number None e = absurd cc
    by_row number (Some q) e = by_test number q (are_numbers (segments q.pattern) (segments text)) e

    by_number : (o : Option ℕ) → option_and_then (λ number. option_and_then (located_by text number) (path_at number)) o ≡ Some p → AreNumbers p.at
    by_number None e = absurd cc
    by_number (Some number) e = by_row number (path_at number) e

-- the value of a body has good answers under its keys
value_answers : GoodAnswers → (rest : List ℕ) (said : Option ℕ) (d : Data) → body_by rest said ≡ Ok d → HasGoodAnswers d
value_answers ordered rest None d is = absurd cc
value_answers ordered rest (Some said) d is = body_answers ordered rest d (ok_or_some (json rest) faults.BadJson d is)

-- the command of a body
body_command : GoodForms → GoodAnswers → (at : Numbers) (rest : List ℕ) (said : Option ℕ) (r : Route) (c : Command) → AreNumbers at → and_then (λ d. ok_or (shaped r at d) faults.BadShape) (body_by rest said) ≡ Ok c → IsOfBody c
body_command good ordered at rest said r c h is =
    let value = and_then_ok (λ d. ok_or (shaped r at d) faults.BadShape) (body_by rest said) c is in
    let all = shaped_of good r at value.0 (value_answers ordered rest said value.0 value.1) h in
    if_given IsOfBody (shaped r at value.0) c all.given (ok_or_some (shaped r at value.0) faults.BadShape c value.2)

command_fits : GoodForms → GoodAnswers → (at : Numbers) (rest : List ℕ) (said : Option ℕ) (r : Route) (c : Command) → AreNumbers at → command at rest said r ≡ Ok c → fits_command c ≡ true
command_fits good ordered at rest said r c h is = by (bare r at) (bare_fits r at h) is
  where
    by : (o : Option Command) → IfSome o (λ x. fits_command x ≡ true) → command_by r at rest said o ≡ Ok c → fits_command c ≡ true
    by None all e = (body_command good ordered at rest said r c h e).0
    by (Some x) all e = (let same : x ≡ c = cc in subst (λ y. fits_command y ≡ true) same all)

-- how what is asked came about: the place, its route and the command
pub record Asking (method text : List ℕ) (fields : Fields) (rest : List ℕ) (c : Command) : Type 0 where
  pub said : Option ℕ
  pub place : Located
  pub found : located text ≡ Some place
  pub asked : Route
  pub routes : route method place.methods ≡ Some asked
  pub commands : command place.at rest said asked ≡ Ok c

pub asking : (method text : List ℕ) (fields : Fields) (rest : List ℕ) (c : Command) → asks method text fields rest ≡ Ok c → Asking method text fields rest c
asking method text fields rest c is =
    let said = and_then_ok (λ s. and_then (λ p. and_then (command p.at rest s) (routed method p)) (located_or_fault text)) (sized fields rest) c is in
    let place = and_then_ok (λ p. and_then (command p.at rest said.0) (routed method p)) (located_or_fault text) c said.2 in
    let by = and_then_ok (command place.0.at rest said.0) (routed method place.0) c place.2 in
    record {
      said = said.0;
      place = place.0;
      found = ok_or_some (located text) faults.NoRoute place.0 place.1;
      asked = by.0;
      routes = ok_or_some (route method place.0.methods) (faults.NoMethod place.0.number) by.0 by.1;
      commands = by.2;
    }

asks_fit : GoodForms → GoodAnswers → (method text : List ℕ) (fields : Fields) (rest : List ℕ) (c : Command) → asks method text fields rest ≡ Ok c → fits_command c ≡ true
asks_fit good ordered method text fields rest c is =
    let a = asking method text fields rest c is in
    command_fits good ordered a.place.at rest a.said a.asked c (place_fits text a.place a.found) a.commands

-- what is read as asked
pub asked_by : (presented : Presented) (close : Bool) (r : Result Command WireFault) (a : Asked) → reading_by presented close r ≡ Asks a → (r ≡ Ok a.command) × (a.session ≡ presented)
asked_by presented close (Ok c) a is =
    let same : record { command = c; session = presented; close = close } ≡ a = cc in
    (ap (λ (x : Asked). Ok x.command) same, ap (λ (x : Asked). x.session) (sym same))
asked_by presented close (Err fault) a is = absurd cc

pub reads_fit : GoodForms → GoodAnswers → (bytes : List ℕ) (asked : Asked) → Reads bytes (Asks asked) → fits asked ≡ true
reads_fit good ordered bytes asked (inl x) =
    let h = x.0 in
    let by = asked_by (session (fields_of h)) (closes_by h.minor (fields_of h)) (asks h.method (path h) (fields_of h) x.1) asked (sym x.3) in
    and_from (fits_command asked.command) (fits_session asked.session)
    (asks_fit good ordered h.method (path h) (fields_of h) x.1 asked.command by.0)
    (ap fits_session by.1 ∙ session_fits (values (codes "x-session") (fields_of h)))
reads_fit good ordered bytes asked (inr x) = absurd (cc (x.1))

-- what the body of a route asks is not the host's health
pub body_not_health : GoodForms → GoodAnswers → (text rest : List ℕ) (said : Option ℕ) (place : Located) (r : Route) (c : Command) → located text ≡ Some place → bare r place.at ≡ None
    → command place.at rest said r ≡ Ok c → is_health c ≡ false
body_not_health good ordered text rest said place r c found none made =
    let of_body : and_then (λ d. ok_or (shaped r place.at d) faults.BadShape) (body_by rest said) ≡ Ok c = rw none at made in
    (body_command good ordered place.at rest said r c (place_fits text place found) of_body).1

-- ---- from the parts

pub asks_on : (method text : List ℕ) (fields : Fields) (rest : List ℕ) (said : Option ℕ) (p : Located) (r : Route) → sized fields rest ≡ Ok said → located text ≡ Some p → route method p.methods ≡ Some r
    → asks method text fields rest ≡ command p.at rest said r
asks_on method text fields rest said p r e f g = rw (e, f, g) refl
