-- The head at the front of a request's bytes.
use Rattle.std.proofs.Common.{◌≡◌, ◌<◌, inl, inr, ◌⊎◌, nat_lt, if◌then◌else◌, Bool, append_assoc, refl, ℕ, ◌+◌, ◌-◌, ◌≤◌, List, [], ◌++◌, length, take, drop, map, sym, ap, subst, ◌∙◌, arith, append-nil, Option, Ok, Err, unwrap_or}
use Rattle.std.proofs.lemmas.List.{take-append-drop, drop_at, length-take, length-map, take_all}
use Rattle.std.proofs.lemmas.Bool.{cases_Bool, ltb-true, ltb-false}
use Rattle.std.proofs.Math.Seq.{take-append-add}
use Rattle.httparse.specs.declared.spans.HeaderSpan.{HeaderSpan}
use Rattle.httparse.specs.declared.spans.RequestSpans.{RequestSpans}
use Rattle.httparse.specs.Grammar.{RequestHead, ReadsRequest, print_request, HasNoRequest, NeverHasRequest, MayBecomeRequest}
use Rattle.httparse.specs.Spans.{RequestOverflows, RequestExceeds, IsRequestAt, IsRequestOf, IsRequestWithin, span_bytes, header_bytes, name_and_value}
use Rattle.httparse.proofs.GrammarLemmas.{ReadsRequest-append}
use Rattle.wb_model.specs.declared.wire.WireFault.{WireFault}
use Rattle.wb_model.specs.declared.wire.WireFault.TheVariants.{BadHead}
use Rattle.wb_model.specs.Cuts.{EndsAt}
use Rattle.wb_model.specs.Heads.{BeginsWithHead, HasNoHead, declared_length, closes_by, path_of}
use Rattle.wb_model.specs.Readings.{Reading, Reads, Closes, reading_by_parts, reading_of}
use Rattle.wb_wire.specs.declared.heads.HeadRead.TheVariants.{More, No}
use Rattle.wb_wire.specs.HeadReading.{IsWhole, IsHeadRead}

-- a head in the window is a head of the bytes
reads_out : (bytes : List ℕ) (h : RequestHead) (rest : List ℕ) → ReadsRequest (take 8_192 bytes) h rest → ReadsRequest bytes h (rest ++ drop 8_192 bytes)
reads_out bytes h rest x = subst (λ b. ReadsRequest b h (rest ++ drop 8_192 bytes)) (take-append-drop 8_192 bytes) (ReadsRequest-append (take 8_192 bytes) h rest (drop 8_192 bytes) x)

-- what follows a head is the bytes without it
rest_is : (bytes : List ℕ) (h : RequestHead) (rest : List ℕ) (n : ℕ) → n ≡ length (print_request h) → ReadsRequest bytes h rest → drop n bytes ≡ rest
rest_is bytes h rest n e x = ap (drop n) x.1 ∙ drop_at (print_request h) rest n (sym e)

-- a head of the bytes that fits the window is in it
reads_in : (bytes : List ℕ) (h : RequestHead) (rest : List ℕ) → length (print_request h) ≤ 8_192 → ReadsRequest bytes h rest
    → ReadsRequest (take 8_192 bytes) h (take (8_192 - length (print_request h)) rest)
reads_in bytes h rest fits x =
    let n : length (print_request h) + (8_192 - length (print_request h)) ≡ 8_192 = omega arith in
    (x.0, ap (take 8_192) x.1 ∙ (ap (λ k. take k (print_request h ++ rest)) (sym n) ∙ take-append-add (print_request h) rest (8_192 - length (print_request h))))

none_out : (bytes : List ℕ) → HasNoHead (take 8_192 bytes) → HasNoHead bytes
none_out bytes none h rest b = none h _ (record { reads = reads_in bytes h rest b.size b.reads; fields = b.fields; size = b.size })

pub none_yet : (bytes : List ℕ) → HasNoRequest (take 8_192 bytes) → HasNoHead bytes
none_yet bytes none = none_out bytes (λ h rest b. none h rest b.reads)

pub none_fits : (bytes : List ℕ) → RequestOverflows 64 (take 8_192 bytes) → HasNoHead bytes
none_fits bytes over = none_out bytes (λ h rest b. absurd (omega (arith, b.fields, over [] h rest (subst (λ x. ReadsRequest x h rest) (sym (append-nil (take 8_192 bytes))) b.reads))))

-- a head that was found in the window
found_head : (bytes : List ℕ) (headers : List HeaderSpan) (r : RequestSpans) (h : RequestHead) → length headers ≡ 64 → IsRequestWithin (take 8_192 bytes) headers r → IsRequestAt (take 8_192 bytes) headers r h
    → BeginsWithHead bytes h (drop r.len bytes)
found_head bytes headers r h room within at =
    let out = reads_out bytes h _ at.reads in
    record {
      reads = subst (ReadsRequest bytes h) (sym (rest_is bytes h _ r.len at.len out)) out;
      fields = omega (arith, room, within.section.count_fits, length-take r.headers headers, sym (length-map (take r.headers headers) (header_bytes (take 8_192 bytes))) ∙ ap length at.fields ∙ length-map h.fields name_and_value);
      size = omega (arith, at.len, within.section.len_fits, length-take 8_192 bytes);
    }

-- its parts are read as it is
same_reading : (front : List ℕ) (headers : List HeaderSpan) (r : RequestSpans) (h : RequestHead) (rest : List ℕ) → IsRequestAt front headers r h
    → reading_by_parts (span_bytes front r.method) (path_of (span_bytes front r.path)) r.version (map (header_bytes front) (take r.headers headers)) rest ≡ reading_of h rest
same_reading front headers r h rest at =
    ap (λ m. reading_by_parts m (path_of (span_bytes front r.path)) r.version (map (header_bytes front) (take r.headers headers)) rest) at.method
    ∙ ap (λ t. reading_by_parts h.method (path_of t) r.version (map (header_bytes front) (take r.headers headers)) rest) at.path
    ∙ ap (λ v. reading_by_parts h.method (path_of h.target) v (map (header_bytes front) (take r.headers headers)) rest) at.version
    ∙ ap (λ fs. reading_by_parts h.method (path_of h.target) h.minor fs rest) at.fields

-- what the parts of a head in the window, and what follows it, are read as
pub reads_as : (bytes front : List ℕ) (headers : List HeaderSpan) (r : RequestSpans) (method target rest : List ℕ) (reading : Reading) → front ≡ take 8_192 bytes → length headers ≡ 64
    → IsRequestWithin front headers r → IsRequestOf front headers r → method ≡ span_bytes front r.method → target ≡ span_bytes front r.path → rest ≡ drop r.len bytes
    → reading_by_parts method (path_of target) r.version (map (header_bytes front) (take r.headers headers)) rest ≡ reading → Reads bytes reading
reads_as bytes front headers r method target rest reading is_front room within found is_method is_target is_rest is =
    let here : reading_by_parts (span_bytes front r.method) (path_of (span_bytes front r.path)) r.version (map (header_bytes front) (take r.headers headers)) (drop r.len bytes) ≡ reading = rw (is_method, is_target, is_rest) at is in
    inl (
      found.0,
      drop r.len bytes,
      found_head bytes headers r found.0 room (rw is_front at within) (rw is_front at found.1),
      sym here ∙ same_reading front headers r found.0 (drop r.len bytes) found.1,
    )

-- the closing that the head asks for
pub closes_as : (bytes front : List ℕ) (headers : List HeaderSpan) (r : RequestSpans) (close : Bool) → front ≡ take 8_192 bytes → length headers ≡ 64
    → IsRequestWithin front headers r → IsRequestOf front headers r → close ≡ closes_by r.version (map (header_bytes front) (take r.headers headers)) → Closes bytes close
closes_as bytes front headers r close is_front room within found is = (
  found.0,
  drop r.len bytes,
  found_head bytes headers r found.0 room (rw is_front at within) (rw is_front at found.1),
  rw (found.1.version, found.1.fields) at is,
)

-- ---- a connection's head

-- the head of a connection, with what its fields say
pub whole_as : (bytes front : List ℕ) (headers : List HeaderSpan) (r : RequestSpans) (said : Option ℕ) (body : ℕ) (close : Bool) → front ≡ take 8_192 bytes → length headers ≡ 64
    → IsRequestWithin front headers r → IsRequestOf front headers r → declared_length (map (header_bytes front) (take r.headers headers)) ≡ Ok said → body ≡ unwrap_or said 0
    → close ≡ closes_by r.version (map (header_bytes front) (take r.headers headers)) → IsWhole bytes r.len body close
whole_as bytes front headers r said body close is_front room within found declares is closing = record {
  head = found.0;
  begins = found_head bytes headers r found.0 room (rw is_front at within) (rw is_front at found.1);
  sized = found.1.len;
  said = said;
  declares = rw found.1.fields at declares;
  has_body = is;
  closing = rw (found.1.version, found.1.fields) at closing;
}

-- or a fault of them
pub ends_as : (bytes front : List ℕ) (headers : List HeaderSpan) (r : RequestSpans) (fault : WireFault) → front ≡ take 8_192 bytes → length headers ≡ 64
    → IsRequestWithin front headers r → IsRequestOf front headers r → declared_length (map (header_bytes front) (take r.headers headers)) ≡ Err fault → EndsAt bytes fault
ends_as bytes front headers r fault is_front room within found declares = inr (
  found.0,
  drop r.len bytes,
  found_head bytes headers r found.0 room (rw is_front at within) (rw is_front at found.1),
  rw found.1.fields at declares,
)

-- no longer text has a head, whatever follows the window
never_out : (bytes : List ℕ) → NeverHasRequest (take 8_192 bytes) → NeverHasRequest bytes
never_out bytes never more h rest x =
    let parts : bytes ++ more ≡ take 8_192 bytes ++ (drop 8_192 bytes ++ more) = ap (λ b. b ++ more) (sym (take-append-drop 8_192 bytes)) ∙ append_assoc (take 8_192 bytes) (drop 8_192 bytes) more in
    never (drop 8_192 bytes ++ more) h rest (subst (λ b. ReadsRequest b h rest) parts x)

pub never_as : (bytes front : List ℕ) → front ≡ take 8_192 bytes → RequestOverflows 64 front → NeverHasRequest front → EndsAt bytes BadHead
never_as bytes front is over never = inl (record { none = none_fits bytes (rw is at over); never = inr (never_out bytes (rw is at never)) }, refl)

-- without a head, more may come where there is room
pub headless_as : (bytes front : List ℕ) → front ≡ take 8_192 bytes → HasNoHead bytes → MayBecomeRequest front ⊎ RequestExceeds 64 front → IsHeadRead bytes (if nat_lt (length front) 8_192 then More else No BadHead)
headless_as bytes front is none may =
    let size : length front ≡ length (take 8_192 bytes) = ap length is in
    elim (cases_Bool (nat_lt (length front) 8_192)) [
      | inl short ↦
          let less : length bytes < 8_192 = omega (arith, ltb-true _ _ short, size, length-take 8_192 bytes) in
          let whole : front ≡ bytes = is ∙ take_all 8_192 bytes (omega (arith, less)) in
          rw short (record { none = none; short = less; may = rw whole at may })
      | inr long ↦ rw long (inl (record { none = none; never = inl (omega (arith, ltb-false _ _ long, size, length-take 8_192 bytes)) }, refl))
    ]
