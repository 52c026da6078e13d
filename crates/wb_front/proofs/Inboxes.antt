-- Bytes that are held, read, dropped, and cut.
use Rattle.std.proofs.Common.{◌≡◌, ◌≢◌, ◌≤◌, ◌<◌, ◌+◌, ◌-◌, inl, inr, ℕ, nat_le, Bool, true, false, cond, List, [], ◌∷◌, ◌++◌, length, take, drop, codes, Option, Some, None, Ok, Err, unwrap_or, refl, sym, ap, ◌∙◌, subst, arith}
use Rattle.std.specs.List.{copy_within}
use Rattle.std.specs.Io.KnownBytes.{Consumes, Keeps}
use Rattle.std.specs.Str.Parse.{digits_value}
use Rattle.std.proofs.lemmas.Bool.Decides.{nat_tests}
use Rattle.std.proofs.lemmas.List.{take-append-drop, drop-take, take-append-le, length-take-le, length-drop, length-append, append_assoc}
use Rattle.std.proofs.Math.Seq.{take-append_seam, take-append-add, take-add}
use Rattle.httparse.specs.Grammar.{print_request}
use Rattle.wb_model.specs.declared.wire.WireFault.{WireFault}
use Rattle.wb_model.specs.declared.wire.WireFault.TheVariants as faults
use Rattle.wb_model.specs.Cuts.{MayHaveHead, Cuts, Part, IsCut}
use Rattle.wb_model.specs.Heads.{Fields, fields_of, is_absent, values, is_digits, length_said, declared_length}
use Rattle.wb_wire.specs.HeadReading.{IsWhole}
use Rattle.wb_front.specs.Arrivals.{Flows, IsUnfinished}

-- ---- what is held

-- bytes that are moved to the front
pub moved : (xs ys : List ℕ) (held size : ℕ) → size ≤ held → held ≤ length xs → ys ≡ copy_within xs size held 0 → take (held - size) ys ≡ drop size (take held xs)
moved xs ys held size le fits e =
    let n : ℕ = held - size in
    let front : List ℕ = take n (drop size xs) in
    let whole : size + n ≡ held = omega (arith, le) in
    let long : length front ≡ n = length-take-le n (drop size xs) (omega (arith, length-drop size xs, fits, le)) in
    ap (take n) e ∙ (subst (λ k. take k (front ++ drop (0 + n) xs) ≡ front) long (take-append_seam front (drop (0 + n) xs)) ∙ (sym (drop-take size n xs) ∙ ap (λ k. drop size (take k xs)) whole))

-- bytes that are read behind those that are held
pub filled : (old into post xs ys : List ℕ) (held size : ℕ) → held ≤ length old → size ≤ length into → xs ≡ take size into ++ ys → take held old ++ xs ≡ take (held + size) (take held old ++ (into ++ post)) ++ ys
filled old into post xs ys held size fits le e =
    let front : List ℕ = take held old in
    let long : length front ≡ held = length-take-le held old fits in
    let taken : take (held + size) (front ++ (into ++ post)) ≡ front ++ take size into =
    subst (λ k. take (k + size) (front ++ (into ++ post)) ≡ front ++ take size (into ++ post)) long (take-append-add front (into ++ post) size) ∙ ap (λ zs. front ++ zs) (take-append-le size into post le) in
    ap (λ zs. front ++ zs) e ∙ (sym (append_assoc front (take size into) ys) ∙ ap (λ zs. zs ++ ys) (sym taken))

-- a list that is written back whole
pub written_back : (xs rest : List ℕ) (size : ℕ) → length xs ≡ size → take size (xs ++ rest) ≡ xs
written_back xs rest size long = subst (λ n. take n (xs ++ rest) ≡ xs) long (take-append_seam xs rest)

pub filled_length : (old into post : List ℕ) (held size : ℕ) → length old ≡ size → held ≤ size → length into ≡ size - held → length post ≡ 0 → length (take held old ++ (into ++ post)) ≡ size
filled_length old into post held size long fits more none =
    omega (arith, length-append (take held old) (into ++ post), length-append into post, length-take-le held old (omega (arith, long, fits)), fits, more, none)

-- what is told of a read
pub consumed : (old new : Option (List ℕ)) (bytes xs : List ℕ) → old ≡ Some xs → Consumes old new bytes → (ys : List ℕ) × (new ≡ Some ys) × (xs ≡ bytes ++ ys)
consumed None new bytes xs is h = absurd cc
consumed (Some zs) None bytes xs is h = absurd h
consumed (Some zs) (Some ys) bytes xs is h = (ys, refl, let same : xs ≡ zs = cc in same ∙ h)

pub kept : (old new : Option (List ℕ)) (xs : List ℕ) → old ≡ Some xs → Keeps old new → new ≡ Some xs
kept None new xs is h = absurd cc
kept (Some zs) None xs is h = absurd h
kept (Some zs) (Some ys) xs is h = let same : ys ≡ xs = cc in ap Some same

pub flows_on : (a b c : List ℕ) (x y z : Option (List ℕ)) → Flows a x b y → Flows b y c z → Flows a x c z
flows_on a b c x y z first then = λ xs is. let one = first xs is in let two = then one.0 one.1 in (two.0, two.1, one.2 ∙ two.2)

-- ---- how it begins

-- a length that is said is at most that of the longest body
said_most : (b c : Bool) (n : ℕ) (said : Option ℕ) (refused other : WireFault) → nat_le n 262_144 ≡ c → cond b (cond c (Ok (Some n)) (Err refused)) (Err other) ≡ Ok said → unwrap_or said 0 ≤ 262_144
said_most true true n said refused other test e = let same : Some n ≡ said = cc in subst (λ o. unwrap_or o 0 ≤ 262_144) same (grind (arith, nat_tests, test))
said_most true false n said refused other test e = absurd cc
said_most false c n said refused other test e = absurd cc

pub body_most : (fields : Fields) (said : Option ℕ) → declared_length fields ≡ Ok said → unwrap_or said 0 ≤ 262_144
body_most fields said e = by_absent (is_absent (codes "transfer-encoding") fields) (values (codes "content-length") fields) e
  where
    by_values : (vs : List (List ℕ)) → length_said vs ≡ Ok said → unwrap_or said 0 ≤ 262_144
    by_values [] e = let none : None ≡ said = cc in subst (λ o. unwrap_or o 0 ≤ 262_144) none (omega arith)
    by_values (text ∷ []) e = said_most (is_digits text) (nat_le (digits_value 10 text) 262_144) (digits_value 10 text) said _ _ refl e
    by_values (text ∷ second ∷ more) e = absurd cc

    by_absent : (b : Bool) (vs : List (List ℕ)) → cond b (length_said vs) (Err faults.NoLength) ≡ Ok said → unwrap_or said 0 ≤ 262_144
    by_absent true vs e = by_values vs e
    by_absent false vs e = absurd cc

-- a head with its whole body is a request, and these are its bytes
pub whole_cut : (held : List ℕ) (head body : ℕ) (close : Bool) → IsWhole held head body close → head + body ≤ length held → IsCut held (Cuts (take (head + body) held) (drop (head + body) held))
whole_cut held head body close w fits =
    let rest : List ℕ = take body (drop head held) in
    let front : take head held ≡ print_request w.head = ap (take head) w.begins.reads.1 ∙ subst (λ k. take k (print_request w.head ++ drop head held) ≡ print_request w.head) (sym w.sized) (take-append_seam (print_request w.head) (drop head held)) in
    let long : length rest ≡ body = length-take-le body (drop head held) (omega (arith, length-drop head held, fits)) in (
      sym (take-append-drop (head + body) held),
      (
        rest,
        record {
          head = w.head;
          begins = record { reads = (w.begins.reads.0, take-add head body held ∙ ap (λ zs. zs ++ rest) front); fields = w.begins.fields; size = w.begins.size };
          said = w.said;
          declares = w.declares;
          sized = long ∙ w.has_body;
        },
      ),
    )

-- what is not whole yet is unfinished
pub unfinished : (held : List ℕ) → (held ≢ [] → IsCut held Part) → IsUnfinished held
unfinished [] part = inl refl
unfinished (x ∷ xs) part = inr (part (λ e. absurd cc))

pub part_cut : (held : List ℕ) (head body : ℕ) (close : Bool) → IsWhole held head body close → length held < head + body → IsUnfinished held
part_cut held head body close w short =
    let long : head ≤ length held = omega (arith, w.sized, ap length w.begins.reads.1, length-append (print_request w.head) (drop head held)) in
    unfinished held (λ some. (some, inr (drop head held, body, record { head = w.head; begins = w.begins; said = w.said; declares = w.declares; sized = w.has_body }, omega (arith, length-drop head held, short, long))))

pub part_room : (held : List ℕ) (head body : ℕ) (close : Bool) → IsWhole held head body close → length held < head + body → length held < 270_336
part_room held head body close w short = omega (arith, short, w.sized, w.begins.size, w.has_body, body_most (fields_of w.head) w.said w.declares)

pub may_unfinished : (held : List ℕ) → MayHaveHead held → IsUnfinished held
may_unfinished held may = unfinished held (λ some. (some, inl may))
