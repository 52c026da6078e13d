-- What was taken of a source, and the text that it is or is not.
use Rattle.std.proofs.Common.{◌≡◌, ◌≢◌, ◌≤◌, ◌<◌, ◌+◌, ◌-◌, ◌^◌, ℕ, List, [], ◌∷◌, ◌++◌, length, Option, Some, None, IfSome, sym, ap, ◌∙◌, arith, append_assoc, append-nil, length-append, subst}
use Rattle.std.specs.Io.KnownBytes.{Consumes, IsAtEnd, Keeps}
use Rattle.std.proofs.KnownBytes.{Consumes-trans}
use Rattle.wb_wire.specs.declared.frames.FrameNo.{FrameNo}
use Rattle.wb_wire.specs.declared.frames.FrameNo.TheVariants.{Read, Bad, TooLong, Memory}
use Rattle.wb_wire.specs.FrameReading.{NoBody, Stopped}
use Rattle.wb_wire.specs.TextReading.{BeginsNone, GoesOnOtherwise, Lacks, Stops}
use Rattle.wb_wire.proofs.TextLemmas.{broken_line, no_line, no_body, other_end}

-- ---- where it stopped

-- after a part, the reading stopped in the next part
pub stopped_more : (most n : ℕ) (a b c : Option (List ℕ)) (before mid now : ℕ) (front part : List ℕ) (fault : FrameNo) → before ≤ mid → length front ≡ n → n ≤ most
    → Consumes a b front → Stopped (most - n) b c mid now part fault → Stopped most a c before now (front ++ part) fault
stopped_more most n a b c before mid now front part Read later is some first s =
    (Consumes-trans a b c front part first s.0, omega (arith, is, some, s.1, length-append front part), omega (arith, later, s.2))
stopped_more most n a b c before mid now front part TooLong later is some first s =
    (s.0, subst (Consumes a c) (sym (append_assoc front part (s.0 ∷ []))) (Consumes-trans a b c front (part ++ s.0 ∷ []) first s.1), omega (arith, is, some, s.2, length-append front part))
stopped_more most n a b c before mid now front part (Bad m) later is some first s = absurd s
stopped_more most n a b c before mid now front part Memory later is some first s = absurd s

-- the same, with nothing taken of the next part
pub stopped_there : (most n : ℕ) (a b c : Option (List ℕ)) (before mid now : ℕ) (front : List ℕ) (fault : FrameNo) → before ≤ mid → length front ≡ n → n ≤ most
    → Consumes a b front → Stopped (most - n) b c mid now [] fault → Stopped most a c before now front fault
stopped_there most n a b c before mid now front fault later is some first s =
    subst (λ l. Stopped most a c before now l fault) (append-nil front) (stopped_more most n a b c before mid now front [] fault later is some first s)

-- the same after a line
pub stopped_after : (most n : ℕ) (a b c : Option (List ℕ)) (before mid now : ℕ) (line part : List ℕ) (fault : FrameNo) → before ≤ mid → length line ≡ n → n < most
    → Consumes a b (line ++ 10 ∷ []) → Stopped (most - n - 1) b c mid now part fault → Stopped most a c before now (line ++ 10 ∷ part) fault
stopped_after most n a b c before mid now line part fault later is some first s =
    let less : most - n - 1 ≡ most - (n + 1) = omega arith in
    let size : length (line ++ 10 ∷ []) ≡ n + 1 = omega (arith, length-append line (10 ∷ []), is) in
    let within : Stopped (most - (n + 1)) b c mid now part fault = subst (λ k. Stopped k b c mid now part fault) less s in
    subst (λ l. Stopped most a c before now l fault) (append_assoc line (10 ∷ []) part) (stopped_more most (n + 1) a b c before mid now (line ++ 10 ∷ []) part fault later size (omega arith) first within)

-- a reading that stopped after a part that no text begins
pub stops : (NoText IsBroken : List ℕ → Type 0) (taken number most : ℕ) (a b : Option (List ℕ)) (before now : ℕ) (part : List ℕ) (fault : FrameNo) → taken + most ≡ 2 ^ 40 → NoText part
    → Stopped most a b before now part fault → Stops NoText IsBroken taken number a b before now fault
stops NoText IsBroken taken number most a b before now part Read limit none s = (s.2, (part, s.0, none, omega (arith, limit, s.1)))
stops NoText IsBroken taken number most a b before now part TooLong limit none s = (part, s.0, s.1, none, omega (arith, limit, s.2))
stops NoText IsBroken taken number most a b before now part (Bad m) limit none s = absurd s
stops NoText IsBroken taken number most a b before now part Memory limit none s = absurd s

pub told : {P Q : List ℕ → Type 0} (a : Option (List ℕ)) → ((text : List ℕ) → P text → Q text) → IfSome a P → IfSome a Q
told None step h = tt
told (Some text) step h = step text h

-- why it stops, told by what follows from that
pub stops_alike : {P P' Q Q' : List ℕ → Type 0} → ((text : List ℕ) → P text → P' text) → ((text : List ℕ) → Q text → Q' text) → (taken number number' : ℕ) (a b : Option (List ℕ)) (before now : ℕ) (fault : FrameNo)
    → number ≡ number' → Stops P Q taken number a b before now fault → Stops P' Q' taken number' a b before now fault
stops_alike p q taken number number' a b before now Read same s = (s.0, (s.1.0, s.1.1, p s.1.0 s.1.2, s.1.3))
stops_alike p q taken number number' a b before now TooLong same s = (s.0, s.1, s.2, p s.0 s.3, s.4)
stops_alike p q taken number number' a b before now (Bad m) same s = (s.0 ∙ same, told a q s.1, (s.2.0, s.2.1, p s.2.0 s.2.2, s.2.3))
stops_alike p q taken number number' a b before now Memory same s = (s.0, s.1, p s.0 s.2, s.3)

-- ---- what is of another form

-- it ended in the line
pub broken_in_line : {H : Type 0} (IsLine : H → ℕ → List ℕ → Type 0) (a b : Option (List ℕ)) (part : List ℕ) → Consumes a b part → 0 < length part → Lacks 10 part → (length part < 96 → IsAtEnd b) → IfSome a (GoesOnOtherwise IsLine)
broken_in_line IsLine None b part taken some lacks end = tt
broken_in_line IsLine (Some x) None part taken some lacks end = absurd taken
broken_in_line IsLine (Some x) (Some y) part taken some lacks end =
    (λ e. absurd (omega (arith, ap length (sym taken ∙ e), length-append part y)), λ head line bytes more is short whole e. broken_line IsLine part y lacks end head line bytes more is short whole (sym taken ∙ e))

-- a line was taken, and with what follows it is of another form
broken_after : {H : Type 0} (IsLine : H → ℕ → List ℕ → Type 0) (a b : Option (List ℕ)) (line : List ℕ) → Consumes a b (line ++ 10 ∷ []) → IfSome b (λ rest. BeginsNone IsLine (line ++ 10 ∷ rest)) → IfSome a (GoesOnOtherwise IsLine)
broken_after IsLine None b line taken none = tt
broken_after IsLine (Some x) None line taken none = absurd taken
broken_after IsLine (Some x) (Some y) line taken none =
    let text = taken ∙ append_assoc line (10 ∷ []) y in
    (λ e. absurd (omega (arith, ap length (sym text ∙ e), length-append line (10 ∷ y))), λ head line' bytes more is short whole e. none head line' bytes more is short whole (sym text ∙ e))

pub told_all : {Q : List ℕ → Type 0} (a : Option (List ℕ)) → ((text : List ℕ) → Q text) → IfSome a Q
told_all None all = tt
told_all (Some text) all = all text

-- the line says nothing
pub broken_line_text : {H : Type 0} (IsLine : H → ℕ → List ℕ → Type 0) (a b : Option (List ℕ)) (line : List ℕ) → Consumes a b (line ++ 10 ∷ []) → Lacks 10 line → ((head : H) (n : ℕ) → IsLine head n line → ⊥) → IfSome a (GoesOnOtherwise IsLine)
broken_line_text IsLine a b line taken lacks none = broken_after IsLine a b line taken (told_all b (λ rest. no_line IsLine line rest lacks none))

-- the bytes that the line says are not there
pub broken_body : {H : Type 0} (IsLine : H → ℕ → List ℕ → Type 0) (a b : Option (List ℕ)) (line : List ℕ) (size : ℕ) → Consumes a b (line ++ 10 ∷ []) → Lacks 10 line → ((head : H) (n : ℕ) → IsLine head n line → size ≡ n) → IfSome b (NoBody size) → IfSome a (GoesOnOtherwise IsLine)
broken_body IsLine a b line size taken lacks says none = broken_after IsLine a b line taken (told b (λ rest h. no_body IsLine line rest size lacks says h) none)

-- the line, and then more
pub line_and : (a b c : Option (List ℕ)) (line body : List ℕ) → Consumes a b (line ++ 10 ∷ []) → Consumes b c body → Consumes a c (line ++ 10 ∷ body)
line_and a b c line body first second = subst (Consumes a c) (append_assoc line (10 ∷ []) body) (Consumes-trans a b c (line ++ 10 ∷ []) body first second)

-- all bytes that are left were taken, and they are too few
pub short_end : (a b : Option (List ℕ)) (part : List ℕ) (size : ℕ) → Consumes a b part → IsAtEnd b → NoBody size part → IfSome a (NoBody size)
short_end None b part size taken end none = tt
short_end (Some x) None part size taken end none = absurd taken
short_end (Some x) (Some y) part size taken end none =
    let text = taken ∙ ap (λ l. part ++ l) end ∙ append-nil part in
    λ body tail same e. none body tail same (sym text ∙ e)

-- another byte than a line feed follows the bytes
pub wrong_end : (a b : Option (List ℕ)) (bytes : List ℕ) (size c : ℕ) → Consumes a b (bytes ++ c ∷ []) → length bytes ≡ size → c ≢ 10 → IfSome a (NoBody size)
wrong_end None b bytes size c taken whole other = tt
wrong_end (Some x) None bytes size c taken whole other = absurd taken
wrong_end (Some x) (Some y) bytes size c taken whole other =
    let text = taken ∙ append_assoc bytes (c ∷ []) y in
    λ body tail same e. other_end size c bytes y whole other body tail same (sym text ∙ e)

-- taking nothing keeps all
pub nothing_kept : (a b : Option (List ℕ)) → Consumes a b [] → Keeps a b
nothing_kept None b h = tt
nothing_kept (Some x) None h = absurd h
nothing_kept (Some x) (Some y) h = sym h

pub kept_nothing : (a b : Option (List ℕ)) → Keeps a b → Consumes a b []
kept_nothing None b h = tt
kept_nothing (Some x) None h = absurd h
kept_nothing (Some x) (Some y) h = sym h
