-- Links that are attended one after another.
use Rattle.std.proofs.Common.{◌≡◌, ◌≢◌, ◌≤◌, ◌<◌, ◌+◌, ◌-◌, ◌^◌, inl, inr, ℕ, nat_le, Bool, true, false, List, [], ◌∷◌, ◌++◌, Option, Some, None, refl, sym, ap, ◌∙◌, subst, arith}
use Rattle.std.proofs.lemmas.List.{append_assoc, append-nil}
use Rattle.std.proofs.lemmas.Bool.Decides.{nat_tests}
use Rattle.std.specs.Io.KnownBytes.{Appends}
use Rattle.wb_base.specs.Outside.{Rose}
use Rattle.wb_model.specs.declared.body.Told.{Told}
use Rattle.wb_model.specs.Requests.{Frame}
use Rattle.wb_transport.specs.Lines.{Clock, HasGiven, IsLine, Line, Lines, LinkEnd, ListenerEnd}
use Rattle.wb_front.specs.declared.connection.Ended.{Ended}
use Rattle.wb_front.specs.declared.connection.Ended.TheVariants as ended
use Rattle.wb_front.specs.Attended.{sides_of, IsAttended, AreAttended, HasWorked, RoseOften}
use Rattle.wb_front.specs.Endings.{EndsSo, IsEnded}
use Rattle.wb_front.specs.Served.{Exchange, Sides, HasExchanged, sides_at}

-- a link that tells goes on telling
grown : (old new : Option (List ℕ)) (g : List ℕ) (bytes : List ℕ) → old ≡ Some g → Appends old new bytes → (g' : List ℕ) × (new ≡ Some g')
grown None new g bytes is h = absurd cc
grown (Some xs) None g bytes is h = absurd h
grown (Some xs) (Some ys) g bytes is h = (ys, refl)

still_left : {O : Type 0} (Ran : O → Frame → Told → O → Type 0) (a b : Sides O) (xs : List Exchange) (held l : List ℕ) → a.left ≡ Some l → HasExchanged Ran a b xs held → (l' : List ℕ) × (b.left ≡ Some l')
still_left Ran a b xs held l is h = let lost = h.bytes l is in (lost.0, lost.1)

abbrev StillTells : {O : Type 0} → Sides O → Type 0
StillTells b = (l : List ℕ) × (g : List ℕ) × (b.left ≡ Some l) × (b.got ≡ Some g)

tells_by : {O : Type 0} (Ran : O → Frame → Told → O → Type 0) (a b : Sides O) (xs : List Exchange) (held l g bytes : List ℕ) → a.left ≡ Some l → a.got ≡ Some g → HasExchanged Ran a b xs held → Appends a.got b.got bytes → StillTells b
tells_by Ran a b xs held l g bytes left got h sent = let one = still_left Ran a b xs held l left h in let two = grown a.got b.got g bytes got sent in (one.0, two.0, one.1, two.1)

tells_so : {O : Type 0} (Ran : O → Frame → Told → O → Type 0) (a b : Sides O) (xs : List Exchange) (held l g : List ℕ) (how : Ended) → a.left ≡ Some l → a.got ≡ Some g → EndsSo Ran a b xs held how → StillTells b
tells_so Ran a b xs held l g ended.Closed left got (inl h) = tells_by Ran a b xs held l g _ left got h.0.yet.replied.served h.0.yet.replied.sent
tells_so Ran a b xs held l g ended.Closed left got (inr h) = tells_by Ran a b xs held l g _ left got h.0.served h.0.sent
tells_so Ran a b xs held l g ended.CutShort left got h = tells_by Ran a b xs held l g _ left got h.0.yet.replied.served h.0.yet.replied.sent
tells_so Ran a b xs held l g ended.ReadFault left got h = tells_by Ran a b xs held l g _ left got h.0.yet.replied.served h.0.yet.replied.sent
tells_so Ran a b xs held l g ended.WriteFault left got h = tells_by Ran a b xs held l g _ left got h.0 h.1.sent
tells_so Ran a b xs held l g ended.ClockFault left got h = tells_by Ran a b xs held l g _ left got h.0.yet.replied.served h.0.yet.replied.sent
tells_so Ran a b xs held l g ended.Spent left got h = tells_by Ran a b xs held l g _ left got h.0.replied.served h.0.replied.sent
tells_so Ran a b xs held l g (ended.Refused fault) left got (inl h) = tells_by Ran a b xs held l g _ left got h.served h.sent
tells_so Ran a b xs held l g (ended.Refused fault) left got (inr h) = tells_by Ran a b xs held l g _ left got h.0.served h.0.sent
tells_so Ran a b xs held l g ended.Memory left got h = (l, g, ap (λ (s : Sides _). s.left) h ∙ left, ap (λ (s : Sides _). s.got) h ∙ got)

still_tells : {O : Type 0} (Ran : O → Frame → Told → O → Type 0) (a b : Sides O) (l g : List ℕ) (how : Ended) → a.left ≡ Some l → a.got ≡ Some g → IsEnded Ran a b how → StillTells b
still_tells Ran a b l g how left got h = tells_so Ran a b h.0 h.1 l g how left got h.2

-- a connection over links that are seen as lines ended so over the lines
ended_at : {O : Type 0} (Ran : O → Frame → Told → O → Type 0) (link link' : LinkEnd) (a b : Line) (clock clock' : Clock) (own own' : O) (how : Ended) → IsLine link a → IsLine link' b
    → IsEnded Ran (sides_at link clock own) (sides_at link' clock' own') how → IsEnded Ran (sides_of a clock.left own) (sides_of b clock'.left own') how
ended_at Ran link link' a b clock clock' own own' how is is' h =
    subst (λ (s : Sides _). IsEnded Ran s (sides_of b clock'.left own') how) (λ i. record { left = is.has_left i; got = is.has_got i; moments = clock.left; own = own })
    (subst (λ (s : Sides _). IsEnded Ran (sides_at link clock own) s how) (λ i. record { left = is'.has_left i; got = is'.has_got i; moments = clock'.left; own = own' }) h)

-- after a connection a link that was seen as a line is seen as one still, and the line was attended
pub line_attended : {O : Type 0} (Ran : O → Frame → Told → O → Type 0) (link link' : LinkEnd) (a : Line) (clock clock' : Clock) (own own' : O) (how : Ended) → IsLine link a → IsEnded Ran (sides_at link clock own) (sides_at link' clock' own') how
    → (how ≡ ended.ReadFault → Rose link.count link'.count) → (how ≡ ended.WriteFault → Rose link.count link'.count) → (how ≡ ended.ClockFault → Rose clock.count clock'.count)
    → (how ≢ ended.ReadFault → how ≢ ended.WriteFault → link'.count ≡ link.count) → (how ≢ ended.ClockFault → clock'.count ≡ clock.count)
    → (b : Line) × IsLine link' b × IsAttended Ran a b own own' clock clock'
line_attended Ran link link' a clock clock' own own' how line h read write ticked stayed kept =
    let still = still_tells Ran (sides_at link clock own) (sides_at link' clock' own') a.left a.got how line.has_left line.has_got h in
    let b : Line = record { left = still.0; got = still.1; count = link'.count } in
    let line' : IsLine link' b = record { has_left = still.2; has_got = still.3; counts = refl } in (
      b,
      line',
      record {
        how = how;
        ended = ended_at Ran link link' a b clock clock' own own' how line line' h;
        read_failed = λ e. subst (λ n. Rose n b.count) line.counts (read e);
        write_failed = λ e. subst (λ n. Rose n b.count) line.counts (write e);
        clock_failed = ticked;
        link_stayed = λ r w. stayed r w ∙ line.counts;
        clock_stayed = kept;
      },
    )

-- one more link was attended
attended_more : {O : Type 0} (Ran : O → Frame → Told → O → Type 0) (gave came : List Line) (a b : Line) (own o own' : O) (clock c clock' : Clock) → AreAttended Ran gave came own o clock c → IsAttended Ran a b o own' c clock' →
    AreAttended Ran (gave ++ a ∷ []) (came ++ b ∷ []) own own' clock clock'
attended_more Ran [] [] a b own o own' clock c clock' all one =
    (own', clock', subst (λ q. IsAttended Ran a b q own' clock clock') all.0 (subst (λ r. IsAttended Ran a b o own' r clock') all.1 one), (refl, refl))
attended_more Ran [] (y ∷ ys) a b own o own' clock c clock' all one = absurd all
attended_more Ran (x ∷ xs) [] a b own o own' clock c clock' all one = absurd all
attended_more Ran (x ∷ xs) (y ∷ ys) a b own o own' clock c clock' all one = (all.0, all.1, all.2, attended_more Ran xs ys a b all.0 o own' all.1 c clock' all.3 one)

pub worked_more : {O : Type 0} (Ran : O → Frame → Told → O → Type 0) (x y : Lines) (a b : Line) (rest : List Line) (own o own' : O) (clock c clock' : Clock) → HasWorked Ran x y own o clock c → y.left ≡ a ∷ rest → IsAttended Ran a b o own' c clock' →
    HasWorked Ran x (record { left = rest; out = y.out; came = y.came ++ b ∷ [] }) own own' clock clock'
worked_more Ran x y a b rest own o own' clock c clock' h left one = record {
  gave = h.gave ++ a ∷ [];
  came = h.came ++ b ∷ [];
  left_is = h.left_is ∙ (ap (λ ls. h.gave ++ ls) left ∙ sym (append_assoc h.gave (a ∷ []) rest));
  came_is = ap (λ ls. ls ++ b ∷ []) h.came_is ∙ append_assoc x.came h.came (b ∷ []);
  out_is = h.out_is;
  attended = attended_more Ran h.gave h.came a b own o own' clock c clock' h.attended one;
}

pub nothing_worked : {O : Type 0} (Ran : O → Frame → Told → O → Type 0) (x : Lines) (own : O) (clock : Clock) → HasWorked Ran x x own own clock clock
nothing_worked Ran x own clock = record { gave = []; came = []; left_is = refl; came_is = sym (append-nil x.came); out_is = refl; attended = (refl, refl) }

-- ---- a listener's calls

-- a link that was given is out
pub out_given : (listener listener' : ListenerEnd) (link : LinkEnd) → (listener.told ≡ None → listener'.told ≡ None) → ((x : Lines) → listener.told ≡ Some x → HasGiven x link listener') → (z : Lines) → listener'.told ≡ Some z → 0 < z.out
out_given listener listener' link untold given z is = by listener.told refl
  where
    by : (o : Option Lines) → listener.told ≡ o → 0 < z.out
    by None e = absurd (let none : listener'.told ≡ None = untold e in let both : Some z ≡ None = sym is ∙ none in grind (arith, both))
    by (Some x) e =
        let one = given x e in
        let same : record x { left = one.1; out = x.out + 1 } ≡ z = (let both : Some (record x { left = one.1; out = x.out + 1 }) ≡ Some z = sym one.4 ∙ is in cc) in
        subst (λ (y : Lines). 0 < y.out) same (omega arith)

pub rose_more : (times before old now : ℕ) → RoseOften times before old → old ≤ now → Rose old now → RoseOften (times + 1) before now
rose_more times before old now often later rose = by often (nat_le (old + 1) (2 ^ 64 - 1)) refl
  where
    by : RoseOften times before old → (b : Bool) → nat_le (old + 1) (2 ^ 64 - 1) ≡ b → RoseOften (times + 1) before now
    by (inr last) b test = inr (omega (arith, last, later))
    by (inl enough) true test = inl (let le : old + 1 ≤ 2 ^ 64 - 1 = grind (arith, nat_tests, test) in omega (arith, enough, rose, le))
    by (inl enough) false test = inr (let lt : 2 ^ 64 - 1 < old + 1 = grind (arith, nat_tests, test) in omega (arith, later, lt))

pub rose_stays : (times before old now : ℕ) → RoseOften times before old → old ≤ now → RoseOften times before now
rose_stays times before old now (inl enough) later = inl (omega (arith, enough, later))
rose_stays times before old now (inr last) later = inr (omega (arith, last, later))

-- where no link is left, none is left
pub none_left : (o o' : Option Lines) → (o ≡ None → o' ≡ None) → ((x : Lines) → o ≡ Some x → (x.left ≡ []) × (o' ≡ Some x)) → (z : Lines) → o' ≡ Some z → z.left ≡ []
none_left None o' untold none z is = absurd (let gone : o' ≡ None = untold refl in let both : Some z ≡ None = sym is ∙ gone in grind (arith, both))
none_left (Some x) o' untold none z is =
    let one = none x refl in
    let same : x ≡ z = (let both : Some x ≡ Some z = sym one.1 ∙ is in cc) in
    subst (λ (y : Lines). y.left ≡ []) same one.0
