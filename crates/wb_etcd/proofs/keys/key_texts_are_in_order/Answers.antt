-- Each part is compared by its digits, and the parts in turn.
use Rattle.std.proofs.Common.{◌≡◌, ℕ, ◌+◌, ◌<◌, ◌^◌, List, ◌++◌, length, ap, sym, ◌∙◌, arith, append_assoc, length-append, codes}
use Rattle.std.specs.Ordering.{nat_cmp, ordering_then}
use Rattle.std.specs.Cmp.Lexicographic.{slice_cmp}
use Rattle.wb_base.specs.Secrets.{last_digits}
use Rattle.wb_etcd.specs.KeyTexts.{part, trunk_text, key_text}
use Rattle.wb_etcd.proofs.Orders.{cmp-append, cmp-same, cmp-last_digits, length-last_digits}
use Rattle.wb_etcd.proofs.keys.key_texts_are_in_order.Goals as goal

length-part : (n x : ℕ) → length (part n x) ≡ n + 1
unfolding part
length-part n x = omega (arith, length-append (codes "/") (last_digits n x), length-last_digits n x)

cmp-part : (n a b : ℕ) → a < 10 ^ n → b < 10 ^ n → slice_cmp nat_cmp (part n a) (part n b) ≡ nat_cmp a b
unfolding part
cmp-part n a b h k = cmp-same (codes "/") (last_digits n a) (last_digits n b) ∙ cmp-last_digits n a b h k

first_parts : (n a b : ℕ) (us vs : List ℕ) → a < 10 ^ n → b < 10 ^ n → slice_cmp nat_cmp (part n a ++ us) (part n b ++ vs) ≡ ordering_then (nat_cmp a b) (slice_cmp nat_cmp us vs)
first_parts n a b us vs h k = cmp-append (part n a) (part n b) us vs (length-part n a ∙ sym (length-part n b)) ∙ ap (λ o. ordering_then o (slice_cmp nat_cmp us vs)) (cmp-part n a b h k)

regrouped : (p a b c d : List ℕ) → (p ++ (a ++ (b ++ c))) ++ d ≡ p ++ (a ++ (b ++ (c ++ d)))
regrouped p a b c d = simp append_assoc

pub returns : goal.returns
unfolding key_text trunk_text
returns c prefix k m h j =
    let up : (x : ℕ) → x < 2 ^ 32 → x < 10 ^ 10 = λ x e. omega arith in
    let low : (x : ℕ) → x < 2 ^ 8 → x < 10 ^ 3 = λ x e. omega arith in
    rw (regrouped prefix (part 3 k.kind) (part 10 k.tenant) (part 10 k.a) (part 10 k.b), regrouped prefix (part 3 m.kind) (part 10 m.tenant) (part 10 m.a) (part 10 m.b))
    (cmp-same prefix _ _
    ∙ first_parts 3 k.kind m.kind _ _ (low k.kind h.kind) (low m.kind j.kind)
    ∙ ap (ordering_then (nat_cmp k.kind m.kind)) (first_parts 10 k.tenant m.tenant _ _ (up k.tenant h.tenant) (up m.tenant j.tenant)
    ∙ ap (ordering_then (nat_cmp k.tenant m.tenant)) (first_parts 10 k.a m.a _ _ (up k.a h.a) (up m.a j.a)
    ∙ ap (ordering_then (nat_cmp k.a m.a)) (cmp-part 10 k.b m.b (up k.b h.b) (up m.b j.b)))))
