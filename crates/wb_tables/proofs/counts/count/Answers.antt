use Rattle.std.proofs.Common.{◌≡◌, ◌<◌, ◌+◌, ◌∷◌, length, map, drop, suc, sym, ap, ◌∙◌, subst, arith, add-one, drop-cons}
use Rattle.wb_tables.specs.Kept.{place_of}
use Rattle.wb_tables.proofs.Counting.{IsCounted, counted_next}
use Rattle.wb_tables.proofs.counts.count.Goals as goal

pub loop-tenancy-preserved : goal.loop-tenancy-preserved
loop-tenancy-preserved c =
    let loop = c.loop-tenancy in
    let ks = c.args.tenancies.now in
    let x = c.tenancy-item.result in
    let rest = drop (loop.tenancy-index + 1) ks in
    let within : loop.tenancy-index < length ks = omega arith in
    let split : drop loop.tenancy-index ks ≡ x ∷ rest = rw add-one (drop-cons ks loop.tenancy-index x within ∙ ap (λ y. y ∷ drop (suc loop.tenancy-index) ks) (sym c.tenancy-item.is)) in
    let small : x.numbering.last < 4_294_967_296 = omega arith in
    let before : IsCounted (map place_of ks) (place_of x ∷ map place_of rest) loop.live loop.numbers loop.sessions = subst (λ left. IsCounted (map place_of ks) (map place_of left) loop.live loop.numbers loop.sessions) split loop.invariant in
    subst (λ n. IsCounted (map place_of ks) (map place_of rest) (loop.live + n) (loop.numbers + x.numbering.last) (loop.sessions + c.len.result)) (sym (ap length c.as_slice.ensures.all))
    (subst (λ n. IsCounted (map place_of ks) (map place_of rest) (loop.live + length x.cases.items) (loop.numbers + x.numbering.last) (loop.sessions + n)) (sym c.len.ensures)
    (counted_next (map place_of ks) x (map place_of rest) loop.live loop.numbers loop.sessions c.as_slice.ensures.ascending small before))
