use Rattle.std.proofs.Common.{◌≡◌, ◌<◌, ◌≤◌, ◌+◌, ◌-◌, ℕ, true, false, All, take, slice_index_or, vec_len, vec_capacity}
use Rattle.wb_front.specs.declared.worker.Worked.TheVariants.{ListenFault}
use Rattle.wb_front.specs.Attended.{HasNone}
use Rattle.wb_server.specs.Workers.{HasEnded}
use Rattle.wb_server.proofs.placing.unplace.Given as goal

abbrev pub invariant-loop-next : goal.invariant-loop-next
invariant-loop-next g l =
    (vec_len l.stations + vec_len l.workers ≡ vec_len l.fn.workers)
    × (vec_len l.owns + vec_len l.workers ≡ vec_len l.fn.workers)
    × (vec_len l.fn.workers ≤ vec_capacity l.stations)
    × (vec_len l.fn.workers ≤ vec_capacity l.owns)
    × All (λ w. HasEnded (g.Li.Listener.end w.station.listener) w.worked) l.workers.items
    × (l.all ≡ true → All (λ s. HasNone (g.Li.Listener.end s.listener)) l.stations.items)
    × (l.workers.items ≡ take (vec_len l.workers) l.fn.workers.items)
    × ((k : ℕ) (d : _) (e : _) → k < vec_len l.stations → slice_index_or l.stations.items k e ≡ (slice_index_or l.fn.workers.items (vec_len l.fn.workers - 1 - k) d).station)
    × ((k : ℕ) (d : _) (e : _) → k < vec_len l.owns → slice_index_or l.owns.items k e ≡ (slice_index_or l.fn.workers.items (vec_len l.fn.workers - 1 - k) d).own)
    × (l.all ≡ false → (k : ℕ) × (k < vec_len l.fn.workers) × ((d : _) → (slice_index_or l.fn.workers.items k d).worked ≡ ListenFault))

abbrev pub decreases-loop-next : goal.decreases-loop-next
decreases-loop-next g l = goal.left-loop-next g l
