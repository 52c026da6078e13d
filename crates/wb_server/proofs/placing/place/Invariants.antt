use Rattle.std.proofs.Common.{◌≡◌, ◌<◌, ◌≤◌, ◌+◌, ◌-◌, ℕ, take, slice_index_or, vec_len, vec_capacity}
use Rattle.wb_server.proofs.placing.place.Given as goal

abbrev pub invariant-loop-station : goal.invariant-loop-station
invariant-loop-station g l =
    (vec_len l.owns ≡ vec_len l.stations)
    × (vec_len l.workers + vec_len l.stations ≡ vec_len l.fn.stations)
    × (vec_len l.fn.stations ≤ vec_capacity l.workers)
    × (vec_capacity l.stations ≡ vec_capacity l.fn.stations)
    × (vec_capacity l.owns ≡ vec_capacity l.fn.owns)
    × (l.stations.items ≡ take (vec_len l.stations) l.fn.stations.items)
    × (l.owns.items ≡ take (vec_len l.owns) l.fn.owns.items)
    × ((k : ℕ) (d : _) (e : _) → k < vec_len l.workers → (slice_index_or l.workers.items k d).station ≡ slice_index_or l.fn.stations.items (vec_len l.fn.stations - 1 - k) e)
    × ((k : ℕ) (d : _) (e : _) → k < vec_len l.workers → (slice_index_or l.workers.items k d).own ≡ slice_index_or l.fn.owns.items (vec_len l.fn.stations - 1 - k) e)

abbrev pub decreases-loop-station : goal.decreases-loop-station
decreases-loop-station g l = vec_len l.stations
