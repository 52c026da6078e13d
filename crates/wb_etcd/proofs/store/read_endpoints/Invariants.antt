use Rattle.std.proofs.Common.{◌≡◌, ◌==◌, ◌++◌, true, length}
use Rattle.std.specs.List.{list_all, slice_split}
use denote.Shadow.{shadow}
use denote.Text.{Utf8}
use Rattle.wb_etcd.specs.StoreNames.{is_endpoint}
use Rattle.wb_etcd.proofs.store.read_endpoints.Given as goal

-- with the parts of what is left, those that were read are all parts, and they are endpoints
abbrev pub invariant-loop-endpoint : goal.invariant-loop-endpoint
invariant-loop-endpoint l =
    shadow (Utf8 l.rest) × (slice_split (λ b. b == 44) l.text ≡ l.endpoints ++ slice_split (λ b. b == 44) l.rest) × (list_all is_endpoint l.endpoints ≡ true)

abbrev pub decreases-loop-endpoint : goal.decreases-loop-endpoint
decreases-loop-endpoint l = length l.rest
