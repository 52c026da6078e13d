-- A response as a reply of the host.
use Rattle.std.specs.Prelude.{Bool}
use Rattle.wb_model.specs.declared.wire.WireFault.{WireFault}
use Rattle.wb_model.specs.Replies.{fault_told, fault_allow}
use Rattle.wb_model.specs.Scripts.{Reply}
use Rattle.wb_wire.specs.declared.responses.Response.{Response}

abbrev pub reply_of : Response → Reply
reply_of r = record { told = r.told; allow = r.allow; close = r.close }

-- the reply to bytes that ask nothing, for a fault of theirs
abbrev pub refusal : WireFault → Bool → Reply
refusal fault close = record { told = fault_told fault; allow = fault_allow fault; close = close }
