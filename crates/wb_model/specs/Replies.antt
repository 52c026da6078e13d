-- The bytes of replies (RFC 9112, sections 4 to 6), and what a script's output has of each.
use Rattle.std.specs.Prelude.{ℕ, Bool, true, false, List, [], ◌++◌, length, decimal, codes, Option, Some, None}
use Rattle.http.specs.StatusCode.{status_text}
use Rattle.wb_model.specs.declared.body.Told.{Told}
use Rattle.wb_model.specs.declared.wire.WireFault.{WireFault}
use Rattle.wb_model.specs.declared.wire.WireFault.TheVariants as faults
use Rattle.wb_model.specs.Refusals.{refused, Bare, not_found, no_memory}
use Rattle.wb_model.specs.Routes.{methods, method_names}

-- ---- the reply to a request that is not read

unfoldable pub fault_told : WireFault → Told
fault_told faults.BadHead = refused 400 (codes "bad_head") Bare
fault_told faults.BadLength = refused 400 (codes "bad_length") Bare
fault_told faults.NoLength = refused 411 (codes "no_length") Bare
fault_told faults.TooLarge = refused 413 (codes "too_large") Bare
fault_told faults.NoRoute = not_found
fault_told (faults.NoMethod path) = refused 405 (codes "no_method") Bare
fault_told faults.BadJson = refused 400 (codes "bad_json") Bare
fault_told faults.BadShape = refused 400 (codes "bad_shape") Bare
fault_told faults.Memory = no_memory

-- the path whose methods the reply lists
abbrev pub fault_allow : WireFault → Option ℕ
fault_allow faults.BadHead = None
fault_allow faults.BadLength = None
fault_allow faults.NoLength = None
fault_allow faults.TooLarge = None
fault_allow faults.NoRoute = None
fault_allow (faults.NoMethod path) = Some path
fault_allow faults.BadJson = None
fault_allow faults.BadShape = None
fault_allow faults.Memory = None

-- ---- a reply's bytes

abbrev pub allow_line : Option ℕ → List ℕ
allow_line None = []
allow_line (Some path) = codes "Allow: " ++ method_names (methods path) ++ codes "\r\n"

abbrev pub close_line : Bool → List ℕ
close_line false = []
close_line true = codes "Connection: close\r\n"

-- a reply's head: its status, the methods of a path by its number, its body's length, and whether the connection closes
unfoldable pub head_text : ℕ → Option ℕ → ℕ → Bool → List ℕ
head_text status allow size close =
    codes "HTTP/1.1 " ++ status_text status
    ++ codes "\r\nContent-Type: application/json\r\nCache-Control: no-store\r\nContent-Length: " ++ decimal size ++ codes "\r\n"
    ++ allow_line allow ++ close_line close ++ codes "\r\n"

abbrev pub reply_text : Told → Option ℕ → Bool → List ℕ
reply_text told allow close = head_text told.status allow (length told.body) close ++ told.body

-- ---- the output of a script

-- `@`, the status and the reply's length
unfoldable pub output_line : ℕ → ℕ → List ℕ
output_line status size = codes "@" ++ decimal status ++ codes " " ++ decimal size ++ codes "\n"

-- that line, the reply and a line feed
abbrev pub output_text : Told → Option ℕ → Bool → List ℕ
output_text told allow close = output_line told.status (length (reply_text told allow close)) ++ reply_text told allow close ++ codes "\n"
