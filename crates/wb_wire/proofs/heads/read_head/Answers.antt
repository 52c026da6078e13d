-- Each answer of the parser, carried from the window to all bytes.
use Rattle.std.proofs.Common.{◌≡◌, rules, length, inl, inr, sym}
use Rattle.httparse.specs.Grammar.{HasNoRequest, MayBecomeRequest, NeverHasRequest}
use Rattle.httparse.specs.Spans.{IsRequestOf, IsRequestWithin, RequestOverflows, RequestExceeds}
use Rattle.wb_wire.proofs.HeadLemmas.{none_yet, none_fits, headless_as, never_as, whole_as, ends_as}
use Rattle.wb_wire.proofs.heads.read_head.Goals as goal

pub returns-in-Ok-Partial : goal.returns-in-Ok-Partial
returns-in-Ok-Partial c =
    let none : HasNoRequest c.window-front.result.now = search rules in
    let may : MayBecomeRequest c.window-front.result.now = search rules in
    rw c.headless.ensures (headless_as c.args.bytes.now c.window-front.result.now c.window-front.ensures.front (none_yet c.args.bytes.now (rw c.window-front.ensures.front at none)) (inl may))

pub returns-in-Err-TooManyHeaders : goal.returns-in-Err-TooManyHeaders
returns-in-Err-TooManyHeaders c =
    let over : RequestOverflows 64 c.window-front.result.now = search rules in
    let exceeds : RequestExceeds 64 c.window-front.result.now = search rules in
    rw c.headless-in-Err-TooManyHeaders.ensures (headless_as c.args.bytes.now c.window-front.result.now c.window-front.ensures.front (none_fits c.args.bytes.now (rw c.window-front.ensures.front at over)) (inr exceeds))

pub returns-in-Err : goal.returns-in-Err
returns-in-Err c =
    let over : RequestOverflows 64 c.window-front.result.now = search rules in
    let never : NeverHasRequest c.window-front.result.now = search rules in
    never_as c.args.bytes.now c.window-front.result.now c.window-front.ensures.front over never

pub returns-in-Ok : goal.returns-in-Ok
returns-in-Ok c =
    let found : IsRequestOf c.window-front.result.now c.parse_request.new.headers c.in-Ok-Complete.head = search rules in
    let within : IsRequestWithin c.window-front.result.now c.parse_request.new.headers c.in-Ok-Complete.head = search rules in
    let room : length c.parse_request.new.headers ≡ 64 = search rules in
    whole_as c.args.bytes.now _ c.parse_request.new.headers c.in-Ok-Complete.head c.in-Ok.said c.unwrap_or.result c.closes.result c.window-front.ensures.front room within found (sym c.in-Ok.ensures) c.unwrap_or.ensures c.closes.ensures

pub returns-in-Err-declared_length : goal.returns-in-Err-declared_length
returns-in-Err-declared_length c =
    let found : IsRequestOf c.window-front.result.now c.parse_request.new.headers c.in-Ok-Complete.head = search rules in
    let within : IsRequestWithin c.window-front.result.now c.parse_request.new.headers c.in-Ok-Complete.head = search rules in
    let room : length c.parse_request.new.headers ≡ 64 = search rules in
    ends_as c.args.bytes.now _ c.parse_request.new.headers c.in-Ok-Complete.head c.in-Err-declared_length.fault c.window-front.ensures.front room within found (sym c.in-Err-declared_length.ensures)
