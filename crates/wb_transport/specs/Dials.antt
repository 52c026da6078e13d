-- What connects to endpoints, as contracts see it.
use Rattle.std.specs.Prelude.{ℕ, ◌+◌, ◌-◌, List, [], ◌∷◌, ◌++◌, drop, Option, Some, None, is_some, bytes_eq, if◌then◌else◌}
use Rattle.wb_transport.specs.Lines.{Line}

-- a link that an endpoint gives when it is called
pub record Offered : Type 0 where
  pub endpoint : List ℕ
  pub line : Line

-- what a dialer that tells has: the links that are left, in the order in which they are given, how many were given and not closed, and those that were closed
pub record Dialed : Type 0 where
  pub left : List Offered
  pub out : ℕ
  pub closed : List Line

-- a dialer: what its calls give and gave, where it tells, and how many of them failed, up to 2^64 - 1
pub record DialEnd : Type 0 where
  pub told : Option Dialed
  pub count : ℕ

abbrev pub given_of : List ℕ → List Offered → Option Line
given_of endpoint [] = None
given_of endpoint (next ∷ others) = if bytes_eq next.endpoint endpoint then Some next.line else None

-- the link that a call of an endpoint gives: the next one, where it is that endpoint's
abbrev pub given : List ℕ → Dialed → Option Line
given endpoint x = given_of endpoint x.left

-- after a call of an endpoint, which takes the link that it gives
abbrev pub after_call : List ℕ → Dialed → Dialed
after_call endpoint x = if is_some (given endpoint x) then record x { left = drop 1 x.left; out = x.out + 1 } else x

-- after a link was closed
abbrev pub after_close : Line → Dialed → Dialed
after_close line x = record x { out = x.out - 1; closed = x.closed ++ line ∷ [] }
