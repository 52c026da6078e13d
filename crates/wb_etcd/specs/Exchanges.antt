-- A connection to a store, and one exchange with it, as contracts see them.
use Rattle.std.specs.Prelude.{◌≡◌, ℕ, List, [], ◌∷◌, ◌++◌, Option, Some, None}
use Rattle.serde_json.specs.Data.{Data}
use Rattle.wb_transport.specs.Lines.{Line}
use Rattle.wb_transport.specs.Dials.{Dialed, given, after_call, after_close}
use Rattle.wb_etcd.specs.Transactions.{request_text}
use Rattle.wb_etcd.specs.Answers.{IsAnswer}

-- a link, the endpoint that gave it, and what stands after the calls
pub record Connection : Type 0 where
  pub line : Option Line
  pub endpoint : List ℕ
  pub after : Dialed

-- the link that a call gave, or else what later calls gave
abbrev pub first_given : Option Line → List ℕ → Dialed → Connection → Connection
first_given (Some line) endpoint x later = record { line = Some line; endpoint = endpoint; after = after_call endpoint x }
first_given None endpoint x later = later

-- endpoints are called in turn, until one gives a link
abbrev pub connection : List (List ℕ) → Dialed → Connection
connection [] x = record { line = None; endpoint = []; after = x }
connection (endpoint ∷ others) x = first_given (given endpoint x) endpoint x (connection others (after_call endpoint x))

-- a link after an exchange: it got the request, and gave all that it had
abbrev pub exchanged : List ℕ → Line → Line
exchanged request line = record { left = []; got = line.got ++ request; count = line.count }

-- a text was sent to a path of the first endpoint that gave a link, all that came was this answer, and the link was closed
pub record Asks (endpoints : List (List ℕ)) (path body : List ℕ) (old new : Dialed) (answer : Data) : Type 0 where
  pub line : Line
  pub connects : (connection endpoints old).line ≡ Some line
  pub answers : IsAnswer line.left answer
  pub closes : new ≡ after_close (exchanged (request_text (connection endpoints old).endpoint path body) line) (connection endpoints old).after
