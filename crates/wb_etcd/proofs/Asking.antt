-- One exchange, from what its steps say.
use Rattle.std.proofs.Common.{◌≡◌, ℕ, ◌<◌, List, [], ◌∷◌, Option, Some, None, refl, arith}
use Rattle.serde_json.specs.Data.{Data}
use Rattle.wb_transport.specs.Lines.{Line}
use Rattle.wb_etcd.specs.Transactions.{request_text}
use Rattle.wb_etcd.specs.Answers.{IsAnswer}
use Rattle.wb_transport.specs.Dials.{Dialed, given, after_call, after_close}
use Rattle.wb_etcd.specs.Exchanges.{Connection, first_given, connection, exchanged, Asks}

pub asks : (endpoints : List (List ℕ)) (path body request : List ℕ) (x : Dialed) (line : Line) (answer : Data) → (connection endpoints x).line ≡ Some line → request ≡ request_text (connection endpoints x).endpoint path body → IsAnswer line.left answer → Asks endpoints path body x (after_close (exchanged request line) (connection endpoints x).after) answer
asks endpoints path body request x line answer connects text is = record {
  line = line;
  connects = connects;
  answers = is;
  closes = rw text refl;
}

-- a call that gave a link has it out
out_by : (o : Option Line) (endpoint : List ℕ) (x : Dialed) (later : Connection) (line : Line) → given endpoint x ≡ o → (later.line ≡ Some line → 0 < later.after.out) → (first_given o endpoint x later).line ≡ Some line → 0 < (first_given o endpoint x later).after.out
out_by (Some there) endpoint x later line is rest found = rw is (omega arith)
out_by None endpoint x later line is rest found = rest found

pub is_out : (endpoints : List (List ℕ)) (x : Dialed) (line : Line) → (connection endpoints x).line ≡ Some line → 0 < (connection endpoints x).after.out
is_out [] x line found = absurd (cc)
is_out (endpoint ∷ others) x line found = out_by (given endpoint x) endpoint x (connection others (after_call endpoint x)) line refl (is_out others (after_call endpoint x) line) found

-- a call that gives no link leaves all as it was
pub stays : (endpoint : List ℕ) (x : Dialed) → given endpoint x ≡ None → after_call endpoint x ≡ x
stays endpoint x none = rw none refl

pub passes : (endpoint : List ℕ) (others : List (List ℕ)) (x : Dialed) → given endpoint x ≡ None → connection (endpoint ∷ others) x ≡ connection others x
passes endpoint others x none = rw none refl
