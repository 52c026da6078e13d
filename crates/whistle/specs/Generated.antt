-- The script that the program makes for trying a host: a setup, and so many requests.
use Rattle.std.specs.Prelude.{ℕ, ◌+◌, ◌-◌, ◌*◌, ◌%◌, ◌==◌, if◌then◌else◌, List, [], ◌∷◌, ◌++◌, map, length, codes, decimal}
use Rattle.std.specs.List.{range_with_len}
use Rattle.wb_base.specs.declared.words.Words.{Words}
use Rattle.wb_base.specs.Secrets.{secret_text}
use Rattle.wb_model.specs.declared.wire.ScriptFrame.{ScriptFrame}
use Rattle.wb_model.specs.ShortViews.{session_text}
use Rattle.whistle.specs.Runs.{script_text}
use Rattle.whistle.specs.declared.sample_setup.TheConstants.{HARBOUR}

-- the turns come an hour apart, the first an hour after 2025-01-01 00:00 UTC
abbrev pub moment_at : ℕ → ℕ
moment_at turn = 1_735_689_600 + 3_600 * turn

-- a turn's random words
abbrev pub words_at : ℕ → Words
words_at turn = record { 0 = 0 ∷ turn ∷ 0 ∷ turn ∷ [] }

-- a request: its method and path, the host's name, more fields, and a body
abbrev pub request : List ℕ → List ℕ → List ℕ → List ℕ → List ℕ
request method path fields body = method ++ codes " " ++ path ++ codes " HTTP/1.1\r\nHost: h\r\n" ++ fields ++ codes "\r\n" ++ body

-- how long the body is, and the session
abbrev pub length_field : ℕ → List ℕ
length_field size = codes "Content-Length: " ++ decimal size ++ codes "\r\n"

abbrev pub session_field : List ℕ → List ℕ
session_field session = codes "X-Session: " ++ session ++ codes "\r\n"

-- a request that sends a body
abbrev pub sending : List ℕ → List ℕ → List ℕ
sending path body = request (codes "POST") path (length_field (length body)) body

-- a recipient logs in
abbrev pub login : List ℕ
login = sending (codes "/t/1/sessions") (codes "{\"user\":\"ada\",\"password\":\"ada-pass\"}")

-- a report that tells its turn
abbrev pub submission : ℕ → List ℕ
submission turn = sending (codes "/t/1/reports") (codes "{\"context\":1,\"answers\":{\"what\":\"Report " ++ decimal turn ++ codes "\"}}")

-- the list of the reports, with the session that a login's turn made
abbrev pub reports_with : ℕ → List ℕ
reports_with turn = request (codes "GET") (codes "/t/1/reports") (session_field (session_text turn (secret_text (words_at turn)))) []

abbrev pub health : List ℕ
health = request (codes "GET") (codes "/health") [] []

-- what is asked at a turn
abbrev pub asked_at : ℕ → List ℕ
asked_at turn = if turn % 4 == 1 then login
    else (if turn % 4 == 2 then submission turn
    else (if turn % 4 == 3 then reports_with (turn - 2) else health))

-- the frame of a turn
unfoldable pub frame_at : ℕ → ScriptFrame
frame_at turn = record { moment = moment_at turn; words = words_at turn; bytes = asked_at turn }

-- the frames of so many turns, from one on
abbrev pub frames_from : ℕ → ℕ → List ScriptFrame
frames_from first count = map frame_at (range_with_len first count)

-- the script of so many turns
abbrev pub generated : ℕ → List ℕ
generated turns = script_text HARBOUR.now (frames_from 1 turns)
