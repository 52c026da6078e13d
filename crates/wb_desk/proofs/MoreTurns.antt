-- A host goes on by one more turn.
use Rattle.std.proofs.Common.{◌≡◌, ℕ, ◌+◌, true, List, [], ◌∷◌, ◌++◌, length, refl, sym, ap, ◌∙◌, arith}
use Rattle.wb_model.specs.ByVerdicts.{AsksInRange, AskInRange}
use Rattle.wb_model.specs.Commands.{fits_command}
use Rattle.wb_model.specs.Past.{Past}
use Rattle.wb_model.specs.Pasts.{AllOpened, standing_hosts}
use Rattle.wb_model.specs.Readings.{Asks}
use Rattle.wb_model.specs.Requests.{Frame}
use Rattle.wb_model.specs.Scripts.{Loss, NotLost, ByKeeper, ByMemory, Unread, Place, IsPossible, ArePossible, play, play_asked, past_after}
use Rattle.wb_model.specs.Tenants.{Hosts}
use Rattle.wb_tables.specs.Standing.{Standing}
use Rattle.wb_desk.specs.Kept.{MayLose}
use Rattle.wb_desk.specs.GoneOn.{HasGoneOn, IsLater}

-- one more at the end
abbrev more : {X : Type 0} → List X → X → List X
more xs x = xs ++ x ∷ []

length_more : {X : Type 0} (xs : List X) (x : X) → length (more xs x) ≡ length xs + 1
length_more [] x = refl
length_more (y ∷ xs) x = omega (arith, length_more xs x)

past_more : (past : Past AllOpened) (ps : List Place) (p : Place) → past_after past (more ps p) ≡ (play (past_after past ps) p).past
past_more past [] p = refl
past_more past (q ∷ ps) p = past_more (play past q).past ps p

possible_more : (past : Past AllOpened) (ps : List Place) (p : Place) → ArePossible past ps → IsPossible (past_after past ps) p p.reading p.loss → ArePossible past (more ps p)
possible_more past [] p all one = (one, tt)
possible_more past (q ∷ ps) p all one = (all.0, possible_more (play past q).past ps p all.1 one)

range_more : (ps : List Place) (p : Place) → AskInRange ps → AsksInRange p.reading → AskInRange (more ps p)
range_more [] p all one = (one, tt)
range_more (q ∷ ps) p all one = (all.0, range_more ps p all.1 one)

-- the place of a turn
abbrev place_of : Frame → Loss → Place
place_of f loss = record { moment = f.moment; words = f.words; reading = Asks f.asked; loss = loss }

possible_turn : (past : Past AllOpened) (f : Frame) (loss : Loss) → MayLose past f loss → IsPossible past (place_of f loss) (Asks f.asked) loss
possible_turn past f NotLost may = tt
possible_turn past f ByKeeper may = may
possible_turn past f ByMemory may = may
possible_turn past f (Unread close) may = absurd may

-- it has gone on by no turn from where it is
pub none_later : (d : Standing) → IsLater d 0 d
none_later d start stands = record { places = []; as_many = refl; in_range = tt; possible = tt; stands = stands }

-- one more turn, of a request in its ranges, made or lost
pub once_more : (start : Past AllOpened) (turns : ℕ) (h h' : Hosts) (f : Frame) (gone : HasGoneOn start turns h) (loss : Loss) → fits_command f.asked.command ≡ true → MayLose (past_after start gone.places) f loss → h' ≡ standing_hosts (play_asked (past_after start gone.places) f loss).past → HasGoneOn start (turns + 1) h'
once_more start turns h h' f gone loss fit may after = record {
  places = more gone.places (place_of f loss);
  as_many = length_more gone.places (place_of f loss) ∙ ap (λ n. n + 1) gone.as_many;
  in_range = range_more gone.places (place_of f loss) gone.in_range fit;
  possible = possible_more start gone.places (place_of f loss) gone.possible (possible_turn (past_after start gone.places) f loss may);
  stands = after ∙ ap standing_hosts (sym (past_more start gone.places (place_of f loss)));
}
