-- What a step of a desk makes of the books.
use Rattle.std.proofs.Common.{◌≡◌, ◌<◌, ◌≤◌, ◌+◌, ◌==◌, ℕ, Bool, true, false, cond, nat_lt, refl, sym, ap, ◌∙◌, subst, arith}
use Rattle.std.specs.Prelude.{◌&&◌}
use Rattle.std.proofs.lemmas.Bool.Decides.{nat_tests}
use Rattle.wb_model.specs.declared.body.Told.{Told}
use Rattle.wb_model.specs.Commands.{is_submission, fits_command}
use Rattle.wb_model.specs.Drawn.{numbers_of, is_accepted}
use Rattle.wb_model.specs.Past.{Past, turns}
use Rattle.wb_model.specs.Pasts.{AllOpened, standing_hosts}
use Rattle.wb_model.specs.Refusals.{turns_spent, is_turns_spent}
use Rattle.wb_model.specs.Requests.{Frame}
use Rattle.wb_model.specs.Rows.{rows_of}
use Rattle.wb_model.specs.Scripts.{Loss, NotLost, ByKeeper, ByMemory, Unread, play_asked, past_after}
use Rattle.wb_model.specs.Tenants.{Hosts}
use Rattle.wb_tables.specs.Standing.{Standing, hosts_of}
use Rattle.wb_desk.specs.Desks.{IsDesk}
use Rattle.wb_desk.specs.Kept.{MayLose, Took}
use Rattle.wb_desk.specs.Turns.{StandsFor}
use Rattle.wb_desk.specs.GoneOn.{IsLater}
use Rattle.wb_desk.specs.Hosted.{Hosted, Hand, IsBooked}
use Rattle.wb_desk.specs.Turned.{CameTo, IsMade, IsSealed, IsAbsent, turns_with, numbers_with, Turned}
use Rattle.wb_desk.proofs.MoreTurns.{once_more}
use Rattle.wb_base.specs.Ends.{KeeperEnd}

-- what the law of draws, and that of turns that are spent, say
abbrev pub DrawsLaw : Type 0
DrawsLaw = (past : Past AllOpened) (f : Frame) (loss : Loss) → numbers_of (standing_hosts (play_asked past f loss).past) ≡ numbers_of (standing_hosts past) + cond (is_accepted f.asked.command (play_asked past f loss).reply.told) 1 0

abbrev pub OthersLaw : Type 0
OthersLaw = (past : Past AllOpened) (f : Frame) (loss : Loss) → is_turns_spent (play_asked past f loss).reply.told ≡ false

-- the step of a desk that has a turn to make, from any past that it stands for
module _ (draws : DrawsLaw) (others : OthersLaw) (keeper keeper' : KeeperEnd) (f : Frame) (told : Told) (past : Past AllOpened) where
  turned_once : (loss : Loss) → MayLose past f loss → turns (play_asked past f loss).past ≡ turns past + 1
  turned_once NotLost may = refl
  turned_once ByKeeper may = refl
  turned_once ByMemory may = refl
  turned_once (Unread close) may = absurd may

  pub one_turn : (h h' : Hosts) (loss : Loss) → StandsFor h past → Took keeper keeper' past f loss told h' → h'.turns ≡ h.turns + 1
  one_turn h h' loss stands took = ap (λ (x : Hosts). x.turns) took.stands ∙ (turned_once loss took.possible ∙ ap (λ (x : Hosts). x.turns + 1) (sym stands))

  pub one_number : (h h' : Hosts) (loss : Loss) → StandsFor h past → Took keeper keeper' past f loss told h' → numbers_of h' ≡ numbers_of h + cond (is_accepted f.asked.command told) 1 0
  one_number h h' loss stands took =
      ap numbers_of took.stands
      ∙ (draws past f loss
      ∙ (ap (λ x. numbers_of x + cond (is_accepted f.asked.command (play_asked past f loss).reply.told) 1 0) (sym stands)
      ∙ ap (λ x. numbers_of h + cond (is_accepted f.asked.command x) 1 0) (sym took.told)))

  pub not_spent : (h' : Hosts) (loss : Loss) → Took keeper keeper' past f loss told h' → is_turns_spent told ≡ false
  not_spent h' loss took = ap is_turns_spent took.told ∙ others past f loss

  pub still_kept : (h h' : Hosts) (loss : Loss) → StandsFor h past → Took keeper keeper' past f loss told h' → keeper'.honest → keeper.holds (rows_of h.list) → keeper'.holds (rows_of h'.list)
  still_kept h h' loss stands took is old =
      subst (λ (x : Hosts). keeper'.holds (rows_of x.list)) (sym took.stands) (took.kept is (subst (λ (x : Hosts). keeper.holds (rows_of x.list)) stands old))

  pub came : (h' : Hosts) (loss : Loss) → Took keeper keeper' past f loss told h' → CameTo keeper.count keeper'.count past f loss told h'
  came h' loss took = record { possible = took.possible; told = took.told; stands = took.stands; counted = took.counted; kept = λ none old. tt }

-- the answer after the last turn accepts no submission
spent_status : turns_spent.status ≡ 429
unfolding turns_spent
spent_status = refl

pub spent_draws : (f : Frame) (told : Told) → told ≡ turns_spent → is_accepted f.asked.command told ≡ false
spent_draws f told is = by (is_submission f.asked.command) (told.status == 201) refl
  where
    by : (b c : Bool) → (told.status == 201) ≡ c → (b && c) ≡ false
    by true true e =
        let status : told.status ≡ 429 = ap (λ (x : Told). x.status) is ∙ spent_status in
        absurd (grind (arith, nat_tests, e, status))
    by true false e = refl
    by false c e = refl

-- the books after a turn
pub booked_made : (keeper keeper' : KeeperEnd) (d d' opened : Standing) (turns numbers made drawn : ℕ) (accepted : Bool) → IsBooked d opened turns numbers keeper → d.turns < 1_000_000_000_000_000 → made ≡ cond (nat_lt (opened.turns + turns) 1_000_000_000_000_000) 1 0 → drawn ≡ cond accepted 1 0 →
    d'.turns ≡ d.turns + 1 → numbers_of (hosts_of d') ≡ numbers_of (hosts_of d) + cond accepted 1 0 → (keeper'.honest → keeper.honest) → (keeper'.honest → keeper.holds (rows_of (hosts_of d).list) → keeper'.holds (rows_of (hosts_of d').list)) → IsLater opened (turns + 1) d' →
    IsBooked d' opened (turns + made) (numbers + drawn) keeper'
booked_made keeper keeper' d d' opened turns numbers made drawn accepted booked below is_made is_drawn more total back keeps later =
    let one : made ≡ 1 = by_made (nat_lt (opened.turns + turns) 1_000_000_000_000_000) refl is_made in
    let few : drawn ≤ 1 = at_most accepted is_drawn in record {
      turns_add_up = omega (arith, more, one, booked.turns_add_up);
      numbers_add_up = omega (arith, total, is_drawn, booked.numbers_add_up);
      most = omega (arith, more, below);
      few = omega (arith, few, one, booked.few);
      kept = λ is. keeps is (booked.kept (back is));
      later = subst (λ n. IsLater opened (turns + n) d') (sym one) later;
    }
  where
    by_made : (b : Bool) → nat_lt (opened.turns + turns) 1_000_000_000_000_000 ≡ b → made ≡ cond b 1 0 → made ≡ 1
    by_made true test e = e
    by_made false test e = absurd (grind (arith, nat_tests, test, below, booked.turns_add_up))

    at_most : (b : Bool) → drawn ≡ cond b 1 0 → drawn ≤ 1
    at_most true e = omega (arith, e)
    at_most false e = omega (arith, e)

-- ---- the whole turn

-- what a step ensures
pub record Ensured (keeper keeper' : KeeperEnd) (d d' : Standing) (f : Frame) (told : Told) : Type 0 where
  pub spent : 1_000_000_000_000_000 ≤ d.turns → (told ≡ turns_spent) × (d' ≡ d) × (keeper'.count ≡ keeper.count) × (keeper'.honest → keeper.holds (rows_of (hosts_of d).list) → keeper'.holds (rows_of (hosts_of d).list))
  pub turn : d.turns < 1_000_000_000_000_000 → (past : Past AllOpened) → StandsFor (hosts_of d) past → (loss : Loss) × Took keeper keeper' past f loss told (hosts_of d')
  pub back : keeper'.honest → keeper.honest
  pub later : keeper.count ≤ keeper'.count

-- and what it tells of reports that others may not read, and of those that are gone
pub record Withheld (d d' : Standing) (f : Frame) (told : Told) : Type 0 where
  pub sealed : d.turns < 1_000_000_000_000_000 → IsMade told → (t r : ℕ) → IsSealed t r (hosts_of d) f told (hosts_of d')
  pub absent : d.turns < 1_000_000_000_000_000 → IsMade told → (t r : ℕ) → IsAbsent t r (hosts_of d) f (hosts_of d')

module _ (draws : DrawsLaw) (others : OthersLaw) (told_spent : is_turns_spent turns_spent ≡ true) (keeper keeper' : KeeperEnd) (d d' : Standing) (f : Frame) (told : Told) (fit : fits_command f.asked.command ≡ true) (is_desk : IsDesk d) (step : Ensured keeper keeper' d d' f told) where
  -- what the books rise by
  made_is : (first turns made : ℕ) → d.turns ≡ first + turns → made ≡ cond (nat_lt (first + turns) 1_000_000_000_000_000) 1 0 → made ≡ cond (is_turns_spent told) 0 1
  made_is first turns made sum is = by (nat_lt (first + turns) 1_000_000_000_000_000) refl is
    where
      by : (b : Bool) → nat_lt (first + turns) 1_000_000_000_000_000 ≡ b → made ≡ cond b 1 0 → made ≡ cond (is_turns_spent told) 0 1
      by true test e =
          let took = step.turn (grind (arith, nat_tests, test, sum)) is_desk.past.past is_desk.past.stands in
          e ∙ ap (λ b. cond b 0 1) (sym (not_spent draws others keeper keeper' f told is_desk.past.past (hosts_of d') took.0 took.1))
      by false test e = e ∙ ap (λ b. cond b 0 1) (sym (ap is_turns_spent (step.spent (grind (arith, nat_tests, test, sum))).0 ∙ told_spent))

  -- the desk goes on by the turn
  later_made : (opened : Standing) (turns : ℕ) → d.turns < 1_000_000_000_000_000 → IsLater opened turns d → IsLater opened (turns + 1) d'
  later_made opened turns below later start stands =
      let gone = later start stands in
      let took = step.turn below (past_after start gone.places) gone.stands in
      once_more start turns (hosts_of d) (hosts_of d') f gone took.0 fit took.1.possible took.1.stands

  pub booked_after : (opened : Standing) (turns numbers made drawn : ℕ) → IsBooked d opened turns numbers keeper → made ≡ cond (nat_lt (opened.turns + turns) 1_000_000_000_000_000) 1 0 → drawn ≡ cond (is_accepted f.asked.command told) 1 0 →
      IsBooked d' opened (turns + made) (numbers + drawn) keeper'
  booked_after opened turns numbers made drawn booked is_made is_drawn = by (nat_lt (opened.turns + turns) 1_000_000_000_000_000) refl is_made
    where
      by : (b : Bool) → nat_lt (opened.turns + turns) 1_000_000_000_000_000 ≡ b → made ≡ cond b 1 0 → IsBooked d' opened (turns + made) (numbers + drawn) keeper'
      by true test e =
          let below : d.turns < 1_000_000_000_000_000 = grind (arith, nat_tests, test, booked.turns_add_up) in
          let took = step.turn below is_desk.past.past is_desk.past.stands in
          booked_made keeper keeper' d d' opened turns numbers made drawn (is_accepted f.asked.command told) booked below is_made is_drawn
          (one_turn draws others keeper keeper' f told is_desk.past.past (hosts_of d) (hosts_of d') took.0 is_desk.past.stands took.1)
          (one_number draws others keeper keeper' f told is_desk.past.past (hosts_of d) (hosts_of d') took.0 is_desk.past.stands took.1)
          step.back
          (still_kept draws others keeper keeper' f told is_desk.past.past (hosts_of d) (hosts_of d') took.0 is_desk.past.stands took.1)
          (later_made opened turns below booked.later)
      by false test e =
          let left = step.spent (grind (arith, nat_tests, test, booked.turns_add_up)) in
          let none : drawn ≡ 0 = is_drawn ∙ ap (λ b. cond b 1 0) (spent_draws f told left.0) in
          let same : turns ≡ turns + made = omega (arith, e) in
          subst (λ x. IsBooked x opened (turns + made) (numbers + drawn) keeper') (sym left.1) (record {
            turns_add_up = omega (arith, e, booked.turns_add_up);
            numbers_add_up = omega (arith, none, booked.numbers_add_up);
            most = booked.most;
            few = omega (arith, none, booked.few);
            kept = λ is. left.3 is (booked.kept (step.back is));
            later = subst (λ n. IsLater opened n d) same booked.later;
          })

  with_made : (n made : ℕ) → made ≡ cond (is_turns_spent told) 0 1 → n + made ≡ turns_with told n
  with_made n made e = by (is_turns_spent told) e
    where
      by : (b : Bool) → made ≡ cond b 0 1 → n + made ≡ cond b n (n + 1)
      by true is = omega (arith, is)
      by false is = omega (arith, is)

  with_drawn : (n drawn : ℕ) → drawn ≡ cond (is_accepted f.asked.command told) 1 0 → n + drawn ≡ numbers_with f told n
  with_drawn n drawn e = by (is_accepted f.asked.command told) e
    where
      by : (b : Bool) → drawn ≡ cond b 1 0 → n + drawn ≡ cond b (n + 1) n
      by true is = omega (arith, is)
      by false is = omega (arith, is)

  turned_over : Withheld d d' f told → (opened : Standing) (turns numbers made drawn parts share drew : ℕ) → d.turns ≡ opened.turns + turns → IsLater opened turns d → made ≡ cond (nat_lt (opened.turns + turns) 1_000_000_000_000_000) 1 0 → drawn ≡ cond (is_accepted f.asked.command told) 1 0 → share ≤ turns → drew ≤ numbers →
      Turned f (record { desk = d; opened = opened; turns = turns; numbers = numbers; faults = keeper.count }) (record { parts = parts; turns = share; numbers = drew })
      (record { desk = d'; opened = opened; turns = turns + made; numbers = numbers + drawn; faults = keeper'.count }) (record { parts = parts; turns = share + made; numbers = drew + drawn }) told
  turned_over withheld opened turns numbers made drawn parts share drew sum gone_on is_made is_drawn share_le drew_le =
      let rises : made ≡ cond (is_turns_spent told) 0 1 = made_is opened.turns turns made sum is_made in record {
        stands = is_desk.past;
        gone_on = gone_on;
        made = λ below. record {
          turn = λ past stands. let took = step.turn below past stands in (took.0, came draws others keeper keeper' f told past (hosts_of d') took.0 took.1);
          sealed = withheld.sealed below;
          absent = withheld.absent below;
        };
        spent = λ full. let left = step.spent full in record { said = left.0; left = left.1; counted = left.2 };
        later = step.later;
        opened = refl;
        turns = with_made turns made rises;
        numbers = with_drawn numbers drawn is_drawn;
        pass = λ i. record { parts = parts; turns = with_made share made rises i; numbers = with_drawn drew drawn is_drawn i };
        turns_within = share_le;
        numbers_within = drew_le;
      }

  pub turned_by : Withheld d d' f told → (h : Hosted) (p : Hand) (opened : Standing) (turns numbers made drawn parts share drew : ℕ) → record { desk = d; opened = opened; turns = turns; numbers = numbers; faults = keeper.count } ≡ h → record { parts = parts; turns = share; numbers = drew } ≡ p →
      d.turns ≡ opened.turns + turns → IsLater opened turns d → made ≡ cond (nat_lt (opened.turns + turns) 1_000_000_000_000_000) 1 0 → drawn ≡ cond (is_accepted f.asked.command told) 1 0 → share ≤ turns → drew ≤ numbers →
      Turned f h p (record { desk = d'; opened = opened; turns = turns + made; numbers = numbers + drawn; faults = keeper'.count }) (record { parts = parts; turns = share + made; numbers = drew + drawn }) told
  turned_by withheld h p opened turns numbers made drawn parts share drew host pass sum gone_on is_made is_drawn share_le drew_le =
      subst (λ (x : Hosted). Turned f x p (record { desk = d'; opened = opened; turns = turns + made; numbers = numbers + drawn; faults = keeper'.count }) (record { parts = parts; turns = share + made; numbers = drew + drawn }) told) host
      (subst (λ (y : Hand). Turned f (record { desk = d; opened = opened; turns = turns; numbers = numbers; faults = keeper.count }) y (record { desk = d'; opened = opened; turns = turns + made; numbers = numbers + drawn; faults = keeper'.count }) (record { parts = parts; turns = share + made; numbers = drew + drawn }) told) pass
      (turned_over withheld opened turns numbers made drawn parts share drew sum gone_on is_made is_drawn share_le drew_le))
