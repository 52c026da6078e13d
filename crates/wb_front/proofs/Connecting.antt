-- One turn of a connection: what was read, and what came of it.
use Rattle.std.proofs.Common.{◌≡◌, ◌<◌, ◌≤◌, inl, inr, ℕ, true, false, List, [], ◌∷◌, ◌++◌, length, take, drop, Option, Some, None, refl, sym, subst, arith}
use Rattle.std.proofs.lemmas.List.{take-append-drop}
use Rattle.std.specs.Io.KnownBytes.{Appends, IsAtEnd}
use Rattle.wb_base.specs.Outside.{AppendsFront}
use Rattle.wb_model.specs.declared.body.Told.{Told}
use Rattle.wb_model.specs.declared.command.Asked.{Asked}
use Rattle.wb_model.specs.declared.wire.WireFault.{WireFault}
use Rattle.wb_model.specs.Cuts.{Nothing, Part, Cuts, Ends, IsCut}
use Rattle.wb_model.specs.Readings.{Asks, Reads}
use Rattle.wb_model.specs.Requests.{Frame}
use Rattle.wb_transport.specs.Lines.{Clock, LinkEnd, Tick}
use Rattle.wb_front.specs.declared.answers.Replied.{Replied}
use Rattle.wb_front.specs.declared.connection.Ended.{Ended}
use Rattle.wb_front.specs.declared.connection.Ended.TheVariants as ended
use Rattle.wb_front.specs.Answers.{IsRepliedTo, IsFatal}
use Rattle.wb_front.specs.Arrivals.{Flows, IsUnfinished}
use Rattle.wb_front.specs.Endings.{IsOpenYet, IsWaiting, IsEnded, SendsRefusal}
use Rattle.wb_wire.specs.Responses.{refusal, reply_of}
use Rattle.wb_front.specs.Served.{Exchange, IsExchange, IsReply, replies, reply_bytes, said, sides_at, Sides, HasExchanged, HasReplied}
use Rattle.wb_front.proofs.Serving.{read_on, served_more, sent_more, refused_more, stay_more, length_more}

module _ {O : Type 0} (Ran : O → Frame → Told → O → Type 0) (a : Sides O) (link : LinkEnd) (clock : Clock) (own : O) (xs : List Exchange) (held : List ℕ)
    (yet : IsOpenYet Ran a (sides_at link clock own) xs held) (room : length xs < 1000) (held' : List ℕ) (link' : LinkEnd) (flows : Flows held link.left held' link'.left) (same : link'.got ≡ link.got) where
  -- what stands once more was read
  abbrev read : Sides O
  read = sides_at link' clock own

  served : HasExchanged Ran a read xs held'
  served =
      let h = read_on Ran a (sides_at link clock own) xs held held' link'.left yet.replied.served flows in
      record { exchanges = h.exchanges; bytes = h.bytes; turns = h.turns }

  sent : Appends a.got link'.got (replies xs)
  sent = subst (λ o. Appends a.got o (replies xs)) (sym same) yet.replied.sent

  within : length xs ≤ 1000
  within = omega (arith, room)

  waiting : IsWaiting Ran a read xs held'
  waiting = record { yet = record { replied = record { served = served; sent = sent }; stay = yet.stay }; room = room }

  -- no more bytes came, between two requests
  pub at_end : IsCut held' Nothing → IsAtEnd link'.left → IsEnded Ran a read ended.Closed
  at_end none ends = (xs, held', inl (waiting, none, ends), within)

  -- or inside one
  pub in_part : IsCut held' Part → IsAtEnd link'.left → IsEnded Ran a read ended.CutShort
  in_part cut ends = (xs, held', (waiting, cut, ends), within)

  -- the link failed
  pub no_more : IsUnfinished held' → IsEnded Ran a read ended.ReadFault
  no_more cut = (xs, held', (waiting, cut), within)

  -- the ticker failed
  pub no_tick : (size : ℕ) (bytes : List ℕ) (asked : Asked) (clock' : Clock) (own' : O) → bytes ≡ take size held' → Reads bytes (Asks asked) → clock'.left ≡ clock.left → own' ≡ own → IsEnded Ran a (sides_at link' clock' own') ended.ClockFault
  no_tick size bytes asked clock' own' is reads none stays =
      subst (λ m. IsEnded Ran a (record { left = link'.left; got = link'.got; moments = m; own = own' }) ended.ClockFault) (sym none)
      (subst (λ o. IsEnded Ran a (sides_at link' clock o) ended.ClockFault) (sym stays)
      (xs, held', (waiting, (take size held', drop size held', sym (take-append-drop size held'), (asked, subst (λ bs. Reads bs (Asks asked)) is reads))), within))

  -- the bytes were no request
  pub refused : (fault : WireFault) (result : Ended) (link2 : LinkEnd) → IsCut held' (Ends fault) → link2.left ≡ link'.left → SendsRefusal link' link2 fault result → IsEnded Ran a (sides_at link2 clock own) result
  refused fault result link2 cut stays (inl h) =
      subst (λ l. IsEnded Ran a (record { left = l; got = link2.got; moments = clock.left; own = own }) result) (sym stays)
      (subst (IsEnded Ran a (record { left = link'.left; got = link2.got; moments = clock.left; own = own })) (sym h.0)
      (xs, held', inl (record { served = record { exchanges = served.exchanges; bytes = served.bytes; turns = served.turns }; stay = yet.stay; room = room; cut = cut; sent = refused_more a read xs (reply_bytes (refusal fault true)) link2.got sent h.1 }), within))
  refused fault result link2 cut stays (inr h) =
      subst (λ l. IsEnded Ran a (record { left = l; got = link2.got; moments = clock.left; own = own }) result) (sym stays)
      (subst (IsEnded Ran a (record { left = link'.left; got = link2.got; moments = clock.left; own = own })) (sym h.0)
      (xs, held', (record { exchanges = served.exchanges; bytes = served.bytes; turns = served.turns }, record { before = replies xs; last = reply_bytes (refusal fault true); is_last = inr (fault, cut, yet.stay, room, refl, refl); part = h.2.0; rest = h.2.1; cut = h.2.2; sent = refused_more a read xs h.2.0 link2.got sent h.2.3 }), within))

  -- a request was answered
  module _ (size : ℕ) (cut : IsCut held' (Cuts (take size held') (drop size held'))) (bytes : List ℕ) (is : bytes ≡ take size held') (answer : Replied) (tick : Option Tick) (own' : O) (clock' : Clock)
      (told : IsRepliedTo Ran own own' clock.left clock'.left bytes answer tick) (link2 : LinkEnd) (stays : link2.left ≡ link'.left) where
    abbrev exchange : Exchange
    exchange = record { request = take size held'; reply = reply_of answer.response; tick = tick }

    abbrev after : Sides O
    after = sides_at link2 clock' own'

    one : IsExchange Ran own own' exchange
    one = record { whole = cut.1; replied = subst (λ bs. IsReply Ran own own' bs (reply_of answer.response) tick) is told.replied }

    served_on : HasExchanged Ran a after (xs ++ exchange ∷ []) (drop size held')
    served_on =
        subst (λ l. HasExchanged Ran a (record { left = l; got = link2.got; moments = clock'.left; own = own' }) (xs ++ exchange ∷ []) (drop size held')) (sym stays)
        (served_more Ran a read xs held' (drop size held') exchange link2.got clock'.left own' served cut.0 one told.turns)

    more_within : length (xs ++ exchange ∷ []) ≤ 1000
    more_within = omega (arith, room, length_more xs exchange)

    -- its reply was cut off
    pub write_cut : AppendsFront link'.got link2.got (reply_bytes (said (length xs) (reply_of answer.response))) → IsEnded Ran a after ended.WriteFault
    write_cut off = (xs ++ exchange ∷ [], drop size held', (served_on, record { before = replies xs; last = reply_bytes (said (length xs) (reply_of answer.response)); is_last = inl (xs, exchange, refl, yet.stay, refl, refl); part = off.0; rest = off.1; cut = off.2; sent = refused_more a read xs off.0 link2.got sent off.3 }), more_within)

    -- its reply was sent
    module _ (all : Appends link'.got link2.got (reply_bytes (said (length xs) (reply_of answer.response)))) where
      replied_on : HasReplied Ran a after (xs ++ exchange ∷ []) (drop size held')
      replied_on = record { served = served_on; sent = sent_more a read xs exchange link2.got sent all }

      pub more : answer.response.close ≡ false → IsOpenYet Ran a after (xs ++ exchange ∷ []) (drop size held')
      more stay = record { replied = replied_on; stay = stay_more xs exchange yet.stay stay }

      closed_by : (fatal : Option WireFault) (result : Ended) → answer.response.close ≡ true → IsFatal fatal (reply_of answer.response) tick → ((fault : WireFault) → fatal ≡ Some fault → result ≡ ended.Refused fault) → (fatal ≡ None → result ≡ ended.Closed) → IsEnded Ran a after result
      closed_by None result closes why some none =
          subst (IsEnded Ran a after) (sym (none refl)) (xs ++ exchange ∷ [], drop size held', inr (replied_on, (exchange, record { front = xs; parts = refl; stay = yet.stay; closes = closes }, why)), more_within)
      closed_by (Some fault) result closes why some none =
          subst (IsEnded Ran a after) (sym (some fault refl)) (xs ++ exchange ∷ [], drop size held', inr (replied_on, (exchange, record { front = xs; parts = refl; stay = yet.stay; closes = closes }, why)), more_within)

      pub closed : (result : Ended) → answer.response.close ≡ true → ((fault : WireFault) → answer.fatal ≡ Some fault → result ≡ ended.Refused fault) → (answer.fatal ≡ None → result ≡ ended.Closed) → IsEnded Ran a after result
      closed result closes some none = closed_by answer.fatal result closes told.fatal some none
