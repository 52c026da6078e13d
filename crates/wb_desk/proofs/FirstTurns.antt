-- The turn of a submission tells no more than that of another that differs in its valid identity answers alone: from the law of scripts,
-- of scripts of one place.
use Rattle.std.proofs.Common.{zero, ◌≡◌, ℕ, Bool, true, false, cond, List, [], ◌∷◌, Option, Some, None, refl, sym, ap, ◌∙◌, subst}
use Rattle.wb_model.specs.declared.body.Told.{Told}
use Rattle.wb_model.specs.Past.{Past}
use Rattle.wb_model.specs.Pasts.{AllOpened, standing_hosts, reply_in, with_turn}
use Rattle.wb_model.specs.Readings.{Asks}
use Rattle.wb_model.specs.Requests.{Frame}
use Rattle.wb_model.specs.Scripts.{Loss, NotLost, ByKeeper, ByMemory, Unread, Place, Reply, play_asked, script_replies, past_after}
use Rattle.wb_model.specs.ScriptsAlike.{PlacesAlike, FollowWhere, is_accepted, hidden_replies}
use Rattle.wb_model.specs.Tenants.{Hosts, AllHostsAlike, FirstAlike, is_report_reader, hosts_reply, hosts_after}
use Rattle.wb_desk.specs.Kept.{MayLose}
use Rattle.wb_desk.specs.Turned.{IsMade}

-- a script of one place, at which nothing is lost
abbrev place_of : Frame → Place
place_of f = record { moment = f.moment; words = f.words; reading = Asks f.asked; loss = NotLost }

abbrev told_in : Told → List (Option Reply) → Told
told_in told [] = told
told_in told (None ∷ xs) = told
told_in told (Some reply ∷ xs) = reply.told

shown : (hidden : Bool) (x y : Reply) → hidden ≡ false → cond hidden None (Some x) ∷ [] ≡ cond hidden None (Some y) ∷ [] → x.told ≡ y.told
shown true x y e same = absurd cc
shown false x y e same = ap (told_in x.told) same

follows : (accepted : Bool) (t r : ℕ) (past : Past AllOpened) → FollowWhere accepted t r past [] []
follows true t r past = tt
follows false t r past = refl

module _ (by_replies : (i t r : ℕ) (past : Past AllOpened) (places others : List Place) → PlacesAlike i t r past places others → hidden_replies t r past places (script_replies past places) ≡ hidden_replies t r past places (script_replies past others))
    (by_hosts : (i t r : ℕ) (past : Past AllOpened) (places others : List Place) → PlacesAlike i t r past places others → AllHostsAlike t r (standing_hosts (past_after past places)) (standing_hosts (past_after past others)))
    (reply_stands : (past : Past AllOpened) (f : Frame) → hosts_reply (standing_hosts past) f ≡ reply_in past f)
    (turn_stands : (past : Past AllOpened) (f : Frame) → hosts_after (standing_hosts past) f ≡ standing_hosts (with_turn past f))
    (t r : ℕ) (past : Past AllOpened) (f b : Frame) where
  alike : FirstAlike t r (standing_hosts past) f b → f.asked.close ≡ b.asked.close → PlacesAlike zero t r past (place_of f ∷ []) (place_of b ∷ [])
  alike first close = (
    record { left = f.asked; right = b.asked; reads = refl; other_reads = refl; related = first; close = close; loss = refl },
    follows (is_accepted past (place_of f) (Asks f.asked)) t r (with_turn past f),
  )

  pub first_turn : (h h' : Hosts) (told : Told) → h ≡ standing_hosts past → told ≡ reply_in past f → h' ≡ standing_hosts (with_turn past f) → FirstAlike t r h f b → f.asked.close ≡ b.asked.close →
      (is_report_reader t r h f ≡ false → told ≡ hosts_reply h b) × AllHostsAlike t r h' (hosts_after h b)
  first_turn h h' told stands told_is after first close =
      let same = alike (subst (λ k. FirstAlike t r k f b) stands first) close in (
        (λ other.
            told_is
            ∙ (shown (is_report_reader t r (standing_hosts past) f) _ _ (subst (λ k. is_report_reader t r k f ≡ false) stands other) (by_replies zero t r past (place_of f ∷ []) (place_of b ∷ []) same)
            ∙ (sym (reply_stands past b) ∙ ap (λ k. hosts_reply k b) (sym stands)))),
        subst (λ k. AllHostsAlike t r k (hosts_after h b)) (sym after)
            (subst (λ k. AllHostsAlike t r (standing_hosts (with_turn past f)) (hosts_after k b)) (sym stands)
            (subst (λ k. AllHostsAlike t r (standing_hosts (with_turn past f)) k) (sym (turn_stands past b)) (by_hosts zero t r past (place_of f ∷ []) (place_of b ∷ []) same))),
      )

  -- where the turn was made, by what may have been lost at it
  pub first_made : (h h' : Hosts) (told : Told) (loss : Loss) → h ≡ standing_hosts past → IsMade told → MayLose past f loss → told ≡ (play_asked past f loss).reply.told → h' ≡ standing_hosts (play_asked past f loss).past → FirstAlike t r h f b → f.asked.close ≡ b.asked.close →
      (is_report_reader t r h f ≡ false → told ≡ hosts_reply h b) × AllHostsAlike t r h' (hosts_after h b)
  first_made h h' told NotLost stands made may told_is after first close = first_turn h h' told stands told_is after first close
  first_made h h' told ByKeeper stands made may told_is after first close = absurd (made.1 told_is)
  first_made h h' told ByMemory stands made may told_is after first close = absurd (made.0 told_is)
  first_made h h' told (Unread c) stands made may told_is after first close = absurd may
