-- A legal entry names at most 32 readers.
use Rattle.std.proofs.Common.{◌≡◌, ℕ, ◌≤◌, Bool, true, false, List, length, arith}
use Rattle.std.specs.Prelude.{nat_le, ◌&&◌}
use Rattle.std.proofs.lemmas.Bool.Decides.{nat_tests}
use Rattle.wb_model.specs.declared.entry.Entry.{Entry}
use Rattle.wb_model.specs.declared.entry.Deed.{Deed}
use Rattle.wb_model.specs.declared.entry.Deed.TheVariants as deeds
use Rattle.wb_model.specs.Access.{user_by}
use Rattle.wb_model.specs.declared.entry.Actor.{Actor}
use Rattle.wb_model.specs.Legal.{Reckoning, are_readers, ascends, right_actor, right_values, is_free, done, is_next}
use Rattle.wb_case.specs.Summaries.{needed_by}

third : (a b c d : Bool) → (a && b && c && d) ≡ true → c ≡ true
third a b c d e = grind (arith, e)

fourth : (a b c d : Bool) → (a && b && c && d) ≡ true → d ≡ true
fourth a b c d e = grind (arith, e)

second : (a b c : Bool) → (a && b && c) ≡ true → b ≡ true
second a b c e = grind (arith, e)

within : (n : ℕ) → nat_le n 32 ≡ true → n ≤ 32
within n e = grind (arith, nat_tests, e)

few : (us : List ℕ) → are_readers us ≡ true → length us ≤ 32
few us e = within (length us) (second (nat_le 1 (length us)) (nat_le (length us) 32) (ascends us) e)

named : (days : Reckoning) (time : ℕ) (trail : List Entry) (at : ℕ) (by : Actor) (d : Deed) → is_next days time trail (record { at = at; by = by; deed = d }) ≡ true → needed_by d ≤ 32
named days time trail at by (deeds.Submitted ack_due answers context expires feedback_due form mark readers receipt received version) h = no (fourth (nat_le time at) (right_actor d by) (right_values days trail at d) false h)
  where
    d : Deed
    d = deeds.Submitted ack_due answers context expires feedback_due form mark readers receipt received version

    no : {X : Type 0} → false ≡ true → X
    no e = absurd (grind (arith, e))
named days time trail at by (deeds.Transferred context readers) h = few readers (third (nat_le time at) (right_actor (deeds.Transferred context readers) by) (are_readers readers) (is_free trail (user_by by) (done trail (deeds.Transferred context readers))) h)
named days time trail at by (deeds.Shared user) h = omega arith
named days time trail at by deeds.Identity h = omega arith
named days time trail at by d h = omega arith

pub names-few : (days : Reckoning) (time : ℕ) (trail : List Entry) (e : Entry) → is_next days time trail e ≡ true → needed_by e.deed ≤ 32
names-few days time trail e h = named days time trail e.at e.by e.deed h
