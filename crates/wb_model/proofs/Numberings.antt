-- The numbering of each past is one that draws may have left.
use Rattle.std.proofs.Common.{◌≡◌, ℕ, ◌≤◌, Bool, true, false, cond, sym, subst, arith}
use Rattle.std.proofs.lemmas.Bool.Decides.{nat_tests}
use Rattle.std.specs.Ordering.{int_eq}
use Rattle.wb_base.specs.Days.{day_of}
use Rattle.wb_model.specs.declared.numbering.Numbering.{Numbering}
use Rattle.wb_model.specs.declared.registry.TenantItem.{TenantItem}
use Rattle.wb_model.specs.Tables.{drawn_on}
use Rattle.wb_model.specs.Host as host
use Rattle.wb_model.specs.Past.{Past, Opening, Turn, at_of, registry, drew, numbering}
use Rattle.wb_model.specs.Opened.{is_numbering, Opened}
use Rattle.wb_model.proofs.TurnLaw.{numbering_step}
use Rattle.wb_model.proofs.HeldTables.{same_numbers}

few : (n : Numbering) → is_numbering n ≡ true → n.drawn ≤ n.last
few n is = grind (arith, nat_tests, is)

few_on : (b : Bool) (n : Numbering) → is_numbering n ≡ true → cond b n.drawn 0 ≤ n.last
few_on true n is = few n is
few_on false n is = omega arith

drawn_numbered : (time : ℕ) (settings : TenantItem) (n : Numbering) → is_numbering n ≡ true → is_numbering (host.drawn time settings n) ≡ true
drawn_numbered time settings n is =
    let le : drawn_on (day_of time settings.offset) settings n ≤ n.last = few_on (int_eq (day_of n.at settings.offset) (day_of time settings.offset)) n is in
    grind (arith, nat_tests, le)

stepped : (b : Bool) (time : ℕ) (settings : TenantItem) (n : Numbering) → is_numbering n ≡ true → is_numbering (cond b (host.drawn time settings n) n) ≡ true
stepped true time settings n is = drawn_numbered time settings n is
stepped false time settings n is = is

pub numbered : (past : Past Opened) → is_numbering (numbering past) ≡ true
numbered (Opening o) = subst (λ n. is_numbering n ≡ true) (same_numbers o) o.sound.numbering
numbered (Turn e past) = subst (λ n. is_numbering n ≡ true) (sym (numbering_step past (at_of past e).time (drew past e) (omega arith))) (stepped (drew past e) (at_of past e).time (registry past).settings (numbering past) (numbered past))
