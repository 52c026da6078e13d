use Rattle.std.proofs.Common.{◌≡◌, ◌+◌, ◌++◌, ◌<◌, ◌≤◌, List, length, take, drop, map, refl, sym, ap, ◌∙◌, subst, arith}
use Rattle.std.proofs.Math.Seq.{take-append_seam}
use Rattle.wb_model.specs.Requests.{Frame}
use Rattle.wb_tables.specs.declared.turn_context.TurnContext.{TurnContext as KeptAt}
use Rattle.wb_tables.specs.Kept.{place_of}
use Rattle.wb_tables.specs.Places.{ArePlaces}
use Rattle.wb_tables.specs.Standing.{Standing}
use Rattle.wb_tables.specs.declared.tenancy.Tenancy.{Tenancy as KeptTenancy}
use Rattle.wb_desk.specs.Desks.{IsDesk}
use Rattle.wb_desk.specs.Turns.{IsFrameAt, IsTurnAt}
use Rattle.wb_desk.proofs.PastTurns.{desk_goes_on}
use Rattle.wb_desk.proofs.StandingPlaces.{places_hold}
use Rattle.wb_desk.proofs.desk.Desk.turned.Goals as goal

pub turn-requires-clause-places : goal.turn-requires-clause-places
turn-requires-clause-places g c = (
  c.self.inside.turns,
  omega arith,
  subst (λ (ks : List KeptTenancy). ArePlaces c.self.inside.turns 0 c.self.inside.sealed.items (map place_of ks)) (sym c.deref_mut.ensures.value)
      (places_hold (record { turns = c.self.inside.turns; time = c.self.inside.time; tenants = map place_of c.self.inside.tenancies.items; sealed = c.self.inside.sealed.items }) c.self.invariant.past c.self.invariant.time c.self.invariant.set_up),
)

pub invariant_of-self : goal.invariant_of-self
invariant_of-self g c =
    let d : Standing = record { turns = c.self.inside.turns; time = c.self.inside.time; tenants = map place_of c.self.inside.tenancies.items; sealed = c.self.inside.sealed.items } in
    let f : Frame = record { moment = c.args.moment; words = c.args.words.now; asked = c.args.asked.now } in
    let at : KeptAt = record { time = c.later-self-inside.result; turn = c.self.inside.turns + 1; words = c.args.words.now } in
    let later = c.later-self-inside.ensures in
    let frame : IsFrameAt d.turns d.time f at c.args.asked.now = record { time = sym later.later; most = subst (λ t. t ≤ 99_999_999_999) later.later later.most; turn = refl; words = refl; asked_of = refl } in
    let turn = subst (λ (ks : List KeptTenancy). IsTurnAt (map place_of ks) d.sealed at c.args.asked.now c.turn.result (map place_of c.turn.new.tenancies) c.turn.new.sealed.items) c.deref_mut.ensures.value c.turn.ensures.turn in
    let same = ap (λ (x : Standing). x.turns) c.self.view_is in
    let below : d.turns < 1_000_000_000_000_000 = omega (arith, same, c.requires.below) in
    let law = c.hosts_stand_for_their_past.ensures in
    let next = desk_goes_on law.turn law.loss c.verdicts_keep_trails_legal.ensures.scripts c.hosts_hold_what_is_read_back.ensures.scripts c.hosts_hold_what_is_read_back.ensures.openings d f at c.args.asked.now c.turn.result (map place_of c.turn.new.tenancies) c.turn.new.sealed.items c.self.invariant below c.requires.fits frame turn in
    let rest = drop (length c.turn.new.tenancies) c.self.inside.tenancies.items in
    let kept : c.self.inside.tenancies.len ≡ length c.turn.new.tenancies = cc c.turn.auto.tenancies in
    let written = ap (λ n. take n (c.turn.new.tenancies ++ rest)) kept ∙ take-append_seam c.turn.new.tenancies rest in
    subst (λ (ks : List KeptTenancy). IsDesk (record { turns = d.turns + 1; time = at.time; tenants = map place_of ks; sealed = c.turn.new.sealed.items })) (sym written) next
