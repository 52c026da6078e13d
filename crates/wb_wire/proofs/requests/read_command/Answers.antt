-- The parts, one after another, are those of the definition.
use Rattle.std.proofs.Common.{◌≡◌, Some, None, Ok, option_map, sym, ap, ◌∙◌, subst}
use Rattle.wb_model.specs.RouteBodies.{Numbers, bare}
use Rattle.wb_model.specs.Heads.{path_of}
use Rattle.wb_model.specs.Readings.{located, sized, command}
use Rattle.wb_model.specs.Routes.{route}
use Rattle.wb_wire.specs.Places.{place_value}
use Rattle.wb_wire.specs.RequestParts.{asks_of, fields_in, GivesOrWants}
use Rattle.wb_wire.proofs.ReadingLemmas.{asks_on, body_not_health}
use Rattle.wb_wire.proofs.requests.read_command.Goals as goal

pub returns : goal.returns
returns c =
    let p = c.args.parts.now in
    let place = place_value c.in-Some.place in
    let asked = c.in-Some-route.route in
    let said : sized (fields_in p) p.rest.now ≡ Ok c.in_ok-said.said = sym c.sized.ensures ∙ c.in_ok-said.was in
    let found : located (path_of p.target.now) ≡ Some place = ap located (sym c.path_of.ensures) ∙ (sym c.find_place.ensures ∙ ap (option_map place_value) c.in-Some.is) in
    let routes : route p.method.now place.methods ≡ Some asked = sym c.route.ensures ∙ c.in-Some-route.is in
    let asks : asks_of p ≡ command place.at p.rest.now c.in_ok-said.said asked = asks_on p.method.now (path_of p.target.now) (fields_in p) p.rest.now c.in_ok-said.said place asked said found routes in
    let given : GivesOrWants (command place.at p.rest.now c.in_ok-said.said asked) c.route_command.result = subst (λ (at : Numbers). GivesOrWants (command at p.rest.now c.in_ok-said.said asked) c.route_command.result) c.numbers.ensures c.route_command.ensures.asked in
    record {
      asked = subst (λ wanted. GivesOrWants wanted c.route_command.result) (sym asks) given;
      health = λ memory command is.
          let none : bare asked place.at ≡ None = subst (λ (at : Numbers). bare asked at ≡ None) c.numbers.ensures (c.route_command.ensures.memory memory) in
          body_not_health c.good_forms_are_those_that_are_read.ensures.good c.answers_that_are_read_stand_in_order.ensures.member (path_of p.target.now) p.rest.now c.in_ok-said.said place asked command found none (sym asks ∙ is);
    }
