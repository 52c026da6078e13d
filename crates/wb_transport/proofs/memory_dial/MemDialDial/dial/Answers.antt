use Rattle.std.proofs.Common.{◌≡◌, List, ℕ, Bool, true, false, [], ◌∷◌, Some, None, is_some, map, get_or, refl, ap, sym, subst, ◌∙◌, rules}
use Rattle.std.specs.Prelude.{if◌then◌else◌}
use Rattle.std.specs.Prelude.{bytes_eq}
use Rattle.wb_transport.specs.Lines.{Line}
use Rattle.wb_transport.specs.MemoryLinks.{LinkState, line_of}
use Rattle.wb_transport.specs.Dials.{Dialed, given, given_of}
use Rattle.wb_transport.specs.MemoryDials.{DialState, offered_of, dialed_of}
use Rattle.wb_transport.proofs.memory_dial.MemDialDial.dial.Goals as goal

by_test : (test : Bool) (line : Line) → is_some (if test then Some line else None) ≡ true → (if test then Some line else None) ≡ Some line
by_test true line some = refl
by_test false line some = absurd (cc)

-- where the first link is an endpoint's, it is the one that is given
first_is_given : (offers : List (List ℕ × LinkState)) (endpoint : List ℕ) (first : List ℕ × LinkState) → is_some (given_of endpoint (map offered_of offers)) ≡ true → first ≡ get_or offers 0 first → given_of endpoint (map offered_of offers) ≡ Some (line_of first.1)
first_is_given [] endpoint first some is = absurd (cc)
first_is_given (offer ∷ others) endpoint first some is = by_test (bytes_eq offer.0 endpoint) (line_of offer.1) some ∙ ap (λ (o : List ℕ × LinkState). Some (line_of o.1)) (sym is)

pub returns-clause-given : goal.returns-clause-given
returns-clause-given c = λ x is.
    let same : dialed_of c.args.self.now ≡ x = cc in
    let left : c.args.self.now.left ≡ c.self.inside.offers.items = ap (λ (s : DialState). s.left) (sym c.self.view_is) in
    let some : is_some (given c.args.endpoint.now (dialed_of c.args.self.now)) ≡ true = search rules in
    let here : is_some (given_of c.args.endpoint.now (map offered_of c.self.inside.offers.items)) ≡ true = subst (λ (offers : List (List ℕ × LinkState)). is_some (given_of c.args.endpoint.now (map offered_of offers)) ≡ true) left some in
    let gives = first_is_given c.self.inside.offers.items c.args.endpoint.now c.remove-link.result here c.remove-link.ensures.value in
    let given_here : given c.args.endpoint.now (dialed_of c.args.self.now) ≡ Some (line_of c.remove-link.result.1) = subst (λ (offers : List (List ℕ × LinkState)). given_of c.args.endpoint.now (map offered_of offers) ≡ Some (line_of c.remove-link.result.1)) (sym left) gives in (
      line_of c.remove-link.result.1,
      subst (λ (y : Dialed). given c.args.endpoint.now y ≡ Some (line_of c.remove-link.result.1)) same given_here,
      record { has_left = refl; has_got = refl; counts = refl },
    )
