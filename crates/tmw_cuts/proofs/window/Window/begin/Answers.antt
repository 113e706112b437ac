-- The event begins a transaction at the first free place.
use Rattle.tmw_cuts.proofs.Shared.{Begin, None, Some, [], ap, arith, length, length-map, length-take-le, map, map-append, numbered, option_map, refl, rules, slice_set, sym, take, take_more_set, txns_of, view, views, ◌++◌, ◌+◌, ◌<◌, ◌∙◌, ◌∷◌, ◌≡◌}
use Rattle.tmw_cuts.proofs.Moves.{asked_on}
use Rattle.tmw_cuts.proofs.OneEventMore.{moves, stands-with}
use Rattle.tmw_cuts.proofs.window.Window.begin.Goals as goal

pub returns-clause-stands : goal.returns-clause-stands
returns-clause-stands c events stands next =
    let e = c.args.event in
    let old = c.args.self.now in
    let len : length (txns_of old) ≡ old.count = length-take-le old.count old.slots (omega (arith, old.eight, old.few)) in
    let room = c.requires.room in
    let low : old.count < 8 = omega (arith, room, len, length-map (txns_of old) view) in
    let (none, asks_it) = (moves e old Begin next).is in
    let on = asked_on e.kind asks_it in
    let (turn, one_turn, at) = c.ask.ensures asks_it in
    stands-with events e old _ turn Begin None stands next none (search rules) (omega (arith, len, low)) refl one_turn
    (rw on (ap (option_map numbered) at ∙ ap (λ n. Some (n, Some e.kind)) (sym len)))
    (ap (λ n. map view (take (old.count + 1) (slice_set old.slots n c.begin.new.self))) c.get.ensures.value
    ∙ ap (map view) (take_more_set old.slots old.count c.begin.new.self (omega (arith, old.eight, low)))
    ∙ map-append view (txns_of old) (c.begin.new.self ∷ []) ∙ ap (λ v. views old ++ v ∷ []) c.begin.ensures)
    (rw on refl)
