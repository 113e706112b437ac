use Rattle.tmw_cuts.proofs.Shared.{ap, arith, between, get_or, get_or_default, kept_in, length, rules, slice_set, ◌∙◌, ◌≡◌}
use Rattle.tmw_cuts.proofs.turn.go_on.Goals as goal

pub returns : goal.returns
returns c place call kept =
    let turns = c.args.turns.now in
    let long : length turns ≡ 8 = search rules in
    let turn = c.index-turns-get.result in
    let was : get_or turns c.get.result turn ≡ get_or turns c.args.thread.number between
    = ap (λ n. get_or turns n turn) c.get.ensures.value ∙ get_or_default turns c.args.thread.number turn between (omega (arith, long)) in
    (c.go_on.new.self, ap (λ n. slice_set turns n c.go_on.new.self) c.get.ensures.value, c.go_on.ensures place call (ap kept_in was ∙ kept))
