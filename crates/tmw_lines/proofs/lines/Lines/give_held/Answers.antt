-- The lines that were given are let go of.
use Rattle.tmw_lines.proofs.Shared.{refl}
use Rattle.tmw_lines.proofs.GiveHeld.{gives-held, gives-up_to}
use Rattle.tmw_lines.proofs.lines.Lines.give_held.Goals as goal

pub returns-then-run-clause-stops : goal.returns-then-run-clause-stops
returns-then-run-clause-stops g c =
    let run = rw (c.bytes.ensures.value, c.if-run.true) at c.give_lines-run.ensures in
    gives-up_to g.F.LineFormat.grammar c.args.self.now _ refl refl c.give_lines-run.result.length c.consume.ensures g.T.Taker.taking
    c.args.taker.now c.give_lines-run.new.taker run

pub returns-else-run-clause-gives : goal.returns-else-run-clause-gives
returns-else-run-clause-gives g c =
    let run = rw (c.bytes.ensures.value, c.if-run.false) at c.give_lines-run.ensures in
    gives-held g.F.LineFormat.grammar c.args.self.now _ refl refl c.give_lines-run.result.length c.consume.ensures g.T.Taker.taking
    c.args.taker.now c.give_lines-run.new.taker run
