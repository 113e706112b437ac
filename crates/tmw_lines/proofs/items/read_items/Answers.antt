-- A list was given the items, and stops for want of memory.
use Rattle.tmw_lines.proofs.VecTaker.{reads-given}
use Rattle.tmw_lines.proofs.items.read_items.Goals as goal

pub returns-in-Ok-End-clause-reads : goal.returns-in-Ok-End-clause-reads
returns-in-Ok-End-clause-reads g c =
    reads-given g.F.LineFormat.grammar (g.S.Source.from.ended c.give_items.new.source) _ (λ list. list.items)
    (λ x items y t. t.0) (λ x item y l. l.0) c.args.lines.now c.give_items.new.lines c.args.items.now c.give_items.new.taker
    g.S.Source.from c.args.source.now c.give_items.new.source _ (rw c.in-Ok-End.field-0-is at c.in-Ok-End.ensures.gives)

-- no fault of a line is want of memory
pub returns-in-Err-clause-full : goal.returns-in-Err-clause-full
returns-in-Err-clause-full g c is =
    let begun = c.requires in
    let read = c.in-Err.ensures.gives.given.0 begun.header begun.items begun.bytes begun.read in absurd (rw is at read.fails.line)
