-- Each item that was read is given, and where it stops for one, no line is read after its line.
use Rattle.tmw_lines.proofs.Shared.{arith, refl, subst, sym, ◌∙◌}
use Rattle.tmw_lines.proofs.GiveItems.{HasGiven-none, HasGiven-held, HasGiven-push, gives-held-up_to, gives-up_to, count-next, gives-end, gives-fault, reads_on}
use Rattle.tmw_lines.proofs.items.give_items.Goals as goal

pub lines-init : goal.lines-init
lines-init g c = (
  HasGiven-none (g.met.T.Taker.takes_none c.args.taker.now),
  refl,
  c.requires.counted,
)

pub returns-in_default-clause-gives : goal.returns-in_default-clause-gives
returns-in_default-clause-gives g c =
    gives-held-up_to c.lines.invariant.0 _ g.met.T.Taker.takes_more c.give_held.new.self c.give_held.new.taker c.in_default.ensures.stops

pub take-requires : goal.take-requires
take-requires g c =
    let held = HasGiven-held c.lines.invariant.0 g.met.T.Taker.takes_more c.give_held.new.self c.give_held.new.taker c.in-Ok.ensures.gives in
    let given = rw c.in-Ok-Some.field-0-is at c.in-Ok-Some.ensures.reads in
    let more = count-next held given c.requires.begun in grind arith

pub lines-preserved : goal.lines-preserved
lines-preserved g c =
    let held = HasGiven-held c.lines.invariant.0 g.met.T.Taker.takes_more c.give_held.new.self c.give_held.new.taker c.in-Ok.ensures.gives in
    let given = rw c.in-Ok-Some.field-0-is at c.in-Ok-Some.ensures.reads in (
      HasGiven-push held given g.met.T.Taker.takes_more c.take.new.self c.in-Ok-take.ensures.taken,
      c.in-Ok-Some.ensures.failures (reads_on held c.requires.begun) ∙ c.lines.invariant.1,
      subst (λ count. g.T.Taker.taking.counts c.take.new.self count) (sym (count-next held given c.requires.begun))
          (c.in-Ok-take.ensures.counted c.give_held.new.self.count c.in-Ok.ensures.counted),
    )

pub returns-in_default-take-clause-gives : goal.returns-in_default-take-clause-gives
returns-in_default-take-clause-gives g c =
    let held = HasGiven-held c.lines.invariant.0 g.met.T.Taker.takes_more c.give_held.new.self c.give_held.new.taker c.in-Ok.ensures.gives in
    let given = rw c.in-Ok-Some.field-0-is at c.in-Ok-Some.ensures.reads in
    gives-up_to held given c.take.new.self c.in_default-take.ensures.stops

pub returns-in-Ok-None-clause-gives : goal.returns-in-Ok-None-clause-gives
returns-in-Ok-None-clause-gives g c =
    let held = HasGiven-held c.lines.invariant.0 g.met.T.Taker.takes_more c.give_held.new.self c.give_held.new.taker c.in-Ok.ensures.gives in
    gives-end held (rw c.in-Ok-None.field-0-is at c.in-Ok-None.ensures.reads)

pub returns-in-Err-clause-gives : goal.returns-in-Err-clause-gives
returns-in-Err-clause-gives g c =
    let held = HasGiven-held c.lines.invariant.0 g.met.T.Taker.takes_more c.give_held.new.self c.give_held.new.taker c.in-Ok.ensures.gives in
    gives-fault held c.in-Err.ensures.reads

pub returns-in-Err-clause-failures : goal.returns-in-Err-clause-failures
returns-in-Err-clause-failures g c =
    let held = HasGiven-held c.lines.invariant.0 g.met.T.Taker.takes_more c.give_held.new.self c.give_held.new.taker c.in-Ok.ensures.gives in
    let reading = reads_on held c.requires.begun in grind arith

pub returns-in-Ok-None-clause-failures : goal.returns-in-Ok-None-clause-failures
returns-in-Ok-None-clause-failures g c =
    let held = HasGiven-held c.lines.invariant.0 g.met.T.Taker.takes_more c.give_held.new.self c.give_held.new.taker c.in-Ok.ensures.gives in
    c.in-Ok-None.ensures.failures (reads_on held c.requires.begun) ∙ c.lines.invariant.1

pub returns-in_default-take-clause-failures : goal.returns-in_default-take-clause-failures
returns-in_default-take-clause-failures g c =
    let held = HasGiven-held c.lines.invariant.0 g.met.T.Taker.takes_more c.give_held.new.self c.give_held.new.taker c.in-Ok.ensures.gives in
    c.in-Ok-Some.ensures.failures (reads_on held c.requires.begun) ∙ c.lines.invariant.1
