use Rattle.tmw_search.proofs.Shared.{arith, effects, ◌∙◌}
use Rattle.tmw_search.proofs.AddMembers.{adds-first, adds-next}
use Rattle.tmw_search.proofs.Bits.{or-left, or-right}
use Rattle.tmw_search.proofs.AllCompletions.{EndsAtIndex, below-same, below-all, ends-read}
use Rattle.tmw_search.proofs.completion_ends.add_all.Goals.{then-index-eq0+else-not-add_from, else-index-eq0+else-differ}
use Rattle.tmw_search.proofs.completion_ends.add_all.Goals as goal

pub returns-then-starts-eq0-clause-adds : goal.returns-then-starts-eq0-clause-adds
returns-then-starts-eq0-clause-adds = grind (arith, below-all, adds-first)

pub loop-index-init : goal.loop-index-init
loop-index-init = grind (arith, adds-first)

pub reading_of-reading-requires-clause-node : goal.reading_of-reading-requires-clause-node
reading_of-reading-requires-clause-node c = c.requires.node _

pub read_from-requires-clause-node : goal.read_from-requires-clause-node
read_from-requires-clause-node c = c.requires.node _

pub returns-then-not-add_from-clause-adds : goal.returns-then-not-add_from-clause-adds
returns-then-not-add_from-clause-adds c =
    below-all (omega (arith, c.loop-index-test.true)) (λ never. absurd (cc))
    (adds-next (EndsAtIndex (effects c.args.items.now) c.args.starts.now c.args.root.now) c.loop-index.index c.loop-index.invariant.adds (ends-read c.needed_registers-needed.result c.read_from.new.reading c.requires.node c.requires.waits c.requires.reads
    c.needed_registers-needed.ensures c.read_from.ensures.agree c.read_from.ensures.follows (rw c.if-not-add_from.true at c.add_from.ensures.adds)))

pub loop-index-preserved : goal.loop-index-preserved
loop-index-preserved c =
    elim c.if-index-eq0.branch [
      | then-index-eq0+else-not-add_from w ↦ rw (w.found-is, w.reading-is) (record {
        adds = adds-next (EndsAtIndex (effects c.args.items.now) c.args.starts.now c.args.root.now) c.loop-index.index c.loop-index.invariant.adds (ends-read c.needed_registers-needed.result w.read_from.new.reading c.requires.node c.requires.waits
            c.requires.reads c.needed_registers-needed.ensures w.read_from.ensures.agree w.read_from.ensures.follows
            (rw w.if-not-add_from.false at w.add_from.ensures.adds));
        cap = w.add_from.ensures.cap ∙ c.loop-index.invariant.cap;
        follows = w.read_from.ensures.follows;
      })
      | else-index-eq0+else-differ w ↦ rw (w.found-is, w.reading-is) (record {
        adds = below-same (effects c.args.items.now) c.args.starts.now c.args.root.now c.loop-index.index _ _ _
            (omega (arith, w.if-index-eq0.false)) c.requires.node c.requires.waits c.requires.reads
            (λ j r few less is. or-left _ _ r (c.needed_registers-needed.ensures j r few less is))
            (λ r few out. c.unwritten.ensures r few (λ has. out (or-right _ _ r has)))
            (w.differ.ensures.0 w.if-differ.false) c.loop-index.invariant.adds;
        cap = c.loop-index.invariant.cap;
        follows = c.loop-index.invariant.follows;
      })
    ]

pub returns-clause-adds : goal.returns-clause-adds
returns-clause-adds = grind (arith, below-all)
