use Rattle.tmw_ring.proofs.Shared.{RingIs, ap, sym, value_word, ◌∙◌}
use Rattle.tmw_ring.proofs.TableWords.{in_table}
use Rattle.tmw_ring.proofs.Takes.{may_read}
use Rattle.tmw_ring.proofs.Words.{value_word-within}
use Rattle.tmw_ring.proofs.ring_ends.Ring.read.Goals as goal

pub load-requires : goal.load-requires
load-requires c =
    let word = in_table value_word value_word-within c.self.inside.size _ _ c.args.self.now c.args.words.place c.args.words.value c.self.invariant c.self.view_is c.requires.word in
    (c.requires.table ∙ sym (ap (λ (ring : RingIs). ring.table) c.self.view_is), word.within, may_read _ _ _ _ _ _ word.told_at c.requires.ready)
