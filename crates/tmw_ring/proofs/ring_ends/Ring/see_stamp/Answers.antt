use Rattle.tmw_ring.proofs.Shared.{RingIs, ap, stamp_word, sym, ◌∙◌}
use Rattle.tmw_ring.proofs.TableWords.{in_table}
use Rattle.tmw_ring.proofs.Takes.{may_look}
use Rattle.tmw_ring.proofs.Words.{stamp_word-within}
use Rattle.tmw_ring.proofs.ring_ends.Ring.see_stamp.Goals as goal

pub load-requires : goal.load-requires
load-requires c =
    let word = in_table stamp_word stamp_word-within c.self.inside.size _ _ c.args.self.now c.args.words.place c.args.words.stamp c.self.invariant c.self.view_is c.requires.word in
    (c.requires.table ∙ sym (ap (λ (ring : RingIs). ring.table) c.self.view_is), word.within, may_look _ _ _ _ _ _ word.told_at c.requires.waiting)
