use Rattle.tmw_ring.proofs.Shared.{RingIs, ap, stamp_word, sym, ◌∙◌}
use Rattle.tmw_ring.proofs.TableWords.{in_table}
use Rattle.tmw_ring.proofs.WriterStores.{publishes}
use Rattle.tmw_ring.proofs.Words.{stamp_word-within}
use Rattle.tmw_ring.proofs.record.publish.Goals as goal

pub store-requires : goal.store-requires
store-requires g c =
    let word = in_table stamp_word stamp_word-within c.ring.inside.size _ _ c.args.ring.now c.args.words.place c.args.words.stamp c.ring.invariant c.ring.view_is c.requires.word in (
      c.requires.table ∙ sym (ap (λ (ring : RingIs). ring.table) c.ring.view_is),
      word.within,
      publishes _ _ _ _ g.C.Choice.kind _ _ _ _ _ c.requires.writer c.requires.header word.told_at c.join.ensures,
    )
