use Rattle.tmw_ring.proofs.Shared.{RingIs, ap, sym, value_word, ◌∙◌}
use Rattle.tmw_ring.proofs.TableWords.{in_table}
use Rattle.tmw_ring.proofs.WriterStores.{fills}
use Rattle.tmw_ring.proofs.Words.{value_word-within}
use Rattle.tmw_ring.proofs.record.fill.Goals as goal

pub store-requires : goal.store-requires
store-requires g c =
    let word = in_table value_word value_word-within c.ring.inside.size _ _ c.args.ring.now c.args.words.place c.args.words.value c.ring.invariant c.ring.view_is c.requires.word in (
      c.requires.table ∙ sym (ap (λ (ring : RingIs). ring.table) c.ring.view_is),
      word.within,
      fills _ _ _ _ g.C.Choice.kind _ _ _ _ c.requires.writer word.told_at c.requires.value,
    )
