use Rattle.tmw_kept.proofs.Shared.{refl}
use Rattle.tmw_kept.proofs.piece.call_of.Goals.{in-Some, in-None}
use Rattle.tmw_kept.proofs.piece.call_of.Goals as goal

pub returns : goal.returns
returns c =
    elim c.match-first_of.branch [
      | in-Some w ↦ let at = w.in-Some.ensures.place in rw (c.get.ensures.value, w.upto-is, ← at, c.next_of.ensures) refl
      | in-None w ↦ let at = w.in-None.ensures.place in rw (c.get.ensures.value, w.upto-is, ← at, c.next_of.ensures) refl
    ]
