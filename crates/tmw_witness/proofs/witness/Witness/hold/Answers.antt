use Rattle.tmw_witness.proofs.Shared.{IsTrue, List, [], after_writes, ap, arith, get_or-set_same, inl, inr, reads_hold, rules, set-set, slice_get_within, slice_set, state_of, sym, ℕ, ◌+◌, ◌∙◌, ◌≡◌}
use Rattle.tmw_witness.proofs.WitnessChanges.{AreLong, end-kept}
use Rattle.tmw_witness.proofs.witness.Witness.hold.Goals as goal

pub returns-clause-held : goal.returns-clause-held
returns-clause-held c = rw (c.from-rank.ensures, c.get-at.ensures.value) (
    let w = c.args.self.now in
    let item = c.args.item.now in
    let long : AreLong w = search rules in
    λ _ starts xs ys x turns same may was.
    let room = rw c.from-rank.ensures at c.if-rank-ge8.false in
    let start : List ℕ = state_of w w.top in
    let copied : state_of (record w { states = slice_set w.states (w.top + 1) start }) (w.top + 1) ≡ start
    = get_or-set_same w.states (w.top + 1) start [] (omega (arith, long.states, room)) in
    let to : c.leave_in.new.state ≡ after_writes start item.ops.items
    = (rw c.from-rank.ensures at c.leave_in.ensures) ∙ ap (λ s. after_writes s item.ops.items) copied in
    let inside = slice_get_within xs c.args.place.number x turns.was in
    let reads : IsTrue w.known → IsTrue (reads_hold (state_of w w.top) item.ops.items)
    = λ known. elim (c.fits_end.ensures c.if-not-fits_end.false) [
      | inl last ↦ rw (same, ← last) (((was known).places.each c.args.place.number x turns.was inside).reads)
      | inr fits ↦ fits
    ] in
    rw (set-set w.states (w.top + 1) start c.leave_in.new.state) (end-kept starts xs ys x _ w c.args.place.number c.leave_in.new.state long c.args.place.below room turns
    (sym c.is_held.ensures ∙ c.if-is_held.false) may reads to was))
