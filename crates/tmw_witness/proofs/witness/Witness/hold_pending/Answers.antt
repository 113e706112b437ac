use Rattle.tmw_witness.proofs.Shared.{End, cases_Bool, false, inl, inr, is_over, refl, view, views_of, ◌≡◌}
use Rattle.tmw_witness.proofs.OneEventMore.{slot-shown, turns-still}
use Rattle.tmw_witness.proofs.witness.Witness.hold_pending.Goals as goal

pub returns-in-Pending-clause-stands : goal.returns-in-Pending-clause-stands
returns-in-Pending-clause-stands c = λ starts events stands next was.
    elim (cases_Bool c.hold-held.result) [
      | inr none ↦ rw (c.hold-held.ensures.left none) was
      | inl held ↦
          let item = c.slot-item.result.now in
          let p = c.args.place in
          let at = slot-shown events c.args.event c.args.window.now (End p) p (view item) stands next refl c.slot-item.ensures in
          let lives : is_over item.status ≡ false = rw c.in-Pending.is refl in
          c.hold-held.ensures.held held starts (views_of events) (views_of events) (view item)
          (turns-still events p.number (view item) at lives) refl (rw c.in-Pending.is refl) was
    ]
