-- The event leads to the next phase of its thread, or is refused, by what the phase shows of the pending call.
use Rattle.tmw_wellformed.proofs.Shared.{Between, Err, Ok, next_phase, refl, slice_index_or, sym, ◌∙◌, ◌≡◌}
use Rattle.std.proofs.lemmas.Result.{err_from_is_err_and}
use Rattle.tmw_wellformed.proofs.TrackerSteps.{tracks-push, notes-push, refuses_lacking, refuses_next}
use Rattle.tmw_wellformed.proofs.tracker.Tracker.step.Goals as goal

pub returns-clause-takes : goal.returns-clause-takes
returns-clause-takes c registers history tracks =
    let next = c.in_ok-next.next in
    let is : next_phase (slice_index_or c.args.self.now.phases.by_thread c.args.event.thread.number Between) c.args.event.kind ≡ Ok next
    = rw (← c.get-phase.ensures) (sym c.in_ok-next.ensures)
    in
    tracks-push registers history c.args.event c.args.self.now _ next tracks
    (sym c.lacks_register.ensures ∙ c.if-lacks_register.false) is refl c.set.ensures

pub returns-clause-notes : goal.returns-clause-notes
returns-clause-notes c registers history tracks =
    notes-push registers history c.args.event c.args.self.now _ tracks (rw (c.is_live.ensures, c.get-phase.ensures) refl) c.end_of.ensures

pub returns-then-lacks_register-clause-refuses : goal.returns-then-lacks_register-clause-refuses
returns-then-lacks_register-clause-refuses c registers history tracks =
    refuses_lacking registers history c.args.event c.args.self.now tracks (sym c.lacks_register.ensures ∙ c.if-lacks_register.true)

pub returns-in_err-next-clause-refuses : goal.returns-in_err-next-clause-refuses
returns-in_err-next-clause-refuses c =
    let fault = c.in_err-next.field-0.0 in
    let is : next_phase (slice_index_or c.args.self.now.phases.by_thread c.args.event.thread.number Between) c.args.event.kind ≡ Err fault
    = rw (← c.get-phase.ensures) (sym c.in_err-next.ensures)
    in
    let p = err_from_is_err_and c.from_residual.result c.from_residual.ensures.1 in
    rw (p.1, p.2) (λ registers history tracks. refuses_next registers history c.args.event c.args.self.now fault tracks
    (sym c.lacks_register.ensures ∙ c.if-lacks_register.false) is)
