-- The state of its rank has the answer.
use Rattle.tmw_witness.proofs.Shared.{Answer, inl, left_out, live-next, moves, refl, view, views_of}
use Rattle.tmw_witness.proofs.WitnessChanges.{left_out-kept, live-left_out}
use Rattle.tmw_witness.proofs.OneEventMore.{no_commit, slot-shown, turns-next}
use Rattle.tmw_witness.proofs.witness.Witness.explains_answer.Goals as goal

pub returns-clause-stands : goal.returns-clause-stands
returns-clause-stands c is starts events stands next was known =
    let e = c.args.event in
    let p = c.args.place in
    let move = Answer p c.args.op in
    let x = view c.slot.result.now in
    let at = slot-shown events e c.args.window.now move p x stands next refl c.slot.ensures in
    let turns = turns-next events e c.args.window.now move p x stands next refl at in
    let (call, (kept, (makes, on))) = (moves e c.args.window.now move next).is in
    left_out-kept starts (views_of events) _ x _ c.args.self.now p.number turns
    (live-left_out starts (views_of events) x c.args.self.now p.number (was known) at (live-next events e c.args.window.now move p x stands next refl refl at))
    (inl (left_out e.kind (no_commit e.kind on))) (c.has_answer.ensures is) was known
