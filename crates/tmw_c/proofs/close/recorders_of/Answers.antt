use Rattle.tmw_c.proofs.Shared.{AreHeld, HeldRecorder, IsHeld, List, Recorder, RecorderHandle, [], ap, append_assoc, arith, into_iter_items, length, length_push, sym, ◌++◌, ◌∷◌}
use Rattle.tmw_c.proofs.Places.{both_more}
use Rattle.tmw_c.proofs.close.recorders_of.Goals as goal

pub loop-handle-preserved : goal.loop-handle-preserved
loop-handle-preserved c =
    let at = c.loop-handle in
    let steps = c.in-Some.ensures.steps in
    let handle = c.in-Some.handle in
    let recorder = c.into_inner-recorder.result.recorder in
    let before = at.invariant.0 in
    let short = ap (λ (l : List RecorderHandle). length l) steps.0 in
    let one : IsHeld recorder handle.slot.held = rw c.into_held.ensures (ap (λ (held : HeldRecorder). held.recorder) (sym c.into_inner-recorder.ensures)) in
    let more : AreHeld (at.recorders.items ++ recorder ∷ []) (at.yielded ++ handle ∷ []) = record {
      counted = cc (length_push at.yielded handle, length_push at.recorders.items recorder, before.counted);
      each = both_more (λ (r : Recorder) (h : RecorderHandle). IsHeld r h.slot.held) _ _ recorder handle before.counted before.each one;
    } in (
      rw c.push_reserved.ensures.items more,
      cc (append_assoc at.yielded (handle ∷ []) (into_iter_items c.next.new.self), steps.0, at.invariant.1),
      omega (arith, at.invariant.2, steps.1, short),
      omega (arith, at.invariant.3, at.invariant.2, steps.1, short, c.push_reserved.ensures.len, c.push_reserved.ensures.capacity),
    )
