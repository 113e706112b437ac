use Rattle.tmw_c.proofs.Shared.{AreHandlesOf, List, Recorder, RecorderHandle, Some, [], ap, append_assoc, arith, into_iter_items, length, length_push, refl, subst, sym, ◌++◌, ◌∙◌, ◌∷◌}
use Rattle.tmw_c.proofs.Places.{both_more}
use Rattle.tmw_c.specs.Open.{Holds}
use Rattle.tmw_c.proofs.open.handles_of.Goals as goal

pub loop-recorder-preserved : goal.loop-recorder-preserved
loop-recorder-preserved c =
    let at = c.loop-recorder in
    let steps = c.in-Some.ensures.steps in
    let recorder = c.in-Some.recorder in
    let handle = c.of.result in
    let before = at.invariant.0 in
    let short = ap (λ (l : List Recorder). length l) steps.0 in
    let one : Holds c.args.registers recorder handle.slot.held =
    subst (Holds c.args.registers recorder) (sym (c.of.ensures ∙ ap Some c.in-Ok-new.ensures.ok)) (refl, refl) in
    let more : AreHandlesOf c.args.registers (at.yielded ++ recorder ∷ []) (at.handles.items ++ handle ∷ []) = record {
      counted = cc (length_push at.handles.items handle, length_push at.yielded recorder, before.counted);
      each = both_more (λ (r : Recorder) (h : RecorderHandle). Holds c.args.registers r h.slot.held) _ _ recorder handle before.counted before.each one;
    } in (
      rw c.push_reserved.ensures.items more,
      cc (append_assoc at.yielded (recorder ∷ []) (into_iter_items c.next.new.self), steps.0, at.invariant.1),
      omega (arith, at.invariant.2, steps.1, short),
      omega (arith, at.invariant.3, at.invariant.2, steps.1, short, c.push_reserved.ensures.len, c.push_reserved.ensures.capacity),
    )
