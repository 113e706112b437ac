use Rattle.tmw_watch.proofs.Shared.{IsNewRecorder, List, Recorder, WriterIs, [], ap, append_assoc, arith, get_or, into_iter_items, length, length_push, subst, sym, ℕ, ◌++◌, ◌+◌, ◌<◌, ◌∙◌, ◌∷◌, ◌≡◌}
use Rattle.tmw_ring.specs.NewRing.{IsNewWriter}
use Rattle.tmw_ring.proofs.InOrder.{one_more, next_new}
use Rattle.tmw_watch.proofs.open.share.Goals as goal

pub loop-writer-preserved : goal.loop-writer-preserved
loop-writer-preserved c =
    let at = c.loop-writer in
    let ring = c.args.ring.now.value in
    let steps = c.in-Some.ensures.steps in
    let rest = into_iter_items c.next.new.self in
    let items = c.in_ok-push.ensures.items in
    let made = c.new-recorder.result in
    let writers : at.yielded ++ c.in-Some.writer ∷ rest ≡ c.args.writers.items =
    ap (λ (l : List WriterIs). at.yielded ++ l) (sym steps.0) ∙ at.invariant.1 in
    let new = next_new ring c.args.writers.items at.yielded rest c.in-Some.writer c.requires writers in
    let one : IsNewRecorder ring (length at.recorders.items) made = record {
      of_ring = ap (λ a. a.value) c.new-recorder.ensures.ring ∙ c.in_ok-try_clone.ensures;
      writer_new = subst (λ (w : WriterIs). IsNewWriter (length at.recorders.items) w) (sym c.new-recorder.ensures.writer)
          (subst (λ (n : ℕ). IsNewWriter n c.in-Some.writer) (sym {A = ℕ} at.invariant.0) new.1);
    } in (
      ap (λ (l : List Recorder). length l) items ∙ length_push at.recorders.items made
          ∙ ap (λ (n : ℕ). n + 1) at.invariant.0 ∙ sym {A = ℕ} (length_push at.yielded c.in-Some.writer),
      append_assoc at.yielded (c.in-Some.writer ∷ []) rest ∙ writers,
      let was = at.invariant.2 in
          let gone = steps.1 in
          let short = ap (λ (l : List WriterIs). length l) steps.0 in
          omega arith,
      subst (λ (l : List Recorder). (place : ℕ) (fallback : Recorder) → place < length l → IsNewRecorder ring place (get_or l place fallback))
          (sym {A = List Recorder} items) (one_more (IsNewRecorder ring) at.recorders.items made at.invariant.3 one),
      subst (λ (l : List Recorder). (place : ℕ) (fallback : Recorder) → place < length l → (get_or l place fallback).ring.value ≡ ring)
          (sym {A = List Recorder} items) (one_more (λ place recorder. recorder.ring.value ≡ ring) at.recorders.items made at.invariant.4 one.of_ring),
    )
