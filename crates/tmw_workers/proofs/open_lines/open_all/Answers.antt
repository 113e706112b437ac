use Rattle.tmw_workers.proofs.Shared.{IsOpened, Line, List, Worker, WriterIs, [], ap, append-nil, append_assoc, arith, get_or, into_iter_items, length, length_push, nil_from_length, subst, sym, ◌++◌, ◌+◌, ◌∙◌, ◌∷◌, ◌≡◌}
use Rattle.tmw_workers.proofs.Returns.{at_seam}
use Rattle.tmw_workers.proofs.Starts.{opened-next}
use Rattle.tmw_workers.proofs.open_lines.open_all.Goals as goal

pub loop-writer-preserved : goal.loop-writer-preserved
loop-writer-preserved c =
    let at = c.loop-writer in
    let steps = c.in-Some.ensures.steps in
    let rest = into_iter_items c.next.new.self in
    let all = c.args.writers.items in
    let writer = c.in-Some.writer in
    let worker = c.in_ok-worker.worker in
    let line = c.in_ok-worker.line in
    let writers : at.yielded ++ writer ∷ rest ≡ all = ap (λ (l : List WriterIs). at.yielded ++ l) (sym steps.0) ∙ at.invariant.2 in
    let one = c.in_ok-push.ensures.items in
    let two = c.in_ok-push-2.ensures.items in
    let long : length (at.yielded ++ writer ∷ []) ≡ length at.yielded + 1 = length_push at.yielded writer in
    let more_workers : length c.push.new.self.items ≡ length at.workers.items + 1 = ap (λ (l : List Worker). length l) one ∙ length_push at.workers.items worker in
    let more_lines : length c.push-in-loop-writer.new.self.items ≡ length at.lines.items + 1 = ap (λ (l : List Line). length l) two ∙ length_push at.lines.items line in
    let a = at.invariant.0 in
    let b = at.invariant.1 in (
      omega (arith, long, more_workers, a),
      omega (arith, long, more_lines, b),
      append_assoc at.yielded (writer ∷ []) rest ∙ writers,
      (let was = at.invariant.3 in
          let gone = steps.1 in
          let short = ap (λ (l : List WriterIs). length l) steps.0 in
          omega arith),
      λ place x y z low.
          subst (λ (l : List Worker). IsOpened (get_or all place x) (get_or l place y) (get_or c.push-in-loop-writer.new.self.items place z)) (sym one)
          (subst (λ (l : List Line). IsOpened (get_or all place x) (get_or (at.workers.items ++ worker ∷ []) place y) (get_or l place z)) (sym two)
          (opened-next all at.workers.items at.lines.items (length at.yielded) writer worker line a b
          (λ fallback. at_seam all at.yielded rest writer writers fallback) c.in_ok-worker.ensures at.invariant.4 place x y z
          (omega (arith, low, long)))),
    )

pub returns : goal.returns
returns c =
    let at = c.loop-writer in
    let items = into_iter_items at.writer-iterator in
    let none : length items ≡ 0 = (let was = at.invariant.3 in let gone = c.in-None.ensures.steps.0 in omega (arith, was, gone)) in
    let all : at.yielded ≡ c.args.writers.items =
    sym (append-nil at.yielded) ∙ ap (λ (l : List WriterIs). at.yielded ++ l) (sym (nil_from_length items none)) ∙ at.invariant.2 in
    let long : length at.yielded ≡ length c.args.writers.items = ap (λ (l : List WriterIs). length l) all in
    record {
      worker_count = at.invariant.0 ∙ long;
      line_count = at.invariant.1 ∙ long;
      each = λ place x y z low. at.invariant.4 place x y z (omega (arith, low, long));
    }
