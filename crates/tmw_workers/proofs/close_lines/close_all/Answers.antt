use Rattle.tmw_workers.proofs.Shared.{IsClosed, Line, List, Option, Refused, Worker, WriterIs, [], ap, append-nil, append_assoc, arith, get_or, get_or_default, into_iter_items, length, length-map, length-set, length_push, map, map_push, nil_from_length, shorter, subst, sym, ℕ, ◌++◌, ◌+◌, ◌<◌, ◌∙◌, ◌∷◌, ◌≡◌, ◌≤◌}
use Rattle.tmw_workers.proofs.Starts.{Back, closed-next, rest-next, behind, worker_at}
use Rattle.tmw_workers.proofs.close_lines.close_all.Goals as goal

pub close_one-writer-requires-clause-up : goal.close_one-writer-requires-clause-up
close_one-writer-requires-clause-up c =
    let at = c.loop-worker in
    let backs = ap (λ (l : List Back). at.yielded ++ l) (sym c.in-Some.ensures.steps.0) ∙ at.invariant.2 in
    (behind c.args.back.items at.yielded _ (c.in-Some.worker, c.in-Some.stop) _ _ at.place c.index_mut.result.now backs at.invariant.4
    at.invariant.6 c.requires.pairs c.index_mut.ensures.value).up

pub close_one-writer-requires-clause-down : goal.close_one-writer-requires-clause-down
close_one-writer-requires-clause-down c =
    let at = c.loop-worker in
    let backs = ap (λ (l : List Back). at.yielded ++ l) (sym c.in-Some.ensures.steps.0) ∙ at.invariant.2 in
    (behind c.args.back.items at.yielded _ (c.in-Some.worker, c.in-Some.stop) _ _ at.place c.index_mut.result.now backs at.invariant.4
    at.invariant.6 c.requires.pairs c.index_mut.ensures.value).down

pub loop-worker-preserved : goal.loop-worker-preserved
loop-worker-preserved c =
    let at = c.loop-worker in
    let steps = c.in-Some.ensures.steps in
    let rest = into_iter_items c.next.new.self in
    let item : Back = (c.in-Some.worker, c.in-Some.stop) in
    let backs : at.yielded ++ item ∷ rest ≡ c.args.back.items =
    ap (λ (l : List Back). at.yielded ++ l) (sym steps.0) ∙ at.invariant.2 in
    let all = map (λ (one : Back). one.0) c.args.back.items in
    let long : length (at.yielded ++ item ∷ []) ≡ length at.yielded + 1 = length_push at.yielded item in
    let place : at.place ≡ length at.yielded = at.invariant.4 in
    let low : at.place < length at.lines.items =
    (let a = shorter at.yielded item rest in
    let b = ap (λ (l : List Back). length l) backs in
    let n = at.invariant.5 in
    let m = c.requires.count in
    omega (arith, a, b, n, m, place)) in
    let is : (fallback : Worker) → get_or all at.place fallback ≡ item.0 =
    λ fallback. ap (λ (n : ℕ). get_or all n fallback) place ∙ worker_at c.args.back.items at.yielded rest item backs fallback in
    let untouched : (n : ℕ) (b : Line) → at.place ≤ n → get_or at.lines.items n b ≡ get_or c.args.lines.items n b
    = λ n b from. at.invariant.6 n b (omega (arith, from, place)) in (
      c.in_ok-push.ensures.items ∙ ap (λ (l : List WriterIs). l ++ c.close_one-writer.result ∷ []) at.invariant.0
          ∙ ap (λ (w : WriterIs). map (λ (one : Back). one.0.writer) at.yielded ++ w ∷ []) c.close_one-writer.ensures.writer
          ∙ sym (map_push (λ (one : Back). one.0.writer) at.yielded item),
      c.in_ok-push-2.ensures.items ∙ ap (λ (l : List (Option Refused)). l ++ item.1 ∷ []) at.invariant.1
          ∙ sym (map_push (λ (one : Back). one.1) at.yielded item),
      append_assoc at.yielded (item ∷ []) rest ∙ backs,
      (let was = at.invariant.3 in
          let gone = steps.1 in
          let short = ap (λ (l : List Back). length l) steps.0 in
          omega arith),
      omega (arith, long, place),
      length-set at.lines.items at.place c.close_one-writer.new.line ∙ at.invariant.5,
      λ n b from. rest-next all c.args.lines.items at.lines.items at.place item.0 c.close_one-writer.new.line low is untouched n b (omega (arith, from, long, place)),
      λ n a b below.
          closed-next all c.args.lines.items at.lines.items at.place item.0 c.close_one-writer.new.line low is untouched
          (λ m x y less. at.invariant.7 m x y (omega (arith, less, place))) (λ y. subst (IsClosed item.0) (c.index_mut.ensures.value ∙ get_or_default at.lines.items at.place c.index_mut.result.now y low)
          c.close_one-writer.ensures.closed) n a b (omega (arith, below, long, place)),
    )

pub returns-clause-closed : goal.returns-clause-closed
returns-clause-closed c =
    grind (arith, into_iter_items, length, append-nil, nil_from_length, length-map)
