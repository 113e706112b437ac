use Rattle.tmw_part.proofs.Shared.{is_answered, list_all, not, operations, ◌≡◌}
use Rattle.tmw_part.proofs.is_left_of.answers_none.Given as goal

abbrev pub invariant-loop-op : goal.invariant-loop-op
invariant-loop-op l =
    list_all (λ op. not (is_answered l.register.number l.value op)) (operations l.op-iterator.0.now)
    ≡ list_all (λ op. not (is_answered l.register.number l.value op)) (operations l.text)
