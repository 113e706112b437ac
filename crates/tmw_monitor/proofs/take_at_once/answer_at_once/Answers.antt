-- The order explains the answer.
use Rattle.tmw_monitor.proofs.Shared.{Answer, drop, refl}
use Rattle.tmw_monitor.proofs.AtOnce.{explained-fine}
use Rattle.tmw_monitor.proofs.take_at_once.answer_at_once.Goals as goal

pub returns-clause-taken : goal.returns-clause-taken
returns-clause-taken c took bounds rules history window states keeps =
    explained-fine rules history c.args.event c.args.kept.now _ keeps (Answer c.args.place c.args.op) refl (λ begins. absurd (cc))
    c.requires.next (c.answer.ensures.stands (drop keeps.cut history) keeps.stands c.requires.next) c.answer.ensures.registers
    (c.explains_answer.ensures.known c.if-not-explains_answer.false) (c.explains_answer.ensures.stands c.if-not-explains_answer.false) refl refl
