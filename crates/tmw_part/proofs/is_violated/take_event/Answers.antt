-- With the event there is one transaction more where it begins one, for which the window has room; or the events are ill-formed with it,
-- or have too many.
use Rattle.tmw_part.proofs.Shared.{Registers, ap, arith, inl, inr, length, subst, transactions, ◌∙◌, ◌≡◌}
use Rattle.tmw_cuts.specs.StandsFor.{Follows, IsNext, begun_by}
use Rattle.tmw_cuts.specs.declared.turn.Move.TheVariants.{Begin}
use Rattle.tmw_cuts.proofs.Follows.{follows-events}
use Rattle.tmw_cuts.proofs.OneEventMore.{grows}
use Rattle.tmw_part.proofs.is_violated.take_event.Goals.{else-begins-via-then-begins+else-count-ge-MOST_TRANSACTIONS, else-begins-via-else-begins}
use Rattle.tmw_part.proofs.is_violated.take_event.Goals as goal

pub returns-clause-takes : goal.returns-clause-takes
returns-clause-takes c is registers events taken =
    let next = c.in-Ok.ensures.ok in
    let few = taken.few in
    let more = grows events c.args.event c.args.window.now c.in-Ok.step taken.stands next in
    record {
      number = ap (λ (r : Registers). r.number) c.take.ensures.registers ∙ taken.number;
      stands = c.take.ensures.stands events taken.stands next;
      few = elim c.else-begins.branch [
        | else-begins-via-then-begins+else-count-ge-MOST_TRANSACTIONS w ↦
            let count : w.count.result ≡ length (transactions events) = w.count.ensures.stands events taken.stands in
            let room = w.if-count-ge-MOST_TRANSACTIONS.false in
            let one = ap begun_by (c.begins.ensures.begins w.if-begins.true) in
            omega (arith, more, count, room, one)
        | else-begins-via-else-begins w ↦
            let none = c.begins.ensures.others w.if-begins.false in
            omega (arith, more, few, none)
      ];
    }

pub returns-then-count-ge-MOST_TRANSACTIONS-clause-refuses : goal.returns-then-count-ge-MOST_TRANSACTIONS-clause-refuses
returns-then-count-ge-MOST_TRANSACTIONS-clause-refuses c is registers events taken =
    let next : IsNext c.args.window.now c.args.event Begin = rw (c.begins.ensures.begins c.if-begins.true) at c.in-Ok.ensures.ok in
    let more = grows events c.args.event c.args.window.now Begin taken.stands next in
    let count : c.count.result ≡ length (transactions events) = c.count.ensures.stands events taken.stands in
    let full = c.if-count-ge-MOST_TRANSACTIONS.true in
    inr (omega (arith, more, count, full))

pub returns-in_default-clause-refuses : goal.returns-in_default-clause-refuses
returns-in_default-clause-refuses c is registers events taken =
    inl (c.in_default.ensures.err registers events
    (subst (λ n. Follows n events c.args.window.now) taken.number (follows-events events c.args.window.now taken.stands))).ill_formed
