-- Nothing is wrong with no event, with the start state as its one outcome.
use Rattle.tmw_monitor.proofs.Shared.{Registers, [], ap, contains_here, members, refl, rules_for, so_far-fine}
use Rattle.tmw_monitor.proofs.Fresh.{sums_up-one}
use Rattle.tmw_monitor.proofs.OnlyOpen.{keeps_only_open}
use Rattle.tmw_monitor.proofs.monitor.Monitor.for_criterion.Goals as goal

pub returns-clause-fits : goal.returns-clause-fits
returns-clause-fits c =
    let rules = rules_for c.args.criterion c.args.registers c.args.start c.args.bounds in
    let sums = sums_up-one rules c.in_ok-states.states c.args.bounds.some_states c.in_ok-states.ensures.members in
    record {
      criterion = refl;
      window = refl;
      states = refl;
      counted = refl;
      judged = rw c.so_far.ensures (so_far-fine rules [] sums.judged);
      keeps = λ is. record { cut = 0; sums_up = sums; stands = c.open.ensures.stands; number = ap (λ (r : Registers). r.number) c.open.ensures.registers; witness = c.new.ensures.witnesses (members c.in_ok-states.states) (rw c.in_ok-states.ensures.members (contains_here c.args.start [])) };
      whole = λ is. refl;
      forgets = λ final. absurd (final c.so_far.ensures);
      breaks = λ final. absurd (final c.so_far.ensures);
    }

pub returns-clause-keeps : goal.returns-clause-keeps
returns-clause-keeps c = keeps_only_open (rules_for c.args.criterion c.args.registers c.args.start c.args.bounds) [] _ (returns-clause-fits c)
