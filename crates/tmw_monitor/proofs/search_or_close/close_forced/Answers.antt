-- The known outcome is one of the set, which becomes that of the outcomes by each criterion.
use Rattle.tmw_monitor.proofs.Shared.{Contains, EndsOf, IfSome, Opacity, arith, ends-by, members, transactions, true, ◌≡◌}
use Rattle.tmw_monitor.proofs.CutEnds.{closes, known_by}
use Rattle.tmw_monitor.proofs.search_or_close.close_forced.Goals as goal

pub returns-clause-tells : goal.returns-clause-tells
returns-clause-tells c done criterion quiet events stands cut was =
    let old = c.args.kept.now in
    let replaced : c.replace_by_forced.result ≡ true = grind (arith, c.if-not-replace_by_forced.false) in
    let (end, is, replaces) = c.replace_by_forced.ensures.replaces replaced in
    let known : IfSome c.copied-known.result (EndsOf Opacity old.states events) =
    rw c.copied-known.ensures (known_by Opacity old.states old.witness c.known_end.result c.known_end.ensures.end events was) in
    let one = rw is at known in
    let found = replaces criterion events stands one in
    closes criterion old.states c.replace_by_forced.new.states c.args.cap quiet events _ cut
    (found.0, found.1, end, (found.1 end).1 (ends-by criterion (Contains (members old.states)) (transactions events) end one))
    c.begin_window.ensures.states (c.begin_window.ensures.stands events stands cut) c.begin_window.ensures.witness
