use Rattle.tmw_bench.proofs.Shared.{IsFalse, IsTrue, Line, arith, get_or, get_or_default, length, rules, subst, ◌<◌, ◌≡◌}
use Rattle.tmw_bench.proofs.Leads.{all_end-next, gone_on-then, heard-next, some_stop-here, some_stop-later}
use Rattle.tmw_bench.proofs.hear_all.hear_all.Goals.{then-is_stopped, else-is_stopped}
use Rattle.tmw_bench.proofs.hear_all.hear_all.Goals as goal

pub loop-line-preserved : goal.loop-line-preserved
loop-line-preserved g c =
    let at = c.loop-line in
    let one = c.in_ok-ended.ensures in
    let item = get_or at.lines at.line-index c.line-item.result in
    let low : at.line-index < length at.lines = (let t = c.loop-line-test.true in let n = at.invariant.2.counted in omega (arith, t, n)) in
    let is : (fallback : Line) → get_or at.lines at.line-index fallback ≡ item = λ fallback. get_or_default at.lines at.line-index fallback c.line-item.result low in (
      one.reader,
      gone_on-then c.args.pump.now at.pump c.hear.new.pump at.invariant.1 one.goes_on,
      heard-next c.args.lines.now at.lines at.line-index item c.hear.new.line c.in_ok-ended.ended low is one.heard at.invariant.2,
      elim c.if-is_stopped.branch [
        | then-is_stopped w ↦ λ _.
            some_stop-here c.args.lines.now at.lines at.line-index item c.hear.new.line c.in_ok-ended.ended low is one.heard
            (c.is_stopped.ensures.stopped w.if-is_stopped.true)
        | else-is_stopped w ↦ λ told.
            some_stop-later c.args.lines.now at.lines at.line-index item c.hear.new.line c.in_ok-ended.ended low is one.heard
            (at.invariant.3 (subst IsTrue w.stopped-is told))
      ],
      elim c.if-is_stopped.branch [
        | then-is_stopped w ↦ λ untold. absurd (search rules)
        | else-is_stopped w ↦ λ untold.
            all_end-next c.args.lines.now at.lines at.line-index item c.hear.new.line c.in_ok-ended.ended low is one.heard
            (c.is_stopped.ensures.ended w.if-is_stopped.false) (at.invariant.4 (subst IsFalse w.stopped-is untold))
      ],
    )
