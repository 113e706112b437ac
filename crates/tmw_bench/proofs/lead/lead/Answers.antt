use Rattle.tmw_bench.proofs.Shared.{HasLedTo, IsVerdict, arith, length, subst, sym, ℕ, ◌+◌, ◌∙◌, ◌∷◌, ◌≡◌}
use Rattle.tmw_bench.proofs.Leads.{gone_on-none, gone_on-then, led-heard, led-on, led-told, led-new}
use Rattle.tmw_bench.proofs.lead.lead.Goals as goal

pub loop-round-init : goal.loop-round-init
loop-round-init g c = grind (arith, led-new, gone_on-none)

pub returns-then-stopped-clause-led : goal.returns-then-stopped-clause-led
returns-then-stopped-clause-led g c = λ rules fits.
    let at = c.loop-round in
    let was = at.invariant.2 rules fits in
    let one = c.in_ok-tail.ensures in record {
      bounds = was.0;
      counted = was.1;
      led = subst (λ (n : ℕ). HasLedTo rules n was.0 c.hear_all.new.pump.front c.args.lines.now c.hear_all.new.lines) (sym was.1)
          (led-heard rules was.0 c.args.lines.now at.lines c.hear_all.new.lines at.pump.front c.hear_all.new.pump.front one.goes_on.count
          was.2 one.heard one.goes_on.judged);
    }

pub returns-in_default-clause-led : goal.returns-in_default-clause-led
returns-in_default-clause-led g c = λ rules fits.
    let at = c.loop-round in
    let was = at.invariant.2 rules fits in
    let one = c.in_ok-tail.ensures in record {
      bounds = was.0;
      counted = was.1;
      led = subst (λ (n : ℕ). HasLedTo rules n was.0 c.judge_up_to.new.pump.front c.args.lines.now c.hear_all.new.lines) (sym was.1)
          (led-on rules was.0 c.args.lines.now c.hear_all.new.lines c.hear_all.new.lines c.hear_all.new.pump.front
          c.judge_up_to.new.pump.front c.in_ok-judge_up_to.ensures.goes_on.count (length was.0 + 1)
          (led-heard rules was.0 c.args.lines.now at.lines c.hear_all.new.lines at.pump.front c.hear_all.new.pump.front one.goes_on.count
          was.2 one.heard one.goes_on.judged) c.in_ok-judge_up_to.ensures.goes_on.judged);
    }

pub loop-round-preserved : goal.loop-round-preserved
loop-round-preserved g c =
    let at = c.loop-round in
    let one = c.in_ok-tail.ensures in
    let two = c.in_ok-judge_up_to.ensures in
    let told = c.tell_all.ensures in (
      two.of_ring,
      told.counted ∙ one.heard.counted ∙ at.invariant.1,
      λ rules fits.
          let was = at.invariant.2 rules fits in
          let led = led-on rules was.0 c.args.lines.now c.hear_all.new.lines c.hear_all.new.lines c.hear_all.new.pump.front
          c.judge_up_to.new.pump.front two.goes_on.count (length was.0 + 1)
          (led-heard rules was.0 c.args.lines.now at.lines c.hear_all.new.lines at.pump.front c.hear_all.new.pump.front one.goes_on.count
          was.2 one.heard one.goes_on.judged) two.goes_on.judged in
          let verdict = subst (IsVerdict rules c.judge_up_to.new.pump.front.judged.items) c.in-OpaqueSoFar.is
          (c.verdict.ensures.fits rules led.fits) in (
            c.in_ok-tail.tail ∷ was.0,
            (let n = was.1 in omega (arith, n)),
            subst (λ (n : ℕ). HasLedTo rules n (c.in_ok-tail.tail ∷ was.0) c.judge_up_to.new.pump.front c.args.lines.now c.tell_all.new.lines)
                (omega arith)
                (led-told rules was.0 c.in_ok-tail.tail c.args.lines.now c.hear_all.new.lines c.tell_all.new.lines
                c.judge_up_to.new.pump.front led two.judged verdict told
                (λ place fallback low. one.ended c.if-stopped.false place fallback (let n = one.heard.counted in omega (arith, n, low)))),
          ),
      gone_on-then c.args.pump.now at.pump c.judge_up_to.new.pump at.invariant.3
          (gone_on-then at.pump c.hear_all.new.pump c.judge_up_to.new.pump one.goes_on two.goes_on),
    )

pub returns-clause-led : goal.returns-clause-led
returns-clause-led g c = λ rules fits.
    let at = c.loop-round in
    let was = at.invariant.2 rules fits in
    let one = c.in_ok-hear_all.ensures in
    let all : at.round ≡ c.args.rounds = (let t = c.loop-round-test.false in let a = at.auto.round in let b = at.auto.round-end in let s = c.requires.some in omega (arith, t, a, b, s)) in record {
      bounds = was.0;
      counted = sym all ∙ was.1;
      led = subst (λ (n : ℕ). HasLedTo rules n was.0 c.hear_all-2.new.pump.front c.args.lines.now c.hear_all-2.new.lines) (sym was.1 ∙ all)
          (led-heard rules was.0 c.args.lines.now at.lines c.hear_all-2.new.lines at.pump.front c.hear_all-2.new.pump.front one.goes_on.count
          was.2 one.heard one.goes_on.judged);
    }

pub returns-then-stopped-clause-goes_on : goal.returns-then-stopped-clause-goes_on
returns-then-stopped-clause-goes_on g c = grind (arith, gone_on-then)

pub returns-in_default-clause-goes_on : goal.returns-in_default-clause-goes_on
returns-in_default-clause-goes_on g c = grind (arith, gone_on-then)

pub returns-clause-goes_on : goal.returns-clause-goes_on
returns-clause-goes_on g c = grind (arith, gone_on-then)
