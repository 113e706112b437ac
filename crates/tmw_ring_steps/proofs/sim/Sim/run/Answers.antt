use Rattle.tmw_ring_steps.proofs.Shared.{List, RanFirst, Reply, SimulatedRing, Sound, Step, [], after, ap, arith, subst, sym, take, take_all, take_more, ◌++◌, ◌+◌, ◌∙◌, ◌∷◌, ◌≡◌}
use Rattle.std.proofs.lemmas.Result.{err_from_is_err_and}
use Rattle.tmw_ring_steps.proofs.Runs.{HasRun, run-more, run-none, goes_on, ran_first}
use Rattle.tmw_ring_steps.proofs.sim.Sim.run.Goals as goal

pub returns-in_err-said-clause-err : goal.returns-in_err-said-clause-err
returns-in_err-said-clause-err c =
    let p = err_from_is_err_and c.from_residual.result c.from_residual.ensures.1 in
    let IsSound : SimulatedRing → Type 0 = λ sim. Sound sim.machine.core in
    let sim = c.args.self.now in
    rw p.1 (ran_first sim c.args.steps.now 0 [] sim (subst IsSound c.self.view_is c.self.invariant) (omega arith) (run-none sim))

pub returns-in_err-step-clause-err : goal.returns-in_err-step-clause-err
returns-in_err-step-clause-err c =
    let p = err_from_is_err_and c.from_residual-in_err-step.result c.from_residual-in_err-step.ensures.1 in
    let IsSound : SimulatedRing → Type 0 = λ sim. Sound sim.machine.core in
    let Stopped : SimulatedRing → Type 0 = λ sim. RanFirst c.args.self.now c.args.steps.now sim in
    rw p.1
    (subst Stopped (sym c.in_err-step.ensures.err)
    (ran_first c.args.self.now c.args.steps.now c.loop-step.step-index c.loop-step.said.items c.loop-step.self
    (subst IsSound c.self.view_is c.self.invariant) (omega arith) c.loop-step.invariant.0))

pub loop-step-preserved : goal.loop-step-preserved
loop-step-preserved c =
    let old = c.args.self.now in
    let before = take c.loop-step.step-index c.args.steps.now in
    let step = c.step-item.result in
    let next : before ++ step ∷ [] ≡ take (c.loop-step.step-index + 1) c.args.steps.now =
    ap (λ s. before ++ s ∷ []) c.step-item.is ∙ sym (take_more c.args.steps.now c.loop-step.step-index step c.loop-step-test.true) in
    let ok = c.in_ok-step.ensures in
    let pushed = c.push_reserved.ensures in
    let run = run-more old before c.loop-step.said.items c.loop-step.self step c.in_ok-step.field-0 c.step.new.self
    c.loop-step.invariant.0 ok.reply ok.machine ok.made in
    let Steps : List Step → Type 0 = λ steps. HasRun old steps c.push_reserved.new.self.items c.step.new.self in
    let Said : List Reply → Type 0 = λ said. HasRun old (before ++ step ∷ []) said c.step.new.self in (
      subst Steps next (subst Said (sym pushed.items) run),
      omega (arith, pushed.len, c.loop-step.invariant.1),
      omega (arith, pushed.capacity, c.loop-step.invariant.2),
      ok.sound,
    )

pub returns-clause-one_log : goal.returns-clause-one_log
returns-clause-one_log c =
    let IsSound : SimulatedRing → Type 0 = λ sim. Sound sim.machine.core in
    let whole = take_all c.loop-step.step-index c.args.steps.now c.loop-step-test.false in
    goes_on c.args.self.now.machine c.args.steps.now c.loop-step.self.machine (subst IsSound c.self.view_is c.self.invariant)
    (c.loop-step.invariant.0.reached ∙ ap (λ steps. after steps c.args.self.now.machine) whole)
