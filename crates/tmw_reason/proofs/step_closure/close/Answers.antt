-- Each round adds a candidate that was not told, and is told then.
use Rattle.tmw_reason.proofs.Shared.{All-push, Contains, ReasonStep, Some, [], and_parts, cases_Bool, find, inl, inr, is_news, not, not-true, refl, sym, tells, true, ◌++◌, ◌∙◌, ◌∷◌, ◌≡◌}
use Rattle.tmw_reason.proofs.ClosureSteps.{derives-assumed, derives-push, tells-itself, tells-more}
use Rattle.tmw_reason.proofs.ListFacts.{count-fewer, find-some}
use Rattle.tmw_reason.proofs.step_closure.close.Goals.{else-loop-steps-test, then-loop-steps-test+in_default}
use Rattle.tmw_reason.proofs.step_closure.close.Goals as goal

pub loop-steps-init : goal.loop-steps-init
loop-steps-init c = record { are = c.requires; derives = derives-assumed c.args.judged.now c.args.assumed.items }

pub loop-steps-smaller : goal.loop-steps-smaller
loop-steps-smaller c =
    let steps = c.loop-steps.steps.items in
    let step = c.in-Some.step in
    let w = c.args.judged.now in
    let found : find (is_news w steps) c.args.candidates.now.steps.items ≡ Some step
    = rw (c.deref-in-loop-steps-2.ensures.value, c.deref-in-loop-steps-3.ensures.value) at (sym c.find_step.ensures ∙ c.in-Some.is) in
    let news = (find-some (is_news w steps) c.args.candidates.now.steps.items step found).0 in
    let (untold, new) = and_parts (not (tells steps step)) _ news in
    let told : tells (steps ++ step ∷ []) step ≡ true = tells-itself w steps step new in
    let most : (y : ReasonStep) → not (tells (steps ++ step ∷ []) y) ≡ true → not (tells steps y) ≡ true =
    λ y not_told. elim (cases_Bool (tells steps y)) [
      | inl is ↦ let bad = sym (not-true _ not_told) ∙ tells-more steps step y is in absurd (cc)
      | inr is_not ↦ rw is_not refl
    ] in
    rw c.in_ok-push.ensures.items
    (count-fewer (λ x. not (tells (steps ++ step ∷ []) x)) (λ x. not (tells steps x)) (is_news w steps) c.args.candidates.now.steps.items step
    most found untold (rw told refl))

pub loop-steps-preserved : goal.loop-steps-preserved
loop-steps-preserved c =
    let steps = c.loop-steps.steps.items in
    let step = c.in-Some.step in
    let w = c.args.judged.now in
    let found : find (is_news w steps) c.args.candidates.now.steps.items ≡ Some step
    = rw (c.deref-in-loop-steps-2.ensures.value, c.deref-in-loop-steps-3.ensures.value) at (sym c.find_step.ensures ∙ c.in-Some.is) in
    let (news, has) = find-some (is_news w steps) c.args.candidates.now.steps.items step found in
    let new = (and_parts (not (tells steps step)) _ news).1 in
    rw c.in_ok-push.ensures.items (record {
      are = All-push (Contains c.args.candidates.now.steps.items) steps step c.loop-steps.invariant.are has;
      derives = derives-push w _ steps step c.loop-steps.invariant.derives new;
    })

pub returns : goal.returns
returns c = record {
  are = c.loop-steps.invariant.are;
  derives = c.loop-steps.invariant.derives;
  ends = elim c.loop-steps-test.branch [
    | else-loop-steps-test w ↦
        inl (rw (c.deref.ensures.value, c.deref-in-loop-steps.ensures.value) at (sym c.comes_to_one.ensures ∙ w.loop-steps-test.false))
    | then-loop-steps-test+in_default w ↦
        inr (rw (w.deref-in-loop-steps-2.ensures.value, w.deref-in-loop-steps-3.ensures.value) at (sym w.find_step.ensures ∙ w.in_default.is))
  ];
}
