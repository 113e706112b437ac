use Rattle.tmw_pump.proofs.Shared.{Event, List, [], ap, arith, err_from_is_err_and, length, length-append, rest_in, ◌∙◌, ◌∷◌}
use Rattle.tmw_pump.proofs.HeadlineProof.{gives_rest}
use Rattle.tmw_pump.proofs.KeepSteps.{kept-room, was_kept}
use Rattle.tmw_pump.proofs.Turns.{rested-more}
use Rattle.tmw_pump.proofs.rest.Rest.pump.Goals as goal

pub returns-in_err-next-clause-err : goal.returns-in_err-next-clause-err
returns-in_err-next-clause-err g c =
    let p = err_from_is_err_and c.from_residual.result c.from_residual.ensures.1 in
    let at = c.loop-judged in
    rw p.1 (record { count = at.judged; fewer = c.loop-judged-test.true; counted = at.invariant.0 })

pub returns-in_err-next-clause-headline : goal.returns-in_err-next-clause-headline
returns-in_err-next-clause-headline g c =
    let at = c.loop-judged in
    gives_rest c.args.self.now.front at.self.front at.self.settled at.invariant.0.judged.fits

pub returns-in_err-next-clause-kept : goal.returns-in_err-next-clause-kept
returns-in_err-next-clause-kept g c =
    let at = c.loop-judged in
    kept-room g.K.Keep.keeps c.args.self.now.front at.self.front c.args.self.now.kept at.self.kept c.make_room.new.self at.invariant.1
    c.make_room.ensures.same

pub loop-judged-preserved : goal.loop-judged-preserved
loop-judged-preserved g c =
    let old = rest_in c.args.self.now in
    let at = c.loop-judged in
    let done = c.judge_next.ensures in
    let room = kept-room g.K.Keep.keeps c.args.self.now.front at.self.front c.args.self.now.kept at.self.kept c.make_room.new.self at.invariant.1
    c.make_room.ensures.same in (
      rested-more at.judged old at.self.settled c.take.new.self at.self.front c.judge_next.new.front c.in-Some.event at.invariant.0
          c.in-Some.ensures.some done.judged done.fits,
      λ rules was. done.kept rules (room rules was),
      λ none. absurd (omega (arith, none)),
    )

pub returns-clause-headline : goal.returns-clause-headline
returns-clause-headline g c =
    let at = c.loop-judged in
    gives_rest c.args.self.now.front at.self.front at.self.settled at.invariant.0.judged.fits

pub returns-in_default-clause-headline : goal.returns-in_default-clause-headline
returns-in_default-clause-headline g c =
    let at = c.loop-judged in
    gives_rest c.args.self.now.front at.self.front c.take.new.self at.invariant.0.judged.fits

pub invariant_of-self : goal.invariant_of-self
invariant_of-self g c =
    let at = c.loop-judged.self in
    let keeps = g.K.Keep.keeps in record {
      few = at.few;
      keeps = was_kept keeps at.front at.front at.kept c.make_room.new.self at.keeps
          (kept-room keeps at.front at.front at.kept at.kept c.make_room.new.self (λ rules was. was) c.make_room.ensures.same);
    }

pub invariant_of-self-in_default : goal.invariant_of-self-in_default
invariant_of-self-in_default g c =
    let at = c.loop-judged.self in
    let none = ap (λ (l : List Event). length l) c.in_default.ensures.none.1 in
    let keeps = g.K.Keep.keeps in record {
      few = omega (arith, none, at.few);
      keeps = was_kept keeps at.front at.front at.kept c.make_room.new.self at.keeps
          (kept-room keeps at.front at.front at.kept at.kept c.make_room.new.self (λ rules was. was) c.make_room.ensures.same);
    }

pub invariant_of-self-in-loop-judged : goal.invariant_of-self-in-loop-judged
invariant_of-self-in-loop-judged g c =
    let at = c.loop-judged.self in
    let done = c.judge_next.ensures in
    let one = ap (λ (l : List Event). length l) done.judged ∙ length-append at.front.judged.items (c.in-Some.event ∷ []) in
    let two = ap (λ (l : List Event). length l) c.in-Some.ensures.some in
    let keeps = g.K.Keep.keeps in
    let room = kept-room keeps at.front at.front at.kept at.kept c.make_room.new.self (λ rules was. was) c.make_room.ensures.same in record {
      few = omega (arith, one, two, at.few);
      keeps = was_kept keeps at.front c.judge_next.new.front at.kept c.judge_next.new.kept at.keeps (λ rules was. done.kept rules (room rules was));
    }

pub returns-clause-idle : goal.returns-clause-idle
returns-clause-idle g c = λ none. c.loop-judged.invariant.2 (let within = c.loop-judged.auto.judged-end in omega (arith, none, within))
