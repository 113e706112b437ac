use Rattle.tmw_pump.proofs.Shared.{Event, HasPumped, List, [], ap, arith, err_from_is_err_and, inl, inr, length_push, pump_in, refl, subst, sym, ℕ, ◌++◌, ◌∙◌, ◌∷◌, ◌≡◌}
use Rattle.tmw_pump.proofs.HeadlineProof.{gives_headline}
use Rattle.tmw_pump.proofs.KeepSteps.{kept-room, was_kept}
use Rattle.tmw_pump.proofs.Turns.{pumped-more}
use Rattle.tmw_pump.proofs.pump.Pump.pump.Goals as goal

pub returns-in_default-clause-ok : goal.returns-in_default-clause-ok
returns-in_default-clause-ok g c =
    let at = c.loop-judged in
    let below = c.loop-judged-test.true in
    rw c.pumped.ensures (record {
      last = at.self.reader;
      counted = at.invariant.1;
      ended = inr (below, c.in_default.ensures.none);
      verdict = refl;
      idle = λ none. absurd (omega (arith, none, below));
    })

pub returns-in_default-clause-headline : goal.returns-in_default-clause-headline
returns-in_default-clause-headline g c =
    let at = c.loop-judged in
    gives_headline c.args.self.now.front c.take.new.reader.taken at.self.front at.invariant.1.judged.fits
    (at.self.all ∙ sym c.in_default.ensures.none.taken)

pub returns-in_default-clause-kept : goal.returns-in_default-clause-kept
returns-in_default-clause-kept g c =
    let at = c.loop-judged in
    kept-room g.K.Keep.keeps c.args.self.now.front at.self.front c.args.self.now.kept at.self.kept c.make_room.new.self at.invariant.2
    c.make_room.ensures.same

pub returns-in_err-next-clause-err : goal.returns-in_err-next-clause-err
returns-in_err-next-clause-err g c =
    let p = err_from_is_err_and c.from_residual.result c.from_residual.ensures.1 in
    let at = c.loop-judged in
    rw p.1 (record { count = at.judged; fewer = c.loop-judged-test.true; counted = at.invariant.1 })

pub returns-in_err-next-clause-headline : goal.returns-in_err-next-clause-headline
returns-in_err-next-clause-headline g c =
    let at = c.loop-judged in
    gives_headline c.args.self.now.front at.self.reader.taken at.self.front at.invariant.1.judged.fits at.self.all

pub returns-in_err-next-clause-kept : goal.returns-in_err-next-clause-kept
returns-in_err-next-clause-kept g c =
    let at = c.loop-judged in
    kept-room g.K.Keep.keeps c.args.self.now.front at.self.front c.args.self.now.kept at.self.kept c.make_room.new.self at.invariant.2
    c.make_room.ensures.same

pub judge_next-requires-clause-few : goal.judge_next-requires-clause-few
judge_next-requires-clause-few g c = let took = c.in-Some.ensures.some in grind (arith, length_push, took.taken, took.few, c.loop-judged.self.all)

pub loop-judged-preserved : goal.loop-judged-preserved
loop-judged-preserved g c =
    let old = pump_in c.args.self.now in
    let at = c.loop-judged in
    let done = c.judge_next.ensures in
    let room = kept-room g.K.Keep.keeps c.args.self.now.front at.self.front c.args.self.now.kept at.self.kept c.make_room.new.self at.invariant.2
    c.make_room.ensures.same in (
      c.take.ensures.same,
      pumped-more at.judged old at.self.reader c.take.new.reader at.self.front c.judge_next.new.front c.in-Some.event at.invariant.1
          c.in-Some.ensures.some done.judged done.fits,
      λ rules was. done.kept rules (room rules was),
      λ none. absurd (omega (arith, none)),
    )

pub returns-clause-ok : goal.returns-clause-ok
returns-clause-ok g c =
    let old = pump_in c.args.self.now in
    let at = c.loop-judged in
    let new = pump_in at.self in
    let all : at.judged ≡ c.args.max = (let past = c.loop-judged-test.false in let within = at.auto.judged-end in omega (arith, past, within)) in
    rw c.pumped-2.ensures (record {
      last = new.reader;
      counted = subst (λ (count : ℕ). HasPumped count old new.reader new.front) all at.invariant.1;
      ended = inl (refl, refl);
      verdict = refl;
      idle = λ none. (at.invariant.3 (omega (arith, none, all))).0;
    })

pub returns-clause-headline : goal.returns-clause-headline
returns-clause-headline g c =
    let at = c.loop-judged in
    gives_headline c.args.self.now.front at.self.reader.taken at.self.front at.invariant.1.judged.fits at.self.all

pub invariant_of-self : goal.invariant_of-self
invariant_of-self g c =
    let at = c.loop-judged.self in
    let keeps = g.K.Keep.keeps in record {
      all = at.all;
      keeps = was_kept keeps at.front at.front at.kept c.make_room.new.self at.keeps
          (kept-room keeps at.front at.front at.kept at.kept c.make_room.new.self (λ rules was. was) c.make_room.ensures.same);
    }

pub invariant_of-self-in_default : goal.invariant_of-self-in_default
invariant_of-self-in_default g c =
    let at = c.loop-judged.self in
    let keeps = g.K.Keep.keeps in record {
      all = at.all ∙ sym c.in_default.ensures.none.taken;
      keeps = was_kept keeps at.front at.front at.kept c.make_room.new.self at.keeps
          (kept-room keeps at.front at.front at.kept at.kept c.make_room.new.self (λ rules was. was) c.make_room.ensures.same);
    }

pub invariant_of-self-in-loop-judged : goal.invariant_of-self-in-loop-judged
invariant_of-self-in-loop-judged g c =
    let at = c.loop-judged.self in
    let done = c.judge_next.ensures in
    let keeps = g.K.Keep.keeps in
    let room = kept-room keeps at.front at.front at.kept at.kept c.make_room.new.self (λ rules was. was) c.make_room.ensures.same in record {
      all = done.judged ∙ ap (λ (xs : List Event). xs ++ c.in-Some.event ∷ []) at.all ∙ sym c.in-Some.ensures.some.taken;
      keeps = was_kept keeps at.front c.judge_next.new.front at.kept c.judge_next.new.kept at.keeps (λ rules was. done.kept rules (room rules was));
    }

pub returns-clause-idle : goal.returns-clause-idle
returns-clause-idle g c = λ none. c.loop-judged.invariant.3 (let within = c.loop-judged.auto.judged-end in omega (arith, none, within))
