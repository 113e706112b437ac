use Rattle.tmw_pump.proofs.Shared.{WasCounted, [], ap, arith, both_ways, is_open, length, length_push, refl, verdict_of, ◌++◌, ◌-◌, ◌<◌, ◌^◌, ◌∙◌, ◌∷◌, ◌≡◌}
use Rattle.tmw_counts.proofs.TakeEvent.{kept-ill, taken-formed}
use Rattle.tmw_pump.proofs.CountOn.{counted_next}
use Rattle.tmw_pump.proofs.WasFed.{room-fed, fed_on}
use Rattle.tmw_pump.proofs.front.Front.judge.Goals.{then-open, else-open}
use Rattle.tmw_pump.proofs.front.Front.judge.Goals as goal

pub take-requires : goal.take-requires
take-requires c = grind (arith, room-fed)

-- the event was counted where nothing was wrong before it
next-counted : (c : goal.After-then-self) → ∥ WasCounted (c.args.self.now.judged.items ++ c.args.event ∷ []) c.take.new.self c.if-open.self.1.1.0 ∥₁
next-counted c =
    let old = c.args.self.now in
    let h = old.judged.items in
    let low : length h < 2 ^ 64 - 1 = omega (arith, c.requires) in
    let told : c.is_open-open.result ≡ is_open (verdict_of old.monitor) = c.is_open-open.ensures ∙ ap is_open c.verdict.ensures.shown in
    elim c.if-open.branch [
      | then-open w ↦
          let new = w.take-refused.new.self in
          let takes = w.take-refused.ensures.takes in
          rw w.self-is (counted_next h old.monitor c.take.new.self c.take.ensures.criterion c.args.event old.counter new
          (λ by fits. c.take.ensures.feeds by h fits)
          (λ is registers so. (
            λ formed. taken-formed c.args.event old.counter new registers h low so w.take-refused.result takes w.take-refused.ensures.refuses formed,
            λ ill. kept-ill c.args.event old.counter new registers h low so w.take-refused.result takes w.take-refused.ensures.kept ill,
          ))
          (λ shut. absurd (both_ways _ (told ∙ shut) w.if-open.true)) old.counted)
      | else-open w ↦
          rw w.self-is (counted_next h old.monitor c.take.new.self c.take.ensures.criterion c.args.event old.counter old.counter
          (λ by fits. c.take.ensures.feeds by h fits)
          (λ is registers so. absurd (both_ways _ w.if-open.false (told ∙ is))) (λ shut. refl) old.counted)
    ]

pub invariant_of-self : goal.invariant_of-self
invariant_of-self c = let old = c.args.self.now in
    grind (arith, length, length_push, fed_on, next-counted)
