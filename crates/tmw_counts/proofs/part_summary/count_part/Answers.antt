-- Each event that is counted keeps the history well-formed.
use Rattle.tmw_counts.proofs.Shared.{CountsSo, Event, IsTrue, List, [], ap, arith, counted_by, is_well_formed, length, length-take, subst, sym, take, take_more, ℕ, ◌++◌, ◌+◌, ◌-◌, ◌<◌, ◌^◌, ◌∙◌, ◌∷◌, ◌≡◌, ◌≤◌}
use Rattle.tmw_counts.proofs.CountedPart.{counted_within, formed-part}
use Rattle.tmw_counts.proofs.TakeEvent.{taken-formed}
use Rattle.tmw_counts.proofs.part_summary.count_part.Goals as goal

pub loop-place-preserved : goal.loop-place-preserved
loop-place-preserved c judged_by same low judged =
    let h = c.args.events.now in
    let place = c.loop-place.place in
    let before = take place h in
    let least = c.loop-place-test.true in
    let min_is = c.min-covered.ensures in
    let count_is = c.counted_by.ensures in
    let within : place < length h = omega (arith, least, min_is) in
    let covered : place + 1 ≤ counted_by (length h) c.args.verdict.now = omega (arith, least, min_is, count_is) in
    let next : before ++ c.index-events-place.result ∷ [] ≡ take (place + 1) h =
    ap (λ e. before ++ e ∷ []) c.index-events-place.is ∙ sym (take_more h place c.index-events-place.result within) in
    let short : length before < 2 ^ 64 - 1 = (let size = length-take place h in omega (arith, size, within, low)) in
    let formed : IsTrue (is_well_formed judged_by.registers (before ++ c.index-events-place.result ∷ [])) =
    subst (λ (xs : List Event). IsTrue (is_well_formed judged_by.registers xs)) (sym next)
    (formed-part judged_by h c.args.verdict.now judged (place + 1) covered) in
    subst (λ (xs : List Event). CountsSo judged_by.registers xs c.take-refused.new.self) next
    (taken-formed c.index-events-place.result c.loop-place.counter c.take-refused.new.self judged_by.registers before short
    (c.loop-place.invariant judged_by same low judged) c.take-refused.result c.take-refused.ensures.takes c.take-refused.ensures.refuses formed)

pub returns : goal.returns
returns c judged_by same low judged =
    let h = c.args.events.now in
    let within = counted_within judged_by h c.args.verdict.now judged in
    let least = c.loop-place-test.false in
    let most = c.loop-place.auto.place-end in
    let min_is = c.min-covered.ensures in
    let count_is = c.counted_by.ensures in
    let all : c.loop-place.place ≡ counted_by (length h) c.args.verdict.now = omega (arith, within, least, most, min_is, count_is) in
    c.summary.ensures judged_by.registers _
    (subst (λ (n : ℕ). CountsSo judged_by.registers (take n h) c.loop-place.counter) all (c.loop-place.invariant judged_by same low judged))
