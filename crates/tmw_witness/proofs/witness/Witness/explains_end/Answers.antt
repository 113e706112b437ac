-- One that is held and commits stands where it stood, and so does one that is left out and aborts, or writes nothing.
use Rattle.tmw_witness.proofs.Shared.{C, End, append-nil, false, inl, inr, left_out, not-true, refl, sym, true, view, views_of, ◌∙◌, ◌≡◌}
use Rattle.tmw_witness.proofs.WitnessChanges.{held-kept, left_out-kept}
use Rattle.tmw_witness.proofs.OneEventMore.{slot-shown, turned, turns-next}
use Rattle.tmw_witness.proofs.witness.Witness.explains_end.Goals.{in-C, in_default}
use Rattle.tmw_witness.proofs.witness.Witness.explains_end.Goals as goal

pub returns-then-is_held-clause-stands : goal.returns-then-is_held-clause-stands
returns-then-is_held-clause-stands c is starts events stands next was =
    let e = c.args.event in
    let p = c.args.place in
    let (x, turns) = turned events e c.args.window.now (End p) p stands next refl in
    let commits : e.kind ≡ C = elim c.match-matches.branch [
      | in-C w ↦ w.in-C.is
      | in_default w ↦ let bad : true ≡ false = sym c.if-matches.true ∙ w.matches-is in absurd (cc)
    ] in
    held-kept starts (views_of events) _ x _ c.args.self.now p.number turns (sym c.is_held.ensures ∙ c.if-is_held.true)
    (rw commits refl) (append-nil x.ops) was

pub returns-else-is_held-clause-stands : goal.returns-else-is_held-clause-stands
returns-else-is_held-clause-stands c is starts events stands next was =
    let e = c.args.event in
    let p = c.args.place in
    let x = view c.slot.result.now in
    let at = slot-shown events e c.args.window.now (End p) p x stands next refl c.slot.ensures in
    let turns = turns-next events e c.args.window.now (End p) p x stands next refl at in
    let commits : e.kind ≡ C = elim c.match-matches.branch [
      | in-C w ↦ w.in-C.is
      | in_default w ↦ let bad : true ≡ false = sym c.if-matches.true ∙ w.matches-is in absurd (cc)
    ] in
    left_out-kept starts (views_of events) _ x _ c.args.self.now p.number turns (sym c.is_held.ensures ∙ c.if-is_held.false)
    (inr (rw commits refl, rw (append-nil x.ops) (c.leaves_nothing.ensures is))) (λ reads. rw (append-nil x.ops) reads) was

pub returns-else-matches-clause-stands : goal.returns-else-matches-clause-stands
returns-else-matches-clause-stands c is starts events stands next was =
    let e = c.args.event in
    let p = c.args.place in
    let (x, turns) = turned events e c.args.window.now (End p) p stands next refl in
    let aborts : e.kind ≡ C → ⊥ = elim c.match-matches.branch [
      | in-C w ↦ let bad : true ≡ false = sym w.matches-is ∙ c.if-matches.false in absurd (cc)
      | in_default w ↦ w.in_default.not-C
    ] in
    left_out-kept starts (views_of events) _ x _ c.args.self.now p.number turns (sym c.is_held-else-matches.ensures ∙ not-true _ is)
    (inl (left_out e.kind aborts)) (λ reads. rw (append-nil x.ops) reads) was
