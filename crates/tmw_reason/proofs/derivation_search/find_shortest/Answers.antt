-- Each contradiction to which the steps come has a derivation, and the shorter of two is one of them.
use Rattle.tmw_reason.proofs.Shared.{IsFalse, contradicts_in, inl, inr, refl, sym, ◌∙◌}
use Rattle.tmw_reason.proofs.ListFacts.{none-more, none-whole}
use Rattle.tmw_reason.proofs.derivation_search.find_shortest.Goals.{then-contradicts+in_ok-kept+then-needs_assumed, then-contradicts+in_ok-kept+else-needs_assumed, else-contradicts}
use Rattle.tmw_reason.proofs.derivation_search.find_shortest.Goals as goal

pub loop-end-preserved : goal.loop-end-preserved
loop-end-preserved c =
    let so_far = c.loop-end.invariant in
    let ends = c.args.candidates.now.ends.items in
    let place = c.loop-end.end-index in
    let low = rw c.deref-end-items.ensures.value at c.loop-end-test.true in
    let at = rw c.deref-end-items.ensures.value at c.end-item.is in
    elim c.if-contradicts.branch [
      | then-contradicts+in_ok-kept+then-needs_assumed w ↦
          record {
            made = rw w.best-is (elim w.shorter.ensures [
              | inl first ↦ rw first at so_far.made
              | inr second ↦ rw second (
                record {
                  is = record {
                    is = w.in_ok-kept.ensures.is;
                    needed = w.in_ok-kept.ensures.needed;
                    assumes_needed = rw w.deref.ensures.value at (w.needs_assumed.ensures.needed w.if-needs_assumed.true);
                  };
                  among = record { steps = w.in_ok-kept.ensures.among c.args.candidates.now.steps.items c.requires.are; end = (place, low, sym at) };
                },
                refl,
              )
            ]);
            none = λ _. rw w.best-is tt;
          }
      | then-contradicts+in_ok-kept+else-needs_assumed w ↦
          record {
            made = rw w.best-is so_far.made;
            none = λ zero_assumed.
                let needs = sym (w.needs_assumed.ensures.none zero_assumed) ∙ w.if-needs_assumed.false in absurd (cc);
          }
      | else-contradicts w ↦
          record {
            made = rw w.best-is so_far.made;
            none = λ zero_assumed. rw w.best-is (none-more c.loop-end.best (λ end. IsFalse (contradicts_in c.args.judged.now c.args.steps.now end)) ends place
                c.end-item.result low (so_far.none zero_assumed) (rw at at (sym c.contradicts.ensures ∙ w.if-contradicts.false)));
          }
    ]

pub returns-clause-none : goal.returns-clause-none
returns-clause-none c = λ zero_assumed.
    none-whole c.loop-end.best (λ end. IsFalse (contradicts_in c.args.judged.now c.args.steps.now end)) c.args.candidates.now.ends.items
    c.loop-end.end-index (rw c.deref-end-items.ensures.value at c.loop-end-test.false) (c.loop-end.invariant.none zero_assumed)
