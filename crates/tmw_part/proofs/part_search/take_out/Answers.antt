use Rattle.tmw_part.proofs.Shared.{IsNeededIn, arith, cases_Bool, false, inl, inr, sym, take_all, true, ◌∙◌, ◌≡◌}
use Rattle.std.proofs.lemmas.List.Elements.{All-more}
use Rattle.tmw_part.proofs.part_search.take_out.Goals.{in-Some, in_default}
use Rattle.tmw_part.proofs.part_search.take_out.Goals as goal

pub loop-piece-preserved : goal.loop-piece-preserved
loop-piece-preserved c =
    let so_far = c.loop-piece.invariant in
    elim c.match-found.branch [
      | in-Some w ↦
          let less = rw (w.in-Some.is, c.deref.ensures.value) at c.in_ok-found.ensures.fewer in
          record {
            part = rw w.marks-is (rw w.in-Some.is at c.in_ok-found.ensures.part);
            fewer = λ took. rw w.marks-is (elim (cases_Bool c.loop-piece.took) [
              | inl before ↦ let more = so_far.fewer before in omega (arith, less, more)
              | inr first ↦ let same = so_far.same first in rw same at less
            ]);
            same = λ no. let bad : true ≡ false = sym w.took-is ∙ no in absurd (cc);
            needed = λ no. let bad : true ≡ false = sym w.took-is ∙ no in absurd (cc);
          }
      | in_default w ↦
          let needed = rw (w.in_default.is, c.deref.ensures.value) at c.in_ok-found.ensures.needed in
          record {
            part = rw w.marks-is so_far.part;
            fewer = λ took. rw w.marks-is (so_far.fewer (sym w.took-is ∙ took));
            same = λ none. rw w.marks-is (so_far.same (sym w.took-is ∙ none));
            needed = λ none.
                let first = sym w.took-is ∙ none in
                let same = so_far.same first in
                let here = rw same at needed in
                All-more (IsNeededIn c.args.search.now c.args.marks.now.items) c.args.pieces.now c.loop-piece.piece-index (record { thread = 0; from = 0; upto = 0 }) c.loop-piece-test.true (so_far.needed first) here;
          }
    ]

pub returns-clause-needed : goal.returns-clause-needed
returns-clause-needed c = λ none.
    let so_far = c.loop-piece.invariant in
    let whole = take_all c.loop-piece.piece-index c.args.pieces.now c.loop-piece-test.false in
    (so_far.same none, rw whole at so_far.needed none)
