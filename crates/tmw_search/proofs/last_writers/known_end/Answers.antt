use Rattle.tmw_search.proofs.Shared.{ap, arith, bit_at, bit_at-zero, effects, inl, inr, refl, ℕ}
use Rattle.tmw_search.proofs.LastWriters.{writer-of, writes-in}
use Rattle.tmw_search.proofs.last_writers.known_end.Goals as goal

pub returns-then-writers-eq0-clause-some : goal.returns-then-writers-eq0-clause-some
returns-then-writers-eq0-clause-some c = λ start n held rank l. inl (
  λ k w.
      let is = writer-of (effects c.args.items.now) start c.args.node.now c.args.register k held rank c.requires n l w in
      absurd (omega (arith, is, ap (λ (m : ℕ). bit_at m k) c.if-writers-eq0.true, bit_at-zero k)),
  refl,
)

pub returns-in-Some-clause-some : goal.returns-in-Some-clause-some
returns-in-Some-clause-some c = λ start n held rank l.
    let (within, writes, last) = c.in-Some.ensures in
    let xs = effects c.args.items.now in
    inr (
      c.in-Some.place,
      record {
        writes = writes-in xs start c.args.node.now c.args.register c.in-Some.place held rank c.requires within n l writes;
        is = c.left_at.ensures;
        last = λ k w. l.ranking.kept k c.in-Some.place w.0 within
            (last k w.0 (writer-of xs start c.args.node.now c.args.register k held rank c.requires n l w));
      },
    )
