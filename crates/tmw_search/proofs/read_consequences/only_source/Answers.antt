use Rattle.tmw_search.proofs.Shared.{From, Open, Start, arith, eq-eqb, inl, inr, ne_eqb, refl, same_from_bits_below, sym, ◌∙◌}
use Rattle.tmw_search.proofs.Bits.{bit_cases, bit_one, same_place}
use Rattle.tmw_search.proofs.read_consequences.only_source.Goals.{then-branch-2-via-then-branch-2, then-branch-2-via-else-branch-2+then-branch-i}
use Rattle.tmw_search.proofs.read_consequences.only_source.Goals as goal

pub returns-then-branch-2 : goal.returns-then-branch-2
returns-then-branch-2 c Open is = is
returns-then-branch-2 c Start is = absurd (omega (arith, is.1, c.if-branch-eq0.false))
returns-then-branch-2 c (From i) is =
    let (late, few, one, only) = is in
    let next = c.lowest-i in
    elim c.then-branch-2.branch [
      | then-branch-2-via-then-branch-2 w ↦ let early = w.if-branch-2.true in absurd (cc)
      | then-branch-2-via-else-branch-2+then-branch-i w ↦
          let other = w.if-branch-i.true in
          let low = only next.result next.ensures.within next.ensures.among in
          absurd (other (same_from_bits_below 8 c.args.branch.now.writers _ (omega arith) (omega arith) (λ k few. elim (same_place k next.result) [
            | inl same ↦ rw same (next.ensures.among ∙ sym (bit_one next.result next.result next.ensures.within ∙ rw (eq-eqb next.result next.result refl) refl))
            | inr apart ↦ elim (bit_cases c.args.branch.now.writers k) [
              | inl none ↦ none ∙ sym (bit_one next.result k next.ensures.within ∙ rw (ne_eqb k next.result apart) refl)
              | inr has ↦ absurd (apart (only k few has ∙ sym low))
            ]
          ])))
    ]
