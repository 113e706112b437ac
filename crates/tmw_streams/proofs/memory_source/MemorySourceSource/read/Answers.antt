-- The bytes that were copied are those that follow the ones told so far, and the first of those still to tell.
use Rattle.tmw_streams.proofs.Shared.{ap, arith, drop, drop-drop, length, length-drop, length-take-le, List, sym, take, take-add, take-append-drop, take-append-le, take-take, ℕ, ◌++◌, ◌+◌, ◌∙◌, ◌≡◌, ◌≤◌}
use Rattle.tmw_streams.proofs.memory_source.MemorySourceSource.read.Goals as goal

front : (n : ℕ) (copied rest others : List ℕ) → copied ≡ take n rest → n ≤ length rest → take n (copied ++ others) ≡ take n rest
front n copied rest others is h =
    let here : n ≤ length copied = omega (arith, ap length is, length-take-le n rest h) in
    let whole : n ≤ n = omega arith in
    let one = take-append-le n copied others here in
    let two = take-take n n rest whole in
    cc

follows : (before content copied others rest : List ℕ) (at n : ℕ)
    → before ≡ take at content → copied ≡ take n rest → rest ≡ drop at content → n ≤ length rest
    → before ++ take n (copied ++ others) ≡ take (at + n) content
follows before content copied others rest at n told is left h =
    cc (front n copied rest others is h, take-add at n content)

begins : (content copied others rest : List ℕ) (at n : ℕ) → copied ≡ take n rest → rest ≡ drop at content → n ≤ length rest
    → drop at content ≡ take n (copied ++ others) ++ drop (at + n) content
begins content copied others rest at n is left h =
    sym left ∙ sym (take-append-drop n rest)
    ∙ ap (λ xs. xs ++ drop n rest) (sym (front n copied rest others is h))
    ∙ ap (λ xs. take n (copied ++ others) ++ drop n xs) left
    ∙ ap (λ xs. take n (copied ++ others) ++ xs) (drop-drop n at content)

pub returns-clause-fills : goal.returns-clause-fills
returns-clause-fills c =
    let asked = c.fails_now.new.self in
    let same = sym c.fails_now.ensures.same in
    let within : c.next_count-count.result ≤ length c.rest.result.now =
    omega (arith, ap length c.rest.ensures, length-drop asked.at asked.content.now) in record {
      within = grind arith;
      tells = (
        λ before told. follows before _ _ _ _ asked.at _ (told ∙ ap (λ s. take s.at s.content.now) same)
            c.copy_from_slice.ensures.after c.rest.ensures within,
        ap (λ s. drop s.at s.content.now) same
            ∙ begins asked.content.now _ _ _ asked.at _ c.copy_from_slice.ensures.after c.rest.ensures within,
      );
      falls = grind arith;
      end = grind arith;
      well = grind arith;
    }
