-- A seat with any parts may load tail, and what its parts know is of one run and its log.
use Rattle.tmw_ring.proofs.Shared.{Allows, Answered, Core, Event, HasFoundTail, IsOfLog, IsRunTo, List, Me, Part, PartFits, Parts, Reads, RingSize, Runs, Shown, Sound, Writes, [], ap, append-nil, arith, at_map, drop, get_elem?, keeps, key, map, new_core, none, refl, run_of, set, size_of, slice_index, some, some-injective, some-ne-none, step, subst, suc, sym, tail_word, take-append-drop, with_tail, words_of, zero, ℕ, ◌++◌, ◌∙◌, ◌∷◌, ◌≡◌}
use Rattle.tmw_ring.proofs.Moves.{Follows, Remains, knows_all, moves_each}

-- What stands in a mapped list is the image of what stood there.
at_mapped : {A B : Type 0} (f : A → B) (items : List A) (found : B) (place : ℕ) → get_elem? (map f items) place ≡ some found
    → (was : A) × (get_elem? items place ≡ some was) × (found ≡ f was)
at_mapped f [] found place at = absurd (some-ne-none found (sym at))
at_mapped f (item ∷ items) found zero at = (item, refl, sym (some-injective (f item) found at))
at_mapped f (item ∷ items) found (suc place) at = at_mapped f items found place at

-- A load leaves the words as they were.
loaded_words : (core : Core) (words : List ℕ) → words ≡ words_of core
    → (slice_index words tail_word ≡ core.tail) × (set words tail_word (slice_index words tail_word) ≡ words_of core)
loaded_words core words are = grind arith

-- A part that has found tail fits the ring still.
fits_still : (core : Core) (run : List Answered) (part : Part) → PartFits core part → PartFits core (with_tail core.tail run part)
fits_still core run part fits = grind arith

same_key : (tail : ℕ) (run : List Answered) (part : Part) → key (with_tail tail run part) ≡ key part
same_key tail run part = grind arith

run_known : (tail : ℕ) (run : List Answered) (part : Part) → run_of (with_tail tail run part) ≡ run
run_known tail run part = grind arith

sized_so : (core : Core) (part : Part) → PartFits core part → size_of part ≡ core.size
sized_so core part fits = grind arith

-- What a part that fits knows is of the ring's log.
of_log : (core : Core) → Sound core → (part : Part) → PartFits core part → IsOfLog core.log part
of_log core sound (Writes part) fits = (fits.made, let seen = fits.seen in let tail = sound.tail in omega (arith, seen, tail))
of_log core sound (Reads part) fits =
    let begins : core.log ≡ core.taken ++ drop core.front core.log =
    sym (take-append-drop core.front core.log) ∙ ap (λ (first : List Event). first ++ drop core.front core.log) (sym sound.begins) in
    (drop core.front core.log, begins ∙ ap (λ (taken : List Event). taken ++ drop core.front core.log) (sym fits.taken))

all_follow : (core : Core) (run : List Answered) (old : Parts)
    → ((place : ℕ) (part : Part) → get_elem? old place ≡ some part → PartFits core part)
    → Follows core run old (map (with_tail core.tail run) old)
all_follow core run old fit place part placed =
    let (was, at, is) = at_mapped (with_tail core.tail run) old part place placed in (
      was,
      at,
      ap key is ∙ same_key core.tail run was,
      subst (PartFits core) (sym is) (fits_still core run was (fit place was at)),
      knows_all run part (ap run_of is ∙ run_known core.tail run was),
    )

all_remain : (tail : ℕ) (run : List Answered) (old : Parts) → Remains old (map (with_tail tail run) old)
all_remain tail run old place was placed =
    (with_tail tail run was, at_map (with_tail tail run) old place was placed, same_key tail run was)

module _ {S : Type 0} where
  -- The load changes no word, so the ring stays as it was.
  pub finds_tail : (size : RingSize) (slots seat : ℕ) (me : Me S Parts)
      → Allows (Shown {S = S} size) slots seat me tail_word (λ n. n) (HasFoundTail (step slots tail_word 0 0 none) me)
  finds_tail size slots seat me state shown counted seated small =
      let loaded = loaded_words shown.core state.words shown.words in
      let fit : (place : ℕ) (part : Part) → get_elem? me.0 place ≡ some part → PartFits shown.core part =
      λ place part at. (shown.each seat place part (record { view = me.0; seated = seated; placed = at })).0 in
      let run : List Answered = shown.run in
      let follow = subst (λ (r : List Answered). Follows shown.core r me.0 (map (with_tail (slice_index state.words tail_word) run) me.0))
      (sym (append-nil run))
      (subst (λ (n : ℕ). Follows shown.core run me.0 (map (with_tail n run) me.0)) (sym loaded.0) (all_follow shown.core run me.0 fit)) in
      let ran : (part : Part) → PartFits shown.core part → IsRunTo (size_of part) run shown.core.log =
      λ part fits. (
        shown.core,
        subst (λ (z : RingSize). Runs (new_core z) run shown.core) (sym (sized_so shown.core part fits ∙ shown.sized)) shown.ran,
        refl,
      ) in (
        map (with_tail (slice_index state.words tail_word) run) me.0,
        keeps,
        tt,
        moves_each size state shown seat tail_word (slice_index state.words tail_word) me.0
            (map (with_tail (slice_index state.words tail_word) run) me.0) shown.core [] seated refl shown.sound shown.real loaded.1
            refl follow (all_remain (slice_index state.words tail_word) run me.0) (λ other apart fits. fits) (λ other apart. refl),
        (
          run,
          shown.core.log,
          refl,
          loaded.0 ∙ shown.sound.tail,
          λ place part at. record {
            of_log = of_log shown.core shown.sound part (fit place part at);
            knows = shown.knows seat place part (record { view = me.0; seated = seated; placed = at });
            run_to = ran part (fit place part at);
          },
        ),
      )
