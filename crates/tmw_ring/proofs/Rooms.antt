-- A writer may look at front, and what it then knows with the tail that it finds next.
use Rattle.tmw_ring.proofs.Shared.{Allows, Answered, Core, FindsFront, FindsTail, HasFoundFront, IsIdleWriter, Ix, List, Me, PartFits, Parts, RingSize, Runs, Shown, WriterFits, WriterIs, WriterPart, Writes, [], ap, append-nil, arith, false, front_word, is_full, is_spent, keeps, key, last_tail, min, new_core, places_freed, places_freed-append, refl, run-counted, run_of, runs-front, set, slice_index, some-injective, some-ne-none, subst, suc, sym, with_run, words_of, writer_in, zero, ℕ, ◌++◌, ◌+◌, ◌-◌, ◌∙◌, ◌∷◌, ◌≡◌, ◌≤◌}
use Rattle.tmw_ring.proofs.Moves.{Follows, Remains, knows_all, moves_each}
use Rattle.tmw_ring.proofs.WriterSteps.{writer_fits}

module _ {S : Type 0} where
  front_found : (size : RingSize) (slots seat : ℕ) (part : WriterPart)
      → Allows {S = S} {V = Parts} (Shown size) slots seat (Writes part ∷ [], []) front_word (λ n. n) (HasFoundFront (Writes part ∷ [], []))
  front_found size slots seat part state shown none_lent seated small =
      let run : List Answered = shown.run in
      let new : WriterPart = with_run run part in
      let fits : WriterFits shown.core part = writer_fits size state shown seat part seated in
      let still : WriterFits shown.core new = record { sized = fits.sized; phase = fits.phase; made = fits.made; seen = fits.seen } in
      let found : slice_index state.words front_word ≡ shown.core.front = ap (λ (words : List ℕ). slice_index words front_word) shown.words in
      let words : set state.words front_word (slice_index state.words front_word) ≡ words_of shown.core =
      ap (λ (words : List ℕ). set words front_word (slice_index words front_word)) shown.words in
      let follows : Follows shown.core (run ++ []) (Writes part ∷ []) (Writes new ∷ []) =
      λ place now placed. follow shown.core run part still place now placed in
      let remains : Remains (Writes part ∷ []) (Writes new ∷ []) = λ place was placed. remain run part place was placed in
      let counted = runs-front (new_core size) shown.core run shown.ran in (
        Writes new ∷ [],
        keeps,
        tt,
        moves_each size state shown seat front_word (slice_index state.words front_word) (Writes part ∷ []) (Writes new ∷ []) shown.core []
            seated refl shown.sound shown.real words refl follows remains (λ other apart fit. fit) (λ other apart. refl),
        (
          refl,
          record {
            gone = shown.knows seat 0 (Writes part) (record { view = Writes part ∷ []; seated = seated; placed = refl });
            is_run = (shown.core, subst (λ (z : RingSize). Runs (new_core z) run shown.core) (sym (fits.sized ∙ shown.sized)) shown.ran);
          },
          omega (arith, found, counted),
        ),
      )
    where
      follow : (core : Core) (run : List Answered) (part : WriterPart) → WriterFits core (with_run run part)
          → Follows core (run ++ []) (Writes part ∷ []) (Writes (with_run run part) ∷ [])
      follow core run part fits zero now placed =
          let is = some-injective (Writes (with_run run part)) now placed in (
            Writes part,
            refl,
            ap key (sym is),
            subst (PartFits core) is fits,
            knows_all (run ++ []) now (ap run_of (sym is) ∙ sym (append-nil run)),
          )
      follow core run part fits (suc place) now placed = absurd (some-ne-none now (sym placed))

      remain : (run : List Answered) (part : WriterPart) → Remains (Writes part ∷ []) (Writes (with_run run part) ∷ [])
      remain run part zero was placed = (Writes (with_run run part), refl, ap key (some-injective (Writes part) was placed))
      remain run part (suc place) was placed = absurd (some-ne-none was (sym placed))

  -- The load changes no word, so the ring stays as it was.
  pub finds_front : (size : RingSize) (slots seat : ℕ) (number : Ix) (me : Me S Parts) → IsIdleWriter number me
      → Allows {S = S} {V = Parts} (Shown size) slots seat me front_word (λ n. n) (HasFoundFront me)
  finds_front size slots seat number me idle =
      subst (λ (m : Me S Parts). Allows {S = S} {V = Parts} (Shown size) slots seat m front_word (λ n. n) (HasFoundFront m)) (sym idle.seated)
      (front_found size slots seat (writer_in me.0))

-- So both tests of the sum that stops are those of the sum.
pub same-tests : (own size : RingSize) → own ≡ size → (front tail records before last : ℕ) → before ≡ records - 1
    → last ≡ min (tail + before) 18446744073709551615
    → (is_spent own last ≡ is_spent size (last_tail tail records))
    × (is_spent own last ≡ false → (last ≡ last_tail tail records) × (is_full own front last ≡ is_full size front (last_tail tail records)))
same-tests own size sized front tail records before last less is = grind arith

-- Front is not above the tail that was found behind it.
pub front-le : (front tail : ℕ) (old between new : WriterIs) → FindsFront front old between → FindsTail tail between new → front ≤ tail
front-le front tail old between new fronted tailed =
    let freed = ap places_freed tailed.meets.gone.longer in
    omega (
      arith,
      fronted.counted,
      tailed.counted,
      freed,
      places_freed-append between.run tailed.meets.gone.since,
      (run-counted between.size tailed.run tailed.log tailed.meets.run_to).1,
    )
