-- A writer may look at front and at tail.
use Rattle.tmw_ring.proofs.Shared.{Allows, Answered, Bool, Core, FitsKind, FitsPhase, HasSeenFront, HasSeenTail, Idle, IsIn, IsReal, IsSeatOf, Kind, List, Looked, Me, Parts, RingSize, Saw, Shown, Some, Sound, WriterFits, WriterMade, WriterPart, WriterPhase, Writes, [], ap, arith, front_in, front_look, front_seen, front_word, is_full, is_spent, keeps, refl, room_phase, room_reply, set, slice_index, subst, sym, tail_look, tail_seen, with_phase, words_of, writer_actor, writer_in, ℕ, ◌++◌, ◌∙◌, ◌∷◌, ◌≡◌, ◌≤◌}
use Rattle.tmw_ring_defs.proofs.RingLooks.{front_keeps, tail_keeps}
use Rattle.tmw_ring.proofs.Moves.{Makes}
use Rattle.tmw_ring.proofs.WriterSteps.{Goes, cells_go, writer_fits, writer_moves, writer_made}

front_makes : (kind : Kind) (core : Core) (part : WriterPart) → WriterFits core part → part.phase ≡ Idle
    → Makes (writer_actor part.number) core (front_look kind core.front part) (with_phase part.number.number (Looked kind core.front) core)
front_makes kind core part fits idle = grind arith

front_goes : (kind : Kind) (core : Core) (part : WriterPart) (run : List Answered) → Sound core → IsReal core → WriterFits core part
    → part.phase ≡ Idle → FitsKind kind
    → Goes core (with_phase part.number.number (Looked kind core.front) core) part (front_seen kind core.front run part)
front_goes kind core part run sound real fits idle fits_kind =
    let at : IsIn core part.number.number Idle = fits.phase ∙ ap Some idle in
    let next : Core = with_phase part.number.number (Looked kind core.front) core in
    let sound_next : Sound next = (front_keeps part.number kind core Idle (Saw core.front) next sound at refl).0 in
    cells_go core core.cells part (front_seen kind core.front run part) fits real sound_next real.headers refl refl refl fits.seen fits_kind

room_fits : (spent full : Bool) (kind : Kind) → FitsKind kind → FitsPhase (room_phase spent full kind)
room_fits spent full kind fits_kind = grind arith

tail_makes : (kind : Kind) (front : ℕ) (core : Core) (part : WriterPart) (run : List Answered) → WriterFits core part
    → part.phase ≡ Looked kind front
    → Makes (writer_actor part.number) core (tail_look core.tail part)
    (with_phase part.number.number (tail_seen kind core.tail run part).phase core)
tail_makes kind front core part run fits looked = grind arith

tail_goes : (kind : Kind) (front : ℕ) (core : Core) (part : WriterPart) (run : List Answered) → Sound core → IsReal core
    → WriterFits core part → part.phase ≡ Looked kind front
    → Goes core (with_phase part.number.number (tail_seen kind core.tail run part).phase core) part (tail_seen kind core.tail run part)
tail_goes kind front core part run sound real fits looked =
    let at : IsIn core part.number.number (Looked kind front) = fits.phase ∙ ap Some looked in
    let spent = is_spent core.size core.tail in
    let full = is_full core.size front core.tail in
    let next : Core = with_phase part.number.number (room_phase spent full kind) core in
    let sound_step : Sound next =
    (tail_keeps part.number core (Looked kind front) (room_reply spent full front core.tail) next sound at refl).0 in
    let phase : RingSize → ℕ → WriterPhase = λ size seen. room_phase (is_spent size core.tail) (is_full size seen core.tail) kind in
    let same : phase core.size front ≡ (tail_seen kind core.tail run part).phase =
    sym (ap (λ size. phase size (front_in part.phase)) fits.sized ∙ ap (λ found. phase core.size (front_in found)) looked) in
    let sound_next : Sound (with_phase part.number.number (tail_seen kind core.tail run part).phase core) =
    subst (λ (found : WriterPhase). Sound (with_phase part.number.number found core)) same sound_step in
    cells_go core core.cells part (tail_seen kind core.tail run part) fits real sound_next real.headers refl refl refl (omega arith)
    (room_fits (is_spent part.size core.tail) (is_full part.size (front_in part.phase) core.tail) kind
    (real.phases part.number.number (Looked kind front) at))

module _ {S : Type 0} where
  front_allowed : (size : RingSize) (slots seat : ℕ) (kind : Kind) (part : WriterPart) → part.phase ≡ Idle → FitsKind kind
      → Allows {S = S} {V = Parts} (Shown size) slots seat (Writes part ∷ [], []) front_word (λ found. found)
      (HasSeenFront kind (Writes part ∷ [], []))
  front_allowed size slots seat kind part idle fits_kind state shown none_lent seated small =
      let fits = writer_fits size state shown seat part seated in
      let makes = front_makes kind shown.core part fits idle in
      let run : List Answered = shown.run ++ front_look kind shown.core.front part ∷ [] in
      let goes = front_goes kind shown.core part run shown.sound shown.real fits idle fits_kind in
      let next : Core = with_phase part.number.number (Looked kind shown.core.front) shown.core in
      let made = writer_made size state shown seat part next (front_look kind shown.core.front part) seated makes in
      let found : slice_index state.words front_word ≡ shown.core.front = ap (λ (words : List ℕ). slice_index words front_word) shown.words in
      let words : set state.words front_word (slice_index state.words front_word) ≡ words_of next =
      ap (λ (words : List ℕ). set words front_word (slice_index words front_word)) shown.words in
      let new : WriterPart = front_seen kind (slice_index state.words front_word) run part in (
        Writes new ∷ [],
        keeps,
        tt,
        writer_moves size state shown seat front_word (slice_index state.words front_word) part new next (front_look kind shown.core.front part) seated
            words makes refl (subst (λ (front : ℕ). Goes shown.core next part (front_seen kind front run part)) (sym found) goes),
        (refl, subst (λ (front : ℕ). WriterMade part (front_look kind front part) run) (sym found) made),
      )

  -- An idle writer may look at front.
  pub sees_front : (size own : RingSize) (slots seat : ℕ) (kind : Kind) (me : Me S Parts) → IsSeatOf own Idle me → FitsKind kind
      → Allows {S = S} {V = Parts} (Shown size) slots seat me front_word (λ found. found) (HasSeenFront kind me)
  sees_front size own slots seat kind me is fits_kind =
      subst (λ (m : Me S Parts). Allows {S = S} {V = Parts} (Shown size) slots seat m front_word (λ found. found) (HasSeenFront kind m)) (sym is.seated)
      (front_allowed size slots seat kind (writer_in me.0) is.phase_is fits_kind)

  tail_allowed : (size : RingSize) (slots seat : ℕ) (kind : Kind) (front : ℕ) (part : WriterPart) → part.phase ≡ Looked kind front
      → Allows {S = S} {V = Parts} (Shown size) slots seat (Writes part ∷ [], []) 0 (λ found. found)
      (HasSeenTail kind (Writes part ∷ [], []))
  tail_allowed size slots seat kind front part looked state shown none_lent seated small =
      let fits = writer_fits size state shown seat part seated in
      let run : List Answered = shown.run ++ tail_look shown.core.tail part ∷ [] in
      let makes = tail_makes kind front shown.core part run fits looked in
      let goes = tail_goes kind front shown.core part run shown.sound shown.real fits looked in
      let at : IsIn shown.core part.number.number (Looked kind front) = fits.phase ∙ ap Some looked in
      let found : slice_index state.words 0 ≡ shown.core.tail = ap (λ (words : List ℕ). slice_index words 0) shown.words in
      let new : WriterPart = tail_seen kind (slice_index state.words 0) run part in
      let next : Core = with_phase part.number.number (tail_seen kind shown.core.tail run part).phase shown.core in
      let made = writer_made size state shown seat part next (tail_look shown.core.tail part) seated makes in
      let words : set state.words 0 (slice_index state.words 0) ≡ words_of next =
      ap (λ (words : List ℕ). set words 0 (slice_index words 0)) shown.words in
      let low : front ≤ shown.core.front = shown.sound.looks part.number.number front kind at in
      let same : front_in part.phase ≡ front = ap front_in looked in
      let limit : part.size.limit ≡ shown.core.size.limit = ap (λ (z : RingSize). z.limit) fits.sized in (
        Writes new ∷ [],
        keeps,
        tt,
        writer_moves size state shown seat 0 (slice_index state.words 0) part new next (tail_look shown.core.tail part) seated words
            makes refl (subst (λ (tail : ℕ). Goes shown.core next part (tail_seen kind tail run part)) (sym found) goes),
        (
          refl,
          subst (λ (tail : ℕ). WriterMade part (tail_look tail part) run) (sym found) made,
          omega (arith, found, fits.seen),
          omega (arith, found, low, same, shown.sound.order),
          omega (arith, found, limit, shown.sound.limited),
        ),
      )

  -- A writer that has found a front may look at tail.
  pub sees_tail : (size own : RingSize) (slots seat : ℕ) (kind : Kind) (front : ℕ) (me : Me S Parts) → IsSeatOf own (Looked kind front) me
      → Allows {S = S} {V = Parts} (Shown size) slots seat me 0 (λ found. found) (HasSeenTail kind me)
  sees_tail size own slots seat kind front me is =
      subst (λ (m : Me S Parts). Allows {S = S} {V = Parts} (Shown size) slots seat m 0 (λ found. found) (HasSeenTail kind m)) (sym is.seated)
      (tail_allowed size slots seat kind front (writer_in me.0) is.phase_is)
