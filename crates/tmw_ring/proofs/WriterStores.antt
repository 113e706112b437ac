-- A writer may fill and publish the place that it has claimed.
use Rattle.tmw_ring.proofs.Shared.{Allows, Answered, Claimed, Core, Filled, FitsPhase, HasFilled, HasPublished, Idle, IsHeader, IsIn, IsReal, IsSeatOf, Kind, List, Me, Parts, Published, RingCell, RingSize, Shown, Some, Sound, WriterFits, WriterPart, WriterPhase, Writes, [], ap, arith, cell_at, done, empty_cell, event_of, false, filled, filling, has_cell, joined, keeps, kind_value, packed_header, packed_header-small, place_in, published, publishing, refl, rules, set, stamp_word, subst, sym, true, value_filled, value_word, with_cell, with_phase, words_of, writer_actor, writer_in, ℕ, ◌%◌, ◌++◌, ◌∙◌, ◌∷◌, ◌≡◌}
use Rattle.tmw_ring_defs.proofs.RingFills.{fill_keeps}
use Rattle.tmw_ring_defs.proofs.RingPublishes.{publish_keeps}
use Rattle.tmw_ring.proofs.Words.{filled_words, published_words}
use Rattle.tmw_ring.proofs.Moves.{Makes}
use Rattle.tmw_ring.proofs.WriterSteps.{Goes, writer_fits, writer_moves, writer_made}

-- the state after a store to the place's cell, by a writer that goes on to the phase
abbrev with_store : ℕ → ℕ → RingCell → WriterPhase → Core → Core
with_store writer place cell phase core = with_phase writer phase (with_cell place cell core)

-- A store of a real header to the cell, and a writer that goes on.
store_goes : (core : Core) (place : ℕ) (cell : RingCell) (old new : WriterPart) → Sound core → WriterFits core old → IsReal core
    → Sound (with_store old.number.number place cell new.phase core) → IsHeader cell.header
    → new.size ≡ old.size → new.number ≡ old.number → new.made ≡ old.made → new.seen ≡ old.seen → FitsPhase new.phase
    → Goes core (with_store old.number.number place cell new.phase core) old new
store_goes core place cell old new sound fits real sound_next header same_size same_number made seen phase_fits =
    search rules

-- The place's cell has a real header.
cell_header : (core : Core) (place : ℕ) → Sound core → IsReal core → IsHeader (cell_at core place).header
cell_header core place sound real = real.headers (place % core.size.cells) empty_cell (has_cell core place sound)

fill_makes : (kind : Kind) (place : ℕ) (core : Core) (part : WriterPart) (run : List Answered) → WriterFits core part
    → part.phase ≡ Claimed place kind false
    → Makes (writer_actor part.number) core (filling part)
    (with_store part.number.number place (filled kind (cell_at core place)) (value_filled kind run part).phase core)
fill_makes kind place core part run fits is_claimed = grind arith

fill_goes : (kind : Kind) (place : ℕ) (core : Core) (part : WriterPart) (run : List Answered) → Sound core → IsReal core
    → WriterFits core part → part.phase ≡ Claimed place kind false
    → Goes core (with_store part.number.number place (filled kind (cell_at core place)) (value_filled kind run part).phase core) part
    (value_filled kind run part)
fill_goes kind place core part run sound real fits is_claimed =
    let at : IsIn core part.number.number (Claimed place kind false) = fits.phase ∙ ap Some is_claimed in
    let cell : RingCell = filled kind (cell_at core place) in
    let next : Core = with_store part.number.number place cell (Claimed place kind true) core in
    let sound_step : Sound next = (fill_keeps part.number core (Claimed place kind false) Filled next sound at refl).0 in
    let same : Claimed place kind true ≡ (value_filled kind run part).phase =
    ap (λ (phase : WriterPhase). Claimed (place_in phase) kind true) (sym is_claimed) in
    let sound_next : Sound (with_store part.number.number place cell (value_filled kind run part).phase core) =
    subst (λ (phase : WriterPhase). Sound (with_store part.number.number place cell phase core)) same sound_step in
    store_goes core place cell part (value_filled kind run part) sound fits real sound_next (cell_header core place sound real)
    refl refl refl refl (real.phases part.number.number (Claimed place kind false) at)

publish_makes : (kind : Kind) (place : ℕ) (core : Core) (part : WriterPart) → WriterFits core part → part.phase ≡ Claimed place kind true
    → Makes (writer_actor part.number) core (publishing part)
    (with_store part.number.number place (published place (event_of part.number kind) (cell_at core place)) Idle core)
publish_makes kind place core part fits is_claimed = grind arith

publish_goes : (kind : Kind) (place : ℕ) (core : Core) (part : WriterPart) (run : List Answered) → Sound core → IsReal core
    → WriterFits core part → part.phase ≡ Claimed place kind true
    → Goes core (with_store part.number.number place (published place (event_of part.number kind) (cell_at core place)) Idle core) part
    (done run part)
publish_goes kind place core part run sound real fits is_claimed =
    let at : IsIn core part.number.number (Claimed place kind true) = fits.phase ∙ ap Some is_claimed in
    let cell : RingCell = published place (event_of part.number kind) (cell_at core place) in
    let next : Core = with_store part.number.number place cell Idle core in
    let sound_next : Sound next = (publish_keeps part.number core (Claimed place kind true) (Published place) next sound at refl).0 in
    store_goes core place cell part (done run part) sound fits real sound_next (packed_header-small (event_of part.number kind))
    refl refl refl refl tt

module _ {S : Type 0} where
  fill_allowed : (size : RingSize) (slots seat : ℕ) (kind : Kind) (place value : ℕ) (part : WriterPart) → part.phase ≡ Claimed place kind false
      → value ≡ kind_value kind
      → Allows {S = S} {V = Parts} (Shown size) slots seat (Writes part ∷ [], []) (value_word size.cells place) (λ found. value)
      (λ found. HasFilled kind (Writes part ∷ [], []))
  fill_allowed size slots seat kind place value part is_claimed is_value state shown none_lent seated small =
      let core = shown.core in
      let fits = writer_fits size state shown seat part seated in
      let run : List Answered = shown.run ++ filling part ∷ [] in
      let makes = fill_makes kind place core part run fits is_claimed in
      let goes = fill_goes kind place core part run shown.sound shown.real fits is_claimed in
      let new : WriterPart = value_filled kind run part in
      let next : Core = with_store part.number.number place (filled kind (cell_at core place)) new.phase core in
      let word : ℕ = value_word size.cells place in
      let words : set state.words word value ≡ words_of next =
      ap (λ (words : List ℕ). set words word value) shown.words
      ∙ ap (λ (n : ℕ). set (words_of core) word n) is_value
      ∙ ap (λ (z : RingSize). set (words_of core) (value_word z.cells place) (kind_value kind)) (sym shown.sized)
      ∙ filled_words core place kind (has_cell core place shown.sound) in
      let made = writer_made size state shown seat part next (filling part) seated makes in (
        Writes new ∷ [],
        keeps,
        tt,
        writer_moves size state shown seat word value part new next (filling part) seated words makes refl goes,
        (refl, made),
      )

  -- A writer that has claimed the place may fill in its event's value.
  pub fills : (size own : RingSize) (slots seat : ℕ) (kind : Kind) (place word value : ℕ) (me : Me S Parts)
      → IsSeatOf own (Claimed place kind false) me → word ≡ value_word size.cells place → value ≡ kind_value kind
      → Allows {S = S} {V = Parts} (Shown size) slots seat me word (λ found. value) (λ found. HasFilled kind me)
  fills size own slots seat kind place word value me is is_word is_value =
      subst (λ (m : Me S Parts). Allows {S = S} {V = Parts} (Shown size) slots seat m word (λ found. value) (λ found. HasFilled kind m))
      (sym is.seated)
      (subst (λ (w : ℕ). Allows {S = S} {V = Parts} (Shown size) slots seat (Writes (writer_in me.0) ∷ [], []) w (λ found. value)
      (λ found. HasFilled kind (Writes (writer_in me.0) ∷ [], []))) (sym is_word)
      (fill_allowed size slots seat kind place value (writer_in me.0) is.phase_is is_value))

  publish_allowed : (size : RingSize) (slots seat : ℕ) (kind : Kind) (place header : ℕ) (part : WriterPart)
      → part.phase ≡ Claimed place kind true → header ≡ packed_header (event_of part.number kind)
      → Allows {S = S} {V = Parts} (Shown size) slots seat (Writes part ∷ [], []) (stamp_word size.cells place) (λ found. joined place header)
      (λ found. HasPublished (Writes part ∷ [], []))
  publish_allowed size slots seat kind place header part is_claimed is_header state shown none_lent seated small =
      let core = shown.core in
      let fits = writer_fits size state shown seat part seated in
      let makes = publish_makes kind place core part fits is_claimed in
      let run : List Answered = shown.run ++ publishing part ∷ [] in
      let goes = publish_goes kind place core part run shown.sound shown.real fits is_claimed in
      let new : WriterPart = done run part in
      let next : Core =
      with_store part.number.number place (published place (event_of part.number kind) (cell_at core place)) Idle core in
      let word : ℕ = stamp_word size.cells place in
      let words : set state.words word (joined place header) ≡ words_of next =
      ap (λ (words : List ℕ). set words word (joined place header)) shown.words
      ∙ ap (λ (n : ℕ). set (words_of core) word (joined place n)) is_header
      ∙ ap (λ (z : RingSize). set (words_of core) (stamp_word z.cells place) (joined place (packed_header (event_of part.number kind))))
      (sym shown.sized)
      ∙ published_words core place (event_of part.number kind) (has_cell core place shown.sound) in
      let made = writer_made size state shown seat part next (publishing part) seated makes in (
        Writes new ∷ [],
        keeps,
        tt,
        writer_moves size state shown seat word (joined place header) part new next (publishing part) seated words makes refl goes,
        (refl, made),
      )

  -- A writer that has filled the place may publish it.
  pub publishes : (size own : RingSize) (slots seat : ℕ) (kind : Kind) (place header word value : ℕ) (me : Me S Parts)
      → IsSeatOf own (Claimed place kind true) me → header ≡ packed_header (event_of (writer_in me.0).number kind)
      → word ≡ stamp_word size.cells place → value ≡ joined place header
      → Allows {S = S} {V = Parts} (Shown size) slots seat me word (λ found. value) (λ found. HasPublished me)
  publishes size own slots seat kind place header word value me is is_header is_word is_value =
      subst (λ (m : Me S Parts). Allows {S = S} {V = Parts} (Shown size) slots seat m word (λ found. value) (λ found. HasPublished m))
      (sym is.seated)
      (subst (λ (w : ℕ). Allows {S = S} {V = Parts} (Shown size) slots seat (Writes (writer_in me.0) ∷ [], []) w (λ found. value)
      (λ found. HasPublished (Writes (writer_in me.0) ∷ [], []))) (sym is_word)
      (subst (λ (v : ℕ). Allows {S = S} {V = Parts} (Shown size) slots seat (Writes (writer_in me.0) ∷ [], []) (stamp_word size.cells place)
      (λ found. v) (λ found. HasPublished (Writes (writer_in me.0) ∷ [], []))) (sym is_value)
      (publish_allowed size slots seat kind place header (writer_in me.0) is.phase_is is_header)))
