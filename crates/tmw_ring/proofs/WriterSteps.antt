-- A writer's step keeps the rule of a ring's table, if what the writer then knows is so.
use Rattle.tmw_ring.proofs.Shared.{All, Answered, Core, Event, FitsPhase, IsHeader, IsReal, IsRecorded, IsRun, List, Part, PartFits, Parts, RingCell, RingSize, Shown, Some, Sound, State, WriterFits, WriterMade, WriterPart, Writes, [], ap, arith, get_elem?, gone-step, keeps, key, made_from, new_core, phase_cases, phase_kept, phase_set, refl, runs-append, set, slice_get, slice_get_within, slice_set, some, stepped, subst, sym, words_of, writer_actor, ℕ, ◌++◌, ◌∙◌, ◌∷◌, ◌≡◌, ◌≢◌, ◌≤◌}
use Rattle.tmw_ring.proofs.Moves.{Makes, moves}

-- By a step of the writer with this part the ring goes on to the next state, in which the writer knows the new part.
pub record Goes (core next : Core) (old new : WriterPart) : Type 0 where
  pub sized : next.size ≡ core.size
  pub sound : Sound next
  pub same_size : new.size ≡ old.size
  pub same_number : new.number ≡ old.number
  pub writers : next.writers ≡ slice_set core.writers old.number.number new.phase
  pub reader : next.reader ≡ core.reader
  pub taken : next.taken ≡ core.taken
  pub made : new.made ≡ made_from old.number.number 0 next.log
  pub others : (other : ℕ) → other ≢ old.number.number → made_from other 0 next.log ≡ made_from other 0 core.log
  pub seen : new.seen ≤ next.tail
  pub later : core.tail ≤ next.tail
  pub headers : All (λ cell. IsHeader cell.header) next.cells
  pub events : (place : ℕ) (event : Event) → slice_get next.log place ≡ Some event → IsRecorded core.size event
  pub phase_fits : FitsPhase new.phase

-- A writer goes on to another phase, with other cells in the ring, and nothing else changes.
pub cells_go : (core : Core) (cells : List RingCell) (old new : WriterPart) → WriterFits core old → IsReal core
    → Sound (record core { cells = cells; writers = slice_set core.writers old.number.number new.phase })
    → All (λ cell. IsHeader cell.header) cells → new.size ≡ old.size → new.number ≡ old.number → new.made ≡ old.made
    → new.seen ≤ core.tail → FitsPhase new.phase
    → Goes core (record core { cells = cells; writers = slice_set core.writers old.number.number new.phase }) old new
cells_go core cells old new fits real sound headers same_size same_number made seen phase_fits =
    grind arith

next-real : (core next : Core) (old new : WriterPart) → WriterFits core old → IsReal core → Goes core next old new → IsReal next
next-real core next old new fits real goes = grind (arith, phase_cases)

new-fits : (core next : Core) (old new : WriterPart) → WriterFits core old → Goes core next old new → WriterFits next new
new-fits core next old new fits goes = grind (arith, slice_get_within, phase_set)

others-fit : (core next : Core) (old new : WriterPart) → Goes core next old new → (other : Part) → key other ≢ key (Writes old)
    → PartFits core other → PartFits next other
others-fit core next old new goes other apart fits = grind (arith, phase_kept)

module _ {S : Type 0} where
  -- What the writer of a seat knows is so.
  pub writer_fits : (size : RingSize) (state : State S Parts) (shown : Shown size state) (seat : ℕ) (part : WriterPart)
      → get_elem? state.views seat ≡ some (Writes part ∷ []) → WriterFits shown.core part
  writer_fits size state shown seat part seated =
      (shown.each seat 0 (Writes part) (record { view = Writes part ∷ []; seated = seated; placed = refl })).0

  pub writer_moves : (size : RingSize) (state : State S Parts) (shown : Shown size state) (seat word value : ℕ) (old new : WriterPart)
      (next : Core) (answered : Answered) → get_elem? state.views seat ≡ some (Writes old ∷ [])
      → set state.words word value ≡ words_of next → Makes (writer_actor old.number) shown.core answered next
      → new.run ≡ shown.run ++ answered ∷ [] → Goes shown.core next old new
      → Shown size (stepped state word value seat [] (Writes new ∷ []) keeps)
  writer_moves size state shown seat word value old new next answered seated words makes known goes =
      let fits = writer_fits size state shown seat old seated in
      moves size state shown seat word value (Writes old) (Writes new) next answered seated goes.sized goes.sound
      (next-real shown.core next old new fits shown.real goes) words makes (ap writer_actor goes.same_number) known
      (new-fits shown.core next old new fits goes) (others-fit shown.core next old new goes)

  -- What the writer has made, once the ring has run so.
  pub writer_made : (size : RingSize) (state : State S Parts) (shown : Shown size state) (seat : ℕ) (part : WriterPart) (next : Core)
      (answered : Answered) → get_elem? state.views seat ≡ some (Writes part ∷ []) → Makes (writer_actor part.number) shown.core answered next
      → WriterMade part answered (shown.run ++ answered ∷ [])
  writer_made size state shown seat part next answered seated makes =
      let fits = writer_fits size state shown seat part seated in
      let knows = shown.knows seat 0 (Writes part) (record { view = Writes part ∷ []; seated = seated; placed = refl }) in
      let ran = runs-append (new_core size) shown.core next shown.run (answered ∷ []) shown.ran (next, makes.step, refl) in
      record {
        gone = gone-step (writer_actor part.number) part.run shown.run answered makes.whose knows;
        is_run = subst (λ (z : RingSize). IsRun z (shown.run ++ answered ∷ [])) (sym (fits.sized ∙ shown.sized)) (next, ran);
      }
