-- A new ring keeps the rule of its table.
use Rattle.tmw_ring.proofs.Shared.{FitsPhase, Idle, IsHeader, IsReal, Knows, Lies, Part, PartFits, Parts, Reads, RingCell, RingSize, Shown, Some, State, Writes, [], all_idle, ap, arith, empty_cell, get_elem?, key, new_core, new_core-sound, new_parts, new_reader, new_writer, new_writers, opening, refl, replicate, run_of, slice_get, some, some-injective, some-ne-none, subst, suc, sym, word_count, zero, ℕ, ◌+◌, ◌<◌, ◌∙◌, ◌≡◌, ◌≤◌}
use Rattle.std.proofs.lemmas.List.Elements.{All-replicate}
use Rattle.tmw_ring.proofs.Moves.{knows_all}
use Rattle.tmw_ring.proofs.Words.{new_words}

idle_at : (count writer : ℕ) → writer < count → slice_get (replicate count Idle) writer ≡ Some Idle
idle_at zero writer within = absurd (omega arith)
idle_at (suc count) zero within = refl
idle_at (suc count) (suc writer) within = idle_at count writer (omega arith)

-- Whoever stands among the parts of new writers is the new writer of the number of its place.
writers_at : (size : RingSize) (from count place : ℕ) (part : Part) → get_elem? (new_writers size from count) place ≡ some part
    → (place < count) × (part ≡ Writes (new_writer size (from + place)))
writers_at size from zero place part at = absurd (some-ne-none part (sym at))
writers_at size from (suc count) zero part at = grind arith
writers_at size from (suc count) (suc place) part at =
    let later = writers_at size (from + 1) count place part at in grind arith

writer_there : (size : RingSize) (from count place : ℕ) → place < count
    → get_elem? (new_writers size from count) place ≡ some (Writes (new_writer size (from + place)))
writer_there size from zero place within = absurd (omega arith)
writer_there size from (suc count) zero within = grind arith
writer_there size from (suc count) (suc place) within =
    let same : from + 1 + place ≡ from + suc place = omega arith in
    writer_there size (from + 1) count place (omega (arith, within)) ∙ ap (λ (n : ℕ). some (Writes (new_writer size n))) same

new_part_there : (size : RingSize) (number : ℕ) → number < size.writers
    → get_elem? (new_parts size) (suc number) ≡ some (Writes (new_writer size number))
new_part_there size number within = grind (arith, writer_there)

new_core-real : (size : RingSize) → IsReal (new_core size)
new_core-real size = record {
  headers = All-replicate (λ (cell : RingCell). IsHeader cell.header) size.cells empty_cell (omega arith);
  events = λ place event at. absurd (cc);
  phases = λ writer phase at. subst FitsPhase (all_idle size.writers writer phase at) tt;
}

-- A new writer knows what is so.
new_writer-fits : (size : RingSize) (number : ℕ) → number < size.writers
    → PartFits (new_core size) (Writes (new_writer size number)) × (key (Writes (new_writer size number)) ≡ suc number)
new_writer-fits size number within = grind (arith, idle_at)

part_at : (size : RingSize) (place : ℕ) (part : Part) → get_elem? (new_parts size) place ≡ some part
    → PartFits (new_core size) part × (key part ≡ place) × (run_of part ≡ [])
part_at size place part h1 = grind (arith, writers_at, new_writer-fits)

module _ {S : Type 0} where
  -- The words and the one seat of a new table.
  abbrev opened : RingSize → State S Parts
  opened size = opening (replicate (word_count size.cells) 0) [] (new_parts size)

  pub starts : (size : RingSize) → Shown size (opened size)
  starts size = record {
    core = new_core size;
    sized = refl;
    sound = new_core-sound size;
    real = new_core-real size;
    words = new_words size;
    run = [];
    ran = refl;
    where_is = λ actor. (0, actor);
    present = present;
    each = each;
    knows = knows;
  }
    where
      present : (actor : ℕ) → actor ≤ size.writers → (part : Part) × Lies (opened size) 0 actor part × (key part ≡ actor)
      present zero among = (Reads (new_reader size), record { view = new_parts size; seated = refl; placed = refl }, refl)
      present (suc number) among = (
        Writes (new_writer size number),
        record { view = new_parts size; seated = refl; placed = new_part_there size number (omega (arith, among)) },
        (new_writer-fits size number (omega (arith, among))).1,
      )

      knows : (seat place : ℕ) (part : Part) → Lies (opened size) seat place part → Knows [] part
      knows zero place part lies =
          let known = part_at size place part
          (subst (λ (view : Parts). get_elem? view place ≡ some part) (sym (some-injective (new_parts size) lies.view lies.seated)) lies.placed) in
          knows_all [] part known.2
      knows (suc seat) place part lies = absurd (some-ne-none lies.view (sym lies.seated))

      each : (seat place : ℕ) (part : Part) → Lies (opened size) seat place part
          → PartFits (new_core size) part × (◌≡◌ {A = ℕ × ℕ} (0, key part) (seat, place))
      each zero place part lies =
          let known = part_at size place part
          (subst (λ (view : Parts). get_elem? view place ≡ some part) (sym (some-injective (new_parts size) lies.view lies.seated)) lies.placed) in
          (known.0, ap (λ (n : ℕ). let pair : ℕ × ℕ = (0, n) in pair) known.1)
      each (suc seat) place part lies = absurd (some-ne-none lies.view (sym lies.seated))
