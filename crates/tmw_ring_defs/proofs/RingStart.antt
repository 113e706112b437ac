-- A new ring is sound.
use Rattle.tmw_ring_defs.proofs.Shared.{All-replicate, Claimed, Idle, Looked, RingCell, RingSize, Sound, arith, cleared, empty_cell, length-replicate, new_core, refl, replicate, ◌≡◌, ◌≤◌}
use Rattle.tmw_ring_defs.proofs.RingPhases.{all_idle, cleared-idle}

pub new_core-sound : (size : RingSize) → Sound (new_core size)
new_core-sound size =
    let none_cleared : cleared (replicate size.writers Idle) ≡ 0 = cleared-idle size.writers in
    record {
      cells = length-replicate size.cells empty_cell;
      writers = length-replicate size.writers Idle;
      tail = refl;
      front = refl;
      begins = refl;
      order = omega arith;
      room = omega (arith, none_cleared);
      limited = omega (arith, none_cleared);
      looks = λ writer front kind at. let same = all_idle size.writers writer (Looked kind front) at in absurd (cc);
      places = λ place low high. absurd (omega (arith, high));
      holds = λ writer place kind is_filled at. let same = all_idle size.writers writer (Claimed place kind is_filled) at in absurd (cc);
      once = λ a b place kind other p q one two. let same = all_idle size.writers a (Claimed place kind p) one in absurd (cc);
      stamps = All-replicate (λ (cell : RingCell). cell.stamp ≤ 0) size.cells empty_cell (omega arith);
      reads = tt;
    }
