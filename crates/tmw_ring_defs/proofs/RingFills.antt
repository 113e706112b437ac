-- A fill from a sound state leaves a sound state: the cell of the place has the event's value, and its stamp is as before.
use Rattle.tmw_ring_defs.proofs.Shared.{Claimed, Cleared, Core, Filled, Holds, Idle, IsIn, Ix, Kind, Looked, Reply, RingCell, Some, Sound, Spares, WriterPhase, cell_at, false, fill_step, filled, inl, kind_value, none-some, refl, slice_get_within, some_pair_parts, subst, sym, true, ℕ, ◌+◌, ◌≡◌, ◌≢◌}
use Rattle.tmw_ring_defs.proofs.RingPhases.{phase_set, claimed_parts}
use Rattle.tmw_ring_defs.proofs.RingStores.{stamp_low, cell_stored}
use Rattle.tmw_ring_defs.proofs.RingWrites.{stored, IsFit, store_keeps}

abbrev filled_at : Core → ℕ → Kind → RingCell
filled_at core place kind = filled kind (cell_at core place)

abbrev with_fill : ℕ → ℕ → Kind → Core → Core
with_fill writer place kind core = stored writer place (filled_at core place kind) (Claimed place kind true) core

-- The writer holds the place, now filled.
fill-holds : (writer place : ℕ) (kind : Kind) (old : Core) → Sound old → IsIn old writer (Claimed place kind false)
    → Holds (with_fill writer place kind old) writer place kind true
fill-holds writer place kind old sound at =
    let was = sound.holds writer place kind false at in
    let cell = cell_stored old place (filled_at old place kind) sound in
    record {
      event = was.event;
      logged = was.logged;
      own = was.own;
      same = was.same;
      standing = was.standing;
      unstamped = subst (λ (c : RingCell). c.stamp ≢ place + 1) (sym cell) was.unstamped;
      value = λ is. subst (λ (c : RingCell). c.value ≡ kind_value kind) (sym cell) refl;
    }

fill-fit : (writer place : ℕ) (kind : Kind) (old : Core) → Sound old → IsIn old writer (Claimed place kind false)
    → IsFit old writer place (filled_at old place kind) (Claimed place kind true)
fill-fit writer place kind old sound at =
    let within = slice_get_within old.writers writer (Claimed place kind false) at in
    record {
      low = stamp_low old place sound;
      uncleared = refl;
      unlooked = λ found front same. absurd (cc);
      left = inl (record { writer = writer; kind = kind; is_filled = true; claimed = phase_set old.writers writer (Claimed place kind true) within });
      holds = λ p found is_filled same.
          let parts = claimed_parts place p kind found true is_filled same in
          (sym parts.0, rw (← parts.0, ← parts.1, ← parts.2) (fill-holds writer place kind old sound at));
    }

pub fill_keeps : (writer : Ix) (old : Core) (phase : WriterPhase) (reply : Reply) (new : Core) → Sound old → IsIn old writer.number phase
    → fill_step writer.number old phase ≡ Some (reply, new) → Sound new × Spares old new
fill_keeps writer old Idle reply new sound at step = absurd (none-some (reply, new) step)
fill_keeps writer old (Looked kind front) reply new sound at step = absurd (none-some (reply, new) step)
fill_keeps writer old (Cleared kind) reply new sound at step = absurd (none-some (reply, new) step)
fill_keeps writer old (Claimed place kind false) reply new sound at step =
    let parts = some_pair_parts Filled reply (with_fill writer.number place kind old) new step in
    subst (λ (core : Core). Sound core × Spares old core) parts.1
    (store_keeps old writer.number place kind false (filled_at old place kind) (Claimed place kind true) sound at
    (fill-fit writer.number place kind old sound at))
fill_keeps writer old (Claimed place kind true) reply new sound at step = absurd (none-some (reply, new) step)
