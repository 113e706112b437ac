-- What the recorders are that the handles of a watch hold.
use Rattle.tmw_c.proofs.Shared.{All, AreAll, AreHeld, AreInPlace, HasNumber, HeldRecorder, IsHeld, IsHeldOf, List, None, Option, Recorder, RecorderHandle, RingIs, Some, WriterIs, [], ap, arith, get_or, length, suc, sym, take, writers_of, zero, ℕ, ◌++◌, ◌<◌, ◌∙◌, ◌∷◌, ◌≡◌}
use Rattle.std.proofs.Math.Seq.{take-append_seam}
use Rattle.tmw_watch.specs.Open.{AreOf}

-- Where handles hold recorders, those behind the first hold those behind the first.
behind : (recorder : Recorder) (recorders : List Recorder) (handle : RecorderHandle) (handles : List RecorderHandle)
    → AreHeld (recorder ∷ recorders) (handle ∷ handles) → AreHeld recorders handles
behind recorder recorders handle handles held = record {
  counted = let same = held.counted in omega (arith, same);
  each = λ place h r low. held.each (suc place) h r (omega (arith, low));
}

ring_of_held : (ring : RingIs) (recorder : Recorder) (slot : Option HeldRecorder) → IsHeld recorder slot → IsHeldOf ring slot
    → recorder.ring.value ≡ ring
ring_of_held ring recorder None held of = absurd held
ring_of_held ring recorder (Some one) held of = ap (λ (r : Recorder). r.ring.value) (sym held) ∙ of

number_of_held : (number : ℕ) (recorder : Recorder) (slot : Option HeldRecorder) → IsHeld recorder slot → HasNumber number slot
    → recorder.writer.number.number ≡ number
number_of_held number recorder None held has = absurd held
number_of_held number recorder (Some one) held has = ap (λ (r : Recorder). r.writer.number.number) (sym held) ∙ has

-- Recorders that are held are the ring's, where what is held is.
pub of_ring_held : (ring : RingIs) (recorders : List Recorder) (handles : List RecorderHandle) → AreHeld recorders handles
    → All (λ (handle : RecorderHandle). IsHeldOf ring handle.slot.held) handles → AreOf ring recorders
of_ring_held ring [] handles held of place fallback low = absurd (omega (arith, low))
of_ring_held ring (recorder ∷ recorders) [] held of place fallback low = absurd (let same = held.counted in omega (arith, same))
of_ring_held ring (recorder ∷ recorders) (handle ∷ handles) held of zero fallback low =
    ring_of_held ring recorder handle.slot.held (held.each zero handle recorder (omega arith)) (of zero handle (omega arith))
of_ring_held ring (recorder ∷ recorders) (handle ∷ handles) held of (suc place) fallback low =
    of_ring_held ring recorders handles (behind recorder recorders handle handles held)
    (λ n h below. of (suc n) h (omega (arith, below))) place fallback (omega (arith, low))

-- The numbers of recorders that are held are those of what is held.
order_held : (by : ℕ → ℕ) (recorders : List Recorder) (handles : List RecorderHandle) → AreHeld recorders handles
    → ((place : ℕ) (fallback : RecorderHandle) → place < length handles → HasNumber (by place) (get_or handles place fallback).slot.held)
    → (place : ℕ) (fallback : WriterIs) → place < length (writers_of recorders) → (get_or (writers_of recorders) place fallback).number.number ≡ by place
order_held by [] handles held has place fallback low = absurd (omega (arith, low))
order_held by (recorder ∷ recorders) [] held has place fallback low = absurd (let same = held.counted in omega (arith, same))
order_held by (recorder ∷ recorders) (handle ∷ handles) held has zero fallback low =
    number_of_held (by zero) recorder handle.slot.held (held.each zero handle recorder (omega arith)) (has zero handle (omega arith))
order_held by (recorder ∷ recorders) (handle ∷ handles) held has (suc place) fallback low =
    order_held (λ n. by (suc n)) recorders handles (behind recorder recorders handle handles held)
    (λ n h below. has (suc n) h (omega (arith, below))) place fallback (omega (arith, low))

-- They are all of the watch's, where each handle holds the one of its place.
pub all_held : (count : ℕ) (recorders : List Recorder) (handles : List RecorderHandle) → AreHeld recorders handles → AreInPlace count handles
    → AreAll count recorders
all_held count recorders handles held placed = grind (arith, order_held (λ n. n) recorders handles held placed.each)

-- The handles that were taken out of a list held what those did that were there.
pub held_whole : (recorders : List Recorder) (count : ℕ) (taken others olds : List RecorderHandle) → length taken ≡ count → taken ≡ olds
    → AreHeld recorders (take count (taken ++ others)) → AreHeld recorders olds
held_whole recorders count taken others olds same is held = grind (arith, take-append_seam)
