-- Places that a writer claims, call after call.
use Rattle.tmw_workers.proofs.Shared.{All-append, Err, HasClaimed, HasTried, IsTrue, Kind, List, Made, Ok, Refused, RingIs, StopsAt, WriterIs, WriterOf, [], answers, ap, append-nil, append_assoc, arith, inl, inr, kinds_made, tail_of, ℕ, ◌++◌, ◌<◌, ◌∙◌, ◌∷◌, ◌≡◌, ◌≤◌}
use Rattle.tmw_ring.proofs.KindsMade.{kinds_made-append}
use Rattle.tmw_workers.proofs.Tries.{has_looked-refused, was_refused-tried}

-- nothing was claimed
pub claimed-none : (writer : WriterIs) → HasClaimed [] writer writer
claimed-none writer = grind (arith, append-nil)

-- places were claimed, and then more
pub claimed-more : (first then : List Kind) (old middle new : WriterIs) → HasClaimed first old middle → HasClaimed then middle new
    → HasClaimed (first ++ then) old new
claimed-more first then old middle new one two =
    let seen_one = one.seen in
    let seen_two = two.seen in
    record {
      fresh = one.fresh ++ two.fresh;
      is = kinds_made-append one.fresh two.fresh ∙ ap (λ (l : List Kind). l ++ kinds_made two.fresh) one.is
          ∙ ap (λ (l : List Kind). first ++ l) two.is;
      made = two.made ∙ ap (λ (l : List Made). l ++ two.fresh) one.made ∙ append_assoc old.made one.fresh two.fresh;
      later = All-append (λ made. old.seen ≤ made.place) one.fresh two.fresh one.later
          (λ place fallback low. let later = two.later place fallback low in omega (arith, later, seen_one));
      earlier = All-append (λ made. made.place < new.seen) one.fresh two.fresh
          (λ place fallback low. let earlier = one.earlier place fallback low in omega (arith, earlier, seen_two)) two.earlier;
      seen = omega (arith, seen_one, seen_two);
    }

-- one record was made
pub claimed-tried : (kind : Kind) (old : WriterIs) (place : ℕ) (new : WriterIs) → HasTried kind old (Ok place) new
    → HasClaimed (kind ∷ []) old new
claimed-tried kind old place new (before, waited, recorded) = grind arith

-- a record was refused
pub claimed-refused : (kind : Kind) (old : WriterIs) (refused : Refused) (new : WriterIs) → HasTried kind old (Err refused) new
    → HasClaimed [] old new
claimed-refused kind old refused new (before, waited, is) =
    grind (arith, has_looked-refused, append-nil)

-- a refusal finds no fewer places claimed than the writer had seen
later-refused : (kind : Kind) (old : WriterIs) (refused : Refused) (new : WriterIs) → HasTried kind old (Err refused) new
    → old.seen ≤ tail_of refused
later-refused kind old refused new h1 = grind arith

-- the record of the call was refused
pub stops_at-call : (ring : RingIs) (call : Kind) (refused : Refused) (before after : WriterIs) → WriterOf ring before → WriterOf ring after
    → after.number ≡ before.number → HasTried call before (Err refused) after → StopsAt call refused before after
stops_at-call ring call refused before after before_of after_of number tried = (
  later-refused call before refused after tried,
  inl (claimed-refused call before refused after tried, was_refused-tried ring call before refused after before_of after_of number tried),
)

-- the call was recorded, and the record of its answer was refused
pub stops_at-answer : (ring : RingIs) (call answer : Kind) (place : ℕ) (refused : Refused) (before middle after : WriterIs) → WriterOf ring middle
    → WriterOf ring after → after.number ≡ middle.number → HasTried call before (Ok place) middle → IsTrue (answers call answer)
    → HasTried answer middle (Err refused) after → StopsAt call refused before after
stops_at-answer ring call answer place refused before middle after middle_of after_of number called fits tried =
    let first = claimed-tried call before place middle called in (
      omega (arith, first.seen, later-refused answer middle refused after tried),
      inr (
        answer,
        fits,
        claimed-more (call ∷ []) [] before middle after first (claimed-refused answer middle refused after tried),
        was_refused-tried ring answer middle refused after middle_of after_of number tried,
      ),
    )
