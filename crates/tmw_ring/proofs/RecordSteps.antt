-- What a writer's steps, one after another, come to: an event is recorded at a place, or refused.
use Rattle.tmw_ring.proofs.Shared.{Answered, Bool, HasClaimed, HasFilled, HasMade, HasPublished, HasRecorded, HasSeenFront, HasSeenTail, Kind, List, Me, Parts, TableId, Tail, WriterPart, [], ap, arith, claimed, claiming, done, false, filling, front_look, front_seen, is_full, is_spent, ltb-false, made-then, publishing, room_reply, subst, tail_look, tail_seen, value_filled, writer_actor, writer_in, writer_is, ℕ, ◌+◌, ◌-◌, ◌<◌, ◌∙◌, ◌∷◌, ◌≡◌, ◌≤◌}

-- a writer's two looks, as they are answered where places are spent and the ring is full, or not
abbrev two_looks : Kind → (front tail : ℕ) → (spent full : Bool) → WriterPart → List Answered
two_looks kind front tail spent full part =
    front_look kind front part ∷ record { step = Tail part.number; reply = room_reply spent full front tail } ∷ []

-- A writer has looked at front and then at tail.
pub record Looks (kind : Kind) (front tail : ℕ) (old new : WriterPart) : Type 0 where
  pub first : List Answered
  pub is : new ≡ tail_seen kind tail new.run (front_seen kind front first old)
  pub later : old.seen ≤ tail
  pub steps : HasMade old.size (writer_actor old.number)
      (two_looks kind front tail (is_spent old.size tail) (is_full old.size front tail) old) old.run new.run

module _ {S : Type 0} where
  pub looks : (kind : Kind) (front tail : ℕ) (me mid after : Me S Parts) → HasSeenFront kind me front mid → HasSeenTail kind mid tail after
      → Looks kind front tail (writer_in me.0) (writer_in after.0)
  looks kind front tail me mid after one other =
      let old : WriterPart = writer_in me.0 in
      let first : List Answered = (writer_in mid.0).run in
      let last : List Answered = (writer_in after.0).run in
      let between : writer_in mid.0 ≡ front_seen kind front first old = ap (λ (m : Me S Parts). writer_in m.0) one.0 in
      let second : HasMade old.size (writer_actor old.number) (tail_look tail (front_seen kind front first old) ∷ []) first last =
      subst (λ (part : WriterPart). HasMade part.size (writer_actor part.number) (tail_look tail part ∷ []) first last) between other.1 in
      record {
        first = first;
        is = ap (λ (m : Me S Parts). writer_in m.0) other.0 ∙ ap (tail_seen kind tail last) between;
        later = subst (λ (part : WriterPart). part.seen ≤ tail) between other.2;
        steps = made-then old.size (writer_actor old.number) old.run (front_look kind front old ∷ []) first
            (tail_look tail (front_seen kind front first old) ∷ []) last one.1 second;
      }

-- The steps of two looks, once it is known whether places are spent and the ring is full.
looks-steps : (kind : Kind) (front tail : ℕ) (old new : WriterPart) (spent full : Bool) → Looks kind front tail old new
    → is_spent old.size tail ≡ spent → is_full old.size front tail ≡ full
    → HasMade old.size (writer_actor old.number) (two_looks kind front tail spent full old) old.run new.run
looks-steps kind front tail old new spent full looked is also = grind arith

module _ {S : Type 0} where
  -- There was room, and the event was recorded.
  pub looks-recorded : (kind : Kind) (front tail place : ℕ) (table later : TableId) (old : WriterPart) (seen taken filled after : Me S Parts)
      → Looks kind front tail old (writer_in seen.0) → is_spent old.size tail ≡ false → is_full old.size front tail ≡ false
      → HasClaimed kind seen place taken → HasFilled kind taken filled → HasPublished filled after
      → HasRecorded kind place (writer_is table old) (writer_is later (writer_in after.0))
  looks-recorded kind front tail place table later old seen taken filled after looked spent full claims fills publishes =
      let actor : ℕ = writer_actor old.number in
      let two : List Answered = (writer_in seen.0).run in
      let three : List Answered = (writer_in taken.0).run in
      let four : List Answered = (writer_in filled.0).run in
      let five : List Answered = (writer_in after.0).run in
      let cleared : WriterPart = tail_seen kind tail two (front_seen kind front looked.first old) in
      let was_taken : writer_in taken.0 ≡ claimed kind place three cleared =
      ap (λ (m : Me S Parts). writer_in m.0) claims.0 ∙ ap (claimed kind place three) looked.is in
      let was_filled : writer_in filled.0 ≡ value_filled kind four (claimed kind place three cleared) =
      ap (λ (m : Me S Parts). writer_in m.0) fills.0 ∙ ap (value_filled kind four) was_taken in
      let all : writer_in after.0 ≡ done five (value_filled kind four (claimed kind place three cleared)) =
      ap (λ (m : Me S Parts). writer_in m.0) publishes.0 ∙ ap (done five) was_filled in
      let claim_made : HasMade old.size actor (claiming place old ∷ []) two three =
      subst (λ (part : WriterPart). HasMade part.size (writer_actor part.number) (claiming place part ∷ []) two three) looked.is claims.1 in
      let fill_made : HasMade old.size actor (filling old ∷ []) three four =
      subst (λ (part : WriterPart). HasMade part.size (writer_actor part.number) (filling part ∷ []) three four) was_taken fills.1 in
      let publish_made : HasMade old.size actor (publishing (claimed kind place three cleared) ∷ []) four five =
      subst (λ (part : WriterPart). HasMade part.size (writer_actor part.number) (publishing part ∷ []) four five) was_filled publishes.1 in
      let tail_low : tail ≤ place = subst (λ (part : WriterPart). part.seen ≤ place) looked.is claims.2 in
      let below : place < old.size.limit = subst (λ (part : WriterPart). place < part.size.limit) looked.is claims.3 in
      let some_left : tail ≤ old.size.limit - old.size.writers = ltb-false (old.size.limit - old.size.writers) tail spent in
      let reached : (writer_in after.0).seen ≡ place + 1 = ap (λ (part : WriterPart). part.seen) all in
      record {
        made = ap (λ (part : WriterPart). part.made) all;
        later = omega (arith, tail_low, looked.later);
        small = omega (arith, below, old.size.most_places);
        within = below;
        room = omega (arith, some_left, looked.later, old.size.enough_places);
        seen = omega (arith, reached);
        front = front;
        steps = made-then old.size actor old.run (two_looks kind front tail false false old) two
            (claiming place old ∷ filling old ∷ publishing (claimed kind place three cleared) ∷ []) five
            (looks-steps kind front tail old (writer_in seen.0) false false looked spent full)
            (made-then old.size actor two (claiming place old ∷ []) three
            (filling old ∷ publishing (claimed kind place three cleared) ∷ []) five claim_made
            (made-then old.size actor three (filling old ∷ []) four (publishing (claimed kind place three cleared) ∷ []) five fill_made
            publish_made));
      }
