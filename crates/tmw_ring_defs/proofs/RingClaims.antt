-- A claim from a sound state leaves a sound state: the new place is tail's, its event is the log's last, and its cell is free.
use Rattle.tmw_ring_defs.proofs.Shared.{All-weaker, Bool, Claimed, Cleared, Core, Event, Holds, Idle, IsHeld, IsIn, IsPublished, Ix, Kind, List, Looked, Place, Reply, RingCell, Some, Sound, Spares, WriterPhase, [], ap, arith, cases_lt, claim_step, cleared, false, inl, inr, length, length-set, length_push, none-some, refl, slice_get, slice_get_within, slice_set, some_pair_parts, subst, suc, sym, take-append-le, zero, ℕ, ◌++◌, ◌+◌, ◌<◌, ◌∙◌, ◌∷◌, ◌≡◌, ◌≢◌, ◌≤◌, ◌⊎◌}
use Rattle.tmw_ring_defs.proofs.RingPhases.{phase_set, phase_kept, phase_cases, claimed_parts, cleared-set}
use Rattle.tmw_ring_defs.proofs.RingPlaces.{event_of, published_still, holds_still, read_still}
use Rattle.tmw_ring_defs.proofs.RingStores.{held_stands, stamp_low}

-- the state after the claim
abbrev pub with_claim : Ix → Kind → Core → Core
with_claim writer kind core = record core {
  tail = core.tail + 1;
  writers = slice_set core.writers writer.number (Claimed core.tail kind false);
  log = core.log ++ event_of writer kind ∷ [];
}

-- The longer log keeps its events
logs_more : (log more : List Event) (place : ℕ) (event : Event) → slice_get log place ≡ Some event → slice_get (log ++ more) place ≡ Some event
logs_more [] more place event logged = absurd (cc)
logs_more (first ∷ log) more zero event logged = logged
logs_more (first ∷ log) more (suc place) event logged = logs_more log more place event logged

-- and has the new one at its end.
logs_last : (log : List Event) (event : Event) (place : ℕ) → place ≡ length log → slice_get (log ++ event ∷ []) place ≡ Some event
logs_last [] event zero last = refl
logs_last [] event (suc place) last = absurd (omega arith)
logs_last (first ∷ log) event zero last = absurd (omega arith)
logs_last (first ∷ log) event (suc place) last = logs_last log event place (omega arith)

-- The writer holds the new place; all others are as before.
claim-places : (writer : Ix) (kind : Kind) (old : Core) → Sound old → IsIn old writer.number (Cleared kind)
    → (place : ℕ) → old.front ≤ place → place < old.tail + 1
    → IsHeld (with_claim writer kind old) place ⊎ IsPublished (with_claim writer kind old) place
claim-places writer kind old sound at place low high =
    elim (cases_lt place old.tail) [
      | inl below ↦ elim (sound.places place low below) [
        | inl held ↦ grind (arith, phase_kept)
        | inr published ↦
            inr (published_still old (with_claim writer kind old) place (logs_more old.log (event_of writer kind ∷ [])) refl published)
      ]
      | inr above ↦
          let last : old.tail ≡ place = omega arith in
          let set = phase_set old.writers writer.number (Claimed old.tail kind false)
          (slice_get_within old.writers writer.number (Cleared kind) at) in
          grind arith
    ]

-- The new place's cell isn't stamped for it, since no stamp was ahead of tail.
claim-holds : (writer : Ix) (kind : Kind) (old : Core) → Sound old → IsIn old writer.number (Cleared kind)
    → (other place : ℕ) (found : Kind) (is_filled : Bool) → IsIn (with_claim writer kind old) other (Claimed place found is_filled)
    → Holds (with_claim writer kind old) other place found is_filled
claim-holds writer kind old sound at other place found is_filled claimed =
    elim (phase_cases old.writers writer.number other (Claimed old.tail kind false) (Claimed place found is_filled) claimed) [
      | inl set ↦
          let parts = claimed_parts old.tail place kind found false is_filled set.1 in
          record {
            event = event_of writer kind;
            logged = logs_last old.log (event_of writer kind) place (sym parts.0 ∙ sound.tail);
            own = sym set.0;
            same = parts.1;
            standing = omega (arith, sound.order, parts.0);
            unstamped = λ stamped. absurd (omega (arith, stamped, stamp_low old place sound, parts.0));
            value = λ is. absurd (let unfilled = parts.2 in cc);
          }
      | inr kept ↦
          let was = sound.holds other place found is_filled kept.1 in
          holds_still old (with_claim writer kind old) other place found is_filled (logs_more old.log (event_of writer kind ∷ []))
          was.standing refl was
    ]

-- Nobody else holds it, since all places that were held are below tail.
claim-once : (writer : Ix) (kind : Kind) (old : Core) → Sound old → IsIn old writer.number (Cleared kind)
    → (a b place : ℕ) (k l : Kind) (p q : Bool) → IsIn (with_claim writer kind old) a (Claimed place k p)
    → IsIn (with_claim writer kind old) b (Claimed place l q) → a ≡ b
claim-once writer kind old sound at a b place k l p q at_a at_b =
    elim (cases a k p at_a) [
      | inl set_a ↦ elim (cases b l q at_b) [
        | inl set_b ↦ set_a.0 ∙ sym set_b.0
        | inr kept_b ↦ absurd (older b l q kept_b.1 (claimed_parts old.tail place kind k false p set_a.1).0)
      ]
      | inr kept_a ↦ elim (cases b l q at_b) [
        | inl set_b ↦ absurd (older a k p kept_a.1 (claimed_parts old.tail place kind l false q set_b.1).0)
        | inr kept_b ↦ sound.once a b place k l p q kept_a.1 kept_b.1
      ]
    ]
  where
    cases : (other : ℕ) (found : Kind) (is_filled : Bool) → IsIn (with_claim writer kind old) other (Claimed place found is_filled)
        → ((other ≡ writer.number) × (Claimed old.tail kind false ≡ Claimed place found is_filled))
        ⊎ ((other ≢ writer.number) × IsIn old other (Claimed place found is_filled))
    cases other found is_filled claimed =
        phase_cases old.writers writer.number other (Claimed old.tail kind false) (Claimed place found is_filled) claimed

    older : (other : ℕ) (found : Kind) (is_filled : Bool) → IsIn old other (Claimed place found is_filled) → old.tail ≡ place → ⊥
    older other found is_filled claimed last =
        let stands = held_stands old other place found is_filled sound claimed in omega (arith, stands.high, last)

claim-sound : (writer : Ix) (kind : Kind) (old : Core) → Sound old → IsIn old writer.number (Cleared kind)
    → Sound (with_claim writer kind old)
claim-sound writer kind old sound at =
    let phase : WriterPhase = Claimed old.tail kind false in
    let fewer : cleared (slice_set old.writers writer.number phase) + 1 ≡ cleared old.writers + 0 =
    cleared-set old.writers writer.number (Cleared kind) phase at in
    let begun : old.front ≤ length old.log = omega (arith, sound.order, sound.tail) in
    record {
      cells = sound.cells;
      writers = length-set old.writers writer.number phase ∙ sound.writers;
      tail = ap (λ (n : ℕ). n + 1) sound.tail ∙ sym (length_push old.log (event_of writer kind));
      front = sound.front;
      begins = sound.begins ∙ sym (take-append-le old.front old.log (event_of writer kind ∷ []) begun);
      order = omega (arith, sound.order);
      room = omega (arith, sound.room, fewer);
      limited = omega (arith, sound.limited, fewer);
      looks = λ other front found looked.
          elim (phase_cases old.writers writer.number other phase (Looked found front) looked) [
            | inl set ↦ absurd (let same = set.1 in cc)
            | inr kept ↦ sound.looks other front found kept.1
          ];
      places = claim-places writer kind old sound at;
      holds = claim-holds writer kind old sound at;
      once = claim-once writer kind old sound at;
      stamps = All-weaker (λ (cell : RingCell). cell.stamp ≤ old.tail) (λ (cell : RingCell). cell.stamp ≤ old.tail + 1)
          (λ cell low. omega arith) old.cells sound.stamps;
      reads = read_still old (with_claim writer kind old) old.reader
          (λ was. (published_still old (with_claim writer kind old) old.front (logs_more old.log (event_of writer kind ∷ [])) refl was, refl))
          sound.reads;
    }

pub claim_keeps : (writer : Ix) (old : Core) (phase : WriterPhase) (reply : Reply) (new : Core) → Sound old → IsIn old writer.number phase
    → claim_step writer old phase ≡ Some (reply, new) → Sound new × Spares old new
claim_keeps writer old Idle reply new sound at step = absurd (none-some (reply, new) step)
claim_keeps writer old (Looked kind front) reply new sound at step = absurd (none-some (reply, new) step)
claim_keeps writer old (Cleared kind) reply new sound at step =
    let parts = some_pair_parts (Place old.tail) reply (with_claim writer kind old) new step in
    subst (λ (core : Core). Sound core × Spares old core) parts.1 (claim-sound writer kind old sound at, λ place low published. refl)
claim_keeps writer old (Claimed place kind is_filled) reply new sound at step = absurd (none-some (reply, new) step)
