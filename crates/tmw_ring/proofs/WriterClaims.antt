-- A writer may claim a place.
use Rattle.tmw_ring.proofs.Shared.{Allows, Answered, Cleared, Core, Event, FitsKind, HasClaimed, IsIn, IsReal, IsRecorded, IsSeatOf, Ix, Kind, List, Made, Me, Parts, Place, RingSize, Shown, Some, Sound, WriterFits, WriterMade, WriterPart, WriterPhase, Writes, [], ap, arith, claimed, claiming, cleared, event_of, keeps, length, made_at, made_from, ne_eqb, refl, set, slice_get, slice_get_within, slice_index, subst, suc, sym, words_of, writer_actor, writer_in, zero, ℕ, ◌%◌, ◌++◌, ◌+◌, ◌<◌, ◌∙◌, ◌∷◌, ◌≡◌, ◌≢◌, ◌≤◌}
use Rattle.tmw_ring_defs.proofs.RingClaims.{with_claim, claim_keeps}
use Rattle.tmw_ring.proofs.Moves.{Makes}
use Rattle.tmw_ring.proofs.WriterSteps.{Goes, writer_fits, writer_moves, writer_made}

-- Places of a longer log: the writer's own event stands at its end,
made_from-own : (writer : Ix) (kind : Kind) (from : ℕ) (log : List Event)
    → made_from writer.number from (log ++ event_of writer kind ∷ [])
    ≡ made_from writer.number from log ++ made_at writer kind (from + length log) ∷ []
made_from-own writer kind from [] =
    let last : from + 0 ≡ from = omega arith in grind arith
made_from-own writer kind from (event ∷ log) =
    grind (arith, (made_from-own writer kind (from + 1) log))

-- and another's adds nothing.
made_from-other : (writer : Ix) (kind : Kind) (other from : ℕ) (log : List Event) → other ≢ writer.number
    → made_from other from (log ++ event_of writer kind ∷ []) ≡ made_from other from log
made_from-other writer kind other from [] apart = rw (ne_eqb writer.number other (λ same. apart (sym same))) refl
made_from-other writer kind other from (event ∷ log) apart =
    cc (made_from-other writer kind other (from + 1) log apart)

-- The longer log has its events, and the new one.
log_cases : (log : List Event) (last : Event) (place : ℕ) (event : Event) → (P : Event → Type 0)
    → ((at : ℕ) (found : Event) → slice_get log at ≡ Some found → P found) → P last
    → slice_get (log ++ last ∷ []) place ≡ Some event → P event
log_cases [] last zero event P before now at = subst P (cc) now
log_cases [] last (suc place) event P before now at = absurd (cc)
log_cases (first ∷ log) last zero event P before now at = before 0 event at
log_cases (first ∷ log) last (suc place) event P before now at =
    log_cases log last place event P (λ later found is. before (suc later) found is) now at

claim_makes : (kind : Kind) (core : Core) (part : WriterPart) → WriterFits core part → part.phase ≡ Cleared kind
    → Makes (writer_actor part.number) core (claiming core.tail part) (with_claim part.number kind core)
claim_makes kind core part fits is_cleared = grind arith

claim_goes : (kind : Kind) (core : Core) (part : WriterPart) (run : List Answered) → Sound core → IsReal core → WriterFits core part
    → part.phase ≡ Cleared kind → Goes core (with_claim part.number kind core) part (claimed kind core.tail run part)
claim_goes kind core part run sound real fits is_cleared =
    let at : IsIn core part.number.number (Cleared kind) = fits.phase ∙ ap Some is_cleared in
    let next : Core = with_claim part.number kind core in
    let sound_next : Sound next = (claim_keeps part.number core (Cleared kind) (Place core.tail) next sound at refl).0 in
    let within = slice_get_within core.writers part.number.number (Cleared kind) at in
    let fits_kind : FitsKind kind = real.phases part.number.number (Cleared kind) at in
    let last : 0 + length core.log ≡ core.tail = omega (arith, sound.tail) in
    record {
      sized = refl;
      sound = sound_next;
      same_size = refl;
      same_number = refl;
      writers = refl;
      reader = refl;
      taken = refl;
      made = ap (λ (made : List Made). made ++ made_at part.number kind core.tail ∷ []) fits.made
          ∙ ap (λ (place : ℕ). made_from part.number.number 0 core.log ++ made_at part.number kind place ∷ []) (sym last)
          ∙ sym (made_from-own part.number kind 0 core.log);
      others = λ other apart. made_from-other part.number kind other 0 core.log apart;
      seen = omega arith;
      later = omega arith;
      headers = real.headers;
      events = λ place event found.
          log_cases core.log (event_of part.number kind) place event (IsRecorded core.size) real.events
          (record { thread = omega (arith, within, sound.writers); value = fits_kind }) found;
      phase_fits = fits_kind;
    }

-- Where a writer is cleared there is one at least.
cleared-some : (phases : List WriterPhase) (writer : ℕ) (kind : Kind) → slice_get phases writer ≡ Some (Cleared kind) → 0 < cleared phases
cleared-some [] writer kind at = absurd (cc)
cleared-some (first ∷ phases) zero kind at = let same : first ≡ Cleared kind = cc in rw same (omega arith)
cleared-some (first ∷ phases) (suc writer) kind at = omega (arith, cleared-some phases writer kind at)

module _ {S : Type 0} where
  claim_allowed : (size : RingSize) (slots seat : ℕ) (kind : Kind) (part : WriterPart) → part.phase ≡ Cleared kind
      → Allows {S = S} {V = Parts} (Shown size) slots seat (Writes part ∷ [], []) 0 (λ found. (found + 1) % 18446744073709551616)
      (HasClaimed kind (Writes part ∷ [], []))
  claim_allowed size slots seat kind part is_cleared state shown none_lent seated small =
      let core = shown.core in
      let fits = writer_fits size state shown seat part seated in
      let makes = claim_makes kind core part fits is_cleared in
      let run : List Answered = shown.run ++ claiming core.tail part ∷ [] in
      let goes = claim_goes kind core part run shown.sound shown.real fits is_cleared in
      let at : IsIn core part.number.number (Cleared kind) = fits.phase ∙ ap Some is_cleared in
      let found : slice_index state.words 0 ≡ core.tail = ap (λ (words : List ℕ). slice_index words 0) shown.words in
      let more : core.tail + cleared core.writers ≤ core.size.limit = shown.sound.limited in
      let some_cleared : 0 < cleared core.writers = cleared-some core.writers part.number.number kind at in
      let below : core.tail < core.size.limit = omega (arith, more, some_cleared) in
      let few = core.size.most_places in
      let sum : (slice_index state.words 0 + 1) % 18446744073709551616 ≡ core.tail + 1 = omega (arith, found, below, few) in
      let new : WriterPart = claimed kind (slice_index state.words 0) run part in
      let next : Core = with_claim part.number kind core in
      let made = writer_made size state shown seat part next (claiming core.tail part) seated makes in
      let words : set state.words 0 ((slice_index state.words 0 + 1) % 18446744073709551616) ≡ words_of next =
      ap (λ (words : List ℕ). set words 0 ((slice_index state.words 0 + 1) % 18446744073709551616)) shown.words
      ∙ ap (λ (tail : ℕ). set (words_of core) 0 tail) sum in
      let limit : part.size.limit ≡ core.size.limit = ap (λ (z : RingSize). z.limit) fits.sized in (
        Writes new ∷ [],
        keeps,
        tt,
        writer_moves size state shown seat 0 ((slice_index state.words 0 + 1) % 18446744073709551616) part new next
            (claiming core.tail part) seated words makes refl
            (subst (λ (tail : ℕ). Goes core next part (claimed kind tail run part)) (sym found) goes),
        (
          refl,
          subst (λ (tail : ℕ). WriterMade part (claiming tail part) run) (sym found) made,
          omega (arith, found, fits.seen),
          omega (arith, found, limit, below),
        ),
      )

  -- A cleared writer may claim a place.
  pub claims : (size own : RingSize) (slots seat : ℕ) (kind : Kind) (me : Me S Parts) → IsSeatOf own (Cleared kind) me
      → Allows {S = S} {V = Parts} (Shown size) slots seat me 0 (λ found. (found + 1) % 18446744073709551616) (HasClaimed kind me)
  claims size own slots seat kind me is =
      subst (λ (m : Me S Parts). Allows {S = S} {V = Parts} (Shown size) slots seat m 0 (λ found. (found + 1) % 18446744073709551616)
      (HasClaimed kind m)) (sym is.seated)
      (claim_allowed size slots seat kind (writer_in me.0) is.phase_is)
