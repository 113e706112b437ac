-- A record that is refused after several were found to have room has found that as many places more were claimed.
use Rattle.tmw_ring.proofs.Shared.{Answered, Bool, Front, HasFoundRoom, HasRoomFor, HasStepped, IsRun, Ix, Kind, List, RingSize, RoomStaysLaw, Tail, WriterIs, [], ap, append_assoc, arith, false, leb, leb-false, leb-true, length, length_push, new_core, own, own-append, own-cut, places_claimed, places_claimed-append, places_freed, places_freed-append, refl, room_law, run-counted, runs-cut, runs-tail, subst, sym, true, writer_actor, ℕ, ◌++◌, ◌+◌, ◌<◌, ◌∙◌, ◌∷◌, ◌≡◌, ◌≢◌, ◌≤◌}
use Rattle.tmw_ring.specs.declared.refused.Refused.TheVariants.{Full, Spent}
use Rattle.tmw_ring_defs.specs.declared.ring_step.Reply.{Reply}
use Rattle.tmw_ring_defs.specs.declared.ring_step.Reply.TheVariants.{Saw, Cleared as IsCleared, Full as IsFull, Spent as IsSpent, Place, Filled, Published, Ready, NotReady, Word, Taken, Stopped, NotNow}

-- A refusal tells this tail.
abbrev Tells : ℕ → Reply → Type 0
Tells tail (IsFull front found) = tail ≡ found
Tells tail (IsSpent found) = tail ≡ found
Tells tail (Saw front) = Unit {0}
Tells tail IsCleared = Unit {0}
Tells tail (Place place) = Unit {0}
Tells tail Filled = Unit {0}
Tells tail (Published place) = Unit {0}
Tells tail Ready = Unit {0}
Tells tail NotReady = Unit {0}
Tells tail (Word value) = Unit {0}
Tells tail (Taken event) = Unit {0}
Tells tail Stopped = Unit {0}
Tells tail NotNow = Unit {0}

-- The refusal that ends a run tells how many places the run has claimed.
run_tells : (size : RingSize) (run : List Answered) (writer : Ix) (reply : Reply)
    → IsRun size (run ++ record { step = Tail writer; reply = reply } ∷ []) → Tells (places_claimed run) reply
run_tells size run writer reply (end, ran) = grind (arith, runs-cut, runs-tail)

-- What precedes the rest of a run is a run.
run_before : (size : RingSize) (past rest : List Answered) → IsRun size (past ++ rest) → IsRun size past
run_before size past rest (end, ran) =
    let (core, before, after) = runs-cut (new_core size) end past rest ran in (core, before)

-- Four runs in a row, cut before the last.
parts : {A : Type 0} (known since early late : List A) (last : A)
    → (known ++ since) ++ (early ++ last ∷ late) ≡ (known ++ ((since ++ early) ++ last ∷ [])) ++ late
parts known since early late last = grind (arith, append_assoc)

-- A writer is refused in two steps: then so many places more are claimed.
refused_later : (size : RingSize) (known since gone : List Answered) (front records seen : ℕ) (writer : Ix) (kind : Kind) (reply : Reply)
    → IsRun size ((known ++ since) ++ gone) → front ≤ places_freed known → HasRoomFor size front (places_claimed known) records
    → own (writer_actor writer) gone
    ≡ record { step = Front writer kind; reply = Saw seen } ∷ record { step = Tail writer; reply = reply } ∷ [] → reply ≢ IsCleared
    → (total : ℕ) × Tells total reply × (places_claimed known + records ≤ total)
refused_later size known since gone front records seen writer kind reply ran freed has made refused =
    let look : Answered = record { step = Front writer kind; reply = Saw seen } in
    let last : Answered = record { step = Tail writer; reply = reply } in
    let (early, late, cut, mine) = own-cut (writer_actor writer) gone (look ∷ []) last [] made in
    let whole : (known ++ since) ++ gone ≡ (known ++ ((since ++ early) ++ last ∷ [])) ++ late =
    ap (λ (rest : List Answered). (known ++ since) ++ rest) cut ∙ parts known since early late last in
    let first : IsRun size (known ++ ((since ++ early) ++ last ∷ [])) =
    run_before size (known ++ ((since ++ early) ++ last ∷ [])) late (subst (IsRun size) whole ran) in
    let looked : own (writer_actor writer) (since ++ early) ≡ own (writer_actor writer) since ++ look ∷ [] =
    own-append (writer_actor writer) since early ∙ ap (λ (steps : List Answered). own (writer_actor writer) since ++ steps) mine in
    let some : own (writer_actor writer) (since ++ early) ≢ [] =
    λ none.
    let count = ap (λ (steps : List Answered). length steps) (sym looked ∙ none) in
    absurd (omega (arith, count, length_push (own (writer_actor writer) since) look)) in
    let enough : records ≤ places_claimed (since ++ early) =
    by_order (leb records (places_claimed (since ++ early))) refl
    (λ few. refused (room_law size known (since ++ early) front records writer reply first freed has some few)) in (
      places_claimed (known ++ (since ++ early)),
      run_tells size (known ++ (since ++ early)) writer reply
          (subst (IsRun size) (sym (append_assoc known (since ++ early) (last ∷ []))) first),
      omega (arith, enough, places_claimed-append known (since ++ early)),
    )
  where
    by_order : {few many : ℕ} (test : Bool) → leb many few ≡ test → (few < many → ⊥) → many ≤ few
    by_order {few} {many} true is never = leb-true many few is
    by_order {few} {many} false is never = absurd (never (leb-false many few is))

-- How many places a look found claimed, and that it saw a front that was freed.
looked_so : (records : ℕ) (old found : WriterIs) (has : HasFoundRoom records old found)
    → (has.tail ≡ places_claimed found.run) × (has.front ≤ places_freed found.run)
looked_so records old found has =
    let (between, fronted, tailed) = has.looked in
    let known : places_claimed tailed.run ≡ places_claimed found.run = ap places_claimed (sym tailed.meets.knows) in
    let freed : places_freed found.run ≡ places_freed (between.run ++ tailed.meets.gone.since) =
    ap places_freed (tailed.meets.knows ∙ tailed.meets.gone.longer) in (
      omega (arith, tailed.counted, (run-counted between.size tailed.run tailed.log tailed.meets.run_to).0, known),
      omega (arith, fronted.counted, freed, places_freed-append between.run tailed.meets.gone.since),
    )

-- A writer, as callers see it, that found room and is refused: so many places more were claimed meanwhile.
refused_by : (records : ℕ) (old found before after : WriterIs) (has : HasFoundRoom records old found) (since : List Answered) (kind : Kind)
    (seen : ℕ) (reply : Reply) → before.size ≡ old.size → before.run ≡ found.run ++ since
    → HasStepped
    (record { step = Front before.number kind; reply = Saw seen } ∷ record { step = Tail before.number; reply = reply } ∷ []) before after
    → reply ≢ IsCleared → (total : ℕ) × Tells total reply × (places_claimed found.run + records ≤ total)
refused_by records old found before after has since kind seen reply sized goes stepped refused =
    let looked = looked_so records old found has in
    let room : HasRoomFor old.size has.front (places_claimed found.run) records =
    subst (λ (tail : ℕ). HasRoomFor old.size has.front tail records) looked.0 has.room in
    let ran : IsRun old.size ((found.run ++ since) ++ stepped.gone.since) =
    subst (λ (run : List Answered). IsRun old.size run)
    (stepped.gone.longer ∙ ap (λ (run : List Answered). run ++ stepped.gone.since) goes)
    (subst (λ (size : RingSize). IsRun size after.run) sized stepped.is_run) in
    refused_later old.size found.run since stepped.gone.since has.front records seen before.number kind reply ran looked.1 room
    stepped.gone.own_steps refused

pub room_stays_law : RoomStaysLaw
room_stays_law records old found before after has since kind (Full front tail) sized goes is =
    let looked = looked_so records old found has in
    let (total, told, enough) = refused_by records old found before after has since kind front (IsFull front tail) sized goes is.1 (λ same. cc) in
    omega arith
room_stays_law records old found before after has since kind (Spent tail) sized goes (front, found_tail, stepped, spent) =
    grind arith
