-- Room for several records holds good until so many places more are claimed.
use Rattle.tmw_ring_defs.proofs.Shared.{Answered, Bool, Claimed, Cleared, Core, Event, HasRoomFor, Idle, IsRunTo, Ix, List, Looked, Reply, RingSize, RoomLaw, Runs, Some, Sound, Tail, WriterPhase, [], actor_of, ap, arith, core_step, eqb-true, false, if◌then◌else◌, inl, inr, is_full, is_spent, last_tail, length, new_core, none-some, option_and_then_some, own, places_claimed, places_freed, refl, room_phase, room_reply, slice_get, some_pair_parts, subst, sym, tail_step, true, with_phase, ℕ, ◌++◌, ◌+◌, ◌==◌, ◌∙◌, ◌∷◌, ◌≡◌, ◌≢◌, ◌≤◌}
use Rattle.tmw_ring_defs.proofs.RingLaw.{step_law}
use Rattle.tmw_ring_defs.proofs.RingStart.{new_core-sound}
use Rattle.tmw_ring_defs.proofs.RunsActors.{runs-size}
use Rattle.tmw_ring_defs.proofs.RunsCounts.{LooksFrom, SawFrom, Counts, CountsIn, core_step-counts}
use Rattle.tmw_ring_defs.proofs.RunsProof.{runs-cut, runs-sound}
use Rattle.tmw_ring_defs.specs.declared.ring_step.Reply.TheVariants.{Cleared as IsCleared}

step-counts : (core next : Core) (first : Answered) → core_step first.step core ≡ Some (first.reply, next) → Counts first.step core next
step-counts core next first is = subst (CountsIn first.step core) is (core_step-counts first.step core)

-- A run adds to tail and to front what its steps claim and free.
pub runs-tail : (core end : Core) (run : List Answered) → Runs core run end → end.tail ≡ core.tail + places_claimed run
runs-tail core end [] ran = let same = ap (λ (c : Core). c.tail) ran in omega (arith, same)
runs-tail core end (first ∷ run) (next, is, ran) =
    omega (arith, (step-counts core next first is).tail_counts, runs-tail next end run ran)

pub runs-front : (core end : Core) (run : List Answered) → Runs core run end → end.front ≡ core.front + places_freed run
runs-front core end [] ran = let same = ap (λ (c : Core). c.front) ran in omega (arith, same)
runs-front core end (first ∷ run) (next, is, ran) =
    omega (arith, (step-counts core next first is).front_counts, runs-front next end run ran)

-- What a writer has seen stays seen.
runs-still : (low writer : ℕ) (core end : Core) (run : List Answered) → low ≤ core.front → LooksFrom low writer core.writers
    → Runs core run end → LooksFrom low writer end.writers
runs-still low writer core end [] within was ran = subst (λ (c : Core). LooksFrom low writer c.writers) (sym ran) was
runs-still low writer core end (first ∷ run) within was (next, is, ran) =
    let counts : Counts first.step core next = step-counts core next first is in
    runs-still low writer next end run (omega (arith, within, counts.front_counts)) (counts.looks low writer within (inr was)) ran

-- A writer that has made a step since has seen no front that was there before.
runs-looks : (low writer : ℕ) (core end : Core) (run : List Answered) → low ≤ core.front → own (writer + 1) run ≢ [] → Runs core run end
    → LooksFrom low writer end.writers
runs-looks low writer core end [] within some ran = absurd (some refl)
runs-looks low writer core end (first ∷ run) within some (next, is, ran) =
    let counts : Counts first.step core next = step-counts core next first is in
    let higher : low ≤ next.front = omega (arith, within, counts.front_counts) in
    by_test (actor_of first.step == writer + 1) refl some
    (λ same. runs-still low writer next end run higher (counts.looks low writer within (inl same)) ran)
    (λ more. runs-looks low writer next end run higher more ran)
  where
    by_test : (test : Bool) → (actor_of first.step == writer + 1) ≡ test
        → (if test then first ∷ own (writer + 1) run else own (writer + 1) run) ≢ []
        → (actor_of first.step ≡ writer + 1 → LooksFrom low writer end.writers)
        → (own (writer + 1) run ≢ [] → LooksFrom low writer end.writers) → LooksFrom low writer end.writers
    by_test true same _ here later = here (eqb-true (actor_of first.step) (writer + 1) same)
    by_test false apart more here later = later more

-- There is room at a tail that is no further, with a front that is no less.
room_earlier : (size : RingSize) (low tail records front late : ℕ) → HasRoomFor size low tail records → low ≤ front
    → late ≤ last_tail tail records → room_reply (is_spent size late) (is_full size front late) front late ≡ IsCleared
room_earlier size low tail records front late has seen early = grind arith

-- A writer that saw this front at least, and is answered its look at tail, finds room there.
cleared_by : (size : RingSize) (low tail records : ℕ) (writer : Ix) (core next : Core) (phase : WriterPhase) (reply : Reply)
    → HasRoomFor size low tail records → core.size ≡ size → core.tail ≤ last_tail tail records → SawFrom low phase
    → tail_step writer.number core phase ≡ Some (reply, next) → reply ≡ IsCleared
cleared_by size low tail records writer core next Idle reply has sized early saw is = absurd (none-some (reply, next) is)
cleared_by size low tail records writer core next (Looked kind front) reply has sized early saw is =
    let spent : Bool = is_spent core.size core.tail in
    let full : Bool = is_full core.size front core.tail in
    let left : Core = with_phase writer.number (room_phase spent full kind) core in
    let answer : RingSize → Reply = λ z. room_reply (is_spent z core.tail) (is_full z front core.tail) front core.tail in
    sym (some_pair_parts (room_reply spent full front core.tail) reply left next is).0
    ∙ ap answer sized ∙ room_earlier size low tail records front core.tail has saw early
cleared_by size low tail records writer core next (Cleared kind) reply has sized early saw is = absurd (none-some (reply, next) is)
cleared_by size low tail records writer core next (Claimed place kind is_filled) reply has sized early saw is =
    absurd (none-some (reply, next) is)

pub room_law : RoomLaw
room_law size before since front records writer reply (end, ran) freed has some few =
    let (mid, first, later) = runs-cut (new_core size) end before (since ++ record { step = Tail writer; reply = reply } ∷ []) ran in
    let (late, second, last) = runs-cut mid end since (record { step = Tail writer; reply = reply } ∷ []) later in
    let low : front ≤ mid.front = omega (arith, freed, runs-front (new_core size) mid before first) in
    let looks : LooksFrom front writer.number late.writers = runs-looks front writer.number mid late since low some second in
    let early : late.tail ≤ last_tail (places_claimed before) records =
    omega (arith, few, runs-tail (new_core size) mid before first, runs-tail mid late since second) in
    let sized : late.size ≡ size = runs-size size mid late since (runs-size size (new_core size) mid before refl first) second in
    option_and_then_some (tail_step writer.number late) (slice_get late.writers writer.number) (reply, last.0) last.1
    (λ phase at made.
    cleared_by size front (places_claimed before) records writer late last.0 phase reply has sized early (looks phase at) made)

-- Two runs in a row claim and free what both do.
pub places_claimed-append : (past rest : List Answered) → places_claimed (past ++ rest) ≡ places_claimed past + places_claimed rest
places_claimed-append [] rest = omega arith
places_claimed-append (first ∷ past) rest = omega (arith, places_claimed-append past rest)

pub places_freed-append : (past rest : List Answered) → places_freed (past ++ rest) ≡ places_freed past + places_freed rest
places_freed-append [] rest = omega arith
places_freed-append (first ∷ past) rest = omega (arith, places_freed-append past rest)

-- The log of a run has what the run has claimed, which is no less than what it has freed.
pub run-counted : (size : RingSize) (run : List Answered) (log : List Event) → IsRunTo size run log
    → (length log ≡ places_claimed run) × (places_freed run ≤ length log)
run-counted size run log (core, ran, is) =
    let sound : Sound core = runs-sound step_law (new_core size) core run (new_core-sound size) ran in
    grind (arith, runs-tail, runs-front)
