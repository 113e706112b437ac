-- Runs join end to end, lead to one state each, and are told apart by whose steps they have.
use Rattle.tmw_ring_defs.proofs.Shared.{Answered, Core, Gone, HasMade, IsIn, Ix, List, NoneOf, RingSize, Runs, Sound, StepLaw, Stepped, WriterPhase, [], actor_of, ap, append-nil, append_assoc, arith, by_writer, eq-eqb, ne_eqb, option_and_then, own, refl, some_pair_parts, subst, sym, ℕ, ◌++◌, ◌∙◌, ◌∷◌, ◌≡◌, ◌≢◌}

-- The own steps of two runs in a row are those of the first and then those of the second.
pub own-append : (actor : ℕ) (past rest : List Answered) → own actor (past ++ rest) ≡ own actor past ++ own actor rest
own-append actor [] rest = refl
own-append actor (first ∷ past) rest = grind (arith, (own-append actor past rest))

-- One step is its actor's own, and no other's.
pub own-mine : (actor : ℕ) (answered : Answered) → actor_of answered.step ≡ actor → own actor (answered ∷ []) ≡ answered ∷ []
own-mine actor answered is = rw (eq-eqb (actor_of answered.step) actor is) refl

pub own-others : (actor : ℕ) (answered : Answered) → actor_of answered.step ≢ actor → NoneOf actor (answered ∷ [])
own-others actor answered apart = rw (ne_eqb (actor_of answered.step) actor apart) refl

-- Runs join end to end, and may be cut anywhere.
pub runs-append : (core mid end : Core) (past rest : List Answered) → Runs core past mid → Runs mid rest end → Runs core (past ++ rest) end
runs-append core mid end [] rest ran goes_on = subst (λ (c : Core). Runs c rest end) ran goes_on
runs-append core mid end (first ∷ past) rest (next, is, ran) goes_on = (next, is, runs-append next mid end past rest ran goes_on)

pub runs-cut : (core end : Core) (past rest : List Answered) → Runs core (past ++ rest) end
    → (mid : Core) × Runs core past mid × Runs mid rest end
runs-cut core end [] rest ran = (core, refl, ran)
runs-cut core end (first ∷ past) rest (next, is, ran) =
    let (mid, before, after) = runs-cut next end past rest ran in (mid, (next, is, before), after)

-- A run leads to one state.
pub runs-same : (core one other : Core) (run : List Answered) → Runs core run one → Runs core run other → one ≡ other
runs-same core one other [] ran again = ran ∙ sym again
runs-same core one other (first ∷ run) (next, is, ran) (again, also, goes) =
    let same : again ≡ next = (some_pair_parts first.reply first.reply again next (sym also ∙ is)).1 in
    runs-same next one other run ran (subst (λ (c : Core). Runs c run other) same goes)

-- A ring that is sound stays so.
pub runs-sound : StepLaw → (core end : Core) (run : List Answered) → Sound core → Runs core run end → Sound end
runs-sound law core end [] sound ran = subst Sound (sym ran) sound
runs-sound law core end (first ∷ run) sound (next, is, ran) =
    runs-sound law next end run (law first.step core next first.reply sound is).0 ran

-- A run that has not gone on.
pub gone-none : (actor : ℕ) (run : List Answered) → Gone actor run [] run
gone-none actor run = record { since = []; longer = sym (append-nil run); own_steps = refl }

-- A run that goes on twice.
pub gone-then : (actor : ℕ) (old first mid second new : List Answered) → Gone actor old first mid → Gone actor mid second new
    → Gone actor old (first ++ second) new
gone-then actor old first mid second new one other = grind (arith, append_assoc, own-append)

-- Who has made none of the last steps, and then makes one.
pub gone-step : (actor : ℕ) (old run : List Answered) (answered : Answered) → actor_of answered.step ≡ actor → Gone actor old [] run
    → Gone actor old (answered ∷ []) (run ++ answered ∷ [])
gone-step actor old run answered is gone =
    gone-then actor old [] run (answered ∷ []) (run ++ answered ∷ []) gone
    (record { since = answered ∷ []; longer = refl; own_steps = own-mine actor answered is })

-- Who makes none of the steps by which the run goes on.
pub gone-others : (actor : ℕ) (old run since : List Answered) → NoneOf actor since → Gone actor old [] run → Gone actor old [] (run ++ since)
gone-others actor old run since none gone =
    gone-then actor old [] run [] (run ++ since) gone (record { since = since; longer = refl; own_steps = none })

-- Steps that were made one after another.
pub made-then : (size : RingSize) (actor : ℕ) (old first mid second new : List Answered) → HasMade size actor first old mid
    → HasMade size actor second mid new → HasMade size actor (first ++ second) old new
made-then size actor old first mid second new one other = grind (arith, gone-then)

-- A writer that is so far steps from there.
pub by_writer-in : (writer : Ix) (core : Core) (step : WriterPhase → Stepped) (phase : WriterPhase) → IsIn core writer.number phase
    → by_writer writer core step ≡ step phase
by_writer-in writer core step phase is = ap (option_and_then step) is
