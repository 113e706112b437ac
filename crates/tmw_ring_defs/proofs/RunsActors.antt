-- Whose steps a run has: each is the reader's or one of the ring's writers', and who makes the last step knows the whole run.
use native.Mathlib.Decide.{ℕ_discrete}
use Rattle.tmw_ring_defs.proofs.Shared.{Answered, Bool, Core, Gone, Ix, List, NoneOf, Reply, RingSize, Runs, Some, Sound, Step, StepLaw, Stepped, WriterPhase, [], actor_of, ap, append_assoc, arith, by_writer, core_step, eq-eqb, false, if◌then◌else◌, inl, inr, length, length_push, new_core, own, refl, slice_get_within, subst, true, ℕ, ◌++◌, ◌+◌, ◌<◌, ◌==◌, ◌∙◌, ◌∷◌, ◌≡◌, ◌≢◌, ◌≤◌, ◌⊎◌}
use Rattle.tmw_ring_defs.proofs.RingSizes.{SameSize, core_step-size}
use Rattle.tmw_ring_defs.proofs.RunsProof.{own-append, runs-cut, runs-sound}

-- The own steps of a run that has gone on.
pub own-gone : (actor : ℕ) (old mine new : List Answered) → Gone actor old mine new → own actor new ≡ own actor old ++ mine
own-gone actor old mine new gone = grind (arith, own-append)

-- Who has made none of the steps has not made the first, and none of the others.
none-parts : (actor : ℕ) (first : Answered) (run : List Answered) → NoneOf actor (first ∷ run)
    → (actor_of first.step ≢ actor) × NoneOf actor run
none-parts actor first run none = grind arith

-- A step that is among an actor's own stands in the run, behind those of its own that precede it.
pub own-cut : (actor : ℕ) (run past : List Answered) (mine : Answered) (rest : List Answered) → own actor run ≡ past ++ mine ∷ rest
    → (early late : List Answered) × (run ≡ early ++ mine ∷ late) × (own actor early ≡ past)
own-cut actor [] [] mine rest is = absurd (cc)
own-cut actor [] (item ∷ past) mine rest is = absurd (cc)
own-cut actor (first ∷ run) past mine rest is =
    by_test (actor_of first.step == actor) refl is (λ before same. own-cut actor run before mine rest same)
  where
    at_first : (before : List Answered) → (actor_of first.step == actor) ≡ true → first ∷ own actor run ≡ before ++ mine ∷ rest
        → ((past : List Answered) → own actor run ≡ past ++ mine ∷ rest
        → (early late : List Answered) × (run ≡ early ++ mine ∷ late) × (own actor early ≡ past))
        → (early late : List Answered) × (first ∷ run ≡ early ++ mine ∷ late) × (own actor early ≡ before)
    at_first [] test same later = ([], run, cc, refl)
    at_first (item ∷ before) test same later =
        let (early, late, cut, own_steps) = later before (cc) in
        (first ∷ early, late, ap (λ (steps : List Answered). first ∷ steps) cut, rw test (cc))

    by_test : (test : Bool) → (actor_of first.step == actor) ≡ test
        → (if test then first ∷ own actor run else own actor run) ≡ past ++ mine ∷ rest
        → ((before : List Answered) → own actor run ≡ before ++ mine ∷ rest
        → (early late : List Answered) × (run ≡ early ++ mine ∷ late) × (own actor early ≡ before))
        → (early late : List Answered) × (first ∷ run ≡ early ++ mine ∷ late) × (own actor early ≡ past)
    by_test true test same later = at_first past test same later
    by_test false test same later =
        let (early, late, cut, own_steps) = later past same in
        (first ∷ early, late, ap (λ (steps : List Answered). first ∷ steps) cut, rw test own_steps)

-- Lists with a last item have one.
last-same : {A : Type 0} (past others : List A) (last other : A) → past ++ last ∷ [] ≡ others ++ other ∷ [] → last ≡ other
last-same [] [] last other is = cc
last-same [] (item ∷ others) last other is =
    let count = ap (λ (items : List _). length items) is in absurd (omega (arith, count, length_push others other))
last-same (item ∷ past) [] last other is =
    let count = ap (λ (items : List _). length items) is in absurd (omega (arith, count, length_push past last))
last-same (item ∷ past) (first ∷ others) last other is = last-same past others last other (cc)

-- A list is empty or has a last item.
pub last-item : {A : Type 0} (items : List A) → (items ≡ []) ⊎ ((past : List A) × (last : A) × (items ≡ past ++ last ∷ []))
last-item [] = inl refl
last-item (item ∷ items) = elim (last-item items) [
  | inl none ↦ inr ([], item, ap (λ rest. item ∷ rest) none)
  | inr some ↦ let (past, last, is) = some in inr (item ∷ past, last, ap (λ rest. item ∷ rest) is)
]

-- Who makes the last step knows the whole run.
pub last-known : (known since past : List Answered) (last : Answered) → known ++ since ≡ past ++ last ∷ []
    → NoneOf (actor_of last.step) since → since ≡ []
last-known known [] past last is none = refl
last-known known (first ∷ since) past last is none =
    let parts = none-parts (actor_of last.step) first since none in
    let moved : (known ++ first ∷ []) ++ since ≡ past ++ last ∷ [] = append_assoc known (first ∷ []) since ∙ is in
    let more = last-known (known ++ first ∷ []) since past last moved parts.1 in
    grind (arith, last-same)

-- The writer that steps is one of the ring's.
writer-among : (writer : Ix) (core next : Core) (reply : Reply) (step : WriterPhase → Stepped)
    → by_writer writer core step ≡ Some (reply, next) → writer.number + 1 ≤ length core.writers
writer-among writer core next reply step is = grind (arith, slice_get_within)

step-among : (step : Step) (core next : Core) (reply : Reply) → core_step step core ≡ Some (reply, next)
    → actor_of step ≤ length core.writers
step-among step core next reply is = grind (arith, writer-among)

-- In a sound ring of this size.
pub among : (size : RingSize) (core next : Core) (first : Answered) → Sound core → core.size ≡ size
    → core_step first.step core ≡ Some (first.reply, next) → actor_of first.step ≤ size.writers
among size core next first sound sized is = grind (arith, step-among)

pub same_size : (size : RingSize) (core next : Core) (first : Answered) → core.size ≡ size
    → core_step first.step core ≡ Some (first.reply, next) → next.size ≡ size
same_size size core next first sized is = subst (SameSize core) is (core_step-size first.step core) ∙ sized

pub runs-size : (size : RingSize) (core end : Core) (run : List Answered) → core.size ≡ size → Runs core run end → end.size ≡ size
runs-size size core end [] sized ran = ap (λ (c : Core). c.size) ran ∙ sized
runs-size size core end (first ∷ run) sized (next, is, ran) =
    runs-size size next end run (same_size size core next first sized is) ran

-- Who makes the last step of a run is among the actors.
pub last-among : StepLaw → (size : RingSize) (end : Core) (past : List Answered) (last : Answered) → Sound (new_core size)
    → Runs (new_core size) (past ++ last ∷ []) end → actor_of last.step ≤ size.writers
last-among law size end past last sound ran =
    let (mid, before, after) = runs-cut (new_core size) end past (last ∷ []) ran in
    among size mid after.0 last (runs-sound law (new_core size) mid past sound before)
    (runs-size size (new_core size) mid past refl before) after.1

-- Nobody else makes a step.
pub none-beyond : StepLaw → (size : RingSize) (actor : ℕ) (core end : Core) (run : List Answered) → Sound core → core.size ≡ size
    → Runs core run end → size.writers < actor → NoneOf actor run
none-beyond law size actor core end [] sound sized ran beyond = refl
none-beyond law size actor core end (first ∷ run) sound sized (next, is, ran) beyond =
    let small = among size core next first sound sized is in
    let more = none-beyond law size actor next end run (law first.step core next first.reply sound is).0 (same_size size core next first sized is) ran beyond in
    grind arith

-- A run in which no actor makes a step has none.
pub none-left : (size : RingSize) (core end : Core) (run : List Answered) → Sound core → core.size ≡ size → Runs core run end
    → ((actor : ℕ) → actor ≤ size.writers → NoneOf actor run) → run ≡ []
none-left size core end [] sound sized ran none = refl
none-left size core end (first ∷ run) sound sized (next, is, ran) none =
    absurd ((none-parts (actor_of first.step) first run (none (actor_of first.step) (among size core next first sound sized is))).0 refl)

-- A run in which no other actor makes a step has the actor's own alone.
pub all-own : StepLaw → (size : RingSize) (actor : ℕ) (core end : Core) (run : List Answered) → Sound core → core.size ≡ size
    → Runs core run end → ((other : ℕ) → other ≤ size.writers → other ≢ actor → NoneOf other run) → own actor run ≡ run
all-own law size actor core end [] sound sized ran none = refl
all-own law size actor core end (first ∷ run) sound sized (next, is, ran) none =
    by_actor (ℕ_discrete (actor_of first.step) actor)
    (all-own law size actor next end run (law first.step core next first.reply sound is).0 (same_size size core next first sized is) ran
    (λ other small apart. (none-parts other first run (none other small apart)).1))
  where
    by_actor : Dec (actor_of first.step ≡ actor) → own actor run ≡ run → own actor (first ∷ run) ≡ first ∷ run
    by_actor (yes same) rest = rw (eq-eqb (actor_of first.step) actor same) (ap (λ (later : List Answered). first ∷ later) rest)
    by_actor (no apart) rest =
        let small = among size core next first sound sized is in
        absurd ((none-parts (actor_of first.step) first run (none (actor_of first.step) small apart)).0 refl)
