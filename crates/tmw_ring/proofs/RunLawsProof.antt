-- A change of a ring's table that keeps its rule is made of steps of the ring's machine.
use Rattle.tmw_ring.proofs.Shared.{Answered, Core, Gone, Knows, Lies, List, NoneOf, NotReady, Part, Parts, ReaderPhase, RingSize, Runs, Shown, Some, [], actor_of, all-own, ap, append-nil, append_assoc, append_cancel_left, arith, cell_at, dec_le, get_elem?, inl, inr, key, last-among, last-item, last-known, lt_of_not-le, new_core, new_core-sound, none-beyond, none-left, own, own-append, own-gone, peek_step, refl, run_of, runs-cut, runs-same, set, set_else, some, some-injective, some-ne-none, subst, suc, sym, zero, ℕ, ℕ_discrete, ◌++◌, ◌+◌, ◌∙◌, ◌∷◌, ◌≡◌, ◌≢◌, ◌≤◌}
use Rattle.tmw_ring_defs.proofs.RingLaw.{step_law}
use Rattle.tmw_ring.proofs.Moves.{lies_among, set_over}
use Rattle.tmw_ring.specs.TableChangeLaws.{TableState, Telling, RanOn, HaveGrown, SeatLaw, RunLaw, EmptySeatLaw, ClaimLaw, NotReadyLaw, FrontLaw, SilentLaw}

-- In the second state this seat has the new parts, and each other has what it had.
record Changes (before after : TableState) (seat : ℕ) (old new : Parts) : Type 0 where
  seated : get_elem? before.views seat ≡ some old
  changed : after.views ≡ set before.views seat new

-- A part of another seat lies where it lay.
lies_still : (before after : TableState) (seat : ℕ) (old new : Parts) → Changes before after seat old new → (at place : ℕ) (part : Part)
    → at ≢ seat → Lies before at place part → Lies after at place part
lies_still before after seat old new changes at place part apart lies = grind (arith, set_else)

-- A new part lies in the seat.
lies_here : (before after : TableState) (seat : ℕ) (old new : Parts) → Changes before after seat old new → (place : ℕ) (part : Part)
    → get_elem? new place ≡ some part → Lies after seat place part
lies_here before after seat old new changes place part placed = grind (arith, set_over)

-- What is known of a part that knew the whole run: the later run begins with it.
begins_again : (actor : ℕ) (run later known since : List Answered) → run ≡ known → (more : List Answered) → known ++ more ≡ since
    → Gone actor since [] later → (rest : List Answered) × (later ≡ run ++ rest)
begins_again actor run later known since is more longer gone = grind (arith, append_assoc)

-- The run after the change begins with the run before it, since who made its last step knows it.
goes_on : (size : RingSize) (before after : TableState) (shown : Shown size before) (next : Shown size after) (seat : ℕ) (old new : Parts)
    → Changes before after seat old new → HaveGrown old new → (rest : List Answered) × (next.run ≡ shown.run ++ rest)
goes_on size before after shown next seat old new changes grown =
    elim (last-item shown.run) [
      | inl none ↦ (next.run, ap (λ (run : List Answered). run ++ next.run) (sym none))
      | inr some_last ↦
          let (past, last, is) = some_last in
          let actor = actor_of last.step in
          let small = last-among step_law size shown.core past last (new_core-sound size)
          (subst (λ (run : List Answered). Runs (new_core size) run shown.core) is shown.ran) in
          let (part, lies, mine) = shown.present actor small in
          let at = shown.where_is actor in
          let knew : Gone actor (run_of part) [] shown.run =
          subst (λ (a : ℕ). Gone a (run_of part) [] shown.run) mine (shown.knows at.0 at.1 part lies) in
          let nothing : knew.since ≡ [] = last-known (run_of part) knew.since past last (sym knew.longer ∙ is) knew.own_steps in
          let whole : shown.run ≡ run_of part =
          knew.longer ∙ ap (λ (l : List Answered). run_of part ++ l) nothing ∙ append-nil (run_of part) in
          by_seat at.0 at.1 part lies whole (ℕ_discrete at.0 seat)
    ]
  where
    by_seat : (at place : ℕ) (part : Part) → Lies before at place part → shown.run ≡ run_of part → Dec (at ≡ seat)
        → (rest : List Answered) × (next.run ≡ shown.run ++ rest)
    by_seat at place part lies whole (yes is) =
        let (now, more, placed, same, longer) = grown place part (lies_among before seat at place old part changes.seated is lies) in
        let knows : Knows next.run now = next.knows seat place now (lies_here before after seat old new changes place now placed) in
        begins_again (key now) shown.run next.run (run_of part) (run_of now) whole more (sym longer) knows
    by_seat at place part lies whole (no apart) =
        let knows : Knows next.run part = next.knows at place part (lies_still before after seat old new changes at place part apart lies) in
        begins_again (key part) shown.run next.run (run_of part) (run_of part) whole [] (append-nil (run_of part)) knows

-- An actor whose part lies in another seat has made no step of the rest.
none_elsewhere : (size : RingSize) (before after : TableState) (shown : Shown size before) (next : Shown size after) (seat : ℕ)
    (old new : Parts) (rest : List Answered) → Changes before after seat old new → next.run ≡ shown.run ++ rest → (actor : ℕ)
    → actor ≤ size.writers → ((place : ℕ) (part : Part) → get_elem? old place ≡ some part → key part ≢ actor) → NoneOf actor rest
none_elsewhere size before after shown next seat old new rest changes longer actor small away =
    let (part, lies, mine) = shown.present actor small in
    let at = shown.where_is actor in
    by_seat at.0 at.1 part lies mine (ℕ_discrete at.0 seat)
  where
    by_seat : (at place : ℕ) (part : Part) → Lies before at place part → key part ≡ actor → Dec (at ≡ seat) → NoneOf actor rest
    by_seat at place part lies mine (yes is) =
        absurd (away place part (lies_among before seat at place old part changes.seated is lies) mine)
    by_seat at place part lies mine (no apart) =
        let knew : Gone actor (run_of part) [] shown.run =
        subst (λ (a : ℕ). Gone a (run_of part) [] shown.run) mine (shown.knows at place part lies) in
        let knows : Gone actor (run_of part) [] next.run =
        subst (λ (a : ℕ). Gone a (run_of part) [] next.run) mine
        (next.knows at place part (lies_still before after seat old new changes at place part apart lies)) in
        let was : own actor shown.run ≡ own actor (run_of part) =
        own-gone actor (run_of part) [] shown.run knew ∙ append-nil (own actor (run_of part)) in
        let now : own actor next.run ≡ own actor (run_of part) =
        own-gone actor (run_of part) [] next.run knows ∙ append-nil (own actor (run_of part)) in
        append_cancel_left (own actor shown.run) (own actor rest) []
        (sym (own-append actor shown.run rest) ∙ ap (own actor) (sym longer) ∙ now ∙ sym was ∙ sym (append-nil (own actor shown.run)))

-- The machine goes by the rest.
rest-ran : (size : RingSize) (before after : TableState) (shown : Shown size before) (next : Shown size after) (rest : List Answered)
    → next.run ≡ shown.run ++ rest → RanOn shown next rest
rest-ran size before after shown next rest longer = grind (arith, runs-cut, runs-same)

pub seat_law : SeatLaw
seat_law size before after shown next seat old new seated changed grown =
    let changes : Changes before after seat old new = record { seated = seated; changed = changed } in
    let (rest, longer) = goes_on size before after shown next seat old new changes grown in (
      rest,
      rest-ran size before after shown next rest longer,
      λ actor away. by_actor rest longer actor away (dec_le actor size.writers),
    )
  where
    by_actor : (rest : List Answered) → next.run ≡ shown.run ++ rest → (actor : ℕ)
        → ((place : ℕ) (part : Part) → get_elem? old place ≡ some part → key part ≢ actor) → Dec (actor ≤ size.writers) → NoneOf actor rest
    by_actor rest longer actor away (yes small) =
        none_elsewhere size before after shown next seat old new rest (record { seated = seated; changed = changed }) longer actor small away
    by_actor rest longer actor away (no large) =
        none-beyond step_law size actor shown.core next.core rest shown.sound shown.sized
        (rest-ran size before after shown next rest longer).ran (lt_of_not-le large)

pub empty_seat_law : EmptySeatLaw
empty_seat_law size before after shown next seat new seated changed =
    let changes : Changes before after seat [] new = record { seated = seated; changed = changed } in
    let (rest, longer) = goes_on size before after shown next seat [] new changes (λ place was at. absurd (some-ne-none was (sym at))) in
    let ran = rest-ran size before after shown next rest longer in
    let nothing : rest ≡ [] =
    none-left size shown.core next.core rest shown.sound shown.sized ran.ran (λ actor small.
    none_elsewhere size before after shown next seat [] new rest changes longer actor small
    (λ place part at. absurd (some-ne-none part (sym at)))) in grind arith

-- A seat's one part.
alone : (actor : ℕ) (old : Part) → key old ≢ actor → (place : ℕ) (part : Part) → get_elem? (old ∷ []) place ≡ some part → key part ≢ actor
alone actor old apart place part h1 = grind arith

one_grown : (old new : Part) (since : List Answered) → key new ≡ key old → run_of new ≡ run_of old ++ since → HaveGrown (old ∷ []) (new ∷ [])
one_grown old new since same longer zero was at =
    let is = some-injective old was at in
    (new, since, refl, same ∙ ap key is, longer ∙ ap (λ (part : Part). run_of part ++ since) is)
one_grown old new since same longer (suc place) was at = absurd (some-ne-none was (sym at))

pub run_law : RunLaw
run_law size before after shown next seat old new since seated changed same known =
    let actor : ℕ = key old in
    let changes : Changes before after seat (old ∷ []) (new ∷ []) = record { seated = seated; changed = changed } in
    let (rest, longer) = goes_on size before after shown next seat (old ∷ []) (new ∷ []) changes (one_grown old new since same known) in
    let ran = rest-ran size before after shown next rest longer in
    let all : own actor rest ≡ rest =
    all-own step_law size actor shown.core next.core rest shown.sound shown.sized ran.ran (λ other small apart.
    none_elsewhere size before after shown next seat (old ∷ []) (new ∷ []) rest changes longer other small
    (alone other old (λ is. apart (sym is)))) in
    let old_lies : Lies before seat 0 old = record { view = old ∷ []; seated = seated; placed = refl } in
    let new_lies : Lies after seat 0 new = lies_here before after seat (old ∷ []) (new ∷ []) changes 0 new refl in
    let knows : Gone actor (run_of new) [] next.run =
    subst (λ (a : ℕ). Gone a (run_of new) [] next.run) same (next.knows seat 0 new new_lies) in
    let was : own actor shown.run ≡ own actor (run_of old) =
    own-gone actor (run_of old) [] shown.run (shown.knows seat 0 old old_lies) ∙ append-nil (own actor (run_of old)) in
    let now : own actor next.run ≡ own actor (run_of old) ++ own actor since =
    own-gone actor (run_of new) [] next.run knows ∙ append-nil (own actor (run_of new)) ∙ ap (own actor) known
    ∙ own-append actor (run_of old) since in grind (arith, append_cancel_left, own-append)

pub claim_law : (tells : Telling) → ClaimLaw tells
claim_law tells size word change old mine state shown may =
    let (view, act, valid, next, told) = may.allowed state shown may.homes may.seated may.small in
    let (new, is, same, gone) = may.claims _ told in
    let ran =
    run_law size state _ shown next may.seat old new gone.since may.seated
    (ap (λ (parts : Parts). set state.views may.seat parts) is) same gone.longer in (
      next.core,
      subst (λ (steps : List Answered). Runs shown.core steps next.core) gone.own_steps ran.ran,
      next.words,
    )

-- A peek is answered by the stamp.
peeked : (core next : Core) (phase : ReaderPhase) → peek_step core phase ≡ Some (NotReady, next)
    → (cell_at core core.front).stamp ≢ core.front + 1
peeked core next phase is = grind arith

pub not_ready_law : (tells : Telling) → NotReadyLaw tells
not_ready_law tells size word change old state shown may =
    let (next, ran, words) = claim_law tells size word change old _ state shown may in
    peeked shown.core ran.0 shown.core.reader ran.1

pub front_law : (tells : Telling) → FrontLaw tells
front_law tells size word change old writer kind front state shown may =
    let (next, ran, words) = claim_law tells size word change old _ state shown may in grind arith

pub silent_law : (tells : Telling) → SilentLaw tells
silent_law tells size word change old state shown may =
    let (next, ran, words) = claim_law tells size word change old [] state shown may in cc
