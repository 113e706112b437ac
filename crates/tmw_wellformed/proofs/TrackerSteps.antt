-- A tracker that a history fits, one event further.
use Rattle.tmw_wellformed.proofs.Shared.{Between, Err, Event, IsTrue, List, Malformed, Ok, Option, Phase, Refuses, Register, Some, Txn, [], add_event, and_parts, ap, arith, both_ways, cases_Bool, cases_eq, count_by, ends, false, inl, inr, is_ended, is_live, is_some, is_text, is_well_formed, lacks_register, length, list_all, live_count, live_of, ne_eqb, next_phase, not, not-true, pending_call, phase_of, slice_get, slice_index_or, slice_set, suc, sum_by-set, sym, texts_law, transactions, transactions-push, true, ℕ, ◌&&◌, ◌++◌, ◌+◌, ◌<◌, ◌==◌, ◌↔◌, ◌∙◌, ◌∷◌, ◌≡◌}
use Rattle.tmw_wellformed.specs.declared.tracker.Tracker.{Tracker}
use Rattle.std.proofs.lemmas.Option.{get_or_from_slice_get, slice_get_within}
use Rattle.tmw_wellformed.specs.declared.note.Note.{Note}
use Rattle.tmw_wellformed.specs.declared.phases.Phases.{Phases}
use Rattle.tmw_wellformed.specs.Notes.{Notes, end_of}
use Rattle.tmw_wellformed.specs.Tracker.{Tracks}
use Rattle.tmw_wellformed.proofs.TextSteps.{goes_on, call_of-push}
use Rattle.tmw_wellformed.proofs.HistorySteps.{flag, still, found, live_of-add_other, live_of-add_own, live_after, live_count-add, length-add, all_ended, count_by-all_ended, list_all-add}
use Rattle.tmw_wellformed.proofs.PhaseTexts.{IsOpen, PhaseShows, shows, is_text-goes_on, pending_of, phase_after, Accepts, Rejects, next_phase-accepts, next_phase-rejects, rejects_lacking, is_live-phase_of, is_live-phase_after}
use Rattle.tmw_defs.specs.Cuts.{is_cut}

-- a thread's live transaction has a text so far
live_is_open : (registers thread : ℕ) (history : List Event) → IsTrue (is_well_formed registers history)
    → (t : Txn) → live_of thread (transactions history) ≡ Some t → IsOpen registers t
live_is_open registers thread history formed t is =
    let (live, text) = found (λ u. (u.thread == thread) && not (is_ended u.text)) (λ u. is_text registers u.text) (transactions history) t is formed in
    record { formed = text; unended = not-true (is_ended t.text) (and_parts (t.thread == thread) _ live).1 }

-- the history is well-formed with the event exactly where the pending call lets it go on
pub is_well_formed-push : (registers : ℕ) (history : List Event) (e : Event) → IsTrue (is_well_formed registers history)
    → is_well_formed registers (history ++ e ∷ []) ≡ goes_on registers (pending_call e.thread.number history) e.kind
is_well_formed-push registers history e formed =
    let live = live_of e.thread.number (transactions history) in
    ap (list_all (λ t. is_text registers t.text)) (transactions-push history e)
    ∙ list_all-add registers (length history) e (transactions history) formed
    ∙ is_text-goes_on registers live e.kind (live_is_open registers e.thread.number history formed)

phase_of-after : (place : ℕ) (e : Event) (live : Option Txn) → phase_of (live_after place e live) ≡ phase_after (pending_of live) e.kind
phase_of-after place e live = grind (arith, call_of-push)

-- the phases of the event's thread and of each other with the event
phase_of-own : (history : List Event) (e : Event)
    → phase_of (live_of e.thread.number (transactions (history ++ e ∷ []))) ≡ phase_after (pending_call e.thread.number history) e.kind
phase_of-own history e =
    let thread = e.thread.number in
    ap (λ ts. phase_of (live_of thread ts)) (transactions-push history e)
    ∙ ap phase_of (live_of-add_own (length history) e (transactions history) (texts_law history thread).ended)
    ∙ phase_of-after (length history) e (live_of thread (transactions history))

live_of-other : (thread : ℕ) (history : List Event) (e : Event) → (e.thread.number == thread) ≡ false
    → live_of thread (transactions (history ++ e ∷ [])) ≡ live_of thread (transactions history)
live_of-other thread history e other =
    ap (live_of thread) (transactions-push history e) ∙ live_of-add_other thread (length history) e (transactions history) other

slice_get-set_same : {A : Type 0} (xs : List A) (i : ℕ) (x y : A) → slice_get xs i ≡ Some x → slice_get (slice_set xs i y) i ≡ Some y
slice_get-set_same (z ∷ xs) (suc i) x y at = slice_get-set_same xs i x y at
slice_get-set_same _ i x y at = grind arith

slice_get-set_other : {A : Type 0} (xs : List A) (i j : ℕ) (y : A) → (j ≡ i → ⊥) → slice_get (slice_set xs i y) j ≡ slice_get xs j
slice_get-set_other (z ∷ xs) (suc i) (suc j) y other = slice_get-set_other xs i j y (λ same. other (ap suc same))
slice_get-set_other _ _ j y other = grind arith

-- the phase that the tracker has of a thread
phase_read : (registers : ℕ) (history : List Event) (tracker : Tracker) (thread : ℕ) → Tracks registers history tracker → thread < 8
    → slice_index_or tracker.phases.by_thread thread Between ≡ phase_of (live_of thread (transactions history))
phase_read registers history tracker thread tracks below =
    get_or_from_slice_get tracker.phases.by_thread thread (phase_of (live_of thread (transactions history))) Between (tracks.phases thread below)

shown : (registers : ℕ) (history : List Event) (tracker : Tracker) (e : Event) → Tracks registers history tracker
    → PhaseShows (slice_index_or tracker.phases.by_thread e.thread.number Between) (pending_call e.thread.number history)
shown registers history tracker e tracks =
    let thread = e.thread.number in
    rw (phase_read registers history tracker thread tracks e.thread.below)
    (shows registers (live_of thread (transactions history)) (live_is_open registers thread history tracks.formed))

-- the number of live transactions with a thread in its next phase
live-set : (old new : Phases) (i : ℕ) (next : Phase) → i < length old.by_thread → new.by_thread ≡ slice_set old.by_thread i next
    → new.live + flag (is_live (slice_index_or old.by_thread i Between)) ≡ old.live + flag (is_live next)
live-set old new i next within one_phase =
    let counted = sum_by-set (λ p. flag (is_live p)) old.by_thread i next Between within in
    omega (arith, old.counted, new.counted, ap (count_by is_live) one_phase, counted)

-- the event is taken
pub tracks-push : (registers : ℕ) (history : List Event) (e : Event) (old new : Tracker) (next : Phase) → Tracks registers history old
    → lacks_register old.registers.number e.kind ≡ false
    → next_phase (slice_index_or old.phases.by_thread e.thread.number Between) e.kind ≡ Ok next
    → new.registers ≡ old.registers
    → new.phases.by_thread ≡ slice_set old.phases.by_thread e.thread.number next
    → Tracks registers (history ++ e ∷ []) new
tracks-push registers history e old new next tracks has is same_registers one_phase =
    let thread = e.thread.number in
    let live = live_of thread (transactions history) in
    let phase = slice_index_or old.phases.by_thread thread Between in
    let pending = pending_call thread history in
    let has_it : lacks_register registers e.kind ≡ false = ap (λ n. lacks_register n e.kind) (sym tracks.number) ∙ has in
    let accepts : Accepts registers pending e.kind next
    = next_phase-accepts registers phase next pending e.kind (shown registers history old e tracks) has_it is
    in
    let was_live : is_live phase ≡ is_some live
    = ap is_live (phase_read registers history old thread tracks e.thread.below) ∙ is_live-phase_of live
    in
    let stays_live : is_live next ≡ not (ends e.kind) = ap is_live accepts.leads ∙ is_live-phase_after pending e.kind in
    let counted : new.phases.live + flag (is_live phase) ≡ old.phases.live + flag (is_live next)
    = live-set old.phases new.phases thread next (slice_get_within old.phases.by_thread thread (phase_of live) (tracks.phases thread e.thread.below)) one_phase
    in
    let one_more : live_count (history ++ e ∷ []) ≡ count_by still (add_event (length history) e (transactions history))
    = ap (count_by still) (transactions-push history e)
    in
    record {
      number = ap (λ r. r.number) same_registers ∙ tracks.number;
      formed = is_well_formed-push registers history e tracks.formed ∙ accepts.goes;
      phases = λ other below.
          elim (cases_eq other thread) [
            | inl own ↦ rw (own, one_phase) (
                slice_get-set_same old.phases.by_thread thread (phase_of live) next (tracks.phases thread e.thread.below)
                ∙ ap Some (accepts.leads ∙ sym (phase_of-own history e))
                )
            | inr away ↦
                rw one_phase (
                slice_get-set_other old.phases.by_thread thread other next away
                ∙ tracks.phases other below
                ∙ ap (λ o. Some (phase_of o)) (sym (live_of-other other history e (ne_eqb thread other (λ same. away (sym same)))))
                )
          ];
      live = omega (
        arith,
        tracks.live,
        ap flag was_live,
        ap flag stays_live,
        one_more,
        live_count-add (length history) e (transactions history),
      );
    }

pub notes-push : (registers : ℕ) (history : List Event) (e : Event) (old : Tracker) (note : Note) → Tracks registers history old
    → note.begins ≡ not (is_live (slice_index_or old.phases.by_thread e.thread.number Between))
    → note.ends ≡ end_of e.kind
    → Notes history e note
notes-push registers history e old note tracks begins ends =
    let live = live_of e.thread.number (transactions history) in
    let was_live : is_live (slice_index_or old.phases.by_thread e.thread.number Between) ≡ is_some live
    = ap is_live (phase_read registers history old e.thread.number tracks e.thread.below) ∙ is_live-phase_of live
    in
    let fresh : note.begins ≡ not (is_some live) = begins ∙ ap not was_live in
    let longer_by : length (transactions (history ++ e ∷ [])) ≡ length (add_event (length history) e (transactions history))
    = ap length (transactions-push history e)
    in
    let counted = length-add (length history) e (transactions history) in
    record {
      begins =
          elim (cases_Bool (is_some live)) [
            | inl had ↦ (λ true_begins. absurd (both_ways _ (fresh ∙ ap not had) true_begins), λ more. absurd (omega (arith, ap flag had)))
            | inr none ↦ (λ true_begins. omega (arith, ap flag none), λ more. fresh ∙ ap not none)
          ];
      ends = ends;
    }

-- the event is refused
pub refuses-from : (registers : ℕ) (history : List Event) (e : Event) (fault : Malformed) → IsTrue (is_well_formed registers history)
    → Rejects registers (pending_call e.thread.number history) e.kind fault → Refuses registers history e fault
refuses-from registers history e fault formed rejects = record {
  ill_formed = is_well_formed-push registers history e formed ∙ rejects.stops;
  here = rejects.here;
  first = rejects.first;
}

pub refuses_lacking : (registers : ℕ) (history : List Event) (e : Event) (old : Tracker) → Tracks registers history old
    → lacks_register old.registers.number e.kind ≡ true → Refuses registers history e Register
refuses_lacking registers history e old tracks lacks =
    let lacks_it : lacks_register registers e.kind ≡ true = ap (λ n. lacks_register n e.kind) (sym tracks.number) ∙ lacks in
    refuses-from registers history e Register tracks.formed (rejects_lacking registers (pending_call e.thread.number history) e.kind lacks_it)

pub refuses_next : (registers : ℕ) (history : List Event) (e : Event) (old : Tracker) (fault : Malformed) → Tracks registers history old
    → lacks_register old.registers.number e.kind ≡ false
    → next_phase (slice_index_or old.phases.by_thread e.thread.number Between) e.kind ≡ Err fault → Refuses registers history e fault
refuses_next registers history e old fault tracks has is =
    let has_it : lacks_register registers e.kind ≡ false = ap (λ n. lacks_register n e.kind) (sym tracks.number) ∙ has in
    let pending = pending_call e.thread.number history in
    refuses-from registers history e fault tracks.formed
    (next_phase-rejects registers (slice_index_or old.phases.by_thread e.thread.number Between) fault pending e.kind
    (shown registers history old e tracks) has_it is)

pub is_cut-zero_live : (registers : ℕ) (history : List Event) (tracker : Tracker) → Tracks registers history tracker
    → (tracker.phases.live ≡ 0) ↔ IsTrue (is_cut history)
is_cut-zero_live registers history tracker tracks = (
  λ none. all_ended (transactions history) (sym tracks.live ∙ none),
  λ ended. tracks.live ∙ count_by-all_ended (transactions history) ended,
)
