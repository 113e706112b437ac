-- Which events a phase accepts: those with which the text of the thread's live transaction is a text still.
use Rattle.tmw_wellformed.proofs.Shared.{Between, Err, IsFalse, IsTrue, Kind, Malformed, None, Ok, Option, Phase, Register, Some, Txn, [], answers, arith, asks, call_of, earlier, ends, false, has_fault, if◌then◌else◌, is_call, is_ended, is_live, is_some, is_text, lacks_register, list_any, next_phase, not, option_and_then, phase_of, phase_within, refl, takes, true, waits, ℕ, ◌++◌, ◌∷◌, ◌≡◌}
use Rattle.tmw_wellformed.proofs.NextCall.{next_call}
use Rattle.tmw_wellformed.proofs.TextSteps.{goes_on, is_text-push, pending_asks}
use Rattle.tmw_wellformed.proofs.HistorySteps.{text_of}

-- a call is no answer
pub answers_asked : (c k : Kind) → asks k ≡ true → answers c k ≡ false
answers_asked c k h = grind arith

-- where the run has the register that an event names, the event is a call or an answer
pub is_call_asked : (registers : ℕ) (k : Kind) → asks k ≡ true → lacks_register registers k ≡ false → is_call registers k ≡ true
is_call_asked registers k h has = grind arith

pub is_call_answer : (registers : ℕ) (k : Kind) → asks k ≡ false → is_call registers k ≡ false
is_call_answer registers k h = grind arith

-- a phase shows the pending call, as far as it decides which events go on
pub record PhaseShows (phase : Phase) (pending : Option Kind) : Type 0 where
  pub waiting : waits phase ≡ is_some pending
  pub taking : (c k : Kind) → pending ≡ Some c → takes phase k ≡ answers c k

shows-within : (pending : Option Kind) → ((c : Kind) → pending ≡ Some c → asks c ≡ true) → PhaseShows (phase_within pending) pending
shows-within None calls = record { waiting = refl; taking = λ c k is. cc }
shows-within (Some call) calls =
    let asked = calls call refl in record { waiting = grind arith; taking = λ c k is. grind arith }

-- the live transaction, if there is one, has a text so far
pub record IsOpen (registers : ℕ) (t : Txn) : Type 0 where
  pub formed : is_text registers t.text ≡ true
  pub unended : is_ended t.text ≡ false

abbrev pub pending_of : Option Txn → Option Kind
pending_of live = option_and_then (λ t. call_of t.text) live

pub shows : (registers : ℕ) (live : Option Txn) → ((t : Txn) → live ≡ Some t → IsOpen registers t) → PhaseShows (phase_of live) (pending_of live)
shows registers None fits = record { waiting = refl; taking = λ c k is. cc }
shows registers (Some t) fits =
    shows-within (call_of t.text) (λ c is. pending_asks registers t.text c (fits t refl).formed is)

pub is_text-goes_on : (registers : ℕ) (live : Option Txn) (k : Kind) → ((t : Txn) → live ≡ Some t → IsOpen registers t)
    → is_text registers (text_of live ++ k ∷ []) ≡ goes_on registers (pending_of live) k
is_text-goes_on registers live k fits = grind (arith, is_text-push)

-- the phase after the event
abbrev pub phase_after : Option Kind → Kind → Phase
phase_after pending k = if ends k then Between else phase_within (next_call pending k)

pub record Accepts (registers : ℕ) (pending : Option Kind) (k : Kind) (next : Phase) : Type 0 where
  pub goes : goes_on registers pending k ≡ true
  pub leads : next ≡ phase_after pending k

pub next_phase-accepts : (registers : ℕ) (phase next : Phase) (pending : Option Kind) (k : Kind) → PhaseShows phase pending
    → lacks_register registers k ≡ false → next_phase phase k ≡ Ok next → Accepts registers pending k next
next_phase-accepts registers phase next None k shown has is = grind arith
next_phase-accepts registers phase next (Some c) k shown has is =
    let taken = shown.taking c k refl in grind arith

pub record Rejects (registers : ℕ) (pending : Option Kind) (k : Kind) (fault : Malformed) : Type 0 where
  pub stops : goes_on registers pending k ≡ false
  pub here : IsTrue (has_fault registers pending k fault)
  pub first : IsFalse (list_any (has_fault registers pending k) (earlier fault))

pub next_phase-rejects : (registers : ℕ) (phase : Phase) (fault : Malformed) (pending : Option Kind) (k : Kind) → PhaseShows phase pending
    → lacks_register registers k ≡ false → next_phase phase k ≡ Err fault → Rejects registers pending k fault
next_phase-rejects registers phase fault None k shown has is = grind arith
next_phase-rejects registers phase fault (Some c) k shown has is =
    let taken = shown.taking c k refl in grind arith

-- a call on a register that the run does not have is refused as such
pub rejects_lacking : (registers : ℕ) (pending : Option Kind) (k : Kind) → lacks_register registers k ≡ true
    → Rejects registers pending k Register
rejects_lacking registers pending k lacks = grind arith

-- a phase tells whether a transaction is live
pub is_live-phase_of : (live : Option Txn) → is_live (phase_of live) ≡ is_some live
is_live-phase_of live = grind arith

pub is_live-phase_after : (pending : Option Kind) (k : Kind) → is_live (phase_after pending k) ≡ not (ends k)
is_live-phase_after pending k = grind arith
