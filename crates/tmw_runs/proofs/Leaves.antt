-- What a script leaves, step by step, and what a thread's events are to the script by what it leaves.
use Rattle.tmw_runs.proofs.Shared.{A, IsBeginning, IsTrue, IsWholeRun, IsWholeText, Kind, List, [], answers, ap, append-nil, append_assoc, arith, false, is_abort, refl, subst, sym, true, ℕ, ◌++◌, ◌∷◌, ◌≡◌}
use Rattle.tmw_runs.proofs.CallTexts.{are_calls}
use Rattle.tmw_runs.specs.ScriptRest.{Leaves}
use Rattle.tmw_runs.proofs.Calls.{answers_abort, are_calls_first, are_calls_later}
use Rattle.tmw_runs.proofs.WholeRuns.{runs_law}

-- a whole text goes on after its first call and answer, or is over
whole_text_on : (call answer : Kind) (calls text : List Kind) → IsTrue (answers call answer) → is_abort answer ≡ false
    → IsWholeText calls text → IsWholeText (call ∷ calls) (call ∷ answer ∷ text)
whole_text_on call answer calls text fits on whole = grind arith

whole_text_over : (call answer : Kind) (calls : List Kind) → IsTrue (answers call answer) → is_abort answer ≡ true
    → IsWholeText (call ∷ calls) (call ∷ answer ∷ [])
whole_text_over call answer calls fits over = grind arith

-- at the start all is left
pub leaves_all : (script : List (List Kind)) → Leaves script [] script
leaves_all script more whole = whole

-- a call and an answer that is no abort event
pub leaves_answered : (script : List (List Kind)) (kinds : List Kind) (call answer : Kind) (calls : List Kind) (later : List (List Kind))
    → Leaves script kinds ((call ∷ calls) ∷ later) → IsTrue (answers call answer) → is_abort answer ≡ false
    → Leaves script (kinds ++ call ∷ answer ∷ []) (calls ∷ later)
leaves_answered script kinds call answer calls later leaves fits on more (text, rest, is, whole, run) =
    let longer : IsWholeRun ((call ∷ calls) ∷ later) (call ∷ answer ∷ more)
    = (call ∷ answer ∷ text, rest, ap (λ m. call ∷ answer ∷ m) is, whole_text_on call answer calls text fits on whole, run) in
    subst (IsWholeRun script) (sym (append_assoc kinds (call ∷ answer ∷ []) more)) (leaves (call ∷ answer ∷ more) longer)

-- a call and an abort event
pub leaves_aborted : (script : List (List Kind)) (kinds : List Kind) (call answer : Kind) (calls : List Kind) (later : List (List Kind))
    → Leaves script kinds ((call ∷ calls) ∷ later) → IsTrue (answers call answer) → is_abort answer ≡ true
    → Leaves script (kinds ++ call ∷ answer ∷ []) later
leaves_aborted script kinds call answer calls later leaves fits over more run =
    let longer : IsWholeRun ((call ∷ calls) ∷ later) (call ∷ answer ∷ more)
    = (call ∷ answer ∷ [], more, refl, whole_text_over call answer calls fits over, run) in
    subst (IsWholeRun script) (sym (append_assoc kinds (call ∷ answer ∷ []) more)) (leaves (call ∷ answer ∷ more) longer)

-- a transaction without calls left is over
pub leaves_next : (script : List (List Kind)) (kinds : List Kind) (later : List (List Kind)) → Leaves script kinds ([] ∷ later)
    → Leaves script kinds later
leaves_next script kinds later leaves more run = leaves more ([], more, refl, refl, run)

-- where nothing is left the events are a whole run
pub whole_run : (script : List (List Kind)) (kinds : List Kind) → Leaves script kinds [] → IsWholeRun script kinds
whole_run script kinds leaves = subst (IsWholeRun script) (append-nil kinds) (leaves [] refl)

-- a script has a whole run: each transaction aborts at its first call
all_aborted : (registers : ℕ) (script : List (List Kind)) → IsTrue (are_calls registers script)
    → (kinds : List Kind) × IsWholeRun script kinds
all_aborted registers [] asks = ([], refl)
all_aborted registers ([] ∷ script) asks =
    let (kinds, run) = all_aborted registers script (are_calls_later registers [] script asks) in
    (kinds, ([], kinds, refl, refl, run))
all_aborted registers ((call ∷ calls) ∷ script) asks =
    let fits = answers_abort registers call (are_calls_first registers call calls script asks) in
    let (kinds, run) = all_aborted registers script (are_calls_later registers (call ∷ calls) script asks) in
    (call ∷ A ∷ kinds, (call ∷ A ∷ [], kinds, refl, whole_text_over call A calls fits refl, run))

-- whatever is left the events are a beginning
pub beginning : (registers : ℕ) (script : List (List Kind)) (kinds : List Kind) (left : List (List Kind))
    → IsTrue (are_calls registers left) → Leaves script kinds left → IsBeginning script kinds
beginning registers script kinds left asks leaves =
    let (more, run) = all_aborted registers left asks in grind arith

-- after a lone call, a whole run goes on with an abort event
after_call : (registers : ℕ) (script : List (List Kind)) (kinds : List Kind) (call : Kind) (calls : List Kind) (later : List (List Kind))
    → IsTrue (are_calls registers ((call ∷ calls) ∷ later)) → Leaves script kinds ((call ∷ calls) ∷ later)
    → (more : List Kind) × IsWholeRun script ((kinds ++ call ∷ []) ++ A ∷ more)
after_call registers script kinds call calls later asks leaves =
    let fits = answers_abort registers call (are_calls_first registers call calls later asks) in
    let (more, run) = all_aborted registers later (are_calls_later registers (call ∷ calls) later asks) in
    let longer : IsWholeRun ((call ∷ calls) ∷ later) (call ∷ A ∷ more)
    = (call ∷ A ∷ [], more, refl, whole_text_over call A calls fits refl, run) in
    (more, subst (IsWholeRun script) (sym (append_assoc kinds (call ∷ []) (A ∷ more))) (leaves (call ∷ A ∷ more) longer))

-- and so they are with the next call after them
pub beginning_pending : (registers : ℕ) (script : List (List Kind)) (kinds : List Kind) (call : Kind) (calls : List Kind) (later : List (List Kind))
    → IsTrue (are_calls registers ((call ∷ calls) ∷ later)) → Leaves script kinds ((call ∷ calls) ∷ later)
    → IsBeginning script (kinds ++ call ∷ [])
beginning_pending registers script kinds call calls later asks leaves =
    let (more, run) = after_call registers script kinds call calls later asks leaves in grind arith

-- where a call is left the events are no whole run
pub not_whole : (registers : ℕ) (script : List (List Kind)) (kinds : List Kind) (call : Kind) (calls : List Kind) (later : List (List Kind))
    → IsTrue (are_calls registers ((call ∷ calls) ∷ later)) → Leaves script kinds ((call ∷ calls) ∷ later)
    → IsWholeRun script kinds → ⊥
not_whole registers script kinds call calls later asks leaves whole =
    let (more, run) = after_call registers script kinds call calls later asks leaves in
    grind (arith, append_assoc, runs_law)
