-- What is recorded by turns begins a run: there is a text that completes it.
use Rattle.tmw_runs.proofs.Shared.{A, BeginsScript, Follows, FormedLaw, IsByTurns, IsTrue, IsWholeText, Kind, List, OverLaw, StepLaw, [], and_parts, answers, ap, append-nil, append_assoc, arith, drop, drop_more, get_or, is_call, length, list_all, refl, rules, subst, suc, sym, zero, ℕ, ◌++◌, ◌+◌, ◌<◌, ◌∙◌, ◌∷◌, ◌≡◌}
use Rattle.tmw_runs.proofs.CallTexts.{are_calls}
use Rattle.std.proofs.lemmas.List.Folds.{list_all-append}
use Rattle.tmw_runs.proofs.Calls.{answers_abort, are_calls-transactions}
use Rattle.tmw_runs.proofs.LongerRuns.{whole_run-more}
use Rattle.tmw_runs.proofs.NeverMalformed.{formed_law}

-- calls have a whole text: the first is answered by an abort event
pub some_text : (registers : ℕ) (calls : List Kind) → IsTrue (list_all (is_call registers) calls) → (text : List Kind) × IsWholeText calls text
some_text registers [] asks = ([], refl)
some_text registers (call ∷ calls) asks =
    (call ∷ A ∷ [], (A, [], refl, answers_abort registers call (and_parts (is_call registers call) _ asks).0, refl))

-- so have those from some place on
some_rest : (registers place : ℕ) (calls : List Kind) → IsTrue (list_all (is_call registers) calls)
    → (text : List Kind) × IsWholeText (drop place calls) text
some_rest registers zero calls asks = some_text registers calls asks
some_rest registers (suc place) [] asks = ([], refl)
some_rest registers (suc place) (call ∷ calls) asks = some_rest registers place calls (and_parts (is_call registers call) _ asks).1

-- a call that is due may be answered by an abort event
call_answers : (registers place : ℕ) (calls : List Kind) → IsTrue (list_all (is_call registers) calls) → place < length calls
    → IsTrue (answers (get_or calls place A) A)
call_answers registers place [] asks low = absurd (omega (arith, low))
call_answers registers zero (call ∷ calls) asks low = answers_abort registers call (and_parts (is_call registers call) _ asks).0
call_answers registers (suc place) (call ∷ calls) asks low =
    call_answers registers place calls (and_parts (is_call registers call) _ asks).1 (omega (arith, low))

-- whatever phase the transaction is in
completes : (registers place phase : ℕ) (calls kinds : List Kind) → IsTrue (list_all (is_call registers) calls) → Follows calls place phase kinds
    → (more : List Kind) × IsWholeText calls (kinds ++ more)
completes registers place zero calls kinds asks leaves =
    let (text, whole) = some_rest registers place calls asks in grind arith
completes registers place (suc zero) calls kinds asks (low, before, is, leaves) =
    let call : Kind = get_or calls place A in
    let text : IsWholeText (call ∷ drop (place + 1) calls) (call ∷ A ∷ []) = (A, [], refl, call_answers registers place calls asks low, refl) in
    let left : IsWholeText (drop place calls) (call ∷ A ∷ [])
    = subst (λ (l : List Kind). IsWholeText l (call ∷ A ∷ [])) (sym (drop_more calls place A low)) text
    in
    let parts : kinds ++ A ∷ [] ≡ before ++ call ∷ A ∷ []
    = ap (λ (k : List Kind). k ++ A ∷ []) is ∙ append_assoc before (call ∷ []) (A ∷ [])
    in
    (A ∷ [], subst (λ (k : List Kind). IsWholeText calls k) (sym parts) (leaves (call ∷ A ∷ []) left))
completes registers place (suc (suc more)) calls kinds asks whole = grind (arith, append-nil)

pub step_law : StepLaw
step_law script calls kinds recorded place phase next_place next_phase turned goes =
    grind (arith, append_assoc)

pub over_law : OverLaw
over_law script calls kinds place more turned = grind (arith, whole_run-more)

-- what is recorded by turns begins a run of its transactions
begins-by_turns : (registers : ℕ) (kinds : List Kind) → IsByTurns registers kinds → BeginsScript registers kinds
begins-by_turns registers kinds turns =
    let script = turns.script in
    let calls = turns.calls in
    let turned = turns.turned in
    let are : IsTrue (are_calls registers (script ++ calls ∷ [])) = are_calls-transactions registers (script ++ calls ∷ []) turns.asks in
    let last : IsTrue (list_all (is_call registers) calls) = grind (arith, list_all-append) in
    let (more, whole) = completes registers turns.place turns.phase calls turned.text last turned.follows in
    grind (arith, append_assoc, whole_run-more)

pub formed_by_turns : FormedLaw IsByTurns
formed_by_turns registers history turns = search (rules, formed_law, begins-by_turns)
