-- The events of a thread that carries a script out are calls and answers in turn.
use Rattle.tmw_runs.proofs.Shared.{IsBeginning, IsTrue, IsWholeRun, IsWholeText, Kind, List, MatchBool-at_false, MatchBool-at_true, [], and_from, and_parts, answers, ap, arith, cases_Bool, inl, inr, is_abort, is_call, list_all, refl, subst, sym, ℕ, ◌&&◌, ◌++◌, ◌∙◌, ◌∷◌}
use Rattle.tmw_runs.proofs.CallTexts.{are_calls, is_turns}

-- the front of turns is turns
pub is_turns_front : (registers : ℕ) (front back : List Kind) → IsTrue (is_turns registers (front ++ back))
    → IsTrue (is_turns registers front)
is_turns_front registers [] back turns = refl
is_turns_front registers (call ∷ []) [] turns = turns
is_turns_front registers (call ∷ []) (answer ∷ back) turns = grind arith
is_turns_front registers (call ∷ answer ∷ front) back turns =
    let (here, rest) = and_parts (is_call registers call && answers call answer) _ turns in
    and_from _ _ here (is_turns_front registers front back rest)

-- a whole text, and turns after it
text_turns : (registers : ℕ) (calls text more : List Kind) → IsTrue (list_all (is_call registers) calls)
    → IsWholeText calls text → IsTrue (is_turns registers more) → IsTrue (is_turns registers (text ++ more))
text_turns registers [] text more asks whole turns = subst (λ t. IsTrue (is_turns registers (t ++ more))) (sym whole) turns
text_turns registers (call ∷ calls) text more asks (answer, rest, is, fits, whole) turns =
    let (call_asks, calls_ask) = and_parts (is_call registers call) _ asks in
    let rest_turns : IsTrue (is_turns registers (rest ++ more)) =
    elim (cases_Bool (is_abort answer)) [
      | inl over ↦ subst (λ t. IsTrue (is_turns registers (t ++ more))) (sym (MatchBool-at_true _ _ over whole)) turns
      | inr on ↦ text_turns registers calls rest more calls_ask (MatchBool-at_false _ _ on whole) turns
    ]
    in cc

pub run_turns : (registers : ℕ) (script : List (List Kind)) (kinds : List Kind) → IsTrue (are_calls registers script)
    → IsWholeRun script kinds → IsTrue (is_turns registers kinds)
run_turns registers [] kinds asks run = ap (is_turns registers) run
run_turns registers (calls ∷ script) kinds asks (text, more, is, whole, run) =
    let (calls_ask, script_asks) = and_parts (list_all (is_call registers) calls) _ asks in
    ap (is_turns registers) is ∙ text_turns registers calls text more calls_ask whole (run_turns registers script more script_asks run)

pub beginning_turns : (registers : ℕ) (script : List (List Kind)) (kinds : List Kind) → IsTrue (are_calls registers script)
    → IsBeginning script kinds → IsTrue (is_turns registers kinds)
beginning_turns registers script kinds asks (more, run) =
    is_turns_front registers kinds more (run_turns registers script (kinds ++ more) asks run)
