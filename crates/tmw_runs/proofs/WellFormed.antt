-- A history is well-formed where the events of each thread are calls and answers in turn.
use Rattle.tmw_runs.proofs.Shared.{All, AreTransactions, Bool, Event, IsTrue, Kind, List, Txn, [], and_from, and_parts, answers, ap, arith, cases_Bool, drop, ended_but_last, ends, eq-eqb, inl, inr, is_call, is_ended, is_text, is_well_formed, joined_texts, kinds_of, list_all, map-append, ne_eqb, not, of_thread, open_but_last, refl, sym, take, take-append-drop, transactions, true, ℕ, ◌&&◌, ◌++◌, ◌<◌, ◌==◌, ◌∙◌, ◌∷◌, ◌≡◌, ◌≤◌}
use Rattle.tmw_runs.proofs.CallTexts.{is_turns}
use Rattle.std.proofs.lemmas.List.Elements.{All-head, All-tail, filter-append}
use Rattle.tmw_defs.proofs.TextsProof.{texts_law, is_ended-cons}
use Rattle.tmw_runs.proofs.TurnsOfRuns.{is_turns_front}

-- turns of which at most the last event ends a transaction are a text
is_text-turns : (registers : ℕ) (text : List Kind) → IsTrue (is_turns registers text) → IsTrue (open_but_last text)
    → IsTrue (is_text registers text)
is_text-turns registers [] turns unbroken = refl
is_text-turns registers (call ∷ []) turns unbroken = turns
is_text-turns registers (call ∷ answer ∷ []) turns unbroken = (and_parts (is_call registers call && answers call answer) _ turns).0
is_text-turns registers (call ∷ answer ∷ next ∷ more) turns unbroken =
    let (here, rest) = and_parts (is_call registers call && answers call answer) _ turns in
    let (answer_open, rest_open) = and_parts (not (ends answer)) _ (and_parts (not (ends call)) _ unbroken).1 in
    and_from _ _ (and_from _ _ here answer_open) (is_text-turns registers (next ∷ more) rest rest_open)

-- turns go on with turns after an ended transaction
is_turns_back : (registers : ℕ) (text back : List Kind) → IsTrue (is_turns registers (text ++ back)) → IsTrue (is_ended text)
    → IsTrue (is_turns registers back)
is_turns_back registers [] back turns ended = absurd (cc)
is_turns_back registers (call ∷ []) back turns ended = grind arith
is_turns_back registers (call ∷ answer ∷ []) back turns ended = (and_parts (is_call registers call && answers call answer) _ turns).1
is_turns_back registers (call ∷ answer ∷ next ∷ more) back turns ended =
    let later : IsTrue (is_ended (next ∷ more)) = sym (is_ended-cons answer next more) ∙ sym (is_ended-cons call answer (next ∷ more)) ∙ ended in
    is_turns_back registers (next ∷ more) back (and_parts (is_call registers call && answers call answer) _ turns).1 later

-- each transaction of a thread has a text
texts_of_thread : (registers : ℕ) (ts : List Txn) → IsTrue (is_turns registers (joined_texts ts)) → IsTrue (ended_but_last ts)
    → ((earlier later : List Txn) (t : Txn) → ts ≡ earlier ++ t ∷ later → IsTrue (open_but_last t.text))
    → IsTrue (list_all (λ t. is_text registers t.text) ts)
texts_of_thread registers [] turns ended unbroken = refl
texts_of_thread registers (t ∷ []) turns ended unbroken =
    and_from _ _ (is_text-turns registers t.text (is_turns_front registers t.text [] turns) (unbroken [] [] t refl)) refl
texts_of_thread registers (t ∷ u ∷ ts) turns ended unbroken =
    let (t_ended, rest_ended) = and_parts (is_ended t.text) _ ended in
    let front = is_turns_front registers t.text (joined_texts (u ∷ ts)) turns in
    let back = is_turns_back registers t.text (joined_texts (u ∷ ts)) turns t_ended in
    and_from _ _ (is_text-turns registers t.text front (unbroken [] (u ∷ ts) t refl))
    (texts_of_thread registers (u ∷ ts) back rest_ended (λ earlier later v split. unbroken (t ∷ earlier) later v (ap (λ vs. t ∷ vs) split)))

-- what holds of each thread's transactions holds of all
all_by_thread : (p : Txn → Bool) (ts : List Txn) → ((thread : ℕ) → IsTrue (list_all p (of_thread thread ts)))
    → IsTrue (list_all p ts)
all_by_thread p [] each = refl
all_by_thread p (t ∷ ts) each =
    let own : (t.thread == t.thread) ≡ true = eq-eqb t.thread t.thread refl in
    let here : IsTrue (list_all p (t ∷ of_thread t.thread ts)) = rw own at (each t.thread) in
    and_from _ _ (and_parts (p t) _ here).0 (all_by_thread p ts (λ thread. rest_of thread (each thread)))
  where
    rest_of : (thread : ℕ) → IsTrue (list_all p (of_thread thread (t ∷ ts))) → IsTrue (list_all p (of_thread thread ts))
    rest_of thread all =
        elim (cases_Bool (t.thread == thread)) [
          | inl own ↦ let kept : IsTrue (list_all p (t ∷ of_thread thread ts)) = rw own at all in (and_parts (p t) _ kept).1
          | inr other ↦ let left : IsTrue (list_all p (of_thread thread ts)) = rw other at all in left
        ]

pub is_well_formed-turns : (registers : ℕ) (history : List Event)
    → ((thread : ℕ) → IsTrue (is_turns registers (kinds_of thread history))) → IsTrue (is_well_formed registers history)
is_well_formed-turns registers history turns =
    all_by_thread (λ t. is_text registers t.text) (transactions history) (λ thread. texts_of thread)
  where
    texts_of : (thread : ℕ) → IsTrue (list_all (λ t. is_text registers t.text) (of_thread thread (transactions history)))
    texts_of thread =
        let law : AreTransactions thread history (of_thread thread (transactions history)) = texts_law history thread in
        texts_of_thread registers (of_thread thread (transactions history)) (ap (is_turns registers) law.joined ∙ turns thread) law.ended
        (λ earlier later t split. (law.placed earlier later t split).unbroken)

-- no thread beyond the players has events
pub no_kinds : (count thread : ℕ) (history : List Event) → All (λ event. event.thread.number < count) history → count ≤ thread
    → kinds_of thread history ≡ []
no_kinds count thread [] own past = refl
no_kinds count thread (event ∷ history) own past =
    let low : event.thread.number < count = All-head (λ e. e.thread.number < count) event history own in
    rw (ne_eqb event.thread.number thread (λ same. absurd (omega arith)))
    (no_kinds count thread history (All-tail (λ e. e.thread.number < count) event history own) past)

-- a thread's events in a history that goes on
pub kinds_of-append : (thread : ℕ) (front back : List Event) → kinds_of thread (front ++ back) ≡ kinds_of thread front ++ kinds_of thread back
kinds_of-append thread front back = grind (arith, filter-append, map-append)

-- and so is each prefix
pub is_well_formed-turns_take : (registers : ℕ) (history : List Event)
    → ((thread : ℕ) → IsTrue (is_turns registers (kinds_of thread history)))
    → (m : ℕ) → IsTrue (is_well_formed registers (take m history))
is_well_formed-turns_take registers history turns m =
    is_well_formed-turns registers (take m history) (λ thread. front thread)
  where
    front : (thread : ℕ) → IsTrue (is_turns registers (kinds_of thread (take m history)))
    front thread =
        let whole : kinds_of thread (take m history) ++ kinds_of thread (drop m history) ≡ kinds_of thread history
        = sym (kinds_of-append thread (take m history) (drop m history)) ∙ ap (kinds_of thread) (take-append-drop m history)
        in
        is_turns_front registers (kinds_of thread (take m history)) (kinds_of thread (drop m history)) (ap (is_turns registers) whole ∙ turns thread)
