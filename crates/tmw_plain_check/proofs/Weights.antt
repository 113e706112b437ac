-- From what is found of one prefix to the answer for the history.
use Rattle.tmw_plain_check.proofs.Shared.{Bool, Criterion, Err, Event, HasOrderBy, IsFalse, IsFaultless, IsFirstAtFault, IsNotFinal, IsTrue, JudgesBy, List, Ok, PlainTransaction, State, Txn, Weighs, [], ap, arith, both_ways, cases_lt, false, has_completion, is_explained, is_explained-complete, is_explained-sound, is_well_formed, length, length-map, length-take, refl, take, transactions, true, txns_of, ℕ, ◌+◌, ◌<◌, ◌∙◌, ◌≡◌, ◌≤◌}
use Rattle.tmw_defs.specs.declared.criterion.Criterion.TheVariants.{Opacity, Strict}
use Rattle.tmw_defs.specs.Criteria.{IsFinalBy}
use Rattle.tmw_plain_check.specs.declared.whole_verdict.WholeFault.{WholeFault}
use Rattle.tmw_plain_check.specs.declared.whole_verdict.WholeFault.TheVariants.{IllFormed}
use Rattle.tmw_plain_check.proofs.CompletionProof.{has_completion-sound, has_completion-complete}

-- what a history is asked by a criterion: to be well-formed, and that its transactions have an order
final-from : (c : Criterion) (registers : ℕ) (start : State) (h : List Event) → IsTrue (is_well_formed registers h)
    → HasOrderBy c start (transactions h) → IsFinalBy c registers start h
final-from Opacity registers start h formed ordered = record { formed = formed; ordered = ordered }
final-from Strict registers start h formed ordered = record { formed = formed; ordered = ordered }

final_ordered : (c : Criterion) (registers : ℕ) (start : State) (h : List Event) → IsFinalBy c registers start h → HasOrderBy c start (transactions h)
final_ordered Opacity registers start h final = final.ordered
final_ordered Strict registers start h final = final.ordered

-- no transactions have an order
no_transactions : (c : Criterion) (start : State) → HasOrderBy c start []
no_transactions Opacity start = ([], record { each = refl; kept = refl; completed = refl; legal = refl })
no_transactions Strict start = grind arith

-- what a search for an order decides of a history of at most eight transactions
weighs_decided : (c : Criterion) (start : State) (history : List Event) (decide : List Txn → Bool) (found : Bool)
    → ((ts : List Txn) → IsTrue (decide ts) → HasOrderBy c start ts) → ((ts : List Txn) → HasOrderBy c start ts → IsTrue (decide ts))
    → length (transactions history) ≤ 8 → found ≡ decide (transactions history) → Weighs c start history (Ok found)
weighs_decided c start history decide found sound complete few is =
    grind (arith, transactions, both_ways)

module _ (start : State) (history : List Event) (list : List PlainTransaction) (found : Bool)
    (shown : txns_of list ≡ transactions history) (few : length list ≤ 8) where
  pub weighs_explained : found ≡ is_explained start (txns_of list) → Weighs Opacity start history (Ok found)
  weighs_explained is =
      weighs_decided Opacity start history (is_explained start) found (is_explained-sound start) (is_explained-complete start)
      (rw (← shown, length-map) few) (is ∙ ap (is_explained start) shown)

  pub weighs_completed : found ≡ has_completion start (txns_of list) → Weighs Strict start history (Ok found)
  weighs_completed is =
      weighs_decided Strict start history (has_completion start) found (has_completion-sound start) (has_completion-complete start)
      (rw (← shown, length-map) few) (is ∙ ap (has_completion start) shown)

-- each prefix shorter than this is fine
abbrev pub FaultlessBelow : Criterion → ℕ → State → List Event → ℕ → Type 0
FaultlessBelow c registers start history m = (k : ℕ) → k < m → IsFaultless c registers start (take k history)

-- the history of no event is fine
pub faultless_below_one : (c : Criterion) (registers : ℕ) (start : State) (history : List Event) → FaultlessBelow c registers start history 1
faultless_below_one c registers start history k first =
    let none : k ≡ 0 = omega arith in
    rw none (record { few = omega arith; final = final-from c registers start [] refl (no_transactions c start) })

-- a prefix more that is well-formed and has an order
pub faultless_below_more : (c : Criterion) (registers : ℕ) (start : State) (history : List Event) (m : ℕ) → FaultlessBelow c registers start history m
    → IsTrue (is_well_formed registers (take m history)) → Weighs c start (take m history) (Ok true)
    → FaultlessBelow c registers start history (m + 1)
faultless_below_more c registers start history m before formed (few, ordered) k within =
    grind (arith, cases_lt, final-from, take)

-- a fault of the first prefix that has one is the answer
pub judges_ill_formed : (c : Criterion) (registers : ℕ) (start : State) (history : List Event) (m : ℕ) → m ≤ length history
    → FaultlessBelow c registers start history m → IsFalse (is_well_formed registers (take m history))
    → JudgesBy c registers start history (Err (IllFormed m))
judges_ill_formed c registers start history m within before ill_formed = grind arith

pub judges_weighed : (c : Criterion) (registers : ℕ) (start : State) (history : List Event) (m : ℕ) (fault : WholeFault) → m ≤ length history
    → FaultlessBelow c registers start history m → IsTrue (is_well_formed registers (take m history))
    → Weighs c start (take m history) (Err fault)
    → JudgesBy c registers start history (Err fault)
judges_weighed c registers start history m fault within before formed never =
    grind (arith, length-take)

pub judges_violated : (c : Criterion) (registers : ℕ) (start : State) (history : List Event) (m : ℕ) → m ≤ length history
    → FaultlessBelow c registers start history m → IsTrue (is_well_formed registers (take m history)) → Weighs c start (take m history) (Ok false)
    → IsFirstAtFault IsNotFinal c registers start history m
judges_violated c registers start history m within before formed (few, unordered) =
    grind (arith, final_ordered, take)
