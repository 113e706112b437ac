-- What is left of a script after its next call and the answer to it.
use Rattle.tmw_workers.proofs.Shared.{A, BeginsNext, C, GoesOn, IsTrue, K, Kind, Leaves, List, MakesNext, N, None, Player, R, Some, T, V, W, X, [], and_from, and_parts, answers, ap, are_transactions, arith, cases_Bool, drop, drop-drop, ends, from_call, if◌then◌else◌, is_operation, is_request, leaves_aborted, leaves_answered, leaves_next, left_of, ne_eqb, next_of, refl, rules, sym, ℕ, ◌++◌, ◌+◌, ◌==◌, ◌∙◌, ◌∷◌, ◌≡◌}

-- what is left after this answer to the next call
abbrev pub next_left : Kind → List (List Kind) → List (List Kind)
next_left answer ((call ∷ calls) ∷ later) = if ends answer then later else calls ∷ later
next_left answer left = left

-- what is left has this call first
pub record Nexts (left : List (List Kind)) (call : Kind) : Type 0 where
  pub calls : List Kind
  pub later : List (List Kind)
  pub is : left ≡ (call ∷ calls) ∷ later

pub next_of-some : (left : List (List Kind)) (call : Kind) → next_of left ≡ Some call → Nexts left call
next_of-some left call is = grind arith

-- where there is no next call, nothing is left
pub next_of-none : (registers : ℕ) (left : List (List Kind)) → IsTrue (are_transactions registers left) → next_of left ≡ None
    → left ≡ []
next_of-none registers left asks is = grind arith

-- one item more is dropped
drop-one : {X : Type 0} (xs : List X) (n : ℕ) (x : X) (rest : List X) → drop n xs ≡ x ∷ rest → drop (n + 1) xs ≡ rest
drop-one xs n x rest is = sym (drop-drop 1 n xs) ∙ ap (drop 1) is

-- the transaction in which a call is left
record Within (number : ℕ) (script : List (List Kind)) (call : Kind) (calls : List Kind) (later : List (List Kind)) : Type 0 where
  transaction : List Kind
  is : script ≡ transaction ∷ later
  rest : drop number transaction ≡ call ∷ calls

from_call-within : (number : ℕ) (script : List (List Kind)) (call : Kind) (calls : List Kind) (later : List (List Kind))
    → from_call number script ≡ (call ∷ calls) ∷ later → Within number script call calls later
from_call-within number script call calls later is = grind arith

from_call-zero : (script : List (List Kind)) → from_call 0 script ≡ script
from_call-zero script = grind arith

left_of-begins : (script : List (List Kind)) (old new : Player) (call : Kind) (calls : List Kind) (later : List (List Kind))
    → left_of script old ≡ (call ∷ calls) ∷ later → BeginsNext old new → left_of script new ≡ later
left_of-begins script old new call calls later is begins = grind (arith, from_call-within, drop-one, from_call-zero)

left_of-makes : (script : List (List Kind)) (old new : Player) (call : Kind) (calls : List Kind) (later : List (List Kind))
    → left_of script old ≡ (call ∷ calls) ∷ later → MakesNext old new → left_of script new ≡ calls ∷ later
left_of-makes script old new call calls later is makes = grind (arith, from_call-within, drop-one)

-- what is left of the script once the player has gone on
pub left_of-goes_on : (script : List (List Kind)) (old new : Player) (call answer : Kind) (next : Nexts (left_of script old) call)
    → GoesOn answer old new → left_of script new ≡ next_left answer ((call ∷ next.calls) ∷ next.later)
left_of-goes_on script old new call answer next goes = grind (arith, cases_Bool, left_of-begins, left_of-makes)

-- after an answer that ends its transaction, and after no other, the next call is the first of one
pub first-goes_on : (old new : Player) (answer : Kind) → GoesOn answer old new → (new.call == 0) ≡ ends answer
first-goes_on old new answer goes = grind (arith, cases_Bool, ends, ne_eqb)

leaves-request : (script : List (List Kind)) (kinds : List Kind) (call answer : Kind) (later : List (List Kind))
    → IsTrue (is_request call) → IsTrue (answers call answer) → Leaves script kinds ((call ∷ []) ∷ later)
    → Leaves script (kinds ++ call ∷ answer ∷ []) (next_left answer ((call ∷ []) ∷ later))
leaves-request script kinds T C later asks fits leaves = search (rules, leaves_next, leaves_answered)
leaves-request script kinds T A later asks fits leaves = leaves_aborted script kinds T A [] later leaves refl refl
leaves-request script kinds X A later asks fits leaves = leaves_aborted script kinds X A [] later leaves refl refl
leaves-request script kinds _ _ later asks fits leaves = absurd (cc)

leaves-operation : (registers : ℕ) (script : List (List Kind)) (kinds : List Kind) (call answer : Kind) (calls : List Kind) (later : List (List Kind))
    → IsTrue (is_operation registers call) → IsTrue (answers call answer) → Leaves script kinds ((call ∷ calls) ∷ later)
    → Leaves script (kinds ++ call ∷ answer ∷ []) (next_left answer ((call ∷ calls) ∷ later))
leaves-operation registers script kinds (R r) (V v) calls later asks fits leaves = search (rules, leaves_answered)
leaves-operation registers script kinds (R r) A calls later asks fits leaves = search (rules, leaves_aborted)
leaves-operation registers script kinds (W r v) K calls later asks fits leaves = search (rules, leaves_answered)
leaves-operation registers script kinds (W r v) A calls later asks fits leaves = search (rules, leaves_aborted)
leaves-operation registers script kinds (N r d) (V v) calls later asks fits leaves =
    leaves_answered script kinds (N r d) (V v) calls later leaves refl refl
leaves-operation registers script kinds (N r d) A calls later asks fits leaves =
    leaves_aborted script kinds (N r d) A calls later leaves refl refl
leaves-operation registers script kinds _ _ calls later asks fits leaves = absurd (cc)

-- after the next call and its answer the events leave what is left then
pub leaves-next_left : (registers : ℕ) (script : List (List Kind)) (kinds : List Kind) (call answer : Kind) (calls : List Kind) (later : List (List Kind))
    → IsTrue (are_transactions registers ((call ∷ calls) ∷ later)) → IsTrue (answers call answer)
    → Leaves script kinds ((call ∷ calls) ∷ later)
    → Leaves script (kinds ++ call ∷ answer ∷ []) (next_left answer ((call ∷ calls) ∷ later))
leaves-next_left registers script kinds call answer calls later asks fits leaves =
    grind (arith, leaves-request, and_parts, leaves-operation)

ends-request : (call answer : Kind) → IsTrue (is_request call) → IsTrue (answers call answer) → IsTrue (ends answer)
ends-request call answer asks fits = grind arith

-- and what is left then are transactions again
pub are_transactions-next_left : (registers : ℕ) (call answer : Kind) (calls : List Kind) (later : List (List Kind))
    → IsTrue (are_transactions registers ((call ∷ calls) ∷ later)) → IsTrue (answers call answer)
    → IsTrue (are_transactions registers (next_left answer ((call ∷ calls) ∷ later)))
are_transactions-next_left registers call answer calls later asks fits =
    grind (arith, and_parts, ends-request, cases_Bool, and_from)
