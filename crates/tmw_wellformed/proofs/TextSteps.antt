-- What one event more makes of a transaction's text: whether it is a text still, its pending call, and whether it has ended.
use Rattle.tmw_wellformed.proofs.Shared.{Bool, Kind, List, None, Option, Some, [], and_parts, answers, arith, asks, call_of, ends, false, is_call, is_ended, is_ended-cons, is_over-ends, is_text, length, length-append, not, refl, slice_get_end, true, ℕ, ◌&&◌, ◌++◌, ◌-◌, ◌∷◌, ◌≡◌}
use Rattle.tmw_wellformed.proofs.NextCall.{next_call}

pub is_ended-push : (text : List Kind) (k : Kind) → is_ended (text ++ k ∷ []) ≡ ends k
is_ended-push text k =
    let last : length (text ++ k ∷ []) - 1 ≡ length text = omega (arith, length-append text (k ∷ [])) in
    rw (last, slice_get_end text k) (is_over-ends k)

-- the pending call with one event more
pub call_of-push : (text : List Kind) (k : Kind) → call_of (text ++ k ∷ []) ≡ next_call (call_of text) k
call_of-push [] k = refl
call_of-push (c ∷ []) k = refl
call_of-push (c ∷ a ∷ more) k = call_of-push more k

-- the event is a call where none is pending, and else answers the pending one
abbrev pub goes_on : ℕ → Option Kind → Kind → Bool
goes_on registers None k = is_call registers k
goes_on registers (Some call) k = answers call k

pub is_text-push : (registers : ℕ) (text : List Kind) (k : Kind) → is_text registers text ≡ true → is_ended text ≡ false
    → is_text registers (text ++ k ∷ []) ≡ goes_on registers (call_of text) k
is_text-push registers [] k formed still = refl
is_text-push registers (c ∷ []) k formed still = rw formed refl
is_text-push registers (c ∷ a ∷ []) k formed still = grind (arith, (is_over-ends a))
is_text-push registers (c ∷ a ∷ b ∷ more) k formed still =
    grind (arith, (is_text-push registers (b ∷ more) k), (is_ended-cons a b more), (is_ended-cons c a (b ∷ more)))

is_call-asks : (registers : ℕ) (k : Kind) → is_call registers k ≡ true → asks k ≡ true
is_call-asks registers k call = grind arith

-- what is pending is a call
pub pending_asks : (registers : ℕ) (text : List Kind) (c : Kind) → is_text registers text ≡ true → call_of text ≡ Some c → asks c ≡ true
pending_asks registers (d ∷ []) c formed is = let call = is_call-asks registers d formed in grind arith
pending_asks registers (d ∷ a ∷ b ∷ more) c formed is =
    let (front, rest) = and_parts (is_call registers d && answers d a && not (ends a)) (is_text registers (b ∷ more)) formed in
    pending_asks registers (b ∷ more) c rest is
pending_asks registers _ c formed is = cc
