-- Which events a thread's pending call lets go on, and what the others are refused for.
use Rattle.tmw_cuts.proofs.Shared.{A, Answer, Ask, Begin, Bool, C, End, Err, Idle, Ix, K, Kind, Live, Malformed, Move, N, None, Ok, Op, Option, R, Rejects, Some, T, V, W, X, [], after_call, answers, answers_asked, arith, asks, false, goes_on, is_call_answer, is_call_asked, is_over, lacks_register, move_of, numbered, operation, option_map, refl, status_after, true, ℕ, ◌∷◌, ◌≡◌}
use Rattle.tmw_cuts.proofs.NextViews.{call_in}

abbrev pub ends_at : Kind → Bool
ends_at k = is_over (status_after (Some k))

-- a call does not end its transaction
pub asked_on : (k : Kind) → asks k ≡ true → ends_at k ≡ false
asked_on k h = grind arith

-- and leaves it live but for a commit request, as an answer does that makes an operation
pub asked_live : (k : Kind) → asks k ≡ true → (k ≡ T → ⊥) → status_after (Some k) ≡ Live
asked_live k h other = grind arith

pub answered_live : (c k : Kind) (op : Op) → operation c k ≡ op ∷ [] → status_after (Some k) ≡ Live
answered_live c k op makes = grind arith

-- What a move says of the event.
abbrev pub Means : Option (Ix × Option Kind) → Kind → Move → Type 0
Means f k Begin = (f ≡ None) × (asks k ≡ true)
Means f k (Ask p) = (f ≡ Some (p, None)) × (asks k ≡ true)
Means f k (Answer p op) = (c : Kind) × ((f ≡ Some (p, Some c)) × ((operation c k ≡ op ∷ []) × (ends_at k ≡ false)))
Means f k (End p) = (c : Kind) × ((f ≡ Some (p, Some c)) × ((operation c k ≡ []) × (ends_at k ≡ true)))

pub record Is (registers : ℕ) (f : Option (Ix × Option Kind)) (k : Kind) (m : Move) : Type 0 where
  pub goes : goes_on registers (call_in (option_map numbered f)) k ≡ true
  pub is : Means f k m

means_move : (p : Ix) (c k : Kind) → answers c k ≡ true → Means (Some (p, Some c)) k (move_of p (operation c k))
means_move p (R r) (V v) h = (R r, (refl, (refl, refl)))
means_move p (R r) A h = (R r, (refl, (refl, refl)))
means_move p (W r v) K h = (W r v, (refl, (refl, refl)))
means_move p (W r v) A h = (W r v, (refl, (refl, refl)))
means_move p (N r d) (V v) h = (N r d, (refl, (refl, refl)))
means_move p (N r d) A h = (N r d, (refl, (refl, refl)))
means_move p T C h = (T, (refl, (refl, refl)))
means_move p T A h = (T, (refl, (refl, refl)))
means_move p X A h = (X, (refl, (refl, refl)))
means_move p _ _ h = cc

pub accepts : (registers : ℕ) (f : Option (Ix × Option Kind)) (k : Kind) (m : Move) → lacks_register registers k ≡ false → after_call f k ≡ Ok m
    → Is registers f k m
accepts registers None k m has is = grind (arith, (is_call_asked registers k))
accepts registers (Some (p, None)) k m has is = grind (arith, (is_call_asked registers k))
accepts registers (Some (p, Some c)) k m has is = grind (arith, (means_move p c k))

idle : (registers : ℕ) (k : Kind) (fault : Malformed) → lacks_register registers k ≡ false → asks k ≡ false → Idle ≡ fault
    → Rejects registers None k fault
idle registers k fault has answer same =
    rw (← same) (record { stops = is_call_answer registers k answer; here = rw answer refl; first = rw (has, answer) refl })

pub rejects : (registers : ℕ) (f : Option (Ix × Option Kind)) (k : Kind) (fault : Malformed) → lacks_register registers k ≡ false → after_call f k ≡ Err fault
    → Rejects registers (call_in (option_map numbered f)) k fault
rejects registers f k fault has is = grind (arith, is_call_answer, answers_asked)
