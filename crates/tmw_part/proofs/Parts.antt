-- What is kept as a part of a window has no more transactions than the window.
use Rattle.tmw_part.proofs.Shared.{Bool, Event, IsKept, IsTrue, List, Txn, [], and_parts, are_placed, arith, cases_Bool, inl, inr, is_among, is_unread, length, length-map, may_go_whole, owner_in, owners, part_of, places_of, transactions, without_number, ℕ, ◌+◌, ◌∷◌, ◌≡◌, ◌≤◌}

length-without_number : (n : ℕ) (places : List ℕ) → IsTrue (is_among n places) → length places ≡ length (without_number n places) + 1
length-without_number n [] among = absurd (cc)
length-without_number n (p ∷ places) among = grind (arith, cases_Bool, (length-without_number n places))

placed-fewer : (unread : ℕ → ℕ → Bool) (n : ℕ) (places : List ℕ) (ts : List Txn) → IsTrue (are_placed unread n places ts)
    → length places ≤ length ts
placed-fewer unread n [] [] all = omega arith
placed-fewer unread n (p ∷ places) [] all = absurd (cc)
placed-fewer unread n places (t ∷ ts) all =
    elim (cases_Bool (is_among n places)) [
      | inl is ↦
          let rest = placed-fewer unread (n + 1) (without_number n places) ts (rw is at all) in
          omega (arith, length-without_number n places is, rest)
      | inr none ↦
          let (idle, more) = and_parts (may_go_whole unread t) _ (rw none at all) in
          omega (arith, placed-fewer unread (n + 1) places ts more)
    ]

pub kept-fewer : (marks : List Bool) (window : List Event) → IsKept marks window → length (part_of marks window) ≤ length (transactions window)
kept-fewer marks window k =
    let fewer = placed-fewer (is_unread (part_of marks window)) 0 (owners marks window) (transactions window) k.stay in
    omega (arith, fewer, length-map (part_of marks window) (owner_in (places_of marks) (transactions window)))
