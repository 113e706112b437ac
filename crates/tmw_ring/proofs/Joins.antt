-- A seat may take in the parts of another.
use Rattle.tmw_ring.proofs.Shared.{Joins, Lies, List, Parts, RingSize, Shown, State, [], ap, arith, at_longer, at_set, get_elem?, inl, inr, length, set, set_else, some, some-ne-none, subst, suc, sym, zero, ℕ, ℕ_discrete, ◌++◌, ◌+◌, ◌∙◌, ◌∷◌, ◌≡◌, ◌≢◌, ◌⊎◌}
use Rattle.tmw_ring.proofs.Moves.{Rearranged, Stays, lies_among, rearrange, set_over}
use Rattle.tmw_ring.proofs.Seats.{from_seat, from_this, from_other}

-- What stands in two lists in a row stands in the first, or so far past it in the second.
at_either : {A : Type 0} (items more : List A) (place : ℕ) (found : A) → get_elem? (items ++ more) place ≡ some found
    → (get_elem? items place ≡ some found) ⊎ ((past : ℕ) × (length items + past ≡ place) × (get_elem? more past ≡ some found))
at_either [] more place found at = inr (place, omega arith, at)
at_either (first ∷ items) more zero found at = inl at
at_either (first ∷ items) more (suc place) found at =
    grind (arith, (at_either items more place found at))

-- What stands in the second of two lists in a row stands so far past the first.
at_past : {A : Type 0} (items more : List A) (place : ℕ) (found : A) → get_elem? more place ≡ some found
    → get_elem? (items ++ more) (length items + place) ≡ some found
at_past [] more place found at = let same : 0 + place ≡ place = omega arith in ap (get_elem? more) same ∙ at
at_past (first ∷ items) more place found at = grind (arith, (at_past items more place found at))

-- Where the parts of the seat that is taken in go.
abbrev joined_to : ℕ → Parts → ℕ → ℕ × ℕ
joined_to seat view place = (seat, length view + place)

module _ {S : Type 0} where
  join_lies : (state : State S Parts) (seat other : ℕ) (view more : Parts) → get_elem? state.views seat ≡ some view → other ≢ seat
      → get_elem? state.views other ≡ some more
      → Rearranged state (set (set state.views seat (view ++ more)) other []) (from_seat other (joined_to seat view))
  join_lies state seat other view more seated apart there at place found part is_at placed =
      elim (at_set (set state.views seat (view ++ more)) other at [] found is_at) [
        | inl spent ↦ absurd (some-ne-none part (sym (subst (λ (v : Parts). get_elem? v place ≡ some part) (sym spent.1) placed)))
        | inr left ↦ elim (at_set state.views seat at (view ++ more) found left.1) [
          | inl here ↦
              let now : ◌≡◌ {A = ℕ × ℕ} (seat, place) (at, place) =
              ap (λ (n : ℕ). let pair : ℕ × ℕ = (n, place) in pair) (sym here.0) in
              elim (at_either view more place part (subst (λ (v : Parts). get_elem? v place ≡ some part) (sym here.1) placed)) [
                | inl own ↦ (
                  (seat, place),
                  record { view = view; seated = seated; placed = own },
                  from_other other (joined_to seat view) seat place (λ same. apart (sym same)) ∙ now,
                )
                | inr taken ↦
                    let (past, is, was) = taken in (
                      (other, past),
                      record { view = more; seated = there; placed = was },
                      from_this other (joined_to seat view) past
                          ∙ ap (λ (n : ℕ). let pair : ℕ × ℕ = (seat, n) in pair) is ∙ now,
                    )
              ]
          | inr else ↦ (
            (at, place),
            record { view = found; seated = else.1; placed = placed },
            from_other other (joined_to seat view) at place left.0,
          )
        ]
      ]

  join_stays : (state : State S Parts) (seat other : ℕ) (view more : Parts) → get_elem? state.views seat ≡ some view → other ≢ seat
      → get_elem? state.views other ≡ some more
      → Stays state (set (set state.views seat (view ++ more)) other []) (from_seat other (joined_to seat view))
  join_stays state seat other view more seated apart there from part lies =
      by_seat (ℕ_discrete from.0 other) (ℕ_discrete from.0 seat)
    where
      all : List Parts
      all = set (set state.views seat (view ++ more)) other []

      -- The seat has both lists of parts.
      both : get_elem? all seat ≡ some (view ++ more)
      both = set_else (set state.views seat (view ++ more)) other seat [] (λ same. apart (sym same))
          ∙ set_over state.views seat view (view ++ more) seated

      by_seat : Dec (from.0 ≡ other) → Dec (from.0 ≡ seat)
          → Lies (record state { views = all }) (from_seat other (joined_to seat view) from).0 (from_seat other (joined_to seat view) from).1 part
      by_seat (yes is) here =
          let now : from_seat other (joined_to seat view) from ≡ (seat, length view + from.1) =
          ap (λ (n : ℕ). from_seat other (joined_to seat view) (n, from.1)) is ∙ from_this other (joined_to seat view) from.1 in
          subst (λ (to : ℕ × ℕ). Lies (record state { views = all }) to.0 to.1 part) (sym now) (record {
            view = view ++ more;
            seated = both;
            placed = at_past view more from.1 part (lies_among state other from.0 from.1 more part there is lies);
          })
      by_seat (no away) (yes is) =
          let stays : from_seat other (joined_to seat view) from ≡ from = from_other other (joined_to seat view) from.0 from.1 away in
          subst (λ (to : ℕ × ℕ). Lies (record state { views = all }) to.0 to.1 part) (sym stays) (record {
            view = view ++ more;
            seated = ap (get_elem? all) is ∙ both;
            placed = at_longer view more from.1 part (lies_among state seat from.0 from.1 view part seated is lies);
          })
      by_seat (no away) (no else) =
          let stays : from_seat other (joined_to seat view) from ≡ from = from_other other (joined_to seat view) from.0 from.1 away in
          subst (λ (to : ℕ × ℕ). Lies (record state { views = all }) to.0 to.1 part) (sym stays) (record {
            view = lies.view;
            seated = set_else (set state.views seat (view ++ more)) other from.0 [] away
                ∙ set_else state.views seat from.0 (view ++ more) else ∙ lies.seated;
            placed = lies.placed;
          })

  -- The other seat is left with no part.
  pub joins_both : (size : RingSize) (seat other : ℕ) (view more : Parts) → Joins (Shown {S = S} size) seat view other more (view ++ more) []
  joins_both size seat other view more state shown seated apart there =
      rearrange size state (set (set state.views seat (view ++ more)) other []) (from_seat other (joined_to seat view)) shown
      (join_lies state seat other view more seated apart (sym (set_else state.views seat other (view ++ more) apart) ∙ there))
      (join_stays state seat other view more seated apart (sym (set_else state.views seat other (view ++ more) apart) ∙ there))
