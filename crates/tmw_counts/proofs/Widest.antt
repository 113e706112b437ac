-- How wide the widest window of a history is, and that it can be told whether it has a window of more than so many transactions.
use Rattle.tmw_counts.proofs.Shared.{Counts, Event, HasCounts, HasWide, IsLastCut, List, [], append-nil, append_assoc, arith, cases_Bool, inl, inr, is_cut, length, refl, subst, sym, ℕ, ◌++◌, ◌+◌, ◌<◌, ◌↔◌, ◌∷◌, ◌≤◌, ◌⊎◌}
use Rattle.std.proofs.Math.Bridge.{le_prop}
use Rattle.std.proofs.Math.Bool.{Bool-set}
use Rattle.std.proofs.Math.Nat.{ℕ_set}
use Rattle.std.proofs.Math.Logic.{∥∥₁_elim, ∥∥₁_map}
use Rattle.tmw_counts.specs.Summary.{IsSummary}
use Rattle.tmw_counts.specs.declared.summary.Summary.{Summary}
use Rattle.tmw_counts.proofs.Windows.{last-cut, last-uncut, widest-push}

record Widest (h : List Event) : Type 0 where
  most : ℕ
  cut : ℕ
  last : IsLastCut h cut
  is : (n : ℕ) → HasWide n h ↔ n < most

widest_then : (h : List Event) (e : Event) → Widest h → Widest (h ++ e ∷ [])
widest_then h e w = elim (cases_Bool (is_cut (h ++ e ∷ []))) [
  | inl holds ↦ record { most = _; cut = length h + 1; last = last-cut h e holds; is = widest-push w.most w.cut h e w.last w.is }
  | inr fails ↦ record { most = _; cut = w.cut; last = last-uncut w.cut h e w.last fails; is = widest-push w.most w.cut h e w.last w.is }
]

widest_from : (past rest : List Event) → Widest past → Widest (past ++ rest)
widest_from past [] w = subst (λ (xs : List Event). Widest xs) (sym (append-nil past)) w
widest_from past (e ∷ es) w =
    subst (λ (xs : List Event). Widest xs) (append_assoc past (e ∷ []) es) (widest_from (past ++ e ∷ []) es (widest_then past e w))

none_wide : (n : ℕ) → HasWide n [] → ⊥
none_wide n w = grind arith

widest_none : Widest []
widest_none = record {
  most = 0;
  cut = 0;
  last = record { is = (omega arith, refl); last = λ at after is. (let within = is.0 in omega (arith, within, after)) };
  is = λ n. (λ wide. absurd (none_wide n wide), λ less. absurd (omega (arith, less)));
}

-- whether a window has more than so many transactions can be told
wide_or_not : (n : ℕ) (h : List Event) → HasWide n h ⊎ (HasWide n h → ⊥)
wide_or_not n h =
    let w = widest_from [] h widest_none in grind arith

-- so it is enough that there is a proof that the counts are the history's
counts_known : (h : List Event) (counts : Counts) → ∥ HasCounts h counts ∥₁ → HasCounts h counts
counts_known h counts told = record {
  all = ∥∥₁_elim told (ℕ_set _ _) (λ known. known.all);
  committed = ∥∥₁_elim told (ℕ_set _ _) (λ known. known.committed);
  aborted = ∥∥₁_elim told (ℕ_set _ _) (λ known. known.aborted);
  live = ∥∥₁_elim told (ℕ_set _ _) (λ known. known.live);
  unasked = ∥∥₁_elim told (ℕ_set _ _) (λ known. known.unasked);
  overlapping = ∥∥₁_elim told (ℕ_set _ _) (λ known. known.overlapping);
  cuts = ∥∥₁_elim told (ℕ_set _ _) (λ known. known.cuts);
  widest = λ most. (
    λ wide. ∥∥₁_elim told le_prop (λ known. (known.widest most).0 wide),
    λ less. elim (wide_or_not most h) [
      | inl wide ↦ wide
      | inr never ↦
          let wrong : 1 ≤ 0 = ∥∥₁_elim told le_prop (λ known. absurd (never ((known.widest most).1 less))) in
          absurd (omega (arith, wrong))
    ],
  );
}

pub summary_known : (h : List Event) (summary : Summary) → ∥ IsSummary h summary ∥₁ → IsSummary h summary
summary_known h summary told = record {
  counts = counts_known h summary.counts (∥∥₁_map told (λ known. known.counts));
  none = ∥∥₁_elim told (Bool-set _ _) (λ known. known.none);
}
