-- What one monitor keeps serves by both criteria, where both find the same outcomes at the last cut.
use Rattle.tmw_monitor.proofs.Shared.{Agree, Bool, BothMonitor, Event, FitEach, Fits, FitsBoth, HistoryDigest, IsCopy, Keeps, List, None, Opacity, Parts, Rules, StaysKept, Strict, TellsWrong, [], arith, by, drop, false, members, so_far, strict_in, true, ◌++◌, ◌+◌, ◌∷◌, ◌≡◌, ◌≤◌}
use Rattle.tmw_monitor.proofs.FeedOpen.{fits-kept, fits-next}
use Rattle.tmw_monitor.proofs.OnlyOpen.{few_outcomes}

-- a copy is kept of the same history
pub copy-keeps : (rules : Rules) (h : List Event) (old new : HistoryDigest) → rules.states ≤ 64 → Keeps rules h old → IsCopy old new
    → Keeps rules h new
copy-keeps rules h old new most keeps copy =
    let few = few_outcomes rules h old keeps in
    let same : members new.states ≡ members old.states = copy.states (omega (arith, few, most)) in
    record {
      cut = keeps.cut;
      sums_up = rw same keeps.sums_up;
      stands = copy.stands (drop keeps.cut h) keeps.stands;
      number = rw copy.registers keeps.number;
      witness = rw (same, copy.witness) keeps.witness;
    }

-- both go on with what one keeps
pub joined : (rules : Rules) (h : List Event) (both : BothMonitor) (shared : Bool) → FitEach rules h both → (shared ≡ true → Agree both)
    → FitsBoth rules h (record both { shared = shared })
joined rules h both shared each agree = grind arith

-- where one serves both, what it keeps is kept by each
pub keeps-one : (rules : Rules) (h : List Event) (both : BothMonitor) → FitsBoth rules h both → both.shared ≡ true
    → Keeps (by Opacity rules) h both.opacity.kept
keeps-one rules h both fits shared = fits.opacity.keeps (fits.fine shared).0

pub keeps-strictly : (rules : Rules) (h : List Event) (both : BothMonitor) → FitsBoth rules h both → both.shared ≡ true
    → Keeps (by Strict rules) h both.opacity.kept
keeps-strictly rules h both fits shared = grind arith

-- where one serves both, a copy for the other fits too
pub parted : (rules : Rules) (h : List Event) (old new : BothMonitor) → rules.states ≤ 64 → FitsBoth rules h old → old.shared ≡ true
    → Parts old new → FitEach rules h new
parted rules h old new most fits shared parts =
    let (fine, fine_too) = fits.fine shared in
    let strict : Fits (by Strict rules) h (strict_in true old.opacity old.strict) = rw shared at fits.strict in
    let open_one : old.strict.verdict ≡ so_far old.strict.criterion = rw shared at fine_too in
    record {
      opacity = rw parts.opacity fits.opacity;
      strict = rw parts.strict (record {
        criterion = strict.criterion;
        window = strict.window;
        states = strict.states;
        counted = strict.counted;
        judged = strict.judged;
        keeps = λ is. copy-keeps (by Strict rules) h old.opacity.kept parts.kept most (strict.keeps is) parts.copy;
        whole = strict.whole;
        forgets = λ final. absurd (final open_one);
        breaks = λ final. absurd (final open_one);
      });
    }

-- an event that is fine with what one keeps is fine with both
pub both-next : (rules : Rules) (h : List Event) (e : Event) (old : BothMonitor) (kept : HistoryDigest) → FitsBoth rules h old → old.shared ≡ true
    → TellsWrong (by Opacity rules) (h ++ e ∷ []) kept None → TellsWrong (by Strict rules) (h ++ e ∷ []) kept None
    → FitsBoth rules (h ++ e ∷ []) (record old { opacity = record old.opacity { count = old.opacity.count + 1; kept = kept } })
both-next rules h e old kept fits shared one other =
    let (fine, fine_too) = fits.fine shared in
    let strict : Fits (by Strict rules) h (strict_in true old.opacity old.strict) = rw shared at fits.strict in
    let open_one : old.strict.verdict ≡ so_far old.strict.criterion = rw shared at fine_too in
    record {
      opacity = fits-next (by Opacity rules) h e old.opacity kept fits.opacity fine one;
      strict = rw shared (fits-next (by Strict rules) h e (strict_in true old.opacity old.strict) kept strict open_one other);
      fine = λ is. rw shared (fine, open_one);
    }

-- and one that keeps another order of the same
pub both-kept : (rules : Rules) (h : List Event) (old : BothMonitor) (kept : HistoryDigest) → FitsBoth rules h old → old.shared ≡ true
    → StaysKept old.opacity.kept kept → FitsBoth rules h (record old { opacity = record old.opacity { kept = kept } })
both-kept rules h old kept fits shared stays =
    let (fine, fine_too) = fits.fine shared in
    let strict : Fits (by Strict rules) h (strict_in true old.opacity old.strict) = rw shared at fits.strict in
    let open_one : old.strict.verdict ≡ so_far old.strict.criterion = rw shared at fine_too in
    record {
      opacity = fits-kept (by Opacity rules) h old.opacity kept fits.opacity fine (stays (by Opacity rules) h);
      strict = rw shared (fits-kept (by Strict rules) h (strict_in true old.opacity old.strict) kept strict open_one (stays (by Strict rules) h));
      fine = λ is. rw shared (fine, open_one);
    }

-- where none serves both, the history fits each as it is
pub apart : (rules : Rules) (h : List Event) (both : BothMonitor) → FitsBoth rules h both → both.shared ≡ false → FitEach rules h both
apart rules h both fits shared = record { opacity = fits.opacity; strict = rw shared at fits.strict }

-- while one serves both, what the other keeps is of no account
pub rests : (rules : Rules) (h : List Event) (both : BothMonitor) (kept : HistoryDigest) → both.shared ≡ true → FitsBoth rules h both
    → FitsBoth rules h (record both { strict = record both.strict { kept = kept } })
rests rules h both kept shared fits = grind arith
