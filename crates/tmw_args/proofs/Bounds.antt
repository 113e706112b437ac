-- Bounds and settings are known by their numbers.
use Rattle.tmw_args.proofs.Shared.{ap, Bounds, bounds_of, Count, le_prop, None, Option, refl, Settings, settings_of, Some, subst, unwrap_or, ℕ, ◌<◌, ◌>>=◌, ◌^◌, ◌∙◌, ◌≡◌, ◌≤◌}
use Rattle.tmw_args.proofs.CountTexts.{number_of}

bounds-are : (bounds : Bounds) (window : Count 1 8) (states : Count 1 64) → bounds.window ≡ window.number → bounds.states ≡ states.number
    → bounds ≡ bounds_of window states
bounds-are bounds window states one other =
    let made : (w s : ℕ) → 0 < w → w ≤ 8 → 0 < s → s ≤ 64 → Bounds = λ w s some most any few. record {
      window = w;
      states = s;
      some_transactions = some;
      most_transactions = most;
      some_states = any;
      most_states = few;
    } in
    let by_window : (some : 0 < window.number) (most : window.number ≤ 8)
    → bounds ≡ made window.number bounds.states some most bounds.some_states bounds.most_states =
    subst (λ w. (some : 0 < w) (most : w ≤ 8) → bounds ≡ made w bounds.states some most bounds.some_states bounds.most_states) one
    (λ some most i. made bounds.window bounds.states (le_prop bounds.some_transactions some i) (le_prop bounds.most_transactions most i)
    bounds.some_states bounds.most_states) in
    by_window window.some window.few
    ∙ subst (λ s. (any : 0 < s) (few : s ≤ 64)
    → made window.number bounds.states window.some window.few bounds.some_states bounds.most_states
    ≡ made window.number s window.some window.few any few) other
    (λ any few i. made window.number bounds.states window.some window.few (le_prop bounds.some_states any i) (le_prop bounds.most_states few i))
    states.some states.few

settings-are : (settings : Settings) (cells : Count 1 4096) (patience rounds : Count 1 1000000000) → settings.cells ≡ cells.number
    → settings.limit ≡ 2 ^ 40 → settings.patience ≡ patience.number → settings.rounds ≡ rounds.number
    → settings ≡ settings_of cells patience rounds settings.bounds
settings-are settings cells patience rounds in_ring places tries runs =
    let made : (cells limit patience rounds : ℕ) → 1 ≤ rounds → rounds ≤ 1000000000 → Settings = λ cells limit patience rounds some few. record {
      cells = cells;
      limit = limit;
      patience = patience;
      rounds = rounds;
      bounds = settings.bounds;
      some_round = some;
      few_rounds = few;
    } in
    subst (λ r. (some : 1 ≤ r) (few : r ≤ 1000000000) → settings ≡ made settings.cells settings.limit settings.patience r some few) runs
    (λ some few i. made settings.cells settings.limit settings.patience settings.rounds (le_prop settings.some_round some i)
    (le_prop settings.few_rounds few i))
    rounds.some rounds.few
    ∙ (λ i. made (in_ring i) (places i) (tries i) rounds.number rounds.some rounds.few)

-- a number that was found is that of a count
same : {least most : ℕ} (count : Count least most) (number found : ℕ) → number ≡ found → Some found ≡ number_of (Some count) → number ≡ count.number
same count number found is was = is ∙ ap (λ o. unwrap_or o found) was

-- ---- bounds of both numbers, or none where one lacks

abbrev pub bounds_from : Option (Count 1 8) → Option (Count 1 64) → Option Bounds
bounds_from window states = do
  w ← window
  s ← states
  Some (bounds_of w s)

pub with_both : (window : Option (Count 1 8)) (states : Option (Count 1 64)) (bounds : Bounds) (w s : ℕ) → bounds.window ≡ w → bounds.states ≡ s
    → Some w ≡ number_of window → Some s ≡ number_of states → Some bounds ≡ bounds_from window states
with_both None states bounds w s is too one other = absurd (cc)
with_both (Some window) None bounds w s is too one other = absurd (cc)
with_both (Some window) (Some states) bounds w s is too one other =
    ap Some (bounds-are bounds window states (same window bounds.window w is one) (same states bounds.states s too other))

-- ---- settings of three numbers and bounds

abbrev pub settings_from : Option (Count 1 4096) → (patience rounds : Option (Count 1 1000000000)) → Option Bounds → Option Settings
settings_from cells patience rounds bounds = do
  c ← cells
  p ← patience
  r ← rounds
  b ← bounds
  Some (settings_of c p r b)

pub with_all : (cells : Option (Count 1 4096)) (patience rounds : Option (Count 1 1000000000)) (bounds : Option Bounds) (settings : Settings)
    → settings.limit ≡ 2 ^ 40 → Some settings.cells ≡ number_of cells → Some settings.patience ≡ number_of patience
    → Some settings.rounds ≡ number_of rounds → Some settings.bounds ≡ bounds → Some settings ≡ settings_from cells patience rounds bounds
with_all (Some c) (Some p) (Some r) (Some b) settings places in_ring tries runs within =
    ap Some (settings-are settings c p r (same c settings.cells settings.cells refl in_ring) places
    (same p settings.patience settings.patience refl tries) (same r settings.rounds settings.rounds refl runs))
    ∙ ap (λ o. settings_from (Some c) (Some p) (Some r) o) within
with_all None p r b settings places in_ring tries runs within = absurd (cc)
with_all (Some c) None r b settings places in_ring tries runs within = absurd (cc)
with_all (Some c) (Some p) None b settings places in_ring tries runs within = absurd (cc)
with_all (Some c) (Some p) (Some r) None settings places in_ring tries runs within = absurd (cc)
