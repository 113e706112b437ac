-- An event at a cut, by both criteria.
use Rattle.tmw_monitor.proofs.Shared.{BothMonitor, Contains, End, Event, FitsBoth, Follows, HistoryDigest, IsNext, IsTrue, Ix, Keeps, List, NoOutcome, Opacity, Outcome, OutcomeCheck, Registers, Rules, StandsFor, States, Strict, TellsEnds, TellsWrong, TooMany, Window, Witnesses, [], ap, append-nil, by, drop, formed-next, grows, inl, inr, is_cut, is_well_formed, length, members, refl, subst, transactions, true, views_of, wrong_of, ℕ, ◌++◌, ◌+◌, ◌∙◌, ◌∷◌, ◌≡◌, ◌≤◌}
use Rattle.tmw_monitor.proofs.BothKeep.{both-next, keeps-one, keeps-strictly}
use Rattle.tmw_monitor.proofs.CutEnds.{closes}
use Rattle.tmw_monitor.proofs.BothOpen.{Weighs, next-told}
use Rattle.tmw_monitor.proofs.NextVerdict.{follows-told}
use Rattle.tmw_monitor.proofs.OpenWindow.{formed_whole, narrow-push}
use Rattle.tmw_cuts.proofs.Follows as following
use Rattle.tmw_defs.proofs.WindowsProof as windows

-- outcomes that both criteria have found alike are those of each
pub closed-alike : {new : HistoryDigest} {cap : ℕ} {e : Event} {p : Ix} (old : HistoryDigest) (states : States)
    → ((events : List Event) → StandsFor old.window events → IsTrue (is_cut (events ++ e ∷ []))) → Weighs Opacity cap e (End p) old new Outcome
    → ((events : List Event) → StandsFor old.window events → Witnesses (members old.states) (views_of events) old.witness
    → TellsEnds Strict old.states cap (events ++ e ∷ []) states Outcome)
    → members new.states ≡ members states → Weighs Strict cap e (End p) old new Outcome
closed-alike {new = new} {cap = cap} {e = e} old states cut weighs ends same events stands is was = elim (weighs events stands is was) [
  | inl stays ↦ absurd (let uncut = stays.uncut in let at = cut events stands in cc)
  | inr both ↦ closes Strict old.states states cap _ (events ++ e ∷ []) new (cut events stands) (ends events stands was) same both.stands both.witness
]

-- so one goes on to serve both
pub both-closed : (rules : Rules) (h : List Event) (e : Event) (old : BothMonitor) (new : HistoryDigest) (p : Ix) (cap : ℕ)
    → FitsBoth rules h old → old.shared ≡ true → cap ≡ rules.states → IsNext old.opacity.kept.window e (End p)
    → new.window.registers ≡ old.opacity.kept.window.registers → Weighs Opacity cap e (End p) old.opacity.kept new Outcome
    → Weighs Strict cap e (End p) old.opacity.kept new Outcome
    → FitsBoth rules (h ++ e ∷ []) (record old { opacity = record old.opacity { count = old.opacity.count + 1; kept = new } })
both-closed rules h e old new p cap fits shared bound next same opaquely strictly =
    let kept = old.opacity.kept in
    both-next rules h e old new fits shared
    (next-told (by Opacity rules) h e kept new (keeps-one rules h old fits shared) old.opacity.bounds.window (End p) Outcome fits.opacity.window next
    (λ begins. absurd (cc)) same (rw (← bound) opaquely)).0
    (next-told (by Strict rules) h e kept new (keeps-strictly rules h old fits shared) old.opacity.bounds.window (End p) Outcome fits.opacity.window next
    (λ begins. absurd (cc)) same (rw (← bound) strictly)).0

-- A window of no event follows a history that is at a cut.
follows-open : (registers : ℕ) (h : List Event) (w : Window) → IsTrue (is_cut h) → IsTrue (is_well_formed registers h)
    → w.registers.number ≡ registers → StandsFor w [] → Follows registers h w
follows-open registers h w cut formed number stands =
    subst (λ xs. Follows registers xs w) (append-nil h)
    (subst (λ n. Follows n (h ++ []) w) number (following.follows-cut h [] w cut (rw number formed) stands))

-- What was found by strict serializability at a cut is the verdict. Where it is wrong, nothing more is asked of what is kept.
closed-told : (rules : Rules) (h : List Event) (e : Event) (old new : HistoryDigest) (ended : Window) (keeps : Keeps (by Strict rules) h old)
    (found : OutcomeCheck) → IsTrue (is_well_formed rules.registers (h ++ e ∷ []))
    → length (transactions (drop keeps.cut h ++ e ∷ [])) ≤ rules.window → IsTrue (is_cut (drop keeps.cut h ++ e ∷ []))
    → StandsFor ended (drop keeps.cut h ++ e ∷ []) → ended.registers.number ≡ rules.registers → new.window.registers.number ≡ rules.registers
    → TellsEnds Strict old.states rules.states (drop keeps.cut h ++ e ∷ []) new.states found → StandsFor new.window []
    → Witnesses (members new.states) [] new.witness
    → TellsWrong (by Strict rules) (h ++ e ∷ []) new (wrong_of (length h + 1) found)
closed-told rules h e old new ended keeps Outcome formed narrow cut stands first number ends opens witness =
    follows-told (by Strict rules) h e old keeps (length h + 1) rules.states _ new Outcome refl refl formed number narrow refl
    (inr (record { cut = cut; exact = ends.1; end = ends.2; some = ends.3; few = ends.0; stands = opens; witness = witness }))
closed-told rules h e old new ended keeps NoOutcome formed narrow cut stands first number ends opens witness =
    follows-told (by Strict rules) h e old keeps (length h + 1) rules.states _ (record old { window = ended }) NoOutcome refl refl formed first narrow
    refl (stands, ends.0)
closed-told rules h e old new ended keeps TooMany formed narrow cut stands first number ends opens witness =
    follows-told (by Strict rules) h e old keeps (length h + 1) rules.states _ (record old { window = ended }) TooMany refl refl formed first narrow
    refl (stands, cut, ends)

pub strictly-closed : (rules : Rules) (h : List Event) (e : Event) (old new : HistoryDigest) (ended : Window) (keeps : Keeps (by Strict rules) h old)
    (p : Ix) (found : OutcomeCheck) → IsNext old.window e (End p) → IsTrue (is_cut (drop keeps.cut h ++ e ∷ []))
    → StandsFor ended (drop keeps.cut h ++ e ∷ []) → ended.registers ≡ old.window.registers
    → TellsEnds Strict old.states rules.states (drop keeps.cut h ++ e ∷ []) new.states found → StandsFor new.window []
    → new.window.registers ≡ old.window.registers → Witnesses (members new.states) [] new.witness
    → TellsWrong (by Strict rules) (h ++ e ∷ []) new (wrong_of (length h + 1) found) × Follows rules.registers (h ++ e ∷ []) new.window
strictly-closed rules h e old new ended keeps p found next cut stands same ends opens registers witness =
    let S = Contains (members old.states) in
    let rest = drop keeps.cut h in
    let formed = formed_whole (by Strict rules) S keeps.cut h e keeps.sums_up
    (rw keeps.number at (formed-next rest e old.window (End p) keeps.stands next)) in
    let number : new.window.registers.number ≡ rules.registers = ap (λ (r : Registers). r.number) registers ∙ keeps.number in
    let first : ended.registers.number ≡ rules.registers = ap (λ (r : Registers). r.number) same ∙ keeps.number in
    let narrow = narrow-push (by Strict rules) S keeps.cut h e (End p) keeps.sums_up (grows rest e old.window (End p) keeps.stands next)
    (λ begins. absurd (cc)) in (
      closed-told rules h e old new ended keeps found formed narrow cut stands first number ends opens witness,
      follows-open rules.registers (h ++ e ∷ []) new.window (windows.is_cut-push keeps.cut h e keeps.sums_up.last.is ∙ cut) formed number opens,
    )

-- the same outcomes, held elsewhere
pub ends-same : (old one other : States) (cap : ℕ) (events : List Event) (found : OutcomeCheck) → members other ≡ members one
    → TellsEnds Strict old cap events one found → TellsEnds Strict old cap events other found
ends-same old one other cap events Outcome same ends = rw same ends
ends-same old one other cap events NoOutcome same ends = (ends.0, same ∙ ends.1)
ends-same old one other cap events TooMany same ends = ends
