-- An event at no cut, by both criteria.
use Rattle.tmw_monitor.proofs.Shared.{Begin, Bool, BothMonitor, Contains, Criterion, Event, FitsBoth, Follows, HasRoom, HistoryDigest, IsCopy, IsFalse, IsNext, Keeps, Kind, List, Move, Opacity, Outcome, OutcomeCheck, Registers, Rules, StandsFor, States, Strict, Tells, TellsWrong, Txn, WeighsNext, Window, Witnesses, [], ap, arith, by, count_of, drop, ends-by, false, formed-next, grows, inl, inr, is_cut, is_quiet_by, is_some, length, length-views_of, members, refl, transactions, true, views_of, wrong_of, ℕ, ◌++◌, ◌+◌, ◌<◌, ◌∙◌, ◌∷◌, ◌≡◌, ◌≤◌}
use Rattle.tmw_monitor.proofs.BothKeep.{both-next, keeps-one, keeps-strictly}
use Rattle.tmw_monitor.proofs.OnlyOpen.{few_outcomes}
use Rattle.tmw_monitor.proofs.NextVerdict.{follows-found, follows-told}
use Rattle.tmw_monitor.proofs.OpenWindow.{formed_whole, narrow-push}

-- What weighing the next event by the criterion has told.
abbrev pub Weighs : Criterion → ℕ → Event → Move → HistoryDigest → HistoryDigest → OutcomeCheck → Type 0
Weighs criterion cap e move old new found =
    WeighsNext criterion cap e move (λ events. is_quiet_by criterion (transactions events) e.thread.number e.kind) old new found

shown_count : (w : Window) (events : List Event) → StandsFor w events → count_of w ≡ length (transactions events)
shown_count w events stands = ap length stands.shows ∙ length-views_of events

-- what is found of the window with the next event is the verdict
pub next-told : (rules : Rules) (h : List Event) (e : Event) (old new : HistoryDigest) (keeps : Keeps rules h old) (bound : ℕ) (move : Move)
    (found : OutcomeCheck) → bound ≡ rules.window → IsNext old.window e move → (move ≡ Begin → count_of old.window < bound)
    → new.window.registers ≡ old.window.registers → Weighs rules.criterion rules.states e move old new found
    → TellsWrong rules (h ++ e ∷ []) new (wrong_of (length h + 1) found) × Follows rules.registers (h ++ e ∷ []) new.window
next-told rules h e old new keeps bound move found is next room same weighs =
    let S = Contains (members old.states) in
    let rest = drop keeps.cut h in
    let formed = formed_whole rules S keeps.cut h e keeps.sums_up (rw keeps.number at (formed-next rest e old.window move keeps.stands next)) in
    let number : new.window.registers.number ≡ rules.registers = ap (λ (r : Registers). r.number) same ∙ keeps.number in
    let count = shown_count old.window rest keeps.stands in
    let narrow = narrow-push rules S keeps.cut h e move keeps.sums_up (grows rest e old.window move keeps.stands next)
    (λ begins. let free = room begins in omega (arith, count, free, is)) in
    let told = weighs rest keeps.stands next keeps.witness in (
      follows-told rules h e old keeps (length h + 1) rules.states _ new found refl refl formed number narrow refl told,
      follows-found rules h e old keeps rules.states _ new found formed number told,
    )

-- an event that tells nothing by opacity tells nothing by strict serializability
quiet_too : (ts : List Txn) (thread : ℕ) (kind : Kind) → is_quiet_by Opacity ts thread kind ≡ true → is_quiet_by Strict ts thread kind ≡ true
quiet_too ts thread kind quiet = grind arith

-- an event that is fine by opacity is fine by strict serializability
pub open-strictly : (states : States) (cap : ℕ) (events : List Event) (e : Event) (new : HistoryDigest) → IsFalse (is_cut (events ++ e ∷ []))
    → Tells Opacity states cap (is_quiet_by Opacity (transactions events) e.thread.number e.kind) (events ++ e ∷ []) new Outcome
    → Tells Strict states cap (is_quiet_by Strict (transactions events) e.thread.number e.kind) (events ++ e ∷ []) new Outcome
open-strictly states cap events e new uncut (inl stays) = inl (record {
  uncut = uncut;
  ends = elim stays.ends [
    | inl quiet ↦ inl (quiet_too (transactions events) e.thread.number e.kind quiet)
    | inr (end, is) ↦ inr (end, ends-by Strict (Contains (members states)) (transactions (events ++ e ∷ [])) end is)
  ];
  states = stays.states;
  stands = stays.stands;
  witness = stays.witness;
})
open-strictly states cap events e new uncut (inr closes) = absurd (let cut = closes.cut in cc)

-- so both criteria go on
pub both-on : (rules : Rules) (h : List Event) (e : Event) (old : BothMonitor) (new : HistoryDigest) (move : Move) (found : OutcomeCheck)
    → FitsBoth rules h old → old.shared ≡ true → IsNext old.opacity.kept.window e move
    → (move ≡ Begin → count_of old.opacity.kept.window < old.opacity.bounds.window)
    → ((events : List Event) → StandsFor old.opacity.kept.window events → IsFalse (is_cut (events ++ e ∷ [])))
    → new.window.registers ≡ old.opacity.kept.window.registers
    → ((cap : ℕ) → Weighs Opacity cap e move old.opacity.kept new found) → found ≡ Outcome
    → FitsBoth rules (h ++ e ∷ []) (record old { opacity = record old.opacity { count = old.opacity.count + 1; kept = new } })
both-on rules h e old new move found fits shared next room uncut same weighs fine =
    let kept = old.opacity.kept in
    let weighed : (cap : ℕ) → Weighs Opacity cap e move kept new Outcome = rw fine at weighs in
    let strictly : Weighs Strict rules.states e move kept new Outcome =
    λ events stands is was. open-strictly kept.states rules.states events e new (uncut events stands) (weighed rules.states events stands is was) in
    both-next rules h e old new fits shared
    (next-told (by Opacity rules) h e kept new (keeps-one rules h old fits shared) old.opacity.bounds.window move Outcome fits.opacity.window next room same
    (weighed rules.states)).0
    (next-told (by Strict rules) h e kept new (keeps-strictly rules h old fits shared) old.opacity.bounds.window move Outcome fits.opacity.window next room
    same strictly).0

-- where nothing is wrong there is an outcome
pub outcome-of : (at : ℕ) (found : OutcomeCheck) → is_some (wrong_of at found) ≡ false → found ≡ Outcome
outcome-of at found none = grind arith

-- the same states, held elsewhere
pub keeps-states : (rules : Rules) (h : List Event) (old : HistoryDigest) (states : States) (room : HasRoom states) → members states ≡ members old.states
    → Keeps rules h old → Keeps rules h (record old { states = states; room = room })
keeps-states rules h old states room same keeps = grind arith

-- an event that is wrong stands in the window
pub stands-wrong : (criterion : Criterion) (states : States) (cap at : ℕ) (quiet : Bool) (events : List Event) (new : HistoryDigest) (found : OutcomeCheck)
    → Tells criterion states cap quiet events new found → is_some (wrong_of at found) ≡ true → StandsFor new.window events
stands-wrong criterion states cap at quiet events new found told wrong = grind arith

-- the verdict by strict serializability, searched in a copy of what has taken the event
pub strictly-told : (rules : Rules) (h : List Event) (e : Event) (old taken copy new : HistoryDigest) (keeps : Keeps (by Strict rules) h old) (bound : ℕ)
    (move : Move) (found : OutcomeCheck) → rules.states ≤ 64 → bound ≡ rules.window → IsNext old.window e move
    → (move ≡ Begin → count_of old.window < bound)
    → ((events : List Event) → StandsFor old.window events → IsFalse (is_cut (events ++ e ∷ [])))
    → ((events : List Event) → StandsFor old.window events → Witnesses (members old.states) (views_of events) old.witness
    → StandsFor taken.window (events ++ e ∷ []))
    → members taken.states ≡ members old.states → taken.window.registers ≡ old.window.registers → IsCopy taken copy
    → new.window.registers ≡ copy.window.registers
    → ((cap : ℕ) (quiet : Bool) (events : List Event) → StandsFor copy.window events → IsFalse (is_cut events)
    → Tells Strict copy.states cap quiet events new found)
    → TellsWrong (by Strict rules) (h ++ e ∷ []) new (wrong_of (length h + 1) found) × Follows rules.registers (h ++ e ∷ []) new.window
strictly-told rules h e old taken copy new keeps bound move found most is next room uncut stands states registers copies same told =
    let few = few_outcomes (by Strict rules) h old keeps in
    let held : members copy.states ≡ members old.states = copies.states (rw states (omega (arith, few, most))) ∙ states in
    let weighs : Weighs Strict rules.states e move (record old { states = copy.states; room = copy.room }) new found =
    λ events stood follows was. told rules.states _ (events ++ e ∷ []) (copies.stands (events ++ e ∷ []) (stands events stood (rw held at was))) (uncut events stood) in
    next-told (by Strict rules) h e (record old { states = copy.states; room = copy.room }) new
    (keeps-states (by Strict rules) h old copy.states copy.room held keeps) bound move found is next room
    (same ∙ copies.registers ∙ registers) weighs
