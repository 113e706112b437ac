-- An event that is taken at once leaves the history fine: where it leads to no cut, and where the only transaction ends with it.
use Rattle.tmw_monitor.proofs.Shared.{Begin, Closes, Contains, Criterion, End, EndsOf, Event, ExplainsWith, HistoryDigest, IsNext, IsTrue, Ix, Keeps, Kind, List, Move, None, Outcome, Registers, Rules, StandsFor, State, States, StaysOpen, TellsWrong, Txn, Witness, Witnesses, [], ap, arith, asks, contains_here, drop, ends-by, false, grows, inl, inr, is_cut, is_end, is_quiet_by, is_well_formed, length, members, refl, state_of, subst, sym, transactions, true, uncut-next, views_of, ℕ, ◌++◌, ◌+◌, ◌<◌, ◌∙◌, ◌∷◌, ◌≡◌, ◌⊎◌}
use Rattle.tmw_search.specs.OneEnd.{AreForced}
use Rattle.tmw_search.proofs.OneEnd.{forced-alone}
use Rattle.tmw_search.proofs.WindowViews.{shows-views_of}
use Rattle.tmw_witness.proofs.Path.{witness-ends}
use Rattle.tmw_monitor.proofs.OpenWindow.{formed_whole, narrow-push}
use Rattle.tmw_monitor.proofs.NextVerdict.{follows-told}

-- a serial order that is known leads to an end state
pub explained : (criterion : Criterion) (states : States) (events : List Event) (w : Witness) → IsTrue w.known
    → Witnesses (members states) (views_of events) w → EndsOf criterion states events (state_of w w.top)
explained criterion states events w known witness =
    ends-by criterion (Contains (members states)) (transactions events) (state_of w w.top)
    (witness-ends (witness known) (shows-views_of events))

-- the event leads to no cut, and is quiet or has left an end state
pub open-fine : (rules : Rules) (h : List Event) (e : Event) (old new : HistoryDigest) (keeps : Keeps rules h old) (move : Move)
    → IsNext old.window e move → StandsFor new.window (drop keeps.cut h ++ e ∷ []) → new.window.registers ≡ old.window.registers
    → is_cut (drop keeps.cut h ++ e ∷ []) ≡ false
    → (move ≡ Begin → length (transactions (drop keeps.cut h)) < rules.window)
    → (IsTrue (is_quiet_by rules.criterion (transactions (drop keeps.cut h)) e.thread.number e.kind)
    ⊎ ((end : State) × EndsOf rules.criterion old.states (drop keeps.cut h ++ e ∷ []) end))
    → members new.states ≡ members old.states
    → Witnesses (members old.states) (views_of (drop keeps.cut h ++ e ∷ [])) new.witness → TellsWrong rules (h ++ e ∷ []) new None
open-fine rules h e old new keeps move next stands same uncut room ends states witness =
    let S = Contains (members old.states) in
    let rest = drop keeps.cut h in
    let all = rest ++ e ∷ [] in
    let number : new.window.registers.number ≡ rules.registers = ap (λ (r : Registers). r.number) same ∙ keeps.number in
    let formed = formed_whole rules S keeps.cut h e keeps.sums_up (rw number at stands.formed) in
    let narrow = narrow-push rules S keeps.cut h e move keeps.sums_up (grows rest e old.window move keeps.stands next) room in
    let quiet = is_quiet_by rules.criterion (transactions rest) e.thread.number e.kind in
    let stays : StaysOpen rules.criterion old.states quiet all new = record {
      uncut = uncut;
      ends = ends;
      states = states;
      stands = stands;
      witness = subst (λ (xs : List State). Witnesses xs (views_of all) new.witness) (sym states) witness;
    } in
    follows-told rules h e old keeps (length h + 1) rules.states quiet new Outcome refl refl formed number narrow refl (inl stays)

-- the transactions since the last cut, where there was one outcome, have ended, and they force one end
pub last-fine : (rules : Rules) (h : List Event) (e : Event) (old new : HistoryDigest) (keeps : Keeps rules h old) (p : Ix) (end : State)
    → IsNext old.window e (End p) → IsTrue (is_well_formed rules.registers (drop keeps.cut h ++ e ∷ []))
    → is_cut (drop keeps.cut h ++ e ∷ []) ≡ true → new.window.registers ≡ old.window.registers → 0 < rules.states
    → AreForced (views_of (drop keeps.cut h ++ e ∷ [])) → length (members old.states) ≡ 1
    → EndsOf rules.criterion old.states (drop keeps.cut h ++ e ∷ []) end
    → members new.states ≡ end ∷ [] → StandsFor new.window [] → Witnesses (members new.states) [] new.witness
    → TellsWrong rules (h ++ e ∷ []) new None
last-fine rules h e old new keeps p end next formed_rest at_cut same some forced only_start ends states stands witness =
    let S = Contains (members old.states) in
    let rest = drop keeps.cut h in
    let all = rest ++ e ∷ [] in
    let number : new.window.registers.number ≡ rules.registers = ap (λ (r : Registers). r.number) same ∙ keeps.number in
    let formed = formed_whole rules S keeps.cut h e keeps.sums_up formed_rest in
    let more = grows rest e old.window (End p) keeps.stands next in
    let narrow = narrow-push rules S keeps.cut h e (End p) keeps.sums_up more (λ begins. absurd (cc)) in
    let only = forced-alone rules.criterion old.states all end forced at_cut only_start ends in
    let quiet = is_quiet_by rules.criterion (transactions rest) e.thread.number e.kind in
    let closes : Closes rules.criterion old.states rules.states all new = record {
      cut = at_cut;
      exact = rw states only;
      end = end;
      some = rw states (contains_here end []);
      few = rw states (omega (arith, some));
      stands = stands;
      witness = witness;
    } in
    follows-told rules h e old keeps (length h + 1) rules.states quiet new Outcome refl refl formed number narrow refl (inr closes)

-- another order of the same transactions is kept
pub keeps-order : (rules : Rules) (h : List Event) (old new : HistoryDigest) (keeps : Keeps rules h old) → new.states ≡ old.states
    → new.window ≡ old.window → Witnesses (members old.states) (views_of (drop keeps.cut h)) new.witness → Keeps rules h new
keeps-order rules h old new keeps states window witness = grind arith

-- an event that goes on and is explained leaves the history fine
pub explained-fine : (rules : Rules) (h : List Event) (e : Event) (old new : HistoryDigest) (keeps : Keeps rules h old) (move : Move)
    → is_end move ≡ false → (move ≡ Begin → ⊥) → IsNext old.window e move → StandsFor new.window (drop keeps.cut h ++ e ∷ []) → new.window.registers ≡ old.window.registers
    → IsTrue old.witness.known → ExplainsWith old.witness old.window e move → members new.states ≡ members old.states
    → new.witness ≡ old.witness → TellsWrong rules (h ++ e ∷ []) new None
explained-fine rules h e old new keeps move goes_on old_one next stands same known explains states kept =
    let rest = drop keeps.cut h in
    let witness = explains (members old.states) rest keeps.stands next keeps.witness in
    open-fine rules h e old new keeps move next stands same (uncut-next rest e old.window move keeps.stands next goes_on)
    (λ begins. absurd (old_one begins))
    (inr (_, explained rules.criterion old.states (rest ++ e ∷ []) old.witness known witness)) states
    (subst (λ (w : Witness). Witnesses (members old.states) (views_of (rest ++ e ∷ [])) w) (sym kept) witness)

-- a call is quiet
pub asked_quiet : (criterion : Criterion) (ts : List Txn) (thread : ℕ) (kind : Kind) → asks kind ≡ true → IsTrue (is_quiet_by criterion ts thread kind)
asked_quiet criterion ts thread kind asked = grind arith
