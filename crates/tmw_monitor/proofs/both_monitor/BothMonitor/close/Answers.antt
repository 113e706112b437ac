-- Where both criteria find the same outcomes one goes on to serve both, and else each has its own.
use Rattle.tmw_monitor.proofs.Shared.{Criterion, End, Event, Fits, List, Opacity, Outcome, StandsFor, State, States, Strict, TellsEnds, Window, Witness, Witnesses, [], ap, arith, by, drop, is_quiet_by, length, members, refl, so_far, strict_in, subst, sym, transactions, true, views_of, ℕ, ◌++◌, ◌+◌, ◌∙◌, ◌∷◌, ◌≡◌}
use Rattle.tmw_monitor.proofs.BothCut.{both-closed, closed-alike, ends-same, strictly-closed}
use Rattle.tmw_monitor.proofs.BothKeep.{keeps-one, keeps-strictly, rests}
use Rattle.tmw_monitor.proofs.CutEnds.{ends-from, tells-from}
use Rattle.tmw_monitor.proofs.BothOpen.{Weighs, next-told}
use Rattle.tmw_monitor.proofs.FeedOpen.{concluded}
use Rattle.tmw_monitor.proofs.OnlyOpen.{few_outcomes}
use Rattle.tmw_monitor.proofs.both_monitor.BothMonitor.close.Goals as goal

-- an order of the same window from the same states
witnessed : (one other : States) (w v : Witness) (events : List Event) → members other ≡ members one → v ≡ w
    → Witnesses (members one) (views_of events) w → Witnesses (members other) (views_of events) v
witnessed one other w v events same is was =
    subst (λ (xs : List State). Witnesses xs (views_of events) v) (sym same) (subst (λ (x : Witness). Witnesses (members one) (views_of events) x) (sym is) was)

pub returns-then-close_forced : goal.returns-then-close_forced
returns-then-close_forced c rules history fits =
    let old = c.args.self.now in
    let e = c.args.event in
    let kept = old.opacity.kept in
    let new = c.close_forced.new.kept in
    let weighs : (criterion : Criterion) → Weighs criterion old.opacity.bounds.states e (End c.args.place) kept new Outcome =
    λ criterion events stands next was.
    let stood = c.end.ensures.stands events stands next in
    c.close_forced.ensures.tells c.if-close_forced.true criterion _ (events ++ e ∷ []) stood (c.requires.cut events stands)
    (c.follow.ensures (members kept.states) kept.window events stands next stood was) in
    rests rules (history ++ e ∷ []) (record old { opacity = record old.opacity { count = old.opacity.count + 1; kept = new } }) _
    c.requires.shared
    (both-closed rules history e old new c.args.place old.opacity.bounds.states fits c.requires.shared fits.opacity.states c.requires.next
    (c.close_forced.ensures.registers ∙ c.end.ensures.registers) (weighs Opacity) (weighs Strict))

pub returns-then-closes_alike : goal.returns-then-closes_alike
returns-then-closes_alike c rules history fits =
    let old = c.args.self.now in
    let e = c.args.event in
    let kept = old.opacity.kept in
    let mid = c.close_forced.new.kept in
    let cap = old.opacity.bounds.states in
    let most = old.opacity.bounds.most_states in
    let bound = fits.opacity.states in
    let stays = c.close_forced.ensures in
    let states = stays.states c.if-close_forced.false in
    let few = few_outcomes (by Strict rules) history kept (keeps-strictly rules history old fits c.requires.shared) in
    let stood = λ (events : List Event) (stands : StandsFor kept.window events).
    subst (λ (w : Window). StandsFor w (events ++ e ∷ [])) (sym (stays.window c.if-close_forced.false)) (c.end.ensures.stands events stands c.requires.next) in
    let found = λ (events : List Event) (stands : StandsFor kept.window events).
    c.close_strictly-strictly.ensures.tells (events ++ e ∷ []) (stood events stands)
    (omega (arith, few, most, bound, ap (length {A = State}) states)) in
    let ends : (events : List Event) → StandsFor kept.window events → Witnesses (members kept.states) (views_of events) kept.witness
    → TellsEnds Strict kept.states cap (events ++ e ∷ []) c.close_strictly-strictly.new.states c.close_strictly-strictly.result =
    λ events stands was. ends-from Strict cap (events ++ e ∷ []) c.close_strictly-strictly.new.states mid.states kept.states c.close_strictly-strictly.result states
    (found events stands) in
    let weighs : Weighs Opacity cap e (End c.args.place) kept c.close_opaquely-found.new.kept c.close_opaquely-found.result =
    λ events stands next was.
    tells-from Opacity cap (is_quiet_by Opacity (transactions events) e.thread.number e.kind) (events ++ e ∷ []) c.close_opaquely-found.new.kept mid.states kept.states
    c.close_opaquely-found.result states
    (c.close_opaquely-found.ensures.tells _ (events ++ e ∷ []) (stood events stands) (c.requires.cut events stands)
    (witnessed kept.states mid.states _ mid.witness (events ++ e ∷ []) states (stays.witness c.if-close_forced.false)
    (c.follow.ensures (members kept.states) kept.window events stands next (c.end.ensures.stands events stands next) was)) (found events stands)) in
    let opaquely = rw (c.closes_alike.ensures.one c.if-closes_alike.true) at weighs in
    rests rules (history ++ e ∷ []) (record old { opacity = record old.opacity { count = old.opacity.count + 1; kept = c.close_opaquely-found.new.kept } }) _
    c.requires.shared
    (both-closed rules history e old c.close_opaquely-found.new.kept c.args.place cap fits
    c.requires.shared bound c.requires.next (c.close_opaquely-found.ensures.registers ∙ stays.registers ∙ c.end.ensures.registers)
    opaquely (closed-alike kept c.close_strictly-strictly.new.states c.requires.cut opaquely
    (rw (c.closes_alike.ensures.other c.if-closes_alike.true) at ends) (c.closes_alike.ensures.same c.if-closes_alike.true)))

pub returns : goal.returns
returns c rules history fits =
    let old = c.args.self.now in
    let e = c.args.event in
    let states = members old.opacity.kept.states in
    let most = old.opacity.bounds.most_states in
    let bound = fits.opacity.states in
    let at : old.opacity.count + 1 ≡ length history + 1 = (let n = fits.opacity.counted in omega (arith, n)) in
    let fine = fits.fine c.requires.shared in
    let strict : Fits (by Strict rules) history (strict_in true old.opacity old.strict) = rw c.requires.shared at fits.strict in
    let open_one : old.strict.verdict ≡ so_far old.strict.criterion = rw c.requires.shared at fine.1 in
    let keeps = keeps-strictly rules history old fits c.requires.shared in
    let rest = drop keeps.cut history in
    let few = few_outcomes (by Strict rules) history old.opacity.kept keeps in
    let after = c.end.ensures.stands rest keeps.stands c.requires.next in
    let kept = old.opacity.kept in
    let mid = c.close_forced.new.kept in
    let stays = c.close_forced.ensures in
    let same = stays.states c.if-close_forced.false in
    let stood = λ (events : List Event) (stands : StandsFor kept.window events).
    subst (λ (w : Window). StandsFor w (events ++ e ∷ [])) (sym (stays.window c.if-close_forced.false)) (c.end.ensures.stands events stands c.requires.next) in
    let found = λ (events : List Event) (stands : StandsFor kept.window events).
    c.close_strictly-strictly.ensures.tells (events ++ e ∷ []) (stood events stands)
    (omega (arith, few, most, bound, ap (length {A = State}) same)) in
    let weighs : Weighs Opacity old.opacity.bounds.states e (End c.args.place) kept c.close_opaquely-found.new.kept c.close_opaquely-found.result =
    λ events stands next was.
    tells-from Opacity old.opacity.bounds.states (is_quiet_by Opacity (transactions events) e.thread.number e.kind) (events ++ e ∷ [])
    c.close_opaquely-found.new.kept mid.states kept.states c.close_opaquely-found.result same
    (c.close_opaquely-found.ensures.tells _ (events ++ e ∷ []) (stood events stands) (c.requires.cut events stands)
    (witnessed kept.states mid.states _ mid.witness (events ++ e ∷ []) same (stays.witness c.if-close_forced.false)
    (c.follow.ensures states kept.window events stands next (c.end.ensures.stands events stands next) was)) (found events stands)) in
    let one = next-told (by Opacity rules) history e old.opacity.kept c.close_opaquely-found.new.kept (keeps-one rules history old fits c.requires.shared)
    old.opacity.bounds.window (End c.args.place) c.close_opaquely-found.result fits.opacity.window c.requires.next (λ begins. absurd (cc))
    (c.close_opaquely-found.ensures.registers ∙ stays.registers ∙ c.end.ensures.registers)
    (subst (λ (cap : ℕ). Weighs Opacity cap e (End c.args.place) old.opacity.kept c.close_opaquely-found.new.kept c.close_opaquely-found.result) bound weighs) in
    let ends = ends-from Strict old.opacity.bounds.states (rest ++ e ∷ []) c.close_strictly-strictly.new.states mid.states kept.states
    c.close_strictly-strictly.result same (found rest keeps.stands) in
    let other = strictly-closed rules history e old.opacity.kept c.open.new.self c.end.new.self keeps c.args.place c.close_strictly-strictly.result
    c.requires.next (c.requires.cut rest keeps.stands) after c.end.ensures.registers
    (ends-same old.opacity.kept.states c.close_strictly-strictly.new.states c.open.new.self.states rules.states (rest ++ e ∷ [])
    c.close_strictly-strictly.result c.open.ensures.states
    (subst (λ (cap : ℕ). TellsEnds Strict old.opacity.kept.states cap (rest ++ e ∷ []) c.close_strictly-strictly.new.states
    c.close_strictly-strictly.result) bound ends)) c.open.ensures.stands
    (c.open.ensures.registers ∙ c.close_opaquely-found.ensures.registers ∙ stays.registers ∙ c.end.ensures.registers) c.open.ensures.witness in
    record {
      opacity = concluded (by Opacity rules) history e old.opacity c.conclude.new.self c.close_opaquely-found.new.kept old.opacity.broken c.wrong.result
          fits.opacity fine.0 (rw (c.wrong.ensures, at) one.0) (rw (fits.opacity.whole fine.0) one.1) (λ none. refl) c.conclude.ensures;
      strict = concluded (by Strict rules) history e (strict_in true old.opacity old.strict) c.conclude-2.new.self c.open.new.self old.strict.broken
          c.wrong-2.result strict open_one (rw (c.wrong-2.ensures, at) other.0) (rw (strict.whole open_one) other.1) (λ none. refl) c.conclude-2.ensures;
      fine = λ is. absurd (cc);
    }
