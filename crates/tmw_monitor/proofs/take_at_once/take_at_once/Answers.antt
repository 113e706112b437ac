-- What the event is to its thread is told, and the order explains it.
use Rattle.tmw_monitor.proofs.Shared.{Answer, Ask, Event, IsNext, Ix, Kind, StaysFine, Window, [], asks-kept, drop, moves, operation, refl, subst, sym, ℕ, ◌∙◌, ◌∷◌, ◌≡◌}
use Rattle.tmw_events.specs.declared.event.Kind.TheVariants.{K, N, R, V, W}
use Rattle.tmw_defs.specs.declared.op.Op.TheVariants.{Add}
use Rattle.tmw_monitor.proofs.AtOnce.{explained-fine}
use Rattle.tmw_monitor.proofs.take_at_once.take_at_once.Goals as goal

pub returns-in-Ok-Begin-clause-taken : goal.returns-in-Ok-Begin-clause-taken
returns-in-Ok-Begin-clause-taken c took = c.begin_at_once.ensures.taken took

pub returns-else-not-is_known-clause-taken : goal.returns-else-not-is_known-clause-taken
returns-else-not-is_known-clause-taken c took rules history window states keeps =
    let p = c.in-Ok-Ask.place in
    let next : IsNext c.args.kept.now.window c.args.event (Ask p) = rw c.in-Ok-Ask.field-0-is at c.in-Ok-Ask.ensures.ok in
    explained-fine rules history c.args.event c.args.kept.now _ keeps (Ask p) refl (λ begins. absurd (cc)) next
    (c.ask.ensures.stands (drop keeps.cut history) keeps.stands next) c.ask.ensures.registers
    (sym c.is_known.ensures.shown ∙ c.if-not-is_known.false) (asks-kept c.args.kept.now.witness c.args.kept.now.window c.args.event p) refl refl

pub returns-in-Ok-End-clause-taken : goal.returns-in-Ok-End-clause-taken
returns-in-Ok-End-clause-taken c took = c.end_at_once.ensures.taken took c.args.bounds.now

pub returns-in-Ok-Answer : goal.returns-in-Ok-Answer
returns-in-Ok-Answer c = record {
  taken = λ took. c.answer_at_once.ensures.taken took c.args.bounds.now;
  left = λ none rules history keeps. rw (c.answer_at_once.ensures.left none) keeps;
}

-- an add is made by an answer with its value
added_by : (c k : Kind) (r : Ix) (d v : ℕ) → operation c k ≡ Add r d v ∷ [] → k ≡ V v
added_by (N q e) (V w) r d v is = cc
added_by (R q) (V w) r d v is = cc
added_by (W q e) K r d v is = cc
added_by _ _ r d v is = cc

answered : (w : Window) (e : Event) (p r : Ix) (d v : ℕ) → IsNext w e (Answer p (Add r d v)) → e.kind ≡ V v
answered w e p r d v next = let (c, (kept, (makes, on))) = (moves e w (Answer p (Add r d v)) next).is in added_by c e.kind r d v makes

pub add_at_once-requires : goal.add_at_once-requires
add_at_once-requires c =
    let w = c.args.kept.now.window in
    let add = c.in-Ok-Answer-default-Add in
    let event : Kind → Event = λ kind. record { thread = c.args.event.thread; kind = kind } in
    let next : IsNext w c.args.event (Answer add.place (Add add.register add.added add.answer)) = rw (add.field-0-is, add.field-0-1-is) at add.ensures.ok in
    record {
      next = subst (λ kind. IsNext w (event kind) (Answer add.place (Add add.register add.added add.answer)))
          (answered w c.args.event add.place add.register add.added add.answer next) next;
    }

pub returns-in-Ok-Answer-default-Add-clause-taken : goal.returns-in-Ok-Answer-default-Add-clause-taken
returns-in-Ok-Answer-default-Add-clause-taken c took =
    let w = c.args.kept.now.window in
    let add = c.in-Ok-Answer-default-Add in
    let event : Kind → Event = λ kind. record { thread = c.args.event.thread; kind = kind } in
    let next : IsNext w c.args.event (Answer add.place (Add add.register add.added add.answer)) = rw (add.field-0-is, add.field-0-1-is) at add.ensures.ok in
    subst (λ kind. StaysFine c.args.bounds.now (event kind) c.args.kept.now c.add_at_once.new.kept)
    (sym (answered w c.args.event add.place add.register add.added add.answer next)) (c.add_at_once.ensures.taken took c.args.bounds.now)
