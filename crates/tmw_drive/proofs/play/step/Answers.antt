use Rattle.tmw_drive.proofs.Shared.{Answer, Call, Event, Plays, [], ap, arith, beginning-plays, call-plays, calls_of, goes_on-same, inl, inr, kinds_of, plays-goes_on, refl, subst, sym, whole-plays, ◌++◌, ◌∙◌, ◌∷◌}
use Rattle.tmw_drive.proofs.Entries.{kinds_of-pair_own, pushed-pair}
use Rattle.tmw_drive.proofs.play.step.Goals as goal

pub returns-in_default-clause-entry : goal.returns-in_default-clause-entry
returns-in_default-clause-entry g c =
    let old = c.args.player.now in
    let gives : Call → Answer → Type 0 = λ call answer. (goal.Tm-dyn g c.args.memory.now).gives c.args.memory.now.1 call answer in
    inl (
      whole-plays gives (calls_of c.args.script.now) old (kinds_of old.thread.number c.args.log.now.items) c.requires
          (sym c.next.ensures.next ∙ c.in_default.is),
      refl,
    )

pub ask-answer-requires : goal.ask-answer-requires
ask-answer-requires g c = grind (arith, call-plays, calls_of, kinds_of)

pub returns-clause-plays : goal.returns-clause-plays
returns-clause-plays g c =
    let old = c.args.player.now in
    let thread = old.thread.number in
    let script = calls_of c.args.script.now in
    let log = c.args.log.now.items in
    let kinds = kinds_of thread log in
    let gives : Call → Answer → Type 0 = λ call answer. (goal.Tm-dyn g c.args.memory.now).gives c.args.memory.now.1 call answer in
    let call = c.in-Some.call in
    let answer = c.ask-answer.result in
    let one : Event = record { thread = old.thread; kind = call } in
    let two : Event = record { thread = old.thread; kind = answer } in
    let middle = c.ask-answer.new.self in
    let goes = goes_on-same old middle c.go_on.new.self answer c.ask-answer.ensures.transaction c.ask-answer.ensures.call c.go_on.ensures.left in
    let plays : Plays gives script c.go_on.new.self (kinds ++ call ∷ answer ∷ [])
    = plays-goes_on gives script old c.go_on.new.self kinds call answer c.requires (sym c.next.ensures.next ∙ c.in-Some.is)
    c.ask-answer.ensures.fits c.ask-answer.ensures.stands goes
    in
    let pushed = pushed-pair log c.reserve.new.self.items c.push.new.self.items c.push-2.new.self.items one two c.reserve.ensures.items
    c.in_ok-push.ensures.items c.in_ok-push-2.ensures.items in
    subst (Plays gives script c.go_on.new.self) (sym (ap (kinds_of thread) pushed ∙ kinds_of-pair_own thread log one two refl refl)) plays

pub returns-clause-entry : goal.returns-clause-entry
returns-clause-entry g c =
    let old = c.args.player.now in
    let script = calls_of c.args.script.now in
    let log = c.args.log.now.items in
    let gives : Call → Answer → Type 0 = λ call answer. (goal.Tm-dyn g c.args.memory.now).gives c.args.memory.now.1 call answer in
    let one : Event = record { thread = old.thread; kind = c.in-Some.call } in
    let two : Event = record { thread = old.thread; kind = c.ask-answer.result } in
    let pushed = pushed-pair log c.reserve.new.self.items c.push.new.self.items c.push-2.new.self.items one two c.reserve.ensures.items
    c.in_ok-push.ensures.items c.in_ok-push-2.ensures.items in
    let begins = beginning-plays gives script c.go_on.new.self (kinds_of old.thread.number c.push-2.new.self.items) (returns-clause-plays g c) in
    inr (one, two, refl, refl, pushed, begins)
