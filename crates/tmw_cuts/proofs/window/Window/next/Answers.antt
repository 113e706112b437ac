-- The event is refused for the fault that it has by what the turn tells of the pending call.
use Rattle.tmw_cuts.proofs.Shared.{Err, Event, Follows, IfErr, List, Malformed, Move, Ok, Refuses, Register, Result, after_call, ap, kept_in, lacks_register, pending_call, refuses-from, rejects_lacking, sym, turn_at, ℕ, ◌∙◌, ◌≡◌}
use Rattle.tmw_cuts.proofs.Follows.{refused}
use Rattle.tmw_cuts.proofs.window.Window.next.Goals as goal

pub returns-then-lacks_register-clause-err : goal.returns-then-lacks_register-clause-err
returns-then-lacks_register-clause-err c registers history follows =
    let e = c.args.event in
    refuses-from registers history e Register follows.formed
    (rejects_lacking registers (pending_call e.thread.number history) e.kind
    (ap (λ n. lacks_register n e.kind) (sym follows.number) ∙ sym c.lacks_register.ensures ∙ c.if-lacks_register.true))

pub returns-clause-err : goal.returns-clause-err
returns-clause-err c = told c.next.result (c.next.ensures ∙ ap (λ turn. after_call (kept_in turn) c.args.event.kind) c.turn_of.ensures)
  where
    told : (r : Result Move Malformed) → r ≡ after_call (kept_in (turn_at c.args.self.now c.args.event.thread.number)) c.args.event.kind
        → IfErr r (λ fault. (registers : ℕ) (history : List Event) → Follows registers history c.args.self.now
        → Refuses registers history c.args.event fault)
    told (Ok move) is = tt
    told (Err fault) is = λ registers history follows.
        refused registers history c.args.event c.args.self.now fault follows (sym c.lacks_register.ensures ∙ c.if-lacks_register.false) (sym is)
