use Rattle.tmw_watch.proofs.Shared.{Front, ap, arith, length, rest_in, ◌-◌, ◌^◌, ◌∙◌}
use Rattle.tmw_watch.proofs.RestVerdict.{is_judged}
use Rattle.tmw_watch.proofs.close.judge_all.Goals as goal

pub returns : goal.returns
returns c =
    let new = c.pump.new.self in
    is_judged (2 ^ 64 - 1) c.in-Ok.field-0 (rest_in c.args.rest) (rest_in new) record { events = c.fed.result; verdict = c.verdict.result } (omega arith)
    new.few c.in-Ok.ensures.ok (c.fed.ensures ∙ ap (λ (front : Front). length front.judged.items) c.front.ensures) c.verdict.ensures.shown
