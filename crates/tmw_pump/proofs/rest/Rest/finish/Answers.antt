use Rattle.tmw_pump.proofs.Shared.{Event, GivesHeadline, List, Verdict, all_of, arith, rest_in, subst, sym}
use Rattle.tmw_pump.proofs.HeadlineProof.{gives_rest}
use Rattle.tmw_pump.proofs.KeepSteps.{all_kept}
use Rattle.tmw_pump.proofs.rest.Rest.finish.Goals as goal

pub returns-clause-judged : goal.returns-clause-judged
returns-clause-judged c = grind (arith, all_kept)

pub returns-clause-headline : goal.returns-clause-headline
returns-clause-headline c =
    let rest = c.args.self in
    subst (λ (judged : List Event). GivesHeadline rest.front (all_of (rest_in rest)) judged c.verdict-verdict.result) (sym (returns-clause-judged c))
    (subst (λ (verdict : Verdict). GivesHeadline rest.front (all_of (rest_in rest)) rest.front.judged.items verdict) (sym c.verdict-verdict.ensures.shown)
    (gives_rest rest.front rest.front rest.settled (λ by fits. fits)))
