use Rattle.tmw_reason.proofs.CasesProof.{finds-ok}
use Rattle.tmw_reason.proofs.reason.find_among.Goals as goal

pub returns : goal.returns
returns c =
    finds-ok c.args.judged.now c.args.drawn.now c.in_ok-candidates.candidates c.in_ok-candidates.ensures c.find_cases.result
    c.find_cases.ensures
