-- The law of cuts: over a cut the end states of a history are those of what follows from the outcomes of what went before.
use Rattle.tmw_defs.proofs.Shared.{Criterion, CutLaw, EndsBy, Event, IsTrue, LeadsBy, List, Opacity, State, Strict, is_cut, outcomes_by, transactions, ◌++◌, ◌↔◌}
use Rattle.tmw_defs.proofs.Criteria.{final-outcome, outcome-final}
use Rattle.tmw_defs.proofs.CutsProof.{leads_over, leads-over}
use Rattle.tmw_defs.proofs.StrictCuts.{strict_leads_over, strict_leads-over}

over_cut : (c : Criterion) (s r : State) (past rest : List Event) → IsTrue (is_cut past) → LeadsBy c s (transactions (past ++ rest)) r
    → (m : State) × LeadsBy c s (transactions past) m × LeadsBy c m (transactions rest) r
over_cut Opacity s r past rest cut leads = leads_over s r past rest cut leads
over_cut Strict s r past rest cut leads = strict_leads_over s r past rest cut leads

over-cut : (c : Criterion) (s m r : State) (past rest : List Event) → IsTrue (is_cut past) → LeadsBy c s (transactions past) m
    → LeadsBy c m (transactions rest) r → LeadsBy c s (transactions (past ++ rest)) r
over-cut Opacity s m r past rest cut one two = leads-over s m r past rest cut one two
over-cut Strict s m r past rest cut one two = strict_leads-over s m r past rest cut one two

-- the outcomes of all are the end states of the rest, from those at the cut
ends_over : (c : Criterion) (start end : State) (past rest : List Event) → IsTrue (is_cut past)
    → outcomes_by c start (past ++ rest) end ↔ EndsBy c (outcomes_by c start past) (transactions rest) end
ends_over c start end past rest cut = (
  λ (s, is, leads). let over = over_cut c s end past rest cut leads in (over.0, (s, is, over.1), over.2),
  λ (m, (s, is, one), two). (s, is, over-cut c s m end past rest cut one two),
)

pub cut_law : CutLaw
cut_law c registers start past rest formed cut = record {
  final = (
    λ final. let (end, outcome) = final-outcome c registers start (past ++ rest) final in
        (end, (ends_over c start end past rest cut).0 outcome),
    λ (end, ends). outcome-final c registers start (past ++ rest) formed end ((ends_over c start end past rest cut).1 ends),
  );
  ends = λ at_cut end. ends_over c start end past rest cut;
}
