-- The laws, by their proofs for every script and every history.
use Rattle.tmw_runs.proofs.Completions.{formed_by_turns, over_law, step_law}
use Rattle.tmw_runs.proofs.Places.{placed_law}
use Rattle.tmw_runs.proofs.laws.law_turns.Goals as goal

pub returns : goal.returns
returns c = record {
  begins = λ calls more whole. whole;
  step = step_law;
  over = over_law;
  formed = formed_by_turns;
  placed = placed_law;
}
