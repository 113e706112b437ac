-- The laws, by their proofs for every script and every history.
use Rattle.tmw_runs.proofs.NeverMalformed.{formed_law}
use Rattle.tmw_runs.proofs.WholeRuns.{runs_law}
use Rattle.tmw_runs.proofs.laws.law_runs.Goals as goal

pub returns : goal.returns
returns c = record { runs = runs_law; formed = formed_law }
