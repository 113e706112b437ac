use Rattle.tmw_ring.proofs.RunLawsProof.{run_law, seat_law, empty_seat_law}
use Rattle.tmw_ring.proofs.table_change_laws.law_runs.Goals as goal

pub returns : goal.returns
returns c = record { seat = seat_law; run = run_law; empty = empty_seat_law }
