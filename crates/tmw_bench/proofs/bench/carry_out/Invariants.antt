-- The answers that the memory gives.
use Rattle.tmw_bench.proofs.bench.carry_out.Given as goal

abbrev pub ghosts-play_rounds : goal.ghosts-play_rounds
ghosts-play_rounds g a = record { gave = (g.dyn-1.0.entry a.memory.now.0).1.gives a.memory.now.1 }
