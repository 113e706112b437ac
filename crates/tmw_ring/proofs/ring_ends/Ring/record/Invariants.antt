use Rattle.tmw_ring.proofs.ring_ends.Ring.record.Given as goal

abbrev pub ghosts-record_as : goal.ghosts-record_as
ghosts-record_as a = record { kind = a.kind }
