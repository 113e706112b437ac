-- So many events were judged as turns were made; before the first turn nothing is done.
use Rattle.tmw_pump.proofs.Shared.{HasRested, StaysKept, rest_in, ◌≡◌}
use Rattle.tmw_pump.proofs.rest.Rest.pump.Given as goal

abbrev pub invariant-loop-judged : goal.invariant-loop-judged
invariant-loop-judged g l =
    HasRested l.judged (rest_in l.fn.self) (rest_in l.self)
    × StaysKept g.K.Keep.keeps l.fn.self.front l.self.front l.fn.self.kept l.self.kept × (l.judged ≡ 0 → (rest_in l.self ≡ rest_in l.fn.self) × (l.self.kept ≡ l.fn.self.kept))
