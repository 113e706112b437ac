-- So many events were judged as turns were made; before the first turn nothing is done.
use Rattle.tmw_pump.proofs.Shared.{HasPumped, ReaderOf, StaysKept, pump_in, ◌≡◌}
use Rattle.tmw_pump.proofs.pump.Pump.pump.Given as goal

abbrev pub invariant-loop-judged : goal.invariant-loop-judged
invariant-loop-judged g l =
    ReaderOf l.ring l.self.reader × HasPumped l.judged (pump_in l.fn.self) l.self.reader l.self.front
    × StaysKept g.K.Keep.keeps l.fn.self.front l.self.front l.fn.self.kept l.self.kept
    × (l.judged ≡ 0 → (pump_in l.self ≡ pump_in l.fn.self) × (l.self.kept ≡ l.fn.self.kept))
