-- The one log of a settled ring.
use Rattle.tmw_pump.proofs.Shared.{Event, IsLogOf, List, ReaderIs, WriterIs, append-nil, arith, made_from, ◌++◌, ◌≡◌}
use Rattle.tmw_ring.specs.Settle.{AreInOrder, IsSettled}

pub log-settled : (reader : ReaderIs) (writers : List WriterIs) (left all : List Event) → IsSettled reader writers left
    → AreInOrder writers → all ≡ reader.taken ++ left → IsLogOf all writers all
log-settled reader writers left all settled order whole =
    grind (arith, append-nil, made_from)
