-- What is left is as it was forgotten.
use Rattle.tmw_monitor.proofs.Shared.{refl}
use Rattle.tmw_monitor.proofs.monitor.Monitor.conclude.Goals as goal

pub returns-in-Some : goal.returns-in-Some
returns-in-Some c =
    rw c.in-Some.is (record { left = c.forget.new.self; nothing = c.forget.ensures.nothing; follows = c.forget.ensures.follows; is = refl })
