-- A status that is told by its number.
use Rattle.tmw_c.proofs.Shared.{CallStatus, ℕ, ◌≡◌}
use Rattle.tmw_c.specs.Statuses.{Tells, number_of}

pub tells : {Holds : CallStatus → Type 0} (number : ℕ) (status : CallStatus) → number ≡ number_of status → Holds status → Tells number Holds
tells number status is holds = (status, is, holds)
