-- What a sink takes as an answer, and the exit status that goes with it.
use Rattle.tmw_report.specs.Shared.{Takes, TakesBeginning, TextFault, ToSink, one_more}
use Rattle.std.specs.Prelude.{◌≡◌, ◌⊎◌, ℕ, List}
use Rattle.tmw_report.specs.declared.fault.Fault.{Fault}
use Rattle.tmw_report.specs.declared.fault.Fault.TheVariants.{BadHeader, BadLine, Cut, Memory, Io, TooLong}
use Rattle.tmw_lines.specs.declared.text_fault.TextFault.TheVariants.{BadHeader as IsBadHeader, BadLine as IsBadLine, Cut as IsCut, Memory as WantsMemory, Io as IsIo, TooLong as IsTooLong}

-- The sink took the text, and the status is the one that goes with it.
pub record IsWritten {K : Type 0} (To : ToSink K) (old new : K) (text : List ℕ) (wanted status : ℕ) : Type 0 where
  pub line : Takes To old text new
  pub well : To.failures new ≡ To.failures old
  pub exit : status ≡ wanted

-- A write failed: the sink took a beginning of the text, less than the whole, and the status is 4.
pub record IsCutShort {K : Type 0} (To : ToSink K) (old new : K) (text : List ℕ) (status : ℕ) : Type 0 where
  pub beginning : TakesBeginning To old text new
  pub failed : To.failures new ≡ one_more (To.failures old)
  pub exit : status ≡ 4

abbrev pub IsPut : {K : Type 0} → ToSink K → K → K → List ℕ → ℕ → ℕ → Type 0
IsPut To old new text wanted status = IsWritten To old new text wanted status ⊎ IsCutShort To old new text status

-- The sink took the text, or a write failed and it took a beginning of it, less than the whole.
abbrev pub IsSent : {K : Type 0} → ToSink K → K → K → List ℕ → Type 0
IsSent To old new text =
    (Takes To old text new × (To.failures new ≡ To.failures old))
    ⊎ (TakesBeginning To old text new × (To.failures new ≡ one_more (To.failures old)))

-- The fault by which a fault of a text is answered.
abbrev pub fault_of : TextFault → Fault
fault_of IsBadHeader = BadHeader
fault_of (IsBadLine line) = BadLine line
fault_of (IsCut line) = Cut line
fault_of WantsMemory = Memory
fault_of IsIo = Io
fault_of IsTooLong = TooLong

-- A source's count of failures after this fault was answered: one more for a failed read, which is answered by `Io`, else as
-- before.
abbrev pub failures_behind : Fault → ℕ → ℕ
failures_behind Io count = one_more count
failures_behind _ count = count
