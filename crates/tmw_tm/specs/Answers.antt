-- The calls of a transactional memory that have an answer, and the answers.
use Rattle.std.specs.Prelude.{ℕ}
use Rattle.tmw_events.specs.declared.ix.Ix.{Ix}
use Rattle.tmw_tm.specs.declared.answer.Did.{Did}
use Rattle.tmw_tm.specs.declared.answer.Did.TheVariants.{Done as IsDone, Abort as HasAborted}
use Rattle.tmw_tm.specs.declared.answer.Got.{Got}
use Rattle.tmw_tm.specs.declared.answer.Got.TheVariants.{Value as IsValue, Abort as GotAbort}

-- A call of a memory that it answers.
pub data Call : Type 0 where
  Begin : Call
  Read : Ix → Call
  Write : Ix → ℕ → Call
  Add : Ix → ℕ → Call
  Commit : Call

-- What a memory answers: the value of a read or an add, that the call was carried out, or that the transaction has aborted.
pub data Answer : Type 0 where
  Value : ℕ → Answer
  Done : Answer
  Abort : Answer

abbrev pub got_answer : Got → Answer
got_answer (IsValue value) = Answer.Value value
got_answer GotAbort = Answer.Abort

abbrev pub did_answer : Did → Answer
did_answer IsDone = Answer.Done
did_answer HasAborted = Answer.Abort
