-- What is read where lines are read on to the text's end, and what a taker was given of it.
use Rattle.std.specs.Prelude.{ℕ, Result, Ok, Err, List, [], ◌∷◌, ◌++◌}
use Rattle.tmw_lines.specs.Grammar.{Grammar}
use Rattle.tmw_lines.specs.ReadItems.{EndsBehind, FailsHolding}
use Rattle.tmw_lines.specs.Lines.{HasRead}
use Rattle.tmw_lines.specs.Taker.{Taking, TakesUpTo}
use Rattle.tmw_lines.specs.declared.items.Reached.{Reached}
use Rattle.tmw_lines.specs.declared.items.Reached.TheVariants.{End, Stop}
use Rattle.tmw_lines.specs.declared.lines.Lines.{Lines}
use Rattle.tmw_lines.specs.declared.text_fault.TextFault.{TextFault}
use Rattle.tmw_streams.specs.Streams.{FromSource}
use Rattle.tmw_streams.specs.Transfers.{Tells}

-- whatever had been read before, the bytes up to the end are its text and that of these items
abbrev pub ReadsToEnd : {F H E : Type 0} → Grammar F H E → Type 0 → Lines F → List E → List ℕ → Type 0
ReadsToEnd grammar Ended lines items bytes = (header : _) (given : List _) (before : List ℕ)
    → HasRead grammar lines header given before → EndsBehind grammar Ended header (given ++ items) (before ++ bytes)

-- whatever had been read before, behind it and these items' lines comes the line that has the fault, and the reader holds how
-- that line begins
abbrev pub ReadsToFault : {F H E : Type 0} → Grammar F H E → Type 0 → Lines F → Lines F → List E → List ℕ → TextFault → Type 0
ReadsToFault grammar Ended old new items bytes fault = (header : _) (given : List _) (before : List ℕ)
    → HasRead grammar old header given before → FailsHolding grammar Ended new header (given ++ items) (before ++ bytes) fault

-- whatever had been read before, these items' lines were read and one line more, at whose item the taker stopped
pub record ReadsUpTo {F H E T : Type 0} (grammar : Grammar F H E) (taking : Taking T E) (old new : Lines F)
    (before after : T) (items : List E) (bytes : List ℕ) : Type 0 where
  pub last : E
  pub read : (header : H) (given : List E) (earlier : List ℕ) → HasRead grammar old header given earlier
      → HasRead grammar new header ((given ++ items) ++ last ∷ []) (earlier ++ bytes)
  pub taken : TakesUpTo taking before items last after

-- these items were taken, and behind them comes the end, the line that has the fault, or one line more, at whose item the taker
-- stopped; no fault of a line is want of memory
abbrev pub AreGiven : {F H E T : Type 0} → Grammar F H E → Type 0 → Taking T E → Lines F → Lines F → T → T
    → List E → List ℕ → Result Reached TextFault → Type 0
AreGiven grammar Ended taking old new before after items bytes (Ok End) =
    ReadsToEnd grammar Ended old items bytes × taking.takes before items after
AreGiven grammar Ended taking old new before after items bytes (Ok Stop) =
    ReadsUpTo grammar taking old new before after items bytes
AreGiven grammar Ended taking old new before after items bytes (Err fault) =
    ReadsToFault grammar Ended old new items bytes fault × taking.takes before items after

-- what the source told makes, behind whatever the reader had read before, lines whose items the taker was given
pub record GivesAll {F H E S T : Type 0} (grammar : Grammar F H E) (From : FromSource S) (Ended : Type 0)
    (taking : Taking T E) (old new : S) (lines lines_after : Lines F) (before after : T) (result : Result Reached TextFault) : Type 0 where
  pub bytes : List ℕ
  pub items : List E
  pub told : Tells From old bytes new
  pub given : AreGiven grammar Ended taking lines lines_after before after items bytes result
