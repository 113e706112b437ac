-- The texts of a ring's size and of the steps in it. Numbers are decimal, without sign and without leading zeros.
use Rattle.std.specs.Prelude.{◌≡◌, ℕ, ◌<◌, ◌^◌, List, [], ◌∷◌, ◌++◌, codes}
use Rattle.tmw_events.specs.Text.{digit, kind_text, FitsKind}
use Rattle.tmw_trace.specs.Text.{values_text}
use Rattle.tmw_lines.specs.Grammar.{Grammar, lines_text, AreLines}
use Rattle.tmw_steps.specs.declared.size_line.SizeLine.{SizeLine}
use Rattle.tmw_steps.specs.declared.steps_format.StepsFormat.{StepsFormat}
use Rattle.tmw_ring_defs.specs.declared.ring_step.Step.{Step}
use Rattle.tmw_ring_defs.specs.declared.ring_step.Step.TheVariants.{Front, Tail, Claim, Fill, Publish, Peek, Read, Free, Stop}

-- a step's name, then its writer and the kind of its event, each after one space
abbrev pub step_text : Step → List ℕ
step_text (Front writer kind) = codes "front " ++ digit writer ∷ 32 ∷ kind_text kind
step_text (Tail writer) = codes "tail " ++ digit writer ∷ []
step_text (Claim writer) = codes "claim " ++ digit writer ∷ []
step_text (Fill writer) = codes "fill " ++ digit writer ∷ []
step_text (Publish writer) = codes "publish " ++ digit writer ∷ []
step_text Peek = codes "peek"
step_text Read = codes "read"
step_text Free = codes "free"
step_text (Stop writer) = codes "stop " ++ digit writer ∷ []

-- a ring's cells, its writers and its places in all
abbrev pub size_numbers : SizeLine → List ℕ
size_numbers size = size.cells ∷ size.writers ∷ size.limit ∷ []

-- the first line without its line feed: the format's name and version, and each of the size's numbers after one space
abbrev pub size_text : SizeLine → List ℕ
size_text size = codes "ring-steps 1" ++ values_text (size_numbers size)

-- the value of a step's event is a number of 64 bits
abbrev pub FitsStep : Step → Type 0
FitsStep (Front writer kind) = FitsKind kind
FitsStep _ = Unit {0}

-- no step has this text
abbrev pub IsNoStep : List ℕ → Type 0
IsNoStep text = (step : Step) → FitsStep step → text ≡ step_text step → ⊥

-- the size's numbers have 64 bits
pub record FitsSize (size : SizeLine) : Type 0 where
  pub cells : size.cells < 2 ^ 64
  pub writers : size.writers < 2 ^ 64
  pub limit : size.limit < 2 ^ 64

-- a list's lines: its size's, and behind it one for each step
abbrev pub steps_grammar : Grammar StepsFormat SizeLine Step
steps_grammar = record {
  header_text = size_text;
  item_text = step_text;
  FitsHeader = FitsSize;
  FitsItem = λ format step. FitsStep step;
  format_of = λ size. record {};
}

-- the size's line, then a line for each step
abbrev pub steps_text : SizeLine → List Step → List ℕ
steps_text size steps = lines_text steps_grammar size steps

-- these are the size and the steps of a text: their numbers have 64 bits, and there are at most 2^40 steps
abbrev pub AreSteps : SizeLine → List Step → Type 0
AreSteps size steps = AreLines steps_grammar size steps
