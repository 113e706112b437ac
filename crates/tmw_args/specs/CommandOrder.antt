-- What the words of a command line ask for: an order, help, the version, or nothing that the program knows.
use Rattle.std.specs.Prelude.{◌≡◌, ◌≢◌, ◌⊎◌, ◌^◌, ◌||◌, ℕ, Bool, true, false, List, [], ◌∷◌, ◌++◌, Option, Some, None, codes, if◌then◌else◌, option_and_then, option_map}
use Rattle.std.specs.List.{remove}
use Rattle.std.specs.Str.{bytes_eq}
use Rattle.clap.specs.Values.{bool_text}
use Rattle.clap.specs.Words.{App, IsAmong, Kinds, Row, Text, fault_of, first_of, one_of, subcommand_of}
use Rattle.clap.specs.declared.error.kind.ErrorKind.{ErrorKind}
use Rattle.clap.specs.declared.error.kind.ErrorKind.TheVariants.{DisplayHelp, DisplayVersion}
use Rattle.tmw_defs.specs.declared.criterion.Asked.{Asked}
use Rattle.tmw_defs.specs.declared.criterion.Criterion.{Criterion}
use Rattle.tmw_options.specs.declared.bounds.Bounds.{Bounds}
use Rattle.tmw_options.specs.declared.bench_settings.Settings.{Settings}
use Rattle.tmw_options.specs.declared.form.Form.{Form}
use Rattle.tmw_options.specs.declared.form.Form.TheVariants.{Drawing, Traces, Page}
use Rattle.tmw_args.specs.OptionNumbers.{Count, counted}
use Rattle.tmw_args.specs.CriteriaAndMemories.{asked_named, criterion_named, memory_named, named}
use Rattle.tmw_args.specs.declared.command_order.Order.{Order}
use Rattle.tmw_args.specs.declared.command_order.Order.TheVariants.{Judge, Show, Drive, Bench, Steps}
use Rattle.tmw_args.specs.declared.run_options.RunOptions.{RunOptions}
use Rattle.tmw_args.specs.declared.which_memory.Which.{Which}

-- `help` stands in place of a command, behind the program's name.
abbrev pub names_help : List Text → Bool
names_help (name ∷ word ∷ others) = bytes_eq word (codes "help")
names_help _ = false

-- `help` in place of a command is `--help` behind all other words.
abbrev pub help_as_flag : List Text → List Text
help_as_flag words = if names_help words then remove words 1 ++ codes "--help" ∷ [] else words

-- ---- the order of a command and of what was found for its options, which for each is what the words give it, or else its default

-- What is found goes on to the next step; with nothing found there is nothing.
infixl 10 ◌>>=◌
abbrev pub ◌>>=◌ : {A B : Type 0} → Option A → (A → Option B) → Option B
found >>= next = option_and_then next found

-- Whether a command's words have this flag, by what was found for it.
abbrev pub flag_in : Text → List Row → Option Bool
flag_in flag rows = one_of flag rows >>= named bool_text (true ∷ false ∷ [])

-- The number from `least` to `most` that was found for this option.
abbrev pub count_in : (least most : ℕ) → Text → List Row → Option (Count least most)
count_in least most option rows = one_of option rows >>= counted least most

abbrev pub number_in : (least most : ℕ) → Text → List Row → Option ℕ
number_in least most option rows = option_map (λ count. count.number) (count_in least most option rows)

abbrev pub asked_in : List Row → Option Asked
asked_in rows = first_of (codes "criterion") rows >>= asked_named

abbrev pub criterion_in : List Row → Option Criterion
criterion_in rows = first_of (codes "criterion") rows >>= criterion_named

abbrev pub memory_in : List Row → Option Which
memory_in rows = first_of (codes "memory") rows >>= memory_named

abbrev pub bounds_of : Count 1 8 → Count 1 64 → Bounds
bounds_of window states = record {
  window = window.number;
  states = states.number;
  some_transactions = window.some;
  most_transactions = window.few;
  some_states = states.some;
  most_states = states.few;
}

abbrev pub bounds_in : List Row → Option Bounds
bounds_in rows = do
  window ← count_in 1 8 (codes "window") rows
  states ← count_in 1 64 (codes "states") rows
  Some (bounds_of window states)

-- The form that the flags `--trace` and `--page` of `show` ask for. Both together ask for none.
abbrev pub form_by : Bool → Bool → Option Form
form_by false false = Some Drawing
form_by true false = Some Traces
form_by false true = Some Page
form_by true true = None

abbrev pub form_in : List Row → Option Form
form_in rows = do
  trace ← flag_in (codes "trace") rows
  page ← flag_in (codes "page") rows
  form_by trace page

abbrev pub judge_in : List Row → Option Order
judge_in rows = do
  asked ← asked_in rows
  summary ← flag_in (codes "summary") rows
  first ← flag_in (codes "first") rows
  bounds ← bounds_in rows
  Some (Judge (record { bounds = bounds; asked = asked; first = first; summary = summary }))

abbrev pub show_in : List Row → Option Order
show_in rows = do
  criterion ← criterion_in rows
  form ← form_in rows
  why ← flag_in (codes "why") rows
  before ← number_in 0 1000000000000000 (codes "skipped") rows
  bounds ← bounds_in rows
  Some (Show (record { criterion = criterion; form = form; why = why; before = before; bounds = bounds }))

abbrev pub run_options_in : List Row → Option RunOptions
run_options_in rows = do
  trace ← flag_in (codes "trace") rows
  trace_only ← flag_in (codes "trace-only") rows
  summary ← flag_in (codes "summary") rows
  Some (record { trace = trace; trace_only = trace_only; summary = summary })

abbrev pub drive_in : List Row → Option Order
drive_in rows = do
  memory ← memory_in rows
  written ← run_options_in rows
  bounds ← bounds_in rows
  Some (Drive memory written bounds)

abbrev pub settings_of : Count 1 4096 → Count 1 1000000000 → Count 1 1000000000 → Bounds → Settings
settings_of cells patience rounds bounds = record {
  cells = cells.number;
  limit = 2 ^ 40;
  patience = patience.number;
  rounds = rounds.number;
  bounds = bounds;
  some_round = rounds.some;
  few_rounds = rounds.few;
}

-- The settings of `bench`. Its ring takes at most 2^40 events in all.
abbrev pub settings_in : List Row → Option Settings
settings_in rows = do
  cells ← count_in 1 4096 (codes "ring") rows
  patience ← count_in 1 1000000000 (codes "patience") rows
  rounds ← count_in 1 1000000000 (codes "rounds") rows
  bounds ← bounds_in rows
  Some (settings_of cells patience rounds bounds)

-- With `--why` the window is shown, whether `--show` is there or not.
abbrev pub bench_in : List Row → Option Order
bench_in rows = do
  memory ← memory_in rows
  written ← run_options_in rows
  settings ← settings_in rows
  show ← flag_in (codes "show") rows
  why ← flag_in (codes "why") rows
  quiet ← flag_in (codes "quiet") rows
  Some (Bench memory (record { written = written; settings = settings; show = show || why; why = why; quiet = quiet }))

-- The order of a command and of what was found for its options. There is none without a command, without one of its values, or
-- with options that contradict each other.
abbrev pub order_in : Option (Text × List Row) → Option Order
order_in None = None
order_in (Some (command, rows)) =
    if bytes_eq command (codes "judge") then judge_in rows
    else (if bytes_eq command (codes "show") then show_in rows
    else (if bytes_eq command (codes "drive") then drive_in rows
    else (if bytes_eq command (codes "bench") then bench_in rows
    else (if bytes_eq command (codes "steps") then Some Steps else None))))

-- ---- what the words ask this program for

-- The kinds of the fault that the parser finds in the words, or of the request for help or for the version: none where they are right.
abbrev pub kinds_of : App → List Text → Kinds
kinds_of program words = fault_of program (help_as_flag words)

-- The order that the words give, if any.
abbrev pub order_of : App → List Text → Option Order
order_of program words = order_in (subcommand_of program (help_as_flag words))

-- The words are right, and ask for this order.
abbrev pub Asks : App → List Text → Order → Type 0
Asks program words order = (kinds_of program words ≡ []) × (order_of program words ≡ Some order)

-- The words ask for help.
abbrev pub AsksForHelp : App → List Text → Type 0
AsksForHelp program words = IsAmong DisplayHelp (kinds_of program words)

-- The words ask for the program's version.
abbrev pub AsksForVersion : App → List Text → Type 0
AsksForVersion program words = IsAmong DisplayVersion (kinds_of program words)

-- The parser finds no fault in the words, and still they give no order.
abbrev pub AsksForNothing : App → List Text → Type 0
AsksForNothing program words = (kinds_of program words ≡ []) × (order_of program words ≡ None)

-- The words are no command line of the program.
abbrev pub IsWrong : App → List Text → Type 0
IsWrong program words =
    ((kind : ErrorKind) × IsAmong kind (kinds_of program words) × (kind ≢ DisplayHelp) × (kind ≢ DisplayVersion))
    ⊎ AsksForNothing program words
