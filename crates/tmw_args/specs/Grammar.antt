-- The program's commands and options, as the parser of command lines sees them.
use Rattle.std.specs.Prelude.{◌≡◌, ℕ, List, [], ◌∷◌, Some, codes, map, true, pos}
use Rattle.std.specs.Borrow.{Bor}
use Rattle.clap.specs.Walk.{texts}
use Rattle.clap.specs.Words.{App, Rule, Text, new_app, new_rule, with_rule, with_subcommand}
use Rattle.clap.specs.declared.builder.action.ArgAction.TheVariants.{SetTrue}
use Rattle.clap.specs.declared.builder.value_parser.ValueParser.{ValueParser}
use Rattle.clap.specs.declared.builder.value_parser.ValueParser.TheVariants.{Names, Signed, Unsigned}
use Rattle.tmw_defs.specs.declared.criterion.Asked.TheVariants.{Opacity}
use Rattle.tmw_args.specs.CriteriaAndMemories.{asked_name, criterion_name, every_asked, every_criterion, every_memory, memory_name}
use Rattle.tmw_args.specs.declared.which_memory.Which.TheVariants.{NoRec}

abbrev pub criteria_names : List Text
criteria_names = map asked_name every_asked

abbrev pub shown_names : List Text
shown_names = map criterion_name every_criterion

abbrev pub memory_names : List Text
memory_names = map memory_name every_memory

-- an option that takes one value, one of these, and has this default
abbrev pub value_rule : Text → ValueParser → Text → Rule
value_rule name values default = record (new_rule name) {
  long = Some name;
  value_names = 1;
  defaults = default ∷ [];
  parser = Some values;
}

-- a number from 1 to `most`
abbrev pub one_to : ℕ → ValueParser
one_to most = Signed (pos 1) (pos most)

-- with the two bounds
abbrev pub with_bounds : App → App
with_bounds app = with_rule (with_rule app (value_rule (codes "window") (one_to 8) (codes "8")))
    (value_rule (codes "states") (one_to 64) (codes "64"))

-- with what to judge by, one of these, and opacity where none is named
abbrev pub with_criterion : ValueParser → App → App
with_criterion criteria app = with_rule app (value_rule (codes "criterion") criteria (asked_name Opacity))

-- a flag of this name, which takes no value
abbrev pub flag_rule : Text → Rule
flag_rule name = record (new_rule name) { long = Some name; action = Some SetTrue }

-- with this flag
abbrev pub with_flag : Text → App → App
with_flag name app = with_rule app (flag_rule name)

-- with the three flags that say what is written of a run
abbrev pub with_run_flags : App → App
with_run_flags app = with_flag (codes "summary") (with_flag (codes "trace-only") (with_flag (codes "trace") app))

-- with a memory, one of these, and with what is written of a run on it
abbrev pub with_memory : ValueParser → App → App
with_memory memories app = with_run_flags (with_rule app (value_rule (codes "memory") memories (memory_name NoRec)))

-- with the three counts of a bench
abbrev pub with_counts : App → App
with_counts app = with_rule (with_rule (with_rule app (value_rule (codes "ring") (Unsigned 1 4096) (codes "256")))
    (value_rule (codes "patience") (Unsigned 1 1000000000) (codes "1000000")))
    (value_rule (codes "rounds") (Unsigned 1 1000000000) (codes "1"))

-- with how many events of the run come before the trace
abbrev pub with_before : App → App
with_before app = with_rule app (value_rule (codes "skipped") (Unsigned 0 1000000000000000) (codes "0"))

-- `judge`, by one of these criteria
abbrev pub judge_among : ValueParser → App
judge_among criteria =
    with_bounds (with_flag (codes "first") (with_flag (codes "summary") (with_criterion criteria (new_app (codes "judge")))))

-- `show`, by one of these criteria
abbrev pub show_among : ValueParser → App
show_among criteria =
    with_bounds (with_before (with_flag (codes "why") (with_flag (codes "page") (with_flag (codes "trace")
    (with_criterion criteria (new_app (codes "show")))))))

-- `drive`, over one of these memories
abbrev pub drive_among : ValueParser → App
drive_among memories = with_bounds (with_memory memories (new_app (codes "drive")))

-- `bench`, over one of these memories
abbrev pub bench_among : ValueParser → App
bench_among memories =
    with_bounds (with_counts (with_flag (codes "quiet") (with_flag (codes "why") (with_flag (codes "show")
    (with_memory memories (new_app (codes "bench")))))))

-- `steps`, which has no option
abbrev pub steps : App
steps = new_app (codes "steps")

-- the program, which wants one of its commands, has none called `help`, and tells its version
abbrev pub wanting : App → App
wanting app = record app { top = record app.top { subcommand_required = true; disable_help_subcommand = true; has_version = true } }

-- with its commands, `judge` and `show` each by one of these criteria, `drive` and `bench` over one of these memories
abbrev pub program_among : ValueParser → ValueParser → ValueParser → App
program_among criteria shown memories =
    with_subcommand (with_subcommand (with_subcommand (with_subcommand (with_subcommand (wanting (new_app (codes "tmwatch")))
    (judge_among criteria).top) (show_among shown).top) (drive_among memories).top) (bench_among memories).top) steps.top

-- This is the program, wherever the names of its criteria and memories stand in memory.
pub record IsProgram (app : App) : Type 0 where
  pub criteria : Bor (List (Bor Text))
  pub shown : Bor (List (Bor Text))
  pub memories : Bor (List (Bor Text))
  pub criteria_are : texts criteria.now ≡ criteria_names
  pub shown_are : texts shown.now ≡ shown_names
  pub memories_are : texts memories.now ≡ memory_names
  pub is : app ≡ program_among (Names criteria) (Names shown) (Names memories)
