-- The text of what threads have made of a memory.
use Rattle.tmw_command.specs.Shared.{BenchOptions, Opacity, asked_line, driven_line, driven_status, is_open, log_text, report_text, shown_status, shown_text}
use Rattle.tmw_workers.specs.declared.ending.Ending.{Ending}
use Rattle.tmw_counts.specs.declared.summary.Summary.{Summary}
use Rattle.std.specs.Prelude.{Bool, List, [], cond, not, true, ℕ, ◌&&◌, ◌++◌, ◌||◌}
use Rattle.tmw_bench.specs.declared.bench_result.BenchResult.{BenchResult}
use Rattle.tmw_bench.specs.declared.hunt_result.HuntResult.{HuntResult}
use Rattle.tmw_options.specs.declared.form.Form.{Form}
use Rattle.tmw_options.specs.declared.form.Form.TheVariants.{Drawing, Traces}
use Rattle.tmw_drive_command.specs.Ends.{ends_line}
use Rattle.tmw_command.specs.declared.bench.bench_run.BenchRun.{BenchRun}
use Rattle.tmw_command.specs.declared.bench.hunt_run.HuntRun.{HuntRun}

-- The log's trace is asked for.
abbrev pub asks_for_log : BenchOptions → Bool
asks_for_log options = options.written.trace_only || options.written.trace && not options.show

-- what threads have made, without the header of its log
abbrev pub benched_of : BenchRun → BenchResult
benched_of run = record { outcome = run.driven.outcome; summary = run.driven.summary; rounds = run.rounds }

-- Behind the report's line: that of the ends, and where it is asked for that of the counts.
abbrev pub last_lines : BenchOptions → List Ending → Summary → List ℕ
last_lines options ends summary = ends_line ends ++ asked_line options.written.summary summary

-- The lines behind the log's trace: the report's, and those last ones. With the trace alone there are none.
abbrev pub bench_lines : BenchOptions → BenchRun → List ℕ
bench_lines options run =
    cond options.written.trace_only [] (driven_line run.driven ++ last_lines options run.driven.outcome.ends.items run.driven.summary)

-- With the log: its trace, and these lines.
abbrev pub bench_text : BenchOptions → BenchRun → List ℕ
bench_text options run = log_text true run.driven ++ bench_lines options run

abbrev pub bench_status : BenchRun → ℕ
bench_status run = driven_status run.driven

-- what threads have made, without the workload's registers
abbrev pub hunted_of : HuntRun → HuntResult
hunted_of run = record { showing = run.shown.showing; summary = run.summary; ends = run.ends; rounds = run.rounds }

-- The form in which `show` writes the log's last window.
abbrev pub shown_form : BenchOptions → Form
shown_form options = cond options.written.trace Traces Drawing

-- What `show` writes of the log, by opacity, and behind what is drawn the last lines.
abbrev pub place_text : BenchOptions → HuntRun → List ℕ
place_text options run =
    shown_text Opacity 0 (shown_form options) run.shown ++ cond options.written.trace [] (last_lines options run.ends.items run.summary)

-- Without the log: what `show` writes of it, where that is asked for, and else the report's line and the last ones.
abbrev pub hunt_text : BenchOptions → HuntRun → List ℕ
hunt_text options run =
    cond options.show (place_text options run)
    (report_text run.shown.showing.fed run.shown.showing.verdict ++ last_lines options run.ends.items run.summary)

abbrev pub hunt_status : HuntRun → ℕ
hunt_status run = shown_status run.shown

-- Nothing is wrong, and no two transactions overlapped although there are two threads or more.
abbrev pub bench_shows_nothing : BenchRun → Bool
bench_shows_nothing run = is_open run.driven.outcome.verdict && run.driven.summary.none_overlapped

abbrev pub hunt_shows_nothing : HuntRun → Bool
hunt_shows_nothing run = is_open run.shown.showing.verdict && run.summary.none_overlapped
