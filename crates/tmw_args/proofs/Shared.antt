-- What the proofs of this crate take from the libraries, from the crates below and from its specs.
pub use Rattle.clap.proofs.SimpleLemmas.{plain_fields}
pub use Rattle.clap.proofs.TakesLemmas.{passed_up}
pub use Rattle.clap.proofs.ValueTestLemmas.{Accepts-accepts, accepts-Accepts}
pub use Rattle.clap.proofs.WalkLemmas.{both, first_value-rows, one_text-rows}
pub use Rattle.clap.specs.Faults.{is_free_app, is_simple_and_free}
pub use Rattle.clap.specs.Matches.{ReadsOne}
pub use Rattle.clap.specs.Simple.{app_of_fields, built, is_simple}
pub use Rattle.clap.specs.Values.{Accepts, bool_text}
pub use Rattle.clap.specs.Walk.{texts}
pub use Rattle.clap.specs.Words.{AddsSubcommand, App, app_of, fault_of, found_of, HasKind, IsAmong, kind_of, one_text, rows_of, Rule, rule_of, Shape, subcommand_of, Text, with_rule, with_subcommand}
pub use Rattle.clap.specs.declared.builder.action.ArgAction.TheVariants.{SetTrue}
pub use Rattle.clap.specs.declared.builder.arg.Arg.{Arg}
pub use Rattle.clap.specs.declared.builder.command.Command.{Command}
pub use Rattle.clap.specs.declared.builder.value_parser.ValueParser.{ValueParser}
pub use Rattle.clap.specs.declared.builder.value_parser.ValueParser.TheVariants.{Names, Unsigned}
pub use Rattle.clap.specs.declared.error.Error.{Error}
pub use Rattle.clap.specs.declared.error.kind.ErrorKind.{ErrorKind}
pub use Rattle.clap.specs.declared.error.kind.ErrorKind.TheVariants.{ArgumentConflict, DisplayHelp, DisplayVersion, OutOfMemory}
pub use Rattle.clap.specs.declared.parser.matches.Found.{Found}
pub use Rattle.std.proofs.Common.{[], ap, ap₂, arith, Bool, codes, Err, false, inl, inr, length, List, map, None, Ok, Option, refl, Result, rules, Some, subst, sym, take, true, ℕ, ◌++◌, ◌<◌, ◌^◌, ◌∙◌, ◌∷◌, ◌≡◌, ◌≤◌}
pub use Rattle.std.proofs.Math.Bridge.{le_prop}
pub use Rattle.std.proofs.lemmas.Result.{IfOk-weaker, MatchResult-weaker}
pub use Rattle.std.proofs.lemmas.Slice.Eq.{bytes_eq-Decides}
pub use Rattle.std.specs.Borrow.{Bor}
pub use Rattle.std.specs.List.{remove}
pub use Rattle.std.specs.Prelude.{IfErr, IfOk, IsErrAnd, IsOkAnd, option_and_then, option_map, unwrap_or, ◌≢◌}
pub use Rattle.std.specs.Str.{bytes_eq}
pub use Rattle.std.specs.Str.Parse.{digits_value, false_text, ParsesBool, true_text, without_leading_plus}
pub use Rattle.std.specs.declared.alloc.AllocError.{AllocError}
pub use Rattle.tmw_args.specs.OptionNumbers.{Count, counted, made_if}
pub use Rattle.tmw_args.specs.CriteriaAndMemories.{named}
pub use Rattle.tmw_args.specs.Grammar.{criteria_names, IsProgram, memory_names, program_among, shown_names, with_before, with_bounds, with_counts, with_criterion, with_flag, with_memory, with_run_flags}
pub use Rattle.tmw_args.specs.ReadWords.{FailsAs, IsRefusal, Reads}
pub use Rattle.tmw_args.specs.CommandOrder.{bounds_in, bounds_of, count_in, flag_in, help_as_flag, kinds_of, names_help, order_in, settings_of, ◌>>=◌}
pub use Rattle.tmw_args.specs.declared.refusal.Refusal.{Refusal}
pub use Rattle.tmw_args.specs.declared.refusal.Refusal.TheVariants.{Help, Memory, Usage, Version}
pub use Rattle.tmw_options.specs.declared.bench_settings.Settings.{Settings}
pub use Rattle.tmw_options.specs.declared.bounds.Bounds.{Bounds}
