-- Each command is added behind those that are there.
use Rattle.tmw_args.proofs.Shared.{ap, App, criteria_names, IfOk-weaker, memory_names, refl, rules, shown_names, texts, ◌≡◌}
use Rattle.tmw_args.proofs.Commands.{app_of-added, app_of-with_command}
use Rattle.tmw_args.proofs.grammar.new_program.Goals as goal

pub returns : goal.returns
returns c =
    let judging = app_of-with_command _ _ _ _ _ c.bare_program.ensures c.new_judge.ensures refl c.in_ok-judging.ensures in
    let showing = app_of-with_command _ _ _ _ _ judging c.new_show.ensures refl c.in_ok-showing.ensures in
    let driving = app_of-with_command _ _ _ _ _ showing c.new_drive.ensures refl c.in_ok-driving.ensures in
    let benching = app_of-with_command _ _ _ _ _ driving c.new_bench.ensures refl c.in_ok-benching.ensures in
    let criteria_are : texts c.as_slice.result.now ≡ criteria_names = search rules in
    let shown_are : texts c.as_slice-2.result.now ≡ shown_names = search rules in
    let memories_are : texts c.as_slice-memories.result.now ≡ memory_names = search rules in
    IfOk-weaker c.subcommand.result _ _
    (λ command added. record {
      criteria = c.as_slice.result;
      shown = c.as_slice-2.result;
      memories = c.as_slice-memories.result;
      criteria_are = criteria_are;
      shown_are = shown_are;
      memories_are = memories_are;
      is = app_of-added _ _ _ _ _ benching (ap (λ (app : App). app.top) c.new_steps.ensures) refl added;
    })
    c.subcommand.ensures
