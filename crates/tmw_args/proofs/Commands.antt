-- A program with one more command.
use Rattle.tmw_args.proofs.Shared.{AddsSubcommand, AllocError, ap, App, app_of, ap₂, Command, Err, IfOk, IsOkAnd, Ok, plain_fields, Result, Shape, true, with_subcommand, ◌∙◌, ◌≡◌}

-- a command that is plain is added as it stands
pub app_of-added : (program command given : Command) (before : App) (top : Shape) → app_of program ≡ before → (app_of command).top ≡ top
    → top.is_plain ≡ true → AddsSubcommand program command given → app_of given ≡ with_subcommand before top
app_of-added program command given before top starts is plain adds =
    adds.shape (plain_fields command (ap (λ (s : Shape). s.is_plain) is ∙ plain)).globals ∙ ap₂ with_subcommand starts is

-- so is one that there may be no memory for
pub app_of-with_command : (program given : Command) (command : Result Command AllocError) (before named : App) → app_of program ≡ before
    → IfOk command (λ c. app_of c ≡ named) → named.top.is_plain ≡ true → IsOkAnd command (λ c. AddsSubcommand program c given)
    → app_of given ≡ with_subcommand before named.top
app_of-with_command program given (Ok command) before named starts is plain adds =
    app_of-added program command given before named.top starts (ap (λ (app : App). app.top) is) plain adds
app_of-with_command program given (Err _) before named starts is plain adds = elim adds [ ]
