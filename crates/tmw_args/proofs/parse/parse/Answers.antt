-- The program parses the words with `help` spelled as a flag. Without memory for the program any program refuses them.
use Rattle.tmw_args.proofs.Shared.{ap, app_of, IfOk-weaker, map, MatchResult-weaker, texts, ◌∙◌}
use Rattle.tmw_args.proofs.Sample.{without_memory}
use Rattle.tmw_args.proofs.parse.parse.Goals as goal

pub returns-clause-order : goal.returns-clause-order
returns-clause-order g c =
    IfOk-weaker c.parse_by.result _ _
    (λ order asks.
    (app_of c.in_ok-program.program, c.in_ok-program.ensures, asks (map g.S.AsStr.text c.args.words.now) (ap texts c.deref.ensures.value ∙ c.in_ok-spelled.ensures)))
    c.parse_by.ensures.order

pub returns-clause-refused : goal.returns-clause-refused
returns-clause-refused g c =
    MatchResult-weaker c.parse_by.result c.parse_by.ensures.refused (λ order holds. holds)
    (λ error fails.
    (app_of c.in_ok-program.program, c.in_ok-program.ensures, fails (map g.S.AsStr.text c.args.words.now) (ap texts c.deref.ensures.value ∙ c.in_ok-spelled.ensures)))

pub returns-in_err-spelled-clause-refused : goal.returns-in_err-spelled-clause-refused
returns-in_err-spelled-clause-refused g c = without_memory c.from_residual.result (map g.S.AsStr.text c.args.words.now) c.from_residual.ensures.1

pub returns-in_err-program-clause-refused : goal.returns-in_err-program-clause-refused
returns-in_err-program-clause-refused g c =
    without_memory c.from_residual-in_err-program.result (map g.S.AsStr.text c.args.words.now) c.from_residual-in_err-program.ensures.1
