-- It is a run with no option.
use Rattle.tmw_streams.specs.BoundedSink.{to_bounded}
use Rattle.tmw_judge.proofs.Plain.{judges_plain}
use Rattle.tmw_judge.proofs.judge_command.run_judge.Goals as goal

pub returns : goal.returns
returns g c =
    judges_plain g.S.Source.from g.K.Sink.to to_bounded c.args.bounds c.args.asked c.args.source.now c.run_judge_with.new.source c.args.sink.now
    c.run_judge_with.new.sink _ _ c.run_judge_with.result
    (rw c.plain-options.ensures at c.run_judge_with.ensures)
