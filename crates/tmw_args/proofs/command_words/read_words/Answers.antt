-- What the error tells is a reading of the words.
use Rattle.tmw_args.proofs.Shared.{kind_of, map}
use Rattle.tmw_args.proofs.Refusals.{refused-reads}
use Rattle.tmw_args.proofs.command_words.read_words.Goals as goal

pub returns-in-Err : goal.returns-in-Err
returns-in-Err g c =
    let (program, is, fails) = c.in-Err.ensures.refused in
    record {
      program = program;
      is = is;
      reads = refused-reads program (map g.S.AsStr.text c.args.words.now) (kind_of c.in-Err.error) c.refusal_of.result fails c.refusal_of.ensures;
    }
