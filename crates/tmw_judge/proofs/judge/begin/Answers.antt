-- A trace is begun where its first line is read, and nothing is counted yet.
use Rattle.tmw_judge.proofs.Shared.{inr, refl}
use Rattle.tmw_judge.proofs.CountedPart.{judged-nothing}
use Rattle.tmw_judge.proofs.judge.begin.Goals as goal

pub returns-clause-begins : goal.returns-clause-begins
returns-clause-begins g c =
    let read = c.in-Ok.ensures.header in record {
      bytes = read.0;
      told = read.1;
      is = (
        c.in-Ok.header,
        read.2,
        judged-nothing g.C.Tally.counts c.in-Ok.header c.args.bounds c.args.asked _ c.in-Ok-monitors_for.ensures c.begin.ensures,
      );
    }

pub returns-in_default-clause-begins : goal.returns-in_default-clause-begins
returns-in_default-clause-begins g c =
    let read = c.in-Ok.ensures.header in
    record { bytes = read.0; told = read.1; is = inr (refl, c.in-Ok.header, read.2) }
