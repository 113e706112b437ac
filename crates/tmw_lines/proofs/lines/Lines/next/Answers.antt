use Rattle.tmw_lines.proofs.Shared.{Tells-none, [], arith, refl}
use Rattle.tmw_lines.proofs.LinesRead.{HasRead-push, text_fault-line}
use Rattle.tmw_lines.proofs.lines.Lines.next.Goals as goal

pub returns-in-Ok-Some-clause-reads : goal.returns-in-Ok-Some-clause-reads
returns-in-Ok-Some-clause-reads g c =
    let line = rw c.in-Ok-Some.field-0-is at c.in-Ok-Some.ensures.reads in record {
      bytes = line.bytes;
      told = line.told;
      is = HasRead-push g.F.LineFormat.grammar c.args.self.now _ line.bytes c.in-Ok-Some.item refl refl refl line.is.1;
    }

pub returns-in-Err-clause-reads : goal.returns-in-Err-clause-reads
returns-in-Err-clause-reads g c =
    let line = c.in-Err.ensures.reads in record {
      bytes = line.bytes;
      told = line.told;
      is = (λ reading. (line.is.0, line.is.1, refl), grind (arith, text_fault-line), refl);
    }

pub returns-in-Failed-clause-reads : goal.returns-in-Failed-clause-reads
returns-in-Failed-clause-reads g c = record { bytes = []; told = Tells-none g.S.Source.from c.args.source.now; is = grind arith }
