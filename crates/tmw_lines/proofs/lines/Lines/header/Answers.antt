use Rattle.tmw_lines.proofs.Shared.{refl}
use Rattle.tmw_lines.proofs.LinesRead.{HasRead-first}
use Rattle.tmw_lines.proofs.lines.Lines.header.Goals as goal

pub returns-in-Ok-clause-header : goal.returns-in-Ok-clause-header
returns-in-Ok-clause-header g c =
    let read = c.in-Ok.ensures.reads in (
      read.bytes,
      read.told,
      HasRead-first g.F.LineFormat.grammar _ c.in-Ok.header _ read.bytes refl c.behind-self.ensures c.requires.none
          c.requires.nothing read.is.1 read.is.0,
    )
