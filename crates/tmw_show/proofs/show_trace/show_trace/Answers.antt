-- What was told is the first line and what was read behind it.
use Rattle.tmw_show.proofs.Shared.{[], refl, rules_for, trace_grammar, ◌++◌, ◌∷◌}
use Rattle.tmw_lines.specs.declared.text_fault.TextFault.TheVariants.{Memory}
use Rattle.tmw_lines.proofs.LinesRead.{text_fault-behind}
use Rattle.tmw_lines.proofs.TextsRead.{soon-behind, text_fault-first}
use Rattle.tmw_streams.proofs.Transfers.{Tells-more}
use Rattle.tmw_report.proofs.Quotes.{quoted-behind, quoted-first}
use Rattle.tmw_show.proofs.ShowAnswers.{explained-answers, explained-remarks}
use Rattle.tmw_show.proofs.show_trace.show_trace.Goals as goal

pub returns-in_default-clause-right : goal.returns-in_default-clause-right
returns-in_default-clause-right g c =
    let first = c.in-Ok.ensures.header in
    (first.0, first.1, (Memory, refl, soon-behind trace_grammar c.header.new.self c.in-Ok.header [] first.0 first.2), refl)

pub returns-in-Err-clause-right : goal.returns-in-Err-clause-right
returns-in-Err-clause-right g c =
    let first = c.in-Err.ensures.fault in
    rw c.quote_fault.ensures.fault (
      first.0,
      first.1,
      (c.in-Err.fault, refl, text_fault-first trace_grammar (g.S.Source.from.ended c.header.new.source) first.0 c.in-Err.fault first.2),
      quoted-first g.E.Sink.to (g.S.Source.from.ended c.header.new.source) c.header.new.self first.0 c.args.errors.now
          c.quote_fault.new.errors c.in-Err.fault first.2 first.3 c.quote_fault.ensures.told,
    )

pub returns-in-Ok-Stop-clause-right : goal.returns-in-Ok-Stop-clause-right
returns-in-Ok-Stop-clause-right g c =
    let first = c.in-Ok.ensures.header in
    let all = rw c.in-Ok-Stop.field-0-is at c.in-Ok-Stop.ensures.gives in
    let bytes = first.0 ++ all.bytes in (
      bytes,
      Tells-more g.S.Source.from c.args.source.now c.header.new.source c.give_items.new.source first.0 all.bytes first.1 all.told,
      (
        Memory,
        refl,
        soon-behind trace_grammar c.give_items.new.lines c.in-Ok.header (all.items ++ all.given.last ∷ []) bytes
            (all.given.read c.in-Ok.header [] first.0 first.2),
      ),
      refl,
    )

pub returns-in-Ok-End-clause-right : goal.returns-in-Ok-End-clause-right
returns-in-Ok-End-clause-right g c =
    let first = c.in-Ok.ensures.header in
    let all = rw c.in-Ok-End.field-0-is at c.in-Ok-End.ensures.gives in
    let header = c.in-Ok.header in
    let end = all.given.0 header [] first.0 first.2 in
    let judged_by = rules_for c.args.options.criterion header.registers header.initial c.args.options.bounds in
    let watches = all.given.1 judged_by [] c.in-Ok-new.ensures in (
      first.0 ++ all.bytes,
      Tells-more g.S.Source.from c.args.source.now c.header.new.source c.give_items.new.source first.0 all.bytes first.1 all.told,
      explained-answers c.args.options (g.S.Source.from.ended c.give_items.new.source) (first.0 ++ all.bytes) header all.items c.finish.result
          c.explained.result end.ended end.are_lines end.text (c.finish.ensures judged_by all.items watches) c.explained.ensures.shown
          c.explained.ensures.memory,
      explained-remarks g.E.Sink.to (first.0 ++ all.bytes) c.explained.result c.args.errors.now c.explained.ensures.memory,
    )

pub returns-in-Err-give_items-clause-right : goal.returns-in-Err-give_items-clause-right
returns-in-Err-give_items-clause-right g c =
    let first = c.in-Ok.ensures.header in
    let all = c.in-Err-give_items.ensures.gives in
    let Ended = g.S.Source.from.ended c.give_items.new.source in
    let bytes = first.0 ++ all.bytes in
    let read = all.given.0 c.in-Ok.header [] first.0 first.2 in
    rw c.quote_fault-in-Err-give_items.ensures.fault (
      bytes,
      Tells-more g.S.Source.from c.args.source.now c.header.new.source c.give_items.new.source first.0 all.bytes first.1 all.told,
      (
        c.in-Err-give_items.fault,
        refl,
        text_fault-behind trace_grammar Ended c.in-Ok.header all.items bytes c.in-Err-give_items.fault read.fails,
      ),
      quoted-behind g.E.Sink.to Ended c.give_items.new.lines bytes c.args.errors.now c.quote_fault-in-Err-give_items.new.errors c.in-Ok.header
          all.items c.in-Err-give_items.fault read c.quote_fault-in-Err-give_items.ensures.told,
    )
