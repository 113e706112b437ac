use Rattle.tmw_reason.proofs.Shared.{ap, begins_before, has_writer, is_before, ◌&&◌, ◌∙◌}
use Rattle.tmw_reason.proofs.step_rules.follows.Goals as goal

pub returns-then-is_known_rival : goal.returns-then-is_known_rival
returns-then-is_known_rival c =
    let source = c.in-ReadFirst.source in
    let rival = c.in-ReadFirst.rival in
    rw c.in-ReadFirst.is (c.begins_before.ensures ∙ ap (λ x. x && begins_before c.args.steps.now source.writer rival) c.if-is_known_rival.ensures)

pub returns-else-is_known_rival : goal.returns-else-is_known_rival
returns-else-is_known_rival c =
    let source = c.in-ReadFirst.source in
    let rival = c.in-ReadFirst.rival in
    rw c.in-ReadFirst.is (c.if-is_known_rival.false ∙ ap (λ x. x && begins_before c.args.steps.now source.writer rival) c.if-is_known_rival.ensures)

pub returns-else-is_known_rival-2 : goal.returns-else-is_known_rival-2
returns-else-is_known_rival-2 c =
    let source = c.in-ChangedFirst.source in
    let rival = c.in-ChangedFirst.rival in
    rw c.in-ChangedFirst.is (c.if-is_known_rival-2.false
    ∙ ap (λ x. x && (has_writer source && is_before c.args.steps.now rival source.reader)) c.if-is_known_rival-2.ensures)

pub returns-in-Overwritten : goal.returns-in-Overwritten
returns-in-Overwritten c = rw c.in-Overwritten.is c.is_overwritten.ensures

pub returns-then-is_known_rival-2 : goal.returns-then-is_known_rival-2
returns-then-is_known_rival-2 c =
    let source = c.in-ChangedFirst.source in
    let rival = c.in-ChangedFirst.rival in
    rw c.in-ChangedFirst.is (c.is_late.ensures
    ∙ ap (λ x. x && (has_writer source && is_before c.args.steps.now rival source.reader)) c.if-is_known_rival-2.ensures)
