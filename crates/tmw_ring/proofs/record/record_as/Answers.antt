use Rattle.tmw_ring.proofs.Shared.{HasRecorded, Kind, RingIs, RingSize, ap, arith, false, is_full, is_spent, subst, sym, writer_in, writer_is, ◌∙◌, ◌≡◌}
use Rattle.tmw_ring.proofs.RecordSteps.{looks, looks-recorded}
use Rattle.tmw_ring.proofs.record.record_as.Goals as goal

pub returns-then-is_spent-clause-err : goal.returns-then-is_spent-clause-err
returns-then-is_spent-clause-err g c =
    let looked =
    looks g.C.Choice.kind c.see_front-front.result c.see_tail-tail.result c.args.seat.now.me c.see_front-front.new.seat.me
    c.see_tail-tail.new.seat.me c.see_front-front.ensures.seen c.see_tail-tail.ensures.seen in grind arith

pub returns-then-is_full-clause-err : goal.returns-then-is_full-clause-err
returns-then-is_full-clause-err g c =
    let looked =
    looks g.C.Choice.kind c.see_front-front.result c.see_tail-tail.result c.args.seat.now.me c.see_front-front.new.seat.me
    c.see_tail-tail.new.seat.me c.see_front-front.ensures.seen c.see_tail-tail.ensures.seen in grind arith

pub returns-clause-ok : goal.returns-clause-ok
returns-clause-ok g c =
    let old = writer_in c.args.seat.now.me.0 in
    let front = c.see_front-front.result in
    let tail = c.see_tail-tail.result in
    let place = c.claim-place.result in
    let sizes : c.ring.inside.size ≡ old.size = ap (λ (ring : RingIs). ring.size) c.ring.view_is ∙ sym c.requires.writer.sized in
    let looked =
    looks g.C.Choice.kind front tail c.args.seat.now.me c.see_front-front.new.seat.me c.see_tail-tail.new.seat.me
    c.see_front-front.ensures.seen c.see_tail-tail.ensures.seen in
    let spent : is_spent old.size tail ≡ false =
    sym (ap (λ (size : RingSize). is_spent size tail) sizes) ∙ sym c.is_spent.ensures ∙ c.if-is_spent.false in
    let full : is_full old.size front tail ≡ false =
    sym (ap (λ (size : RingSize). is_full size front tail) sizes) ∙ sym c.is_full.ensures ∙ c.if-is_full.false in
    subst (λ (kind : Kind). HasRecorded kind place (writer_is c.args.seat.now.table_id old)
    (writer_is c.publish.new.seat.table_id (writer_in c.publish.new.seat.me.0))) (sym c.requires.kind)
    (looks-recorded g.C.Choice.kind front tail place c.args.seat.now.table_id c.publish.new.seat.table_id old c.see_tail-tail.new.seat.me
    c.claim-place.new.seat.me c.fill.new.seat.me c.publish.new.seat.me looked spent full c.claim-place.ensures.claimed
    c.fill.ensures.filled c.publish.ensures.published)
