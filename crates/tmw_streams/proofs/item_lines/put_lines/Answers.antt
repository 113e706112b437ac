-- A beginning of an item's line came after all the lines before it, or a beginning of what was held last.
use Rattle.tmw_streams.proofs.Shared.{[], bounded_bytes, drop, lines_of, List, PassesOn, Puts, subst, sym, take, take_all, ℕ, ◌++◌, ◌+◌, ◌∙◌, ◌∷◌}
use Rattle.tmw_streams.proofs.FlatMaps.{flat_map-take, flat_map-split}
use Rattle.tmw_streams.proofs.PutsOn.{PassesOn-more, Puts-held, Puts-rest}
use Rattle.tmw_streams.proofs.item_lines.put_lines.Goals as goal

pub loop-item-preserved : goal.loop-item-preserved
loop-item-preserved g c =
    let text = g.T.Texts.text in
    let items = c.args.items.now in
    let i = c.loop-item.item-index in
    let item = c.item-item.result in
    let held = bounded_bytes c.pass_line.new.held in
    let P : List ℕ → Type 0 = λ xs. PassesOn g.K.Sink.to c.args.sink.now xs held c.pass_line.new.sink in (
      subst P (flat_map-take (λ item. text item ++ 10 ∷ []) items i item item c.item-item.is c.loop-item-test.true)
          (PassesOn-more g.K.Sink.to c.args.sink.now c.loop-item.sink c.pass_line.new.sink (lines_of text (take i items))
          (bounded_bytes c.loop-item.held) (text item ++ 10 ∷ []) held c.loop-item.invariant.0 c.in_ok-pass_line.ensures.0),
      c.in_ok-pass_line.ensures.1 ∙ c.loop-item.invariant.1,
    )

pub returns-in_err-pass_line : goal.returns-in_err-pass_line
returns-in_err-pass_line g c =
    let text = g.T.Texts.text in
    let items = c.args.items.now in
    let i = c.loop-item.item-index in
    let item = c.item-item.result in
    let P : List ℕ → Type 0 = λ xs. Puts g.K.Sink.to c.args.sink.now xs c.pass_line.new.sink c.from_residual.result in
    subst P (sym (flat_map-split (λ item. text item ++ 10 ∷ []) items i item item c.item-item.is c.loop-item-test.true))
    (Puts-held g.K.Sink.to c.args.sink.now c.loop-item.sink c.pass_line.new.sink (lines_of text (take i items))
    (bounded_bytes c.loop-item.held) (text item ++ 10 ∷ []) (lines_of text (drop (i + 1) items)) c.from_residual.result
    c.from_residual.ensures.0 c.loop-item.invariant c.in_err-pass_line.ensures)

pub returns : goal.returns
returns g c =
    let all = rw (take_all c.loop-item.item-index c.args.items.now c.loop-item-test.false) at c.loop-item.invariant in
    let put = rw c.bytes.ensures at c.put_all.ensures in
    Puts-rest g.K.Sink.to c.args.sink.now c.loop-item.sink c.put_all.new.sink (lines_of g.T.Texts.text c.args.items.now)
    (bounded_bytes c.loop-item.held) c.put_all.result all put
