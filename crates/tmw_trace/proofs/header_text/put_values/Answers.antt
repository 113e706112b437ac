-- A value came after all the values before it.
use Rattle.tmw_trace.proofs.Shared.{List, Puts, Puts-front, Puts-more, decimal, drop, get_or, refl, subst, sym, take, values_text, ℕ, ◌++◌, ◌+◌, ◌∷◌}
use Rattle.tmw_streams.proofs.FlatMaps.{flat_map-split}
use Rattle.tmw_trace.proofs.header_text.put_values.Goals as goal

pub returns-in_err-put_with_number : goal.returns-in_err-put_with_number
returns-in_err-put_with_number g c =
    let values = c.args.values.now in
    let i = c.loop-value.value-index in
    let value = get_or values i 0 in
    let rest = values_text (drop (i + 1) values) in
    let result = c.from_residual.result in
    let P : List ℕ → Type 0 = λ xs. Puts g.K.Sink.to c.args.sink.now xs c.put_with_number.new.sink result in
    subst P (sym (flat_map-split (λ v. 32 ∷ decimal v) values i value 0 refl c.loop-value-test.true))
    (Puts-more g.K.Sink.to c.args.sink.now c.loop-value.sink (values_text (take i values)) ((32 ∷ decimal value) ++ rest)
    c.put_with_number.new.sink result c.loop-value.invariant
    (Puts-front g.K.Sink.to c.loop-value.sink c.put_with_number.new.sink (32 ∷ decimal value) rest result
    c.from_residual.ensures.0 c.in_err-put_with_number.ensures))
