use Rattle.tmw_witness.proofs.Shared.{inl, sym, ◌∙◌}
use Rattle.tmw_witness.proofs.WitnessChanges.{left_out-kept}
use Rattle.tmw_witness.proofs.witness.Witness.abort.Goals as goal

pub returns-else-is_held : goal.returns-else-is_held
returns-else-is_held c = λ starts xs ys x y turns same may was.
    left_out-kept starts xs ys x y c.args.self.now c.args.place.number turns (sym c.is_held.ensures ∙ c.if-is_held.false) (inl may)
    (λ reads. rw same reads) was
