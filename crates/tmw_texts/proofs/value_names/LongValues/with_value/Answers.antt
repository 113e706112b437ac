use Rattle.tmw_texts.proofs.Places.{places-push}
use Rattle.std.proofs.Common.{sym, ◌∙◌}
use Rattle.tmw_texts.proofs.value_names.LongValues.with_value.Goals as goal

pub invariant_of-result : goal.invariant_of-result
invariant_of-result c =
    let updates = rw (c.len.ensures, c.self.inside.values.ok.0) at c.in_ok-insert.ensures.updates in
    let none = rw (← c.self.view_is) at (sym c.has.ensures ∙ c.if-has.false) in
    rw c.in_ok-push.ensures.items
    (places-push c.self.inside.values.items c.self.inside.places c.insert.new.self c.args.value c.self.invariant none updates)
