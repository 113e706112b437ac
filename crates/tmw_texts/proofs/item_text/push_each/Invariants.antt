use Rattle.std.specs.List.{flat_map}
use Rattle.std.specs.Prelude.{take}
use Rattle.std.proofs.Common.{◌++◌, ◌≡◌}
use Rattle.tmw_texts.proofs.item_text.push_each.Given as goal

abbrev pub invariant-loop-item : goal.invariant-loop-item
invariant-loop-item g l = l.text.items ≡ l.fn.text.items ++ flat_map (g.P.ItemText.part l.fn.part) (take l.item-index l.items)
