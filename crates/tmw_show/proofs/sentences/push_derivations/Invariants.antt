use Rattle.tmw_show.proofs.Shared.{derivation_text, flat_map, members, take, ◌++◌, ◌≡◌}
use Rattle.tmw_show.proofs.sentences.push_derivations.Given as goal

abbrev pub invariant-loop-derivation : goal.invariant-loop-derivation
invariant-loop-derivation l =
    l.text.items
    ≡ l.initial.text.items ++ flat_map (derivation_text l.frame l.values l.before (members l.showing.states) l.showing.events.items l.case) (take l.derivation-index l.derivation-items)
