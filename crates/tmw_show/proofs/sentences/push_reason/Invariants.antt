use Rattle.tmw_show.proofs.Shared.{case_text, flat_map, members, take, ◌++◌, ◌≡◌}
use Rattle.tmw_show.proofs.sentences.push_reason.Given as goal

abbrev pub invariant-loop-case : goal.invariant-loop-case
invariant-loop-case l =
    l.text.items
    ≡ l.initial.text.items ++ flat_map (case_text l.frame l.values l.before (members l.showing.states) l.showing.events.items l.several) (take l.case-index l.case-items)
