-- An end that the order explains leaves the history fine; at a cut, where one end is forced, the order leads to the only outcome.
use Rattle.tmw_monitor.proofs.Shared.{End, [], arith, contains_here, drop, formed-next, inr, members, refl, state_of, sym, true, views_of, ◌++◌, ◌∙◌, ◌∷◌, ◌≡◌}
use Rattle.tmw_monitor.proofs.AtOnce.{explained, keeps-order, open-fine, last-fine}
use Rattle.tmw_search.specs.OneEnd.{AreForced}
use Rattle.tmw_search.proofs.OneEnd.{forced-next}
use Rattle.tmw_witness.proofs.OneEventMore.{views-turned}
use Rattle.tmw_monitor.proofs.take_at_once.end_at_once.Goals as goal

pub returns-then-not-explains_end-clause-left : goal.returns-then-not-explains_end-clause-left
returns-then-not-explains_end-clause-left c = λ none rules history keeps.
    keeps-order rules history c.args.kept.now _ keeps refl refl
    (c.hold_pending.ensures.stands (members c.args.kept.now.states) (drop keeps.cut history) keeps.stands c.requires.next keeps.witness)

pub returns-then-not-has_one_end-clause-left : goal.returns-then-not-has_one_end-clause-left
returns-then-not-has_one_end-clause-left c = λ none rules history keeps.
    keeps-order rules history c.args.kept.now _ keeps refl refl
    (c.hold_pending.ensures.stands (members c.args.kept.now.states) (drop keeps.cut history) keeps.stands c.requires.next keeps.witness)

pub returns-then-len-ne1-clause-left : goal.returns-then-len-ne1-clause-left
returns-then-len-ne1-clause-left c = λ none rules history keeps.
    keeps-order rules history c.args.kept.now _ keeps refl refl
    (c.hold_pending.ensures.stands (members c.args.kept.now.states) (drop keeps.cut history) keeps.stands c.requires.next keeps.witness)

pub returns-then-not-is_cut_with-clause-taken : goal.returns-then-not-is_cut_with-clause-taken
returns-then-not-is_cut_with-clause-taken c took bounds rules history window states keeps =
    let old = c.args.kept.now in
    let starts = members old.states in
    let e = c.args.event in
    let rest = drop keeps.cut history in
    let fits = c.if-not-explains_end.false in
    let next = c.requires.next in
    let witness = c.explains_end.ensures.stands fits starts rest keeps.stands next (c.hold_pending.ensures.stands starts rest keeps.stands next keeps.witness) in
    open-fine rules history e old _ keeps (End c.args.place) next (c.end.ensures.stands rest keeps.stands next) c.end.ensures.registers
    (sym (c.is_cut_with.ensures rest e keeps.stands next) ∙ c.if-not-is_cut_with.true) (λ begins. absurd (cc))
    (inr (_, explained rules.criterion old.states (rest ++ e ∷ []) c.hold_pending.new.self (c.explains_end.ensures.known fits) witness)) refl witness

pub returns-clause-taken : goal.returns-clause-taken
returns-clause-taken c took bounds rules history window states keeps =
    let old = c.args.kept.now in
    let w = c.hold_pending.new.self in
    let starts = members old.states in
    let e = c.args.event in
    let rest = drop keeps.cut history in
    let fits = c.if-not-explains_end.false in
    let next = c.requires.next in
    let witness = c.explains_end.ensures.stands fits starts rest keeps.stands next (c.hold_pending.ensures.stands starts rest keeps.stands next keeps.witness) in
    let shown = c.in-Some.ensures.shown in
    let only : members c.put_only.new.self ≡ state_of w w.top ∷ [] = rw (← shown.2) c.put_only.ensures.members in
    let positive = bounds.some_states in
    let with : c.has_one_end.result ≡ true = grind (arith, c.if-not-has_one_end.false) in
    let forced : AreForced (views_of (rest ++ e ∷ [])) =
    rw (views-turned rest e old.window (End c.args.place) c.args.place keeps.stands next refl)
    (forced-next (views_of rest) c.args.place.number e.kind
    (c.has_one_end.ensures with rest keeps.stands)) in
    let at_cut = sym (c.is_cut_with.ensures rest e keeps.stands next) ∙ c.if-not-is_cut_with.false in
    last-fine rules history e old _ keeps c.args.place (state_of w w.top) next
    (rw keeps.number at (formed-next rest e old.window (End c.args.place) keeps.stands next))
    at_cut (c.clear.ensures.registers ∙ c.end-2.ensures.registers)
    (omega (arith, positive, states)) forced
    (sym c.len.ensures ∙ c.if-len-ne1.false)
    (explained rules.criterion old.states (rest ++ e ∷ []) w (c.explains_end.ensures.known fits) witness) only
    (c.clear.ensures.stands (rest ++ e ∷ []) (c.end-2.ensures.stands rest keeps.stands next) at_cut)
    (c.restart_at_end.ensures.witnesses (members c.put_only.new.self) (rw only (contains_here (state_of w w.top) [])))

pub returns-in_default-clause-left : goal.returns-in_default-clause-left
returns-in_default-clause-left c = λ none rules history keeps.
    keeps-order rules history c.args.kept.now _ keeps refl refl
    (c.hold_pending.ensures.stands (members c.args.kept.now.states) (drop keeps.cut history) keeps.stands c.requires.next keeps.witness)
