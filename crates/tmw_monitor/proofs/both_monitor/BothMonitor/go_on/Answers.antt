-- What is fine by opacity is fine by strict serializability. Where it is not, the one has its verdict, and the other is searched.
use Rattle.tmw_monitor.proofs.Shared.{Fits, Opacity, Strict, ap, arith, by, length, not, refl, so_far, strict_in, true, ◌+◌, ◌∙◌, ◌≡◌}
use Rattle.tmw_monitor.proofs.BothKeep.{keeps-one, keeps-strictly}
use Rattle.tmw_monitor.proofs.BothOpen.{both-on, next-told, outcome-of, stands-wrong, strictly-told}
use Rattle.tmw_monitor.proofs.FeedOpen.{concluded}
use Rattle.tmw_monitor.proofs.both_monitor.BothMonitor.go_on.Goals as goal

pub returns-then-is_none : goal.returns-then-is_none
returns-then-is_none c rules history fits =
    both-on rules history c.args.event c.args.self.now c.take_open-found.new.kept c.args.step c.take_open-found.result fits c.requires.shared
    c.requires.next c.requires.room c.requires.uncut c.take_open-found.ensures.registers c.take_open-found.ensures.tells
    (outcome-of _ _ (rw c.wrong-wrong.ensures at (c.is_none.ensures ∙ ap not c.if-is_none.true)))

pub returns : goal.returns
returns c rules history fits =
    let old = c.args.self.now in
    let e = c.args.event in
    let most = old.opacity.bounds.most_states in
    let bound = fits.opacity.states in
    let at : old.opacity.count + 1 ≡ length history + 1 = (let n = fits.opacity.counted in omega (arith, n)) in
    let fine = fits.fine c.requires.shared in
    let strict : Fits (by Strict rules) history (strict_in true old.opacity old.strict) = rw c.requires.shared at fits.strict in
    let open_one : old.strict.verdict ≡ so_far old.strict.criterion = rw c.requires.shared at fine.1 in
    let searched = rw c.part.ensures.strict at c.search-found.ensures in
    let one = next-told (by Opacity rules) history e old.opacity.kept c.take_open-found.new.kept (keeps-one rules history old fits c.requires.shared)
    old.opacity.bounds.window c.args.step c.take_open-found.result fits.opacity.window c.requires.next c.requires.room c.take_open-found.ensures.registers
    (c.take_open-found.ensures.tells rules.states) in
    let other = strictly-told rules history e old.opacity.kept c.take_open-found.new.kept c.part.ensures.kept c.search-found.new.kept
    (keeps-strictly rules history old fits c.requires.shared) old.opacity.bounds.window c.args.step c.search-found.result
    (omega (arith, most, bound)) fits.opacity.window c.requires.next c.requires.room c.requires.uncut
    (λ events stands was. stands-wrong _ _ _ _ _ _ _ _ (c.take_open-found.ensures.tells 0 events stands c.requires.next was)
    (rw c.wrong-wrong.ensures at (c.is_none.ensures ∙ ap not c.if-is_none.false)))
    c.take_open-found.ensures.states c.take_open-found.ensures.registers c.part.ensures.copy searched.registers
    (λ cap quiet events stands uncut. searched.tells cap quiet events stands uncut (λ known. absurd (let none = c.forget.ensures in cc))) in
    rw c.part.ensures.shared (record {
      opacity = concluded (by Opacity rules) history e old.opacity c.conclude.new.self c.take_open-found.new.kept old.opacity.broken c.wrong-wrong.result
          fits.opacity fine.0 (rw (c.wrong-wrong.ensures, at) one.0) (rw (fits.opacity.whole fine.0) one.1) (λ none. refl) (rw c.part.ensures.opacity at c.conclude.ensures);
      strict = concluded (by Strict rules) history e (strict_in true old.opacity old.strict) c.conclude-2.new.self c.search-found.new.kept
          old.strict.broken c.wrong.result strict open_one (rw (c.wrong.ensures, at) other.0) (rw (strict.whole open_one) other.1) (λ none. refl) (rw c.part.ensures.strict at c.conclude-2.ensures);
      fine = λ is. absurd (cc);
    })
