-- An event that is refused makes the history ill-formed, one that begins one transaction too many makes the window too wide, and else
-- what is found of the window tells the verdict.
use Rattle.tmw_monitor.proofs.Shared.{Begin, Contains, Event, Follows, HistoryDigest, IsNext, Keeps, List, Registers, Rules, ap, arith, begun_by, drop, formed-next, grows, length, members, refl, sym, transactions, verdict-malformed, verdict-wide, ◌∙◌, ◌≡◌}
use Rattle.tmw_monitor.proofs.FirstBroken.{broken-here}
use Rattle.tmw_monitor.proofs.OpenWindow.{follows_whole, formed_whole, narrow-push}
use Rattle.tmw_monitor.proofs.SoFar.{so_far-apart}
use Rattle.tmw_monitor.proofs.NextVerdict.{follows-told, follows-found}
use Rattle.tmw_monitor.proofs.next_wrong.next_wrong.Goals.{else-begins-via-then-begins+else-count-bounds, else-begins-via-else-begins}
use Rattle.tmw_monitor.proofs.next_wrong.next_wrong.Goals as goal

-- the window follows the history before the event
follows-kept : (rules : Rules) (history : List Event) (kept : HistoryDigest) → Keeps rules history kept → Follows rules.registers history kept.window
follows-kept rules history kept keeps =
    follows_whole rules (Contains (members kept.states)) keeps.cut history kept.window keeps.sums_up keeps.number keeps.stands

pub returns-in-Err-clause-tells : goal.returns-in-Err-clause-tells
returns-in-Err-clause-tells c rules history criterion window states at keeps =
    let S = Contains (members c.args.kept.now.states) in
    let refused = c.in-Err.ensures.err rules.registers history (follows-kept rules history c.args.kept.now keeps) in (
      rw at (verdict-malformed rules S keeps.cut history c.args.event keeps.sums_up refused.ill_formed),
      so_far-apart rules.criterion _ (λ is. cc) (λ is. cc),
    )

pub returns-in-Err-clause-breaks : goal.returns-in-Err-clause-breaks
returns-in-Err-clause-breaks c rules history criterion window states at none keeps =
    let follows = follows-kept rules history c.args.kept.now keeps in
    broken-here rules.registers history c.args.event c.args.at c.in-Err.rule c.args.kept.now.window at follows
    (c.in-Err.ensures.err rules.registers history follows)

pub returns-then-count-bounds-clause-tells : goal.returns-then-count-bounds-clause-tells
returns-then-count-bounds-clause-tells c rules history criterion window states at keeps =
    let old = c.args.kept.now in
    let S = Contains (members old.states) in
    let e = c.args.event in
    let rest = drop keeps.cut history in
    let next : IsNext old.window e Begin = rw (c.begins.ensures.begins c.if-begins.true) at c.in-Ok.ensures.ok in
    let formed = formed_whole rules S keeps.cut history e keeps.sums_up
    (rw keeps.number at (formed-next rest e old.window Begin keeps.stands next)) in
    let count : c.count.result ≡ length (transactions rest) = c.count.ensures.stands rest keeps.stands in
    let full = c.if-count-bounds.true in
    let more = grows rest e old.window Begin keeps.stands next in (
      rw at (verdict-wide rules S keeps.cut history e keeps.sums_up formed (omega (arith, count, full, window, more))),
      so_far-apart rules.criterion _ (λ is. cc) (λ is. cc),
    )

pub returns-then-count-bounds-clause-breaks : goal.returns-then-count-bounds-clause-breaks
returns-then-count-bounds-clause-breaks c rules history criterion window states at none keeps =
    c.follow.ensures.tells rules.registers history at
    (rw none (follows-kept rules history c.args.kept.now keeps))

pub returns-clause-tells : goal.returns-clause-tells
returns-clause-tells c rules history criterion window states at keeps =
    let old = c.args.kept.now in
    let S = Contains (members old.states) in
    let e = c.args.event in
    let step = c.in-Ok.step in
    let rest = drop keeps.cut history in
    let next : IsNext old.window e step = c.in-Ok.ensures.ok in
    let formed = formed_whole rules S keeps.cut history e keeps.sums_up
    (rw keeps.number at (formed-next rest e old.window step keeps.stands next)) in
    let number = ap (λ (r : Registers). r.number) c.take_event.ensures.registers ∙ keeps.number in
    let narrow = narrow-push rules S keeps.cut history e step keeps.sums_up (grows rest e old.window step keeps.stands next)
    (λ begins. elim c.else-begins.branch [
      | else-begins-via-then-begins+else-count-bounds w ↦
          let count : w.count.result ≡ length (transactions rest) = w.count.ensures.stands rest keeps.stands in
          let free = w.if-count-bounds.false in
          omega (arith, count, free, window)
      | else-begins-via-else-begins w ↦
          let one = c.begins.ensures.others w.if-begins.false in
          let bad : 1 ≡ 0 = sym (ap begun_by begins) ∙ one in
          absurd (omega (arith, bad))
    ]) in
    let told = rw criterion at (c.take_event.ensures.tells rest keeps.stands next keeps.witness) in
    rw c.wrong.ensures (follows-told rules history e old keeps c.args.at c.args.bounds.states _
    c.take_event.new.kept c.take_event.result at states formed number narrow refl told)

pub returns-clause-breaks : goal.returns-clause-breaks
returns-clause-breaks c rules history criterion window states at none keeps =
    let old = c.args.kept.now in
    let S = Contains (members old.states) in
    let e = c.args.event in
    let step = c.in-Ok.step in
    let rest = drop keeps.cut history in
    let next : IsNext old.window e step = c.in-Ok.ensures.ok in
    let formed = formed_whole rules S keeps.cut history e keeps.sums_up
    (rw keeps.number at (formed-next rest e old.window step keeps.stands next)) in
    let number = ap (λ (r : Registers). r.number) c.take_event.ensures.registers ∙ keeps.number in
    let told = rw criterion at (c.take_event.ensures.tells rest keeps.stands next keeps.witness) in
    rw none (follows-found rules history e old keeps c.args.bounds.states _ c.take_event.new.kept c.take_event.result formed number told)
