use Rattle.tmw_drive.proofs.Shared.{AllEnd, AllPlay, Answer, Call, Drives, Event, List, Player, [], ap, are_transactions-workload, arith, drop, length, length-map, script_of, scripts_of, subst, sym, take_at, ℕ, ◌∙◌, ◌≡◌}
use Rattle.tmw_drive.proofs.AllPlayers.{all_play-new}
use Rattle.tmw_drive.proofs.Drives.{is_driven}
use Rattle.tmw_drive.proofs.drive_workload.record.Goals as goal

pub play-requires-clause-all : goal.play-requires-clause-all
play-requires-clause-all g c =
    grind (
      arith,
      scripts_of,
      length,
      length-map,
      script_of,
      all_play-new,
      are_transactions-workload,
    )

pub returns : goal.returns
returns g c =
    let workload = c.args.workload.now in
    let registers = workload.registers.number in
    let scripts = scripts_of workload.scripts.items in
    let order = workload.order.items in
    let players = c.play.new.players in
    let log = c.play.new.log.items in
    let ends = c.in_ok-ends.ends.items in
    let gives : Call → Answer → Type 0 = λ call answer. (goal.Tm-dyn g c.args.memory.now).gives c.args.memory.now.1 call answer in
    let all : AllPlay gives scripts players log
    = subst (λ s. AllPlay gives (scripts_of s) players log) c.deref.ensures.value c.in_ok-play.ensures.all
    in
    let drives : Drives scripts [] order log
    = subst (λ (l : List Event). Drives scripts l order log) c.new-log.ensures.items
    (subst (λ s. Drives (scripts_of s) c.new-log.result.items order log) c.deref.ensures.value
    (subst (λ o. Drives (scripts_of c.deref.result.now) c.new-log.result.items o log) c.deref-2.ensures.value c.in_ok-play.ensures.drives))
    in
    let made = c.in_ok-players.players in
    let stayed : c.deref-4.result.now ≡ players
    = c.deref-4.ensures.value ∙ take_at players (drop (length players) made.items) made.len
    (c.play.auto.players ∙ ap (λ (p : List Player). length p) c.deref_mut.ensures.value ∙ sym {A = ℕ} made.ok.0)
    in
    let ended : AllEnd scripts players ends
    = subst (λ s. AllEnd (scripts_of s) players ends) c.deref-3.ensures.value
    (subst (λ (p : List Player). AllEnd (scripts_of c.deref-3.result.now) p ends) stayed c.in_ok-ends.ensures)
    in
    is_driven gives registers scripts order players log ends workload.is all drives ended
