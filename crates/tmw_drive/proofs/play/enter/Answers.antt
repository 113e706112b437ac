use Rattle.tmw_drive.proofs.Shared.{AllPlay, Answer, Call, DoesEntry, Player, Plays, ap, arith, calls_of, get_or, get_or_default, kinds_of, length, length-map, script_at, script_of, scripts_of, slice_set, subst, sym, ◌<◌, ◌∙◌, ◌≡◌}
use Rattle.tmw_drive.proofs.AllPlayers.{all_play-entry, numbered-read, on_ok}
use Rattle.tmw_workers.proofs.Positions.{script_at-read}
use Rattle.tmw_drive.proofs.play.enter.Goals as goal

pub step-requires : goal.step-requires
step-requires g c =
    grind (
      arith,
      scripts_of,
      get_or,
      length,
      length-map,
      script_of,
      get_or_default,
      script_at,
      calls_of,
      script_at-read,
    )

pub returns-clause-all : goal.returns-clause-all
returns-clause-all g c =
    let place = c.from-place.result in
    let scripts = scripts_of c.args.scripts.now in
    let players = c.args.players.now in
    let before = c.args.log.now.items in
    let after = c.step.new.log.items in
    let old : Player = get_or players place c.index-players-place.result in
    let new = c.step.new.player in
    let number = old.thread.number in
    let gives : Call → Answer → Type 0 = λ call answer. (goal.Tm-dyn g c.args.memory.now).gives c.args.memory.now.1 call answer in
    let within : place < length c.args.scripts.now = subst (λ n. n < length c.args.scripts.now) (sym c.from-place.ensures) c.requires.within in
    let low : place < length players
    = subst (λ n. place < n) (sym (c.requires.all.counted ∙ length-map c.args.scripts.now script_of)) within
    in
    let read : old ≡ get_or players place old = get_or_default players place c.index-players-place.result old low in
    let script : calls_of c.deref.result.now ≡ script_at scripts place
    = ap calls_of c.deref.ensures.value ∙ sym (script_at-read c.args.scripts.now place c.index-scripts-place.result within c.index-scripts-place.is)
    in
    on_ok (Plays gives (calls_of c.deref.result.now) new (kinds_of number after)) (DoesEntry (calls_of c.deref.result.now) number before after)
    (AllPlay gives scripts (slice_set players place new) after) c.step.result
    (λ plays entry. all_play-entry gives scripts players before after place old new c.requires.all low read c.step.ensures.thread
    (subst (λ s. Plays gives s new (kinds_of number after)) script plays) (subst (λ s. DoesEntry s number before after) script entry))
    c.step.ensures.plays c.step.ensures.entry

pub returns-clause-entry : goal.returns-clause-entry
returns-clause-entry g c =
    let place = c.from-place.result in
    let scripts = scripts_of c.args.scripts.now in
    let players = c.args.players.now in
    let before = c.args.log.now.items in
    let after = c.step.new.log.items in
    let old : Player = get_or players place c.index-players-place.result in
    let number = old.thread.number in
    let gives : Call → Answer → Type 0 = λ call answer. (goal.Tm-dyn g c.args.memory.now).gives c.args.memory.now.1 call answer in
    let within : place < length c.args.scripts.now = subst (λ n. n < length c.args.scripts.now) (sym c.from-place.ensures) c.requires.within in
    let low : place < length players
    = subst (λ n. place < n) (sym (c.requires.all.counted ∙ length-map c.args.scripts.now script_of)) within
    in
    let read : old ≡ get_or players place old = get_or_default players place c.index-players-place.result old low in
    let own : number ≡ place = numbered-read gives scripts players before place old c.requires.all low read in
    let script : calls_of c.deref.result.now ≡ script_at scripts place
    = ap calls_of c.deref.ensures.value ∙ sym (script_at-read c.args.scripts.now place c.index-scripts-place.result within c.index-scripts-place.is)
    in
    let entered : DoesEntry (calls_of c.deref.result.now) number before after → DoesEntry (script_at scripts c.args.entry) c.args.entry before after
    = λ entry. subst (λ n. DoesEntry (script_at scripts n) n before after) c.from-place.ensures
    (subst (λ n. DoesEntry (script_at scripts place) n before after) own (subst (λ s. DoesEntry s number before after) script entry))
    in
    on_ok (DoesEntry (calls_of c.deref.result.now) number before after) (DoesEntry (calls_of c.deref.result.now) number before after)
    (DoesEntry (script_at scripts c.args.entry) c.args.entry before after) c.step.result (λ entry _. entered entry)
    c.step.ensures.entry c.step.ensures.entry
