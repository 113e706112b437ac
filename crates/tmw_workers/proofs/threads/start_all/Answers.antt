use Rattle.tmw_workers.proofs.Shared.{IsNewWorker, IsPromised, IsTrue, Kind, List, Worker, [], ap, append_assoc, are_transactions, arith, calls_of, get_or, get_or-map, into_iter_items, length, length_push, script_at, script_of, scripts_of, shorter, subst, sym, ℕ, ◌++◌, ◌+◌, ◌<◌, ◌∙◌, ◌∷◌, ◌≡◌}
use Rattle.tmw_workers.proofs.Returns.{pushed, at_seam}
use Rattle.tmw_workers.proofs.Starts.{Handle}
use Rattle.tmw_workers.proofs.threads.start_all.Goals as goal

pub loop-worker-preserved : goal.loop-worker-preserved
loop-worker-preserved g c =
    let at = c.loop-worker in
    let steps = c.in-Some.ensures.steps in
    let rest = into_iter_items c.next.new.self in
    let items = c.in-Ok-push.ensures.items in
    let kept = c.in-Ok.ensures.ok in
    let ring = c.args.stage.ring.now in
    let all = c.args.workers.items in
    let scripts = scripts_of c.args.stage.scripts.now in
    let writers : at.yielded ++ c.in-Some.worker ∷ rest ≡ all =
    ap (λ (l : List Worker). at.yielded ++ l) (sym steps.0) ∙ at.invariant.1 in
    let low : length at.yielded < length all =
    subst (λ (l : List Worker). length at.yielded < length l) writers (shorter at.yielded c.in-Some.worker rest) in
    let given = get_or c.args.stage.scripts.now at.place c.index-stage-place.result in
    let own : calls_of c.in-Ok.handle.promise.script.now ≡ script_of given =
    ap calls_of (ap (λ promise. promise.script.now) kept ∙ c.as_slice-script.ensures.value) in
    let listed : script_at scripts at.place ≡ script_of given =
    get_or-map script_of c.args.stage.scripts.now at.place c.index-stage-place.result []
    (let a = at.invariant.3 in let b = c.requires.count in omega (arith, low, a, b)) in
    let place : at.place ≡ length at.handles.items = at.invariant.3 ∙ sym {A = ℕ} at.invariant.0 in
    let here : IsPromised ring scripts all (length at.handles.items) c.in-Ok.handle.promise.ring.now
    (calls_of c.in-Ok.handle.promise.script.now) c.in-Ok.handle.promise.before.value =
    record {
      of_ring = ap (λ promise. promise.ring.now) kept;
      same = own ∙ sym listed ∙ ap (λ (n : ℕ). script_at scripts n) place;
      worker = λ fallback.
          ap (λ (n : ℕ). get_or all n fallback) at.invariant.0 ∙ at_seam all at.yielded rest c.in-Some.worker writers fallback
          ∙ sym (ap (λ promise. promise.before.value) kept ∙ c.of.ensures);
    } in (
      ap (λ (handles : List (Handle g.row.J.Denot)). length handles) items ∙ length_push at.handles.items c.in-Ok.handle
          ∙ ap (λ (n : ℕ). n + 1) at.invariant.0 ∙ sym {A = ℕ} (length_push at.yielded c.in-Some.worker),
      append_assoc at.yielded (c.in-Some.worker ∷ []) rest ∙ writers,
      let was = at.invariant.2 in
          let gone = steps.1 in
          let short = ap (λ (l : List Worker). length l) steps.0 in
          omega arith,
      ap (λ (n : ℕ). n + 1) at.invariant.3 ∙ sym {A = ℕ} (length_push at.yielded c.in-Some.worker),
      pushed (λ place handle. IsPromised ring scripts all place handle.promise.ring.now (calls_of handle.promise.script.now)
          handle.promise.before.value) at.handles.items c.in-Ok.handle c.push.new.self.items items at.invariant.4 here,
    )

pub spawn_with-requires-clause-runs : goal.spawn_with-requires-clause-runs
spawn_with-requires-clause-runs g c κs within =
    let at = c.loop-worker in
    let steps = c.in-Some.ensures.steps in
    let rest = into_iter_items c.next.new.self in
    let all = c.args.workers.items in
    let writer = c.in-Some.worker in
    let scripts = scripts_of c.args.stage.scripts.now in
    let writers : at.yielded ++ writer ∷ rest ≡ all = ap (λ (l : List Worker). at.yielded ++ l) (sym steps.0) ∙ at.invariant.1 in
    let low : length at.yielded < length all =
    subst (λ (l : List Worker). length at.yielded < length l) writers (shorter at.yielded writer rest) in
    let registers = c.requires.scripts.0 in
    let listed : script_at scripts at.place ≡ calls_of c.as_slice-script.result.now =
    get_or-map script_of c.args.stage.scripts.now at.place c.index-stage-place.result []
    (let a = at.invariant.3 in let b = c.requires.count in omega (arith, low, a, b))
    ∙ ap calls_of (sym c.as_slice-script.ensures.value) in (
      c.requires.gives,
      (
        subst (IsNewWorker c.args.stage.ring.now) (at_seam all at.yielded rest writer writers writer) (c.requires.new (length at.yielded) writer low),
        (registers, subst (λ (s : List (List Kind)). IsTrue (are_transactions registers s)) listed (c.requires.scripts.1 at.place)),
      ),
    )
