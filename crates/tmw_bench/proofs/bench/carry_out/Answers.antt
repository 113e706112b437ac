use Rattle.tmw_bench.proofs.Shared.{AllOpaque, AreEndings, AreTransactions, Event, Fits, Front, HasNumbers, HaveBegun, Headline, IsLogOf, IsVerdict, Kind, List, Option, ReaderOf, Refused, Vec, [], all_judged, all_opaque-append, ap, arith, ending_of, length, length-map, map, refl, rules_of, script_of, scripts_of, subst, sym, zeros, ℕ, ◌++◌, ◌-◌, ◌^◌, ◌∙◌, ◌≡◌}
use Rattle.tmw_bench.proofs.RoundsOver.{are_endings-map, over-log}
use Rattle.tmw_bench.proofs.Whole.{is_benched, HasCome}
use Rattle.tmw_workloads.proofs.Workloads.{are_transactions-workload}
use Rattle.tmw_pump.specs.Keep.{IsKept}
use Rattle.tmw_pump.specs.Rest.{all_of, rest_in}
use Rattle.tmw_bench.proofs.bench.carry_out.Goals as goal

pub play_rounds-requires-clause-can : goal.play_rounds-requires-clause-can
play_rounds-requires-clause-can g c κs within =
    let workload = c.args.workload.now in
    let scripts = scripts_of workload.scripts.items in
    let made = c.in-Ok.ensures.ok in
    let started = c.keeping-pump.ensures in
    let rules = rules_of workload.registers zeros c.args.settings.bounds in
    let threads : c.len-threads.result ≡ length c.as_slice.result.now =
    (let one = c.len-threads.ensures in
    let two = workload.scripts.ok.0 in
    let three = ap (λ (l : List (Vec (Vec Kind))). length l) c.as_slice.ensures.value in
    omega (arith, one, two, three)) in
    record {
      gives = λ call answer given. given;
      reader = subst (ReaderOf c.in-Ok.made.0) (sym started.reader) made.reader_of;
      writers = made.writers_new;
      count = made.count ∙ made.sized.writers_are ∙ threads;
      scripts = subst (λ (l : List (Vec (Vec Kind))). AreTransactions (scripts_of l)) (sym c.as_slice.ensures.value)
          (workload.registers.number, are_transactions-workload workload.registers.number scripts workload.order.items workload.is);
      judged = started.judged;
      fits = (rules, subst (Fits rules []) (sym started.monitor) c.in-Ok-new.ensures.fits);
      some = c.args.settings.some_round;
    }

pub settle-rest-requires-clause-count : goal.settle-rest-requires-clause-count
settle-rest-requires-clause-count g c =
    grind (arith, rules_of, zeros, length-map, script_of, length)

pub returns-clause-ok : goal.returns-clause-ok
returns-clause-ok g c =
    let workload = c.args.workload.now in
    let settings = c.args.settings in
    let keeps = g.K.Keep.keeps in
    let gives = (goal.Tm-dyn g c.args.memory.now).gives c.args.memory.now.1 in
    let scripts = scripts_of workload.scripts.items in
    let rules = rules_of workload.registers zeros settings.bounds in
    let ring = c.in-Ok.made.0 in
    let left = c.in_ok-left.left in
    let played = c.in_ok-left.ensures.played in
    let fitted : Fits rules [] c.keeping-pump.result.front.monitor = subst (Fits rules []) (sym c.keeping-pump.ensures.monitor) c.in-Ok-new.ensures.fits in
    let begun : HaveBegun rules gives ring scripts left.rounds left.pump.reader left.pump.front left.writers.items left.stops.items =
    subst (λ (l : List (Vec (Vec Kind))). HaveBegun rules gives ring (scripts_of l) left.rounds left.pump.reader
    left.pump.front left.writers.items left.stops.items) c.as_slice.ensures.value (played.begun rules fitted) in
    let after = begun.after in
    let front = left.pump.front in
    let reader = left.pump.reader in
    let writers = left.writers.items in
    let stops = left.stops.items in
    let settled = c.settle-rest.ensures in
    let before = c.settle-rest.result in
    let rest = c.pump.new.self in
    let done = c.in-Ok-pump.ensures in
    let ends = c.in-Ok-ends_of.ends.items in
    let log = rest.front.judged.items in
    let verdict = rest.front.monitor.verdict in
    let threads : length workload.scripts.items ≡ length scripts = sym (length-map workload.scripts.items script_of) in
    let sized : c.len-threads.result ≡ length workload.scripts.items =
    (let one = c.len-threads.ensures in let two = workload.scripts.ok.0 in omega (arith, one, two)) in
    let was : log ≡ all_of (rest_in before) = all_judged (2 ^ 64 - 1) c.in-Ok-pump.field-0 (rest_in before) (rest_in rest) (omega arith) rest.few done.ok in
    let begins : log ≡ front.judged.items ++ before.settled = was ∙ ap (λ (f : Front). f.judged.items ++ before.settled) settled.front in
    let whole : log ≡ reader.taken ++ before.settled = begins ∙ ap (λ (l : List Event). l ++ before.settled) left.pump.all in
    let fits : Fits rules before.front.judged.items before.front.monitor =
    subst (λ (f : Front). Fits rules f.judged.items f.monitor) (sym settled.front) after.fits in
    let judged : IsVerdict rules log verdict = (done.ok.counted.judged.fits rules fits).judged in
    let headline : Headline rules log writers log verdict =
    done.headline rules log writers fits (subst (λ (l : List Event). IsLogOf l writers (all_of (rest_in rest))) (sym was)
    (subst (IsLogOf (all_of (rest_in before)) writers) (sym done.ok.counted.all) settled.one_log)) in
    let endings : AreEndings scripts stops ends =
    are_endings-map scripts stops ends after.stop_count
    (c.in-Ok-ends_of.ensures ∙ ap (λ (l : List (Option Refused)). map ending_of l) c.deref.ensures.value) in
    let come : HasCome (length scripts) ring reader writers before.settled = record {
      reader_of = after.reader_of;
      writers_of = after.of_ring;
      order = after.order;
      count = after.played.counted;
      settled = settled.settled;
    } in record {
      benched = is_benched gives workload.registers scripts settings log verdict ends left.rounds ring reader writers before.settled begun.bounds stops
          (are_transactions-workload workload.registers.number scripts workload.order.items workload.is)
          (subst (λ (n : ℕ). HasNumbers settings.cells n settings.limit ring.size) (sized ∙ threads) c.in-Ok.ensures.ok.sized) come whole after.played
          (subst (AllOpaque rules begun.bounds) (sym begins)
          (all_opaque-append rules begun.bounds front.judged.items before.settled after.opaque))
          endings judged headline begun.counted played.within
          (λ fewer. over-log rules scripts stops ends front before.settled log writers verdict refl after.stop_count endings
          begins after.fits.judged headline (played.over fewer));
      kept = done.kept rules (subst (λ (f : Front). IsKept keeps rules f before.kept) (sym settled.front)
          (subst (IsKept keeps rules front) (sym settled.kept) (c.in_ok-left.ensures.kept rules (c.keeping-pump.ensures.keeps rules c.in-Ok-new.ensures.fits))));
    }
