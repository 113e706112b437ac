use Rattle.tmw_bench.proofs.Shared.{AreClosed, ArePairs, Back, HasLed, IsAfter, Line, List, Option, Refused, Rules, SomeStop, SomeToldStop, WriterIs, arith, inl, inr, length, length-map, map, script_of, scripts_of, subst, sym, ◌∙◌, ◌≡◌}
use Rattle.tmw_bench.proofs.AllBack.{is_after-gathered, new_lines, new_workers, pairs, some_stop-gathered}
use Rattle.tmw_bench.proofs.JoinThreads.{back_count, come_back, given_back, led_to}
use Rattle.tmw_bench.proofs.play_rounds.play_within.Goals as goal

pub start_all-requires-clause-new : goal.start_all-requires-clause-new
start_all-requires-clause-new g c κs within =
    new_workers c.args.stage.ring.now c.args.writers.items c.in-Ok.workers.items c.in-Ok.lines.items c.in-Ok.ensures c.requires.can.writers

pub lead-led-requires-clause-new : goal.lead-led-requires-clause-new
lead-led-requires-clause-new g c = grind (arith, new_lines)

pub close_all-requires-clause-pairs : goal.close_all-requires-clause-pairs
close_all-requires-clause-pairs g c =
    let gave = g.J.MemoryAnswers.gave in
    let scripts = scripts_of c.args.stage.scripts.now in
    let handles = c.in-Ok-start_all.handles in
    let back = c.in-Ok-join_promised.back in
    let opened = c.in-Ok.ensures in
    let started = c.in-Ok-start_all.ensures in
    let joined = c.in-Ok-join_promised.ensures in
    let count : length c.args.writers.items ≡ length scripts = c.requires.can.count ∙ sym (length-map c.args.stage.scripts.now script_of) in
    let all = back_count gave handles back opened started.count started.promised joined.len joined.each in
    let on = come_back gave handles back opened started.count started.promised joined.len joined.each (λ handle back kept. kept) in
    let led = c.in-Ok-led.ensures.led c.requires.can.fits.0 c.requires.can.fits.1 in
    subst (ArePairs (map (λ (one : Back). one.0) back.items)) (sym (given_back c.in-Ok.lines c.as_mut_slice.ensures.value led))
    (pairs scripts back.items opened (led_to c.in-Ok.lines c.as_mut_slice.ensures.value led) count all on)

pub returns-clause-played : goal.returns-clause-played
returns-clause-played g c =
    let gave = g.J.MemoryAnswers.gave in
    let scripts = scripts_of c.args.stage.scripts.now in
    let handles = c.in-Ok-start_all.handles in
    let back = c.in-Ok-join_promised.back in
    let after = c.lead-led.new.lines in
    let opened = c.in-Ok.ensures in
    let started = c.in-Ok-start_all.ensures in
    let joined = c.in-Ok-join_promised.ensures in
    let shut = c.in-Ok-close_all.ensures in
    let count : length c.args.writers.items ≡ length scripts = c.requires.can.count ∙ sym (length-map c.args.stage.scripts.now script_of) in
    let all = back_count gave handles back opened started.count started.promised joined.len joined.each in
    let on = come_back gave handles back opened started.count started.promised joined.len joined.each (λ handle back kept. kept) in
    let closed = λ (rules : Rules) (led : HasLed rules c.in-Ok-led.rounds c.lead-led.new.pump.front c.as_mut_slice.result.now after).
    subst (AreClosed (map (λ (one : Back). one.0) back.items)) (given_back c.in-Ok.lines c.as_mut_slice.ensures.value led) shut.closed in
    record {
      begun = λ rules fits.
          let led = c.in-Ok-led.ensures.led rules fits in
          record {
            bounds = led.bounds;
            counted = led.counted;
            after = subst (λ (ws : List WriterIs). IsAfter rules gave c.args.stage.ring.now scripts led.bounds c.lead-led.new.pump.reader c.lead-led.new.pump.front ws c.in-Ok-close_all.stops.items)
                (sym shut.writers)
                (subst (λ (ss : List (Option Refused)). IsAfter rules gave c.args.stage.ring.now scripts led.bounds c.lead-led.new.pump.reader c.lead-led.new.pump.front
                (map (λ (one : Back). one.0.writer) back.items) ss) (sym shut.stops)
                (is_after-gathered scripts back.items opened (led_to c.in-Ok.lines c.as_mut_slice.ensures.value led) count all on (closed rules led) c.lead-led.new.pump.reader
                c.in-Ok-led.ensures.reader c.requires.can.writers));
          };
      within = c.in-Ok-led.ensures.within;
      over = λ fewer.
          let rules = c.requires.can.fits.0 in
          let led = c.in-Ok-led.ensures.led rules c.requires.can.fits.1 in
          elim (c.in-Ok-led.ensures.over fewer) [
            | inl some ↦
                inl (subst SomeStop (sym shut.stops) (some_stop-gathered scripts back.items opened (led_to c.in-Ok.lines c.as_mut_slice.ensures.value led) count all on
                (closed rules led) (subst (λ (l : List Line). SomeToldStop (length l) after) c.as_mut_slice.ensures.value some)))
            | inr other ↦ inr other
          ];
    }
