use Rattle.tmw_watch.proofs.Shared.{Fits, ReaderIs, RingIs, [], ap, rules_of, subst, sym, ◌∙◌}
use Rattle.tmw_monitor.specs.declared.monitor.Monitor.{Monitor}
use Rattle.tmw_ring_defs.specs.RingSize.{HasNumbers}
use Rattle.tmw_watch.proofs.watch.Watch.open.Goals as goal

pub returns-clause-ok : goal.returns-clause-ok
returns-clause-ok c =
    let settings = c.args.settings in
    let made = c.in_ok-made.ensures.ok in
    let recorders = c.in_ok-recorders.ensures in
    let pump = c.keeping.ensures in
    let rules = rules_of settings.registers settings.start settings.bounds in
    record {
      sized = subst (λ (ring : RingIs). HasNumbers settings.cells settings.recorders settings.limit ring.size) (sym c.in_ok-ring.ensures.ok)
          made.sized;
      count = recorders.count ∙ made.count ∙ made.sized.writers_are;
      each = recorders.each;
      of_ring = recorders.of_ring;
      taken = ap (λ (reader : ReaderIs). reader.taken) pump.reader ∙ made.taken;
      run = ap (λ (reader : ReaderIs). reader.run) pump.reader ∙ made.run;
      judged = pump.judged;
      fits = subst (λ (monitor : Monitor). Fits rules [] monitor) (sym pump.monitor) c.in_ok-monitor.ensures.fits;
    }
