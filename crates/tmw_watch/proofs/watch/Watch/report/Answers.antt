use Rattle.tmw_watch.proofs.Shared.{GivesHeadline, gives_headline, subst, sym}
use Rattle.tmw_defs.specs.declared.verdict.Verdict.{Verdict}
use Rattle.tmw_watch.proofs.watch.Watch.report.Goals as goal

pub returns-clause-headline : goal.returns-clause-headline
returns-clause-headline c =
    let pump = c.args.self.now.pump in
    subst (λ (verdict : Verdict). GivesHeadline pump.front pump.reader.taken pump.front.judged.items verdict) (sym c.verdict.ensures.shown)
    (gives_headline pump.front pump.reader.taken pump.front (λ by fits. fits) pump.all)
