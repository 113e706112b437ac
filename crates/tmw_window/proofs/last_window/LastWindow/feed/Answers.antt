-- The monitor takes the event, and what is kept shows it.
use Rattle.tmw_window.proofs.Windows.{kept-same}
use Rattle.tmw_window.proofs.last_window.LastWindow.feed.Goals as goal

pub returns-clause-ok : goal.returns-clause-ok
returns-clause-ok c = λ judged_by history watches.
    let before = c.args.self.now.monitor in
    let fits = c.take.ensures.feeds judged_by history watches.fits in
    record {
      fits = fits;
      shown = c.take-2.ensures judged_by history before c.take.new.self.verdict c.in_ok-next.ensures.next watches.fits fits.judged
          (kept-same judged_by history before.verdict c.args.self.now.kept c.make_room.new.self c.make_room.ensures.same watches.shown);
    }
