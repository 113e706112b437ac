-- From what a settled ring has left to the verdict on all of its log.
use Rattle.tmw_watch.proofs.Shared.{All, All-permutation, AreAll, AreOf, Fits, Front, HasEnded, Headline, IsClosed, IsJudged, IsLogOf, IsPermutation, IsPermutation-map, IsPermutation-sym, IsPermutation-trans, IsRested, IsSettled, List, Recorder, RestIs, RingIs, WriterIs, WriterOf, [], all_of, ap, get_or, gives_rest, length, length_permutation, subst, sym, watch_pump, writers_of, ℕ, ◌++◌, ◌<◌, ◌^◌, ◌∙◌, ◌≡◌, arith}
use Rattle.std.proofs.lemmas.List.Elements.{All-map}
use Rattle.tmw_events.specs.declared.event.Event.{Event}
use Rattle.tmw_pump.proofs.Turns.{IsFew, all_judged}
use Rattle.tmw_pump.specs.declared.pumped.Pumped.{Pumped}
use Rattle.tmw_ring.specs.SeatPart.{made_from}
use Rattle.tmw_watch.specs.declared.report.WatchReport.{WatchReport}
use Rattle.tmw_watch.specs.declared.watch.Watch.{Watch}

-- A call that was to judge more than a log can have has judged all, which gives the headline of it.
pub is_judged : (max : ℕ) (pumped : Pumped) (old new : RestIs) (report : WatchReport) → 2 ^ 40 < max → IsFew new → IsRested max pumped old new
    → report.events ≡ length new.front.judged.items → report.verdict ≡ new.front.monitor.verdict → IsJudged old report
is_judged max pumped old new report wide few rested counted shown =
    let all = all_judged max pumped old new wide few rested in
    record {
      counted = counted ∙ ap (λ (l : List Event). length l) all;
      headline = λ rules log writers fits one_log.
          subst (λ (judged : List Event). Headline rules log writers judged report.verdict) all
          (rw shown (gives_rest old.front new.front new.settled rested.counted.judged.fits rules log writers fits
          (subst (IsLogOf log writers) (sym rested.counted.all) one_log)));
    }

-- Recorders in another order are the ring's still.
pub of_ring_placed : (ring : RingIs) (given placed : List Recorder) → IsPermutation given placed → AreOf ring given → AreOf ring placed
of_ring_placed ring given placed same of = All-permutation (λ (recorder : Recorder). recorder.ring.value ≡ ring) given placed same of

-- What the recorders record by is the ring's.
pub of_ring-writers : (ring : RingIs) (recorders : List Recorder) → AreOf ring recorders
    → All (WriterOf ring) (writers_of recorders)
of_ring-writers ring recorders same =
    All-map (WriterOf ring) (λ (recorder : Recorder). recorder.writer) recorders (λ place fallback low. subst (λ (r : RingIs). WriterOf r
    (get_or recorders place fallback).writer) (same place fallback low) (get_or recorders place fallback).of_ring)

-- A log of the writers of these recorders is one of those in another order.
log-again : (log : List Event) (given placed : List Recorder) → IsPermutation given placed → IsLogOf log (writers_of placed) log
    → IsLogOf log (writers_of given) log
log-again log given placed same is = record {
  rest = is.rest;
  begins = is.begins;
  pairs = All-permutation (λ (writer : WriterIs). writer.made ≡ made_from writer.number.number 0 log) (writers_of placed) (writers_of given)
      (IsPermutation-map (λ (recorder : Recorder). recorder.writer) placed given (IsPermutation-sym given placed same)) is.pairs;
}

-- The writers behind none are these.
pub writers-given : (writers first : List WriterIs) (placed : List Recorder) → first ≡ [] → writers ≡ first ++ writers_of placed
    → writers ≡ writers_of placed
writers-given writers first placed none is = is ∙ ap (λ (l : List WriterIs). l ++ writers_of placed) none

-- So is the one whose log that is: the ring has ended with these recorders.
pub has_ended : (watch : Watch) (recorders : List Recorder) (writers : List WriterIs) (rest : RestIs) → writers ≡ writers_of recorders
    → AreAll watch.recorders recorders → IsSettled (watch_pump watch).reader writers rest.settled → rest.front ≡ (watch_pump watch).front
    → IsLogOf (all_of rest) writers (all_of rest) → HasEnded watch recorders (all_of rest)
has_ended watch recorders writers rest are all settled front one_log = grind arith

-- A ring that has ended with recorders in one order has ended with them in another.
ended_again : (watch : Watch) (given placed : List Recorder) (log : List Event) → IsPermutation given placed
    → HasEnded watch placed log → HasEnded watch given log
ended_again watch given placed log same ended = record {
  all = sym {A = ℕ} (length_permutation given placed same) ∙ ended.all;
  writers = ended.writers;
  same = IsPermutation-trans (writers_of given) (writers_of placed) ended.writers
      (IsPermutation-map (λ (recorder : Recorder). recorder.writer) given placed same) ended.same;
  order = ended.order;
  left = ended.left;
  settled = ended.settled;
  whole = ended.whole;
  one_log = log-again log given placed same ended.one_log;
}

-- A watch whose ring has ended, and of which all was judged, is closed.
pub is_closed : (watch : Watch) (recorders : List Recorder) (rest : RestIs) (report : WatchReport) → HasEnded watch recorders (all_of rest)
    → rest.front ≡ (watch_pump watch).front → IsJudged rest report → IsClosed watch recorders report
is_closed watch recorders rest report ended front judged = record {
  log = all_of rest;
  ended = ended;
  counted = judged.counted;
  headline = λ by fits. judged.headline by (all_of rest) (writers_of recorders)
      (subst (λ (front : Front). Fits by front.judged.items front.monitor) (sym front) fits) ended.one_log;
}

-- A watch that is closed with recorders in one order is closed with them in another.
pub closed_again : (watch : Watch) (given placed : List Recorder) (report : WatchReport) → IsPermutation given placed
    → IsClosed watch placed report → IsClosed watch given report
closed_again watch given placed report same closed = record {
  log = closed.log;
  ended = ended_again watch given placed closed.log same closed.ended;
  counted = closed.counted;
  headline = λ by fits. let is = closed.headline by fits in record {
    one_log = log-again closed.log given placed same is.one_log;
    opaque = is.opaque;
    violated = is.violated;
    wide = is.wide;
    many = is.many;
    malformed = is.malformed;
  };
}
