-- Reading on to the end, or by `--first` to the event at which all verdicts are final: the judges have been fed the events of the lines read.
use Rattle.tmw_judge.proofs.Shared.{AreFedAllRead, AreFedSoMany, AreJudged, AreOpen, Asked, Bool, Bounds, CountsFor, End, Err, Event, FeedsEvents, FromSource, GivesAll, Header, IsTrue, Judges, Lines, List, Ok, Reached, Result, Stop, Tells-none, TextFault, Version, [], append-nil, append_assoc, arith, false, has_open, judges_taking, not, sym, trace_grammar, true, ◌&&◌, ◌++◌, ◌∷◌, ◌≡◌}
use Rattle.tmw_judge.proofs.FirstOpen.{AreOpenBefore-push, open-fed}

-- the judges have been fed as many events as lines were read behind the header's
pub fed-so_many : {C F : Type 0} (Counts : CountsFor C) (lines : Lines Version) (judges : Judges C F) → AreFedAllRead Counts lines judges
    → AreFedSoMany Counts judges lines.count
fed-so_many Counts lines judges fed = record {
  header = fed.header;
  bounds = fed.bounds;
  asked = fed.asked;
  history = fed.history;
  fed = fed.fed;
  counted = sym fed.read.counted;
}

-- judges have come to their ending, or not
pub at_final : (first open_one : Bool) → (first && not open_one) ≡ true → IsTrue first × (open_one ≡ false)
at_final first open_one is = grind arith

pub still_open : (first open_one : Bool) → (first && not open_one) ≡ false → IsTrue first → open_one ≡ true
still_open first open_one past is = grind arith

-- by `--first` nothing is read where all verdicts are final
pub feeds-none : {S C F : Type 0} (first : Bool) (From : FromSource S) (Counts : CountsFor C) (Ended : Type 0) (a : S) (lines : Lines Version)
    (judges : Judges C F) → IsTrue first → has_open judges ≡ false
    → FeedsEvents first From Counts Ended a a lines lines judges judges (Ok Stop)
feeds-none first From Counts Ended a lines judges so is = record {
  bytes = [];
  events = [];
  told = Tells-none From a;
  fed = λ header bounds asked given earlier r was. (
    so,
    record {
      read = rw (append-nil given, append-nil earlier) r;
      judged = rw (append-nil given) was;
      final = is;
      before = rw (append-nil given) (λ open_before. open_before);
    },
  );
}

module _ {C F : Type 0} (first : Bool) (Counts : CountsFor C) (Ended : Type 0) (lines after : Lines Version) (judges fed : Judges C F)
    (has : IsTrue first → has_open judges ≡ true) where
  -- the history of the events that were taken is open
  open_now : (now : Judges C F) (events : List Event) → (judges_taking first Counts).takes judges events now → IsTrue first
      → (header : Header) (bounds : Bounds) (asked : Asked) (given : List Event) → AreJudged Counts header bounds asked given judges
      → AreOpen header bounds asked (given ++ events)
  open_now now events taken so header bounds asked given was =
      open-fed header bounds (given ++ events) asked now.monitors (taken.0 header bounds asked given was).fed (taken.1 so (has so))

  -- what the judges took, and the event at which they stopped, they have been fed
  pub feeds-given : {S : Type 0} (From : FromSource S) (a b : S) (result : Result Reached TextFault)
      → GivesAll trace_grammar From Ended (judges_taking first Counts) a b lines after judges fed result
      → FeedsEvents first From Counts Ended a b lines after judges fed result
  feeds-given From a b (Ok End) g = record {
    bytes = g.bytes;
    events = g.items;
    told = g.told;
    fed = λ header bounds asked given earlier r was. (
      g.given.0 header given earlier r,
      g.given.1.0 header bounds asked given was,
      λ so. g.given.1.1 so (has so),
    );
  }
  feeds-given From a b (Ok Stop) g =
      let last = g.given.last in
      let taken = g.given.taken in record {
        bytes = g.bytes;
        events = g.items ++ last ∷ [];
        told = g.told;
        fed = λ header bounds asked given earlier r was. (
          taken.stops.0,
          record {
            read = rw (← append_assoc given g.items (last ∷ [])) (g.given.read header given earlier r);
            judged = rw (← append_assoc given g.items (last ∷ []))
                (taken.stops.1 header bounds asked (given ++ g.items) (taken.takes.0 header bounds asked given was));
            final = taken.stops.2;
            before = λ open_before. rw (← append_assoc given g.items (last ∷ [])) (AreOpenBefore-push header bounds asked (given ++ g.items) last
                (open_now taken.between g.items taken.takes taken.stops.0 header bounds asked given was));
          },
        );
      }
  feeds-given From a b (Err fault) g = record {
    bytes = g.bytes;
    events = g.items;
    told = g.told;
    fed = λ header bounds asked given earlier r was. (
      g.given.0 header given earlier r,
      g.given.1.0 header bounds asked given was,
      λ so. g.given.1.1 so (has so),
    );
  }
