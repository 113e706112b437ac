-- All workers have come back.
use Rattle.tmw_bench.proofs.Shared.{Answer, AreClosed, AreNewLines, AreNewWorkers, AreOpened, ArePairs, Back, Call, Front, HasLedTo, HasPlayedLast, HasPlayedOn, IsAfter, IsClosed, IsPair, IsPairOf, IsPromised, Kind, Line, List, None, Option, ReaderIs, ReaderOf, Refused, RingIs, RoundEnd, Rules, SameConsumer, SameProducer, Some, SomeStop, SomeToldStop, Worker, WriterIs, WriterOf, [], ap, arith, drop, get_or, get_or-map, length, length-map, length_push, map, received, script_at, sent, subst, sym, take, take-append-le, take_all, ℕ, ◌++◌, ◌+◌, ◌<◌, ◌∙◌, ◌∷◌, ◌≡◌}
use Rattle.rtrb.specs.declared.consumer.Consumer.{Consumer}
use Rattle.rtrb.specs.declared.producer.Producer.{Producer}
use Rattle.tmw_events.specs.declared.ix.Ix.{Ix}
use Rattle.tmw_bench.proofs.WorkerBack.{last-same, played-closed}
use Rattle.tmw_ring.specs.NewRing.{AreNewWriters}

pair-then : {T A P : Type 0} (p_old p_new : Producer T A P) (c_old c_new : Consumer T A P) → IsPair p_old c_old → SameProducer p_old p_new
    → SameConsumer c_old c_new → IsPair p_new c_new
pair-then p_old p_new c_old c_new pair p c = grind arith

-- what was written into a slice of the whole
pub written_back : {A : Type 0} (n : ℕ) (xs ys : List A) → length xs ≡ n → take n (xs ++ drop (length xs) ys) ≡ xs
written_back n xs ys long = take-append-le n xs (drop (length xs) ys) (omega (arith, long)) ∙ take_all n xs (omega (arith, long))

some_item : {A : Type 0} (items : List A) (place : ℕ) → place < length items → A
some_item [] place low = absurd (omega (arith, low))
some_item (item ∷ items) place low = item

-- What a thread has promised holds of the worker at its place.
pub promised_at : (gave : Call → Answer → Type 0) (ring : RingIs) (scripts : List (List (List Kind))) (workers : List Worker) (place : ℕ)
    (own_ring : RingIs) (script : List (List Kind)) (before : Worker) (back fallback : Back)
    → IsPromised ring scripts workers place own_ring script before → HasPlayedOn gave own_ring script before back.1 back.0
    → HasPlayedOn gave ring (script_at scripts place) (get_or workers place fallback.0) back.1 back.0
promised_at gave ring scripts workers place own_ring script before back fallback promise on =
    grind arith

-- At first.
module _ (ring : RingIs) (writers : List WriterIs) (workers : List Worker) (lines : List Line) (opened : AreOpened writers workers lines) where
  pub new_workers : AreNewWriters ring writers → AreNewWorkers ring workers
  new_workers new place fallback low =
      let n = opened.worker_count in
      let below : place < length writers = omega (arith, low, n) in
      let n2 = opened.line_count in
      let writer = some_item writers place below in
      let line = some_item lines place (omega (arith, below, n2)) in
      let one = opened.each place writer fallback line below in
      record {
        of_ring = subst (WriterOf ring) (sym one.writer_is) (new.of_ring place writer below);
        made = ap (λ (w : WriterIs). w.made) one.writer_is ∙ (new.each place writer below).made;
        none_told = one.none_told;
        none_taken = one.none_taken;
      }

  pub new_lines : AreNewLines lines
  new_lines place fallback low =
      let n = opened.line_count in
      let below : place < length writers = omega (arith, low, n) in
      let n2 = opened.worker_count in
      let one = opened.each place (some_item writers place below) (some_item workers place (omega (arith, below, n2))) fallback below in
      (one.none_heard, one.none_led)

module _ {gave : Call → Answer → Type 0} {ring : RingIs} (scripts : List (List (List Kind))) {rules : Rules} {bounds : List ℕ} {front : Front}
    {writers : List WriterIs} {workers : List Worker} {lines lines_after : List Line} (backs : List Back)
    (opened : AreOpened writers workers lines) (led : HasLedTo rules (length bounds + 1) bounds front lines lines_after)
    (writer_count : length writers ≡ length scripts) (back_count : length backs ≡ length writers)
    (on : (place : ℕ) (d : Back) → place < length writers
    → HasPlayedOn gave ring (script_at scripts place) (get_or workers place d.0) (get_or backs place d).1 (get_or backs place d).0) where
  pub pairs : ArePairs (map (λ (one : Back). one.0) backs) lines_after
  pairs place a b low =
      let m = length-map backs (λ (one : Back). one.0) in
      let below : place < length writers = omega (arith, low, m, back_count) in
      let d : Back = (a, None) in
      let n = opened.line_count in
      let one = opened.each place (some_item writers place below) a b below in
      let played = on place d below in
      let line = led.lines place b (omega (arith, below, n)) in
      let is : get_or (map (λ (one : Back). one.0) backs) place a ≡ (get_or backs place d).0
      = get_or-map (λ (one : Back). one.0) backs place d a (omega (arith, below, back_count)) in
      subst (λ (w : Worker). IsPairOf w (get_or lines_after place b)) (sym is) (record {
        up = pair-then (get_or workers place a).up (get_or backs place d).0.up (get_or lines place b).up (get_or lines_after place b).up one.up
            played.same.up line.up;
        down = pair-then (get_or lines place b).down (get_or lines_after place b).down (get_or workers place a).down (get_or backs place d).0.down one.down
            line.down played.same.down;
      })

  module _ (closed : AreClosed (map (λ (one : Back). one.0) backs) lines_after) where
    closed_at : (place : ℕ) (d : Back) (b : Line) → place < length writers
        → HasPlayedLast gave (script_at scripts place) bounds (get_or backs place d).0.writer.made (get_or backs place d).1 (get_or backs place d).0.writer
        × (received (get_or lines_after place b).up ≡ sent (get_or backs place d).0.up)
    closed_at place d b below =
        let m = length-map backs (λ (one : Back). one.0) in
        let n = opened.line_count in
        let is : get_or (map (λ (one : Back). one.0) backs) place d.0 ≡ (get_or backs place d).0
        = get_or-map (λ (one : Back). one.0) backs place d d.0 (omega (arith, below, back_count)) in
        let shut : IsClosed (get_or backs place d).0 (get_or lines_after place b)
        = subst (λ (w : Worker). IsClosed w (get_or lines_after place b)) is (closed place d.0 b (omega (arith, m, below, back_count))) in
        played-closed gave ring (script_at scripts place) bounds (get_or workers place d.0) (get_or backs place d).0 (get_or backs place d).1
        (get_or lines place b) (get_or lines_after place b) shut.left shut.unheard (on place d below)
        (led.lines place b (omega (arith, below, n))) shut.taken_all shut.heard_all

    pub is_after-gathered : (reader : ReaderIs) → ReaderOf ring reader → AreNewWriters ring writers
        → IsAfter rules gave ring scripts bounds reader front (map (λ (one : Back). one.0.writer) backs) (map (λ (one : Back). one.1) backs)
    is_after-gathered reader reader_of new =
        let writer_map = length-map backs (λ (one : Back). one.0.writer) in
        let stop_map = length-map backs (λ (one : Back). one.1) in
        let low_back : (place : ℕ) → place < length (map (λ (one : Back). one.0.writer) backs) → place < length backs
        = λ place low. (omega (arith, low, writer_map)) in
        record {
          reader_of = reader_of;
          of_ring = λ place fallback low.
              let d = some_item backs place (low_back place low) in
              let is = get_or-map (λ (one : Back). one.0.writer) backs place d fallback (low_back place low) in
              subst (WriterOf ring) (sym is) (on place d (omega (arith, low, writer_map, back_count))).of_ring;
          order = λ place fallback low.
              let d = some_item backs place (low_back place low) in
              let below : place < length writers = omega (arith, low, writer_map, back_count) in
              let n = opened.line_count in
              let is = get_or-map (λ (one : Back). one.0.writer) backs place d fallback (low_back place low) in
              let one = opened.each place fallback d.0 (some_item lines place (omega (arith, below, n))) below in
              ap (λ (w : WriterIs). w.number.number) is ∙ ap (λ (ix : Ix). ix.number) (on place d below).same.number
              ∙ ap (λ (w : WriterIs). w.number.number) one.writer_is ∙ (new.each place fallback below).numbered;
          stop_count = stop_map ∙ back_count ∙ writer_count;
          played = record {
            counted = writer_map ∙ back_count ∙ writer_count;
            each = λ thread fallback low.
                let below : thread < length writers = omega (arith, low, writer_count) in
                let back_low : thread < length backs = omega (arith, below, back_count) in
                let n = opened.line_count in
                let m = led.line_count in
                let d = some_item backs thread back_low in
                let line = some_item lines_after thread (omega (arith, below, n, m)) in
                let writer_is = get_or-map (λ (one : Back). one.0.writer) backs thread d fallback back_low in
                let stop_is = get_or-map (λ (one : Back). one.1) backs thread d None back_low in
                subst (λ (w : WriterIs). HasPlayedLast gave (script_at scripts thread) bounds w.made (get_or (map (λ (one : Back). one.1) backs) thread None) w)
                (sym writer_is)
                (subst (λ (s : Option Refused). HasPlayedLast gave (script_at scripts thread) bounds (get_or backs thread d).0.writer.made s
                (get_or backs thread d).0.writer) (sym stop_is) (closed_at thread d line below).0);
          };
          fits = led.fits;
          opaque = led.opaque;
        }

    pub some_stop-gathered : SomeToldStop (length lines) lines_after → SomeStop (map (λ (one : Back). one.1) backs)
    some_stop-gathered some =
        let place = some.place in
        let is_low = some.low in
        let n = opened.line_count in
        let m = led.line_count in
        let below : place < length writers = omega (arith, is_low, n) in
        let back_low : place < length backs = omega (arith, below, back_count) in
        let d = some_item backs place back_low in
        let line = some_item lines_after place (omega (arith, is_low, m)) in
        let told = some.stopped line in
        let played = on place d below in
        let whole : told.earlier ++ told.last ∷ [] ≡ played.earlier ++ played.last ∷ []
        = sym told.told ∙ (closed_at place d line below).1 ∙ played.sent_all in
        let one = length_push told.earlier told.last in
        let two = length_push played.earlier played.last in
        let long : length (told.earlier ++ told.last ∷ []) ≡ length (played.earlier ++ played.last ∷ []) = ap (λ (l : List RoundEnd). length l) whole in
        let same = last-same told.earlier played.earlier told.last played.last (omega (arith, one, two, long)) whole in
        let stop : (get_or backs place d).1 ≡ Some told.refused
        = sym played.stopped ∙ ap (λ (e : RoundEnd). e.stop) (sym same.1) ∙ told.stopped in
        let stop_map = length-map backs (λ (one : Back). one.1) in
        record {
          thread = place;
          low = omega (arith, back_low, stop_map);
          refused = told.refused;
          stopped = λ fallback. get_or-map (λ (one : Back). one.1) backs place d fallback back_low ∙ stop;
        }
