-- What the leader has heard and told, from one worker to the next.
use Rattle.tmw_bench.proofs.Shared.{All, All-append, All-cons, All-nil, All-take, AllOpaque, AllToldEnd, AreNewLines, Fits, Front, HasGoneOn, HasHeard, HasJudged, HasLedTo, HasToldEnd, HasToldStop, HaveHeardUpTo, HaveToldUpTo, IsVerdict, Line, List, None, OpaqueSoFar, Option, Refused, RoundEnd, Rules, SameConsumer, SameProducer, Some, SomeToldStop, [], all_opaque-append, all_opaque-round, ap, append_assoc, arith, cases_lt, get_or, get_or-set_other, get_or-set_same, inl, inr, judged-none, length, length-append, length-set, length_push, received, rules, sent, set, subst, sym, take, take-append-le, take_all, ℕ, ◌++◌, ◌+◌, ◌<◌, ◌∙◌, ◌∷◌, ◌≡◌, ◌≢◌}
use Rattle.std.specs.Option.{IsSome}
use Rattle.std.proofs.Math.Nat.{ne_of_lt}
use Rattle.tmw_workers.proofs.Between.{up-then, down-then}
use Rattle.tmw_pump.specs.declared.keep.Keep.{Ghosts}
use Rattle.tmw_pump.specs.declared.pump.Pump.{Pump}

-- The pump goes on.
judged-then : (one two : ℕ) (old mid new : Front) → HasJudged one old mid → HasJudged two mid new → HasJudged (one + two) old new
judged-then one two old mid new first second = grind (arith, length-append, length, append_assoc)

module _ {K N : Type 0} {G : Ghosts K N} where
  pub gone_on-none : (pump : Pump K N G) → HasGoneOn pump pump
  gone_on-none pump = record { count = 0; judged = judged-none pump.front; kept = λ rules was. was }

  pub gone_on-then : (old mid new : Pump K N G) → HasGoneOn old mid → HasGoneOn mid new → HasGoneOn old new
  gone_on-then old mid new one two = record {
    count = one.count + two.count;
    judged = judged-then one.count two.count old.front mid.front new.front one.judged two.judged;
    kept = λ rules was. two.kept rules (one.kept rules was);
  }

some_of : (stop : Option Refused) → IsSome stop → (refused : Refused) × (stop ≡ Some refused)
some_of stop is = grind arith

module _ (old now : List Line) (count : ℕ) (item next : Line) (ended : RoundEnd) (low : count < length now)
    (is : (fallback : Line) → get_or now count fallback ≡ item) (heard : HasHeard ended item next) where
  other : (place : ℕ) (fallback : Line) → place ≢ count → get_or (set now count next) place fallback ≡ get_or now place fallback
  other place fallback apart = get_or-set_other now count place next fallback apart

  here : (fallback : Line) → get_or (set now count next) count fallback ≡ next
  here fallback = get_or-set_same now count next fallback low

  pub heard-next : HaveHeardUpTo count old now → HaveHeardUpTo (count + 1) old (set now count next)
  heard-next so_far = record {
    counted = length-set now count next ∙ so_far.counted;
    each = λ place fallback below.
        elim (cases_lt place count) [
          | inl before ↦
              subst (λ (line : Line). (e : RoundEnd) × HasHeard e (get_or old place fallback) line) (sym (other place fallback (ne_of_lt before)))
              (so_far.each place fallback before)
          | inr past ↦
              let same : count ≡ place = omega (arith, below, past) in
              let was : item ≡ get_or old count fallback = sym (is fallback) ∙ so_far.rest count fallback (omega arith) in
              subst (λ (n : ℕ). (e : RoundEnd) × HasHeard e (get_or old n fallback) (get_or (set now count next) n fallback)) same (
                ended,
                subst (λ (line : Line). HasHeard ended (get_or old count fallback) line) (sym (here fallback))
                    (subst (λ (line : Line). HasHeard ended line next) was heard),
              )
        ];
    rest = λ place fallback from.
        other place fallback (λ same. absurd (omega (arith, from, same))) ∙ so_far.rest place fallback (omega (arith, from));
  }

  pub some_stop-here : IsSome ended.stop → SomeToldStop (count + 1) (set now count next)
  some_stop-here is_some = let some = some_of ended.stop is_some in record {
    place = count;
    low = omega arith;
    stopped = λ fallback. subst HasToldStop (sym (here fallback)) (record {
      earlier = received item.up;
      last = ended;
      refused = some.0;
      told = heard.heard;
      stopped = some.1;
    });
  }

  pub some_stop-later : SomeToldStop count now → SomeToldStop (count + 1) (set now count next)
  some_stop-later some = grind (arith, other, ne_of_lt)

  pub all_end-next : ended.stop ≡ None → AllToldEnd count now → AllToldEnd (count + 1) (set now count next)
  all_end-next none so_far place fallback below =
      elim (cases_lt place count) [
        | inl before ↦ subst HasToldEnd (sym (other place fallback (ne_of_lt before))) (so_far place fallback before)
        | inr past ↦
            let same : count ≡ place = omega (arith, below, past) in
            subst (λ (n : ℕ). HasToldEnd (get_or (set now count next) n fallback)) same
            (subst HasToldEnd (sym (here fallback)) (record { earlier = received item.up; last = ended; told = heard.heard; ended = none }))
      ]

-- The worker was not stopped at the end of which it has told.
abbrev HasEnded : RoundEnd → Type 0
HasEnded end = end.stop ≡ None

-- It has told one end more than these, all of them of whole rounds.
ended-more : (told earlier : List RoundEnd) (last : RoundEnd) (count : ℕ) → told ≡ earlier ++ last ∷ [] → length told ≡ count + 1
    → All HasEnded (take count told) → last.stop ≡ None → All HasEnded told
ended-more told earlier last count is long so_far ended =
    let n : length earlier + 1 ≡ count + 1 = sym (length_push earlier last) ∙ ap (λ (l : List RoundEnd). length l) (sym is) ∙ long in
    let cut : take count told ≡ earlier
    = ap (λ (l : List RoundEnd). take count l) is ∙ take-append-le count earlier (last ∷ []) (omega (arith, n)) ∙ take_all count earlier (omega (arith, n)) in
    subst (λ (l : List RoundEnd). All HasEnded l) (sym is)
    (All-append HasEnded earlier (last ∷ []) (subst (λ (l : List RoundEnd). All HasEnded l) cut so_far)
    (All-cons HasEnded last [] ended (All-nil HasEnded)))

module _ (rules : Rules) (bounds : List ℕ) (first old new : List Line) (before after : Front) (more : ℕ) where
  -- all have told that one round more has ended
  pub led-heard : HasLedTo rules (length bounds) bounds before first old → HaveHeardUpTo (length old) old new → HasJudged more before after
      → HasLedTo rules (length bounds + 1) bounds after first new
  led-heard led heard goes_on = record {
    line_count = heard.counted ∙ led.line_count;
    lines = λ place fallback low.
        let line = led.lines place fallback low in
        let one = (heard.each place fallback (let n = led.line_count in omega (arith, n, low))).1 in
        let more : length (received (get_or new place fallback).up) ≡ length (received (get_or old place fallback).up) + 1
        = ap (λ (l : List RoundEnd). length l) one.heard ∙ length_push (received (get_or old place fallback).up)
        (heard.each place fallback (let n = led.line_count in omega (arith, n, low))).0 in
        record {
          up = down-then (get_or first place fallback).up (get_or old place fallback).up (get_or new place fallback).up line.up one.up;
          down = subst (SameProducer (get_or first place fallback).down) (sym one.down) line.down;
          told = ap sent one.down ∙ line.told;
          heard = let so_far = line.heard in omega (arith, more, so_far);
          ended =
              let same = ap (λ (l : List RoundEnd). take (length bounds) l) one.heard
              ∙ take-append-le (length bounds) (received (get_or old place fallback).up)
              ((heard.each place fallback (let n = led.line_count in omega (arith, n, low))).0 ∷ []) (let so_far = line.heard in omega (arith, so_far)) in
              subst (λ (l : List RoundEnd). All HasEnded l) (sym same) line.ended;
        };
    fits = goes_on.fits rules led.fits;
    opaque = subst (AllOpaque rules bounds) (sym goes_on.judged) (all_opaque-append rules bounds before.judged.items goes_on.more led.opaque);
  }

  -- more is judged
  pub led-on : (count : ℕ) → HasLedTo rules count bounds before first old → HasJudged more before after → HasLedTo rules count bounds after first old
  led-on count led goes_on = grind (arith, rules, all_opaque-append)

-- all were told where the round has ended
pub led-told : (rules : Rules) (bounds : List ℕ) (bound : ℕ) (first old new : List Line) (front : Front)
    → HasLedTo rules (length bounds + 1) bounds front first old → length front.judged.items ≡ bound → IsVerdict rules front.judged.items OpaqueSoFar
    → HaveToldUpTo bound (length old) old new → AllToldEnd (length old) old → HasLedTo rules (length bounds + 1) (bound ∷ bounds) front first new
led-told rules bounds bound first old new front led is verdict told ended = record {
  line_count = told.counted ∙ led.line_count;
  lines = λ place fallback low.
      let line = led.lines place fallback low in
      let one = told.each place fallback (let n = led.line_count in omega (arith, n, low)) in
      record {
        up = subst (SameConsumer (get_or first place fallback).up) (sym one.up) line.up;
        down = up-then (get_or first place fallback).down (get_or old place fallback).down (get_or new place fallback).down line.down one.down;
        told = one.told ∙ ap (λ (l : List ℕ). l ++ bound ∷ []) line.told;
        heard = ap (λ line. length (received line)) one.up ∙ line.heard;
        ended =
            let end = ended place fallback (let n = led.line_count in omega (arith, n, low)) in
            subst (λ (l : List RoundEnd). All HasEnded (take (length (bound ∷ bounds)) l)) (ap received (sym one.up))
            (All-take HasEnded (length (bound ∷ bounds)) (received (get_or old place fallback).up)
            (ended-more (received (get_or old place fallback).up) end.earlier end.last (length bounds) end.told line.heard line.ended end.ended));
      };
  fits = led.fits;
  opaque = all_opaque-round rules bounds bound front.judged.items led.opaque (sym is) verdict;
}

-- at first
pub led-new : (rules : Rules) (lines : List Line) (front : Front) → AreNewLines lines → front.judged.items ≡ [] → Fits rules [] front.monitor
    → HasLedTo rules 0 [] front lines lines
led-new rules lines front new none fits = grind (arith, All-nil)
