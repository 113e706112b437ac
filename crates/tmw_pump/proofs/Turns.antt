-- What a call has done, turn by turn: each turn judges one event more.
use Rattle.tmw_pump.proofs.Shared.{Event, Front, HasJudged, HasPumped, HasRested, HasTakenAll, IsRested, KeepsFit, List, PumpIs, ReaderIs, RestIs, [], all_of, append-nil, append_assoc, arith, length, length-append, length_push, refl, subst, sym, ℕ, ◌++◌, ◌+◌, ◌<◌, ◌^◌, ◌∷◌, ◌≡◌, ◌≤◌}
use Rattle.tmw_ring.specs.Take.{HasTaken}
use Rattle.tmw_pump.specs.declared.pumped.Pumped.{Pumped}

pub taken-append : (one two three : ReaderIs) (first second : List Event) → HasTakenAll one first two → HasTakenAll two second three
    → HasTakenAll one (first ++ second) three
taken-append one two three [] second same more = subst (λ (reader : ReaderIs). HasTakenAll reader second three) same more
taken-append one two three (event ∷ first) second (next, taken, rest) more =
    (next, taken, taken-append next two three first second rest more)

pub judged-none : (front : Front) → HasJudged 0 front front
judged-none front = record { more = []; counted = refl; judged = sym (append-nil front.judged.items); fits = λ by fits. fits }

pub judged-more : (count : ℕ) (old mid new : Front) (event : Event) → HasJudged count old mid
    → new.judged.items ≡ mid.judged.items ++ event ∷ [] → KeepsFit mid new → HasJudged (count + 1) old new
judged-more count old mid new event done one keeps =
    grind (arith, length_push, append_assoc)

-- A turn has taken an event and judged it.
pub pumped-more : (count : ℕ) (old : PumpIs) (reader next : ReaderIs) (mid new : Front) (event : Event) → HasPumped count old reader mid
    → HasTaken reader event next → new.judged.items ≡ mid.judged.items ++ event ∷ [] → KeepsFit mid new → HasPumped (count + 1) old next new
pumped-more count old reader next mid new event done took judged keeps = record {
  fresh = done.fresh ++ event ∷ [];
  taken = taken-append old.reader reader next done.fresh (event ∷ []) done.taken (next, took, refl);
  judged = judged-more count old.front mid new event done.judged judged keeps;
}

pub rested-more : (count : ℕ) (old : RestIs) (left rest : List Event) (mid new : Front) (event : Event)
    → HasRested count old (record { settled = left; front = mid }) → left ≡ event ∷ rest → new.judged.items ≡ mid.judged.items ++ event ∷ []
    → KeepsFit mid new → HasRested (count + 1) old (record { settled = rest; front = new })
rested-more count old left rest mid new event done next judged keeps =
    grind (arith, judged-more, append_assoc)

-- What was judged and what is left have few events in all.
abbrev pub IsFew : RestIs → Type 0
IsFew rest = length rest.front.judged.items + length rest.settled ≤ 2 ^ 40

-- A call that was to judge more than a log can have has judged all.
pub all_judged : (max : ℕ) (pumped : Pumped) (old new : RestIs) → 2 ^ 40 < max → IsFew new → IsRested max pumped old new
    → new.front.judged.items ≡ all_of old
all_judged max pumped old new wide few rested =
    grind (arith, length, length-append, all_of, append-nil)
