-- A writer's places are cut by a length of the log: those before it are the places of the log up to there, and the others' kinds
-- are those of its thread from there on.
use Rattle.tmw_bench.proofs.Shared.{All, All-head, All-tail, Event, List, [], ap, arith, drop, kinds_of, length, length-take-le, made_from, refl, subst, sym, take, take-append-drop, ℕ, ◌++◌, ◌+◌, ◌<◌, ◌∙◌, ◌∷◌, ◌≡◌, ◌≤◌}
use Rattle.tmw_ring.specs.declared.seat_part.Made.{Made}
use Rattle.tmw_ring.specs.WriterKinds.{kinds_made}
use Rattle.tmw_pump.proofs.KindsMade.{kinds_made-made_from}
use Rattle.tmw_workers.proofs.MadeFrom.{earlier_made, later_made, made_from-append}

-- the items of one list, cut in two by the same bound, are cut at one place
same_parts : (bound : ℕ) (old fresh front back : List Made) → old ++ fresh ≡ front ++ back
    → All (λ made. made.place < bound) old → All (λ made. bound ≤ made.place) fresh
    → All (λ made. made.place < bound) front → All (λ made. bound ≤ made.place) back → (old ≡ front) × (fresh ≡ back)
same_parts bound [] fresh [] back same old_low fresh_high front_low back_high = (refl, same)
same_parts bound [] fresh (made ∷ front) back same old_low fresh_high front_low back_high =
    let moved : All (λ made. bound ≤ made.place) (made ∷ front ++ back) = subst (All (λ (made : Made). bound ≤ made.place)) same fresh_high in
    let high : bound ≤ made.place = All-head (λ (made : Made). bound ≤ made.place) made (front ++ back) moved in
    let low : made.place < bound = All-head (λ (made : Made). made.place < bound) made front front_low in
    absurd (omega (arith, high, low))
same_parts bound (made ∷ old) fresh [] back same old_low fresh_high front_low back_high =
    let moved : All (λ made. bound ≤ made.place) (made ∷ old ++ fresh) = subst (All (λ (made : Made). bound ≤ made.place)) (sym same) back_high in
    let high : bound ≤ made.place = All-head (λ (made : Made). bound ≤ made.place) made (old ++ fresh) moved in
    let low : made.place < bound = All-head (λ (made : Made). made.place < bound) made old old_low in
    absurd (omega (arith, high, low))
same_parts bound (made ∷ old) fresh (other ∷ front) back same old_low fresh_high front_low back_high =
    let heads : made ≡ other = cc in
    let tails : old ++ fresh ≡ front ++ back = cc in
    let rest = same_parts bound old fresh front back tails
    (All-tail (λ (m : Made). m.place < bound) made old old_low) fresh_high
    (All-tail (λ (m : Made). m.place < bound) other front front_low) back_high in
    let lists : made ∷ old ≡ other ∷ front = ap (λ (m : Made). m ∷ old) heads ∙ ap (λ (ms : List Made). other ∷ ms) rest.0 in
    (lists, rest.1)

pub cutting : (writer bound : ℕ) (log : List Event) (old fresh : List Made) → bound ≤ length log
    → made_from writer 0 log ≡ old ++ fresh → All (λ made. made.place < bound) old → All (λ made. bound ≤ made.place) fresh
    → (old ≡ made_from writer 0 (take bound log)) × (kinds_made fresh ≡ kinds_of writer (drop bound log))
cutting writer bound log old fresh within split old_low fresh_high =
    let front : length (take bound log) ≡ bound = length-take-le bound log within in
    let parts : made_from writer 0 log ≡ made_from writer 0 (take bound log) ++ made_from writer (0 + length (take bound log)) (drop bound log)
    = ap (made_from writer 0) (sym (take-append-drop bound log)) ∙ made_from-append writer 0 (take bound log) (drop bound log) in
    let both = same_parts bound old fresh (made_from writer 0 (take bound log)) (made_from writer (0 + length (take bound log)) (drop bound log))
    (sym split ∙ parts) old_low fresh_high
    (earlier_made writer 0 bound (take bound log) (omega (arith, front)))
    (later_made writer bound (0 + length (take bound log)) (drop bound log) (omega (arith, front))) in
    (both.0, ap kinds_made both.1 ∙ kinds_made-made_from writer (0 + length (take bound log)) (drop bound log))
