-- What a transaction is after its next event, and what a handle holds where the event was refused.
use Rattle.tmw_c.proofs.Shared.{A, BadKind, BadRegister, Call, EndsTransaction, Follows, Full, GoesOn, HasNotAnswered, HasNotCalled, HeldRecorder, Holds, IsAnswering, IsAt, IsCalling, IsTurn, IsWholeText, LeavesCalls, List, Misfit, NotCall, Option, Spent, CallStatus, CTurn, [], answers, append_assoc, arith, drop, drop_all, false, get_or, inl, inr, is_abort, length, refl, subst, sym, true, ℕ, ◌++◌, ◌+◌, ◌<◌, ◌∙◌, ◌∷◌, ◌≡◌, rules}
use Rattle.tmw_events.specs.declared.event.Kind.{Kind}
use Rattle.tmw_runs.proofs.LeavesCalls.{leaves-aborted, leaves-answered, whole-text}

-- the call that is due
pub after-call : (count : ℕ) (call : Kind) (turn next : CTurn) → turn.place < count → turn.phase ≡ 0 → next.place ≡ turn.place
    → next.phase ≡ 1 → GoesOn count call call turn next
after-call count call turn next low due same asked calls kinds long is follows = grind arith

-- what it is that was not called, by the status
pub not-called : (calls : List Call) (old new : Option HeldRecorder) (turn : CTurn) (place : ℕ) → IsTurn 0 calls turn
    → (before after : HeldRecorder) → Holds old new before after → (call : Call) → IsAt calls turn call
    → (status : CallStatus) → HasNotCalled (length calls) turn call before after status → IsCalling calls old new turn turn place place status
not-called calls old new turn place due before after holds call is Full refused = search rules
not-called calls old new turn place due before after holds call is Spent refused = search rules
not-called calls old new turn place due before after holds call is BadKind refused =
    (record { turned = due; before = before; after = after; holds = holds; call = call; is = is; refused = refused }, refl, refl)
not-called calls old new turn place due before after holds call is BadRegister refused =
    (record { turned = due; before = before; after = after; holds = holds; call = call; is = is; refused = refused }, refl, refl)
not-called calls old new turn place due before after holds call is NotCall refused =
    (record { turned = due; before = before; after = after; holds = holds; call = call; is = is; refused = refused }, refl, refl)
not-called calls old new turn place due before after holds call is _ refused = absurd refused

-- the calls with the one that waits and an answer behind it
with-answer : (calls : List Kind) (place : ℕ) (before kinds : List Kind) (answer : Kind) → kinds ≡ before ++ get_or calls place A ∷ []
    → kinds ++ answer ∷ [] ≡ before ++ get_or calls place A ∷ answer ∷ []
with-answer calls place before kinds answer was = grind (arith, append_assoc)

-- whichever call the answer fits
abbrev pub AnyGoesOn : (count : ℕ) → (answer : Kind) → (old new : CTurn) → Type 0
AnyGoesOn count answer old new = (call : Kind) → answers call answer ≡ true → GoesOn count call answer old new

-- the answer is an abort event
pub after-abort : (count : ℕ) (answer : Kind) (turn next : CTurn) → turn.phase ≡ 1 → turn.place < count → is_abort answer ≡ true
    → next.phase ≡ 2 → AnyGoesOn count answer turn next
after-abort count answer turn next asked low aborts over call fits calls kinds long is follows =
    let (below, before, was, leaves) = subst (λ (phase : ℕ). Follows calls turn.place phase kinds) asked follows in
    let fit : answers (get_or calls turn.place A) answer ≡ true = subst (λ (k : Kind). answers k answer ≡ true) (sym is) fits in
    let whole = leaves-aborted calls turn.place answer before below fit aborts leaves in
    let ended : IsWholeText calls (kinds ++ answer ∷ [])
    = subst (λ (k : List Kind). IsWholeText calls k) (sym (with-answer calls turn.place before kinds answer was)) whole
    in
    subst (λ (phase : ℕ). Follows calls next.place phase (kinds ++ answer ∷ [])) (sym over) ended

-- the answer is another, and leaves the later calls
leaves-later : (count : ℕ) (answer : Kind) (turn : CTurn) → turn.phase ≡ 1 → turn.place < count → is_abort answer ≡ false
    → (call : Kind) → answers call answer ≡ true → (calls kinds : List Kind) → length calls ≡ count → get_or calls turn.place A ≡ call
    → Follows calls turn.place turn.phase kinds → LeavesCalls calls (kinds ++ answer ∷ []) (drop (turn.place + 1) calls)
leaves-later count answer turn asked low goes call fits calls kinds long is follows =
    let (below, before, was, leaves) = subst (λ (phase : ℕ). Follows calls turn.place phase kinds) asked follows in
    let fit : answers (get_or calls turn.place A) answer ≡ true = subst (λ (k : Kind). answers k answer ≡ true) (sym is) fits in
    let later = leaves-answered calls turn.place answer before below fit goes leaves in
    subst (λ (k : List Kind). LeavesCalls calls k (drop (turn.place + 1) calls))
    (sym (with-answer calls turn.place before kinds answer was)) later

-- it answers the last call
pub after-last : (count : ℕ) (answer : Kind) (turn next : CTurn) → turn.phase ≡ 1 → turn.place < count → is_abort answer ≡ false
    → turn.place + 1 ≡ count → next.phase ≡ 2 → AnyGoesOn count answer turn next
after-last count answer turn next asked low goes last over call fits calls kinds long is follows =
    let later = leaves-later count answer turn asked low goes call fits calls kinds long is follows in
    grind (arith, leaves-later, drop_all, whole-text)

-- a further call is due
pub after-answer : (count : ℕ) (answer : Kind) (turn next : CTurn) → turn.phase ≡ 1 → turn.place < count → is_abort answer ≡ false
    → next.place ≡ turn.place + 1 → next.phase ≡ 0 → AnyGoesOn count answer turn next
after-answer count answer turn next asked low goes further due call fits calls kinds long is follows =
    grind (arith, leaves-later count answer turn asked low goes call fits calls kinds long is follows)

pub not-ended : (count place : ℕ) (answer : Kind) → is_abort answer ≡ false → (place + 1 ≡ count → ⊥) → EndsTransaction count place answer → ⊥
not-ended count place answer goes further (inl aborts) = absurd (cc (sym aborts ∙ goes))
not-ended count place answer goes further (inr last) = further last

-- what it is whose answer was not recorded, by the status
pub not-answered : (calls : List Call) (letter value place : ℕ) (old new : Option HeldRecorder) (turn : CTurn) → IsTurn 1 calls turn
    → (before after : HeldRecorder) → Holds old new before after → (call : Call) → IsAt calls turn call → (status : CallStatus)
    → HasNotAnswered call letter value before after status → IsAnswering calls letter value old new turn turn place place status
not-answered calls letter value place old new turn waits before after holds call is Full refused = search rules
not-answered calls letter value place old new turn waits before after holds call is Spent refused = search rules
not-answered calls letter value place old new turn waits before after holds call is BadKind refused =
    (record { turned = waits; before = before; after = after; holds = holds; call = call; is = is; refused = refused }, refl, refl)
not-answered calls letter value place old new turn waits before after holds call is BadRegister refused =
    (record { turned = waits; before = before; after = after; holds = holds; call = call; is = is; refused = refused }, refl, refl)
not-answered calls letter value place old new turn waits before after holds call is Misfit refused =
    (record { turned = waits; before = before; after = after; holds = holds; call = call; is = is; refused = refused }, refl, refl)
not-answered calls letter value place old new turn waits before after holds call is _ refused = absurd refused
