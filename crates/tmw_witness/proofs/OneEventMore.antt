-- What one event more makes of the views of a window's transactions: one of them turns, or one begins.
use Rattle.tmw_witness.proofs.Shared.{Ask, Begin, C, ExplainsWith, IsNext, List, PrecedesNone, Some, StandsFor, TurnsAt, View, Witness, [], and_parts, ap, append-nil, arith, asked_on, bit, bit_at, bit_within, completed_mask, count_of, ends_at, false, found-begun, found-moved, inl, inr, is_ended, is_over, left_out, length, length-views_of, live-next, moves, new_view, next_view, ops_of, place_of, pow-suc, refl, same_place, shown_bit, shows-views_of, slice_get, slice_get_some, slice_get_within, subst, sym, transactions, true, views, views_after, views_of, ℕ, ◌++◌, ◌<◌, ◌^◌, ◌∙◌, ◌∷◌, ◌≡◌, ◌≤◌}
use Rattle.tmw_witness.proofs.WitnessChanges.{left_out-kept, live-left_out}
use Rattle.tmw_cuts.proofs.TurnSteps.{found_lives, found_within}
use Rattle.tmw_cuts.proofs.Pushes.{views_of-push}
use Rattle.tmw_events.specs.declared.event.Kind.{Kind}
use Rattle.tmw_events.specs.declared.event.Event.{Event}
use Rattle.tmw_events.specs.declared.ix.Ix.{Ix}
use Rattle.tmw_cuts.specs.declared.turn.Move.{Move}
use Rattle.tmw_cuts.specs.declared.window.Window.{Window}
use Rattle.tmw_cuts.specs.Turns.{change}
use Rattle.tmw_cuts.proofs.OneChanged.{length-change, slice_get-change_here, slice_get-change_other}
use Rattle.tmw_cuts.proofs.Masks.{bit-le}

-- one that precedes another has completed
completed-before : (events : List Event) (p : ℕ) (x z : View) → slice_get (views_of events) p ≡ Some x
    → (i : ℕ) → slice_get (views_of events) i ≡ Some z → bit_at z.before p ≡ 1 → is_over x.status ≡ true
completed-before events p x z at i there one =
    let ts = transactions events in
    let shows = shows-views_of events in
    let (u, u_at) = slice_get_some ts i (let w = slice_get_within (views_of events) i z there in omega (arith, w, shows.same_length)) in
    let (t, t_at, before) = shown_bit ts z u p (shows.each i z u there u_at) one in
    rw ((shows.each p x t at t_at).status) (and_parts (is_ended t.text) _ before).0

-- one that is not over stands as it stood
pub turns-still : (events : List Event) (p : ℕ) (x : View) → slice_get (views_of events) p ≡ Some x → is_over x.status ≡ false
    → TurnsAt (views_of events) (views_of events) p x x
turns-still events p x at lives = record {
  same_length = refl;
  was = at;
  here = at;
  before = refl;
  others = λ i apart. refl;
  alone = λ i z there one.
      absurd (let k : true ≡ false = sym (completed-before events p x z at i there one) ∙ lives in cc);
}

-- what is shown with an event of the transaction at the move's place
pub views-turned : (events : List Event) (e : Event) (w : Window) (move : Move) (p : Ix) → StandsFor w events → IsNext w e move
    → place_of move ≡ Some p → views_of (events ++ e ∷ []) ≡ change p.number (next_view e.kind (ops_of move)) (views_of events)
views-turned events e w move p stands next at =
    let vs = views_of events in
    let told = found-moved events e w move p stands next at in
    views_of-push events e ∙ ap (λ g. views_after g e.kind (completed_mask vs) vs) told.1
    ∙ ap (λ ops. change p.number (next_view e.kind ops) vs) told.2

-- the transaction at the move's place turns: it becomes what it is with the event
pub turns-next : (events : List Event) (e : Event) (w : Window) (move : Move) (p : Ix) (x : View) → StandsFor w events → IsNext w e move
    → place_of move ≡ Some p → slice_get (views_of events) p.number ≡ Some x
    → TurnsAt (views_of events) (views_of (events ++ e ∷ [])) p.number x (next_view e.kind (ops_of move) x)
turns-next events e w move p x stands next at was =
    let vs = views_of events in
    let told = found-moved events e w move p stands next at in
    let f = next_view e.kind (ops_of move) in
    let pushed = views-turned events e w move p stands next at in
    let lives : is_over x.status ≡ false
    = found_lives e.thread.number (transactions events) (transactions events) _ x told.1 was in
    let none_before : PrecedesNone vs p.number = λ i z there one.
    absurd (let k : true ≡ false = sym (completed-before events p.number x z was i there one) ∙ lives in cc) in
    let here : slice_get (views_of (events ++ e ∷ [])) p.number ≡ Some (f x) = rw pushed (slice_get-change_here f vs p.number x was) in
    let others : (i : ℕ) → (i ≡ p.number → ⊥) → slice_get (views_of (events ++ e ∷ [])) i ≡ slice_get vs i
    = λ i apart. rw pushed (slice_get-change_other f vs p.number i apart) in
    record {
      same_length = rw pushed (length-change f vs p.number);
      was = was;
      here = here;
      before = refl;
      others = others;
      alone = λ i z there one. elim (same_place i p.number) [
        | inl same ↦
            let is : f x ≡ z = (let k = rw same at there in let m = here in cc) in
            none_before p.number x was (ap (λ (v : View). bit_at v.before p.number) is ∙ one)
        | inr apart ↦ none_before i z (sym (others i apart) ∙ there) one
      ];
    }

completed_mask-lt : (vs : List View) → completed_mask vs < 2 ^ length vs
completed_mask-lt [] = omega arith
completed_mask-lt (v ∷ vs) =
    let b : bit (is_over v.status) ≤ 1 = bit-le (is_over v.status) in
    let rest : completed_mask vs < 2 ^ length vs = completed_mask-lt vs in
    omega (arith, pow-suc 2 (length vs))

-- what is shown at the move's place, of the window before the event and with it
pub slot-shown : (events : List Event) (e : Event) (w : Window) (move : Move) (p : Ix) (x : View) → StandsFor w events → IsNext w e move
    → place_of move ≡ Some p → (p.number < count_of w → slice_get (views w) p.number ≡ Some x) → slice_get (views_of events) p.number ≡ Some x
slot-shown events e w move p x stands next at shown =
    let told = found-moved events e w move p stands next at in
    let low = found_within e.thread.number (transactions events) _ told.1 in
    let size = sym (length-views_of events) ∙ ap length (sym stands.shows) in
    ap (λ vs. slice_get vs p.number) (sym stands.shows) ∙ shown (omega (arith, low, size))

-- so some transaction turns
pub turned : (events : List Event) (e : Event) (w : Window) (move : Move) (p : Ix) → StandsFor w events → IsNext w e move
    → place_of move ≡ Some p
    → (x : View) × TurnsAt (views_of events) (views_of (events ++ e ∷ [])) p.number x (next_view e.kind (ops_of move) x)
turned events e w move p stands next at =
    let told = found-moved events e w move p stands next at in
    let low = found_within e.thread.number (transactions events) _ told.1 in
    let x = slice_get_some (views_of events) p.number (omega (arith, low, length-views_of events)) in
    (x.0, turns-next events e w move p x.0 stands next at x.1)

-- and is what the window then shows at the place
pub turned-shown : (events : List Event) (e : Event) (w new : Window) (move : Move) (p : Ix) (y : View) → StandsFor w events → IsNext w e move
    → place_of move ≡ Some p → StandsFor new (events ++ e ∷ []) → (p.number < count_of new → slice_get (views new) p.number ≡ Some y)
    → (x : View) × TurnsAt (views_of events) (views_of (events ++ e ∷ [])) p.number x y × (y ≡ next_view e.kind (ops_of move) x)
turned-shown events e w new move p y stands next at after shown =
    let (x, turns) = turned events e w move p stands next at in
    let low = slice_get_within (views_of (events ++ e ∷ [])) p.number _ turns.here in
    let there : slice_get (views_of (events ++ e ∷ [])) p.number ≡ Some y
    = ap (λ vs. slice_get vs p.number) (sym after.shows) ∙ shown (omega (arith, low, ap length after.shows)) in
    let is : next_view e.kind (ops_of move) x ≡ y = (let a = turns.here in let b = there in cc) in
    (x, subst (λ (v : View). TurnsAt (views_of events) (views_of (events ++ e ∷ [])) p.number x v) is turns, sym is)

-- where none was open for it, one begins
pub begun-pushed : (events : List Event) (e : Event) (w : Window) → StandsFor w events → IsNext w e Begin
    → views_of (events ++ e ∷ []) ≡ views_of events ++ new_view e.kind (completed_mask (views_of events)) ∷ []
begun-pushed events e w stands next =
    views_of-push events e ∙ ap (λ g. views_after g e.kind (completed_mask (views_of events)) (views_of events)) (found-begun events e w stands next).0

pub completed-within : (vs : List View) (j : ℕ) → bit_at (completed_mask vs) j ≡ 1 → j < length vs
completed-within vs j one = bit_within (completed_mask vs) (length vs) j (completed_mask-lt vs) one

-- an event that does not end its transaction commits none
pub no_commit : (kind : Kind) → ends_at kind ≡ false → kind ≡ C → ⊥
no_commit kind on is = let bad : true ≡ false = rw is at on in absurd (cc)

-- a call adds no operation, and who makes it was left out
pub asks-kept : (w : Witness) (window : Window) (e : Event) (p : Ix) → ExplainsWith w window e (Ask p)
asks-kept w window e p starts events stands next was known =
    let (x, turns) = turned events e window (Ask p) p stands next refl in
    left_out-kept starts (views_of events) _ x _ w p.number turns
    (live-left_out starts (views_of events) x w p.number (was known) turns.was (live-next events e window (Ask p) p x stands next refl refl turns.was))
    (inl (left_out e.kind (no_commit e.kind (asked_on e.kind (moves e window (Ask p) next).is.1)))) (λ reads. rw (append-nil x.ops) reads) was known
