-- A window stands for the events with one more, where it begins a transaction, asks, answers or ends.
use Rattle.tmw_cuts.proofs.Shared.{Answer, Ask, Begin, End, Event, Found, IsNext, Ix, Kind, List, Live, Move, None, Option, Registers, Some, StandsFor, T, Turn, Txn, View, Window, [], add_event, ap, arith, asks, begun_by, between, bit_or, cases_Bool, completed_mask, eqb-false, eqb-true, false, find_open, found_in, get_or-set_other, get_or-set_same, goes_on, if◌then◌else◌, inl, inr, is_cut, is_over, is_well_formed, is_well_formed-push, kept_in, length, length-map, list_all, list_all-map, mod-eq_of_lt, numbered, option_map, pow-suc, pow_mono, refl, slice_get, slice_set, subst, sym, transactions, transactions-push, true, turn_at, txns_of, view, view_of, views, views_of, ℕ, ◌%◌, ◌*◌, ◌++◌, ◌+◌, ◌<◌, ◌==◌, ◌^◌, ◌∙◌, ◌∷◌, ◌≡◌, ◌≤◌}
use Rattle.tmw_cuts.proofs.NextViews.{answered_ops, call_in, found_after, is_end, ops_of, place_of, views_after}
use Rattle.tmw_cuts.proofs.Moves.{Is, Means, accepts, asked_on, ends_at}
use Rattle.tmw_cuts.proofs.Pushes.{views_of-push}
use Rattle.tmw_cuts.proofs.TurnSteps.{call-found, closed, find_open-other, find_open-own, found_live, masks-push, place_in}

pub length-views_of : (events : List Event) → length (views_of events) ≡ length (transactions events)
length-views_of events = length-map (transactions events) (view_of (transactions events))

-- the number of transactions with one event more
abbrev added : Found → ℕ
added None = 1
added (Some f) = 0

length-add : (n : ℕ) (e : Event) (ts : List Txn) → length (add_event n e ts) ≡ length ts + added (find_open e.thread.number ts)
length-add n e [] = refl
length-add n e (t ∷ ts) = let more = length-add n e ts in grind arith

added-moved : (kept : Option (Ix × Option Kind)) (k : Kind) (m : Move) → Means kept k m → added (option_map numbered kept) ≡ begun_by m
added-moved kept k m means = grind arith

-- as many transactions are kept as there are
kept_length : (events : List Event) (w : Window) → StandsFor w events → length (txns_of w) ≡ length (transactions events)
kept_length events w stands =
    sym (length-map (txns_of w) view) ∙ ap length stands.shows ∙ length-views_of events

-- what is had of the threads' turns is had with the event, where only its thread's turn is another
pub turns-push : {X : Type 0} (of : Found → X) (h : List Event) (e : Event) (old new : Window) (next : Turn)
    → ((t : ℕ) → t < 8 → of (found_in (turn_at old t)) ≡ of (find_open t (transactions h)))
    → length old.turns ≡ 8 → new.turns ≡ slice_set old.turns e.thread.number next
    → of (found_in next) ≡ of (found_after (find_open e.thread.number (transactions h)) (length (transactions h)) e.kind)
    → (t : ℕ) → t < 8 → of (found_in (turn_at new t)) ≡ of (find_open t (transactions (h ++ e ∷ [])))
turns-push of h e old new next were long one_turn found t below =
    elim (cases_Bool (e.thread.number == t)) [
      | inl is ↦
          rw (← eqb-true e.thread.number t is, one_turn, get_or-set_same old.turns e.thread.number next between (omega (arith, e.thread.below, long)))
          (found ∙ ap of (sym (find_open-own h e)))
      | inr away ↦
          rw (one_turn, get_or-set_other old.turns e.thread.number t next between (λ is. eqb-false e.thread.number t away (sym is)))
          (were t below ∙ ap of (sym (find_open-other t h e away)))
    ]

-- what the move says of the event
pub moves : (e : Event) (w : Window) (move : Move) → IsNext w e move → Is w.registers.number (kept_in (turn_at w e.thread.number)) e.kind move
moves e w move next = accepts w.registers.number (kept_in (turn_at w e.thread.number)) e.kind move next.has next.moves

-- the events stay well-formed
pub formed-next : (events : List Event) (e : Event) (w : Window) (move : Move) → StandsFor w events → IsNext w e move
    → is_well_formed w.registers.number (events ++ e ∷ []) ≡ true
formed-next events e w move stands next =
    let t = e.thread.number in
    is_well_formed-push w.registers.number events e stands.formed
    ∙ ap (λ p. goes_on w.registers.number p e.kind) (sym (call-found t (transactions events)))
    ∙ ap (λ f. goes_on w.registers.number (call_in f) e.kind) (sym (stands.turns t e.thread.below))
    ∙ (moves e w move next).goes

-- the window stands for the events with one more, where it shows that, and what is kept of its thread was this
pub stands-with : (events : List Event) (e : Event) (old new : Window) (next : Turn) (move : Move) (kept : Option (Ix × Option Kind))
    → StandsFor old events → IsNext old e move → kept_in (turn_at old e.thread.number) ≡ kept
    → length old.turns ≡ 8
    → place_in (option_map numbered kept) (length (txns_of old)) < 8
    → new.registers ≡ old.registers
    → new.turns ≡ slice_set old.turns e.thread.number next
    → found_in next ≡ found_after (option_map numbered kept) (length (txns_of old)) e.kind
    → views new ≡ views_after (option_map numbered kept) e.kind old.completed (views old)
    → new.completed
    ≡ (if ends_at e.kind then bit_or old.completed (1 * 2 ^ place_in (option_map numbered kept) (length (txns_of old)) % 2 ^ 8) else old.completed)
    → StandsFor new (events ++ e ∷ [])
stands-with events e old new next move kept stands is at long low same one_turn found shows masks =
    let here : option_map numbered kept ≡ find_open e.thread.number (transactions events)
    = ap (option_map numbered) (sym at) ∙ stands.turns e.thread.number e.thread.below in
    let len : length (txns_of old) ≡ length (transactions events) = kept_length events old stands in
    record {
      formed = subst (λ (r : Registers). is_well_formed r.number (events ++ e ∷ []) ≡ true) (sym same) (formed-next events e old move stands is);
      turns = turns-push (λ g. g) events e old new next stands.turns long one_turn (rw (← here, ← len) found);
      shows = rw (views_of-push events e, ← here, ← stands.masks, ← stands.shows) shows;
      masks = masks ∙ rw (← stands.masks) at (masks-push events e _ (rw (← here, ← len) refl) low);
    }

-- a window that shows nothing, after a cut
pub cleared : (events : List Event) (old new : Window) → StandsFor old events → is_cut events ≡ true
    → ((t : ℕ) → turn_at new t ≡ turn_at old t) → views new ≡ [] → new.completed ≡ 0 → StandsFor new []
cleared events old new stands cut turns none completed = record {
  formed = refl;
  turns = λ t low. ap found_in (turns t) ∙ stands.turns t low ∙ closed t (transactions events) cut;
  shows = none;
  masks = completed;
}

-- the mask is full exactly where each has completed
full_mask : (vs : List View) → (completed_mask vs + 1 == 2 ^ length vs) ≡ list_all (λ v. is_over v.status) vs
full_mask [] = refl
full_mask (v ∷ vs) = let more = full_mask vs in grind (arith, pow-suc)

-- the events are at a cut where the mask is full
cut_views : (events : List Event) → (completed_mask (views_of events) + 1 == 2 ^ length (transactions events)) ≡ is_cut events
cut_views events =
    rw (length-views_of events) at (full_mask (views_of events))
    ∙ list_all-map (λ v. is_over v.status) (view_of (transactions events)) (transactions events)

-- the shift of as many places loses no bit
shift_small : (n : ℕ) → n ≤ 8 → 1 * 2 ^ n % 2 ^ 32 ≡ 2 ^ n
shift_small n few = grind (arith, mod-eq_of_lt, (pow_mono {i = n} {j = 8} few))

pub cut_shift : (events : List Event) (w : Window) → StandsFor w events → length (txns_of w) ≡ w.count → w.count ≤ 8
    → (w.completed + 1 == 1 * 2 ^ w.count % 2 ^ 32) ≡ is_cut events
cut_shift events w stands len few =
    rw (shift_small w.count few, ← len, stands.masks, kept_length events w stands) (cut_views events)

-- the event's transaction was open at the move's place, and its call and the event make the move's operations
pub found-moved : (events : List Event) (e : Event) (w : Window) (move : Move) (p : Ix) → StandsFor w events → IsNext w e move → place_of move ≡ Some p
    → (call : Option Kind) × (find_open e.thread.number (transactions events) ≡ Some (p.number, call)) × (answered_ops call e.kind ≡ ops_of move)
found-moved events e w move p stands next at = means move at (moves e w move next).is
  where
    told : (k : Ix × Option Kind) → kept_in (turn_at w e.thread.number) ≡ Some k → find_open e.thread.number (transactions events) ≡ Some (numbered k)
    told k is = sym (stands.turns e.thread.number e.thread.below) ∙ ap (option_map numbered) is

    means : (m : Move) → place_of m ≡ Some p → Means (kept_in (turn_at w e.thread.number)) e.kind m
        → (call : Option Kind) × (find_open e.thread.number (transactions events) ≡ Some (p.number, call)) × (answered_ops call e.kind ≡ ops_of m)
    means Begin is m = cc
    means (Ask q) is m = let k = told (q, None) m.0 in (None, grind arith, refl)
    means (Answer q op) is m = let k = told (q, Some m.0) m.1.0 in (Some m.0, grind arith, m.1.1.0)
    means (End q) is m = let k = told (q, Some m.0) m.1.0 in (Some m.0, grind arith, m.1.1.0)

-- none was open for it, where it begins one
pub found-begun : (events : List Event) (e : Event) (w : Window) → StandsFor w events → IsNext w e Begin
    → (find_open e.thread.number (transactions events) ≡ None) × (asks e.kind ≡ true)
found-begun events e w stands next =
    let (none, asked) = (moves e w Begin next).is in
    (sym (stands.turns e.thread.number e.thread.below) ∙ ap (option_map numbered) none, asked)

-- how many transactions there are with it
pub grows : (events : List Event) (e : Event) (w : Window) (move : Move) → StandsFor w events → IsNext w e move
    → length (transactions (events ++ e ∷ [])) ≡ length (transactions events) + begun_by move
grows events e w move stands next =
    rw (transactions-push events e, length-add (length events) e (transactions events), ← stands.turns e.thread.number e.thread.below)
    (ap (λ n. length (transactions events) + n) (added-moved _ e.kind move (moves e w move next).is))

found_still : (kept : Option (Ix × Option Kind)) (k : Kind) (m : Move) (f : Found) (n : ℕ) → Means kept k m → is_end m ≡ false
    → found_after f n k ≡ None → ⊥
found_still kept k m f n means goes none = grind (arith, asked_on)

-- an event that ends no transaction leads to no cut
pub uncut-next : (events : List Event) (e : Event) (w : Window) (move : Move) → StandsFor w events → IsNext w e move → is_end move ≡ false
    → is_cut (events ++ e ∷ []) ≡ false
uncut-next events e w move stands next goes =
    elim (cases_Bool (is_cut (events ++ e ∷ []))) [
      | inl cut ↦ absurd (
          found_still _ e.kind move _ _ (moves e w move next).is goes
          (sym (find_open-own events e) ∙ closed e.thread.number (transactions (events ++ e ∷ [])) cut))
      | inr uncut ↦ uncut
    ]

-- the events are at a cut with one that ends a transaction where the mask is full with its place
pub cut_with : (events : List Event) (e : Event) (w : Window) (p : Ix) → StandsFor w events → IsNext w e (End p) → length (txns_of w) ≡ w.count
    → w.count ≤ 8 → (bit_or w.completed (1 * 2 ^ p.number % 2 ^ 8) + 1 == 1 * 2 ^ w.count % 2 ^ 32) ≡ is_cut (events ++ e ∷ [])
cut_with events e w p stands is len few =
    let (c, (kept, (makes, over))) = (moves e w (End p) is).is in
    let found : find_open e.thread.number (transactions events) ≡ Some (p.number, Some c)
    = sym (stands.turns e.thread.number e.thread.below) ∙ ap (option_map numbered) kept in
    let mask = rw over at (masks-push events e p.number (rw found refl) p.below) in
    let size : w.count ≡ length (transactions (events ++ e ∷ [])) = omega (arith, len, kept_length events w stands, grows events e w (End p) stands is) in
    rw (shift_small w.count few, stands.masks, mask, size) (cut_views (events ++ e ∷ []))

-- the event's transaction is live before it, unless the event ends it
pub live-next : (events : List Event) (e : Event) (w : Window) (move : Move) (p : Ix) (v : View) → StandsFor w events → IsNext w e move
    → place_of move ≡ Some p → is_end move ≡ false → slice_get (views_of events) p.number ≡ Some v → v.status ≡ Live
live-next events e w move p v stands next at goes shown =
    let (call, kept, other) = means move at goes (moves e w move next).is in
    let ts = transactions events in
    let found : find_open e.thread.number ts ≡ Some (p.number, call)
    = sym (stands.turns e.thread.number e.thread.below) ∙ ap (option_map numbered) kept in
    found_live w.registers.number e.thread.number ts ts (p.number, call) v stands.formed found other shown
  where
    means : (m : Move) → place_of m ≡ Some p → is_end m ≡ false → Means (kept_in (turn_at w e.thread.number)) e.kind m
        → (call : Option Kind) × (kept_in (turn_at w e.thread.number) ≡ Some (p, call)) × (call ≡ Some T → ⊥)
    means Begin is on m = cc
    means (Ask q) is on m = (None, grind arith, λ none. cc)
    means (Answer q op) is on m = let makes = m.1.1.0 in (Some m.0, grind arith, λ asks. grind arith)
    means (End q) is on m = cc
