-- Where the threads are in a whole history, and with an event more.
use Rattle.tmw_cuts.proofs.Shared.{Answer, Ask, Begin, End, Err, Event, Follows, Found, IsLater, IsNext, IsTrue, Ix, Kind, List, Malformed, Move, None, Option, Pairs, Refuses, Registers, Rejects, Some, StandsFor, Turns, Txn, Window, [], after_call, ap, arith, call_of, calls_in, false, find_open, found_in, goes_on, is_cut, is_ended, is_text, is_well_formed, is_well_formed-push, kept_in, lacks_register, length, list_all, list_all-append, live_of, numbered, option_map, pending_call, refl, refuses-from, subst, sym, transactions, true, turn_at, ℕ, ◌&&◌, ◌++◌, ◌∙◌, ◌∷◌, ◌≡◌}
use Rattle.tmw_cuts.proofs.NextViews.{call_in, found_after}
use Rattle.tmw_defs.proofs.CutsProof.{transactions-cut, behind, behind-later}
use Rattle.tmw_cuts.proofs.Moves.{Means, asked_on, rejects}
use Rattle.tmw_cuts.proofs.OneEventMore.{moves, turns-push}
use Rattle.tmw_cuts.proofs.TurnSteps.{call-found, calls-live}

call-calls : (f g : Found) → calls_in f ≡ calls_in g → call_in f ≡ call_in g
call-calls f g same = grind arith

-- the pending call of the event's thread is that of its turn
pending : (registers : ℕ) (h : List Event) (e : Event) (w : Window) → Follows registers h w
    → call_in (found_in (turn_at w e.thread.number)) ≡ pending_call e.thread.number h
pending registers h e w follows =
    call-calls _ _ (follows.calls e.thread.number e.thread.below) ∙ call-found e.thread.number (transactions h)

-- a window follows the events for which it stands
pub follows-events : (events : List Event) (w : Window) → StandsFor w events → Follows w.registers.number events w
follows-events events w stands = record {
  number = refl;
  formed = stands.formed;
  calls = λ thread below. ap calls_in (stands.turns thread below);
}

-- the event is refused
pub refused : (registers : ℕ) (h : List Event) (e : Event) (w : Window) (fault : Malformed) → Follows registers h w
    → lacks_register w.registers.number e.kind ≡ false
    → after_call (kept_in (turn_at w e.thread.number)) e.kind ≡ Err fault → Refuses registers h e fault
refused registers h e w fault follows has is =
    refuses-from registers h e fault follows.formed
    (subst (λ q. Rejects registers q e.kind fault) (pending registers h e w follows)
    (rejects registers (kept_in (turn_at w e.thread.number)) e.kind fault (ap (λ n. lacks_register n e.kind) (sym follows.number) ∙ has) is))

calls-after : (f g : Found) (n m : ℕ) (k : Kind) → calls_in f ≡ calls_in g → calls_in (found_after f n k) ≡ calls_in (found_after g m k)
calls-after f g n m k same = grind arith

-- the thread's calls after the move
abbrev pub called_by : Move → Kind → Option (Option Kind)
called_by Begin kind = Some (Some kind)
called_by (Ask p) kind = Some (Some kind)
called_by (Answer p op) kind = Some None
called_by (End p) kind = None

calls-moved : (kept : Option (Ix × Option Kind)) (kind : Kind) (move : Move) (n : ℕ) → Means kept kind move
    → calls_in (found_after (option_map numbered kept) n kind) ≡ called_by move kind
calls-moved kept kind move n means = grind (arith, asked_on)

-- the event is taken
pub follows-push : (registers : ℕ) (h : List Event) (e : Event) (old new : Window) (move : Move) (kept : Option (Ix × Option Kind))
    → Follows registers h old → IsNext old e move → length old.turns ≡ 8 → new.registers ≡ old.registers
    → Turns old.turns new.turns e.thread kept → calls_in (option_map numbered kept) ≡ called_by move e.kind
    → Follows registers (h ++ e ∷ []) new
follows-push registers h e old new move kept follows is long same (next, one_turn, at) called =
    let t = e.thread.number in
    let number : old.registers.number ≡ registers = follows.number in
    let told = moves e old move is in
    let goes : goes_on registers (call_in (found_in (turn_at old t))) e.kind ≡ true
    = ap (λ n. goes_on n (call_in (found_in (turn_at old t))) e.kind) (sym number) ∙ told.goes in
    let size = length (transactions h) in
    record {
      number = ap (λ (r : Registers). r.number) same ∙ number;
      formed = is_well_formed-push registers h e follows.formed ∙ ap (λ p. goes_on registers p e.kind) (sym (pending registers h e old follows)) ∙ goes;
      calls = turns-push calls_in h e old new next follows.calls long one_turn
          (ap (λ k. calls_in (option_map numbered k)) at ∙ called ∙ sym (calls-moved (kept_in (turn_at old t)) e.kind move size told.is)
          ∙ calls-after (found_in (turn_at old t)) (find_open t (transactions h)) size size e.kind (follows.calls t e.thread.below));
    }

live-behind : (t : ℕ) (ts us : List Txn) → IsTrue (list_all (λ u. is_ended u.text) ts) → live_of t (ts ++ us) ≡ live_of t us
live-behind t [] us ended = refl
live-behind t (u ∷ ts) us ended = grind (arith, (live-behind t ts us))

calls-later : (n t : ℕ) (ts us : List Txn) → Pairs (IsLater n) ts us
    → option_map (λ u. call_of u.text) (live_of t ts) ≡ option_map (λ u. call_of u.text) (live_of t us)
calls-later n t [] [] pairs = refl
calls-later n t (u ∷ ts) (v ∷ vs) pairs =
    let rest = calls-later n t ts vs pairs.1 in rw (pairs.0.thread, pairs.0.text) (grind arith)
calls-later n t _ _ pairs = absurd pairs

formed-later : (registers n : ℕ) (ts us : List Txn) → Pairs (IsLater n) ts us
    → list_all (λ t. is_text registers t.text) ts ≡ list_all (λ t. is_text registers t.text) us
formed-later registers n [] [] pairs = refl
formed-later registers n (t ∷ ts) (u ∷ us) pairs =
    rw pairs.0.text (ap (λ b. is_text registers u.text && b) (formed-later registers n ts us pairs.1))
formed-later registers n _ _ pairs = absurd pairs

-- a history over a cut is well-formed where what follows the cut is
pub formed-append : (registers : ℕ) (past rest : List Event) → IsTrue (is_cut past) → IsTrue (is_well_formed registers past)
    → is_well_formed registers (past ++ rest) ≡ is_well_formed registers rest
formed-append registers past rest cut formed =
    ap (list_all (λ t. is_text registers t.text)) (transactions-cut past rest cut)
    ∙ list_all-append (λ t. is_text registers t.text) (transactions past) (behind past rest)
    ∙ ap (λ b. b && list_all (λ t. is_text registers t.text) (behind past rest)) formed
    ∙ formed-later registers (length past) (behind past rest) (transactions rest) (behind-later past rest)

-- and a window that stands for what follows the cut follows the whole
pub follows-cut : (past rest : List Event) (w : Window) → IsTrue (is_cut past) → IsTrue (is_well_formed w.registers.number past)
    → StandsFor w rest → Follows w.registers.number (past ++ rest) w
follows-cut past rest w cut formed stands = record {
  number = refl;
  formed = formed-append w.registers.number past rest cut formed ∙ stands.formed;
  calls = λ thread below.
      ap calls_in (stands.turns thread below)
      ∙ calls-live thread (transactions rest)
      ∙ sym (calls-later (length past) thread (behind past rest) (transactions rest) (behind-later past rest))
      ∙ ap (option_map (λ u. call_of u.text)) (sym (live-behind thread (transactions past) (behind past rest) cut))
      ∙ ap (λ ts. option_map (λ u. call_of u.text) (live_of thread ts)) (sym (transactions-cut past rest cut))
      ∙ sym (calls-live thread (transactions (past ++ rest)));
}
