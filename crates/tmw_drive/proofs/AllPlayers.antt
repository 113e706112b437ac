-- All players, one of which does an entry of the order.
use Rattle.tmw_drive.proofs.Shared.{AllNew, AllPlay, Answer, Call, DoesEntry, Event, IsTrue, Kind, List, OnOk, Player, Plays, Result, [], ap, are_transactions, arith, cases_eq, get_or, get_or-set_other, get_or-set_same, inl, inr, kinds_of, length, length-set, plays-new, script_at, set, subst, sym, ℕ, ◌<◌, ◌∙◌, ◌≡◌}
use Rattle.tmw_drive.proofs.Entries.{kinds_of-entry_other}
use Rattle.tmw_events.specs.declared.ix.Ix.{Ix}

-- what follows from two facts about an answered call
pub on_ok : {T : Type 0} {E : Type 0} (P Q S : Type 0) (result : Result T E) → (P → Q → S) → OnOk result P → OnOk result Q → OnOk result S
on_ok P Q S result both p q = grind arith

-- new players and an empty log
pub all_play-new : (gives : Call → Answer → Type 0) (registers : ℕ) (scripts : List (List (List Kind))) (players : List Player)
    → ((thread : ℕ) → IsTrue (are_transactions registers (script_at scripts thread))) → AllNew (length scripts) players
    → AllPlay gives scripts players []
all_play-new gives registers scripts players asks new = record {
  counted = new.counted;
  numbered = λ thread fallback low. (new.each thread fallback low).numbered;
  each = λ thread fallback low.
      plays-new gives registers (script_at scripts thread) thread (get_or players thread fallback) (asks thread) (new.each thread fallback low);
}

-- the player of a thread that reads as this one has its number
pub numbered-read : (gives : Call → Answer → Type 0) (scripts : List (List (List Kind))) (players : List Player) (log : List Event)
    (place : ℕ) (player : Player) → AllPlay gives scripts players log → place < length players → player ≡ get_or players place player
    → player.thread.number ≡ place
numbered-read gives scripts players log place player all low is = grind arith

-- the player of one thread has done an entry
pub all_play-entry : (gives : Call → Answer → Type 0) (scripts : List (List (List Kind))) (players : List Player) (before after : List Event)
    (place : ℕ) (old new : Player) → AllPlay gives scripts players before → place < length players
    → old ≡ get_or players place old → new.thread ≡ old.thread → Plays gives (script_at scripts place) new (kinds_of old.thread.number after)
    → DoesEntry (script_at scripts place) old.thread.number before after → AllPlay gives scripts (set players place new) after
all_play-entry gives scripts players before after place old new all low is same plays entry =
    let own : old.thread.number ≡ place = numbered-read gives scripts players before place old all low is in
    record {
      counted = length-set players place new ∙ all.counted;
      numbered = λ thread fallback below. numbered_at own thread fallback (subst (λ n. thread < n) (length-set players place new) below);
      each = λ thread fallback below. plays_at own thread fallback (subst (λ n. thread < n) (length-set players place new) below);
    }
  where
    numbered_at : old.thread.number ≡ place → (thread : ℕ) (fallback : Player) → thread < length players
        → (get_or (set players place new) thread fallback).thread.number ≡ thread
    numbered_at own thread fallback below =
        elim (cases_eq thread place) [
          | inl here ↦
              ap (λ (p : Player). p.thread.number) (ap (λ n. get_or (set players place new) n fallback) here ∙ get_or-set_same players place new fallback low)
              ∙ ap (λ (ix : Ix). ix.number) same ∙ own ∙ sym here
          | inr apart ↦
              ap (λ (p : Player). p.thread.number) (get_or-set_other players place thread new fallback apart) ∙ all.numbered thread fallback below
        ]

    plays_at : old.thread.number ≡ place → (thread : ℕ) (fallback : Player) → thread < length players
        → Plays gives (script_at scripts thread) (get_or (set players place new) thread fallback) (kinds_of thread after)
    plays_at own thread fallback below =
        elim (cases_eq thread place) [
          | inl here ↦
              let now : get_or (set players place new) thread fallback ≡ new
              = ap (λ n. get_or (set players place new) n fallback) here ∙ get_or-set_same players place new fallback low
              in
              subst (λ (p : Player). Plays gives (script_at scripts thread) p (kinds_of thread after)) (sym now)
              (subst (λ n. Plays gives (script_at scripts n) new (kinds_of n after)) (sym here)
              (subst (λ n. Plays gives (script_at scripts place) new (kinds_of n after)) own plays))
          | inr apart ↦
              let now : get_or (set players place new) thread fallback ≡ get_or players thread fallback
              = get_or-set_other players place thread new fallback apart
              in
              let kinds : kinds_of thread after ≡ kinds_of thread before
              = kinds_of-entry_other (script_at scripts place) old.thread.number thread before after entry (λ one. apart (sym (sym own ∙ one)))
              in
              subst (λ (p : Player). Plays gives (script_at scripts thread) p (kinds_of thread after)) (sym now)
              (subst (λ (k : List Kind). Plays gives (script_at scripts thread) (get_or players thread fallback) k) (sym kinds) (all.each thread fallback below))
        ]
