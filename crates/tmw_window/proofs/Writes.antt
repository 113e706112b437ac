-- A state of the run stays one under the writes and adds of a transaction.
use Rattle.tmw_window.proofs.Shared.{All-set, Bool, FitsKind, FitsRegisters, List, State, [], after_writes, and_parts, answers, ap, arith, drop-set-lt, ends, is_call, is_text, length-set, list_all, ltb-true, nat_lt, not, operations, refl, slice_set, true, ℕ, ◌%◌, ◌&&◌, ◌+◌, ◌<◌, ◌==◌, ◌^◌, ◌∙◌, ◌∷◌, ◌≡◌}
use Rattle.tmw_events.specs.declared.event.Kind.{Kind}
use Rattle.tmw_events.specs.declared.event.Kind.TheVariants.{W}
use Rattle.tmw_defs.specs.declared.op.Op.{Op}
use Rattle.tmw_defs.specs.declared.op.Op.TheVariants.{Read, Write, Add}

-- a value that is written is a number of 64 bits
abbrev pub writes_word : Kind → Bool
writes_word (W r v) = nat_lt v (2 ^ 64)
writes_word _ = true

pub word-kind : (kind : Kind) → FitsKind kind → writes_word kind ≡ true
word-kind kind fits = grind arith

-- an operation changes a register of the run alone, and to a number of 64 bits
abbrev pub is_kept : ℕ → Op → Bool
is_kept registers (Read r v) = true
is_kept registers (Write r v) = nat_lt r.number registers && nat_lt v (2 ^ 64)
is_kept registers (Add r d v) = nat_lt r.number registers

pub operations_kept : (registers : ℕ) (text : List Kind) → is_text registers text ≡ true → list_all writes_word text ≡ true
    → list_all (is_kept registers) (operations text) ≡ true
operations_kept registers [] formed words = refl
operations_kept registers (call ∷ []) formed words = refl
operations_kept registers (call ∷ answer ∷ []) formed words = grind arith
operations_kept registers (call ∷ answer ∷ next ∷ more) formed words =
    let formed_on = and_parts (is_call registers call && answers call answer && not (ends answer)) _ formed in
    let answered = and_parts (is_call registers call && answers call answer) _ formed_on.0 in
    let own = and_parts (is_call registers call) _ answered.0 in
    let word = and_parts (writes_word call) _ words in
    let more = operations_kept registers (next ∷ more) formed_on.1 (and_parts _ _ word.1).1 in
    grind arith

-- one more value
set_kept : (registers : ℕ) (s : State) (r v : ℕ) → r < registers → v < 2 ^ 64 → FitsRegisters registers s
    → FitsRegisters registers (slice_set s r v)
set_kept registers s r v own word is = record {
  eight = length-set s r v ∙ is.eight;
  values = All-set (λ value. value < 2 ^ 64) s r v word is.values;
  zeros = ap (list_all (λ value. value == 0)) (drop-set-lt registers s r v own) ∙ is.zeros;
}

pub after_kept : (registers : ℕ) (s : State) (ops : List Op) → list_all (is_kept registers) ops ≡ true → FitsRegisters registers s
    → FitsRegisters registers (after_writes s ops)
after_kept registers s [] kept is = is
after_kept registers s (Read r v ∷ ops) kept is = after_kept registers s ops kept is
after_kept registers s (Write r v ∷ ops) kept is =
    let parts = and_parts _ (list_all (is_kept registers) ops) kept in
    let own = and_parts (nat_lt r.number registers) _ parts.0 in
    after_kept registers (slice_set s r.number v) ops parts.1
    (set_kept registers s r.number v (ltb-true r.number registers own.0) (ltb-true v (2 ^ 64) own.1) is)
after_kept registers s (Add r d v ∷ ops) kept is =
    let parts = and_parts (nat_lt r.number registers) _ kept in
    after_kept registers (slice_set s r.number ((v + d) % 2 ^ 64)) ops parts.1
    (set_kept registers s r.number ((v + d) % 2 ^ 64) (ltb-true r.number registers parts.0) (omega arith) is)
