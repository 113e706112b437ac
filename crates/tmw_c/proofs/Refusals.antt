-- What a handle holds after a refusal, by the status.
use Rattle.tmw_c.proofs.Shared.{BadKind, BadRegister, Closing, Full, HeldRecorder, IsClosing, IsUnended, List, Memory, Missing, Option, RecorderHandle, Some, Spent, CallStatus, refl, ℕ, ◌≡◌, arith, rules}
use Rattle.tmw_c.specs.Record.{HasRefused, IsRecording}
use Rattle.tmw_c.specs.declared.c_verdict.CVerdict.{CVerdict}
use Rattle.tmw_handles.specs.declared.held_watch.HeldWatch.{HeldWatch}

pub recording-refused : (letter register value place : ℕ) (before after : HeldRecorder) (old new : Option HeldRecorder) → old ≡ Some before → new ≡ Some after
    → (status : CallStatus) → HasRefused letter register value before after status → IsRecording letter register value old new place place status
recording-refused l r v place before after old new held holds Full refused = search rules
recording-refused l r v place before after old new held holds Spent refused = search rules
recording-refused l r v place before after old new held holds BadKind refused =
    (record { before = before; after = after; held = held; holds = holds; refused = refused }, refl)
recording-refused l r v place before after old new held holds BadRegister refused =
    (record { before = before; after = after; held = held; holds = holds; refused = refused }, refl)
recording-refused l r v place before after old new held holds _ refused = absurd refused

pub closing-unended : (before after : HeldWatch) (old new : Option HeldWatch) (olds news : List RecorderHandle) (told : CVerdict) → old ≡ Some before
    → new ≡ Some after → (status : CallStatus) → IsUnended before after olds news status → IsClosing old new olds news told told status
closing-unended before after old new olds news told held holds Memory unended = grind arith
closing-unended before after old new olds news told held holds Missing unended = grind arith
closing-unended before after old new olds news told held holds Closing unended = grind arith
closing-unended before after old new olds news told held holds _ unended = absurd unended
