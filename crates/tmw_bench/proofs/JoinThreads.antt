-- The workers have come back from their threads, each as its thread has promised.
use Rattle.tmw_bench.proofs.Shared.{Answer, AreOpened, Back, Call, Front, Handle, HasLed, HasLedTo, HasPlayedOn, IsPromised, Kind, Line, List, RingIs, Rules, Vec, Worker, WriterIs, arith, drop, get_or, length, script_at, subst, sym, take, ℕ, ◌++◌, ◌+◌, ◌<◌, ◌≡◌}
use Rattle.tmw_workers.specs.declared.threads.Playing.{Playing}
use Rattle.tmw_workers.specs.Player.{calls_of}
use Rattle.std.specs.Vec.{vec_len}
use Rattle.std.specs.PromisedHandle.{KeepsEach}
use Rattle.tmw_bench.proofs.AllBack.{promised_at, written_back}
use Rattle.std.specs.declared.thread.Promise as Promise

-- A worker for each writer was given to a thread, and the threads were joined.
module _ {J : Type 0} (gave : Call → Answer → Type 0) {ring : RingIs} {scripts : List (List (List Kind))} {writers : List WriterIs}
    {workers : List Worker} {lines : List Line} (handles : Vec (Handle J)) (backs : Vec Back) {ghosts : Promise.Ghosts (Playing J) Back}
    (opened : AreOpened writers workers lines) (started : length handles.items ≡ length workers)
    (promised : (place : ℕ) (fallback : Handle J) → place < length handles.items
    → IsPromised ring scripts workers place (get_or handles.items place fallback).promise.ring.now
    (calls_of (get_or handles.items place fallback).promise.script.now) (get_or handles.items place fallback).promise.before.value)
    (joined : vec_len backs ≡ vec_len handles) (each : KeepsEach ghosts (vec_len handles) handles.items backs.items) where
  pub back_count : length backs.items ≡ length writers
  back_count =
      let count = opened.worker_count in
      let whole = backs.ok.0 in
      let all = handles.ok.0 in
      omega (arith, joined, whole, all, started, count)

  pub come_back : ((handle : Handle J) (back : Back) → ghosts.kept_by handle.promise back
      → HasPlayedOn gave handle.promise.ring.now (calls_of handle.promise.script.now) handle.promise.before.value back.1 back.0)
      → (place : ℕ) (d : Back) → place < length writers
      → HasPlayedOn gave ring (script_at scripts place) (get_or workers place d.0) (get_or backs.items place d).1 (get_or backs.items place d).0
  come_back kept place d low =
      let count = opened.worker_count in
      let all = handles.ok.0 in
      let one = (each place d (omega (arith, all, started, count, low))).1 in
      let promise : IsPromised ring scripts workers place one.handle.promise.ring.now (calls_of one.handle.promise.script.now)
      one.handle.promise.before.value =
      subst (λ (h : Handle J). IsPromised ring scripts workers place h.promise.ring.now (calls_of h.promise.script.now) h.promise.before.value)
      (sym {A = Handle J} one.handle_is) (promised place one.handle (omega (arith, started, count, low))) in
      promised_at gave ring scripts workers place one.handle.promise.ring.now (calls_of one.handle.promise.script.now)
      one.handle.promise.before.value (get_or backs.items place d) d promise (kept one.handle (get_or backs.items place d) one.kept)

-- The leader was lent the lines, and has led by them.
module _ {rules : Rules} {rounds : ℕ} {front : Front} (lines : Vec Line) {lent after : List Line} (is : lent ≡ lines.items)
    (led : HasLed rules rounds front lent after) where
  pub led_to : HasLedTo rules (length led.bounds + 1) led.bounds front lines.items after
  led_to =
      subst (λ (l : List Line). HasLedTo rules (length led.bounds + 1) led.bounds front l after) is
      (subst (λ (n : ℕ). HasLedTo rules n led.bounds front lent after) led.counted led.led)

  pub given_back : take lines.len (after ++ drop (length after) lines.items) ≡ after
  given_back =
      let count = led_to.line_count in
      let whole = lines.ok.0 in
      written_back lines.len after lines.items (omega (arith, count, whole))
