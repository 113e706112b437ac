use Rattle.tmw_ring_steps.proofs.Shared.{arith, core_of, machine_of, sym}
use Rattle.tmw_ring_steps.proofs.SoundWords.{has_told, free-told}
use Rattle.tmw_ring_steps.proofs.ring_state.RingState.free.Goals as goal

pub returns-in_ok-push-in-Told-clause-ok : goal.returns-in_ok-push-in-Told-clause-ok
returns-in_ok-push-in-Told-clause-ok c =
    let words = c.in-Some.ensures.some in
    let items = c.in_ok-push-in-Told.ensures.items in
    let told = c.in-Told.is in
    rw items (sym (free-told (machine_of c.args.self.now) c.in-Told.header c.in-Told.value c.in-Some.event told words))

pub returns-in_default-unpack-clause-ok : goal.returns-in_default-unpack-clause-ok
returns-in_default-unpack-clause-ok c =
    let none = c.in_default-unpack.ensures.none in
    let told = has_told (core_of c.args.self.now) c.in-Told.header c.in-Told.value c.requires c.in-Told.is (omega arith) in
    absurd (none told.event told.fits told.words)
