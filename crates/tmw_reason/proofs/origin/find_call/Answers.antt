use Rattle.tmw_reason.proofs.OriginsProof.{told-within}
use Rattle.tmw_reason.proofs.origin.find_call.Goals as goal

pub returns-clause-is : goal.returns-clause-is
returns-clause-is c =
    rw (
      c.deref-6.ensures.value,
      c.in_ok-origins.ensures,
      c.deref-4.ensures.value,
      c.deref-5.ensures.value,
      c.unwrap_or-upto.ensures,
      c.answered_at.ensures,
      c.deref-3.ensures.value,
      c.in_ok-own.ensures,
      c.deref.ensures.value,
      c.deref-2.ensures.value,
      c.in_ok-window.ensures,
      c.in_ok-calls.ensures,
    ) at c.latest.ensures

pub returns-clause-within : goal.returns-clause-within
returns-clause-within c =
    told-within c.args.events.now c.args.register.number c.args.value c.args.expected c.args.reader c.latest.result (returns-clause-is c)
