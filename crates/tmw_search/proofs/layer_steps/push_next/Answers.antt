use Rattle.tmw_search.proofs.Shared.{Makes, State, after_writes, bit_or, if◌then◌else◌, refl, sym, view, ℕ, ◌%◌, ◌*◌, ◌^◌, ◌∙◌, ◌≡◌}
use Rattle.tmw_search.proofs.AddMembers.{adds-push}
use Rattle.tmw_search.proofs.LayerLists.{pair}
use Rattle.tmw_search.proofs.layer_steps.push_next.Goals.{then-held, else-held}
use Rattle.tmw_search.proofs.layer_steps.push_next.Goals as goal

pub returns : goal.returns
returns c =
    let item = view c.args.item.now in
    let p = c.args.reached.now in
    let end : State = c.if-held.end in
    let to : end ≡ (if c.args.held then after_writes p.1 item.ops else p.1) = elim c.if-held.branch [
      | then-held w ↦ rw w.if-held.true (w.end-is ∙ c.in-Some.ensures.1)
      | else-held w ↦ rw w.if-held.false w.end-is
    ] in
    let made : ℕ × State = (bit_or p.0 (1 * 2 ^ c.args.place % 2 ^ 8), end) in
    rw c.in_ok-push.ensures.items (adds-push {P = Makes item c.args.place c.args.held p} (record {
      comes = c.if-not-is_next.ensures.0 refl;
      may = sym c.if-not-may_hold.ensures;
      reads = c.in-Some.ensures.0;
      mask = refl;
      state = to;
    }) (λ q m. pair made q (sym m.mask) (to ∙ sym m.state)))
