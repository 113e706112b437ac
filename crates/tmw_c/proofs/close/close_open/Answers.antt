use Rattle.tmw_c.proofs.Shared.{AreEmpty, AreInPlace, Watch, ap, inl, refl, subst, sym, ℕ, ◌∙◌, ◌≡◌}
use Rattle.tmw_c.proofs.RecordersInHandles.{all_held, held_whole, of_ring_held}
use Rattle.tmw_handles.specs.declared.held_watch.HeldWatch.TheVariants.{Shared}
use Rattle.tmw_c.proofs.close.close_open.Goals as goal

pub returns-then-not-are_in_place-clause-err : goal.returns-then-not-are_in_place-clause-err
returns-then-not-are_in_place-clause-err c = record {
  watch = c.args.watch;
  opened = refl;
  lacks = λ all. c.if-not-are_in_place.ensures.no refl
      (subst (λ (n : ℕ). AreInPlace n c.args.handles.now) (sym {A = ℕ} c.recorders.ensures) all);
  same = record { watch_same = refl; handles_same = refl };
}

pub returns-in_default-clause-err : goal.returns-in_default-clause-err
returns-in_default-clause-err c =
    record {
      watch = c.args.watch;
      opened = refl;
      all = subst (λ (n : ℕ). AreInPlace n c.args.handles.now) c.recorders.ensures (c.if-not-are_in_place.ensures.yes refl);
      same = record { watch_same = refl; handles_same = refl };
    }

pub end-requires-clause-of_ring : goal.end-requires-clause-of_ring
end-requires-clause-of_ring c =
    let swapped = c.swap_with_slice.ensures in
    let held = held_whole _ _ _ _ _ (swapped.other_len ∙ c.deref_mut.ensures.len) swapped.other_after c.recorders_of.ensures in
    of_ring_held c.args.watch.ring.value c.recorders_of.result.items c.args.handles.now held c.requires

pub end-requires-clause-all : goal.end-requires-clause-all
end-requires-clause-all c =
    let swapped = c.swap_with_slice.ensures in
    let held = held_whole _ _ _ _ _ (swapped.other_len ∙ c.deref_mut.ensures.len) swapped.other_after c.recorders_of.ensures in
    let placed = subst (λ (n : ℕ). AreInPlace n c.args.handles.now) c.recorders.ensures (c.if-not-are_in_place.ensures.yes refl) in
    all_held c.args.watch.recorders c.recorders_of.result.items c.args.handles.now held placed

pub returns-in-Err-clause-err : goal.returns-in-Err-clause-err
returns-in-Err-clause-err c =
    let swapped = c.swap_with_slice.ensures in
    let held = held_whole _ _ _ _ _ (swapped.other_len ∙ c.deref_mut.ensures.len) swapped.other_after c.recorders_of.ensures in
    let same : c.in-Err.watch ≡ c.args.watch = c.in-Err.ensures.err.0 in
    inl (record {
      watch = c.args.watch;
      opened = refl;
      recorders = c.recorders_of.result.items;
      placed = subst (λ (n : ℕ). AreInPlace n c.args.handles.now) c.recorders.ensures (c.if-not-are_in_place.ensures.yes refl);
      taken = record { held = held; as_many = swapped.len; gone = rw (swapped.after, c.deref_mut.ensures.value) c.in-Ok.ensures.empty.0 };
      writers = c.in-Err.writers;
      shared = ap (λ (w : Watch). Shared w c.in-Err.writers) same;
      theirs = c.in-Err.ensures.err.1;
    })

pub returns-in-Ok-end-clause-ok : goal.returns-in-Ok-end-clause-ok
returns-in-Ok-end-clause-ok c =
    let swapped = c.swap_with_slice.ensures in
    let held = held_whole _ _ _ _ _ (swapped.other_len ∙ c.deref_mut.ensures.len) swapped.other_after c.recorders_of.ensures in
    record {
      watch = c.args.watch;
      opened = refl;
      recorders = c.recorders_of.result.items;
      placed = subst (λ (n : ℕ). AreInPlace n c.args.handles.now) c.recorders.ensures (c.if-not-are_in_place.ensures.yes refl);
      taken = record { held = held; as_many = swapped.len; gone = rw (swapped.after, c.deref_mut.ensures.value) c.in-Ok.ensures.empty.0 };
      closed = c.in-Ok-end.ensures.ok;
    }
