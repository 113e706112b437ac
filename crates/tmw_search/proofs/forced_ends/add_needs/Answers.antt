use Rattle.tmw_search.proofs.Shared.{NeedsOfStart, arith, effects, get_or-set_other, get_or-set_same, inl, inr, length, slice_index, slice_set, subst, sym, ℕ, ◌<◌, ◌∙◌, ◌≡◌}
use Rattle.tmw_search.proofs.Bits.{masks, same_place}
use Rattle.tmw_search.proofs.Branches.{never-true}
use Rattle.tmw_search.proofs.forced_ends.add_needs.Goals as goal

pub loop-left-preserved : goal.loop-left-preserved
loop-left-preserved c =
    let was = c.loop-left.invariant in
    let q = c.lowest-register.result in
    let values = c.loop-left.needs.values in
    let value = c.need_at-value.result in
    let left = c.loop-left.left in
    let old = c.loop-left.needs in
    record {
      among = grind (arith, masks, was.among);
      kept = grind (arith, masks, was.kept);
      done = grind (arith, masks, was.done);
      fixed = λ held writes own r few is. elim (same_place r q) [
        | inl same ↦ inr (
            let within : q < length values = omega arith in
            let here : slice_index (slice_set values q value) q ≡ value = get_or-set_same values q value 0 within in
            subst (λ (p : ℕ). NeedsOfStart (effects c.args.items.now) held p (slice_index (slice_set values q value) p)) (sym same)
            (record {
              reader = c.args.place;
              within = c.requires;
              taken = own;
              needs = was.among q c.lowest-register.ensures.among;
              is = here ∙ c.need_at-value.ensures;
              never = λ (k, w, same_value). never-true
                  (rw c.if-is_left.false at (c.is_left.ensures.1 (k, w.0, (writes q k c.lowest-register.ensures.within w.0).1 (w.1, w.2), same_value ∙ here)));
            })
            )
        | inr apart ↦
            let there : slice_index (slice_set values q value) r ≡ slice_index values r = get_or-set_other values q r value 0 apart in
            elim (was.fixed held writes own r few (grind (arith, masks, is, apart))) [
              | inl (has, same) ↦ inl (has, there ∙ same)
              | inr n ↦ inr (subst (λ (v : ℕ). NeedsOfStart (effects c.args.items.now) held r v) (sym there) n)
            ]
      ];
    }
