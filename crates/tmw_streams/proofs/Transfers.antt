-- What was told, and taken, in no step and in two steps, one after the other.
use Rattle.tmw_streams.proofs.Shared.{[], Adds, ap, append-nil, append_assoc, Appends-nil, Appends-trans, Consumes-nil, Consumes-trans, FromSource, List, Reads, subst, sym, Takes, Tells, ToSink, ℕ, ◌++◌, ◌∙◌, ◌≡◌}

module _ {S : Type 0} (Told : S → List ℕ → Type 0) (a : S) where
  Adds-none : Adds Told a [] a
  Adds-none before h = rw append-nil h

  Adds-more : (b c : S) (xs ys : List ℕ) → Adds Told a xs b → Adds Told b ys c → Adds Told a (xs ++ ys) c
  Adds-more b c xs ys f g before h = rw (← append_assoc before xs ys) (g (before ++ xs) (f before h))

module _ {S : Type 0} (From : FromSource S) (a : S) where
  pub Tells-none : Tells From a [] a
  Tells-none = (Adds-none From.told a, Consumes-nil (From.remaining a))

  pub Tells-more : (b c : S) (xs ys : List ℕ) → Tells From a xs b → Tells From b ys c → Tells From a (xs ++ ys) c
  Tells-more b c xs ys f g =
      let left = From.remaining in
      (Adds-more From.told a b c xs ys f.0 g.0, Consumes-trans (left a) (left b) (left c) xs ys f.1 g.1)

  -- all that is held behind nothing was told
  pub Tells-held : (b : S) (before after : List ℕ) → before ≡ [] → Reads From a b before after → Tells From a after b
  Tells-held b before after none reads =
      subst (λ xs. Tells From a xs b) (sym (reads.is ∙ ap (λ xs. xs ++ reads.bytes) none)) reads.told

module _ {K : Type 0} (To : ToSink K) (a : K) where
  pub Takes-none : Takes To a [] a
  Takes-none = (Adds-none To.took a, Appends-nil (To.holds a))

  pub Takes-more : (b c : K) (xs ys : List ℕ) → Takes To a xs b → Takes To b ys c → Takes To a (xs ++ ys) c
  Takes-more b c xs ys f g =
      let held = To.holds in
      (Adds-more To.took a b c xs ys f.0 g.0, Appends-trans (held a) (held b) (held c) xs ys f.1 g.1)
