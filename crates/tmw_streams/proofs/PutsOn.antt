-- Bytes that a sink took a front of, and more behind those that are held.
use Rattle.tmw_streams.proofs.Shared.{[], ap, append-nil, append_assoc, Err, IsErr, List, Ok, one_more, PassesOn, Puts, PutsOn, Result, subst, sym, Takes, TakesBeginning, ToSink, ℕ, ◌++◌, ◌∙◌, ◌≡◌}
use Rattle.tmw_streams.proofs.Prefixes.{TakesBeginning-more, TakesBeginning-front}
use Rattle.tmw_streams.proofs.Puts.{Puts-more, Puts-front}
use Rattle.tmw_streams.proofs.Transfers.{Takes-none, Takes-more}

-- what went out, what was held and what comes behind it
gone-more : (bytes gone held more : List ℕ) → bytes ≡ gone ++ held → bytes ++ more ≡ gone ++ (held ++ more)
gone-more bytes gone held more split = ap (λ xs. xs ++ more) split ∙ append_assoc gone held more

module _ {K : Type 0} (To : ToSink K) (a : K) where
  -- all is held
  pub PassesOn-held : (bytes held : List ℕ) → bytes ≡ held → PassesOn To a bytes held a
  PassesOn-held bytes held is = record { gone = []; takes = Takes-none To a; split = is }

  -- all went out
  pub PassesOn-gone : (b : K) (bytes held : List ℕ) → held ≡ [] → Takes To a bytes b → PassesOn To a bytes held b
  PassesOn-gone b bytes held none takes = record { gone = bytes; takes = takes; split = sym (append-nil bytes) ∙ ap (λ xs. bytes ++ xs) (sym none) }

  pub PassesOn-more : (b c : K) (bytes held more rest : List ℕ) → PassesOn To a bytes held b
      → PassesOn To b (held ++ more) rest c → PassesOn To a (bytes ++ more) rest c
  PassesOn-more b c bytes held more rest first then = record {
    gone = first.gone ++ then.gone;
    takes = Takes-more To a b c first.gone then.gone first.takes then.takes;
    split = gone-more bytes first.gone held more first.split ∙ ap (λ xs. first.gone ++ xs) then.split
        ∙ sym (append_assoc first.gone then.gone rest);
  }

  -- a beginning of what was held and of what comes behind it went out
  pub TakesBeginning-held : (b c : K) (bytes held more : List ℕ) → PassesOn To a bytes held b
      → TakesBeginning To b (held ++ more) c → TakesBeginning To a (bytes ++ more) c
  TakesBeginning-held b c bytes held more first then =
      let P : List ℕ → Type 0 = λ xs. TakesBeginning To a xs c in
      subst P (sym (gone-more bytes first.gone held more first.split))
      (TakesBeginning-more To a b c first.gone (held ++ more) first.takes then)

  -- what was held went out, and then more as it was put
  pub PutsOn-gone : {A E : Type 0} (b : K) (xs ys : List ℕ) (c : K) (held : List ℕ) (result : Result A E) → held ≡ []
      → Takes To a xs b × (To.failures b ≡ To.failures a) → Puts To b ys c result → PutsOn To a (xs ++ ys) held c result
  PutsOn-gone {A = A} {E = E} b xs ys c held (Ok x) none first then =
      let all = Puts-more To a b xs ys {A = A} {E = E} c (Ok x) first then in
      (PassesOn-gone c (xs ++ ys) held none all.0, all.1)
  PutsOn-gone {A = A} {E = E} b xs ys c held (Err e) _ first then = Puts-more To a b xs ys {A = A} {E = E} c (Err e) first then

  -- a beginning of what was held went out, and nothing of what was to come behind it
  pub PutsOn-front : {A E : Type 0} (xs ys : List ℕ) (c : K) (held : List ℕ) (result : Result A E) → IsErr result
      → TakesBeginning To a xs c × (To.failures c ≡ one_more (To.failures a)) → PutsOn To a (xs ++ ys) held c result
  PutsOn-front xs ys c held (Ok _) failed _ = absurd cc
  PutsOn-front xs ys c held (Err _) _ begun = (TakesBeginning-front To a c xs ys begun.0, begun.1)

  -- a beginning of what was held and of what comes behind it went out, and nothing of the rest
  pub Puts-held : {A E : Type 0} (b c : K) (bytes held more rest : List ℕ) (result : Result A E) → IsErr result
      → PassesOn To a bytes held b × (To.failures b ≡ To.failures a)
      → TakesBeginning To b (held ++ more) c × (To.failures c ≡ one_more (To.failures b))
      → Puts To a (bytes ++ (more ++ rest)) c result
  Puts-held b c bytes held more rest result failed first then =
      let P : List ℕ → Type 0 = λ xs. Puts To a xs c result in
      subst P (append_assoc bytes more rest)
      (Puts-front To a c (bytes ++ more) rest result failed
      (TakesBeginning-held b c bytes held more first.0 then.0, then.1 ∙ ap one_more first.1))

  -- what was held was put too
  pub Puts-rest : {A E : Type 0} (b c : K) (bytes held : List ℕ) (result : Result A E)
      → PassesOn To a bytes held b × (To.failures b ≡ To.failures a) → Puts To b held c result → Puts To a bytes c result
  Puts-rest b c bytes held result first then =
      let P : List ℕ → Type 0 = λ xs. Puts To a xs c result in
      subst P (sym first.0.split)
      (Puts-more To a b first.0.gone held c result (first.0.takes, first.1) then)
