-- The open window of a history that is summed up: it is narrow.
use Rattle.tmw_monitor.proofs.Shared.{Begin, Criterion, Event, Follows, IsFinalBy, IsFine, IsTrue, List, Move, Opacity, Rules, StandsFor, State, Strict, SumsUp, Window, [], ap, append_assoc, arith, begun_by, cases_lt, drop, inl, inr, is_well_formed, length, refl, subst, sym, take, take-append-drop, take_all, transactions, ℕ, ◌++◌, ◌+◌, ◌<◌, ◌∙◌, ◌∷◌, ◌≡◌, ◌≤◌}
use Rattle.tmw_cuts.proofs.Follows.{follows-cut, formed-append}

formed-final : (criterion : Criterion) (registers : ℕ) (start : State) (h : List Event) → IsFinalBy criterion registers start h
    → IsTrue (is_well_formed registers h)
formed-final Opacity registers start h final = final.formed
formed-final Strict registers start h final = final.formed

-- what lies before the open window is well-formed, and so is the whole where the window's events are
pub past_formed : (rules : Rules) (S : State → Type 0) (c : ℕ) (h : List Event) → SumsUp rules S c h
    → IsTrue (is_well_formed rules.registers (take c h))
past_formed rules S c h sums =
    formed-final rules.criterion rules.registers rules.start (take c h) (sums.judged c sums.last.is.0).final

pub formed_whole : (rules : Rules) (S : State → Type 0) (c : ℕ) (h : List Event) (e : Event) → SumsUp rules S c h
    → IsTrue (is_well_formed rules.registers (drop c h ++ e ∷ [])) → IsTrue (is_well_formed rules.registers (h ++ e ∷ []))
formed_whole rules S c h e sums formed =
    ap (λ xs. is_well_formed rules.registers (xs ++ e ∷ [])) (sym (take-append-drop c h))
    ∙ ap (is_well_formed rules.registers) (append_assoc (take c h) (drop c h) (e ∷ []))
    ∙ formed-append rules.registers (take c h) (drop c h ++ e ∷ []) sums.last.is.1 (past_formed rules S c h sums) ∙ formed

-- a window that stands for the open events follows the whole history
pub follows_whole : (rules : Rules) (S : State → Type 0) (c : ℕ) (h : List Event) (w : Window) → SumsUp rules S c h
    → w.registers.number ≡ rules.registers → StandsFor w (drop c h) → Follows rules.registers h w
follows_whole rules S c h w sums number stands =
    subst (λ xs. Follows rules.registers xs w) (take-append-drop c h)
    (subst (λ n. Follows n (take c h ++ drop c h) w) number
    (follows-cut (take c h) (drop c h) w sums.last.is.1 (rw number (past_formed rules S c h sums)) stands))

pub follows_next : (rules : Rules) (S : State → Type 0) (c : ℕ) (h : List Event) (e : Event) (w : Window) → SumsUp rules S c h
    → w.registers.number ≡ rules.registers → StandsFor w (drop c h ++ e ∷ []) → Follows rules.registers (h ++ e ∷ []) w
follows_next rules S c h e w sums number stands =
    subst (λ xs. Follows rules.registers xs w)
    (sym (append_assoc (take c h) (drop c h) (e ∷ [])) ∙ ap (λ xs. xs ++ e ∷ []) (take-append-drop c h))
    (subst (λ n. Follows n (take c h ++ (drop c h ++ e ∷ [])) w) number
    (follows-cut (take c h) (drop c h ++ e ∷ []) w sums.last.is.1 (rw number (past_formed rules S c h sums)) stands))

pub narrow_open : (rules : Rules) (S : State → Type 0) (c : ℕ) (h : List Event) → SumsUp rules S c h
    → length (transactions (drop c h)) ≤ rules.window
narrow_open rules S c h sums =
    elim (cases_lt rules.window (length (transactions (drop c h)))) [
      | inl wide ↦
          let whole : take (length h) h ≡ h = take_all (length h) h (omega arith) in
          let fine : IsFine rules h = subst (λ (g : List Event). IsFine rules g) whole (sums.judged (length h) (omega arith)) in
          absurd (fine.narrow (record {
            from = c;
            upto = length h;
            window = record {
              order = sums.last.is.0;
              opens = sums.last.is;
              inside = λ at after before cut. sums.last.last at after cut;
              closes = inl refl;
            };
            wide = rw whole wide;
          }))
      | inr narrow ↦ narrow
    ]

-- with an event that begins no transaction, or begins one where there is room, the open window is as narrow as the bound asks
pub narrow-push : (rules : Rules) (S : State → Type 0) (c : ℕ) (h : List Event) (e : Event) (move : Move) → SumsUp rules S c h
    → length (transactions (drop c h ++ e ∷ [])) ≡ length (transactions (drop c h)) + begun_by move
    → (move ≡ Begin → length (transactions (drop c h)) < rules.window)
    → length (transactions (drop c h ++ e ∷ [])) ≤ rules.window
narrow-push rules S c h e move sums more room = let narrow = narrow_open rules S c h sums in grind arith
