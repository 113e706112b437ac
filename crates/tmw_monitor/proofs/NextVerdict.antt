-- What was found of the open window with an event more is the verdict on the history, and what is then kept is kept of it.
use Rattle.tmw_monitor.proofs.Shared.{Bool, Closes, Contains, EndsBy, Event, Follows, HistoryDigest, IsFalse, IsTrue, Keeps, List, NoOutcome, None, Outcome, OutcomeCheck, Rules, StandsFor, State, StaysOpen, SumsUp, Tells, TellsWrong, TooMany, Witnesses, [], append-nil, arith, drop, drop-append-le, drop_all, inl, inr, is_cut, is_quiet_by, is_well_formed, length, members, so_far-fine, subst, sums_up-cut, sums_up-open, sums_up-quiet, sym, transactions, true, verdict-many, verdict-violated, views_of, wrong_of, ℕ, ◌++◌, ◌+◌, ◌∙◌, ◌∷◌, ◌≡◌, ◌≤◌, ◌⊎◌}
use Rattle.tmw_monitor.proofs.StateCount.{not_more_among, more_than-rising}
use Rattle.tmw_monitor.proofs.OpenWindow.{follows_next}
use Rattle.tmw_monitor.proofs.SoFar.{so_far-apart}
use Rattle.tmw_cuts.proofs.Follows as following
use Rattle.tmw_defs.proofs.WindowsProof as windows

sums_up-stays : (rules : Rules) (S : State → Type 0) (c : ℕ) (h : List Event) (e : Event) (quiet : Bool) → SumsUp rules S c h
    → IsTrue (is_well_formed rules.registers (h ++ e ∷ [])) → length (transactions (drop c h ++ e ∷ [])) ≤ rules.window
    → IsFalse (is_cut (drop c h ++ e ∷ [])) → quiet ≡ is_quiet_by rules.criterion (transactions (drop c h)) e.thread.number e.kind
    → (IsTrue quiet ⊎ ((end : State) × EndsBy rules.criterion S (transactions (drop c h ++ e ∷ [])) end)) → SumsUp rules S c (h ++ e ∷ [])
sums_up-stays rules S c h e quiet sums formed narrow uncut is (inl still) = sums_up-quiet rules S c h e sums formed narrow uncut (sym is ∙ still)
sums_up-stays rules S c h e quiet sums formed narrow uncut is (inr (end, ends)) = sums_up-open rules S c h e sums formed narrow uncut end ends

follows-open : (rules : Rules) (h : List Event) (e : Event) (kept : HistoryDigest) (keeps : Keeps rules h kept) (quiet : Bool)
    (new : HistoryDigest) → IsTrue (is_well_formed rules.registers (h ++ e ∷ [])) → new.window.registers.number ≡ rules.registers
    → length (transactions (drop keeps.cut h ++ e ∷ [])) ≤ rules.window
    → quiet ≡ is_quiet_by rules.criterion (transactions (drop keeps.cut h)) e.thread.number e.kind
    → StaysOpen rules.criterion kept.states quiet (drop keeps.cut h ++ e ∷ []) new
    → TellsWrong rules (h ++ e ∷ []) new None
follows-open rules h e kept keeps quiet new formed number narrow is stays =
    let c = keeps.cut in
    let old : SumsUp rules (Contains (members kept.states)) c (h ++ e ∷ []) =
    sums_up-stays rules (Contains (members kept.states)) c h e quiet keeps.sums_up formed narrow stays.uncut is stays.ends in
    let sums : SumsUp rules (Contains (members new.states)) c (h ++ e ∷ []) =
    subst (λ (xs : List State). SumsUp rules (Contains xs) c (h ++ e ∷ [])) (sym stays.states) old in
    let rest : drop c (h ++ e ∷ []) ≡ drop c h ++ e ∷ [] = drop-append-le c h (e ∷ []) keeps.sums_up.last.is.0 in (
      so_far-fine rules (h ++ e ∷ []) sums.judged,
      record {
        cut = c;
        sums_up = sums;
        stands = subst (λ (es : List Event). StandsFor new.window es) (sym rest) stays.stands;
        number = number;
        witness = subst (λ (es : List Event). Witnesses (members new.states) (views_of es) new.witness) (sym rest) stays.witness;
      },
    )

follows-cut : (rules : Rules) (h : List Event) (e : Event) (kept : HistoryDigest) (keeps : Keeps rules h kept) (cap : ℕ)
    (new : HistoryDigest) → cap ≡ rules.states → IsTrue (is_well_formed rules.registers (h ++ e ∷ [])) → new.window.registers.number ≡ rules.registers
    → length (transactions (drop keeps.cut h ++ e ∷ [])) ≤ rules.window
    → Closes rules.criterion kept.states cap (drop keeps.cut h ++ e ∷ []) new
    → TellsWrong rules (h ++ e ∷ []) new None
follows-cut rules h e kept keeps cap new bound formed number narrow closes =
    let few : length (members new.states) ≤ rules.states = rw (← bound) closes.few in
    let sums : SumsUp rules (Contains (members new.states)) (length h + 1) (h ++ e ∷ []) =
    sums_up-cut rules (Contains (members kept.states)) (Contains (members new.states)) keeps.cut h e keeps.sums_up formed narrow closes.cut
    closes.exact closes.end closes.some (not_more_among rules.states (members new.states) few) in
    let nothing : drop (length h + 1) (h ++ e ∷ []) ≡ [] =
    drop_all (length h + 1) (h ++ e ∷ []) (let n = windows.length-push h e in omega (arith, n)) in (
      so_far-fine rules (h ++ e ∷ []) sums.judged,
      record {
        cut = length h + 1;
        sums_up = sums;
        stands = subst (λ (es : List Event). StandsFor new.window es) (sym nothing) closes.stands;
        number = number;
        witness = subst (λ (es : List Event). Witnesses (members new.states) (views_of es) new.witness) (sym nothing) closes.witness;
      },
    )

-- each thing that was found
pub follows-told : (rules : Rules) (h : List Event) (e : Event) (kept : HistoryDigest) (keeps : Keeps rules h kept) (at cap : ℕ) (quiet : Bool)
    (new : HistoryDigest) (found : OutcomeCheck) → at ≡ length h + 1 → cap ≡ rules.states → IsTrue (is_well_formed rules.registers (h ++ e ∷ [])) → new.window.registers.number ≡ rules.registers → length (transactions (drop keeps.cut h ++ e ∷ [])) ≤ rules.window
    → quiet ≡ is_quiet_by rules.criterion (transactions (drop keeps.cut h)) e.thread.number e.kind
    → Tells rules.criterion kept.states cap quiet (drop keeps.cut h ++ e ∷ []) new found
    → TellsWrong rules (h ++ e ∷ []) new (wrong_of at found)
follows-told rules h e kept keeps at cap quiet new Outcome length_is bound formed number narrow is (inl stays) =
    follows-open rules h e kept keeps quiet new formed number narrow is stays
follows-told rules h e kept keeps at cap quiet new Outcome length_is bound formed number narrow is (inr closes) =
    follows-cut rules h e kept keeps cap new bound formed number narrow closes
follows-told rules h e kept keeps at cap quiet new NoOutcome length_is bound formed number narrow is (stands, none_ends) = (
  rw length_is (verdict-violated rules (Contains (members kept.states)) keeps.cut h e keeps.sums_up formed narrow none_ends),
  λ other. absurd (so_far-apart rules.criterion _ (λ is. cc) (λ is. cc) other),
)
follows-told rules h e kept keeps at cap quiet new TooMany length_is bound formed number narrow is (stands, cut, more) = (
  rw length_is (verdict-many rules (Contains (members kept.states)) keeps.cut h e keeps.sums_up formed narrow cut
      (rw (← bound) (more_than-rising cap _ more))),
  λ other. absurd (so_far-apart rules.criterion _ (λ is. cc) (λ is. cc) other),
)

-- whatever was found, the window follows the history
pub follows-found : (rules : Rules) (h : List Event) (e : Event) (kept : HistoryDigest) (keeps : Keeps rules h kept) (cap : ℕ) (quiet : Bool)
    (new : HistoryDigest) (found : OutcomeCheck) → IsTrue (is_well_formed rules.registers (h ++ e ∷ [])) → new.window.registers.number ≡ rules.registers
    → Tells rules.criterion kept.states cap quiet (drop keeps.cut h ++ e ∷ []) new found → Follows rules.registers (h ++ e ∷ []) new.window
follows-found rules h e kept keeps cap quiet new Outcome formed number (inl stays) =
    follows_next rules (Contains (members kept.states)) keeps.cut h e new.window keeps.sums_up number stays.stands
follows-found rules h e kept keeps cap quiet new Outcome formed number (inr closes) =
    let whole = drop keeps.cut h ++ e ∷ [] in
    let at_cut : is_cut (h ++ e ∷ []) ≡ true = windows.is_cut-push keeps.cut h e keeps.sums_up.last.is ∙ closes.cut in
    subst (λ xs. Follows rules.registers xs new.window) (append-nil (h ++ e ∷ []))
    (subst (λ n. Follows n ((h ++ e ∷ []) ++ []) new.window) number
    (following.follows-cut (h ++ e ∷ []) [] new.window at_cut (rw number formed) closes.stands))
follows-found rules h e kept keeps cap quiet new NoOutcome formed number (stands, none) =
    follows_next rules (Contains (members kept.states)) keeps.cut h e new.window keeps.sums_up number stands
follows-found rules h e kept keeps cap quiet new TooMany formed number (stands, cut, many) =
    follows_next rules (Contains (members kept.states)) keeps.cut h e new.window keeps.sums_up number stands
