-- Workers that go to their threads.
use Rattle.tmw_workers.proofs.Shared.{ArePairs, IsClosed, IsOpened, IsPairOf, Line, List, Option, Refused, Worker, WriterIs, [], ap, arith, cases_lt, get_or, get_or-append_seam, get_or-map, get_or-set_other, inl, inr, length, length-map, map, set, shorter, subst, sym, ℕ, ◌++◌, ◌+◌, ◌<◌, ◌∙◌, ◌∷◌, ◌≡◌, ◌≤◌}
use Rattle.tmw_workers.specs.declared.threads.Playing.{Playing}
use Rattle.std.proofs.Math.ListN.{get_or-append}
use Rattle.std.specs.declared.thread.PromisedHandle.{PromisedHandle}

-- what a thread gives back, and the handle that promises it
abbrev pub Back : Type 0
Back = Worker × Option Refused

abbrev pub Handle : Type 0 → Type 0
Handle J = PromisedHandle Back (Playing J)

-- What was opened so far, and one more.
module _ (writers : List WriterIs) (workers : List Worker) (lines : List Line) (count : ℕ) (writer : WriterIs) (worker : Worker) (line : Line)
    (worker_count : length workers ≡ count) (line_count : length lines ≡ count) (is : (fallback : WriterIs) → get_or writers count fallback ≡ writer)
    (opened : IsOpened writer worker line) where
  pub opened-next : ((place : ℕ) (a : WriterIs) (b : Worker) (c : Line) → place < count
      → IsOpened (get_or writers place a) (get_or workers place b) (get_or lines place c))
      → (place : ℕ) (a : WriterIs) (b : Worker) (c : Line) → place < count + 1
      → IsOpened (get_or writers place a) (get_or (workers ++ worker ∷ []) place b) (get_or (lines ++ line ∷ []) place c)
  opened-next each place a b c low =
      elim (cases_lt place count) [
        | inl before ↦
            let one : get_or workers place b ≡ get_or (workers ++ worker ∷ []) place b
            = sym (get_or-append workers (worker ∷ []) b place (omega (arith, before, worker_count))) in
            let two : get_or lines place c ≡ get_or (lines ++ line ∷ []) place c
            = sym (get_or-append lines (line ∷ []) c place (omega (arith, before, line_count))) in
            subst (λ (w : Worker). IsOpened (get_or writers place a) w (get_or (lines ++ line ∷ []) place c)) one
            (subst (λ (l : Line). IsOpened (get_or writers place a) (get_or workers place b) l) two (each place a b c before))
        | inr past ↦
            let same : count ≡ place = omega (arith, low, past) in
            let one : worker ≡ get_or (workers ++ worker ∷ []) place b
            = sym (get_or-append_seam workers worker [] b) ∙ ap (λ (n : ℕ). get_or (workers ++ worker ∷ []) n b) (worker_count ∙ same) in
            let two : line ≡ get_or (lines ++ line ∷ []) place c
            = sym (get_or-append_seam lines line [] c) ∙ ap (λ (n : ℕ). get_or (lines ++ line ∷ []) n c) (line_count ∙ same) in
            let three : writer ≡ get_or writers place a = sym (is a) ∙ ap (λ (n : ℕ). get_or writers n a) same in
            subst (λ (w : WriterIs). IsOpened w (get_or (workers ++ worker ∷ []) place b) (get_or (lines ++ line ∷ []) place c)) three
            (subst (λ (w : Worker). IsOpened writer w (get_or (lines ++ line ∷ []) place c)) one
            (subst (λ (l : Line). IsOpened writer worker l) two opened))
      ]

-- A worker that comes back, and one more.
module _ (all : List Worker) (lines now : List Line) (count : ℕ) (worker : Worker) (next : Line) (low : count < length now)
    (is : (fallback : Worker) → get_or all count fallback ≡ worker)
    (rest : (place : ℕ) (b : Line) → count ≤ place → get_or now place b ≡ get_or lines place b) where
  pub rest-next : (place : ℕ) (b : Line) → count + 1 ≤ place → get_or (set now count next) place b ≡ get_or lines place b
  rest-next place b from =
      get_or-set_other now count place next b (λ same. absurd (omega (arith, from, same))) ∙ rest place b (omega (arith, from))

  pub closed-next : ((place : ℕ) (a : Worker) (b : Line) → place < count → IsClosed (get_or all place a) (get_or lines place b))
      → ((b : Line) → IsClosed worker (get_or now count b))
      → (place : ℕ) (a : Worker) (b : Line) → place < count + 1 → IsClosed (get_or all place a) (get_or lines place b)
  closed-next each closed place a b below =
      elim (cases_lt place count) [
        | inl before ↦ each place a b before
        | inr past ↦
            let same : count ≡ place = omega (arith, below, past) in
            subst (λ (n : ℕ). IsClosed (get_or all n a) (get_or lines n b)) same
            (subst (λ (w : Worker). IsClosed w (get_or lines count b)) (sym (is a))
            (subst (IsClosed worker) (rest count b (omega arith)) (closed b)))
      ]

-- a worker that comes back is the one at its place
pub worker_at : (backs before after : List Back) (item : Back) → before ++ item ∷ after ≡ backs
    → (fallback : Worker) → get_or (map (λ (one : Back). one.0) backs) (length before) fallback ≡ item.0
worker_at backs before after item is fallback =
    ap (λ (l : List Back). get_or (map (λ (one : Back). one.0) l) (length before) fallback) (sym is)
    ∙ get_or-map (λ (one : Back). one.0) (before ++ item ∷ after) (length before) item fallback (shorter before item after)
    ∙ ap (λ (one : Back). one.0) (get_or-append_seam before item after item)

-- and the line at its place is the one to it
pub behind : (backs before after : List Back) (item : Back) (lines now : List Line) (place : ℕ) (line : Line) → before ++ item ∷ after ≡ backs
    → place ≡ length before → ((n : ℕ) (b : Line) → length before ≤ n → get_or now n b ≡ get_or lines n b)
    → ArePairs (map (λ (one : Back). one.0) backs) lines → line ≡ get_or now place line → IsPairOf item.0 line
behind backs before after item lines now place line is at untouched pairs line_is =
    let low : length before < length (map (λ (one : Back). one.0) backs) =
    (let a = shorter before item after in let b = ap (λ (l : List Back). length l) is in let c = length-map backs (λ (one : Back). one.0) in omega (arith, a, b, c)) in
    let here : line ≡ get_or lines (length before) line =
    line_is ∙ ap (λ (n : ℕ). get_or now n line) at ∙ untouched (length before) line (omega arith) in
    subst (λ (w : Worker). IsPairOf w line) (worker_at backs before after item is item.0)
    (subst (λ (l : Line). IsPairOf (get_or (map (λ (one : Back). one.0) backs) (length before) item.0) l) (sym here)
    (pairs (length before) item.0 line low))
