-- Over a cut the transactions of a history are those of its two parts.
use Rattle.tmw_cuts.proofs.Shared.{Event, IsLater, IsTrue, List, Pairs, [], ap, append-nil, is_cut, later-transactions, length, length-append, refl, suc, sym, transactions, transactions_from, transactions_from-append, transactions_from-ended, ◌++◌, ◌+◌, ◌∙◌, ◌∷◌, ◌≡◌}

length-pairs : {A B : Type 0} (Rel : A → B → Type 0) (xs : List A) (ys : List B) → Pairs Rel xs ys → length xs ≡ length ys
length-pairs Rel [] [] pairs = refl
length-pairs Rel (x ∷ xs) (y ∷ ys) pairs = ap (λ n. suc n) (length-pairs Rel xs ys pairs.1)
length-pairs Rel _ _ pairs = absurd pairs

-- how many transactions a history has with a cut in it
pub length-transactions_cut : (past rest : List Event) → IsTrue (is_cut past)
    → length (transactions (past ++ rest)) ≡ length (transactions past) + length (transactions rest)
length-transactions_cut past rest cut =
    let behind = transactions_from (0 + length past) [] rest in
    let parts : transactions (past ++ rest) ≡ transactions past ++ behind =
    transactions_from-append 0 [] past rest
    ∙ ap (λ ts. transactions_from (0 + length past) ts rest) (sym (append-nil (transactions past)))
    ∙ transactions_from-ended (0 + length past) (transactions past) [] rest cut in
    let same : length behind ≡ length (transactions rest) =
    length-pairs (IsLater (length past)) behind (transactions rest) (later-transactions (length past) 0 [] [] rest tt) in
    ap length parts ∙ length-append (transactions past) behind ∙ ap (λ n. length (transactions past) + n) same
