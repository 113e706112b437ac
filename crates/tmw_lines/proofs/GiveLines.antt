-- Lines whose items a taker is given, one after another.
use Rattle.tmw_lines.proofs.Shared.{All-push, AreFirst, AreTaken, Grammar, IsItemLine, AreTakenUpTo, List, Taking, [], ap, arith, drop, drop-drop, items_text, length, length-append, length-drop, line, ℕ, ◌++◌, ◌+◌, ◌<◌, ◌^◌, ◌∙◌, ◌∷◌, ◌≤◌}
use Rattle.tmw_lines.proofs.LinesRead.{items_text-push}

module _ {F H E : Type 0} (grammar : Grammar F H E) (format : F) (bytes : List ℕ) where
  -- a line has its line feed
  pub line-long : (count : ℕ) {item : E} → count ≤ length bytes → IsItemLine grammar format item bytes (drop count bytes) → 0 < count
  line-long count {item} within is =
      let text = grammar.item_text item in
      omega (arith, within, ap length is.split, length-append (line text) (drop count bytes), length-append text (10 ∷ []), length-drop count bytes)

  -- one line more
  pub AreFirst-push : (items : List E) (item : E) (count more : ℕ) → AreFirst grammar format items count bytes
      → more ≤ length (drop count bytes) → IsItemLine grammar format item (drop count bytes) (drop more (drop count bytes))
      → AreFirst grammar format (items ++ item ∷ []) (count + more) bytes
  AreFirst-push items item count more first within is = record {
    within = omega (arith, first.within, within, length-drop count bytes);
    split = first.split ∙ ap (λ xs. items_text grammar items ++ xs) (is.split
        ∙ ap (λ xs. line (grammar.item_text item) ++ xs) (drop-drop more count bytes))
        ∙ items_text-push grammar [] (drop (count + more) bytes) items item;
    fit = All-push (grammar.FitsItem format) items item first.fit is.fits;
  }

module _ {F H E T : Type 0} {grammar : Grammar F H E} {taking : Taking T E}
    (more_taken : (a b c : T) (xs ys : List E) → taking.takes a xs b → taking.takes b ys c → taking.takes a (xs ++ ys) c)
    {format : F} {bytes : List ℕ} {read : ℕ} {before between after : T} {count all more : ℕ}
    (t : AreTaken grammar taking format bytes read before between count all) (left : all < 2 ^ 40)
    (within : more ≤ length (drop count bytes)) {item : E}
    (is : IsItemLine grammar format item (drop count bytes) (drop more (drop count bytes))) where
  -- its item was taken
  pub AreTaken-push : taking.takes between (item ∷ []) after → ((taken : ℕ) → taking.counts between taken → taking.counts after (taken + 1))
      → AreTaken grammar taking format bytes read before after (count + more) (all + 1)
  AreTaken-push taken counts = record {
    items = t.items ++ item ∷ [];
    first = AreFirst-push grammar format bytes t.items item count more t.first within is;
    counted = omega (arith, t.counted, length-append t.items (item ∷ []));
    few = omega (arith, left);
    taken = more_taken before between after t.items (item ∷ []) t.taken taken;
    counts = counts all t.counts;
  }

  -- the taker stopped at its item
  pub AreTakenUpTo-push : taking.stops between item after
      → AreTakenUpTo grammar taking format bytes read before after (count + more) (all + 1)
  AreTakenUpTo-push stops = record {
    items = t.items;
    last = item;
    first = AreFirst-push grammar format bytes t.items item count more t.first within is;
    counted = omega (arith, t.counted);
    few = omega (arith, left);
    taken = record { between = between; takes = t.taken; stops = stops };
  }
