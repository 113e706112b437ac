-- The reader has read the lines, among the bytes that it held, whose items a taker was given.
use Rattle.tmw_lines.proofs.Shared.{All-append, AreFirst, AreTaken, GivesItems, Grammar, AreTakenUpTo, GivesUpTo, Lines, List, ReadsHeld, Taking, [], ap, append_assoc, arith, bytes_of, drop, flat_map-append, items_text, length, length-append, line, sym, ℕ, ◌++◌, ◌+◌, ◌∙◌, ◌∷◌, ◌≡◌}
use Rattle.tmw_lines.proofs.LinesRead.{few-held}

module _ {F H E : Type 0} (grammar : Grammar F H E) (old new : Lines F) (state : new.state ≡ old.state)
    (format : new.format ≡ old.format) (count : ℕ) (left : bytes_of new.held ≡ drop count (bytes_of old.held)) where
  items_text-behind : (front rest : List ℕ) (given items : List E)
      → (front ++ items_text grammar given) ++ (items_text grammar items ++ rest)
      ≡ (front ++ items_text grammar (given ++ items)) ++ rest
  items_text-behind front rest given items =
      sym (append_assoc (front ++ items_text grammar given) (items_text grammar items) rest)
      ∙ ap (λ xs. xs ++ rest) (append_assoc front (items_text grammar given) (items_text grammar items)
      ∙ ap (λ xs. front ++ xs) (sym (flat_map-append (λ i. line (grammar.item_text i)) given items)))

  pub ReadsHeld-first : (items : List E) → new.count ≡ old.count + length items
      → AreFirst grammar old.format items count (bytes_of old.held) → ReadsHeld grammar old new items
  ReadsHeld-first items counted first = λ header given before r. record {
    reading = state ∙ r.reading;
    format = format ∙ r.format;
    counted = simp length-append (omega (arith, counted, r.counted));
    are_lines = record {
      fit = record {
        header_fits = r.are_lines.fit.header_fits;
        items_fit = All-append (grammar.FitsItem (grammar.format_of header)) given items r.are_lines.fit.items_fit
            (rw r.format at first.fit);
      };
      few = simp length-append (omega (arith, new.few, counted, r.counted));
    };
    text = r.text ∙ ap (λ xs. (line (grammar.header_text header) ++ items_text grammar given) ++ xs)
        (first.split ∙ ap (λ xs. items_text grammar items ++ xs) (sym left))
        ∙ items_text-behind (line (grammar.header_text header)) (bytes_of new.held) given items;
    few = few-held new.held;
  }

  module _ {T : Type 0} (taking : Taking T E) (before after : T) where
    pub gives-held : AreTaken grammar taking old.format (bytes_of old.held) old.count before after count new.count
        → GivesItems grammar taking old new before after
    gives-held t = record { items = t.items; read = ReadsHeld-first t.items t.counted t.first; taken = t.taken }

    pub gives-up_to : AreTakenUpTo grammar taking old.format (bytes_of old.held) old.count before after count new.count
        → GivesUpTo grammar taking old new before after
    gives-up_to t = record {
      items = t.items;
      last = t.last;
      read = ReadsHeld-first (t.items ++ t.last ∷ []) (omega (arith, t.counted, length-append t.items (t.last ∷ []))) t.first;
      taken = t.taken;
    }
