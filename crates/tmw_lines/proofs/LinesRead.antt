-- What a reader of lines has read, after one line more.
use Rattle.tmw_lines.proofs.Shared.{All-push, AreLines, BadHeader, BadLine, Cut, FailsAtLine, FailsBehind, FailsHolding, Grammar, HasBegun, HasLineFault, HasRead, HasTextFault, Io, IsItemLine, Lines, List, Memory, TextFault, TooLong, [], ap, append-nil, append_assoc, arith, bytes_of, flat_map-append, inr, items_text, length, length-append, length-take, line, lines_text, sym, ℕ, ◌++◌, ◌+◌, ◌<◌, ◌^◌, ◌∙◌, ◌∷◌, ◌≡◌, ◌≤◌}
use Rattle.tmw_lines.specs.declared.line_buffer.LineBuffer.{LineBuffer}
use Rattle.tmw_lines.specs.declared.lines.ReaderState.TheVariants.{Reading}

pub few-held : (held : LineBuffer) → length (bytes_of held) ≤ 4096
few-held held = simp length-take (omega (arith, held.within))

module _ {F H E : Type 0} (grammar : Grammar F H E) where
  AreLines-push : (header : H) (items : List E) (item : E) → AreLines grammar header items
      → grammar.FitsItem (grammar.format_of header) item → length items < 2 ^ 40
      → AreLines grammar header (items ++ item ∷ [])
  AreLines-push header items item a fits few = record {
    fit = record {
      header_fits = a.fit.header_fits;
      items_fit = All-push (grammar.FitsItem (grammar.format_of header)) items item a.fit.items_fit fits;
    };
    few = simp length-append (omega (arith, few));
  }

  pub items_text-push : (front rest : List ℕ) (items : List E) (item : E)
      → (front ++ items_text grammar items) ++ (line (grammar.item_text item) ++ rest)
      ≡ (front ++ items_text grammar (items ++ item ∷ [])) ++ rest
  items_text-push front rest items item =
      let pushed = flat_map-append (λ i. line (grammar.item_text i)) items (item ∷ []) in
      let last = append-nil (line (grammar.item_text item)) in
      sym (append_assoc (front ++ items_text grammar items) (line (grammar.item_text item)) rest)
      ∙ ap (λ xs. xs ++ rest) (append_assoc front (items_text grammar items) (line (grammar.item_text item))
      ∙ ap (λ xs. front ++ xs) (sym (pushed ∙ ap (λ xs. items_text grammar items ++ xs) last)))

  -- what was read, and then more bytes
  read-more : (lines : Lines F) (header : H) (items : List E) (before bytes : List ℕ)
      → HasRead grammar lines header items before
      → before ++ bytes ≡ lines_text grammar header items ++ (bytes_of lines.held ++ bytes)
  read-more lines header items before bytes r =
      ap (λ xs. xs ++ bytes) r.text ∙ append_assoc (lines_text grammar header items) (bytes_of lines.held) bytes

  pub HasRead-push : (old new : Lines F) (bytes : List ℕ) (item : E) → new.state ≡ old.state → new.format ≡ old.format
      → new.count ≡ old.count + 1 → IsItemLine grammar old.format item (bytes_of old.held ++ bytes) (bytes_of new.held)
      → (header : H) (items : List E) (before : List ℕ) → HasRead grammar old header items before
      → HasRead grammar new header (items ++ item ∷ []) (before ++ bytes)
  HasRead-push old new bytes item state format count given header items before r = record {
    reading = state ∙ r.reading;
    format = format ∙ r.format;
    counted = simp length-append (omega (arith, count, r.counted));
    are_lines = AreLines-push header items item r.are_lines (rw r.format at given.fits) (omega (arith, new.few, count, r.counted));
    text = read-more old header items before bytes r ∙ ap (λ xs. lines_text grammar header items ++ xs) given.split
        ∙ items_text-push (line (grammar.header_text header)) (bytes_of new.held) items item;
    few = few-held new.held;
  }

  -- what was read of the first bytes is the header's line, and the rest is held
  pub HasRead-first : (lines : Lines F) (header : H) (before bytes : List ℕ) → lines.state ≡ Reading
      → lines.format ≡ grammar.format_of header → lines.count ≡ 0 → before ≡ [] → grammar.FitsHeader header
      → before ++ bytes ≡ line (grammar.header_text header) ++ bytes_of lines.held → HasRead grammar lines header [] bytes
  HasRead-first lines header before bytes reading format none nothing fits text = record {
    reading = reading;
    format = format;
    counted = none;
    are_lines = record {
      fit = record { header_fits = fits; items_fit = λ i d within. absurd (omega arith) };
      few = omega arith;
    };
    text = rw nothing at text ∙ ap (λ xs. xs ++ bytes_of lines.held) (sym (append-nil (line (grammar.header_text header))));
    few = few-held lines.held;
  }

  -- a fault of the line behind what was read
  fails-behind : (Ended : Type 0) (lines : Lines F) (bytes : List ℕ) (fault : TextFault)
      → HasLineFault grammar Ended lines.format lines.count (bytes_of lines.held ++ bytes) fault
      → (header : H) (items : List E) (before : List ℕ) → HasRead grammar lines header items before
      → FailsBehind grammar Ended header items (before ++ bytes) fault
  fails-behind Ended lines bytes fault h header items before r = record {
    are_lines = r.are_lines;
    rest = bytes_of lines.held ++ bytes;
    text = read-more lines header items before bytes r;
    line = rw (r.format, r.counted) at h;
  }

  -- and how its line begins is held
  pub fails-holding : (Ended : Type 0) (lines next : Lines F) (bytes : List ℕ) (fault : TextFault)
      → FailsAtLine grammar Ended lines next bytes fault
      → (header : H) (items : List E) (before : List ℕ) → HasRead grammar lines header items before
      → FailsHolding grammar Ended next header items (before ++ bytes) fault
  unfolding fails-behind
  fails-holding Ended lines next bytes fault fails header items before r =
      let at = fails r.reading in record {
        fails = fails-behind Ended lines bytes fault at.0 header items before r;
        holds = at.1;
        format = at.2 ∙ r.format;
      }

  -- what stands before it has begun, whatever follows
  begun-behind : (Ended : Type 0) (header : H) (items : List E) (bytes : List ℕ) (fault : TextFault)
      → FailsBehind grammar Ended header items bytes fault → HasBegun grammar bytes
  begun-behind Ended header items bytes fault f = record {
    header = header;
    items = items;
    are_lines = f.are_lines;
    rest = f.rest;
    split = f.text;
  }

  -- it is the text's
  pub text_fault-behind : (Ended : Type 0) (header : H) (items : List E) (bytes : List ℕ) (fault : TextFault)
      → FailsBehind grammar Ended header items bytes fault → HasTextFault grammar Ended bytes fault
  unfolding begun-behind
  text_fault-behind Ended header items bytes BadHeader f = absurd f.line
  text_fault-behind Ended header items bytes (BadLine number) f = record {
    begun = begun-behind Ended header items bytes (BadLine number) f;
    few = f.line.0;
    bad = f.line.2;
    counted = f.line.1;
  }
  text_fault-behind Ended header items bytes (Cut number) f = (
    f.line.2,
    inr record {
      begun = begun-behind Ended header items bytes (Cut number) f;
      few = f.line.0;
      unbroken = f.line.3;
      some = f.line.4;
      counted = f.line.1;
    },
  )
  text_fault-behind Ended header items bytes Memory f = absurd f.line
  text_fault-behind Ended header items bytes Io f = (
    f.line.0,
    inr record {
      begun = begun-behind Ended header items bytes Io f;
      unbroken = f.line.1;
      none = f.line.2;
    },
  )
  text_fault-behind Ended header items bytes TooLong f = record {
    begun = begun-behind Ended header items bytes TooLong f;
    many = f.line.0;
    some = f.line.1;
  }

  pub text_fault-line : (Ended : Type 0) (lines : Lines F) (bytes : List ℕ) (fault : TextFault)
      → HasLineFault grammar Ended lines.format lines.count (bytes_of lines.held ++ bytes) fault
      → (header : H) (items : List E) (before : List ℕ) → HasRead grammar lines header items before
      → HasTextFault grammar Ended (before ++ bytes) fault
  text_fault-line Ended lines bytes fault h header items before r =
      text_fault-behind Ended header items (before ++ bytes) fault (fails-behind Ended lines bytes fault h header items before r)
