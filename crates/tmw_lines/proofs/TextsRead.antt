-- Reading a whole text: its header, and then the items of all other lines.
use Rattle.tmw_lines.proofs.Shared.{AreGiven, AreLines, AreReadFor, EndsSoon, Err, FromSource, Grammar, HasFirstLineFault, HasRead, HasTextFault, Lines, List, Memory, Ok, ReadsItems, Result, Taking, Tells, Tells-more, TextFault, [], ap, arith, bytes_of, inl, inr, lines_text, refl, subst, ℕ, ◌++◌, ◌∙◌, ◌∷◌, ◌≡◌}
use Rattle.tmw_lines.proofs.LinesRead.{text_fault-behind}
use Rattle.tmw_lines.specs.declared.items.Reached.{Reached}
use Rattle.tmw_lines.specs.declared.items.Reached.TheVariants.{End, Stop}

-- a fault of the first line is the text's
pub text_fault-first : {F H E : Type 0} (grammar : Grammar F H E) (Ended : Type 0) (bytes : List ℕ) (fault : TextFault)
    → HasFirstLineFault grammar Ended bytes fault → HasTextFault grammar Ended bytes fault
text_fault-first grammar Ended bytes fault h = grind arith

-- what was read when memory was wanted ends soon behind whole lines
pub soon-behind : {F H E : Type 0} (grammar : Grammar F H E) (lines : Lines F) (header : H) (items : List E) (bytes : List ℕ)
    → HasRead grammar lines header items bytes → EndsSoon grammar bytes
soon-behind grammar lines header items bytes read = record {
  begun = record {
    header = header;
    items = items;
    are_lines = read.are_lines;
    rest = bytes_of lines.held;
    split = read.text;
  };
  soon = read.few;
}

-- the fault that is answered is the text's
pub text_fault-read : (Done : Type 0) {F H E : Type 0} (grammar : Grammar F H E) (Ended : Type 0) (lines : Lines F) (header : H) (items : List E)
    (bytes : List ℕ) (fault : TextFault) → AreReadFor {Done = Done} grammar Ended lines header items bytes (Err fault)
    → HasTextFault grammar Ended bytes fault
text_fault-read Done grammar Ended lines header items bytes fault (inl f) = text_fault-behind grammar Ended header items bytes fault f.fails
text_fault-read Done grammar Ended lines header items bytes fault (inr (is, f)) =
    rw is (soon-behind grammar lines header (items ++ f.last ∷ []) bytes f.read)

-- what is answered of items that are held, if the taker stops for want of memory
abbrev pub held_by : Result Reached TextFault → Result (Unit {0}) TextFault
held_by (Ok End) = Ok tt
held_by (Ok Stop) = Err Memory
held_by (Err fault) = Err fault

-- what a taker was given is what was read
module _ {F H E T : Type 0} (grammar : Grammar F H E) (Ended : Type 0) (taking : Taking T E) (old new : Lines F)
    (before after : T) (items : List E) (bytes : List ℕ) where
  pub given-read : (result : Result Reached TextFault) → AreGiven grammar Ended taking old new before after items bytes result
      → (header : H) (given : List E) (earlier : List ℕ) → HasRead grammar old header given earlier
      → AreReadFor grammar Ended new header (given ++ items) (earlier ++ bytes) (held_by result)
  given-read (Ok End) g header given earlier r = g.0 header given earlier r
  given-read (Ok Stop) g header given earlier r = inr (refl, record { last = g.last; read = g.read header given earlier r })
  given-read (Err fault) g header given earlier r = inl (g.0 header given earlier r)

-- a whole text: the header was read, and then the items of all other lines
module _ {F H E S : Type 0} {grammar : Grammar F H E} {From : FromSource S}
    {Ended : Type 0} {a b c : S} {lines after : Lines F} {header : H} {first : List ℕ} {held items : List E}
    (told : Tells From a first b) (read : HasRead grammar lines header [] first) where
  pub all-ends : {Done : Type 0} (done : Done) → held ≡ []
      → ReadsItems grammar From Ended b c lines after held items (Ok done)
      → Tells From a (lines_text grammar header items) c × Ended × AreLines grammar header items
  all-ends done none reads =
      let all : items ≡ reads.items = reads.is ∙ ap (λ xs. xs ++ reads.items) none in
      let end = reads.read header [] first read in
      rw all (
        subst (λ bytes. Tells From a bytes c) end.text
            (Tells-more From a b c first reads.bytes told reads.told),
        end.ended,
        end.are_lines,
      )

  pub all-fails : (Done : Type 0) (fault : TextFault)
      → ReadsItems {Done = Done} grammar From Ended b c lines after held items (Err fault)
      → (bytes : List ℕ) × Tells From a bytes c × HasTextFault grammar Ended bytes fault
  all-fails Done fault reads = (
    first ++ reads.bytes,
    Tells-more From a b c first reads.bytes told reads.told,
    text_fault-read Done grammar Ended after header reads.items (first ++ reads.bytes) fault (reads.read header [] first read),
  )
