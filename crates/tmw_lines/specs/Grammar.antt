-- The lines of a text: a header's line first, and then a line for each item.
use Rattle.std.specs.Prelude.{◌≡◌, ℕ, ◌≤◌, ◌^◌, List, ◌++◌, length, All}
use Rattle.std.specs.List.{flat_map}
use Rattle.tmw_lines.specs.FreeParts.{IsFree}
use Rattle.tmw_lines.specs.LineFeeds.{line}

-- the texts of headers and items, without their line feeds, and which of them a text may have: the header tells the
-- format of the lines behind it, and each item fits that format
pub record Grammar (Format Header Item : Type 0) : Type 1 where
  pub header_text : Header → List ℕ
  pub item_text : Item → List ℕ
  pub FitsHeader : Header → Type 0
  pub FitsItem : Format → Item → Type 0
  pub format_of : Header → Format

-- no text of a header or an item has a line feed, and each names what it is the text of
pub record IsNaming {F H E : Type 0} (grammar : Grammar F H E) : Type 0 where
  pub free_header : (header : H) → grammar.FitsHeader header → IsFree 10 (grammar.header_text header)
  pub free_item : (format : F) (item : E) → grammar.FitsItem format item → IsFree 10 (grammar.item_text item)
  pub one_header : (a b : H) → grammar.FitsHeader a → grammar.FitsHeader b → grammar.header_text a ≡ grammar.header_text b
      → a ≡ b
  pub one_item : (format : F) (d e : E) → grammar.FitsItem format d → grammar.FitsItem format e
      → grammar.item_text d ≡ grammar.item_text e → d ≡ e

-- a line for each item
abbrev pub items_text : {F H E : Type 0} → Grammar F H E → List E → List ℕ
items_text grammar items = flat_map (λ item. line (grammar.item_text item)) items

-- the header's line, then a line for each item
abbrev pub lines_text : {F H E : Type 0} → Grammar F H E → H → List E → List ℕ
lines_text grammar header items = line (grammar.header_text header) ++ items_text grammar items

-- the header fits, and each item fits the format of the lines behind it
pub record AllFit {F H E : Type 0} (grammar : Grammar F H E) (header : H) (items : List E) : Type 0 where
  pub header_fits : grammar.FitsHeader header
  pub items_fit : All (grammar.FitsItem (grammar.format_of header)) items

-- a text may have this header and these items: all fit, and there are at most 2^40 items
pub record AreLines {F H E : Type 0} (grammar : Grammar F H E) (header : H) (items : List E) : Type 0 where
  pub fit : AllFit grammar header items
  pub few : length items ≤ 2 ^ 40

-- no header has this text
abbrev pub IsNoHeader : {F H E : Type 0} → Grammar F H E → List ℕ → Type 0
IsNoHeader grammar text = (header : _) → grammar.FitsHeader header → text ≡ grammar.header_text header → ⊥

-- no item of the format has this text
abbrev pub IsNoItem : {F H E : Type 0} → Grammar F H E → F → List ℕ → Type 0
IsNoItem grammar format text = (item : _) → grammar.FitsItem format item → text ≡ grammar.item_text item → ⊥
