-- What workers were given, and what they have done with it.
use Rattle.tmw_workers.proofs.Shared.{Answer, Call, HasWorked, Kind, List, Option, Refused, WriterIs, [], all_stand-more, ap, get_or, get_or-append_seam, kinds_made, length, one_more, rules, subst, sym, ℕ, ◌++◌, ◌<◌, ◌∙◌, ◌∷◌, ◌≡◌}
use Rattle.tmw_workers.specs.WorkerConditions.{GivesWithin}

-- What was carried out with answers that the memory gives was so with answers of which there may be more.
pub worked-more : (gives more : Call → Answer → Type 0) (script : List (List Kind)) (before writer : WriterIs) (stop : Option Refused)
    → GivesWithin gives more → HasWorked gives script before stop writer → HasWorked more script before stop writer
worked-more gives more script before writer stop larger worked =
    search (rules, all_stand-more, kinds_made)

pub pushed : {A : Type 0} (P : ℕ → A → Type 0) (items : List A) (item : A) (new : List A) → new ≡ items ++ item ∷ []
    → ((place : ℕ) (fallback : A) → place < length items → P place (get_or items place fallback)) → P (length items) item
    → (place : ℕ) (fallback : A) → place < length new → P place (get_or new place fallback)
pushed {A = A} P items item new is each last =
    subst (λ (l : List A). (place : ℕ) (fallback : A) → place < length l → P place (get_or l place fallback)) (sym is)
    (one_more P items item each last)

-- An item is the one at its place.
pub at_seam : {A : Type 0} (items before after : List A) (item : A) → before ++ item ∷ after ≡ items
    → (fallback : A) → get_or items (length before) fallback ≡ item
at_seam {A = A} items before after item is fallback =
    ap (λ (l : List A). get_or l (length before) fallback) (sym is) ∙ get_or-append_seam before item after fallback
