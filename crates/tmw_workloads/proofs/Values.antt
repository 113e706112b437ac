-- What a value is, by what was read of it.
use Rattle.tmw_workloads.proofs.Shared.{Data, Items, List, Some, [], arith, array, boolean, items_of, null, number, object, refl, string, ◌∷◌, ◌≡◌}
use Rattle.serde_json.specs.Find.{as_array}

pub array_from_as_array : (content : Data) (items : Items) → Some items ≡ as_array content → content ≡ array items
array_from_as_array null items is = cc
array_from_as_array (boolean b) items is = cc
array_from_as_array (number n) items is = cc
array_from_as_array (string s) items is = cc
array_from_as_array (array ds) items is = cc
array_from_as_array (object ms) items is = cc

pub items_of-injective : (ds es : List Data) → items_of ds ≡ items_of es → ds ≡ es
items_of-injective [] [] is = refl
items_of-injective [] (e ∷ es) is = cc
items_of-injective (d ∷ ds) [] is = cc
items_of-injective (d ∷ ds) (e ∷ es) is = let same = items_of-injective ds es cc in cc

-- one array has one list of values
pub array_same : (ds es : List Data) → array (items_of ds) ≡ array (items_of es) → ds ≡ es
array_same ds es is = grind (arith, items_of-injective)
