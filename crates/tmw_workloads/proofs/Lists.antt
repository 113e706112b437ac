-- A list of parts that is read from an array, value by value.
use Rattle.tmw_workloads.proofs.Shared.{All, All-head, All-push, All-tail, Data, IsNoPart, List, [], ap, arith, array, get_or, items_of, length, length-map, list_data, map, map_push, suc, sym, take, take_all, take_more, view, zero, ℕ, ◌++◌, ◌+◌, ◌<◌, ◌∙◌, ◌∷◌, ◌≡◌, ◌≤◌}
use Rattle.serde_json.specs.declared.value.Value.{Value}
use Rattle.tmw_workloads.proofs.Values.{array_same}

-- These values are what right parts are written as.
pub record HasRead {B : Type 0} (written : B → Data) (IsRight : B → Type 0) (values : List Value) (parts : List B) : Type 0 where
  pub right : All IsRight parts
  pub same : map view values ≡ map written parts

-- one more part was read
pub read_one : {B : Type 0} (written : B → Data) (IsRight : B → Type 0) (values : List Value) (i : ℕ) (value : Value)
    (parts : List B) (part : B) → i < length values → value ≡ get_or values i value
    → HasRead written IsRight (take i values) parts → IsRight part → view value ≡ written part
    → HasRead written IsRight (take (i + 1) values) (parts ++ part ∷ [])
read_one written IsRight values i value parts part within is read right writes = record {
  right = All-push IsRight parts part read.right right;
  same =
      ap (map view) (take_more values i value within)
      ∙ map_push view (take i values) (get_or values i value)
      ∙ ap (λ ds. ds ++ view (get_or values i value) ∷ []) read.same
      ∙ ap (λ d. map written parts ++ d ∷ []) (ap view (sym is) ∙ writes)
      ∙ sym (map_push written parts part);
}

-- a value that is no right part stands in no list of them
pub read_no : {B : Type 0} (written : B → Data) (IsRight : B → Type 0) (values : List Value) (i : ℕ) (value : Value)
    (parts : List B) → i < length values → value ≡ get_or values i value → IsNoPart written IsRight (view value)
    → HasRead written IsRight values parts → ⊥
read_no written IsRight [] i value parts within is none read = absurd (omega arith)
read_no written IsRight (v ∷ vs) i value [] within is none read = let same = read.same in cc
read_no written IsRight (v ∷ vs) zero value (p ∷ ps) within is none read =
    none p (All-head IsRight p ps read.right) (ap view is ∙ cc)
read_no written IsRight (v ∷ vs) (suc i) value (p ∷ ps) within is none read =
    let same = read.same in
    read_no written IsRight vs i value ps (omega arith) is none (record { right = All-tail IsRight p ps read.right; same = cc })

-- all values were read
pub read_all : {B : Type 0} (written : B → Data) (IsRight : B → Type 0) (values : List Value) (n : ℕ) (parts : List B)
    → length values ≤ n → HasRead written IsRight (take n values) parts → HasRead written IsRight values parts
read_all written IsRight values n parts past read = grind (arith, take_all)

-- an array's values, and the parts that it is written of
pub list_from_read : {B : Type 0} (written : B → Data) (IsRight : B → Type 0) (content : Data) (values : List Value)
    (parts : List B) → content ≡ list_data view values → HasRead written IsRight values parts → content ≡ list_data written parts
list_from_read written IsRight content values parts is read = is ∙ ap (λ ds. array (items_of ds)) read.same

pub read_from_list : {B : Type 0} (written : B → Data) (IsRight : B → Type 0) (content : Data) (values : List Value)
    (parts : List B) → content ≡ list_data view values → All IsRight parts → content ≡ list_data written parts
    → HasRead written IsRight values parts
read_from_list written IsRight content values parts is right writes = grind (arith, array_same)

-- as one of its values is no right part, the array is none of such parts
pub none_at : {B : Type 0} (written : B → Data) (IsRight : B → Type 0) (AreRight : List B → Type 0) (content : Data)
    (values : List Value) (i : ℕ) (value : Value) → content ≡ list_data view values → i < length values
    → value ≡ get_or values i value → IsNoPart written IsRight (view value)
    → ((parts : List B) → AreRight parts → All IsRight parts) → IsNoPart (list_data written) AreRight content
none_at written IsRight AreRight content values i value at within is none each parts right writes =
    read_no written IsRight values i value parts within is none
    (read_from_list written IsRight content values parts at (each parts right) writes)

-- as many parts as values
pub length-read : {B : Type 0} (written : B → Data) (IsRight : B → Type 0) (values : List Value) (parts : List B)
    → HasRead written IsRight values parts → length parts ≡ length values
length-read written IsRight values parts read = cc (length-map parts written, length-map values view)

-- one array has one number of parts
pub length-same : {B : Type 0} (written : B → Data) (content : Data) (parts others : List B) → content ≡ list_data written parts
    → content ≡ list_data written others → length parts ≡ length others
length-same written content parts others is also =
    cc (length-map parts written, array_same (map written parts) (map written others) (sym is ∙ also), length-map others written)
