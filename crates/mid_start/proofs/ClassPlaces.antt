-- Where the objects of classes and streams are, and what stands for them.
use Rattle.std.proofs.Common.{◌≡◌, ℕ, zero, suc, ◌+◌, ◌-◌, ◌<◌, ◌≤◌, Bool, true, false, List, ◌∷◌, ◌++◌, length, Some, refl, sym, ◌∙◌, ap, add-zero, length-append, arith}
use Rattle.std.specs.Prelude.{slice_get, nat_lt, if◌then◌else◌}
use Rattle.std.specs.List.{range_with_len}
use Rattle.std.proofs.lemmas.Bool.Decides.{nat_tests}
use Rattle.base.specs.Names.{slice_get-front}
use Rattle.lang_meaning.specs.declared.program.ProgramRows.{ProgramRows}
use Rattle.lang_meaning.specs.Values.{Value, object}
use Rattle.lang_meaning.specs.Objects.{Object, class_object, input_stream, output_stream, built_in_classes}
use Rattle.lang_meaning.specs.InitialHeap.{objects_at_start, class_value, standard_input, standard_output}
use Rattle.mid_start.proofs.Lists.{item_behind}
use Rattle.lang_meaning.specs.Recipes.{in_turn, class_recipe, classes_recipe, function_recipe, literal_recipe}
use Rattle.mid_start.specs.Recipes.{of_slot}
use Rattle.mid_start.specs.Settling.{class_number}
use Rattle.lang_meaning.proofs.RecipesFound.{value_in, value_front, value_back, range_count, range_in}
use Rattle.lang_meaning.proofs.WholeRecipes.{all_objects, class_whole, input_whole, output_whole}

pub range_objects : (a len n : ℕ) → length (in_turn class_recipe (range_with_len a len) n).0 ≡ len
range_objects a zero n = refl
range_objects a (suc len) n = ap (λ k. suc k) (range_objects (a + 1) len (n + 1))

pub range_object : (a len n i : ℕ) → i < len → slice_get (in_turn class_recipe (range_with_len a len) n).0 i ≡ Some (class_object (a + i))
range_object a zero n i h = absurd (omega arith)
range_object a (suc len) n zero h = ap (λ c. Some (class_object c)) (sym (add-zero a))
range_object a (suc len) n (suc i) h =
    let same : a + 1 + i ≡ a + suc i = omega arith in
    range_object (a + 1) len (n + 1) i (omega arith) ∙ ap (λ c. Some (class_object c)) same

-- the objects of classes and streams, of which so many are classes
abbrev pub first_objects : ℕ → List Object
first_objects classes = (classes_recipe built_in_classes classes 0).0

abbrev built_in : List Object
built_in = (in_turn class_recipe (range_with_len 0 built_in_classes) 0).0

abbrev others_of : ℕ → List Object
others_of classes = (in_turn class_recipe (range_with_len built_in_classes (classes - built_in_classes)) (0 + length built_in + 2)).0

built_in_count : length built_in ≡ 34
built_in_count = range_objects 0 34 0

pub first_count : (classes : ℕ) → 34 ≤ classes → length (first_objects classes) ≡ classes + 2
first_count classes enough =
    let many : length (others_of classes) ≡ classes - 34 = range_objects 34 (classes - 34) (0 + length built_in + 2) in
    omega (arith, length-append built_in (input_stream ∷ output_stream ∷ others_of classes), built_in_count, many)

behind_built_in : (classes i : ℕ) (o : Object) → slice_get (input_stream ∷ output_stream ∷ others_of classes) i ≡ Some o → slice_get (first_objects classes) (34 + i) ≡ Some o
behind_built_in classes i o e =
    ap (λ n. slice_get (first_objects classes) (n + i)) (sym built_in_count) ∙ item_behind built_in (input_stream ∷ output_stream ∷ others_of classes) i ∙ e

pub input_object : (classes : ℕ) → slice_get (first_objects classes) 34 ≡ Some input_stream
input_object classes = behind_built_in classes 0 input_stream refl

pub output_object : (classes : ℕ) → slice_get (first_objects classes) 35 ≡ Some output_stream
output_object classes = behind_built_in classes 1 output_stream refl

pub class_number_is : (P : ℕ → Type 0) (c : ℕ) → (c < 34 → P c) → (34 ≤ c → P (c + 2)) → P (class_number c)
class_number_is P c low high = by (nat_lt c built_in_classes) refl
  where
    by : (b : Bool) → nat_lt c built_in_classes ≡ b → P (if b then c else c + 2)
    by true e = low (grind (arith, nat_tests))
    by false e = high (grind (arith, nat_tests))

pub class_there : (classes c : ℕ) → c < classes → slice_get (first_objects classes) (class_number c) ≡ Some (class_object c)
class_there classes c within =
    class_number_is (λ n. slice_get (first_objects classes) n ≡ Some (class_object c)) c
    (λ low.
    let same : 0 + c ≡ c = omega arith in
    slice_get-front built_in (input_stream ∷ output_stream ∷ others_of classes) c (class_object c) (range_object 0 34 0 c low ∙ ap (λ d. Some (class_object d)) same))
    (λ high.
    let place : c + 2 ≡ 34 + suc (suc (c - 34)) = omega arith in
    let same : 34 + (c - 34) ≡ c = omega arith in
    ap (slice_get (first_objects classes)) place
    ∙ behind_built_in classes (suc (suc (c - 34))) (class_object c)
    (range_object 34 (classes - 34) (0 + length built_in + 2) (c - 34) (omega arith) ∙ ap (λ d. Some (class_object d)) same))

module _ (names : List (List ℕ)) (program : ProgramRows) where
  pub input_is : standard_input names program ≡ object 34
  input_is = sym (input_whole names built_in_classes program) ∙ ap (λ n. object (0 + n)) built_in_count

  pub output_is : standard_output names program ≡ object 35
  output_is = sym (output_whole names built_in_classes program) ∙ ap (λ n. object (0 + n + 1)) built_in_count

  pub class_value_is : (c : ℕ) → c < length program.classes → class_value names program c ≡ object (class_number c)
  class_value_is c within = sym (class_whole names built_in_classes program c) ∙ by
    where
      first : List Value
      first = (in_turn class_recipe (range_with_len 0 built_in_classes) 0).1

      others : List Value
      others = (in_turn class_recipe (range_with_len built_in_classes (length program.classes - built_in_classes)) (0 + length built_in + 2)).1

      many : length first ≡ 34
      many = range_count 0 34 0

      by : value_in (first ++ others) c ≡ object (class_number c)
      by =
          class_number_is (λ n. value_in (first ++ others) c ≡ object n) c
          (λ low.
          let same : 0 + c ≡ c = omega arith in
          value_front first others c (omega (arith, many)) ∙ range_in 0 34 c 0 low ∙ ap object same)
          (λ high.
          let place : c ≡ length first + (c - 34) = omega (arith, many) in
          let same : 0 + length built_in + 2 + (c - 34) ≡ c + 2 = omega (arith, built_in_count) in
          ap (value_in (first ++ others)) place ∙ value_back first others (c - 34)
          ∙ range_in 34 (length program.classes - 34) (c - 34) (0 + length built_in + 2) (omega arith) ∙ ap object same)

  pub class_at_start : (c : ℕ) → c < length program.classes → slice_get (objects_at_start names program) (class_number c) ≡ Some (class_object c)
  class_at_start c within =
      ap (λ os. slice_get os (class_number c)) (all_objects (of_slot names) names built_in_classes program 0)
      ∙ slice_get-front ((first_objects (length program.classes) ++ functions) ++ literals) _ (class_number c) (class_object c)
      (slice_get-front (first_objects (length program.classes) ++ functions) literals (class_number c) (class_object c)
      (slice_get-front (first_objects (length program.classes)) functions (class_number c) (class_object c) (class_there (length program.classes) c within)))
    where
      functions : List Object
      functions = (in_turn function_recipe program.functions (0 + length (first_objects (length program.classes)))).0

      literals : List Object
      literals = (in_turn (literal_recipe names) program.literals (0 + length (first_objects (length program.classes) ++ functions))).0
