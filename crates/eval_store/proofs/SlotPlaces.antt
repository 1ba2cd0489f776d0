-- The words of slots are those of what stands for their initargs and initforms.
use Rattle.std.proofs.Common.{◌≡◌, ℕ, zero, suc, List, [], ◌∷◌, map, refl, sym, ◌∙◌, ap}
use Rattle.std.specs.Prelude.{slice_get}
use Rattle.lang_meaning.specs.declared.program.ClassRow.{ClassRow}
use Rattle.lang_meaning.specs.Values.{Value}
use Rattle.lang_meaning.specs.InitialHeap.{initargs, initform, laid_out, under_key}
use Rattle.eval_store.specs.Words.{value_of_word}
use Rattle.lang_meaning.specs.Recipes.{in_turn}
use Rattle.lang_meaning.proofs.RecipeSegments.{all_slots_of}
use Rattle.lang_meaning.proofs.SlotPlaces.{SlotPart, args, form, Reading, value_at, value_in_class, slot_under}
use Rattle.eval_store.specs.declared.slots.SlotWords.{SlotWords}
use Rattle.eval_store.specs.Parts.{of_slot, slots_recipe}
use Rattle.eval_store.specs.Tables.{slots_values, slot_at, initargs_or_nil, initform_or_nil}

-- what is read of the pair that stands for a slot
abbrev read_of : SlotPart → Value × Value → Value
read_of args v = v.0
read_of form v = v.1

abbrev of_slots : Reading of_slot
of_slots = record { read = read_of; args_are = λ s a f. refl; form_are = λ s a f. refl }

-- the words of slots

args_word : (names : List (List ℕ)) (ss : List SlotWords) (i : ℕ) → value_of_word names (initargs_or_nil (slice_get ss i)) ≡ value_at (of_slots.read args) (slots_values names ss) i
args_word names [] zero = refl
args_word names [] (suc i) = refl
args_word names (s ∷ ss) zero = refl
args_word names (s ∷ ss) (suc i) = args_word names ss i

form_word : (names : List (List ℕ)) (ss : List SlotWords) (i : ℕ) → value_of_word names (initform_or_nil (slice_get ss i)) ≡ value_at (of_slots.read form) (slots_values names ss) i
form_word names [] zero = refl
form_word names [] (suc i) = refl
form_word names (s ∷ ss) zero = refl
form_word names (s ∷ ss) (suc i) = form_word names ss i

args_word_in : (names : List (List ℕ)) (sss : List (List SlotWords)) (c i : ℕ)
    → value_of_word names (initargs_or_nil (slot_at sss c i)) ≡ value_in_class (of_slots.read args) (map (slots_values names) sss) c i
args_word_in names [] zero i = refl
args_word_in names [] (suc c) i = refl
args_word_in names (ss ∷ sss) zero i = args_word names ss i
args_word_in names (ss ∷ sss) (suc c) i = args_word_in names sss c i

form_word_in : (names : List (List ℕ)) (sss : List (List SlotWords)) (c i : ℕ)
    → value_of_word names (initform_or_nil (slot_at sss c i)) ≡ value_in_class (of_slots.read form) (map (slots_values names) sss) c i
form_word_in names [] zero i = refl
form_word_in names [] (suc c) i = refl
form_word_in names (ss ∷ sss) zero i = form_word names ss i
form_word_in names (ss ∷ sss) (suc c) i = form_word_in names sss c i

pub initargs_found : (names : List (List ℕ)) (classes : List ClassRow) (sss : List (List SlotWords)) (n c i : ℕ)
    → map (slots_values names) sss ≡ (in_turn (slots_recipe names) classes n).1
    → value_of_word names (initargs_or_nil (slot_at sss c i)) ≡ under_key (initargs c i) (laid_out (all_slots_of names classes 0) n) n
initargs_found names classes sss n c i e =
    args_word_in names sss c i
    ∙ ap (λ vs. value_in_class (of_slots.read args) vs c i) e
    ∙ sym (slot_under of_slot of_slots names args classes n c i)

pub initform_found : (names : List (List ℕ)) (classes : List ClassRow) (sss : List (List SlotWords)) (n c i : ℕ)
    → map (slots_values names) sss ≡ (in_turn (slots_recipe names) classes n).1
    → value_of_word names (initform_or_nil (slot_at sss c i)) ≡ under_key (initform c i) (laid_out (all_slots_of names classes 0) n) n
initform_found names classes sss n c i e =
    form_word_in names sss c i
    ∙ ap (λ vs. value_in_class (of_slots.read form) vs c i) e
    ∙ sym (slot_under of_slot of_slots names form classes n c i)
