-- A store into which all kinds of objects were laid, one after another, is laid out.
use Rattle.std.proofs.Common.{◌≡◌, ℕ, List, [], length, map, sym, ◌∙◌, ap, subst}
use Rattle.lang_meaning.specs.declared.program.ProgramRows.{ProgramRows}
use Rattle.lang_meaning.specs.Values.{Value}
use Rattle.lang_meaning.specs.Objects.{built_in_classes}
use Rattle.lang_meaning.specs.Lookup.{text}
use Rattle.flat_language.specs.declared.program.FlatProgram.{FlatProgram}
use Rattle.flat_language.specs.FlatNodes.{tables}
use Rattle.eval_store.specs.declared.spellings.Spellings.{Spellings}
use Rattle.eval_store.specs.declared.store.Store.{Store}
use Rattle.eval_store.specs.declared.word.Word.{Word}
use Rattle.eval_store.specs.Words.{value_of_word, values_of}
use Rattle.eval_store.specs.Spelling.{IsSpelling}
use Rattle.eval_store.specs.View.{Beside, seen, nothing_seen}
use Rattle.eval_store.specs.declared.classes.FirstWords.{FirstWords}
use Rattle.eval_store.specs.declared.functions.NamedFunctions.{NamedFunctions}
use Rattle.eval_store.specs.declared.initial_heap.InitialHeap.{InitialHeap}
use Rattle.eval_store.specs.declared.slots.SlotWords.{SlotWords}
use Rattle.lang_meaning.specs.Recipes.{in_turn, classes_recipe, literal_recipe}
use Rattle.eval_store.specs.Recipes.{count, with_objects, with_made, IsMadeBy}
use Rattle.eval_store.specs.Parts.{first_recipe, of_slot, slots_recipe}
use Rattle.eval_store.specs.Tables.{first_values, slots_values, function_or_nil, callee_or_none, IsNoting, AreNamed}
use Rattle.eval_store.specs.InitialHeap.{IsInitialHeap, HasInitialHeap}
use Rattle.eval_store.proofs.Made.{both_made}
use Rattle.lang_meaning.proofs.RecipesFound.{value_in}
use Rattle.eval_store.proofs.Found.{word_value, function_found, callee_found}
use Rattle.lang_meaning.proofs.LiteralPlaces.{literal_found}
use Rattle.eval_store.proofs.SlotPlaces.{initargs_found, initform_found}
use Rattle.lang_meaning.proofs.WholeRecipes.{all_recipe, all_objects, at_functions, at_literals, at_slots, class_whole, input_whole, output_whole, function_whole, literal_whole, initargs_whole, initform_whole}

-- all words
abbrev pub layout_of : FirstWords → NamedFunctions → List Word → List (List SlotWords) → InitialHeap
layout_of first functions literals slots = record {
  classes = first.classes;
  input = first.input;
  output = first.output;
  functions = functions;
  literals = literals;
  slots = slots;
}

abbrev Values : Type 0
Values = (((List Value × Value × Value) × List Value) × List Value) × List (List (Value × Value))

-- the words as values, in the order in which they were made
abbrev values_in : List (List ℕ) → List Word → InitialHeap → Values
values_in names words l =
    ((((values_of names l.classes, value_of_word names l.input, value_of_word names l.output), values_of names words), values_of names l.literals), map (slots_values names) l.slots)

-- what is made from the first object on stands where the meaning looks
is_layout : (names : List (List ℕ)) (rows : ProgramRows) (by : Spellings) (words : List Word) (l : InitialHeap)
    → IsSpelling names by → IsNoting by rows.functions words l.functions
    → values_in names words l ≡ (all_recipe of_slot names built_in_classes rows 0).1
    → IsInitialHeap names rows l
is_layout names rows by words l spelling noted same = record {
  classes = λ c. word_value names l.classes c ∙ ap (λ (v : Values). value_in v.0.0.0.0 c) same ∙ class_whole names built_in_classes rows c;
  input = ap (λ (v : Values). v.0.0.0.1) same ∙ input_whole names built_in_classes rows;
  output = ap (λ (v : Values). v.0.0.0.2) same ∙ output_whole names built_in_classes rows;
  callees = λ n.
      ap callee_or_none (noted.entries names n spelling)
      ∙ callee_found names rows.functions words (at_functions names built_in_classes rows) (text names n) (ap (λ (v : Values). v.0.0.1) same);
  functions = λ n.
      ap (λ o. value_of_word names (function_or_nil o)) (noted.entries names n spelling)
      ∙ function_found names rows.functions words (at_functions names built_in_classes rows) (text names n) (ap (λ (v : Values). v.0.0.1) same)
      ∙ function_whole names built_in_classes rows (text names n);
  literals = λ i d h.
      word_value names l.literals i
      ∙ ap (λ (v : Values). value_in v.0.1 i) same
      ∙ literal_found names rows (at_literals names built_in_classes rows) i d h (literal_whole names built_in_classes rows i);
  initargs = λ c i.
      initargs_found names rows.classes l.slots (at_slots names built_in_classes rows) c i (ap (λ (v : Values). v.1) same)
      ∙ initargs_whole names built_in_classes rows c i;
  initforms = λ c i.
      initform_found names rows.classes l.slots (at_slots names built_in_classes rows) c i (ap (λ (v : Values). v.1) same)
      ∙ initform_whole names built_in_classes rows c i;
}

-- nothing beside a store
nothing : Beside
nothing = record { globals = []; dynamics = []; input = []; printed = []; frame = [] }

pub is_laid_out : (names : List (List ℕ)) (program : FlatProgram) (by : Spellings) (classes : ℕ) (first : FirstWords) (functions : NamedFunctions) (literals : List Word) (slots : List (List SlotWords))
    {one two three four five : Store}
    → ((ns : List (List ℕ)) (b : Beside) → seen ns one b ≡ nothing_seen b) → IsSpelling names by → classes ≡ length program.classes
    → IsMadeBy first_values (λ ns. first_recipe classes) one two first
    → AreNamed by program.functions two three functions
    → IsMadeBy values_of (λ ns. in_turn (literal_recipe ns) program.literals) three four literals
    → IsMadeBy (λ ns. map (slots_values ns)) (λ ns. in_turn (slots_recipe ns) program.classes) four five slots
    → HasInitialHeap names program five (layout_of first functions literals slots)
unfolding first_recipe
is_laid_out names program by classes first functions literals slots {one} {two} {three} {four} {five} empty spelling many p q r s =
    let recipe = λ (ns : List (List ℕ)). all_recipe of_slot ns built_in_classes (tables program) in
    let begun : IsMadeBy first_values (λ ns. classes_recipe built_in_classes (length program.classes)) one two first =
    subst (λ n. IsMadeBy first_values (λ ns. classes_recipe built_in_classes n) one two first) many p in
    let made = both_made (both_made (both_made begun q.made) r) s in
    record {
      objects = λ b.
          made.store names b
          ∙ ap (with_made (recipe names)) (empty names b)
          ∙ ap (λ os. with_objects os (nothing_seen b)) (sym (all_objects of_slot names built_in_classes (tables program) 0));
      stands = is_layout names (tables program) by q.words (layout_of first functions literals slots) spelling q.found
          (made.stands names nothing ∙ ap (λ z. (recipe names (count z)).1) (empty names nothing));
    }
