-- **When an initial heap says where the objects of a program stand**, and when a store has them.
use Rattle.std.specs.Prelude.{◌≡◌, ℕ, List, [], Some, slice_get, option_map}
use Rattle.base.specs.Data.{Item}
use Rattle.lang_meaning.specs.declared.program.ProgramRows.{ProgramRows}
use Rattle.lang_meaning.specs.declared.program.FunctionRow.{FunctionRow}
use Rattle.lang_meaning.specs.declared.program.LiteralRow.TheVariants.{Datum}
use Rattle.lang_meaning.specs.State.{first_state}
use Rattle.lang_meaning.specs.Lookup.{text}
use Rattle.lang_meaning.specs.Literals.{function_row}
use Rattle.lang_meaning.specs.InitialHeap.{objects_at_start, class_value, standard_input, standard_output, function_value, literal_value, initargs_value, initform_value}
use Rattle.flat_language.specs.declared.program.FlatProgram.{FlatProgram}
use Rattle.flat_language.specs.FlatNodes.{tables}
use Rattle.eval_store.specs.declared.store.Store.{Store}
use Rattle.eval_store.specs.Words.{value_of_word}
use Rattle.eval_store.specs.View.{Beside, seen}
use Rattle.eval_store.specs.declared.initial_heap.InitialHeap.{InitialHeap}
use Rattle.eval_store.specs.Tables.{word_at, entry_of, callee_or_none, function_or_nil, slot_at, initargs_or_nil, initform_or_nil}

-- each word of the initial heap is the value that the meaning looks up among the objects
pub record IsInitialHeap (names : List (List ℕ)) (rows : ProgramRows) (l : InitialHeap) : Type 0 where
  pub classes : (c : ℕ) → value_of_word names (word_at l.classes c) ≡ class_value names rows c
  pub input : value_of_word names l.input ≡ standard_input names rows
  pub output : value_of_word names l.output ≡ standard_output names rows
  pub callees : (n : ℕ) → callee_or_none (entry_of l.functions n) ≡ option_map (λ (f : FunctionRow). f.callee) (function_row names rows.functions (text names n))
  pub functions : (n : ℕ) → value_of_word names (function_or_nil (entry_of l.functions n)) ≡ function_value names rows (text names n)
  pub literals : (i : ℕ) (d : Item) → slice_get rows.literals i ≡ Some (Datum d) → value_of_word names (word_at l.literals i) ≡ literal_value names rows i d
  pub initargs : (c i : ℕ) → value_of_word names (initargs_or_nil (slot_at l.slots c i)) ≡ initargs_value names rows c i
  pub initforms : (c i : ℕ) → value_of_word names (initform_or_nil (slot_at l.slots c i)) ≡ initform_value names rows c i

-- the store has the objects that are there before the first form and nothing else, and the initial heap says where
pub record HasInitialHeap (names : List (List ℕ)) (program : FlatProgram) (s : Store) (l : InitialHeap) : Type 0 where
  pub objects : (b : Beside) → seen names s b ≡ record {
    state = record (first_state (objects_at_start names (tables program)) b.input) { globals = b.globals; dynamics = b.dynamics; printed = b.printed };
    frame = b.frame;
    captured = [];
  }
  pub stands : IsInitialHeap names (tables program) l
