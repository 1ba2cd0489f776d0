-- What the parts of a program pay for by their nodes: functions, main forms, rows and names.
use Rattle.std.proofs.Common.{◌≡◌, ℕ, suc, ◌+◌, ◌*◌, ◌≤◌, Bool, true, false, List, [], ◌∷◌, ◌++◌, length, map, arith}
use Rattle.std.specs.Prelude.{if◌then◌else◌, sum_by, flat_map}
use Rattle.std.specs.List.{list_any}
use Rattle.std.specs.Str.{bytes_eq}
use Rattle.std.proofs.lemmas.List.Sums.{sum_by-cons}
use Rattle.base.specs.AllOf.{AllOf}
use Rattle.lang_meaning.specs.declared.program.ClassRow.{ClassRow}
use Rattle.lang_meaning.specs.declared.program.GenericRow.{GenericRow}
use Rattle.lang_meaning.specs.declared.program.LiteralRow.{LiteralRow}
use Rattle.lang_meaning.specs.declared.program.LiteralRow.TheVariants as row
use Rattle.lang_meaning.specs.declared.program.SlotRow.{SlotRow}
use Rattle.lang_meaning.specs.Cells.{one_of_each}
use Rattle.lang_meaning.specs.ProgramCounts.{row_nodes, slot_nodes, class_nodes}
use Rattle.flat_language.specs.declared.program.FlatProcedure.{FlatProcedure}
use Rattle.flat_language.specs.declared.program.FlatProgram.{FlatProgram}
use Rattle.flat_language.specs.FlatForm.{FlatForm}
use Rattle.flat_language.specs.FlatFits.{Fits}
use Rattle.flat_language.specs.FlatNodes.{nodes}
use Rattle.flat_nodes.specs.ProgramNodes.{function_nodes}
use Rattle.mid_start.specs.Rows.{unit_words, most_literal_words, most_slot_words, most_slots_words, most_class_words}
use Rattle.back_code_sizes.specs.Sizes.{words_of_node, words_of_main, function_words, main_words}
use Rattle.back_words.specs.Uses.{Use, as_global, as_dynamic, as_symbol, globals_among, dynamics_among, symbols_among, uses}
use Rattle.back_image_sizes.specs.Sizes.{uses_words, words_of_class}
use Rattle.back_image_sizes.proofs.Uses.{both_uses, law_of_use_sizes}

-- names

-- each variable and each symbol counts
pub uses_counted :
    (us : List Use) → length (globals_among us) + length (dynamics_among us) + unit_words * length (symbols_among us) ≡ uses_words us
uses_counted [] = omega arith
uses_counted (as_global n ∷ us) = let h = uses_counted us in omega (arith, h)
uses_counted (as_dynamic n ∷ us) = let h = uses_counted us in omega (arith, h)
uses_counted (as_symbol n ∷ us) = let h = uses_counted us in omega (arith, h)

first_or_none : (b : Bool) (c : ℕ) (others : List ℕ) (n : ℕ) → length others ≤ n → length ((if b then [] else c ∷ []) ++ others) ≤ suc n
first_or_none true c others n h = omega (arith, h)
first_or_none false c others n h = omega (arith, h)

pub one_of_each_count : (group : ℕ → List ℕ) (seen ns : List ℕ) → length (one_of_each group seen ns) ≤ length ns
one_of_each_count group seen [] = omega arith
one_of_each_count group seen (c ∷ cs) =
    first_or_none (list_any (λ d. bytes_eq (group c) (group d)) seen) c (one_of_each group (c ∷ seen) cs) (length cs) (one_of_each_count group (c ∷ seen) cs)

pub generic_uses : (gs : List GenericRow) → uses_words (map (λ (g : GenericRow). as_symbol g.name.0) gs) ≡ unit_words * length gs
generic_uses [] = omega arith
generic_uses (g ∷ gs) = let h = generic_uses gs in omega (arith, h)

-- functions and main forms, with the words of the names that they use, their numbers and how many arguments they take

module _ (names : List (List ℕ)) (program : FlatProgram) where
  pub functions_paid :
      (qs : List FlatProcedure) → AllOf (λ q. Fits program q.body) qs
      → sum_by function_words qs + uses_words (flat_map (λ (q : FlatProcedure). uses names program q.body) qs) + 3 * length qs
      ≤ words_of_node * sum_by function_nodes qs
  functions_paid [] h = omega arith
  functions_paid (q ∷ qs) h =
      omega (
        arith,
        functions_paid qs h.1,
        law_of_use_sizes names program q.body h.0,
        both_uses (uses names program q.body) (flat_map (λ (q : FlatProcedure). uses names program q.body) qs),
        sum_by-cons function_words q qs,
        sum_by-cons function_nodes q qs,
      )

  pub mains_paid :
      (fs : List FlatForm) → AllOf (Fits program) fs
      → sum_by main_words fs + uses_words (flat_map (uses names program) fs) ≤ words_of_node * sum_by nodes fs + words_of_main * length fs
  mains_paid [] h = omega arith
  mains_paid (f ∷ fs) h =
      omega (
        arith,
        mains_paid fs h.1,
        law_of_use_sizes names program f h.0,
        both_uses (uses names program f) (flat_map (uses names program) fs),
        sum_by-cons main_words f fs,
        sum_by-cons nodes f fs,
      )

-- rows

pub literals_paid : (ls : List LiteralRow) → sum_by most_literal_words ls ≤ words_of_node * sum_by row_nodes ls
literals_paid [] = omega arith
literals_paid (l ∷ ls) = omega (arith, one l, literals_paid ls, sum_by-cons most_literal_words l ls, sum_by-cons row_nodes l ls)
  where
    one : (l : LiteralRow) → most_literal_words l ≤ words_of_node * row_nodes l
    one (row.Datum d) = omega arith
    one (row.Class c) = omega arith
    one (row.Function name) = omega arith

slots_paid : (ss : List SlotRow) → sum_by most_slot_words ss + 3 * length ss ≤ words_of_node * sum_by slot_nodes ss
slots_paid [] = omega arith
slots_paid (s ∷ ss) = omega (arith, slots_paid ss, sum_by-cons most_slot_words s ss, sum_by-cons slot_nodes s ss)

pub classes_paid :
    (cs : List ClassRow)
    → sum_by most_slots_words cs + sum_by most_class_words cs ≤ words_of_node * sum_by class_nodes cs + words_of_class * length cs
classes_paid [] = omega arith
classes_paid (c ∷ cs) =
    omega (
      arith,
      classes_paid cs,
      slots_paid c.slots,
      sum_by-cons most_slots_words c cs,
      sum_by-cons most_class_words c cs,
      sum_by-cons class_nodes c cs,
    )
