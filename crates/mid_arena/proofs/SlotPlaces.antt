-- The place of a slot of that name: the code does what the meaning says of it.
use Rattle.std.proofs.Common.{◌≡◌, ℕ, ◌+◌, ◌*◌, ◌^◌, ◌<◌, ◌≤◌, pos, Bool, true, false, List, [], ◌∷◌, ◌++◌, length, Option, Some, None, refl, arith}
use Rattle.std.specs.Prelude.{nat_lt, slice_get}
use Rattle.std.specs.List.{position_or_len}
use Rattle.std.proofs.lemmas.Bool.Decides.{nat_tests}
use Rattle.lang_meaning.specs.declared.program.ProgramRows.{ProgramRows}
use Rattle.lang_meaning.specs.declared.program.SlotRow.{SlotRow}
use Rattle.lang_meaning.specs.declared.primitive.Primitive.TheVariants.{SlotPlace}
use Rattle.lang_meaning.specs.Values.{Value}
use Rattle.lang_meaning.specs.Objects.{instance, class_object, program_error_class, standard_object_class}
use Rattle.lang_meaning.specs.State as meaning
use Rattle.lang_meaning.specs.Classes.{precedence, slots}
use Rattle.lang_meaning.specs.InitialHeap.{class_value}
use Rattle.lang_meaning.specs.Primitives.{Spelt, as_symbol, a_symbol, is_slot, slot_place}
use Rattle.mid_code.specs.declared.program.MidProcedure.{MidProcedure}
use Rattle.mid_code.specs.declared.operation.Arithmetic.TheVariants as which
use Rattle.base.specs.Arithmetic.{sum32, product32}
use Rattle.mid_code.specs.MidCode.{MidStep, code_of}
use Rattle.mid_code.specs.State.{Registers, MidState, MidOutcome, returns, ends, first_registers}
use Rattle.mid_code.specs.Meaning.{Task}
use Rattle.mid_arena.specs.Tags.{instance_header}
use Rattle.mid_arena.specs.Places.{Places, word_of}
use Rattle.mid_arena.specs.FixedWords.{class_address}
use Rattle.mid_arena.specs.Represents.{Represents}
use Rattle.mid_arena.specs.Answers.{units_after}
use Rattle.mid_arena.specs.Steps as steps
use Rattle.mid_arena.specs.Steps.{steps_of}
use Rattle.mid_arena.specs.declared.line.Line.TheVariants as line
use Rattle.mid_arena.proofs.Running.{and_ends, constant_falls, compute_known, load_falls, address_above}
use Rattle.mid_arena.proofs.Arguments.{ObjectFound, object_found, length_word_is}
use Rattle.mid_arena.proofs.Doing.{alike_charged, Run, goes_on, part_answers, paid, value_answers}
use Rattle.mid_arena.proofs.Conditions.{program_error as of_program, signal_run}
use Rattle.mid_arena.proofs.Checking.{instance_registers}
use Rattle.mid_arena.proofs.Needing.{instance_needed}
use Rattle.mid_arena.proofs.NeedingSymbols.{symbol_needed}
use Rattle.mid_arena.specs.ClassesThere.{ClassesThere}
use Rattle.mid_arena.proofs.Slots.{instance_low}
use Rattle.mid_arena.proofs.SlotRows.{class_found, class_low}
use Rattle.mid_arena.proofs.SlotSearch.{search_slot, position_at_most, NameAt, Searched, found, missed, search, slot_told}
use Rattle.mid_arena.proofs.Taking.{does_two}
use Rattle.mid_arena.proofs.Registers.{last_two}
use Rattle.mid_arena.proofs.WordFacts.{sum_fits}
use Rattle.mid_arena.proofs.Entering.{InEveryFrame}

-- what the search is charged bounds its turns
place_units :
    (names : List (List ℕ)) (program : ProgramRows) (rows : List SlotRow) (p : SlotRow → Bool) (z : meaning.State) (n : ℕ)
    → units_after names program (slot_place rows p z) ≤ z.units + n → position_or_len p rows ≤ n
place_units names program rows p z n units = by (nat_lt (position_or_len p rows) (length rows)) refl
  where
    by : (b : Bool) → nat_lt (position_or_len p rows) (length rows) ≡ b → position_or_len p rows ≤ n
    by true e = let so : z.units + (position_or_len p rows + 1) ≤ z.units + n = rw e at units in omega (arith, so)
    by false e =
        let so : z.units + length rows ≤ z.units + n = let all = rw e at units in omega (arith, all) in
        omega (arith, so, position_at_most p rows)

-- the lines behind the tests of the arguments
abbrev seeking : List MidStep → List MidStep
seeking rest =
    steps.load 4 0 (pos 2) ∷ steps.load 5 4 (pos 18) ∷ steps.compute 5 which.Add 5 4 ∷ steps.compute_by 5 which.Add 5 26
    ++ steps.load 7 4 (pos 22) ∷ steps.compute_by 7 which.Multiply 7 3 ++ steps.compute 7 which.Add 7 5 ∷ steps.constant 3 0 ∷ rest

abbrev sought : List MidStep
sought = search_slot ∷ steps.signal (pos (class_address program_error_class)) ++ []

module _ (names : List (List ℕ)) (program : ProgramRows) (places : Places) (z : meaning.State) (y : MidState) (r : Represents names program places z y) where
  module _
      (procedures : List MidProcedure) (below : Task → MidState → MidOutcome) (n budget : ℕ) (rows : List SlotRow) (p : SlotRow → Bool) (few : length rows < 2 ^ 28)
      (x : ℕ)
    where
      -- where the search ends, it comes to the place, or to a program error
      searched :
          (k : ℕ) (rs : Registers) → k + 200 ≤ budget → Searched procedures below y x p n rows 0 k rs
          → Run names program places z y procedures below n budget (slot_place rows p z) (code_of sought) rs k
      searched k rs cost (found j k' rs' place inside within run) =
          let less : nat_lt j (length rows) ≡ true = grind (arith, nat_tests) in
          rw (place, less) (record {
            outcome = ends (returns (4 * j)) rs' (paid y k');
            runs = let same : 0 + j ≡ j = omega arith in and_ends tt (rw same at run);
            answers =
                value_answers names program places z y r (length_word_is places j (omega (arith, few, inside))) (alike_charged z (j + 1)) (omega (arith, within, cost));
          })
      searched k rs cost (missed k' rs' place size within run) =
          let not_less : nat_lt (length rows) (length rows) ≡ false = grind (arith, nat_tests) in
          rw (place, not_less)
          (goes_on names program places z y procedures below run
          (part_answers names program places z y procedures below (steps.signal (pos (class_address program_error_class))) []
          (signal_run names program places z y r procedures below n budget k' program_error_class (meaning.charged (length rows) z) rs' size of_program
          (alike_charged z (length rows)) (omega (arith, within, cost)))))

module _
    (names : List (List ℕ)) (program : ProgramRows) (places : Places) (z : meaning.State) (y : MidState) (r : Represents names program places z y)
    (classes : ClassesThere names program z) (w x c : ℕ) (v u : Value) (values : List (Option Value)) (mark : Value) (s : Spelt)
    (it : ObjectFound names program places z y r v w (instance c values mark)) (word : word_of places u ≡ Some x) (spelt : as_symbol z u ≡ Some s)
    (procedures : List MidProcedure) (below : Task → MidState → MidOutcome) (n budget : ℕ) (turns : position_or_len (is_slot names s) (slots program c) ≤ n)
  where
    of_class : ObjectFound names program places z y r (class_value names program c) it.stands.class.word (class_object c)
    of_class = class_found names program places z y r classes v w c values mark it

    -- the address of the first row
    abbrev rows_from : ℕ
    rows_from = of_class.spot.address + 28 + 4 * length (precedence program c)

    -- the names of the slots stand there
    row_name : (j : ℕ) (row : SlotRow) → slice_get (slots program c) j ≡ Some row → NameAt procedures below y x (is_slot names s) (rows_from + 12 * j) row
    row_name j row e =
        let at = (of_class.stands.rows j row e).name in
        record { word = at.word; stands = at.stands; tells = slot_told names program places z y r u x s row at.word word spelt at.of_value }

    place_run :
        (six seven : Option ℕ) (k : ℕ) → k + 300 ≤ budget
        → Run names program places z y procedures below n budget (slot_place (slots program c) (is_slot names s) z) (code_of (seeking sought))
        (Some w ∷ Some x ∷ None ∷ None ∷ None ∷ None ∷ six ∷ seven ∷ []) k
    place_run six seven k cost =
        let low = instance_low names program places z y r v w c values mark it in
        let high = class_low names program places z y r classes (class_value names program c) it.stands.class.word c of_class in
        let class_word : ℕ = it.stands.class.word in
        let above : ℕ = 4 * length (precedence program c) in
        let count : ℕ = length (slots program c) in
        let is_word : class_word ≡ of_class.spot.address + 2 = of_class.word in
        goes_on names program places z y procedures below
        (load_falls refl (address_above w 2 (it.spot.address + 4) (omega (arith, it.word)) (omega (arith, it.word, low))) it.stands.class.stands)
        (goes_on names program places z y procedures below
        (load_falls refl (address_above class_word 18 (of_class.spot.address + 20) (omega (arith, is_word)) (omega (arith, is_word, high))) of_class.stands.above)
        (goes_on names program places z y procedures below (compute_known refl refl (sum_fits above class_word (omega (arith, high))))
        (goes_on names program places z y procedures below constant_falls
        (goes_on names program places z y procedures below
        (compute_known refl refl (let sum : sum32 (above + class_word) 26 ≡ rows_from = omega (arith, is_word, high) in sum))
        (goes_on names program places z y procedures below
        (load_falls refl (address_above class_word 22 (of_class.spot.address + 24) (omega (arith, is_word)) (omega (arith, is_word, high))) of_class.stands.count)
        (goes_on names program places z y procedures below constant_falls
        (goes_on names program places z y procedures below
        (compute_known refl refl (let product : product32 (4 * count) 3 ≡ 12 * count = omega (arith, high) in product))
        (goes_on names program places z y procedures below
        (compute_known refl refl (let sum : sum32 (12 * count) rows_from ≡ rows_from + 12 * count = omega (arith, is_word, high) in sum))
        (goes_on names program places z y procedures below constant_falls
        (searched names program places z y r procedures below n budget (slots program c) (is_slot names s) (omega (arith, high)) x _ _ (omega (arith, cost))
        (search procedures below y x (is_slot names s) (slots program c) n 0 _ rows_from (rows_from + 12 * count) (Some w) None (Some class_word) (Some 3)
        row_name refl (omega (arith, is_word, high)) (omega (arith, high)) turns)))))))))))

pub slot_place_does : InEveryFrame SlotPlace
slot_place_does = does_two SlotPlace refl (λ v u w x names program places z y procedures below n r are units.
    instance_needed names program places z y r procedures below n 0 w standard_object_class v (first_registers 8 (w ∷ x ∷ [])) (omega arith) refl refl are.0 (omega arith)
    (y.cost + 130 + 244 * 2) y.cost (λ i. a_symbol u z (λ s. slot_place (slots program i.0) (is_slot names s) z)) (steps_of (line.NeedSymbol 1) ++ seeking sought) (omega arith)
    (λ c values mark held.
    let it = object_found names program places z y r v w (instance c values mark) are.0 held in
    symbol_needed names program places z y r procedures below n (y.cost + 130 + 244 * 2) _ 1 x u (λ s. slot_place (slots program c) (is_slot names s) z)
    (seeking sought) (instance_registers w (instance_header (length values)) (first_registers 8 (w ∷ x ∷ []))) (omega arith) refl refl are.1.0 (omega arith)
    (λ s rs' k' spelt told scratched paid_then.
    let last = last_two scratched in
    let turns : position_or_len (is_slot names s) (slots program c) ≤ n = place_units names program (slots program c) (is_slot names s) z n (rw (held, spelt) at units) in
    rw last.same
    (place_run names program places z y r r.classes w x c v u values mark s it are.1.0 spelt procedures below n _ turns last.six last.seven k'
    (omega (arith, paid_then))))))
