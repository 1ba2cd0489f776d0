-- What the class of an instance says of a slot, and the mark of a condition: the code does what the meaning says of them.
use Rattle.std.proofs.Common.{◌≡◌, ℕ, ◌+◌, ◌*◌, ◌^◌, ◌<◌, ◌≤◌, pos, Bool, true, false, List, [], ◌∷◌, ◌++◌, length, Option, Some, None, refl, ap, ◌∙◌, arith}
use Rattle.std.specs.Prelude.{◌==◌, not, nat_le, slice_get, slice_set, if◌then◌else◌}
use Rattle.lang_meaning.specs.declared.program.ProgramRows.{ProgramRows}
use Rattle.lang_meaning.specs.declared.program.SlotRow.{SlotRow}
use Rattle.lang_meaning.specs.declared.primitive.Primitive.TheVariants.{SlotInitargs, SlotInitform, Continuable}
use Rattle.lang_meaning.specs.Values.{Value, object, truth}
use Rattle.lang_meaning.specs.Objects.{Object, instance, class_object, serious_condition_class}
use Rattle.lang_meaning.specs.State as meaning
use Rattle.lang_meaning.specs.Classes.{fetch, class_of, class_of_object, precedence, slots, is_below, is_condition}
use Rattle.lang_meaning.specs.InitialHeap.{class_value, initargs_value, initform_value}
use Rattle.lang_meaning.specs.Primitives.{Answer, result, domain_error, needs, as_instance, primitive}
use Rattle.mid_code.specs.declared.program.MidProcedure.{MidProcedure}
use Rattle.mid_code.specs.declared.operation.Arithmetic.TheVariants as which
use Rattle.mid_code.specs.declared.operation.Comparison.TheVariants.{Different}
use Rattle.base.specs.Arithmetic.{sum32, product32}
use Rattle.mid_code.specs.MidCode.{MidStep, return_word, code_of}
use Rattle.mid_code.specs.State.{MidState, MidOutcome, first_registers}
use Rattle.mid_code.specs.Meaning.{Task}
use Rattle.mid_arena.specs.Tags.{nil_word, instance_header}
use Rattle.mid_arena.specs.Places.{Places, word_of}
use Rattle.mid_arena.specs.Standing.{ValueAt}
use Rattle.mid_arena.specs.FixedWords.{class_address}
use Rattle.mid_arena.specs.Layouts.{SlotRowAt}
use Rattle.mid_arena.specs.Represents.{Represents}
use Rattle.mid_arena.specs.Steps as steps
use Rattle.mid_arena.proofs.Running.{load_falls, constant_falls, compute_known, address_above, address_below}
use Rattle.mid_arena.proofs.Arguments.{ObjectFound, object_found, item_there}
use Rattle.mid_arena.proofs.Telling.{truth_told}
use Rattle.mid_arena.proofs.BuiltInFacts.{no_condition_class}
use Rattle.mid_arena.proofs.Doing.{alike_self, Run, goes_on, returns_value, test_passes, second_answers}
use Rattle.mid_arena.proofs.Conditions.{domain_error_run}
use Rattle.mid_arena.proofs.Checking.{instance_registers}
use Rattle.mid_arena.proofs.Needing.{instance_needed}
use Rattle.mid_arena.specs.ClassesThere.{ClassesThere}
use Rattle.mid_arena.proofs.Slots.{slot_registers, slot_needed, instance_low}
use Rattle.mid_arena.proofs.Taking.{does_one, does_two}
use Rattle.mid_arena.proofs.WordFacts.{header_without_kind, four_times_count}
use Rattle.mid_arena.proofs.Memory.{spot_low}
use Rattle.mid_arena.proofs.Entering.{InEveryFrame}

module _ (names : List (List ℕ)) (program : ProgramRows) (places : Places) (z : meaning.State) (y : MidState) (r : Represents names program places z y) (classes : ClassesThere names program z) where
  -- the class of an instance
  pub class_found :
      (v : Value) (w c : ℕ) (values : List (Option Value)) (mark : Value) (it : ObjectFound names program places z y r v w (instance c values mark))
      → ObjectFound names program places z y r (class_value names program c) it.stands.class.word (class_object c)
  class_found v w c values mark it =
      object_found names program places z y r (class_value names program c) it.stands.class.word (class_object c) it.stands.class.of_value
      (classes.objects c (classes.instances it.number c values mark it.stored))

  -- it stands in the heap or beside the code
  pub class_low :
      (v : Value) (w c : ℕ) → ObjectFound names program places z y r v w (class_object c)
      → w + 28 + 4 * length (precedence program c) + 12 * length (slots program c) < 2 ^ 27
  class_low v w c it =
      let high = spot_low r.arena it.spot_stands in
      omega (arith, it.word, it.stands.size.words, high)

module _
    (names : List (List ℕ)) (program : ProgramRows) (places : Places) (z : meaning.State) (y : MidState) (r : Represents names program places z y)
    (classes : ClassesThere names program z) (w x c : ℕ) (v : Value) (values : List (Option Value)) (mark : Value) (j : ℕ)
    (it : ObjectFound names program places z y r v w (instance c values mark)) (inside : j < length values) (place : x ≡ 4 * j)
  where
    -- the row of the slot
    row_there : (row : SlotRow) × (slice_get (slots program c) j ≡ Some row)
    row_there = item_there (slots program c) j (omega (arith, inside, it.stands.count))

    of_class : ObjectFound names program places z y r (class_value names program c) it.stands.class.word (class_object c)
    of_class = class_found names program places z y r classes v w c values mark it

    -- the address of its three words
    abbrev row_address : ℕ
    row_address = of_class.spot.address + 28 + 4 * length (precedence program c) + 12 * j

    row_stands : SlotRowAt names program places y.arena row_address c j row_there.0
    row_stands = of_class.stands.rows j row_there.0 row_there.1

    row_run :
        (extra : ℕ) (u : Value) (procedures : List MidProcedure) (below : Task → MidState → MidOutcome) (n budget k : ℕ) → extra < 9
        → ValueAt places y.arena (row_address + extra) u → k + 80 ≤ budget
        → Run names program places z y procedures below n budget (result u z) (code_of (steps.slot_word (pos (26 + extra))))
        (slot_registers w x (length values) (first_registers 8 (w ∷ x ∷ []))) k
    row_run extra u procedures below n budget k small at cost =
        let low = instance_low names program places z y r v w c values mark it in
        let high = class_low names program places z y r classes (class_value names program c) it.stands.class.word c of_class in
        let class_word : ℕ = it.stands.class.word in
        let above : ℕ = 4 * length (precedence program c) in
        let is_word : class_word ≡ of_class.spot.address + 2 = of_class.word in
        let inner : j < length (slots program c) = omega (arith, inside, it.stands.count) in
        goes_on names program places z y procedures below
        (load_falls refl (address_above w 2 (it.spot.address + 4) (omega (arith, it.word)) (omega (arith, it.word, low))) it.stands.class.stands)
        (goes_on names program places z y procedures below
        (load_falls refl (address_above class_word 18 (of_class.spot.address + 20) (omega (arith, is_word)) (omega (arith, is_word, high))) of_class.stands.above)
        (goes_on names program places z y procedures below
        (compute_known refl refl (let sum : sum32 class_word above ≡ class_word + above = omega (arith, high) in sum))
        (goes_on names program places z y procedures below constant_falls
        (goes_on names program places z y procedures below
        (compute_known refl refl (let product : product32 x 3 ≡ 12 * j = omega (arith, place, inner, high) in product))
        (goes_on names program places z y procedures below
        (compute_known refl refl (let sum : sum32 (class_word + above) (12 * j) ≡ class_word + above + 12 * j = omega (arith, high, inner) in sum))
        (goes_on names program places z y procedures below
        (load_falls refl
        (address_above (class_word + above + 12 * j) (26 + extra) (row_address + extra) (omega (arith, is_word)) (omega (arith, is_word, high, inner, small))) at.stands)
        (returns_value names program places z y procedures below r refl at.of_value (alike_self z) (omega (arith, cost)))))))))

pub slot_initargs_does : InEveryFrame SlotInitargs
slot_initargs_does = does_two SlotInitargs refl (λ v u w x names program places z y procedures below n r are units.
    slot_needed names program places z y r procedures below n (y.cost + 130 + 244 * 2) y.cost 0 1 w x v u (λ i at. result (initargs_value names program i.0 at) z)
    (steps.slot_word (pos 30)) (first_registers 8 (w ∷ x ∷ [])) (omega arith) (omega arith) refl refl refl are.0 are.1.0 (omega arith)
    (λ c values mark j it inside place.
    row_run names program places z y r r.classes w x c v values mark j it inside place 4 (initargs_value names program c j)
    procedures below n _ _ (omega arith)
    (row_stands names program places z y r r.classes w x c v values mark j it inside place).initargs (omega arith)))

pub slot_initform_does : InEveryFrame SlotInitform
slot_initform_does = does_two SlotInitform refl (λ v u w x names program places z y procedures below n r are units.
    slot_needed names program places z y r procedures below n (y.cost + 130 + 244 * 2) y.cost 0 1 w x v u (λ i at. result (initform_value names program i.0 at) z)
    (steps.slot_word (pos 34)) (first_registers 8 (w ∷ x ∷ [])) (omega arith) (omega arith) refl refl refl are.0 are.1.0 (omega arith)
    (λ c values mark j it inside place.
    row_run names program places z y r r.classes w x c v values mark j it inside place 8 (initform_value names program c j)
    procedures below n _ _ (omega arith)
    (row_stands names program places z y r r.classes w x c v values mark j it inside place).initform (omega arith)))

-- ---- conditions

-- the answer, where the value is an instance: its mark, or it is no condition
abbrev marks : ProgramRows → Value → meaning.State → ℕ × List (Option Value) × Value → Answer
marks program v z i = if is_below program i.0 serious_condition_class then result i.2 z else domain_error v serious_condition_class z

-- what is no instance is of a class that is built in and no condition
class_below : (o : Option Object) → as_instance o ≡ None → class_of_object o < serious_condition_class
class_below (Some (instance c values mark)) e = absurd (cc e)
class_below (Some (class_object c)) e = by (nat_le c 16)
  where
    by : (b : Bool) → (if b then 15 else 16) < 18
    by true = omega arith
    by false = omega arith
class_below w e = omega arith

value_class_below : (z : meaning.State) (v : Value) → as_instance (fetch z v) ≡ None → class_of z v < serious_condition_class
value_class_below z (object i) e = class_below (slice_get z.store i) e
value_class_below z w e = omega arith

module _ (names : List (List ℕ)) (program : ProgramRows) (places : Places) (z : meaning.State) (y : MidState) (r : Represents names program places z y) where
  -- the class of an instance that is stored
  instance_class : (v : Value) (i : ℕ × List (Option Value) × Value) → as_instance (fetch z v) ≡ Some i → class_of z v ≡ i.0
  instance_class (object k) i e = by (slice_get z.store k) e
    where
      by : (o : Option Object) → as_instance o ≡ Some i → class_of_object o ≡ i.0
      by (Some (instance c values mark)) e = ap (λ o. class_in o) e
        where
          class_in : Option (ℕ × List (Option Value) × Value) → ℕ
          class_in (Some i) = i.0
          class_in None = 0
      by o e = absurd (cc e)
  instance_class v i e = absurd (cc e)

  answer_by_instance :
      (v : Value) → primitive names program Continuable (v ∷ []) z ≡ needs (as_instance (fetch z v)) (domain_error v serious_condition_class z) (marks program v z)
  answer_by_instance v = by (as_instance (fetch z v)) refl
    where
      by : (o : Option (ℕ × List (Option Value) × Value)) → as_instance (fetch z v) ≡ o
          → primitive names program Continuable (v ∷ []) z ≡ needs (as_instance (fetch z v)) (domain_error v serious_condition_class z) (marks program v z)
      by None e =
          let no : is_condition program z v ≡ false = no_condition_class program r.built_in (class_of z v) (value_class_below z v e) in
          rw (no, e) refl
      by (Some i) e =
          let class : class_of z v ≡ i.0 = instance_class v i e in
          rw (e, class) refl

-- the lines behind the test of an instance
abbrev needing_condition : List MidStep
needing_condition =
    steps.load 4 0 (pos 2) ∷ steps.load 5 4 (pos 14) ∷ steps.constant 6 nil_word
    ∷ steps.either (steps.comparing Different 5 6) [] (steps.domain_error 0 (pos (class_address serious_condition_class))) ∷ []

abbrev marking : List MidStep
marking = steps.slot_count 0 ++ steps.compute 7 which.Add 7 0 ∷ steps.load 5 7 (pos 6) ∷ return_word 5 ∷ []

module _
    (names : List (List ℕ)) (program : ProgramRows) (places : Places) (z : meaning.State) (y : MidState) (r : Represents names program places z y)
    (classes : ClassesThere names program z) (w c : ℕ) (v : Value) (values : List (Option Value)) (mark : Value)
    (it : ObjectFound names program places z y r v w (instance c values mark)) (word : word_of places v ≡ Some w)
    (procedures : List MidProcedure) (below : Task → MidState → MidOutcome) (n budget k : ℕ)
  where
    mark_run :
        (u paid_so_far : ℕ) → ValueAt places y.arena (it.spot.address + 8 + 4 * length values) mark → paid_so_far + 100 ≤ budget
        → Run names program places z y procedures below n budget (result mark z) (code_of marking)
        (slice_set (slice_set (slice_set (instance_registers w (instance_header (length values)) (first_registers 8 (w ∷ []))) 4 (Some it.stands.class.word)) 5 (Some u)) 6 (Some 3)) paid_so_far
    mark_run u paid_so_far at cost =
        let low = instance_low names program places z y r v w c values mark it in
        let count : ℕ = length values in
        goes_on names program places z y procedures below
        (load_falls refl (address_below w 1 it.spot.address it.word (omega (arith, low))) it.stands.header)
        (goes_on names program places z y procedures below constant_falls
        (goes_on names program places z y procedures below (compute_known refl refl (header_without_kind count))
        (goes_on names program places z y procedures below constant_falls
        (goes_on names program places z y procedures below (compute_known refl refl (four_times_count count (omega (arith, low))))
        (goes_on names program places z y procedures below
        (compute_known refl refl (let sum : sum32 (4 * count) w ≡ w + 4 * count = omega (arith, low) in sum))
        (goes_on names program places z y procedures below
        (load_falls refl (address_above (w + 4 * count) 6 (it.spot.address + 8 + 4 * count) (omega (arith, it.word)) (omega (arith, it.word, low))) at.stands)
        (returns_value names program places z y procedures below r refl at.of_value (alike_self z) (omega (arith, cost)))))))))

    -- the class says whether its instances are conditions
    marks_run :
        k + 200 ≤ budget
        → Run names program places z y procedures below n budget (marks program v z (c, values, mark)) (code_of (needing_condition ++ marking))
        (instance_registers w (instance_header (length values)) (first_registers 8 (w ∷ []))) k
    marks_run cost = by (is_below program c serious_condition_class) refl
      where
        low : w + 4 * length values + 8 < 2 ^ 27
        low = instance_low names program places z y r v w c values mark it

        of_class : ObjectFound names program places z y r (class_value names program c) it.stands.class.word (class_object c)
        of_class = class_found names program places z y r classes v w c values mark it

        high : it.stands.class.word + 28 + 4 * length (precedence program c) + 12 * length (slots program c) < 2 ^ 27
        high = class_low names program places z y r classes (class_value names program c) it.stands.class.word c of_class

        condition : ValueAt places y.arena (of_class.spot.address + 16) (truth (is_below program c serious_condition_class))
        condition = of_class.stands.condition

        test_told : (b : Bool) → is_below program c serious_condition_class ≡ b → not (condition.word == nil_word) ≡ b
        test_told b e = truth_told names program places z y r (is_below program c serious_condition_class) condition.word condition.of_value ∙ e

        tested :
            (answer : Answer)
            → Run names program places z y procedures below n budget answer
            (code_of (steps.either (steps.comparing Different 5 6) [] (steps.domain_error 0 (pos (class_address serious_condition_class))) ∷ marking))
            (slice_set (slice_set (slice_set (instance_registers w (instance_header (length values)) (first_registers 8 (w ∷ []))) 4 (Some it.stands.class.word))
            5 (Some condition.word)) 6 (Some 3)) (k + 8 + 8 + 6)
            → Run names program places z y procedures below n budget answer (code_of (needing_condition ++ marking))
            (instance_registers w (instance_header (length values)) (first_registers 8 (w ∷ []))) k
        tested answer more =
            goes_on names program places z y procedures below
            (load_falls refl (address_above w 2 (it.spot.address + 4) (omega (arith, it.word)) (omega (arith, it.word, low))) it.stands.class.stands)
            (goes_on names program places z y procedures below
            (load_falls refl
            (address_above it.stands.class.word 14 (of_class.spot.address + 16) (omega (arith, of_class.word)) (omega (arith, of_class.word, high))) condition.stands)
            (goes_on names program places z y procedures below constant_falls more))

        by :
            (b : Bool) → is_below program c serious_condition_class ≡ b
            → Run names program places z y procedures below n budget (marks program v z (c, values, mark)) (code_of (needing_condition ++ marking))
            (instance_registers w (instance_header (length values)) (first_registers 8 (w ∷ []))) k
        by true e =
            rw e
            (tested (result mark z)
            (test_passes names program places z y procedures below refl refl (test_told true e)
            (mark_run condition.word _ (it.stands.mark e) (omega (arith, cost)))))
        by false e =
            rw e
            (tested (domain_error v serious_condition_class z)
            (second_answers names program places z y procedures below refl refl (test_told false e)
            (domain_error_run names program places z y r procedures below n budget _ 0 w serious_condition_class v z _ (omega arith) refl refl word (omega arith)
            (alike_self z) (omega (arith, cost)))))

pub continuable_does : InEveryFrame Continuable
continuable_does = does_one Continuable refl (λ v w names program places z y procedures below n r are units.
    rw (answer_by_instance names program places z y r v)
    (instance_needed names program places z y r procedures below n 0 w serious_condition_class v (first_registers 8 (w ∷ [])) (omega arith) refl refl are.0 (omega arith)
    (y.cost + 130 + 244 * 1) y.cost (marks program v z) (needing_condition ++ marking) (omega arith)
    (λ c values mark found.
    let it = object_found names program places z y r v w (instance c values mark) are.0 found in
    marks_run names program places z y r r.classes w c v values mark it are.0 procedures below n _ _ (omega arith))))
