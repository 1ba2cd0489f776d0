-- The primitives that give the name of a class, and that ask whether a class is below another, or a value an instance of a class.
use Rattle.std.proofs.Common.{◌≡◌, ℕ, ◌+◌, ◌*◌, ◌^◌, ◌<◌, ◌≤◌, pos, Bool, true, false, List, [], ◌∷◌, ◌++◌, length, Option, Some, refl, arith}
use Rattle.std.specs.Prelude.{◌==◌, nat_le, slice_get, if◌then◌else◌}
use Rattle.lang_meaning.specs.declared.program.ProgramRows.{ProgramRows}
use Rattle.lang_meaning.specs.declared.primitive.Primitive.TheVariants.{ClassName, IsSubclass, IsInstance}
use Rattle.lang_meaning.specs.BuiltIn.{built_in_precedence, built_in_slots}
use Rattle.lang_meaning.specs.Facts.{begins_with_built_in}
use Rattle.lang_meaning.specs.Values.{Value, integer, character, symbol, nil, object, named}
use Rattle.lang_meaning.specs.Objects.{Object, instance, class_object, character_class, symbol_class, null_class, integer_class, built_in_class_class, standard_class_class}
use Rattle.lang_meaning.specs.State as meaning
use Rattle.lang_meaning.specs.Lookup.{passed}
use Rattle.lang_meaning.specs.Classes.{class_of, class_of_object, fetch, precedence, is_below}
use Rattle.lang_meaning.specs.InitialHeap.{class_value}
use Rattle.lang_meaning.specs.Primitives.{result, says, a_class, class_name, primitive}
use Rattle.mid_code.specs.declared.program.MidProcedure.{MidProcedure}
use Rattle.mid_code.specs.MidCode.{return_word, code_of}
use Rattle.mid_code.specs.State.{MidState, MidOutcome, first_registers}
use Rattle.mid_code.specs.Meaning.{Task}
use Rattle.mid_arena.specs.Tags.{class_header}
use Rattle.mid_arena.specs.Places.{Places, word_of}
use Rattle.mid_arena.specs.FixedWords.{class_address}
use Rattle.mid_arena.specs.Represents.{Represents}
use Rattle.mid_arena.specs.Answers.{units_after}
use Rattle.mid_arena.specs.Codes.{code_of_primitive}
use Rattle.mid_arena.specs.Steps as steps
use Rattle.mid_arena.specs.Steps.{class_word}
use Rattle.mid_arena.proofs.Running.{load_falls, address_above}
use Rattle.mid_arena.proofs.BuiltInFacts.{built_in_known}
use Rattle.mid_arena.proofs.Arguments.{object_found}
use Rattle.mid_arena.proofs.Doing.{alike_self, Run, goes_on, returns_value, part_then}
use Rattle.mid_arena.proofs.Checking.{header_registers}
use Rattle.mid_arena.proofs.Needing.{class_needed}
use Rattle.mid_arena.proofs.Taking.{does_one, does_two}
use Rattle.mid_arena.specs.ClassesThere.{ClassesThere}
use Rattle.mid_arena.proofs.ClassHeaders.{Seeking, Finds, seeking_first}
use Rattle.mid_arena.proofs.ClassWords.{class_of_found}
use Rattle.mid_arena.proofs.ClassSearch.{asking, asking_run}
use Rattle.mid_arena.proofs.Memory.{spot_low}
use Rattle.mid_arena.proofs.Entering.{InEveryFrame}

pub class_name_does : InEveryFrame ClassName
class_name_does = does_one ClassName refl (λ v w names program places z y procedures below n r are units.
    class_needed names program places z y r procedures below n (y.cost + 130 + 244) y.cost 0 w v
    (λ c. result (symbol (named (class_name names (slice_get program.classes c)))) z) (steps.load 5 0 (pos 6) ∷ return_word 5 ∷ [])
    (first_registers 8 (w ∷ [])) (omega arith) refl refl are.0 (omega arith) (λ c found.
    let it = object_found names program places z y r v w (class_object c) are.0 found in
    let bounded : it.spot.address + 8 < 2 ^ 32 =
    omega (arith, it.stands.size.words, spot_low r.arena it.spot_stands)
    in
    goes_on names program places z y procedures below
    (load_falls refl (address_above w 6 (it.spot.address + 8) (omega (arith, it.word)) bounded) it.stands.name.stands)
    (returns_value names program places z y procedures below r refl it.stands.name.of_value (alike_self z) (omega arith))))

-- ---- whether a class is below another

-- what is paid when an argument was found to be a class
abbrev class_tested : ℕ → ℕ
class_tested k = k + 6 + 10 + 6 + 12 + 2 + 8 + 6 + 10 + 6 + 12 + 2

-- so many turns are left as classes are passed
subclass_turns :
    (names : List (List ℕ)) (program : ProgramRows) (z : meaning.State) (v u : Value) (c d n : ℕ) → fetch z v ≡ Some (class_object c) → fetch z u ≡ Some (class_object d)
    → units_after names program (primitive names program IsSubclass (v ∷ u ∷ []) z) ≤ z.units + n → passed (λ e. d == e) (precedence program c) ≤ n
subclass_turns names program z v u c d n found other units =
    let h : z.units + passed (λ e. d == e) (precedence program c) ≤ z.units + n = rw other at (rw found at units) in omega (arith, h)

instance_turns :
    (names : List (List ℕ)) (program : ProgramRows) (z : meaning.State) (v u : Value) (d n : ℕ) → fetch z u ≡ Some (class_object d)
    → units_after names program (primitive names program IsInstance (v ∷ u ∷ []) z) ≤ z.units + n → passed (λ e. d == e) (precedence program (class_of z v)) ≤ n
instance_turns names program z v u d n other units =
    let h : z.units + passed (λ e. d == e) (precedence program (class_of z v)) ≤ z.units + n = rw other at units in omega (arith, h)

pub is_subclass_does : InEveryFrame IsSubclass
is_subclass_does = does_two IsSubclass refl (λ v u w x names program places z y procedures below n r are units.
    class_needed names program places z y r procedures below n (y.cost + 130 + 244 * 2) y.cost 0 w v
    (λ c. a_class u z (λ d. says (is_below program c d) (meaning.charged (passed (λ e. d == e) (precedence program c)) z)))
    (steps.need_header 1 class_header 1 (pos (class_address standard_class_class)) ++ asking 0) (first_registers 8 (w ∷ x ∷ []))
    (omega arith) refl refl are.0 (omega arith) (λ c found.
    class_needed names program places z y r procedures below n (y.cost + 130 + 244 * 2) (class_tested y.cost) 1 x u
    (λ d. says (is_below program c d) (meaning.charged (passed (λ e. d == e) (precedence program c)) z)) (asking 0)
    (header_registers w class_header class_header 1 (first_registers 8 (w ∷ x ∷ []))) (omega arith) refl refl are.1.0 (omega arith) (λ d other.
    asking_run names program places z y r procedures below n (y.cost + 130 + 244 * 2) (class_tested (class_tested y.cost)) 0 w x c d v u
    (header_registers x class_header class_header 1 (header_registers w class_header class_header 1 (first_registers 8 (w ∷ x ∷ []))))
    (omega arith) refl refl are.0 found refl are.1.0 other (subclass_turns names program z v u c d n found other units) (omega arith))))

-- ---- whether a value is an instance of a class

-- the class of each value is one of the program
class_known :
    (names : List (List ℕ)) (program : ProgramRows) (z : meaning.State) → begins_with_built_in program.classes built_in_precedence built_in_slots ≡ true
    → ClassesThere names program z → (v : Value) → class_of z v < length program.classes
class_known names program z built_in there v = by v
  where
    of_stored : (i : ℕ) (o : Option Object) → slice_get z.store i ≡ o → class_of_object o < length program.classes
    of_stored i (Some (instance c values mark)) e = there.instances i c values mark e
    of_stored i (Some (class_object c)) e = of_class (nat_le c 16)
      where
        of_class : (b : Bool) → (if b then built_in_class_class else standard_class_class) < length program.classes
        of_class true = built_in_known program built_in built_in_class_class (omega arith)
        of_class false = built_in_known program built_in standard_class_class (omega arith)
    of_stored i o e = built_in_known program built_in (class_of_object o) (omega arith)

    by : (v : Value) → class_of z v < length program.classes
    by (integer n) = built_in_known program built_in integer_class (omega arith)
    by (character c) = built_in_known program built_in character_class (omega arith)
    by (symbol s) = built_in_known program built_in symbol_class (omega arith)
    by nil = built_in_known program built_in null_class (omega arith)
    by (object i) = of_stored i (slice_get z.store i) refl

-- In a state where the class objects are there, the code of the primitive comes to its answer.
pub is_instance_run :
    (names : List (List ℕ)) (program : ProgramRows) (places : Places) (z : meaning.State) (y : MidState) (procedures : List MidProcedure)
    (below : Task → MidState → MidOutcome) (n w x : ℕ) (v u : Value)
    → Represents names program places z y → ClassesThere names program z → word_of places v ≡ Some w → word_of places u ≡ Some x
    → units_after names program (primitive names program IsInstance (v ∷ u ∷ []) z) ≤ z.units + n
    → Run names program places z y procedures below n (y.cost + 130 + 244 * 2) (primitive names program IsInstance (v ∷ u ∷ []) z)
    (code_of (code_of_primitive IsInstance)) (first_registers 8 (w ∷ x ∷ [])) y.cost
is_instance_run names program places z y procedures below n w x v u r there word other_word units =
    class_needed names program places z y r procedures below n (y.cost + 130 + 244 * 2) y.cost 1 x u
    (λ d. says (is_below program (class_of z v) d) (meaning.charged (passed (λ e. d == e) (precedence program (class_of z v))) z)) (class_word 2 0 ++ asking 2)
    (first_registers 8 (w ∷ x ∷ [])) (omega arith) refl refl other_word (omega arith) (λ d other.
    part_then names program places z y procedures below (class_word 2 0) (asking 2) class.runs
    (asking_run names program places z y r procedures below n (y.cost + 130 + 244 * 2) class.cost 2 class.word x (class_of z v) d (class_value names program (class_of z v)) u
    class.registers (omega arith) class.size class.there class.of_class (there.objects (class_of z v) (class_known names program z r.built_in there v))
    (class.others 1 (omega arith) (λ e. omega (arith, e))) other_word other (instance_turns names program z v u d n other units) (omega (arith, class.within))))
  where
    here : Seeking names program places z y
    here = seeking_first r procedures below n w (header_registers x class_header class_header 1 (first_registers 8 (w ∷ x ∷ []))) refl

    class : Finds here (class_of z v) (code_of (class_word 2 0)) here.start (class_tested y.cost) 254
    class = class_of_found here v word refl

pub is_instance_does : InEveryFrame IsInstance
is_instance_does = does_two IsInstance refl (λ v u w x names program places z y procedures below n r are units.
    is_instance_run names program places z y procedures below n w x v u r r.classes are.0 are.1.0 units)
