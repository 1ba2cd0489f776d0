-- What the parts of a program make before its first form: objects from a number on, and what stands for them.
use Rattle.std.specs.Prelude.{ℕ, ◌+◌, ◌-◌, List, [], ◌∷◌, ◌++◌, Option, length}
use Rattle.std.specs.List.{range_with_len}
use Rattle.lang_meaning.specs.declared.program.SlotRow.{SlotRow}
use Rattle.lang_meaning.specs.declared.program.ClassRow.{ClassRow}
use Rattle.lang_meaning.specs.declared.program.Callee.{Callee}
use Rattle.lang_meaning.specs.declared.program.FunctionRow.{FunctionRow}
use Rattle.lang_meaning.specs.declared.program.LiteralRow.{LiteralRow}
use Rattle.lang_meaning.specs.declared.program.LiteralRow.TheVariants as row
use Rattle.lang_meaning.specs.Values.{Value, nil, object}
use Rattle.lang_meaning.specs.Objects.{Object, class_object, input_stream, output_stream}
use Rattle.lang_meaning.specs.Literals.{Laid, lay, lay_content}
use Rattle.lang_meaning.specs.InitialHeap.{function_object, initargs_list, initform_objects}

-- objects from a number on, and what stands for them
abbrev pub Recipe : Type 0 → Type 0
Recipe V = ℕ → List Object × V

-- nothing is made
abbrev pub no_more : {V : Type 0} → V → Recipe V
no_more v n = ([], v)

-- one behind another, and what stands for both
abbrev pub joined : {U V W : Type 0} → (U → V → W) → Recipe U → Recipe V → Recipe W
joined join first second n =
    let a = first n in
    let b = second (n + length a.0) in
    (a.0 ++ b.0, join a.1 b.1)

abbrev pub both : {U V : Type 0} → Recipe U → Recipe V → Recipe (U × V)
both first second = joined (λ u v. (u, v)) first second

-- one for each of a list, one after another
abbrev pub in_turn : {X V : Type 0} → (X → Recipe V) → List X → Recipe (List V)
in_turn f [] n = ([], [])
in_turn f (x ∷ xs) n =
    let first = f x n in
    let others = in_turn f xs (n + length first.0) in
    (first.0 ++ others.0, first.1 ∷ others.1)

-- an object by itself
abbrev pub single : Object → Recipe Value
single o n = (o ∷ [], object n)

-- what a datum makes
abbrev pub laid : (ℕ → Laid) → Recipe Value
laid f n = let l = f n in (l.objects, l.value)

abbrev pub class_recipe : ℕ → Recipe Value
class_recipe c = single (class_object c)

-- so many classes, of which so many are built in, and behind these the streams
abbrev pub classes_recipe : (built_in classes : ℕ) → Recipe (List Value × Value × Value)
classes_recipe built_in classes n =
    let first = in_turn class_recipe (range_with_len 0 built_in) n in
    let at = n + length first.0 in
    let others = in_turn class_recipe (range_with_len built_in (classes - built_in)) (at + 2) in
    (first.0 ++ (input_stream ∷ output_stream ∷ others.0), (first.1 ++ others.1, object at, object (at + 1)))

abbrev pub callee_recipe : Callee → Recipe Value
callee_recipe callee = single (function_object callee)

abbrev pub function_recipe : FunctionRow → Recipe Value
function_recipe f = callee_recipe f.callee

-- only data make objects
abbrev pub literal_recipe : List (List ℕ) → LiteralRow → Recipe Value
literal_recipe names (row.Datum d) n = laid (lay names d) n
literal_recipe names (row.Class c) n = ([], nil)
literal_recipe names (row.Function name) n = ([], nil)

-- the last of objects, from a number on; nil where there is none
abbrev pub last_of : List Object → ℕ → Value
last_of [] n = nil
last_of (o ∷ os) n = object (n + length os)

-- the function of an initform
abbrev pub initform_recipe : Option ℕ → Recipe Value
initform_recipe initform n = let made = initform_objects initform in (made, last_of made n)

-- the list of a slot's initargs
abbrev pub initargs_recipe : List (List ℕ) → SlotRow → Recipe Value
initargs_recipe names s n = let l = lay_content names (initargs_list s) n in (l.objects, l.value)

-- what stands for a slot, by its row, the list of its initargs, and its initform's function
abbrev pub OfSlot : Type 0 → Type 0
OfSlot V = SlotRow → (initargs initform : Value) → V

-- the list of a slot's initargs, and then its initform's function
abbrev pub slot_recipe : {V : Type 0} → OfSlot V → List (List ℕ) → SlotRow → Recipe V
slot_recipe of names s n =
    let initargs = lay_content names (initargs_list s) n in
    let initform = initform_recipe s.initform (n + length initargs.objects) in
    (initargs.objects ++ initform.0, of s initargs.value initform.1)

abbrev pub slots_recipe : {V : Type 0} → OfSlot V → List (List ℕ) → ClassRow → Recipe (List V)
slots_recipe of names c = in_turn (slot_recipe of names) c.slots
