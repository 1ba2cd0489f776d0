-- The initial heap: the objects that are there before the first form, each under its key, and what classes, streams, names, literals and
-- slots stand for, which is the first object under their key.
use Rattle.std.specs.Prelude.{ℕ, ◌+◌, ◌-◌, ◌==◌, Bool, true, false, ◌&&◌, List, [], ◌∷◌, ◌++◌, Option, Some, None, length, map, flat_map, if◌then◌else◌}
use Rattle.std.specs.List.{range_with_len}
use Rattle.std.specs.Str.{bytes_eq}
use Rattle.base.specs.Data as datum
use Rattle.base.specs.declared.datum.Symbol.TheVariants.{Named}
use Rattle.lang_meaning.specs.declared.program.ProgramRows.{ProgramRows}
use Rattle.lang_meaning.specs.declared.program.SlotRow.{SlotRow}
use Rattle.lang_meaning.specs.declared.program.ClassRow.{ClassRow}
use Rattle.lang_meaning.specs.declared.program.FunctionRow.{FunctionRow}
use Rattle.lang_meaning.specs.declared.program.Callee.{Callee}
use Rattle.lang_meaning.specs.declared.program.Callee.TheVariants as callee
use Rattle.lang_meaning.specs.declared.program.LiteralRow.{LiteralRow}
use Rattle.lang_meaning.specs.declared.program.LiteralRow.TheVariants as row
use Rattle.lang_meaning.specs.Values.{Value, nil, object}
use Rattle.lang_meaning.specs.Objects.{Object, function, generic_function, class_object, input_stream, output_stream, built_in_classes}
use Rattle.lang_meaning.specs.State.{no_place}
use Rattle.lang_meaning.specs.Lookup.{text, numbered}
use Rattle.lang_meaning.specs.Literals.{lay, lay_content}

-- what an object is: a class, by its number; a stream; the function of a name, by its text; a literal, by its number; of a
-- slot, by its class and its place, the list of initargs or the function of the initform; or a part of one of these
pub data Key : Type 0 where
  class : ℕ → Key
  input : Key
  output : Key
  function_of : List ℕ → Key
  literal : ℕ → Key
  initargs : (class place : ℕ) → Key
  initform : (class place : ℕ) → Key
  part : Key

abbrev pub same_key : Key → Key → Bool
same_key (class c) (class d) = c == d
same_key input input = true
same_key output output = true
same_key (function_of name) (function_of other) = bytes_eq name other
same_key (literal i) (literal j) = i == j
same_key (initargs c i) (initargs d j) = c == d && i == j
same_key (initform c i) (initform d j) = c == d && i == j
same_key a b = false

pub record Keyed : Type 0 where
  pub key : Key
  pub object : Object

-- a thing: its key, and the objects that it makes from a number on, its own after those of its parts
pub record Thing : Type 0 where
  pub key : Key
  pub objects : ℕ → List Object

abbrev pub single : Key → Object → Thing
single key made = record { key = key; objects = λ n. made ∷ [] }

abbrev pub class_things : List ℕ → List Thing
class_things classes = map (λ c. single (class c) (class_object c)) classes

abbrev pub function_object : Callee → Object
function_object (callee.Procedure p) = function p
function_object (callee.Generic g) = generic_function g

abbrev pub function_things : List (List ℕ) → List FunctionRow → List Thing
function_things names rows = map (λ f. single (function_of (text names f.name.0)) (function_object f.callee)) rows

-- a literal that is a datum makes the datum's objects, and one that is a class or a function makes none
abbrev pub literal_objects : List (List ℕ) → LiteralRow → ℕ → List Object
literal_objects names (row.Datum d) n = (lay names d n).objects
literal_objects names (row.Class c) n = []
literal_objects names (row.Function name) n = []

abbrev pub literal_things : List (List ℕ) → List LiteralRow → List Thing
literal_things names rows =
    map (λ (r : LiteralRow × ℕ). record { key = literal r.1; objects = literal_objects names r.0 }) (numbered rows 0)

-- the list of a slot's initargs
abbrev pub initargs_list : SlotRow → datum.Content
initargs_list s = datum.list (datum.items_of (map (λ a. datum.item no_place (datum.symbol (Named a))) s.initargs)) datum.no_tail

-- the function of a slot's initform
abbrev pub initform_objects : Option ℕ → List Object
initform_objects (Some p) = function p ∷ []
initform_objects None = []

abbrev pub slot_things : List (List ℕ) → (class : ℕ) → SlotRow × ℕ → List Thing
slot_things names c s =
    record { key = initargs c s.1; objects = λ n. (lay_content names (initargs_list s.0) n).objects }
    ∷ record { key = initform c s.1; objects = λ n. initform_objects s.0.initform } ∷ []

-- all things: the built-in classes, the streams, the other classes, the functions of names, the literals, and for each
-- slot of each class what it says of the instances to come
abbrev pub things : List (List ℕ) → ProgramRows → List Thing
things names program =
    class_things (range_with_len 0 built_in_classes)
    ++ (single input input_stream ∷ single output output_stream ∷ [])
    ++ class_things (range_with_len built_in_classes (length program.classes - built_in_classes))
    ++ function_things names program.functions
    ++ literal_things names program.literals
    ++ flat_map (λ (c : ClassRow × ℕ). flat_map (slot_things names c.1) (numbered c.0.slots 0)) (numbered program.classes 0)

-- the objects of a thing, each a part but the last
abbrev pub keyed : Key → List Object → List Keyed
keyed key [] = []
keyed key (o ∷ []) = record { key = key; object = o } ∷ []
keyed key (o ∷ p ∷ os) = record { key = part; object = o } ∷ keyed key (p ∷ os)

-- things one after another, from a number on
abbrev pub laid_out : List Thing → ℕ → List Keyed
laid_out [] n = []
laid_out (t ∷ ts) n = let first = t.objects n in keyed t.key first ++ laid_out ts (n + length first)

abbrev pub layout : List (List ℕ) → ProgramRows → List Keyed
layout names program = laid_out (things names program) 0

-- all objects before the first form
abbrev pub objects_at_start : List (List ℕ) → ProgramRows → List Object
objects_at_start names program = map (λ k. k.object) (layout names program)

-- the first object under a key, from a number on; nil where there is none
abbrev pub under_key : Key → List Keyed → ℕ → Value
under_key key [] n = nil
under_key key (k ∷ ks) n = if same_key key k.key then object n else under_key key ks (n + 1)

abbrev pub stands_for : List (List ℕ) → ProgramRows → Key → Value
stands_for names program key = under_key key (layout names program) 0

abbrev pub class_value : List (List ℕ) → ProgramRows → ℕ → Value
class_value names program c = stands_for names program (class c)

abbrev pub standard_input : List (List ℕ) → ProgramRows → Value
standard_input names program = stands_for names program input

abbrev pub standard_output : List (List ℕ) → ProgramRows → Value
standard_output names program = stands_for names program output

-- the function of a name, by the name's text
abbrev pub function_value : List (List ℕ) → ProgramRows → List ℕ → Value
function_value names program name = stands_for names program (function_of name)

-- the value of a literal that is a datum: an atom itself, else the object under the literal's key
abbrev pub literal_value : List (List ℕ) → ProgramRows → ℕ → datum.Item → Value
literal_value names program id d = by (lay names d 0).objects
  where
    by : List Object → Value
    by [] = (lay names d 0).value
    by (o ∷ os) = stands_for names program (literal id)

-- the list of initargs of a slot, and its initform's function
abbrev pub initargs_value : List (List ℕ) → ProgramRows → (class place : ℕ) → Value
initargs_value names program c place = stands_for names program (initargs c place)

abbrev pub initform_value : List (List ℕ) → ProgramRows → (class place : ℕ) → Value
initform_value names program c place = stands_for names program (initform c place)
