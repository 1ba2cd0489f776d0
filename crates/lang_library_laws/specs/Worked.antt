-- A program that has these functions, written out: what the laws ask of a program is met.
use Rattle.std.specs.Prelude.{◌≡◌, ℕ, zero, suc, ◌+◌, ℤ, pos, negsuc, false, List, [], ◌∷◌, ◌++◌, map, Option, Some, None, slice_get, codes, if◌then◌else◌}
use Rattle.base.specs.Data as datum
use Rattle.base.specs.declared.datum.Symbol.TheVariants.{Named}
use Rattle.lang_meaning.specs.declared.program.LiteralRow.{LiteralRow}
use Rattle.lang_meaning.specs.declared.program.LiteralRow.TheVariants as row
use Rattle.lang_meaning.specs.declared.program.Procedure.{Procedure}
use Rattle.lang_meaning.specs.declared.program.ClassRow.{ClassRow}
use Rattle.lang_meaning.specs.declared.program.FunctionRow.{FunctionRow}
use Rattle.lang_meaning.specs.declared.program.Callee.TheVariants as callee
use Rattle.lang_meaning.specs.declared.program.ProgramRows.{ProgramRows}
use Rattle.lang_meaning.specs.Form.{Form}
use Rattle.lang_meaning.specs.Values.{Value, nil, integer, character, object, t}
use Rattle.lang_meaning.specs.Objects.{cons, string}
use Rattle.lang_meaning.specs.State.{State, first_state, main_context, no_place, value, Evaluated, unlimited}
use Rattle.lang_meaning.specs.BuiltIn.{built_in_precedence}
use Rattle.lang_meaning.specs.InitialHeap.{objects_at_start}
use Rattle.lang_meaning.specs.Signals.{signal, apply_procedure}
use Rattle.lang_library_laws.specs.declared.program.LawFunction.{LawFunction}
use Rattle.lang_library_laws.specs.declared.program.LawFunction.TheVariants as which
use Rattle.lang_library_laws.specs.declared.program.LawLiteral.{LawLiteral}
use Rattle.lang_library_laws.specs.declared.program.LawLiteral.TheVariants as literal
use Rattle.lang_library_laws.specs.declared.program.LawProcedure.{LawProcedure}
use Rattle.lang_library_laws.specs.Lists.{IsProperList, HasConses, HaveKeys}
use Rattle.lang_library_laws.specs.Structures.{AreStrings}
use Rattle.lang_library_laws.specs.Applications.{at_level, HasLiteral, HasTruth, HasText, HasClass, IsInstanceOf, IsOutput, IsNamed}
use Rattle.lang_library_laws.specs.ListBodies.{list_function, turn_copy_onto, turn_onto, append_all, append_function, reverse_function, nreverse_function, list_length, length_function, memv, member_function, assoc_function}
use Rattle.lang_library_laws.specs.NumberBodies.{emit, digit_function, emit_digit, emit_natural, emit_integer}
use Rattle.lang_library_laws.specs.EqualBodies.{string_equal, equal_vectors, equal_function}
use Rattle.lang_library_laws.specs.SequenceBodies.{AssureNumbers, elt_function, list_from, listp_function, check_function, part_of_list, subseq_function, mapcar_function}
use Rattle.lang_library_laws.specs.StringBodies.{length_of_all, copy_into, string_append}
use Rattle.lang_library_laws.specs.Pieces.{if_there, read}

-- the names of the functions, whose numbers are those of their procedures, and behind them others
abbrev pub worked_names : List (List ℕ)
worked_names =
    codes "reverse" ∷ codes "%turn-copy-onto" ∷ codes "length" ∷ codes "%list-length" ∷ codes "member" ∷ codes "%memv" ∷ codes "assoc"
    ∷ codes "list" ∷ codes "append" ∷ codes "%append-all" ∷ codes "%turn-onto"
    ∷ codes "%emit" ∷ codes "%digit" ∷ codes "%emit-digit" ∷ codes "%emit-natural" ∷ codes "%emit-integer"
    ∷ codes "string=" ∷ codes "%equal-vectors" ∷ codes "equal"
    ∷ codes "nreverse" ∷ codes "mapcar" ∷ codes "elt" ∷ codes "%list-from" ∷ codes "string-append" ∷ codes "%length-of-all" ∷ codes "%copy-into"
    ∷ codes "subseq" ∷ codes "%sequence" ∷ codes "listp" ∷ codes "%part-of-list"
    ∷ codes "%domain-error" ∷ codes "t" ∷ codes "%program-error" ∷ codes "%part-of-string" ∷ codes "%part-of-vector"
    ∷ codes "%all-left" ∷ codes "%heads" ∷ codes "%advance" ∷ []

-- texts, each in a line
abbrev pub lines : List (List ℕ) → List ℕ
lines [] = []
lines (l ∷ ls) = l ++ 10 ∷ lines ls

abbrev pub text_of_names : List ℕ
text_of_names = lines worked_names

abbrev pub a_datum : datum.Content → LiteralRow
a_datum content = row.Datum (datum.item no_place content)

abbrev pub a_symbol : ℕ → datum.Content
a_symbol n = datum.symbol (Named (record { 0 = n }))

abbrev pub all_digits : List ℕ
all_digits = codes "0123456789ABCDEFGHIJKLMNOPQRSTUVWXYZ"

-- the literals, function by function
abbrev pub a_number : ℕ → LiteralRow
a_number n = a_datum (datum.integer (pos n))

abbrev pub the_nil : LiteralRow
the_nil = a_datum datum.nil

abbrev pub the_truth : LiteralRow
the_truth = a_datum (a_symbol 31)

abbrev pub a_class : ℕ → LiteralRow
a_class c = row.Class c

abbrev pub the_class : LiteralRow
the_class = a_class 8

-- a class, t and the class, of an `assure`
abbrev pub of_assure : ℕ → List LiteralRow → List LiteralRow
of_assure c others = a_class c ∷ the_truth ∷ a_class c ∷ others

abbrev pub worked_literals : List LiteralRow
worked_literals =
    the_nil ∷ a_number 0 ∷ a_number 1 ∷ the_truth ∷ the_class ∷ the_truth ∷ the_truth ∷ the_truth ∷ the_nil ∷ the_truth
    ∷ the_truth ∷ the_nil ∷ the_truth ∷ the_nil ∷ the_class ∷ the_truth
    ∷ a_datum (datum.string all_digits) ∷ a_number 0 ∷ the_truth ∷ a_number 0 ∷ a_number 0 ∷ a_datum (datum.character 45) ∷ a_number 0
    ∷ a_number 0 ∷ a_number 1 ∷ the_nil ∷ the_truth ∷ a_number 0 ∷ a_number 1
    ∷ the_nil ∷ of_assure 6 (the_nil ∷ the_truth ∷ the_truth
    ∷ of_assure 8 (of_assure 13 (a_number 0 ∷ a_number 0 ∷ a_number 1 ∷ the_truth
    ∷ a_datum (datum.character 32) ∷ a_number 0 ∷ a_number 0 ∷ a_number 0 ∷ a_number 1 ∷ a_number 1
    ∷ of_assure 13 (of_assure 13 (a_number 0 ∷ the_truth ∷ the_truth ∷ the_truth ∷ the_truth ∷ the_truth ∷ the_class ∷ the_truth
    ∷ a_number 0 ∷ the_nil ∷ a_number 1 ∷ [])))))

-- the literals of an `assure`, from a number on
abbrev pub assure_from : ℕ → AssureNumbers
assure_from i = record { class = i; truth = i + 1; class_again = i + 2 }

-- the procedures, whose variables are numbered from 0 on
abbrev pub worked_procedure : LawFunction → Procedure
worked_procedure which.Reverse = reverse_function None 0 1 0
worked_procedure which.TurnCopyOnto = turn_copy_onto None 0
worked_procedure which.Length = length_function None 0 5 3
worked_procedure which.ListLength = list_length None 0 1 2 3 4 30
worked_procedure which.Member = member_function None 0 5
worked_procedure which.Memv = memv None 0 6
worked_procedure which.Assoc = assoc_function None 0 7 9 8
worked_procedure which.List = list_function None 0
worked_procedure which.Append = append_function None 0 9 10
worked_procedure which.AppendAll = append_all None 0 11 12 13 14 15 1 10 30
worked_procedure which.TurnOnto = turn_onto None 0
worked_procedure which.Emit = emit None 0
worked_procedure which.Digit = digit_function None 0 16
worked_procedure which.EmitDigit = emit_digit None 0 11 12
worked_procedure which.EmitNatural = emit_natural None 0 14 13
worked_procedure which.EmitInteger = emit_integer None 0 17 18 19 20 21 22 11 14 13
worked_procedure which.StringEqual = string_equal None 0 23 24
worked_procedure which.EqualVectors = equal_vectors None 0 27 28 18
worked_procedure which.Equal = equal_function None 0 25 26 18 16 17
worked_procedure which.NReverse = nreverse_function None 0 10 29
worked_procedure which.Mapcar = mapcar_function None 0 (record {
  function = assure_from 30;
  no_values = 33;
  truth = 34;
  nreverse = 19;
  domain_error = 30;
  all_left = 35;
  heads = 36;
  advance = 37;
})
worked_procedure which.Elt = elt_function None 0 35 22
worked_procedure which.ListFrom = list_from None 0 (record {
  list = assure_from 36;
  index = assure_from 39;
  least = 42;
  last = 43;
  decrement = 44;
  truth = 45;
  domain_error = 30;
  program_error = 32;
})
worked_procedure which.StringAppend = string_append None 0 46 47 24 25
worked_procedure which.LengthOfAll = length_of_all None 0 48
worked_procedure which.CopyInto = copy_into None 0 49 50 51
worked_procedure which.Subseq = subseq_function None 0 (record {
  start = assure_from 52;
  end = assure_from 55;
  least = 58;
  truth = 59;
  last_truth = 60;
  check = 27;
  listp = 28;
  length = 2;
  part_of_list = 29;
  part_of_string = 33;
  part_of_vector = 34;
  domain_error = 30;
  program_error = 32;
})
worked_procedure which.CheckSequence = check_function None 0 (record {
  truth = 61;
  other_truth = 62;
  last_truth = 63;
  class = 64;
  listp = 28;
  domain_error = 30;
})
worked_procedure which.Listp = listp_function None 0 65
worked_procedure which.PartOfList = part_of_list None 0 (record {
  none = 66;
  no_items = 67;
  increment = 68;
  nreverse = 19;
  program_error = 32;
})

abbrev pub worked_functions : List LawFunction
worked_functions =
    which.Reverse ∷ which.TurnCopyOnto ∷ which.Length ∷ which.ListLength ∷ which.Member ∷ which.Memv ∷ which.Assoc ∷ which.List
    ∷ which.Append ∷ which.AppendAll ∷ which.TurnOnto ∷ which.Emit ∷ which.Digit ∷ which.EmitDigit ∷ which.EmitNatural ∷ which.EmitInteger
    ∷ which.StringEqual ∷ which.EqualVectors ∷ which.Equal
    ∷ which.NReverse ∷ which.Mapcar ∷ which.Elt ∷ which.ListFrom ∷ which.StringAppend ∷ which.LengthOfAll ∷ which.CopyInto
    ∷ which.Subseq ∷ which.CheckSequence ∷ which.Listp ∷ which.PartOfList ∷ []

abbrev pub a_function : ℕ → FunctionRow
a_function n = record { name = record { 0 = n }; callee = callee.Procedure n }

abbrev pub functions_from : ℕ → List LawFunction → List FunctionRow
functions_from n [] = []
functions_from n (f ∷ fs) = a_function n ∷ functions_from (n + 1) fs

-- the built-in classes, without their slots
abbrev pub a_built_in_class : List ℕ → ClassRow
a_built_in_class above = record { name = record { 0 = 0 }; precedence = above; slots = []; abstract_class = false }

abbrev pub worked_program : ProgramRows
worked_program = record {
  literals = worked_literals;
  procedures = map worked_procedure worked_functions;
  classes = map a_built_in_class built_in_precedence;
  generics = [];
  functions = functions_from 0 worked_functions;
  main = [];
  sites = [];
}

-- what the code has of it: a literal, and a procedure without its name
abbrev pub literal_row : LawLiteral → LiteralRow
literal_row literal.Nil = the_nil
literal_row literal.Truth = the_truth
literal_row (literal.Integer n) = a_datum (datum.integer n)
literal_row (literal.Character c) = a_datum (datum.character c)
literal_row literal.Digits = a_datum (datum.string all_digits)
literal_row (literal.Class c) = row.Class c

abbrev pub variables_from : ℕ → ℕ → List ℕ
variables_from v zero = []
variables_from v (suc n) = v ∷ variables_from (v + 1) n

abbrev pub procedure_of : LawProcedure → Option Procedure
procedure_of p =
    if_there (read p.body.now) (λ (f : Form). Some (record {
      name = None;
      required = variables_from 0 p.required;
      rest = if p.rest then Some p.required else None;
      body = f;
    }))

-- what is there at the start, and (5 7), and ((5 . 7)), and two strings
abbrev pub worked_state : State
worked_state =
    first_state (objects_at_start worked_names worked_program
    ++ cons (integer (pos 7)) nil ∷ cons (integer (pos 5)) (object 67) ∷ cons (integer (pos 5)) (integer (pos 7)) ∷ cons (object 69) nil
    ∷ string (codes "ab") ∷ string (codes "cd") ∷ []) []

-- what the laws ask for
pub record IsMet : Type 0 where
  pub reverse : slice_get worked_program.procedures 0 ≡ Some (worked_procedure which.Reverse)
  pub turn_copy : IsNamed worked_names worked_program 1 (worked_procedure which.TurnCopyOnto)
  pub length : slice_get worked_program.procedures 2 ≡ Some (worked_procedure which.Length)
  pub counting : IsNamed worked_names worked_program 3 (worked_procedure which.ListLength)
  pub member : slice_get worked_program.procedures 4 ≡ Some (worked_procedure which.Member)
  pub memv : IsNamed worked_names worked_program 5 (worked_procedure which.Memv)
  pub assoc : slice_get worked_program.procedures 6 ≡ Some (worked_procedure which.Assoc)
  pub list_of : slice_get worked_program.procedures 7 ≡ Some (worked_procedure which.List)
  pub append : slice_get worked_program.procedures 8 ≡ Some (worked_procedure which.Append)
  pub append_all : IsNamed worked_names worked_program 9 (worked_procedure which.AppendAll)
  pub turn : IsNamed worked_names worked_program 10 (worked_procedure which.TurnOnto)
  pub put : IsNamed worked_names worked_program 11 (worked_procedure which.Emit)
  pub byte : IsNamed worked_names worked_program 12 (worked_procedure which.Digit)
  pub last : IsNamed worked_names worked_program 13 (worked_procedure which.EmitDigit)
  pub natural : IsNamed worked_names worked_program 14 (worked_procedure which.EmitNatural)
  pub number : slice_get worked_program.procedures 15 ≡ Some (worked_procedure which.EmitInteger)
  pub strings : IsNamed worked_names worked_program 16 (worked_procedure which.StringEqual)
  pub vectors : IsNamed worked_names worked_program 17 (worked_procedure which.EqualVectors)
  pub equal : IsNamed worked_names worked_program 18 (worked_procedure which.Equal)
  pub nreverse : IsNamed worked_names worked_program 19 (worked_procedure which.NReverse)
  pub mapcar : slice_get worked_program.procedures 20 ≡ Some (worked_procedure which.Mapcar)
  pub elt : slice_get worked_program.procedures 21 ≡ Some (worked_procedure which.Elt)
  pub from : IsNamed worked_names worked_program 22 (worked_procedure which.ListFrom)
  pub string_append : slice_get worked_program.procedures 23 ≡ Some (worked_procedure which.StringAppend)
  pub lengths : IsNamed worked_names worked_program 24 (worked_procedure which.LengthOfAll)
  pub copy : IsNamed worked_names worked_program 25 (worked_procedure which.CopyInto)
  pub subseq : slice_get worked_program.procedures 26 ≡ Some (worked_procedure which.Subseq)
  pub check : IsNamed worked_names worked_program 27 (worked_procedure which.CheckSequence)
  pub listp : IsNamed worked_names worked_program 28 (worked_procedure which.Listp)
  pub part : IsNamed worked_names worked_program 29 (worked_procedure which.PartOfList)
  pub nils : (id : ℕ) → slice_get worked_literals id ≡ Some the_nil → HasLiteral worked_program id datum.nil
  pub truths : (id : ℕ) → slice_get worked_literals id ≡ Some the_truth → HasTruth worked_program id
  pub numbers : (id n : ℕ) → slice_get worked_literals id ≡ Some (a_number n) → HasLiteral worked_program id (datum.integer (pos n))
  pub minus : HasLiteral worked_program 21 (datum.character 45)
  pub blank : HasLiteral worked_program 46 (datum.character 32)
  pub functions : (id : ℕ) → slice_get worked_literals id ≡ Some (a_class 6) → HasClass worked_names worked_program worked_state.store id 6
  pub lists : (id : ℕ) → slice_get worked_literals id ≡ Some (a_class 8) → HasClass worked_names worked_program worked_state.store id 8
  pub integers : (id : ℕ) → slice_get worked_literals id ≡ Some (a_class 13) → HasClass worked_names worked_program worked_state.store id 13
  pub is_function : IsInstanceOf worked_program 6 worked_state.store (object 64)
  pub is_list : IsInstanceOf worked_program 8 worked_state.store (object 68)
  pub is_integer : (n : ℤ) → IsInstanceOf worked_program 13 worked_state.store (integer n)
  pub digits : HasText worked_names worked_program worked_state.store 16 all_digits
  pub output : IsOutput worked_state.store (object 35)
  pub list : IsProperList worked_state.store (object 68) (integer (pos 5) ∷ integer (pos 7) ∷ [])
  pub conses : HasConses worked_state.store (object 68) ((68, integer (pos 5)) ∷ (67, integer (pos 7)) ∷ [])
  pub texts : AreStrings worked_state.store ((object 71, codes "ab") ∷ (object 72, codes "cd") ∷ [])
  pub entries : IsProperList worked_state.store (object 70) (object 69 ∷ [])
  pub keys : HaveKeys worked_state.store ((object 69, integer (pos 5)) ∷ [])

-- an application there, at so many levels
abbrev pub applied : ℕ → ℕ → List Value → Evaluated
applied k number vs =
    apply_procedure (at_level worked_names worked_program unlimited k) (signal (at_level worked_names worked_program unlimited k)) number None vs main_context worked_state

-- and what comes of it
pub record Works : Type 0 where
  pub reverse : (applied 4 0 (object 68 ∷ [])).outcome ≡ value (object 74)
  pub reversed : IsProperList (applied 4 0 (object 68 ∷ [])).state.store (object 74) (integer (pos 7) ∷ integer (pos 5) ∷ [])
  pub length : (applied 4 2 (object 68 ∷ [])).outcome ≡ value (integer (pos 2))
  pub member : (applied 4 4 (integer (pos 7) ∷ object 68 ∷ [])).outcome ≡ value (object 67)
  pub assoc : (applied 2 6 (integer (pos 5) ∷ object 70 ∷ [])).outcome ≡ value (object 69)
  pub append : (applied 9 8 (object 68 ∷ object 70 ∷ [])).outcome ≡ value (object 75)
  pub appended : IsProperList (applied 9 8 (object 68 ∷ object 70 ∷ [])).state.store (object 75) (integer (pos 5) ∷ integer (pos 7) ∷ object 69 ∷ [])
  pub printed : (applied 13 15 (object 35 ∷ integer (negsuc 536870911) ∷ integer (pos 10) ∷ [])).state.printed ≡ codes "-536870912"
  pub equal : (applied 6 18 (object 68 ∷ object 68 ∷ [])).outcome ≡ value t
  pub unequal : (applied 6 18 (object 68 ∷ object 69 ∷ [])).outcome ≡ value nil
  pub nreversed : (applied 4 19 (object 68 ∷ [])).outcome ≡ value (object 67)
  pub turned : HasConses (applied 4 19 (object 68 ∷ [])).state.store (object 67) ((67, integer (pos 7)) ∷ (68, integer (pos 5)) ∷ [])
  pub mapped : (applied 5 20 (object 64 ∷ object 70 ∷ [])).outcome ≡ value (object 73)
  pub values : IsProperList (applied 5 20 (object 64 ∷ object 70 ∷ [])).state.store (object 73) (t ∷ [])
  pub item : (applied 3 21 (object 68 ∷ integer (pos 1) ∷ [])).outcome ≡ value (integer (pos 7))
  pub byte : (applied 1 21 (object 71 ∷ integer (pos 1) ∷ [])).outcome ≡ value (character 98)
  pub taken : (applied 6 26 (object 68 ∷ integer (pos 1) ∷ integer (pos 2) ∷ [])).outcome ≡ value (object 73)
  pub part : IsProperList (applied 6 26 (object 68 ∷ integer (pos 1) ∷ integer (pos 2) ∷ [])).state.store (object 73) (integer (pos 7) ∷ [])
  pub joined : (applied 8 23 (object 71 ∷ object 72 ∷ [])).outcome ≡ value (object 75)
  pub whole : slice_get (applied 8 23 (object 71 ∷ object 72 ∷ [])).state.store 75 ≡ Some (string (codes "abcd"))
