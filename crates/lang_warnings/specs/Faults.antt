-- **What is wrong with a form of a program**, so that an evaluation of it that its parts do not leave signals a condition: a call that finds
-- no function (ISO/IEC 13816:2007, 12.7), or one that takes other numbers of arguments, and a global variable that is never defined (14.2).
use Rattle.std.specs.Prelude.{ℕ, ◌==◌, Bool, List, length, Option, Some, None, is_some, if◌then◌else◌, nat_le, slice_get, flat_map, filter_map}
use Rattle.base.specs.declared.datum.Name.{Name}
use Rattle.lang_meaning.specs.Form.{Form, call, global, set_global, def_global}
use Rattle.lang_meaning.specs.Inside.{inside_form}
use Rattle.lang_meaning.specs.Literals.{function_row}
use Rattle.lang_meaning.specs.Lookup.{text, is_in}
use Rattle.lang_meaning.specs.Subforms.{forms_list}
use Rattle.lang_meaning.specs.declared.program.Callee.{Callee}
use Rattle.lang_meaning.specs.declared.program.Callee.TheVariants as callee
use Rattle.lang_meaning.specs.declared.program.FunctionRow.{FunctionRow}
use Rattle.lang_meaning.specs.declared.program.GenericRow.{GenericRow}
use Rattle.lang_meaning.specs.declared.program.Procedure.{Procedure}
use Rattle.lang_meaning.specs.declared.program.ProgramRows.{ProgramRows}
use Rattle.lang_warnings.specs.declared.warning.Fault.{Fault}
use Rattle.lang_warnings.specs.declared.warning.Fault.TheVariants.{NoFunction, Arguments, NoVariable}

-- the name that a form is at fault for, and the fault
abbrev pub Found : Type 0
Found = Name × Fault

-- the global variables that forms define
abbrev pub defined_by : Form → Option ℕ
defined_by (def_global n f) = Some n
defined_by f = None

abbrev pub defined_in : Form → List ℕ
defined_in f = filter_map defined_by (inside_form f)

-- those of a program: forms that define stand among its main forms, or inside them
abbrev pub defined_globals : ProgramRows → List ℕ
defined_globals program = flat_map defined_in program.main

-- a function takes so many arguments, or as many and more
abbrev pub count_fault : (given required : ℕ) (more : Bool) → Option Fault
count_fault given required more =
    if (if more then nat_le required given else given == required) then None
    else Some (Arguments given required more)

abbrev pub procedure_fault : (given : ℕ) → Option Procedure → Option Fault
procedure_fault given None = None
procedure_fault given (Some p) = count_fault given (length p.required) (is_some p.rest)

abbrev pub generic_fault : (given : ℕ) → Option GenericRow → Option Fault
generic_fault given None = None
generic_fault given (Some g) = count_fault given g.required g.rest

abbrev pub callee_fault : ProgramRows → (given : ℕ) → Callee → Option Fault
callee_fault program given (callee.Procedure p) = procedure_fault given (slice_get program.procedures p)
callee_fault program given (callee.Generic g) = generic_fault given (slice_get program.generics g)

-- of the function of a name, where there is one
abbrev pub call_fault : ProgramRows → (given : ℕ) → Option FunctionRow → Option Fault
call_fault program given None = Some NoFunction
call_fault program given (Some f) = callee_fault program given f.callee

abbrev pub variable_fault : ProgramRows → (name : ℕ) → Option Fault
variable_fault program n = if is_in n (defined_globals program) then None else Some NoVariable

-- a fault of a name
abbrev pub of_name : (name : ℕ) → Option Fault → Option Found
of_name n None = None
of_name n (Some fault) = Some (record { 0 = n }, fault)

-- what is wrong with a form itself
abbrev pub fault_of : List (List ℕ) → ProgramRows → Form → Option Found
fault_of names program (call n fs) =
    of_name n (call_fault program (length (forms_list fs)) (function_row names program.functions (text names n)))
fault_of names program (global n) = of_name n (variable_fault program n)
fault_of names program (set_global n f) = of_name n (variable_fault program n)
fault_of names program f = None
