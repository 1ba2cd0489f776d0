-- A library of two functions, and the file behind it that calls them, written out with its program.
use Rattle.std.specs.Prelude.{ℕ, pos, List, [], ◌∷◌, ◌++◌, Some, None, codes}
use Rattle.base.specs.declared.place.Place.{Place}
use Rattle.lang_meaning.specs.declared.capture.Capture.TheVariants.{Variable, Exit}
use Rattle.lang_meaning.specs.declared.primitive.Primitive.TheVariants.{Car, StandardOutput, PutChar}
use Rattle.lang_meaning.specs.declared.program.FunctionRow.{FunctionRow}
use Rattle.lang_meaning.specs.declared.program.LiteralRow.{LiteralRow}
use Rattle.lang_meaning.specs.declared.program.Procedure.{Procedure}
use Rattle.lang_meaning.specs.declared.program.ProgramRows.{ProgramRows}
use Rattle.lang_meaning.specs.Form.{Form, literal, local, lambda, call, prim, block, return_from, unwind, with_handler, sited}
use Rattle.lang_meaning.specs.model.View.{forms}
use Rattle.lang_meaning.specs.Meaning.{with_value}
use Rattle.lang_meaning.specs.Values.{integer}
use Rattle.lang_worked.specs.FileParts.{name, at, a_symbol, a_character, a_number, a_function, body}
use Rattle.lang_worked.specs.FileNames.{first_names, class_rows}
use Rattle.lang_worked.specs.FileStatements.{IsProgram}

-- (defun g (x) (car x))
-- (defun h (x) (format-char (standard-output) x))
abbrev pub library_text : List ℕ
library_text =
    codes "(defun g (x) (car x))\n"
    ++ codes "(defun h (x) (format-char (standard-output) x))"

-- (defun f (x)
--  (block b
--   (with-handler (lambda (c) (return-from b x))
--    (unwind-protect (g x)
--     (h #\x)))))
-- (f 5)
abbrev pub calling_text : List ℕ
calling_text =
    codes "(defun f (x)\n"
    ++ (codes " (block b\n"
    ++ (codes "  (with-handler (lambda (c) (return-from b x))\n"
    ++ (codes "   (unwind-protect (g x)\n"
    ++ (codes "    (h #\\x)))))\n"
    ++ codes "(f 5)"))))

-- the names of the library's symbols are 42 to 48, those of the file's 49 to 56
abbrev pub library_names : List (List ℕ)
library_names =
    first_names
    ++ (codes "defun" ∷ codes "g" ∷ codes "x" ∷ codes "car" ∷ codes "h" ∷ codes "format-char" ∷ codes "standard-output"
    ∷ codes "f" ∷ codes "block" ∷ codes "b" ∷ codes "with-handler" ∷ codes "lambda" ∷ codes "c" ∷ codes "return-from"
    ∷ codes "unwind-protect" ∷ [])

abbrev pub calling_literals : List LiteralRow
calling_literals = a_symbol (at 1 8) 49 ∷ a_character (at 5 8) 120 ∷ a_number (at 6 4) 5 ∷ []

abbrev pub a_procedure : ℕ → ℕ → Form → Procedure
a_procedure n x f = record { name = Some (name n); required = x ∷ []; rest = None; body = body (f ∷ []) }

-- the library's functions have no sites; their variables are 0 and 1
abbrev pub library_procedures : List Procedure
library_procedures =
    a_procedure 43 0 (prim Car (forms (local 0 ∷ [])))
    ∷ a_procedure 46 1 (prim PutChar (forms (prim StandardOutput (forms []) ∷ local 1 ∷ [])))
    ∷ []

-- x is variable 2, c variable 3, and b exit 0
abbrev pub returning_form : Form
returning_form = lambda (3 ∷ []) None (body (sited 4 (return_from 0 (local 2)) ∷ [])) (Variable 2 ∷ Exit 0 ∷ [])

abbrev pub guarded_form : Form
guarded_form = unwind (sited 6 (call 43 (forms (local 2 ∷ [])))) (body (sited 7 (call 46 (forms (literal 1 ∷ []))) ∷ []))

abbrev pub calling_form : Form
calling_form = block 0 (body (sited 2 (with_handler (sited 3 returning_form) (body (sited 5 guarded_form ∷ []))) ∷ []))

abbrev pub calling_procedures : List Procedure
calling_procedures = library_procedures ++ a_procedure 49 2 (sited 1 calling_form) ∷ []

abbrev pub library_functions : List FunctionRow
library_functions = a_function 43 0 ∷ a_function 46 1 ∷ []

abbrev pub calling_functions : List FunctionRow
calling_functions = library_functions ++ a_function 49 2 ∷ []

-- the sites of the definition, and that of the call
abbrev pub calling_sites : List Place
calling_sites = at 2 2 ∷ at 3 3 ∷ at 3 17 ∷ at 3 29 ∷ at 4 4 ∷ at 4 20 ∷ at 5 5 ∷ []

abbrev pub last_call : Form
last_call = sited 8 (call 49 (forms (literal 2 ∷ [])))

-- the library has no main forms
abbrev pub calling_program : ProgramRows
calling_program = record {
  literals = calling_literals;
  procedures = calling_procedures;
  classes = class_rows;
  generics = [];
  functions = calling_functions;
  main = literal 0 ∷ last_call ∷ [];
  sites = calling_sites ++ at 6 1 ∷ [];
}

-- it does what the other file does, by the library's functions
abbrev pub FileBehindLibrary : Type 0
FileBehindLibrary = IsProgram library_text calling_text library_names calling_program 4 (with_value (integer (pos 5))) (codes "x")
