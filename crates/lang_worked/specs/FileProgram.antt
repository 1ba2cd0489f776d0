-- A file with a function, a block that a handler leaves through a cleanup, and a condition, written out with its program.
use Rattle.std.specs.Prelude.{ℕ, pos, List, [], ◌∷◌, ◌++◌, Some, None, codes}
use Rattle.base.specs.declared.place.Place.{Place}
use Rattle.lang_meaning.specs.declared.capture.Capture.TheVariants.{Variable, Exit}
use Rattle.lang_meaning.specs.declared.primitive.Primitive.TheVariants.{Car, StandardOutput, PutChar}
use Rattle.lang_meaning.specs.declared.program.FunctionRow.{FunctionRow}
use Rattle.lang_meaning.specs.declared.program.LiteralRow.{LiteralRow}
use Rattle.lang_meaning.specs.declared.program.Procedure.{Procedure}
use Rattle.lang_meaning.specs.declared.program.ProgramRows.{ProgramRows}
use Rattle.lang_meaning.specs.Form.{Form, literal, local, lambda, call, prim, block, return_from, unwind, with_handler, sited}
use Rattle.lang_meaning.specs.model.View.{forms}
use Rattle.lang_meaning.specs.Meaning.{with_value}
use Rattle.lang_meaning.specs.Values.{integer}
use Rattle.lang_worked.specs.FileParts.{name, at, a_symbol, a_character, a_number, a_function, body}
use Rattle.lang_worked.specs.FileNames.{first_names, class_rows}
use Rattle.lang_worked.specs.FileStatements.{IsProgram}

-- (defun f (x)
--  (block b
--   (with-handler (lambda (c) (return-from b x))
--    (unwind-protect (car x)
--     (format-char (standard-output) #\x)))))
-- (f 5)
abbrev pub program_text : List ℕ
program_text =
    codes "(defun f (x)\n"
    ++ (codes " (block b\n"
    ++ (codes "  (with-handler (lambda (c) (return-from b x))\n"
    ++ (codes "   (unwind-protect (car x)\n"
    ++ (codes "    (format-char (standard-output) #\\x)))))\n"
    ++ codes "(f 5)"))))

-- the names of its symbols are 42 to 54
abbrev pub program_names : List (List ℕ)
program_names =
    first_names
    ++ (codes "defun" ∷ codes "f" ∷ codes "x" ∷ codes "block" ∷ codes "b" ∷ codes "with-handler" ∷ codes "lambda" ∷ codes "c"
    ∷ codes "return-from" ∷ codes "unwind-protect" ∷ codes "car" ∷ codes "format-char" ∷ codes "standard-output" ∷ [])

abbrev pub program_literals : List LiteralRow
program_literals = a_symbol (at 1 8) 43 ∷ a_character (at 5 36) 120 ∷ a_number (at 6 4) 5 ∷ []

-- x is variable 0, c variable 1, and b exit 0
abbrev pub handler_form : Form
handler_form = lambda (1 ∷ []) None (body (sited 4 (return_from 0 (local 0)) ∷ [])) (Variable 0 ∷ Exit 0 ∷ [])

abbrev pub cleanup_form : Form
cleanup_form = prim PutChar (forms (sited 8 (prim StandardOutput (forms [])) ∷ literal 1 ∷ []))

abbrev pub protected_form : Form
protected_form = unwind (sited 6 (prim Car (forms (local 0 ∷ [])))) (body (sited 7 cleanup_form ∷ []))

abbrev pub block_form : Form
block_form = block 0 (body (sited 2 (with_handler (sited 3 handler_form) (body (sited 5 protected_form ∷ []))) ∷ []))

abbrev pub program_procedures : List Procedure
program_procedures = record { name = Some (name 43); required = 0 ∷ []; rest = None; body = body (sited 1 block_form ∷ []) } ∷ []

abbrev pub program_functions : List FunctionRow
program_functions = a_function 43 0 ∷ []

-- the sites of the definition, and that of the call
abbrev pub function_sites : List Place
function_sites = at 2 2 ∷ at 3 3 ∷ at 3 17 ∷ at 3 29 ∷ at 4 4 ∷ at 4 20 ∷ at 5 5 ∷ at 5 18 ∷ []

abbrev pub program_call : Form
program_call = sited 9 (call 43 (forms (literal 2 ∷ [])))

-- the value of the definition is the symbol of its name
abbrev pub program : ProgramRows
program = record {
  literals = program_literals;
  procedures = program_procedures;
  classes = class_rows;
  generics = [];
  functions = program_functions;
  main = literal 0 ∷ program_call ∷ [];
  sites = function_sites ++ at 6 1 ∷ [];
}

-- (car 5) is a domain error, whose handler returns 5 from the block; on the way the cleanup prints x
abbrev pub FileIsProgram : Type 0
FileIsProgram = IsProgram [] program_text program_names program 3 (with_value (integer (pos 5))) (codes "x")
