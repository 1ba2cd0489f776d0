-- What the main forms of a program reach, and how many words an image of it may have (this profile's own).
use Rattle.std.specs.Prelude.{ℕ, zero, suc, ◌+◌, ◌*◌, min, List, [], ◌∷◌, ◌++◌, Option, Some, None, length, map, flat_map, option_to_list, slice_get, if◌then◌else◌}
use Rattle.std.specs.List.{sum_by}
use Rattle.lang_meaning.specs.declared.program.LiteralRow.{LiteralRow}
use Rattle.lang_meaning.specs.declared.program.LiteralRow.TheVariants as row
use Rattle.lang_meaning.specs.declared.program.GenericRow.{GenericRow}
use Rattle.lang_meaning.specs.declared.program.FunctionRow.{FunctionRow}
use Rattle.lang_meaning.specs.declared.program.Procedure.{Procedure}
use Rattle.lang_meaning.specs.declared.program.Callee.{Callee}
use Rattle.lang_meaning.specs.declared.program.Callee.TheVariants as callee
use Rattle.lang_meaning.specs.declared.program.ProgramRows.{ProgramRows}
use Rattle.lang_meaning.specs.Form.{Form, literal, call}
use Rattle.lang_meaning.specs.Cells.{program_cells}
use Rattle.lang_meaning.specs.Counts.{all_nodes}
use Rattle.lang_meaning.specs.Inside.{inside_form}
use Rattle.lang_meaning.specs.Literals.{function_row, all_slots}
use Rattle.lang_meaning.specs.Lookup.{is_in, text}
use Rattle.lang_meaning.specs.ProgramCounts.{row_nodes, procedure_nodes, class_nodes, program_nodes}

-- each number once
abbrev pub once : List ℕ → List ℕ
once [] = []
once (n ∷ ns) = (if is_in n ns then [] else n ∷ []) ++ once ns

-- what a form mentions by itself: procedures of definitions, generic functions, and rows of literals

abbrev pub methods_at : Option GenericRow → List ℕ
methods_at (Some g) = map (λ m. m.procedure) g.methods
methods_at None = []

-- a generic function brings all its methods
abbrev pub callee_procedures : ProgramRows → Option FunctionRow → List ℕ
callee_procedures program None = []
callee_procedures program (Some f) = by f.callee
  where
    by : Callee → List ℕ
    by (callee.Procedure p) = p ∷ []
    by (callee.Generic g) = methods_at (slice_get program.generics g)

abbrev pub callee_generics : Option FunctionRow → List ℕ
callee_generics None = []
callee_generics (Some f) = by f.callee
  where
    by : Callee → List ℕ
    by (callee.Procedure p) = []
    by (callee.Generic g) = g ∷ []

abbrev pub named_in : Option LiteralRow → List ℕ
named_in (Some (row.Function name)) = name.0 ∷ []
named_in (Some (row.Datum d)) = []
named_in (Some (row.Class c)) = []
named_in None = []

-- the names of functions that a form mentions
abbrev pub names_of : ProgramRows → Form → List ℕ
names_of program (call n fs) = n ∷ []
names_of program (literal i) = named_in (slice_get program.literals i)
names_of program f = []

abbrev pub procedures_of : List (List ℕ) → ProgramRows → Form → List ℕ
procedures_of names program f =
    flat_map (λ n. callee_procedures program (function_row names program.functions (text names n))) (names_of program f)

abbrev pub generics_of : List (List ℕ) → ProgramRows → Form → List ℕ
generics_of names program f =
    flat_map (λ n. callee_generics (function_row names program.functions (text names n))) (names_of program f)

abbrev pub literals_of : Form → List ℕ
literals_of (literal i) = i ∷ []
literals_of f = []

-- the bodies of procedures
abbrev pub body_at : Option Procedure → List Form
body_at (Some p) = p.body ∷ []
body_at None = []

abbrev pub bodies : ProgramRows → List ℕ → List Form
bodies program ps = flat_map (λ p. body_at (slice_get program.procedures p)) ps

-- the procedures that some forms mention, directly or through so many others: procedures name one another in
-- circles, so the search is by steps, and as many as there are procedures reach all
abbrev pub reached_from : List (List ℕ) → ProgramRows → ℕ → List Form → List ℕ
reached_from names program zero fs = []
reached_from names program (suc depth) fs =
    let ps = once (flat_map (procedures_of names program) (flat_map inside_form fs)) in
    once (ps ++ reached_from names program depth (bodies program ps))

-- where the search begins: the main forms, and the procedures of all initforms
abbrev pub initforms : ProgramRows → List ℕ
initforms program = flat_map (λ s. option_to_list s.initform) (all_slots program.classes)

abbrev pub reached_procedures : List (List ℕ) → ProgramRows → List ℕ
reached_procedures names program =
    once (initforms program
    ++ reached_from names program (length program.procedures) (program.main ++ bodies program (initforms program)))

-- all forms that are reached, each with those inside it
abbrev pub reached_forms : List (List ℕ) → ProgramRows → List Form
reached_forms names program =
    flat_map inside_form (program.main ++ bodies program (reached_procedures names program))

-- the rows at some places
abbrev pub rows_at : {X : Type 0} → List X → List ℕ → List X
rows_at xs ns = flat_map (λ n. option_to_list (slice_get xs n)) ns

-- the reached nodes: the main forms, all classes, and the procedures, literals and generic functions that are
-- reached
abbrev pub reached_nodes : List (List ℕ) → ProgramRows → ℕ
reached_nodes names program =
    sum_by all_nodes program.main
    + sum_by class_nodes program.classes
    + sum_by procedure_nodes (rows_at program.procedures (reached_procedures names program))
    + sum_by row_nodes (rows_at program.literals (once (flat_map literals_of (reached_forms names program))))
    + 4 * length (once (flat_map (generics_of names program) (reached_forms names program)))

-- the most words that an image of the program has
abbrev pub image_words : List (List ℕ) → ProgramRows → ℕ
image_words names program =
    min (160 * program_nodes program + 600000)
    (160 * reached_nodes names program + 2 * program_cells program + 40000)
