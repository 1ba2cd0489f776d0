-- The names that the forms of a program use: of global variables, of dynamic ones, and those that a condition may have as its name.
use Rattle.std.specs.Prelude.{ℕ, List, [], ◌∷◌, ◌++◌, map, flat_map, Option, Some, None, slice_get, is_some, if◌then◌else◌}
use Rattle.lang_meaning.specs.declared.program.LiteralRow.{LiteralRow}
use Rattle.lang_meaning.specs.declared.program.LiteralRow.TheVariants as row
use Rattle.lang_meaning.specs.Literals.{function_row}
use Rattle.lang_meaning.specs.Lookup.{text}
use Rattle.flat_language.specs.declared.program.FlatProgram.{FlatProgram}
use Rattle.flat_language.specs.FlatForm.{FlatForm, literal, local, set_local, global, set_global, def_global, clauses, sequence, let_form, make_function, call, call_value, apply, prim, while_form, block, return_from, tagbody, go, catch_form, throw, unwind, dynamic_let, dynamic, set_dynamic, def_dynamic, with_handler, signal_form, continue_form, next_method, has_next, sited}
use Rattle.flat_language.specs.FlatForm.{FlatForms, no_form, form_and, FlatClauses, no_clause, clause_and, FlatBody, no_body, with_body}
use Rattle.flat_language.specs.FlatForm.{FlatBindings, no_binding, binding_and, FlatDynamics, no_dynamic, dynamic_and}

-- a name is used as a global variable, as a dynamic one, or as the name of a condition
pub data Use : Type 0 where
  as_global : ℕ → Use
  as_dynamic : ℕ → Use
  as_symbol : ℕ → Use

-- the names that are used in one of these ways
abbrev pub globals_among : List Use → List ℕ
globals_among [] = []
globals_among (as_global n ∷ us) = n ∷ globals_among us
globals_among (as_dynamic n ∷ us) = globals_among us
globals_among (as_symbol n ∷ us) = globals_among us

abbrev pub dynamics_among : List Use → List ℕ
dynamics_among [] = []
dynamics_among (as_global n ∷ us) = dynamics_among us
dynamics_among (as_dynamic n ∷ us) = n ∷ dynamics_among us
dynamics_among (as_symbol n ∷ us) = dynamics_among us

abbrev pub symbols_among : List Use → List ℕ
symbols_among [] = []
symbols_among (as_global n ∷ us) = symbols_among us
symbols_among (as_dynamic n ∷ us) = symbols_among us
symbols_among (as_symbol n ∷ us) = n ∷ symbols_among us

-- a variable without a value is named by the condition
abbrev pub of_global : ℕ → List Use
of_global n = as_global n ∷ as_symbol n ∷ []

abbrev pub of_dynamic : ℕ → List Use
of_dynamic n = as_dynamic n ∷ as_symbol n ∷ []

module _ (names : List (List ℕ)) (program : FlatProgram) where
  -- and so is a function that is not there
  abbrev pub of_function : ℕ → List Use
  of_function n = if is_some (function_row names program.functions (text names n)) then [] else as_symbol n ∷ []

  abbrev pub of_literal : Option LiteralRow → List Use
  of_literal (Some (row.Function name)) = of_function name.0
  of_literal (Some (row.Datum d)) = []
  of_literal (Some (row.Class c)) = []
  of_literal None = []

  abbrev mutual
    pub uses : FlatForm → List Use
    uses (literal i) = of_literal (slice_get program.literals i)
    uses (local p) = []
    uses (set_local p f) = uses f
    uses (global n) = of_global n
    uses (set_global n f) = of_global n ++ uses f
    uses (def_global n f) = of_global n ++ uses f
    uses (clauses cs) = uses_of_clauses cs
    uses (sequence fs) = uses_of_forms fs
    uses (let_form bs body) = uses_of_values bs ++ uses body
    uses (make_function p parts) = []
    uses (call n fs) = of_function n ++ uses_of_forms fs
    uses (call_value fs) = uses_of_forms fs
    uses (apply f list) = uses f ++ uses list
    uses (prim which fs) = uses_of_forms fs
    uses (while_form test body) = uses test ++ uses body
    uses (block body) = uses body
    uses (return_from x f) = uses f
    uses (tagbody segments) = uses_of_forms segments
    uses (go x segment) = []
    uses (catch_form tag body) = uses tag ++ uses body
    uses (throw tag f) = uses tag ++ uses f
    uses (unwind f cleanup) = uses f ++ uses cleanup
    uses (dynamic_let ds body) = uses_of_dynamics ds ++ uses body
    uses (dynamic n) = of_dynamic n
    uses (set_dynamic n f) = of_dynamic n ++ uses f
    uses (def_dynamic n f) = of_dynamic n ++ uses f
    uses (with_handler handler body) = uses handler ++ uses body
    uses (signal_form condition mark) = uses condition ++ uses mark
    uses (continue_form condition f) = uses condition ++ uses f
    uses (next_method m) = []
    uses (has_next m) = []
    uses (sited site f) = uses f

    pub uses_of_forms : FlatForms → List Use
    uses_of_forms no_form = []
    uses_of_forms (form_and f fs) = uses f ++ uses_of_forms fs

    pub uses_of_clauses : FlatClauses → List Use
    uses_of_clauses no_clause = []
    uses_of_clauses (clause_and test body cs) = uses test ++ (uses_of_body body ++ uses_of_clauses cs)

    pub uses_of_body : FlatBody → List Use
    uses_of_body no_body = []
    uses_of_body (with_body f) = uses f

    pub uses_of_values : FlatBindings → List Use
    uses_of_values no_binding = []
    uses_of_values (binding_and h f bs) = uses f ++ uses_of_values bs

    pub uses_of_dynamics : FlatDynamics → List Use
    uses_of_dynamics no_dynamic = []
    uses_of_dynamics (dynamic_and n f ds) = as_dynamic n ∷ (uses f ++ uses_of_dynamics ds)

  -- of a whole program: its procedures, the functions of its forms, its main forms; and each generic function is named by conditions
  abbrev pub program_uses : List Use
  program_uses =
      flat_map (λ q. uses q.body) program.procedures
      ++ (flat_map (λ q. uses q.body) program.lambdas ++ (flat_map uses program.main ++ map (λ g. as_symbol g.name.0) program.generics))
