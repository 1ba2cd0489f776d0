-- Closure conversion: a form made flat in a scope, and the procedures of the functions inside it, which have the numbers
-- from a first one on, each before those inside it.
use Rattle.std.specs.Prelude.{ℕ, ◌+◌, List, [], ◌∷◌, ◌++◌, Option, Some, None}
use Rattle.lang_meaning.specs.declared.capture.Capture.TheVariants as meant
use Rattle.lang_meaning.specs.declared.program.Procedure.{Procedure}
use Rattle.lang_meaning.specs.declared.program.ProgramRows.{ProgramRows}
use Rattle.lang_meaning.specs.Captured.{captures}
use Rattle.lang_meaning.specs.Form as core
use Rattle.lang_meaning.specs.Form.{Form, Forms, ClauseForms, MaybeForm, BindingForms, DynamicForms, parameters}
use Rattle.lang_meaning.specs.Meaning.{bound_variables}
use Rattle.flat_language.specs.declared.place.CapturedKind.{CapturedKind}
use Rattle.flat_language.specs.declared.place.Home.{Home}
use Rattle.flat_language.specs.FlatForm.{FlatForm, literal, local, set_local, global, set_global, def_global, clauses, sequence, let_form, make_function, call, call_value, apply, prim, while_form, block, return_from, tagbody, go, catch_form, throw, unwind, dynamic_let, dynamic, set_dynamic, def_dynamic, with_handler, signal_form, continue_form, next_method, has_next, sited}
use Rattle.flat_language.specs.FlatForm.{FlatForms, no_form, form_and, FlatClauses, no_clause, clause_and, FlatBody, no_body, with_body}
use Rattle.flat_language.specs.FlatForm.{FlatBindings, no_binding, binding_and, FlatDynamics, no_dynamic, dynamic_and}
use Rattle.flat_language.specs.declared.program.FlatProcedure.{FlatProcedure}
use Rattle.flat_language.specs.declared.program.FlatProgram.{FlatProgram}
use Rattle.flat_language.specs.Scope.{Scope, no_scope, place_of, exit_place_of, method_place_of, home_of, homes_of, with_bound, with_around, flat_parts, kinds_of, seen}

-- how many functions stand in a form, those inside functions too
abbrev mutual
  pub functions : Form → ℕ
  functions (core.literal i) = 0
  functions (core.local v) = 0
  functions (core.set_local v f) = functions f
  functions (core.global n) = 0
  functions (core.set_global n f) = functions f
  functions (core.def_global n f) = functions f
  functions (core.clauses cs) = functions_of_clauses cs
  functions (core.sequence fs) = functions_of_forms fs
  functions (core.let_form bs body) = functions_of_values bs + functions body
  functions (core.lambda required rest body parts) = functions body + 1
  functions (core.call n fs) = functions_of_forms fs
  functions (core.call_value fs) = functions_of_forms fs
  functions (core.apply f list) = functions f + functions list
  functions (core.prim which fs) = functions_of_forms fs
  functions (core.while_form test body) = functions test + functions body
  functions (core.block x body) = functions body
  functions (core.return_from x f) = functions f
  functions (core.tagbody x segments) = functions_of_forms segments
  functions (core.go x segment) = 0
  functions (core.catch_form tag body) = functions tag + functions body
  functions (core.throw tag f) = functions tag + functions f
  functions (core.unwind f cleanup) = functions f + functions cleanup
  functions (core.dynamic_let ds body) = functions_of_dynamics ds + functions body
  functions (core.dynamic n) = 0
  functions (core.set_dynamic n f) = functions f
  functions (core.def_dynamic n f) = functions f
  functions (core.with_handler handler body) = functions handler + functions body
  functions (core.signal_form condition mark) = functions condition + functions mark
  functions (core.continue_form condition f) = functions condition + functions f
  functions core.next_method = 0
  functions core.has_next = 0
  functions (core.sited site f) = functions f

  pub functions_of_forms : Forms → ℕ
  functions_of_forms core.no_form = 0
  functions_of_forms (core.form_and f fs) = functions f + functions_of_forms fs

  pub functions_of_clauses : ClauseForms → ℕ
  functions_of_clauses core.no_clause = 0
  functions_of_clauses (core.clause_and test body cs) = functions test + functions_of_body body + functions_of_clauses cs

  pub functions_of_body : MaybeForm → ℕ
  functions_of_body core.no_body = 0
  functions_of_body (core.with_body f) = functions f

  pub functions_of_values : BindingForms → ℕ
  functions_of_values core.no_binding = 0
  functions_of_values (core.binding_and v f bs) = functions f + functions_of_values bs

  pub functions_of_dynamics : DynamicForms → ℕ
  functions_of_dynamics core.no_dynamic = 0
  functions_of_dynamics (core.dynamic_and n f ds) = functions f + functions_of_dynamics ds

-- the homes of the rest variable
abbrev pub home_of_rest : Option ℕ → Form → Option Home
home_of_rest None body = None
home_of_rest (Some v) body = Some (home_of v body)

unfoldable mutual
  -- a form made flat
  pub flat : Scope → ℕ → Form → FlatForm
  flat s n (core.literal i) = literal i
  flat s n (core.local v) = local (place_of s v)
  flat s n (core.set_local v f) = set_local (place_of s v) (flat s n f)
  flat s n (core.global name) = global name
  flat s n (core.set_global name f) = set_global name (flat s n f)
  flat s n (core.def_global name f) = def_global name (flat s n f)
  flat s n (core.clauses cs) = clauses (flat_clauses s n cs)
  flat s n (core.sequence fs) = sequence (flat_forms s n fs)
  flat s n (core.let_form bs body) =
      let_form (flat_bindings s n body bs) (flat (with_bound (bound_variables bs) body s) (n + functions_of_values bs) body)
  flat s n (core.lambda required rest body parts) = make_function n (flat_parts s parts)
  flat s n (core.call name fs) = call name (flat_forms s n fs)
  flat s n (core.call_value fs) = call_value (flat_forms s n fs)
  flat s n (core.apply f list) = apply (flat s n f) (flat s (n + functions f) list)
  flat s n (core.prim which fs) = prim which (flat_forms s n fs)
  flat s n (core.while_form test body) = while_form (flat s n test) (flat s (n + functions test) body)
  flat s n (core.block x body) = block (flat (with_around x s) n body)
  flat s n (core.return_from x f) = return_from (exit_place_of s x) (flat s n f)
  flat s n (core.tagbody x segments) = tagbody (flat_forms (with_around x s) n segments)
  flat s n (core.go x segment) = go (exit_place_of s x) segment
  flat s n (core.catch_form tag body) = catch_form (flat s n tag) (flat s (n + functions tag) body)
  flat s n (core.throw tag f) = throw (flat s n tag) (flat s (n + functions tag) f)
  flat s n (core.unwind f cleanup) = unwind (flat s n f) (flat s (n + functions f) cleanup)
  flat s n (core.dynamic_let ds body) = dynamic_let (flat_dynamics s n ds) (flat s (n + functions_of_dynamics ds) body)
  flat s n (core.dynamic name) = dynamic name
  flat s n (core.set_dynamic name f) = set_dynamic name (flat s n f)
  flat s n (core.def_dynamic name f) = def_dynamic name (flat s n f)
  flat s n (core.with_handler handler body) = with_handler (flat s n handler) (flat s (n + functions handler) body)
  flat s n (core.signal_form condition mark) = signal_form (flat s n condition) (flat s (n + functions condition) mark)
  flat s n (core.continue_form condition f) = continue_form (flat s n condition) (flat s (n + functions condition) f)
  flat s n core.next_method = next_method (method_place_of s)
  flat s n core.has_next = has_next (method_place_of s)
  flat s n (core.sited site f) = sited site (flat s n f)

  pub flat_forms : Scope → ℕ → Forms → FlatForms
  flat_forms s n core.no_form = no_form
  flat_forms s n (core.form_and f fs) = form_and (flat s n f) (flat_forms s (n + functions f) fs)

  pub flat_clauses : Scope → ℕ → ClauseForms → FlatClauses
  flat_clauses s n core.no_clause = no_clause
  flat_clauses s n (core.clause_and test body cs) =
      clause_and (flat s n test) (flat_body s (n + functions test) body)
      (flat_clauses s (n + (functions test + functions_of_body body)) cs)

  pub flat_body : Scope → ℕ → MaybeForm → FlatBody
  flat_body s n core.no_body = no_body
  flat_body s n (core.with_body f) = with_body (flat s n f)

  -- the bindings of the variables of a body
  pub flat_bindings : Scope → ℕ → Form → BindingForms → FlatBindings
  flat_bindings s n body core.no_binding = no_binding
  flat_bindings s n body (core.binding_and v f bs) =
      binding_and (home_of v body) (flat s n f) (flat_bindings s (n + functions f) body bs)

  pub flat_dynamics : Scope → ℕ → DynamicForms → FlatDynamics
  flat_dynamics s n core.no_dynamic = no_dynamic
  flat_dynamics s n (core.dynamic_and name f ds) = dynamic_and name (flat s n f) (flat_dynamics s (n + functions f) ds)

-- the scope of a procedure's body, where the scope around its variables is that one
abbrev pub body_scope : List ℕ → Option ℕ → Form → Scope → Scope
body_scope required rest body s = with_bound (parameters required rest) body s

-- a procedure: the functions in its body have the numbers from a first one on
abbrev pub flat_procedure : Scope → ℕ → List CapturedKind → (required : List ℕ) → (rest : Option ℕ) → (body : Form) → FlatProcedure
flat_procedure s n kinds required rest body = record {
  captured = kinds;
  required = homes_of required body;
  rest = home_of_rest rest body;
  keeps_method = captures meant.Method body;
  body = flat (body_scope required rest body s) n body;
}

abbrev mutual
  -- the procedures of the functions in a form
  pub inner_procedures : Scope → ℕ → Form → List FlatProcedure
  inner_procedures s n (core.literal i) = []
  inner_procedures s n (core.local v) = []
  inner_procedures s n (core.set_local v f) = inner_procedures s n f
  inner_procedures s n (core.global name) = []
  inner_procedures s n (core.set_global name f) = inner_procedures s n f
  inner_procedures s n (core.def_global name f) = inner_procedures s n f
  inner_procedures s n (core.clauses cs) = procedures_of_clauses s n cs
  inner_procedures s n (core.sequence fs) = procedures_of_forms s n fs
  inner_procedures s n (core.let_form bs body) =
      procedures_of_values s n bs
      ++ inner_procedures (with_bound (bound_variables bs) body s) (n + functions_of_values bs) body
  inner_procedures s n (core.lambda required rest body parts) =
      flat_procedure (seen s parts) (n + 1) (kinds_of s parts) required rest body
      ∷ inner_procedures (body_scope required rest body (seen s parts)) (n + 1) body
  inner_procedures s n (core.call name fs) = procedures_of_forms s n fs
  inner_procedures s n (core.call_value fs) = procedures_of_forms s n fs
  inner_procedures s n (core.apply f list) = inner_procedures s n f ++ inner_procedures s (n + functions f) list
  inner_procedures s n (core.prim which fs) = procedures_of_forms s n fs
  inner_procedures s n (core.while_form test body) = inner_procedures s n test ++ inner_procedures s (n + functions test) body
  inner_procedures s n (core.block x body) = inner_procedures (with_around x s) n body
  inner_procedures s n (core.return_from x f) = inner_procedures s n f
  inner_procedures s n (core.tagbody x segments) = procedures_of_forms (with_around x s) n segments
  inner_procedures s n (core.go x segment) = []
  inner_procedures s n (core.catch_form tag body) = inner_procedures s n tag ++ inner_procedures s (n + functions tag) body
  inner_procedures s n (core.throw tag f) = inner_procedures s n tag ++ inner_procedures s (n + functions tag) f
  inner_procedures s n (core.unwind f cleanup) = inner_procedures s n f ++ inner_procedures s (n + functions f) cleanup
  inner_procedures s n (core.dynamic_let ds body) =
      procedures_of_dynamics s n ds ++ inner_procedures s (n + functions_of_dynamics ds) body
  inner_procedures s n (core.dynamic name) = []
  inner_procedures s n (core.set_dynamic name f) = inner_procedures s n f
  inner_procedures s n (core.def_dynamic name f) = inner_procedures s n f
  inner_procedures s n (core.with_handler handler body) =
      inner_procedures s n handler ++ inner_procedures s (n + functions handler) body
  inner_procedures s n (core.signal_form condition mark) =
      inner_procedures s n condition ++ inner_procedures s (n + functions condition) mark
  inner_procedures s n (core.continue_form condition f) =
      inner_procedures s n condition ++ inner_procedures s (n + functions condition) f
  inner_procedures s n core.next_method = []
  inner_procedures s n core.has_next = []
  inner_procedures s n (core.sited site f) = inner_procedures s n f

  pub procedures_of_forms : Scope → ℕ → Forms → List FlatProcedure
  procedures_of_forms s n core.no_form = []
  procedures_of_forms s n (core.form_and f fs) = inner_procedures s n f ++ procedures_of_forms s (n + functions f) fs

  pub procedures_of_clauses : Scope → ℕ → ClauseForms → List FlatProcedure
  procedures_of_clauses s n core.no_clause = []
  procedures_of_clauses s n (core.clause_and test body cs) =
      (inner_procedures s n test ++ procedures_of_body s (n + functions test) body)
      ++ procedures_of_clauses s (n + (functions test + functions_of_body body)) cs

  pub procedures_of_body : Scope → ℕ → MaybeForm → List FlatProcedure
  procedures_of_body s n core.no_body = []
  procedures_of_body s n (core.with_body f) = inner_procedures s n f

  pub procedures_of_values : Scope → ℕ → BindingForms → List FlatProcedure
  procedures_of_values s n core.no_binding = []
  procedures_of_values s n (core.binding_and v f bs) = inner_procedures s n f ++ procedures_of_values s (n + functions f) bs

  pub procedures_of_dynamics : Scope → ℕ → DynamicForms → List FlatProcedure
  procedures_of_dynamics s n core.no_dynamic = []
  procedures_of_dynamics s n (core.dynamic_and name f ds) =
      inner_procedures s n f ++ procedures_of_dynamics s (n + functions f) ds

-- how many functions stand in procedures, and in main forms
abbrev pub functions_of_procedures : List Procedure → ℕ
functions_of_procedures [] = 0
functions_of_procedures (p ∷ ps) = functions p.body + functions_of_procedures ps

-- procedures one after another, with the functions in them, and main forms
abbrev pub flat_procedures : ℕ → List Procedure → List FlatProcedure
flat_procedures n [] = []
flat_procedures n (p ∷ ps) = flat_procedure no_scope n [] p.required p.rest p.body ∷ flat_procedures (n + functions p.body) ps

abbrev pub inner_of_procedures : ℕ → List Procedure → List FlatProcedure
inner_of_procedures n [] = []
inner_of_procedures n (p ∷ ps) =
    inner_procedures (body_scope p.required p.rest p.body no_scope) n p.body ++ inner_of_procedures (n + functions p.body) ps

abbrev pub flat_mains : ℕ → List Form → List FlatForm
flat_mains n [] = []
flat_mains n (f ∷ fs) = flat no_scope n f ∷ flat_mains (n + functions f) fs

abbrev pub inner_of_mains : ℕ → List Form → List FlatProcedure
inner_of_mains n [] = []
inner_of_mains n (f ∷ fs) = inner_procedures no_scope n f ++ inner_of_mains (n + functions f) fs

-- a program made flat: the functions in its procedures have the first numbers, and then come those in its main forms
abbrev pub flat_program : ProgramRows → FlatProgram
flat_program rows = record {
  literals = rows.literals;
  procedures = flat_procedures 0 rows.procedures;
  lambdas = inner_of_procedures 0 rows.procedures ++ inner_of_mains (functions_of_procedures rows.procedures) rows.main;
  classes = rows.classes;
  generics = rows.generics;
  functions = rows.functions;
  main = flat_mains (functions_of_procedures rows.procedures) rows.main;
  sites = rows.sites;
}
