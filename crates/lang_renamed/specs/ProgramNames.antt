-- The names of a program, by their numbers: those in its data, its forms and its rows.
use Rattle.std.specs.Prelude.{ℕ, List, [], ◌∷◌, ◌++◌, Option, Some, None, map, flat_map}
use Rattle.base.specs.declared.datum.Name.{Name}
use Rattle.base.specs.declared.datum.Symbol.{Symbol}
use Rattle.base.specs.declared.datum.Symbol.TheVariants.{Named, Fresh}
use Rattle.base.specs.Data.{Item, item, Content, integer, character, symbol, string, vector, nil, list, Items, no_item, item_and, Tail, no_tail, dotted}
use Rattle.lang_meaning.specs.declared.program.LiteralRow.{LiteralRow}
use Rattle.lang_meaning.specs.declared.program.LiteralRow.TheVariants as row
use Rattle.lang_meaning.specs.declared.program.Procedure.{Procedure}
use Rattle.lang_meaning.specs.declared.program.FunctionRow.{FunctionRow}
use Rattle.lang_meaning.specs.declared.program.SlotRow.{SlotRow}
use Rattle.lang_meaning.specs.declared.program.ClassRow.{ClassRow}
use Rattle.lang_meaning.specs.declared.program.GenericRow.{GenericRow}
use Rattle.lang_meaning.specs.declared.program.ProgramRows.{ProgramRows}
use Rattle.lang_meaning.specs.Form.{Form, literal, local, set_local, global, set_global, def_global, clauses, sequence, let_form, lambda, call, call_value, apply, prim, while_form, block, return_from, tagbody, go, catch_form, throw, unwind, dynamic_let, dynamic, set_dynamic, def_dynamic, with_handler, signal_form, continue_form, next_method, has_next, sited}
use Rattle.lang_meaning.specs.Form.{Forms, no_form, form_and, ClauseForms, no_clause, clause_and, MaybeForm, no_body, with_body, BindingForms, no_binding, binding_and, DynamicForms, no_dynamic, dynamic_and}

-- ---- data

abbrev pub symbol_names : Symbol → List ℕ
symbol_names (Named n) = n.0 ∷ []
symbol_names (Fresh e s) = []

abbrev mutual
  pub item_names : Item → List ℕ
  item_names (item p c) = content_names c

  pub content_names : Content → List ℕ
  content_names (integer n) = []
  content_names (character c) = []
  content_names (symbol x) = symbol_names x
  content_names (string bytes) = []
  content_names (vector ds) = items_names ds
  content_names nil = []
  content_names (list ds t) = items_names ds ++ tail_names t

  pub items_names : Items → List ℕ
  items_names no_item = []
  items_names (item_and d ds) = item_names d ++ items_names ds

  pub tail_names : Tail → List ℕ
  tail_names no_tail = []
  tail_names (dotted d) = item_names d

-- ---- core forms

abbrev mutual
  pub form_names : Form → List ℕ
  form_names (literal i) = []
  form_names (local v) = []
  form_names (set_local v f) = form_names f
  form_names (global n) = n ∷ []
  form_names (set_global n f) = n ∷ form_names f
  form_names (def_global n f) = n ∷ form_names f
  form_names (clauses cs) = clauses_names cs
  form_names (sequence fs) = forms_names fs
  form_names (let_form bs body) = bindings_names bs ++ form_names body
  form_names (lambda required rest body parts) = form_names body
  form_names (call n fs) = n ∷ forms_names fs
  form_names (call_value fs) = forms_names fs
  form_names (apply f g) = form_names f ++ form_names g
  form_names (prim which fs) = forms_names fs
  form_names (while_form f g) = form_names f ++ form_names g
  form_names (block x f) = form_names f
  form_names (return_from x f) = form_names f
  form_names (tagbody x fs) = forms_names fs
  form_names (go x n) = []
  form_names (catch_form f g) = form_names f ++ form_names g
  form_names (throw f g) = form_names f ++ form_names g
  form_names (unwind f g) = form_names f ++ form_names g
  form_names (dynamic_let ds f) = dynamics_names ds ++ form_names f
  form_names (dynamic n) = n ∷ []
  form_names (set_dynamic n f) = n ∷ form_names f
  form_names (def_dynamic n f) = n ∷ form_names f
  form_names (with_handler f g) = form_names f ++ form_names g
  form_names (signal_form f g) = form_names f ++ form_names g
  form_names (continue_form f g) = form_names f ++ form_names g
  form_names next_method = []
  form_names has_next = []
  form_names (sited site f) = form_names f

  pub forms_names : Forms → List ℕ
  forms_names no_form = []
  forms_names (form_and f fs) = form_names f ++ forms_names fs

  pub clauses_names : ClauseForms → List ℕ
  clauses_names no_clause = []
  clauses_names (clause_and f b cs) = form_names f ++ (body_names b ++ clauses_names cs)

  pub body_names : MaybeForm → List ℕ
  body_names no_body = []
  body_names (with_body f) = form_names f

  pub bindings_names : BindingForms → List ℕ
  bindings_names no_binding = []
  bindings_names (binding_and v f bs) = form_names f ++ bindings_names bs

  pub dynamics_names : DynamicForms → List ℕ
  dynamics_names no_dynamic = []
  dynamics_names (dynamic_and n f ds) = n ∷ (form_names f ++ dynamics_names ds)

-- ---- rows

abbrev pub literal_names : LiteralRow → List ℕ
literal_names (row.Datum d) = item_names d
literal_names (row.Class c) = []
literal_names (row.Function n) = n.0 ∷ []

abbrev pub own_name : Option Name → List ℕ
own_name None = []
own_name (Some n) = n.0 ∷ []

abbrev pub procedure_names : Procedure → List ℕ
procedure_names p = own_name p.name ++ form_names p.body

abbrev pub function_names : FunctionRow → List ℕ
function_names f = f.name.0 ∷ []

abbrev pub initarg_names : List Name → List ℕ
initarg_names ns = map (λ (n : Name). n.0) ns

abbrev pub slot_names : SlotRow → List ℕ
slot_names s = s.name.0 ∷ initarg_names s.initargs

abbrev pub class_names : ClassRow → List ℕ
class_names c = c.name.0 ∷ flat_map slot_names c.slots

abbrev pub generic_names : GenericRow → List ℕ
generic_names g = g.name.0 ∷ []

abbrev pub program_names : ProgramRows → List ℕ
program_names p =
    flat_map literal_names p.literals
    ++ (flat_map procedure_names p.procedures
    ++ (flat_map class_names p.classes
    ++ (flat_map generic_names p.generics
    ++ (flat_map function_names p.functions
    ++ flat_map form_names p.main))))
