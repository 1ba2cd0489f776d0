-- Names under other numbers: data, core forms, tables and programs in which each name has the number that a renaming gives it.
use Rattle.std.specs.Prelude.{◌≡◌, ℕ, List, map, option_map}
use Rattle.base.specs.declared.datum.Name.{Name}
use Rattle.base.specs.declared.datum.Symbol.{Symbol}
use Rattle.base.specs.declared.datum.Symbol.TheVariants.{Named, Fresh}
use Rattle.base.specs.Data.{Item, item, Content, integer, character, symbol, string, vector, nil, list, Items, no_item, item_and, Tail, no_tail, dotted}
use Rattle.lang_meaning.specs.declared.program.LiteralRow.{LiteralRow}
use Rattle.lang_meaning.specs.declared.program.LiteralRow.TheVariants as row
use Rattle.lang_meaning.specs.declared.program.Procedure.{Procedure}
use Rattle.lang_meaning.specs.declared.program.FunctionRow.{FunctionRow}
use Rattle.lang_meaning.specs.declared.program.SlotRow.{SlotRow}
use Rattle.lang_meaning.specs.declared.program.ClassRow.{ClassRow}
use Rattle.lang_meaning.specs.declared.program.GenericRow.{GenericRow}
use Rattle.lang_meaning.specs.declared.program.ProgramRows.{ProgramRows}
use Rattle.lang_meaning.specs.Lookup.{text}
use Rattle.lang_meaning.specs.Form.{Form, literal, local, set_local, global, set_global, def_global, clauses, sequence, let_form, lambda, call, call_value, apply, prim, while_form, block, return_from, tagbody, go, catch_form, throw, unwind, dynamic_let, dynamic, set_dynamic, def_dynamic, with_handler, signal_form, continue_form, next_method, has_next, sited}
use Rattle.lang_meaning.specs.Form.{Forms, no_form, form_and, ClauseForms, no_clause, clause_and, MaybeForm, no_body, with_body, BindingForms, no_binding, binding_and, DynamicForms, no_dynamic, dynamic_and}

-- each name has its text under its new number
abbrev pub KeepsTexts : (r : ℕ → ℕ) (old new : List (List ℕ)) → Type 0
KeepsTexts r old new = (n : ℕ) → text new (r n) ≡ text old n

module _ (r : ℕ → ℕ) where
  -- ---- data

  abbrev pub name_by : Name → Name
  name_by n = record { 0 = r n.0 }

  abbrev pub names_by : List Name → List Name
  names_by ns = map name_by ns

  abbrev pub symbol_by : Symbol → Symbol
  symbol_by (Named n) = Named (name_by n)
  symbol_by (Fresh e s) = Fresh e s

  abbrev mutual
    pub item_by : Item → Item
    item_by (item p c) = item p (content_by c)

    pub content_by : Content → Content
    content_by (integer n) = integer n
    content_by (character c) = character c
    content_by (symbol x) = symbol (symbol_by x)
    content_by (string bytes) = string bytes
    content_by (vector ds) = vector (items_by ds)
    content_by nil = nil
    content_by (list ds t) = list (items_by ds) (tail_by t)

    pub items_by : Items → Items
    items_by no_item = no_item
    items_by (item_and d ds) = item_and (item_by d) (items_by ds)

    pub tail_by : Tail → Tail
    tail_by no_tail = no_tail
    tail_by (dotted d) = dotted (item_by d)

  -- ---- core forms

  abbrev mutual
    pub form_by : Form → Form
    form_by (literal i) = literal i
    form_by (local v) = local v
    form_by (set_local v f) = set_local v (form_by f)
    form_by (global n) = global (r n)
    form_by (set_global n f) = set_global (r n) (form_by f)
    form_by (def_global n f) = def_global (r n) (form_by f)
    form_by (clauses cs) = clauses (clauses_by cs)
    form_by (sequence fs) = sequence (forms_by fs)
    form_by (let_form bs body) = let_form (bindings_by bs) (form_by body)
    form_by (lambda required rest body parts) = lambda required rest (form_by body) parts
    form_by (call n fs) = call (r n) (forms_by fs)
    form_by (call_value fs) = call_value (forms_by fs)
    form_by (apply f g) = apply (form_by f) (form_by g)
    form_by (prim which fs) = prim which (forms_by fs)
    form_by (while_form f g) = while_form (form_by f) (form_by g)
    form_by (block x f) = block x (form_by f)
    form_by (return_from x f) = return_from x (form_by f)
    form_by (tagbody x fs) = tagbody x (forms_by fs)
    form_by (go x n) = go x n
    form_by (catch_form f g) = catch_form (form_by f) (form_by g)
    form_by (throw f g) = throw (form_by f) (form_by g)
    form_by (unwind f g) = unwind (form_by f) (form_by g)
    form_by (dynamic_let ds f) = dynamic_let (dynamics_by ds) (form_by f)
    form_by (dynamic n) = dynamic (r n)
    form_by (set_dynamic n f) = set_dynamic (r n) (form_by f)
    form_by (def_dynamic n f) = def_dynamic (r n) (form_by f)
    form_by (with_handler f g) = with_handler (form_by f) (form_by g)
    form_by (signal_form f g) = signal_form (form_by f) (form_by g)
    form_by (continue_form f g) = continue_form (form_by f) (form_by g)
    form_by next_method = next_method
    form_by has_next = has_next
    form_by (sited site f) = sited site (form_by f)

    pub forms_by : Forms → Forms
    forms_by no_form = no_form
    forms_by (form_and f fs) = form_and (form_by f) (forms_by fs)

    pub clauses_by : ClauseForms → ClauseForms
    clauses_by no_clause = no_clause
    clauses_by (clause_and f b cs) = clause_and (form_by f) (body_by b) (clauses_by cs)

    pub body_by : MaybeForm → MaybeForm
    body_by no_body = no_body
    body_by (with_body f) = with_body (form_by f)

    pub bindings_by : BindingForms → BindingForms
    bindings_by no_binding = no_binding
    bindings_by (binding_and v f bs) = binding_and v (form_by f) (bindings_by bs)

    pub dynamics_by : DynamicForms → DynamicForms
    dynamics_by no_dynamic = no_dynamic
    dynamics_by (dynamic_and n f ds) = dynamic_and (r n) (form_by f) (dynamics_by ds)

  -- ---- rows of programs

  abbrev pub literal_by : LiteralRow → LiteralRow
  literal_by (row.Datum d) = row.Datum (item_by d)
  literal_by (row.Class c) = row.Class c
  literal_by (row.Function n) = row.Function (name_by n)

  abbrev pub procedure_by : Procedure → Procedure
  procedure_by p = record { name = option_map name_by p.name; required = p.required; rest = p.rest; body = form_by p.body }

  abbrev pub function_by : FunctionRow → FunctionRow
  function_by f = record { name = name_by f.name; callee = f.callee }

  abbrev pub slot_by : SlotRow → SlotRow
  slot_by s = record { name = name_by s.name; initargs = names_by s.initargs; initform = s.initform }

  abbrev pub slots_by : List SlotRow → List SlotRow
  slots_by ss = map slot_by ss

  abbrev pub class_by : ClassRow → ClassRow
  class_by c = record { name = name_by c.name; precedence = c.precedence; slots = slots_by c.slots; abstract_class = c.abstract_class }

  abbrev pub generic_by : GenericRow → GenericRow
  generic_by g = record { name = name_by g.name; required = g.required; rest = g.rest; methods = g.methods }

  abbrev pub program_by : ProgramRows → ProgramRows
  program_by p = record {
    literals = map literal_by p.literals;
    procedures = map procedure_by p.procedures;
    classes = map class_by p.classes;
    generics = map generic_by p.generics;
    functions = map function_by p.functions;
    main = map form_by p.main;
    sites = p.sites;
  }
