-- The core forms that are made of what was found of their parts, and what counts once they are made.
use Rattle.std.specs.Prelude.{ℕ, ◌+◌, Bool, true, false, List, [], ◌∷◌, ◌++◌, Option, Some, None, take, drop, length, option_map, if◌then◌else◌}
use Rattle.std.specs.List.{filter, filter_map}
use Rattle.base.specs.declared.datum.Name.{Name}
use Rattle.lang_meaning.specs.declared.capture.Capture.{Capture as Captured}
use Rattle.lang_meaning.specs.declared.program.Procedure.{Procedure}
use Rattle.lang_meaning.specs.declared.program.Callee.{Callee}
use Rattle.lang_meaning.specs.declared.program.Callee.TheVariants as callee
use Rattle.lang_meaning.specs.declared.program.GenericRow.{GenericRow}
use Rattle.lang_meaning.specs.declared.program.Qualifier.TheVariants.{Primary}
use Rattle.lang_meaning.specs.declared.primitive.Primitive.TheVariants.{SlotPlace, SlotRef, SlotSet, SlotBound}
use Rattle.lang_meaning.specs.Form.{Form, literal, local, global, dynamic, go, next_method, has_next, set_local, set_global, def_global, clauses, sequence, let_form, lambda, call, call_value, apply, prim, while_form, block, return_from, tagbody, catch_form, throw, unwind, dynamic_let, set_dynamic, def_dynamic, with_handler, signal_form, continue_form, sited}
use Rattle.lang_meaning.specs.Form.{Forms, no_form, form_and, ClauseForms, no_clause, clause_and, MaybeForm, no_body, with_body}
use Rattle.lang_meaning.specs.Form.{BindingForms, no_binding, binding_and, DynamicForms, no_dynamic, dynamic_and}
use Rattle.lang_meaning.specs.Mentions.{mentions}
use Rattle.lang_meaning.specs.model.View.{forms}
use Rattle.lang_classes.specs.Given.{given}
use Rattle.lang_classes.specs.InheritedClasses.{with_class}
use Rattle.lang_classes.specs.InheritedPrecedence.{object_class}
use Rattle.lang_classes.specs.InheritedSlots.{same_name}
use Rattle.lang_dispatch.specs.Methods.{new_row, with_method}
use Rattle.front_profile.specs.declared.tables.GlobalRow.{GlobalRow}
use Rattle.front_profile.specs.declared.tables.DynamicRow.{DynamicRow}
use Rattle.front_profile.specs.declared.tables.MacroRow.{MacroRow}
use Rattle.front_profile.specs.declared.tables.Tables.{Tables}
use Rattle.front_profile.specs.declared.elaboration.ElaboratedPart.{ElaboratedPart}
use Rattle.front_profile.specs.declared.elaboration.Leaf.{Leaf}
use Rattle.front_profile.specs.declared.elaboration.One.{One}
use Rattle.lang_meaning.specs.declared.kinds.OverTwo.{OverTwo}
use Rattle.front_profile.specs.declared.elaboration.DefinedAs.{DefinedAs}
use Rattle.front_profile.specs.declared.elaboration.DefinedAs.TheVariants.{Function, Macro}
use Rattle.front_profile.specs.declared.elaboration.Elaboration.{Elaboration}
use Rattle.front_profile.specs.declared.elaboration.Made.{Made}
use Rattle.front_profile.specs.declared.elaboration.Accessor.{Accessor}
use Rattle.front_profile.specs.declared.elaboration.Accessor.TheVariants.{Reads, Writes, Asks}
use Rattle.front_profile.specs.declared.elaboration.MethodHead.{MethodHead}
use Rattle.front_profile.specs.declared.elaboration.Taker.{Taker}
use Rattle.front_profile.specs.declared.elaboration.Taker.TheVariants.{New, There}
use Rattle.front_profile.specs.declared.elaboration.SlotFunction.{SlotFunction}
use Rattle.front_profile.specs.declared.elaboration.SlotFunction.TheVariants.{Initform, Method}
use Rattle.front_profile.specs.declared.elaboration.NewClass.{NewClass}
use Rattle.front_profile.specs.declared.elaboration.ElaboratedPart.TheVariants.{Value, Binding, Parameter}
use Rattle.front_profile.specs.declared.elaboration.Leaf.TheVariants.{Literal, Local, Global, Dynamic, Go, NextMethod, HasNext, Nothing}
use Rattle.front_profile.specs.declared.elaboration.One.TheVariants.{SetVariable, SetGlobal, DefineGlobal, SetDynamic, DefineDynamic, ReturnTo}
use Rattle.lang_meaning.specs.declared.kinds.OverTwo.TheVariants.{Apply, While, Catch, Throw, Unwind, WithHandler, Signal, Continue}
use Rattle.front_profile.specs.declared.elaboration.Elaboration.TheVariants.{Ready, OfOne, OfTwo, OfBody, InSequence, CallOf, CallOfValue, CallOfLocal, CallOfPrimitive, OfClauses, OfVariables, OfDynamics, OfFunction, OfBlock, OfSegments, OfFunctionNamed, OfProcedure, OfAccessor, OfMethods, OfClass}

-- forms without a body, where none was found
abbrev pub nothing : Form
nothing = sequence no_form

-- forms that have no parts
abbrev pub leaf_form : Leaf → Form
leaf_form (Literal n) = literal n
leaf_form (Local v) = local v
leaf_form (Global n) = global n.0
leaf_form (Dynamic n) = dynamic n.0
leaf_form (Go x k) = go x k
leaf_form NextMethod = next_method
leaf_form HasNext = has_next
leaf_form Nothing = nothing

-- the forms among what was found, and the variables, in order

abbrev pub form_found : ElaboratedPart → Option Form
form_found (Value f) = Some f
form_found (Binding v f) = None
form_found (Parameter v) = None

abbrev pub variable_found : ElaboratedPart → Option ℕ
variable_found (Parameter v) = Some v
variable_found (Value f) = None
variable_found (Binding v f) = None

abbrev pub forms_found : List ElaboratedPart → List Form
forms_found rs = filter_map form_found rs

abbrev pub variables_found : List ElaboratedPart → List ℕ
variables_found rs = filter_map variable_found rs

-- variables with their values
abbrev pub bindings_found : List ElaboratedPart → BindingForms
bindings_found [] = no_binding
bindings_found (Value f ∷ rs) = bindings_found rs
bindings_found (Binding v f ∷ rs) = binding_and v f (bindings_found rs)
bindings_found (Parameter v ∷ rs) = bindings_found rs

-- every body is one sequence
abbrev pub body_of : List Form → Form
body_of fs = sequence (forms fs)

abbrev pub one_of : One → Form → Form
one_of (SetVariable v) f = set_local v f
one_of (SetGlobal n) f = set_global n.0 f
one_of (DefineGlobal g) f = def_global g.name.0 f
one_of (SetDynamic n) f = set_dynamic n.0 f
one_of (DefineDynamic v) f = def_dynamic v.name.0 f
one_of (ReturnTo x) f = return_from x f

abbrev pub two_of : OverTwo → Form → Form → Form
two_of Apply f g = apply f g
two_of While f g = while_form f g
two_of Catch f g = catch_form f g
two_of Throw f g = throw f g
two_of Unwind f g = unwind f g
two_of WithHandler f g = with_handler f g
two_of Signal f g = signal_form f g
two_of Continue f g = continue_form f g

abbrev pub make_one : One → List Form → Form
make_one k [] = nothing
make_one k (f ∷ fs) = one_of k f

abbrev pub make_two : OverTwo → List Form → Form
make_two k [] = nothing
make_two k (f ∷ []) = nothing
make_two k (f ∷ g ∷ fs) = two_of k f g

abbrev pub make_with_body : OverTwo → List Form → Form
make_with_body k [] = nothing
make_with_body k (f ∷ fs) = two_of k f (body_of fs)

-- clauses: for each a test, and a body of so many forms or none
abbrev pub clause_body : Option ℕ → List Form → MaybeForm
clause_body None fs = no_body
clause_body (Some n) fs = with_body (body_of (take n fs))

abbrev pub behind_clause : Option ℕ → List Form → List Form
behind_clause None fs = fs
behind_clause (Some n) fs = drop n fs

abbrev pub make_clauses : List (Option ℕ) → List Form → ClauseForms
make_clauses [] fs = no_clause
make_clauses (n ∷ ns) [] = no_clause
make_clauses (n ∷ ns) (f ∷ fs) = clause_and f (clause_body n fs) (make_clauses ns (behind_clause n fs))

abbrev pub make_segments : List ℕ → List Form → Forms
make_segments [] fs = no_form
make_segments (n ∷ ns) fs = form_and (body_of (take n fs)) (make_segments ns (drop n fs))

-- dynamic variables with their values, and the forms behind these
abbrev pub make_dynamics : List Name → List Form → DynamicForms
make_dynamics [] fs = no_dynamic
make_dynamics (n ∷ ns) [] = no_dynamic
make_dynamics (n ∷ ns) (f ∷ fs) = dynamic_and n.0 f (make_dynamics ns fs)

abbrev pub behind_dynamics : List Name → List Form → List Form
behind_dynamics [] fs = fs
behind_dynamics (n ∷ ns) [] = []
behind_dynamics (n ∷ ns) (f ∷ fs) = behind_dynamics ns fs

-- the rest variable stands behind the required ones
abbrev pub rest_found : Bool → List ℕ → Option ℕ
rest_found false vs = None
rest_found true [] = None
rest_found true (v ∷ vs) = Some v

-- a function captures the parts around it that its body mentions
abbrev pub make_function : ℕ → Bool → List Captured → List ℕ → Form → Form
make_function n rest parts vs body =
    lambda (take n vs) (rest_found rest (drop n vs)) body (filter (λ p. mentions p body) parts)

abbrev pub elaborate : Elaboration → List ElaboratedPart → Form
elaborate (Ready l) rs = leaf_form l
elaborate (OfOne k) rs = make_one k (forms_found rs)
elaborate (OfTwo k) rs = make_two k (forms_found rs)
elaborate (OfBody k) rs = make_with_body k (forms_found rs)
elaborate InSequence rs = sequence (forms (forms_found rs))
elaborate (CallOf n) rs = call n.0 (forms (forms_found rs))
elaborate CallOfValue rs = call_value (forms (forms_found rs))
elaborate (CallOfLocal v) rs = call_value (form_and (local v) (forms (forms_found rs)))
elaborate (CallOfPrimitive p) rs = prim p (forms (forms_found rs))
elaborate (OfClauses ns) rs = clauses (make_clauses ns (forms_found rs))
elaborate OfVariables rs = let_form (bindings_found rs) (body_of (forms_found rs))
elaborate (OfDynamics ns) rs = dynamic_let (make_dynamics ns (forms_found rs)) (body_of (behind_dynamics ns (forms_found rs)))
elaborate (OfFunction n rest parts) rs = make_function n rest parts (variables_found rs) (body_of (forms_found rs))
elaborate (OfBlock x) rs = block x (body_of (forms_found rs))
elaborate (OfSegments x ns) rs = tagbody x (make_segments ns (forms_found rs))
elaborate (OfFunctionNamed k name n rest of_file l) rs = leaf_form l
elaborate (OfProcedure name n rest) rs = nothing
elaborate (OfAccessor name k v l) rs = nothing
elaborate (OfMethods t hs p of_file l) rs = leaf_form l
elaborate (OfClass c p of_file l) rs = leaf_form l

abbrev pub at_site : Option ℕ → Form → Form
at_site None f = f
at_site (Some site) f = sited site f

abbrev pub made_form : Made → List ElaboratedPart → Form
made_form m rs = at_site m.site (elaborate m.making rs)

-- what counts for the forms that come after

abbrev pub with_global : GlobalRow → Tables → Tables
with_global g s = record s { globals = s.globals ++ g ∷ [] }

abbrev pub with_dynamic : DynamicRow → Tables → Tables
with_dynamic v s = record s { dynamics = s.dynamics ++ v ∷ [] }

-- a function or a macro of the prelude is one that no definition of the file may name
abbrev pub prelude_with : Bool → Name → List Name → List Name
prelude_with true n ns = ns
prelude_with false n ns = ns ++ n ∷ []

-- no definition stands inside another, so the procedure takes the next number when its body was judged
abbrev pub with_procedure : Procedure → Tables → Tables
with_procedure p s = record s { procedures = s.procedures ++ p ∷ [] }

abbrev pub with_callee : Name → Callee → Bool → Tables → Tables
with_callee name c of_file s = record s {
  functions = s.functions ++ (record { name = name; callee = c }) ∷ [];
  prelude = prelude_with of_file name s.prelude;
}

abbrev pub with_macro : MacroRow → Bool → Tables → Tables
with_macro m of_file s = record s {
  macros = s.macros ++ m ∷ [];
  prelude = prelude_with of_file m.name s.prelude;
}

-- the procedure of that number is that of the function, or of the macro, of that name
abbrev pub with_name_of : DefinedAs → Name → (procedure : ℕ) → Bool → Tables → Tables
with_name_of Function name i of_file s = with_callee name (callee.Procedure i) of_file s
with_name_of Macro name i of_file s = with_macro (record { name = name; procedure = i }) of_file s

abbrev pub with_defined : DefinedAs → Name → Procedure → Bool → Tables → Tables
with_defined k name p of_file s = with_name_of k name (length s.procedures) of_file (with_procedure p s)

abbrev pub procedure_found : Option Name → ℕ → Bool → List ElaboratedPart → Procedure
procedure_found name n rest rs = record {
  name = name;
  required = take n (variables_found rs);
  rest = rest_found rest (drop n (variables_found rs));
  body = body_of (forms_found rs);
}

-- the procedure of a slot's method, whose variables are numbered from v on: `(%slot-ref x (%slot-place x 's))` of a reader,
-- `(%slot-set v x (%slot-place x 's))` of a writer, `(%slot-bound x (%slot-place x 's))` of a `:boundp`
abbrev pub two_forms : Form → Form → Forms
two_forms f g = form_and f (form_and g no_form)

abbrev pub place_form : (instance name : ℕ) → Form
place_form x l = prim SlotPlace (two_forms (local x) (literal l))

abbrev pub accessor_form : Accessor → ℕ → ℕ → Form
accessor_form Reads v l = prim SlotRef (two_forms (local v) (place_form v l))
accessor_form Writes v l = prim SlotSet (form_and (local v) (two_forms (local (v + 1)) (place_form (v + 1) l)))
accessor_form Asks v l = prim SlotBound (two_forms (local v) (place_form v l))

abbrev pub accessor_variables : Accessor → ℕ → List ℕ
accessor_variables Reads v = v ∷ []
accessor_variables Writes v = v ∷ (v + 1) ∷ []
accessor_variables Asks v = v ∷ []

abbrev pub accessor_procedure : Name → Accessor → ℕ → ℕ → Procedure
accessor_procedure name k v l = record {
  name = Some name;
  required = accessor_variables k v;
  rest = None;
  body = sequence (form_and (accessor_form k v l) no_form);
}

-- generic functions (ISO/IEC 13816:2007, 15.3): a new one without methods, and methods with these heads, whose procedures are numbered
-- from one on

abbrev pub with_generic : Name → ℕ → Bool → Bool → Tables → Tables
with_generic n required rest of_file s =
    with_callee n (callee.Generic (length s.generics)) of_file (record s { generics = s.generics ++ new_row n required rest ∷ [] })

abbrev pub with_method_at : ℕ → MethodHead → ℕ → Tables → Tables
with_method_at g h p s = record s {
  generics = with_method s.generics g (record { qualifier = h.qualifier; classes = h.classes; procedure = p });
}

abbrev pub with_methods : ℕ → List MethodHead → ℕ → Tables → Tables
with_methods g [] p s = s
with_methods g (h ∷ hs) p s = with_methods g hs (p + 1) (with_method_at g h p s)

abbrev pub finish_methods : Taker → List MethodHead → ℕ → Bool → Tables → Tables
finish_methods (New n required rest) hs p of_file s =
    with_methods (length s.generics) hs p (with_generic n required rest of_file s)
finish_methods (There g) hs p of_file s = with_methods g hs p s

-- a class (ISO/IEC 13816:2007, 15.1), then for each of its functions that is a method: the generic function, where none is there, and
-- the method, which takes an instance of the class, a writer's behind the new value

-- the number of the generic function of a name
abbrev pub generic_named : List GenericRow → Name → Option ℕ
generic_named [] n = None
generic_named (g ∷ gs) n = if same_name n g.name then Some 0 else option_map (λ i. i + 1) (generic_named gs n)

abbrev pub arguments_of : Accessor → ℕ
arguments_of k = length (accessor_variables k 0)

abbrev pub classes_of : Accessor → ℕ → List ℕ
classes_of Reads c = c ∷ []
classes_of Writes c = object_class ∷ c ∷ []
classes_of Asks c = c ∷ []

abbrev pub accessor_head : Accessor → ℕ → MethodHead
accessor_head k c = record { qualifier = Primary; classes = classes_of k c }

abbrev pub with_accessor_in : Option ℕ → Name → Accessor → ℕ → ℕ → Bool → Tables → Tables
with_accessor_in (Some g) n k c p of_file s = with_method_at g (accessor_head k c) p s
with_accessor_in None n k c p of_file s =
    with_method_at (length s.generics) (accessor_head k c) p (with_generic n (arguments_of k) false of_file s)

abbrev pub with_slot_function : SlotFunction → ℕ → ℕ → Bool → Tables → Tables
with_slot_function Initform c p of_file s = s
with_slot_function (Method n k) c p of_file s = with_accessor_in (generic_named s.generics n) n k c p of_file s

abbrev pub with_slot_functions : List SlotFunction → ℕ → ℕ → Bool → Tables → Tables
with_slot_functions [] c p of_file s = s
with_slot_functions (x ∷ xs) c p of_file s =
    with_slot_functions xs c (p + 1) of_file (with_slot_function x c p of_file s)

-- a class of the prelude is one that no definition of the file may name
abbrev pub prelude_count : Bool → ℕ → ℕ → ℕ
prelude_count true before now = before
prelude_count false before now = now

abbrev pub with_new_class : NewClass → Bool → Tables → Tables
with_new_class c of_file s = record s {
  classes = with_class s.classes c.name c.supers (given c.slots) c.abstract_class;
  prelude_classes = prelude_count of_file s.prelude_classes (length s.classes.rows + 1);
}

abbrev pub finish_class : NewClass → ℕ → Bool → Tables → Tables
finish_class c p of_file s =
    with_slot_functions c.functions (length s.classes.rows) p of_file (with_new_class c of_file s)

abbrev pub finish_one : One → Tables → Tables
finish_one (DefineGlobal g) s = with_global g s
finish_one (DefineDynamic v) s = with_dynamic v s
finish_one (SetVariable v) s = s
finish_one (SetGlobal n) s = s
finish_one (SetDynamic n) s = s
finish_one (ReturnTo x) s = s

abbrev pub finish : Elaboration → List ElaboratedPart → Tables → Tables
finish (OfOne k) rs s = finish_one k s
finish (OfFunctionNamed k name n rest of_file l) rs s = with_defined k name (procedure_found (Some name) n rest rs) of_file s
finish (OfProcedure name n rest) rs s = with_procedure (procedure_found name n rest rs) s
finish (OfAccessor name k v l) rs s = with_procedure (accessor_procedure name k v l) s
finish (OfMethods t hs p of_file l) rs s = finish_methods t hs p of_file s
finish (OfClass c p of_file l) rs s = finish_class c p of_file s
finish m rs s = s

abbrev pub finished : Made → List ElaboratedPart → Tables → Tables
finished m rs s = finish m.making rs s
