-- Core forms that are made of renamed parts, and the tables behind them.
use Rattle.std.specs.Prelude.{◌≡◌, ℕ, zero, suc, ◌+◌, Bool, true, false, List, [], ◌∷◌, ◌++◌, Option, Some, None, length, take, drop, map, filter, option_map, refl}
use Rattle.std.proofs.Common.{ap, sym, ◌∙◌}
use Rattle.std.proofs.lemmas.List.{map-append}
use mathlib.Core.Path.{fun_ext}
use Rattle.base.specs.declared.datum.Name.{Name}
use Rattle.lang_meaning.specs.declared.capture.Capture.{Capture}
use Rattle.lang_meaning.specs.declared.kinds.OverTwo.{OverTwo}
use Rattle.lang_meaning.specs.declared.kinds.OverTwo.TheVariants.{Apply, While, Catch, Throw, Unwind, WithHandler, Signal, Continue}
use Rattle.lang_meaning.specs.declared.program.Callee.{Callee}
use Rattle.lang_meaning.specs.declared.program.Callee.TheVariants as callee
use Rattle.lang_meaning.specs.declared.program.FunctionRow.{FunctionRow}
use Rattle.lang_meaning.specs.declared.program.GenericRow.{GenericRow}
use Rattle.lang_meaning.specs.declared.program.MethodRow.{MethodRow}
use Rattle.lang_meaning.specs.declared.program.Procedure.{Procedure}
use Rattle.lang_meaning.specs.Form.{Form, local, clauses, sequence, let_form, lambda, call, call_value, prim, block, tagbody, dynamic_let}
use Rattle.lang_meaning.specs.Form.{form_and, clause_and, with_body, binding_and, dynamic_and}
use Rattle.lang_meaning.specs.model.View.{forms}
use Rattle.lang_classes.specs.Given.{given}
use Rattle.lang_classes.specs.InheritedClasses.{with_class}
use Rattle.lang_dispatch.specs.Methods.{new_row, with_method}
use Rattle.front_profile.specs.declared.tables.Tables.{Tables}
use Rattle.front_profile.specs.declared.tables.GlobalRow.{GlobalRow}
use Rattle.front_profile.specs.declared.tables.DynamicRow.{DynamicRow}
use Rattle.front_profile.specs.declared.tables.MacroRow.{MacroRow}
use Rattle.front_profile.specs.declared.elaboration.DefinedAs.{DefinedAs}
use Rattle.front_profile.specs.declared.elaboration.DefinedAs.TheVariants.{Function, Macro}
use Rattle.front_profile.specs.declared.elaboration.ElaboratedPart.{ElaboratedPart}
use Rattle.front_profile.specs.declared.elaboration.ElaboratedPart.TheVariants.{Value, Binding, Parameter}
use Rattle.front_profile.specs.declared.elaboration.Leaf.{Leaf}
use Rattle.front_profile.specs.declared.elaboration.Leaf.TheVariants as leaf
use Rattle.front_profile.specs.declared.elaboration.One.{One}
use Rattle.front_profile.specs.declared.elaboration.One.TheVariants.{SetVariable, SetGlobal, DefineGlobal, SetDynamic, DefineDynamic, ReturnTo}
use Rattle.front_profile.specs.declared.elaboration.Accessor.{Accessor}
use Rattle.front_profile.specs.declared.elaboration.Accessor.TheVariants.{Reads, Writes, Asks}
use Rattle.front_profile.specs.declared.elaboration.MethodHead.{MethodHead}
use Rattle.front_profile.specs.declared.elaboration.Taker.{Taker}
use Rattle.front_profile.specs.declared.elaboration.Taker.TheVariants.{New, There}
use Rattle.front_profile.specs.declared.elaboration.SlotFunction.{SlotFunction}
use Rattle.front_profile.specs.declared.elaboration.SlotFunction.TheVariants.{Initform, Method}
use Rattle.front_profile.specs.declared.elaboration.NewClass.{NewClass}
use Rattle.front_profile.specs.declared.elaboration.Elaboration.{Elaboration}
use Rattle.front_profile.specs.declared.elaboration.Elaboration.TheVariants.{Ready, OfOne, OfTwo, OfBody, InSequence, CallOf, CallOfValue, CallOfLocal, CallOfPrimitive, OfClauses, OfVariables, OfDynamics, OfFunction, OfBlock, OfSegments, OfFunctionNamed, OfProcedure, OfAccessor, OfMethods, OfClass}
use Rattle.front_profile.specs.declared.elaboration.Made.{Made}
use Rattle.front_profile.specs.Elaborations.{leaf_form, form_found, variable_found, forms_found, variables_found, bindings_found, body_of, one_of, two_of, make_one, make_two, make_with_body, clause_body, behind_clause, make_clauses, make_segments, make_dynamics, behind_dynamics, rest_found, make_function, elaborate, at_site, made_form, prelude_with, with_procedure, with_callee, with_macro, with_name_of, with_defined, procedure_found, accessor_procedure, with_generic, with_method_at, with_methods, finish_methods, generic_named, accessor_head, arguments_of, with_accessor_in, with_slot_function, with_slot_functions, prelude_count, with_new_class, finish_class, finish_one, finish, finished}
use Rattle.lang_renamed.specs.Renaming.{name_by, names_by, form_by, forms_by, clauses_by, body_by, bindings_by, dynamics_by, procedure_by, function_by, class_by, generic_by}
use Rattle.front_laws.specs.Renaming.{Renames}
use Rattle.front_laws.proofs.RenamedTables.{hierarchy_by, global_by, dynamic_by, macro_by, tables_by, leaf_by, one_by, taker_by, slot_function_by, new_class_by, making_by, made_by, found_by}
use Rattle.lang_renamed.proofs.Walks.{mentions_by}
use Rattle.lang_renamed.proofs.Lists.{both, length_by, take_by, drop_by, chosen_by}
use Rattle.front_laws.proofs.RenamedTexts.{FindsNames}
use Rattle.front_laws.proofs.RenamedShapes.{chosen_same}
use Rattle.front_laws.proofs.RenamedMethods.{generic_of_name}
use Rattle.front_laws.proofs.RenamedHierarchies.{given_specs_by, with_class_by}

module _ (r : ℕ → ℕ) where
  -- ---- what was found

  form_found_by : (x : ElaboratedPart) → form_found (found_by r x) ≡ option_map (form_by r) (form_found x)
  form_found_by (Value f) = refl
  form_found_by (Binding v f) = refl
  form_found_by (Parameter v) = refl

  variable_found_by : (x : ElaboratedPart) → variable_found (found_by r x) ≡ variable_found x
  variable_found_by (Value f) = refl
  variable_found_by (Binding v f) = refl
  variable_found_by (Parameter v) = refl

  forms_found_by : (xs : List ElaboratedPart) → forms_found (map (found_by r) xs) ≡ map (form_by r) (forms_found xs)
  forms_found_by xs = chosen_by (found_by r) (form_by r) form_found form_found form_found_by xs

  variables_found_by : (xs : List ElaboratedPart) → variables_found (map (found_by r) xs) ≡ variables_found xs
  variables_found_by xs = chosen_same (found_by r) variable_found variable_found variable_found_by xs

  bindings_found_by : (xs : List ElaboratedPart) → bindings_found (map (found_by r) xs) ≡ bindings_by r (bindings_found xs)
  bindings_found_by [] = refl
  bindings_found_by (Value f ∷ xs) = bindings_found_by xs
  bindings_found_by (Binding v f ∷ xs) = ap (λ bs. binding_and v (form_by r f) bs) (bindings_found_by xs)
  bindings_found_by (Parameter v ∷ xs) = bindings_found_by xs

  forms_of_by : (fs : List Form) → forms (map (form_by r) fs) ≡ forms_by r (forms fs)
  forms_of_by [] = refl
  forms_of_by (f ∷ fs) = ap (λ gs. form_and (form_by r f) gs) (forms_of_by fs)

  body_of_by : (fs : List Form) → body_of (map (form_by r) fs) ≡ form_by r (body_of fs)
  body_of_by fs = ap (λ gs. sequence gs) (forms_of_by fs)

  -- ---- forms

  leaf_form_by : (l : Leaf) → leaf_form (leaf_by r l) ≡ form_by r (leaf_form l)
  leaf_form_by (leaf.Literal n) = refl
  leaf_form_by (leaf.Local v) = refl
  leaf_form_by (leaf.Global n) = refl
  leaf_form_by (leaf.Dynamic n) = refl
  leaf_form_by (leaf.Go x n) = refl
  leaf_form_by leaf.NextMethod = refl
  leaf_form_by leaf.HasNext = refl
  leaf_form_by leaf.Nothing = refl

  one_of_by : (k : One) (f : Form) → one_of (one_by r k) (form_by r f) ≡ form_by r (one_of k f)
  one_of_by (SetVariable v) f = refl
  one_of_by (SetGlobal n) f = refl
  one_of_by (DefineGlobal g) f = refl
  one_of_by (SetDynamic n) f = refl
  one_of_by (DefineDynamic v) f = refl
  one_of_by (ReturnTo x) f = refl

  two_of_by : (k : OverTwo) (f g : Form) → two_of k (form_by r f) (form_by r g) ≡ form_by r (two_of k f g)
  two_of_by Apply f g = refl
  two_of_by While f g = refl
  two_of_by Catch f g = refl
  two_of_by Throw f g = refl
  two_of_by Unwind f g = refl
  two_of_by WithHandler f g = refl
  two_of_by Signal f g = refl
  two_of_by Continue f g = refl

  make_one_by : (k : One) (fs : List Form) → make_one (one_by r k) (map (form_by r) fs) ≡ form_by r (make_one k fs)
  make_one_by k [] = refl
  make_one_by k (f ∷ fs) = one_of_by k f

  make_two_by : (k : OverTwo) (fs : List Form) → make_two k (map (form_by r) fs) ≡ form_by r (make_two k fs)
  make_two_by k [] = refl
  make_two_by k (f ∷ []) = refl
  make_two_by k (f ∷ g ∷ fs) = two_of_by k f g

  with_body_by : (k : OverTwo) (fs : List Form) → make_with_body k (map (form_by r) fs) ≡ form_by r (make_with_body k fs)
  with_body_by k [] = refl
  with_body_by k (f ∷ fs) = ap (two_of k (form_by r f)) (body_of_by fs) ∙ two_of_by k f (body_of fs)

  clause_body_by : (n : Option ℕ) (fs : List Form) → clause_body n (map (form_by r) fs) ≡ body_by r (clause_body n fs)
  clause_body_by None fs = refl
  clause_body_by (Some n) fs = ap (λ f. with_body f) (ap body_of (take_by (form_by r) n fs) ∙ body_of_by (take n fs))

  behind_clause_by : (n : Option ℕ) (fs : List Form) → behind_clause n (map (form_by r) fs) ≡ map (form_by r) (behind_clause n fs)
  behind_clause_by None fs = refl
  behind_clause_by (Some n) fs = drop_by (form_by r) n fs

  make_clauses_by : (ns : List (Option ℕ)) (fs : List Form) → make_clauses ns (map (form_by r) fs) ≡ clauses_by r (make_clauses ns fs)
  make_clauses_by [] fs = refl
  make_clauses_by (n ∷ ns) [] = refl
  make_clauses_by (n ∷ ns) (f ∷ fs) =
      both (λ b cs. clause_and (form_by r f) b cs) _ _ _ _ (clause_body_by n fs) (ap (make_clauses ns) (behind_clause_by n fs) ∙ make_clauses_by ns (behind_clause n fs))

  make_segments_by : (ns : List ℕ) (fs : List Form) → make_segments ns (map (form_by r) fs) ≡ forms_by r (make_segments ns fs)
  make_segments_by [] fs = refl
  make_segments_by (n ∷ ns) fs =
      both (λ g gs. form_and g gs) _ _ _ _ (ap body_of (take_by (form_by r) n fs) ∙ body_of_by (take n fs)) (ap (make_segments ns) (drop_by (form_by r) n fs) ∙ make_segments_by ns (drop n fs))

  make_dynamics_by : (ns : List Name) (fs : List Form) → make_dynamics (names_by r ns) (map (form_by r) fs) ≡ dynamics_by r (make_dynamics ns fs)
  make_dynamics_by [] fs = refl
  make_dynamics_by (n ∷ ns) [] = refl
  make_dynamics_by (n ∷ ns) (f ∷ fs) = ap (λ ds. dynamic_and (r n.0) (form_by r f) ds) (make_dynamics_by ns fs)

  behind_dynamics_by : (ns : List Name) (fs : List Form) → behind_dynamics (names_by r ns) (map (form_by r) fs) ≡ map (form_by r) (behind_dynamics ns fs)
  behind_dynamics_by [] fs = refl
  behind_dynamics_by (n ∷ ns) [] = refl
  behind_dynamics_by (n ∷ ns) (f ∷ fs) = behind_dynamics_by ns fs

  function_made_by : (n : ℕ) (rest : Bool) (ps : List Capture) (vs : List ℕ) (f : Form) → make_function n rest ps vs (form_by r f) ≡ form_by r (make_function n rest ps vs f)
  function_made_by n rest ps vs f =
      ap (λ (t : Capture → Bool). lambda (take n vs) (rest_found rest (drop n vs)) (form_by r f) (filter t ps)) (fun_ext (mentions_by r f))

  elaborate_by : (m : Elaboration) (xs : List ElaboratedPart) → elaborate (making_by r m) (map (found_by r) xs) ≡ form_by r (elaborate m xs)
  elaborate_by (Ready l) xs = leaf_form_by l
  elaborate_by (OfOne k) xs = ap (make_one (one_by r k)) (forms_found_by xs) ∙ make_one_by k (forms_found xs)
  elaborate_by (OfTwo k) xs = ap (make_two k) (forms_found_by xs) ∙ make_two_by k (forms_found xs)
  elaborate_by (OfBody k) xs = ap (make_with_body k) (forms_found_by xs) ∙ with_body_by k (forms_found xs)
  elaborate_by InSequence xs = ap body_of (forms_found_by xs) ∙ body_of_by (forms_found xs)
  elaborate_by (CallOf n) xs = ap (λ fs. call (r n.0) fs) (ap (λ fs. forms fs) (forms_found_by xs) ∙ forms_of_by (forms_found xs))
  elaborate_by CallOfValue xs = ap (λ fs. call_value fs) (ap (λ fs. forms fs) (forms_found_by xs) ∙ forms_of_by (forms_found xs))
  elaborate_by (CallOfLocal v) xs = ap (λ fs. call_value (form_and (local v) fs)) (ap (λ fs. forms fs) (forms_found_by xs) ∙ forms_of_by (forms_found xs))
  elaborate_by (CallOfPrimitive p) xs = ap (λ fs. prim p fs) (ap (λ fs. forms fs) (forms_found_by xs) ∙ forms_of_by (forms_found xs))
  elaborate_by (OfClauses ns) xs = ap (λ cs. clauses cs) (ap (make_clauses ns) (forms_found_by xs) ∙ make_clauses_by ns (forms_found xs))
  elaborate_by OfVariables xs = both (λ bs f. let_form bs f) _ _ _ _ (bindings_found_by xs) (ap body_of (forms_found_by xs) ∙ body_of_by (forms_found xs))
  elaborate_by (OfDynamics ns) xs =
      both (λ ds f. dynamic_let ds f) _ _ _ _ (ap (make_dynamics (names_by r ns)) (forms_found_by xs) ∙ make_dynamics_by ns (forms_found xs))
      (ap body_of (ap (behind_dynamics (names_by r ns)) (forms_found_by xs) ∙ behind_dynamics_by ns (forms_found xs)) ∙ body_of_by (behind_dynamics ns (forms_found xs)))
  elaborate_by (OfFunction n rest ps) xs =
      both (make_function n rest ps) _ _ _ _ (variables_found_by xs) (ap body_of (forms_found_by xs) ∙ body_of_by (forms_found xs))
      ∙ function_made_by n rest ps (variables_found xs) (body_of (forms_found xs))
  elaborate_by (OfBlock x) xs = ap (λ f. block x f) (ap body_of (forms_found_by xs) ∙ body_of_by (forms_found xs))
  elaborate_by (OfSegments x ns) xs = ap (λ fs. tagbody x fs) (ap (make_segments ns) (forms_found_by xs) ∙ make_segments_by ns (forms_found xs))
  elaborate_by (OfFunctionNamed k name n rest of_file l) xs = leaf_form_by l
  elaborate_by (OfProcedure name n rest) xs = refl
  elaborate_by (OfAccessor name k v l) xs = refl
  elaborate_by (OfMethods t hs p of_file l) xs = leaf_form_by l
  elaborate_by (OfClass c p of_file l) xs = leaf_form_by l

  at_site_by : (site : Option ℕ) (f : Form) → at_site site (form_by r f) ≡ form_by r (at_site site f)
  at_site_by None f = refl
  at_site_by (Some n) f = refl

  pub made_form_by : (m : Made) (xs : List ElaboratedPart) → made_form (made_by r m) (map (found_by r) xs) ≡ form_by r (made_form m xs)
  made_form_by m xs = ap (at_site m.site) (elaborate_by m.making xs) ∙ at_site_by m.site (elaborate m.making xs)

  -- ---- what counts for the forms behind

  with_procedure_by : (p : Procedure) (s : Tables) → with_procedure (procedure_by r p) (tables_by r s) ≡ tables_by r (with_procedure p s)
  with_procedure_by p s = ap (λ (ps : List Procedure). record (tables_by r s) { procedures = ps }) (sym (map-append (procedure_by r) s.procedures (p ∷ [])))

  prelude_with_by : (b : Bool) (n : Name) (ns : List Name) → prelude_with b (name_by r n) (names_by r ns) ≡ names_by r (prelude_with b n ns)
  prelude_with_by true n ns = refl
  prelude_with_by false n ns = sym (map-append (name_by r) ns (n ∷ []))

  with_callee_by : (n : Name) (c : Callee) (of_file : Bool) (s : Tables) → with_callee (name_by r n) c of_file (tables_by r s) ≡ tables_by r (with_callee n c of_file s)
  with_callee_by n c of_file s =
      both (λ (fs : List FunctionRow) (ns : List Name). record (tables_by r s) { functions = fs; prelude = ns }) _ _ _ _
      (sym (map-append (function_by r) s.functions (record { name = n; callee = c } ∷ []))) (prelude_with_by of_file n s.prelude)

  with_macro_by : (m : MacroRow) (of_file : Bool) (s : Tables) → with_macro (macro_by r m) of_file (tables_by r s) ≡ tables_by r (with_macro m of_file s)
  with_macro_by m of_file s =
      both (λ (ms : List MacroRow) (ns : List Name). record (tables_by r s) { macros = ms; prelude = ns }) _ _ _ _
      (sym (map-append (macro_by r) s.macros (m ∷ []))) (prelude_with_by of_file m.name s.prelude)

  with_name_of_by : (k : DefinedAs) (n : Name) (i : ℕ) (of_file : Bool) (s : Tables) → with_name_of k (name_by r n) i of_file (tables_by r s) ≡ tables_by r (with_name_of k n i of_file s)
  with_name_of_by Function n i of_file s = with_callee_by n (callee.Procedure i) of_file s
  with_name_of_by Macro n i of_file s = with_macro_by (record { name = n; procedure = i }) of_file s

  with_defined_by : (k : DefinedAs) (n : Name) (p : Procedure) (of_file : Bool) (s : Tables) →
      with_defined k (name_by r n) (procedure_by r p) of_file (tables_by r s) ≡ tables_by r (with_defined k n p of_file s)
  with_defined_by k n p of_file s =
      both (λ (i : ℕ) t. with_name_of k (name_by r n) i of_file t) _ _ _ _ (length_by (procedure_by r) s.procedures) (with_procedure_by p s)
      ∙ with_name_of_by k n (length s.procedures) of_file (with_procedure p s)

  procedure_found_by : (name : Option Name) (n : ℕ) (rest : Bool) (xs : List ElaboratedPart) →
      procedure_found (option_map (name_by r) name) n rest (map (found_by r) xs) ≡ procedure_by r (procedure_found name n rest xs)
  procedure_found_by name n rest xs =
      both (λ (vs : List ℕ) (f : Form). record { name = option_map (name_by r) name; required = take n vs; rest = rest_found rest (drop n vs); body = f }) _ _ _ _
      (variables_found_by xs) (ap body_of (forms_found_by xs) ∙ body_of_by (forms_found xs))

  accessor_by : (n : Name) (k : Accessor) (v l : ℕ) → accessor_procedure (name_by r n) k v l ≡ procedure_by r (accessor_procedure n k v l)
  accessor_by n Reads v l = refl
  accessor_by n Writes v l = refl
  accessor_by n Asks v l = refl

  -- ---- generic functions

  with_generic_by : (n : Name) (required : ℕ) (rest of_file : Bool) (s : Tables) →
      with_generic (name_by r n) required rest of_file (tables_by r s) ≡ tables_by r (with_generic n required rest of_file s)
  with_generic_by n required rest of_file s =
      both (λ (i : ℕ) (gs : List GenericRow). with_callee (name_by r n) (callee.Generic i) of_file (record (tables_by r s) { generics = gs })) _ _ _ _
      (length_by (generic_by r) s.generics) (sym (map-append (generic_by r) s.generics (new_row n required rest ∷ [])))
      ∙ with_callee_by n (callee.Generic (length s.generics)) of_file (record s { generics = s.generics ++ new_row n required rest ∷ [] })

  with_method_by : (gs : List GenericRow) (i : ℕ) (m : MethodRow) → with_method (map (generic_by r) gs) i m ≡ map (generic_by r) (with_method gs i m)
  with_method_by [] i m = refl
  with_method_by (g ∷ gs) zero m = refl
  with_method_by (g ∷ gs) (suc i) m = ap (λ hs. generic_by r g ∷ hs) (with_method_by gs i m)

  method_at_by : (g : ℕ) (h : MethodHead) (p : ℕ) (s : Tables) → with_method_at g h p (tables_by r s) ≡ tables_by r (with_method_at g h p s)
  method_at_by g h p s = ap (λ (gs : List GenericRow). record (tables_by r s) { generics = gs }) (with_method_by s.generics g _)

  with_methods_by : (g : ℕ) (hs : List MethodHead) (p : ℕ) (s : Tables) → with_methods g hs p (tables_by r s) ≡ tables_by r (with_methods g hs p s)
  with_methods_by g [] p s = refl
  with_methods_by g (h ∷ hs) p s = ap (with_methods g hs (p + 1)) (method_at_by g h p s) ∙ with_methods_by g hs (p + 1) (with_method_at g h p s)

  finish_methods_by : (t : Taker) (hs : List MethodHead) (p : ℕ) (of_file : Bool) (s : Tables) →
      finish_methods (taker_by r t) hs p of_file (tables_by r s) ≡ tables_by r (finish_methods t hs p of_file s)
  finish_methods_by (New n required rest) hs p of_file s =
      both (λ (i : ℕ) u. with_methods i hs p u) _ _ _ _ (length_by (generic_by r) s.generics) (with_generic_by n required rest of_file s)
      ∙ with_methods_by (length s.generics) hs p (with_generic n required rest of_file s)
  finish_methods_by (There g) hs p of_file s = with_methods_by g hs p s

  finish_one_by : (k : One) (s : Tables) → finish_one (one_by r k) (tables_by r s) ≡ tables_by r (finish_one k s)
  finish_one_by (DefineGlobal g) s = ap (λ (gs : List GlobalRow). record (tables_by r s) { globals = gs }) (sym (map-append (global_by r) s.globals (g ∷ [])))
  finish_one_by (DefineDynamic v) s = ap (λ (vs : List DynamicRow). record (tables_by r s) { dynamics = vs }) (sym (map-append (dynamic_by r) s.dynamics (v ∷ [])))
  finish_one_by (SetVariable v) s = refl
  finish_one_by (SetGlobal n) s = refl
  finish_one_by (SetDynamic n) s = refl
  finish_one_by (ReturnTo x) s = refl

module _ (r : ℕ → ℕ) (old new : List (List ℕ)) (w : Renames r old new) (table : FindsNames r old new) where
  -- ---- classes

  accessor_in_by : (g : Option ℕ) (n : Name) (k : Accessor) (c p : ℕ) (of_file : Bool) (s : Tables) →
      with_accessor_in g (name_by r n) k c p of_file (tables_by r s) ≡ tables_by r (with_accessor_in g n k c p of_file s)
  accessor_in_by (Some g) n k c p of_file s = method_at_by r g (accessor_head k c) p s
  accessor_in_by None n k c p of_file s =
      both (λ (i : ℕ) u. with_method_at i (accessor_head k c) p u) _ _ _ _ (length_by (generic_by r) s.generics) (with_generic_by r n (arguments_of k) false of_file s)
      ∙ method_at_by r (length s.generics) (accessor_head k c) p (with_generic n (arguments_of k) false of_file s)

  slot_function_same : (f : SlotFunction) (c p : ℕ) (of_file : Bool) (s : Tables) →
      with_slot_function (slot_function_by r f) c p of_file (tables_by r s) ≡ tables_by r (with_slot_function f c p of_file s)
  slot_function_same Initform c p of_file s = refl
  slot_function_same (Method n k) c p of_file s =
      ap (λ g. with_accessor_in g (name_by r n) k c p of_file (tables_by r s)) (generic_of_name r old new w table s.generics n)
      ∙ accessor_in_by (generic_named s.generics n) n k c p of_file s

  slot_functions_same : (fs : List SlotFunction) (c p : ℕ) (of_file : Bool) (s : Tables) →
      with_slot_functions (map (slot_function_by r) fs) c p of_file (tables_by r s) ≡ tables_by r (with_slot_functions fs c p of_file s)
  slot_functions_same [] c p of_file s = refl
  slot_functions_same (f ∷ fs) c p of_file s =
      ap (with_slot_functions (map (slot_function_by r) fs) c (p + 1) of_file) (slot_function_same f c p of_file s)
      ∙ slot_functions_same fs c (p + 1) of_file (with_slot_function f c p of_file s)

  new_class_same : (c : NewClass) (of_file : Bool) (s : Tables) → with_new_class (new_class_by r c) of_file (tables_by r s) ≡ tables_by r (with_new_class c of_file s)
  new_class_same c of_file s =
      both (λ h (n : ℕ). record (tables_by r s) { classes = h; prelude_classes = prelude_count of_file s.prelude_classes (n + 1) }) _ _ _ _
      (ap (λ gs. with_class (hierarchy_by r s.classes) (name_by r c.name) c.supers gs c.abstract_class) (given_specs_by r c.slots)
      ∙ with_class_by r old new w s.classes c.name c.supers (given c.slots) c.abstract_class)
      (length_by (class_by r) s.classes.rows)

  finish_class_by : (c : NewClass) (p : ℕ) (of_file : Bool) (s : Tables) → finish_class (new_class_by r c) p of_file (tables_by r s) ≡ tables_by r (finish_class c p of_file s)
  finish_class_by c p of_file s =
      both (λ (i : ℕ) t. with_slot_functions (map (slot_function_by r) c.functions) i p of_file t) _ _ _ _ (length_by (class_by r) s.classes.rows) (new_class_same c of_file s)
      ∙ slot_functions_same c.functions (length s.classes.rows) p of_file (with_new_class c of_file s)

  finish_by : (m : Elaboration) (xs : List ElaboratedPart) (s : Tables) → finish (making_by r m) (map (found_by r) xs) (tables_by r s) ≡ tables_by r (finish m xs s)
  finish_by (OfOne k) xs s = finish_one_by r k s
  finish_by (OfFunctionNamed k name n rest of_file l) xs s =
      ap (λ p. with_defined k (name_by r name) p of_file (tables_by r s)) (procedure_found_by r (Some name) n rest xs)
      ∙ with_defined_by r k name (procedure_found (Some name) n rest xs) of_file s
  finish_by (OfProcedure name n rest) xs s =
      ap (λ p. with_procedure p (tables_by r s)) (procedure_found_by r name n rest xs) ∙ with_procedure_by r (procedure_found name n rest xs) s
  finish_by (OfAccessor name k v l) xs s = ap (λ p. with_procedure p (tables_by r s)) (accessor_by r name k v l) ∙ with_procedure_by r (accessor_procedure name k v l) s
  finish_by (OfMethods t hs p of_file l) xs s = finish_methods_by r t hs p of_file s
  finish_by (OfClass c p of_file l) xs s = finish_class_by c p of_file s
  finish_by m xs s = refl

  pub finished_by : (m : Made) (xs : List ElaboratedPart) (s : Tables) → finished (made_by r m) (map (found_by r) xs) (tables_by r s) ≡ tables_by r (finished m xs s)
  finished_by m xs s = finish_by m.making xs s
