-- The rows of forms that bind, and of definitions of variables and functions, for renamed data and tables.
use Rattle.std.specs.Prelude.{◌≡◌, ℕ, Bool, true, false, not, ◌&&◌, ◌||◌, List, [], ◌∷◌, ◌++◌, Option, Some, None, length, is_some, map, option_map, refl}
use Rattle.std.proofs.Common.{ap, sym, ◌∙◌}
use Rattle.std.proofs.lemmas.List.{map-append}
use Rattle.base.specs.declared.place.Place.{Place}
use Rattle.base.specs.declared.datum.Name.{Name}
use Rattle.base.specs.declared.datum.Symbol.{Symbol}
use Rattle.base.specs.declared.reason.Reason.{Reason}
use Rattle.base.specs.declared.reason.Reason.TheVariants.{ConstantSet}
use Rattle.base.specs.Data.{Item}
use Rattle.lang_meaning.specs.declared.capture.Capture.{Capture}
use Rattle.front_profile.specs.declared.bound.Bound.{Bound}
use Rattle.front_profile.specs.declared.parameters.Parameters.{Parameters}
use Rattle.front_profile.specs.declared.tables.Tables.{Tables}
use Rattle.front_profile.specs.declared.elaboration.DefinedAs.{DefinedAs}
use Rattle.front_profile.specs.declared.elaboration.One.TheVariants.{DefineGlobal, DefineDynamic}
use Rattle.front_profile.specs.declared.elaboration.Elaboration.TheVariants.{OfVariables, OfDynamics, OfFunction, InSequence, OfFunctionNamed}
use Rattle.front_profile.specs.Names.{parts_around}
use Rattle.front_profile.specs.Nodes.{StaticContext, form, Node, offends}
use Rattle.front_profile.specs.Shapes.{Pair, pairs_in, parameters_in, symbol_of, name_of}
use Rattle.front_profile.specs.RowWords.{deeper, with_all, made_of, each_below, each_inner, each_bound, bad_binding}
use Rattle.front_profile.specs.FunctionNodes.{function_parts}
use Rattle.front_profile.specs.BindingRows.{let_as, let_row, name_and, names_of, values_of, dynamics_as, dynamic_let_as, dynamic_let_row, lambda_as, lambda_row, function_and, variable_that_is, functions_of, functions_as, with_functions_as, with_functions_row}
use Rattle.front_profile.specs.DefiningRows.{named, is_that, counts, has_global, has_dynamic, is_of_prelude, has_function, is_taken, is_set, defining_offence, unless_offending, defining, is_truth, global_variable, global_as, global_row, dynamic_variable, defdynamic_as, defdynamic_row, with_name, named_form, defun_of, defun_with, is_reserved, defun_as, defun_row}
use Rattle.front_profile.specs.ValueRows.{one_part}
use Rattle.lang_renamed.specs.Renaming.{name_by, names_by, symbol_by, item_by, function_by}
use Rattle.front_laws.specs.Renaming.{Renames}
use Rattle.front_laws.proofs.RenamedTables.{data_by, global_by, dynamic_by, macro_by, bound_by, context_by, tables_by, parameters_by, part_by, parts_by, node_by}
use Rattle.lang_renamed.proofs.Lists.{both, three, if_by, and_same, or_same, any_by, length_by, map_by}
use Rattle.front_laws.proofs.RenamedData.{symbol_of_by, name_of_by, same_number}
use Rattle.front_laws.proofs.RenamedShapes.{pair_by, pairs_by, variable_of_by, around_by, pairs_in_by, parameters_in_by}
use Rattle.front_laws.proofs.RenamedNodes.{some_same, within_by, made_by_parts, bad_binding_by, each_below_by, each_inner_by, each_bound_by, both_parts, with_name_by, named_form_by, alone_by, function_parts_by}
use Rattle.front_laws.proofs.RenamedForms.{one_part_by}

module _ (r : ℕ → ℕ) (old new : List (List ℕ)) (w : Renames r old new) where
  -- ---- let

  let_as_by : (a : StaticContext) (s : Tables) (p : Place) (bs : Item) (fs : List Item) (qs : Option (List Pair)) →
      let_as (context_by r a) (tables_by r s) p (item_by r bs) (data_by r fs) (option_map (pairs_by r) qs) ≡ node_by r (let_as a s p bs fs qs)
  let_as_by a s p bs fs None = bad_binding_by r bs
  let_as_by a s p bs fs (Some qs) =
      made_by_parts r a (deeper 2 a) p s _ (each_bound qs ++ each_inner fs) OfVariables OfVariables
      (both_parts r _ _ (each_bound qs) (each_inner fs) (each_bound_by r qs) (each_inner_by r fs)) refl

  pub let_by : (a : StaticContext) (s : Tables) (p : Place) (ds : List Item) → let_row (context_by r a) (tables_by r s) p (data_by r ds) ≡ node_by r (let_row a s p ds)
  let_by a s p [] = refl
  let_by a s p (bs ∷ fs) =
      within_by r 2 a p _ (let_as a s p bs fs (pairs_in s.words bs))
      (ap (let_as (context_by r a) (tables_by r s) p (item_by r bs) (data_by r fs)) (pairs_in_by r old new w s.words bs) ∙ let_as_by a s p bs fs (pairs_in s.words bs))

  -- ---- dynamic-let

  name_and_by : (n : Option Name) (ns : Option (List Name)) → name_and (option_map (name_by r) n) (option_map (names_by r) ns) ≡ option_map (names_by r) (name_and n ns)
  name_and_by None ns = refl
  name_and_by (Some n) None = refl
  name_and_by (Some n) (Some ns) = refl

  names_of_by : (qs : List Pair) → names_of (pairs_by r qs) ≡ option_map (names_by r) (names_of qs)
  names_of_by [] = refl
  names_of_by (q ∷ qs) = both name_and _ _ _ _ (name_of_by r q.name) (names_of_by qs) ∙ name_and_by (name_of q.name) (names_of qs)

  values_by : (qs : List Pair) → values_of (pairs_by r qs) ≡ parts_by r (values_of qs)
  values_by qs = map_by (pair_by r) (part_by r) (λ q. form q.datum) (λ q. form q.datum) (λ q. refl) qs

  dynamics_as_by : (a : StaticContext) (s : Tables) (p : Place) (fs : List Item) (qs : List Pair) (ns : Option (List Name)) →
      dynamics_as (context_by r a) (tables_by r s) p (data_by r fs) (pairs_by r qs) (option_map (names_by r) ns) ≡ node_by r (dynamics_as a s p fs qs ns)
  dynamics_as_by a s p fs qs None = refl
  dynamics_as_by a s p fs qs (Some ns) =
      within_by r 2 a p _ (made_of a (deeper 1 a) p s (values_of qs ++ each_below fs) (OfDynamics ns))
      (made_by_parts r a (deeper 1 a) p s _ (values_of qs ++ each_below fs) (OfDynamics (names_by r ns)) (OfDynamics ns)
      (both_parts r _ _ (values_of qs) (each_below fs) (values_by qs) (each_below_by r fs)) refl)

  dynamic_let_as_by : (a : StaticContext) (s : Tables) (p : Place) (bs : Item) (fs : List Item) (qs : Option (List Pair)) →
      dynamic_let_as (context_by r a) (tables_by r s) p (item_by r bs) (data_by r fs) (option_map (pairs_by r) qs) ≡ node_by r (dynamic_let_as a s p bs fs qs)
  dynamic_let_as_by a s p bs fs None = within_by r 2 a p _ (bad_binding bs) (bad_binding_by r bs)
  dynamic_let_as_by a s p bs fs (Some qs) =
      ap (dynamics_as (context_by r a) (tables_by r s) p (data_by r fs) (pairs_by r qs)) (names_of_by qs) ∙ dynamics_as_by a s p fs qs (names_of qs)

  pub dynamic_let_by : (a : StaticContext) (s : Tables) (p : Place) (ds : List Item) → dynamic_let_row (context_by r a) (tables_by r s) p (data_by r ds) ≡ node_by r (dynamic_let_row a s p ds)
  dynamic_let_by a s p [] = refl
  dynamic_let_by a s p (bs ∷ fs) =
      ap (dynamic_let_as (context_by r a) (tables_by r s) p (item_by r bs) (data_by r fs)) (pairs_in_by r old new w s.words bs) ∙ dynamic_let_as_by a s p bs fs (pairs_in s.words bs)

  -- ---- lambda

  lambda_as_by : (a : StaticContext) (s : Tables) (p : Place) (l : Item) (fs : List Item) (ps : Option Parameters) →
      lambda_as (context_by r a) (tables_by r s) p (item_by r l) (data_by r fs) (option_map (parameters_by r) ps) ≡ node_by r (lambda_as a s p l fs ps)
  lambda_as_by a s p l fs None = bad_binding_by r l
  lambda_as_by a s p l fs (Some ps) =
      made_by_parts r a (deeper 2 a) p s _ (function_parts ps fs) _ (OfFunction (length ps.required) (is_some ps.rest) (parts_around a.bound a.spot.in_method))
      (function_parts_by r old new w ps fs)
      (three (λ (n : ℕ) (b : Bool) (cs : List Capture). OfFunction n b cs) _ _ _ _ _ _ (length_by (symbol_by r) ps.required) (some_same (symbol_by r) ps.rest)
      (around_by r old new w a.bound a.spot.in_method))

  pub lambda_by : (a : StaticContext) (s : Tables) (p : Place) (ds : List Item) → lambda_row (context_by r a) (tables_by r s) p (data_by r ds) ≡ node_by r (lambda_row a s p ds)
  lambda_by a s p [] = refl
  lambda_by a s p (l ∷ fs) =
      within_by r 2 a p _ (lambda_as a s p l fs (parameters_in s.words l))
      (ap (lambda_as (context_by r a) (tables_by r s) p (item_by r l) (data_by r fs)) (parameters_in_by r old new w s.words l) ∙ lambda_as_by a s p l fs (parameters_in s.words l))

  -- ---- local functions

  function_and_by : (g : Symbol) (v : Option ℕ) (bs : Option (List Bound)) →
      function_and (symbol_by r g) v (option_map (map (bound_by r)) bs) ≡ option_map (map (bound_by r)) (function_and g v bs)
  function_and_by g None bs = refl
  function_and_by g (Some v) None = refl
  function_and_by g (Some v) (Some bs) = refl

  variable_that_by : (a : StaticContext) (x : Option Symbol) → variable_that_is (context_by r a) (option_map (symbol_by r) x) ≡ variable_that_is a x
  variable_that_by a None = refl
  variable_that_by a (Some x) = variable_of_by r old new w a.bound x

  functions_of_by : (a : StaticContext) (qs : List Pair) → functions_of (context_by r a) (pairs_by r qs) ≡ option_map (map (bound_by r)) (functions_of a qs)
  functions_of_by a [] = refl
  functions_of_by a (q ∷ qs) =
      both (function_and (symbol_by r q.name)) _ _ _ _ (ap (variable_that_is (context_by r a)) (symbol_of_by r q.datum) ∙ variable_that_by a (symbol_of q.datum)) (functions_of_by a qs)
      ∙ function_and_by q.name (variable_that_is a (symbol_of q.datum)) (functions_of a qs)

  functions_as_by : (a : StaticContext) (s : Tables) (p : Place) (fs : List Item) (kept : Bool) (bs : Option (List Bound)) →
      functions_as (context_by r a) (tables_by r s) p (data_by r fs) kept (option_map (map (bound_by r)) bs) ≡ node_by r (functions_as a s p fs kept bs)
  functions_as_by a s p fs true None = refl
  functions_as_by a s p fs false None = refl
  functions_as_by a s p fs true (Some bs) = refl
  functions_as_by a s p fs false (Some bs) =
      within_by r 1 a p _ (made_of a (with_all bs (deeper 1 a)) p s (each_inner fs) InSequence)
      (ap (λ xs. made_of (context_by r a) (record { bound = xs; spot = (deeper 1 a).spot }) p (tables_by r s) (each_inner (data_by r fs)) InSequence)
      (sym (map-append (bound_by r) a.bound bs))
      ∙ made_by_parts r a (with_all bs (deeper 1 a)) p s _ (each_inner fs) InSequence InSequence (each_inner_by r fs) refl)

  with_functions_as_by : (kept : Bool) (a : StaticContext) (s : Tables) (p : Place) (bs : Item) (fs : List Item) (qs : Option (List Pair)) →
      with_functions_as kept (context_by r a) (tables_by r s) p (item_by r bs) (data_by r fs) (option_map (pairs_by r) qs) ≡ node_by r (with_functions_as kept a s p bs fs qs)
  with_functions_as_by kept a s p bs fs None = within_by r 1 a p _ (bad_binding bs) (bad_binding_by r bs)
  with_functions_as_by kept a s p bs fs (Some qs) =
      ap (functions_as (context_by r a) (tables_by r s) p (data_by r fs) kept) (functions_of_by a qs) ∙ functions_as_by a s p fs kept (functions_of a qs)

  pub with_functions_by : (kept : Bool) (a : StaticContext) (s : Tables) (p : Place) (ds : List Item) →
      with_functions_row kept (context_by r a) (tables_by r s) p (data_by r ds) ≡ node_by r (with_functions_row kept a s p ds)
  with_functions_by kept a s p [] = refl
  with_functions_by kept a s p (bs ∷ fs) =
      ap (with_functions_as kept (context_by r a) (tables_by r s) p (item_by r bs) (data_by r fs)) (pairs_in_by r old new w s.words bs)
      ∙ with_functions_as_by kept a s p bs fs (pairs_in s.words bs)

  -- ---- what was defined

  pub named_by : (x : Option Symbol) → named (option_map (symbol_by r) x) ≡ option_map (name_by r) (named x)
  named_by None = refl
  named_by (Some x) = name_of_by r x

  pub named_at : (d : Item) → named (symbol_of (item_by r d)) ≡ option_map (name_by r) (named (symbol_of d))
  named_at d = ap named (symbol_of_by r d) ∙ named_by (symbol_of d)

  pub that_by : (m n : Name) → is_that (name_by r m) (name_by r n) ≡ is_that m n
  that_by m n = same_number r old new w m.0 n.0

  has_global_by : (of_file : Bool) (s : Tables) (n : Name) → has_global of_file (tables_by r s) (name_by r n) ≡ has_global of_file s n
  has_global_by of_file s n =
      any_by (global_by r) (λ g. is_that (name_by r n) g.name && counts of_file g.of_file) (λ g. is_that n g.name && counts of_file g.of_file)
      (λ g. ap (λ b. b && counts of_file g.of_file) (that_by n g.name)) s.globals

  has_dynamic_by : (of_file : Bool) (s : Tables) (n : Name) → has_dynamic of_file (tables_by r s) (name_by r n) ≡ has_dynamic of_file s n
  has_dynamic_by of_file s n =
      any_by (dynamic_by r) (λ v. is_that (name_by r n) v.name && counts of_file v.of_file) (λ v. is_that n v.name && counts of_file v.of_file)
      (λ v. ap (λ b. b && counts of_file v.of_file) (that_by n v.name)) s.dynamics

  pub prelude_by : (s : Tables) (n : Name) → is_of_prelude (tables_by r s) (name_by r n) ≡ is_of_prelude s n
  prelude_by s n = any_by (name_by r) (is_that (name_by r n)) (is_that n) (that_by n) s.prelude

  pub has_function_by : (s : Tables) (n : Name) → has_function (tables_by r s) (name_by r n) ≡ has_function s n
  has_function_by s n =
      or_same _ _ _ _ (any_by (function_by r) (λ f. is_that (name_by r n) f.name) (λ f. is_that n f.name) (λ f. that_by n f.name) s.functions)
      (any_by (macro_by r) (λ m. is_that (name_by r n) m.name) (λ m. is_that n m.name) (λ m. that_by n m.name) s.macros)

  pub is_taken_by : (of_file : Bool) (s : Tables) (n : Name) → is_taken of_file (tables_by r s) (name_by r n) ≡ is_taken of_file s n
  is_taken_by of_file s n = and_same _ _ _ _ (has_function_by s n) (ap (λ b. not (of_file && b)) (prelude_by s n))

  is_set_by : (s : Tables) (n : Name) → is_set (tables_by r s) (name_by r n) ≡ is_set s n
  is_set_by s n = any_by (name_by r) (is_that (name_by r n)) (is_that n) (that_by n) s.set

  pub truth_by : (a : StaticContext) (s : Tables) (n : Name) → is_truth (context_by r a) (tables_by r s) (name_by r n) ≡ is_truth a s n
  truth_by a s n = ap (λ b. a.spot.sited && b) (that_by n s.words.truth)

  unless_by : (p : Place) (o : Option Reason) (x y : Node) → x ≡ node_by r y → unless_offending p o x ≡ node_by r (unless_offending p o y)
  unless_by p None x y e = e
  unless_by p (Some why) x y e = refl

  pub defining_by : (a : StaticContext) (p : Place) (t u b c : Bool) (x y : Node) → t ≡ u → b ≡ c → x ≡ node_by r y → defining (context_by r a) p t b x ≡ node_by r (defining a p u c y)
  defining_by a p t u b c x y e f g =
      both (λ (i j : Bool). unless_offending p (defining_offence a.spot.top i j) x) _ _ _ _ e f ∙ unless_by p (defining_offence a.spot.top u c) x y g

  -- ---- definitions of variables

  global_as_by : (constant : Bool) (a : StaticContext) (s : Tables) (p : Place) (o : Option Name) (x : Item) →
      global_as constant (context_by r a) (tables_by r s) p (option_map (name_by r) o) (item_by r x) ≡ node_by r (global_as constant a s p o x)
  global_as_by constant a s p None x = refl
  global_as_by constant a s p (Some n) x =
      defining_by a p _ _ _ _ _ _ (has_global_by a.spot.sited s n) (truth_by a s n)
      (if_by (node_by r) _ (constant && is_set s n) _ _ (offends p ConstantSet) (one_part a p s (DefineGlobal (global_variable a n constant)) x)
      (ap (λ b. constant && b) (is_set_by s n)) refl (one_part_by r old new w a p s (DefineGlobal (global_variable a n constant)) x))

  pub global_row_by : (constant : Bool) (a : StaticContext) (s : Tables) (p : Place) (ds : List Item) →
      global_row constant (context_by r a) (tables_by r s) p (data_by r ds) ≡ node_by r (global_row constant a s p ds)
  global_row_by constant a s p (d ∷ x ∷ []) =
      ap (λ o. global_as constant (context_by r a) (tables_by r s) p o (item_by r x)) (named_at d) ∙ global_as_by constant a s p (named (symbol_of d)) x
  global_row_by constant a s p [] = refl
  global_row_by constant a s p (d ∷ []) = refl
  global_row_by constant a s p (d ∷ x ∷ e ∷ ds) = refl

  defdynamic_as_by : (a : StaticContext) (s : Tables) (p : Place) (o : Option Name) (x : Item) →
      defdynamic_as (context_by r a) (tables_by r s) p (option_map (name_by r) o) (item_by r x) ≡ node_by r (defdynamic_as a s p o x)
  defdynamic_as_by a s p None x = refl
  defdynamic_as_by a s p (Some n) x =
      defining_by a p _ _ _ _ _ _ (has_dynamic_by a.spot.sited s n) (truth_by a s n) (one_part_by r old new w a p s (DefineDynamic (dynamic_variable a n)) x)

  pub defdynamic_by : (a : StaticContext) (s : Tables) (p : Place) (ds : List Item) → defdynamic_row (context_by r a) (tables_by r s) p (data_by r ds) ≡ node_by r (defdynamic_row a s p ds)
  defdynamic_by a s p (d ∷ x ∷ []) =
      ap (λ o. defdynamic_as (context_by r a) (tables_by r s) p o (item_by r x)) (named_at d) ∙ defdynamic_as_by a s p (named (symbol_of d)) x
  defdynamic_by a s p [] = refl
  defdynamic_by a s p (d ∷ []) = refl
  defdynamic_by a s p (d ∷ x ∷ e ∷ ds) = refl

  -- ---- definitions of functions

  defun_of_by : (k : DefinedAs) (a : StaticContext) (s : Tables) (n : Name) (d : Item) (fs : List Item) (ps : Parameters) →
      defun_of k (context_by r a) (tables_by r s) (name_by r n) (item_by r d) (data_by r fs) (parameters_by r ps) ≡ node_by r (defun_of k a s n d fs ps)
  defun_of_by k a s n d fs ps =
      alone_by r false a _ (with_name a.spot.sited d s) _ (function_parts ps fs) _
      (OfFunctionNamed k n (length ps.required) (is_some ps.rest) a.spot.sited (named_form a.spot.sited s))
      (with_name_by r a.spot.sited d s) (function_parts_by r old new w ps fs)
      (three (λ (i : ℕ) (b : Bool) l. OfFunctionNamed k (name_by r n) i b a.spot.sited l) _ _ _ _ _ _
      (length_by (symbol_by r) ps.required) (some_same (symbol_by r) ps.rest) (named_form_by r a.spot.sited s))

  defun_with_by : (k : DefinedAs) (a : StaticContext) (s : Tables) (n : Name) (d l : Item) (fs : List Item) (ps : Option Parameters) →
      defun_with k (context_by r a) (tables_by r s) (name_by r n) (item_by r d) (item_by r l) (data_by r fs) (option_map (parameters_by r) ps)
      ≡ node_by r (defun_with k a s n d l fs ps)
  defun_with_by k a s n d l fs None = bad_binding_by r l
  defun_with_by k a s n d l fs (Some ps) = defun_of_by k a s n d fs ps

  pub reserved_by : (kept : Bool) (a : StaticContext) (s : Tables) (n : Name) → is_reserved kept (context_by r a) (tables_by r s) (name_by r n) ≡ is_reserved kept a s n
  reserved_by kept a s n = or_same _ _ _ _ (truth_by a s n) (ap (λ b. a.spot.sited && (kept || b)) (prelude_by s n))

  defun_as_by : (k : DefinedAs) (kept : Bool) (a : StaticContext) (s : Tables) (p : Place) (d l : Item) (fs : List Item) (o : Option Name) →
      defun_as k kept (context_by r a) (tables_by r s) p (item_by r d) (item_by r l) (data_by r fs) (option_map (name_by r) o) ≡ node_by r (defun_as k kept a s p d l fs o)
  defun_as_by k kept a s p d l fs None = refl
  defun_as_by k kept a s p d l fs (Some n) =
      defining_by a p _ _ _ _ _ _ (is_taken_by a.spot.sited s n) (reserved_by kept a s n)
      (within_by r 1 a p _ (defun_with k a s n d l fs (parameters_in s.words l))
      (ap (defun_with k (context_by r a) (tables_by r s) (name_by r n) (item_by r d) (item_by r l) (data_by r fs)) (parameters_in_by r old new w s.words l)
      ∙ defun_with_by k a s n d l fs (parameters_in s.words l)))

  pub defun_by : (k : DefinedAs) (kept : Bool) (a : StaticContext) (s : Tables) (p : Place) (ds : List Item) →
      defun_row k kept (context_by r a) (tables_by r s) p (data_by r ds) ≡ node_by r (defun_row k kept a s p ds)
  defun_by k kept a s p [] = refl
  defun_by k kept a s p (d ∷ []) = refl
  defun_by k kept a s p (d ∷ l ∷ fs) =
      ap (defun_as k kept (context_by r a) (tables_by r s) p (item_by r d) (item_by r l) (data_by r fs)) (named_at d) ∙ defun_as_by k kept a s p d l fs (named (symbol_of d))
