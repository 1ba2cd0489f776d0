-- Each datum is where it stands what the renamed datum is there: the renamed node.
use Rattle.std.specs.Prelude.{◌≡◌, ℕ, ◌+◌, nat_le, true, false, List, [], ◌∷◌, Option, Some, None, length, is_some, map, take, option_map, codes, refl}
use Rattle.std.proofs.Common.{ap, ◌∙◌}
use Rattle.base.specs.declared.place.Place.{Place}
use Rattle.base.specs.declared.datum.Symbol.{Symbol}
use Rattle.base.specs.declared.datum.Symbol.TheVariants.{Named, Fresh}
use Rattle.base.specs.declared.reason.Reason.TheVariants.{NotAForm, LeftOut, UnknownClass, TooManyExpansions, ExpansionDepth}
use Rattle.base.specs.declared.reason.Refusal.{Refusal}
use Rattle.base.specs.Data.{Item, item, integer, character, symbol, string, vector, nil, list, items_list, Tail, no_tail, dotted, place_of}
use Rattle.base.specs.DataNames.{symbol_text}
use Rattle.lang_meaning.specs.declared.program.LiteralRow.TheVariants as row
use Rattle.lang_meaning.specs.declared.primitive.Primitive.{Primitive}
use Rattle.lang_meaning.specs.declared.kinds.OverTwo.TheVariants.{Apply, While, Catch, Throw, Unwind, WithHandler, Signal, Continue}
use Rattle.lang_derived.specs.Asked.{list_items}
use Rattle.lang_derived.specs.Derived.{Derivation, plain, unfit, becomes, derivation}
use Rattle.front_profile.specs.declared.elaboration.Leaf.TheVariants.{NextMethod, HasNext}
use Rattle.front_profile.specs.declared.elaboration.DefinedAs.TheVariants.{Function, Macro}
use Rattle.front_profile.specs.declared.elaboration.Elaboration.TheVariants.{OfTwo, CallOfValue}
use Rattle.front_profile.specs.declared.special.Special.{Special}
use Rattle.front_profile.specs.declared.special.Special.TheVariants as name
use Rattle.front_profile.specs.declared.tables.Tables.{Tables}
use Rattle.front_profile.specs.declared.tables.MacroRow.{MacroRow}
use Rattle.base.specs.declared.datum.Name.{Name}
use Rattle.front_profile.specs.Primitives.{primitive_called}
use Rattle.front_profile.specs.Words.{is_left_out}
use Rattle.front_profile.specs.Names.{function_of}
use Rattle.front_profile.specs.Nodes.{StaticContext, Node, offends, calls}
use Rattle.front_profile.specs.Shapes.{symbol_of}
use Rattle.front_profile.specs.RowWords.{bad_shape}
use Rattle.front_profile.specs.BindingRows.{with_functions_row}
use Rattle.front_profile.specs.DefiningRows.{defun_row}
use Rattle.front_profile.specs.CallRows.{all_parts, named_making, is_value_call, is_pair_call, call_making, named_call}
use Rattle.front_profile.specs.Rows.{kept_text, reserved_text, first_reserved, first_kept, some_kept, functions_kept, special_row, special_node, without_dot, call_symbol, call_as, special_of, headed_as, is_lambda_name, is_lambda_items, is_lambda, headed_by_form, headed_by, list_node, plain_node, class_offence, class_refusal, class_in_front, unless_refused, macro_named, macro_of_symbol, macro_of_items, macro_called, most_expansions, most_in_row, called_as, called_or, derived_as, node}
use Rattle.lang_renamed.specs.Renaming.{name_by, symbol_by, item_by, tail_by}
use Rattle.front_laws.specs.Renaming.{Renames}
use Rattle.front_laws.proofs.RenamedTables.{data_by, macro_by, context_by, tables_by, making_by, node_by}
use Rattle.lang_renamed.proofs.Lists.{both, if_by, if_same, or_same, any_by, length_by, take_by}
use Rattle.front_laws.proofs.RenamedData.{place_by, symbol_of_by, list_items_by, listed_by, symbol_text_by, text_of_by, word_by}
use Rattle.front_laws.proofs.RenamedSteps.{derivation_by, derivation_same}
use Rattle.front_laws.proofs.RenamedTexts.{FindsNames}
use Rattle.front_laws.proofs.RenamedShapes.{function_of_by}
use Rattle.front_laws.proofs.RenamedNodes.{literal_node_by}
use Rattle.front_laws.proofs.RenamedForms.{symbol_node_by, quote_by, setq_by, progn_by, cond_by, two_by, body_row_by, dynamic_row_by, set_dynamic_by, function_row_by, method_row_by, class_named_by, class_row_by, block_by, return_from_by, tagbody_by, go_by, all_parts_by, local_call_by}
use Rattle.front_laws.proofs.RenamedBinders.{that_by, let_by, dynamic_let_by, lambda_by, with_functions_by, global_row_by, defdynamic_by, defun_by}
use Rattle.front_laws.proofs.RenamedMethods.{defgeneric_by, defmethod_by}
use Rattle.front_laws.proofs.RenamedClasses.{defclass_by}

module _ (r : ℕ → ℕ) (old new : List (List ℕ)) (w : Renames r old new) (table : FindsNames r old new) where
  -- ---- names that the language keeps

  first_reserved_by : (ds : List Item) → first_reserved new (data_by r ds) ≡ first_reserved old ds
  first_reserved_by [] = refl
  first_reserved_by (d ∷ ds) = ap reserved_text (text_of_by r old new w d)

  first_kept_by : (ds : Option (List Item)) → first_kept new (option_map (data_by r) ds) ≡ first_kept old ds
  first_kept_by None = refl
  first_kept_by (Some []) = refl
  first_kept_by (Some (d ∷ ds)) = ap kept_text (text_of_by r old new w d)

  some_kept_by : (ds : Option (List Item)) → some_kept new (option_map (data_by r) ds) ≡ some_kept old ds
  some_kept_by None = refl
  some_kept_by (Some ds) =
      any_by (item_by r) (λ d. first_kept new (list_items d)) (λ d. first_kept old (list_items d)) (λ d. ap (first_kept new) (list_items_by r d) ∙ first_kept_by (list_items d)) ds

  functions_kept_by : (ds : List Item) → functions_kept new (data_by r ds) ≡ functions_kept old ds
  functions_kept_by [] = refl
  functions_kept_by (d ∷ ds) = ap (some_kept new) (list_items_by r d) ∙ some_kept_by (list_items d)

  -- ---- special and defining forms

  special_by : (x : Special) (a : StaticContext) (s : Tables) (p : Place) (ds : List Item) → special_row new x (context_by r a) (tables_by r s) p (data_by r ds) ≡ node_by r (special_row old x a s p ds)
  special_by name.Quote a s p ds = quote_by r old new w a s p ds
  special_by name.Setq a s p ds = setq_by r old new w a s p ds
  special_by name.Cond a s p ds = cond_by r old new w a s p ds
  special_by name.Progn a s p ds = progn_by r old new w a s p ds
  special_by name.Let a s p ds = let_by r old new w a s p ds
  special_by name.Lambda a s p ds = lambda_by r old new w a s p ds
  special_by name.Apply a s p ds = two_by r old new w Apply a s p ds
  special_by name.While a s p ds = body_row_by r old new w While a s p ds
  special_by name.Block a s p ds = block_by r old new w a s p ds
  special_by name.ReturnFrom a s p ds = return_from_by r old new w a s p ds
  special_by name.Tagbody a s p ds = tagbody_by r old new w a s p ds
  special_by name.Go a s p ds = go_by r old new w a s p ds
  special_by name.Catch a s p ds = body_row_by r old new w Catch a s p ds
  special_by name.Throw a s p ds = two_by r old new w Throw a s p ds
  special_by name.UnwindProtect a s p ds = body_row_by r old new w Unwind a s p ds
  special_by name.DynamicLet a s p ds = dynamic_let_by r old new w a s p ds
  special_by name.Dynamic a s p ds = dynamic_row_by r old new w a s p ds
  special_by name.SetDynamic a s p ds = set_dynamic_by r old new w a s p ds
  special_by name.WithHandler a s p ds = body_row_by r old new w WithHandler a s p ds
  special_by name.Function a s p ds = function_row_by r old new w a s p ds
  special_by name.Class a s p ds = class_row_by r old new w a s p ds
  special_by name.CallNextMethod a s p ds = method_row_by r old new w NextMethod a s p ds
  special_by name.NextMethodP a s p ds = method_row_by r old new w HasNext a s p ds
  special_by name.WithFunctions a s p ds =
      ap (λ kept. with_functions_row kept (context_by r a) (tables_by r s) p (data_by r ds)) (functions_kept_by ds) ∙ with_functions_by r old new w (functions_kept old ds) a s p ds
  special_by name.Defglobal a s p ds = global_row_by r old new w false a s p ds
  special_by name.Defconstant a s p ds = global_row_by r old new w true a s p ds
  special_by name.Defdynamic a s p ds = defdynamic_by r old new w a s p ds
  special_by name.Defun a s p ds =
      ap (λ kept. defun_row Function kept (context_by r a) (tables_by r s) p (data_by r ds)) (first_reserved_by ds) ∙ defun_by r old new w Function (first_reserved old ds) a s p ds
  special_by name.Defmacro a s p ds =
      ap (λ kept. defun_row Macro kept (context_by r a) (tables_by r s) p (data_by r ds)) (first_reserved_by ds) ∙ defun_by r old new w Macro (first_reserved old ds) a s p ds
  special_by name.Defclass a s p ds = defclass_by r old new w table a s p ds
  special_by name.Defgeneric a s p ds = defgeneric_by r old new w table a s p ds
  special_by name.Defmethod a s p ds = defmethod_by r old new w table a s p ds

  special_node_by : (x : Special) (a : StaticContext) (s : Tables) (p : Place) (ds : List Item) (t : Tail) →
      special_node new x (context_by r a) (tables_by r s) p (data_by r ds) (tail_by r t) ≡ node_by r (special_node old x a s p ds t)
  special_node_by x a s p ds no_tail = special_by x a s p ds
  special_node_by x a s p ds (dotted d) = refl

  -- ---- calls

  without_dot_by : (p : Place) (t : Tail) (x y : Node) → x ≡ node_by r y → without_dot p (tail_by r t) x ≡ node_by r (without_dot p t y)
  without_dot_by p no_tail x y e = e
  without_dot_by p (dotted d) x y e = refl

  making_of : (n : Name) (o : Option Primitive) → named_making (name_by r n) o ≡ making_by r (named_making n o)
  making_of n None = refl
  making_of n (Some q) = refl

  call_making_by : (n : Name) (text : List ℕ) (count : ℕ) → call_making (name_by r n) text count ≡ making_by r (call_making n text count)
  call_making_by n text count =
      if_by (making_by r) (is_value_call text count) (is_value_call text count) _ _ CallOfValue _ refl refl
      (if_by (making_by r) (is_pair_call text (codes "signal-condition") count) (is_pair_call text (codes "signal-condition") count) _ _ (OfTwo Signal) _ refl refl
      (if_by (making_by r) (is_pair_call text (codes "continue-condition") count) (is_pair_call text (codes "continue-condition") count) _ _ (OfTwo Continue) _ refl refl
      (making_of n (primitive_called text count))))

  named_call_by : (n : Name) (text : List ℕ) (a : StaticContext) (s : Tables) (p : Place) (ds : List Item) →
      named_call (name_by r n) text (context_by r a) (tables_by r s) p (data_by r ds) ≡ node_by r (named_call n text a s p ds)
  named_call_by n text a s p ds =
      all_parts_by r old new w _ (call_making n text (length ds)) a s p ds
      (ap (call_making (name_by r n) text) (length_by (item_by r) ds) ∙ call_making_by n text (length ds))

  call_symbol_by : (x : Symbol) (text : Option (List ℕ)) (a : StaticContext) (s : Tables) (p : Place) (ds : List Item) →
      call_symbol (symbol_by r x) text (context_by r a) (tables_by r s) p (data_by r ds) ≡ node_by r (call_symbol x text a s p ds)
  call_symbol_by (Named n) None a s p ds = refl
  call_symbol_by (Fresh e serial) None a s p ds = refl
  call_symbol_by (Named n) (Some text) a s p ds = if_by (node_by r) (is_left_out text) (is_left_out text) _ _ (offends p LeftOut) _ refl refl (named_call_by n text a s p ds)
  call_symbol_by (Fresh e serial) (Some text) a s p ds = refl

  call_as_by : (x : Symbol) (text : Option (List ℕ)) (v : Option ℕ) (a : StaticContext) (s : Tables) (p : Place) (ds : List Item) →
      call_as (symbol_by r x) text v (context_by r a) (tables_by r s) p (data_by r ds) ≡ node_by r (call_as x text v a s p ds)
  call_as_by x text (Some v) a s p ds = local_call_by r old new w v a s p ds
  call_as_by x text None a s p ds = call_symbol_by x text a s p ds

  -- ---- lists, by what stands in front

  headed_by_special : (x : Symbol) (special : Option Special) (a : StaticContext) (s : Tables) (p : Place) (ds : List Item) (t : Tail) →
      headed_as new (symbol_by r x) special (context_by r a) (tables_by r s) p (data_by r ds) (tail_by r t) ≡ node_by r (headed_as old x special a s p ds t)
  headed_by_special x (Some special) a s p ds t = special_node_by special a s p ds t
  headed_by_special x None a s p ds t =
      without_dot_by p t _ (call_as x (symbol_text old x) (function_of a.bound x) a s p ds)
      (both (λ text v. call_as (symbol_by r x) text v (context_by r a) (tables_by r s) p (data_by r ds)) _ _ _ _ (symbol_text_by r old new w x) (function_of_by r old new w a.bound x)
      ∙ call_as_by x (symbol_text old x) (function_of a.bound x) a s p ds)

  lambda_items_by : (ds : List Item) → is_lambda_items new (data_by r ds) ≡ is_lambda_items old ds
  lambda_items_by [] = refl
  lambda_items_by (d ∷ ds) = ap (λ t. is_lambda_name (special_of t)) (text_of_by r old new w d)

  lambda_of : (d : Item) → is_lambda new (item_by r d) ≡ is_lambda old d
  lambda_of (item q (list ds t)) = ap (is_lambda_items new) (listed_by r ds) ∙ lambda_items_by (items_list ds)
  lambda_of (item q (integer n)) = refl
  lambda_of (item q (character c)) = refl
  lambda_of (item q (symbol x)) = refl
  lambda_of (item q (string bytes)) = refl
  lambda_of (item q (vector ds)) = refl
  lambda_of (item q nil) = refl

  by_form_by : (h : Item) (a : StaticContext) (s : Tables) (p : Place) (ds : List Item) (t : Tail) →
      headed_by_form new (item_by r h) (context_by r a) (tables_by r s) p (data_by r ds) (tail_by r t) ≡ node_by r (headed_by_form old h a s p ds t)
  by_form_by h a s p ds t =
      if_by (node_by r) _ (is_lambda old h) _ _ _ (offends p NotAForm) (lambda_of h)
      (without_dot_by p t _ (all_parts CallOfValue a s p (h ∷ ds)) (all_parts_by r old new w CallOfValue CallOfValue a s p (h ∷ ds) refl)) refl

  headed_by_by : (h : Item) (x : Option Symbol) (a : StaticContext) (s : Tables) (p : Place) (ds : List Item) (t : Tail) →
      headed_by new (item_by r h) (option_map (symbol_by r) x) (context_by r a) (tables_by r s) p (data_by r ds) (tail_by r t) ≡ node_by r (headed_by old h x a s p ds t)
  headed_by_by h (Some x) a s p ds t =
      ap (λ text. headed_as new (symbol_by r x) (special_of text) (context_by r a) (tables_by r s) p (data_by r ds) (tail_by r t)) (symbol_text_by r old new w x)
      ∙ headed_by_special x (special_of (symbol_text old x)) a s p ds t
  headed_by_by h None a s p ds t = by_form_by h a s p ds t

  list_node_by : (a : StaticContext) (s : Tables) (p : Place) (ds : List Item) (t : Tail) →
      list_node new (context_by r a) (tables_by r s) p (data_by r ds) (tail_by r t) ≡ node_by r (list_node old a s p ds t)
  list_node_by a s p [] t = refl
  list_node_by a s p (h ∷ ds) t =
      ap (λ x. headed_by new (item_by r h) x (context_by r a) (tables_by r s) p (data_by r ds) (tail_by r t)) (symbol_of_by r h) ∙ headed_by_by h (symbol_of h) a s p ds t

  plain_by : (a : StaticContext) (s : Tables) (d : Item) → plain_node new (context_by r a) (tables_by r s) (item_by r d) ≡ node_by r (plain_node old a s d)
  plain_by a s (item p (list ds t)) = ap (λ es. list_node new (context_by r a) (tables_by r s) p es (tail_by r t)) (listed_by r ds) ∙ list_node_by a s p (items_list ds) t
  plain_by a s (item p (symbol x)) = symbol_node_by r old new w a p s x
  plain_by a s (item p (integer n)) = literal_node_by r a p s (row.Datum (item p (integer n)))
  plain_by a s (item p (character c)) = literal_node_by r a p s (row.Datum (item p (character c)))
  plain_by a s (item p (string bytes)) = literal_node_by r a p s (row.Datum (item p (string bytes)))
  plain_by a s (item p (vector ds)) = literal_node_by r a p s (row.Datum (item p (vector ds)))
  plain_by a s (item p nil) = literal_node_by r a p s (row.Datum (item p nil))

  -- ---- the class of `the`

  offence_by : (s : Tables) (x : Option Symbol) → class_offence (tables_by r s) (option_map (symbol_by r) x) ≡ class_offence s x
  offence_by s None = refl
  offence_by s (Some (Named n)) =
      if_same _ _ None (Some UnknownClass) None (Some UnknownClass) (ap (λ (o : Option ℕ). is_some o) (class_named_by r old new w s.classes.rows n)) refl refl
  offence_by s (Some (Fresh e serial)) = refl

  in_front_by : (s : Tables) (ds : Option (List Item)) → class_in_front new (tables_by r s) (option_map (data_by r) ds) ≡ class_in_front old s ds
  in_front_by s None = refl
  in_front_by s (Some []) = refl
  in_front_by s (Some (h ∷ [])) = refl
  in_front_by s (Some (h ∷ c ∷ [])) = refl
  in_front_by s (Some (h ∷ c ∷ x ∷ [])) =
      if_same _ _ _ None _ None (word_by r old new w (codes "the") h)
      (both class_refusal _ _ _ _ (place_by r c) (ap (class_offence (tables_by r s)) (symbol_of_by r c) ∙ offence_by s (symbol_of c))) refl
  in_front_by s (Some (h ∷ c ∷ x ∷ y ∷ ds)) = refl

  unless_refused_by : (o : Option Refusal) (x y : Node) → x ≡ node_by r y → unless_refused o x ≡ node_by r (unless_refused o y)
  unless_refused_by None x y e = e
  unless_refused_by (Some z) x y e = refl

  -- ---- calls of macros

  macro_named_by : (ms : List MacroRow) (n : Name) → macro_named (map (macro_by r) ms) (name_by r n) ≡ macro_named ms n
  macro_named_by [] n = refl
  macro_named_by (m ∷ ms) n = if_same _ _ _ _ _ _ (that_by r old new w n m.name) refl (ap (option_map (λ (i : ℕ). i + 1)) (macro_named_by ms n))

  macro_symbol_by : (a : StaticContext) (s : Tables) (x : Option Symbol) →
      macro_of_symbol new (context_by r a) (tables_by r s) (option_map (symbol_by r) x) ≡ macro_of_symbol old a s x
  macro_symbol_by a s None = refl
  macro_symbol_by a s (Some (Fresh e serial)) = refl
  macro_symbol_by a s (Some (Named n)) =
      if_same _ _ None _ None _
      (or_same _ _ _ _ (ap (λ text. is_some (special_of text)) (symbol_text_by r old new w (Named n))) (ap (λ (o : Option ℕ). is_some o) (function_of_by r old new w a.bound (Named n))))
      refl
      (ap (λ ms. macro_named ms (name_by r n)) (take_by (macro_by r) s.before.macros s.macros) ∙ macro_named_by (take s.before.macros s.macros) n)

  macro_items_by : (a : StaticContext) (s : Tables) (ds : Option (List Item)) →
      macro_of_items new (context_by r a) (tables_by r s) (option_map (data_by r) ds) ≡ macro_of_items old a s ds
  macro_items_by a s None = refl
  macro_items_by a s (Some []) = refl
  macro_items_by a s (Some (h ∷ ds)) = ap (macro_of_symbol new (context_by r a) (tables_by r s)) (symbol_of_by r h) ∙ macro_symbol_by a s (symbol_of h)

  macro_called_by : (a : StaticContext) (s : Tables) (d : Item) → macro_called new (context_by r a) (tables_by r s) (item_by r d) ≡ macro_called old a s d
  macro_called_by a s d = ap (macro_of_items new (context_by r a) (tables_by r s)) (list_items_by r d) ∙ macro_items_by a s (list_items d)

  called_as_by : (m : ℕ) (a : StaticContext) (s : Tables) (d : Item) → called_as m (context_by r a) (tables_by r s) (item_by r d) ≡ node_by r (called_as m a s d)
  called_as_by m a s d =
      if_by (node_by r) (nat_le most_expansions s.expansions) (nat_le most_expansions s.expansions) _ _ (offends (place_of d) TooManyExpansions) _ refl
      (ap (λ p. offends p TooManyExpansions) (place_by r d))
      (if_by (node_by r) (nat_le most_in_row a.spot.in_row) (nat_le most_in_row a.spot.in_row) _ _ (offends (place_of d) ExpansionDepth) (calls a s m d) refl
      (ap (λ p. offends p ExpansionDepth) (place_by r d)) refl)

  called_or_by : (o : Option ℕ) (a : StaticContext) (s : Tables) (d : Item) (x y : Node) → x ≡ node_by r y →
      called_or o (context_by r a) (tables_by r s) (item_by r d) x ≡ node_by r (called_or o a s d y)
  called_or_by None a s d x y e = e
  called_or_by (Some m) a s d x y e = called_as_by m a s d

  derived_by : (x : Derivation) (a : StaticContext) (s : Tables) (d : Item) →
      derived_as new (derivation_by r x) (context_by r a) (tables_by r s) (item_by r d) ≡ node_by r (derived_as old x a s d)
  derived_by plain a s d =
      ap (λ o. called_or o (context_by r a) (tables_by r s) (item_by r d) (plain_node new (context_by r a) (tables_by r s) (item_by r d))) (macro_called_by a s d)
      ∙ called_or_by (macro_called old a s d) a s d _ (plain_node old a s d) (plain_by a s d)
  derived_by unfit a s d = ap (λ p. bad_shape p) (place_by r d)
  derived_by (becomes x) a s d = refl

  -- every datum
  pub node_by_names : (a : StaticContext) (s : Tables) (d : Item) → node new (context_by r a) (tables_by r s) (item_by r d) ≡ node_by r (node old a s d)
  unfolding node
  node_by_names a s d =
      let count : length (map (symbol_by r) s.fresh) ≡ length s.fresh = length_by (symbol_by r) s.fresh in
      both unless_refused _ _ _ _ (ap (class_in_front new (tables_by r s)) (list_items_by r d) ∙ in_front_by s (list_items d))
      (ap (λ x. derived_as new x (context_by r a) (tables_by r s) (item_by r d)) (ap (λ (n : ℕ). derivation new n (item_by r d)) count ∙ derivation_same r old new w (length s.fresh) d)
      ∙ derived_by (derivation old (length s.fresh) d) a s d)
      ∙ unless_refused_by (class_in_front old s (list_items d)) _ (derived_as old (derivation old (length s.fresh) d) a s d) refl
