-- The rows of variables, values, exits and calls, for renamed data and tables.
use Rattle.std.specs.Prelude.{◌≡◌, ℕ, ◌+◌, ◌&&◌, Bool, List, [], ◌∷◌, Option, Some, None, if◌then◌else◌, is_some, map, option_map, refl}
use Rattle.std.proofs.Common.{ap, sym, ◌∙◌}
use Rattle.std.proofs.lemmas.List.{map-append}
use Rattle.base.specs.declared.place.Place.{Place}
use Rattle.base.specs.declared.datum.Name.{Name}
use Rattle.base.specs.declared.datum.Symbol.{Symbol}
use Rattle.base.specs.declared.datum.Symbol.TheVariants.{Named, Fresh}
use Rattle.base.specs.declared.reason.Reason.TheVariants.{ConstantSet, UnknownBlock, UnknownTag}
use Rattle.base.specs.Data.{Item, item, integer, character, symbol, string, vector, nil, list, place_of}
use Rattle.lang_meaning.specs.declared.program.ClassRow.{ClassRow}
use Rattle.lang_meaning.specs.declared.program.LiteralRow.TheVariants as row
use Rattle.lang_classes.specs.InheritedClasses.{class_named}
use Rattle.lang_meaning.specs.declared.kinds.OverTwo.{OverTwo}
use Rattle.front_profile.specs.declared.tables.Tables.{Tables}
use Rattle.front_profile.specs.declared.tables.ReservedWords.{ReservedWords}
use Rattle.front_profile.specs.declared.bound.Bound.TheVariants.{Block, Tags}
use Rattle.front_profile.specs.declared.bound.Target.{Target}
use Rattle.front_profile.specs.declared.elaboration.Leaf.{Leaf}
use Rattle.front_profile.specs.declared.elaboration.Leaf.TheVariants.{Local, Global, Dynamic, Go}
use Rattle.front_profile.specs.declared.elaboration.One.{One}
use Rattle.front_profile.specs.declared.elaboration.One.TheVariants.{SetVariable, SetGlobal, SetDynamic, ReturnTo}
use Rattle.front_profile.specs.declared.elaboration.Elaboration.{Elaboration}
use Rattle.front_profile.specs.declared.elaboration.Elaboration.TheVariants.{OfOne, OfTwo, OfBody, InSequence, OfClauses, OfBlock, OfSegments, CallOfLocal}
use Rattle.front_profile.specs.Names.{variable_of, function_of, block_of, tag_of}
use Rattle.front_profile.specs.Nodes.{StaticContext, Part, form, offends, with_bound}
use Rattle.front_profile.specs.Shapes.{symbol_of, name_of, is_true, all_differ, tags_in, forms_in, lengths_in, ClauseParts, clauses_in}
use Rattle.front_profile.specs.RowWords.{deeper, deeper_at_top, within_depth, made_of, each_below, each_inner, each_form, bad_shape, no_such}
use Rattle.front_profile.specs.ValueRows.{free_symbol, symbol_as, symbol_node, quote_row, is_constant_row, is_constant, with_set, one_part, set_free, set_as, set_symbol, set_datum, setq_row, progn_row, length_if, clause_length, clause_lengths, clause_parts, own_depth, cond_as, cond_row, two_row, body_row, dynamic_name, dynamic_as, dynamic_row, set_dynamic_as, set_dynamic_row, function_named, function_as, function_symbol, function_row, method_row, class_of, class_symbol, class_datum, class_row}
use Rattle.front_profile.specs.ExitRows.{with_exit, block_as, block_row, return_to_exit, return_as, return_from_row, tagbody_row, go_to, go_as, go_row}
use Rattle.front_profile.specs.CallRows.{all_parts, local_call}
use Rattle.lang_renamed.specs.Renaming.{name_by, symbol_by, item_by, class_by}
use Rattle.front_laws.specs.Renaming.{Renames}
use Rattle.front_laws.proofs.RenamedTables.{data_by, bound_by, global_by, words_by, context_by, tables_by, parts_by, leaf_by, one_by, making_by, node_by}
use Rattle.lang_renamed.proofs.Lists.{both, if_by, if_same, any_by, length_by}
use Rattle.front_laws.proofs.RenamedData.{place_by, symbol_of_by, name_of_by, same_number}
use Rattle.front_laws.proofs.RenamedShapes.{symbols_by, clause_by, clause_parts_by, variable_of_by, function_of_by, block_of_by, tag_of_by, is_true_by, all_differ_by, clauses_in_by, tags_in_by, forms_in_by, lengths_in_by}
use Rattle.front_laws.proofs.RenamedNodes.{within_by, made_by_parts, at_once_by, unsited_by, literal_node_by, no_such_by, each_form_by, each_below_by, each_inner_by, both_parts}

module _ (r : ℕ → ℕ) (old new : List (List ℕ)) (w : Renames r old new) where
  -- ---- a symbol

  free_by : (a : StaticContext) (p : Place) (s : Tables) (x : Symbol) → free_symbol (context_by r a) p (tables_by r s) (symbol_by r x) ≡ node_by r (free_symbol a p s x)
  free_by a p s (Named n) = at_once_by r a p s (Global n)
  free_by a p s (Fresh e serial) = refl

  symbol_as_by : (a : StaticContext) (p : Place) (s : Tables) (x : Symbol) (v : Option ℕ) → symbol_as (context_by r a) p (tables_by r s) (symbol_by r x) v ≡ node_by r (symbol_as a p s x v)
  symbol_as_by a p s x (Some v) = unsited_by r a p s (Local v)
  symbol_as_by a p s x None = free_by a p s x

  pub symbol_node_by : (a : StaticContext) (p : Place) (s : Tables) (x : Symbol) → symbol_node (context_by r a) p (tables_by r s) (symbol_by r x) ≡ node_by r (symbol_node a p s x)
  symbol_node_by a p s x =
      if_by (node_by r) _ (is_true s.words x) _ _ _ _ (is_true_by r old new w s.words x) (literal_node_by r a p s (row.Datum (item p (symbol x))))
      (ap (symbol_as (context_by r a) p (tables_by r s) (symbol_by r x)) (variable_of_by r old new w a.bound x) ∙ symbol_as_by a p s x (variable_of a.bound x))

  pub quote_by : (a : StaticContext) (s : Tables) (p : Place) (ds : List Item) → quote_row (context_by r a) (tables_by r s) p (data_by r ds) ≡ node_by r (quote_row a s p ds)
  quote_by a s p (d ∷ []) = literal_node_by r a p s (row.Datum d)
  quote_by a s p [] = refl
  quote_by a s p (d ∷ e ∷ ds) = refl

  -- ---- one part

  pub one_part_by : (a : StaticContext) (p : Place) (s : Tables) (k : One) (d : Item) → one_part (context_by r a) p (tables_by r s) (one_by r k) (item_by r d) ≡ node_by r (one_part a p s k d)
  one_part_by a p s k d =
      within_by r 1 a p _ (made_of a (deeper 1 a) p s (form d ∷ []) (OfOne k))
      (made_by_parts r a (deeper 1 a) p s (form (item_by r d) ∷ []) (form d ∷ []) (OfOne (one_by r k)) (OfOne k) refl refl)

  -- ---- setq

  constant_by : (s : Tables) (n : Name) → is_constant (tables_by r s) (name_by r n) ≡ is_constant s n
  constant_by s n =
      any_by (global_by r) (is_constant_row (name_by r n)) (is_constant_row n) (λ g. ap (λ b. g.constant && b) (same_number r old new w n.0 g.name.0)) s.globals

  with_set_by : (n : Name) (s : Tables) → with_set (name_by r n) (tables_by r s) ≡ tables_by r (with_set n s)
  with_set_by n s = ap (λ (ns : List Name). record (tables_by r s) { set = ns }) (sym (map-append (name_by r) s.set (n ∷ [])))

  set_free_by : (a : StaticContext) (s : Tables) (p : Place) (x : Symbol) (d : Item) → set_free (context_by r a) (tables_by r s) p (symbol_by r x) (item_by r d) ≡ node_by r (set_free a s p x d)
  set_free_by a s p (Named n) d =
      if_by (node_by r) _ (is_constant s n) _ _ (offends p ConstantSet) _ (constant_by s n) refl
      (ap (λ t. one_part (context_by r a) p t (SetGlobal (name_by r n)) (item_by r d)) (with_set_by n s) ∙ one_part_by a p (with_set n s) (SetGlobal n) d)
  set_free_by a s p (Fresh e serial) d = refl

  set_as_by : (a : StaticContext) (s : Tables) (p : Place) (x : Symbol) (v : Option ℕ) (d : Item) →
      set_as (context_by r a) (tables_by r s) p (symbol_by r x) v (item_by r d) ≡ node_by r (set_as a s p x v d)
  set_as_by a s p x (Some v) d = one_part_by a p s (SetVariable v) d
  set_as_by a s p x None d = set_free_by a s p x d

  set_symbol_by : (a : StaticContext) (s : Tables) (p : Place) (x : Symbol) (d : Item) →
      set_symbol (context_by r a) (tables_by r s) p (symbol_by r x) (item_by r d) ≡ node_by r (set_symbol a s p x d)
  set_symbol_by a s p x d =
      if_by (node_by r) _ (is_true s.words x) _ _ (offends p ConstantSet) _ (is_true_by r old new w s.words x) refl
      (ap (λ v. set_as (context_by r a) (tables_by r s) p (symbol_by r x) v (item_by r d)) (variable_of_by r old new w a.bound x) ∙ set_as_by a s p x (variable_of a.bound x) d)

  set_datum_by : (a : StaticContext) (s : Tables) (p : Place) (v d : Item) → set_datum (context_by r a) (tables_by r s) p (item_by r v) (item_by r d) ≡ node_by r (set_datum a s p v d)
  set_datum_by a s p (item q (symbol x)) d = set_symbol_by a s p x d
  set_datum_by a s p (item q nil) d = refl
  set_datum_by a s p (item q (integer n)) d = refl
  set_datum_by a s p (item q (character c)) d = refl
  set_datum_by a s p (item q (string bytes)) d = refl
  set_datum_by a s p (item q (vector ds)) d = refl
  set_datum_by a s p (item q (list ds t)) d = refl

  pub setq_by : (a : StaticContext) (s : Tables) (p : Place) (ds : List Item) → setq_row (context_by r a) (tables_by r s) p (data_by r ds) ≡ node_by r (setq_row a s p ds)
  setq_by a s p (v ∷ x ∷ []) = set_datum_by a s p v x
  setq_by a s p [] = refl
  setq_by a s p (d ∷ []) = refl
  setq_by a s p (d ∷ e ∷ f ∷ ds) = refl

  -- ---- progn and cond

  pub progn_by : (a : StaticContext) (s : Tables) (p : Place) (ds : List Item) → progn_row (context_by r a) (tables_by r s) p (data_by r ds) ≡ node_by r (progn_row a s p ds)
  progn_by a s p ds =
      within_by r 1 a p _ (made_of a (deeper_at_top a) p s (each_inner ds) InSequence)
      (made_by_parts r a (deeper_at_top a) p s _ (each_inner ds) InSequence InSequence (each_inner_by r ds) refl)

  length_if_by : (ds : List Item) → length_if (data_by r ds) ≡ length_if ds
  length_if_by [] = refl
  length_if_by (d ∷ ds) = ap (λ (n : ℕ). Some (n + 1)) (length_by (item_by r) ds)

  lengths_by : (cs : List ClauseParts) → clause_lengths (clause_parts_by r cs) ≡ clause_lengths cs
  lengths_by [] = refl
  lengths_by (c ∷ cs) = both (λ (x : Option ℕ) (xs : List (Option ℕ)). x ∷ xs) _ _ _ _ (length_if_by c.body) (lengths_by cs)

  clause_parts_same : (cs : List ClauseParts) → clause_parts (clause_parts_by r cs) ≡ parts_by r (clause_parts cs)
  clause_parts_same [] = refl
  clause_parts_same (c ∷ cs) =
      ap (λ (xs : List Part). form (item_by r c.test) ∷ xs) (both_parts r _ _ (each_below c.body) (clause_parts cs) (each_below_by r c.body) (clause_parts_same cs))

  own_depth_by : (cs : List ClauseParts) → own_depth (clause_parts_by r cs) ≡ own_depth cs
  own_depth_by cs =
      ap (λ (b : Bool). if b then 2 else 1)
      (any_by (clause_by r) (λ c. is_some (clause_length c)) (λ c. is_some (clause_length c)) (λ c. ap (λ o. is_some o) (length_if_by c.body)) cs)

  cond_as_by : (a : StaticContext) (s : Tables) (p : Place) (cs : Option (List ClauseParts)) →
      cond_as (context_by r a) (tables_by r s) p (option_map (clause_parts_by r) cs) ≡ node_by r (cond_as a s p cs)
  cond_as_by a s p None = refl
  cond_as_by a s p (Some cs) =
      ap (λ n. within_depth n (context_by r a) p (made_of (context_by r a) (deeper 1 (context_by r a)) p (tables_by r s) (clause_parts (clause_parts_by r cs)) (OfClauses (clause_lengths (clause_parts_by r cs)))))
      (own_depth_by cs)
      ∙ within_by r (own_depth cs) a p _ (made_of a (deeper 1 a) p s (clause_parts cs) (OfClauses (clause_lengths cs)))
      (made_by_parts r a (deeper 1 a) p s _ (clause_parts cs) _ (OfClauses (clause_lengths cs)) (clause_parts_same cs) (ap (λ ns. OfClauses ns) (lengths_by cs)))

  pub cond_by : (a : StaticContext) (s : Tables) (p : Place) (ds : List Item) → cond_row (context_by r a) (tables_by r s) p (data_by r ds) ≡ node_by r (cond_row a s p ds)
  cond_by a s p ds = ap (cond_as (context_by r a) (tables_by r s) p) (clauses_in_by r old new w ds) ∙ cond_as_by a s p (clauses_in ds)

  -- ---- two forms, and a form with a body

  pub two_by : (k : OverTwo) (a : StaticContext) (s : Tables) (p : Place) (ds : List Item) → two_row k (context_by r a) (tables_by r s) p (data_by r ds) ≡ node_by r (two_row k a s p ds)
  two_by k a s p (d ∷ e ∷ []) =
      within_by r 1 a p _ (made_of a (deeper 1 a) p s (form d ∷ form e ∷ []) (OfTwo k))
      (made_by_parts r a (deeper 1 a) p s (form (item_by r d) ∷ form (item_by r e) ∷ []) (form d ∷ form e ∷ []) (OfTwo k) (OfTwo k) refl refl)
  two_by k a s p [] = refl
  two_by k a s p (d ∷ []) = refl
  two_by k a s p (d ∷ e ∷ f ∷ ds) = refl

  pub body_row_by : (k : OverTwo) (a : StaticContext) (s : Tables) (p : Place) (ds : List Item) → body_row k (context_by r a) (tables_by r s) p (data_by r ds) ≡ node_by r (body_row k a s p ds)
  body_row_by k a s p [] = refl
  body_row_by k a s p (d ∷ ds) =
      within_by r 2 a p _ (made_of a (deeper 1 a) p s (form d ∷ each_below ds) (OfBody k))
      (made_by_parts r a (deeper 1 a) p s _ (form d ∷ each_below ds) (OfBody k) (OfBody k) (ap (λ (xs : List Part). form (item_by r d) ∷ xs) (each_below_by r ds)) refl)

  -- ---- dynamic variables

  dynamic_name_by : (ws : ReservedWords) (x : Option Symbol) → dynamic_name (words_by r ws) (option_map (symbol_by r) x) ≡ option_map (name_by r) (dynamic_name ws x)
  dynamic_name_by ws None = refl
  dynamic_name_by ws (Some x) = if_by (option_map (name_by r)) _ (is_true ws x) None _ None (name_of x) (is_true_by r old new w ws x) refl (name_of_by r x)

  name_at : (s : Tables) (v : Item) → dynamic_name (words_by r s.words) (symbol_of (item_by r v)) ≡ option_map (name_by r) (dynamic_name s.words (symbol_of v))
  name_at s v = ap (dynamic_name (words_by r s.words)) (symbol_of_by r v) ∙ dynamic_name_by s.words (symbol_of v)

  dynamic_as_by : (a : StaticContext) (s : Tables) (p : Place) (o : Option Name) → dynamic_as (context_by r a) (tables_by r s) p (option_map (name_by r) o) ≡ node_by r (dynamic_as a s p o)
  dynamic_as_by a s p None = refl
  dynamic_as_by a s p (Some n) = at_once_by r a p s (Dynamic n)

  pub dynamic_row_by : (a : StaticContext) (s : Tables) (p : Place) (ds : List Item) → dynamic_row (context_by r a) (tables_by r s) p (data_by r ds) ≡ node_by r (dynamic_row a s p ds)
  dynamic_row_by a s p (v ∷ []) = ap (dynamic_as (context_by r a) (tables_by r s) p) (name_at s v) ∙ dynamic_as_by a s p (dynamic_name s.words (symbol_of v))
  dynamic_row_by a s p [] = refl
  dynamic_row_by a s p (d ∷ e ∷ ds) = refl

  set_dynamic_as_by : (a : StaticContext) (s : Tables) (p : Place) (o : Option Name) (d : Item) →
      set_dynamic_as (context_by r a) (tables_by r s) p (option_map (name_by r) o) (item_by r d) ≡ node_by r (set_dynamic_as a s p o d)
  set_dynamic_as_by a s p None d = refl
  set_dynamic_as_by a s p (Some n) d = one_part_by a p s (SetDynamic n) d

  pub set_dynamic_by : (a : StaticContext) (s : Tables) (p : Place) (ds : List Item) → set_dynamic_row (context_by r a) (tables_by r s) p (data_by r ds) ≡ node_by r (set_dynamic_row a s p ds)
  set_dynamic_by a s p (x ∷ v ∷ []) =
      ap (λ o. set_dynamic_as (context_by r a) (tables_by r s) p o (item_by r x)) (name_at s v) ∙ set_dynamic_as_by a s p (dynamic_name s.words (symbol_of v)) x
  set_dynamic_by a s p [] = refl
  set_dynamic_by a s p (d ∷ []) = refl
  set_dynamic_by a s p (d ∷ e ∷ f ∷ ds) = refl

  -- ---- functions, methods and classes

  function_named_by : (a : StaticContext) (s : Tables) (p : Place) (x : Symbol) → function_named (context_by r a) (tables_by r s) p (symbol_by r x) ≡ node_by r (function_named a s p x)
  function_named_by a s p (Named n) = literal_node_by r a p s (row.Function n)
  function_named_by a s p (Fresh e serial) = refl

  function_as_by : (a : StaticContext) (s : Tables) (p : Place) (x : Symbol) (v : Option ℕ) → function_as (context_by r a) (tables_by r s) p (symbol_by r x) v ≡ node_by r (function_as a s p x v)
  function_as_by a s p x (Some v) = unsited_by r a p s (Local v)
  function_as_by a s p x None = function_named_by a s p x

  function_symbol_by : (a : StaticContext) (s : Tables) (p : Place) (x : Option Symbol) →
      function_symbol (context_by r a) (tables_by r s) p (option_map (symbol_by r) x) ≡ node_by r (function_symbol a s p x)
  function_symbol_by a s p None = refl
  function_symbol_by a s p (Some x) =
      ap (function_as (context_by r a) (tables_by r s) p (symbol_by r x)) (function_of_by r old new w a.bound x) ∙ function_as_by a s p x (function_of a.bound x)

  pub function_row_by : (a : StaticContext) (s : Tables) (p : Place) (ds : List Item) → function_row (context_by r a) (tables_by r s) p (data_by r ds) ≡ node_by r (function_row a s p ds)
  function_row_by a s p (d ∷ []) = ap (function_symbol (context_by r a) (tables_by r s) p) (symbol_of_by r d) ∙ function_symbol_by a s p (symbol_of d)
  function_row_by a s p [] = refl
  function_row_by a s p (d ∷ e ∷ ds) = refl

  pub method_row_by : (l : Leaf) (a : StaticContext) (s : Tables) (p : Place) (ds : List Item) → method_row (leaf_by r l) (context_by r a) (tables_by r s) p (data_by r ds) ≡ node_by r (method_row l a s p ds)
  method_row_by l a s p [] = if_by (node_by r) a.spot.in_method a.spot.in_method _ _ _ (bad_shape p) refl (at_once_by r a p s l) refl
  method_row_by l a s p (d ∷ ds) = refl

  pub class_named_by : (rows : List ClassRow) (n : Name) → class_named (map (class_by r) rows) (name_by r n) ≡ class_named rows n
  class_named_by [] n = refl
  class_named_by (c ∷ rows) n = if_same _ _ _ _ _ _ (same_number r old new w n.0 c.name.0) refl (ap (λ o. option_map (λ (i : ℕ). i + 1) o) (class_named_by rows n))

  class_of_by : (q : Place) (a : StaticContext) (s : Tables) (p : Place) (c : Option ℕ) → class_of q (context_by r a) (tables_by r s) p c ≡ node_by r (class_of q a s p c)
  class_of_by q a s p None = refl
  class_of_by q a s p (Some c) = literal_node_by r a p s (row.Class c)

  class_symbol_by : (q : Place) (a : StaticContext) (s : Tables) (p : Place) (x : Symbol) → class_symbol q (context_by r a) (tables_by r s) p (symbol_by r x) ≡ node_by r (class_symbol q a s p x)
  class_symbol_by q a s p (Named n) = ap (class_of q (context_by r a) (tables_by r s) p) (class_named_by s.classes.rows n) ∙ class_of_by q a s p (class_named s.classes.rows n)
  class_symbol_by q a s p (Fresh e serial) = refl

  class_datum_by : (q : Place) (a : StaticContext) (s : Tables) (p : Place) (x : Option Symbol) →
      class_datum q (context_by r a) (tables_by r s) p (option_map (symbol_by r) x) ≡ node_by r (class_datum q a s p x)
  class_datum_by q a s p None = refl
  class_datum_by q a s p (Some x) = class_symbol_by q a s p x

  pub class_row_by : (a : StaticContext) (s : Tables) (p : Place) (ds : List Item) → class_row (context_by r a) (tables_by r s) p (data_by r ds) ≡ node_by r (class_row a s p ds)
  class_row_by a s p (d ∷ []) =
      both (λ q x. class_datum q (context_by r a) (tables_by r s) p x) _ _ _ _ (place_by r d) (symbol_of_by r d) ∙ class_datum_by (place_of d) a s p (symbol_of d)
  class_row_by a s p [] = refl
  class_row_by a s p (d ∷ e ∷ ds) = refl

  -- ---- exits

  block_as_by : (a : StaticContext) (s : Tables) (p : Place) (x : Option Symbol) (fs : List Item) →
      block_as (context_by r a) (tables_by r s) p (option_map (symbol_by r) x) (data_by r fs) ≡ node_by r (block_as a s p x fs)
  block_as_by a s p None fs = refl
  block_as_by a s p (Some x) fs =
      within_by r 2 a p _ (made_of a (with_bound (Block x s.exits) (deeper 2 a)) p (with_exit s) (each_inner fs) (OfBlock s.exits))
      (ap (λ bs. made_of (context_by r a) (record { bound = bs; spot = (deeper 2 a).spot }) p (tables_by r (with_exit s)) (each_inner (data_by r fs)) (OfBlock s.exits))
      (sym (map-append (bound_by r) a.bound (Block x s.exits ∷ [])))
      ∙ made_by_parts r a (with_bound (Block x s.exits) (deeper 2 a)) p (with_exit s) _ (each_inner fs) (OfBlock s.exits) (OfBlock s.exits) (each_inner_by r fs) refl)

  pub block_by : (a : StaticContext) (s : Tables) (p : Place) (ds : List Item) → block_row (context_by r a) (tables_by r s) p (data_by r ds) ≡ node_by r (block_row a s p ds)
  block_by a s p [] = refl
  block_by a s p (d ∷ fs) = ap (λ x. block_as (context_by r a) (tables_by r s) p x (data_by r fs)) (symbol_of_by r d) ∙ block_as_by a s p (symbol_of d) fs

  return_to_by : (a : StaticContext) (s : Tables) (p : Place) (x : Symbol) (e : Option ℕ) (d : Item) →
      return_to_exit (context_by r a) (tables_by r s) p (symbol_by r x) e (item_by r d) ≡ node_by r (return_to_exit a s p x e d)
  return_to_by a s p x None d = ap (no_such p UnknownBlock) (name_of_by r x) ∙ no_such_by r p UnknownBlock (name_of x)
  return_to_by a s p x (Some e) d = one_part_by a p s (ReturnTo e) d

  return_as_by : (a : StaticContext) (s : Tables) (p : Place) (x : Option Symbol) (d : Item) →
      return_as (context_by r a) (tables_by r s) p (option_map (symbol_by r) x) (item_by r d) ≡ node_by r (return_as a s p x d)
  return_as_by a s p None d = refl
  return_as_by a s p (Some x) d =
      ap (λ e. return_to_exit (context_by r a) (tables_by r s) p (symbol_by r x) e (item_by r d)) (block_of_by r old new w a.bound x) ∙ return_to_by a s p x (block_of a.bound x) d

  pub return_from_by : (a : StaticContext) (s : Tables) (p : Place) (ds : List Item) → return_from_row (context_by r a) (tables_by r s) p (data_by r ds) ≡ node_by r (return_from_row a s p ds)
  return_from_by a s p (x ∷ d ∷ []) = ap (λ o. return_as (context_by r a) (tables_by r s) p o (item_by r d)) (symbol_of_by r x) ∙ return_as_by a s p (symbol_of x) d
  return_from_by a s p [] = refl
  return_from_by a s p (x ∷ []) = refl
  return_from_by a s p (x ∷ d ∷ e ∷ ds) = refl

  -- the context inside tags
  inside_tags : (xs : List Symbol) (a : StaticContext) (e : ℕ) → with_bound (Tags (symbols_by r xs) e) (deeper 2 (context_by r a)) ≡ context_by r (with_bound (Tags xs e) (deeper 2 a))
  inside_tags xs a e = ap (λ bs. record { bound = bs; spot = (deeper 2 a).spot }) (sym (map-append (bound_by r) a.bound (Tags xs e ∷ [])))

  pub tagbody_by : (a : StaticContext) (s : Tables) (p : Place) (ds : List Item) → tagbody_row (context_by r a) (tables_by r s) p (data_by r ds) ≡ node_by r (tagbody_row a s p ds)
  tagbody_by a s p ds =
      if_by (node_by r) _ (all_differ (tags_in ds)) _ _ _ (bad_shape p) (ap all_differ (tags_in_by r old new w ds) ∙ all_differ_by r old new w (tags_in ds))
      (within_by r 2 a p _ (made_of a (with_bound (Tags (tags_in ds) s.exits) (deeper 2 a)) p (with_exit s) (each_inner (forms_in ds)) (OfSegments s.exits (lengths_in ds)))
      (ap (λ i. made_of (context_by r a) i p (tables_by r (with_exit s)) (each_inner (forms_in (data_by r ds))) (OfSegments s.exits (lengths_in (data_by r ds))))
      (ap (λ xs. with_bound (Tags xs s.exits) (deeper 2 (context_by r a))) (tags_in_by r old new w ds) ∙ inside_tags (tags_in ds) a s.exits)
      ∙ made_by_parts r a (with_bound (Tags (tags_in ds) s.exits) (deeper 2 a)) p (with_exit s) _ (each_inner (forms_in ds)) _ (OfSegments s.exits (lengths_in ds))
      (ap (λ es. each_inner es) (forms_in_by r old new w ds) ∙ each_inner_by r (forms_in ds)) (ap (λ ns. OfSegments s.exits ns) (lengths_in_by r old new w ds))))
      refl

  go_to_by : (a : StaticContext) (s : Tables) (p : Place) (x : Symbol) (t : Option Target) → go_to (context_by r a) (tables_by r s) p (symbol_by r x) t ≡ node_by r (go_to a s p x t)
  go_to_by a s p x None = ap (no_such p UnknownTag) (name_of_by r x) ∙ no_such_by r p UnknownTag (name_of x)
  go_to_by a s p x (Some t) = at_once_by r a p s (Go t.exit t.segment)

  go_as_by : (a : StaticContext) (s : Tables) (p : Place) (x : Option Symbol) → go_as (context_by r a) (tables_by r s) p (option_map (symbol_by r) x) ≡ node_by r (go_as a s p x)
  go_as_by a s p None = refl
  go_as_by a s p (Some x) = ap (go_to (context_by r a) (tables_by r s) p (symbol_by r x)) (tag_of_by r old new w a.bound x) ∙ go_to_by a s p x (tag_of a.bound x)

  pub go_by : (a : StaticContext) (s : Tables) (p : Place) (ds : List Item) → go_row (context_by r a) (tables_by r s) p (data_by r ds) ≡ node_by r (go_row a s p ds)
  go_by a s p (d ∷ []) = ap (go_as (context_by r a) (tables_by r s) p) (symbol_of_by r d) ∙ go_as_by a s p (symbol_of d)
  go_by a s p [] = refl
  go_by a s p (d ∷ e ∷ ds) = refl

  -- ---- calls

  pub all_parts_by : (n m : Elaboration) (a : StaticContext) (s : Tables) (p : Place) (ds : List Item) → n ≡ making_by r m →
      all_parts n (context_by r a) (tables_by r s) p (data_by r ds) ≡ node_by r (all_parts m a s p ds)
  all_parts_by n m a s p ds e =
      within_by r 1 a p _ (made_of a (deeper 1 a) p s (each_form ds) m) (made_by_parts r a (deeper 1 a) p s _ (each_form ds) n m (each_form_by r ds) e)

  pub local_call_by : (v : ℕ) (a : StaticContext) (s : Tables) (p : Place) (ds : List Item) → local_call v (context_by r a) (tables_by r s) p (data_by r ds) ≡ node_by r (local_call v a s p ds)
  local_call_by v a s p ds =
      within_by r 2 a p _ (made_of a (deeper 1 a) p s (each_form ds) (CallOfLocal v))
      (made_by_parts r a (deeper 1 a) p s _ (each_form ds) (CallOfLocal v) (CallOfLocal v) (each_form_by r ds) refl)
