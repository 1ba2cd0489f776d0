-- The rows of variables, values, exits and calls offend at places of the form, and so are the places of their parts.
use Rattle.std.specs.Prelude.{ℕ, List, [], ◌∷◌, Option, Some, None}
use Rattle.base.specs.declared.place.Place.{Place}
use Rattle.base.specs.declared.datum.Name.{Name}
use Rattle.base.specs.declared.datum.Symbol.{Symbol}
use Rattle.base.specs.declared.datum.Symbol.TheVariants.{Named, Fresh}
use Rattle.base.specs.Data.{Item, item, integer, character, symbol, string, vector, nil, list, place_of}
use Rattle.base.specs.AllOf.{AllOf}
use Rattle.lang_classes.specs.InheritedClasses.{class_named}
use Rattle.lang_meaning.specs.declared.kinds.OverTwo.{OverTwo}
use Rattle.front_profile.specs.declared.tables.Tables.{Tables}
use Rattle.front_profile.specs.declared.bound.Target.{Target}
use Rattle.front_profile.specs.declared.elaboration.Leaf.{Leaf}
use Rattle.front_profile.specs.declared.elaboration.One.{One}
use Rattle.front_profile.specs.declared.elaboration.Elaboration.{Elaboration}
use Rattle.front_profile.specs.Names.{variable_of, function_of, block_of, tag_of}
use Rattle.front_profile.specs.Nodes.{StaticContext}
use Rattle.front_profile.specs.Shapes.{symbol_of, name_of, is_true, all_differ, tags_in, forms_in, ClauseParts, clauses_in}
use Rattle.front_profile.specs.RowWords.{each_below}
use Rattle.front_profile.specs.ValueRows.{free_symbol, symbol_as, symbol_node, quote_row, is_constant, one_part, set_free, set_as, set_datum, setq_row, progn_row, clause_parts, own_depth, cond_as, cond_row, two_row, body_row, dynamic_name, dynamic_as, dynamic_row, set_dynamic_as, set_dynamic_row, function_named, function_as, function_symbol, function_row, method_row, class_of, class_symbol, class_datum, class_row}
use Rattle.front_profile.specs.ExitRows.{block_as, block_row, return_to_exit, return_as, return_from_row, tagbody_row, go_to, go_as, go_row}
use Rattle.front_profile.specs.CallRows.{all_parts, local_call}
use Rattle.front_laws.proofs.AllPlaces.{AllPlaces}
use Rattle.front_laws.proofs.Parts.{its_place, AllClauses, MaybeClauses, all_clauses, all_forms}
use Rattle.front_laws.proofs.Nodes.{PlacesOfPart, PlacesOfNode, either, within, without_site, a_literal, at_once, none_such, both, forms_too, below_too, inner_too}

module _ (P : Place → Type 0) where
  -- ---- a symbol

  free_in : (a : StaticContext) (p : Place) (s : Tables) (x : Symbol) → P p → PlacesOfNode P (free_symbol a p s x)
  free_in a p s (Named name) q = at_once P a p s _ q
  free_in a p s (Fresh e serial) q = q

  symbol_as_in : (a : StaticContext) (p : Place) (s : Tables) (x : Symbol) (v : Option ℕ) → P p → PlacesOfNode P (symbol_as a p s x v)
  symbol_as_in a p s x (Some v) q = without_site P a p s _ q
  symbol_as_in a p s x None q = free_in a p s x q

  pub symbol_in : (a : StaticContext) (p : Place) (s : Tables) (x : Symbol) → P p → PlacesOfNode P (symbol_node a p s x)
  symbol_in a p s x q = either P (is_true s.words x) _ _ (a_literal P a p s _ q) (symbol_as_in a p s x (variable_of a.bound x) q)

  pub quote_in : (a : StaticContext) (s : Tables) (p : Place) (ds : List Item) → P p → PlacesOfNode P (quote_row a s p ds)
  quote_in a s p (d ∷ []) q = a_literal P a p s _ q
  quote_in a s p [] q = q
  quote_in a s p (d ∷ e ∷ ds) q = q

  -- ---- one part

  pub one_in : (a : StaticContext) (p : Place) (s : Tables) (k : One) (d : Item) → P p → AllPlaces P d → PlacesOfNode P (one_part a p s k d)
  one_in a p s k d q g = within P 1 a p _ q (g, tt)

  -- ---- setq

  set_free_in : (a : StaticContext) (s : Tables) (p : Place) (x : Symbol) (d : Item) → P p → AllPlaces P d → PlacesOfNode P (set_free a s p x d)
  set_free_in a s p (Named name) d q g = either P (is_constant s name) _ _ q (one_in a p _ _ d q g)
  set_free_in a s p (Fresh e serial) d q g = q

  set_as_in : (a : StaticContext) (s : Tables) (p : Place) (x : Symbol) (v : Option ℕ) (d : Item) → P p → AllPlaces P d → PlacesOfNode P (set_as a s p x v d)
  set_as_in a s p x (Some v) d q g = one_in a p s _ d q g
  set_as_in a s p x None d q g = set_free_in a s p x d q g

  set_datum_in : (a : StaticContext) (s : Tables) (p : Place) (v d : Item) → P p → AllPlaces P d → PlacesOfNode P (set_datum a s p v d)
  set_datum_in a s p (item o (symbol x)) d q g = either P (is_true s.words x) _ _ q (set_as_in a s p x (variable_of a.bound x) d q g)
  set_datum_in a s p (item o nil) d q g = q
  set_datum_in a s p (item o (integer z)) d q g = q
  set_datum_in a s p (item o (character c)) d q g = q
  set_datum_in a s p (item o (string bytes)) d q g = q
  set_datum_in a s p (item o (vector ds)) d q g = q
  set_datum_in a s p (item o (list ds t)) d q g = q

  pub setq_in : (a : StaticContext) (s : Tables) (p : Place) (ds : List Item) → P p → AllOf (AllPlaces P) ds → PlacesOfNode P (setq_row a s p ds)
  setq_in a s p (v ∷ x ∷ []) q g = set_datum_in a s p v x q g.1.0
  setq_in a s p [] q g = q
  setq_in a s p (d ∷ []) q g = q
  setq_in a s p (d ∷ e ∷ f ∷ ds) q g = q

  -- ---- progn

  pub progn_in : (a : StaticContext) (s : Tables) (p : Place) (ds : List Item) → P p → AllOf (AllPlaces P) ds → PlacesOfNode P (progn_row a s p ds)
  progn_in a s p ds q g = within P 1 a p _ q (inner_too P ds g)

  -- ---- cond

  clauses_too : (cs : List ClauseParts) → AllClauses P cs → AllOf (PlacesOfPart P) (clause_parts cs)
  clauses_too [] g = tt
  clauses_too (c ∷ cs) g = (g.0, both P (each_below c.body) (clause_parts cs) (below_too P c.body g.1) (clauses_too cs g.2))

  cond_as_in : (a : StaticContext) (s : Tables) (p : Place) (cs : Option (List ClauseParts)) → P p → MaybeClauses P cs → PlacesOfNode P (cond_as a s p cs)
  cond_as_in a s p None q g = q
  cond_as_in a s p (Some cs) q g = within P (own_depth cs) a p _ q (clauses_too cs g)

  pub cond_in : (a : StaticContext) (s : Tables) (p : Place) (ds : List Item) → P p → AllOf (AllPlaces P) ds → PlacesOfNode P (cond_row a s p ds)
  cond_in a s p ds q g = cond_as_in a s p (clauses_in ds) q (all_clauses P ds g)

  -- ---- two forms, and a form with a body

  pub two_in : (k : OverTwo) (a : StaticContext) (s : Tables) (p : Place) (ds : List Item) → P p → AllOf (AllPlaces P) ds → PlacesOfNode P (two_row k a s p ds)
  two_in k a s p (d ∷ e ∷ []) q g = within P 1 a p _ q (g.0, (g.1.0, tt))
  two_in k a s p [] q g = q
  two_in k a s p (d ∷ []) q g = q
  two_in k a s p (d ∷ e ∷ f ∷ ds) q g = q

  pub body_in : (k : OverTwo) (a : StaticContext) (s : Tables) (p : Place) (ds : List Item) → P p → AllOf (AllPlaces P) ds → PlacesOfNode P (body_row k a s p ds)
  body_in k a s p [] q g = q
  body_in k a s p (d ∷ ds) q g = within P 2 a p _ q (g.0, below_too P ds g.1)

  -- ---- dynamic variables

  dynamic_as_in : (a : StaticContext) (s : Tables) (p : Place) (name : Option Name) → P p → PlacesOfNode P (dynamic_as a s p name)
  dynamic_as_in a s p None q = q
  dynamic_as_in a s p (Some name) q = at_once P a p s _ q

  pub dynamic_in : (a : StaticContext) (s : Tables) (p : Place) (ds : List Item) → P p → PlacesOfNode P (dynamic_row a s p ds)
  dynamic_in a s p (v ∷ []) q = dynamic_as_in a s p (dynamic_name s.words (symbol_of v)) q
  dynamic_in a s p [] q = q
  dynamic_in a s p (d ∷ e ∷ ds) q = q

  set_dynamic_as_in : (a : StaticContext) (s : Tables) (p : Place) (name : Option Name) (d : Item) → P p → AllPlaces P d → PlacesOfNode P (set_dynamic_as a s p name d)
  set_dynamic_as_in a s p None d q g = q
  set_dynamic_as_in a s p (Some name) d q g = one_in a p s _ d q g

  pub set_dynamic_in : (a : StaticContext) (s : Tables) (p : Place) (ds : List Item) → P p → AllOf (AllPlaces P) ds → PlacesOfNode P (set_dynamic_row a s p ds)
  set_dynamic_in a s p (x ∷ v ∷ []) q g = set_dynamic_as_in a s p (dynamic_name s.words (symbol_of v)) x q g.0
  set_dynamic_in a s p [] q g = q
  set_dynamic_in a s p (d ∷ []) q g = q
  set_dynamic_in a s p (d ∷ e ∷ f ∷ ds) q g = q

  -- ---- functions, methods and classes

  function_named_in : (a : StaticContext) (s : Tables) (p : Place) (x : Symbol) → P p → PlacesOfNode P (function_named a s p x)
  function_named_in a s p (Named name) q = a_literal P a p s _ q
  function_named_in a s p (Fresh e serial) q = q

  function_as_in : (a : StaticContext) (s : Tables) (p : Place) (x : Symbol) (v : Option ℕ) → P p → PlacesOfNode P (function_as a s p x v)
  function_as_in a s p x (Some v) q = without_site P a p s _ q
  function_as_in a s p x None q = function_named_in a s p x q

  function_symbol_in : (a : StaticContext) (s : Tables) (p : Place) (x : Option Symbol) → P p → PlacesOfNode P (function_symbol a s p x)
  function_symbol_in a s p None q = q
  function_symbol_in a s p (Some x) q = function_as_in a s p x (function_of a.bound x) q

  pub function_in : (a : StaticContext) (s : Tables) (p : Place) (ds : List Item) → P p → PlacesOfNode P (function_row a s p ds)
  function_in a s p (d ∷ []) q = function_symbol_in a s p (symbol_of d) q
  function_in a s p [] q = q
  function_in a s p (d ∷ e ∷ ds) q = q

  pub method_in : (l : Leaf) (a : StaticContext) (s : Tables) (p : Place) (ds : List Item) → P p → PlacesOfNode P (method_row l a s p ds)
  method_in l a s p [] q = either P a.spot.in_method _ _ (at_once P a p s l q) q
  method_in l a s p (d ∷ ds) q = q

  class_of_in : (o : Place) (a : StaticContext) (s : Tables) (p : Place) (c : Option ℕ) → P o → P p → PlacesOfNode P (class_of o a s p c)
  class_of_in o a s p None h q = h
  class_of_in o a s p (Some c) h q = a_literal P a p s _ q

  class_symbol_in : (o : Place) (a : StaticContext) (s : Tables) (p : Place) (x : Symbol) → P o → P p → PlacesOfNode P (class_symbol o a s p x)
  class_symbol_in o a s p (Named name) h q = class_of_in o a s p (class_named s.classes.rows name) h q
  class_symbol_in o a s p (Fresh e serial) h q = q

  class_datum_in : (o : Place) (a : StaticContext) (s : Tables) (p : Place) (x : Option Symbol) → P o → P p → PlacesOfNode P (class_datum o a s p x)
  class_datum_in o a s p None h q = q
  class_datum_in o a s p (Some x) h q = class_symbol_in o a s p x h q

  pub class_in : (a : StaticContext) (s : Tables) (p : Place) (ds : List Item) → P p → AllOf (AllPlaces P) ds → PlacesOfNode P (class_row a s p ds)
  class_in a s p (d ∷ []) q g = class_datum_in (place_of d) a s p (symbol_of d) (its_place P d g.0) q
  class_in a s p [] q g = q
  class_in a s p (d ∷ e ∷ ds) q g = q

  -- ---- exits

  block_as_in : (a : StaticContext) (s : Tables) (p : Place) (x : Option Symbol) (fs : List Item) → P p → AllOf (AllPlaces P) fs → PlacesOfNode P (block_as a s p x fs)
  block_as_in a s p None fs q g = q
  block_as_in a s p (Some x) fs q g = within P 2 a p _ q (inner_too P fs g)

  pub block_in : (a : StaticContext) (s : Tables) (p : Place) (ds : List Item) → P p → AllOf (AllPlaces P) ds → PlacesOfNode P (block_row a s p ds)
  block_in a s p [] q g = q
  block_in a s p (d ∷ fs) q g = block_as_in a s p (symbol_of d) fs q g.1

  return_to_in : (a : StaticContext) (s : Tables) (p : Place) (x : Symbol) (e : Option ℕ) (d : Item) → P p → AllPlaces P d → PlacesOfNode P (return_to_exit a s p x e d)
  return_to_in a s p x None d q g = none_such P p _ (name_of x) q
  return_to_in a s p x (Some e) d q g = one_in a p s _ d q g

  return_as_in : (a : StaticContext) (s : Tables) (p : Place) (x : Option Symbol) (d : Item) → P p → AllPlaces P d → PlacesOfNode P (return_as a s p x d)
  return_as_in a s p None d q g = q
  return_as_in a s p (Some x) d q g = return_to_in a s p x (block_of a.bound x) d q g

  pub return_from_in : (a : StaticContext) (s : Tables) (p : Place) (ds : List Item) → P p → AllOf (AllPlaces P) ds → PlacesOfNode P (return_from_row a s p ds)
  return_from_in a s p (x ∷ d ∷ []) q g = return_as_in a s p (symbol_of x) d q g.1.0
  return_from_in a s p [] q g = q
  return_from_in a s p (x ∷ []) q g = q
  return_from_in a s p (x ∷ d ∷ e ∷ ds) q g = q

  pub tagbody_in : (a : StaticContext) (s : Tables) (p : Place) (ds : List Item) → P p → AllOf (AllPlaces P) ds → PlacesOfNode P (tagbody_row a s p ds)
  tagbody_in a s p ds q g = either P (all_differ (tags_in ds)) _ _ (within P 2 a p _ q (inner_too P (forms_in ds) (all_forms P ds g))) q

  go_to_in : (a : StaticContext) (s : Tables) (p : Place) (x : Symbol) (target : Option Target) → P p → PlacesOfNode P (go_to a s p x target)
  go_to_in a s p x None q = none_such P p _ (name_of x) q
  go_to_in a s p x (Some target) q = at_once P a p s _ q

  go_as_in : (a : StaticContext) (s : Tables) (p : Place) (x : Option Symbol) → P p → PlacesOfNode P (go_as a s p x)
  go_as_in a s p None q = q
  go_as_in a s p (Some x) q = go_to_in a s p x (tag_of a.bound x) q

  pub go_in : (a : StaticContext) (s : Tables) (p : Place) (ds : List Item) → P p → PlacesOfNode P (go_row a s p ds)
  go_in a s p (d ∷ []) q = go_as_in a s p (symbol_of d) q
  go_in a s p [] q = q
  go_in a s p (d ∷ e ∷ ds) q = q

  -- ---- calls

  pub all_parts_in : (m : Elaboration) (a : StaticContext) (s : Tables) (p : Place) (ds : List Item) → P p → AllOf (AllPlaces P) ds → PlacesOfNode P (all_parts m a s p ds)
  all_parts_in m a s p ds q g = within P 1 a p _ q (forms_too P ds g)

  pub local_call_in : (v : ℕ) (a : StaticContext) (s : Tables) (p : Place) (ds : List Item) → P p → AllOf (AllPlaces P) ds → PlacesOfNode P (local_call v a s p ds)
  local_call_in v a s p ds q g = within P 2 a p _ q (forms_too P ds g)
