-- Whatever a datum is where it stands, it offends at a place of the datum, and so are the places of its parts.
use Rattle.std.specs.Prelude.{ℕ, nat_le, Bool, true, false, List, [], ◌∷◌, Option, Some, None, if◌then◌else◌, length, codes}
use Rattle.base.specs.declared.place.Place.{Place}
use Rattle.base.specs.declared.datum.Symbol.{Symbol}
use Rattle.base.specs.declared.datum.Symbol.TheVariants.{Named, Fresh}
use Rattle.base.specs.declared.reason.Reason.{Reason}
use Rattle.base.specs.declared.reason.Refusal.{Refusal}
use Rattle.base.specs.Data.{Item, item, integer, character, symbol, string, vector, nil, list, items_list, Tail, no_tail, dotted, place_of}
use Rattle.base.specs.DataNames.{symbol_text}
use Rattle.base.specs.AllOf.{AllOf}
use Rattle.lang_meaning.specs.declared.kinds.OverTwo.TheVariants.{Apply, While, Catch, Throw, Unwind, WithHandler}
use Rattle.lang_derived.specs.Asked.{list_items, is_word}
use Rattle.lang_derived.specs.Derived.{Derivation, plain, unfit, becomes, derivation}
use Rattle.front_profile.specs.declared.elaboration.Leaf.TheVariants.{NextMethod, HasNext}
use Rattle.front_profile.specs.declared.elaboration.DefinedAs.TheVariants.{Function, Macro}
use Rattle.front_profile.specs.declared.elaboration.Elaboration.TheVariants.{CallOfValue}
use Rattle.front_profile.specs.declared.special.Special.{Special}
use Rattle.front_profile.specs.declared.special.Special.TheVariants as name
use Rattle.front_profile.specs.declared.tables.Tables.{Tables}
use Rattle.front_profile.specs.Words.{is_left_out}
use Rattle.front_profile.specs.Names.{function_of}
use Rattle.front_profile.specs.Nodes.{StaticContext, Node}
use Rattle.front_profile.specs.Shapes.{symbol_of}
use Rattle.front_profile.specs.CallRows.{call_making}
use Rattle.front_profile.specs.Rows.{first_reserved, functions_kept, special_row, special_node, without_dot, call_symbol, call_as, special_of, headed_as, is_lambda, headed_by_form, headed_by, list_node, plain_node, class_offence, class_refusal, class_in_front, unless_refused, macro_called, most_expansions, most_in_row, called_as, called_or, derived_as, node}
use Rattle.front_laws.proofs.AllPlaces.{AllPlaces}
use Rattle.front_laws.proofs.Parts.{its_place, items_all, MaybeAll, list_all_places}
use Rattle.front_laws.proofs.Nodes.{PlacesOfNode, either, a_literal}
use Rattle.front_laws.proofs.FormRows.{symbol_in, quote_in, setq_in, progn_in, cond_in, two_in, body_in, dynamic_in, set_dynamic_in, function_in, method_in, class_in, block_in, return_from_in, tagbody_in, go_in, all_parts_in, local_call_in}
use Rattle.front_laws.proofs.BinderRows.{let_in, dynamic_let_in, lambda_in, with_functions_in, global_in, defdynamic_in, defun_in}
use Rattle.front_laws.proofs.MethodRows.{defgeneric_in, defmethod_in}
use Rattle.front_laws.proofs.ClassRow.{defclass_in}

module _ (P : Place → Type 0) where
  -- special and defining forms
  special_in : (names : List (List ℕ)) (x : Special) (a : StaticContext) (s : Tables) (p : Place) (ds : List Item) → P p → AllOf (AllPlaces P) ds → PlacesOfNode P (special_row names x a s p ds)
  special_in names name.Quote a s p ds q g = quote_in P a s p ds q
  special_in names name.Setq a s p ds q g = setq_in P a s p ds q g
  special_in names name.Cond a s p ds q g = cond_in P a s p ds q g
  special_in names name.Progn a s p ds q g = progn_in P a s p ds q g
  special_in names name.Let a s p ds q g = let_in P a s p ds q g
  special_in names name.Lambda a s p ds q g = lambda_in P a s p ds q g
  special_in names name.Apply a s p ds q g = two_in P Apply a s p ds q g
  special_in names name.While a s p ds q g = body_in P While a s p ds q g
  special_in names name.Block a s p ds q g = block_in P a s p ds q g
  special_in names name.ReturnFrom a s p ds q g = return_from_in P a s p ds q g
  special_in names name.Tagbody a s p ds q g = tagbody_in P a s p ds q g
  special_in names name.Go a s p ds q g = go_in P a s p ds q
  special_in names name.Catch a s p ds q g = body_in P Catch a s p ds q g
  special_in names name.Throw a s p ds q g = two_in P Throw a s p ds q g
  special_in names name.UnwindProtect a s p ds q g = body_in P Unwind a s p ds q g
  special_in names name.DynamicLet a s p ds q g = dynamic_let_in P a s p ds q g
  special_in names name.Dynamic a s p ds q g = dynamic_in P a s p ds q
  special_in names name.SetDynamic a s p ds q g = set_dynamic_in P a s p ds q g
  special_in names name.WithHandler a s p ds q g = body_in P WithHandler a s p ds q g
  special_in names name.Function a s p ds q g = function_in P a s p ds q
  special_in names name.Class a s p ds q g = class_in P a s p ds q g
  special_in names name.CallNextMethod a s p ds q g = method_in P NextMethod a s p ds q
  special_in names name.NextMethodP a s p ds q g = method_in P HasNext a s p ds q
  special_in names name.WithFunctions a s p ds q g = with_functions_in P (functions_kept names ds) a s p ds q g
  special_in names name.Defglobal a s p ds q g = global_in P false a s p ds q g
  special_in names name.Defconstant a s p ds q g = global_in P true a s p ds q g
  special_in names name.Defdynamic a s p ds q g = defdynamic_in P a s p ds q g
  special_in names name.Defun a s p ds q g = defun_in P Function (first_reserved names ds) a s p ds q g
  special_in names name.Defmacro a s p ds q g = defun_in P Macro (first_reserved names ds) a s p ds q g
  special_in names name.Defclass a s p ds q g = defclass_in P names a s p ds q g
  special_in names name.Defgeneric a s p ds q g = defgeneric_in P names a s p ds q g
  special_in names name.Defmethod a s p ds q g = defmethod_in P names a s p ds q g

  special_node_in : (names : List (List ℕ)) (x : Special) (a : StaticContext) (s : Tables) (p : Place) (ds : List Item) (t : Tail) → P p → AllOf (AllPlaces P) ds →
      PlacesOfNode P (special_node names x a s p ds t)
  special_node_in names x a s p ds no_tail q g = special_in names x a s p ds q g
  special_node_in names x a s p ds (dotted d) q g = q

  -- calls

  without_dot_in : (p : Place) (t : Tail) (x : Node) → P p → PlacesOfNode P x → PlacesOfNode P (without_dot p t x)
  without_dot_in p no_tail x q g = g
  without_dot_in p (dotted d) x q g = q

  call_symbol_in : (x : Symbol) (text : Option (List ℕ)) (a : StaticContext) (s : Tables) (p : Place) (ds : List Item) → P p → AllOf (AllPlaces P) ds →
      PlacesOfNode P (call_symbol x text a s p ds)
  call_symbol_in (Named name) None a s p ds q g = q
  call_symbol_in (Fresh e serial) None a s p ds q g = q
  call_symbol_in (Named name) (Some text) a s p ds q g = either P (is_left_out text) _ _ q (all_parts_in P (call_making name text (length ds)) a s p ds q g)
  call_symbol_in (Fresh e serial) (Some text) a s p ds q g = q

  call_in : (x : Symbol) (text : Option (List ℕ)) (v : Option ℕ) (a : StaticContext) (s : Tables) (p : Place) (ds : List Item) → P p → AllOf (AllPlaces P) ds →
      PlacesOfNode P (call_as x text v a s p ds)
  call_in x text (Some v) a s p ds q g = local_call_in P v a s p ds q g
  call_in x text None a s p ds q g = call_symbol_in x text a s p ds q g

  -- lists, by what stands in front

  headed_in : (names : List (List ℕ)) (x : Symbol) (special : Option Special) (a : StaticContext) (s : Tables) (p : Place) (ds : List Item) (t : Tail) → P p → AllOf (AllPlaces P) ds →
      PlacesOfNode P (headed_as names x special a s p ds t)
  headed_in names x (Some special) a s p ds t q g = special_node_in names special a s p ds t q g
  headed_in names x None a s p ds t q g = without_dot_in p t _ q (call_in x (symbol_text names x) (function_of a.bound x) a s p ds q g)

  by_form_in : (names : List (List ℕ)) (h : Item) (a : StaticContext) (s : Tables) (p : Place) (ds : List Item) (t : Tail) → P p → AllOf (AllPlaces P) (h ∷ ds) →
      PlacesOfNode P (headed_by_form names h a s p ds t)
  by_form_in names h a s p ds t q g =
      either P (is_lambda names h) _ _ (without_dot_in p t _ q (all_parts_in P CallOfValue a s p (h ∷ ds) q g)) q

  headed_by_in : (names : List (List ℕ)) (h : Item) (x : Option Symbol) (a : StaticContext) (s : Tables) (p : Place) (ds : List Item) (t : Tail) → P p → AllOf (AllPlaces P) (h ∷ ds) →
      PlacesOfNode P (headed_by names h x a s p ds t)
  headed_by_in names h (Some x) a s p ds t q g = headed_in names x (special_of (symbol_text names x)) a s p ds t q g.1
  headed_by_in names h None a s p ds t q g = by_form_in names h a s p ds t q g

  list_in : (names : List (List ℕ)) (a : StaticContext) (s : Tables) (p : Place) (ds : List Item) (t : Tail) → P p → AllOf (AllPlaces P) ds → PlacesOfNode P (list_node names a s p ds t)
  list_in names a s p [] t q g = q
  list_in names a s p (h ∷ ds) t q g = headed_by_in names h (symbol_of h) a s p ds t q g

  -- what is no derived form
  plain_in : (names : List (List ℕ)) (a : StaticContext) (s : Tables) (d : Item) → AllPlaces P d → PlacesOfNode P (plain_node names a s d)
  plain_in names a s (item p (list ds t)) g = list_in names a s p (items_list ds) t (its_place P (item p (list ds t)) g) (items_all P p ds t g)
  plain_in names a s (item p (symbol x)) g = symbol_in P a p s x (its_place P (item p (symbol x)) g)
  plain_in names a s (item p (integer z)) g = a_literal P a p s _ (its_place P (item p (integer z)) g)
  plain_in names a s (item p (character c)) g = a_literal P a p s _ (its_place P (item p (character c)) g)
  plain_in names a s (item p (string bytes)) g = a_literal P a p s _ (its_place P (item p (string bytes)) g)
  plain_in names a s (item p (vector ds)) g = a_literal P a p s _ (its_place P (item p (vector ds)) g)
  plain_in names a s (item p nil) g = a_literal P a p s _ (its_place P (item p nil) g)

  -- the class of `the`, which is judged in front of the step

  abbrev PlaceOfRefusal : Option Refusal → Type 0
  PlaceOfRefusal None = Unit {0}
  PlaceOfRefusal (Some r) = P r.place

  refusal_in : (p : Place) (r : Option Reason) → P p → PlaceOfRefusal (class_refusal p r)
  refusal_in p None q = tt
  refusal_in p (Some r) q = q

  refusal_if : (b : Bool) (x : Option Refusal) → PlaceOfRefusal x → PlaceOfRefusal (if b then x else None)
  refusal_if true x g = g
  refusal_if false x g = tt

  class_in_front_in : (names : List (List ℕ)) (s : Tables) (ds : Option (List Item)) → MaybeAll P ds → PlaceOfRefusal (class_in_front names s ds)
  class_in_front_in names s None g = tt
  class_in_front_in names s (Some []) g = tt
  class_in_front_in names s (Some (h ∷ [])) g = tt
  class_in_front_in names s (Some (h ∷ c ∷ [])) g = tt
  class_in_front_in names s (Some (h ∷ c ∷ x ∷ [])) g =
      refusal_if (is_word names (codes "the") h) _ (refusal_in (place_of c) (class_offence s (symbol_of c)) (its_place P c g.1.0))
  class_in_front_in names s (Some (h ∷ c ∷ x ∷ y ∷ ds)) g = tt

  unless_refused_in : (r : Option Refusal) (x : Node) → PlaceOfRefusal r → PlacesOfNode P x → PlacesOfNode P (unless_refused r x)
  unless_refused_in None x q g = g
  unless_refused_in (Some r) x q g = q

  -- a call of a macro, which is there for what it expands to

  called_as_in : (m : ℕ) (a : StaticContext) (s : Tables) (d : Item) → AllPlaces P d → PlacesOfNode P (called_as m a s d)
  called_as_in m a s d g =
      either P (nat_le most_expansions s.expansions) _ _ (its_place P d g) (either P (nat_le most_in_row a.spot.in_row) _ _ (its_place P d g) g)

  called_or_in : (m : Option ℕ) (a : StaticContext) (s : Tables) (d : Item) (x : Node) → AllPlaces P d → PlacesOfNode P x → PlacesOfNode P (called_or m a s d x)
  called_or_in None a s d x g h = h
  called_or_in (Some m) a s d x g h = called_as_in m a s d g

  derived_in : (names : List (List ℕ)) (r : Derivation) (a : StaticContext) (s : Tables) (d : Item) → AllPlaces P d → PlacesOfNode P (derived_as names r a s d)
  derived_in names plain a s d g = called_or_in (macro_called names a s d) a s d (plain_node names a s d) g (plain_in names a s d g)
  derived_in names unfit a s d g = its_place P d g
  derived_in names (becomes r) a s d g = g

  -- every datum
  pub node_in : (names : List (List ℕ)) (a : StaticContext) (s : Tables) (d : Item) → AllPlaces P d → PlacesOfNode P (node names a s d)
  unfolding node
  node_in names a s d g =
      unless_refused_in (class_in_front names s (list_items d)) _ (class_in_front_in names s (list_items d) (list_all_places P d g))
      (derived_in names (derivation names (length s.fresh) d) a s d g)
