-- How the rows of forms that define nothing begin.
use Rattle.std.proofs.Common.{◌+◌, ℕ, Bool, true, false, List, [], ◌∷◌, Option, Some, None, if◌then◌else◌, codes, refl, ◌≡◌, ◌++◌, arith}
use Rattle.base.specs.declared.place.Place.{Place}
use Rattle.base.specs.declared.datum.Name.{Name}
use Rattle.base.specs.declared.datum.Symbol.{Symbol}
use Rattle.base.specs.declared.datum.Symbol.TheVariants.{Named, Fresh}
use Rattle.base.specs.declared.reason.Reason.{Reason}
use Rattle.base.specs.Data.{Item, item, symbol, place_of}
use Rattle.base.specs.AllOf.{all_both}
use Rattle.lang_classes.specs.InheritedClasses.{class_named}
use Rattle.front_profile.specs.declared.bound.Bound.{Bound}
use Rattle.front_profile.specs.declared.bound.Bound.TheVariants.{Block, Tags}
use Rattle.front_profile.specs.declared.bound.Target.{Target}
use Rattle.front_profile.specs.declared.parameters.Parameters.{Parameters}
use Rattle.front_profile.specs.declared.tables.Tables.{Tables}
use Rattle.front_profile.specs.declared.elaboration.Leaf.{Leaf}
use Rattle.front_profile.specs.declared.elaboration.One.{One}
use Rattle.lang_meaning.specs.declared.kinds.OverTwo.{OverTwo}
use Rattle.lang_meaning.specs.declared.kinds.OverTwo.TheVariants.{Signal, Continue}
use Rattle.front_profile.specs.declared.elaboration.Elaboration.{Elaboration}
use Rattle.front_profile.specs.declared.elaboration.Elaboration.TheVariants.{OfOne, OfTwo, OfBody, InSequence, CallOfValue, CallOfLocal, OfVariables, OfDynamics, OfBlock, OfSegments}
use Rattle.front_profile.specs.Names.{variable_of, function_of, block_of, tag_of}
use Rattle.front_profile.specs.Nodes.{StaticContext, with_bound, Part, form}
use Rattle.front_profile.specs.Shapes.{Pair, ClauseParts, symbol_of, name_of, is_true, pairs_in, parameters_in, all_differ, all_symbols, tags_in, forms_in, lengths_in}
use Rattle.front_profile.specs.RowWords.{deeper, deeper_at_top, with_all, no_such, each_form, each_below, each_inner, each_bound, each_parameter}
use Rattle.front_profile.specs.ValueRows.{clause_parts, free_symbol, symbol_as, symbol_node, quote_row, is_constant, with_set, one_part, set_free, set_as, set_datum, setq_row, progn_row, own_depth, cond_as, two_row, body_row, dynamic_name, dynamic_as, dynamic_row, set_dynamic_as, set_dynamic_row, function_named, function_as, function_symbol, function_row, method_row, class_of, class_symbol, class_datum, class_row}
use Rattle.front_profile.specs.ExitRows.{with_exit, block_as, block_row, return_to_exit, return_as, return_from_row, tagbody_row, go_to, go_as, go_row}
use Rattle.front_profile.specs.CallRows.{named_making, is_value_call, is_pair_call, call_making, all_parts, local_call}
use Rattle.front_profile.specs.Primitives.{primitive_called}
use Rattle.lang_meaning.specs.declared.primitive.Primitive.{Primitive}
use Rattle.front_profile.specs.BindingRows.{values_of, let_as, let_row, names_of, dynamics_as, dynamic_let_as, dynamic_let_row, lambda_as, lambda_row, functions_of, functions_as, with_functions_as, with_functions_row}
use Rattle.front_profile.specs.Marks.{TablesGrow}
use Rattle.front_profile.specs.bridge.Growing.{tables_grow_reflexive}
use Rattle.front_profile.specs.Below.{NothingDefined}
use Rattle.front_profile.proofs.FoundNodes.{both_plain, forms_plain, below_plain, inner_plain, parameters_plain, values_plain, clauses_plain}
use Rattle.front_profile.proofs.Procedures.{IsOrdinary, inner_ordinary}
use Rattle.front_profile.proofs.Starting.{grows_set, grows_numbers, none_defined, none_set, none_numbers, MakesNothing, IsSimple, Starts, starts_if, starts_within, starts_made, starts_plain, starts_at_once, starts_unsited, starts_literal, Sets, sets_nothing, plain_ordinary, bound_ordinary}

-- values

starts_free : (s : Tables) (a : StaticContext) (p : Place) (x : Symbol) → Starts s a.spot.top (free_symbol a p s x)
starts_free s a p (Named n) = starts_at_once s a p _
starts_free s a p (Fresh e serial) = tt

starts_symbol_as : (s : Tables) (a : StaticContext) (p : Place) (x : Symbol) (v : Option ℕ) → Starts s a.spot.top (symbol_as a p s x v)
starts_symbol_as s a p x (Some v) = starts_unsited s a p s _ (tables_grow_reflexive s) (none_defined s)
starts_symbol_as s a p x None = starts_free s a p x

pub starts_symbol : (s : Tables) (a : StaticContext) (p : Place) (x : Symbol) → Starts s a.spot.top (symbol_node a p s x)
starts_symbol s a p x = starts_if s a.spot.top (is_true s.words x) _ _ (starts_literal s a p _) (starts_symbol_as s a p x (variable_of a.bound x))

pub starts_quote : (s : Tables) (a : StaticContext) (p : Place) (ds : List Item) → Starts s a.spot.top (quote_row a s p ds)
starts_quote s a p (d ∷ []) = starts_literal s a p _
starts_quote s a p [] = tt
starts_quote s a p (d ∷ e ∷ ds) = tt

pub starts_one : (s : Tables) (a : StaticContext) (p : Place) (t : Tables) (k : One) (d : Item) → TablesGrow s t → NothingDefined s t → (a.spot.top ≡ false → Sets k) → Starts s a.spot.top (one_part a p t k d)
starts_one s a p t k d g n h = starts_within s 1 a p _ (starts_made s a (deeper 1 a) p t (form d ∷ []) (OfOne k) tt g n (λ e. refl) (tt, tt) (λ e. sets_nothing k (h e)))

starts_set_free : (s : Tables) (a : StaticContext) (p : Place) (x : Symbol) (d : Item) → Starts s a.spot.top (set_free a s p x d)
starts_set_free s a p (Named n) d = starts_if s a.spot.top (is_constant s n) _ _ tt (starts_one s a p (with_set n s) _ d (grows_set s n) (none_set s n) (λ e. tt))
starts_set_free s a p (Fresh e serial) d = tt

starts_set_as : (s : Tables) (a : StaticContext) (p : Place) (x : Symbol) (v : Option ℕ) (d : Item) → Starts s a.spot.top (set_as a s p x v d)
starts_set_as s a p x (Some v) d = starts_one s a p s _ d (tables_grow_reflexive s) (none_defined s) (λ e. tt)
starts_set_as s a p x None d = starts_set_free s a p x d

starts_set_datum : (s : Tables) (a : StaticContext) (p : Place) (v d : Item) → Starts s a.spot.top (set_datum a s p v d)
starts_set_datum s a p (item q (symbol x)) d = starts_if s a.spot.top (is_true s.words x) _ _ tt (starts_set_as s a p x (variable_of a.bound x) d)
starts_set_datum s a p other d = tt

pub starts_setq : (s : Tables) (a : StaticContext) (p : Place) (ds : List Item) → Starts s a.spot.top (setq_row a s p ds)
starts_setq s a p (v ∷ x ∷ []) = starts_set_datum s a p v x
starts_setq s a p [] = tt
starts_setq s a p (d ∷ []) = tt
starts_setq s a p (d ∷ e ∷ f ∷ ds) = tt

pub starts_progn : (s : Tables) (a : StaticContext) (p : Place) (ds : List Item) → Starts s a.spot.top (progn_row a s p ds)
starts_progn s a p ds =
    starts_within s 1 a p _
    (starts_made s a (deeper_at_top a) p s (each_inner ds) InSequence tt (tables_grow_reflexive s) (none_defined s) (λ e. e) (inner_ordinary ds) (λ e rs u. none_defined u))

pub starts_cond_as : (s : Tables) (a : StaticContext) (p : Place) (cs : Option (List ClauseParts)) → Starts s a.spot.top (cond_as a s p cs)
starts_cond_as s a p None = tt
starts_cond_as s a p (Some cs) = starts_within s (own_depth cs) a p _ (starts_plain s a p (clause_parts cs) _ tt (plain_ordinary (clause_parts cs) (clauses_plain cs)) (λ rs u. none_defined u))

pub starts_two : (s : Tables) (k : OverTwo) (a : StaticContext) (p : Place) (ds : List Item) → Starts s a.spot.top (two_row k a s p ds)
starts_two s k a p (d ∷ e ∷ []) = starts_within s 1 a p _ (starts_plain s a p (form d ∷ form e ∷ []) (OfTwo k) tt (tt, (tt, tt)) (λ rs u. none_defined u))
starts_two s k a p [] = tt
starts_two s k a p (d ∷ []) = tt
starts_two s k a p (d ∷ e ∷ f ∷ ds) = tt

pub starts_body : (s : Tables) (k : OverTwo) (a : StaticContext) (p : Place) (ds : List Item) → Starts s a.spot.top (body_row k a s p ds)
starts_body s k a p [] = tt
starts_body s k a p (d ∷ ds) =
    starts_within s 2 a p _ (starts_plain s a p (form d ∷ each_below ds) (OfBody k) tt (tt, plain_ordinary (each_below ds) (below_plain ds)) (λ rs u. none_defined u))

starts_dynamic_as : (s : Tables) (a : StaticContext) (p : Place) (n : Option Name) → Starts s a.spot.top (dynamic_as a s p n)
starts_dynamic_as s a p None = tt
starts_dynamic_as s a p (Some n) = starts_at_once s a p _

pub starts_dynamic : (s : Tables) (a : StaticContext) (p : Place) (ds : List Item) → Starts s a.spot.top (dynamic_row a s p ds)
starts_dynamic s a p (v ∷ []) = starts_dynamic_as s a p (dynamic_name s.words (symbol_of v))
starts_dynamic s a p [] = tt
starts_dynamic s a p (d ∷ e ∷ ds) = tt

starts_set_dynamic_as : (s : Tables) (a : StaticContext) (p : Place) (n : Option Name) (d : Item) → Starts s a.spot.top (set_dynamic_as a s p n d)
starts_set_dynamic_as s a p None d = tt
starts_set_dynamic_as s a p (Some n) d = starts_one s a p s _ d (tables_grow_reflexive s) (none_defined s) (λ e. tt)

pub starts_set_dynamic : (s : Tables) (a : StaticContext) (p : Place) (ds : List Item) → Starts s a.spot.top (set_dynamic_row a s p ds)
starts_set_dynamic s a p (x ∷ v ∷ []) = starts_set_dynamic_as s a p (dynamic_name s.words (symbol_of v)) x
starts_set_dynamic s a p [] = tt
starts_set_dynamic s a p (d ∷ []) = tt
starts_set_dynamic s a p (d ∷ e ∷ f ∷ ds) = tt

starts_function_named : (s : Tables) (a : StaticContext) (p : Place) (x : Symbol) → Starts s a.spot.top (function_named a s p x)
starts_function_named s a p (Named n) = starts_literal s a p _
starts_function_named s a p (Fresh e serial) = tt

starts_function_as : (s : Tables) (a : StaticContext) (p : Place) (x : Symbol) (v : Option ℕ) → Starts s a.spot.top (function_as a s p x v)
starts_function_as s a p x (Some v) = starts_unsited s a p s _ (tables_grow_reflexive s) (none_defined s)
starts_function_as s a p x None = starts_function_named s a p x

starts_function_symbol : (s : Tables) (a : StaticContext) (p : Place) (x : Option Symbol) → Starts s a.spot.top (function_symbol a s p x)
starts_function_symbol s a p None = tt
starts_function_symbol s a p (Some x) = starts_function_as s a p x (function_of a.bound x)

pub starts_function : (s : Tables) (a : StaticContext) (p : Place) (ds : List Item) → Starts s a.spot.top (function_row a s p ds)
starts_function s a p (d ∷ []) = starts_function_symbol s a p (symbol_of d)
starts_function s a p [] = tt
starts_function s a p (d ∷ e ∷ ds) = tt

pub starts_method : (s : Tables) (l : Leaf) (a : StaticContext) (p : Place) (ds : List Item) → Starts s a.spot.top (method_row l a s p ds)
starts_method s l a p [] = starts_if s a.spot.top a.spot.in_method _ _ (starts_at_once s a p l) tt
starts_method s l a p (d ∷ ds) = tt

starts_class_of : (s : Tables) (q : Place) (a : StaticContext) (p : Place) (c : Option ℕ) → Starts s a.spot.top (class_of q a s p c)
starts_class_of s q a p None = tt
starts_class_of s q a p (Some c) = starts_literal s a p _

starts_class_symbol : (s : Tables) (q : Place) (a : StaticContext) (p : Place) (x : Symbol) → Starts s a.spot.top (class_symbol q a s p x)
starts_class_symbol s q a p (Named n) = starts_class_of s q a p (class_named s.classes.rows n)
starts_class_symbol s q a p (Fresh e serial) = tt

starts_class_datum : (s : Tables) (q : Place) (a : StaticContext) (p : Place) (x : Option Symbol) → Starts s a.spot.top (class_datum q a s p x)
starts_class_datum s q a p None = tt
starts_class_datum s q a p (Some x) = starts_class_symbol s q a p x

pub starts_class : (s : Tables) (a : StaticContext) (p : Place) (ds : List Item) → Starts s a.spot.top (class_row a s p ds)
starts_class s a p (d ∷ []) = starts_class_datum s (place_of d) a p (symbol_of d)
starts_class s a p [] = tt
starts_class s a p (d ∷ e ∷ ds) = tt

-- exits

starts_no_such : (s : Tables) (top : Bool) (p : Place) (r : Reason) (n : Option Name) → Starts s top (no_such p r n)
starts_no_such s top p r None = tt
starts_no_such s top p r (Some n) = tt

grows_exit : (s : Tables) → TablesGrow s (with_exit s)
grows_exit s = grows_numbers s s.variables (s.exits + 1) (omega arith) (omega arith)

none_exit : (s : Tables) → NothingDefined s (with_exit s)
none_exit s = none_numbers s s.variables (s.exits + 1)

starts_block_as : (s : Tables) (a : StaticContext) (p : Place) (x : Option Symbol) (fs : List Item) → Starts s a.spot.top (block_as a s p x fs)
starts_block_as s a p None fs = tt
starts_block_as s a p (Some x) fs =
    starts_within s 2 a p _
    (starts_made s a (with_bound (Block x s.exits) (deeper 2 a)) p (with_exit s) (each_inner fs) (OfBlock s.exits) tt (grows_exit s) (none_exit s) (λ e. refl)
    (inner_ordinary fs) (λ e rs u. none_defined u))

pub starts_block : (s : Tables) (a : StaticContext) (p : Place) (ds : List Item) → Starts s a.spot.top (block_row a s p ds)
starts_block s a p [] = tt
starts_block s a p (d ∷ fs) = starts_block_as s a p (symbol_of d) fs

starts_return_to : (s : Tables) (a : StaticContext) (p : Place) (x : Symbol) (e : Option ℕ) (d : Item) → Starts s a.spot.top (return_to_exit a s p x e d)
starts_return_to s a p x None d = starts_no_such s a.spot.top p _ (name_of x)
starts_return_to s a p x (Some e) d = starts_one s a p s _ d (tables_grow_reflexive s) (none_defined s) (λ k. tt)

starts_return_as : (s : Tables) (a : StaticContext) (p : Place) (x : Option Symbol) (d : Item) → Starts s a.spot.top (return_as a s p x d)
starts_return_as s a p None d = tt
starts_return_as s a p (Some x) d = starts_return_to s a p x (block_of a.bound x) d

pub starts_return_from : (s : Tables) (a : StaticContext) (p : Place) (ds : List Item) → Starts s a.spot.top (return_from_row a s p ds)
starts_return_from s a p (x ∷ d ∷ []) = starts_return_as s a p (symbol_of x) d
starts_return_from s a p [] = tt
starts_return_from s a p (x ∷ []) = tt
starts_return_from s a p (x ∷ d ∷ e ∷ ds) = tt

pub starts_tagbody : (s : Tables) (a : StaticContext) (p : Place) (ds : List Item) → Starts s a.spot.top (tagbody_row a s p ds)
starts_tagbody s a p ds =
    starts_if s a.spot.top (all_differ (tags_in ds)) _ _ (starts_within s 2 a p _
    (starts_made s a (with_bound (Tags (tags_in ds) s.exits) (deeper 2 a)) p (with_exit s) (each_inner (forms_in ds)) (OfSegments s.exits (lengths_in ds)) tt (grows_exit s) (none_exit s)
    (λ e. refl) (inner_ordinary (forms_in ds)) (λ e rs u. none_defined u)))
    tt

starts_go_to : (s : Tables) (a : StaticContext) (p : Place) (x : Symbol) (t : Option Target) → Starts s a.spot.top (go_to a s p x t)
starts_go_to s a p x None = starts_no_such s a.spot.top p _ (name_of x)
starts_go_to s a p x (Some t) = starts_at_once s a p _

starts_go_as : (s : Tables) (a : StaticContext) (p : Place) (x : Option Symbol) → Starts s a.spot.top (go_as a s p x)
starts_go_as s a p None = tt
starts_go_as s a p (Some x) = starts_go_to s a p x (tag_of a.bound x)

pub starts_go : (s : Tables) (a : StaticContext) (p : Place) (ds : List Item) → Starts s a.spot.top (go_row a s p ds)
starts_go s a p (d ∷ []) = starts_go_as s a p (symbol_of d)
starts_go s a p [] = tt
starts_go s a p (d ∷ e ∷ ds) = tt

-- calls

pub starts_all_parts : (s : Tables) (k : Elaboration) (a : StaticContext) (p : Place) (ds : List Item) → IsSimple k → MakesNothing k → Starts s a.spot.top (all_parts k a s p ds)
starts_all_parts s k a p ds e m = starts_within s 1 a p _ (starts_plain s a p (each_form ds) k e (plain_ordinary (each_form ds) (forms_plain ds)) m)

chosen_nothing : (b : Bool) (k l : Elaboration) → MakesNothing k → MakesNothing l → MakesNothing (if b then k else l)
chosen_nothing true k l h g = h
chosen_nothing false k l h g = g

named_nothing : (n : Name) (p : Option Primitive) → MakesNothing (named_making n p)
named_nothing n None = λ rs u. none_defined u
named_nothing n (Some p) = λ rs u. none_defined u

pub call_nothing : (n : Name) (text : List ℕ) (count : ℕ) → MakesNothing (call_making n text count)
call_nothing n text count =
    chosen_nothing (is_value_call text count) CallOfValue _ (λ rs u. none_defined u)
    (chosen_nothing (is_pair_call text (codes "signal-condition") count) (OfTwo Signal) _ (λ rs u. none_defined u)
    (chosen_nothing (is_pair_call text (codes "continue-condition") count) (OfTwo Continue) _ (λ rs u. none_defined u) (named_nothing n (primitive_called text count))))

chosen_simple : (b : Bool) (k l : Elaboration) → IsSimple k → IsSimple l → IsSimple (if b then k else l)
chosen_simple true k l h g = h
chosen_simple false k l h g = g

named_simple : (n : Name) (p : Option Primitive) → IsSimple (named_making n p)
named_simple n None = tt
named_simple n (Some p) = tt

pub call_simple : (n : Name) (text : List ℕ) (count : ℕ) → IsSimple (call_making n text count)
call_simple n text count =
    chosen_simple (is_value_call text count) CallOfValue _ tt
    (chosen_simple (is_pair_call text (codes "signal-condition") count) (OfTwo Signal) _ tt
    (chosen_simple (is_pair_call text (codes "continue-condition") count) (OfTwo Continue) _ tt (named_simple n (primitive_called text count))))

pub starts_local_call : (s : Tables) (v : ℕ) (a : StaticContext) (p : Place) (ds : List Item) → Starts s a.spot.top (local_call v a s p ds)
starts_local_call s v a p ds =
    starts_within s 2 a p _ (starts_plain s a p (each_form ds) (CallOfLocal v) tt (plain_ordinary (each_form ds) (forms_plain ds)) (λ rs u. none_defined u))

-- forms that bind

starts_let_as : (s : Tables) (a : StaticContext) (p : Place) (bs : Item) (fs : List Item) (qs : Option (List Pair)) → Starts s a.spot.top (let_as a s p bs fs qs)
starts_let_as s a p bs fs None = tt
starts_let_as s a p bs fs (Some qs) =
    starts_made s a (deeper 2 a) p s (each_bound qs ++ each_inner fs) OfVariables tt (tables_grow_reflexive s) (none_defined s) (λ e. refl)
    (all_both IsOrdinary (each_bound qs) (each_inner fs) (bound_ordinary qs) (inner_ordinary fs)) (λ e rs u. none_defined u)

pub starts_let : (s : Tables) (a : StaticContext) (p : Place) (ds : List Item) → Starts s a.spot.top (let_row a s p ds)
starts_let s a p [] = tt
starts_let s a p (bs ∷ fs) = starts_within s 2 a p _ (starts_let_as s a p bs fs (pairs_in s.words bs))

starts_dynamics_as : (s : Tables) (a : StaticContext) (p : Place) (fs : List Item) (qs : List Pair) (ns : Option (List Name)) → Starts s a.spot.top (dynamics_as a s p fs qs ns)
starts_dynamics_as s a p fs qs None = tt
starts_dynamics_as s a p fs qs (Some ns) =
    starts_within s 2 a p _
    (starts_plain s a p (values_of qs ++ each_below fs) (OfDynamics ns) tt
    (plain_ordinary (values_of qs ++ each_below fs) (both_plain (values_of qs) (each_below fs) (values_plain qs) (below_plain fs))) (λ rs u. none_defined u))

starts_dynamic_let_as : (s : Tables) (a : StaticContext) (p : Place) (bs : Item) (fs : List Item) (qs : Option (List Pair)) → Starts s a.spot.top (dynamic_let_as a s p bs fs qs)
starts_dynamic_let_as s a p bs fs None = starts_within s 2 a p _ tt
starts_dynamic_let_as s a p bs fs (Some qs) = starts_dynamics_as s a p fs qs (names_of qs)

pub starts_dynamic_let : (s : Tables) (a : StaticContext) (p : Place) (ds : List Item) → Starts s a.spot.top (dynamic_let_row a s p ds)
starts_dynamic_let s a p [] = tt
starts_dynamic_let s a p (bs ∷ fs) = starts_dynamic_let_as s a p bs fs (pairs_in s.words bs)

starts_lambda_as : (s : Tables) (a : StaticContext) (p : Place) (l : Item) (fs : List Item) (ps : Option Parameters) → Starts s a.spot.top (lambda_as a s p l fs ps)
starts_lambda_as s a p l fs None = tt
starts_lambda_as s a p l fs (Some ps) =
    let xs : List Part = each_parameter (all_symbols ps) ++ each_inner fs in
    starts_made s a (deeper 2 a) p s xs _ tt (tables_grow_reflexive s) (none_defined s) (λ e. refl)
    (plain_ordinary xs (both_plain (each_parameter (all_symbols ps)) (each_inner fs) (parameters_plain (all_symbols ps)) (inner_plain fs))) (λ e rs u. none_defined u)

pub starts_lambda : (s : Tables) (a : StaticContext) (p : Place) (ds : List Item) → Starts s a.spot.top (lambda_row a s p ds)
starts_lambda s a p [] = tt
starts_lambda s a p (l ∷ fs) = starts_within s 2 a p _ (starts_lambda_as s a p l fs (parameters_in s.words l))

starts_functions_as : (s : Tables) (a : StaticContext) (p : Place) (fs : List Item) (kept : Bool) (bs : Option (List Bound)) → Starts s a.spot.top (functions_as a s p fs kept bs)
starts_functions_as s a p fs true None = tt
starts_functions_as s a p fs false None = tt
starts_functions_as s a p fs true (Some bs) = tt
starts_functions_as s a p fs false (Some bs) =
    starts_within s 1 a p _
    (starts_made s a (with_all bs (deeper 1 a)) p s (each_inner fs) InSequence tt (tables_grow_reflexive s) (none_defined s) (λ e. refl) (inner_ordinary fs) (λ e rs u. none_defined u))

starts_with_functions_as : (s : Tables) (kept : Bool) (a : StaticContext) (p : Place) (bs : Item) (fs : List Item) (qs : Option (List Pair)) → Starts s a.spot.top (with_functions_as kept a s p bs fs qs)
starts_with_functions_as s kept a p bs fs None = starts_within s 1 a p _ tt
starts_with_functions_as s kept a p bs fs (Some qs) = starts_functions_as s a p fs kept (functions_of a qs)

pub starts_with_functions : (s : Tables) (kept : Bool) (a : StaticContext) (p : Place) (ds : List Item) → Starts s a.spot.top (with_functions_row kept a s p ds)
starts_with_functions s kept a p [] = tt
starts_with_functions s kept a p (bs ∷ fs) = starts_with_functions_as s kept a p bs fs (pairs_in s.words bs)
