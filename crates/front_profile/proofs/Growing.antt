-- Each row begins with tables that stand behind those in front of it, and below top level nothing is defined there.
use Rattle.std.proofs.Common.{◌≡◌, ◌||◌, if◌then◌else◌, take, is_some, refl, ap, ℕ, nat_le, Bool, true, false, List, [], ◌∷◌, length, Option, Some, None}
use Rattle.base.specs.declared.place.Place.{Place}
use Rattle.base.specs.declared.datum.Name.{Name}
use Rattle.base.specs.declared.datum.Symbol.{Symbol}
use Rattle.base.specs.declared.datum.Symbol.TheVariants.{Named, Fresh}
use Rattle.base.specs.declared.reason.Refusal.{Refusal}
use Rattle.base.specs.Data.{Item, item, integer, character, symbol, string, vector, nil, list, items_list, Tail, no_tail, dotted}
use Rattle.base.specs.DataNames.{symbol_text}
use Rattle.lang_derived.specs.Asked.{list_items}
use Rattle.lang_derived.specs.Derived.{Derivation, plain, unfit, becomes, derivation}
use Rattle.front_profile.specs.declared.tables.Tables.{Tables}
use Rattle.front_profile.specs.declared.elaboration.Leaf.TheVariants.{NextMethod, HasNext}
use Rattle.lang_meaning.specs.declared.kinds.OverTwo.TheVariants.{Apply, While, Catch, Throw, Unwind, WithHandler}
use Rattle.front_profile.specs.declared.elaboration.DefinedAs.TheVariants.{Function, Macro}
use Rattle.front_profile.specs.declared.elaboration.Elaboration.TheVariants.{CallOfValue}
use Rattle.front_profile.specs.declared.special.Special.{Special}
use Rattle.front_profile.specs.declared.special.Special.TheVariants as name
use Rattle.front_profile.specs.Words.{is_left_out}
use Rattle.front_profile.specs.Names.{function_of}
use Rattle.front_profile.specs.Nodes.{StaticContext, Node}
use Rattle.front_profile.specs.Shapes.{symbol_of, clauses_in}
use Rattle.front_profile.specs.GivenNames.{unfit}
use Rattle.front_profile.specs.Rows.{first_reserved, functions_kept, special_row, special_node, without_dot, call_symbol, call_as, special_of, headed_as, is_lambda, headed_by_form, headed_by, list_node, plain_node, class_in_front, unless_refused, macro_named, macros_before, macro_of_symbol, macro_of_items, macro_called, most_expansions, most_in_row, called_or, settled_node, derived_as, node}
use Rattle.front_profile.specs.bridge.Growing.{tables_grow_reflexive}
use Rattle.front_profile.proofs.Starting.{NodeBegins, names_same, none_defined, Starts, begins_so, starts_if, starts_literal}
use Rattle.front_profile.proofs.StartingForms.{starts_symbol, starts_quote, starts_setq, starts_progn, starts_cond_as, starts_two, starts_body, starts_dynamic, starts_set_dynamic, starts_function, starts_method, starts_class, starts_block, starts_return_from, starts_tagbody, starts_go, starts_all_parts, call_nothing, call_simple, starts_local_call, starts_let, starts_dynamic_let, starts_lambda, starts_with_functions}
use Rattle.front_profile.proofs.StartingDefinitions.{starts_global, starts_defdynamic, starts_defun, starts_defgeneric, starts_defmethod, starts_defclass}

-- all rows

starts_special : (names : List (List ℕ)) (s : Tables) (x : Special) (a : StaticContext) (p : Place) (ds : List Item) → Starts s a.spot.top (special_row names x a s p ds)
starts_special names s name.Quote a p ds = starts_quote s a p ds
starts_special names s name.Setq a p ds = starts_setq s a p ds
starts_special names s name.Cond a p ds = starts_cond_as s a p (clauses_in ds)
starts_special names s name.Progn a p ds = starts_progn s a p ds
starts_special names s name.Let a p ds = starts_let s a p ds
starts_special names s name.Lambda a p ds = starts_lambda s a p ds
starts_special names s name.Apply a p ds = starts_two s Apply a p ds
starts_special names s name.While a p ds = starts_body s While a p ds
starts_special names s name.Block a p ds = starts_block s a p ds
starts_special names s name.ReturnFrom a p ds = starts_return_from s a p ds
starts_special names s name.Tagbody a p ds = starts_tagbody s a p ds
starts_special names s name.Go a p ds = starts_go s a p ds
starts_special names s name.Catch a p ds = starts_body s Catch a p ds
starts_special names s name.Throw a p ds = starts_two s Throw a p ds
starts_special names s name.UnwindProtect a p ds = starts_body s Unwind a p ds
starts_special names s name.DynamicLet a p ds = starts_dynamic_let s a p ds
starts_special names s name.Dynamic a p ds = starts_dynamic s a p ds
starts_special names s name.SetDynamic a p ds = starts_set_dynamic s a p ds
starts_special names s name.WithHandler a p ds = starts_body s WithHandler a p ds
starts_special names s name.Function a p ds = starts_function s a p ds
starts_special names s name.Class a p ds = starts_class s a p ds
starts_special names s name.CallNextMethod a p ds = starts_method s NextMethod a p ds
starts_special names s name.NextMethodP a p ds = starts_method s HasNext a p ds
starts_special names s name.WithFunctions a p ds = starts_with_functions s (functions_kept names ds) a p ds
starts_special names s name.Defglobal a p ds = starts_global s false a p ds
starts_special names s name.Defconstant a p ds = starts_global s true a p ds
starts_special names s name.Defdynamic a p ds = starts_defdynamic s a p ds
starts_special names s name.Defun a p ds = starts_defun s Function (first_reserved names ds) a p ds
starts_special names s name.Defmacro a p ds = starts_defun s Macro (first_reserved names ds) a p ds
starts_special names s name.Defclass a p ds = starts_defclass names s a p ds
starts_special names s name.Defgeneric a p ds = starts_defgeneric names s a p ds
starts_special names s name.Defmethod a p ds = starts_defmethod names s a p ds

starts_special_node : (names : List (List ℕ)) (s : Tables) (x : Special) (a : StaticContext) (p : Place) (ds : List Item) (t : Tail) → Starts s a.spot.top (special_node names x a s p ds t)
starts_special_node names s x a p ds no_tail = starts_special names s x a p ds
starts_special_node names s x a p ds (dotted d) = tt

starts_without_dot : (s : Tables) (top : Bool) (p : Place) (t : Tail) (x : Node) → Starts s top x → Starts s top (without_dot p t x)
starts_without_dot s top p no_tail x h = h
starts_without_dot s top p (dotted d) x h = tt

starts_call_symbol : (s : Tables) (x : Symbol) (text : Option (List ℕ)) (a : StaticContext) (p : Place) (ds : List Item) → Starts s a.spot.top (call_symbol x text a s p ds)
starts_call_symbol s (Named n) None a p ds = tt
starts_call_symbol s (Fresh e serial) None a p ds = tt
starts_call_symbol s (Named n) (Some text) a p ds = starts_if s a.spot.top (is_left_out text) _ _ tt (starts_all_parts s _ a p ds (call_simple n text (length ds)) (call_nothing n text (length ds)))
starts_call_symbol s (Fresh e serial) (Some text) a p ds = tt

starts_call : (s : Tables) (x : Symbol) (text : Option (List ℕ)) (v : Option ℕ) (a : StaticContext) (p : Place) (ds : List Item) → Starts s a.spot.top (call_as x text v a s p ds)
starts_call s x text (Some v) a p ds = starts_local_call s v a p ds
starts_call s x text None a p ds = starts_call_symbol s x text a p ds

starts_headed : (names : List (List ℕ)) (s : Tables) (x : Symbol) (special : Option Special) (a : StaticContext) (p : Place) (ds : List Item) (t : Tail) → Starts s a.spot.top (headed_as names x special a s p ds t)
starts_headed names s x (Some special) a p ds t = starts_special_node names s special a p ds t
starts_headed names s x None a p ds t = starts_without_dot s a.spot.top p t _ (starts_call s x (symbol_text names x) (function_of a.bound x) a p ds)

starts_by_form : (names : List (List ℕ)) (s : Tables) (h : Item) (a : StaticContext) (p : Place) (ds : List Item) (t : Tail) → Starts s a.spot.top (headed_by_form names h a s p ds t)
starts_by_form names s h a p ds t =
    starts_if s a.spot.top (is_lambda names h) _ _ (starts_without_dot s a.spot.top p t _ (starts_all_parts s CallOfValue a p (h ∷ ds) tt (λ rs u. none_defined u))) tt

starts_headed_by : (names : List (List ℕ)) (s : Tables) (h : Item) (x : Option Symbol) (a : StaticContext) (p : Place) (ds : List Item) (t : Tail) → Starts s a.spot.top (headed_by names h x a s p ds t)
starts_headed_by names s h (Some x) a p ds t = starts_headed names s x (special_of (symbol_text names x)) a p ds t
starts_headed_by names s h None a p ds t = starts_by_form names s h a p ds t

starts_list : (names : List (List ℕ)) (s : Tables) (a : StaticContext) (p : Place) (ds : List Item) (t : Tail) → Starts s a.spot.top (list_node names a s p ds t)
starts_list names s a p [] t = tt
starts_list names s a p (h ∷ ds) t = starts_headed_by names s h (symbol_of h) a p ds t

pub starts_plain_node : (names : List (List ℕ)) (s : Tables) (a : StaticContext) (d : Item) → Starts s a.spot.top (plain_node names a s d)
starts_plain_node names s a (item p (list ds t)) = starts_list names s a p (items_list ds) t
starts_plain_node names s a (item p (symbol x)) = starts_symbol s a p x
starts_plain_node names s a (item p (integer z)) = starts_literal s a p _
starts_plain_node names s a (item p (character c)) = starts_literal s a p _
starts_plain_node names s a (item p (string bytes)) = starts_literal s a p _
starts_plain_node names s a (item p (vector ds)) = starts_literal s a p _
starts_plain_node names s a (item p nil) = starts_literal s a p _

-- where no macro applies none is called

none_named : (s : Tables) (n : Name) → s.before.macros ≡ 0 → macro_named (macros_before s) n ≡ None
none_named s n e = ap (λ k. macro_named (take k s.macros) n) e

none_of_symbol : (names : List (List ℕ)) (s : Tables) (x : Option Symbol) (a : StaticContext) → s.before.macros ≡ 0 → macro_of_symbol names a s x ≡ None
none_of_symbol names s None a e = refl
none_of_symbol names s (Some (Fresh k serial)) a e = refl
none_of_symbol names s (Some (Named n)) a e =
    by_test (is_some (special_of (symbol_text names (Named n))) || is_some (function_of a.bound (Named n))) (none_named s n e)
  where
    by_test : (b : Bool) → macro_named (macros_before s) n ≡ None → (if b then None else macro_named (macros_before s) n) ≡ None
    by_test true h = refl
    by_test false h = h

none_of_items : (names : List (List ℕ)) (s : Tables) (ds : Option (List Item)) (a : StaticContext) → s.before.macros ≡ 0 → macro_of_items names a s ds ≡ None
none_of_items names s None a e = refl
none_of_items names s (Some []) a e = refl
none_of_items names s (Some (h ∷ ds)) a e = none_of_symbol names s (symbol_of h) a e

pub none_called : (names : List (List ℕ)) (s : Tables) (a : StaticContext) (d : Item) → s.before.macros ≡ 0 → macro_called names a s d ≡ None
none_called names s a d e = none_of_items names s (list_items d) a e

starts_called : (names : List (List ℕ)) (s : Tables) (m : Option ℕ) (a : StaticContext) (d : Item) → macro_called names a s d ≡ m
    → Starts s a.spot.top (called_or m a s d (plain_node names a s d))
starts_called names s None a d c = starts_plain_node names s a d
starts_called names s (Some m) a d c =
    starts_if s a.spot.top (nat_le most_expansions s.expansions) _ _ tt
    (starts_if s a.spot.top (nat_le most_in_row a.spot.in_row) _ _ tt (
      record { grows = tables_grow_reflexive s; names = names_same s; low = λ e. (e, none_defined s) },
      λ e. absurd (cc (c, none_called names s a d e)),
    ))

pub starts_settled : (names : List (List ℕ)) (s : Tables) (a : StaticContext) (d : Item) → Starts s a.spot.top (settled_node names a s d)
starts_settled names s a d = starts_called names s (macro_called names a s d) a d refl

starts_derived : (names : List (List ℕ)) (s : Tables) (x : Derivation) (a : StaticContext) (d : Item) → Starts s a.spot.top (derived_as names x a s d)
starts_derived names s plain a d = starts_settled names s a d
starts_derived names s unfit a d = tt
starts_derived names s (becomes r) a d = record { grows = tables_grow_reflexive s; names = names_same s; low = λ e. (e, none_defined s) }

starts_unless : (s : Tables) (top : Bool) (r : Option Refusal) (x : Node) → Starts s top x → Starts s top (unless_refused r x)
starts_unless s top None x h = h
starts_unless s top (Some r) x h = tt

pub starts_node : (names : List (List ℕ)) (s : Tables) (a : StaticContext) (d : Item) → Starts s a.spot.top (node names a s d)
unfolding node
starts_node names s a d = starts_unless s a.spot.top (class_in_front names s (list_items d)) _ (starts_derived names s (derivation names _ d) a d)

-- by what they grow
pub begins_node : (names : List (List ℕ)) (s : Tables) (a : StaticContext) (d : Item) → NodeBegins s (node names a s d)
begins_node names s a d = begins_so s a.spot.top (node names a s d) (starts_node names s a d)
