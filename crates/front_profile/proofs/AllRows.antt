-- The node of every good datum at a good place beside whole tables is apt.
use Rattle.std.proofs.Common.{◌≡◌, refl, arith}
use Rattle.std.specs.Prelude.{ℕ, nat_le, true, false, List, [], ◌∷◌, Option, Some, None, length}
use Rattle.base.specs.declared.place.Place.{Place}
use Rattle.base.specs.declared.datum.Symbol.{Symbol}
use Rattle.base.specs.declared.datum.Symbol.TheVariants.{Named, Fresh}
use Rattle.base.specs.declared.reason.Refusal.{Refusal}
use Rattle.base.specs.Data.{Item, item, integer, character, symbol, string, vector, nil, list, items_list, Tail, no_tail, dotted}
use Rattle.base.specs.DataFormed.{formed_tells}
use Rattle.base.specs.DataNames.{symbol_text}
use Rattle.base.specs.AllOf.{AllOf}
use Rattle.base.specs.WellFormedData.{WellFormed}
use Rattle.lang_meaning.specs.declared.program.LiteralRow.TheVariants as row
use Rattle.lang_derived.specs.Asked.{list_items}
use Rattle.lang_derived.specs.Derived.{Derivation, plain, unfit, becomes, derivation}
use Rattle.front_profile.specs.declared.elaboration.Leaf.TheVariants.{NextMethod, HasNext}
use Rattle.lang_meaning.specs.declared.kinds.OverTwo.TheVariants.{Apply, While, Catch, Throw, Unwind, WithHandler}
use Rattle.front_profile.specs.declared.elaboration.DefinedAs.TheVariants.{Function, Macro}
use Rattle.front_profile.specs.declared.elaboration.Elaboration.TheVariants.{CallOfValue}
use Rattle.front_profile.specs.declared.special.Special.{Special}
use Rattle.front_profile.specs.declared.special.Special.TheVariants as name
use Rattle.front_profile.specs.declared.tables.Tables.{Tables}
use Rattle.front_profile.specs.Words.{is_left_out}
use Rattle.front_profile.specs.Names.{function_of}
use Rattle.front_profile.specs.Nodes.{StaticContext, Node}
use Rattle.front_profile.specs.Shapes.{symbol_of}
use Rattle.front_profile.specs.Rows.{first_reserved, functions_kept, special_row, special_node, without_dot, call_symbol, call_as, special_of, headed_as, is_lambda, headed_by_form, headed_by, list_node, plain_node, class_in_front, unless_refused, macro_called, most_expansions, most_in_row, called_or, derived_as, node}
use Rattle.front_profile.specs.bridge.WellFormedParts.{good_list}
use Rattle.front_profile.specs.Definitions.{defined}
use Rattle.front_profile.specs.Places.{scope_of}
use Rattle.front_profile.proofs.Places.{function_there}
use Rattle.front_profile.proofs.Definitions.{entered_same, counted_same}
use Rattle.front_profile.proofs.Wanted.{right_at, AptSteps, AptAt, Stage}
use Rattle.front_profile.proofs.Apt.{apt_if, apt_literal}
use Rattle.front_profile.proofs.ValueRows.{apt_symbol, apt_quote, apt_setq, apt_progn, apt_cond, apt_two, apt_body, apt_dynamic, apt_set_dynamic, apt_function, apt_method, next_of_methods, has_of_methods, apt_class}
use Rattle.front_profile.proofs.ExitRows.{apt_block, apt_return_from, apt_tagbody, apt_go}
use Rattle.front_profile.proofs.CallRows.{of_value, apt_all_parts, apt_named_call, apt_local_call}
use Rattle.front_profile.proofs.BinderRows.{apt_let, apt_dynamic_let, apt_lambda, apt_with_functions}
use Rattle.front_profile.proofs.ClassRules.{ClassRules}
use Rattle.front_profile.proofs.GenericRows.{apt_defgeneric, apt_defmethod}
use Rattle.front_profile.proofs.ClassRows.{apt_defclass}
use Rattle.front_profile.proofs.DefiningRows.{apt_global, apt_defdynamic, apt_defun}

-- special and defining forms

module _ (rules : ClassRules) where
  apt_special : (names : List (List ℕ)) (n : ℕ) (x : Special) (a : StaticContext) (s : Tables) (p : Place) (ds : List Item) → Stage a s → AllOf (WellFormed n) ds →
      AptAt n a s (special_row names x a s p ds)
  apt_special names n name.Quote a s p ds b g = apt_quote n a s p ds b g
  apt_special names n name.Setq a s p ds b g = apt_setq n a s p ds b g
  apt_special names n name.Cond a s p ds b g = apt_cond n a s p ds b g
  apt_special names n name.Progn a s p ds b g = apt_progn n a s p ds b g
  apt_special names n name.Let a s p ds b g = apt_let n a s p ds b g
  apt_special names n name.Lambda a s p ds b g = apt_lambda n a s p ds b g
  apt_special names n name.Apply a s p ds b g = apt_two n Apply a s p ds b g
  apt_special names n name.While a s p ds b g = apt_body n While a s p ds b g
  apt_special names n name.Block a s p ds b g = apt_block n a s p ds b g
  apt_special names n name.ReturnFrom a s p ds b g = apt_return_from n a s p ds b g
  apt_special names n name.Tagbody a s p ds b g = apt_tagbody n a s p ds b g
  apt_special names n name.Go a s p ds b g = apt_go n a s p ds b
  apt_special names n name.Catch a s p ds b g = apt_body n Catch a s p ds b g
  apt_special names n name.Throw a s p ds b g = apt_two n Throw a s p ds b g
  apt_special names n name.UnwindProtect a s p ds b g = apt_body n Unwind a s p ds b g
  apt_special names n name.DynamicLet a s p ds b g = apt_dynamic_let n a s p ds b g
  apt_special names n name.Dynamic a s p ds b g = apt_dynamic n a s p ds b
  apt_special names n name.SetDynamic a s p ds b g = apt_set_dynamic n a s p ds b g
  apt_special names n name.WithHandler a s p ds b g = apt_body n WithHandler a s p ds b g
  apt_special names n name.Function a s p ds b g = apt_function n a s p ds b
  apt_special names n name.Class a s p ds b g = apt_class n a s p ds b
  apt_special names n name.CallNextMethod a s p ds b g = apt_method n NextMethod a s p ds b next_of_methods
  apt_special names n name.NextMethodP a s p ds b g = apt_method n HasNext a s p ds b has_of_methods
  apt_special names n name.WithFunctions a s p ds b g = apt_with_functions n (functions_kept names ds) a s p ds b g
  apt_special names n name.Defglobal a s p ds b g = apt_global n false a s p ds b g
  apt_special names n name.Defconstant a s p ds b g = apt_global n true a s p ds b g
  apt_special names n name.Defdynamic a s p ds b g = apt_defdynamic n a s p ds b g
  apt_special names n name.Defun a s p ds b g = apt_defun n Function (first_reserved names ds) a s p ds b g
  apt_special names n name.Defmacro a s p ds b g = apt_defun n Macro (first_reserved names ds) a s p ds b g
  apt_special names n name.Defclass a s p ds b g = apt_defclass rules names n a s p ds b g
  apt_special names n name.Defgeneric a s p ds b g = apt_defgeneric names n a s p ds b g
  apt_special names n name.Defmethod a s p ds b g = apt_defmethod names n a s p ds b g

  apt_special_node : (names : List (List ℕ)) (n : ℕ) (x : Special) (a : StaticContext) (s : Tables) (p : Place) (ds : List Item) (t : Tail) → Stage a s → AllOf (WellFormed n) ds →
      AptAt n a s (special_node names x a s p ds t)
  apt_special_node names n x a s p ds no_tail b g = apt_special names n x a s p ds b g
  apt_special_node names n x a s p ds (dotted d) b g = tt

  -- calls

  apt_without_dot : (n : ℕ) (a : StaticContext) (s : Tables) (p : Place) (t : Tail) (x : Node) → AptAt n a s x → AptAt n a s (without_dot p t x)
  apt_without_dot n a s p no_tail x g = g
  apt_without_dot n a s p (dotted d) x g = tt

  apt_call_symbol : (n : ℕ) (x : Symbol) (text : Option (List ℕ)) (a : StaticContext) (s : Tables) (p : Place) (ds : List Item) → Stage a s → AllOf (WellFormed n) ds →
      AptAt n a s (call_symbol x text a s p ds)
  apt_call_symbol n (Named name) None a s p ds b g = tt
  apt_call_symbol n (Fresh e serial) None a s p ds b g = tt
  apt_call_symbol n (Named name) (Some text) a s p ds b g =
      apt_if n a s (is_left_out text) _ _ tt (apt_named_call n name text a s p ds b g)
  apt_call_symbol n (Fresh e serial) (Some text) a s p ds b g = tt

  apt_call : (n : ℕ) (x : Symbol) (text : Option (List ℕ)) (v : Option ℕ) (a : StaticContext) (s : Tables) (p : Place) (ds : List Item) → Stage a s →
      function_of a.bound x ≡ v → AllOf (WellFormed n) ds → AptAt n a s (call_as x text v a s p ds)
  apt_call n x text (Some v) a s p ds b e g = apt_local_call n v a s p ds b (function_there x (scope_of a).variables a.bound v b.good.functions e) g
  apt_call n x text None a s p ds b e g = apt_call_symbol n x text a s p ds b g

  -- lists, by what stands in front

  apt_headed : (names : List (List ℕ)) (n : ℕ) (x : Symbol) (special : Option Special) (a : StaticContext) (s : Tables) (p : Place) (ds : List Item) (t : Tail) → Stage a s →
      AllOf (WellFormed n) ds → AptAt n a s (headed_as names x special a s p ds t)
  apt_headed names n x (Some special) a s p ds t b g = apt_special_node names n special a s p ds t b g
  apt_headed names n x None a s p ds t b g =
      apt_without_dot n a s p t _ (apt_call n x (symbol_text names x) (function_of a.bound x) a s p ds b refl g)

  apt_by_form : (names : List (List ℕ)) (n : ℕ) (h : Item) (a : StaticContext) (s : Tables) (p : Place) (ds : List Item) (t : Tail) → Stage a s → WellFormed n h →
      AllOf (WellFormed n) ds → AptAt n a s (headed_by_form names h a s p ds t)
  apt_by_form names n h a s p ds t b f g =
      apt_if n a s (is_lambda names h) _ _
      (apt_without_dot n a s p t _ (apt_all_parts n CallOfValue a s p (h ∷ ds) b (f, g) (of_value (length (h ∷ ds)) (omega arith))))
      tt

  apt_headed_by : (names : List (List ℕ)) (n : ℕ) (h : Item) (x : Option Symbol) (a : StaticContext) (s : Tables) (p : Place) (ds : List Item) (t : Tail) → Stage a s →
      WellFormed n h → AllOf (WellFormed n) ds → AptAt n a s (headed_by names h x a s p ds t)
  apt_headed_by names n h (Some x) a s p ds t b f g = apt_headed names n x (special_of (symbol_text names x)) a s p ds t b g
  apt_headed_by names n h None a s p ds t b f g = apt_by_form names n h a s p ds t b f g

  apt_list : (names : List (List ℕ)) (n : ℕ) (a : StaticContext) (s : Tables) (p : Place) (ds : List Item) (t : Tail) → Stage a s → AllOf (WellFormed n) ds →
      AptAt n a s (list_node names a s p ds t)
  apt_list names n a s p [] t b g = tt
  apt_list names n a s p (h ∷ ds) t b g = apt_headed_by names n h (symbol_of h) a s p ds t b g.0 g.1

  apt_plain : (names : List (List ℕ)) (n : ℕ) (a : StaticContext) (s : Tables) (d : Item) → Stage a s → WellFormed n d → AptAt n a s (plain_node names a s d)
  apt_plain names n a s (item p (list ds t)) b g = apt_list names n a s p (items_list ds) t b (good_list n p ds t g)
  apt_plain names n a s (item p (symbol x)) b g = apt_symbol n a p s x b
  apt_plain names n a s (item p (integer z)) b g = apt_literal n a s p (row.Datum (item p (integer z))) b (formed_tells (item p (integer z)) g.formed)
  apt_plain names n a s (item p (character c)) b g = apt_literal n a s p (row.Datum (item p (character c))) b refl
  apt_plain names n a s (item p (string bytes)) b g = apt_literal n a s p (row.Datum (item p (string bytes))) b refl
  apt_plain names n a s (item p (vector ds)) b g = apt_literal n a s p (row.Datum (item p (vector ds))) b (formed_tells (item p (vector ds)) g.formed)
  apt_plain names n a s (item p nil) b g = apt_literal n a s p (row.Datum (item p nil)) b refl

  -- calls of macros, and derived forms

  apt_standing : (n : ℕ) (a : StaticContext) (s : Tables) (d : Item) → Stage a s → WellFormed n d → AptSteps (right_at a) a.spot n (defined s) a s d
  apt_standing n a s d b g = record {
    entered = entered_same (defined s) b.whole;
    good = b.good;
    datum = g;
    wanted = refl;
    same_spot = refl;
    start = counted_same a.spot.sited (defined s);
  }

  apt_called : (names : List (List ℕ)) (n : ℕ) (m : Option ℕ) (a : StaticContext) (s : Tables) (d : Item) → Stage a s → WellFormed n d
      → AptAt n a s (called_or m a s d (plain_node names a s d))
  apt_called names n None a s d b g = apt_plain names n a s d b g
  apt_called names n (Some m) a s d b g =
      apt_if n a s (nat_le most_expansions s.expansions) _ _ tt (apt_if n a s (nat_le most_in_row a.spot.in_row) _ _ tt (apt_standing n a s d b g))

  apt_derived : (names : List (List ℕ)) (n : ℕ) (x : Derivation) (a : StaticContext) (s : Tables) (d : Item) → Stage a s → WellFormed n d → AptAt n a s (derived_as names x a s d)
  apt_derived names n plain a s d b g = apt_called names n (macro_called names a s d) a s d b g
  apt_derived names n unfit a s d b g = tt
  apt_derived names n (becomes r) a s d b g = apt_standing n a s d b g

  apt_unless : (n : ℕ) (a : StaticContext) (s : Tables) (r : Option Refusal) (x : Node) → AptAt n a s x → AptAt n a s (unless_refused r x)
  apt_unless n a s None x h = h
  apt_unless n a s (Some r) x h = tt

  pub apt_node : (names : List (List ℕ)) (n : ℕ) (a : StaticContext) (s : Tables) (d : Item) → Stage a s → WellFormed n d → AptAt n a s (node names a s d)
  unfolding node
  apt_node names n a s d b g =
      apt_unless n a s (class_in_front names s (list_items d)) _ (apt_derived names n (derivation names (length s.fresh) d) a s d b g)
