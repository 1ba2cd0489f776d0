-- Every row of good data has sound parts, so judging ends.
use Rattle.std.specs.Prelude.{ℕ, true, false, List, [], ◌∷◌, Option, Some, None, length}
use Rattle.base.specs.declared.place.Place.{Place}
use Rattle.base.specs.declared.datum.Symbol.{Symbol}
use Rattle.base.specs.declared.datum.Symbol.TheVariants.{Named, Fresh}
use Rattle.base.specs.Data.{Item, item, integer, character, symbol, string, vector, nil, list, items_list, Tail, no_tail, dotted}
use Rattle.base.specs.DataNames.{symbol_text}
use Rattle.base.specs.AllOf.{AllOf}
use Rattle.base.specs.WellFormedData.{WellFormed}
use Rattle.front_profile.specs.declared.elaboration.Leaf.TheVariants.{NextMethod, HasNext}
use Rattle.lang_meaning.specs.declared.kinds.OverTwo.TheVariants.{Apply, While, Catch, Throw, Unwind, WithHandler}
use Rattle.front_profile.specs.declared.elaboration.DefinedAs.TheVariants.{Function, Macro}
use Rattle.front_profile.specs.declared.elaboration.Elaboration.TheVariants.{CallOfValue}
use Rattle.front_profile.specs.declared.special.Special.{Special}
use Rattle.front_profile.specs.declared.special.Special.TheVariants as name
use Rattle.front_profile.specs.declared.tables.Tables.{Tables}
use Rattle.front_profile.specs.Words.{is_left_out}
use Rattle.front_profile.specs.Names.{function_of}
use Rattle.front_profile.specs.Nodes.{StaticContext, Node}
use Rattle.front_profile.specs.Shapes.{symbol_of}
use Rattle.front_profile.specs.CallRows.{call_making}
use Rattle.front_profile.specs.Rows.{first_reserved, functions_kept, special_row, special_node, without_dot, call_symbol, call_as, special_of, headed_as, is_lambda, headed_by_form, headed_by, list_node, plain_node}
use Rattle.front_profile.specs.Sound.{weight, SoundNode}
use Rattle.front_profile.specs.bridge.WellFormedParts.{good_list}
use Rattle.front_profile.specs.bridge.SoundParts.{sound_if, sound_literal}
use Rattle.front_profile.specs.bridge.SoundForms.{sound_symbol, sound_quote, sound_setq, sound_progn, sound_cond, sound_two, sound_body, sound_dynamic, sound_set_dynamic, sound_function, sound_method, sound_class, sound_block, sound_return_from, sound_tagbody, sound_go, sound_all_parts, sound_local_call}
use Rattle.front_profile.specs.bridge.SoundDefinitions.{sound_defgeneric, sound_defmethod}
use Rattle.front_profile.specs.bridge.SoundClasses.{sound_defclass}
use Rattle.front_profile.specs.bridge.SoundBinders.{sound_let, sound_dynamic_let, sound_lambda, sound_with_functions, sound_global, sound_defdynamic, sound_defun}

-- special and defining forms
sound_special : (names : List (List ℕ)) (n : ℕ) (x : Special) (a : StaticContext) (s : Tables) (p : Place) (ds : List Item) → AllOf (WellFormed n) ds →
    SoundNode n (weight a.spot) (special_row names x a s p ds)
sound_special names n name.Quote a s p ds g = sound_quote n (weight a.spot) a s p ds
sound_special names n name.Setq a s p ds g = sound_setq n a s p ds g
sound_special names n name.Cond a s p ds g = sound_cond n a s p ds g
sound_special names n name.Progn a s p ds g = sound_progn n a s p ds g
sound_special names n name.Let a s p ds g = sound_let n a s p ds g
sound_special names n name.Lambda a s p ds g = sound_lambda n a s p ds g
sound_special names n name.Apply a s p ds g = sound_two n Apply a s p ds g
sound_special names n name.While a s p ds g = sound_body n While a s p ds g
sound_special names n name.Block a s p ds g = sound_block n a s p ds g
sound_special names n name.ReturnFrom a s p ds g = sound_return_from n a s p ds g
sound_special names n name.Tagbody a s p ds g = sound_tagbody n a s p ds g
sound_special names n name.Go a s p ds g = sound_go n (weight a.spot) a s p ds
sound_special names n name.Catch a s p ds g = sound_body n Catch a s p ds g
sound_special names n name.Throw a s p ds g = sound_two n Throw a s p ds g
sound_special names n name.UnwindProtect a s p ds g = sound_body n Unwind a s p ds g
sound_special names n name.DynamicLet a s p ds g = sound_dynamic_let n a s p ds g
sound_special names n name.Dynamic a s p ds g = sound_dynamic n (weight a.spot) a s p ds
sound_special names n name.SetDynamic a s p ds g = sound_set_dynamic n a s p ds g
sound_special names n name.WithHandler a s p ds g = sound_body n WithHandler a s p ds g
sound_special names n name.Function a s p ds g = sound_function n (weight a.spot) a s p ds
sound_special names n name.Class a s p ds g = sound_class n (weight a.spot) a s p ds
sound_special names n name.CallNextMethod a s p ds g = sound_method n (weight a.spot) NextMethod a s p ds
sound_special names n name.NextMethodP a s p ds g = sound_method n (weight a.spot) HasNext a s p ds
sound_special names n name.WithFunctions a s p ds g = sound_with_functions n (functions_kept names ds) a s p ds g
sound_special names n name.Defglobal a s p ds g = sound_global n false a s p ds g
sound_special names n name.Defconstant a s p ds g = sound_global n true a s p ds g
sound_special names n name.Defdynamic a s p ds g = sound_defdynamic n a s p ds g
sound_special names n name.Defun a s p ds g = sound_defun n Function (first_reserved names ds) a s p ds g
sound_special names n name.Defmacro a s p ds g = sound_defun n Macro (first_reserved names ds) a s p ds g
sound_special names n name.Defclass a s p ds g = sound_defclass names n a s p ds g
sound_special names n name.Defgeneric a s p ds g = sound_defgeneric names n a s p ds g
sound_special names n name.Defmethod a s p ds g = sound_defmethod names n a s p ds g

sound_special_node : (names : List (List ℕ)) (n : ℕ) (x : Special) (a : StaticContext) (s : Tables) (p : Place) (ds : List Item) (t : Tail) → AllOf (WellFormed n) ds →
    SoundNode n (weight a.spot) (special_node names x a s p ds t)
sound_special_node names n x a s p ds no_tail g = sound_special names n x a s p ds g
sound_special_node names n x a s p ds (dotted d) g = tt

-- calls

sound_without_dot : (n w : ℕ) (p : Place) (t : Tail) (x : Node) → SoundNode n w x → SoundNode n w (without_dot p t x)
sound_without_dot n w p no_tail x g = g
sound_without_dot n w p (dotted d) x g = tt

sound_call_symbol : (n : ℕ) (x : Symbol) (text : Option (List ℕ)) (a : StaticContext) (s : Tables) (p : Place) (ds : List Item) → AllOf (WellFormed n) ds →
    SoundNode n (weight a.spot) (call_symbol x text a s p ds)
sound_call_symbol n (Named name) None a s p ds g = tt
sound_call_symbol n (Fresh e serial) None a s p ds g = tt
sound_call_symbol n (Named name) (Some text) a s p ds g =
    sound_if n (weight a.spot) (is_left_out text) _ _ tt (sound_all_parts n (call_making name text (length ds)) a s p ds g)
sound_call_symbol n (Fresh e serial) (Some text) a s p ds g = tt

sound_call : (n : ℕ) (x : Symbol) (text : Option (List ℕ)) (v : Option ℕ) (a : StaticContext) (s : Tables) (p : Place) (ds : List Item) → AllOf (WellFormed n) ds →
    SoundNode n (weight a.spot) (call_as x text v a s p ds)
sound_call n x text (Some v) a s p ds g = sound_local_call n v a s p ds g
sound_call n x text None a s p ds g = sound_call_symbol n x text a s p ds g

-- lists, by what stands in front

sound_headed : (names : List (List ℕ)) (n : ℕ) (x : Symbol) (special : Option Special) (a : StaticContext) (s : Tables) (p : Place) (ds : List Item) (t : Tail) →
    AllOf (WellFormed n) ds → SoundNode n (weight a.spot) (headed_as names x special a s p ds t)
sound_headed names n x (Some special) a s p ds t g = sound_special_node names n special a s p ds t g
sound_headed names n x None a s p ds t g =
    sound_without_dot n (weight a.spot) p t _ (sound_call n x (symbol_text names x) (function_of a.bound x) a s p ds g)

sound_by_form : (names : List (List ℕ)) (n : ℕ) (h : Item) (a : StaticContext) (s : Tables) (p : Place) (ds : List Item) (t : Tail) → WellFormed n h →
    AllOf (WellFormed n) ds → SoundNode n (weight a.spot) (headed_by_form names h a s p ds t)
sound_by_form names n h a s p ds t f g =
    sound_if n (weight a.spot) (is_lambda names h) _ _
    (sound_without_dot n (weight a.spot) p t _ (sound_all_parts n CallOfValue a s p (h ∷ ds) (f, g)))
    tt

sound_headed_by : (names : List (List ℕ)) (n : ℕ) (h : Item) (x : Option Symbol) (a : StaticContext) (s : Tables) (p : Place) (ds : List Item) (t : Tail) →
    WellFormed n h → AllOf (WellFormed n) ds → SoundNode n (weight a.spot) (headed_by names h x a s p ds t)
sound_headed_by names n h (Some x) a s p ds t f g = sound_headed names n x (special_of (symbol_text names x)) a s p ds t g
sound_headed_by names n h None a s p ds t f g = sound_by_form names n h a s p ds t f g

sound_list : (names : List (List ℕ)) (n : ℕ) (a : StaticContext) (s : Tables) (p : Place) (ds : List Item) (t : Tail) → AllOf (WellFormed n) ds →
    SoundNode n (weight a.spot) (list_node names a s p ds t)
sound_list names n a s p [] t g = tt
sound_list names n a s p (h ∷ ds) t g = sound_headed_by names n h (symbol_of h) a s p ds t g.0 g.1

-- the parts of a good datum are good and stand deeper
pub sound_node : (names : List (List ℕ)) (n : ℕ) (a : StaticContext) (s : Tables) (d : Item) → WellFormed n d → SoundNode n (weight a.spot) (plain_node names a s d)
sound_node names n a s (item p (list ds t)) g = sound_list names n a s p (items_list ds) t (good_list n p ds t g)
sound_node names n a s (item p (symbol x)) g = sound_symbol n (weight a.spot) a p s x
sound_node names n a s (item p (integer z)) g = sound_literal n (weight a.spot) a p s _
sound_node names n a s (item p (character c)) g = sound_literal n (weight a.spot) a p s _
sound_node names n a s (item p (string bytes)) g = sound_literal n (weight a.spot) a p s _
sound_node names n a s (item p (vector ds)) g = sound_literal n (weight a.spot) a p s _
sound_node names n a s (item p nil) g = sound_literal n (weight a.spot) a p s _
