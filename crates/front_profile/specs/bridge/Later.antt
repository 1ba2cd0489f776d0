-- The node of a datum that is no derived form stays the same under every later table of names, unless the earlier one lacks a name.
use Rattle.std.proofs.Common.{◌≡◌, List, [], ◌∷◌, inr, length, refl, ap, subst, ◌∙◌}
use Rattle.std.specs.Prelude.{ℕ, Bool, ◌||◌, Option, Some, None, if◌then◌else◌, is_some}
use Rattle.base.specs.declared.place.Place.{Place}
use Rattle.base.specs.declared.datum.Symbol.{Symbol}
use Rattle.base.specs.declared.datum.Symbol.TheVariants.{Named, Fresh}
use Rattle.base.specs.Names.{Extends}
use Rattle.base.specs.Data.{Item, item, integer, character, symbol, string, vector, nil, list, items_list, Tail, no_tail, dotted}
use Rattle.base.specs.DataNames.{symbol_text, text_of, text_same}
use Rattle.base.specs.AllOf.{AllOf}
use Rattle.base.specs.WellFormedData.{WellFormed}
use Rattle.lang_derived.specs.Asked.{list_items}
use Rattle.front_profile.specs.declared.elaboration.DefinedAs.TheVariants.{Function, Macro}
use Rattle.front_profile.specs.declared.elaboration.Elaboration.TheVariants.{CallOfValue}
use Rattle.front_profile.specs.declared.special.Special.{Special}
use Rattle.front_profile.specs.declared.special.Special.TheVariants as name
use Rattle.front_profile.specs.declared.tables.Tables.{Tables}
use Rattle.front_profile.specs.Names.{function_of}
use Rattle.front_profile.specs.Nodes.{StaticContext, offends, NodeStays}
use Rattle.front_profile.specs.BindingRows.{with_functions_row}
use Rattle.front_profile.specs.DefiningRows.{defun_row}
use Rattle.front_profile.specs.CallRows.{all_parts}
use Rattle.base.specs.declared.reason.Reason.TheVariants.{NotAForm}
use Rattle.front_profile.specs.Rows.{kept_text, reserved_text, first_reserved, first_kept, some_kept, functions_kept, special_row, special_node, without_dot, call_as, special_of, headed_as, headed, is_lambda_name, is_lambda_items, is_lambda, headed_by_form, list_node, plain_node, macro_named, macros_before, macro_of_symbol, macro_of_items, macro_called}
use Rattle.front_profile.specs.bridge.LaterNames.{same_text}
use Rattle.front_profile.specs.bridge.LaterDefinitions.{defgeneric_later, defmethod_later}
use Rattle.front_profile.specs.bridge.LaterClasses.{defclass_later}
use Rattle.front_profile.specs.bridge.WellFormedParts.{MaybeGood, good_parts, good_list}

-- whether names are kept by the language

same_reserved : (old new : List (List ℕ)) (ds : List Item) → Extends old new → AllOf (WellFormed (length old)) ds → first_reserved old ds ≡ first_reserved new ds
same_reserved old new [] e g = refl
same_reserved old new (d ∷ ds) e g = ap (λ t. reserved_text t) (same_text old new d e g.0)

same_kept : (old new : List (List ℕ)) (ds : Option (List Item)) → Extends old new → MaybeGood (length old) ds → first_kept old ds ≡ first_kept new ds
same_kept old new None e g = refl
same_kept old new (Some []) e g = refl
same_kept old new (Some (d ∷ ds)) e g = ap (λ t. kept_text t) (same_text old new d e g.0)

same_somewhere : (old new : List (List ℕ)) (ds : List Item) → Extends old new → AllOf (WellFormed (length old)) ds → some_kept old (Some ds) ≡ some_kept new (Some ds)
same_somewhere old new [] e g = refl
same_somewhere old new (d ∷ ds) e g =
    let here : first_kept old (list_items d) ≡ first_kept new (list_items d) = same_kept old new (list_items d) e (good_parts (length old) d g.0) in
    let rest : some_kept old (Some ds) ≡ some_kept new (Some ds) = same_somewhere old new ds e g.1 in
    ap (λ b. b || some_kept old (Some ds)) here ∙ ap (λ b. first_kept new (list_items d) || b) rest

same_some_kept : (old new : List (List ℕ)) (ds : Option (List Item)) → Extends old new → MaybeGood (length old) ds → some_kept old ds ≡ some_kept new ds
same_some_kept old new None e g = refl
same_some_kept old new (Some ds) e g = same_somewhere old new ds e g

same_functions : (old new : List (List ℕ)) (ds : List Item) → Extends old new → AllOf (WellFormed (length old)) ds → functions_kept old ds ≡ functions_kept new ds
same_functions old new [] e g = refl
same_functions old new (d ∷ ds) e g = same_some_kept old new (list_items d) e (good_parts (length old) d g.0)

-- whether a datum is a lambda form

lambda_items_later : (old new : List (List ℕ)) (ds : List Item) → Extends old new → AllOf (WellFormed (length old)) ds → is_lambda_items old ds ≡ is_lambda_items new ds
lambda_items_later old new [] e g = refl
lambda_items_later old new (d ∷ ds) e g = ap (λ t. is_lambda_name (special_of t)) (same_text old new d e g.0)

lambda_later : (old new : List (List ℕ)) (d : Item) → Extends old new → WellFormed (length old) d → is_lambda old d ≡ is_lambda new d
lambda_later old new (item p (list ds t)) e g = lambda_items_later old new (items_list ds) e (good_list (length old) p ds t g)
lambda_later old new (item p (integer n)) e g = refl
lambda_later old new (item p (character c)) e g = refl
lambda_later old new (item p (symbol x)) e g = refl
lambda_later old new (item p (string bytes)) e g = refl
lambda_later old new (item p (vector ds)) e g = refl
lambda_later old new (item p nil) e g = refl

-- the rows, by what stands behind the name
row_later : (old new : List (List ℕ)) (x : Special) (a : StaticContext) (s : Tables) (p : Place) (ds : List Item) → Extends old new →
    AllOf (WellFormed (length old)) ds → NodeStays (special_row old x a s p ds) (special_row new x a s p ds)
row_later old new name.WithFunctions a s p ds e g = inr (ap (λ kept. with_functions_row kept a s p ds) (same_functions old new ds e g))
row_later old new name.Defun a s p ds e g = inr (ap (λ kept. defun_row Function kept a s p ds) (same_reserved old new ds e g))
row_later old new name.Defmacro a s p ds e g = inr (ap (λ kept. defun_row Macro kept a s p ds) (same_reserved old new ds e g))
row_later old new name.Defclass a s p ds e g = defclass_later old new a s p ds e g
row_later old new name.Defgeneric a s p ds e g = defgeneric_later old new a s p ds e g
row_later old new name.Defmethod a s p ds e g = defmethod_later old new a s p ds e g
row_later old new x a s p ds e g = inr refl

special_later : (old new : List (List ℕ)) (x : Special) (a : StaticContext) (s : Tables) (p : Place) (ds : List Item) (t : Tail) → Extends old new →
    AllOf (WellFormed (length old)) ds → NodeStays (special_node old x a s p ds t) (special_node new x a s p ds t)
special_later old new x a s p ds no_tail e g = row_later old new x a s p ds e g
special_later old new x a s p ds (dotted d) e g = inr refl

headed_as_later : (old new : List (List ℕ)) (x : Symbol) (name : Option Special) (a : StaticContext) (s : Tables) (p : Place) (ds : List Item) (t : Tail) →
    Extends old new → AllOf (WellFormed (length old)) ds → symbol_text old x ≡ symbol_text new x →
    NodeStays (headed_as old x name a s p ds t) (headed_as new x name a s p ds t)
headed_as_later old new x None a s p ds t e g same =
    inr (ap (λ text. without_dot p t (call_as x text (function_of a.bound x) a s p ds)) same)
headed_as_later old new x (Some special) a s p ds t e g same = special_later old new special a s p ds t e g

headed_later : (old new : List (List ℕ)) (x : Symbol) (a : StaticContext) (s : Tables) (p : Place) (ds : List Item) (t : Tail) → Extends old new →
    AllOf (WellFormed (length old)) ds → symbol_text old x ≡ symbol_text new x → NodeStays (headed old x a s p ds t) (headed new x a s p ds t)
headed_later old new x a s p ds t e g same =
    subst (λ (text : Option (List ℕ)). NodeStays (headed old x a s p ds t) (headed_as new x (special_of text) a s p ds t)) same
    (headed_as_later old new x (special_of (symbol_text old x)) a s p ds t e g same)

by_form_later : (old new : List (List ℕ)) (h : Item) (a : StaticContext) (s : Tables) (p : Place) (ds : List Item) (t : Tail) → Extends old new →
    WellFormed (length old) h → NodeStays (headed_by_form old h a s p ds t) (headed_by_form new h a s p ds t)
by_form_later old new h a s p ds t e g =
    inr (ap (λ (b : Bool). if b then without_dot p t (all_parts CallOfValue a s p (h ∷ ds)) else offends p NotAForm) (lambda_later old new h e g))

list_later : (old new : List (List ℕ)) (a : StaticContext) (s : Tables) (p : Place) (ds : List Item) (t : Tail) → Extends old new →
    AllOf (WellFormed (length old)) ds → NodeStays (list_node old a s p ds t) (list_node new a s p ds t)
list_later old new a s p [] t e g = inr refl
list_later old new a s p (item q (symbol x) ∷ ds) t e g = headed_later old new x a s p ds t e g.1 (same_text old new (item q (symbol x)) e g.0)
list_later old new a s p (item q (integer n) ∷ ds) t e g = by_form_later old new (item q (integer n)) a s p ds t e g.0
list_later old new a s p (item q (character c) ∷ ds) t e g = by_form_later old new (item q (character c)) a s p ds t e g.0
list_later old new a s p (item q (string bytes) ∷ ds) t e g = by_form_later old new (item q (string bytes)) a s p ds t e g.0
list_later old new a s p (item q (vector es) ∷ ds) t e g = by_form_later old new (item q (vector es)) a s p ds t e g.0
list_later old new a s p (item q nil ∷ ds) t e g = by_form_later old new (item q nil) a s p ds t e g.0
list_later old new a s p (item q (list es u) ∷ ds) t e g = by_form_later old new (item q (list es u)) a s p ds t e g.0

-- a node stays under every later table
pub plain_later : (old new : List (List ℕ)) (a : StaticContext) (s : Tables) (d : Item) → Extends old new → WellFormed (length old) d → NodeStays (plain_node old a s d) (plain_node new a s d)
plain_later old new a s (item p (list ds t)) e g = list_later old new a s p (items_list ds) t e (good_list (length old) p ds t g)
plain_later old new a s (item p (symbol x)) e g = inr refl
plain_later old new a s (item p (integer n)) e g = inr refl
plain_later old new a s (item p (character c)) e g = inr refl
plain_later old new a s (item p (string bytes)) e g = inr refl
plain_later old new a s (item p (vector ds)) e g = inr refl
plain_later old new a s (item p nil) e g = inr refl

-- and so does the macro that it calls

macro_symbol_later : (old new : List (List ℕ)) (a : StaticContext) (s : Tables) (x : Symbol) → symbol_text old x ≡ symbol_text new x
    → macro_of_symbol old a s (Some x) ≡ macro_of_symbol new a s (Some x)
macro_symbol_later old new a s (Fresh e serial) same = refl
macro_symbol_later old new a s (Named n) same =
    ap (λ text. if is_some (special_of text) || is_some (function_of a.bound (Named n)) then None else macro_named (macros_before s) n) same

macro_items_later : (old new : List (List ℕ)) (a : StaticContext) (s : Tables) (ds : Option (List Item)) → Extends old new → MaybeGood (length old) ds
    → macro_of_items old a s ds ≡ macro_of_items new a s ds
macro_items_later old new a s None e g = refl
macro_items_later old new a s (Some []) e g = refl
macro_items_later old new a s (Some (item q (symbol x) ∷ ds)) e g = macro_symbol_later old new a s x (same_text old new (item q (symbol x)) e g.0)
macro_items_later old new a s (Some (item q (integer n) ∷ ds)) e g = refl
macro_items_later old new a s (Some (item q (character c) ∷ ds)) e g = refl
macro_items_later old new a s (Some (item q (string bytes) ∷ ds)) e g = refl
macro_items_later old new a s (Some (item q (vector es) ∷ ds)) e g = refl
macro_items_later old new a s (Some (item q nil ∷ ds)) e g = refl
macro_items_later old new a s (Some (item q (list es u) ∷ ds)) e g = refl

pub macro_later : (old new : List (List ℕ)) (a : StaticContext) (s : Tables) (d : Item) → Extends old new → WellFormed (length old) d
    → macro_called old a s d ≡ macro_called new a s d
macro_later old new a s d e g = macro_items_later old new a s (list_items d) e (good_parts (length old) d g)
