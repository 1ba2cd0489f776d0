-- The rows of variables, values, exits and calls have sound parts.
use Rattle.std.proofs.Common.{◌≡◌, ℕ, ◌+◌, ◌<◌, ◌≤◌, Bool, true, false, ◌||◌, List, [], ◌∷◌, Option, Some, None, is_some, if◌then◌else◌, refl, arith}
use Rattle.std.specs.List.{list_any}
use Rattle.base.specs.declared.place.Place.{Place}
use Rattle.base.specs.declared.datum.Name.{Name}
use Rattle.base.specs.declared.datum.Symbol.{Symbol}
use Rattle.base.specs.declared.datum.Symbol.TheVariants.{Named, Fresh}
use Rattle.base.specs.declared.reason.Reason.{Reason}
use Rattle.base.specs.Data.{Item, item, integer, character, symbol, string, vector, nil, list, place_of}
use Rattle.base.specs.AllOf.{AllOf}
use Rattle.base.specs.WellFormedData.{WellFormed}
use Rattle.lang_classes.specs.InheritedClasses.{class_named}
use Rattle.front_profile.specs.declared.tables.Tables.{Tables}
use Rattle.front_profile.specs.declared.bound.Target.{Target}
use Rattle.front_profile.specs.declared.bound.Bound.TheVariants.{Block, Tags}
use Rattle.front_profile.specs.declared.elaboration.Leaf.{Leaf}
use Rattle.front_profile.specs.declared.elaboration.One.{One}
use Rattle.lang_meaning.specs.declared.kinds.OverTwo.{OverTwo}
use Rattle.front_profile.specs.declared.elaboration.Elaboration.{Elaboration}
use Rattle.front_profile.specs.Names.{variable_of, function_of, block_of, tag_of}
use Rattle.front_profile.specs.Nodes.{StaticContext, with_bound}
use Rattle.front_profile.specs.Shapes.{symbol_of, name_of, is_true, all_differ, tags_in, forms_in, ClauseParts, clauses_in}
use Rattle.front_profile.specs.RowWords.{deeper, deeper_at_top, no_such, each_below}
use Rattle.front_profile.specs.ValueRows.{free_symbol, symbol_as, symbol_node, quote_row, is_constant, one_part, set_free, set_as, set_datum, setq_row, progn_row, clause_length, clause_parts, own_depth, cond_as, cond_row, two_row, body_row, dynamic_name, dynamic_as, dynamic_row, set_dynamic_as, set_dynamic_row, function_named, function_as, function_symbol, function_row, method_row, class_of, class_symbol, class_datum, class_row}
use Rattle.front_profile.specs.ExitRows.{block_as, block_row, return_to_exit, return_as, return_from_row, tagbody_row, go_to, go_as, go_row}
use Rattle.front_profile.specs.CallRows.{all_parts, local_call}
use Rattle.front_profile.specs.Sound.{weight, HasBelow, AllSound, SoundNode}
use Rattle.front_profile.specs.bridge.WellFormedParts.{WellFormedClauses, MaybeClauses, good_clauses, good_forms}
use Rattle.front_profile.specs.bridge.SoundParts.{weight_deeper, weight_below, weight_at_top, sound_if, sound_within, sound_unsited, sound_literal, sound_at_once, both_sound, forms_sound, below_sound, inner_sound}

-- a symbol

sound_free_symbol : (n w : ℕ) (a : StaticContext) (p : Place) (s : Tables) (x : Symbol) → SoundNode n w (free_symbol a p s x)
sound_free_symbol n w a p s (Named name) = sound_at_once n w a p s _
sound_free_symbol n w a p s (Fresh e serial) = tt

sound_symbol_as : (n w : ℕ) (a : StaticContext) (p : Place) (s : Tables) (x : Symbol) (v : Option ℕ) → SoundNode n w (symbol_as a p s x v)
sound_symbol_as n w a p s x (Some v) = sound_unsited n w a p s _
sound_symbol_as n w a p s x None = sound_free_symbol n w a p s x

pub sound_symbol : (n w : ℕ) (a : StaticContext) (p : Place) (s : Tables) (x : Symbol) → SoundNode n w (symbol_node a p s x)
sound_symbol n w a p s x =
    sound_if n w (is_true s.words x) _ _ (sound_literal n w a p s _) (sound_symbol_as n w a p s x (variable_of a.bound x))

pub sound_quote : (n w : ℕ) (a : StaticContext) (s : Tables) (p : Place) (ds : List Item) → SoundNode n w (quote_row a s p ds)
sound_quote n w a s p (d ∷ []) = sound_literal n w a p s _
sound_quote n w a s p [] = tt
sound_quote n w a s p (d ∷ e ∷ ds) = tt

-- one part

pub sound_one : (n : ℕ) (a : StaticContext) (p : Place) (s : Tables) (k : One) (d : Item) → WellFormed n d → SoundNode n (weight a.spot) (one_part a p s k d)
sound_one n a p s k d g = sound_within n (weight a.spot) 1 a p _ (λ h. ((g, weight_deeper 1 a.spot (omega arith) h), tt))

-- setq

sound_set_free : (n : ℕ) (a : StaticContext) (s : Tables) (p : Place) (x : Symbol) (d : Item) → WellFormed n d → SoundNode n (weight a.spot) (set_free a s p x d)
sound_set_free n a s p (Named name) d g = sound_if n (weight a.spot) (is_constant s name) _ _ tt (sound_one n a p _ _ d g)
sound_set_free n a s p (Fresh e serial) d g = tt

sound_set_as : (n : ℕ) (a : StaticContext) (s : Tables) (p : Place) (x : Symbol) (v : Option ℕ) (d : Item) → WellFormed n d → SoundNode n (weight a.spot) (set_as a s p x v d)
sound_set_as n a s p x (Some v) d g = sound_one n a p s _ d g
sound_set_as n a s p x None d g = sound_set_free n a s p x d g

sound_set_datum : (n : ℕ) (a : StaticContext) (s : Tables) (p : Place) (v d : Item) → WellFormed n d → SoundNode n (weight a.spot) (set_datum a s p v d)
sound_set_datum n a s p (item q (symbol x)) d g =
    sound_if n (weight a.spot) (is_true s.words x) _ _ tt (sound_set_as n a s p x (variable_of a.bound x) d g)
sound_set_datum n a s p (item q nil) d g = tt
sound_set_datum n a s p (item q (integer z)) d g = tt
sound_set_datum n a s p (item q (character c)) d g = tt
sound_set_datum n a s p (item q (string bytes)) d g = tt
sound_set_datum n a s p (item q (vector ds)) d g = tt
sound_set_datum n a s p (item q (list ds t)) d g = tt

pub sound_setq : (n : ℕ) (a : StaticContext) (s : Tables) (p : Place) (ds : List Item) → AllOf (WellFormed n) ds → SoundNode n (weight a.spot) (setq_row a s p ds)
sound_setq n a s p (v ∷ x ∷ []) g = sound_set_datum n a s p v x g.1.0
sound_setq n a s p [] g = tt
sound_setq n a s p (d ∷ []) g = tt
sound_setq n a s p (d ∷ e ∷ f ∷ ds) g = tt

-- progn

pub sound_progn : (n : ℕ) (a : StaticContext) (s : Tables) (p : Place) (ds : List Item) → AllOf (WellFormed n) ds → SoundNode n (weight a.spot) (progn_row a s p ds)
sound_progn n a s p ds g = sound_within n (weight a.spot) 1 a p _ (λ h. inner_sound n (weight a.spot) (deeper 1 a) (deeper_at_top a) ds (weight_at_top a.spot h) g)

-- cond: where a clause has a body, the whole has two depths of its own

sound_clauses : (n w : ℕ) (o i : StaticContext) (cs : List ClauseParts) → weight o.spot < w → HasBelow w o.spot → WellFormedClauses n cs →
    AllSound n w o i (clause_parts cs)
sound_clauses n w o i [] h k g = tt
sound_clauses n w o i (c ∷ cs) h k g =
    ((g.0, h), both_sound n w o i (each_below c.body) (clause_parts cs) (below_sound n w o i c.body k g.1) (sound_clauses n w o i cs h k g.2))

bodiless : (n w : ℕ) (o i : StaticContext) (test : Item) (body : List Item) (cs : List ClauseParts) (b : Bool) →
    (is_some (clause_length (record { test = test; body = body })) || b) ≡ false →
    weight o.spot < w → WellFormed n test → (b ≡ false → AllSound n w o i (clause_parts cs)) → AllSound n w o i (clause_parts (record { test = test; body = body } ∷ cs))
bodiless n w o i test [] cs b e h g rest = ((g, h), rest e)
bodiless n w o i test (d ∷ ds) cs b e h g rest = absurd (cc)

sound_tests : (n w : ℕ) (o i : StaticContext) (cs : List ClauseParts) → list_any (λ c. is_some (clause_length c)) cs ≡ false → weight o.spot < w →
    WellFormedClauses n cs → AllSound n w o i (clause_parts cs)
sound_tests n w o i [] e h g = tt
sound_tests n w o i (c ∷ cs) e h g =
    bodiless n w o i c.test c.body cs (list_any (λ c. is_some (clause_length c)) cs) e h g.0 (λ f. sound_tests n w o i cs f h g.2)

by_depth : (n : ℕ) (a i : StaticContext) (cs : List ClauseParts) (some_body : Bool) → list_any (λ c. is_some (clause_length c)) cs ≡ some_body →
    WellFormedClauses n cs → a.spot.depth + (if some_body then 2 else 1) ≤ 1000 → AllSound n (weight a.spot) (deeper 1 a) i (clause_parts cs)
by_depth n a i cs true e g h = sound_clauses n (weight a.spot) (deeper 1 a) i cs (weight_deeper 1 a.spot (omega arith) (omega arith)) (weight_below a.spot h) g
by_depth n a i cs false e g h = sound_tests n (weight a.spot) (deeper 1 a) i cs e (weight_deeper 1 a.spot (omega arith) h) g

sound_cond_as : (n : ℕ) (a : StaticContext) (s : Tables) (p : Place) (cs : Option (List ClauseParts)) → MaybeClauses n cs → SoundNode n (weight a.spot) (cond_as a s p cs)
sound_cond_as n a s p None g = tt
sound_cond_as n a s p (Some cs) g = sound_within n (weight a.spot) (own_depth cs) a p _ (λ h. by_depth n a (deeper 1 a) cs (list_any (λ c. is_some (clause_length c)) cs) refl g h)

pub sound_cond : (n : ℕ) (a : StaticContext) (s : Tables) (p : Place) (ds : List Item) → AllOf (WellFormed n) ds → SoundNode n (weight a.spot) (cond_row a s p ds)
sound_cond n a s p ds g = sound_cond_as n a s p (clauses_in ds) (good_clauses n ds g)

-- two forms, and a form with a body

pub sound_two : (n : ℕ) (k : OverTwo) (a : StaticContext) (s : Tables) (p : Place) (ds : List Item) → AllOf (WellFormed n) ds → SoundNode n (weight a.spot) (two_row k a s p ds)
sound_two n k a s p (d ∷ e ∷ []) g =
    sound_within n (weight a.spot) 1 a p _ (λ h.
    ((g.0, weight_deeper 1 a.spot (omega arith) h), ((g.1.0, weight_deeper 1 a.spot (omega arith) h), tt)))
sound_two n k a s p [] g = tt
sound_two n k a s p (d ∷ []) g = tt
sound_two n k a s p (d ∷ e ∷ f ∷ ds) g = tt

pub sound_body : (n : ℕ) (k : OverTwo) (a : StaticContext) (s : Tables) (p : Place) (ds : List Item) → AllOf (WellFormed n) ds → SoundNode n (weight a.spot) (body_row k a s p ds)
sound_body n k a s p [] g = tt
sound_body n k a s p (d ∷ ds) g = sound_within n (weight a.spot) 2 a p _ (λ h.
    ((g.0, weight_deeper 1 a.spot (omega arith) (omega arith)), below_sound n (weight a.spot) (deeper 1 a) (deeper 1 a) ds (weight_below a.spot h) g.1))

-- dynamic variables

sound_dynamic_as : (n w : ℕ) (a : StaticContext) (s : Tables) (p : Place) (name : Option Name) → SoundNode n w (dynamic_as a s p name)
sound_dynamic_as n w a s p None = tt
sound_dynamic_as n w a s p (Some name) = sound_at_once n w a p s _

pub sound_dynamic : (n w : ℕ) (a : StaticContext) (s : Tables) (p : Place) (ds : List Item) → SoundNode n w (dynamic_row a s p ds)
sound_dynamic n w a s p (v ∷ []) = sound_dynamic_as n w a s p (dynamic_name s.words (symbol_of v))
sound_dynamic n w a s p [] = tt
sound_dynamic n w a s p (d ∷ e ∷ ds) = tt

sound_set_dynamic_as : (n : ℕ) (a : StaticContext) (s : Tables) (p : Place) (name : Option Name) (d : Item) → WellFormed n d →
    SoundNode n (weight a.spot) (set_dynamic_as a s p name d)
sound_set_dynamic_as n a s p None d g = tt
sound_set_dynamic_as n a s p (Some name) d g = sound_one n a p s _ d g

pub sound_set_dynamic : (n : ℕ) (a : StaticContext) (s : Tables) (p : Place) (ds : List Item) → AllOf (WellFormed n) ds →
    SoundNode n (weight a.spot) (set_dynamic_row a s p ds)
sound_set_dynamic n a s p (x ∷ v ∷ []) g = sound_set_dynamic_as n a s p (dynamic_name s.words (symbol_of v)) x g.0
sound_set_dynamic n a s p [] g = tt
sound_set_dynamic n a s p (d ∷ []) g = tt
sound_set_dynamic n a s p (d ∷ e ∷ f ∷ ds) g = tt

-- functions, methods and classes

sound_function_named : (n w : ℕ) (a : StaticContext) (s : Tables) (p : Place) (x : Symbol) → SoundNode n w (function_named a s p x)
sound_function_named n w a s p (Named name) = sound_literal n w a p s _
sound_function_named n w a s p (Fresh e serial) = tt

sound_function_as : (n w : ℕ) (a : StaticContext) (s : Tables) (p : Place) (x : Symbol) (v : Option ℕ) → SoundNode n w (function_as a s p x v)
sound_function_as n w a s p x (Some v) = sound_unsited n w a p s _
sound_function_as n w a s p x None = sound_function_named n w a s p x

sound_function_symbol : (n w : ℕ) (a : StaticContext) (s : Tables) (p : Place) (x : Option Symbol) → SoundNode n w (function_symbol a s p x)
sound_function_symbol n w a s p None = tt
sound_function_symbol n w a s p (Some x) = sound_function_as n w a s p x (function_of a.bound x)

pub sound_function : (n w : ℕ) (a : StaticContext) (s : Tables) (p : Place) (ds : List Item) → SoundNode n w (function_row a s p ds)
sound_function n w a s p (d ∷ []) = sound_function_symbol n w a s p (symbol_of d)
sound_function n w a s p [] = tt
sound_function n w a s p (d ∷ e ∷ ds) = tt

pub sound_method : (n w : ℕ) (l : Leaf) (a : StaticContext) (s : Tables) (p : Place) (ds : List Item) → SoundNode n w (method_row l a s p ds)
sound_method n w l a s p [] = sound_if n w a.spot.in_method _ _ (sound_at_once n w a p s l) tt
sound_method n w l a s p (d ∷ ds) = tt

sound_class_of : (n w : ℕ) (q : Place) (a : StaticContext) (s : Tables) (p : Place) (c : Option ℕ) → SoundNode n w (class_of q a s p c)
sound_class_of n w q a s p None = tt
sound_class_of n w q a s p (Some c) = sound_literal n w a p s _

sound_class_symbol : (n w : ℕ) (q : Place) (a : StaticContext) (s : Tables) (p : Place) (x : Symbol) → SoundNode n w (class_symbol q a s p x)
sound_class_symbol n w q a s p (Named name) = sound_class_of n w q a s p (class_named s.classes.rows name)
sound_class_symbol n w q a s p (Fresh e serial) = tt

sound_class_datum : (n w : ℕ) (q : Place) (a : StaticContext) (s : Tables) (p : Place) (x : Option Symbol) → SoundNode n w (class_datum q a s p x)
sound_class_datum n w q a s p None = tt
sound_class_datum n w q a s p (Some x) = sound_class_symbol n w q a s p x

pub sound_class : (n w : ℕ) (a : StaticContext) (s : Tables) (p : Place) (ds : List Item) → SoundNode n w (class_row a s p ds)
sound_class n w a s p (d ∷ []) = sound_class_datum n w (place_of d) a s p (symbol_of d)
sound_class n w a s p [] = tt
sound_class n w a s p (d ∷ e ∷ ds) = tt

-- exits

sound_no_such : (n w : ℕ) (p : Place) (r : Reason) (name : Option Name) → SoundNode n w (no_such p r name)
sound_no_such n w p r None = tt
sound_no_such n w p r (Some name) = tt

sound_block_as : (n : ℕ) (a : StaticContext) (s : Tables) (p : Place) (x : Option Symbol) (fs : List Item) → AllOf (WellFormed n) fs →
    SoundNode n (weight a.spot) (block_as a s p x fs)
sound_block_as n a s p None fs g = tt
sound_block_as n a s p (Some x) fs g =
    sound_within n (weight a.spot) 2 a p _ (λ h. inner_sound n (weight a.spot) (deeper 1 a) (with_bound (Block x s.exits) (deeper 2 a)) fs (weight_deeper 2 a.spot (omega arith) h) g)

pub sound_block : (n : ℕ) (a : StaticContext) (s : Tables) (p : Place) (ds : List Item) → AllOf (WellFormed n) ds → SoundNode n (weight a.spot) (block_row a s p ds)
sound_block n a s p [] g = tt
sound_block n a s p (d ∷ fs) g = sound_block_as n a s p (symbol_of d) fs g.1

sound_return_to : (n : ℕ) (a : StaticContext) (s : Tables) (p : Place) (x : Symbol) (e : Option ℕ) (d : Item) → WellFormed n d →
    SoundNode n (weight a.spot) (return_to_exit a s p x e d)
sound_return_to n a s p x None d g = sound_no_such n (weight a.spot) p _ (name_of x)
sound_return_to n a s p x (Some e) d g = sound_one n a p s _ d g

sound_return_as : (n : ℕ) (a : StaticContext) (s : Tables) (p : Place) (x : Option Symbol) (d : Item) → WellFormed n d → SoundNode n (weight a.spot) (return_as a s p x d)
sound_return_as n a s p None d g = tt
sound_return_as n a s p (Some x) d g = sound_return_to n a s p x (block_of a.bound x) d g

pub sound_return_from : (n : ℕ) (a : StaticContext) (s : Tables) (p : Place) (ds : List Item) → AllOf (WellFormed n) ds →
    SoundNode n (weight a.spot) (return_from_row a s p ds)
sound_return_from n a s p (x ∷ d ∷ []) g = sound_return_as n a s p (symbol_of x) d g.1.0
sound_return_from n a s p [] g = tt
sound_return_from n a s p (x ∷ []) g = tt
sound_return_from n a s p (x ∷ d ∷ e ∷ ds) g = tt

pub sound_tagbody : (n : ℕ) (a : StaticContext) (s : Tables) (p : Place) (ds : List Item) → AllOf (WellFormed n) ds → SoundNode n (weight a.spot) (tagbody_row a s p ds)
sound_tagbody n a s p ds g =
    sound_if n (weight a.spot) (all_differ (tags_in ds)) _ _
    (sound_within n (weight a.spot) 2 a p _ (λ h. inner_sound n (weight a.spot) (deeper 1 a) (with_bound (Tags (tags_in ds) s.exits) (deeper 2 a)) (forms_in ds) (weight_deeper 2 a.spot (omega arith) h) (good_forms n ds g)))
    tt

sound_go_to : (n w : ℕ) (a : StaticContext) (s : Tables) (p : Place) (x : Symbol) (target : Option Target) → SoundNode n w (go_to a s p x target)
sound_go_to n w a s p x None = sound_no_such n w p _ (name_of x)
sound_go_to n w a s p x (Some target) = sound_at_once n w a p s _

sound_go_as : (n w : ℕ) (a : StaticContext) (s : Tables) (p : Place) (x : Option Symbol) → SoundNode n w (go_as a s p x)
sound_go_as n w a s p None = tt
sound_go_as n w a s p (Some x) = sound_go_to n w a s p x (tag_of a.bound x)

pub sound_go : (n w : ℕ) (a : StaticContext) (s : Tables) (p : Place) (ds : List Item) → SoundNode n w (go_row a s p ds)
sound_go n w a s p (d ∷ []) = sound_go_as n w a s p (symbol_of d)
sound_go n w a s p [] = tt
sound_go n w a s p (d ∷ e ∷ ds) = tt

-- calls

pub sound_all_parts : (n : ℕ) (m : Elaboration) (a : StaticContext) (s : Tables) (p : Place) (ds : List Item) → AllOf (WellFormed n) ds →
    SoundNode n (weight a.spot) (all_parts m a s p ds)
sound_all_parts n m a s p ds g =
    sound_within n (weight a.spot) 1 a p _ (λ h. forms_sound n (weight a.spot) (deeper 1 a) (deeper 1 a) ds (weight_deeper 1 a.spot (omega arith) h) g)

pub sound_local_call : (n v : ℕ) (a : StaticContext) (s : Tables) (p : Place) (ds : List Item) → AllOf (WellFormed n) ds →
    SoundNode n (weight a.spot) (local_call v a s p ds)
sound_local_call n v a s p ds g =
    sound_within n (weight a.spot) 2 a p _ (λ h. forms_sound n (weight a.spot) (deeper 1 a) (deeper 1 a) ds (weight_deeper 1 a.spot (omega arith) (omega arith)) g)
