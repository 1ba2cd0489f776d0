-- The rows of variables and values are apt.
use Rattle.std.proofs.Common.{◌≡◌, ◌+◌, ◌≤◌, ◌<◌, ℕ, nat_lt, option_map, Bool, true, false, List, [], ◌∷◌, length, Option, Some, None, if◌then◌else◌, refl, arith}
use Rattle.std.proofs.lemmas.Bool.{ltb-true, lt-ltb}
use Rattle.base.specs.declared.place.Place.{Place}
use Rattle.base.specs.declared.datum.Name.{Name}
use Rattle.base.specs.declared.datum.Symbol.{Symbol}
use Rattle.base.specs.declared.datum.Symbol.TheVariants.{Named, Fresh}
use Rattle.base.specs.Data.{Item, item, symbol, place_of}
use Rattle.base.specs.DataFormed.{formed_tells}
use Rattle.base.specs.AllOf.{AllOf}
use Rattle.base.specs.WellFormedData.{WellFormed}
use Rattle.lang_meaning.specs.declared.program.ClassRow.{ClassRow}
use Rattle.lang_meaning.specs.declared.program.LiteralRow.TheVariants as row
use Rattle.lang_meaning.specs.Form.{Form, global, dynamic, next_method, has_next}
use Rattle.lang_meaning.specs.Standing.{is_variable}
use Rattle.lang_meaning.specs.Counts.{all_nodes}
use Rattle.lang_classes.specs.InheritedClasses.{class_named}
use Rattle.lang_classes.specs.InheritedSlots.{same_name}
use Rattle.front_profile.specs.declared.tables.Tables.{Tables}
use Rattle.front_profile.specs.declared.elaboration.Leaf.{Leaf}
use Rattle.front_profile.specs.declared.elaboration.Leaf.TheVariants.{Local, Global, Dynamic}
use Rattle.front_profile.specs.declared.elaboration.One.{One}
use Rattle.front_profile.specs.declared.elaboration.One.TheVariants.{SetVariable, SetGlobal, SetDynamic}
use Rattle.lang_meaning.specs.declared.kinds.OverTwo.{OverTwo}
use Rattle.front_profile.specs.declared.elaboration.Elaboration.TheVariants.{OfOne, OfTwo, OfBody, InSequence, OfClauses}
use Rattle.front_profile.specs.Names.{variable_of, function_of}
use Rattle.front_profile.specs.Nodes.{StaticContext}
use Rattle.front_profile.specs.Shapes.{symbol_of, is_true, ClauseParts, clauses_in}
use Rattle.front_profile.specs.RowWords.{unsited, deeper, deeper_at_top, made_at_once, each_below, each_inner, bad_shape}
use Rattle.front_profile.specs.ValueRows.{free_symbol, symbol_as, symbol_node, quote_row, is_constant, with_set, one_part, set_free, set_as, set_datum, setq_row, progn_row, clause_lengths, clause_parts, own_depth, cond_as, cond_row, two_row, body_row, dynamic_name, dynamic_as, dynamic_row, set_dynamic_as, set_dynamic_row, function_named, function_as, function_symbol, function_row, method_row, class_of, class_symbol, class_datum, class_row}
use Rattle.front_profile.specs.bridge.WellFormedParts.{WellFormedClauses, MaybeClauses, good_clauses}
use Rattle.front_profile.specs.Elaborations.{leaf_form, forms_found, make_clauses}
use Rattle.front_profile.specs.Definitions.{Definitions, defined}
use Rattle.front_profile.specs.Numbers.{Numbered}
use Rattle.front_profile.specs.Places.{scope_of}
use Rattle.front_profile.specs.Right.{RightAt}
use Rattle.front_profile.proofs.Forms.{right_whole}
use Rattle.front_profile.proofs.Definitions.{entered_same, counted_same}
use Rattle.front_profile.proofs.Nodes.{sequence_nodes, clauses_nodes}
use Rattle.front_profile.proofs.FoundNodes.{inner_plain, clauses_plain, forms_counted, found_one_nodes, found_two_nodes, found_with_body_nodes, found_clauses_nodes, enough_nodes, enough_more}
use Rattle.front_profile.proofs.Good.{good_at_top}
use Rattle.front_profile.proofs.Places.{variable_there, function_there}
use Rattle.front_profile.proofs.MadeForms.{OneStands, made_local, made_clauses, made_body}
use Rattle.front_profile.proofs.Wanted.{spots, AllApt, AptAt, Stage}
use Rattle.front_profile.proofs.Apt.{apt_if, apt_within, apt_unsited, apt_literal, apt_made, plain_parts, apt_at_once, both_apt, below_apt, inner_apt}
use Rattle.front_profile.proofs.Procedures.{inner_ordinary}
use Rattle.front_profile.proofs.PartsFound.{found_one, one_ends, found_two, found_with_body, found_inner, found_clauses}

-- a symbol

apt_free_symbol : (n : ℕ) (a : StaticContext) (p : Place) (s : Tables) (x : Symbol) → Stage a s → AptAt n a s (free_symbol a p s x)
apt_free_symbol n a p s (Named name) b = apt_at_once n a s p (Global name) b (omega arith) (λ h k. record { numbers = refl }) (λ h l. right_whole h (scope_of a) a.spot.depth (global name.0) refl refl l refl refl tt tt)
apt_free_symbol n a p s (Fresh e serial) b = tt

-- the value of a variable around
pub apt_local : (n : ℕ) (a : StaticContext) (p : Place) (s : Tables) (v : ℕ) → Stage a s → is_variable (scope_of a) v ≡ true
    → AptAt n a s (unsited a p s (Local v))
apt_local n a p s v b e = apt_unsited n a s p s (Local v) b (entered_same (defined s) b.whole) (counted_same a.spot.sited (defined s)) (λ h k. record { numbers = refl }) (λ h l d. made_local h (scope_of a) a.spot.depth v d e)

apt_symbol_as : (n : ℕ) (a : StaticContext) (p : Place) (s : Tables) (x : Symbol) (v : Option ℕ) → Stage a s → variable_of a.bound x ≡ v → AptAt n a s (symbol_as a p s x v)
apt_symbol_as n a p s x (Some v) b e = apt_local n a p s v b (variable_there x a.bound v e)
apt_symbol_as n a p s x None b e = apt_free_symbol n a p s x b

pub apt_symbol : (n : ℕ) (a : StaticContext) (p : Place) (s : Tables) (x : Symbol) → Stage a s → AptAt n a s (symbol_node a p s x)
apt_symbol n a p s x b =
    apt_if n a s (is_true s.words x) _ _ (apt_literal n a s p (row.Datum (item p (symbol x))) b refl)
    (apt_symbol_as n a p s x (variable_of a.bound x) b refl)

pub apt_quote : (n : ℕ) (a : StaticContext) (s : Tables) (p : Place) (ds : List Item) → Stage a s → AllOf (WellFormed n) ds → AptAt n a s (quote_row a s p ds)
apt_quote n a s p (d ∷ []) b g = apt_literal n a s p (row.Datum d) b (formed_tells d g.0.formed)
apt_quote n a s p [] b g = tt
apt_quote n a s p (d ∷ e ∷ ds) b g = tt

-- one part

pub apt_one : (n : ℕ) (a : StaticContext) (p : Place) (s : Tables) (k : One) (d : Item) → Stage a s → OneStands (scope_of a) k → WellFormed n d → AptAt n a s (one_part a p s k d)
apt_one n a p s k d b o g =
    apt_within n a s 1 p _ (λ l. apt_made n a s (deeper 1 a) p s _ (OfOne k) b
    (plain_parts n a s _ (OfOne k) b (g, tt) (λ u rs c. found_one (defined u) a (deeper 1 a) k d rs l o c.match) (λ u rs. one_ends k u)
    (λ u rs c. found_one_nodes (spots (defined u) (deeper 1 a) (deeper 1 a) rs) k d rs c.match)
    (λ u rs. tt)))

-- setq

apt_set_free : (n : ℕ) (a : StaticContext) (s : Tables) (p : Place) (x : Symbol) (d : Item) → Stage a s → WellFormed n d → AptAt n a s (set_free a s p x d)
apt_set_free n a s p (Named name) d b g =
    apt_if n a s (is_constant s name) _ _ tt (apt_one n a p (with_set name s) (SetGlobal name) d (record { good = b.good; whole = b.whole }) tt g)
apt_set_free n a s p (Fresh e serial) d b g = tt

apt_set_as : (n : ℕ) (a : StaticContext) (s : Tables) (p : Place) (x : Symbol) (v : Option ℕ) (d : Item) → Stage a s → variable_of a.bound x ≡ v → WellFormed n d
    → AptAt n a s (set_as a s p x v d)
apt_set_as n a s p x (Some v) d b e g = apt_one n a p s (SetVariable v) d b (variable_there x a.bound v e) g
apt_set_as n a s p x None d b e g = apt_set_free n a s p x d b g

apt_set_datum : (n : ℕ) (a : StaticContext) (s : Tables) (p : Place) (v d : Item) → Stage a s → WellFormed n d → AptAt n a s (set_datum a s p v d)
apt_set_datum n a s p (item q (symbol x)) d b g =
    apt_if n a s (is_true s.words x) _ _ tt (apt_set_as n a s p x (variable_of a.bound x) d b refl g)
apt_set_datum n a s p other d b g = tt

pub apt_setq : (n : ℕ) (a : StaticContext) (s : Tables) (p : Place) (ds : List Item) → Stage a s → AllOf (WellFormed n) ds → AptAt n a s (setq_row a s p ds)
apt_setq n a s p (v ∷ x ∷ []) b g = apt_set_datum n a s p v x b g.1.0
apt_setq n a s p [] b g = tt
apt_setq n a s p (d ∷ []) b g = tt
apt_setq n a s p (d ∷ e ∷ f ∷ ds) b g = tt

-- progn

pub apt_progn : (n : ℕ) (a : StaticContext) (s : Tables) (p : Place) (ds : List Item) → Stage a s → AllOf (WellFormed n) ds → AptAt n a s (progn_row a s p ds)
apt_progn n a s p ds b g = apt_within n a s 1 p _ (λ l. apt_made n a s (deeper_at_top a) p s (each_inner ds) InSequence b (record {
  entered = entered_same (defined s) b.whole;
  inside = good_at_top (defined s) a b.good;
  low = λ k. k;
  sited = refl;
  ordinary = inner_ordinary ds;
  start = counted_same a.spot.sited (defined s);
  parts = inner_apt n (deeper_at_top a) ds g;
  right = λ u rs c. made_body (defined u) (scope_of a) a.spot.depth _ l (found_inner (defined u) (deeper 1 a) (deeper_at_top a) ds rs c.match);
  ends = λ u rs. refl;
  nodes = λ u rs c.
      enough_nodes _ _ _ (forms_counted (spots (defined u) (deeper 1 a) (deeper_at_top a) rs) (each_inner ds) rs c.match (inner_plain ds)) (sequence_nodes (forms_found rs));
  own = λ u rs c m. tt;
}))

-- cond

clauses_apt : (n : ℕ) (i : StaticContext) (cs : List ClauseParts) → WellFormedClauses n cs → AllApt n i (clause_parts cs)
clauses_apt n i [] g = tt
clauses_apt n i (c ∷ cs) g = (g.0, both_apt n i (each_below c.body) (clause_parts cs) (below_apt n i c.body g.1) (clauses_apt n i cs g.2))

deep_enough : (d : ℕ) (b : Bool) → d + (if b then 2 else 1) ≤ 1000 → d + 1 ≤ 1000
deep_enough d true l = omega (arith, l)
deep_enough d false l = l

apt_cond_as : (n : ℕ) (a : StaticContext) (s : Tables) (p : Place) (cs : Option (List ClauseParts)) → Stage a s → MaybeClauses n cs → AptAt n a s (cond_as a s p cs)
apt_cond_as n a s p None b g = tt
apt_cond_as n a s p (Some cs) b g =
    apt_within n a s (own_depth cs) p _ (λ l. apt_made n a s (deeper 1 a) p s (clause_parts cs) (OfClauses (clause_lengths cs)) b
    (plain_parts n a s (clause_parts cs) (OfClauses (clause_lengths cs)) b (clauses_apt n (deeper 1 a) cs g)
    (λ u rs c. made_clauses (defined u) (scope_of a) a.spot.depth _ (deep_enough a.spot.depth _ l)
    (found_clauses (spots (defined u) (deeper 1 a) (deeper 1 a) rs) cs rs c.match))
    (λ u rs. refl)
    (λ u rs c.
    enough_more _ _ _ _ (forms_counted (spots (defined u) (deeper 1 a) (deeper 1 a) rs) (clause_parts cs) rs c.match (clauses_plain cs))
    (found_clauses_nodes (spots (defined u) (deeper 1 a) (deeper 1 a) rs) cs rs c.match) (clauses_nodes (make_clauses (clause_lengths cs) (forms_found rs))))
    (λ u rs. tt)))

pub apt_cond : (n : ℕ) (a : StaticContext) (s : Tables) (p : Place) (ds : List Item) → Stage a s → AllOf (WellFormed n) ds → AptAt n a s (cond_row a s p ds)
apt_cond n a s p ds b g = apt_cond_as n a s p (clauses_in ds) b (good_clauses n ds g)

-- two forms, and a form with a body

pub apt_two : (n : ℕ) (k : OverTwo) (a : StaticContext) (s : Tables) (p : Place) (ds : List Item) → Stage a s → AllOf (WellFormed n) ds → AptAt n a s (two_row k a s p ds)
apt_two n k a s p (d ∷ e ∷ []) b g =
    apt_within n a s 1 p _ (λ l. apt_made n a s (deeper 1 a) p s _ (OfTwo k) b
    (plain_parts n a s _ (OfTwo k) b (g.0, (g.1.0, tt)) (λ u rs c. found_two (defined u) a (deeper 1 a) k d e rs l c.match) (λ u rs. refl)
    (λ u rs c. found_two_nodes (spots (defined u) (deeper 1 a) (deeper 1 a) rs) k d e rs c.match)
    (λ u rs. tt)))
apt_two n k a s p [] b g = tt
apt_two n k a s p (d ∷ []) b g = tt
apt_two n k a s p (d ∷ e ∷ f ∷ ds) b g = tt

pub apt_body : (n : ℕ) (k : OverTwo) (a : StaticContext) (s : Tables) (p : Place) (ds : List Item) → Stage a s → AllOf (WellFormed n) ds → AptAt n a s (body_row k a s p ds)
apt_body n k a s p [] b g = tt
apt_body n k a s p (d ∷ ds) b g =
    apt_within n a s 2 p _ (λ l. apt_made n a s (deeper 1 a) p s _ (OfBody k) b
    (plain_parts n a s _ (OfBody k) b (g.0, below_apt n (deeper 1 a) ds g.1) (λ u rs c. found_with_body (defined u) a (deeper 1 a) k d ds rs l c.match) (λ u rs. refl)
    (λ u rs c. found_with_body_nodes (spots (defined u) (deeper 1 a) (deeper 1 a) rs) k d ds rs c.match)
    (λ u rs. tt)))

-- dynamic variables

apt_dynamic_as : (n : ℕ) (a : StaticContext) (s : Tables) (p : Place) (name : Option Name) → Stage a s → AptAt n a s (dynamic_as a s p name)
apt_dynamic_as n a s p None b = tt
apt_dynamic_as n a s p (Some name) b =
    apt_at_once n a s p (Dynamic name) b (omega arith) (λ h k. record { numbers = refl }) (λ h l. right_whole h (scope_of a) a.spot.depth (dynamic name.0) refl refl l refl refl tt tt)

pub apt_dynamic : (n : ℕ) (a : StaticContext) (s : Tables) (p : Place) (ds : List Item) → Stage a s → AptAt n a s (dynamic_row a s p ds)
apt_dynamic n a s p (v ∷ []) b = apt_dynamic_as n a s p (dynamic_name s.words (symbol_of v)) b
apt_dynamic n a s p [] b = tt
apt_dynamic n a s p (d ∷ e ∷ ds) b = tt

apt_set_dynamic_as : (n : ℕ) (a : StaticContext) (s : Tables) (p : Place) (name : Option Name) (d : Item) → Stage a s → WellFormed n d → AptAt n a s (set_dynamic_as a s p name d)
apt_set_dynamic_as n a s p None d b g = tt
apt_set_dynamic_as n a s p (Some name) d b g = apt_one n a p s (SetDynamic name) d b tt g

pub apt_set_dynamic : (n : ℕ) (a : StaticContext) (s : Tables) (p : Place) (ds : List Item) → Stage a s → AllOf (WellFormed n) ds → AptAt n a s (set_dynamic_row a s p ds)
apt_set_dynamic n a s p (x ∷ v ∷ []) b g = apt_set_dynamic_as n a s p (dynamic_name s.words (symbol_of v)) x b g.0
apt_set_dynamic n a s p [] b g = tt
apt_set_dynamic n a s p (d ∷ []) b g = tt
apt_set_dynamic n a s p (d ∷ e ∷ f ∷ ds) b g = tt

-- functions, methods and classes

apt_function_named : (n : ℕ) (a : StaticContext) (s : Tables) (p : Place) (x : Symbol) → Stage a s → AptAt n a s (function_named a s p x)
apt_function_named n a s p (Named name) b = apt_literal n a s p (row.Function name) b refl
apt_function_named n a s p (Fresh e serial) b = tt

apt_function_as : (n : ℕ) (a : StaticContext) (s : Tables) (p : Place) (x : Symbol) (v : Option ℕ) → Stage a s → function_of a.bound x ≡ v → AptAt n a s (function_as a s p x v)
apt_function_as n a s p x (Some v) b e = apt_local n a p s v b (function_there x (scope_of a).variables a.bound v b.good.functions e)
apt_function_as n a s p x None b e = apt_function_named n a s p x b

apt_function_symbol : (n : ℕ) (a : StaticContext) (s : Tables) (p : Place) (x : Option Symbol) → Stage a s → AptAt n a s (function_symbol a s p x)
apt_function_symbol n a s p None b = tt
apt_function_symbol n a s p (Some x) b = apt_function_as n a s p x (function_of a.bound x) b refl

pub apt_function : (n : ℕ) (a : StaticContext) (s : Tables) (p : Place) (ds : List Item) → Stage a s → AptAt n a s (function_row a s p ds)
apt_function n a s p (d ∷ []) b = apt_function_symbol n a s p (symbol_of d) b
apt_function n a s p [] b = tt
apt_function n a s p (d ∷ e ∷ ds) b = tt

-- the two forms of methods
pub record OfMethods (f : Form) : Type 0 where
  pub some : 1 ≤ all_nodes f
  pub numbered : (h k : Definitions) → Numbered h k f
  pub right : (h : Definitions) (a : StaticContext) → a.spot.depth + 1 ≤ 1000 → a.spot.in_method ≡ true → RightAt h a f

pub next_of_methods : OfMethods next_method
next_of_methods = record { some = omega arith; numbered = λ h k. record { numbers = refl }; right = λ h a l e. right_whole h (scope_of a) a.spot.depth next_method refl refl l e refl tt tt }

pub has_of_methods : OfMethods has_next
has_of_methods = record { some = omega arith; numbered = λ h k. record { numbers = refl }; right = λ h a l e. right_whole h (scope_of a) a.spot.depth has_next refl refl l e refl tt tt }

apt_in_method : (n : ℕ) (l : Leaf) (a : StaticContext) (s : Tables) (p : Place) (m : Bool) → Stage a s → a.spot.in_method ≡ m → OfMethods (leaf_form l)
    → AptAt n a s (if m then made_at_once a p s l else bad_shape p)
apt_in_method n l a s p true b e o = apt_at_once n a s p l b o.some o.numbered (λ h d. o.right h a d e)
apt_in_method n l a s p false b e o = tt

pub apt_method : (n : ℕ) (l : Leaf) (a : StaticContext) (s : Tables) (p : Place) (ds : List Item) → Stage a s → OfMethods (leaf_form l) → AptAt n a s (method_row l a s p ds)
apt_method n l a s p [] b o = apt_in_method n l a s p a.spot.in_method b refl o
apt_method n l a s p (d ∷ ds) b o = tt

-- a class that was found is there
pub class_there : (rows : List ClassRow) (name : Name) (c : ℕ) → class_named rows name ≡ Some c → nat_lt c (length rows) ≡ true
class_there [] name c h = absurd (cc h)
class_there (r ∷ rs) name c h = by_test (same_name name r.name) (class_named rs name) (class_there rs name) h
  where
    by_test : (b : Bool) (o : Option ℕ) → ((d : ℕ) → o ≡ Some d → nat_lt d (length rs) ≡ true)
        → (if b then Some 0 else option_map (λ k. k + 1) o) ≡ Some c → nat_lt c (length (r ∷ rs)) ≡ true
    by_test true o more h = let e : 0 ≡ c = cc h in lt-ltb c (length (r ∷ rs)) (omega (arith, e))
    by_test false None more h = absurd (cc h)
    by_test false (Some d) more h =
        let e : d + 1 ≡ c = cc h in
        let l : d < length rs = ltb-true d (length rs) (more d refl) in
        lt-ltb c (length (r ∷ rs)) (omega (arith, e, l))

apt_class_of : (n : ℕ) (q : Place) (a : StaticContext) (s : Tables) (p : Place) (c : Option ℕ) → Stage a s → ((k : ℕ) → c ≡ Some k → nat_lt k (length s.classes.rows) ≡ true)
    → AptAt n a s (class_of q a s p c)
apt_class_of n q a s p None b h = tt
apt_class_of n q a s p (Some c) b h = apt_literal n a s p (row.Class c) b (h c refl)

apt_class_symbol : (n : ℕ) (q : Place) (a : StaticContext) (s : Tables) (p : Place) (x : Symbol) → Stage a s → AptAt n a s (class_symbol q a s p x)
apt_class_symbol n q a s p (Named name) b = apt_class_of n q a s p (class_named s.classes.rows name) b (class_there s.classes.rows name)
apt_class_symbol n q a s p (Fresh e serial) b = tt

apt_class_datum : (n : ℕ) (q : Place) (a : StaticContext) (s : Tables) (p : Place) (x : Option Symbol) → Stage a s → AptAt n a s (class_datum q a s p x)
apt_class_datum n q a s p None b = tt
apt_class_datum n q a s p (Some x) b = apt_class_symbol n q a s p x b

pub apt_class : (n : ℕ) (a : StaticContext) (s : Tables) (p : Place) (ds : List Item) → Stage a s → AptAt n a s (class_row a s p ds)
apt_class n a s p (d ∷ []) b = apt_class_datum n (place_of d) a s p (symbol_of d) b
apt_class n a s p [] b = tt
apt_class n a s p (d ∷ e ∷ ds) b = tt
