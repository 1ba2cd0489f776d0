-- What rows are made of, for renamed data and tables.
use Rattle.std.specs.Prelude.{◌≡◌, ℕ, ◌+◌, nat_le, Bool, true, false, List, [], ◌∷◌, ◌++◌, Option, Some, None, length, is_some, option_map, refl}
use Rattle.std.proofs.Common.{ap, sym, ◌∙◌}
use Rattle.std.proofs.lemmas.List.{map-append}
use Rattle.base.specs.declared.place.Place.{Place}
use Rattle.base.specs.declared.datum.Name.{Name}
use Rattle.base.specs.declared.datum.Symbol.{Symbol}
use Rattle.base.specs.declared.reason.Reason.{Reason}
use Rattle.base.specs.declared.reason.Reason.TheVariants.{DepthLimit, BadBinding}
use Rattle.base.specs.Data.{Item}
use Rattle.lang_meaning.specs.declared.program.LiteralRow.{LiteralRow}
use Rattle.lang_meaning.specs.declared.program.LiteralRow.TheVariants as row
use Rattle.front_profile.specs.declared.elaboration.Leaf.{Leaf}
use Rattle.front_profile.specs.declared.elaboration.Leaf.TheVariants.{Literal}
use Rattle.front_profile.specs.declared.elaboration.Elaboration.{Elaboration}
use Rattle.front_profile.specs.declared.elaboration.Elaboration.TheVariants.{Ready}
use Rattle.front_profile.specs.declared.parameters.Parameters.{Parameters}
use Rattle.front_profile.specs.declared.tables.Tables.{Tables}
use Rattle.front_profile.specs.Nodes.{StaticContext, Part, form, below, inner, bind, parameter, Node, offends, whole}
use Rattle.front_profile.specs.FunctionNodes.{body_alone, function_parts}
use Rattle.front_profile.specs.Shapes.{Pair, all_symbols}
use Rattle.front_profile.specs.RowWords.{deeper, with_site_if, next_site, within_depth, made_of, made_at_once, unsited, with_literal, literal_node, each_form, each_below, each_inner, each_bound, each_parameter, bad_binding, no_such}
use Rattle.front_profile.specs.DefiningRows.{with_name, named_form}
use Rattle.lang_renamed.specs.Renaming.{name_by, symbol_by, item_by, literal_by}
use Rattle.front_laws.specs.Renaming.{Renames}
use Rattle.front_laws.proofs.RenamedTables.{data_by, context_by, tables_by, parameters_by, part_by, parts_by, leaf_by, making_by, node_by}
use Rattle.lang_renamed.proofs.Lists.{both, if_by, length_by, map_by}
use Rattle.front_laws.proofs.RenamedData.{place_by}
use Rattle.front_laws.proofs.RenamedShapes.{pairs_by, pair_by, symbols_by, all_symbols_by}

pub some_same : {X Y : Type 0} (f : X → Y) (o : Option X) → is_some (option_map f o) ≡ is_some o
some_same f None = refl
some_same f (Some x) = refl

module _ (r : ℕ → ℕ) where
  pub within_by : (k : ℕ) (a : StaticContext) (p : Place) (x y : Node) → x ≡ node_by r y → within_depth k (context_by r a) p x ≡ node_by r (within_depth k a p y)
  within_by k a p x y e = if_by (node_by r) (nat_le (a.spot.depth + k) 1000) (nat_le (a.spot.depth + k) 1000) x (offends p DepthLimit) y (offends p DepthLimit) refl e refl

  site_by : (b : Bool) (p : Place) (s : Tables) → with_site_if b p (tables_by r s) ≡ tables_by r (with_site_if b p s)
  site_by true p s = refl
  site_by false p s = refl

  pub made_by_parts : (a i : StaticContext) (p : Place) (s : Tables) (ys xs : List Part) (n m : Elaboration) → ys ≡ parts_by r xs → n ≡ making_by r m →
      made_of (context_by r a) (context_by r i) p (tables_by r s) ys n ≡ node_by r (made_of a i p s xs m)
  made_by_parts a i p s ys xs n m e f =
      both (λ zs k. made_of (context_by r a) (context_by r i) p (tables_by r s) zs k) _ _ _ _ e f
      ∙ ap (λ t. whole (context_by r (deeper 1 a)) (context_by r i) t (parts_by r xs) (record { site = next_site a s; making = making_by r m })) (site_by a.spot.sited p s)

  pub at_once_by : (a : StaticContext) (p : Place) (s : Tables) (l : Leaf) → made_at_once (context_by r a) p (tables_by r s) (leaf_by r l) ≡ node_by r (made_at_once a p s l)
  at_once_by a p s l = within_by 1 a p _ (made_of a (deeper 1 a) p s [] (Ready l)) (made_by_parts a (deeper 1 a) p s [] [] (Ready (leaf_by r l)) (Ready l) refl refl)

  pub unsited_by : (a : StaticContext) (p : Place) (s : Tables) (l : Leaf) → unsited (context_by r a) p (tables_by r s) (leaf_by r l) ≡ node_by r (unsited a p s l)
  unsited_by a p s l = within_by 1 a p _ (whole a a s [] (record { site = None; making = Ready l })) refl

  pub with_literal_by : (x : LiteralRow) (s : Tables) → with_literal (literal_by r x) (tables_by r s) ≡ tables_by r (with_literal x s)
  with_literal_by x s = ap (λ (ls : List LiteralRow). record (tables_by r s) { literals = ls }) (sym (map-append (literal_by r) s.literals (x ∷ [])))

  pub literals_by : (s : Tables) → length (tables_by r s).literals ≡ length s.literals
  literals_by s = length_by (literal_by r) s.literals

  pub literal_node_by : (a : StaticContext) (p : Place) (s : Tables) (x : LiteralRow) → literal_node (context_by r a) p (tables_by r s) (literal_by r x) ≡ node_by r (literal_node a p s x)
  literal_node_by a p s x =
      both (λ t (n : ℕ). unsited (context_by r a) p t (Literal n)) _ _ _ _ (with_literal_by x s) (literals_by s)
      ∙ unsited_by a p (with_literal x s) (Literal (length s.literals))

  pub no_such_by : (p : Place) (why : Reason) (o : Option Name) → no_such p why (option_map (name_by r) o) ≡ node_by r (no_such p why o)
  no_such_by p why None = refl
  no_such_by p why (Some n) = refl

  pub bad_binding_by : (d : Item) → bad_binding (item_by r d) ≡ node_by r (bad_binding d)
  bad_binding_by d = ap (λ p. offends p BadBinding) (place_by r d)

  -- ---- parts

  pub each_form_by : (ds : List Item) → each_form (data_by r ds) ≡ parts_by r (each_form ds)
  each_form_by ds = map_by (item_by r) (part_by r) (λ d. form d) (λ d. form d) (λ d. refl) ds

  pub each_below_by : (ds : List Item) → each_below (data_by r ds) ≡ parts_by r (each_below ds)
  each_below_by ds = map_by (item_by r) (part_by r) (λ d. below d) (λ d. below d) (λ d. refl) ds

  pub each_inner_by : (ds : List Item) → each_inner (data_by r ds) ≡ parts_by r (each_inner ds)
  each_inner_by ds = map_by (item_by r) (part_by r) (λ d. inner d) (λ d. inner d) (λ d. refl) ds

  pub each_bound_by : (qs : List Pair) → each_bound (pairs_by r qs) ≡ parts_by r (each_bound qs)
  each_bound_by qs = map_by (pair_by r) (part_by r) (λ q. bind q.name q.datum) (λ q. bind q.name q.datum) (λ q. refl) qs

  pub each_parameter_by : (xs : List Symbol) → each_parameter (symbols_by r xs) ≡ parts_by r (each_parameter xs)
  each_parameter_by xs = map_by (symbol_by r) (part_by r) (λ x. parameter x) (λ x. parameter x) (λ x. refl) xs

  pub both_parts : (us vs xs ys : List Part) → us ≡ parts_by r xs → vs ≡ parts_by r ys → us ++ vs ≡ parts_by r (xs ++ ys)
  both_parts us vs xs ys e f = both (λ (a b : List Part). a ++ b) _ _ _ _ e f ∙ sym (map-append (part_by r) xs ys)

  -- ---- definitions

  pub with_name_by : (b : Bool) (d : Item) (s : Tables) → with_name b (item_by r d) (tables_by r s) ≡ tables_by r (with_name b d s)
  with_name_by true d s = with_literal_by (row.Datum d) s
  with_name_by false d s = refl

  pub named_form_by : (b : Bool) (s : Tables) → named_form b (tables_by r s) ≡ leaf_by r (named_form b s)
  named_form_by true s = ap (λ (n : ℕ). Literal n) (literals_by s)
  named_form_by false s = refl

  pub alone_by : (has : Bool) (a : StaticContext) (t s : Tables) (ys xs : List Part) (n m : Elaboration) → t ≡ tables_by r s → ys ≡ parts_by r xs → n ≡ making_by r m →
      body_alone has (context_by r a) t ys n ≡ node_by r (body_alone has a s xs m)
  alone_by has a t s ys xs n m e f g =
      both (λ u zs. body_alone has (context_by r a) u zs n) _ _ _ _ e f
      ∙ ap (λ k. body_alone has (context_by r a) (tables_by r s) (parts_by r xs) k) g

module _ (r : ℕ → ℕ) (old new : List (List ℕ)) (w : Renames r old new) where
  pub function_parts_by : (ps : Parameters) (fs : List Item) → function_parts (parameters_by r ps) (data_by r fs) ≡ parts_by r (function_parts ps fs)
  function_parts_by ps fs =
      both_parts r _ _ (each_parameter (all_symbols ps)) (each_inner fs)
      (ap (λ xs. each_parameter xs) (all_symbols_by r old new w ps) ∙ each_parameter_by r (all_symbols ps)) (each_inner_by r fs)
