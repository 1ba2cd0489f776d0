-- Nodes whose offence and whose data have places of which a property holds, and what rows are made of.
use Rattle.std.specs.Prelude.{ℕ, ◌+◌, nat_le, Bool, true, false, List, [], ◌∷◌, ◌++◌, Option, Some, None, if◌then◌else◌}
use Rattle.base.specs.declared.place.Place.{Place}
use Rattle.base.specs.declared.datum.Name.{Name}
use Rattle.base.specs.declared.datum.Symbol.{Symbol}
use Rattle.base.specs.declared.reason.Reason.{Reason}
use Rattle.base.specs.Data.{Item}
use Rattle.base.specs.AllOf.{AllOf}
use Rattle.lang_meaning.specs.declared.program.LiteralRow.{LiteralRow}
use Rattle.front_profile.specs.declared.elaboration.Leaf.{Leaf}
use Rattle.front_profile.specs.declared.parameters.Parameters.{Parameters}
use Rattle.front_profile.specs.declared.tables.Tables.{Tables}
use Rattle.front_profile.specs.Nodes.{StaticContext, Part, form, below, inner, bind, parameter, wrong, function, Written, initform, accessor, method, Node, offends, unnamed, steps, calls, whole}
use Rattle.front_profile.specs.FunctionNodes.{function_parts}
use Rattle.front_profile.specs.Shapes.{Pair, all_symbols}
use Rattle.front_profile.specs.RowWords.{within_depth, made_at_once, unsited, literal_node, each_form, each_below, each_inner, each_bound, each_parameter, no_such}
use Rattle.front_laws.proofs.AllPlaces.{AllPlaces}
use Rattle.front_laws.proofs.Parts.{AllPairs}

module _ (P : Place → Type 0) where
  -- the forms of a function of a definition
  abbrev pub PlacesOfFunction : Written → Type 0
  PlacesOfFunction (initform d) = AllPlaces P d
  PlacesOfFunction (accessor n k d) = Unit {0}
  PlacesOfFunction (method n has_next ps fs) = AllOf (AllPlaces P) fs

  abbrev pub PlacesOfPart : Part → Type 0
  PlacesOfPart (form d) = AllPlaces P d
  PlacesOfPart (below d) = AllPlaces P d
  PlacesOfPart (inner d) = AllPlaces P d
  PlacesOfPart (bind x d) = AllPlaces P d
  PlacesOfPart (parameter x) = Unit {0}
  PlacesOfPart (wrong p r) = P p
  PlacesOfPart (function f) = PlacesOfFunction f

  abbrev pub PlacesOfNode : Node → Type 0
  PlacesOfNode (offends p r) = P p
  PlacesOfNode unnamed = Unit {0}
  PlacesOfNode (steps a s d) = AllPlaces P d
  PlacesOfNode (calls a s m d) = AllPlaces P d
  PlacesOfNode (whole o i s xs m) = AllOf PlacesOfPart xs

  -- ---- tests

  pub either : (b : Bool) (x y : Node) → PlacesOfNode x → PlacesOfNode y → PlacesOfNode (if b then x else y)
  either true x y g h = g
  either false x y g h = h

  pub within : (k : ℕ) (a : StaticContext) (p : Place) (x : Node) → P p → PlacesOfNode x → PlacesOfNode (within_depth k a p x)
  within k a p x q g = either (nat_le (a.spot.depth + k) 1000) x _ g q

  -- ---- nodes without parts

  pub without_site : (a : StaticContext) (p : Place) (s : Tables) (l : Leaf) → P p → PlacesOfNode (unsited a p s l)
  without_site a p s l q = within 1 a p _ q tt

  pub a_literal : (a : StaticContext) (p : Place) (s : Tables) (row : LiteralRow) → P p → PlacesOfNode (literal_node a p s row)
  a_literal a p s row q = within 1 a p _ q tt

  pub at_once : (a : StaticContext) (p : Place) (s : Tables) (l : Leaf) → P p → PlacesOfNode (made_at_once a p s l)
  at_once a p s l q = within 1 a p _ q tt

  pub none_such : (p : Place) (r : Reason) (name : Option Name) → P p → PlacesOfNode (no_such p r name)
  none_such p r None q = q
  none_such p r (Some name) q = q

  -- ---- lists of parts

  pub both : (xs ys : List Part) → AllOf PlacesOfPart xs → AllOf PlacesOfPart ys → AllOf PlacesOfPart (xs ++ ys)
  both [] ys g h = h
  both (x ∷ xs) ys g h = (g.0, both xs ys g.1 h)

  pub forms_too : (ds : List Item) → AllOf (AllPlaces P) ds → AllOf PlacesOfPart (each_form ds)
  forms_too [] g = tt
  forms_too (d ∷ ds) g = (g.0, forms_too ds g.1)

  pub below_too : (ds : List Item) → AllOf (AllPlaces P) ds → AllOf PlacesOfPart (each_below ds)
  below_too [] g = tt
  below_too (d ∷ ds) g = (g.0, below_too ds g.1)

  pub inner_too : (ds : List Item) → AllOf (AllPlaces P) ds → AllOf PlacesOfPart (each_inner ds)
  inner_too [] g = tt
  inner_too (d ∷ ds) g = (g.0, inner_too ds g.1)

  pub bound_too : (qs : List Pair) → AllPairs P qs → AllOf PlacesOfPart (each_bound qs)
  bound_too [] g = tt
  bound_too (q ∷ qs) g = (g.0, bound_too qs g.1)

  pub parameters_too : (xs : List Symbol) → AllOf PlacesOfPart (each_parameter xs)
  parameters_too [] = tt
  parameters_too (x ∷ xs) = (tt, parameters_too xs)

  -- the variables of a lambda list, and the forms of a body
  pub function_too : (ps : Parameters) (fs : List Item) → AllOf (AllPlaces P) fs → AllOf PlacesOfPart (function_parts ps fs)
  function_too ps fs g = both (each_parameter (all_symbols ps)) (each_inner fs) (parameters_too (all_symbols ps)) (inner_too fs g)
