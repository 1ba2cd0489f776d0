-- The rows of forms that bind, and of definitions of variables and functions, offend at places of the form.
use Rattle.std.specs.Prelude.{Bool, true, false, List, [], ◌∷◌, Option, Some, None, ◌&&◌}
use Rattle.base.specs.declared.place.Place.{Place}
use Rattle.base.specs.declared.datum.Name.{Name}
use Rattle.base.specs.declared.reason.Reason.{Reason}
use Rattle.base.specs.Data.{Item}
use Rattle.base.specs.AllOf.{AllOf}
use Rattle.front_profile.specs.declared.bound.Bound.{Bound}
use Rattle.front_profile.specs.declared.parameters.Parameters.{Parameters}
use Rattle.front_profile.specs.declared.tables.Tables.{Tables}
use Rattle.front_profile.specs.declared.elaboration.DefinedAs.{DefinedAs}
use Rattle.front_profile.specs.Nodes.{StaticContext, Node}
use Rattle.front_profile.specs.Shapes.{Pair, pairs_in, parameters_in, symbol_of}
use Rattle.front_profile.specs.RowWords.{each_bound, each_inner, each_below}
use Rattle.front_profile.specs.BindingRows.{let_as, let_row, names_of, values_of, dynamics_as, dynamic_let_as, dynamic_let_row, lambda_as, lambda_row, functions_of, functions_as, with_functions_as, with_functions_row}
use Rattle.front_profile.specs.DefiningRows.{named, has_global, has_dynamic, is_set, is_taken, is_truth, is_reserved, defining_offence, unless_offending, defining, global_as, global_row, defdynamic_as, defdynamic_row, defun_with, defun_as, defun_row}
use Rattle.front_laws.proofs.AllPlaces.{AllPlaces}
use Rattle.front_laws.proofs.Parts.{its_place, AllPairs, MaybePairs, all_pairs}
use Rattle.front_laws.proofs.Nodes.{PlacesOfPart, PlacesOfNode, either, within, both, below_too, inner_too, bound_too, function_too}
use Rattle.front_laws.proofs.FormRows.{one_in}

module _ (P : Place → Type 0) where
  -- ---- let

  let_as_in : (a : StaticContext) (s : Tables) (p : Place) (bs : Item) (fs : List Item) (qs : Option (List Pair)) → AllPlaces P bs → AllOf (AllPlaces P) fs → MaybePairs P qs →
      PlacesOfNode P (let_as a s p bs fs qs)
  let_as_in a s p bs fs None b g k = its_place P bs b
  let_as_in a s p bs fs (Some qs) b g k = both P (each_bound qs) (each_inner fs) (bound_too P qs k) (inner_too P fs g)

  pub let_in : (a : StaticContext) (s : Tables) (p : Place) (ds : List Item) → P p → AllOf (AllPlaces P) ds → PlacesOfNode P (let_row a s p ds)
  let_in a s p [] q g = q
  let_in a s p (bs ∷ fs) q g = within P 2 a p _ q (let_as_in a s p bs fs (pairs_in s.words bs) g.0 g.1 (all_pairs P s.words bs g.0))

  -- ---- dynamic-let

  values_too : (qs : List Pair) → AllPairs P qs → AllOf (PlacesOfPart P) (values_of qs)
  values_too [] g = tt
  values_too (q ∷ qs) g = (g.0, values_too qs g.1)

  dynamics_as_in : (a : StaticContext) (s : Tables) (p : Place) (fs : List Item) (qs : List Pair) (ns : Option (List Name)) → P p → AllOf (AllPlaces P) fs → AllPairs P qs →
      PlacesOfNode P (dynamics_as a s p fs qs ns)
  dynamics_as_in a s p fs qs None q g k = q
  dynamics_as_in a s p fs qs (Some ns) q g k = within P 2 a p _ q (both P (values_of qs) (each_below fs) (values_too qs k) (below_too P fs g))

  dynamic_let_as_in : (a : StaticContext) (s : Tables) (p : Place) (bs : Item) (fs : List Item) (qs : Option (List Pair)) → P p → AllPlaces P bs → AllOf (AllPlaces P) fs →
      MaybePairs P qs → PlacesOfNode P (dynamic_let_as a s p bs fs qs)
  dynamic_let_as_in a s p bs fs None q b g k = within P 2 a p _ q (its_place P bs b)
  dynamic_let_as_in a s p bs fs (Some qs) q b g k = dynamics_as_in a s p fs qs (names_of qs) q g k

  pub dynamic_let_in : (a : StaticContext) (s : Tables) (p : Place) (ds : List Item) → P p → AllOf (AllPlaces P) ds → PlacesOfNode P (dynamic_let_row a s p ds)
  dynamic_let_in a s p [] q g = q
  dynamic_let_in a s p (bs ∷ fs) q g = dynamic_let_as_in a s p bs fs (pairs_in s.words bs) q g.0 g.1 (all_pairs P s.words bs g.0)

  -- ---- lambda

  lambda_as_in : (a : StaticContext) (s : Tables) (p : Place) (l : Item) (fs : List Item) (ps : Option Parameters) → AllPlaces P l → AllOf (AllPlaces P) fs →
      PlacesOfNode P (lambda_as a s p l fs ps)
  lambda_as_in a s p l fs None b g = its_place P l b
  lambda_as_in a s p l fs (Some ps) b g = function_too P ps fs g

  pub lambda_in : (a : StaticContext) (s : Tables) (p : Place) (ds : List Item) → P p → AllOf (AllPlaces P) ds → PlacesOfNode P (lambda_row a s p ds)
  lambda_in a s p [] q g = q
  lambda_in a s p (l ∷ fs) q g = within P 2 a p _ q (lambda_as_in a s p l fs (parameters_in s.words l) g.0 g.1)

  -- ---- local functions

  functions_as_in : (a : StaticContext) (s : Tables) (p : Place) (fs : List Item) (kept : Bool) (bs : Option (List Bound)) → P p → AllOf (AllPlaces P) fs →
      PlacesOfNode P (functions_as a s p fs kept bs)
  functions_as_in a s p fs true None q g = q
  functions_as_in a s p fs false None q g = q
  functions_as_in a s p fs true (Some bs) q g = q
  functions_as_in a s p fs false (Some bs) q g = within P 1 a p _ q (inner_too P fs g)

  with_functions_as_in : (kept : Bool) (a : StaticContext) (s : Tables) (p : Place) (bs : Item) (fs : List Item) (qs : Option (List Pair)) → P p → AllPlaces P bs →
      AllOf (AllPlaces P) fs → PlacesOfNode P (with_functions_as kept a s p bs fs qs)
  with_functions_as_in kept a s p bs fs None q b g = within P 1 a p _ q (its_place P bs b)
  with_functions_as_in kept a s p bs fs (Some qs) q b g = functions_as_in a s p fs kept (functions_of a qs) q g

  pub with_functions_in : (kept : Bool) (a : StaticContext) (s : Tables) (p : Place) (ds : List Item) → P p → AllOf (AllPlaces P) ds → PlacesOfNode P (with_functions_row kept a s p ds)
  with_functions_in kept a s p [] q g = q
  with_functions_in kept a s p (bs ∷ fs) q g = with_functions_as_in kept a s p bs fs (pairs_in s.words bs) q g.0 g.1

  -- ---- forms that define

  unless_offending_in : (p : Place) (r : Option Reason) (x : Node) → P p → PlacesOfNode P x → PlacesOfNode P (unless_offending p r x)
  unless_offending_in p None x q h = h
  unless_offending_in p (Some r) x q h = q

  pub defining_in : (a : StaticContext) (p : Place) (taken reserved : Bool) (x : Node) → P p → PlacesOfNode P x → PlacesOfNode P (defining a p taken reserved x)
  defining_in a p taken reserved x q h = unless_offending_in p (defining_offence a.spot.top taken reserved) x q h

  global_as_in : (constant : Bool) (a : StaticContext) (s : Tables) (p : Place) (name : Option Name) (x : Item) → P p → AllPlaces P x → PlacesOfNode P (global_as constant a s p name x)
  global_as_in constant a s p None x q g = q
  global_as_in constant a s p (Some name) x q g =
      defining_in a p (has_global a.spot.sited s name) (is_truth a s name) _ q (either P (constant && is_set s name) _ _ q (one_in P a p s _ x q g))

  pub global_in : (constant : Bool) (a : StaticContext) (s : Tables) (p : Place) (ds : List Item) → P p → AllOf (AllPlaces P) ds → PlacesOfNode P (global_row constant a s p ds)
  global_in constant a s p (d ∷ x ∷ []) q g = global_as_in constant a s p (named (symbol_of d)) x q g.1.0
  global_in constant a s p [] q g = q
  global_in constant a s p (d ∷ []) q g = q
  global_in constant a s p (d ∷ x ∷ e ∷ ds) q g = q

  defdynamic_as_in : (a : StaticContext) (s : Tables) (p : Place) (name : Option Name) (x : Item) → P p → AllPlaces P x → PlacesOfNode P (defdynamic_as a s p name x)
  defdynamic_as_in a s p None x q g = q
  defdynamic_as_in a s p (Some name) x q g =
      defining_in a p (has_dynamic a.spot.sited s name) (is_truth a s name) _ q (one_in P a p s _ x q g)

  pub defdynamic_in : (a : StaticContext) (s : Tables) (p : Place) (ds : List Item) → P p → AllOf (AllPlaces P) ds → PlacesOfNode P (defdynamic_row a s p ds)
  defdynamic_in a s p (d ∷ x ∷ []) q g = defdynamic_as_in a s p (named (symbol_of d)) x q g.1.0
  defdynamic_in a s p [] q g = q
  defdynamic_in a s p (d ∷ []) q g = q
  defdynamic_in a s p (d ∷ x ∷ e ∷ ds) q g = q

  defun_with_in : (k : DefinedAs) (a : StaticContext) (s : Tables) (name : Name) (d l : Item) (fs : List Item) (ps : Option Parameters) → AllPlaces P l → AllOf (AllPlaces P) fs →
      PlacesOfNode P (defun_with k a s name d l fs ps)
  defun_with_in k a s name d l fs None b g = its_place P l b
  defun_with_in k a s name d l fs (Some ps) b g = function_too P ps fs g

  defun_as_in : (k : DefinedAs) (kept : Bool) (a : StaticContext) (s : Tables) (p : Place) (d l : Item) (fs : List Item) (name : Option Name) → P p → AllPlaces P l → AllOf (AllPlaces P) fs →
      PlacesOfNode P (defun_as k kept a s p d l fs name)
  defun_as_in k kept a s p d l fs None q b g = q
  defun_as_in k kept a s p d l fs (Some name) q b g =
      defining_in a p (is_taken a.spot.sited s name) (is_reserved kept a s name) _ q
      (within P 1 a p _ q (defun_with_in k a s name d l fs (parameters_in s.words l) b g))

  pub defun_in : (k : DefinedAs) (kept : Bool) (a : StaticContext) (s : Tables) (p : Place) (ds : List Item) → P p → AllOf (AllPlaces P) ds → PlacesOfNode P (defun_row k kept a s p ds)
  defun_in k kept a s p [] q g = q
  defun_in k kept a s p (d ∷ []) q g = q
  defun_in k kept a s p (d ∷ l ∷ fs) q g = defun_as_in k kept a s p d l fs (named (symbol_of d)) q g.1.0 g.1.1
