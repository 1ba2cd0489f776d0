-- The rows of forms that bind and of forms that define have sound parts.
use Rattle.std.proofs.Common.{◌≡◌, ℕ, ◌+◌, ◌<◌, ◌≤◌, Bool, true, false, List, [], ◌∷◌, Option, Some, None, ◌&&◌, refl, arith}
use Rattle.base.specs.declared.place.Place.{Place}
use Rattle.base.specs.declared.datum.Name.{Name}
use Rattle.base.specs.Data.{Item}
use Rattle.base.specs.AllOf.{AllOf}
use Rattle.base.specs.WellFormedData.{WellFormed}
use Rattle.front_profile.specs.declared.bound.Bound.{Bound}
use Rattle.front_profile.specs.declared.parameters.Parameters.{Parameters}
use Rattle.front_profile.specs.declared.tables.Tables.{Tables}
use Rattle.front_profile.specs.declared.elaboration.DefinedAs.{DefinedAs}
use Rattle.front_profile.specs.Nodes.{StaticContext, Node}
use Rattle.front_profile.specs.Shapes.{Pair, pairs_in, parameters_in, all_symbols, symbol_of}
use Rattle.front_profile.specs.RowWords.{alone, deeper, with_all, each_bound, each_inner, each_below, each_parameter}
use Rattle.front_profile.specs.BindingRows.{let_as, let_row, names_of, values_of, dynamics_as, dynamic_let_as, dynamic_let_row, lambda_as, lambda_row, functions_of, functions_as, with_functions_as, with_functions_row}
use Rattle.front_profile.specs.DefiningRows.{named, has_global, has_dynamic, is_set, is_taken, is_truth, is_reserved, defining_offence, unless_offending, defining, global_as, global_row, defdynamic_as, defdynamic_row, defun_with, defun_as, defun_row}
use Rattle.front_profile.specs.FunctionNodes.{function_parts}
use Rattle.front_profile.specs.Sound.{weight, AllSound, SoundNode}
use Rattle.front_profile.specs.bridge.WellFormedParts.{WellFormedPairs, MaybePairs, good_pairs}
use Rattle.front_profile.specs.bridge.SoundParts.{weight_deeper, weight_below, weight_alone, sound_if, sound_within, both_sound, below_sound, inner_sound, bound_sound, parameters_sound}
use Rattle.front_profile.specs.bridge.SoundForms.{sound_one}

-- let

sound_let_as : (n : ℕ) (a : StaticContext) (s : Tables) (p : Place) (bs : Item) (fs : List Item) (qs : Option (List Pair)) → AllOf (WellFormed n) fs → MaybePairs n qs →
    a.spot.depth + 2 ≤ 1000 → SoundNode n (weight a.spot) (let_as a s p bs fs qs)
sound_let_as n a s p bs fs None g k h = tt
sound_let_as n a s p bs fs (Some qs) g k h =
    both_sound n (weight a.spot) (deeper 1 a) (deeper 2 a) (each_bound qs) (each_inner fs)
    (bound_sound n (weight a.spot) (deeper 1 a) (deeper 2 a) qs (weight_deeper 1 a.spot (omega arith) (omega arith)) k)
    (inner_sound n (weight a.spot) (deeper 1 a) (deeper 2 a) fs (weight_deeper 2 a.spot (omega arith) h) g)

pub sound_let : (n : ℕ) (a : StaticContext) (s : Tables) (p : Place) (ds : List Item) → AllOf (WellFormed n) ds → SoundNode n (weight a.spot) (let_row a s p ds)
sound_let n a s p [] g = tt
sound_let n a s p (bs ∷ fs) g =
    sound_within n (weight a.spot) 2 a p _ (sound_let_as n a s p bs fs (pairs_in s.words bs) g.1 (good_pairs n s.words bs g.0))

-- dynamic-let

sound_values : (n w : ℕ) (o i : StaticContext) (qs : List Pair) → weight o.spot < w → WellFormedPairs n qs → AllSound n w o i (values_of qs)
sound_values n w o i [] h g = tt
sound_values n w o i (q ∷ qs) h g = ((g.0, h), sound_values n w o i qs h g.1)

sound_dynamics_as : (n : ℕ) (a : StaticContext) (s : Tables) (p : Place) (fs : List Item) (qs : List Pair) (ns : Option (List Name)) → AllOf (WellFormed n) fs →
    WellFormedPairs n qs → SoundNode n (weight a.spot) (dynamics_as a s p fs qs ns)
sound_dynamics_as n a s p fs qs None g k = tt
sound_dynamics_as n a s p fs qs (Some ns) g k = sound_within n (weight a.spot) 2 a p _ (λ h.
    both_sound n (weight a.spot) (deeper 1 a) (deeper 1 a) (values_of qs) (each_below fs)
    (sound_values n (weight a.spot) (deeper 1 a) (deeper 1 a) qs (weight_deeper 1 a.spot (omega arith) (omega arith)) k)
    (below_sound n (weight a.spot) (deeper 1 a) (deeper 1 a) fs (weight_below a.spot h) g))

sound_dynamic_let_as : (n : ℕ) (a : StaticContext) (s : Tables) (p : Place) (bs : Item) (fs : List Item) (qs : Option (List Pair)) → AllOf (WellFormed n) fs →
    MaybePairs n qs → SoundNode n (weight a.spot) (dynamic_let_as a s p bs fs qs)
sound_dynamic_let_as n a s p bs fs None g k = sound_within n (weight a.spot) 2 a p _ (λ h. tt)
sound_dynamic_let_as n a s p bs fs (Some qs) g k = sound_dynamics_as n a s p fs qs (names_of qs) g k

pub sound_dynamic_let : (n : ℕ) (a : StaticContext) (s : Tables) (p : Place) (ds : List Item) → AllOf (WellFormed n) ds →
    SoundNode n (weight a.spot) (dynamic_let_row a s p ds)
sound_dynamic_let n a s p [] g = tt
sound_dynamic_let n a s p (bs ∷ fs) g = sound_dynamic_let_as n a s p bs fs (pairs_in s.words bs) g.1 (good_pairs n s.words bs g.0)

-- lambda

-- the variables of a lambda list, and the forms of a body
pub sound_variables : (n w : ℕ) (o i : StaticContext) (ps : Parameters) (fs : List Item) → weight i.spot < w → AllOf (WellFormed n) fs → AllSound n w o i (function_parts ps fs)
sound_variables n w o i ps fs h g =
    both_sound n w o i (each_parameter (all_symbols ps)) (each_inner fs) (parameters_sound n w o i (all_symbols ps)) (inner_sound n w o i fs h g)

sound_lambda_as : (n : ℕ) (a : StaticContext) (s : Tables) (p : Place) (l : Item) (fs : List Item) (ps : Option Parameters) → AllOf (WellFormed n) fs →
    a.spot.depth + 2 ≤ 1000 → SoundNode n (weight a.spot) (lambda_as a s p l fs ps)
sound_lambda_as n a s p l fs None g h = tt
sound_lambda_as n a s p l fs (Some ps) g h = sound_variables n (weight a.spot) (deeper 1 a) (deeper 2 a) ps fs (weight_deeper 2 a.spot (omega arith) h) g

pub sound_lambda : (n : ℕ) (a : StaticContext) (s : Tables) (p : Place) (ds : List Item) → AllOf (WellFormed n) ds → SoundNode n (weight a.spot) (lambda_row a s p ds)
sound_lambda n a s p [] g = tt
sound_lambda n a s p (l ∷ fs) g =
    sound_within n (weight a.spot) 2 a p _ (sound_lambda_as n a s p l fs (parameters_in s.words l) g.1)

-- local functions

sound_functions_as : (n : ℕ) (a : StaticContext) (s : Tables) (p : Place) (fs : List Item) (kept : Bool) (bs : Option (List Bound)) → AllOf (WellFormed n) fs →
    SoundNode n (weight a.spot) (functions_as a s p fs kept bs)
sound_functions_as n a s p fs true None g = tt
sound_functions_as n a s p fs false None g = tt
sound_functions_as n a s p fs true (Some bs) g = tt
sound_functions_as n a s p fs false (Some bs) g =
    sound_within n (weight a.spot) 1 a p _ (λ h. inner_sound n (weight a.spot) (deeper 1 a) (with_all bs (deeper 1 a)) fs (weight_deeper 1 a.spot (omega arith) h) g)

sound_with_functions_as : (n : ℕ) (kept : Bool) (a : StaticContext) (s : Tables) (p : Place) (bs : Item) (fs : List Item) (qs : Option (List Pair)) →
    AllOf (WellFormed n) fs → SoundNode n (weight a.spot) (with_functions_as kept a s p bs fs qs)
sound_with_functions_as n kept a s p bs fs None g = sound_within n (weight a.spot) 1 a p _ (λ h. tt)
sound_with_functions_as n kept a s p bs fs (Some qs) g = sound_functions_as n a s p fs kept (functions_of a qs) g

pub sound_with_functions : (n : ℕ) (kept : Bool) (a : StaticContext) (s : Tables) (p : Place) (ds : List Item) → AllOf (WellFormed n) ds →
    SoundNode n (weight a.spot) (with_functions_row kept a s p ds)
sound_with_functions n kept a s p [] g = tt
sound_with_functions n kept a s p (bs ∷ fs) g = sound_with_functions_as n kept a s p bs fs (pairs_in s.words bs) g.1

-- forms that define, which stand at top level

where_no_offence : (n w : ℕ) (p : Place) (top taken reserved : Bool) (x : Node) → (top ≡ true → SoundNode n w x) →
    SoundNode n w (unless_offending p (defining_offence top taken reserved) x)
where_no_offence n w p top true reserved x h = tt
where_no_offence n w p false false reserved x h = tt
where_no_offence n w p true false true x h = tt
where_no_offence n w p true false false x h = h refl

pub sound_defining : (n w : ℕ) (a : StaticContext) (p : Place) (taken reserved : Bool) (x : Node) → (a.spot.top ≡ true → SoundNode n w x) →
    SoundNode n w (defining a p taken reserved x)
sound_defining n w a p taken reserved x h = where_no_offence n w p a.spot.top taken reserved x h

sound_global_as : (n : ℕ) (constant : Bool) (a : StaticContext) (s : Tables) (p : Place) (name : Option Name) (x : Item) → WellFormed n x →
    SoundNode n (weight a.spot) (global_as constant a s p name x)
sound_global_as n constant a s p None x g = tt
sound_global_as n constant a s p (Some name) x g =
    sound_defining n (weight a.spot) a p (has_global a.spot.sited s name) (is_truth a s name) _
    (λ top. sound_if n (weight a.spot) (constant && is_set s name) _ _ tt (sound_one n a p s _ x g))

pub sound_global : (n : ℕ) (constant : Bool) (a : StaticContext) (s : Tables) (p : Place) (ds : List Item) → AllOf (WellFormed n) ds →
    SoundNode n (weight a.spot) (global_row constant a s p ds)
sound_global n constant a s p (d ∷ x ∷ []) g = sound_global_as n constant a s p (named (symbol_of d)) x g.1.0
sound_global n constant a s p [] g = tt
sound_global n constant a s p (d ∷ []) g = tt
sound_global n constant a s p (d ∷ x ∷ e ∷ ds) g = tt

sound_defdynamic_as : (n : ℕ) (a : StaticContext) (s : Tables) (p : Place) (name : Option Name) (x : Item) → WellFormed n x →
    SoundNode n (weight a.spot) (defdynamic_as a s p name x)
sound_defdynamic_as n a s p None x g = tt
sound_defdynamic_as n a s p (Some name) x g =
    sound_defining n (weight a.spot) a p (has_dynamic a.spot.sited s name) (is_truth a s name) _ (λ top. sound_one n a p s _ x g)

pub sound_defdynamic : (n : ℕ) (a : StaticContext) (s : Tables) (p : Place) (ds : List Item) → AllOf (WellFormed n) ds →
    SoundNode n (weight a.spot) (defdynamic_row a s p ds)
sound_defdynamic n a s p (d ∷ x ∷ []) g = sound_defdynamic_as n a s p (named (symbol_of d)) x g.1.0
sound_defdynamic n a s p [] g = tt
sound_defdynamic n a s p (d ∷ []) g = tt
sound_defdynamic n a s p (d ∷ x ∷ e ∷ ds) g = tt

sound_defun_with : (n : ℕ) (k : DefinedAs) (a : StaticContext) (s : Tables) (name : Name) (d l : Item) (fs : List Item) (ps : Option Parameters) → AllOf (WellFormed n) fs →
    a.spot.top ≡ true → SoundNode n (weight a.spot) (defun_with k a s name d l fs ps)
sound_defun_with n k a s name d l fs None g top = tt
sound_defun_with n k a s name d l fs (Some ps) g top =
    sound_variables n (weight a.spot) (alone false a) (alone false a) ps fs (weight_alone false a.spot top) g

sound_defun_as : (n : ℕ) (k : DefinedAs) (kept : Bool) (a : StaticContext) (s : Tables) (p : Place) (d l : Item) (fs : List Item) (name : Option Name) → AllOf (WellFormed n) fs →
    SoundNode n (weight a.spot) (defun_as k kept a s p d l fs name)
sound_defun_as n k kept a s p d l fs None g = tt
sound_defun_as n k kept a s p d l fs (Some name) g =
    sound_defining n (weight a.spot) a p (is_taken a.spot.sited s name) (is_reserved kept a s name) _
    (λ top. sound_within n (weight a.spot) 1 a p _ (λ h. sound_defun_with n k a s name d l fs (parameters_in s.words l) g top))

pub sound_defun : (n : ℕ) (k : DefinedAs) (kept : Bool) (a : StaticContext) (s : Tables) (p : Place) (ds : List Item) → AllOf (WellFormed n) ds →
    SoundNode n (weight a.spot) (defun_row k kept a s p ds)
sound_defun n k kept a s p [] g = tt
sound_defun n k kept a s p (d ∷ []) g = tt
sound_defun n k kept a s p (d ∷ l ∷ fs) g = sound_defun_as n k kept a s p d l fs (named (symbol_of d)) g.1.1
