-- What soundness of rows is made of: weights, depth, and lists of parts.
use Rattle.std.proofs.Common.{◌≡◌, ℕ, ◌+◌, ◌-◌, ◌<◌, ◌≤◌, nat_le, Bool, true, false, List, [], ◌∷◌, ◌++◌, if◌then◌else◌, refl, arith}
use Rattle.std.proofs.lemmas.Bool.{leb-true}
use Rattle.base.specs.declared.place.Place.{Place}
use Rattle.base.specs.declared.reason.Reason.TheVariants.{DepthLimit}
use Rattle.base.specs.declared.datum.Symbol.{Symbol}
use Rattle.base.specs.Data.{Item}
use Rattle.base.specs.AllOf.{AllOf}
use Rattle.base.specs.WellFormedData.{WellFormed}
use Rattle.lang_meaning.specs.declared.program.LiteralRow.{LiteralRow}
use Rattle.front_profile.specs.declared.elaboration.Leaf.{Leaf}
use Rattle.front_profile.specs.declared.spot.Spot.{Spot}
use Rattle.front_profile.specs.declared.tables.Tables.{Tables}
use Rattle.front_profile.specs.Nodes.{StaticContext, Part, Node, offends}
use Rattle.front_profile.specs.Shapes.{Pair}
use Rattle.front_profile.specs.RowWords.{deeper_spot, deeper_at_top_spot, alone_spot, within_depth, made_at_once, unsited, literal_node, each_form, each_below, each_inner, each_bound, each_parameter}
use Rattle.front_profile.specs.Sound.{weight, HasBelow, AllSound, SoundNode}
use Rattle.front_profile.specs.bridge.WellFormedParts.{WellFormedPairs}

-- weights

below_either : (x y : ℕ) (top : Bool) → x < y → x + 0 < y + (if top then 1002 else 0)
below_either x y true h = omega arith
below_either x y false h = omega arith

below_same : (x y z : ℕ) → x < y → x + z < y + z
below_same x y z h = omega arith

below_top : (d : ℕ) (top : Bool) → top ≡ true → 1000 < (1001 - d) + (if top then 1002 else 0)
below_top d true e = omega arith
below_top d false e = absurd (cc)

-- deeper there is less to go down
pub weight_deeper : (k : ℕ) (spot : Spot) → 0 < k → spot.depth + k ≤ 1000 → weight (deeper_spot k spot) < weight spot
weight_deeper k spot more h = below_either (1001 - (spot.depth + k)) (1001 - spot.depth) spot.top (omega arith)

pub weight_below : (spot : Spot) → spot.depth + 2 ≤ 1000 → HasBelow (weight spot) (deeper_spot 1 spot)
weight_below spot h = (below_either (1001 - (spot.depth + 1 + 1)) (1001 - spot.depth) spot.top (omega arith), omega arith)

pub weight_at_top : (spot : Spot) → spot.depth + 1 ≤ 1000 → weight (deeper_at_top_spot spot) < weight spot
weight_at_top spot h = below_same (1001 - (spot.depth + 1)) (1001 - spot.depth) (if spot.top then 1002 else 0) (omega arith)

-- so in the body of a definition, which stands at top level
pub weight_alone : (in_method : Bool) (spot : Spot) → spot.top ≡ true → weight (alone_spot in_method spot) < weight spot
weight_alone in_method spot e = below_top spot.depth spot.top e

-- tests

pub sound_if : (n w : ℕ) (b : Bool) (x y : Node) → SoundNode n w x → SoundNode n w y → SoundNode n w (if b then x else y)
sound_if n w true x y g h = g
sound_if n w false x y g h = h

where_true : (n w : ℕ) (b : Bool) (p : Place) (x : Node) → (b ≡ true → SoundNode n w x) → SoundNode n w (if b then x else offends p DepthLimit)
where_true n w true p x h = h refl
where_true n w false p x h = tt

-- what is sound where it is not too deep
pub sound_within : (n w k : ℕ) (a : StaticContext) (p : Place) (x : Node) → (a.spot.depth + k ≤ 1000 → SoundNode n w x) → SoundNode n w (within_depth k a p x)
sound_within n w k a p x h = where_true n w (nat_le (a.spot.depth + k) 1000) p x (λ e. h (leb-true (a.spot.depth + k) 1000 e))

-- nodes without parts

pub sound_unsited : (n w : ℕ) (a : StaticContext) (p : Place) (s : Tables) (l : Leaf) → SoundNode n w (unsited a p s l)
sound_unsited n w a p s l = sound_within n w 1 a p _ (λ h. tt)

pub sound_literal : (n w : ℕ) (a : StaticContext) (p : Place) (s : Tables) (row : LiteralRow) → SoundNode n w (literal_node a p s row)
sound_literal n w a p s row = sound_within n w 1 a p _ (λ h. tt)

pub sound_at_once : (n w : ℕ) (a : StaticContext) (p : Place) (s : Tables) (l : Leaf) → SoundNode n w (made_at_once a p s l)
sound_at_once n w a p s l = sound_within n w 1 a p _ (λ h. tt)

-- lists of parts

pub both_sound : (n w : ℕ) (o i : StaticContext) (xs ys : List Part) → AllSound n w o i xs → AllSound n w o i ys → AllSound n w o i (xs ++ ys)
both_sound n w o i [] ys g h = h
both_sound n w o i (x ∷ xs) ys g h = (g.0, both_sound n w o i xs ys g.1 h)

pub forms_sound : (n w : ℕ) (o i : StaticContext) (ds : List Item) → weight o.spot < w → AllOf (WellFormed n) ds → AllSound n w o i (each_form ds)
forms_sound n w o i [] h g = tt
forms_sound n w o i (d ∷ ds) h g = ((g.0, h), forms_sound n w o i ds h g.1)

pub below_sound : (n w : ℕ) (o i : StaticContext) (ds : List Item) → HasBelow w o.spot → AllOf (WellFormed n) ds → AllSound n w o i (each_below ds)
below_sound n w o i [] h g = tt
below_sound n w o i (d ∷ ds) h g = ((g.0, h), below_sound n w o i ds h g.1)

pub inner_sound : (n w : ℕ) (o i : StaticContext) (ds : List Item) → weight i.spot < w → AllOf (WellFormed n) ds → AllSound n w o i (each_inner ds)
inner_sound n w o i [] h g = tt
inner_sound n w o i (d ∷ ds) h g = ((g.0, h), inner_sound n w o i ds h g.1)

pub bound_sound : (n w : ℕ) (o i : StaticContext) (qs : List Pair) → weight o.spot < w → WellFormedPairs n qs → AllSound n w o i (each_bound qs)
bound_sound n w o i [] h g = tt
bound_sound n w o i (q ∷ qs) h g = ((g.0, h), bound_sound n w o i qs h g.1)

pub parameters_sound : (n w : ℕ) (o i : StaticContext) (xs : List Symbol) → AllSound n w o i (each_parameter xs)
parameters_sound n w o i [] = tt
parameters_sound n w o i (x ∷ xs) = (tt, parameters_sound n w o i xs)
