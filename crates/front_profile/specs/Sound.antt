-- Parts of a row: their data are in form with names in the table, and they stand deeper than the form, or in the body of a
-- definition at top level, so judging ends.
use Rattle.std.specs.Prelude.{ℕ, ◌+◌, ◌-◌, ◌<◌, List, [], ◌∷◌, if◌then◌else◌}
use Rattle.base.specs.AllOf.{AllOf}
use Rattle.base.specs.WellFormedData.{WellFormed}
use Rattle.front_profile.specs.declared.spot.Spot.{Spot}
use Rattle.front_profile.specs.Nodes.{StaticContext, Part, form, below, inner, bind, parameter, wrong, function, Written, initform, accessor, method, Node, offends, unnamed, steps, calls, whole}
use Rattle.front_profile.specs.RowWords.{deeper_spot}

-- how far judging can still go down from there
abbrev pub weight : Spot → ℕ
weight spot = (1001 - spot.depth) + (if spot.top then 1002 else 0)

-- a body can stand a form deeper
abbrev pub HasBelow : ℕ → Spot → Type 0
HasBelow w spot = (weight (deeper_spot 1 spot) < w) × (spot.depth < 1000)

-- a function of a definition at top level stands alone
abbrev pub SoundFunction : ℕ → ℕ → Written → Type 0
SoundFunction n w (initform d) = WellFormed n d × (1001 < w)
SoundFunction n w (accessor m k d) = 1001 < w
SoundFunction n w (method m has_next ps fs) = AllOf (WellFormed n) fs × (1001 < w)

-- where the datum of a part stands, and that datum
abbrev pub SoundPart : ℕ → ℕ → StaticContext → StaticContext → Part → Type 0
SoundPart n w o i (form d) = WellFormed n d × (weight o.spot < w)
SoundPart n w o i (below d) = WellFormed n d × (HasBelow w o.spot)
SoundPart n w o i (inner d) = WellFormed n d × (weight i.spot < w)
SoundPart n w o i (bind x d) = WellFormed n d × (weight o.spot < w)
SoundPart n w o i (parameter x) = Unit {0}
SoundPart n w o i (wrong p r) = Unit {0}
SoundPart n w o i (function f) = SoundFunction n w f

abbrev pub AllSound : ℕ → ℕ → StaticContext → StaticContext → List Part → Type 0
AllSound n w o i [] = Unit {0}
AllSound n w o i (x ∷ xs) = SoundPart n w o i x × AllSound n w o i xs

-- names below that number, deeper than that weight
abbrev pub SoundNode : ℕ → ℕ → Node → Type 0
SoundNode n w (offends p r) = Unit {0}
SoundNode n w unnamed = Unit {0}
SoundNode n w (steps a s d) = Unit {0}
SoundNode n w (calls a s m d) = Unit {0}
SoundNode n w (whole o i s xs m) = AllSound n w o i xs
