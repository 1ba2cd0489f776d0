-- Open fronts: a text followed by openings, with what stands behind each.
use Rattle.std.specs.Prelude.{◌≡◌, ℕ, suc, ◌<◌, false, List, [], ◌∷◌, ◌++◌, length}
use Rattle.base.specs.declared.place.Place.{Place}
use Rattle.front_reader.specs.declared.opening.Prefix.{Prefix}
use Rattle.front_reader.specs.Characters.{begins, is_token, place_behind}
use Rattle.front_reader.specs.Gaps.{Gap}
use Rattle.front_reader.specs.Trees.{Tree, Trees, prefix_bytes, spelled, spelled_all, behind, behind_all, Stands, StandsAll, IsSomeTree, PrefixEnds}

-- a gap, an opening that is not closed, and what stands behind it
pub data Level : Type 0 where
  -- a list and whole data
  in_list : List ℕ → Trees → Level
  -- a list, whole data, a gap and a dot
  at_dot : List ℕ → Trees → List ℕ → Level
  -- the same, and a gap and one whole datum behind the dot
  at_tail : List ℕ → Trees → List ℕ → List ℕ → Tree → Level
  -- a vector and whole data
  in_vector : List ℕ → Trees → Level
  -- a prefix
  at_prefix : List ℕ → Prefix → Level

-- the text that begins with the level's bytes and goes on with these
abbrev pub level_spelled : Level → List ℕ → List ℕ
level_spelled (in_list g ts) rest = g ++ 40 ∷ spelled_all ts rest
level_spelled (at_dot g ts h) rest = g ++ 40 ∷ spelled_all ts (h ++ 46 ∷ rest)
level_spelled (at_tail g ts h i t) rest = g ++ 40 ∷ spelled_all ts (h ++ 46 ∷ (i ++ spelled t rest))
level_spelled (in_vector g ts) rest = g ++ 35 ∷ 40 ∷ spelled_all ts rest
level_spelled (at_prefix g x) rest = g ++ (prefix_bytes x ++ rest)

-- the place behind a level that begins at a place, and those of its opening and of its dot
abbrev pub opening_place : Place → Level → Place
opening_place p (in_list g ts) = place_behind p g
opening_place p (at_dot g ts h) = place_behind p g
opening_place p (at_tail g ts h i t) = place_behind p g
opening_place p (in_vector g ts) = place_behind p g
opening_place p (at_prefix g x) = place_behind p g

abbrev pub dot_after : Place → List ℕ → Trees → List ℕ → Place
dot_after p g ts h = place_behind (behind_all (place_behind (place_behind p g) (40 ∷ [])) ts) h

abbrev pub level_behind : Place → Level → Place
level_behind p (in_list g ts) = behind_all (place_behind (place_behind p g) (40 ∷ [])) ts
level_behind p (at_dot g ts h) = place_behind (dot_after p g ts h) (46 ∷ [])
level_behind p (at_tail g ts h i t) = behind (place_behind (place_behind (dot_after p g ts h) (46 ∷ [])) i) t
level_behind p (in_vector g ts) = behind_all (place_behind (place_behind p g) (35 ∷ 40 ∷ [])) ts
level_behind p (at_prefix g x) = place_behind (place_behind p g) (prefix_bytes x)

-- the parts of a level are spelled right, with n openings open around it
abbrev pub StandsLevel : ℕ → Level → List ℕ → Type 0
StandsLevel n (in_list g ts) after = Gap g (40 ∷ spelled_all ts after) × StandsAll (suc n) ts after
StandsLevel n (at_dot g ts h) after =
    Gap g (40 ∷ spelled_all ts (h ++ 46 ∷ after)) × IsSomeTree ts × StandsAll (suc n) ts (h ++ 46 ∷ after)
    × Gap h (46 ∷ after) × (begins is_token after ≡ false)
StandsLevel n (at_tail g ts h i t) after =
    Gap g (40 ∷ spelled_all ts (h ++ 46 ∷ (i ++ spelled t after))) × IsSomeTree ts
    × StandsAll (suc n) ts (h ++ 46 ∷ (i ++ spelled t after))
    × Gap h (46 ∷ (i ++ spelled t after)) × (begins is_token (i ++ spelled t after) ≡ false)
    × Gap i (spelled t after) × Stands (suc n) t after
StandsLevel n (in_vector g ts) after = Gap g (35 ∷ 40 ∷ spelled_all ts after) × StandsAll (suc n) ts after
StandsLevel n (at_prefix g x) after = Gap g (prefix_bytes x ++ after) × PrefixEnds x after

-- an open front: whole data, then levels, the innermost first, then a gap
pub record Front : Type 0 where
  pub data_before : Trees
  pub levels : List Level
  pub gap : List ℕ

abbrev pub levels_spelled : Trees → List Level → List ℕ → List ℕ
levels_spelled ts [] rest = spelled_all ts rest
levels_spelled ts (l ∷ ls) rest = levels_spelled ts ls (level_spelled l rest)

abbrev pub levels_behind : Place → Trees → List Level → Place
levels_behind p ts [] = behind_all p ts
levels_behind p ts (l ∷ ls) = level_behind (levels_behind p ts ls) l

-- behind a dot with its one datum nothing more may open
abbrev pub TakesMore : List Level → Type 0
TakesMore [] = Unit {0}
TakesMore (in_list g ts ∷ ls) = Unit {0}
TakesMore (at_dot g ts h ∷ ls) = Unit {0}
TakesMore (at_tail g ts h i t ∷ ls) = ⊥
TakesMore (in_vector g ts ∷ ls) = Unit {0}
TakesMore (at_prefix g x ∷ ls) = Unit {0}

-- the parts of all levels are spelled right; no more than 256 openings are open inside one another
abbrev pub StandsLevels : Trees → List Level → List ℕ → Type 0
StandsLevels ts [] after = StandsAll 0 ts after
StandsLevels ts (l ∷ ls) after =
    StandsLevels ts ls (level_spelled l after) × (length ls < 256) × TakesMore ls × StandsLevel (length ls) l after

-- the text that begins with the front's bytes and goes on with these
abbrev pub front_spelled : Front → List ℕ → List ℕ
front_spelled f rest = levels_spelled f.data_before f.levels (f.gap ++ rest)

-- the place behind a front that begins at a place
abbrev pub front_behind : Place → Front → Place
front_behind p f = place_behind (levels_behind p f.data_before f.levels) f.gap

-- the front is one of the text that goes on with `rest` behind it
pub record IsFront (text : List ℕ) (f : Front) (rest : List ℕ) : Type 0 where
  pub spells : text ≡ front_spelled f rest
  pub stands : StandsLevels f.data_before f.levels (f.gap ++ rest)
  pub is_gap : Gap f.gap rest
