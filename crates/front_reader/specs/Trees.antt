-- The syntax of data: the tree of a spelling, the text that it stands in front of, and what must hold
-- of its parts.
use Rattle.std.specs.Prelude.{◌≡◌, ℕ, suc, ◌<◌, false, ◌==◌, List, [], ◌∷◌, ◌++◌, codes}
use Rattle.base.specs.declared.place.Place.{Place}
use Rattle.front_reader.specs.declared.opening.Prefix.{Prefix}
use Rattle.front_reader.specs.declared.opening.Prefix.TheVariants.{Quote, Quasiquote, Unquote, UnquoteSplicing, Function}
use Rattle.front_reader.specs.Characters.{begins, is_token, place_behind}
use Rattle.front_reader.specs.Gaps.{Gap}
use Rattle.front_reader.specs.Atoms.{Atom, Spells}

mutual
  pub data Tree : Type 0 where
    -- a spelling without data inside: its bytes, and what they spell
    atom : List ℕ → Atom → Tree
    -- `(` data gap `)`
    proper : Trees → List ℕ → Tree
    -- `(` data gap `.` gap datum gap `)`
    improper : Trees → List ℕ → List ℕ → Tree → List ℕ → Tree
    -- `#(` data gap `)`
    row : Trees → List ℕ → Tree
    -- prefix gap datum
    prefixed : Prefix → List ℕ → Tree → Tree

  -- data in order, with a gap before each
  pub data Trees : Type 0 where
    no_tree : Trees
    then_tree : Trees → List ℕ → Tree → Trees

abbrev pub prefix_bytes : Prefix → List ℕ
prefix_bytes Quote = codes "'"
prefix_bytes Quasiquote = 96 ∷ []
prefix_bytes Unquote = codes ","
prefix_bytes UnquoteSplicing = codes ",@"
prefix_bytes Function = codes "#'"

-- the text that begins with the tree's bytes and goes on with these
unfoldable mutual
  pub spelled : Tree → List ℕ → List ℕ
  spelled (atom b a) rest = b ++ rest
  spelled (proper ts g) rest = 40 ∷ spelled_all ts (g ++ 41 ∷ rest)
  spelled (improper ts g h t i) rest = 40 ∷ spelled_all ts (g ++ 46 ∷ (h ++ spelled t (i ++ 41 ∷ rest)))
  spelled (row ts g) rest = 35 ∷ 40 ∷ spelled_all ts (g ++ 41 ∷ rest)
  spelled (prefixed x g t) rest = prefix_bytes x ++ (g ++ spelled t rest)

  pub spelled_all : Trees → List ℕ → List ℕ
  spelled_all no_tree rest = rest
  spelled_all (then_tree ts g t) rest = spelled_all ts (g ++ spelled t rest)

-- the place behind a tree that begins at a place
unfoldable mutual
  pub behind : Place → Tree → Place
  behind p (atom b a) = place_behind p b
  behind p (proper ts g) = place_behind (place_behind (behind_all (place_behind p (40 ∷ [])) ts) g) (41 ∷ [])
  behind p (improper ts g h t i) =
      place_behind
      (place_behind
      (behind
      (place_behind (place_behind (place_behind (behind_all (place_behind p (40 ∷ [])) ts) g) (46 ∷ [])) h) t) i)
      (41 ∷ [])
  behind p (row ts g) = place_behind (place_behind (behind_all (place_behind p (35 ∷ 40 ∷ [])) ts) g) (41 ∷ [])
  behind p (prefixed x g t) = behind (place_behind (place_behind p (prefix_bytes x)) g) t

  pub behind_all : Place → Trees → Place
  behind_all p no_tree = p
  behind_all p (then_tree ts g t) = behind (place_behind (behind_all p ts) g) t

-- a datum at least
abbrev pub IsSomeTree : Trees → Type 0
IsSomeTree no_tree = ⊥
IsSomeTree (then_tree ts g t) = Unit {0}

-- `,` is followed by no `@`
abbrev pub PrefixEnds : Prefix → List ℕ → Type 0
PrefixEnds Quote after = Unit {0}
PrefixEnds Quasiquote after = Unit {0}
PrefixEnds Unquote after = begins (λ b. b == 64) after ≡ false
PrefixEnds UnquoteSplicing after = Unit {0}
PrefixEnds Function after = Unit {0}

-- `Stands n t after`: the parts of the tree are spelled right, where the text goes on with `after` and n
-- openings are open around the tree; no more than 256 are ever open
unfoldable mutual
  pub Stands : ℕ → Tree → List ℕ → Type 0
  Stands n (atom b a) after = Spells b after a
  Stands n (proper ts g) after =
      (n < 256) × StandsAll (suc n) ts (g ++ 41 ∷ after) × Gap g (41 ∷ after)
  Stands n (improper ts g h t i) after =
      (n < 256) × IsSomeTree ts
      × StandsAll (suc n) ts (g ++ 46 ∷ (h ++ spelled t (i ++ 41 ∷ after)))
      × Gap g (46 ∷ (h ++ spelled t (i ++ 41 ∷ after)))
      × (begins is_token (h ++ spelled t (i ++ 41 ∷ after)) ≡ false)
      × Gap h (spelled t (i ++ 41 ∷ after))
      × Stands (suc n) t (i ++ 41 ∷ after)
      × Gap i (41 ∷ after)
  Stands n (row ts g) after =
      (n < 256) × StandsAll (suc n) ts (g ++ 41 ∷ after) × Gap g (41 ∷ after)
  Stands n (prefixed x g t) after =
      (n < 256) × PrefixEnds x (g ++ spelled t after) × Gap g (spelled t after) × Stands (suc n) t after

  pub StandsAll : ℕ → Trees → List ℕ → Type 0
  StandsAll n no_tree after = Unit {0}
  StandsAll n (then_tree ts g t) after =
      StandsAll n ts (g ++ spelled t after) × Gap g (spelled t after) × Stands n t after
