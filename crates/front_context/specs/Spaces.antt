-- What symbols stand for in each namespace, the innermost first, where these things are bound.
use Rattle.std.specs.Prelude.{ℕ, ◌+◌, List, [], ◌∷◌, ◌++◌, drop, length, Option, Some, None, if◌then◌else◌}
use Rattle.base.specs.declared.datum.Symbol.{Symbol}
use Rattle.front_profile.specs.declared.bound.Target.{Target}
use Rattle.front_profile.specs.declared.bound.Bound.{Bound}
use Rattle.front_profile.specs.declared.bound.Bound.TheVariants.{Variable, Function, Block, Tags}
use Rattle.front_profile.specs.Names.{same_symbol}

-- what stands under a symbol
abbrev pub under : {X : Type 0} → Symbol → List (Symbol × X) → Option X
under x [] = None
under x (e ∷ es) = if same_symbol x e.0 then Some e.1 else under x es

pub record Spaces : Type 0 where
  pub variables : List (Symbol × ℕ)
  pub functions : List (Symbol × ℕ)
  pub blocks : List (Symbol × ℕ)
  pub tags : List (Symbol × Target)

abbrev pub no_names : Spaces
no_names = record { variables = []; functions = []; blocks = []; tags = [] }

-- tags, the first of which stands in front of segment n
abbrev pub targets : ℕ → ℕ → List Symbol → List (Symbol × Target)
targets e n [] = []
targets e n (y ∷ ys) = (y, record { exit = e; segment = n }) ∷ targets e (n + 1) ys

-- one thing more is bound
abbrev pub with_one : Bound → Spaces → Spaces
with_one (Variable y v) s = record s { variables = (y, v) ∷ s.variables }
with_one (Function y v) s = record s { functions = (y, v) ∷ s.functions }
with_one (Block y e) s = record s { blocks = (y, e) ∷ s.blocks }
with_one (Tags ys e) s = record s { tags = targets e 1 ys ++ s.tags }

abbrev pub with_all : List Bound → Spaces → Spaces
with_all [] s = s
with_all (b ∷ bs) s = with_all bs (with_one b s)

abbrev pub spaces_of : List Bound → Spaces
spaces_of bs = with_all bs no_names

-- the last one is taken away
abbrev pub without : Bound → Spaces → Spaces
without (Variable y v) s = record s { variables = drop 1 s.variables }
without (Function y v) s = record s { functions = drop 1 s.functions }
without (Block y e) s = record s { blocks = drop 1 s.blocks }
without (Tags ys e) s = record s { tags = drop (length ys) s.tags }
