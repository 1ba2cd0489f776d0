-- What is shown of the words of a chain of methods.
use Rattle.std.specs.Prelude.{◌≡◌, ℕ, ◌+◌, ◌*◌, ◌%◌, ◌^◌, ◌≤◌, List, [], ◌∷◌, ◌++◌, Option, Some, length}
use Rattle.lang_meaning.specs.Objects.{Chain}
use Rattle.flat_language.specs.FlatState.{FlatState}
use Rattle.mid_code.specs.declared.operation.Arithmetic.TheVariants as which
use Rattle.mid_code.specs.Arena.{word_at}
use Rattle.mid_code.specs.Meaning.{exec}
use Rattle.mid_code.specs.MidCode.{code_of}
use Rattle.mid_code.specs.State.{Registers, MidState, falls, ends}
use Rattle.back_lowering.specs.ControlWords.{primary_behind}
use Rattle.back_lowering.specs.declared.placement.Placement.{Placement}
use Rattle.back_lowering.specs.RoutineCodes.{number_into, add_to}
use Rattle.back_lowering.specs.Steps.{Steps, move, constant, compute, if_equal}
use Rattle.back_relation.specs.Setting.{Setting, ConstantAt}
use Rattle.back_relation.specs.Chains.{ahead_words, chain_words, ChainAt}
use Rattle.back_relation.specs.Worlds.{World}
use Rattle.back_relation.specs.Things.{Things}
use Rattle.back_relation.specs.Forms.{code_at}

-- where the methods before stand in a chain without around methods, those after, and the first primary one
abbrev pub before_at : (address : ℕ) → Chain → ℕ
before_at address c = address + 4 * length (ahead_words (length c.before + length c.after))

abbrev pub after_at : (address : ℕ) → Chain → ℕ
after_at address c = before_at address c + 4 * length c.before

abbrev pub primary_at : (address : ℕ) → Chain → ℕ
primary_at address c = after_at address c + 4 * length c.after

-- The steps that find these: the first word of the chain at the address in 0 is in 3, and of what kind it is in 4. Where the methods before stand
-- comes to 7, and where the first primary one does to 8; 3 and 5 are used.
abbrev pub finds_primary : Placement → Steps
finds_primary at =
    move 7 0 ∷ move 8 0 ∷ constant 5 primary_behind ∷ if_equal 4 5 (number_into at 3 3 5 ++ (compute 8 which.Add 0 3 ∷ add_to 7 5 4)) [] ∷ []

module _ (setting : Setting) where
  -- where all constants are that stand behind the objects
  abbrev pub HasConstants : MidState → Type 0
  HasConstants v = (p word : ℕ) → ConstantAt setting p word → (word_at v.arena p ≡ Some word) × (p + 8 ≤ 2 ^ 32)

  -- the steps came to where these methods stand
  pub record Found (k turns : ℕ) (v : MidState) (r1 r2 r5 r6 r7 r8 : Option ℕ) (rest : Registers) (first address : ℕ) (c : Chain) : Type 0 where
    pub third : Option ℕ
    pub fifth : Option ℕ
    pub total : ℕ
    pub runs :
        exec (code_at setting k turns) (code_of (finds_primary setting.at)) (Some address ∷ r1 ∷ r2 ∷ Some first ∷ Some (first % 8) ∷ r5 ∷ r6 ∷ r7 ∷ r8 ∷ rest) v
        ≡ ends falls (Some address ∷ r1 ∷ r2 ∷ third ∷ Some (first % 8) ∷ fifth ∷ r6 ∷ Some (before_at address c) ∷ Some (primary_at address c) ∷ rest) (record v { cost = v.cost + total })
    pub within : total ≤ 74

-- **The first primary method of a chain without around methods is found**, whatever methods run before and after it. Where there is no primary method,
-- that is the end of the chain.
abbrev pub LawOfPrimaries : Type 0
LawOfPrimaries =
    (setting : Setting) (k turns : ℕ) (v : MidState) (c : Chain) (first : ℕ) (others : List ℕ) (address : ℕ) (r1 r2 r5 r6 r7 r8 : Option ℕ) (rest : Registers) → HasConstants setting v
    → ChainAt setting address c → c.around ≡ [] → chain_words c ≡ first ∷ others → Found setting k turns v r1 r2 r5 r6 r7 r8 rest first address c

-- all constants are there where the state is the one that words stand for
abbrev pub LawOfConstants : Type 0
LawOfConstants = (setting : Setting) (w : World) (z : FlatState) (y : MidState) → Things setting w z y → HasConstants setting y
