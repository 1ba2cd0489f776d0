-- The procedure of a primitive of none, one, two or three arguments does what its code does.
use Rattle.std.proofs.Common.{◌≡◌, ℕ, ◌+◌, ◌*◌, ◌≤◌, List, [], ◌∷◌, length, ◌∙◌, arith}
use Rattle.lang_meaning.specs.declared.program.ProgramRows.{ProgramRows}
use Rattle.lang_meaning.specs.declared.primitive.Primitive.{Primitive}
use Rattle.lang_meaning.specs.Arity.{arity}
use Rattle.lang_meaning.specs.Values.{Value}
use Rattle.lang_meaning.specs.State as meaning
use Rattle.lang_meaning.specs.Primitives.{primitive}
use Rattle.mid_code.specs.declared.program.MidProcedure.{MidProcedure}
use Rattle.mid_code.specs.MidCode.{code_of}
use Rattle.mid_code.specs.State.{Registers, MidState, MidOutcome, first_registers}
use Rattle.mid_code.specs.Meaning.{Task}
use Rattle.mid_arena.specs.Places.{Places, WordsOf}
use Rattle.mid_arena.specs.Represents.{Represents}
use Rattle.mid_arena.specs.Answers.{units_after, IsPrimitive}
use Rattle.mid_arena.specs.Codes.{code_of_primitive, procedure_of}
use Rattle.mid_arena.proofs.Doing.{Run}
use Rattle.mid_arena.proofs.Entering.{InEveryFrame, does_by_code}

-- the registers at the start
abbrev pub one_register : ℕ → Registers
one_register a = first_registers 8 (a ∷ [])

abbrev pub two_registers : ℕ → ℕ → Registers
two_registers a b = first_registers 8 (a ∷ b ∷ [])

-- The code of a primitive, at such arguments in the first registers, comes to its answer, where so many units as the answer takes are left for turns.
abbrev pub CodeDoes : Primitive → List Value → List ℕ → Type 0
CodeDoes which vs ws =
    (names : List (List ℕ)) (program : ProgramRows) (places : Places) (z : meaning.State) (y : MidState) (procedures : List MidProcedure)
    (below : Task → MidState → MidOutcome) (n : ℕ)
    → Represents names program places z y → WordsOf places vs ws
    → units_after names program (primitive names program which vs z) ≤ z.units + n
    → Run names program places z y procedures below n (y.cost + 130 + 244 * arity which) (primitive names program which vs z)
    (code_of (code_of_primitive which)) (first_registers 8 ws) y.cost

-- it does so at any arguments, as many as the primitive has
does_at_all : (which : Primitive) → ((vs : List Value) (ws : List ℕ) → length vs ≡ arity which → CodeDoes which vs ws) → InEveryFrame which
does_at_all which code frame names program procedures below n places z y vs ws r are count units =
    does_by_code names program places z y procedures below n which frame vs ws r are count (λ y' r'. code vs ws count names program places z y' procedures below n r' are units)

-- a primitive without arguments, with one, two or three
pub does_none : (which : Primitive) → arity which ≡ 0 → CodeDoes which [] [] → InEveryFrame which
does_none which none code = does_at_all which (λ vs ws count. by vs ws (count ∙ none))
  where
    by : (vs : List Value) (ws : List ℕ) → length vs ≡ 0 → CodeDoes which vs ws
    by [] [] count = code
    by [] (w ∷ ws) count = λ names program places z y procedures below n r are units. absurd are
    by (v ∷ vs) ws count = absurd (omega (arith, count))

pub does_one : (which : Primitive) → arity which ≡ 1 → ((v : Value) (a : ℕ) → CodeDoes which (v ∷ []) (a ∷ [])) → InEveryFrame which
does_one which one code = does_at_all which (λ vs ws count. by vs ws (count ∙ one))
  where
    by : (vs : List Value) (ws : List ℕ) → length vs ≡ 1 → CodeDoes which vs ws
    by (v ∷ []) (a ∷ []) count = code v a
    by [] ws count = absurd (omega (arith, count))
    by (v ∷ w ∷ vs) ws count = absurd (omega (arith, count))
    by (v ∷ []) [] count = λ names program places z y procedures below n r are units. absurd are
    by (v ∷ []) (a ∷ b ∷ ws) count = λ names program places z y procedures below n r are units. absurd are.1

pub does_two : (which : Primitive) → arity which ≡ 2 → ((v w : Value) (a b : ℕ) → CodeDoes which (v ∷ w ∷ []) (a ∷ b ∷ [])) → InEveryFrame which
does_two which two code = does_at_all which (λ vs ws count. by vs ws (count ∙ two))
  where
    by : (vs : List Value) (ws : List ℕ) → length vs ≡ 2 → CodeDoes which vs ws
    by (v ∷ w ∷ []) (a ∷ b ∷ []) count = code v w a b
    by [] ws count = absurd (omega (arith, count))
    by (v ∷ []) ws count = absurd (omega (arith, count))
    by (v ∷ w ∷ u ∷ vs) ws count = absurd (omega (arith, count))
    by (v ∷ w ∷ []) [] count = λ names program places z y procedures below n r are units. absurd are
    by (v ∷ w ∷ []) (a ∷ []) count = λ names program places z y procedures below n r are units. absurd are.1
    by (v ∷ w ∷ []) (a ∷ b ∷ c ∷ ws) count = λ names program places z y procedures below n r are units. absurd are.1.1

pub does_three :
    (which : Primitive) → arity which ≡ 3 → ((v w u : Value) (a b c : ℕ) → CodeDoes which (v ∷ w ∷ u ∷ []) (a ∷ b ∷ c ∷ []))
    → InEveryFrame which
does_three which three code = does_at_all which (λ vs ws count. by vs ws (count ∙ three))
  where
    by : (vs : List Value) (ws : List ℕ) → length vs ≡ 3 → CodeDoes which vs ws
    by (v ∷ w ∷ u ∷ []) (a ∷ b ∷ c ∷ []) count = code v w u a b c
    by (v ∷ w ∷ u ∷ []) [] count = λ names program places z y procedures below n r are units. absurd are
    by (v ∷ w ∷ u ∷ []) (a ∷ []) count = λ names program places z y procedures below n r are units. absurd are.1
    by (v ∷ w ∷ u ∷ []) (a ∷ b ∷ []) count = λ names program places z y procedures below n r are units. absurd are.1.1
    by (v ∷ w ∷ u ∷ []) (a ∷ b ∷ c ∷ d ∷ ws) count = λ names program places z y procedures below n r are units. absurd are.1.1.1
    by w ws count = absurd (omega (arith, count))
