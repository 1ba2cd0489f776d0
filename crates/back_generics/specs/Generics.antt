-- **A generic function is applied** to words that were lent: the classes of its specialised arguments lead to a chain, which runs, or to none.
use Rattle.std.specs.Prelude.{ℕ, suc, ◌+◌, ◌≤◌, List, [], ◌∷◌, Some, length}
use Rattle.lang_meaning.specs.declared.program.GenericRow.{GenericRow}
use Rattle.lang_meaning.specs.State.{DynamicContext}
use Rattle.lang_meaning.specs.Values.{Value}
use Rattle.flat_language.specs.FlatSignals.{signal, apply_generic_row}
use Rattle.flat_language.specs.FlatState.{FlatState}
use Rattle.mid_code.specs.State.{MidState}
use Rattle.back_lowering.specs.Routines.{generic_routine}
use Rattle.back_relation.specs.Setting.{Setting}
use Rattle.back_relation.specs.Room.{generic_words}
use Rattle.back_relation.specs.Placed.{IsPlaced, HasSymbol}
use Rattle.back_relation.specs.Chains.{GenericAt}
use Rattle.back_relation.specs.Worlds.{World, Standing}
use Rattle.back_relation.specs.Forms.{context_at}
use Rattle.back_relation.specs.Procedures.{ArgumentsLent}
use Rattle.back_relation.specs.RoutineClaims.{GenericDoes, generic_credit}
use Rattle.back_conditions.specs.Law.{ConditionsDo}
use Rattle.back_generics.specs.Methods.{EntriesBelow}
use Rattle.back_generics.specs.Functions.{DoesOver}

-- the routine does what is claimed of it, with so many turns left over for what calls it
abbrev pub GenericOver : (setting : Setting) → (k turns spare : ℕ) → (rs valid : List Standing) → World → DynamicContext → FlatState → MidState → Type 0
GenericOver setting k turns spare rs valid w around z y =
    (g : GenericRow) (vs : List Value) (generic address : ℕ) → GenericAt setting generic g → HasSymbol setting g.name.0 → ArgumentsLent setting w y.arena address vs
    → DoesOver setting k turns spare rs valid w around z y generic_words (generic_credit (length vs)) (generic_routine setting.at) (generic ∷ length vs ∷ address ∷ [])
    (apply_generic_row (context_at setting k) (signal (context_at setting k)) (Some g) vs around z)

-- **the application of a generic function**: its chain runs a level below, or there is none, or a wrong number of arguments. What it calls leaves a turn
-- more over.
abbrev pub LawOfGenerics : Type 0
LawOfGenerics =
    (setting : Setting) (k turns spare : ℕ) (rs valid : List Standing) (w : World) (around : DynamicContext) (z : FlatState) (y : MidState)
    → IsPlaced setting → turns + spare ≤ suc setting.turns_each → spare ≤ 15 → EntriesBelow setting k → ConditionsDo setting k (suc spare) around
    → GenericOver setting k turns spare rs valid w around z y

-- so the routine of generic functions does what is claimed of it
abbrev pub LawOfGenericClaims : Type 0
LawOfGenericClaims =
    (setting : Setting) (k turns : ℕ) (rs valid : List Standing) (w : World) (around : DynamicContext) (z : FlatState) (y : MidState)
    → IsPlaced setting → turns ≤ suc setting.turns_each → EntriesBelow setting k → ConditionsDo setting k 1 around
    → GenericDoes setting k turns rs valid w around z y
