-- **A value is applied to the elements of a list**: the routine does what is claimed of it.
use Rattle.std.specs.Prelude.{◌≡◌, ℕ, suc, ◌≤◌, List}
use Rattle.lang_meaning.specs.State.{DynamicContext}
use Rattle.flat_language.specs.declared.program.FlatProcedure.{FlatProcedure}
use Rattle.flat_language.specs.FlatState.{FlatState}
use Rattle.mid_code.specs.State.{MidState}
use Rattle.back_lowering.specs.Program.{Extra}
use Rattle.back_relation.specs.Setting.{Setting}
use Rattle.back_relation.specs.Placed.{IsPlaced}
use Rattle.back_relation.specs.RoutineClaims.{ApplyDoes}
use Rattle.back_relation.specs.Worlds.{World, Standing}
use Rattle.back_function_entries.specs.Lending.{EntryLends}
use Rattle.back_generics.specs.Methods.{ChainLends}
use Rattle.back_conditions.specs.Law.{ConditionsDo}

-- what is to be known of what the routine calls: of functions and chains where there is a level, which is the one below
pub record ApplyParts (setting : Setting) (k : ℕ) (around : DynamicContext) : Type 0 where
  pub entries : (j : ℕ) → k ≡ suc j → (turns number : ℕ) (extra : Extra) (q : FlatProcedure) → turns ≤ setting.turns_each → EntryLends setting j turns number extra q
  pub chains : (j : ℕ) → k ≡ suc j → (turns : ℕ) → turns ≤ setting.turns_each → ChainLends setting j turns 1
  pub conditions : ConditionsDo setting k 1 around

-- **the application to a list**: a function is entered, a generic function has its chain run, and what is none, or no list, is a domain error
abbrev pub LawOfListApplications : Type 0
LawOfListApplications =
    (setting : Setting) (k turns : ℕ) (rs valid : List Standing) (w : World) (around : DynamicContext) (z : FlatState) (y : MidState)
    → IsPlaced setting → turns ≤ setting.turns_each → ApplyParts setting k around → ApplyDoes setting k turns rs valid w around z y
