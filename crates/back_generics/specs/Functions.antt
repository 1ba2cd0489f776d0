-- **A value is applied** to words that were lent: what the routine does, with turns left over for what calls it.
use Rattle.std.specs.Prelude.{ℕ, suc, ◌+◌, ◌≤◌, List, [], ◌∷◌, length}
use Rattle.lang_meaning.specs.State.{DynamicContext}
use Rattle.lang_meaning.specs.Values.{Value}
use Rattle.flat_language.specs.FlatSignals.{signal, apply_value}
use Rattle.flat_language.specs.FlatState.{FlatState, FlatEvaluated}
use Rattle.mid_code.specs.State.{MidState}
use Rattle.back_lowering.specs.Routines.{function_routine}
use Rattle.back_relation.specs.Setting.{Setting}
use Rattle.back_relation.specs.Room.{applying_words}
use Rattle.back_relation.specs.Placed.{IsPlaced}
use Rattle.back_relation.specs.Worlds.{World, Standing}
use Rattle.back_relation.specs.Around.{CallBegins, SiteStored}
use Rattle.back_relation.specs.Ends.{CallEnds}
use Rattle.back_relation.specs.Forms.{context_at, code_at}
use Rattle.back_relation.specs.Procedures.{called, ArgumentsLent}
use Rattle.back_relation.specs.RoutineClaims.{WordIs, FunctionDoes, applying_credit}
use Rattle.back_conditions.specs.Law.{ConditionsDo}
use Rattle.back_generics.specs.Methods.{EntriesDo, EntriesBelow}

module _ (setting : Setting) (k turns spare : ℕ) (rs valid : List Standing) (w : World) (around : DynamicContext) (z : FlatState) (y : MidState) where
  -- a routine that is called where the site is stored does what the meaning comes to, and leaves so many turns over
  abbrev pub DoesOver : (room credit routine : ℕ) → List ℕ → FlatEvaluated → Type 0
  DoesOver room credit routine ws r =
      SiteStored setting around y → CallBegins setting rs valid room w around z y
      → CallEnds setting credit (turns + spare) rs valid w around z y r (called (code_at setting k turns) routine ws y)

  -- so does that of the application of a value
  abbrev pub FunctionOver : Type 0
  FunctionOver =
      (f : Value) (vs : List Value) (word address : ℕ) → WordIs setting w word f → ArgumentsLent setting w y.arena address vs
      → DoesOver applying_words (applying_credit (length vs)) (function_routine setting.at) (word ∷ length vs ∷ address ∷ [])
      (apply_value (context_at setting k) (signal (context_at setting k)) f vs around z)

-- **the application of a value**: a function is entered, a generic function is applied, and what is none is a domain error. What it calls leaves a turn
-- more over, and what a generic function calls two.
abbrev pub LawOfFunctions : Type 0
LawOfFunctions =
    (setting : Setting) (k turns spare : ℕ) (rs valid : List Standing) (w : World) (around : DynamicContext) (z : FlatState) (y : MidState)
    → IsPlaced setting → turns + spare ≤ suc setting.turns_each → spare ≤ 14 → EntriesDo setting k → EntriesBelow setting k → ConditionsDo setting k (suc (suc spare)) around
    → FunctionOver setting k turns spare rs valid w around z y

-- so the routine of values does what is claimed of it
abbrev pub LawOfFunctionClaims : Type 0
LawOfFunctionClaims =
    (setting : Setting) (k turns : ℕ) (rs valid : List Standing) (w : World) (around : DynamicContext) (z : FlatState) (y : MidState)
    → IsPlaced setting → turns ≤ suc setting.turns_each → EntriesDo setting k → EntriesBelow setting k → ConditionsDo setting k 2 around
    → FunctionDoes setting k turns rs valid w around z y
