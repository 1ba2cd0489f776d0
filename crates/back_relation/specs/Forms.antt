-- **What is to be shown of each form**: its code does what it means.
use Rattle.std.specs.Prelude.{◌≡◌, ℕ, zero, suc, ◌+◌, ◌<◌, ◌≤◌, List, Some, length}
use Rattle.lang_meaning.specs.State.{DynamicContext, value}
use Rattle.lang_meaning.specs.Values.{Value, is_true}
use Rattle.lang_meaning.specs.Counts.{unit_cost}
use Rattle.flat_language.specs.FlatExits.{Leads}
use Rattle.flat_language.specs.FlatFits.{Fits}
use Rattle.flat_language.specs.FlatForm.{FlatForm}
use Rattle.flat_language.specs.FlatMeaning.{mean, none_below, flat_meaning_at}
use Rattle.flat_language.specs.FlatMeaning.{context_of as flat_context}
use Rattle.flat_language.specs.FlatSignals.{FlatContext, FlatTask, FlatEvaluation}
use Rattle.flat_language.specs.FlatStanding.{Stands}
use Rattle.flat_language.specs.FlatState.{FlatEnvironment, FlatState, FlatEvaluated, charged}
use Rattle.mid_code.specs.declared.operation.Test.{Test}
use Rattle.mid_code.specs.BlockLaw.{context_in}
use Rattle.mid_code.specs.Meaning.{Context, exec}
use Rattle.mid_code.specs.MidCode.{MidCode, code_of}
use Rattle.mid_code.specs.State.{Registers, register, falls, MidState, MidOutcome}
use Rattle.mid_code.specs.Words.{compares}
use Rattle.back_lowering.specs.Codes.{lower}
use Rattle.back_lowering.specs.Primitives.{Judged}
use Rattle.back_lowering.specs.Registers.{of_code, enough_for}
use Rattle.back_relation.specs.Setting.{Setting}
use Rattle.back_relation.specs.Room.{words_for}
use Rattle.back_relation.specs.Worlds.{World, Standing}
use Rattle.back_relation.specs.Placed.{Placed}
use Rattle.back_relation.specs.Around.{CallBegins}
use Rattle.back_relation.specs.Activation.{FormScope, ScopeStands, MethodThere, ActivationStands}
use Rattle.back_relation.specs.Ends.{Reached, Ends, Fell, Left, form_credit}

-- the activation has all registers that code names
abbrev pub HasRegisters : MidCode → Registers → Type 0
HasRegisters code regs = enough_for (of_code code) ≤ length regs

-- what it may cost beside its units to judge a value that is there
abbrev pub judged_credit : ℕ
judged_credit = 10

module _ (setting : Setting) where
  -- where code begins: d is the first register that it may use, and so many words of the stack it may lay
  pub record Begins (rs valid : List Standing) (s : FormScope) (d n : ℕ) (w : World) (env : FlatEnvironment) (around : DynamicContext) (z : FlatState) (regs : Registers) (y : MidState) : Type 0 where
    pub call : CallBegins setting rs valid n w around z y
    pub activation : ActivationStands setting s rs valid w env around z regs y
    pub scope : ScopeStands s.code d
    pub method_there : MethodThere setting w y.arena regs s.code.method env.method
    pub first : d < length regs

  -- what a form comes to, with its value in d
  abbrev pub FormEnds : (credit turns : ℕ) → (rs valid : List Standing) → (s : FormScope) → (d : ℕ) → World → FlatEnvironment → DynamicContext → FlatState → Registers → MidState → FlatEvaluated → MidOutcome → Type 0
  FormEnds credit turns rs valid s d w env around z regs y r q =
      Ends setting (credit + unit_cost) (Fell setting credit rs valid s d w env around z regs y r q) (Left setting credit rs valid s d w env around z regs y r q) turns z y r q

  -- where a form branches on its value: code fell out, and a test says whether it is true
  pub record FellJudged (credit : ℕ) (rs valid : List Standing) (s : FormScope) (d : ℕ) (w : World) (env : FlatEnvironment) (around : DynamicContext) (z : FlatState) (regs : Registers) (y : MidState)
      (test : Test) (r : FlatEvaluated) (q : MidOutcome) : Type 0 where
    pub result : Value
    pub outcome : r.outcome ≡ value result
    pub end : q.end ≡ falls
    pub w' : World
    pub reached : Reached setting credit s d rs valid w w' env around z r.state regs q.registers y q.state
    pub first : ℕ
    pub second : ℕ
    pub first_word : register test.first q.registers ≡ Some first
    pub second_word : register test.second q.registers ≡ Some second
    pub judged : compares test.comparison first second ≡ is_true result

  abbrev pub TestEnds : (credit turns : ℕ) → (rs valid : List Standing) → (s : FormScope) → (d : ℕ) → World → FlatEnvironment → DynamicContext → FlatState → Registers → MidState → Test → FlatEvaluated → MidOutcome → Type 0
  TestEnds credit turns rs valid s d w env around z regs y test r q =
      Ends setting (credit + unit_cost) (FellJudged credit rs valid s d w env around z regs y test r q) (Left setting credit rs valid s d w env around z regs y r q) turns z y r q

  -- **what a form comes to**, which leaves something of the first unit that it is charged to what is around it
  abbrev pub SparingForm : (turns : ℕ) → (rs valid : List Standing) → (s : FormScope) → (d : ℕ) → World → FlatEnvironment → DynamicContext → FlatState → Registers → MidState → FlatEvaluated → MidOutcome → Type 0
  SparingForm turns rs valid s d w env around z regs y r q = FormEnds form_credit turns rs valid s d w env around (charged 1 z) regs y r q

  -- and one that is judged
  abbrev pub SparingTest : (turns : ℕ) → (rs valid : List Standing) → (s : FormScope) → (d : ℕ) → World → FlatEnvironment → DynamicContext → FlatState → Registers → MidState → Test → FlatEvaluated → MidOutcome → Type 0
  SparingTest turns rs valid s d w env around z regs y test r q =
      TestEnds (form_credit + judged_credit) turns rs valid s d w env around (charged 1 z) regs y test r q

  -- what a whole program says of a form: places are there, literals and sites too, exits lead to forms that take them, names have words, and the
  -- forms that made the exits around are known
  pub record FormStands (s : FormScope) (first : ℕ) (f : FlatForm) : Type 0 where
    pub stands : Stands setting.program.lambdas s.flat first f
    pub fits : Fits setting.program f
    pub leads : Leads setting.leads.functions s.exits f
    pub placed : Placed setting s.keeps_method f
    pub forms_known : length s.exits.own ≡ s.flat.exits

  abbrev pub value_code : FormScope → ℕ → FlatForm → MidCode
  value_code s d f = code_of (lower setting.names setting.at setting.program s.code d f).value

  abbrev pub judged : FormScope → ℕ → FlatForm → Judged
  judged s d f = (lower setting.names setting.at setting.program s.code d f).judged

  -- the value of a form comes in d
  abbrev pub DoesForm : (turns : ℕ) → FlatContext → Context → FlatForm → Type 0
  DoesForm turns context c f =
      (rs valid : List Standing) (s : FormScope) (d n first : ℕ) (w : World) (env : FlatEnvironment) (around : DynamicContext) (z : FlatState) (regs : Registers) (y : MidState)
      → FormStands s first f → Begins rs valid s d n w env around z regs y
      → HasRegisters (value_code s d f) regs → words_for setting.names setting.program f ≤ n
      → SparingForm turns rs valid s d w env around z regs y (mean context f env around z) (exec c (value_code s d f) regs y)

  -- or it is judged
  abbrev pub JudgesForm : (turns : ℕ) → FlatContext → Context → FlatForm → Type 0
  JudgesForm turns context c f =
      (rs valid : List Standing) (s : FormScope) (d n first : ℕ) (w : World) (env : FlatEnvironment) (around : DynamicContext) (z : FlatState) (regs : Registers) (y : MidState)
      → FormStands s first f → Begins rs valid s d n w env around z regs y
      → HasRegisters (code_of (judged s d f).ready) regs → words_for setting.names setting.program f ≤ n
      → SparingTest turns rs valid s d w env around z regs y (judged s d f).test (mean context f env around z) (exec c (code_of (judged s d f).ready) regs y)

  -- the meaning at k levels, and the code at k levels with so many turns left at this one
  abbrev pub below_at : ℕ → FlatTask → FlatEvaluation
  below_at zero = none_below
  below_at (suc k) = flat_meaning_at setting.names setting.program setting.limit k

  abbrev pub context_at : ℕ → FlatContext
  context_at k = flat_context setting.names setting.program setting.limit (below_at k)

  abbrev pub code_at : (k turns : ℕ) → Context
  code_at k turns = context_in setting.procedures k setting.turns_each turns

  -- **a form at k levels**
  pub record FormDoes (k turns : ℕ) (f : FlatForm) : Type 0 where
    pub value : DoesForm turns (context_at k) (code_at k turns) f
    pub test : JudgesForm turns (context_at k) (code_at k turns) f
