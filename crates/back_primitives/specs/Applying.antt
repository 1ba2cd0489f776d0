-- **What is to be shown of primitives**: their code does what their answers mean, where the words of all arguments are in registers.
use Rattle.std.specs.Prelude.{◌≡◌, ℕ, ◌+◌, ◌*◌, ◌≤◌, List, length}
use Rattle.lang_meaning.specs.Arity.{arity}
use Rattle.lang_meaning.specs.declared.primitive.Primitive.{Primitive}
use Rattle.lang_meaning.specs.Primitives.{primitive}
use Rattle.lang_meaning.specs.Values.{Value}
use Rattle.lang_meaning.specs.Counts.{unit_cost}
use Rattle.flat_language.specs.FlatForm.{FlatForms}
use Rattle.flat_language.specs.FlatNodes.{tables, count_forms}
use Rattle.flat_language.specs.FlatSignals.{answered}
use Rattle.flat_language.specs.FlatState.{FlatEvaluated}
use Rattle.mid_code.specs.declared.operation.Test.{Test}
use Rattle.mid_code.specs.Meaning.{exec}
use Rattle.mid_code.specs.MidCode.{code_of}
use Rattle.mid_code.specs.State.{MidOutcome}
use Rattle.mid_arena.specs.Places.{WordsOf}
use Rattle.back_lowering.specs.Primitives.{by_procedure, apply_primitive, Judged, judge_primitive}
use Rattle.back_lowering.specs.Registers.{of_code, enough_for}
use Rattle.back_lowering.specs.Steps.{Steps}
use Rattle.back_relation.specs.Setting.{Setting}
use Rattle.back_relation.specs.Placed.{IsPlaced}
use Rattle.back_relation.specs.Room.{routine_words}
use Rattle.back_relation.specs.Forms.{TestEnds, judged_credit, context_at, code_at}
use Rattle.back_relation.specs.Ends.{form_credit}
use Rattle.back_relation.specs.Starts.{Start, EndsAt}
use Rattle.back_primitives.specs.Calling.{WordsIn, PrimitiveThere, PendingDoesAnywhere, KnownWords}

-- what a primitive needs to be applied to words in registers
pub record Applies (setting : Setting) (k : ℕ) (a : Start setting) (which : Primitive) (vs : List Value) (ws : List ℕ) : Type 0 where
  pub placed : IsPlaced setting
  pub there : PrimitiveThere setting which
  pub pending : PendingDoesAnywhere setting k a.turns a.rs a.valid a.around
  pub room : routine_words ≤ a.n
  pub of_values : WordsOf a.w.places vs ws
  pub in_registers : WordsIn a.d ws a.regs
  pub many : length vs ≡ arity which

-- what is paid of the cost before: the units of the form, but for what it leaves of the first one
abbrev pub primitive_credit : Primitive → ℕ
primitive_credit which = form_credit + unit_cost * arity which

module _ (setting : Setting) (k : ℕ) (a : Start setting) (which : Primitive) (vs : List Value) where
  abbrev pub answer_meant : FlatEvaluated
  answer_meant = answered (context_at setting k) (primitive setting.names (tables setting.program) which vs a.z.state) a.around a.z

  -- steps do what the answer means
  abbrev pub StepsAnswer : Steps → Type 0
  StepsAnswer steps = EndsAt setting (primitive_credit which) a answer_meant (exec (code_at setting k a.turns) (code_of steps) a.regs a.y)

-- code judges from a start on
abbrev pub TestAt : (setting : Setting) → ℕ → Start setting → Test → FlatEvaluated → MidOutcome → Type 0
TestAt setting credit a test r q = TestEnds setting credit a.turns a.rs a.valid a.s a.d a.w a.env a.around a.z a.regs a.y test r q

-- the registers that steps name are there
abbrev pub NamesThere : {setting : Setting} → Start setting → Steps → Type 0
NamesThere a steps = enough_for (of_code (code_of steps)) ≤ length a.regs

-- steps make ready what the answer is judged by
abbrev pub JudgesAnswer : (setting : Setting) (k : ℕ) (a : Start setting) (which : Primitive) (vs : List Value) → Judged → Type 0
JudgesAnswer setting k a which vs j =
    TestAt setting (primitive_credit which + judged_credit) a j.test (answer_meant setting k a which vs) (exec (code_at setting k a.turns) (code_of j.ready) a.regs a.y)

-- a primitive is applied by its procedure
abbrev pub LawOfProcedures : Type 0
LawOfProcedures =
    (setting : Setting) (k : ℕ) (a : Start setting) (which : Primitive) (vs : List Value) (ws : List ℕ) → Applies setting k a which vs ws
    → NamesThere a (by_procedure setting.at which (length ws) a.d a.s.code.site)
    → StepsAnswer setting k a which vs (by_procedure setting.at which (length ws) a.d a.s.code.site)

-- **a primitive is applied**, in line where that is quick
abbrev pub LawOfApplying : Type 0
LawOfApplying =
    (setting : Setting) (k : ℕ) (a : Start setting) (which : Primitive) (fs : FlatForms) (vs : List Value) (ws : List ℕ) → Applies setting k a which vs ws
    → KnownWords setting.at setting.program.literals fs ws → count_forms fs ≡ arity which
    → NamesThere a (apply_primitive setting.at setting.program.literals which fs (count_forms fs) a.d a.s.code.site)
    → StepsAnswer setting k a which vs (apply_primitive setting.at setting.program.literals which fs (count_forms fs) a.d a.s.code.site)

-- **a primitive is judged**, where a form branches on what it says
abbrev pub LawOfJudgedPrimitives : Type 0
LawOfJudgedPrimitives =
    (setting : Setting) (k : ℕ) (a : Start setting) (which : Primitive) (fs : FlatForms) (vs : List Value) (ws : List ℕ) → Applies setting k a which vs ws
    → KnownWords setting.at setting.program.literals fs ws → count_forms fs ≡ arity which
    → NamesThere a (judge_primitive setting.at setting.program.literals which fs (count_forms fs) a.d a.s.code.site).ready
    → JudgesAnswer setting k a which vs (judge_primitive setting.at setting.program.literals which fs (count_forms fs) a.d a.s.code.site)
