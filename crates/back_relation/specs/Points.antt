-- Points where code begins in one scope, and what is shown of a form at all of them.
use Rattle.std.specs.Prelude.{◌≡◌, ⊤, ℕ, List, length}
use Rattle.lang_meaning.specs.State.{DynamicContext}
use Rattle.flat_language.specs.FlatForm.{FlatForm, while_form, FlatForms, no_form, form_and}
use Rattle.flat_language.specs.FlatMeaning.{mean}
use Rattle.flat_language.specs.FlatState.{FlatEnvironment, FlatState}
use Rattle.mid_code.specs.declared.operation.Counted.TheVariants.{Level}
use Rattle.mid_code.specs.Meaning.{exec, exec_step}
use Rattle.mid_code.specs.MidCode.{MidStep, repeat, code_of}
use Rattle.mid_code.specs.State.{Registers, MidState, MidOutcome}
use Rattle.back_lowering.specs.Codes.{lower}
use Rattle.back_lowering.specs.Steps.{Steps}
use Rattle.back_relation.specs.Setting.{Setting}
use Rattle.back_relation.specs.Worlds.{World, Standing}
use Rattle.back_relation.specs.Activation.{FormScope}
use Rattle.back_relation.specs.Forms.{Begins, SparingTest, context_at, code_at, value_code, judged}
use Rattle.back_relation.specs.Starts.{Start, SparingAt, LoopEnds}

module _ (setting : Setting) (s : FormScope) (d m size : ℕ) where
  -- a point where code begins in a scope, with a first register, so many words, and so many registers
  pub record Point : Type 0 where
    pub rs : List Standing
    pub valid : List Standing
    pub w : World
    pub env : FlatEnvironment
    pub around : DynamicContext
    pub z : FlatState
    pub regs : Registers
    pub y : MidState
    pub begins : Begins setting rs valid s d m w env around z regs y
    pub count : length regs ≡ size

  abbrev pub start_at : ℕ → Point → Start setting
  start_at turns p = record {
    turns = turns;
    rs = p.rs;
    valid = p.valid;
    s = s;
    d = d;
    n = m;
    w = p.w;
    env = p.env;
    around = p.around;
    z = p.z;
    regs = p.regs;
    y = p.y;
    begins = p.begins;
  }

  module _ (k n : ℕ) where
    abbrev pub run : Steps → Registers → MidState → MidOutcome
    run ss regs y = exec (code_at setting k n) (code_of ss) regs y

    abbrev pub value_steps : FlatForm → Steps
    value_steps f = (lower setting.names setting.at setting.program s.code d f).value

    -- a form's code does what it means at all points
    abbrev pub Here : FlatForm → Type 0
    Here f =
        (p : Point) → SparingAt setting (start_at n p) (mean (context_at setting k) f p.env p.around p.z) (run (value_steps f) p.regs p.y)

    -- so do all of these
    abbrev pub AllHere : FlatForms → Type 0
    AllHere no_form = ⊤
    AllHere (form_and f fs) = Here f × AllHere fs

    -- and a form is judged where its code says so
    abbrev pub JudgedHere : FlatForm → Type 0
    JudgedHere f =
        (p : Point)
        → SparingTest setting n p.rs p.valid s d p.w p.env p.around p.z p.regs p.y (judged setting s d f).test
        (mean (context_at setting k) f p.env p.around p.z) (exec (code_at setting k n) (code_of (judged setting s d f).ready) p.regs p.y)

    -- the code of a loop, whose turns are levels
    abbrev pub loop : (t body : FlatForm) → MidStep
    loop t body = repeat Level (code_of (judged setting s d t).ready) (judged setting s d t).test (value_code setting s d body)

    -- it does what the loop means
    abbrev pub LoopHere : (t body : FlatForm) → Type 0
    LoopHere t body =
        (p : Point)
        → LoopEnds setting 0 (start_at n p) (mean (context_at setting k) (while_form t body) p.env p.around p.z) (exec_step (code_at setting k n) (loop t body) p.regs p.y)
