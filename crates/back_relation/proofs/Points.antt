-- From a point where code begins to the one where it goes on; and what is shown of a form at all points of a scope.
use Rattle.std.proofs.Common.{ℕ, ◌≤◌, sym, ◌∙◌, subst, arith}
use Rattle.flat_language.specs.FlatForm.{FlatForm}
use Rattle.flat_language.specs.FlatState.{FlatState, charged}
use Rattle.mid_code.specs.Law.{Grown}
use Rattle.mid_code.specs.MidCode.{code_of}
use Rattle.mid_code.specs.State.{Registers, MidState}
use Rattle.mid_code.proofs.Growth.{exec_grown, levels_grow, turns_grow}
use Rattle.back_lowering.specs.Registers.{of_code, enough_for}
use Rattle.back_lowering.specs.Steps.{Steps}
use Rattle.back_relation.specs.Setting.{Setting}
use Rattle.back_relation.specs.Worlds.{World}
use Rattle.back_relation.specs.Activation.{FormScope}
use Rattle.back_relation.specs.Room.{words_for}
use Rattle.back_relation.specs.Forms.{FormStands, DoesForm, context_at, code_at, value_code}
use Rattle.back_relation.specs.Points.{Point, start_at, run, Here}
use Rattle.back_relation.specs.Starts.{ReachedFrom}
use Rattle.back_relation.proofs.Starts.{start_after, start_charged}

module _ (setting : Setting) (s : FormScope) (d m size : ℕ) where
  abbrev pub point_after :
      {credit : ℕ} (turns : ℕ) (p : Point setting s d m size) {w : World} {z : FlatState} {regs : Registers} {y : MidState} → ReachedFrom setting credit (start_at setting s d m size turns p) d w z regs y
      → Point setting s d m size
  point_after turns p {w} {z} {regs} {y} x = record {
    rs = p.rs;
    valid = p.valid;
    w = w;
    env = p.env;
    around = p.around;
    z = z;
    regs = regs;
    y = y;
    begins = (start_after setting (start_at setting s d m size turns p) d d m (omega arith) (omega arith) (omega arith) p.begins.first x).begins;
    count = x.kept.registers.count ∙ p.count;
  }

  -- the same point behind a unit that is charged
  abbrev pub charged_point : (turns : ℕ) → Point setting s d m size → Point setting s d m size
  charged_point turns p = record {
    rs = p.rs;
    valid = p.valid;
    w = p.w;
    env = p.env;
    around = p.around;
    z = charged 1 p.z;
    regs = p.regs;
    y = p.y;
    begins = (start_charged setting (start_at setting s d m size turns p) 1).begins;
    count = p.count;
  }

  module _ (k n : ℕ) where
    pub code_grows : (ss : Steps) (regs : Registers) (y : MidState) → Grown y (run setting s d m size k n ss regs y).state
    code_grows ss regs y =
        exec_grown (code_at setting k n) (levels_grow setting.procedures setting.turns_each k)
        (turns_grow setting.procedures _ (levels_grow setting.procedures setting.turns_each k) n) (code_of ss) regs y

    -- it does where the form stands, and the registers and the words are there
    pub does_here :
        (f : FlatForm) (first : ℕ) → DoesForm setting n (context_at setting k) (code_at setting k n) f → FormStands setting s first f
        → enough_for (of_code (value_code setting s d f)) ≤ size → words_for setting.names setting.program f ≤ m → Here setting s d m size k n f
    does_here f first does stands registers words p =
        does p.rs p.valid s d m first p.w p.env p.around p.z p.regs p.y stands p.begins
        (subst (λ n. enough_for (of_code (value_code setting s d f)) ≤ n) (sym p.count) registers) words
