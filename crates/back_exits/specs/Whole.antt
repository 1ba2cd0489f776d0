-- Ways to own exits whose records are at hand, wherever they stand.
use Rattle.std.specs.Prelude.{◌≡◌, ℕ, ◌≤◌, List, Some, slice_get}
use Rattle.lang_meaning.specs.State.{DynamicContext}
use Rattle.flat_language.specs.declared.place.ExitPlace.TheVariants.{Own}
use Rattle.flat_language.specs.FlatForm.{FlatForm, return_from, go}
use Rattle.flat_language.specs.FlatMeaning.{mean}
use Rattle.flat_language.specs.FlatState.{FlatEnvironment, FlatState}
use Rattle.mid_code.specs.Meaning.{exec}
use Rattle.mid_code.specs.State.{Registers, MidState}
use Rattle.back_lowering.specs.declared.scope.OwnExit.{OwnExit}
use Rattle.back_relation.specs.Setting.{Setting}
use Rattle.back_relation.specs.Placed.{IsPlaced}
use Rattle.back_relation.specs.Room.{words_for}
use Rattle.back_relation.specs.Worlds.{World, Standing}
use Rattle.back_relation.specs.Activation.{FormScope}
use Rattle.back_relation.specs.Forms.{FormStands, Begins, HasRegisters, SparingForm, DoesForm, context_at, code_at, value_code}
use Rattle.back_exits.specs.Exits.{IsAtHand}

module _ (setting : Setting) (k turns : ℕ) where
  -- the code of a form does what the form means in each scope that has the record of an own exit at hand
  abbrev pub DoesAtHand : ℕ → FlatForm → Type 0
  DoesAtHand i f =
      (rs valid : List Standing) (s : FormScope) (d n first : ℕ) (w : World) (env : FlatEnvironment) (around : DynamicContext) (z : FlatState) (regs : Registers) (y : MidState) (x : OwnExit)
      → slice_get s.code.exits i ≡ Some x → IsAtHand x.reach → FormStands setting s first f → Begins setting rs valid s d n w env around z regs y
      → HasRegisters (value_code setting s d f) regs → words_for setting.names setting.program f ≤ n
      → SparingForm setting turns rs valid s d w env around z regs y (mean (context_at setting k) f env around z) (exec (code_at setting k turns) (value_code setting s d f) regs y)

-- a value goes to a block
abbrev pub LawOfWholeReturns : Type 0
LawOfWholeReturns =
    (setting : Setting) (k turns i : ℕ) (f : FlatForm) → IsPlaced setting → DoesForm setting turns (context_at setting k) (code_at setting k turns) f
    → DoesAtHand setting k turns i (return_from (Own i) f)

-- a tagbody goes on at a segment
abbrev pub LawOfWholeGoes : Type 0
LawOfWholeGoes = (setting : Setting) (k turns i segment : ℕ) → IsPlaced setting → DoesAtHand setting k turns i (go (Own i) segment)
