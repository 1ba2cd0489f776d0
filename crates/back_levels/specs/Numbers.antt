-- Which procedures of the lowered program are the main forms, and which is the start.
use Rattle.std.specs.Prelude.{◌≡◌, ℕ, ◌+◌, Some, slice_get}
use Rattle.flat_language.specs.FlatForm.{FlatForm}
use Rattle.back_lowering.specs.Program.{main_form, mains_from, start, start_number, lowered}
use Rattle.back_relation.specs.Setting.{Setting}
use Rattle.back_relation.specs.Placed.{IsPlaced}

pub record LawOfMainNumbers (setting : Setting) : Type 0 where
  pub main :
      (i : ℕ) (f : FlatForm) → IsPlaced setting → slice_get setting.program.main i ≡ Some f
      → slice_get (lowered setting.names setting.at setting.program) (mains_from setting.names setting.at setting.program + i)
      ≡ Some (main_form setting.names setting.at setting.program f)
  pub start :
      IsPlaced setting
      → slice_get (lowered setting.names setting.at setting.program) (start_number setting.names setting.at setting.program)
      ≡ Some (start setting.names setting.at setting.program)
