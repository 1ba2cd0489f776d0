-- Forms that do what they mean wherever they stand do so as arguments.
use Rattle.std.proofs.Common.{◌≡◌, ℕ, ◌+◌, ◌≤◌, length, arith}
use Rattle.flat_language.specs.FlatExits.{LeadForms}
use Rattle.flat_language.specs.FlatFits.{FitForms}
use Rattle.flat_language.specs.FlatForm.{FlatForms, no_form, form_and}
use Rattle.flat_language.specs.FlatStanding.{StandForms}
use Rattle.mid_code.specs.MidCode.{code_of}
use Rattle.back_lowering.specs.Codes.{lower}
use Rattle.back_lowering.specs.Registers.{of_code, enough_for}
use Rattle.back_lowering.specs.Steps.{Steps}
use Rattle.back_relation.specs.Setting.{Setting}
use Rattle.back_relation.specs.Placed.{PlacedForms}
use Rattle.back_relation.specs.Room.{words_for_forms}
use Rattle.back_relation.specs.Activation.{FormScope}
use Rattle.back_relation.specs.FormLaws.{AllDo}
use Rattle.back_relation.proofs.Fitting.{registers_front, registers_behind}
use Rattle.back_relation.proofs.Points.{does_here}
use Rattle.back_values.specs.Arguments.{arguments_steps, ArgumentsHere, LawOfArgumentLists}
use Rattle.back_values.proofs.FirstRegisters.{list_fits}

module _ (setting : Setting) (s : FormScope) (m size k turns first : ℕ) where
  pub arguments_here :
      (d : ℕ) (fs : FlatForms) → AllDo setting k turns fs → StandForms setting.program.lambdas s.flat first fs → FitForms setting.program fs
      → LeadForms setting.leads.functions s.exits fs → PlacedForms setting s.keeps_method fs → length s.exits.own ≡ s.flat.exits
      → enough_for (of_code (code_of (arguments_steps setting s d fs))) ≤ size → words_for_forms setting.names setting.program fs ≤ m
      → ArgumentsHere setting s d m size k turns fs
  unfolding lower
  arguments_here d no_form does stands fits leads placed known registers words = tt
  arguments_here d (form_and f fs) does stands fits leads placed known registers words =
      let one : Steps = (lower setting.names setting.at setting.program s.code d f).value in
      let others : Steps = arguments_steps setting s (d + 1) fs in (
        does_here setting s d m size k turns f first does.0 (record { stands = stands.0; fits = fits.0; leads = leads.0; placed = placed.0; forms_known = known })
            (registers_front one others size registers) (omega (arith, words)),
        arguments_here (d + 1) fs does.1 stands.1 fits.1 leads.1 placed.1 known (registers_behind one others size registers) (omega (arith, words)),
      )

pub argument_lists_law : LawOfArgumentLists
argument_lists_law setting s d m size k turns first fs does stands fits leads placed known there registers words = (
  list_fits setting s.code d size fs (omega (arith, there)) registers,
  arguments_here setting s m size k turns first d fs does stands fits leads placed known registers words,
)
