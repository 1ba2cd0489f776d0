-- From points in one scope to all of them: what is shown of a form wherever it stands.
use Rattle.std.proofs.Common.{◌≡◌, ℕ, ◌≤◌, length, refl, arith}
use Rattle.flat_language.specs.FlatExits.{LeadForms}
use Rattle.flat_language.specs.FlatFits.{FitForms}
use Rattle.flat_language.specs.FlatForm.{sequence, FlatForms, no_form, form_and}
use Rattle.flat_language.specs.FlatStanding.{StandForms}
use Rattle.mid_code.specs.MidCode.{code_of}
use Rattle.back_lowering.specs.Codes.{lower, lower_behind}
use Rattle.back_lowering.specs.Registers.{of_code, enough_for}
use Rattle.back_relation.specs.Setting.{Setting}
use Rattle.back_relation.specs.Placed.{PlacedForms}
use Rattle.back_relation.specs.Room.{words_for_forms}
use Rattle.back_relation.specs.Activation.{FormScope}
use Rattle.back_relation.specs.Forms.{DoesForm, context_at, code_at}
use Rattle.back_relation.specs.FormLaws.{AllDo, LawOfWholeSequences}
use Rattle.back_relation.specs.Points.{AllHere}
use Rattle.back_relation.proofs.Fitting.{registers_front, registers_behind}
use Rattle.back_relation.proofs.Points.{does_here}
use Rattle.back_relation.proofs.Sequences.{sequence_sim}

module _ (setting : Setting) (k turns : ℕ) where
  -- forms in order, each of which does what it means wherever it stands
  all_here :
      (s : FormScope) (d m size first : ℕ) (fs : FlatForms) → AllDo setting k turns fs → StandForms setting.program.lambdas s.flat first fs
      → FitForms setting.program fs → LeadForms setting.leads.functions s.exits fs → PlacedForms setting s.keeps_method fs → length s.exits.own ≡ s.flat.exits
      → enough_for (of_code (code_of (lower_behind setting.names setting.at setting.program s.code d fs))) ≤ size
      → words_for_forms setting.names setting.program fs ≤ m → AllHere setting s d m size k turns fs
  unfolding lower
  all_here s d m size first no_form does stands fits leads placed known registers words = tt
  all_here s d m size first (form_and f fs) does stands fits leads placed known registers words =
      let one = (lower setting.names setting.at setting.program s.code d f).value in
      let others = lower_behind setting.names setting.at setting.program s.code d fs in (
        does_here setting s d m size k turns f first does.0 (record { stands = stands.0; fits = fits.0; leads = leads.0; placed = placed.0; forms_known = known })
            (registers_front one others size registers) (omega (arith, words)),
        all_here s d m size first fs does.1 stands.1 fits.1 leads.1 placed.1 known (registers_behind one others size registers) (omega (arith, words)),
      )

  pub sequence_does : (fs : FlatForms) → AllDo setting k turns fs → DoesForm setting turns (context_at setting k) (code_at setting k turns) (sequence fs)
  unfolding lower
  sequence_does no_form does rs valid s d n first w env around z regs y stands begins registers words =
      sequence_sim setting s d n (length regs) k turns no_form tt
      (record { rs = rs; valid = valid; w = w; env = env; around = around; z = z; regs = regs; y = y; begins = begins; count = refl })
  sequence_does (form_and f fs) does rs valid s d n first w env around z regs y stands begins registers words =
      sequence_sim setting s d n (length regs) k turns (form_and f fs)
      (all_here s d n (length regs) first (form_and f fs) does stands.stands stands.fits stands.leads stands.placed stands.forms_known registers words)
      (record { rs = rs; valid = valid; w = w; env = env; around = around; z = z; regs = regs; y = y; begins = begins; count = refl })

pub whole_sequences_law : LawOfWholeSequences
whole_sequences_law setting k turns fs does = sequence_does setting k turns fs does
