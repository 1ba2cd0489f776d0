-- Lists of forms whose values come in registers one after another, as arguments do: each is kept while the others run.
use Rattle.std.specs.Prelude.{◌≡◌, ⊤, ℕ, ◌+◌, ◌<◌, ◌≤◌, List, [], ◌∷◌, ◌++◌, Some, length}
use Rattle.lang_meaning.specs.Values.{Value}
use Rattle.flat_language.specs.FlatExits.{LeadForms}
use Rattle.flat_language.specs.FlatFits.{FitForms}
use Rattle.flat_language.specs.FlatForm.{FlatForms, no_form, form_and}
use Rattle.flat_language.specs.FlatMeaning.{mean_arguments}
use Rattle.flat_language.specs.FlatNodes.{count_forms}
use Rattle.flat_language.specs.FlatStanding.{StandForms}
use Rattle.flat_language.specs.FlatState.{FlatState, FlatEvaluated}
use Rattle.mid_code.specs.MidCode.{code_of}
use Rattle.mid_code.specs.declared.operation.Test.{Test}
use Rattle.mid_code.specs.State.{Registers, register, MidState}
use Rattle.mid_arena.specs.Places.{WordsOf}
use Rattle.back_lowering.specs.Codes.{lower_arguments}
use Rattle.back_lowering.specs.Registers.{of_code, enough_for}
use Rattle.back_lowering.specs.Steps.{Steps}
use Rattle.back_relation.specs.Setting.{Setting}
use Rattle.back_relation.specs.Worlds.{World}
use Rattle.back_relation.specs.Placed.{PlacedForms}
use Rattle.back_relation.specs.Room.{words_for_forms}
use Rattle.back_relation.specs.Activation.{FormScope}
use Rattle.back_relation.specs.Ends.{Reached}
use Rattle.back_relation.specs.Forms.{FormEnds, TestEnds, context_at}
use Rattle.back_relation.specs.Starts.{FlatGrown, EndsAt}
use Rattle.back_relation.specs.Points.{Point, start_at, run, Here}
use Rattle.back_relation.specs.FormLaws.{AllDo}

-- words are in registers one after another
abbrev pub WordsIn : ℕ → List ℕ → Registers → Type 0
WordsIn d [] regs = ⊤
WordsIn d (w ∷ ws) regs = (register d regs ≡ Some w) × WordsIn (d + 1) ws regs

module _ (setting : Setting) (s : FormScope) where
  abbrev pub arguments_steps : ℕ → FlatForms → Steps
  arguments_steps d fs = lower_arguments setting.names setting.at setting.program s.code d fs

  -- each form does what it means, with its value in the register behind that of the one in front
  abbrev pub ArgumentsHere : (d m size k turns : ℕ) → FlatForms → Type 0
  ArgumentsHere d m size k turns no_form = ⊤
  ArgumentsHere d m size k turns (form_and f fs) = Here setting s d m size k turns f × ArgumentsHere (d + 1) m size k turns fs

  module _ (d m size : ℕ) where
    -- from a point all values came: their words are in registers from d on
    pub record ArgumentsThere (p : Point setting s d m size) (count : ℕ) (vs : List Value) (z : FlatState) (regs : Registers) (y : MidState) : Type 0 where
      pub w' : World
      pub reached : Reached setting 0 s d p.rs p.valid p.w w' p.env p.around p.z z p.regs regs p.y y
      pub up : p.z.state.units ≤ z.state.units
      pub words : List ℕ
      pub of_values : WordsOf w'.places vs words
      pub in_registers : WordsIn d words regs
      pub value_count : length vs ≡ count
      pub word_count : length words ≡ count

-- The values of forms, and what goes on with them: where code does from there on what the meaning does, all of it does.
abbrev pub LawOfArguments : Type 0
LawOfArguments =
    (setting : Setting) (s : FormScope) (d m size k turns credit : ℕ) (fs : FlatForms) (p : Point setting s d m size)
    (next : List Value → FlatState → FlatEvaluated) (rest : Steps) → d + count_forms fs ≤ size → ArgumentsHere setting s d m size k turns fs
    → ((vs : List Value) (z : FlatState) → FlatGrown z (next vs z).state)
    → ((vs : List Value) (z : FlatState) (regs : Registers) (y : MidState) (x : ArgumentsThere setting s d m size p (count_forms fs) vs z regs y)
    → FormEnds setting credit turns p.rs p.valid s d x.w' p.env p.around z regs y (next vs z) (run setting s d m size k turns rest regs y))
    → EndsAt setting credit (start_at setting s d m size turns p) (mean_arguments (context_at setting k) fs [] p.env p.around p.z next)
    (run setting s d m size k turns (arguments_steps setting s d fs ++ rest) p.regs p.y)

-- and the same where what goes on with them is judged
abbrev pub LawOfJudgedArguments : Type 0
LawOfJudgedArguments =
    (setting : Setting) (s : FormScope) (d m size k turns credit : ℕ) (fs : FlatForms) (p : Point setting s d m size) (test : Test)
    (next : List Value → FlatState → FlatEvaluated) (rest : Steps) → d + count_forms fs ≤ size → ArgumentsHere setting s d m size k turns fs
    → ((vs : List Value) (z : FlatState) → FlatGrown z (next vs z).state)
    → ((vs : List Value) (z : FlatState) (regs : Registers) (y : MidState) (x : ArgumentsThere setting s d m size p (count_forms fs) vs z regs y)
    → TestEnds setting credit turns p.rs p.valid s d x.w' p.env p.around z regs y test (next vs z) (run setting s d m size k turns rest regs y))
    → TestEnds setting credit turns p.rs p.valid s d p.w p.env p.around p.z p.regs p.y test
    (mean_arguments (context_at setting k) fs [] p.env p.around p.z next)
    (run setting s d m size k turns (arguments_steps setting s d fs ++ rest) p.regs p.y)

-- Forms that do what they mean wherever they stand do so as arguments, where the forms that made the exits around are known, and their code has its
-- registers and its words; and there are registers for all their values.
abbrev pub LawOfArgumentLists : Type 0
LawOfArgumentLists =
    (setting : Setting) (s : FormScope) (d m size k turns first : ℕ) (fs : FlatForms) → AllDo setting k turns fs
    → StandForms setting.program.lambdas s.flat first fs → FitForms setting.program fs → LeadForms setting.leads.functions s.exits fs
    → PlacedForms setting s.keeps_method fs → length s.exits.own ≡ s.flat.exits → d < size → enough_for (of_code (code_of (arguments_steps setting s d fs))) ≤ size
    → words_for_forms setting.names setting.program fs ≤ m
    → (d + count_forms fs ≤ size) × ArgumentsHere setting s d m size k turns fs
