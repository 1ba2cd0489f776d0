-- How many words the code of a flat program costs at most.
use Rattle.std.specs.Prelude.{◌≤◌, ℕ, ◌+◌, List}
use Rattle.flat_language.specs.declared.program.FlatProgram.{FlatProgram}
use Rattle.flat_language.specs.FlatForm.{FlatForm}
use Rattle.flat_language.specs.FlatFits.{Fits, ProgramFits}
use Rattle.mid_code.specs.MidCode.{code_of}
use Rattle.mid_arena.specs.CodeCosts.{code_cost}
use Rattle.back_lowering.specs.declared.placement.Placement.{Placement}
use Rattle.back_lowering.specs.declared.scope.Scope.{Scope}
use Rattle.back_lowering.specs.Codes.{lower}
use Rattle.back_lowering.specs.Program.{lowered}
use Rattle.back_sizes.specs.Laws.{procedures_cost}
use Rattle.back_code_sizes.specs.Passed.{code_passes, procedures_pass}
use Rattle.back_code_sizes.specs.Sizes.{form_words, program_words}

-- the code of a form costs no more than its words, wherever words are laid and whatever is around it
abbrev pub LawOfFormSizes : Type 0
LawOfFormSizes =
    (names : List (List ℕ)) (at : Placement) (program : FlatProgram) (s : Scope) (d : ℕ) (f : FlatForm) → Fits program f
    → code_cost (code_of (lower names at program s d f).value) + code_passes (code_of (lower names at program s d f).value) ≤ form_words f

-- the code of all procedures of a lowered program, wherever its words are laid
abbrev pub LawOfCodeSizes : Type 0
LawOfCodeSizes =
    (names : List (List ℕ)) (at : Placement) (program : FlatProgram) → ProgramFits program
    → procedures_cost (lowered names at program) + procedures_pass (lowered names at program) ≤ program_words program
