-- Parts of the code of main forms.
use Rattle.std.specs.Prelude.{ℕ, List, [], ◌∷◌, ◌++◌, None}
use Rattle.flat_language.specs.declared.program.FlatProgram.{FlatProgram}
use Rattle.flat_language.specs.FlatForm.{FlatForm}
use Rattle.mid_code.specs.declared.operation.Arithmetic.TheVariants as which
use Rattle.mid_code.specs.MidCode.{with_block, return_word, end_unhandled, code_of}
use Rattle.back_lowering.specs.ControlWords.{link_address, landing_address, end_address, record_serial, record_link, record_words, end_kind}
use Rattle.back_lowering.specs.declared.placement.Placement.{Placement}
use Rattle.back_lowering.specs.declared.scope.SitePlace.TheVariants.{Known}
use Rattle.back_lowering.specs.declared.scope.Scope.{Scope}
use Rattle.back_lowering.specs.Steps.{Steps, constant, compute, load, store}
use Rattle.back_lowering.specs.Records.{record_laid}
use Rattle.back_lowering.specs.Codes.{lower}

-- the record of the end is the innermost exit and the end of the program
abbrev pub end_laid : Steps
end_laid =
    record_laid 0 6 end_kind
    ++ (constant 7 0 ∷ store 7 0 record_serial ∷ store 2 0 record_link ∷ store 0 6 link_address ∷ store 0 6 end_address ∷ [])

-- a transfer to it says which condition is not handled
abbrev pub end_landed : Steps
end_landed =
    load 6 5 2 ∷ load 6 6 2 ∷ constant 7 2 ∷ compute 6 which.ShiftRight 6 7
    ∷ constant 7 0 ∷ load 7 7 landing_address ∷ end_unhandled 6 7 5 ∷ []

-- nothing is known around a main form
abbrev pub main_scope : Scope
main_scope = record { slots = []; exits = []; function = 0; method = None; site = Known 0 }

-- the form inside the record, whose value is returned
abbrev pub form_inside : List (List ℕ) → Placement → FlatProgram → FlatForm → Steps
form_inside names at program f = end_laid ++ ((lower names at program main_scope 8 f).value ++ (return_word 8 ∷ []))

-- the record of the end with the form inside
abbrev pub main_code : List (List ℕ) → Placement → FlatProgram → FlatForm → Steps
main_code names at program f =
    with_block 0 record_words 5 (code_of (form_inside names at program f)) (code_of end_landed) ∷ []
