-- **What the steps around the form of a main form do**: the record of the end is laid as the current one and that of the innermost valid exit, and
-- where a transfer lands there, the run ends with the class of the condition, its site and its word.
use Rattle.std.specs.Prelude.{◌≡◌, ℕ, ◌+◌, ◌^◌, ◌<◌, List, [], ◌∷◌, ◌++◌, Option, Some}
use Rattle.flat_language.specs.declared.program.FlatProgram.{FlatProgram}
use Rattle.flat_language.specs.FlatForm.{FlatForm}
use Rattle.mid_code.specs.declared.operation.Arithmetic.TheVariants as which
use Rattle.mid_code.specs.Arena.{word_at}
use Rattle.mid_code.specs.Meaning.{Context, exec}
use Rattle.mid_code.specs.MidCode.{with_block, return_word, end_unhandled, code_of}
use Rattle.mid_code.specs.State.{Registers, falls, unhandled, ends, MidState, charged}
use Rattle.mid_code.specs.Words.{computed}
use Rattle.back_lowering.specs.declared.placement.Placement.{Placement}
use Rattle.back_lowering.specs.Codes.{lower}
use Rattle.back_lowering.specs.ControlWords.{link_address, landing_address, end_address, record_serial, record_link, record_words, end_kind}
use Rattle.back_lowering.specs.Program.{main_scope, main_form}
use Rattle.back_lowering.specs.Records.{record_laid}
use Rattle.back_lowering.specs.Steps.{Steps, constant, compute, load, store}
use Rattle.back_exits.specs.RecordSteps.{ControlSays, ControlLent, RecordLent, record_stores, with_stores}

-- in front of the form; and where a transfer lands
abbrev pub end_laid : Steps
end_laid =
    record_laid 0 6 end_kind
    ++ (constant 7 0 ∷ store 7 0 record_serial ∷ store 2 0 record_link ∷ store 0 6 link_address ∷ store 0 6 end_address ∷ [])

abbrev pub end_landed : Steps
end_landed =
    load 6 5 2 ∷ load 6 6 2 ∷ constant 7 2 ∷ compute 6 which.ShiftRight 6 7 ∷ constant 7 0 ∷ load 7 7 landing_address ∷ end_unhandled 6 7 5 ∷ []

-- what is stored
abbrev pub end_stores : (address current link : ℕ) → List (ℕ × ℕ)
end_stores address current link =
    record_stores end_kind address current
    ++ ((address + record_serial, 0) ∷ (address + record_link, link) ∷ (link_address, address) ∷ (end_address, address) ∷ [])

pub record LawOfMainSteps : Type 0 where
  -- **a main form is** these steps, its form and the return of its word inside a control record, with these at its landing
  pub parts :
      (names : List (List ℕ)) (at : Placement) (program : FlatProgram) (f : FlatForm)
      → (main_form names at program f).body
      ≡ with_block 0 record_words 5 (code_of (end_laid ++ ((lower names at program (main_scope names at program) 8 f).value ++ (return_word 8 ∷ [])))) (code_of end_landed) ∷ []
  pub laid :
      (c : Context) (tail : Registers) (r1 r2 r3 r4 r5 r6 r7 : Option ℕ) (address current link handlers bindings : ℕ) (y : MidState)
      → ControlLent y.arena → RecordLent y.arena address → ControlSays y.arena current link handlers bindings
      → exec c (code_of end_laid) (Some address ∷ r1 ∷ r2 ∷ r3 ∷ r4 ∷ r5 ∷ r6 ∷ r7 ∷ tail) y
      ≡ ends falls (Some address ∷ Some current ∷ Some link ∷ Some handlers ∷ Some bindings ∷ r5 ∷ Some 0 ∷ Some 0 ∷ tail)
      (with_stores (end_stores address current link) 106 y)
  -- **the run ends** with what the words of the condition say, and the landing
  pub landed :
      (c : Context) (tail : Registers) (r0 r1 r2 r3 r4 r6 r7 : Option ℕ) (condition class number site : ℕ) (y : MidState)
      → condition + 2 < 2 ^ 32 → class + 2 < 2 ^ 32 → word_at y.arena (condition + 2) ≡ Some class → word_at y.arena (class + 2) ≡ Some number
      → word_at y.arena landing_address ≡ Some site
      → exec c (code_of end_landed) (r0 ∷ r1 ∷ r2 ∷ r3 ∷ r4 ∷ Some condition ∷ r6 ∷ r7 ∷ tail) y
      ≡ ends (unhandled (computed which.ShiftRight number 2) site condition)
      (r0 ∷ r1 ∷ r2 ∷ r3 ∷ r4 ∷ Some condition ∷ Some (computed which.ShiftRight number 2) ∷ Some site ∷ tail) (charged 60 y)
