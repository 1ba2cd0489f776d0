-- How a primitive is called: its procedure among those of the setting, and the words of its arguments.
use Rattle.std.specs.Prelude.{◌≡◌, ⊤, ℕ, ◌+◌, List, [], ◌∷◌, Some, slice_get}
use Rattle.lang_meaning.specs.declared.primitive.Primitive.{Primitive}
use Rattle.lang_meaning.specs.State.{DynamicContext}
use Rattle.lang_meaning.specs.model.ShapeCode.{primitive_number}
use Rattle.mid_code.specs.declared.program.MidProcedure.{MidProcedure}
use Rattle.mid_code.specs.State.{Registers, register}
use Rattle.mid_arena.specs.Codes.{procedure_of}
use Rattle.back_lowering.specs.declared.placement.Placement.{Placement}
use Rattle.back_lowering.specs.Placement.{primitives_from}
use Rattle.back_lowering.specs.Primitives.{known_integer}
use Rattle.lang_meaning.specs.declared.program.LiteralRow.{LiteralRow}
use Rattle.flat_language.specs.FlatForm.{FlatForms, no_form, form_and}
use Rattle.flat_language.specs.FlatState.{FlatState}
use Rattle.mid_code.specs.State.{MidState}
use Rattle.back_relation.specs.Setting.{Setting, WithinFrame}
use Rattle.back_relation.specs.Worlds.{World, Standing}
use Rattle.back_relation.specs.RoutineClaims.{PendingDoes}

-- words are in registers one after another
abbrev pub WordsIn : ℕ → List ℕ → Registers → Type 0
WordsIn d [] regs = ⊤
WordsIn d (w ∷ ws) regs = (register d regs ≡ Some w) × WordsIn (d + 1) ws regs

-- the procedure of a primitive, whose frame is at most the one that was given
pub record PrimitiveThere (setting : Setting) (which : Primitive) : Type 0 where
  pub procedure : MidProcedure
  pub there : slice_get setting.procedures (primitives_from setting.at + primitive_number which) ≡ Some procedure
  pub within : WithinFrame (procedure_of which) procedure

-- the routine that signals a condition that a primitive made does so, whatever words say and the meaning has come to
abbrev pub PendingDoesAnywhere : Setting → (k turns : ℕ) → (rs valid : List Standing) → DynamicContext → Type 0
PendingDoesAnywhere setting k turns rs valid around = (w : World) (z : FlatState) (y : MidState) → PendingDoes setting k turns rs valid w around z y

-- an argument that is known to be an integer has its word
abbrev pub KnownWords : Placement → List LiteralRow → FlatForms → List ℕ → Type 0
KnownWords at literals no_form ws = ⊤
KnownWords at literals (form_and f fs) [] = ⊤
KnownWords at literals (form_and f fs) (w ∷ ws) = ((word : ℕ) → known_integer at literals f ≡ Some word → w ≡ word) × KnownWords at literals fs ws
