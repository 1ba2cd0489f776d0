-- What is judged where a form branches on another one.
use Rattle.std.specs.Prelude.{◌≡◌, ℕ, ◌+◌, List}
use Rattle.flat_language.specs.FlatForm.{FlatForm, form_size, forms_size, prim, sited}
use Rattle.flat_language.specs.declared.program.FlatProgram.{FlatProgram}
use Rattle.flat_language.specs.model.View.{forms}
use Rattle.back_lowering.specs.declared.placement.Placement.{Placement}
use Rattle.back_lowering.specs.declared.scope.Scope.{Scope}
use Rattle.back_lowering.specs.Codes.{by_value, lower}
use Rattle.back_forms.specs.declared.judging.Judging.{Judging}
use Rattle.back_forms.specs.declared.judging.Judging.TheVariants as judging

-- the value of a form is judged
abbrev pub JudgesValue : FlatForm → Type 0
JudgesValue f = (names : List (List ℕ)) (at : Placement) (program : FlatProgram) (s : Scope) (d : ℕ)
    → lower names at program s d f ≡ by_value d (lower names at program s d f).value

abbrev pub IsJudging : FlatForm → Judging → Type 0
IsJudging f (judging.Primitive which list) = (form_size f ≡ forms_size (forms list.now) + 1) × (f ≡ prim which (forms list.now))
IsJudging f (judging.Sited site inner) = (form_size f ≡ form_size inner.now + 1) × (f ≡ sited site inner.now)
IsJudging f judging.Value = JudgesValue f
