-- A main form, which begins in an activation of its own with words of the stack.
use Rattle.std.specs.Prelude.{ℕ, List, [], ◌∷◌}
use Rattle.lang_meaning.specs.Counts.{application_words}
use Rattle.lang_meaning.specs.State.{main_context}
use Rattle.flat_language.specs.FlatForm.{FlatForm}
use Rattle.flat_language.specs.FlatNodes.{nodes}
use Rattle.flat_language.specs.FlatState.{no_environment}
use Rattle.eval_machine.specs.Configuration.{Setting, Transition, configuration, evaluate, awaits, restores_slots, main_form, main_forms, then_on}
use Rattle.eval_machine.specs.Applications.{requested}

-- with the main forms that are left behind it
abbrev pub main_form_step : Setting → (level : ℕ) → (left : List FlatForm) → FlatForm → Transition
main_form_step s k left f frames z =
    then_on (requested s.limit 0 (application_words (nodes f)) z) (awaits (main_forms k left) ∷ frames) (λ ignored entered.
    configuration (evaluate f (record { level = k; environment = no_environment; around = main_context }))
    (restores_slots entered.frame ∷ awaits (main_form z.state.stack) ∷ awaits (main_forms k left) ∷ frames) (record entered { frame = [] }))
