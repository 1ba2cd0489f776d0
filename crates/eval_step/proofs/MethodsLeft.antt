-- The before methods are done: the first primary method comes, where there is one.
use Rattle.std.proofs.Common.{◌≡◌, ℕ, List, [], ◌∷◌, refl}
use Rattle.lang_meaning.specs.Objects.{Chain}
use Rattle.lang_meaning.specs.State.{DynamicContext}
use Rattle.lang_meaning.specs.Values.{Value}
use Rattle.flat_language.specs.FlatState.{FlatState}
use Rattle.eval_machine.specs.Configuration.{Setting, ContinuationFrame}
use Rattle.eval_machine.specs.Step.{value_step}
use Rattle.eval_state.specs.Frames.{before_wait}
use Rattle.eval_application.specs.Methods.{after_before}

pub before_is : (s : Setting) (c : Chain) (ps : List ℕ) (vs : List Value) (v : Value) (level : ℕ) (around : DynamicContext) (frames : List ContinuationFrame) (z : FlatState)
    → after_before s c ps vs level around frames z ≡ value_step s (before_wait c ps vs level around) v frames z
before_is s c [] vs v level around frames z = refl
before_is s c (p ∷ ps) vs v level around frames z = refl
