-- The methods of a chain that are still to run, and how they go on.
use Rattle.std.specs.Prelude.{◌≡◌, ℕ, List, [], ◌∷◌, ◌++◌, Option, Some, None}
use Rattle.lang_meaning.specs.Values.{Value}
use Rattle.lang_meaning.specs.Objects.{Chain}
use Rattle.lang_meaning.specs.State.{DynamicContext}
use Rattle.flat_language.specs.FlatState.{FlatState}
use Rattle.eval_machine.specs.Configuration.{Setting, Transition, ContinuationFrame, awaits, primary_method}
use Rattle.eval_machine.specs.Applications.{apply_method}
use Rattle.eval_store.specs.declared.called.Rest.{Rest}
use Rattle.eval_store.specs.declared.word.Word.{Word}
use Rattle.eval_store.specs.Words.{rest_of}
use Rattle.eval_state.specs.declared.machine.Machine.{Machine}
use Rattle.eval_application.specs.declared.methods.Next.{Next}

-- the first around method, and the rest behind it
abbrev pub IsNextAround : Rest → Option Next → Type 0
IsNextAround r None = (rest_of r).around ≡ []
IsNextAround r (Some x) =
    ((rest_of r).around ≡ x.number ∷ (rest_of x.rest).around) × (rest_of x.rest ≡ record (rest_of r) { around = (rest_of x.rest).around })

-- the first primary method, and the rest behind it, which has primary methods alone
abbrev pub IsNextPrimary : Rest → Option Next → Type 0
IsNextPrimary r None = (rest_of r).primary ≡ []
IsNextPrimary r (Some x) =
    ((rest_of r).primary ≡ x.number ∷ (rest_of x.rest).primary) × (rest_of x.rest ≡ record { around = []; before = []; primary = (rest_of x.rest).primary; after = [] })

-- the first primary method after the before methods, where there is one; the methods behind it are left to it
abbrev pub after_before : Setting → Chain → List ℕ → List Value → (level : ℕ) → DynamicContext → Transition
after_before s c [] vs level around frames z =
    apply_method s 0 (record { arguments = vs; rest = record { around = []; before = []; primary = []; after = [] } }) level around (awaits (primary_method c.after vs level around) ∷ frames) z
after_before s c (p ∷ ps) vs level around frames z =
    apply_method s p (record { arguments = vs; rest = record { around = []; before = []; primary = ps; after = [] } }) level around (awaits (primary_method c.after vs level around) ∷ frames) z

-- the method after the before methods, and what is left to it
pub record IsAfterBefore (r : Rest) (x : Next) : Type 0 where
  pub step : (s : Setting) (vs : List Value) (level : ℕ) (around : DynamicContext) (frames : List ContinuationFrame) (z : FlatState)
      → after_before s (rest_of r) (rest_of r).primary vs level around frames z
      ≡ apply_method s x.number (record { arguments = vs; rest = rest_of x.rest }) level around (awaits (primary_method (rest_of r).after vs level around) ∷ frames) z

-- operands more
pub record ArePushed (old new : Machine) (ws : List Word) : Type 0 where
  pub operands : new.operands.items ≡ old.operands.items ++ ws
  pub same : new ≡ record old { operands = new.operands }
