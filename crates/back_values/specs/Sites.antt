-- The laws of sites, and of all literals.
use Rattle.std.specs.Prelude.{ℕ}
use Rattle.flat_language.specs.FlatForm.{FlatForm, literal, sited}
use Rattle.back_relation.specs.Setting.{Setting}
use Rattle.back_values.specs.Wholes.{Does, Judges, FailingWithClaims}

module _ (setting : Setting) (k turns : ℕ) where
  -- a form with a site does what the form does there
  pub record LawOfSites : Type 0 where
    pub value : (n : ℕ) (f : FlatForm) → Does setting k turns f → Does setting k turns (sited n f)
    pub test : (n : ℕ) (f : FlatForm) → Judges setting k turns f → Judges setting k turns (sited n f)

  -- a literal is there, or its name has no function
  abbrev pub LawOfWholeLiterals : Type 0
  LawOfWholeLiterals = (i : ℕ) → FailingWithClaims setting k turns → Does setting k turns (literal i)
