-- **Main forms with their entry**: their code does what they mean, where the form inside does with as many turns or fewer.
use Rattle.std.specs.Prelude.{ℕ, ◌≤◌}
use Rattle.flat_language.specs.FlatForm.{FlatForm}
use Rattle.back_relation.specs.Setting.{Setting}
use Rattle.back_relation.specs.Right.{ProgramIsRight}
use Rattle.back_relation.specs.Forms.{DoesForm, context_at, code_at}
use Rattle.back_claims.specs.Mains.{MainDoes}

abbrev pub LawOfMains : Type 0
LawOfMains =
    (setting : Setting) (k turns number : ℕ) (f : FlatForm) → ProgramIsRight setting
    → ((n : ℕ) → n ≤ turns → DoesForm setting n (context_at setting k) (code_at setting k n) f) → MainDoes setting k turns number f
