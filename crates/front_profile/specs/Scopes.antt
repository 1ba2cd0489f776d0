-- Scopes of which one binds at least what the other binds (ISO/IEC 13816:2007, 11).
use Rattle.std.specs.Prelude.{◌≡◌, true, Some}
use Rattle.lang_meaning.specs.declared.capture.Capture.{Capture}
use Rattle.lang_meaning.specs.declared.capture.Capture.TheVariants.{Variable, Exit, Method}
use Rattle.lang_meaning.specs.declared.scope.ExitForm.{ExitForm}
use Rattle.lang_meaning.specs.declared.scope.LexicalScope.{LexicalScope}
use Rattle.lang_meaning.specs.Form.{Form}
use Rattle.lang_meaning.specs.Mentions.{mentions}
use Rattle.lang_meaning.specs.Standing.{is_variable, exit_around}

-- what the first scope binds as that part, the second binds alike
abbrev pub Provides : LexicalScope → LexicalScope → Capture → Type 0
Provides s t (Variable v) = is_variable s v ≡ true → is_variable t v ≡ true
Provides s t (Exit x) = (a : ExitForm) → exit_around x s.exits ≡ Some a → exit_around x t.exits ≡ Some a
Provides s t Method = s.in_method ≡ true → t.in_method ≡ true

-- all that the first binds
pub record ScopeWithin (s t : LexicalScope) : Type 0 where
  pub provides : (p : Capture) → Provides s t p

-- all that a form mentions
pub record MentionsWithin (f : Form) (s t : LexicalScope) : Type 0 where
  pub provides : (p : Capture) → mentions p f ≡ true → Provides s t p
