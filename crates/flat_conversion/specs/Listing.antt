-- What the walk that lists binders makes of a form: its binders, and its marks.
use Rattle.std.specs.Prelude.{◌≡◌, ℕ, Bool, false, not, ◌&&◌, List, [], ◌++◌, map, slice_set}
use Rattle.std.specs.List.{list_any}
use Rattle.lang_meaning.specs.declared.capture.Capture.TheVariants.{Variable, Method}
use Rattle.lang_meaning.specs.Captured.{captures, captures_inside, sets}
use Rattle.lang_meaning.specs.Form.{Form, let_form, lambda}
use Rattle.lang_meaning.specs.Mentions.{binds}
use Rattle.lang_meaning.specs.model.View.{bindings_of}
use Rattle.flat_conversion.specs.declared.binders.Binding.{Binding}
use Rattle.flat_conversion.specs.declared.binders.Binding.TheVariants.{Nothing, Variables, Function}
use Rattle.flat_conversion.specs.declared.marks.Marks.{Marks}
use Rattle.flat_conversion.specs.declared.variables.Binder.{Binder}
use Rattle.flat_conversion.specs.Binders.{own_binders, binders, all_before, binder}
use Rattle.flat_conversion.specs.Found.{has_variable}
use Rattle.flat_conversion.specs.Marks.{AreMarks, Adds}

-- a form that binds no variables
pub record BindsNothing (f : Form) : Type 0 where
  pub own : own_binders f ≡ []
  pub free : (v : ℕ) → binds (Variable v) f ≡ false
  pub inside : (v : ℕ) (b : Bool) → captures_inside (Variable v) f b ≡ b
  pub method : (b : Bool) → captures_inside Method f b ≡ b

abbrev pub IsBinding : Form → Binding → Type 0
IsBinding f Nothing = BindsNothing f
IsBinding f (Variables list body) = f ≡ let_form (bindings_of list.now) body.now
IsBinding f (Function required rest body parts) = f ≡ lambda required.now rest body.now parts.now

-- a form's binders are put behind those that are there, and its marks are added
pub record Lists (f : Form) (before after : List Binder) (marks all : Marks) : Type 0 where
  pub put : (rest : List Binder) → after ++ rest ≡ before ++ binders f rest
  pub marked : Adds marks all (λ v. sets v f) (λ v. captures (Variable v) f) (captures Method f)

pub record ListsAll (fs : List Form) (before after : List Binder) (marks all : Marks) : Type 0 where
  pub put : (rest : List Binder) → after ++ rest ≡ before ++ all_before (map binders fs) rest
  pub marked : Adds marks all (λ v. list_any (sets v) fs) (λ v. list_any (captures (Variable v)) fs) (list_any (captures Method) fs)

-- a body: its own binder stands in the place that was reserved for it, and its variables are marked no more
pub record ListsBody (vs : List ℕ) (body : Form) (number : ℕ) (before after : List Binder) (marks : Marks) : Type 0 where
  pub all : List Binder
  pub put : (rest : List Binder) → all ++ rest ≡ before ++ binders body rest
  pub placed : after ≡ slice_set all number (binder vs body)
  pub marked : AreMarks marks (λ v. not (has_variable v vs) && sets v body) (λ v. not (has_variable v vs) && captures (Variable v) body) (captures Method body)
