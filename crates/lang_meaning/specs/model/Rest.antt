-- What is left of a list of a core form from an item on.
use Rattle.std.specs.Prelude.{◌≡◌, ℕ, ◌+◌, List, Some, slice_get, drop}
use Rattle.std.proofs.Common.{ap}
use Rattle.base.specs.model.DataRest.{rest_at}
use Rattle.lang_meaning.specs.Form.{Form, form_and, clause_and}
use Rattle.lang_meaning.specs.model.View.{forms, clauses_of, maybe_form}
use Rattle.lang_meaning.specs.declared.core_form.Clause.{Clause}

pub forms_at : (xs : List Form) (i : ℕ) (x : Form) → slice_get xs i ≡ Some x
    → forms (drop i xs) ≡ form_and x (forms (drop (i + 1) xs))
forms_at xs i x h = ap forms (rest_at xs i x h)

pub clauses_at : (cs : List Clause) (i : ℕ) (c : Clause) → slice_get cs i ≡ Some c
    → clauses_of (drop i cs) ≡ clause_and c.test (maybe_form c.body) (clauses_of (drop (i + 1) cs))
clauses_at cs i c h = ap clauses_of (rest_at cs i c h)
