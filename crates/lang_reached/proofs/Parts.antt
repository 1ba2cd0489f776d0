-- What is kept of a form is kept of its parts.
use Rattle.std.proofs.Common.{List, [], ◌∷◌, ◌++◌}
use Rattle.std.specs.Prelude.{flat_map}
use Rattle.base.specs.AllOf.{AllOf}
use Rattle.lang_meaning.specs.Form.{Form}
use Rattle.lang_meaning.specs.Form.{Forms, no_form, form_and, ClauseForms, no_clause, clause_and, no_body, with_body}
use Rattle.lang_meaning.specs.Form.{BindingForms, no_binding, binding_and, DynamicForms, no_dynamic, dynamic_and}
use Rattle.lang_meaning.specs.Inside.{inside_form, inside_step}
use Rattle.lang_meaning.specs.Subforms.{fold_forms, fold_clauses, fold_values, fold_dynamics, clause_list, value_list, dynamic_value_list}
use Rattle.lang_reached.specs.LeftOut.{KeepsItself}
use Rattle.lang_reached.proofs.Live.{Setting, FormFine, FormsFine, all_front, all_back}

abbrev pub joined : List (List Form) → List Form
joined fs = flat_map (λ f. f) fs

abbrev pub KeptAll : Setting → List Form → Type 0
KeptAll t fs = AllOf (KeepsItself t.names t.program t.kept) fs

module _ (t : Setting) where
  first : (f : Form) (others : List (List Form)) → KeptAll t (joined (inside_form f ∷ others)) → FormFine t f
  first f others h = all_front (KeepsItself t.names t.program t.kept) (inside_form f) (joined others) h

  behind : (f : Form) (others : List (List Form)) → KeptAll t (joined (inside_form f ∷ others)) → KeptAll t (joined others)
  behind f others h = all_back (KeepsItself t.names t.program t.kept) (inside_form f) (joined others) h

  -- the outer and the inner parts
  pub outer_kept : (outer inner : List (List Form)) → KeptAll t (joined outer ++ joined inner) → KeptAll t (joined outer)
  outer_kept outer inner h = all_front (KeepsItself t.names t.program t.kept) (joined outer) (joined inner) h

  pub inner_kept : (outer inner : List (List Form)) → KeptAll t (joined outer ++ joined inner) → KeptAll t (joined inner)
  inner_kept outer inner h = all_back (KeepsItself t.names t.program t.kept) (joined outer) (joined inner) h

  -- one part, or two
  pub one_kept : (f : Form) → KeptAll t (joined (inside_form f ∷ []) ++ joined []) → FormFine t f
  one_kept f h = first f [] (outer_kept (inside_form f ∷ []) [] h)

  pub body_kept : (f : Form) → KeptAll t (joined (inside_form f ∷ [])) → FormFine t f
  body_kept f h = first f [] h

  pub two_kept : (f g : Form) → KeptAll t (joined (inside_form f ∷ inside_form g ∷ []) ++ joined []) → FormFine t f × FormFine t g
  two_kept f g h =
      let both = outer_kept (inside_form f ∷ inside_form g ∷ []) [] h in
      (first f (inside_form g ∷ []) both, first g [] (behind f (inside_form g ∷ []) both))

  -- lists of parts
  pub forms_kept : (fs : Forms) → KeptAll t (joined (fold_forms inside_step fs)) → FormsFine t fs
  forms_kept no_form h = tt
  forms_kept (form_and f fs) h =
      (first f (fold_forms inside_step fs) h, forms_kept fs (behind f (fold_forms inside_step fs) h))

  pub clauses_kept : (cs : ClauseForms) → KeptAll t (joined (fold_clauses inside_step cs)) → AllOf (FormFine t) (clause_list cs)
  clauses_kept no_clause h = tt
  clauses_kept (clause_and test no_body cs) h =
      (first test (fold_clauses inside_step cs) h, clauses_kept cs (behind test (fold_clauses inside_step cs) h))
  clauses_kept (clause_and test (with_body f) cs) h =
      let others = behind test (inside_form f ∷ fold_clauses inside_step cs) h in
      (first test (inside_form f ∷ fold_clauses inside_step cs) h, (first f (fold_clauses inside_step cs) others, clauses_kept cs (behind f (fold_clauses inside_step cs) others)))

  pub values_kept : (bs : BindingForms) → KeptAll t (joined (fold_values inside_step bs)) → AllOf (FormFine t) (value_list bs)
  values_kept no_binding h = tt
  values_kept (binding_and v f bs) h =
      (first f (fold_values inside_step bs) h, values_kept bs (behind f (fold_values inside_step bs) h))

  pub dynamics_kept : (bs : DynamicForms) → KeptAll t (joined (fold_dynamics inside_step bs)) → AllOf (FormFine t) (dynamic_value_list bs)
  dynamics_kept no_dynamic h = tt
  dynamics_kept (dynamic_and n f bs) h =
      (first f (fold_dynamics inside_step bs) h, dynamics_kept bs (behind f (fold_dynamics inside_step bs) h))
