-- The forms that contracts see in what is left of the forms right inside a form.
use Rattle.std.specs.Prelude.{List, [], ◌∷◌, ◌++◌, option_to_list}
use Rattle.std.specs.Coded.{Coded, coded_list}
use Rattle.lang_meaning.specs.Form.{Form}
use Rattle.lang_meaning.specs.model.FormCode.{form_code}
use Rattle.lang_meaning.specs.declared.core_form.Clause.{Clause}
use Rattle.lang_meaning.specs.declared.core_form.Binding.{Binding}
use Rattle.lang_meaning.specs.declared.core_form.DynBinding.{DynBinding}
use Rattle.lang_meaning.specs.declared.core_form.subforms.Left.{Left}
use Rattle.lang_meaning.specs.declared.core_form.subforms.Left.TheVariants.{Nothing, One, Two, Forms, Clauses, Body, Values, DynamicValues}

-- the forms of clauses, each test before its body
abbrev pub clause_forms : List Clause → List Form
clause_forms [] = []
clause_forms (c ∷ cs) = c.test ∷ (option_to_list c.body ++ clause_forms cs)

-- the values of bindings
abbrev pub value_forms : List Binding → List Form
value_forms [] = []
value_forms (b ∷ bs) = b.value ∷ value_forms bs

abbrev pub dynamic_forms : List DynBinding → List Form
dynamic_forms [] = []
dynamic_forms (b ∷ bs) = b.value ∷ dynamic_forms bs

abbrev pub view_left : Left → List Form
view_left Nothing = []
view_left (One form) = form.now ∷ []
view_left (Two first second) = first.now ∷ second.now ∷ []
view_left (Forms list) = list.now
view_left (Clauses list) = clause_forms list.now
view_left (Body form list) = form.now ∷ clause_forms list.now
view_left (Values list) = value_forms list.now
view_left (DynamicValues list) = dynamic_forms list.now

-- the code of a list of forms
abbrev pub forms_code : Coded (List Form)
forms_code = coded_list form_code
