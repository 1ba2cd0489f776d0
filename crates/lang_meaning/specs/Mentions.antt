-- What a form mentions of what is around it: the parts that a function of it captures (ISO/IEC 13816:2007, 12.7).
use Rattle.std.specs.Prelude.{ℕ, ◌==◌, Bool, true, false, not, ◌&&◌, ◌||◌, nat_lt, List, [], ◌∷◌}
use Rattle.std.specs.List.{list_any}
use Rattle.lang_meaning.specs.declared.capture.Capture.{Capture}
use Rattle.lang_meaning.specs.declared.capture.Capture.TheVariants.{Variable, Exit, Method}
use Rattle.lang_meaning.specs.Form.{Form, local, set_local, let_form, lambda, block, return_from, tagbody, go, next_method, has_next}
use Rattle.lang_meaning.specs.Form.{BindingForms, no_binding, binding_and, parameters}
use Rattle.lang_meaning.specs.Subforms.{fold}

abbrev pub same_part : Capture → Capture → Bool
same_part (Variable v) (Variable w) = v == w
same_part (Variable v) (Exit x) = false
same_part (Variable v) Method = false
same_part (Exit x) (Variable v) = false
same_part (Exit x) (Exit y) = x == y
same_part (Exit x) Method = false
same_part Method (Variable v) = false
same_part Method (Exit x) = false
same_part Method Method = true

-- variables come by rising number, then exits by rising number, and the method last
abbrev pub comes_before : Capture → Capture → Bool
comes_before (Variable v) (Variable w) = nat_lt v w
comes_before (Variable v) (Exit x) = true
comes_before (Variable v) Method = true
comes_before (Exit x) (Variable v) = false
comes_before (Exit x) (Exit y) = nat_lt x y
comes_before (Exit x) Method = true
comes_before Method p = false

-- whether a part comes before the first of these
abbrev pub is_next : Capture → List Capture → Bool
is_next p [] = true
is_next p (q ∷ qs) = comes_before p q

-- whether parts stand in their order, each once
abbrev pub in_order : List Capture → Bool
in_order [] = true
in_order (p ∷ ps) = is_next p ps && in_order ps

-- whether these variables are that part
abbrev pub owns : List ℕ → Capture → Bool
owns vs p = list_any (λ v. same_part p (Variable v)) vs

-- the variables that bindings bind
abbrev pub variables_bound : BindingForms → List ℕ
variables_bound no_binding = []
variables_bound (binding_and v f bs) = v ∷ variables_bound bs

-- whether a form binds that part for its inner forms
abbrev pub binds : Capture → Form → Bool
binds p (let_form bs body) = owns (variables_bound bs) p
binds p (lambda required rest body parts) = owns (parameters required rest) p
binds p (block x body) = same_part p (Exit x)
binds p (tagbody x segments) = same_part p (Exit x)
binds p f = false

-- whether a form names that part itself
abbrev pub names_part : Capture → Form → Bool
names_part p (local v) = same_part p (Variable v)
names_part p (set_local v f) = same_part p (Variable v)
names_part p (return_from x f) = same_part p (Exit x)
names_part p (go x segment) = same_part p (Exit x)
names_part p next_method = same_part p Method
names_part p has_next = same_part p Method
names_part p f = false

-- whether one of these
abbrev pub some : List Bool → Bool
some bs = list_any (λ b. b) bs

abbrev pub mentions_step : Capture → Form → List Bool → List Bool → Bool
mentions_step p f outer inner = names_part p f || some outer || (not (binds p f) && some inner)

-- whether the part is named in a form that does not bind it itself
abbrev pub mentions : Capture → Form → Bool
mentions p f = fold (mentions_step p) f
