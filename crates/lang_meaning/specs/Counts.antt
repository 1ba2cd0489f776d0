-- Nodes, depth and the words of an application: the measures by which this profile bounds and charges programs.
use Rattle.std.specs.Prelude.{ℕ, ◌+◌, ◌-◌, ◌*◌, Bool, true, false, if◌then◌else◌, max, List, [], ◌∷◌, length, Option, option_to_list}
use Rattle.std.specs.List.{sum}
use Rattle.lang_meaning.specs.declared.nodes.Bodies.{Bodies}
use Rattle.lang_meaning.specs.declared.nodes.Bodies.TheVariants.{Apart, Inside}
use Rattle.lang_meaning.specs.Form.{Form, global, set_global, def_global, clauses, let_form, lambda, call, call_value, prim, block, tagbody, catch_form, unwind, dynamic_let, dynamic, set_dynamic, def_dynamic, with_handler, sited}
use Rattle.lang_meaning.specs.Form.{Forms, no_form, form_and, ClauseForms, no_clause, clause_and}
use Rattle.lang_meaning.specs.Form.{BindingForms, no_binding, binding_and, DynamicForms, no_dynamic, dynamic_and}
use Rattle.lang_meaning.specs.Subforms.{fold}

abbrev pub count_forms : Forms → ℕ
count_forms no_form = 0
count_forms (form_and f fs) = count_forms fs + 1

abbrev pub count_clauses : ClauseForms → ℕ
count_clauses no_clause = 0
count_clauses (clause_and test body cs) = count_clauses cs + 1

abbrev pub count_bindings : BindingForms → ℕ
count_bindings no_binding = 0
count_bindings (binding_and v f bs) = count_bindings bs + 1

abbrev pub count_dynamics : DynamicForms → ℕ
count_dynamics no_dynamic = 0
count_dynamics (dynamic_and n f bs) = count_dynamics bs + 1

-- what a form counts by itself, and is charged when it is evaluated: one, and one for each argument, binding, clause,
-- tag, captured part and name of it, for the operator of a call of a value, and for the control record that stands
-- while a block, tagbody, catch, cleanup or handler is under way. Sites count nothing.
abbrev pub own_nodes : Form → ℕ
own_nodes (global n) = 2
own_nodes (set_global n f) = 2
own_nodes (def_global n f) = 2
own_nodes (clauses cs) = 1 + count_clauses cs
own_nodes (let_form bs body) = 1 + count_bindings bs
own_nodes (lambda required rest body parts) = 1 + length parts
own_nodes (call n fs) = 2 + count_forms fs
own_nodes (call_value fs) = 1 + count_forms fs
own_nodes (prim which fs) = 1 + count_forms fs
own_nodes (block x body) = 2
own_nodes (tagbody x segments) = 2 + (count_forms segments - 1)
own_nodes (catch_form tag body) = 2
own_nodes (unwind f cleanup) = 2
own_nodes (dynamic_let ds body) = 1 + count_dynamics ds
own_nodes (dynamic n) = 2
own_nodes (set_dynamic n f) = 2
own_nodes (def_dynamic n f) = 2
own_nodes (with_handler handler body) = 2
own_nodes (sited site f) = 0
own_nodes f = 1

abbrev pub is_function : Form → Bool
is_function (lambda required rest body parts) = true
is_function f = false

-- the parameters of a function, the rest parameter among them
abbrev pub parameter_count : {X : Type 0} → List X → Option X → ℕ
parameter_count required rest = length required + length (option_to_list rest)

abbrev pub parameters : Form → ℕ
parameters (lambda required rest body parts) = parameter_count required rest
parameters f = 0

-- the body of a `lambda` counts nothing where bodies are apart, and where they are inside as that of a procedure: its
-- nodes, one for each parameter, and four
abbrev pub of_body : Bodies → ℕ → ℕ
of_body Apart n = 0
of_body Inside n = n + 4

abbrev pub of_inner : Bodies → Form → ℕ → ℕ
of_inner bodies f n = if is_function f then of_body bodies (n + parameters f) else n

abbrev pub nodes_with : Bodies → Form → ℕ
nodes_with bodies f = fold (λ g outer inner. own_nodes g + sum outer + of_inner bodies g (sum inner)) f

-- the nodes of a body, and those of it with the functions inside
abbrev pub nodes : Form → ℕ
nodes f = nodes_with Apart f

abbrev pub all_nodes : Form → ℕ
all_nodes f = nodes_with Inside f

abbrev pub greatest : List ℕ → ℕ
greatest [] = 0
greatest (n ∷ ns) = max n (greatest ns)

-- how much deeper a form is than the forms right inside it: sites count nothing
abbrev pub own_depth : Form → ℕ
own_depth (sited site f) = 0
own_depth f = 1

-- the greatest number of forms inside one another; the body of a `lambda` begins anew
abbrev pub depth : Form → ℕ
depth f = fold (λ g outer inner. max (greatest outer) (if is_function g then 0 else greatest inner) + own_depth g) f

-- the stack words of an active application whose body has so many nodes
abbrev pub application_words : ℕ → ℕ
application_words n = 16 + 16 * n

-- The instructions that each unit pays. A form that is charged one unit may call a routine that signals a condition, or go to a tag, which
-- together with its own code takes up to 600; and it leaves 700 to what is around it, so that each method of a generic call is paid, for which
-- nothing is charged but its arguments.
abbrev pub unit_cost : ℕ
unit_cost = 1300

-- the instructions within which a run of so many units halts
abbrev pub bound : ℕ → ℕ
bound units = unit_cost * units + 2000
