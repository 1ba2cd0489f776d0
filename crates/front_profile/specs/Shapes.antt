-- The shapes that rows ask of data: names, lists of bindings, lambda lists, clauses and tags (ISO/IEC 13816:2007, 12 and 14).
use Rattle.std.specs.Prelude.{ℕ, ◌+◌, ◌==◌, Bool, true, false, not, ◌&&◌, ◌||◌, List, [], ◌∷◌, ◌++◌, Option, Some, None, if◌then◌else◌, map}
use Rattle.std.specs.List.{list_any}
use Rattle.base.specs.declared.datum.Name.{Name}
use Rattle.base.specs.declared.datum.Symbol.{Symbol}
use Rattle.base.specs.declared.datum.Symbol.TheVariants.{Named, Fresh}
use Rattle.base.specs.Data.{Item, item, Content, integer, character, symbol, string, vector, nil, list}
use Rattle.lang_derived.specs.Asked.{list_items}
use Rattle.front_profile.specs.declared.tables.ReservedWords.{ReservedWords}
use Rattle.front_profile.specs.declared.parameters.Parameters.{Parameters}
use Rattle.front_profile.specs.Names.{same_symbol}

abbrev pub symbol_of_content : Content → Option Symbol
symbol_of_content (symbol x) = Some x
symbol_of_content (integer n) = None
symbol_of_content (character c) = None
symbol_of_content (string bytes) = None
symbol_of_content (vector ds) = None
symbol_of_content nil = None
symbol_of_content (list ds t) = None

-- the symbol that a datum is; nil is none
abbrev pub symbol_of : Item → Option Symbol
symbol_of (item p c) = symbol_of_content c

-- the name of a symbol, which a fresh one has not
abbrev pub name_of : Symbol → Option Name
name_of (Named n) = Some n
name_of (Fresh e s) = None

abbrev pub is_name : Name → Symbol → Bool
is_name n (Named m) = n.0 == m.0
is_name n (Fresh e s) = false

abbrev pub is_true : ReservedWords → Symbol → Bool
is_true w x = is_name w.truth x

abbrev pub is_rest : ReservedWords → Symbol → Bool
is_rest w x = is_name w.rest x || is_name w.and_rest x

-- whether no two are the same
abbrev pub all_differ : List Symbol → Bool
all_differ [] = true
all_differ (x ∷ xs) = not (list_any (same_symbol x) xs) && all_differ xs

abbrev pub only_if : {X : Type 0} → Bool → X → Option X
only_if true x = Some x
only_if false x = None

-- a variable: a symbol that is not `t`
abbrev pub variable_in : ReservedWords → Option Symbol → Option Symbol
variable_in w None = None
variable_in w (Some x) = only_if (not (is_true w x)) x

-- bindings: each a list of a variable and a form

pub record Pair : Type 0 where
  pub name : Symbol
  pub datum : Item

abbrev pub pair_named : Option Symbol → Item → Option Pair
pair_named None d = None
pair_named (Some x) d = Some (record { name = x; datum = d })

abbrev pub pair_items : ReservedWords → Option (List Item) → Option Pair
pair_items w None = None
pair_items w (Some []) = None
pair_items w (Some (d ∷ [])) = None
pair_items w (Some (d ∷ e ∷ [])) = pair_named (variable_in w (symbol_of d)) e
pair_items w (Some (d ∷ e ∷ f ∷ ds)) = None

abbrev pub pair_in : ReservedWords → Item → Option Pair
pair_in w d = pair_items w (list_items d)

abbrev pub pair_and : Option Pair → Option (List Pair) → Option (List Pair)
pair_and None ps = None
pair_and (Some p) None = None
pair_and (Some p) (Some ps) = Some (p ∷ ps)

abbrev pub each_pair : ReservedWords → List Item → Option (List Pair)
each_pair w [] = Some []
each_pair w (d ∷ ds) = pair_and (pair_in w d) (each_pair w ds)

abbrev pub names_of_pairs : List Pair → List Symbol
names_of_pairs ps = map (λ p. p.name) ps

abbrev pub where_names_differ : Option (List Pair) → Option (List Pair)
where_names_differ None = None
where_names_differ (Some ps) = only_if (all_differ (names_of_pairs ps)) ps

abbrev pub pairs_of_items : ReservedWords → Option (List Item) → Option (List Pair)
pairs_of_items w None = None
pairs_of_items w (Some ds) = where_names_differ (each_pair w ds)

-- the bindings of a `let`, none where the list is not allowed: no name stands twice
abbrev pub pairs_in : ReservedWords → Item → Option (List Pair)
pairs_in w d = pairs_of_items w (list_items d)

-- a lambda list: required variables, and a rest variable behind `:rest` or `&rest`

abbrev pub rest_alone : Option Symbol → Option Parameters
rest_alone None = None
rest_alone (Some x) = Some (record { required = []; rest = Some x })

abbrev pub with_required : Symbol → Option Parameters → Option Parameters
with_required x None = None
with_required x (Some ps) = Some (record { required = x ∷ ps.required; rest = ps.rest })

-- a variable of a lambda list is none of the two words either
abbrev pub parameter_in : ReservedWords → Option Symbol → Option Symbol
parameter_in w None = None
parameter_in w (Some x) = only_if (not (is_true w x) && not (is_rest w x)) x

abbrev pub behind_rest : ReservedWords → List Item → Option Parameters
behind_rest w [] = None
behind_rest w (d ∷ []) = rest_alone (parameter_in w (symbol_of d))
behind_rest w (d ∷ e ∷ ds) = None

abbrev pub is_rest_word : ReservedWords → Option Symbol → Bool
is_rest_word w None = false
is_rest_word w (Some x) = is_rest w x

abbrev pub maybe_required : Option Symbol → Option Parameters → Option Parameters
maybe_required None ps = None
maybe_required (Some x) ps = with_required x ps

abbrev pub parameters_of : ReservedWords → List Item → Option Parameters
parameters_of w [] = Some (record { required = []; rest = None })
parameters_of w (d ∷ ds) =
    if is_rest_word w (symbol_of d) then behind_rest w ds
    else maybe_required (parameter_in w (symbol_of d)) (parameters_of w ds)

abbrev pub symbols_of_rest : Option Symbol → List Symbol
symbols_of_rest None = []
symbols_of_rest (Some x) = x ∷ []

abbrev pub all_symbols : Parameters → List Symbol
all_symbols ps = ps.required ++ symbols_of_rest ps.rest

abbrev pub where_parameters_differ : Option Parameters → Option Parameters
where_parameters_differ None = None
where_parameters_differ (Some ps) = only_if (all_differ (all_symbols ps)) ps

abbrev pub parameters_of_items : ReservedWords → Option (List Item) → Option Parameters
parameters_of_items w None = None
parameters_of_items w (Some ds) = where_parameters_differ (parameters_of w ds)

-- the variables of a lambda list, none where it is not allowed
abbrev pub parameters_in : ReservedWords → Item → Option Parameters
parameters_in w d = parameters_of_items w (list_items d)

-- clauses: each a list without a dot that begins with a test

pub record ClauseParts : Type 0 where
  pub test : Item
  pub body : List Item

abbrev pub clause_of : Option (List Item) → Option ClauseParts
clause_of None = None
clause_of (Some []) = None
clause_of (Some (d ∷ ds)) = Some (record { test = d; body = ds })

abbrev pub clause_and_more : Option ClauseParts → Option (List ClauseParts) → Option (List ClauseParts)
clause_and_more None cs = None
clause_and_more (Some c) None = None
clause_and_more (Some c) (Some cs) = Some (c ∷ cs)

abbrev pub clauses_in : List Item → Option (List ClauseParts)
clauses_in [] = Some []
clauses_in (d ∷ ds) = clause_and_more (clause_of (list_items d)) (clauses_in ds)

-- the tags of a `tagbody` in order, its forms, and how many forms stand in each segment; a symbol is a tag

abbrev pub tags_in : List Item → List Symbol
tags_in [] = []
tags_in (d ∷ ds) = symbols_of_rest (symbol_of d) ++ tags_in ds

abbrev pub form_unless : Option Symbol → Item → List Item
form_unless None d = d ∷ []
form_unless (Some x) d = []

abbrev pub forms_in : List Item → List Item
forms_in [] = []
forms_in (d ∷ ds) = form_unless (symbol_of d) d ++ forms_in ds

abbrev pub one_longer : List ℕ → List ℕ
one_longer [] = 1 ∷ []
one_longer (n ∷ ns) = (n + 1) ∷ ns

abbrev pub before : Option Symbol → List ℕ → List ℕ
before None ns = one_longer ns
before (Some x) ns = 0 ∷ ns

abbrev pub lengths_in : List Item → List ℕ
lengths_in [] = 0 ∷ []
lengths_in (d ∷ ds) = before (symbol_of d) (lengths_in ds)
