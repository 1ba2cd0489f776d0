-- What was found of parts is right, each where it stands.
use Rattle.std.proofs.Common.{◌≡◌, ◌+◌, ℕ, List, [], ◌∷◌, ◌++◌, length, refl, ap, arith, suc, zero, take, drop}
use Rattle.base.specs.declared.datum.Symbol.{Symbol}
use Rattle.base.specs.declared.datum.Name.{Name}
use Rattle.base.specs.Data.{Item}
use Rattle.base.specs.AllOf.{AllOf}
use Rattle.lang_meaning.specs.declared.scope.LexicalScope.{LexicalScope}
use Rattle.lang_meaning.specs.Form.{Form}
use Rattle.lang_meaning.specs.Subforms.{value_list, dynamic_value_list}
use Rattle.lang_meaning.specs.Mentions.{variables_bound}
use Rattle.front_profile.specs.declared.elaboration.ElaboratedPart.{ElaboratedPart}
use Rattle.front_profile.specs.declared.elaboration.ElaboratedPart.TheVariants.{Value, Binding, Parameter}
use Rattle.front_profile.specs.Nodes.{Part, form, below, inner, bind, parameter, wrong, function}
use Rattle.front_profile.specs.Elaborations.{forms_found, variables_found, bindings_found, make_dynamics, behind_dynamics}
use Rattle.front_profile.specs.Shapes.{Pair}
use Rattle.front_profile.specs.RowWords.{each_form, each_below, each_inner, each_bound, each_parameter}
use Rattle.front_profile.specs.BindingRows.{values_of}
use Rattle.front_profile.specs.Scopes.{ScopeWithin}
use Rattle.front_profile.specs.Definitions.{Definitions}
use Rattle.front_profile.specs.Right.{RightIn}
use Rattle.front_profile.proofs.Forms.{right_within}

-- the variables that were found
abbrev pub new_variable : ElaboratedPart → List ℕ
new_variable (Value f) = []
new_variable (Binding v f) = v ∷ []
new_variable (Parameter v) = v ∷ []

abbrev pub new_variables : List ElaboratedPart → List ℕ
new_variables [] = []
new_variables (r ∷ rs) = new_variable r ++ new_variables rs

-- outside, in a scope and inside so many forms, and inside
pub record Spots : Type 0 where
  pub defined : Definitions
  pub outside : LexicalScope
  pub depth : ℕ
  pub inside : LexicalScope
  pub inner_depth : ℕ

abbrev pub RightOutside : Spots → Form → Type 0
RightOutside p f = RightIn p.defined p.outside p.depth f

abbrev pub RightBelow : Spots → Form → Type 0
RightBelow p f = RightIn p.defined p.outside (p.depth + 1) f

abbrev pub RightInside : Spots → Form → Type 0
RightInside p f = RightIn p.defined p.inside p.inner_depth f

abbrev pub Matches : Spots → Part → ElaboratedPart → Type 0
Matches p (form d) (Value f) = RightOutside p f
Matches p (form d) (Binding v f) = ⊥
Matches p (form d) (Parameter v) = ⊥
Matches p (below d) (Value f) = RightBelow p f
Matches p (below d) (Binding v f) = ⊥
Matches p (below d) (Parameter v) = ⊥
Matches p (inner d) (Value f) = RightInside p f
Matches p (inner d) (Binding v f) = ⊥
Matches p (inner d) (Parameter v) = ⊥
Matches p (bind x d) (Value f) = ⊥
Matches p (bind x d) (Binding v f) = RightOutside p f
Matches p (bind x d) (Parameter v) = ⊥
Matches p (parameter x) (Value f) = ⊥
Matches p (parameter x) (Binding v f) = ⊥
Matches p (parameter x) (Parameter v) = Unit {0}
Matches p (wrong q r) f = ⊥
Matches p (function w) (Value f) = Unit {0}
Matches p (function w) (Binding v f) = ⊥
Matches p (function w) (Parameter v) = ⊥

abbrev pub AllMatch : Spots → List Part → List ElaboratedPart → Type 0
AllMatch p [] [] = Unit {0}
AllMatch p [] (r ∷ rs) = ⊥
AllMatch p (x ∷ xs) [] = ⊥
AllMatch p (x ∷ xs) (r ∷ rs) = Matches p x r × AllMatch p xs rs

-- a larger scope inside

match_within : (p : Spots) (s : LexicalScope) (x : Part) (r : ElaboratedPart) → ScopeWithin p.inside s → Matches p x r → Matches (record p { inside = s }) x r
match_within p s (form d) (Value f) w h = h
match_within p s (form d) (Binding v f) w h = h
match_within p s (form d) (Parameter v) w h = h
match_within p s (below d) (Value f) w h = h
match_within p s (below d) (Binding v f) w h = h
match_within p s (below d) (Parameter v) w h = h
match_within p s (inner d) (Value f) w h = right_within p.defined p.inside s p.inner_depth f w h
match_within p s (inner d) (Binding v f) w h = h
match_within p s (inner d) (Parameter v) w h = h
match_within p s (bind x d) (Value f) w h = h
match_within p s (bind x d) (Binding v f) w h = h
match_within p s (bind x d) (Parameter v) w h = h
match_within p s (parameter x) (Value f) w h = h
match_within p s (parameter x) (Binding v f) w h = h
match_within p s (parameter x) (Parameter v) w h = h
match_within p s (wrong q k) r w h = absurd h
match_within p s (function x) (Value f) w h = h
match_within p s (function x) (Binding v f) w h = h
match_within p s (function x) (Parameter v) w h = h

pub all_match_within : (p : Spots) (s : LexicalScope) (xs : List Part) (rs : List ElaboratedPart) → ScopeWithin p.inside s → AllMatch p xs rs → AllMatch (record p { inside = s }) xs rs
all_match_within p s [] [] w h = tt
all_match_within p s [] (r ∷ rs) w h = h
all_match_within p s (x ∷ xs) [] w h = h
all_match_within p s (x ∷ xs) (r ∷ rs) w h = (match_within p s x r w h.0, all_match_within p s xs rs w h.1)

-- forms outside, forms of bodies there, and forms inside

pub forms_match : (p : Spots) (ds : List Item) (rs : List ElaboratedPart) → AllMatch p (each_form ds) rs → AllOf (RightOutside p) (forms_found rs)
forms_match p [] [] h = tt
forms_match p [] (r ∷ rs) h = absurd h
forms_match p (d ∷ ds) [] h = absurd h
forms_match p (d ∷ ds) (Value f ∷ rs) h = (h.0, forms_match p ds rs h.1)
forms_match p (d ∷ ds) (Binding v f ∷ rs) h = absurd h.0
forms_match p (d ∷ ds) (Parameter v ∷ rs) h = absurd h.0

-- as many forms as parts
pub forms_as_many : (p : Spots) (ds : List Item) (rs : List ElaboratedPart) → AllMatch p (each_form ds) rs → length (forms_found rs) ≡ length ds
forms_as_many p [] [] h = refl
forms_as_many p [] (r ∷ rs) h = absurd h
forms_as_many p (d ∷ ds) [] h = absurd h
forms_as_many p (d ∷ ds) (Value f ∷ rs) h = omega (arith, forms_as_many p ds rs h.1)
forms_as_many p (d ∷ ds) (Binding v f ∷ rs) h = absurd h.0
forms_as_many p (d ∷ ds) (Parameter v ∷ rs) h = absurd h.0

pub below_match : (p : Spots) (ds : List Item) (rs : List ElaboratedPart) → AllMatch p (each_below ds) rs → AllOf (RightBelow p) (forms_found rs)
below_match p [] [] h = tt
below_match p [] (r ∷ rs) h = absurd h
below_match p (d ∷ ds) [] h = absurd h
below_match p (d ∷ ds) (Value f ∷ rs) h = (h.0, below_match p ds rs h.1)
below_match p (d ∷ ds) (Binding v f ∷ rs) h = absurd h.0
below_match p (d ∷ ds) (Parameter v ∷ rs) h = absurd h.0

pub inner_match : (p : Spots) (ds : List Item) (rs : List ElaboratedPart) → AllMatch p (each_inner ds) rs → AllOf (RightInside p) (forms_found rs)
inner_match p [] [] h = tt
inner_match p [] (r ∷ rs) h = absurd h
inner_match p (d ∷ ds) [] h = absurd h
inner_match p (d ∷ ds) (Value f ∷ rs) h = (h.0, inner_match p ds rs h.1)
inner_match p (d ∷ ds) (Binding v f ∷ rs) h = absurd h.0
inner_match p (d ∷ ds) (Parameter v ∷ rs) h = absurd h.0

-- variables with their values, and a body

pub record BoundMatch (p : Spots) (rs : List ElaboratedPart) : Type 0 where
  pub values : AllOf (RightOutside p) (value_list (bindings_found rs))
  pub forms : AllOf (RightInside p) (forms_found rs)
  pub variables : variables_bound (bindings_found rs) ≡ new_variables rs

body_match : (p : Spots) (ds : List Item) (rs : List ElaboratedPart) → AllMatch p (each_inner ds) rs → BoundMatch p rs
body_match p [] [] h = record { values = tt; forms = tt; variables = refl }
body_match p [] (r ∷ rs) h = absurd h
body_match p (d ∷ ds) [] h = absurd h
body_match p (d ∷ ds) (Value f ∷ rs) h =
    let m : BoundMatch p rs = body_match p ds rs h.1 in
    record { values = m.values; forms = (h.0, m.forms); variables = m.variables }
body_match p (d ∷ ds) (Binding v f ∷ rs) h = absurd h.0
body_match p (d ∷ ds) (Parameter v ∷ rs) h = absurd h.0

pub bound_match : (p : Spots) (qs : List Pair) (ds : List Item) (rs : List ElaboratedPart) → AllMatch p (each_bound qs ++ each_inner ds) rs → BoundMatch p rs
bound_match p [] ds rs h = body_match p ds rs h
bound_match p (q ∷ qs) ds [] h = absurd h
bound_match p (q ∷ qs) ds (Value f ∷ rs) h = absurd h.0
bound_match p (q ∷ qs) ds (Binding v f ∷ rs) h =
    let m : BoundMatch p rs = bound_match p qs ds rs h.1 in
    record { values = (h.0, m.values); forms = m.forms; variables = ap (λ vs. v ∷ vs) m.variables }
bound_match p (q ∷ qs) ds (Parameter v ∷ rs) h = absurd h.0

-- parameters, and a body

pub record ParametersMatch (p : Spots) (many : ℕ) (rs : List ElaboratedPart) : Type 0 where
  pub forms : AllOf (RightInside p) (forms_found rs)
  pub variables : variables_found rs ≡ new_variables rs
  pub count : length (variables_found rs) ≡ many

no_parameter_match : (p : Spots) (ds : List Item) (rs : List ElaboratedPart) → AllMatch p (each_inner ds) rs → ParametersMatch p 0 rs
no_parameter_match p [] [] h = record { forms = tt; variables = refl; count = refl }
no_parameter_match p [] (r ∷ rs) h = absurd h
no_parameter_match p (d ∷ ds) [] h = absurd h
no_parameter_match p (d ∷ ds) (Value f ∷ rs) h =
    let m : ParametersMatch p 0 rs = no_parameter_match p ds rs h.1 in
    record { forms = (h.0, m.forms); variables = m.variables; count = m.count }
no_parameter_match p (d ∷ ds) (Binding v f ∷ rs) h = absurd h.0
no_parameter_match p (d ∷ ds) (Parameter v ∷ rs) h = absurd h.0

pub parameters_match : (p : Spots) (xs : List Symbol) (ds : List Item) (rs : List ElaboratedPart) → AllMatch p (each_parameter xs ++ each_inner ds) rs
    → ParametersMatch p (length xs) rs
parameters_match p [] ds rs h = no_parameter_match p ds rs h
parameters_match p (x ∷ xs) ds [] h = absurd h
parameters_match p (x ∷ xs) ds (Value f ∷ rs) h = absurd h.0
parameters_match p (x ∷ xs) ds (Binding v f ∷ rs) h = absurd h.0
parameters_match p (x ∷ xs) ds (Parameter v ∷ rs) h =
    let m : ParametersMatch p (length xs) rs = parameters_match p xs ds rs h.1 in
    record { forms = m.forms; variables = ap (λ vs. v ∷ vs) m.variables; count = omega (arith, m.count) }

-- dynamic variables with their values, and a body

pub record DynamicsMatch (p : Spots) (ns : List Name) (rs : List ElaboratedPart) : Type 0 where
  pub values : AllOf (RightOutside p) (dynamic_value_list (make_dynamics ns (forms_found rs)))
  pub forms : AllOf (RightBelow p) (behind_dynamics ns (forms_found rs))

pub dynamics_match : (p : Spots) (ns : List Name) (qs : List Pair) (ds : List Item) (rs : List ElaboratedPart) → length ns ≡ length qs
    → AllMatch p (values_of qs ++ each_below ds) rs → DynamicsMatch p ns rs
dynamics_match p [] [] ds rs e h = record { values = tt; forms = below_match p ds rs h }
dynamics_match p [] (q ∷ qs) ds rs e h = absurd (omega (arith, e))
dynamics_match p (n ∷ ns) [] ds rs e h = absurd (omega (arith, e))
dynamics_match p (n ∷ ns) (q ∷ qs) ds [] e h = absurd h
dynamics_match p (n ∷ ns) (q ∷ qs) ds (Value f ∷ rs) e h =
    let m : DynamicsMatch p ns rs = dynamics_match p ns qs ds rs (omega (arith, e)) h.1 in
    record { values = (h.0, m.values); forms = m.forms }
dynamics_match p (n ∷ ns) (q ∷ qs) ds (Binding v f ∷ rs) e h = absurd h.0
dynamics_match p (n ∷ ns) (q ∷ qs) ds (Parameter v ∷ rs) e h = absurd h.0

-- bodies of clauses, and what stands behind them

pub record BodyThen (p : Spots) (many : ℕ) (ys : List Part) (rs : List ElaboratedPart) : Type 0 where
  pub body : List Form
  pub rest : List ElaboratedPart
  pub right : AllOf (RightBelow p) body
  pub count : length body ≡ many
  pub found : forms_found rs ≡ body ++ forms_found rest
  pub behind : AllMatch p ys rest

pub body_then : (p : Spots) (ds : List Item) (ys : List Part) (rs : List ElaboratedPart) → AllMatch p (each_below ds ++ ys) rs → BodyThen p (length ds) ys rs
body_then p [] ys rs h = record { body = []; rest = rs; right = tt; count = refl; found = refl; behind = h }
body_then p (d ∷ ds) ys [] h = absurd h
body_then p (d ∷ ds) ys (Value f ∷ rs) h =
    let m : BodyThen p (length ds) ys rs = body_then p ds ys rs h.1 in
    record {
      body = f ∷ m.body;
      rest = m.rest;
      right = (h.0, m.right);
      count = omega (arith, m.count);
      found = ap (λ fs. f ∷ fs) m.found;
      behind = m.behind;
    }
body_then p (d ∷ ds) ys (Binding v f ∷ rs) h = absurd h.0
body_then p (d ∷ ds) ys (Parameter v ∷ rs) h = absurd h.0

-- a list that stands in front of another

pub taken_front : {X : Type 0} (n : ℕ) (xs ys : List X) → length xs ≡ n → take n (xs ++ ys) ≡ xs
taken_front zero [] ys e = refl
taken_front zero (x ∷ xs) ys e = absurd (omega (arith, e))
taken_front (suc n) [] ys e = absurd (omega (arith, e))
taken_front (suc n) (x ∷ xs) ys e = ap (λ zs. x ∷ zs) (taken_front n xs ys (omega (arith, e)))

pub dropped_front : {X : Type 0} (n : ℕ) (xs ys : List X) → length xs ≡ n → drop n (xs ++ ys) ≡ ys
dropped_front zero [] ys e = refl
dropped_front zero (x ∷ xs) ys e = absurd (omega (arith, e))
dropped_front (suc n) [] ys e = absurd (omega (arith, e))
dropped_front (suc n) (x ∷ xs) ys e = dropped_front n xs ys (omega (arith, e))
