-- Places that forms make inside: they are good again, and their scopes are those that the forms give their inner forms.
use Rattle.std.proofs.Common.{◌≡◌, ◌+◌, ◌==◌, ℕ, Bool, true, false, List, [], ◌∷◌, ◌++◌, length, Option, Some, None, refl, sym, ap, subst, ◌∙◌, append-nil}
use Rattle.std.specs.List.{list_any}
use Rattle.base.specs.declared.datum.Symbol.{Symbol}
use Rattle.base.specs.AllOf.{AllOf, all_both, all_map}
use Rattle.lang_meaning.specs.declared.scope.ExitForm.TheVariants as exit
use Rattle.lang_meaning.specs.declared.scope.NamedExit.{NamedExit}
use Rattle.lang_meaning.specs.declared.scope.LexicalScope.{LexicalScope}
use Rattle.lang_meaning.specs.Standing.{with_around}
use Rattle.front_profile.specs.declared.bound.Bound.{Bound}
use Rattle.front_profile.specs.declared.bound.Bound.TheVariants.{Variable, Block, Tags}
use Rattle.front_profile.specs.Names.{variable_of}
use Rattle.front_profile.specs.Nodes.{StaticContext, with_bound}
use Rattle.front_profile.specs.Shapes.{Pair, symbol_of}
use Rattle.front_profile.specs.RowWords.{deeper, deeper_at_top, with_all, alone}
use Rattle.front_profile.specs.Judged.{again}
use Rattle.front_profile.specs.BindingRows.{function_and, variable_that_is, functions_of}
use Rattle.front_profile.specs.Definitions.{Definitions, Later}
use Rattle.front_profile.specs.Places.{variables_around, exit_numbers, exits_around, scope_of, Rises, FunctionThere, EmptyContext, WellFormedContext}
use Rattle.front_profile.proofs.Places.{rises_longer, rises_push, variables_append, exit_numbers_append, exits_append, function_there_more, any_front, variable_there}

-- later, deeper, alone

pub good_later : (g h : Definitions) (a : StaticContext) → Later g h → WellFormedContext g a → WellFormedContext h a
good_later g h a l o = record {
  variables = rises_longer 0 (variables_around a.bound) g.variables h.variables l.variables o.variables;
  exits = rises_longer 0 (exit_numbers a.bound) g.exits h.exits l.exits o.exits;
  functions = o.functions;
  top = o.top;
}

pub good_deeper : (g : Definitions) (n : ℕ) (a : StaticContext) → WellFormedContext g a → WellFormedContext g (deeper n a)
good_deeper g n a o = record { variables = o.variables; exits = o.exits; functions = o.functions; top = λ e. absurd (cc e) }

pub good_at_top : (g : Definitions) (a : StaticContext) → WellFormedContext g a → WellFormedContext g (deeper_at_top a)
good_at_top g a o = record {
  variables = o.variables;
  exits = o.exits;
  functions = o.functions;
  top = λ e. let n : EmptyContext a = o.top e in record { bound = n.bound; method = n.method };
}

pub good_again : (g : Definitions) (a : StaticContext) → WellFormedContext g a → WellFormedContext g (again a)
good_again g a o = record {
  variables = o.variables;
  exits = o.exits;
  functions = o.functions;
  top = λ e. let n : EmptyContext a = o.top e in record { bound = n.bound; method = n.method };
}

pub good_alone : (g : Definitions) (has_next : Bool) (a : StaticContext) → WellFormedContext g a → WellFormedContext g (alone has_next a)
good_alone g has_next a o = record { variables = o.variables; exits = o.exits; functions = o.functions; top = λ e. absurd (cc e) }

-- with one more bound, below top level

-- the same tables, behind which the next variable and the next exit have those numbers
abbrev pub counted : ℕ → ℕ → Definitions → Definitions
counted v e g = record g { variables = v; exits = e }

functions_still : (bs cs : List Bound) → AllOf (FunctionThere (variables_around bs)) bs
    → AllOf (FunctionThere (variables_around (bs ++ cs))) bs
functions_still bs cs f =
    all_map (FunctionThere (variables_around bs)) (FunctionThere (variables_around (bs ++ cs)))
    (function_there_more (variables_around bs) (variables_around (bs ++ cs))
    (λ v e. rw (variables_append bs cs) (any_front (λ w. v == w) (variables_around bs) (variables_around cs) e)))
    bs f

pub good_variable : (g : Definitions) (x : Symbol) (a : StaticContext) → a.spot.top ≡ false → WellFormedContext g a
    → WellFormedContext (counted (g.variables + 1) g.exits g) (with_bound (Variable x g.variables) a)
good_variable g x a low o =
    let b : List Bound = Variable x g.variables ∷ [] in
    record {
      variables = rw (variables_append a.bound b) (rises_push 0 (variables_around a.bound) g.variables o.variables);
      exits = rw (exit_numbers_append a.bound b, append-nil (exit_numbers a.bound)) o.exits;
      functions = all_both _ a.bound b (functions_still a.bound b o.functions) (tt, tt);
      top = λ e. absurd (cc (low, e));
    }

-- what binds an exit and no variable and no function
good_exit : (g : Definitions) (x : Bound) (a : StaticContext) → variables_around (x ∷ []) ≡ [] → exit_numbers (x ∷ []) ≡ g.exits ∷ []
    → ((vs : List ℕ) → FunctionThere vs x) → a.spot.top ≡ false → WellFormedContext g a → WellFormedContext (counted g.variables (g.exits + 1) g) (with_bound x a)
good_exit g x a none one plain low o =
    let b : List Bound = x ∷ [] in
    record {
      variables = subst (λ vs. Rises 0 vs g.variables) (sym (variables_append a.bound b ∙ ap (λ vs. variables_around a.bound ++ vs) none ∙ append-nil (variables_around a.bound))) o.variables;
      exits = subst (λ es. Rises 0 es (g.exits + 1)) (sym (exit_numbers_append a.bound b ∙ ap (λ es. exit_numbers a.bound ++ es) one)) (rises_push 0 (exit_numbers a.bound) g.exits o.exits);
      functions = all_both _ a.bound b (functions_still a.bound b o.functions) (plain _, tt);
      top = λ e. absurd (cc (low, e));
    }

pub good_block : (g : Definitions) (x : Symbol) (a : StaticContext) → a.spot.top ≡ false → WellFormedContext g a
    → WellFormedContext (counted g.variables (g.exits + 1) g) (with_bound (Block x g.exits) a)
good_block g x a low o = good_exit g (Block x g.exits) a refl refl (λ vs. tt) low o

pub good_tags : (g : Definitions) (xs : List Symbol) (a : StaticContext) → a.spot.top ≡ false → WellFormedContext g a
    → WellFormedContext (counted g.variables (g.exits + 1) g) (with_bound (Tags xs g.exits) a)
good_tags g xs a low o = good_exit g (Tags xs g.exits) a refl refl (λ vs. tt) low o

-- local functions bind no variable and no exit

pub record AreFunctions (vs : List ℕ) (bs : List Bound) : Type 0 where
  pub variables : variables_around bs ≡ []
  pub exits : exit_numbers bs ≡ []
  pub around : exits_around bs ≡ []
  pub there : AllOf (FunctionThere vs) bs

abbrev pub MaybeFunctions : List ℕ → Option (List Bound) → Type 0
MaybeFunctions vs None = Unit {0}
MaybeFunctions vs (Some bs) = AreFunctions vs bs

abbrev MaybeVariable : List ℕ → Option ℕ → Type 0
MaybeVariable vs None = Unit {0}
MaybeVariable vs (Some v) = list_any (λ w. v == w) vs ≡ true

variable_is_there : (a : StaticContext) (x : Option Symbol) → MaybeVariable (variables_around a.bound) (variable_that_is a x)
variable_is_there a None = tt
variable_is_there a (Some x) = found (variable_of a.bound x) refl
  where
    found : (o : Option ℕ) → variable_of a.bound x ≡ o → MaybeVariable (variables_around a.bound) o
    found None e = tt
    found (Some v) e = variable_there x a.bound v e

one_function_more : (vs : List ℕ) (name : Symbol) (v : Option ℕ) (bs : Option (List Bound)) → MaybeVariable vs v → MaybeFunctions vs bs
    → MaybeFunctions vs (function_and name v bs)
one_function_more vs name None bs h f = tt
one_function_more vs name (Some v) None h f = tt
one_function_more vs name (Some v) (Some bs) h f = record {
  variables = f.variables;
  exits = f.exits;
  around = rw (append-nil (exits_around bs)) f.around;
  there = (h, f.there);
}

pub are_functions : (a : StaticContext) (qs : List Pair) → MaybeFunctions (variables_around a.bound) (functions_of a qs)
are_functions a [] = record { variables = refl; exits = refl; around = refl; there = tt }
are_functions a (q ∷ qs) =
    one_function_more (variables_around a.bound) q.name (variable_that_is a (symbol_of q.datum)) (functions_of a qs)
    (variable_is_there a (symbol_of q.datum)) (are_functions a qs)

pub same_variables : (bs cs : List Bound) → variables_around cs ≡ [] → variables_around (bs ++ cs) ≡ variables_around bs
same_variables bs cs e = variables_append bs cs ∙ ap (λ ns. variables_around bs ++ ns) e ∙ append-nil (variables_around bs)

pub good_functions : (g : Definitions) (bs : List Bound) (a : StaticContext) → a.spot.top ≡ false → AreFunctions (variables_around a.bound) bs → WellFormedContext g a
    → WellFormedContext g (with_all bs a)
good_functions g bs a low f o = record {
  variables = rw (same_variables a.bound bs f.variables) o.variables;
  exits = rw (exit_numbers_append a.bound bs, f.exits, append-nil (exit_numbers a.bound)) o.exits;
  functions = rw (same_variables a.bound bs f.variables)
      (all_both (FunctionThere (variables_around a.bound)) a.bound bs o.functions f.there);
  top = λ e. absurd (cc (low, e));
}

-- scopes

abbrev pub scope_with : List ℕ → List NamedExit → Bool → LexicalScope
scope_with vs es in_method = record { variables = vs; exits = es; in_method = in_method }

same_scope : (vs ws : List ℕ) (es fs : List NamedExit) (m : Bool) → vs ≡ ws → es ≡ fs → scope_with vs es m ≡ scope_with ws fs m
same_scope vs ws es fs m e f = ap (λ us. scope_with us es m) e ∙ ap (λ gs. scope_with ws gs m) f

pub block_scope : (x : Symbol) (e : ℕ) (a : StaticContext) → scope_of (with_bound (Block x e) a) ≡ with_around e exit.Block (scope_of a)
block_scope x e a =
    same_scope _ _ _ _ a.spot.in_method (same_variables a.bound (Block x e ∷ []) refl) (exits_append a.bound (Block x e ∷ []))

pub tags_scope : (xs : List Symbol) (e : ℕ) (a : StaticContext) → scope_of (with_bound (Tags xs e) a) ≡ with_around e (exit.Tagbody (length xs + 1)) (scope_of a)
tags_scope xs e a =
    same_scope _ _ _ _ a.spot.in_method (same_variables a.bound (Tags xs e ∷ []) refl) (exits_append a.bound (Tags xs e ∷ []))

pub functions_scope : (bs : List Bound) (a : StaticContext) → AreFunctions (variables_around a.bound) bs → scope_of (with_all bs a) ≡ scope_of a
functions_scope bs a f =
    same_scope _ _ _ _ a.spot.in_method (same_variables a.bound bs f.variables)
    (exits_append a.bound bs ∙ ap (λ es. es ++ exits_around a.bound) f.around)
