-- Forms that are made of what was found of their parts are right where the whole stands.
use Rattle.std.proofs.Common.{◌≡◌, ◌+◌, ◌≤◌, ℕ, zero, suc, Bool, true, false, List, [], ◌∷◌, ◌++◌, length, take, drop, Option, Some, None, is_some, if◌then◌else◌, refl, sym, ap, subst, ◌∙◌, arith}
use Rattle.base.specs.declared.datum.Symbol.{Symbol}
use Rattle.base.specs.Data.{Item}
use Rattle.base.specs.AllOf.{AllOf}
use Rattle.lang_meaning.specs.declared.scope.LexicalScope.{LexicalScope}
use Rattle.lang_meaning.specs.Form.{Form, parameters}
use Rattle.lang_meaning.specs.Subforms.{clause_list}
use Rattle.lang_meaning.specs.Standing.{with_bound}
use Rattle.front_profile.specs.declared.tables.Tables.{Tables}
use Rattle.front_profile.specs.declared.elaboration.ElaboratedPart.{ElaboratedPart}
use Rattle.front_profile.specs.declared.elaboration.ElaboratedPart.TheVariants.{Value, Binding, Parameter}
use Rattle.front_profile.specs.declared.elaboration.One.{One}
use Rattle.front_profile.specs.declared.elaboration.One.TheVariants.{SetVariable}
use Rattle.lang_meaning.specs.declared.kinds.OverTwo.{OverTwo}
use Rattle.front_profile.specs.Nodes.{StaticContext, form}
use Rattle.front_profile.specs.Elaborations.{forms_found, make_one, make_two, make_with_body, make_clauses, rest_found, finish_one}
use Rattle.front_profile.specs.Shapes.{ClauseParts, all_symbols, symbols_of_rest}
use Rattle.front_profile.specs.declared.parameters.Parameters.{Parameters}
use Rattle.front_profile.specs.RowWords.{deeper, each_below, each_inner}
use Rattle.front_profile.specs.ValueRows.{length_if, clause_lengths, clause_parts}
use Rattle.front_profile.specs.Definitions.{Definitions, defined}
use Rattle.front_profile.specs.Places.{scope_of}
use Rattle.front_profile.specs.Right.{RightIn, RightAt}
use Rattle.front_profile.proofs.Matches.{new_variables, Spots, RightOutside, RightBelow, AllMatch, taken_front, dropped_front, below_match, inner_match, BodyThen, body_then}
use Rattle.front_profile.proofs.MadeForms.{OneStands, made_one, made_two, made_with_body, made_body}
use Rattle.front_profile.proofs.Wanted.{spots}

-- one form, two, and a form with a body

pub found_one : (h : Definitions) (a i : StaticContext) (k : One) (d : Item) (rs : List ElaboratedPart) → a.spot.depth + 1 ≤ 1000 → OneStands (scope_of a) k
    → AllMatch (spots h (deeper 1 a) i rs) (form d ∷ []) rs → RightAt h a (make_one k (forms_found rs))
found_one h a i k d [] l o m = absurd m
found_one h a i k d (Value f ∷ rs) l o m = made_one h (scope_of a) a.spot.depth k f l o m.0
found_one h a i k d (Binding v f ∷ rs) l o m = absurd m.0
found_one h a i k d (Parameter v ∷ rs) l o m = absurd m.0

pub one_ends : (k : One) (t : Tables) → defined (finish_one k t) ≡ defined t
one_ends (SetVariable v) t = refl
one_ends other t = refl

pub found_two : (h : Definitions) (a i : StaticContext) (k : OverTwo) (d e : Item) (rs : List ElaboratedPart) → a.spot.depth + 1 ≤ 1000
    → AllMatch (spots h (deeper 1 a) i rs) (form d ∷ form e ∷ []) rs → RightAt h a (make_two k (forms_found rs))
found_two h a i k d e [] l m = absurd m
found_two h a i k d e (Value f ∷ []) l m = absurd m.1
found_two h a i k d e (Value f ∷ Value g ∷ rs) l m = made_two h (scope_of a) a.spot.depth k f g l m.0 m.1.0
found_two h a i k d e (Value f ∷ Binding v g ∷ rs) l m = absurd m.1.0
found_two h a i k d e (Value f ∷ Parameter v ∷ rs) l m = absurd m.1.0
found_two h a i k d e (Binding v f ∷ rs) l m = absurd m.0
found_two h a i k d e (Parameter v ∷ rs) l m = absurd m.0

pub found_with_body : (h : Definitions) (a i : StaticContext) (k : OverTwo) (d : Item) (ds : List Item) (rs : List ElaboratedPart) → a.spot.depth + 2 ≤ 1000
    → AllMatch (spots h (deeper 1 a) i rs) (form d ∷ each_below ds) rs → RightAt h a (make_with_body k (forms_found rs))
found_with_body h a i k d ds [] l m = absurd m
found_with_body h a i k d ds (Value f ∷ rs) l m =
    made_with_body h (scope_of a) a.spot.depth k f (forms_found rs) (omega (arith, l)) m.0
    (below_match (spots h (deeper 1 a) i (Value f ∷ rs)) ds rs m.1)
found_with_body h a i k d ds (Binding v f ∷ rs) l m = absurd m.0
found_with_body h a i k d ds (Parameter v ∷ rs) l m = absurd m.0

-- forms inside that bind nothing

no_new : (p : Spots) (ds : List Item) (rs : List ElaboratedPart) → AllMatch p (each_inner ds) rs → new_variables rs ≡ []
no_new p [] [] m = refl
no_new p [] (r ∷ rs) m = absurd m
no_new p (d ∷ ds) [] m = absurd m
no_new p (d ∷ ds) (Value f ∷ rs) m = no_new p ds rs m.1
no_new p (d ∷ ds) (Binding v f ∷ rs) m = absurd m.0
no_new p (d ∷ ds) (Parameter v ∷ rs) m = absurd m.0

pub found_inner : (h : Definitions) (o i : StaticContext) (ds : List Item) (rs : List ElaboratedPart) → AllMatch (spots h o i rs) (each_inner ds) rs
    → AllOf (RightIn h (scope_of i) i.spot.depth) (forms_found rs)
found_inner h o i ds rs m =
    subst (λ (vs : List ℕ). AllOf (RightIn h (with_bound vs (scope_of i)) i.spot.depth) (forms_found rs)) (no_new (spots h o i rs) ds rs m)
    (inner_match (spots h o i rs) ds rs m)

-- clauses

some_deep : (g : Definitions) (s : LexicalScope) (n : ℕ) (fs : List Form) → AllOf (RightIn g s n) fs → 1 ≤ length fs → n ≤ 1000
some_deep g s n [] e l = absurd (omega (arith, l))
some_deep g s n (f ∷ fs) e l = omega (arith, e.0.deep)

abbrev pub ClausesRight : Spots → List (Option ℕ) → List Form → Type 0
ClausesRight p ns fs = AllOf (RightOutside p) (clause_list (make_clauses ns fs))

behind_test : (p : Spots) (f : Form) (ds : List Item) (cs : List ClauseParts) (rs : List ElaboratedPart) → RightOutside p f → (b : BodyThen p (length ds) (clause_parts cs) rs)
    → ClausesRight p (clause_lengths cs) (forms_found b.rest) → ClausesRight p (length_if ds ∷ clause_lengths cs) (f ∷ forms_found rs)
behind_test p f [] cs rs r b more =
    let same : forms_found rs ≡ forms_found b.rest = b.found ∙ dropped_front 0 b.body (forms_found b.rest) b.count in
    (r, subst (ClausesRight p (clause_lengths cs)) (sym same) more)
behind_test p f (d ∷ ds) cs rs r b more =
    let k : ℕ = length ds + 1 in
    let count : length b.body ≡ length ds + 1 = omega (arith, b.count) in
    let front : take (length ds + 1) (forms_found rs) ≡ b.body =
    ap (take (length ds + 1)) b.found ∙ taken_front (length ds + 1) b.body (forms_found b.rest) count in
    let rest : drop (length ds + 1) (forms_found rs) ≡ forms_found b.rest =
    ap (drop (length ds + 1)) b.found ∙ dropped_front (length ds + 1) b.body (forms_found b.rest) count in
    let deep : p.depth + 1 ≤ 1000 = some_deep p.defined p.outside (p.depth + 1) b.body b.right (omega (arith, count)) in (
      r,
      (
        made_body p.defined p.outside p.depth (take (length ds + 1) (forms_found rs)) deep (subst (AllOf (RightBelow p)) (sym front) b.right),
        subst (ClausesRight p (clause_lengths cs)) (sym rest) more,
      ),
    )

pub found_clauses : (p : Spots) (cs : List ClauseParts) (rs : List ElaboratedPart) → AllMatch p (clause_parts cs) rs → ClausesRight p (clause_lengths cs) (forms_found rs)
found_clauses p [] rs m = tt
found_clauses p (c ∷ cs) [] m = absurd m
found_clauses p (c ∷ cs) (Binding v f ∷ rs) m = absurd m.0
found_clauses p (c ∷ cs) (Parameter v ∷ rs) m = absurd m.0
found_clauses p (c ∷ cs) (Value f ∷ rs) m =
    let b : BodyThen p (length c.body) (clause_parts cs) rs = body_then p c.body (clause_parts cs) rs m.1 in
    behind_test p f c.body cs rs m.0 b (found_clauses p cs b.rest b.behind)

-- the variables of a function

pub parameters_are : (n : ℕ) (rest : Bool) (vs : List ℕ) → length vs ≡ n + (if rest then 1 else 0)
    → parameters (take n vs) (rest_found rest (drop n vs)) ≡ vs
parameters_are zero false [] e = refl
parameters_are zero false (v ∷ vs) e = absurd (omega (arith, e))
parameters_are zero true [] e = absurd (omega (arith, e))
parameters_are zero true (v ∷ []) e = refl
parameters_are zero true (v ∷ w ∷ vs) e = absurd (omega (arith, e))
parameters_are (suc n) false [] e = absurd (omega (arith, e))
parameters_are (suc n) true [] e = absurd (omega (arith, e))
parameters_are (suc n) false (v ∷ vs) e = ap (λ ws. v ∷ ws) (parameters_are n false vs (omega (arith, e)))
parameters_are (suc n) true (v ∷ vs) e = ap (λ ws. v ∷ ws) (parameters_are n true vs (omega (arith, e)))

rest_counted : (x : Option Symbol) → length (symbols_of_rest x) ≡ (if is_some x then 1 else 0)
rest_counted None = refl
rest_counted (Some x) = refl

symbols_then : (xs ys : List Symbol) → length (xs ++ ys) ≡ length xs + length ys
symbols_then [] ys = omega arith
symbols_then (x ∷ xs) ys = omega (arith, symbols_then xs ys)

pub symbols_counted : (ps : Parameters) → length (all_symbols ps) ≡ length ps.required + (if is_some ps.rest then 1 else 0)
symbols_counted ps = symbols_then ps.required (symbols_of_rest ps.rest) ∙ ap (λ k. length ps.required + k) (rest_counted ps.rest)
