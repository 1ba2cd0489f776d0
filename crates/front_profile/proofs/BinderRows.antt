-- The rows of forms that bind are apt.
use Rattle.std.proofs.Common.{◌≡◌, ◌+◌, ◌≤◌, ℕ, Bool, true, false, List, [], ◌∷◌, ◌++◌, filter, take, drop, length, Option, Some, None, is_some, refl, sym, ap, subst, ◌∙◌, arith}
use Rattle.base.specs.declared.place.Place.{Place}
use Rattle.base.specs.declared.datum.Name.{Name}
use Rattle.base.specs.Data.{Item}
use Rattle.base.specs.AllOf.{AllOf}
use Rattle.base.specs.WellFormedData.{WellFormed}
use Rattle.lang_meaning.specs.declared.capture.Capture.{Capture as Captured}
use Rattle.lang_meaning.specs.declared.scope.LexicalScope.{LexicalScope}
use Rattle.lang_meaning.specs.Form.{parameters}
use Rattle.lang_meaning.specs.Mentions.{variables_bound, mentions}
use Rattle.lang_meaning.specs.Standing.{with_bound}
use Rattle.front_profile.specs.declared.tables.Tables.{Tables}
use Rattle.front_profile.specs.declared.bound.Bound.{Bound}
use Rattle.front_profile.specs.declared.parameters.Parameters.{Parameters}
use Rattle.front_profile.specs.declared.elaboration.ElaboratedPart.{ElaboratedPart}
use Rattle.front_profile.specs.declared.elaboration.Elaboration.TheVariants.{InSequence, OfVariables, OfDynamics, OfFunction}
use Rattle.front_profile.specs.Names.{parts_around}
use Rattle.front_profile.specs.Nodes.{StaticContext}
use Rattle.front_profile.specs.Elaborations.{forms_found, variables_found, bindings_found, body_of, make_dynamics, behind_dynamics, rest_found, elaborate}
use Rattle.front_profile.specs.Shapes.{Pair, pairs_in, parameters_in, all_symbols, name_of}
use Rattle.front_profile.specs.RowWords.{deeper, with_all, each_below, each_inner, each_bound, each_parameter}
use Rattle.front_profile.specs.BindingRows.{let_as, let_row, name_and, names_of, values_of, dynamics_as, dynamic_let_as, dynamic_let_row, lambda_as, lambda_row, functions_of, functions_as, with_functions_as, with_functions_row}
use Rattle.front_profile.specs.bridge.WellFormedParts.{WellFormedPairs, MaybePairs, good_pairs}
use Rattle.front_profile.specs.Definitions.{Definitions, defined}
use Rattle.front_profile.specs.Places.{variables_around, scope_of, WellFormedContext}
use Rattle.front_profile.specs.Right.{RightIn, RightAt}
use Rattle.front_profile.proofs.Definitions.{entered_same, counted_same}
use Rattle.front_profile.proofs.Nodes.{let_nodes, lambda_nodes, sequence_nodes, dynamic_let_nodes}
use Rattle.front_profile.specs.Numbers.{is_from}
use Rattle.std.specs.List.{list_all}
use Rattle.front_profile.proofs.FoundNodes.{both_plain, below_plain, inner_plain, parameters_plain, values_plain, forms_counted, enough_nodes}
use Rattle.front_profile.proofs.Good.{good_deeper, good_functions, MaybeFunctions, are_functions, functions_scope}
use Rattle.front_profile.proofs.Captured.{IsCaptured, is_captured}
use Rattle.front_profile.proofs.Matches.{new_variables, AllMatch, BoundMatch, bound_match, ParametersMatch, parameters_match, DynamicsMatch, dynamics_match}
use Rattle.front_profile.proofs.MadeForms.{made_let, made_dynamic_let, made_lambda, made_body}
use Rattle.front_profile.proofs.Wanted.{spots, AllCame, AllApt, AptAt, Stage, all_ordinary}
use Rattle.front_profile.proofs.Apt.{apt_within, apt_made, plain_parts, both_apt, below_apt, inner_apt, bound_apt, parameters_apt}
use Rattle.front_profile.proofs.Procedures.{inner_ordinary}
use Rattle.front_profile.proofs.PartsFound.{found_inner, parameters_are, symbols_counted}
use Rattle.front_profile.proofs.ExitRows.{two_deeper}

-- let

found_let : (h : Definitions) (a : StaticContext) (qs : List Pair) (fs : List Item) (rs : List ElaboratedPart) → a.spot.depth + 2 ≤ 1000
    → AllMatch (spots h (deeper 1 a) (deeper 2 a) rs) (each_bound qs ++ each_inner fs) rs → RightAt h a (elaborate OfVariables rs)
found_let h a qs fs rs l x =
    let m : BoundMatch (spots h (deeper 1 a) (deeper 2 a) rs) rs = bound_match (spots h (deeper 1 a) (deeper 2 a) rs) qs fs rs x in
    made_let h (scope_of a) a.spot.depth (bindings_found rs) (forms_found rs) (omega (arith, l)) m.values
    (two_deeper h (with_bound (variables_bound (bindings_found rs)) (scope_of a)) a.spot.depth (forms_found rs)
    (subst (λ (vs : List ℕ). AllOf (RightIn h (with_bound vs (scope_of a)) (a.spot.depth + 2)) (forms_found rs)) (sym m.variables) m.forms))

apt_let_as : (n : ℕ) (a : StaticContext) (s : Tables) (p : Place) (bs : Item) (fs : List Item) (qs : Option (List Pair)) → Stage a s → AllOf (WellFormed n) fs → MaybePairs n qs
    → a.spot.depth + 2 ≤ 1000 → AptAt n a s (let_as a s p bs fs qs)
apt_let_as n a s p bs fs None b g k l = tt
apt_let_as n a s p bs fs (Some qs) b g k l = apt_made n a s (deeper 2 a) p s (each_bound qs ++ each_inner fs) OfVariables b (record {
  entered = entered_same (defined s) b.whole;
  inside = good_deeper (defined s) 2 a b.good;
  low = λ e. refl;
  sited = refl;
  ordinary = all_ordinary n (deeper 2 a) (each_bound qs ++ each_inner fs) refl
      (both_apt n (deeper 2 a) (each_bound qs) (each_inner fs) (bound_apt n (deeper 2 a) qs refl k) (inner_apt n (deeper 2 a) fs g));
  start = counted_same a.spot.sited (defined s);
  parts = both_apt n (deeper 2 a) (each_bound qs) (each_inner fs) (bound_apt n (deeper 2 a) qs refl k) (inner_apt n (deeper 2 a) fs g);
  right = λ u rs c. found_let (defined u) a qs fs rs l c.match;
  ends = λ u rs. refl;
  nodes = λ u rs c. let_nodes rs;
  own = λ u rs c m.
      ap (list_all (is_from s.variables u.variables))
      (bound_match (spots (defined u) (deeper 1 a) (deeper 2 a) rs) qs fs rs c.match).variables ∙ m.variables;
})

pub apt_let : (n : ℕ) (a : StaticContext) (s : Tables) (p : Place) (ds : List Item) → Stage a s → AllOf (WellFormed n) ds → AptAt n a s (let_row a s p ds)
apt_let n a s p [] b g = tt
apt_let n a s p (bs ∷ fs) b g = apt_within n a s 2 p _ (apt_let_as n a s p bs fs (pairs_in s.words bs) b g.1 (good_pairs n s.words bs g.0))

-- dynamic-let: as many names as bindings

one_name_more : (n : Option Name) (ms : Option (List Name)) (k : ℕ) → ((ks : List Name) → ms ≡ Some ks → length ks ≡ k) → (ks : List Name) → name_and n ms ≡ Some ks
    → length ks ≡ k + 1
one_name_more None ms k h ks e = absurd (cc e)
one_name_more (Some n) None k h ks e = absurd (cc e)
one_name_more (Some n) (Some ms) k h ks e =
    let same : (n ∷ ms) ≡ ks = cc e in
    let many : length ms ≡ k = h ms refl in
    let all : length (n ∷ ms) ≡ length ks = ap length same in
    omega (arith, many, all)

names_counted : (qs : List Pair) (ns : List Name) → names_of qs ≡ Some ns → length ns ≡ length qs
names_counted [] ns e = let same : [] ≡ ns = cc e in sym (ap length same)
names_counted (q ∷ qs) ns e =
    let more : length ns ≡ length qs + 1 = one_name_more (name_of q.name) (names_of qs) (length qs) (names_counted qs) ns e in omega (arith, more)

values_apt : (n : ℕ) (i : StaticContext) (qs : List Pair) → WellFormedPairs n qs → AllApt n i (values_of qs)
values_apt n i [] g = tt
values_apt n i (q ∷ qs) g = (g.0, values_apt n i qs g.1)

found_dynamics : (h : Definitions) (a : StaticContext) (ns : List Name) (qs : List Pair) (fs : List Item) (rs : List ElaboratedPart) → a.spot.depth + 2 ≤ 1000 → length ns ≡ length qs
    → AllMatch (spots h (deeper 1 a) (deeper 1 a) rs) (values_of qs ++ each_below fs) rs → RightAt h a (elaborate (OfDynamics ns) rs)
found_dynamics h a ns qs fs rs l e x =
    let m : DynamicsMatch (spots h (deeper 1 a) (deeper 1 a) rs) ns rs = dynamics_match (spots h (deeper 1 a) (deeper 1 a) rs) ns qs fs rs e x in
    made_dynamic_let h (scope_of a) a.spot.depth (make_dynamics ns (forms_found rs)) (behind_dynamics ns (forms_found rs)) (omega (arith, l)) m.values m.forms

apt_dynamics_as : (n : ℕ) (a : StaticContext) (s : Tables) (p : Place) (fs : List Item) (qs : List Pair) (ns : Option (List Name)) → Stage a s → AllOf (WellFormed n) fs
    → WellFormedPairs n qs → names_of qs ≡ ns → AptAt n a s (dynamics_as a s p fs qs ns)
apt_dynamics_as n a s p fs qs None b g k e = tt
apt_dynamics_as n a s p fs qs (Some ns) b g k e =
    apt_within n a s 2 p _ (λ l. apt_made n a s (deeper 1 a) p s (values_of qs ++ each_below fs) (OfDynamics ns) b
    (plain_parts n a s (values_of qs ++ each_below fs) (OfDynamics ns) b
    (both_apt n (deeper 1 a) (values_of qs) (each_below fs) (values_apt n (deeper 1 a) qs k) (below_apt n (deeper 1 a) fs g))
    (λ u rs c. found_dynamics (defined u) a ns qs fs rs l (names_counted qs ns e) c.match) (λ u rs. refl)
    (λ u rs c.
    enough_nodes _ _ _
    (forms_counted (spots (defined u) (deeper 1 a) (deeper 1 a) rs) (values_of qs ++ each_below fs) rs c.match
    (both_plain (values_of qs) (each_below fs) (values_plain qs) (below_plain fs)))
    (dynamic_let_nodes ns (forms_found rs)))
    (λ u rs. tt)))

apt_dynamic_let_as : (n : ℕ) (a : StaticContext) (s : Tables) (p : Place) (bs : Item) (fs : List Item) (qs : Option (List Pair)) → Stage a s → AllOf (WellFormed n) fs
    → MaybePairs n qs → AptAt n a s (dynamic_let_as a s p bs fs qs)
apt_dynamic_let_as n a s p bs fs None b g k = apt_within n a s 2 p _ (λ l. tt)
apt_dynamic_let_as n a s p bs fs (Some qs) b g k = apt_dynamics_as n a s p fs qs (names_of qs) b g k refl

pub apt_dynamic_let : (n : ℕ) (a : StaticContext) (s : Tables) (p : Place) (ds : List Item) → Stage a s → AllOf (WellFormed n) ds → AptAt n a s (dynamic_let_row a s p ds)
apt_dynamic_let n a s p [] b g = tt
apt_dynamic_let n a s p (bs ∷ fs) b g = apt_dynamic_let_as n a s p bs fs (pairs_in s.words bs) b g.1 (good_pairs n s.words bs g.0)

-- lambda

-- the numbers that are stored are those that were found
pub found_parameters : (h : Definitions) (o i : StaticContext) (ps : Parameters) (fs : List Item) (rs : List ElaboratedPart)
    → AllMatch (spots h o i rs) (each_parameter (all_symbols ps) ++ each_inner fs) rs
    → parameters (take (length ps.required) (variables_found rs)) (rest_found (is_some ps.rest) (drop (length ps.required) (variables_found rs))) ≡ new_variables rs
found_parameters h o i ps fs rs x =
    let m : ParametersMatch (spots h o i rs) (length (all_symbols ps)) rs = parameters_match (spots h o i rs) (all_symbols ps) fs rs x in
    parameters_are (length ps.required) (is_some ps.rest) (variables_found rs) (m.count ∙ symbols_counted ps) ∙ m.variables

found_lambda : (g h : Definitions) (a : StaticContext) (ps : Parameters) (fs : List Item) (rs : List ElaboratedPart) → a.spot.depth + 2 ≤ 1000 → WellFormedContext g a
    → AllCame (deeper 1 a) (deeper 2 a) g (each_parameter (all_symbols ps) ++ each_inner fs) rs h
    → RightAt h a (elaborate (OfFunction (length ps.required) (is_some ps.rest) (parts_around a.bound a.spot.in_method)) rs)
found_lambda g h a ps fs rs l o c =
    let m : ParametersMatch (spots h (deeper 1 a) (deeper 2 a) rs) (length (all_symbols ps)) rs =
    parameters_match (spots h (deeper 1 a) (deeper 2 a) rs) (all_symbols ps) fs rs c.match in
    let t : LexicalScope = with_bound (new_variables rs) (scope_of a) in
    let required : List ℕ = take (length ps.required) (variables_found rs) in
    let rest : Option ℕ = rest_found (is_some ps.rest) (drop (length ps.required) (variables_found rs)) in
    let forms : AllOf (RightIn h t (a.spot.depth + 1 + 1)) (forms_found rs) = two_deeper h t a.spot.depth (forms_found rs) m.forms in
    let body : RightIn h t (a.spot.depth + 1) (body_of (forms_found rs)) = made_body h t (a.spot.depth + 1) (forms_found rs) (omega (arith, l)) forms in
    let parts : List Captured = filter (λ p. mentions p (body_of (forms_found rs))) (parts_around a.bound a.spot.in_method) in
    let captured : IsCaptured (scope_of a) (new_variables rs) (body_of (forms_found rs)) parts =
    is_captured g a (new_variables rs) (body_of (forms_found rs)) o c.newer body.stands in
    made_lambda h (scope_of a) a.spot.depth required rest parts (forms_found rs) t (omega (arith, l))
    (subst (λ (vs : List ℕ). IsCaptured (scope_of a) vs (body_of (forms_found rs)) parts) (sym (found_parameters h (deeper 1 a) (deeper 2 a) ps fs rs c.match)) captured)
    forms

pub function_apt : (n : ℕ) (i : StaticContext) (ps : Parameters) (fs : List Item) → i.spot.top ≡ false → AllOf (WellFormed n) fs → AllApt n i (each_parameter (all_symbols ps) ++ each_inner fs)
function_apt n i ps fs l g = both_apt n i (each_parameter (all_symbols ps)) (each_inner fs) (parameters_apt n i (all_symbols ps) l) (inner_apt n i fs g)

apt_lambda_as : (n : ℕ) (a : StaticContext) (s : Tables) (p : Place) (d : Item) (fs : List Item) (ps : Option Parameters) → Stage a s → AllOf (WellFormed n) fs
    → a.spot.depth + 2 ≤ 1000 → AptAt n a s (lambda_as a s p d fs ps)
apt_lambda_as n a s p d fs None b g l = tt
apt_lambda_as n a s p d fs (Some ps) b g l = apt_made n a s (deeper 2 a) p s (each_parameter (all_symbols ps) ++ each_inner fs) _ b (record {
  entered = entered_same (defined s) b.whole;
  inside = good_deeper (defined s) 2 a b.good;
  low = λ e. refl;
  sited = refl;
  ordinary = all_ordinary n (deeper 2 a) (each_parameter (all_symbols ps) ++ each_inner fs) refl (function_apt n (deeper 2 a) ps fs refl g);
  start = counted_same a.spot.sited (defined s);
  parts = function_apt n (deeper 2 a) ps fs refl g;
  right = λ u rs c. found_lambda (defined s) (defined u) a ps fs rs l b.good c;
  ends = λ u rs. refl;
  nodes = λ u rs c.
      enough_nodes _ _ _
      (forms_counted (spots (defined u) (deeper 1 a) (deeper 2 a) rs) (each_parameter (all_symbols ps) ++ each_inner fs) rs c.match
      (both_plain (each_parameter (all_symbols ps)) (each_inner fs) (parameters_plain (all_symbols ps)) (inner_plain fs)))
      (lambda_nodes (take (length ps.required) (variables_found rs)) (rest_found (is_some ps.rest) (drop (length ps.required) (variables_found rs))) (forms_found rs) _);
  own = λ u rs c m.
      ap (list_all (is_from s.variables u.variables)) (found_parameters (defined u) (deeper 1 a) (deeper 2 a) ps fs rs c.match) ∙ m.variables;
})

pub apt_lambda : (n : ℕ) (a : StaticContext) (s : Tables) (p : Place) (ds : List Item) → Stage a s → AllOf (WellFormed n) ds → AptAt n a s (lambda_row a s p ds)
apt_lambda n a s p [] b g = tt
apt_lambda n a s p (d ∷ fs) b g = apt_within n a s 2 p _ (apt_lambda_as n a s p d fs (parameters_in s.words d) b g.1)

-- local functions

apt_functions_as : (n : ℕ) (a : StaticContext) (s : Tables) (p : Place) (fs : List Item) (kept : Bool) (bs : Option (List Bound)) → Stage a s → AllOf (WellFormed n) fs
    → MaybeFunctions (variables_around a.bound) bs → AptAt n a s (functions_as a s p fs kept bs)
apt_functions_as n a s p fs true None b g f = tt
apt_functions_as n a s p fs false None b g f = tt
apt_functions_as n a s p fs true (Some bs) b g f = tt
apt_functions_as n a s p fs false (Some bs) b g f =
    let i : StaticContext = with_all bs (deeper 1 a) in
    apt_within n a s 1 p _ (λ l. apt_made n a s i p s (each_inner fs) InSequence b (record {
      entered = entered_same (defined s) b.whole;
      inside = good_functions (defined s) bs (deeper 1 a) refl f (good_deeper (defined s) 1 a b.good);
      low = λ e. refl;
      sited = refl;
      ordinary = inner_ordinary fs;
      start = counted_same a.spot.sited (defined s);
      parts = inner_apt n i fs g;
      right = λ u rs c.
          made_body (defined u) (scope_of a) a.spot.depth (forms_found rs) l
          (subst (λ (t : LexicalScope). AllOf (RightIn (defined u) t (a.spot.depth + 1)) (forms_found rs)) (functions_scope bs (deeper 1 a) f)
          (found_inner (defined u) (deeper 1 a) i fs rs c.match));
      ends = λ u rs. refl;
      nodes = λ u rs c.
          enough_nodes _ _ _ (forms_counted (spots (defined u) (deeper 1 a) i rs) (each_inner fs) rs c.match (inner_plain fs)) (sequence_nodes (forms_found rs));
      own = λ u rs c m. tt;
    }))

apt_with_functions_as : (n : ℕ) (kept : Bool) (a : StaticContext) (s : Tables) (p : Place) (bs : Item) (fs : List Item) (qs : Option (List Pair)) → Stage a s
    → AllOf (WellFormed n) fs → AptAt n a s (with_functions_as kept a s p bs fs qs)
apt_with_functions_as n kept a s p bs fs None b g = apt_within n a s 1 p _ (λ l. tt)
apt_with_functions_as n kept a s p bs fs (Some qs) b g = apt_functions_as n a s p fs kept (functions_of a qs) b g (are_functions a qs)

pub apt_with_functions : (n : ℕ) (kept : Bool) (a : StaticContext) (s : Tables) (p : Place) (ds : List Item) → Stage a s → AllOf (WellFormed n) ds
    → AptAt n a s (with_functions_row kept a s p ds)
apt_with_functions n kept a s p [] b g = tt
apt_with_functions n kept a s p (bs ∷ fs) b g = apt_with_functions_as n kept a s p bs fs (pairs_in s.words bs) b g.1
