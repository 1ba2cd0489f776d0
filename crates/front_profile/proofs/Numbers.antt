-- Forms that are made of forms with numbers from there on have such numbers.
use Rattle.std.proofs.Common.{◌≡◌, ◌≤◌, ◌<◌, ℕ, nat_le, nat_lt, true, List, [], ◌∷◌, take, drop, Option, Some, None, refl, ◌∙◌, arith}
use Rattle.std.specs.List.{list_all}
use Rattle.std.proofs.lemmas.Bool.{and_parts, and_from, leb-true, ltb-true, le-leb, lt-ltb}
use Rattle.base.specs.declared.datum.Name.{Name}
use Rattle.base.specs.AllOf.{AllOf, all_take, all_drop, all_map}
use Rattle.lang_meaning.specs.Form.{Form, sited, parameters}
use Rattle.lang_meaning.specs.Subforms.{forms_list, clause_list, value_list, dynamic_value_list, outer, inner}
use Rattle.lang_meaning.specs.Inside.{inside_form}
use Rattle.lang_meaning.specs.Mentions.{variables_bound}
use Rattle.lang_meaning.specs.bridge.Judged.{all_inside}
use Rattle.front_profile.specs.declared.elaboration.ElaboratedPart.{ElaboratedPart}
use Rattle.front_profile.specs.declared.elaboration.One.{One}
use Rattle.front_profile.specs.declared.elaboration.One.TheVariants.{SetVariable, SetGlobal, DefineGlobal, SetDynamic, DefineDynamic, ReturnTo}
use Rattle.lang_meaning.specs.declared.kinds.OverTwo.{OverTwo}
use Rattle.lang_meaning.specs.declared.kinds.OverTwo.TheVariants.{Apply, While, Catch, Throw, Unwind, WithHandler, Signal, Continue}
use Rattle.front_profile.specs.declared.elaboration.Elaboration.{Elaboration}
use Rattle.front_profile.specs.declared.elaboration.Elaboration.TheVariants.{Ready, OfOne, OfTwo, OfBody, InSequence, CallOf, CallOfValue, CallOfLocal, CallOfPrimitive, OfClauses, OfVariables, OfDynamics, OfFunction, OfBlock, OfSegments, OfFunctionNamed, OfProcedure, OfAccessor, OfMethods, OfClass}
use Rattle.front_profile.specs.Elaborations.{leaf_form, forms_found, variables_found, bindings_found, body_of, make_one, make_two, make_with_body, make_clauses, make_segments, make_dynamics, behind_dynamics, rest_found, elaborate, at_site}
use Rattle.front_profile.specs.Definitions.{Definitions, Later}
use Rattle.front_profile.specs.Numbers.{is_from, numbers_fit, Numbered}
use Rattle.front_profile.proofs.Tests.{all_more}
use Rattle.front_profile.proofs.MadeForms.{listed}
use Rattle.front_profile.proofs.Matches.{new_variables}

-- wider bounds

from_wider : (low low2 high high2 n : ℕ) → low2 ≤ low → high ≤ high2 → is_from low high n ≡ true → is_from low2 high2 n ≡ true
from_wider low low2 high high2 n l k h =
    let e : (nat_le low n ≡ true) × (nat_lt n high ≡ true) = and_parts _ _ h in
    let a : low ≤ n = leb-true low n e.0 in
    let b : n < high = ltb-true n high e.1 in
    and_from _ _ (le-leb low2 n (omega (arith, a, l))) (lt-ltb n high2 (omega (arith, b, k)))

pub all_wider : (low low2 high high2 : ℕ) (ns : List ℕ) → low2 ≤ low → high ≤ high2 → list_all (is_from low high) ns ≡ true → list_all (is_from low2 high2) ns ≡ true
all_wider low low2 high high2 ns l k h = all_more (is_from low high) (is_from low2 high2) (λ n e. from_wider low low2 high high2 n l k e) ns h

pub numbered_wider : (g g2 h h2 : Definitions) (f : Form) → Later g2 g → Later h h2 → Numbered g h f → Numbered g2 h2 f
numbered_wider g g2 h h2 f l k n = record {
  numbers = all_more (numbers_fit g h) (numbers_fit g2 h2)
      (λ x e.
      let p : (list_all (is_from g.variables h.variables) _ ≡ true) × (list_all (is_from g.exits h.exits) _ ≡ true) = and_parts _ _ e in
      and_from _ _ (all_wider g.variables g2.variables h.variables h2.variables _ l.variables k.variables p.0)
      (all_wider g.exits g2.exits h.exits h2.exits _ l.exits k.exits p.1))
      (inside_form f) n.numbers;
}

-- a form, by the forms right inside

all_numbered : (g h : Definitions) (fs : List Form) → AllOf (Numbered g h) fs → list_all (λ f. list_all (numbers_fit g h) (inside_form f)) fs ≡ true
all_numbered g h [] e = refl
all_numbered g h (f ∷ fs) e = and_from _ _ e.0.numbers (all_numbered g h fs e.1)

pub numbered_whole : (g h : Definitions) (f : Form) → numbers_fit g h f ≡ true → AllOf (Numbered g h) (outer f) → AllOf (Numbered g h) (inner f) → Numbered g h f
numbered_whole g h f t os is = record {
  numbers = all_inside (numbers_fit g h) f ∙ and_from _ _ (and_from _ _ t (all_numbered g h (outer f) os)) (all_numbered g h (inner f) is);
}

-- what was found of parts

pub record AllNumbered (g h : Definitions) (rs : List ElaboratedPart) : Type 0 where
  pub forms : AllOf (Numbered g h) (forms_found rs)
  pub values : AllOf (Numbered g h) (value_list (bindings_found rs))
  pub variables : list_all (is_from g.variables h.variables) (new_variables rs) ≡ true

-- what a making itself binds, or the form that it has
abbrev pub OwnNumbers : Definitions → Definitions → Elaboration → List ElaboratedPart → Type 0
OwnNumbers g h (Ready l) rs = Numbered g h (leaf_form l)
OwnNumbers g h (OfFunctionNamed k name n rest of_file l) rs = Numbered g h (leaf_form l)
OwnNumbers g h (OfMethods t hs p of_file l) rs = Numbered g h (leaf_form l)
OwnNumbers g h (OfClass c p of_file l) rs = Numbered g h (leaf_form l)
OwnNumbers g h OfVariables rs = list_all (is_from g.variables h.variables) (variables_bound (bindings_found rs)) ≡ true
OwnNumbers g h (OfFunction n rest parts) rs =
    list_all (is_from g.variables h.variables) (parameters (take n (variables_found rs)) (rest_found rest (drop n (variables_found rs)))) ≡ true
OwnNumbers g h (OfBlock x) rs = is_from g.exits h.exits x ≡ true
OwnNumbers g h (OfSegments x ns) rs = is_from g.exits h.exits x ≡ true
OwnNumbers g h k rs = Unit {0}

body_numbered : (g h : Definitions) (fs : List Form) → AllOf (Numbered g h) fs → Numbered g h (body_of fs)
body_numbered g h fs e = numbered_whole g h (body_of fs) refl (listed (Numbered g h) fs e) tt

one_numbered : (g h : Definitions) (k : One) (fs : List Form) → AllOf (Numbered g h) fs → Numbered g h (make_one k fs)
one_numbered g h k [] e = record { numbers = refl }
one_numbered g h (SetVariable v) (f ∷ fs) e = numbered_whole g h _ refl (e.0, tt) tt
one_numbered g h (SetGlobal n) (f ∷ fs) e = numbered_whole g h _ refl (e.0, tt) tt
one_numbered g h (DefineGlobal row) (f ∷ fs) e = numbered_whole g h _ refl (e.0, tt) tt
one_numbered g h (SetDynamic n) (f ∷ fs) e = numbered_whole g h _ refl (e.0, tt) tt
one_numbered g h (DefineDynamic row) (f ∷ fs) e = numbered_whole g h _ refl (e.0, tt) tt
one_numbered g h (ReturnTo x) (f ∷ fs) e = numbered_whole g h _ refl (e.0, tt) tt

two_numbered : (g h : Definitions) (k : OverTwo) (fs : List Form) → AllOf (Numbered g h) fs → Numbered g h (make_two k fs)
two_numbered g h k [] e = record { numbers = refl }
two_numbered g h k (f ∷ []) e = record { numbers = refl }
two_numbered g h Apply (f ∷ i ∷ fs) e = numbered_whole g h _ refl (e.0, (e.1.0, tt)) tt
two_numbered g h While (f ∷ i ∷ fs) e = numbered_whole g h _ refl (e.0, (e.1.0, tt)) tt
two_numbered g h Catch (f ∷ i ∷ fs) e = numbered_whole g h _ refl (e.0, (e.1.0, tt)) tt
two_numbered g h Throw (f ∷ i ∷ fs) e = numbered_whole g h _ refl (e.0, (e.1.0, tt)) tt
two_numbered g h Unwind (f ∷ i ∷ fs) e = numbered_whole g h _ refl (e.0, (e.1.0, tt)) tt
two_numbered g h WithHandler (f ∷ i ∷ fs) e = numbered_whole g h _ refl (e.0, (e.1.0, tt)) tt
two_numbered g h Signal (f ∷ i ∷ fs) e = numbered_whole g h _ refl (e.0, (e.1.0, tt)) tt
two_numbered g h Continue (f ∷ i ∷ fs) e = numbered_whole g h _ refl (e.0, (e.1.0, tt)) tt

with_body_numbered : (g h : Definitions) (k : OverTwo) (fs : List Form) → AllOf (Numbered g h) fs → Numbered g h (make_with_body k fs)
with_body_numbered g h k [] e = record { numbers = refl }
with_body_numbered g h k (f ∷ fs) e = two_numbered g h k (f ∷ body_of fs ∷ []) (e.0, (body_numbered g h fs e.1, tt))

clauses_numbered : (g h : Definitions) (ns : List (Option ℕ)) (fs : List Form) → AllOf (Numbered g h) fs → AllOf (Numbered g h) (clause_list (make_clauses ns fs))
clauses_numbered g h [] fs e = tt
clauses_numbered g h (n ∷ ns) [] e = tt
clauses_numbered g h (None ∷ ns) (f ∷ fs) e = (e.0, clauses_numbered g h ns fs e.1)
clauses_numbered g h (Some n ∷ ns) (f ∷ fs) e =
    (e.0, (body_numbered g h (take n fs) (all_take _ n fs e.1), clauses_numbered g h ns (drop n fs) (all_drop _ n fs e.1)))

dynamics_numbered : (g h : Definitions) (ns : List Name) (fs : List Form) → AllOf (Numbered g h) fs
    → AllOf (Numbered g h) (dynamic_value_list (make_dynamics ns fs)) × AllOf (Numbered g h) (behind_dynamics ns fs)
dynamics_numbered g h [] fs e = (tt, e)
dynamics_numbered g h (n ∷ ns) [] e = (tt, tt)
dynamics_numbered g h (n ∷ ns) (f ∷ fs) e =
    let r : AllOf (Numbered g h) (dynamic_value_list (make_dynamics ns fs)) × AllOf (Numbered g h) (behind_dynamics ns fs) = dynamics_numbered g h ns fs e.1 in
    ((e.0, r.0), r.1)

segments_numbered : (g h : Definitions) (ns : List ℕ) (fs : List Form) → AllOf (Numbered g h) fs → AllOf (Numbered g h) (forms_list (make_segments ns fs))
segments_numbered g h [] fs e = tt
segments_numbered g h (n ∷ ns) fs e = (body_numbered g h (take n fs) (all_take _ n fs e), segments_numbered g h ns (drop n fs) (all_drop _ n fs e))

pub make_numbered : (g h : Definitions) (k : Elaboration) (rs : List ElaboratedPart) → AllNumbered g h rs → OwnNumbers g h k rs → Numbered g h (elaborate k rs)
make_numbered g h (OfOne k) rs a o = one_numbered g h k (forms_found rs) a.forms
make_numbered g h (OfTwo k) rs a o = two_numbered g h k (forms_found rs) a.forms
make_numbered g h (OfBody k) rs a o = with_body_numbered g h k (forms_found rs) a.forms
make_numbered g h InSequence rs a o = body_numbered g h (forms_found rs) a.forms
make_numbered g h (CallOf n) rs a o = numbered_whole g h _ refl (listed (Numbered g h) (forms_found rs) a.forms) tt
make_numbered g h CallOfValue rs a o = numbered_whole g h _ refl (listed (Numbered g h) (forms_found rs) a.forms) tt
make_numbered g h (CallOfLocal v) rs a o = numbered_whole g h _ refl (record { numbers = refl }, listed (Numbered g h) (forms_found rs) a.forms) tt
make_numbered g h (CallOfPrimitive p) rs a o = numbered_whole g h _ refl (listed (Numbered g h) (forms_found rs) a.forms) tt
make_numbered g h (OfClauses ns) rs a o = numbered_whole g h _ refl (clauses_numbered g h ns (forms_found rs) a.forms) tt
make_numbered g h OfVariables rs a o =
    numbered_whole g h _ (and_from _ _ o refl) a.values (body_numbered g h (forms_found rs) a.forms, tt)
make_numbered g h (OfDynamics ns) rs a o =
    let r : AllOf (Numbered g h) (dynamic_value_list (make_dynamics ns (forms_found rs))) × AllOf (Numbered g h) (behind_dynamics ns (forms_found rs)) =
    dynamics_numbered g h ns (forms_found rs) a.forms in
    numbered_whole g h _ refl r.0 (body_numbered g h (behind_dynamics ns (forms_found rs)) r.1, tt)
make_numbered g h (OfFunction n rest parts) rs a o =
    numbered_whole g h _ (and_from _ _ o refl) tt (body_numbered g h (forms_found rs) a.forms, tt)
make_numbered g h (OfBlock x) rs a o = numbered_whole g h _ (and_from _ _ o refl) tt (body_numbered g h (forms_found rs) a.forms, tt)
make_numbered g h (OfSegments x ns) rs a o = numbered_whole g h _ (and_from _ _ o refl) tt (segments_numbered g h ns (forms_found rs) a.forms)
make_numbered g h (OfProcedure name n rest) rs a o = record { numbers = refl }
make_numbered g h (OfAccessor name k v l) rs a o = record { numbers = refl }
make_numbered g h other rs a o = o

pub site_numbered : (g h : Definitions) (site : Option ℕ) (f : Form) → Numbered g h f → Numbered g h (at_site site f)
site_numbered g h None f n = n
site_numbered g h (Some site) f n = numbered_whole g h (sited site f) refl (n, tt) tt

-- a number that is taken next is from there on
pub next_number : (low high n : ℕ) → low ≤ n → n < high → is_from low high n ≡ true
next_number low high n l k = and_from _ _ (le-leb low n l) (lt-ltb n high k)

pub all_numbered_wider : (g g2 h h2 : Definitions) (rs : List ElaboratedPart) → Later g2 g → Later h h2 → AllNumbered g h rs → AllNumbered g2 h2 rs
all_numbered_wider g g2 h h2 rs l k a = record {
  forms = all_map (Numbered g h) (Numbered g2 h2) (λ f n. numbered_wider g g2 h h2 f l k n) (forms_found rs) a.forms;
  values = all_map (Numbered g h) (Numbered g2 h2) (λ f n. numbered_wider g g2 h h2 f l k n) (value_list (bindings_found rs)) a.values;
  variables = all_wider g.variables g2.variables h.variables h2.variables (new_variables rs) l.variables k.variables a.variables;
}
