-- Methods that their generic function takes, and definitions to which generic functions and methods are added.
use Rattle.std.proofs.Common.{◌==◌, ◌≡◌, ℕ, nat_lt, Bool, true, false, not, ◌&&◌, ◌||◌, List, [], ◌∷◌, length, is_some, Option, Some, None, if◌then◌else◌, refl, sym, ap, subst, ◌∙◌}
use Rattle.std.specs.List.{list_all, list_any}
use Rattle.std.specs.Str.{bytes_eq}
use Rattle.std.proofs.lemmas.Bool.{and_parts, and_from, not-true, eqb-true, eq-eqb, ne_eqb, eqb-false}
use Rattle.std.proofs.lemmas.List.Folds.{list_any-append}
use Rattle.base.specs.declared.datum.Name.{Name}
use Rattle.base.specs.declared.datum.Symbol.{Symbol}
use Rattle.lang_meaning.specs.declared.program.GenericRow.{GenericRow}
use Rattle.lang_meaning.specs.declared.program.MethodRow.{MethodRow}
use Rattle.lang_meaning.specs.declared.program.ProgramRows.{ProgramRows}
use Rattle.lang_meaning.specs.declared.program.Qualifier.{Qualifier}
use Rattle.lang_meaning.specs.declared.program.Qualifier.TheVariants.{Primary, Around, Before, After}
use Rattle.lang_meaning.specs.Classes.{is_qualifier}
use Rattle.lang_meaning.specs.Standing.{is_alone}
use Rattle.lang_meaning.specs.Facts.{is_congruent, knows_next, method_fits, same_method}
use Rattle.front_profile.specs.declared.tables.Tables.{Tables}
use Rattle.front_profile.specs.declared.elaboration.MethodHead.{MethodHead}
use Rattle.front_profile.specs.Nodes.{method}
use Rattle.front_profile.specs.Elaborations.{with_method_at}
use Rattle.front_profile.specs.MethodShapes.{Asked, specialised_in, WrittenMethod, may_have_next}
use Rattle.front_profile.specs.GenericRows.{as_many, fits_by_number, is_there, fits, written_head}
use Rattle.front_profile.specs.Definitions.{Definitions, defined, Later, SoundDefinitions}
use Rattle.front_profile.proofs.Definitions.{method_from, later_same, later_then}
use Rattle.front_profile.proofs.Procedures.{Takes, IsProcedureOf}
use Rattle.front_profile.proofs.Adding.{none_of_less, method_of, method_then, plus_method, tables_with, later_method, TakesMethod, sound_method}
use Rattle.front_profile.proofs.MethodViews.{MethodView}

-- methods that are not alike, either way

qualifier_turned : (a b : Qualifier) → is_qualifier a b ≡ is_qualifier b a
qualifier_turned Primary Primary = refl
qualifier_turned Primary Around = refl
qualifier_turned Primary Before = refl
qualifier_turned Primary After = refl
qualifier_turned Around Primary = refl
qualifier_turned Around Around = refl
qualifier_turned Around Before = refl
qualifier_turned Around After = refl
qualifier_turned Before Primary = refl
qualifier_turned Before Around = refl
qualifier_turned Before Before = refl
qualifier_turned Before After = refl
qualifier_turned After Primary = refl
qualifier_turned After Around = refl
qualifier_turned After Before = refl
qualifier_turned After After = refl

number_turned : (m n : ℕ) → (m == n) ≡ (n == m)
number_turned m n = by_test (m == n) refl
  where
    by_test : (b : Bool) → (m == n) ≡ b → b ≡ (n == m)
    by_test true e = sym (eq-eqb n m (sym (eqb-true m n e)))
    by_test false e = sym (ne_eqb n m (λ k. eqb-false m n e (sym k)))

list_turned : (xs ys : List ℕ) → bytes_eq xs ys ≡ bytes_eq ys xs
list_turned [] [] = refl
list_turned [] (y ∷ ys) = refl
list_turned (x ∷ xs) [] = refl
list_turned (x ∷ xs) (y ∷ ys) = ap (λ b. b && bytes_eq xs ys) (number_turned x y) ∙ ap (λ b. (y == x) && b) (list_turned xs ys)

method_turned : (k m : MethodRow) → same_method k m ≡ same_method m k
method_turned k m =
    ap (λ b. b && bytes_eq k.classes m.classes) (qualifier_turned k.qualifier m.qualifier)
    ∙ ap (λ b. is_qualifier m.qualifier k.qualifier && b) (list_turned k.classes m.classes)

pub none_alike : (m : MethodRow) (ms : List MethodRow) → list_any (same_method m) ms ≡ false → list_any (λ k. same_method k m) ms ≡ false
none_alike m ms h = none_of_less (same_method m) (λ k. same_method k m) (λ k e. method_turned k m ∙ e) ms h

pub none_turned : (m : MethodRow) (ms : List MethodRow) → list_any (λ k. same_method k m) ms ≡ false → list_any (same_method m) ms ≡ false
none_turned m ms h = none_of_less (λ k. same_method k m) (same_method m) (λ k e. method_turned m k ∙ e) ms h

-- a generic function as it is judged, and as it is

pub record SameGeneric (x y : GenericRow) : Type 0 where
  pub required : y.required ≡ x.required
  pub rest : y.rest ≡ x.rest
  pub same : (k : MethodRow) → list_any (same_method k) y.methods ≡ list_any (same_method k) x.methods

pub alike_same : (x : GenericRow) → SameGeneric x x
alike_same x = record { required = refl; rest = refl; same = λ k. refl }

pub alike_more : (x y : GenericRow) (h : MethodHead) (p : ℕ) → SameGeneric x y → SameGeneric (plus_method x (method_of h 0)) (plus_method y (method_of h p))
alike_more x y h p a = record {
  required = a.required;
  rest = a.rest;
  same = λ k.
      list_any-append (same_method k) y.methods (method_of h p ∷ [])
      ∙ ap (λ b. b || list_any (same_method k) (method_of h p ∷ [])) (a.same k)
      ∙ sym (list_any-append (same_method k) x.methods (method_of h 0 ∷ []));
}

-- what the test of a method says

rest_fits : (x : GenericRow) (required : List Symbol) (rest : Option Symbol) (cs : List Asked)
    → as_many x (record { parameters = record { required = required; rest = rest }; classes = cs }) ≡ true → is_some rest ≡ x.rest
rest_fits x required None cs h = rest_not x.rest (and_parts (length cs == x.required) _ h).1
  where
    rest_not : (b : Bool) → not b ≡ true → false ≡ b
    rest_not false e = refl
    rest_not true e = absurd (cc e)
rest_fits x required (Some r) cs h = sym (and_parts (length cs == x.required) _ h).1

pub record FitsRow (x : GenericRow) (s : Tables) (n : Name) (m : WrittenMethod) (v : MethodView s n m) : Type 0 where
  pub count : length v.takes.classes ≡ x.required
  pub rest : is_some v.takes.parameters.rest ≡ x.rest
  pub other : list_any (same_method (method_of (record { qualifier = v.qualifier; classes = v.classes }) 0)) x.methods ≡ false

pub fits_row : (x : GenericRow) (s : Tables) (n : Name) (m : WrittenMethod) (v : MethodView s n m) → fits s (Some x) m ≡ true → FitsRow x s n m v
fits_row x s n m v h =
    let number : Bool = fits_by_number x (specialised_in s.words m.list) in
    let there : Bool = is_there x (written_head s m) in
    let e : ((is_some m.qualifier && number) ≡ true) × (not there ≡ true) = and_parts _ _ h in
    let f : (is_some m.qualifier ≡ true) × (number ≡ true) = and_parts _ _ e.0 in
    let many : as_many x v.takes ≡ true = ap (fits_by_number x) (sym v.specialised) ∙ f.1 in
    record {
      count = eqb-true (length v.takes.classes) x.required (and_parts (length v.takes.classes == x.required) _ many).0;
      rest = rest_fits x v.takes.parameters.required v.takes.parameters.rest v.takes.classes many;
      other = ap (is_there x) (sym v.head) ∙ not-true there e.1;
    }

next_known : (q : Qualifier) → may_have_next q ≡ knows_next q
next_known Primary = refl
next_known Around = refl
next_known Before = refl
next_known After = refl

congruent_rest : (a b : Bool) → a ≡ b → (if b then a else not a) ≡ true
congruent_rest true b e = subst (λ (c : Bool). (if c then true else not true) ≡ true) e refl
congruent_rest false b e = subst (λ (c : Bool). (if c then false else not false) ≡ true) e refl

-- the method with that procedure fits
pub method_fits_there : (r : ProgramRows) (s : Tables) (n : Name) (m : WrittenMethod) (x y : GenericRow) (p : ℕ) (v : MethodView s n m) → FitsRow x s n m v → SameGeneric x y
    → length r.classes ≡ length s.classes.rows → IsProcedureOf (method n (may_have_next v.qualifier) v.takes.parameters m.body) r.procedures p
    → method_fits r y (method_of (record { qualifier = v.qualifier; classes = v.classes }) p) ≡ true
method_fits_there r s n m x y p v f a c at =
    let t : Takes (length v.takes.parameters.required) (is_some v.takes.parameters.rest) (may_have_next v.qualifier) at.procedure = at.is in
    let required : length at.procedure.required ≡ y.required = t.count ∙ sym v.even ∙ f.count ∙ sym a.required in
    let more : is_some at.procedure.rest ≡ y.rest = t.more ∙ f.rest ∙ sym a.rest in
    method_from r y (method_of (record { qualifier = v.qualifier; classes = v.classes }) p) (record {
      count = eq-eqb (length v.classes) y.required (v.count ∙ f.count ∙ sym a.required);
      in_range = ap (λ k. list_all (λ c. nat_lt c k) v.classes) c ∙ v.in_range;
      congruent = ap (is_congruent y) at.at
          ∙ and_from _ _ (eq-eqb (length at.procedure.required) y.required required) (congruent_rest (is_some at.procedure.rest) y.rest more);
      alone = ap (is_alone (knows_next v.qualifier)) at.at ∙ ap (λ b. is_alone b (Some at.procedure)) (sym (next_known v.qualifier)) ∙ t.alone;
    })

-- what is added of generic functions and methods leaves all the rest
pub record Joined (g h : Definitions) : Type 0 where
  pub sound : SoundDefinitions h
  pub later : Later g h
  pub literals : h.literals ≡ g.literals
  pub procedures : h.procedures ≡ g.procedures
  pub main : h.main ≡ g.main
  pub sites : h.sites ≡ g.sites

pub joined_then : (g h k : Definitions) → Joined g h → Joined h k → Joined g k
joined_then g h k a b = record {
  sound = b.sound;
  later = later_then g h k a.later b.later;
  literals = b.literals ∙ a.literals;
  procedures = b.procedures ∙ a.procedures;
  main = b.main ∙ a.main;
  sites = b.sites ∙ a.sites;
}

pub joined_same : (g : Definitions) → SoundDefinitions g → Joined g g
joined_same g w = record { sound = w; later = later_same g; literals = refl; procedures = refl; main = refl; sites = refl }

-- the tables with a method are those definitions with it
pub method_defined : (t : Tables) (i : ℕ) (h : MethodHead) (p : ℕ) → method_then (defined t) i (method_of h p) ≡ defined (with_method_at i h p t)
method_defined t i h p = ap (λ gs. let g : Definitions = record (defined t) { generics = gs } in g) (sym (tables_with t t.generics i h p))

pub joined_method : (t : Tables) (i : ℕ) (h : MethodHead) (p : ℕ) → SoundDefinitions (defined t) → TakesMethod (defined t) i (method_of h p)
    → Joined (defined t) (defined (with_method_at i h p t))
joined_method t i h p w k =
    subst (λ (g : Definitions). Joined (defined t) g) (method_defined t i h p) (record {
      sound = sound_method (defined t) i (method_of h p) w k;
      later = later_method (defined t) i (method_of h p);
      literals = refl;
      procedures = refl;
      main = refl;
      sites = refl;
    })
