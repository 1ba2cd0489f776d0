-- Definitions with a generic function more, and with a method more.
use Rattle.std.proofs.Common.{◌+◌, ◌==◌, ◌≡◌, ◌<◌, ⊎_elim, ◌⊎◌, inl, inr, ℕ, zero, suc, Bool, true, false, not, ◌||◌, List, [], ◌∷◌, ◌++◌, length, slice_get, Some, refl, sym, ap, subst, ◌∙◌, length-append, arith}
use Rattle.std.specs.List.{list_all, list_any}
use Rattle.std.proofs.lemmas.Bool.{and_parts, and_from, or_left, or_right, or_parts, not-true, eqb-true, eq-eqb, lt-ltb, cases_lt}
use Rattle.std.proofs.lemmas.Option.{slice_get_within}
use Rattle.base.specs.declared.datum.Name.{Name}
use Rattle.lang_meaning.specs.declared.program.Procedure.{Procedure}
use Rattle.lang_meaning.specs.declared.program.GenericRow.{GenericRow}
use Rattle.lang_meaning.specs.declared.program.MethodRow.{MethodRow}
use Rattle.lang_meaning.specs.declared.program.FunctionRow.{FunctionRow}
use Rattle.lang_meaning.specs.declared.program.Callee.TheVariants as callee
use Rattle.lang_meaning.specs.Lookup.{all_differ}
use Rattle.lang_meaning.specs.Standing.{is_alone}
use Rattle.lang_meaning.specs.Facts.{callee_fits, method_fits, same_method, generic_fits, is_of_method}
use Rattle.front_profile.specs.declared.tables.Tables.{Tables}
use Rattle.front_profile.specs.declared.elaboration.MethodHead.{MethodHead}
use Rattle.front_profile.specs.Elaborations.{with_method_at}
use Rattle.front_profile.specs.DefiningRows.{is_that}
use Rattle.front_profile.specs.Definitions.{Definitions, rows_of, Later, has_function, same_generic, SoundDefinitions, EachStands}
use Rattle.front_profile.proofs.Definitions.{literals_later, procedures_later, own_later, generics_later, functions_later, macros_later, mains_later, all_push}
use Rattle.front_profile.proofs.Places.{any_front, any_behind}
use Rattle.front_profile.proofs.DefiningRows.{named_more, one_name_more}

-- lists in which no two are alike

pub none_more : {X : Type 0} (p : X → Bool) (xs : List X) (y : X) → list_any p xs ≡ false → p y ≡ false → list_any p (xs ++ y ∷ []) ≡ false
none_more p [] y h k = rw k refl
none_more p (x ∷ xs) y h k = by_test (p x) (list_any p xs) (list_any p (xs ++ y ∷ [])) (λ e. none_more p xs y e k) h
  where
    by_test : (b o u : Bool) → (o ≡ false → u ≡ false) → (b || o) ≡ false → (b || u) ≡ false
    by_test true o u g h = absurd (cc h)
    by_test false o u g h = g h

pub none_of_less : {X : Type 0} (p q : X → Bool) → ((x : X) → p x ≡ false → q x ≡ false) → (xs : List X) → list_any p xs ≡ false → list_any q xs ≡ false
none_of_less p q f [] h = refl
none_of_less p q f (x ∷ xs) h =
    let o : (p x ≡ false) × (list_any p xs ≡ false) = or_parts (p x) (list_any p xs) h in rw (f x o.0) (none_of_less p q f xs o.1)

pub differ_push : {X : Type 0} (same : X → X → Bool) (xs : List X) (y : X) → all_differ same xs ≡ true → list_any (λ x. same x y) xs ≡ false
    → all_differ same (xs ++ y ∷ []) ≡ true
differ_push same [] y h k = refl
differ_push same (x ∷ xs) y h k =
    let d : (not (list_any (same x) xs) ≡ true) × (all_differ same xs ≡ true) = and_parts (not (list_any (same x) xs)) (all_differ same xs) h in
    let o : (same x y ≡ false) × (list_any (λ x. same x y) xs ≡ false) = or_parts (same x y) (list_any (λ x. same x y) xs) k in
    and_from (not (list_any (same x) (xs ++ y ∷ []))) _
    (ap not (none_more (same x) xs y (not-true (list_any (same x) xs) d.0) o.0)) (differ_push same xs y d.1 o.1)

-- a generic function more

-- one without methods
abbrev pub new_row : Name → ℕ → Bool → GenericRow
new_row n required rest = record { name = n; required = required; rest = rest; methods = [] }

abbrev pub generic_then : Definitions → Name → ℕ → Bool → Definitions
generic_then g n required rest = record g {
  generics = g.generics ++ new_row n required rest ∷ [];
  functions = g.functions ++ (record { name = n; callee = callee.Generic (length g.generics) }) ∷ [];
}

pub later_generic : (g : Definitions) (n : Name) (required : ℕ) (rest : Bool) → Later g (generic_then g n required rest)
later_generic g n required rest = record {
  literals = omega arith;
  procedures = omega arith;
  kept = λ i q e. e;
  classes = omega arith;
  generics = omega (arith, length-append g.generics (new_row n required rest ∷ []));
  sites = omega arith;
  variables = omega arith;
  exits = omega arith;
}

-- a name that no function has is that of no generic function
other_name : (n : Name) (fs : List FunctionRow) → list_any (λ f. is_that n f.name) fs ≡ false → (x : GenericRow) → has_function fs x ≡ true → (x.name.0 == n.0) ≡ false
other_name n fs h x k = by_test (x.name.0 == n.0) refl
  where
    by_test : (b : Bool) → (x.name.0 == n.0) ≡ b → (x.name.0 == n.0) ≡ false
    by_test false e = e
    by_test true e =
        let same : x.name.0 ≡ n.0 = eqb-true x.name.0 n.0 e in
        let there : list_any (λ f. is_that n f.name) fs ≡ true = ap (λ m. list_any (λ (f : FunctionRow). m == f.name.0) fs) (sym same) ∙ k in
        absurd (cc (h, there))

pub no_generic : (n : Name) (fs : List FunctionRow) (gs : List GenericRow) → list_any (λ f. is_that n f.name) fs ≡ false → list_all (has_function fs) gs ≡ true
    → list_any (λ x. x.name.0 == n.0) gs ≡ false
no_generic n fs [] h k = refl
no_generic n fs (x ∷ gs) h k =
    let e : (has_function fs x ≡ true) × (list_all (has_function fs) gs ≡ true) = and_parts _ _ k in
    rw (other_name n fs h x e.0) (no_generic n fs gs h e.1)

pub sound_generic : (g : Definitions) (n : Name) (required : ℕ) (rest : Bool) → SoundDefinitions g → list_any (λ f. is_that n f.name) g.functions ≡ false
    → SoundDefinitions (generic_then g n required rest)
sound_generic g n required rest w k =
    let row : GenericRow = new_row n required rest in
    let f : FunctionRow = record { name = n; callee = callee.Generic (length g.generics) } in
    let h : Definitions = generic_then g n required rest in
    let l : Later g h = later_generic g n required rest in
    record {
      literals = literals_later g h l g.literals w.literals;
      procedures = procedures_later g h l g.procedures w.procedures;
      classes = record { hierarchy = w.classes.hierarchy; slots = own_later g h l g.classes.own w.classes.slots };
      generics = record {
        fit = all_push (generic_fits (rows_of h)) g.generics row (generics_later g h l g.generics w.generics.fit) refl;
        names = differ_push same_generic g.generics row w.generics.names (no_generic n g.functions g.generics k w.generics.named);
        named = all_push (has_function h.functions) g.generics row (named_more g.functions f g.generics w.generics.named)
            (any_behind (λ (x : FunctionRow). n.0 == x.name.0) g.functions (f ∷ []) (or_left (n.0 == n.0) false (eq-eqb n.0 n.0 refl)));
      };
      functions = all_push (λ f. callee_fits (rows_of h) f.callee) g.functions f (functions_later g h l g.functions w.functions)
          (lt-ltb (length g.generics) (length h.generics) (omega (arith, length-append g.generics (row ∷ []))));
      names = one_name_more n (callee.Generic (length g.generics)) g.functions w.names k;
      macros = macros_later g h l g.macros w.macros;
      main = mains_later g h l g.main w.main;
    }

-- a method more

abbrev pub plus_method : GenericRow → MethodRow → GenericRow
plus_method x m = record x { methods = x.methods ++ m ∷ [] }

-- the rows with the method at the end of those of that generic function
abbrev pub with_method : List GenericRow → ℕ → MethodRow → List GenericRow
with_method [] i m = []
with_method (x ∷ gs) zero m = plus_method x m ∷ gs
with_method (x ∷ gs) (suc i) m = x ∷ with_method gs i m

abbrev pub method_of : MethodHead → ℕ → MethodRow
method_of h p = record { qualifier = h.qualifier; classes = h.classes; procedure = p }

-- that is what the tables have then
pub tables_with : (t : Tables) (gs : List GenericRow) (i : ℕ) (h : MethodHead) (p : ℕ) → (with_method_at i h p (record t { generics = gs })).generics ≡ with_method gs i (method_of h p)
tables_with t [] i h p = refl
tables_with t (x ∷ gs) zero h p = refl
tables_with t (x ∷ gs) (suc i) h p = ap (λ xs. x ∷ xs) (tables_with t gs i h p)

pub all_with : (p : GenericRow → Bool) (gs : List GenericRow) (i : ℕ) (m : MethodRow) → list_all p gs ≡ true
    → ((x : GenericRow) → slice_get gs i ≡ Some x → p x ≡ true → p (plus_method x m) ≡ true) → list_all p (with_method gs i m) ≡ true
all_with p [] i m h f = refl
all_with p (x ∷ gs) zero m h f = let e : (p x ≡ true) × (list_all p gs ≡ true) = and_parts _ _ h in and_from _ _ (f x refl e.0) e.1
all_with p (x ∷ gs) (suc i) m h f = let e : (p x ≡ true) × (list_all p gs ≡ true) = and_parts _ _ h in and_from _ _ e.0 (all_with p gs i m e.1 f)

-- what does not look at methods
pub any_with : (p : GenericRow → Bool) (gs : List GenericRow) (i : ℕ) (m : MethodRow) → ((x : GenericRow) → p (plus_method x m) ≡ p x)
    → list_any p (with_method gs i m) ≡ list_any p gs
any_with p [] i m f = refl
any_with p (x ∷ gs) zero m f = ap (λ b. b || list_any p gs) (f x)
any_with p (x ∷ gs) (suc i) m f = ap (λ b. p x || b) (any_with p gs i m f)

names_with : (gs : List GenericRow) (i : ℕ) (m : MethodRow) → all_differ same_generic gs ≡ true → all_differ same_generic (with_method gs i m) ≡ true
names_with [] i m h = refl
names_with (x ∷ gs) zero m h = h
names_with (x ∷ gs) (suc i) m h =
    let d : (not (list_any (same_generic x) gs) ≡ true) × (all_differ same_generic gs ≡ true) = and_parts (not (list_any (same_generic x) gs)) (all_differ same_generic gs) h in
    and_from _ _ (ap not (any_with (same_generic x) gs i m (λ y. refl)) ∙ d.0) (names_with gs i m d.1)

pub length_with : (gs : List GenericRow) (i : ℕ) (m : MethodRow) → length (with_method gs i m) ≡ length gs
length_with [] i m = refl
length_with (x ∷ gs) zero m = refl
length_with (x ∷ gs) (suc i) m = ap suc (length_with gs i m)

pub get_with : (gs : List GenericRow) (i : ℕ) (m : MethodRow) (x : GenericRow) → slice_get gs i ≡ Some x → slice_get (with_method gs i m) i ≡ Some (plus_method x m)
get_with [] i m x e = absurd (cc e)
get_with (y ∷ gs) zero m x e = let same : y ≡ x = cc e in ap (λ z. Some (plus_method z m)) same
get_with (y ∷ gs) (suc i) m x e = get_with gs i m x e

abbrev pub method_then : Definitions → ℕ → MethodRow → Definitions
method_then g i m = record g { generics = with_method g.generics i m }

pub later_method : (g : Definitions) (i : ℕ) (m : MethodRow) → Later g (method_then g i m)
later_method g i m = record {
  literals = omega arith;
  procedures = omega arith;
  kept = λ i q e. e;
  classes = omega arith;
  generics = omega (arith, length_with g.generics i m);
  sites = omega arith;
  variables = omega arith;
  exits = omega arith;
}

-- the generic function of that number takes the method
pub record TakesMethod (g : Definitions) (i : ℕ) (m : MethodRow) : Type 0 where
  pub takes : (x : GenericRow) → slice_get g.generics i ≡ Some x → (method_fits (rows_of g) x m ≡ true) × (list_any (λ k. same_method k m) x.methods ≡ false)

pub sound_method : (g : Definitions) (i : ℕ) (m : MethodRow) → SoundDefinitions g → TakesMethod g i m → SoundDefinitions (method_then g i m)
sound_method g i m w t =
    let h : Definitions = method_then g i m in
    let l : Later g h = later_method g i m in
    record {
      literals = literals_later g h l g.literals w.literals;
      procedures = procedures_later g h l g.procedures w.procedures;
      classes = record { hierarchy = w.classes.hierarchy; slots = own_later g h l g.classes.own w.classes.slots };
      generics = record {
        fit = all_with (generic_fits (rows_of g)) g.generics i m w.generics.fit (λ x e f.
            let k : (list_all (method_fits (rows_of g) x) x.methods ≡ true) × (all_differ same_method x.methods ≡ true) = and_parts _ _ f in
            let n : (method_fits (rows_of g) x m ≡ true) × (list_any (λ k. same_method k m) x.methods ≡ false) = t.takes x e in
            and_from _ _ (all_push (method_fits (rows_of g) x) x.methods m k.0 n.0) (differ_push same_method x.methods m k.1 n.1));
        names = names_with g.generics i m w.generics.names;
        named = all_with (has_function g.functions) g.generics i m w.generics.named (λ x e f. f);
      };
      functions = functions_later g h l g.functions w.functions;
      names = w.names;
      macros = macros_later g h l g.macros w.macros;
      main = mains_later g h l g.main w.main;
    }

-- procedures of methods

abbrev has_procedure : ℕ → GenericRow → Bool
has_procedure i x = list_any (λ m. i == m.procedure) x.methods

still_of : (j : ℕ) (gs : List GenericRow) (i : ℕ) (m : MethodRow) → list_any (has_procedure j) gs ≡ true → list_any (has_procedure j) (with_method gs i m) ≡ true
still_of j [] i m h = h
still_of j (x ∷ gs) zero m h = by_test (has_procedure j x) refl h
  where
    by_test : (b : Bool) → has_procedure j x ≡ b → (b || list_any (has_procedure j) gs) ≡ true → (has_procedure j (plus_method x m) || list_any (has_procedure j) gs) ≡ true
    by_test true e h = or_left _ _ (any_front (λ (k : MethodRow). j == k.procedure) x.methods (m ∷ []) e)
    by_test false e h = or_right (has_procedure j (plus_method x m)) _ h
still_of j (x ∷ gs) (suc i) m h = by_test (has_procedure j x) (still_of j gs i m) h
  where
    by_test : (b : Bool) → (list_any (has_procedure j) gs ≡ true → list_any (has_procedure j) (with_method gs i m) ≡ true) → (b || list_any (has_procedure j) gs) ≡ true
        → (b || list_any (has_procedure j) (with_method gs i m)) ≡ true
    by_test true f h = refl
    by_test false f h = f h

pub of_new_method : (gs : List GenericRow) (i : ℕ) (m : MethodRow) → i < length gs → list_any (has_procedure m.procedure) (with_method gs i m) ≡ true
of_new_method [] i m l = absurd (omega (arith, l))
of_new_method (x ∷ gs) zero m l =
    or_left _ _ (any_behind (λ (k : MethodRow). m.procedure == k.procedure) x.methods (m ∷ []) (or_left (m.procedure == m.procedure) false (eq-eqb m.procedure m.procedure refl)))
of_new_method (x ∷ gs) (suc i) m l = or_right (has_procedure m.procedure x) _ (of_new_method gs i m (omega (arith, l)))

-- procedures below that number stand
pub record StandsBelow (n : ℕ) (g : Definitions) : Type 0 where
  pub stands : (i : ℕ) (p : Procedure) → i < n → slice_get g.procedures i ≡ Some p → (is_of_method (rows_of g) i || is_alone false (Some p)) ≡ true

either_more : (a b c : Bool) → (a ≡ true → b ≡ true) → (a || c) ≡ true → (b || c) ≡ true
either_more true b c f h = or_left b c (f refl)
either_more false b c f h = or_right b c h

pub stands_generic : (n : ℕ) (g : Definitions) (name : Name) (required : ℕ) (rest : Bool) → StandsBelow n g → StandsBelow n (generic_then g name required rest)
stands_generic n g name required rest s = record {
  stands = λ i p l e.
      either_more (is_of_method (rows_of g) i) _ (is_alone false (Some p)) (λ h. any_front (has_procedure i) g.generics (new_row name required rest ∷ []) h) (s.stands i p l e);
}

pub stands_method : (n : ℕ) (g : Definitions) (i : ℕ) (m : MethodRow) → StandsBelow n g → StandsBelow n (method_then g i m)
stands_method n g k m s = record {
  stands = λ i p l e. either_more (is_of_method (rows_of g) i) _ (is_alone false (Some p)) (λ h. still_of i g.generics k m h) (s.stands i p l e);
}

-- and the next one, where it is that of the method
pub stands_next : (n : ℕ) (g : Definitions) (i : ℕ) (m : MethodRow) → i < length g.generics → m.procedure ≡ n → StandsBelow n g → StandsBelow (n + 1) (method_then g i m)
stands_next n g k m l same s = record {
  stands = λ i p b e. ⊎_elim (λ front. (stands_method n g k m s).stands i p front e) (λ last. or_left _ _ (of_last i last)) (below_or i n b);
}
  where
    below_or : (i n : ℕ) → i < n + 1 → (i < n) ⊎ (i ≡ n)
    below_or i n b = ⊎_elim inl (λ k. inr (omega (arith, k, b))) (cases_lt i n)

    of_last : (i : ℕ) → i ≡ n → is_of_method (rows_of (method_then g k m)) i ≡ true
    of_last i e = subst (λ (j : ℕ). list_any (has_procedure j) (with_method g.generics k m) ≡ true) (same ∙ sym e) (of_new_method g.generics k m l)

-- all stand where there are no more
pub all_stand_below : (n : ℕ) (g : Definitions) → length g.procedures ≡ n → StandsBelow n g → EachStands g
all_stand_below n g e s = record { stands = λ i p k. s.stands i p (let l : i < length g.procedures = slice_get_within g.procedures i p k in omega (arith, l, e)) k }
