-- Methods all of which is known: their classes, their parts and their heads.
use Rattle.std.proofs.Common.{◌≡◌, ◌<◌, ℕ, suc, nat_lt, Bool, true, false, List, [], ◌∷◌, ◌++◌, length, is_some, Option, Some, None, if◌then◌else◌, refl, sym, ap, subst, ◌∙◌}
use Rattle.std.specs.List.{list_all}
use Rattle.std.proofs.lemmas.Bool.{and_from, lt-ltb}
use Rattle.base.specs.declared.place.Place.{Place}
use Rattle.base.specs.declared.datum.Name.{Name}
use Rattle.base.specs.declared.datum.Symbol.{Symbol}
use Rattle.base.specs.Data.{Item}
use Rattle.base.specs.AllOf.{AllOf}
use Rattle.lang_meaning.specs.declared.program.ClassRow.{ClassRow}
use Rattle.lang_meaning.specs.declared.program.Qualifier.{Qualifier}
use Rattle.lang_classes.specs.InheritedClasses.{class_named}
use Rattle.lang_derived.specs.Asked.{list_items}
use Rattle.front_profile.specs.declared.tables.Tables.{Tables}
use Rattle.front_profile.specs.declared.tables.ReservedWords.{ReservedWords}
use Rattle.front_profile.specs.declared.parameters.Parameters.{Parameters}
use Rattle.front_profile.specs.declared.elaboration.ElaboratedPart.{ElaboratedPart}
use Rattle.front_profile.specs.Nodes.{Part, form, below, inner, bind, parameter, wrong, function, method}
use Rattle.front_profile.specs.Shapes.{parameter_in, symbol_of, is_rest_word, behind_rest, rest_alone, all_symbols, all_differ, only_if}
use Rattle.front_profile.specs.MethodShapes.{Asked, any_object, of_class, Specialised, Taken, taken_by, without_classes, with_taken, specialised_of, where_they_differ, specialised_in, specialised_of_items, number_and, class_asked, classes_asked, unless_known, first_unknown, WrittenMethod, may_have_next}
use Rattle.front_profile.specs.GenericRows.{head_with, head_of, method_function, unless_unknown, specialised_parts, method_parts, written_head}
use Rattle.front_profile.proofs.Matches.{Spots, AllMatch}
use Rattle.front_profile.proofs.ValueRows.{class_there}

-- parts none of which is wrong

abbrev pub IsRight : Part → Type 0
IsRight (wrong p r) = ⊥
IsRight other = Unit {0}

abbrev pub AllRight : List Part → Type 0
AllRight xs = AllOf IsRight xs

-- what stands is right
pub all_right : (p : Spots) (xs : List Part) (rs : List ElaboratedPart) → AllMatch p xs rs → AllRight xs
all_right p [] rs m = tt
all_right p (x ∷ xs) [] m = absurd m
all_right p (form d ∷ xs) (r ∷ rs) m = (tt, all_right p xs rs m.1)
all_right p (below d ∷ xs) (r ∷ rs) m = (tt, all_right p xs rs m.1)
all_right p (inner d ∷ xs) (r ∷ rs) m = (tt, all_right p xs rs m.1)
all_right p (bind x d ∷ xs) (r ∷ rs) m = (tt, all_right p xs rs m.1)
all_right p (parameter x ∷ xs) (r ∷ rs) m = (tt, all_right p xs rs m.1)
all_right p (wrong q k ∷ xs) (r ∷ rs) m = absurd m.0
all_right p (function w ∷ xs) (r ∷ rs) m = (tt, all_right p xs rs m.1)

pub each_front : {X : Type 0} (P : X → Type 0) (xs ys : List X) → AllOf P (xs ++ ys) → AllOf P xs
each_front P [] ys e = tt
each_front P (x ∷ xs) ys e = (e.0, each_front P xs ys e.1)

pub each_behind : {X : Type 0} (P : X → Type 0) (xs ys : List X) → AllOf P (xs ++ ys) → AllOf P ys
each_behind P [] ys e = e
each_behind P (x ∷ xs) ys e = each_behind P xs ys e.1

-- one class for each required parameter

abbrev MaybeEven : Option Specialised → Type 0
MaybeEven None = Unit {0}
MaybeEven (Some m) = length m.classes ≡ length m.parameters.required

abbrev MaybeAlone : Option Parameters → Type 0
MaybeAlone None = Unit {0}
MaybeAlone (Some ps) = length ps.required ≡ 0

alone_rest : (x : Option Symbol) → MaybeAlone (rest_alone x)
alone_rest None = tt
alone_rest (Some x) = refl

behind_alone : (w : ReservedWords) (ds : List Item) → MaybeAlone (behind_rest w ds)
behind_alone w [] = tt
behind_alone w (d ∷ []) = alone_rest (parameter_in w (symbol_of d))
behind_alone w (d ∷ e ∷ ds) = tt

without_even : (ps : Option Parameters) → MaybeAlone ps → MaybeEven (without_classes ps)
without_even None h = tt
without_even (Some ps) h = sym h

taken_even : (t : Option Taken) (more : Option Specialised) → MaybeEven more → MaybeEven (with_taken t more)
taken_even None more h = tt
taken_even (Some t) None h = tt
taken_even (Some t) (Some more) h = ap suc h

chosen_even : (b : Bool) (x y : Option Specialised) → MaybeEven x → MaybeEven y → MaybeEven (if b then x else y)
chosen_even true x y h k = h
chosen_even false x y h k = k

list_even : (w : ReservedWords) (ds : List Item) → MaybeEven (specialised_of w ds)
list_even w [] = refl
list_even w (d ∷ ds) =
    chosen_even (is_rest_word w (symbol_of d)) (without_classes (behind_rest w ds)) (with_taken (taken_by w d (symbol_of d)) (specialised_of w ds))
    (without_even (behind_rest w ds) (behind_alone w ds)) (taken_even (taken_by w d (symbol_of d)) (specialised_of w ds) (list_even w ds))

only_even : (b : Bool) (m : Specialised) → length m.classes ≡ length m.parameters.required → MaybeEven (only_if b m)
only_even true m h = h
only_even false m h = tt

differ_even : (m : Option Specialised) → MaybeEven m → MaybeEven (where_they_differ m)
differ_even None h = tt
differ_even (Some m) h = only_even (all_differ (all_symbols m.parameters)) m h

items_even : (w : ReservedWords) (ds : Option (List Item)) → MaybeEven (specialised_of_items w ds)
items_even w None = tt
items_even w (Some ds) = differ_even (specialised_of w ds) (list_even w ds)

even_in : (w : ReservedWords) (d : Item) (m : Specialised) → specialised_in w d ≡ Some m → length m.classes ≡ length m.parameters.required
even_in w d m e = subst MaybeEven e (items_even w (list_items d))

-- classes that are known

record KnownClasses (rows : List ClassRow) (cs : List Asked) : Type 0 where
  classes : List ℕ
  asked : classes_asked rows cs ≡ Some classes
  count : length classes ≡ length cs
  in_range : list_all (λ c. nat_lt c (length rows)) classes ≡ true

one_known : (rows : List ClassRow) (a : Asked) (cs : List Asked) (c : ℕ) → class_asked rows a ≡ Some c → nat_lt c (length rows) ≡ true → KnownClasses rows cs
    → KnownClasses rows (a ∷ cs)
one_known rows a cs c e l k = record {
  classes = c ∷ k.classes;
  asked = ap (λ o. number_and o (classes_asked rows cs)) e ∙ ap (number_and (Some c)) k.asked;
  count = ap suc k.count;
  in_range = and_from _ _ l k.in_range;
}

known_or : {C : Type 0} (p : Place) (o : Option ℕ) (more : Option Place) → unless_known p o more ≡ None → ((c : ℕ) → o ≡ Some c → more ≡ None → C) → C
known_or p None more e f = absurd (cc e)
known_or p (Some c) more e f = f c refl e

known_classes : (rows : List ClassRow) (cs : List Asked) → 0 < length rows → first_unknown rows cs ≡ None → KnownClasses rows cs
known_classes rows [] l e = record { classes = []; asked = refl; count = refl; in_range = refl }
known_classes rows (any_object ∷ cs) l e = one_known rows any_object cs 0 refl (lt-ltb 0 (length rows) l) (known_classes rows cs l e)
known_classes rows (of_class n p ∷ cs) l e =
    known_or p (class_named rows n) (first_unknown rows cs) e (λ c k more.
    one_known rows (of_class n p) cs c k (class_there rows n c k) (known_classes rows cs l more))

-- a method all of which is known

pub record MethodView (s : Tables) (n : Name) (m : WrittenMethod) : Type 0 where
  pub qualifier : Qualifier
  pub takes : Specialised
  pub classes : List ℕ
  pub specialised : specialised_in s.words m.list ≡ Some takes
  pub head : written_head s m ≡ Some (record { qualifier = qualifier; classes = classes })
  pub parts : method_parts s n m ≡ function (method n (may_have_next qualifier) takes.parameters m.body) ∷ []
  pub count : length classes ≡ length takes.classes
  pub even : length takes.classes ≡ length takes.parameters.required
  pub in_range : list_all (λ c. nat_lt c (length s.classes.rows)) classes ≡ true

view_known : (s : Tables) (n : Name) (m : WrittenMethod) (q : Option Qualifier) (ps : Specialised) → m.qualifier ≡ q → is_some q ≡ true
    → specialised_in s.words m.list ≡ Some ps → first_unknown s.classes.rows ps.classes ≡ None → 0 < length s.classes.rows → MethodView s n m
view_known s n m None ps e f g h l = absurd (cc f)
view_known s n m (Some q) ps e f g h l =
    let k : KnownClasses s.classes.rows ps.classes = known_classes s.classes.rows ps.classes l h in
    record {
      qualifier = q;
      takes = ps;
      classes = k.classes;
      specialised = g;
      head = ap (λ o. head_of s o (specialised_in s.words m.list)) e ∙ ap (head_of s (Some q)) g ∙ ap (head_with q) k.asked;
      parts = ap (specialised_parts s n m) g
          ∙ ap (λ o. unless_unknown o (method_function n m.qualifier ps.parameters m.body)) h
          ∙ ap (λ o. method_function n o ps.parameters m.body) e;
      count = k.count;
      even = even_in s.words m.list ps g;
      in_range = k.in_range;
    }

view_unknown : (s : Tables) (n : Name) (m : WrittenMethod) (ps : Specialised) (u : Option Place) → specialised_in s.words m.list ≡ Some ps
    → first_unknown s.classes.rows ps.classes ≡ u → is_some m.qualifier ≡ true → 0 < length s.classes.rows
    → AllRight (unless_unknown u (method_function n m.qualifier ps.parameters m.body)) → MethodView s n m
view_unknown s n m ps (Some p) g e f l r = absurd r.0
view_unknown s n m ps None g e f l r = view_known s n m m.qualifier ps refl f g e l

view_shape : (s : Tables) (n : Name) (m : WrittenMethod) (o : Option Specialised) → specialised_in s.words m.list ≡ o → is_some m.qualifier ≡ true → 0 < length s.classes.rows
    → AllRight (specialised_parts s n m o) → MethodView s n m
view_shape s n m None g f l r = absurd r.0
view_shape s n m (Some ps) g f l r = view_unknown s n m ps (first_unknown s.classes.rows ps.classes) g refl f l r

pub method_view : (s : Tables) (n : Name) (m : WrittenMethod) → is_some m.qualifier ≡ true → 0 < length s.classes.rows → AllRight (method_parts s n m) → MethodView s n m
method_view s n m f l r = view_shape s n m (specialised_in s.words m.list) refl f l r
