-- Rows stay whole when a generic function is added, or a method that it takes.
use Rattle.std.proofs.Common.{◌≡◌, ℕ, zero, suc, ◌==◌, Bool, true, false, not, ◌&&◌, List, [], ◌∷◌, ◌++◌, length, Some, Result, Ok, Err, OnOk, OnErr, slice_get, slice_set, refl, ap, ◌∙◌, arith, ◌||◌}
use Rattle.std.specs.List.{list_any, list_all}
use Rattle.std.specs.Str.{bytes_eq}
use Rattle.std.proofs.lemmas.Bool.Decides.{nat_tests}
use Rattle.base.specs.declared.datum.Name.{Name}
use Rattle.lang_meaning.specs.declared.program.GenericRow.{GenericRow}
use Rattle.lang_meaning.specs.declared.program.MethodRow.{MethodRow}
use Rattle.lang_meaning.specs.declared.program.Qualifier.{Qualifier}
use Rattle.lang_meaning.specs.declared.program.Qualifier.TheVariants.{Primary, Around, Before, After}
use Rattle.lang_meaning.specs.Classes.{is_qualifier}
use Rattle.lang_meaning.specs.Lookup.{all_differ}
use Rattle.lang_dispatch.specs.Methods.{new_row, is_same, same_truth, takes, takes_at, with_method, row_is_whole}

-- a row put in another's place and back
pub with_method-set : (rows : List GenericRow) (i : ℕ) (g held : GenericRow) (m : MethodRow) → slice_get rows i ≡ Some g
    → slice_set (slice_set rows i held) i (record g { methods = g.methods ++ m ∷ [] }) ≡ with_method rows i m
with_method-set [] i g held m h = absurd (cc)
with_method-set (r ∷ rows) zero g held m h = let same : r ≡ g = cc in rw same refl
with_method-set (r ∷ rows) (suc i) g held m h = ap (λ rs. r ∷ rs) (with_method-set rows i g held m h)

pub set_back : (rows : List GenericRow) (i : ℕ) (g held : GenericRow) → slice_get rows i ≡ Some g → slice_set (slice_set rows i held) i g ≡ rows
set_back [] i g held h = absurd (cc)
set_back (r ∷ rows) zero g held h = let same : r ≡ g = cc in rw same refl
set_back (r ∷ rows) (suc i) g held h = ap (λ rs. r ∷ rs) (set_back rows i g held h)

pub both : (a b : Bool) → (a && b) ≡ true → (a ≡ true) × (b ≡ true)
both true b h = (refl, h)
both false b h = absurd (cc)

list_all-more : {X : Type 0} (p : X → Bool) (xs : List X) (x : X) → list_all p xs ≡ true → p x ≡ true → list_all p (xs ++ x ∷ []) ≡ true
list_all-more p [] x h k = rw k refl
list_all-more p (y ∷ ys) x h k =
    let parts : (p y ≡ true) × (list_all p ys ≡ true) = both (p y) (list_all p ys) h in
    let rest : list_all p (ys ++ x ∷ []) ≡ true = list_all-more p ys x parts.1 k in
    rw (parts.0, rest) refl

-- being the same goes both ways
qualifier-sym : (a b : Qualifier) → is_qualifier a b ≡ is_qualifier b a
qualifier-sym Primary Primary = refl
qualifier-sym Primary Around = refl
qualifier-sym Primary Before = refl
qualifier-sym Primary After = refl
qualifier-sym Around Primary = refl
qualifier-sym Around Around = refl
qualifier-sym Around Before = refl
qualifier-sym Around After = refl
qualifier-sym Before Primary = refl
qualifier-sym Before Around = refl
qualifier-sym Before Before = refl
qualifier-sym Before After = refl
qualifier-sym After Primary = refl
qualifier-sym After Around = refl
qualifier-sym After Before = refl
qualifier-sym After After = refl

equal-sym : (x y : ℕ) → (x == y) ≡ (y == x)
equal-sym x y = grind (arith, nat_tests)

text-sym : (a b : List ℕ) → bytes_eq a b ≡ bytes_eq b a
text-sym [] [] = refl
text-sym [] (y ∷ ys) = refl
text-sym (x ∷ xs) [] = refl
text-sym (x ∷ xs) (y ∷ ys) = let e : (x == y) ≡ (y == x) = equal-sym x y in let r : bytes_eq xs ys ≡ bytes_eq ys xs = text-sym xs ys in rw (e, r) refl

same-sym : (m n : MethodRow) → is_same m n ≡ is_same n m
same-sym m n = rw (qualifier-sym m.qualifier n.qualifier, text-sym m.classes n.classes) refl

pub neither : (a b : Bool) → (a || b) ≡ false → (a ≡ false) × (b ≡ false)
neither true b h = absurd (cc)
neither false b h = (refl, h)

list_any-more : {X : Type 0} (p : X → Bool) (xs : List X) (x : X) → list_any p xs ≡ false → p x ≡ false → list_any p (xs ++ x ∷ []) ≡ false
list_any-more p [] x h k = rw k refl
list_any-more p (y ∷ ys) x h k =
    let parts : (p y ≡ false) × (list_any p ys ≡ false) = neither (p y) (list_any p ys) h in
    let rest : list_any p (ys ++ x ∷ []) ≡ false = list_any-more p ys x parts.1 k in
    rw (parts.0, rest) refl

pub is_false : (a : Bool) → not a ≡ true → a ≡ false
is_false true h = absurd (cc)
is_false false h = refl

differ-more : (ms : List MethodRow) (m : MethodRow) → all_differ is_same ms ≡ true → list_any (is_same m) ms ≡ false → all_differ is_same (ms ++ m ∷ []) ≡ true
differ-more [] m h k = refl
differ-more (n ∷ ns) m h k =
    let parts : (not (list_any (is_same n) ns) ≡ true) × (all_differ is_same ns ≡ true) = both (not (list_any (is_same n) ns)) (all_differ is_same ns) h in
    let no : (is_same m n ≡ false) × (list_any (is_same m) ns ≡ false) = neither (is_same m n) (list_any (is_same m) ns) k in
    let here : list_any (is_same n) (ns ++ m ∷ []) ≡ false =
    list_any-more (is_same n) ns m (is_false (list_any (is_same n) ns) parts.0) (same-sym n m ∙ no.0) in
    let rest : all_differ is_same (ns ++ m ∷ []) ≡ true = differ-more ns m parts.1 no.1 in
    rw (here, rest) refl

row-more : (g : GenericRow) (rest : Bool) (m : MethodRow) → row_is_whole g ≡ true → takes g rest m ≡ true
    → row_is_whole (record g { methods = g.methods ++ m ∷ [] }) ≡ true
row-more g rest m h k =
    let whole : (list_all (λ n. length n.classes == g.required) g.methods ≡ true) × (all_differ is_same g.methods ≡ true) =
    both (list_all (λ n. length n.classes == g.required) g.methods) (all_differ is_same g.methods) h in
    let fits = both ((length m.classes == g.required) && same_truth rest g.rest) (not (list_any (is_same m) g.methods)) k in
    let number = both (length m.classes == g.required) (same_truth rest g.rest) fits.0 in
    let lengths : list_all (λ n. length n.classes == g.required) (g.methods ++ m ∷ []) ≡ true =
    list_all-more (λ n. length n.classes == g.required) g.methods m whole.0 number.0 in
    let differ : all_differ is_same (g.methods ++ m ∷ []) ≡ true =
    differ-more g.methods m whole.1 (is_false (list_any (is_same m) g.methods) fits.1) in
    rw (lengths, differ) refl

-- with a method that is taken
pub whole-with_method : (rows : List GenericRow) (i : ℕ) (rest : Bool) (m : MethodRow) → list_all row_is_whole rows ≡ true
    → takes_at rows i rest m ≡ true → list_all row_is_whole (with_method rows i m) ≡ true
whole-with_method [] i rest m h k = refl
whole-with_method (g ∷ gs) zero rest m h k =
    let parts : (row_is_whole g ≡ true) × (list_all row_is_whole gs ≡ true) = both (row_is_whole g) (list_all row_is_whole gs) h in
    let here : row_is_whole (record g { methods = g.methods ++ m ∷ [] }) ≡ true = row-more g rest m parts.0 k in
    let others : list_all row_is_whole gs ≡ true = parts.1 in
    rw (here, others) refl
whole-with_method (g ∷ gs) (suc i) rest m h k =
    let parts : (row_is_whole g ≡ true) × (list_all row_is_whole gs ≡ true) = both (row_is_whole g) (list_all row_is_whole gs) h in
    let here : row_is_whole g ≡ true = parts.0 in
    let others : list_all row_is_whole (with_method gs i m) ≡ true = whole-with_method gs i rest m parts.1 k in
    rw (here, others) refl

-- with a new generic function
pub whole-new_row : (rows : List GenericRow) (name : Name) (required : ℕ) (rest : Bool) → list_all row_is_whole rows ≡ true
    → list_all row_is_whole (rows ++ new_row name required rest ∷ []) ≡ true
whole-new_row rows name required rest h = list_all-more row_is_whole rows (new_row name required rest) h refl

-- a row that was taken out is put back, with the method or as it was
pub method_put : (rows held_rows new : List GenericRow) (i : ℕ) (g held : GenericRow) (methods : List MethodRow) (m : MethodRow)
    → slice_get rows i ≡ Some g → held_rows ≡ slice_set rows i held → methods ≡ g.methods ++ m ∷ []
    → new ≡ slice_set held_rows i (record g { methods = methods }) → new ≡ with_method rows i m
method_put rows held_rows new i g held methods m a b d e = e ∙ rw (b, d) (with_method-set rows i g held m a)

pub row_put : (rows held_rows new : List GenericRow) (i : ℕ) (g held : GenericRow) (methods : List MethodRow)
    → slice_get rows i ≡ Some g → held_rows ≡ slice_set rows i held → methods ≡ g.methods
    → new ≡ slice_set held_rows i (record g { methods = methods }) → new ≡ rows
row_put rows held_rows new i g held methods a b d e = e ∙ rw (b, d) (set_back rows i g held a)

pub after_ok : {T E A B : Type 0} (r : Result T E) → OnOk r A → (A → B) → OnOk r B
after_ok (Ok x) a f = f a
after_ok (Err e) a f = a

pub after_err : {T E A B : Type 0} (r : Result T E) → OnErr r A → (A → B) → OnErr r B
after_err (Ok x) a f = a
after_err (Err e) a f = f a

pub either_way : {T E A B C : Type 0} (r : Result T E) → OnOk r A → OnErr r B → (A → C) → (B → C) → C
either_way (Ok x) a b f g = f a
either_way (Err e) a b f g = g b
