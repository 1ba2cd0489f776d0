-- Classes of the same groups have the same methods, in the same order.
use Rattle.std.specs.Prelude.{◌≡◌, ℕ, zero, suc, ◌+◌, ◌==◌, Bool, true, false, cond, nat_lt, List, [], ◌∷◌, map, filter, drop, slice_index_or, slice_get, Option, Some, None, if◌then◌else◌, refl, ◌||◌, not}
use Rattle.std.specs.List.{range_with_len, position_or_len}
use Rattle.std.proofs.Common.{◌∙◌, sym, ap, arith}
use Rattle.std.proofs.lemmas.Bool.Decides.{nat_tests}
use Rattle.std.proofs.lemmas.Option.{get_or_from_slice_get}
use Rattle.base.specs.model.DataRest.{rest_at}
use Rattle.lang_meaning.specs.declared.program.Qualifier.TheVariants.{Primary}
use Rattle.lang_meaning.specs.declared.program.ProgramRows.{ProgramRows}
use Rattle.lang_meaning.specs.declared.program.GenericRow.{GenericRow}
use Rattle.lang_meaning.specs.declared.program.MethodRow.{MethodRow}
use Rattle.lang_meaning.specs.Lookup.{is_in}
use Rattle.lang_meaning.specs.Classes.{precedence, is_below, applies, more_specific, among, ordered, applicable, chain, chain_of, of_kind}
use Rattle.lang_meaning.specs.Cells.{argument_classes}
use Rattle.lang_dispatch.specs.Alike.{AreAlike, columns}

-- each class is one of those of its argument
abbrev pub AreAmong : List (List ℕ) → List ℕ → Type 0
AreAmong columns [] = Unit
AreAmong [] (m ∷ ms) = Unit
AreAmong (column ∷ columns) (m ∷ ms) = (is_in m column ≡ true) × AreAmong columns ms

-- a class that is one of the argument's is above a class where it is in its group
is_in-step : (q : ℕ → Bool) (n x : ℕ) (rest kept : List ℕ) → q n ≡ true → is_in n rest ≡ is_in n kept
    → is_in n (x ∷ rest) ≡ is_in n (cond (q x) (x ∷ kept) kept)
is_in-step q n x rest kept h same = by (n == x) refl (q x) refl
  where
    by : (b : Bool) → (n == x) ≡ b → (a : Bool) → q x ≡ a
        → (b || is_in n rest) ≡ is_in n (cond a (x ∷ kept) kept)
    by true e true k = rw e refl
    by true e false k = let eq : n ≡ x = grind (arith) in let no : q n ≡ false = ap q eq ∙ k in absurd (cc)
    by false e true k = rw e same
    by false e false k = same

is_in-filter : (q : ℕ → Bool) (n : ℕ) (xs : List ℕ) → q n ≡ true → is_in n xs ≡ is_in n (filter q xs)
is_in-filter q n [] h = refl
is_in-filter q n (x ∷ xs) h = is_in-step q n x xs (filter q xs) h (is_in-filter q n xs h)

-- which of two classes stands earlier
abbrev pub is_earlier : ℕ → ℕ → List ℕ → Bool
is_earlier m n xs = nat_lt (position_or_len (λ d. d == m) xs) (position_or_len (λ d. d == n) xs)

lt-more : (a b : ℕ) → nat_lt (1 + a) (1 + b) ≡ nat_lt a b
lt-more a b = grind (arith, nat_tests)

lt-first : (a b : ℕ) → nat_lt 0 (1 + a) ≡ nat_lt 0 (1 + b)
lt-first a b = grind (arith, nat_tests)

lt-last : (a b : ℕ) → nat_lt (1 + a) 0 ≡ nat_lt (1 + b) 0
lt-last a b = grind (arith, nat_tests)

kept-there : (q : ℕ → Bool) (x m : ℕ) → (x == m) ≡ true → q m ≡ true → q x ≡ false → ⊥
kept-there q x m e h g =
    let eq : x ≡ m = grind (arith) in
    let yes : q x ≡ true = ap q eq ∙ h in
    cc

-- among those of the argument, in the group as in the precedence list
earlier-step : (q : ℕ → Bool) (m n x : ℕ) (rest kept : List ℕ) → q m ≡ true → q n ≡ true → is_earlier m n rest ≡ is_earlier m n kept
    → is_earlier m n (x ∷ rest) ≡ is_earlier m n (cond (q x) (x ∷ kept) kept)
earlier-step q m n x rest kept h k same = by (x == m) refl (x == n) refl (q x) refl
  where
    by : (b : Bool) → (x == m) ≡ b → (c : Bool) → (x == n) ≡ c → (a : Bool) → q x ≡ a
        → nat_lt (if not b then 1 + position_or_len (λ d. d == m) rest else 0) (if not c then 1 + position_or_len (λ d. d == n) rest else 0)
        ≡ is_earlier m n (cond a (x ∷ kept) kept)
    by true e c f false g = absurd (kept-there q x m e h g)
    by false e true f false g = absurd (kept-there q x n f k g)
    by false e false f false g = lt-more (position_or_len (λ d. d == m) rest) (position_or_len (λ d. d == n) rest) ∙ same
    by true e true f true g = rw (e, f) refl
    by true e false f true g = rw (e, f) (lt-first (position_or_len (λ d. d == n) rest) (position_or_len (λ d. d == n) kept))
    by false e true f true g = rw (e, f) (lt-last (position_or_len (λ d. d == m) rest) (position_or_len (λ d. d == m) kept))
    by false e false f true g =
        rw (e, f)
        (lt-more (position_or_len (λ d. d == m) rest) (position_or_len (λ d. d == n) rest) ∙ same
        ∙ sym (lt-more (position_or_len (λ d. d == m) kept) (position_or_len (λ d. d == n) kept)))

earlier-filter : (q : ℕ → Bool) (m n : ℕ) (xs : List ℕ) → q m ≡ true → q n ≡ true → is_earlier m n xs ≡ is_earlier m n (filter q xs)
earlier-filter q m n [] h k = refl
earlier-filter q m n (x ∷ xs) h k = earlier-step q m n x xs (filter q xs) h k (earlier-filter q m n xs h k)

-- the same methods apply
pub applies_alike : (program : ProgramRows) (columns : List (List ℕ)) (cs ds ms : List ℕ) → AreAlike program columns cs ds → AreAmong columns ms
    → applies program cs ms ≡ applies program ds ms
applies_alike program columns [] [] ms x y = refl
applies_alike program columns [] (d ∷ ds) ms x y = absurd x
applies_alike program columns (c ∷ cs) [] ms x y = absurd x
applies_alike program [] (c ∷ cs) (d ∷ ds) ms x y = absurd x
applies_alike program (column ∷ columns) (c ∷ cs) (d ∷ ds) [] x y = refl
applies_alike program (column ∷ columns) (c ∷ cs) (d ∷ ds) (m ∷ ms) x y =
    let below : is_below program c m ≡ is_below program d m =
    is_in-filter (λ d. is_in d column) m (precedence program c) y.0 ∙ ap (is_in m) x.0
    ∙ sym (is_in-filter (λ d. is_in d column) m (precedence program d) y.0) in
    let rest : applies program cs ms ≡ applies program ds ms = applies_alike program columns cs ds ms x.1 y.1 in
    rw (below, rest) refl

-- and the more specific ones are the same
pub specific_alike : (program : ProgramRows) (columns : List (List ℕ)) (cs ds ms ns : List ℕ) → AreAlike program columns cs ds
    → AreAmong columns ms → AreAmong columns ns → more_specific program cs ms ns ≡ more_specific program ds ms ns
specific_alike program columns [] [] ms ns x y z = refl
specific_alike program columns [] (d ∷ ds) ms ns x y z = absurd x
specific_alike program columns (c ∷ cs) [] ms ns x y z = absurd x
specific_alike program [] (c ∷ cs) (d ∷ ds) ms ns x y z = absurd x
specific_alike program (column ∷ columns) (c ∷ cs) (d ∷ ds) [] ns x y z = refl
specific_alike program (column ∷ columns) (c ∷ cs) (d ∷ ds) (m ∷ ms) [] x y z = refl
specific_alike program (column ∷ columns) (c ∷ cs) (d ∷ ds) (m ∷ ms) (n ∷ ns) x y z =
    let earlier : is_earlier m n (precedence program c) ≡ is_earlier m n (precedence program d) =
    earlier-filter (λ d. is_in d column) m n (precedence program c) y.0 z.0 ∙ ap (is_earlier m n) x.0
    ∙ sym (earlier-filter (λ d. is_in d column) m n (precedence program d) y.0 z.0) in
    let rest : more_specific program cs ms ns ≡ more_specific program ds ms ns = specific_alike program columns cs ds ms ns x.1 y.1 z.1 in
    rw (earlier, rest) refl

-- methods of which each has classes among those of the arguments
abbrev pub AllAmong : List (List ℕ) → List MethodRow → Type 0
AllAmong columns [] = Unit
AllAmong columns (m ∷ ms) = AreAmong columns m.classes × AllAmong columns ms

AllAmong-filter : (columns : List (List ℕ)) (p : MethodRow → Bool) (ms : List MethodRow) → AllAmong columns ms → AllAmong columns (filter p ms)
AllAmong-filter columns p [] x = x
AllAmong-filter columns p (m ∷ ms) x =
    let rest : AllAmong columns (filter p ms) = AllAmong-filter columns p ms x.1 in
    elim (p m) as (λ b. AllAmong columns (cond b (m ∷ filter p ms) (filter p ms))) [ true ↦ (x.0, rest) | false ↦ rest ]

filter_alike : (columns : List (List ℕ)) (p q : MethodRow → Bool) → ((m : MethodRow) → AreAmong columns m.classes → p m ≡ q m)
    → (ms : List MethodRow) → AllAmong columns ms → filter p ms ≡ filter q ms
filter_alike columns p q e [] x = refl
filter_alike columns p q e (m ∷ ms) x =
    let here : p m ≡ q m = e m x.0 in
    let rest : filter p ms ≡ filter q ms = filter_alike columns p q e ms x.1 in
    rw (here, rest) refl

AllAmong-among : (columns : List (List ℕ)) (before : MethodRow → MethodRow → Bool) (m : MethodRow) (ms : List MethodRow)
    → AreAmong columns m.classes → AllAmong columns ms → AllAmong columns (among before m ms)
AllAmong-among columns before m [] x y = (x, y)
AllAmong-among columns before m (n ∷ ns) x y =
    let rest : AllAmong columns (among before m ns) = AllAmong-among columns before m ns x y.1 in
    elim (before m n) as (λ b. AllAmong columns (if b then m ∷ n ∷ ns else n ∷ among before m ns)) [ true ↦ (x, y) | false ↦ (y.0, rest) ]

AllAmong-ordered : (columns : List (List ℕ)) (before : MethodRow → MethodRow → Bool) (ms : List MethodRow)
    → AllAmong columns ms → AllAmong columns (ordered before ms)
AllAmong-ordered columns before [] x = x
AllAmong-ordered columns before (m ∷ ms) x = AllAmong-among columns before m (ordered before ms) x.0 (AllAmong-ordered columns before ms x.1)

among_alike : (columns : List (List ℕ)) (b c : MethodRow → MethodRow → Bool)
    → ((m n : MethodRow) → AreAmong columns m.classes → AreAmong columns n.classes → b m n ≡ c m n)
    → (m : MethodRow) (ms : List MethodRow) → AreAmong columns m.classes → AllAmong columns ms → among b m ms ≡ among c m ms
among_alike columns b c e m [] x y = refl
among_alike columns b c e m (n ∷ ns) x y =
    let here : b m n ≡ c m n = e m n x y.0 in
    let rest : among b m ns ≡ among c m ns = among_alike columns b c e m ns x y.1 in
    rw (here, rest) refl

ordered_alike : (columns : List (List ℕ)) (b c : MethodRow → MethodRow → Bool)
    → ((m n : MethodRow) → AreAmong columns m.classes → AreAmong columns n.classes → b m n ≡ c m n)
    → (ms : List MethodRow) → AllAmong columns ms → ordered b ms ≡ ordered c ms
ordered_alike columns b c e [] x = refl
ordered_alike columns b c e (m ∷ ms) x =
    let rest : ordered b ms ≡ ordered c ms = ordered_alike columns b c e ms x.1 in
    among_alike columns b c e m (ordered b ms) x.0 (AllAmong-ordered columns b ms x.1) ∙ ap (among c m) rest

pub applicable_alike : (program : ProgramRows) (columns : List (List ℕ)) (cs ds : List ℕ) (ms : List MethodRow) → AreAlike program columns cs ds
    → AllAmong columns ms → applicable program cs ms ≡ applicable program ds ms
applicable_alike program columns cs ds ms x y =
    let same : filter (λ m. applies program cs m.classes) ms ≡ filter (λ m. applies program ds m.classes) ms =
    filter_alike columns (λ m. applies program cs m.classes) (λ m. applies program ds m.classes)
    (λ m z. applies_alike program columns cs ds m.classes x z) ms y in
    ordered_alike columns
    (λ m n. more_specific program cs m.classes n.classes) (λ m n. more_specific program ds m.classes n.classes)
    (λ m n z w. specific_alike program columns cs ds m.classes n.classes x z w)
    (filter (λ m. applies program cs m.classes) ms) (AllAmong-filter columns (λ m. applies program cs m.classes) ms y)
    ∙ ap (ordered (λ m n. more_specific program ds m.classes n.classes)) same

-- a method's classes are among those that the methods have

drop_none : {X : Type 0} (xs : List X) (i : ℕ) → slice_get xs i ≡ None → drop i xs ≡ []
drop_none [] zero h = refl
drop_none [] (suc i) h = refl
drop_none (x ∷ xs) zero h = absurd (cc)
drop_none (x ∷ xs) (suc i) h = drop_none xs i h

among_none : (columns : List (List ℕ)) → AreAmong columns []
among_none [] = tt
among_none (column ∷ columns) = tt

among_from : (f : ℕ → List ℕ) (l : List ℕ) → ((k : ℕ) → is_in (slice_index_or l k 0) (f k) ≡ true)
    → (n at : ℕ) → AreAmong (map f (range_with_len at n)) (drop at l)
among_from f l h zero at = by (drop at l)
  where
    by : (ms : List ℕ) → AreAmong [] ms
    by [] = tt
    by (m ∷ ms) = tt
among_from f l h (suc n) at =
    let rest : AreAmong (map f (range_with_len (at + 1) n)) (drop (at + 1) l) = among_from f l h n (at + 1) in
    by rest (slice_get l at) refl
  where
    by : AreAmong (map f (range_with_len (at + 1) n)) (drop (at + 1) l) → (o : Option ℕ) → slice_get l at ≡ o → AreAmong (map f (range_with_len at (suc n))) (drop at l)
    by rest None e = rw (drop_none l at e) (among_none (map f (range_with_len at (suc n))))
    by rest (Some x) e =
        let is : slice_index_or l at 0 ≡ x = get_or_from_slice_get l at x 0 e in
        rw (rest_at l at x e) (rw (← is) (h at), rest)

-- a class of one of the methods is one of all
abbrev pub column_of : List MethodRow → ℕ → List ℕ
column_of ms argument = map (λ m. slice_index_or m.classes argument 0) ms

in_first : (n : ℕ) (xs : List ℕ) → is_in n (n ∷ xs) ≡ true
in_first n xs = let e : (n == n) ≡ true = grind (arith, nat_tests) in rw e refl

in_later : (n x : ℕ) (xs : List ℕ) → is_in n xs ≡ true → is_in n (x ∷ xs) ≡ true
in_later n x xs h = elim (n == x) as (λ b. (b || is_in n xs) ≡ true) [ true ↦ refl | false ↦ h ]

AllAmong-part : (columns : List (List ℕ)) (f : ℕ → List ℕ) (size : ℕ) → columns ≡ map f (range_with_len 0 size) → (ms : List MethodRow)
    → ((k n : ℕ) → is_in n (column_of ms k) ≡ true → is_in n (f k) ≡ true) → AllAmong columns ms
AllAmong-part columns f size e [] h = tt
AllAmong-part columns f size e (m ∷ ms) h = (
  rw e (among_from f m.classes (λ k. h k (slice_index_or m.classes k 0) (in_first (slice_index_or m.classes k 0) (column_of ms k))) size 0),
  AllAmong-part columns f size e ms (λ k n x. h k n (in_later n (slice_index_or m.classes k 0) (column_of ms k) x)),
)

pub AllAmong-methods : (g : GenericRow) → AllAmong (columns g) g.methods
AllAmong-methods g = AllAmong-part (columns g) (argument_classes g) g.required refl g.methods (λ k n x. x)

-- two tuples of classes whose groups agree at each argument have the same chain
pub chain_alike : (program : ProgramRows) (g : GenericRow) (cs ds : List ℕ) → AreAlike program (columns g) cs ds
    → chain program g cs ≡ chain program g ds
chain_alike program g cs ds x =
    let same : applicable program cs g.methods ≡ applicable program ds g.methods =
    applicable_alike program (columns g) cs ds g.methods x (AllAmong-methods g) in
    ap (λ ms. chain_of ms (of_kind Primary ms)) same
