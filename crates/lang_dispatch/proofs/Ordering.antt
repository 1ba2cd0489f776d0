-- The methods that apply are ordered: each stands before the less specific ones.
use Rattle.std.proofs.Common.{◌≡◌, ℕ, zero, suc, ◌+◌, ◌==◌, ◌<◌, Bool, true, false, cond, not, nat_lt, List, [], ◌∷◌, length, filter, Some, slice_get, if◌then◌else◌, refl, sym, ap, ◌∙◌, arith, ◌||◌}
use Rattle.std.specs.List.{list_any, list_all, position_or_len, sum_by}
use Rattle.std.specs.Str.{bytes_eq}
use Rattle.std.proofs.lemmas.Bool.Decides.{nat_tests}
use Rattle.std.proofs.lemmas.List.Sums.{sum_by-cons}
use Rattle.lang_meaning.specs.declared.program.ProgramRows.{ProgramRows}
use Rattle.lang_meaning.specs.declared.program.GenericRow.{GenericRow}
use Rattle.lang_meaning.specs.declared.program.MethodRow.{MethodRow}
use Rattle.lang_meaning.specs.declared.program.Qualifier.{Qualifier}
use Rattle.lang_meaning.specs.declared.program.Qualifier.TheVariants.{Primary, Around, Before, After}
use Rattle.lang_meaning.specs.Lookup.{is_in, all_differ}
use Rattle.lang_meaning.specs.Classes.{precedence, is_below, applies, more_specific, among, ordered, applicable, is_qualifier}
use Rattle.lang_dispatch.specs.Methods.{is_same, row_is_whole}
use Rattle.lang_dispatch.proofs.Taking.{both, neither, is_false}

-- the place of a class

abbrev place : List ℕ → ℕ → ℕ
place l x = position_or_len (λ d. d == x) l

-- a class that is there has a place of its own
place_same : (x y : ℕ) (l : List ℕ) → is_in x l ≡ true → place l x ≡ place l y → x ≡ y
place_same x y [] h e = absurd (cc)
place_same x y (d ∷ l) h e =
    let rest : is_in x l ≡ true → place l x ≡ place l y → x ≡ y = λ k f. place_same x y l k f in
    by rest (d == x) refl (d == y) refl h e
  where
    by : (is_in x l ≡ true → place l x ≡ place l y → x ≡ y) → (a : Bool) → (d == x) ≡ a → (b : Bool) → (d == y) ≡ b
        → (x == d || is_in x l) ≡ true → (if not a then 1 + place l x else 0) ≡ (if not b then 1 + place l y else 0) → x ≡ y
    by rest true p true q h e = grind (arith, nat_tests)
    by rest true p false q h e = absurd (omega arith)
    by rest false p true q h e = absurd (omega arith)
    by rest false p false q h e =
        let no : (x == d) ≡ false = grind (arith, nat_tests) in
        let there : is_in x l ≡ true = rw no at h in
        rest there (omega arith)

-- specificity goes one way

lt_one_way : (a b : ℕ) → nat_lt a b ≡ true → nat_lt b a ≡ false
lt_one_way a b h = grind (arith, nat_tests)

turned : (a b : ℕ) → (a == b) ≡ true → (b == a) ≡ false → ⊥
turned a b h k = let e : (b == a) ≡ true = grind (arith, nat_tests) in absurd (cc)

pub one_way : (program : ProgramRows) (cs ms ns : List ℕ) → more_specific program cs ms ns ≡ true → more_specific program cs ns ms ≡ false
one_way program [] ms ns h = refl
one_way program (c ∷ cs) [] ns h = absurd (cc)
one_way program (c ∷ cs) (m ∷ ms) [] h = absurd (cc)
one_way program (c ∷ cs) (m ∷ ms) (n ∷ ns) h =
    let rest : more_specific program cs ms ns ≡ true → more_specific program cs ns ms ≡ false = λ k. one_way program cs ms ns k in
    by rest (m == n) refl (n == m) refl h
  where
    by : (more_specific program cs ms ns ≡ true → more_specific program cs ns ms ≡ false) → (a : Bool) → (m == n) ≡ a → (b : Bool) → (n == m) ≡ b
        → (if a then more_specific program cs ms ns else nat_lt (place (precedence program c) m) (place (precedence program c) n)) ≡ true
        → (if b then more_specific program cs ns ms else nat_lt (place (precedence program c) n) (place (precedence program c) m)) ≡ false
    by rest true p true q h = rest h
    by rest true p false q h = absurd (turned m n p q)
    by rest false p true q h = absurd (turned n m q p)
    by rest false p false q h = lt_one_way (place (precedence program c) m) (place (precedence program c) n) h

-- one that is not more specific than a second, which is not more specific than a third, is not more specific than that

lt_through : (a b d : ℕ) → nat_lt b a ≡ false → nat_lt d b ≡ false → nat_lt d a ≡ false
lt_through a b d h k = grind (arith, nat_tests)

lt_between : (a b d : ℕ) → nat_lt b a ≡ false → nat_lt d b ≡ false → d ≡ a → a ≡ b
lt_between a b d h k e = grind (arith, nat_tests)

number_is : (a b : ℕ) → (a == b) ≡ true → a ≡ b
number_is a b h = grind (arith, nat_tests)

number_not : (a b : ℕ) → (a == b) ≡ false → a ≡ b → ⊥
number_not a b h e = let k : (a == b) ≡ true = grind (arith, nat_tests) in absurd (cc)

pub through : (program : ProgramRows) (cs ks bs ds : List ℕ)
    → applies program cs ks ≡ true → applies program cs bs ≡ true → applies program cs ds ≡ true
    → more_specific program cs bs ks ≡ false → more_specific program cs ds bs ≡ false → more_specific program cs ds ks ≡ false
through program [] ks bs ds x y z h k = refl
through program (c ∷ cs) [] bs ds x y z h k = absurd (cc)
through program (c ∷ cs) (a ∷ ks) [] ds x y z h k = absurd (cc)
through program (c ∷ cs) (a ∷ ks) (b ∷ bs) [] x y z h k = absurd (cc)
through program (c ∷ cs) (a ∷ ks) (b ∷ bs) (d ∷ ds) x y z h k =
    let xs = both (is_below program c a) (applies program cs ks) x in
    let ys = both (is_below program c b) (applies program cs bs) y in
    let zs = both (is_below program c d) (applies program cs ds) z in
    let rest : more_specific program cs bs ks ≡ false → more_specific program cs ds bs ≡ false → more_specific program cs ds ks ≡ false =
    λ u v. through program cs ks bs ds xs.1 ys.1 zs.1 u v in
    by xs.0 rest (b == a) refl (d == b) refl (d == a) refl h k
  where
    by : is_in a (precedence program c) ≡ true
        → (more_specific program cs bs ks ≡ false → more_specific program cs ds bs ≡ false → more_specific program cs ds ks ≡ false)
        → (f : Bool) → (b == a) ≡ f → (g : Bool) → (d == b) ≡ g → (e : Bool) → (d == a) ≡ e
        → (if f then more_specific program cs bs ks else nat_lt (place (precedence program c) b) (place (precedence program c) a)) ≡ false
        → (if g then more_specific program cs ds bs else nat_lt (place (precedence program c) d) (place (precedence program c) b)) ≡ false
        → (if e then more_specific program cs ds ks else nat_lt (place (precedence program c) d) (place (precedence program c) a)) ≡ false
    by there rest true p true q true r h k = rest h k
    by there rest true p true q false r h k = absurd (number_not d a r (number_is d b q ∙ number_is b a p))
    by there rest true p false q true r h k = absurd (number_not d b q (number_is d a r ∙ sym (number_is b a p)))
    by there rest true p false q false r h k =
        ap (λ y. nat_lt (place (precedence program c) d) (place (precedence program c) y)) (sym (number_is b a p)) ∙ k
    by there rest false p true q true r h k = absurd (number_not b a p (sym (number_is d b q) ∙ number_is d a r))
    by there rest false p true q false r h k =
        ap (λ y. nat_lt (place (precedence program c) y) (place (precedence program c) a)) (number_is d b q) ∙ h
    by there rest false p false q true r h k =
        let same : place (precedence program c) a ≡ place (precedence program c) b =
        lt_between (place (precedence program c) a) (place (precedence program c) b) (place (precedence program c) d) h k
        (ap (place (precedence program c)) (number_is d a r)) in
        absurd (number_not b a p (sym (place_same a b (precedence program c) there same)))
    by there rest false p false q false r h k =
        lt_through (place (precedence program c) a) (place (precedence program c) b) (place (precedence program c) d) h k

-- of two that apply and differ, one is more specific

lt_other : (a b : ℕ) → nat_lt b a ≡ false → (a ≡ b → ⊥) → nat_lt a b ≡ true
lt_other a b h d = by (nat_lt a b) refl
  where
    by : (t : Bool) → nat_lt a b ≡ t → t ≡ true
    by true e = refl
    by false e = absurd (d (grind (arith, nat_tests)))

pub other_way : (program : ProgramRows) (cs ms ns : List ℕ) → applies program cs ms ≡ true → applies program cs ns ≡ true
    → (ms ≡ ns → ⊥) → more_specific program cs ns ms ≡ false → more_specific program cs ms ns ≡ true
other_way program [] [] [] x y d h = absurd (d refl)
other_way program [] [] (n ∷ ns) x y d h = absurd (cc)
other_way program [] (m ∷ ms) ns x y d h = absurd (cc)
other_way program (c ∷ cs) [] ns x y d h = absurd (cc)
other_way program (c ∷ cs) (m ∷ ms) [] x y d h = absurd (cc)
other_way program (c ∷ cs) (m ∷ ms) (n ∷ ns) x y d h =
    let xs = both (is_below program c m) (applies program cs ms) x in
    let ys = both (is_below program c n) (applies program cs ns) y in
    let rest : (ms ≡ ns → ⊥) → more_specific program cs ns ms ≡ false → more_specific program cs ms ns ≡ true =
    λ u v. other_way program cs ms ns xs.1 ys.1 u v in
    by xs.0 rest (m == n) refl (n == m) refl h
  where
    by : is_in m (precedence program c) ≡ true
        → ((ms ≡ ns → ⊥) → more_specific program cs ns ms ≡ false → more_specific program cs ms ns ≡ true)
        → (f : Bool) → (m == n) ≡ f → (g : Bool) → (n == m) ≡ g
        → (if g then more_specific program cs ns ms else nat_lt (place (precedence program c) n) (place (precedence program c) m)) ≡ false
        → (if f then more_specific program cs ms ns else nat_lt (place (precedence program c) m) (place (precedence program c) n)) ≡ true
    by there rest true p true q h = rest (λ e. d (ap (λ l. m ∷ l) e ∙ ap (λ k. k ∷ ns) (number_is m n p))) h
    by there rest true p false q h = absurd (turned m n p q)
    by there rest false p true q h = absurd (turned n m q p)
    by there rest false p false q h =
        lt_other (place (precedence program c) m) (place (precedence program c) n) h
        (λ e. number_not m n p (place_same m n (precedence program c) there e))

-- the same methods, each as often

sum_by-among : (count : MethodRow → ℕ) (before : MethodRow → MethodRow → Bool) (m : MethodRow) (ns : List MethodRow)
    → sum_by count (among before m ns) ≡ count m + sum_by count ns
sum_by-among count before m [] = sum_by-cons count m []
sum_by-among count before m (n ∷ ns) =
    let rest : sum_by count (among before m ns) ≡ count m + sum_by count ns = sum_by-among count before m ns in
    elim (before m n) as (λ b. sum_by count (if b then m ∷ n ∷ ns else n ∷ among before m ns) ≡ count m + sum_by count (n ∷ ns)) [
      | true ↦ sum_by-cons count m (n ∷ ns)
      | false ↦ omega (arith, sum_by-cons count n (among before m ns), sum_by-cons count n ns, rest)
    ]

pub sum_by-ordered : (count : MethodRow → ℕ) (before : MethodRow → MethodRow → Bool) (ms : List MethodRow)
    → sum_by count (ordered before ms) ≡ sum_by count ms
sum_by-ordered count before [] = refl
sum_by-ordered count before (m ∷ ms) = sum_by-among count before m (ordered before ms) ∙ ap (λ k. count m + k) (sum_by-ordered count before ms) ∙ sym (sum_by-cons count m ms)

-- methods of which each passes, of which each stands before the less specific ones, and of which no two are alike

abbrev AllPass : (MethodRow → Bool) → List MethodRow → Type 0
AllPass p [] = Unit
AllPass p (m ∷ ms) = (p m ≡ true) × AllPass p ms

abbrev NoneBefore : (MethodRow → MethodRow → Bool) → MethodRow → List MethodRow → Type 0
NoneBefore before m [] = Unit
NoneBefore before m (n ∷ ns) = (before n m ≡ false) × NoneBefore before m ns

abbrev AreSorted : (MethodRow → MethodRow → Bool) → List MethodRow → Type 0
AreSorted before [] = Unit
AreSorted before (m ∷ ms) = NoneBefore before m ms × AreSorted before ms

abbrev AreApart : MethodRow → MethodRow → Type 0
AreApart m n = m.qualifier ≡ n.qualifier → m.classes ≡ n.classes → ⊥

abbrev IsApart : MethodRow → List MethodRow → Type 0
IsApart m [] = Unit
IsApart m (n ∷ ns) = AreApart m n × IsApart m ns

abbrev AllApart : List MethodRow → Type 0
AllApart [] = Unit
AllApart (m ∷ ms) = IsApart m ms × AllApart ms

AllPass-among : (p : MethodRow → Bool) (before : MethodRow → MethodRow → Bool) (m : MethodRow) (ns : List MethodRow)
    → p m ≡ true → AllPass p ns → AllPass p (among before m ns)
AllPass-among p before m [] h x = (h, tt)
AllPass-among p before m (n ∷ ns) h x =
    let rest : AllPass p (among before m ns) = AllPass-among p before m ns h x.1 in
    elim (before m n) as (λ b. AllPass p (if b then m ∷ n ∷ ns else n ∷ among before m ns)) [ true ↦ (h, x) | false ↦ (x.0, rest) ]

AllPass-ordered : (p : MethodRow → Bool) (before : MethodRow → MethodRow → Bool) (ms : List MethodRow) → AllPass p ms → AllPass p (ordered before ms)
AllPass-ordered p before [] x = tt
AllPass-ordered p before (m ∷ ms) x = AllPass-among p before m (ordered before ms) x.0 (AllPass-ordered p before ms x.1)

AllPass-filter : (p : MethodRow → Bool) (ms : List MethodRow) → AllPass p (filter p ms)
AllPass-filter p [] = tt
AllPass-filter p (m ∷ ms) = by (p m) refl (AllPass-filter p ms)
  where
    by : (b : Bool) → p m ≡ b → AllPass p (filter p ms) → AllPass p (cond b (m ∷ filter p ms) (filter p ms))
    by true e rest = (e, rest)
    by false e rest = rest

IsApart-among : (before : MethodRow → MethodRow → Bool) (k m : MethodRow) (ns : List MethodRow)
    → AreApart k m → IsApart k ns → IsApart k (among before m ns)
IsApart-among before k m [] h x = (h, tt)
IsApart-among before k m (n ∷ ns) h x =
    let rest : IsApart k (among before m ns) = IsApart-among before k m ns h x.1 in
    elim (before m n) as (λ b. IsApart k (if b then m ∷ n ∷ ns else n ∷ among before m ns)) [ true ↦ (h, x) | false ↦ (x.0, rest) ]

AllApart-among : (before : MethodRow → MethodRow → Bool) (m : MethodRow) (ns : List MethodRow)
    → IsApart m ns → AllApart ns → AllApart (among before m ns)
AllApart-among before m [] h x = (tt, tt)
AllApart-among before m (n ∷ ns) h x =
    let rest : AllApart (among before m ns) = AllApart-among before m ns h.1 x.1 in
    let first : AreApart n m = λ e f. h.0 (sym e) (sym f) in
    let there : IsApart n (among before m ns) = IsApart-among before n m ns first x.0 in
    elim (before m n) as (λ b. AllApart (if b then m ∷ n ∷ ns else n ∷ among before m ns)) [ true ↦ (h, x) | false ↦ (there, rest) ]

IsApart-ordered : (before : MethodRow → MethodRow → Bool) (k : MethodRow) (ms : List MethodRow) → IsApart k ms → IsApart k (ordered before ms)
IsApart-ordered before k [] x = tt
IsApart-ordered before k (m ∷ ms) x = IsApart-among before k m (ordered before ms) x.0 (IsApart-ordered before k ms x.1)

AllApart-ordered : (before : MethodRow → MethodRow → Bool) (ms : List MethodRow) → AllApart ms → AllApart (ordered before ms)
AllApart-ordered before [] x = tt
AllApart-ordered before (m ∷ ms) x =
    AllApart-among before m (ordered before ms) (IsApart-ordered before m ms x.0) (AllApart-ordered before ms x.1)

IsApart-filter : (p : MethodRow → Bool) (k : MethodRow) (ms : List MethodRow) → IsApart k ms → IsApart k (filter p ms)
IsApart-filter p k [] x = tt
IsApart-filter p k (m ∷ ms) x =
    let rest : IsApart k (filter p ms) = IsApart-filter p k ms x.1 in
    elim (p m) as (λ b. IsApart k (cond b (m ∷ filter p ms) (filter p ms))) [ true ↦ (x.0, rest) | false ↦ rest ]

AllApart-filter : (p : MethodRow → Bool) (ms : List MethodRow) → AllApart ms → AllApart (filter p ms)
AllApart-filter p [] x = tt
AllApart-filter p (m ∷ ms) x =
    let rest : AllApart (filter p ms) = AllApart-filter p ms x.1 in
    let here : IsApart m (filter p ms) = IsApart-filter p m ms x.0 in
    elim (p m) as (λ b. AllApart (cond b (m ∷ filter p ms) (filter p ms))) [ true ↦ (here, rest) | false ↦ rest ]

-- methods that differ are apart

qualifier_itself : (q : Qualifier) → is_qualifier q q ≡ true
qualifier_itself Primary = refl
qualifier_itself Around = refl
qualifier_itself Before = refl
qualifier_itself After = refl

text_itself : (xs : List ℕ) → bytes_eq xs xs ≡ true
text_itself [] = refl
text_itself (x ∷ xs) = let here : (x == x) ≡ true = grind (arith, nat_tests) in rw (here, text_itself xs) refl

apart : (m n : MethodRow) → is_same m n ≡ false → AreApart m n
apart m n h e f =
    let qualifiers : is_qualifier m.qualifier n.qualifier ≡ true = ap (is_qualifier m.qualifier) (sym e) ∙ qualifier_itself m.qualifier in
    let texts : bytes_eq m.classes n.classes ≡ true = ap (bytes_eq m.classes) (sym f) ∙ text_itself m.classes in
    let same : is_same m n ≡ true = rw (qualifiers, texts) refl in
    cc

IsApart-none : (m : MethodRow) (ns : List MethodRow) → list_any (is_same m) ns ≡ false → IsApart m ns
IsApart-none m [] h = tt
IsApart-none m (n ∷ ns) h =
    let parts = neither (is_same m n) (list_any (is_same m) ns) h in
    (apart m n parts.0, IsApart-none m ns parts.1)

AllApart-differ : (ms : List MethodRow) → all_differ is_same ms ≡ true → AllApart ms
AllApart-differ [] h = tt
AllApart-differ (m ∷ ms) h =
    let parts = both (not (list_any (is_same m) ms)) (all_differ is_same ms) h in
    (IsApart-none m ms (is_false (list_any (is_same m) ms) parts.0), AllApart-differ ms parts.1)

-- what is read of such lists

passing_at : (p : MethodRow → Bool) (ms : List MethodRow) (i : ℕ) (m : MethodRow) → AllPass p ms → slice_get ms i ≡ Some m → p m ≡ true
passing_at p [] i m x h = absurd (cc)
passing_at p (n ∷ ms) zero m x h = let e : n ≡ m = cc in ap p (sym e) ∙ x.0
passing_at p (n ∷ ms) (suc i) m x h = passing_at p ms i m x.1 h

none_at : (before : MethodRow → MethodRow → Bool) (k : MethodRow) (ms : List MethodRow) (i : ℕ) (m : MethodRow) → NoneBefore before k ms
    → slice_get ms i ≡ Some m → before m k ≡ false
none_at before k [] i m x h = absurd (cc)
none_at before k (n ∷ ms) zero m x h = let e : n ≡ m = cc in ap (λ l. before l k) (sym e) ∙ x.0
none_at before k (n ∷ ms) (suc i) m x h = none_at before k ms i m x.1 h

apart_at : (k : MethodRow) (ms : List MethodRow) (i : ℕ) (m : MethodRow) → IsApart k ms → slice_get ms i ≡ Some m → AreApart k m
apart_at k [] i m x h = absurd (cc)
apart_at k (n ∷ ms) zero m x h = let e : n ≡ m = cc in λ f g. x.0 (f ∙ ap (λ l. l.qualifier) (sym e)) (g ∙ ap (λ l. l.classes) (sym e))
apart_at k (n ∷ ms) (suc i) m x h = apart_at k ms i m x.1 h

sorted_at : (before : MethodRow → MethodRow → Bool) (ms : List MethodRow) (i j : ℕ) (m n : MethodRow) → AreSorted before ms → i < j
    → slice_get ms i ≡ Some m → slice_get ms j ≡ Some n → before n m ≡ false
sorted_at before [] i j m n x l h k = absurd (cc)
sorted_at before (a ∷ ms) i zero m n x l h k = absurd (omega arith)
sorted_at before (a ∷ ms) zero (suc j) m n x l h k =
    let e : a ≡ m = cc in
    ap (before n) (sym e) ∙ none_at before a ms j n x.0 k
sorted_at before (a ∷ ms) (suc i) (suc j) m n x l h k = sorted_at before ms i j m n x.1 (omega arith) h k

all_apart_at : (ms : List MethodRow) (i j : ℕ) (m n : MethodRow) → AllApart ms → i < j
    → slice_get ms i ≡ Some m → slice_get ms j ≡ Some n → AreApart m n
all_apart_at [] i j m n x l h k = absurd (cc)
all_apart_at (a ∷ ms) i zero m n x l h k = absurd (omega arith)
all_apart_at (a ∷ ms) zero (suc j) m n x l h k =
    let e : a ≡ m = cc in
    let there : AreApart a n = apart_at a ms j n x.0 k in
    λ f g. there (ap (λ b. b.qualifier) e ∙ f) (ap (λ b. b.classes) e ∙ g)
all_apart_at (a ∷ ms) (suc i) (suc j) m n x l h k = all_apart_at ms i j m n x.1 (omega arith) h k

-- the order of the methods of a call

module _ (program : ProgramRows) (cs : List ℕ) where
  abbrev passes : MethodRow → Bool
  passes m = applies program cs m.classes

  abbrev earlier : MethodRow → MethodRow → Bool
  earlier m n = more_specific program cs m.classes n.classes

  none-among : (k m : MethodRow) (ns : List MethodRow) → earlier m k ≡ false → NoneBefore earlier k ns → NoneBefore earlier k (among earlier m ns)
  none-among k m [] h x = (h, tt)
  none-among k m (n ∷ ns) h x =
      let rest : NoneBefore earlier k (among earlier m ns) = none-among k m ns h x.1 in
      elim (earlier m n) as (λ b. NoneBefore earlier k (if b then m ∷ n ∷ ns else n ∷ among earlier m ns)) [ true ↦ (h, x) | false ↦ (x.0, rest) ]

  none-through : (m n : MethodRow) (ks : List MethodRow) → passes m ≡ true → passes n ≡ true → AllPass passes ks → earlier n m ≡ false
      → NoneBefore earlier n ks → NoneBefore earlier m ks
  none-through m n [] x y z h k = tt
  none-through m n (o ∷ ks) x y z h k =
      (through program cs m.classes n.classes o.classes x y z.0 h k.0, none-through m n ks x y z.1 h k.1)

  sorted-among : (m : MethodRow) (ns : List MethodRow) → passes m ≡ true → AllPass passes ns → AreSorted earlier ns → AreSorted earlier (among earlier m ns)
  sorted-among m [] x y s = (tt, tt)
  sorted-among m (n ∷ ns) x y s = by (earlier m n) refl (sorted-among m ns x y.1 s.1)
    where
      by : (b : Bool) → earlier m n ≡ b → AreSorted earlier (among earlier m ns) → AreSorted earlier (if b then m ∷ n ∷ ns else n ∷ among earlier m ns)
      by true e rest =
          let no : earlier n m ≡ false = one_way program cs m.classes n.classes e in
          ((no, none-through m n ns x y.0 y.1 no s.0), s)
      by false e rest = (none-among n m ns e s.0, rest)

  sorted-ordered : (ms : List MethodRow) → AllPass passes ms → AreSorted earlier (ordered earlier ms)
  sorted-ordered [] x = tt
  sorted-ordered (m ∷ ms) x = sorted-among m (ordered earlier ms) x.0 (AllPass-ordered passes earlier ms x.1) (sorted-ordered ms x.1)

  pub in_order : (g : GenericRow) (i j : ℕ) (m n : MethodRow) → row_is_whole g ≡ true → i < j
      → slice_get (applicable program cs g.methods) i ≡ Some m → slice_get (applicable program cs g.methods) j ≡ Some n
      → m.qualifier ≡ n.qualifier → earlier m n ≡ true
  in_order g i j m n whole l h k q =
      let differ = both (list_all (λ n. length n.classes == g.required) g.methods) (all_differ is_same g.methods) whole in
      let found : List MethodRow = filter passes g.methods in
      let pass : AllPass passes (ordered earlier found) = AllPass-ordered passes earlier found (AllPass-filter passes g.methods) in
      let apart_all : AllApart (ordered earlier found) = AllApart-ordered earlier found (AllApart-filter passes g.methods (AllApart-differ g.methods differ.1)) in
      let no : earlier n m ≡ false = sorted_at earlier (ordered earlier found) i j m n (sorted-ordered found (AllPass-filter passes g.methods)) l h k in
      let apart_here : AreApart m n = all_apart_at (ordered earlier found) i j m n apart_all l h k in
      other_way program cs m.classes n.classes (passing_at passes (ordered earlier found) i m pass h) (passing_at passes (ordered earlier found) j n pass k)
      (apart_here q) no

pub same_methods : (program : ProgramRows) (g : GenericRow) (cs : List ℕ) (count : MethodRow → ℕ)
    → sum_by count (applicable program cs g.methods) ≡ sum_by count (filter (λ m. applies program cs m.classes) g.methods)
same_methods program g cs count =
    sum_by-ordered count (λ m n. more_specific program cs m.classes n.classes) (filter (λ m. applies program cs m.classes) g.methods)
