-- Precedence lists are an order of the classes.
use Rattle.std.proofs.Common.{◌≡◌, ℕ, zero, suc, ◌+◌, ◌==◌, ◌<◌, ◌≤◌, ◌⊎◌, inl, inr, ⊎_elim, Bool, true, false, ◌&&◌, List, [], ◌∷◌, ◌++◌, Option, Some, None, All, length, take, slice_get, slice_index_or, if◌then◌else◌, refl, sym, ap, ◌∙◌, arith, ◌||◌}
use Rattle.std.specs.List.{list_all, range_with_len}
use Rattle.std.proofs.lemmas.Bool.Decides.{nat_tests}
use Rattle.std.proofs.lemmas.Option.{get_or_from_slice_get}
use Rattle.std.proofs.lemmas.List.Elements.{All-head, All-tail}
use Rattle.lang_meaning.specs.declared.program.ClassRow.{ClassRow}
use Rattle.lang_meaning.specs.BuiltIn.{built_in_precedence}
use Rattle.lang_meaning.specs.Classes.{precedence_of}
use Rattle.lang_meaning.specs.Lookup.{all_differ, is_in}
use Rattle.lang_classes.specs.InheritedPrecedence.{above, each_last, joined, superclasses, precedence_below}
use Rattle.lang_classes.specs.InheritedClasses.{Hierarchy, IsHierarchy, IsInherited}
use Rattle.lang_classes.specs.Lines.{line}

pub number_is : (a b : ℕ) → (a == b) ≡ true → a ≡ b
number_is a b h = grind (arith, nat_tests)

number_itself : (a : ℕ) → (a == a) ≡ true
number_itself a = grind (arith, nat_tests)

pub or_right : (a b : Bool) → b ≡ true → (a || b) ≡ true
or_right true b h = refl
or_right false b h = h

-- what is in a list

in_here : (x : ℕ) (xs : List ℕ) → is_in x (x ∷ xs) ≡ true
in_here x xs = ap (λ b. b || is_in x xs) (number_itself x)

in_append : (x : ℕ) (cs ds : List ℕ) → is_in x (cs ++ ds) ≡ (is_in x cs || is_in x ds)
in_append x [] ds = refl
in_append x (c ∷ cs) ds =
    let rest : is_in x (cs ++ ds) ≡ (is_in x cs || is_in x ds) = in_append x cs ds in
    elim (x == c) as (λ b. (b || is_in x (cs ++ ds)) ≡ ((b || is_in x cs) || is_in x ds)) [ true ↦ refl | false ↦ rest ]

in_each_last : (x : ℕ) (cs : List ℕ) → is_in x (each_last cs) ≡ is_in x cs
in_each_last x [] = refl
in_each_last x (c ∷ cs) = by (in_each_last x cs) (is_in c cs) refl (x == c) refl
  where
    by : is_in x (each_last cs) ≡ is_in x cs → (a : Bool) → is_in c cs ≡ a → (b : Bool) → (x == c) ≡ b
        → is_in x (if a then each_last cs else c ∷ each_last cs) ≡ (b || is_in x cs)
    by rest true p true q = rest ∙ ap (λ y. is_in y cs) (number_is x c q) ∙ p
    by rest true p false q = rest
    by rest false p true q = ap (λ b. b || is_in x (each_last cs)) q
    by rest false p false q = ap (λ b. b || is_in x (each_last cs)) q ∙ rest

once_each_last : (cs : List ℕ) → all_differ (λ d e. d == e) (each_last cs) ≡ true
once_each_last [] = refl
once_each_last (c ∷ cs) = by (once_each_last cs) (is_in c cs) refl
  where
    by : all_differ (λ d e. d == e) (each_last cs) ≡ true → (a : Bool) → is_in c cs ≡ a
        → all_differ (λ d e. d == e) (if a then each_last cs else c ∷ each_last cs) ≡ true
    by rest true p = rest
    by rest false p = let none : is_in c (each_last cs) ≡ false = in_each_last c cs ∙ p in rw (none, rest) refl

-- what is in lists that are joined is in one of them, and the other way

pub record HasOne (rows : List ClassRow) (ss : List ℕ) (x : ℕ) : Type 0 where
  pub super : ℕ
  pub there : is_in super ss ≡ true
  pub holds : is_in x (precedence_of (slice_get rows super)) ≡ true

from_joined : (rows : List ClassRow) (x : ℕ) (ss : List ℕ) → is_in x (joined rows ss) ≡ true → HasOne rows ss x
from_joined rows x [] h = absurd (cc)
from_joined rows x (s ∷ ss) h =
    by (λ k. from_joined rows x ss k) (is_in x (precedence_of (slice_get rows s))) refl (sym (in_append x (precedence_of (slice_get rows s)) (joined rows ss)) ∙ h)
  where
    by : (is_in x (joined rows ss) ≡ true → HasOne rows ss x) → (b : Bool) → is_in x (precedence_of (slice_get rows s)) ≡ b
        → (b || is_in x (joined rows ss)) ≡ true → HasOne rows (s ∷ ss) x
    by rest true e k = record { super = s; there = in_here s ss; holds = e }
    by rest false e k = let r = rest k in record { super = r.super; there = or_right (r.super == s) (is_in r.super ss) r.there; holds = r.holds }

into_joined : (rows : List ClassRow) (x s : ℕ) (ss : List ℕ) → is_in s ss ≡ true → is_in x (precedence_of (slice_get rows s)) ≡ true
    → is_in x (joined rows ss) ≡ true
into_joined rows x s [] h k = absurd (cc)
into_joined rows x s (t ∷ ss) h k = by (λ l. into_joined rows x s ss l k) (s == t) refl h
  where
    by : (is_in s ss ≡ true → is_in x (joined rows ss) ≡ true) → (b : Bool) → (s == t) ≡ b → (b || is_in s ss) ≡ true
        → is_in x (joined rows (t ∷ ss)) ≡ true
    by rest true e l =
        let here : is_in x (precedence_of (slice_get rows t)) ≡ true = ap (λ u. is_in x (precedence_of (slice_get rows u))) (sym (number_is s t e)) ∙ k in
        in_append x (precedence_of (slice_get rows t)) (joined rows ss) ∙ ap (λ b. b || is_in x (joined rows ss)) here
    by rest false e l =
        in_append x (precedence_of (slice_get rows t)) (joined rows ss)
        ∙ or_right (is_in x (precedence_of (slice_get rows t))) (is_in x (joined rows ss)) (rest l)

-- the list of a class of a file

in_below : (rows : List ClassRow) (c : ℕ) (supers : List ℕ) (x : ℕ) → is_in x (precedence_below rows c supers) ≡ true
    → (x ≡ c) ⊎ HasOne rows (superclasses supers) x
unfolding above
in_below rows c supers x h = by (x == c) refl h
  where
    by : (b : Bool) → (x == c) ≡ b → (b || is_in x (each_last (joined rows (superclasses supers)))) ≡ true
        → (x ≡ c) ⊎ HasOne rows (superclasses supers) x
    by true e k = inl (number_is x c e)
    by false e k = inr (from_joined rows x (superclasses supers) (sym (in_each_last x (joined rows (superclasses supers))) ∙ k))

into_below : (rows : List ClassRow) (c : ℕ) (supers : List ℕ) (x : ℕ) → HasOne rows (superclasses supers) x
    → is_in x (precedence_below rows c supers) ≡ true
unfolding above
into_below rows c supers x r =
    or_right (x == c) (is_in x (each_last (joined rows (superclasses supers))))
    (in_each_last x (joined rows (superclasses supers)) ∙ into_joined rows x r.super (superclasses supers) r.there r.holds)

once_below : (rows : List ClassRow) (c : ℕ) (supers : List ℕ) → (HasOne rows (superclasses supers) c → ⊥)
    → all_differ (λ d e. d == e) (precedence_below rows c supers) ≡ true
unfolding above
once_below rows c supers none = by (is_in c (each_last (joined rows (superclasses supers)))) refl
  where
    by : (b : Bool) → is_in c (each_last (joined rows (superclasses supers))) ≡ b
        → all_differ (λ d e. d == e) (c ∷ each_last (joined rows (superclasses supers))) ≡ true
    by true e = absurd (none (from_joined rows c (superclasses supers) (sym (in_each_last c (joined rows (superclasses supers))) ∙ e)))
    by false e = rw (e, once_each_last (joined rows (superclasses supers))) refl

-- rows

taken : (c : ℕ) (rows : List ClassRow) (s : ℕ) (row : ClassRow) → slice_get (take c rows) s ≡ Some row → (s < c) × (slice_get rows s ≡ Some row)
taken zero rows s row h = absurd (cc)
taken (suc c) [] s row h = absurd (cc)
taken (suc c) (r ∷ rows) zero row h = (omega arith, h)
taken (suc c) (r ∷ rows) (suc s) row h =
    let rest : (s < c) × (slice_get rows s ≡ Some row) = taken c rows s row h in
    let less : suc s < suc c = omega (arith, rest.0) in
    (less, rest.1)

pub record HasRow (o : Option ClassRow) (x : ℕ) : Type 0 where
  pub row : ClassRow
  pub is : o ≡ Some row
  pub holds : is_in x row.precedence ≡ true

pub has_row : (o : Option ClassRow) (x : ℕ) → is_in x (precedence_of o) ≡ true → HasRow o x
has_row None x h = absurd (cc)
has_row (Some row) x h = record { row = row; is = refl; holds = h }

in_all : (n x : ℕ) (xs : List ℕ) → All (λ d. d ≤ n) xs → is_in x xs ≡ true → x ≤ n
in_all n x [] a h = absurd (cc)
in_all n x (y ∷ ys) a h =
    by (in_all n x ys (All-tail (λ d. d ≤ n) y ys a)) (All-head (λ d. d ≤ n) y ys a) (x == y) refl h
  where
    by : (is_in x ys ≡ true → x ≤ n) → y ≤ n → (b : Bool) → (x == y) ≡ b → (b || is_in x ys) ≡ true → x ≤ n
    by rest here true e k = let same : x ≡ y = number_is x y e in omega arith
    by rest here false e k = rest k

-- numbers do not rise in a list
pub no_higher : (h : Hierarchy) → IsHierarchy h → (c d : ℕ) → is_in d (line h c) ≡ true → d ≤ c
no_higher h x c d p =
    let r = has_row (slice_get h.rows c) d p in
    in_all c d r.row.precedence (x.classes.right c r.row r.is).in_range r.holds

pub one_way : (h : Hierarchy) (c d : ℕ) → IsHierarchy h → is_in d (line h c) ≡ true → is_in c (line h d) ≡ true → c ≡ d
one_way h c d x p q =
    let down : d ≤ c = no_higher h x c d p in
    let up : c ≤ d = no_higher h x d c q in
    omega arith

-- the built-in classes, which are looked through

first_and_rest : (a b : Bool) → (a && b) ≡ true → (a ≡ true) × (b ≡ true)
first_and_rest true b h = (refl, h)
first_and_rest false b h = absurd (cc)

all_at : {X : Type 0} (p : X → Bool) (xs : List X) (i : ℕ) (x : X) → list_all p xs ≡ true → slice_get xs i ≡ Some x → p x ≡ true
all_at p [] i x h k = absurd (cc)
all_at p (y ∷ ys) zero x h k =
    let same : y ≡ x = cc in
    ap p (sym same) ∙ (first_and_rest (p y) (list_all p ys) h).0
all_at p (y ∷ ys) (suc i) x h k = all_at p ys i x (first_and_rest (p y) (list_all p ys) h).1 k

all_in : (p : ℕ → Bool) (xs : List ℕ) (x : ℕ) → list_all p xs ≡ true → is_in x xs ≡ true → p x ≡ true
all_in p [] x h k = absurd (cc)
all_in p (y ∷ ys) x h k =
    let parts : (p y ≡ true) × (list_all p ys ≡ true) = first_and_rest (p y) (list_all p ys) h in
    by parts.0 (λ l. all_in p ys x parts.1 l) (x == y) refl k
  where
    by : p y ≡ true → (is_in x ys ≡ true → p x ≡ true) → (c : Bool) → (x == y) ≡ c → (c || is_in x ys) ≡ true → p x ≡ true
    by here rest true f k = ap p (number_is x y f) ∙ here
    by here rest false f k = rest k

abbrev list_of : ℕ → List ℕ
list_of c = slice_index_or built_in_precedence c []

looked_through : list_all (λ l. list_all (λ d. list_all (λ e. is_in e l) (list_of d)) l) built_in_precedence ≡ true
looked_through = refl

looked_once : list_all (λ l. all_differ (λ d e. d == e) l) built_in_precedence ≡ true
looked_once = refl

looked_itself : list_all (λ c. is_in c (list_of c)) (range_with_len 0 34) ≡ true
looked_itself = refl

built_in_through : (c d e : ℕ) (l m : List ℕ) → slice_get built_in_precedence c ≡ Some l → slice_get built_in_precedence d ≡ Some m
    → is_in d l ≡ true → is_in e m ≡ true → is_in e l ≡ true
built_in_through c d e l m h k p q =
    let here : list_all (λ d. list_all (λ e. is_in e l) (list_of d)) l ≡ true =
    all_at (λ l. list_all (λ d. list_all (λ e. is_in e l) (list_of d)) l) built_in_precedence c l looked_through h in
    let there : list_all (λ e. is_in e l) (list_of d) ≡ true = all_in (λ d. list_all (λ e. is_in e l) (list_of d)) l d here p in
    let is : list_of d ≡ m = get_or_from_slice_get built_in_precedence d m [] k in
    all_in (λ e. is_in e l) m e (ap (list_all (λ e. is_in e l)) (sym is) ∙ there) q

counted : (c at n : ℕ) → at ≤ c → c < at + n → is_in c (range_with_len at n) ≡ true
counted c at zero h k = absurd (omega arith)
counted c at (suc n) h k = by (λ l. counted c (at + 1) n l (omega arith)) (c == at) refl
  where
    by : (at + 1 ≤ c → is_in c (range_with_len (at + 1) n) ≡ true) → (b : Bool) → (c == at) ≡ b → (b || is_in c (range_with_len (at + 1) n)) ≡ true
    by rest true e = refl
    by rest false e = rest (grind (arith, nat_tests))

-- a class is a built-in one or a file's own
either : (c : ℕ) → (c < 34) ⊎ (34 ≤ c)
either c = by 34
  where
    by : (n : ℕ) → (c < n) ⊎ (n ≤ c)
    by zero = inr (omega arith)
    by (suc n) = ⊎_elim (λ l. let t : c < suc n = omega arith in inl t) (λ l. next l (c == n) refl) (by n)
      where
        next : n ≤ c → (b : Bool) → (c == n) ≡ b → (c < suc n) ⊎ (suc n ≤ c)
        next l true e = let same : c ≡ n = number_is c n e in let t : c < suc n = omega arith in inl t
        next l false e = let t : suc n ≤ c = grind (arith, nat_tests) in inr t

module _ (h : Hierarchy) (x : IsHierarchy h) where
  own_class : (c : ℕ) (row : ClassRow) → slice_get h.rows c ≡ Some row → 34 ≤ c → IsInherited (take c h.rows) c row.precedence
  own_class c row e l = (x.classes.right c row e).below l

  pub itself : (c : ℕ) → c < length h.rows → is_in c (line h c) ≡ true
  itself c l = by (slice_get h.rows c) refl
    where
      by : (o : Option ClassRow) → slice_get h.rows c ≡ o → is_in c (precedence_of o) ≡ true
      by None e = absurd (there h.rows c l e)
        where
          there : (rows : List ClassRow) (i : ℕ) → i < length rows → slice_get rows i ≡ None → ⊥
          there [] i l e = omega arith
          there (r ∷ rows) zero l e = cc
          there (r ∷ rows) (suc i) l e = there rows i (omega arith) e
      by (Some row) e = ⊎_elim
          (λ b.
          let is : list_of c ≡ row.precedence = get_or_from_slice_get built_in_precedence c row.precedence [] (x.built_in c row b e).precedence in
          ap (is_in c) (sym is) ∙ all_in (λ c. is_in c (list_of c)) (range_with_len 0 34) c looked_itself (counted c 0 34 (omega arith) (omega arith)))
          (λ b. let own = own_class c row e b in ap (is_in c) own.is ∙ in_here c (above (take c h.rows) own.supers))
          (either c)

  pub once : (c : ℕ) → all_differ (λ d e. d == e) (line h c) ≡ true
  once c = by (slice_get h.rows c) refl
    where
      by : (o : Option ClassRow) → slice_get h.rows c ≡ o → all_differ (λ d e. d == e) (precedence_of o) ≡ true
      by None e = refl
      by (Some row) e = ⊎_elim
          (λ b. all_at (λ l. all_differ (λ d e. d == e) l) built_in_precedence c row.precedence looked_once (x.built_in c row b e).precedence)
          (λ b.
          let own = own_class c row e b in
          ap (all_differ (λ d e. d == e)) own.is
          ∙ once_below (take c h.rows) c own.supers (λ r.
          let s = has_row (slice_get (take c h.rows) r.super) c r.holds in
          let k = taken c h.rows r.super s.row s.is in
          let low : c ≤ r.super = in_all r.super c s.row.precedence (x.classes.right r.super s.row k.1).in_range s.holds in
          omega (arith, k.0)))
          (either c)

  through_below : (n c : ℕ) → c < n → (d e : ℕ) → is_in d (line h c) ≡ true → is_in e (line h d) ≡ true → is_in e (line h c) ≡ true
  through_below zero c l d e p q = absurd (omega arith)
  through_below (suc n) c l d e p q =
      let r = has_row (slice_get h.rows c) d p in
      let low : d ≤ c = no_higher h x c d p in
      by r.row r.is r.holds low (λ s k u. through_below n s k d e u q)
    where
      by : (row : ClassRow) → slice_get h.rows c ≡ Some row → is_in d row.precedence ≡ true → d ≤ c
          → ((s : ℕ) → s < n → is_in d (line h s) ≡ true → is_in e (line h s) ≡ true) → is_in e (line h c) ≡ true
      by row is holds low rest = ⊎_elim
          (λ b.
          let s = has_row (slice_get h.rows d) e q in
          ap (λ o. is_in e (precedence_of o)) is
          ∙ built_in_through c d e row.precedence s.row.precedence (x.built_in c row b is).precedence (x.built_in d s.row (omega arith) s.is).precedence holds s.holds)
          (λ b.
          let own = own_class c row is b in
          ap (λ o. is_in e (precedence_of o)) is
          ∙ ap (is_in e) own.is
          ∙ ⊎_elim
          (λ same. ap (is_in e) (sym own.is) ∙ sym (ap (λ o. is_in e (precedence_of o)) is) ∙ ap (λ y. is_in e (line h y)) (sym same) ∙ q)
          (λ one.
          let s = has_row (slice_get (take c h.rows) one.super) d one.holds in
          let k = taken c h.rows one.super s.row s.is in
          let down : is_in d (line h one.super) ≡ true = ap (λ o. is_in d (precedence_of o)) k.1 ∙ s.holds in
          let up : is_in e (line h one.super) ≡ true = rest one.super (omega (arith, k.0)) down in
          let there : is_in e (precedence_of (slice_get (take c h.rows) one.super)) ≡ true =
          ap (λ o. is_in e (precedence_of o)) (s.is ∙ sym k.1) ∙ up in
          into_below (take c h.rows) c own.supers e (record { super = one.super; there = one.there; holds = there }))
          (in_below (take c h.rows) c own.supers d (ap (is_in d) (sym own.is) ∙ holds)))
          (either c)

pub through : (h : Hierarchy) (c d e : ℕ) → IsHierarchy h → is_in d (line h c) ≡ true → is_in e (line h d) ≡ true → is_in e (line h c) ≡ true
through h c d e x p q = through_below h x (c + 1) c (omega arith) d e p q
