-- Structures that are alike are equal, and equal ones are alike.
use Rattle.std.proofs.Common.{◌≡◌, ℕ, ℤ, pos, negsuc, ◌==◌, Bool, true, false, ◌&&◌, refl, ap, subst, ◌∙◌, arith}
use Rattle.std.proofs.lemmas.Bool.Decides.{nat_tests}
use Rattle.std.proofs.lemmas.Slice.Eq.{bytes_eq-Decides}
use Rattle.lang_meaning.specs.Values.{SymbolValue, named, unnamed, Value, nil, integer, character, symbol, object, same, same_symbol}
use Rattle.lang_library_laws.specs.Structures.{Structure, Structures, atom, pair, text, row, no_structure, structure_and, alike, alike_each}
use Rattle.lang_library_laws.specs.Laws.{LawOfAlike}
use Rattle.lang_library_laws.proofs.Structures.{same_values}

-- both of two that are true together
first_true : (a b : Bool) → a && b ≡ true → a ≡ true
first_true true b h = refl
first_true false b h = h

second_true : (a b : Bool) → a && b ≡ true → b ≡ true
second_true true b h = h
second_true false b h = absurd (cc h)

both : (a b : Bool) → a ≡ true → b ≡ true → a && b ≡ true
both a b h g = ap (λ c. c && b) h ∙ g

mutual
  equal_where_alike : (t r : Structure) → alike t r ≡ true → t ≡ r
  equal_where_alike (atom x) (atom y) h = ap atom (same_values x y h)
  equal_where_alike (pair a d) (pair b e) h =
      ap (λ t. pair t d) (equal_where_alike a b (first_true (alike a b) (alike d e) h)) ∙ ap (pair b) (equal_where_alike d e (second_true (alike a b) (alike d e) h))
  equal_where_alike (text a) (text b) h = ap text ((bytes_eq-Decides a b).0 h)
  equal_where_alike (row ts) (row rs) h = ap row (each_where_alike ts rs h)
  equal_where_alike t r h = absurd (cc h)

  each_where_alike : (ts rs : Structures) → alike_each ts rs ≡ true → ts ≡ rs
  each_where_alike no_structure no_structure h = refl
  each_where_alike (structure_and t ts) (structure_and r rs) h =
      ap (λ u. structure_and u ts) (equal_where_alike t r (first_true (alike t r) (alike_each ts rs) h))
      ∙ ap (structure_and r) (each_where_alike ts rs (second_true (alike t r) (alike_each ts rs) h))
  each_where_alike ts rs h = absurd (cc h)

-- a value is the same as itself
same_integer : (n : ℤ) → same (integer n) (integer n) ≡ true
same_integer (pos n) = grind (arith, nat_tests)
same_integer (negsuc n) = grind (arith, nat_tests)

same_number : (n : ℕ) → (n == n) ≡ true
same_number n = grind (arith, nat_tests)

same_as_itself : (x : Value) → same x x ≡ true
same_as_itself (integer n) = same_integer n
same_as_itself (character c) = same_number c
same_as_itself (symbol (named a)) = (bytes_eq-Decides a a).1 refl
same_as_itself (symbol (unnamed x s)) = both (x == x) (s == s) (same_number x) (same_number s)
same_as_itself nil = refl
same_as_itself (object i) = same_number i

mutual
  alike_itself : (t : Structure) → alike t t ≡ true
  alike_itself (atom x) = same_as_itself x
  alike_itself (pair a d) = both (alike a a) (alike d d) (alike_itself a) (alike_itself d)
  alike_itself (text a) = (bytes_eq-Decides a a).1 refl
  alike_itself (row ts) = each_alike_itself ts

  each_alike_itself : (ts : Structures) → alike_each ts ts ≡ true
  each_alike_itself no_structure = refl
  each_alike_itself (structure_and t ts) = both (alike t t) (alike_each ts ts) (alike_itself t) (each_alike_itself ts)

pub law_of_alike : LawOfAlike
law_of_alike t r = (equal_where_alike t r, λ e. subst (λ u. alike t u ≡ true) e (alike_itself t))
