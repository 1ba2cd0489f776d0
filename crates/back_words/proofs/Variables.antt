-- The words of variables are told apart by texts.
use Rattle.std.proofs.Common.{◌≡◌, ◌≢◌, ℕ, zero, suc, ◌+◌, ◌*◌, ◌<◌, ◌≤◌, Bool, true, false, List, [], ◌∷◌, length, map, Some, refl, sym, ◌∙◌, ap, subst, arith}
use Rattle.std.specs.Prelude.{nat_lt, slice_get, slice_index_or, if◌then◌else◌}
use Rattle.std.specs.List.{range_with_len, position_or_len}
use Rattle.std.specs.Str.{bytes_eq}
use Rattle.std.proofs.lemmas.Bool.Decides.{nat_tests}
use Rattle.std.proofs.lemmas.Option.{slice_get_within}
use Rattle.std.proofs.lemmas.List.FromFn.{get_or-map-range_with_len}
use Rattle.lang_meaning.specs.Cells.{one_of_each}
use Rattle.back_words.specs.Variables.{number_among, address_among}
use Rattle.back_words.proofs.Firsts.{Found, below_found, one_found}

pub past : (f : ℕ → ℕ) (a m n d : ℕ) → m ≤ n → slice_index_or (map f (range_with_len a m)) n d ≡ d
past f a zero n d h = refl
past f a (suc m) zero d h = absurd (omega arith)
past f a (suc m) (suc n) d h = past f (a + 1) m n d (omega arith)

-- the word of a name that has one
pub record WordOf (group : ℕ → List ℕ) (start : ℕ) (firsts : List ℕ) (n address : ℕ) : Type 0 where
  pub found : Found group firsts n
  pub address_is : address ≡ start + 4 * number_among group firsts n
  pub below : number_among group firsts n < length firsts

module _ (group : ℕ → List ℕ) (start count : ℕ) (firsts : List ℕ) where
  abbrev pub address_of : ℕ → ℕ
  address_of n = slice_index_or (map (address_among group start firsts) (range_with_len 0 count)) n 0

  in_table : (n : ℕ) → n < count → address_of n ≡ address_among group start firsts n
  in_table n h = get_or-map-range_with_len (address_among group start firsts) 0 count n n 0 h (omega arith)

  pub has_word : (n : ℕ) → 1 ≤ address_of n → WordOf group start firsts n (address_of n)
  has_word n some = by_count (nat_lt n count) refl
    where
      by_number : (b : Bool) → nat_lt (number_among group firsts n) (length firsts) ≡ b → n < count → WordOf group start firsts n (address_of n)
      by_number true e h =
          let below : number_among group firsts n < length firsts = grind (arith, nat_tests) in
          record {
            found = below_found group firsts n below;
            address_is = in_table n h ∙ ap (λ b. if b then start + 4 * number_among group firsts n else 0) e;
            below = below;
          }
      by_number false e h =
          let none : address_of n ≡ 0 = in_table n h ∙ ap (λ b. if b then start + 4 * number_among group firsts n else 0) e in
          absurd (omega (arith, none, some))

      by_count : (b : Bool) → nat_lt n count ≡ b → WordOf group start firsts n (address_of n)
      by_count true e =
          let h : n < count = grind (arith, nat_tests) in
          by_number (nat_lt (number_among group firsts n) (length firsts)) refl h
      by_count false e =
          let h : count ≤ n = grind (arith, nat_tests) in
          let none : address_of n ≡ 0 = past (address_among group start firsts) 0 count n 0 h in
          absurd (omega (arith, none, some))

  -- a name that was given has one
  pub word_given : (n : ℕ) → n < count → Found group firsts n → address_of n ≡ start + 4 * number_among group firsts n
  word_given n h found =
      let below : number_among group firsts n < length firsts = slice_get_within firsts (number_among group firsts n) found.first found.there in
      let test : nat_lt (number_among group firsts n) (length firsts) ≡ true = grind (arith, nat_tests) in
      in_table n h ∙ ap (λ b. if b then start + 4 * number_among group firsts n else 0) test

some_same : (x y : ℕ) → Some x ≡ Some y → x ≡ y
some_same x y e = cc e

-- names of one group have one word, and names with one word are of one group
pub same_word : (group : ℕ → List ℕ) (start : ℕ) (firsts : List ℕ) (m n a b : ℕ) → WordOf group start firsts m a → WordOf group start firsts n b
    → group m ≡ group n → a ≡ b
same_word group start firsts m n a b of_m of_n same =
    let numbers : number_among group firsts m ≡ number_among group firsts n =
    ap (λ g. position_or_len (λ first. bytes_eq g (group first)) firsts) same in
    omega (arith, of_m.address_is, of_n.address_is, numbers)

pub word_same : (group : ℕ → List ℕ) (start : ℕ) (firsts : List ℕ) (m n a b : ℕ) → WordOf group start firsts m a → WordOf group start firsts n b
    → a ≡ b → group m ≡ group n
word_same group start firsts m n a b of_m of_n same =
    let numbers : number_among group firsts m ≡ number_among group firsts n = omega (arith, of_m.address_is, of_n.address_is, same) in
    let first : of_m.found.first ≡ of_n.found.first =
    some_same of_m.found.first of_n.found.first (sym of_m.found.there ∙ ap (slice_get firsts) numbers ∙ of_n.found.there) in
    sym of_m.found.same ∙ ap group first ∙ of_n.found.same
