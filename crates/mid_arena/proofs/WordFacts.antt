-- Facts about words: their tags and bytes, the words of integers and characters, headers, and what tests on them tell.
use Rattle.std.proofs.Common.{◌≡◌, ℕ, suc, ◌+◌, ◌-◌, ◌*◌, ◌/◌, ◌%◌, ◌^◌, ◌<◌, ◌≤◌, ℤ, pos, Bool, true, false, Option, Some, None, refl, sym, ap, ◌∙◌, arith}
use Rattle.std.specs.Prelude.{negsuc, ◌==◌, nat_lt, nat_le, int_lt, int_le, not, ◌&&◌, ◌||◌, ◌*ℤ◌, FitsSigned, is_some, if◌then◌else◌}
use Rattle.std.specs.Int.{w32}
use Rattle.std.proofs.lemmas.Int.{ints}
use borrow.Author.Differences.{up, down, true_is_lt, false_is_lt, true_is_le, false_is_le}
use Rattle.std.proofs.lemmas.Bool.{eqb-true, eq-eqb, not-true, ltb-true, leb-true, le-ltb, and_left, and_right}
use Rattle.std.proofs.lemmas.Bool.Decides.{nat_tests}
use Rattle.mid_code.specs.declared.operation.Comparison.TheVariants as comparison
use Rattle.base.specs.Arithmetic.{less_signed, sum32, product32, difference32}
use Rattle.mid_code.specs.Words.{compares}
use Rattle.mid_code.proofs.WordBounds.{first_true, second_true}
use Rattle.base.specs.Arithmetic.{low_word, signed, shift_left, shift_right}
use Rattle.lang_meaning.specs.Values.{in_range, int_equal}
use Rattle.lang_meaning.specs.Primitives.{index_of, length_of, byte_of}
use Rattle.mid_arena.specs.Tags.{integer_word, character_word, nil_word, instance_header}

-- two tests that follow from one another
pub same_truth : (a b : Bool) → (a ≡ true → b ≡ true) → (b ≡ true → a ≡ true) → a ≡ b
same_truth true b f g = sym (f refl)
same_truth false true f g = g refl
same_truth false false f g = refl

-- ---- tags and bytes of any word

pub low_byte_alone : (w : ℕ) → shift_right (shift_left w 24) 24 ≡ w % 256
low_byte_alone w = omega arith

-- to compare the shifted tag with a tag's bits tells the tag
pub tag_tested : (w t : ℕ) → (shift_left w 30 == 2 ^ 30 * t) ≡ (w % 4 == t)
tag_tested w t = grind (arith, nat_tests)

pub low_four_bits_tested : (w t : ℕ) → (shift_left w 28 == 2 ^ 28 * t) ≡ (w % 16 == t)
low_four_bits_tested w t = grind (arith, nat_tests)

pub low_byte_tested : (w c : ℕ) → (shift_left w 24 == 2 ^ 24 * c) ≡ (w % 256 == c)
low_byte_tested w c = grind (arith, nat_tests)

-- ---- sums and products by four that fit in a word

pub sum_fits : (a b : ℕ) → a + b < 2 ^ 32 → sum32 a b ≡ a + b
sum_fits a b h = omega arith

pub four_times_count : (count : ℕ) → 4 * count < 2 ^ 32 → shift_left count 2 ≡ 4 * count
four_times_count count h = omega arith

-- ---- the lowest 32 bits of a number

pub low_word_of_pos : (n : ℕ) → low_word (pos n) ≡ n % 2 ^ 32
unfolding low_word
low_word_of_pos n = refl

pub low_word_of_negsuc : (n : ℕ) → low_word (negsuc n) ≡ 2 ^ 32 - 1 - n % 2 ^ 32
unfolding low_word
low_word_of_negsuc n = refl

pub low_word_below : (z : ℤ) → low_word z < 2 ^ 32
unfolding low_word
low_word_below (pos n) = omega arith
low_word_below (negsuc n) = omega arith

-- a number and its lowest 32 bits are apart by a multiple of 2 ^ 32: z + 2 ^ 32 j = low_word z + 2 ^ 32 k
pub record IsApartBy (z : ℤ) (w j k : ℕ) : Type 0 where
  pub below : w < 2 ^ 32
  pub balance : up z + 2 ^ 32 * j ≡ w + 2 ^ 32 * k + down z

pub low_word_apart : (z : ℤ) → (j : ℕ) × (k : ℕ) × IsApartBy z (low_word z) j k
unfolding low_word
low_word_apart (pos n) = (0, n / 2 ^ 32, record { below = omega arith; balance = omega arith })
low_word_apart (negsuc n) = (n / 2 ^ 32 + 1, 0, record { below = omega arith; balance = omega arith })

-- and no other word is
pub low_word_is : (z : ℤ) (w j k : ℕ) → IsApartBy z w j k → low_word z ≡ w
unfolding low_word
low_word_is (pos n) w j k h = omega (arith, h.below, h.balance)
low_word_is (negsuc n) w j k h = omega (arith, h.below, h.balance)

pub low_word_of_word : (w : ℕ) → w < 2 ^ 32 → low_word (pos w) ≡ w
low_word_of_word w h = low_word_is (pos w) w 0 0 (record { below = h; balance = omega arith })

-- numbers apart by a multiple of 2 ^ 32 have the same
pub same_low_word : (z r : ℤ) (j k : ℕ) → up z + 2 ^ 32 * j + down r ≡ up r + 2 ^ 32 * k + down z → low_word z ≡ low_word r
same_low_word z r j k e =
    let s = low_word_apart r in
    low_word_is z (low_word r) (j + s.0) (k + s.1) (record { below = low_word_below r; balance = omega (arith, s.2.balance) })

-- ---- words as signed numbers

pub signed_low : (w : ℕ) → w < 2 ^ 31 → signed w ≡ pos w
signed_low w h = omega (arith, ints)

pub signed_high : (w : ℕ) → 2 ^ 31 ≤ w → signed w ≡ negsuc (2 ^ 32 - suc w)
signed_high w h = grind (arith, nat_tests)

pub signed_low_word : (z : ℤ) → FitsSigned w32 z → signed (low_word z) ≡ z
signed_low_word (pos n) f =
    let n_low : n < 2 ^ 31 = omega (arith, ints) in
    let is : low_word (pos n) ≡ n = low_word_of_word n (omega arith) in
    rw is (signed_low n n_low)
signed_low_word (negsuc n) f =
    let n_low : n < 2 ^ 31 = omega (arith, ints) in
    let is : low_word (negsuc n) ≡ 2 ^ 32 - suc n = low_word_is (negsuc n) (2 ^ 32 - suc n) 1 0 (record { below = omega arith; balance = omega arith }) in
    rw is (signed_high (2 ^ 32 - suc n) (omega arith) ∙ ap negsuc (omega arith))

-- the number that the lowest 32 bits of z stand for is the one in range that is apart from z by a multiple of 2 ^ 32
pub signed_is : (z r : ℤ) (j k : ℕ) → up z + 2 ^ 32 * j + down r ≡ up r + 2 ^ 32 * k + down z → FitsSigned w32 r → signed (low_word z) ≡ r
signed_is z r j k e f = rw (same_low_word z r j k e) (signed_low_word r f)

-- ---- words of integers

pub integer_word_tag : (n : ℤ) → integer_word n % 4 ≡ 0
integer_word_tag n = let s = low_word_apart (pos 4 *ℤ n) in omega (arith, ints, s.2.balance)

pub integer_word_of_pos : (k : ℕ) → k < 2 ^ 30 → integer_word (pos k) ≡ 4 * k
integer_word_of_pos k h = low_word_of_word (4 * k) (omega arith)

pub integer_word_of_negsuc : (k : ℕ) → k < 2 ^ 30 → integer_word (negsuc k) ≡ 2 ^ 32 - 4 * suc k
integer_word_of_negsuc k h = low_word_is (pos 4 *ℤ negsuc k) _ 1 0 (record { below = omega arith; balance = omega (arith, ints) })

-- an integer in range, in the terms of `omega`
pub range_tells : (n : ℤ) → in_range n ≡ true → (up n < 2 ^ 29 + down n) × (down n ≤ 2 ^ 29 + up n)
range_tells n h = grind (arith, ints)

-- and the other way
pub in_range_is : (n : ℤ) → up n < 2 ^ 29 + down n → down n ≤ 2 ^ 29 + up n → in_range n ≡ true
in_range_is n g h = let low = sym (true_is_le (negsuc 536870911) n (omega arith)) in let high = sym (true_is_le n (pos 536870911) (omega arith)) in (λ i. low i && high i)

pub above_range_is : (n : ℤ) → 2 ^ 29 + down n ≤ up n → in_range n ≡ false
above_range_is n h = and_right (int_le (negsuc 536870911) n) _ (sym (false_is_le n (pos 536870911) (omega arith)))

pub below_range_is : (n : ℤ) → 2 ^ 29 + up n < down n → in_range n ≡ false
below_range_is n h = and_left _ (int_le n (pos 536870911)) (sym (false_is_le (negsuc 536870911) n (omega arith)))

pub four_fits : (n : ℤ) → in_range n ≡ true → FitsSigned w32 (pos 4 *ℤ n)
four_fits n h = let s = range_tells n h in omega (arith, ints)

pub signed_integer_word : (n : ℤ) → in_range n ≡ true → signed (integer_word n) ≡ pos 4 *ℤ n
signed_integer_word n h = signed_low_word (pos 4 *ℤ n) (four_fits n h)

pub integer_word_one_to_one : (a b : ℤ) → in_range a ≡ true → in_range b ≡ true → integer_word a ≡ integer_word b → a ≡ b
integer_word_one_to_one a b g h e =
    let same : pos 4 *ℤ a ≡ pos 4 *ℤ b = sym (signed_integer_word a g) ∙ ap signed e ∙ signed_integer_word b h in
    omega (arith, ints)

-- ---- tests of two words of integers

pub four_times_below : (a b : ℤ) → int_lt (pos 4 *ℤ a) (pos 4 *ℤ b) ≡ int_lt a b
four_times_below a b = same_truth _ _ (λ h. sym (true_is_lt a b (omega (arith, ints)))) (λ h. sym (true_is_lt (pos 4 *ℤ a) (pos 4 *ℤ b) (omega (arith, ints))))

pub int_equal_tells : (a b : ℤ) → int_equal a b ≡ true → a ≡ b
int_equal_tells a b h =
    let first : int_le a b ≡ true = first_true (int_le a b) (int_le b a) h in
    let second : int_le b a ≡ true = second_true (int_le a b) (int_le b a) h in
    omega (arith, ints)

pub int_equal_same : (a : ℤ) → int_equal a a ≡ true
int_equal_same a = let self = sym (true_is_le a a (omega (arith, ints))) in (λ i. self i && self i)

pub integer_word_equal : (a b : ℤ) → in_range a ≡ true → in_range b ≡ true → (integer_word a == integer_word b) ≡ int_equal a b
integer_word_equal a b g h = same_truth _ _ there back
  where
    there : (integer_word a == integer_word b) ≡ true → int_equal a b ≡ true
    there e = rw (integer_word_one_to_one a b g h (eqb-true _ _ e)) (int_equal_same b)

    back : int_equal a b ≡ true → (integer_word a == integer_word b) ≡ true
    back e = rw (int_equal_tells a b e) (eq-eqb _ _ refl)

pub integers_compare_equal : (a b : ℤ) → in_range a ≡ true → in_range b ≡ true → compares comparison.Equal (integer_word a) (integer_word b) ≡ int_equal a b
integers_compare_equal = integer_word_equal

pub integers_compare_different : (a b : ℤ) → in_range a ≡ true → in_range b ≡ true → compares comparison.Different (integer_word a) (integer_word b) ≡ not (int_equal a b)
integers_compare_different a b g h = ap not (integer_word_equal a b g h)

pub integers_compare_less : (a b : ℤ) → in_range a ≡ true → in_range b ≡ true → compares comparison.Less (integer_word a) (integer_word b) ≡ int_lt a b
integers_compare_less a b g h = (λ i. int_lt (signed_integer_word a g i) (signed_integer_word b h i)) ∙ four_times_below a b

pub integers_compare_at_least : (a b : ℤ) → in_range a ≡ true → in_range b ≡ true → compares comparison.AtLeast (integer_word a) (integer_word b) ≡ not (int_lt a b)
integers_compare_at_least a b g h = ap not (integers_compare_less a b g h)

-- one of two numbers is less or the other is at most it
pub not_below : (a b : ℤ) → not (int_lt a b) ≡ int_le b a
not_below a b = same_truth _ _ (λ h. sym (true_is_le b a (omega (arith, ints, not-true _ h)))) (λ h. ap not (sym (false_is_lt a b (omega (arith, ints)))))

-- whether an integer is zero, negative or positive
pub integer_is_zero : (a : ℤ) → in_range a ≡ true → (integer_word a == 0) ≡ int_equal a (pos 0)
integer_is_zero a g = rw (low_word_of_pos 0) at (integer_word_equal a (pos 0) g refl)

pub is_negative : (a : ℤ) → in_range a ≡ true → less_signed (integer_word a) 0 ≡ int_lt a (pos 0)
is_negative a g = (λ i. int_lt (signed_integer_word a g i) (pos 0)) ∙ four_times_below a (pos 0)

pub integers_compare_at_most : (a b : ℤ) → in_range a ≡ true → in_range b ≡ true → compares comparison.AtLeast (integer_word b) (integer_word a) ≡ int_le a b
integers_compare_at_most a b g h = integers_compare_at_least b a h g ∙ not_below b a

-- integers as lengths and as codes of characters

pub length_tested : (n : ℤ) → in_range n ≡ true → compares comparison.AtLeast (integer_word n) 0 ≡ is_some (length_of n)
length_tested (pos k) g = ap not (is_negative (pos k) g ∙ sym (false_is_lt (pos k) (pos 0) (omega arith)))
length_tested (negsuc k) g = ap not (is_negative (negsuc k) g)

pub length_word : (n : ℤ) (k : ℕ) → in_range n ≡ true → length_of n ≡ Some k → (n ≡ pos k) × (integer_word n ≡ 4 * k) × (k < 2 ^ 29)
length_word (pos j) k g e =
    let range = range_tells (pos j) g in
    let same : j ≡ k = cc e in
    (ap pos same, integer_word_of_pos j (omega (arith, range.0)) ∙ ap (λ x. 4 * x) same, omega (arith, range.0, same))
length_word (negsuc j) k g e = absurd (cc e)

pub byte_tested : (n : ℤ) → in_range n ≡ true → compares comparison.LessUnsigned (integer_word n) 1024 ≡ is_some (byte_of n)
byte_tested (pos k) g =
    let range = range_tells (pos k) g in
    rw (integer_word_of_pos k (omega (arith, range.0))) (four_times k ∙ there (nat_le k 255))
  where
    four_times : (a : ℕ) → nat_lt (4 * a) 1024 ≡ nat_le a 255
    four_times a = grind (arith, nat_tests)

    there : (t : Bool) → t ≡ is_some (if◌then◌else◌ {A = Option ℕ} t (Some k) None)
    there true = refl
    there false = refl
byte_tested (negsuc k) g =
    let range = range_tells (negsuc k) g in
    rw (integer_word_of_negsuc k (omega (arith, range.1))) (le-ltb _ _ (omega (arith, range.1)))

pub byte_word : (n : ℤ) (c : ℕ) → byte_of n ≡ Some c → (n ≡ pos c) × (c ≤ 255) × (integer_word n ≡ 4 * c)
byte_word (pos k) c e = from (nat_le k 255) refl e
  where
    from : (t : Bool) → nat_le k 255 ≡ t → (if t then Some k else None) ≡ Some c → (pos k ≡ pos c) × (c ≤ 255) × (integer_word (pos k) ≡ 4 * c)
    from true below is =
        let same : k ≡ c = cc is in
        let small = leb-true k 255 below in
        (ap pos same, omega (arith, same, small), integer_word_of_pos k (omega (arith, small)) ∙ ap (λ x. 4 * x) same)
    from false above is = absurd (cc is)
byte_word (negsuc k) c e = absurd (cc e)

-- an integer that is read as a byte, and the one that is read at the end
pub byte_read : (c : ℕ) → c < 256 → shift_left c 2 ≡ integer_word (pos c)
byte_read c h = rw (integer_word_of_pos c (omega arith)) (omega arith)

pub end_read : shift_left (2 ^ 32 - 1) 2 ≡ integer_word (negsuc 0)
end_read = sym (integer_word_of_negsuc 0 (omega arith))

-- the next serial number, as an integer of 29 bits
pub next_serial : (n : ℕ) → shift_right (shift_left (sum32 (4 * (n % 2 ^ 29)) 4) 1) 1 ≡ 4 * ((n + 1) % 2 ^ 29)
next_serial n = omega arith

-- ---- characters

-- the code of a character, and the integer of it
pub character_code : (c : ℕ) → shift_right (character_word c) 8 ≡ c
character_code c = omega arith

pub character_integer : (c : ℕ) → c ≤ 255 → shift_left (shift_right (character_word c) 8) 2 ≡ integer_word (pos c)
character_integer c h = rw (integer_word_of_pos c (omega arith)) (omega arith)

-- and back
pub character_of_integer : (c : ℕ) → c ≤ 255 → sum32 (shift_left (integer_word (pos c)) 6) 15 ≡ character_word c
character_of_integer c h = rw (integer_word_of_pos c (omega arith)) (omega arith)

-- ---- words that are equal

-- a word is that one where their difference is below 1
pub equal_bit : (a b : ℕ) → a < 2 ^ 32 → b < 2 ^ 32 → nat_lt (difference32 a b) 1 ≡ (a == b)
equal_bit a b g h = grind (arith, nat_tests)

-- ---- headers

-- whether a header is that one or the next one
pub two_headers_tested : (h header : ℕ) → h < 2 ^ 32 → suc header < 2 ^ 32 → nat_lt (difference32 h header) 2 ≡ (h == header || h == suc header)
two_headers_tested h header g k = grind (arith, nat_tests)

pub header_without_kind : (slots : ℕ) → shift_right (instance_header slots) 4 ≡ slots
header_without_kind slots = omega arith

pub instance_header_made : (slots : ℕ) → 16 * slots + 3 < 2 ^ 32 → sum32 (shift_left (4 * slots) 2) 3 ≡ instance_header slots
instance_header_made slots h = omega arith

-- ---- words of t and nil

-- 1 or 0 for a word that is not nil, or is
pub truth_bit : (w : ℕ) → w < 2 ^ 32 → nat_lt 0 (difference32 w nil_word) ≡ not (w == nil_word)
truth_bit w h = grind (arith, nat_tests)

-- a word or nil, for 1 or 0
pub word_or_nil : (w : ℕ) (b : Bool) → w < 2 ^ 32 → sum32 (product32 (difference32 w nil_word) (if b then 1 else 0)) nil_word ≡ if b then w else nil_word
word_or_nil w true h = omega arith
word_or_nil w false h = omega arith

-- ---- indices

-- an integer that is an index of a list, and its word
pub index_is : (n : ℤ) (count i : ℕ) → index_of n count ≡ Some i → (n ≡ pos i) × (i < count)
index_is (pos k) count i e = from (nat_lt k count) refl e
  where
    from : (t : Bool) → nat_lt k count ≡ t → (if t then Some k else None) ≡ Some i → (pos k ≡ pos i) × (i < count)
    from true below is = let same : k ≡ i = cc is in (ap pos same, omega (arith, same, ltb-true k count below))
    from false above is = absurd (cc is)
index_is (negsuc k) count i e = absurd (cc e)

pub index_word : (n : ℤ) (count i : ℕ) → count < 2 ^ 29 → index_of n count ≡ Some i → integer_word n ≡ 4 * i
index_word n count i h e = let is = index_is n count i e in rw is.0 (integer_word_of_pos i (omega (arith, is.1)))

-- the test of a word against four times a count tells whether the integer is an index
pub index_tested : (n : ℤ) (count : ℕ) → in_range n ≡ true → count < 2 ^ 29 → compares comparison.LessUnsigned (integer_word n) (4 * count) ≡ is_some (index_of n count)
index_tested (pos i) count g h =
    let s = range_tells (pos i) g in
    let is : integer_word (pos i) ≡ 4 * i = integer_word_of_pos i (omega (arith, s.0)) in
    rw is (four_times_less i count ∙ there (nat_lt i count))
  where
    four_times_less : (a b : ℕ) → nat_lt (4 * a) (4 * b) ≡ nat_lt a b
    four_times_less a b = grind (arith, nat_tests)

    there : (t : Bool) → t ≡ is_some (if◌then◌else◌ {A = Option ℕ} t (Some i) None)
    there true = refl
    there false = refl
index_tested (negsuc i) count g h =
    let s = range_tells (negsuc i) g in
    let is : integer_word (negsuc i) ≡ 2 ^ 32 - 4 * suc i = integer_word_of_negsuc i (omega (arith, s.1)) in
    rw is (le-ltb _ _ (omega (arith, s.1)))
