-- Bytes in words: a byte of a text by its number, a text with one byte changed, and one whose bytes are all the same.
use Rattle.std.proofs.Common.{◌≡◌, ℕ, zero, suc, ◌+◌, ◌*◌, ◌/◌, ◌%◌, ◌^◌, ◌<◌, ◌≤◌, List, length, replicate, ⊎_elim, refl, sym, ap, ◌∙◌, arith}
use Rattle.std.specs.Prelude.{slice_set, ◌≢◌}
use Rattle.std.proofs.Math.ListN.{length-set, length-replicate}
use Rattle.std.proofs.lemmas.List.{get_or-replicate, get_or-set_same, get_or-set_other, get_or_past}
use Rattle.std.proofs.lemmas.Bool.{cases_lt, cases_eq}
use Rattle.base.specs.Arithmetic.{sum32, difference32, product32, shift_left, shift_right}
use Rattle.mid_arena.proofs.WordFacts.{low_byte_alone}
use Rattle.mid_arena.specs.Tags.{character_word}
use Rattle.mid_arena.specs.Layouts.{byte_words, byte_at, packed, AreBytes}

-- ---- bytes of a list

pub byte_below : (bytes : List ℕ) (i : ℕ) → AreBytes bytes → byte_at bytes i < 256
byte_below bytes i b = ⊎_elim (λ h. b i h) (λ h. omega (arith, get_or_past bytes i 0 h)) (cases_lt i (length bytes))

pub byte_changed : (bytes : List ℕ) (i c : ℕ) → i < length bytes → byte_at (slice_set bytes i c) i ≡ c
byte_changed bytes i c h = get_or-set_same bytes i c 0 h

pub byte_unchanged : (bytes : List ℕ) (i j c : ℕ) → j ≢ i → byte_at (slice_set bytes i c) j ≡ byte_at bytes j
byte_unchanged bytes i j c h = get_or-set_other bytes i j c 0 h

pub changed_bytes : (bytes : List ℕ) (i c : ℕ) → AreBytes bytes → c < 256 → AreBytes (slice_set bytes i c)
changed_bytes bytes i c b h j k =
    let same : length (slice_set bytes i c) ≡ length bytes = length-set bytes i c in
    ⊎_elim (λ e. rw e (rw (byte_changed bytes i c (omega (arith, same, e, k))) h))
    (λ e. rw (byte_unchanged bytes i j c e) (b j (omega (arith, same, k)))) (cases_eq j i)

pub replicated_byte : (n c i : ℕ) → i < n → byte_at (replicate n c) i ≡ c
replicated_byte n c i h = get_or-replicate n i c 0 h

pub behind_replicated : (n c i : ℕ) → n ≤ i → byte_at (replicate n c) i ≡ 0
behind_replicated n c i h = get_or_past (replicate n c) i 0 (omega (arith, length-replicate n c))

pub replicated_bytes : (n c : ℕ) → c < 256 → AreBytes (replicate n c)
replicated_bytes n c h i k = let same = length-replicate n c in rw (replicated_byte n c i (omega (arith, same, k))) h

-- ---- words of four bytes

-- a place is the first, second, third or fourth one of its word
data PlaceInWord (i : ℕ) : Type 0 where
  first : i ≡ 4 * (i / 4) → i % 4 ≡ 0 → PlaceInWord i
  second : i ≡ 4 * (i / 4) + 1 → i % 4 ≡ 1 → PlaceInWord i
  third : i ≡ 4 * (i / 4) + 2 → i % 4 ≡ 2 → PlaceInWord i
  fourth : i ≡ 4 * (i / 4) + 3 → i % 4 ≡ 3 → PlaceInWord i

place_in_word : (i : ℕ) → PlaceInWord i
place_in_word i = from (i % 4) refl
  where
    from : (k : ℕ) → i % 4 ≡ k → PlaceInWord i
    from zero r = first (omega arith) r
    from (suc zero) r = second (omega arith) r
    from (suc (suc zero)) r = third (omega arith) r
    from (suc (suc (suc zero))) r = fourth (omega arith) r
    from (suc (suc (suc (suc k)))) r = absurd (omega arith)

-- a byte of four of them
module _ (a b c d : ℕ) (e : a < 256) (f : b < 256) (g : c < 256) (h : d < 256) where
  byte_0 : (a + 256 * b + 65536 * c + 16777216 * d) / 256 ^ 0 % 256 ≡ a
  byte_0 = omega arith

  byte_1 : (a + 256 * b + 65536 * c + 16777216 * d) / 256 ^ 1 % 256 ≡ b
  byte_1 = omega arith

  byte_2 : (a + 256 * b + 65536 * c + 16777216 * d) / 256 ^ 2 % 256 ≡ c
  byte_2 = omega arith

  byte_3 : (a + 256 * b + 65536 * c + 16777216 * d) / 256 ^ 3 % 256 ≡ d
  byte_3 = omega arith

-- the byte with the number i stands in the word with the number i / 4
pub byte_of_packed : (bytes : List ℕ) (i : ℕ) → AreBytes bytes → (packed bytes (4 * (i / 4)) / 256 ^ (i % 4)) % 256 ≡ byte_at bytes i
byte_of_packed bytes i b = from (place_in_word i)
  where
    below : (k : ℕ) → byte_at bytes k < 256
    below k = byte_below bytes k b

    from : PlaceInWord i → (packed bytes (4 * (i / 4)) / 256 ^ (i % 4)) % 256 ≡ byte_at bytes i
    from (first e r) = rw r (byte_0 _ _ _ _ (below (4 * (i / 4))) (below (4 * (i / 4) + 1)) (below (4 * (i / 4) + 2)) (below (4 * (i / 4) + 3)) ∙ sym (ap (byte_at bytes) e))
    from (second e r) = rw r (byte_1 _ _ _ _ (below (4 * (i / 4))) (below (4 * (i / 4) + 1)) (below (4 * (i / 4) + 2)) (below (4 * (i / 4) + 3)) ∙ sym (ap (byte_at bytes) e))
    from (third e r) = rw r (byte_2 _ _ _ _ (below (4 * (i / 4))) (below (4 * (i / 4) + 1)) (below (4 * (i / 4) + 2)) (below (4 * (i / 4) + 3)) ∙ sym (ap (byte_at bytes) e))
    from (fourth e r) = rw r (byte_3 _ _ _ _ (below (4 * (i / 4))) (below (4 * (i / 4) + 1)) (below (4 * (i / 4) + 2)) (below (4 * (i / 4) + 3)) ∙ sym (ap (byte_at bytes) e))

-- ---- by code

-- The offset of the word with a byte from the first one, in register 5, and the number of bits in front of the byte in its word, in register 4, where
-- register 1 has the word of the byte's number:
--     Constant 6 4
--     Compute 5 ShiftRight 1 6
--     Constant 6 2
--     Compute 5 ShiftLeft 5 6
--     Constant 6 28
--     Compute 4 ShiftLeft 1 6
--     Constant 6 27
--     Compute 4 ShiftRight 4 6
-- (`Compute 4 Add 1 1` would serve too, since shifts take the lowest five bits.)
abbrev pub byte_offset : ℕ → ℕ
byte_offset w = shift_left (shift_right w 4) 2

abbrev pub byte_shift : ℕ → ℕ
byte_shift w = shift_right (shift_left w 28) 27

-- The byte of a word, in register 5, where the word was there:
--     Compute 5 ShiftRight 5 4
--     Constant 6 24
--     Compute 5 ShiftLeft 5 6
--     Constant 6 24
--     Compute 5 ShiftRight 5 6
abbrev pub byte_in : (word shift : ℕ) → ℕ
byte_in word shift = shift_right (shift_left (shift_right word shift) 24) 24

-- The word of the character, with 16 for the second 24, and
--     Constant 6 15
--     Compute 5 Add 5 6
abbrev pub character_in : (word shift : ℕ) → ℕ
character_in word shift = sum32 (shift_right (shift_left (shift_right word shift) 24) 16) 15

-- The word with a byte changed: the old byte is taken away where it stands, and the new one is added.
abbrev pub word_changed : (word old new shift : ℕ) → ℕ
word_changed word old new shift = sum32 (difference32 word (shift_left old shift)) (shift_left new shift)

pub byte_offset_is : (i : ℕ) → 4 * i < 2 ^ 32 → byte_offset (4 * i) ≡ 4 * (i / 4)
byte_offset_is i h = omega arith

pub byte_shift_is : (i : ℕ) → byte_shift (4 * i) % 32 ≡ 8 * (i % 4)
byte_shift_is i = omega arith

-- a shift by the bits in front of a byte is by a power of 256
pub byte_power : (i shift : ℕ) → shift % 32 ≡ 8 * (i % 4) → 2 ^ (shift % 32) ≡ 256 ^ (i % 4)
byte_power i shift h = from (place_in_word i)
  where
    from : PlaceInWord i → 2 ^ (shift % 32) ≡ 256 ^ (i % 4)
    from (first e r) = let s : shift % 32 ≡ 0 = omega arith in rw (s, r)
    from (second e r) = let s : shift % 32 ≡ 8 = omega arith in rw (s, r)
    from (third e r) = let s : shift % 32 ≡ 16 = omega arith in rw (s, r)
    from (fourth e r) = let s : shift % 32 ≡ 24 = omega arith in rw (s, r)

pub byte_in_is : (bytes : List ℕ) (i shift : ℕ) → AreBytes bytes → shift % 32 ≡ 8 * (i % 4) → byte_in (packed bytes (4 * (i / 4))) shift ≡ byte_at bytes i
byte_in_is bytes i shift b h =
    let word = packed bytes (4 * (i / 4)) in
    low_byte_alone (shift_right word shift) ∙ ap (λ p. word / p % 256) (byte_power i shift h) ∙ byte_of_packed bytes i b

pub character_in_is :
    (bytes : List ℕ) (i shift : ℕ) → AreBytes bytes → shift % 32 ≡ 8 * (i % 4) → character_in (packed bytes (4 * (i / 4))) shift ≡ character_word (byte_at bytes i)
character_in_is bytes i shift b h =
    raised (shift_right (packed bytes (4 * (i / 4))) shift) ∙ ap character_word (byte_in_is bytes i shift b h)
  where
    raised : (w : ℕ) → sum32 (shift_right (shift_left w 24) 16) 15 ≡ character_word (shift_right (shift_left w 24) 24)
    raised w = omega arith

pub word_changed_is :
    (bytes : List ℕ) (i new shift : ℕ) → AreBytes bytes → i < length bytes → new < 256 → shift % 32 ≡ 8 * (i % 4)
    → word_changed (packed bytes (4 * (i / 4))) (byte_at bytes i) new shift ≡ packed (slice_set bytes i new) (4 * (i / 4))
word_changed_is bytes i new shift b h k l = from (place_in_word i)
  where
    at : (k : ℕ) → byte_at bytes (4 * (i / 4) + k) < 256
    at k = byte_below bytes (4 * (i / 4) + k) b

    other : (j : ℕ) → j ≢ i → byte_at (slice_set bytes i new) j ≡ byte_at bytes j
    other j n = byte_unchanged bytes i j new n

    itself : (j : ℕ) → i ≡ j → byte_at (slice_set bytes i new) j ≡ new
    itself j e = sym (ap (byte_at (slice_set bytes i new)) e) ∙ byte_changed bytes i new h

    from : PlaceInWord i → word_changed (packed bytes (4 * (i / 4))) (byte_at bytes i) new shift ≡ packed (slice_set bytes i new) (4 * (i / 4))
    from (first e r) =
        let s : shift % 32 ≡ 0 = omega arith in
        let old : byte_at bytes i ≡ byte_at bytes (4 * (i / 4)) = ap (byte_at bytes) e in
        let b0 = itself (4 * (i / 4)) e in
        let b1 = other (4 * (i / 4) + 1) (λ x. omega arith) in
        let b2 = other (4 * (i / 4) + 2) (λ x. omega arith) in
        let b3 = other (4 * (i / 4) + 3) (λ x. omega arith) in
        rw s (omega (arith, byte_below bytes (4 * (i / 4)) b, at 1, at 2, at 3))
    from (second e r) =
        let s : shift % 32 ≡ 8 = omega arith in
        let old : byte_at bytes i ≡ byte_at bytes (4 * (i / 4) + 1) = ap (byte_at bytes) e in
        let b0 = other (4 * (i / 4)) (λ x. omega arith) in
        let b1 = itself (4 * (i / 4) + 1) e in
        let b2 = other (4 * (i / 4) + 2) (λ x. omega arith) in
        let b3 = other (4 * (i / 4) + 3) (λ x. omega arith) in
        rw s (omega (arith, byte_below bytes (4 * (i / 4)) b, at 1, at 2, at 3))
    from (third e r) =
        let s : shift % 32 ≡ 16 = omega arith in
        let old : byte_at bytes i ≡ byte_at bytes (4 * (i / 4) + 2) = ap (byte_at bytes) e in
        let b0 = other (4 * (i / 4)) (λ x. omega arith) in
        let b1 = other (4 * (i / 4) + 1) (λ x. omega arith) in
        let b2 = itself (4 * (i / 4) + 2) e in
        let b3 = other (4 * (i / 4) + 3) (λ x. omega arith) in
        rw s (omega (arith, byte_below bytes (4 * (i / 4)) b, at 1, at 2, at 3))
    from (fourth e r) =
        let s : shift % 32 ≡ 24 = omega arith in
        let old : byte_at bytes i ≡ byte_at bytes (4 * (i / 4) + 3) = ap (byte_at bytes) e in
        let b0 = other (4 * (i / 4)) (λ x. omega arith) in
        let b1 = other (4 * (i / 4) + 1) (λ x. omega arith) in
        let b2 = other (4 * (i / 4) + 2) (λ x. omega arith) in
        let b3 = itself (4 * (i / 4) + 3) e in
        rw s (omega (arith, byte_below bytes (4 * (i / 4)) b, at 1, at 2, at 3))

-- the words without the byte stay
pub other_packed : (bytes : List ℕ) (i new k : ℕ) → k ≢ i / 4 → packed (slice_set bytes i new) (4 * k) ≡ packed bytes (4 * k)
other_packed bytes i new k n =
    let b0 = byte_unchanged bytes i (4 * k) new (λ e. n (omega arith)) in
    let b1 = byte_unchanged bytes i (4 * k + 1) new (λ e. n (omega arith)) in
    let b2 = byte_unchanged bytes i (4 * k + 2) new (λ e. n (omega arith)) in
    let b3 = byte_unchanged bytes i (4 * k + 3) new (λ e. n (omega arith)) in
    omega arith

-- ---- how many words bytes take

-- from the word of their number:
--     Constant k 12
--     Compute words Add w k
--     Constant k 4
--     Compute words ShiftRight words k
pub byte_words_is : (count : ℕ) → 4 * count + 12 < 2 ^ 32 → shift_right (sum32 (4 * count) 12) 4 ≡ byte_words count
byte_words_is count h = omega arith

-- the word of a byte is among them
pub word_of_byte_there : (count i : ℕ) → i < count → i / 4 < byte_words count
word_of_byte_there count i h = omega arith

-- ---- texts of one byte many times

-- The word of four bytes c, from c in register 4, in register 4:
--     Constant 6 16843009
--     Compute 4 Multiply 4 6
abbrev pub full_word : ℕ → ℕ
full_word c = product32 c 16843009

-- all words but the last one are full
pub packed_full : (n c k : ℕ) → c < 256 → 4 * k + 4 ≤ n → packed (replicate n c) (4 * k) ≡ full_word c
packed_full n c k h l =
    let b0 = replicated_byte n c (4 * k) (omega arith) in
    let b1 = replicated_byte n c (4 * k + 1) (omega arith) in
    let b2 = replicated_byte n c (4 * k + 2) (omega arith) in
    let b3 = replicated_byte n c (4 * k + 3) (omega arith) in
    omega arith

-- The last word, in register 7: it is full too, or the bytes above those that are left are clear. Register 0 has the word of the number of all.
--     Constant 6 28
--     Compute 7 ShiftLeft 0 6
--     Constant 6 27
--     Compute 7 ShiftRight 7 6
--     Constant 6 32
--     Compute 7 Subtract 6 7          as many bits as are to be clear, in the lowest five bits
--     Compute 7 ShiftRight 4 7
abbrev pub last_shift : ℕ → ℕ
last_shift w = difference32 32 (byte_shift w)

abbrev pub last_word : (full w : ℕ) → ℕ
last_word full w = shift_right full (last_shift w)

pub packed_partial : (n c : ℕ) → c < 256 → n % 4 ≢ 0 → packed (replicate n c) (4 * (n / 4)) ≡ last_word (full_word c) (4 * n)
packed_partial n c h l = from (place_in_word n)
  where
    from : PlaceInWord n → packed (replicate n c) (4 * (n / 4)) ≡ last_word (full_word c) (4 * n)
    from (first e r) = absurd (l r)
    from (second e r) =
        let s : last_shift (4 * n) % 32 ≡ 24 = omega arith in
        let b0 = replicated_byte n c (4 * (n / 4)) (omega arith) in
        let b1 = behind_replicated n c (4 * (n / 4) + 1) (omega arith) in
        let b2 = behind_replicated n c (4 * (n / 4) + 2) (omega arith) in
        let b3 = behind_replicated n c (4 * (n / 4) + 3) (omega arith) in
        rw s (omega arith)
    from (third e r) =
        let s : last_shift (4 * n) % 32 ≡ 16 = omega arith in
        let b0 = replicated_byte n c (4 * (n / 4)) (omega arith) in
        let b1 = replicated_byte n c (4 * (n / 4) + 1) (omega arith) in
        let b2 = behind_replicated n c (4 * (n / 4) + 2) (omega arith) in
        let b3 = behind_replicated n c (4 * (n / 4) + 3) (omega arith) in
        rw s (omega arith)
    from (fourth e r) =
        let s : last_shift (4 * n) % 32 ≡ 8 = omega arith in
        let b0 = replicated_byte n c (4 * (n / 4)) (omega arith) in
        let b1 = replicated_byte n c (4 * (n / 4) + 1) (omega arith) in
        let b2 = replicated_byte n c (4 * (n / 4) + 2) (omega arith) in
        let b3 = behind_replicated n c (4 * (n / 4) + 3) (omega arith) in
        rw s (omega arith)

pub packed_last : (n c k : ℕ) → c < 256 → byte_words n ≡ suc k → packed (replicate n c) (4 * k) ≡ last_word (full_word c) (4 * n)
packed_last n c k h e = ⊎_elim whole (λ l. rw (place l) (packed_partial n c h l)) (cases_eq (n % 4) 0)
  where
    place : n % 4 ≢ 0 → k ≡ n / 4
    place l = omega arith

    whole : n % 4 ≡ 0 → packed (replicate n c) (4 * k) ≡ last_word (full_word c) (4 * n)
    whole l =
        let s : last_shift (4 * n) % 32 ≡ 0 = omega arith in
        let full = packed_full n c k h (omega arith) in
        rw s (omega (arith, full))

-- the words in front of the last one are full
pub packed_in_front : (n c k : ℕ) → c < 256 → suc k < byte_words n → packed (replicate n c) (4 * k) ≡ full_word c
packed_in_front n c k h l = packed_full n c k h (omega arith)
