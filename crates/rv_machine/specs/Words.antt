-- The words of a memory: a word, a half or a byte of it by the word in which it lies.
use Rattle.std.proofs.Common.{◌≡◌, ℕ, zero, suc, ◌+◌, ◌*◌, ◌/◌, ◌%◌, ◌^◌, ◌<◌, ◌≤◌, Bool, true, false, List, [], ◌∷◌, ◌++◌, length, take, drop, get_or, Some, None, refl, sym, ap, ◌∙◌, arith, inl, inr, append_assoc, drop-cons}
use Rattle.std.specs.Prelude.{◌⊎◌, slice_get, slice_set, replicate, if◌then◌else◌, ◌==◌}
use Rattle.std.proofs.lemmas.Bool.Decides.{nat_tests}
use Rattle.std.proofs.lemmas.List.{drop-drop, set_split}
use Rattle.std.proofs.lemmas.Option.{get_or_from_slice_get, slice_get_within}
use Rattle.rv_machine.specs.Memory.{little_endian, bytes_of_number, is_access, number_at, stored_at, bytes_of}

-- the bytes of a word, and the word of four bytes
pub bytes-word : (w : ℕ) → bytes_of_number 4 w ≡ w % 256 ∷ w / 256 % 256 ∷ w / 256 / 256 % 256 ∷ w / 256 / 256 / 256 % 256 ∷ []
unfolding bytes_of_number
bytes-word w = refl

pub bytes_of-cons : (w : ℕ) (ws : List ℕ) → bytes_of (w ∷ ws) ≡ w % 256 ∷ w / 256 % 256 ∷ w / 256 / 256 % 256 ∷ w / 256 / 256 / 256 % 256 ∷ bytes_of ws
unfolding bytes_of bytes_of_number
bytes_of-cons w ws = refl

pub length-bytes_of : (ws : List ℕ) → length (bytes_of ws) ≡ 4 * length ws
unfolding bytes_of bytes_of_number
length-bytes_of [] = refl
length-bytes_of (w ∷ ws) = let h = length-bytes_of ws in omega arith

pub bytes_of-append : (xs ys : List ℕ) → bytes_of (xs ++ ys) ≡ bytes_of xs ++ bytes_of ys
unfolding bytes_of bytes_of_number
bytes_of-append [] ys = refl
bytes_of-append (x ∷ xs) ys = rw (bytes_of-append xs ys) refl

times_four : (i : ℕ) → 4 * suc i ≡ suc (suc (suc (suc (4 * i))))
times_four i = omega arith

drop-none : (n : ℕ) → drop {A = ℕ} n [] ≡ []
drop-none zero = refl
drop-none (suc n) = refl

take-none : (n : ℕ) → take {A = ℕ} n [] ≡ []
take-none zero = refl
take-none (suc n) = refl

pub drop-bytes_of : (i : ℕ) (ws : List ℕ) → drop (4 * i) (bytes_of ws) ≡ bytes_of (drop i ws)
unfolding bytes_of bytes_of_number
drop-bytes_of zero ws = refl
drop-bytes_of (suc i) [] = drop-none (4 * suc i)
drop-bytes_of (suc i) (w ∷ ws) = ap (λ n. drop n (bytes_of (w ∷ ws))) (times_four i) ∙ drop-bytes_of i ws

pub take-bytes_of : (i : ℕ) (ws : List ℕ) → take (4 * i) (bytes_of ws) ≡ bytes_of (take i ws)
unfolding bytes_of bytes_of_number
take-bytes_of zero ws = refl
take-bytes_of (suc i) [] = take-none (4 * suc i)
take-bytes_of (suc i) (w ∷ ws) =
    ap (λ n. take n (bytes_of (w ∷ ws))) (times_four i)
    ∙ ap (λ rest. w % 256 ∷ w / 256 % 256 ∷ w / 256 / 256 % 256 ∷ w / 256 / 256 / 256 % 256 ∷ rest) (take-bytes_of i ws)

-- words of 0 are bytes of 0
pub bytes_of-replicate : (n : ℕ) → bytes_of (replicate n 0) ≡ replicate (4 * n) 0
unfolding bytes_of bytes_of_number
bytes_of-replicate zero = refl
bytes_of-replicate (suc n) =
    ap (λ l. 0 ∷ 0 ∷ 0 ∷ 0 ∷ l) (bytes_of-replicate n) ∙ sym (ap (λ k. replicate {A = ℕ} k 0) (times_four n))

-- as many words
pub words-count : (ws : List ℕ) → length (bytes_of ws) / 4 ≡ length ws
words-count ws = let h = length-bytes_of ws in omega arith

-- what lies from the j-th byte of the i-th word on
pub from_word : (ws : List ℕ) (i j : ℕ) → i < length ws →
    drop (4 * i + j) (bytes_of ws) ≡ drop j (bytes_of (get_or ws i 0 ∷ drop (suc i) ws))
from_word ws i j h =
    sym (drop-drop j (4 * i) (bytes_of ws))
    ∙ ap (drop j) (drop-bytes_of i ws ∙ ap bytes_of (drop-cons ws i 0 h))

-- an access is one by its numbers
accesses : (size address : ℕ) (memory : List ℕ) → address % size ≡ 0 → address + size ≤ length memory → is_access size address memory ≡ true
accesses size address memory aligned within = grind (arith, nat_tests)

pub number_from : (size address : ℕ) (memory : List ℕ) → address % size ≡ 0 → address + size ≤ length memory → number_at size address memory ≡ Some (little_endian (take size (drop address memory)))
unfolding number_at
number_from size address memory aligned within =
    ap (λ b. if b then Some (little_endian (take size (drop address memory))) else None) (accesses size address memory aligned within)

pub number_misaligned : (size address : ℕ) (memory : List ℕ) → (address % size ≡ 0 → ⊥) → number_at size address memory ≡ None
unfolding number_at
number_misaligned size address memory misaligned =
    let e : is_access size address memory ≡ false = grind (arith, nat_tests) in
    ap (λ b. if b then Some (little_endian (take size (drop address memory))) else None) e

pub number_outside : (size address : ℕ) (memory : List ℕ) → length memory < address + size → number_at size address memory ≡ None
unfolding number_at
number_outside size address memory outside =
    let e : is_access size address memory ≡ false = grind (arith, nat_tests) in
    ap (λ b. if b then Some (little_endian (take size (drop address memory))) else None) e

-- an address by its word and its place in the word
split4 : (a : ℕ) → a ≡ 4 * (a / 4) + a % 4
split4 a = omega arith

-- the bytes of a number, spelled again
low-four : (w : ℕ) → little_endian (bytes_of_number 4 w) ≡ w % 2 ^ 32
unfolding little_endian bytes_of_number
low-four w = omega arith

-- the word at an aligned address is the word there
pub word_read : (ws : List ℕ) (i : ℕ) → i < length ws → get_or ws i 0 < 2 ^ 32 → number_at 4 (4 * i) (bytes_of ws) ≡ Some (get_or ws i 0)
unfolding bytes_of bytes_of_number little_endian
word_read ws i h small =
    let len = length-bytes_of ws in
    let none : 4 * i ≡ 4 * i + 0 = omega arith in
    let w = get_or ws i 0 in
    number_from 4 (4 * i) (bytes_of ws) (omega arith) (omega arith)
    ∙ ap (λ bytes. Some (little_endian (take 4 bytes))) (ap (λ n. drop n (bytes_of ws)) none ∙ from_word ws i 0 h)
    ∙ ap Some (omega arith)

-- no number where the address is misaligned, or none in the words
pub number_none :
    (size a : ℕ) (ws : List ℕ) → 0 < size → ((a % size ≡ 0) × (length ws ≤ a / 4)) ⊎ (a % size ≡ 0 → ⊥)
    → number_at size a (bytes_of ws) ≡ None
number_none size a ws some none =
    let len = length-bytes_of ws in
    elim none [
      | inl past ↦ number_outside size a (bytes_of ws) (omega arith)
      | inr misaligned ↦ number_misaligned size a (bytes_of ws) misaligned
    ]

-- a word, a half and a byte, by the word in which it lies
pub number_at-word :
    (ws : List ℕ) (a : ℕ) → a % 4 ≡ 0 → a / 4 < length ws → get_or ws (a / 4) 0 < 2 ^ 32
    → number_at 4 a (bytes_of ws) ≡ Some (get_or ws (a / 4) 0)
number_at-word ws a aligned within small =
    let place : a ≡ 4 * (a / 4) = omega arith in
    ap (λ x. number_at 4 x (bytes_of ws)) place ∙ word_read ws (a / 4) within small

byte_in : (w j : ℕ) (rest : List ℕ) → j < 4 → little_endian (take 1 (drop j (bytes_of (w ∷ rest)))) ≡ w / 2 ^ (8 * j) % 256
unfolding bytes_of bytes_of_number little_endian
byte_in w zero rest h = omega arith
byte_in w (suc zero) rest h = omega arith
byte_in w (suc (suc zero)) rest h = omega arith
byte_in w (suc (suc (suc zero))) rest h = omega arith
byte_in w (suc (suc (suc (suc j)))) rest h = absurd (omega arith)

half_in : (w j : ℕ) (rest : List ℕ) → j < 4 → j % 2 ≡ 0 → little_endian (take 2 (drop j (bytes_of (w ∷ rest)))) ≡ w / 2 ^ (8 * j) % 65536
unfolding bytes_of bytes_of_number little_endian
half_in w zero rest h e = omega arith
half_in w (suc zero) rest h e = absurd (omega arith)
half_in w (suc (suc zero)) rest h e = omega arith
half_in w (suc (suc (suc zero))) rest h e = absurd (omega arith)
half_in w (suc (suc (suc (suc j)))) rest h e = absurd (omega arith)

pub number_at-byte :
    (ws : List ℕ) (a : ℕ) → a / 4 < length ws
    → number_at 1 a (bytes_of ws) ≡ Some (get_or ws (a / 4) 0 / 2 ^ (8 * (a % 4)) % 256)
number_at-byte ws a within =
    let len = length-bytes_of ws in
    number_from 1 a (bytes_of ws) (omega arith) (omega arith)
    ∙ (ap (λ n. Some (little_endian (take 1 (drop n (bytes_of ws))))) (split4 a)
    ∙ (ap (λ bytes. Some (little_endian (take 1 bytes))) (from_word ws (a / 4) (a % 4) within)
    ∙ ap Some (byte_in (get_or ws (a / 4) 0) (a % 4) (drop (suc (a / 4)) ws) (omega arith))))

pub number_at-half :
    (ws : List ℕ) (a : ℕ) → a % 2 ≡ 0 → a / 4 < length ws
    → number_at 2 a (bytes_of ws) ≡ Some (get_or ws (a / 4) 0 / 2 ^ (8 * (a % 4)) % 65536)
number_at-half ws a aligned within =
    let len = length-bytes_of ws in
    number_from 2 a (bytes_of ws) aligned (omega arith)
    ∙ (ap (λ n. Some (little_endian (take 2 (drop n (bytes_of ws))))) (split4 a)
    ∙ (ap (λ bytes. Some (little_endian (take 2 bytes))) (from_word ws (a / 4) (a % 4) within)
    ∙ ap Some (half_in (get_or ws (a / 4) 0) (a % 4) (drop (suc (a / 4)) ws) (omega arith) (omega arith))))

-- Stores.

pub stored_from : (size address number : ℕ) (memory : List ℕ) → address % size ≡ 0 → address + size ≤ length memory → stored_at size address number memory ≡ Some (take address memory ++ (bytes_of_number size number ++ drop (address + size) memory))
unfolding stored_at
stored_from size address number memory aligned within =
    ap (λ b. if b then Some (take address memory ++ (bytes_of_number size number ++ drop (address + size) memory)) else None) (accesses size address memory aligned within)

pub stored_misaligned : (size address number : ℕ) (memory : List ℕ) → (address % size ≡ 0 → ⊥) → stored_at size address number memory ≡ None
unfolding stored_at
stored_misaligned size address number memory misaligned =
    let e : is_access size address memory ≡ false = grind (arith, nat_tests) in
    ap (λ b. if b then Some (take address memory ++ (bytes_of_number size number ++ drop (address + size) memory)) else None) e

pub stored_outside : (size address number : ℕ) (memory : List ℕ) → length memory < address + size → stored_at size address number memory ≡ None
unfolding stored_at
stored_outside size address number memory outside =
    let e : is_access size address memory ≡ false = grind (arith, nat_tests) in
    ap (λ b. if b then Some (take address memory ++ (bytes_of_number size number ++ drop (address + size) memory)) else None) e

-- what lies before the j-th byte of the i-th word
take-add : (m n : ℕ) (xs : List ℕ) → take (m + n) xs ≡ take m xs ++ take n (drop m xs)
take-add zero n xs = let e : 0 + n ≡ n = omega arith in ap (λ k. take k xs) e
take-add (suc m) n [] = take-none (suc m + n) ∙ sym (take-none n)
take-add (suc m) n (x ∷ xs) =
    let e : suc m + n ≡ suc (m + n) = omega arith in
    ap (λ k. take k (x ∷ xs)) e ∙ ap (λ l. x ∷ l) (take-add m n xs)

to_word : (ws : List ℕ) (i j : ℕ) → i < length ws →
    take (4 * i + j) (bytes_of ws) ≡ bytes_of (take i ws) ++ take j (bytes_of (get_or ws i 0 ∷ drop (suc i) ws))
to_word ws i j h =
    take-add (4 * i) j (bytes_of ws)
    ∙ (ap (λ l. l ++ take j (drop (4 * i) (bytes_of ws))) (take-bytes_of i ws)
    ∙ ap (λ l. bytes_of (take i ws) ++ take j l) (drop-bytes_of i ws ∙ ap bytes_of (drop-cons ws i 0 h)))

-- a store into the i-th word that makes of its bytes those of another word
pub stored_in : (size number : ℕ) (ws : List ℕ) (i j new : ℕ) → i < length ws → (4 * i + j) % size ≡ 0 → j + size ≤ 4
    → take j (bytes_of (get_or ws i 0 ∷ drop (suc i) ws)) ++ (bytes_of_number size number ++ drop (j + size) (bytes_of (get_or ws i 0 ∷ drop (suc i) ws))) ≡ bytes_of (new ∷ drop (suc i) ws)
    → stored_at size (4 * i + j) number (bytes_of ws) ≡ Some (bytes_of (slice_set ws i new))
stored_in size number ws i j new h aligned within e =
    let len = length-bytes_of ws in
    let sums : 4 * i + j + size ≡ 4 * i + (j + size) = omega arith in
    stored_from size (4 * i + j) number (bytes_of ws) aligned (omega arith)
    ∙ (ap (λ l. Some (l ++ (bytes_of_number size number ++ drop (4 * i + j + size) (bytes_of ws)))) (to_word ws i j h)
    ∙ (ap (λ n. Some ((bytes_of (take i ws) ++ take j (bytes_of (get_or ws i 0 ∷ drop (suc i) ws))) ++ (bytes_of_number size number ++ drop n (bytes_of ws)))) sums
    ∙ (ap (λ l. Some ((bytes_of (take i ws) ++ take j (bytes_of (get_or ws i 0 ∷ drop (suc i) ws))) ++ (bytes_of_number size number ++ l))) (from_word ws i (j + size) h)
    ∙ (ap Some (append_assoc (bytes_of (take i ws)) (take j (bytes_of (get_or ws i 0 ∷ drop (suc i) ws))) _)
    ∙ (ap (λ l. Some (bytes_of (take i ws) ++ l)) e
    ∙ ap Some (sym (bytes_of-append (take i ws) (new ∷ drop (suc i) ws)) ∙ ap bytes_of (sym (set_split ws i new h))))))))

-- a word with one of its halves or bytes changed
abbrev pub with_half : ℕ → ℕ → ℕ → ℕ
with_half w place value =
    if place == 0 then w / 65536 * 65536 + value else value * 65536 + w % 65536

abbrev pub with_byte : ℕ → ℕ → ℕ → ℕ
with_byte w place value =
    if place == 0 then w / 256 * 256 + value
    else if place == 1 then w / 65536 * 65536 + value * 256 + w % 256
    else if place == 2 then w / 16777216 * 16777216 + value * 65536 + w % 65536
    else value * 16777216 + w % 16777216

four_same :
    (a b c d a' b' c' d' : ℕ) (rest : List ℕ) → a ≡ a' → b ≡ b' → c ≡ c' → d ≡ d'
    → a ∷ b ∷ c ∷ d ∷ rest ≡ a' ∷ b' ∷ c' ∷ d' ∷ rest
four_same a b c d a' b' c' d' rest p q r s = cc

byte_changed : (w j value : ℕ) (rest : List ℕ) → j < 4 →
    take j (bytes_of (w ∷ rest)) ++ (bytes_of_number 1 value ++ drop (j + 1) (bytes_of (w ∷ rest))) ≡ bytes_of (with_byte w j (value % 256) ∷ rest)
unfolding bytes_of bytes_of_number
byte_changed w zero value rest h =
    four_same _ _ _ _ _ _ _ _ (bytes_of rest) (omega arith) (omega arith) (omega arith) (omega arith)
byte_changed w (suc zero) value rest h =
    four_same _ _ _ _ _ _ _ _ (bytes_of rest) (omega arith) (omega arith) (omega arith) (omega arith)
byte_changed w (suc (suc zero)) value rest h =
    four_same _ _ _ _ _ _ _ _ (bytes_of rest) (omega arith) (omega arith) (omega arith) (omega arith)
byte_changed w (suc (suc (suc zero))) value rest h =
    four_same _ _ _ _ _ _ _ _ (bytes_of rest) (omega arith) (omega arith) (omega arith) (omega arith)
byte_changed w (suc (suc (suc (suc j)))) value rest h = absurd (omega arith)

half_changed : (w j value : ℕ) (rest : List ℕ) → j < 4 → j % 2 ≡ 0 →
    take j (bytes_of (w ∷ rest)) ++ (bytes_of_number 2 value ++ drop (j + 2) (bytes_of (w ∷ rest))) ≡ bytes_of (with_half w j (value % 65536) ∷ rest)
unfolding bytes_of bytes_of_number
half_changed w zero value rest h e =
    four_same _ _ _ _ _ _ _ _ (bytes_of rest) (omega arith) (omega arith) (omega arith) (omega arith)
half_changed w (suc zero) value rest h e = absurd (omega arith)
half_changed w (suc (suc zero)) value rest h e =
    four_same _ _ _ _ _ _ _ _ (bytes_of rest) (omega arith) (omega arith) (omega arith) (omega arith)
half_changed w (suc (suc (suc zero))) value rest h e = absurd (omega arith)
half_changed w (suc (suc (suc (suc j)))) value rest h e = absurd (omega arith)

-- a word, a half and a byte stored, by the word in which it lies
pub stored_at-word : (ws : List ℕ) (a value : ℕ) → a % 4 ≡ 0 → a / 4 < length ws → stored_at 4 a value (bytes_of ws) ≡ Some (bytes_of (slice_set ws (a / 4) value))
unfolding bytes_of bytes_of_number
stored_at-word ws a value aligned within =
    let place : a ≡ 4 * (a / 4) + 0 = omega arith in
    ap (λ x. stored_at 4 x value (bytes_of ws)) place
    ∙ stored_in 4 value ws (a / 4) 0 value within (omega arith) (omega arith) refl

pub stored_at-half :
    (ws : List ℕ) (a value new : ℕ) → a % 2 ≡ 0 → a / 4 < length ws
    → new ≡ with_half (get_or ws (a / 4) 0) (a % 4) (value % 65536)
    → stored_at 2 a value (bytes_of ws) ≡ Some (bytes_of (slice_set ws (a / 4) new))
stored_at-half ws a value new aligned within e =
    ap (λ x. stored_at 2 x value (bytes_of ws)) (split4 a)
    ∙ (stored_in 2 value ws (a / 4) (a % 4) _ within (omega arith) (omega arith)
    (half_changed (get_or ws (a / 4) 0) (a % 4) value (drop (suc (a / 4)) ws) (omega arith) (omega arith))
    ∙ ap (λ w. Some (bytes_of (slice_set ws (a / 4) w))) (sym e))

pub stored_at-byte :
    (ws : List ℕ) (a value new : ℕ) → a / 4 < length ws
    → new ≡ with_byte (get_or ws (a / 4) 0) (a % 4) (value % 256)
    → stored_at 1 a value (bytes_of ws) ≡ Some (bytes_of (slice_set ws (a / 4) new))
stored_at-byte ws a value new within e =
    ap (λ x. stored_at 1 x value (bytes_of ws)) (split4 a)
    ∙ (stored_in 1 value ws (a / 4) (a % 4) _ within (omega arith) (omega arith)
    (byte_changed (get_or ws (a / 4) 0) (a % 4) value (drop (suc (a / 4)) ws) (omega arith))
    ∙ ap (λ w. Some (bytes_of (slice_set ws (a / 4) w))) (sym e))

-- none is stored where the address is misaligned, or none in the words
pub stored_none :
    (size a value : ℕ) (ws : List ℕ) → 0 < size → ((a % size ≡ 0) × (length ws ≤ a / 4)) ⊎ (a % size ≡ 0 → ⊥)
    → stored_at size a value (bytes_of ws) ≡ None
stored_none size a value ws some none =
    let len = length-bytes_of ws in
    elim none [
      | inl past ↦ stored_outside size a value (bytes_of ws) (omega arith)
      | inr misaligned ↦ stored_misaligned size a value (bytes_of ws) misaligned
    ]

-- the word of a place, and one word changed
pub word_there :
    (words : List ℕ) (i word : ℕ) → slice_get words i ≡ Some word → word < 2 ^ 32
    → number_at 4 (4 * i) (bytes_of words) ≡ Some word
word_there words i word there small =
    let is = get_or_from_slice_get words i word 0 there in
    word_read words i (slice_get_within words i word there) (rw is small) ∙ ap Some is

pub word_stored :
    (words : List ℕ) (i word : ℕ) → i < length words
    → stored_at 4 (4 * i) word (bytes_of words) ≡ Some (bytes_of (slice_set words i word))
word_stored words i word within =
    let place : 4 * i / 4 ≡ i = omega arith in
    stored_at-word words (4 * i) word (omega arith) (omega arith) ∙ ap (λ k. Some (bytes_of (slice_set words k word))) place

-- a store into words has taken place, or the address is none of them and nothing has changed
abbrev pub HasStored : ℕ → ℕ → ℕ → Bool → List ℕ → List ℕ → Type 0
HasStored size a value true ws ws' = stored_at size a value (bytes_of ws) ≡ Some (bytes_of ws')
HasStored size a value false ws ws' = (stored_at size a value (bytes_of ws) ≡ None) × (ws' ≡ ws)

-- at most one word has changed
abbrev pub OneWord : ℕ → List ℕ → List ℕ → Type 0
OneWord place ws ws' =
    (length ws' ≡ length ws) × ((k : ℕ) → (k ≡ place → ⊥) → get_or ws' k 0 ≡ get_or ws k 0)
