-- A number and its four bytes.
use Rattle.std.proofs.Common.{◌≡◌, ℕ, ◌+◌, ◌*◌, ◌/◌, ◌%◌, ◌^◌, ◌<◌, ◌≤◌, List, [], ◌∷◌, ◌++◌, length, take, drop, get_or, refl, sym, ap, ◌∙◌, arith, add-zero}
use Rattle.std.specs.Int.{w32, to_le_bytes, from_le_bytes}
use Rattle.std.proofs.lemmas.List.{get_or-drop, length-drop, drop-drop}
use Rattle.rv_machine.specs.Memory.{little_endian, bytes_of_number}
use Rattle.rv_image_file.specs.BadText.{number_in}

-- the number of four bytes
number_of_four : (a b c d : ℕ) → little_endian (a ∷ b ∷ c ∷ d ∷ []) ≡ from_le_bytes w32 (a ∷ b ∷ c ∷ d ∷ [])
unfolding little_endian
number_of_four a b c d = omega arith

-- the first four items
front : (xs : List ℕ) → 4 ≤ length xs → take 4 xs ≡ get_or xs 0 0 ∷ get_or xs 1 0 ∷ get_or xs 2 0 ∷ get_or xs 3 0 ∷ []
front [] h = absurd (omega arith)
front (a ∷ []) h = absurd (omega arith)
front (a ∷ b ∷ []) h = absurd (omega arith)
front (a ∷ b ∷ c ∷ []) h = absurd (omega arith)
front (a ∷ b ∷ c ∷ d ∷ rest) h = refl

-- the number behind so many bytes, by its bytes
pub number_in-bytes :
    (bytes : List ℕ) (from : ℕ) → from + 4 ≤ length bytes
    → number_in bytes from
    ≡ from_le_bytes w32 (get_or bytes from 0 ∷ get_or bytes (from + 1) 0 ∷ get_or bytes (from + 2) 0 ∷ get_or bytes (from + 3) 0 ∷ [])
unfolding number_in
number_in-bytes bytes from h =
    let long : 4 ≤ length (drop from bytes) = omega (arith, length-drop from bytes) in
    ap little_endian (front (drop from bytes) long)
    ∙ ap (λ a. little_endian (a ∷ get_or (drop from bytes) 1 0 ∷ get_or (drop from bytes) 2 0 ∷ get_or (drop from bytes) 3 0 ∷ [])) (get_or-drop from bytes 0 0 ∙ ap (λ i. get_or bytes i 0) (add-zero from))
    ∙ ap (λ a. little_endian (get_or bytes from 0 ∷ a ∷ get_or (drop from bytes) 2 0 ∷ get_or (drop from bytes) 3 0 ∷ [])) (get_or-drop from bytes 1 0)
    ∙ ap (λ a. little_endian (get_or bytes from 0 ∷ get_or bytes (from + 1) 0 ∷ a ∷ get_or (drop from bytes) 3 0 ∷ [])) (get_or-drop from bytes 2 0)
    ∙ ap (λ a. little_endian (get_or bytes from 0 ∷ get_or bytes (from + 1) 0 ∷ get_or bytes (from + 2) 0 ∷ a ∷ [])) (get_or-drop from bytes 3 0)
    ∙ number_of_four _ _ _ _

-- the bytes of a number
pub bytes_of_one : (n : ℕ) → to_le_bytes w32 n ≡ bytes_of_number 4 n
unfolding bytes_of_number
bytes_of_one n =
    let b : n / 256 ^ 1 % 256 ≡ n / 256 % 256 = omega arith in
    let c : n / 256 ^ 2 % 256 ≡ n / 256 / 256 % 256 = omega arith in
    let d : n / 256 ^ 3 % 256 ≡ n / 256 / 256 / 256 % 256 = omega arith in
    cc

-- four bytes are those of their number
four : (a b c d : ℕ) → a < 256 → b < 256 → c < 256 → d < 256
    → bytes_of_number 4 (little_endian (a ∷ b ∷ c ∷ d ∷ [])) ≡ a ∷ b ∷ c ∷ d ∷ []
unfolding bytes_of_number little_endian
four a b c d ha hb hc hd =
    let n : ℕ = a + 256 * (b + 256 * (c + 256 * (d + 256 * 0))) in
    let ea : n % 256 ≡ a = omega arith in
    let eb : n / 256 % 256 ≡ b = omega arith in
    let ec : n / 256 / 256 % 256 ≡ c = omega arith in
    let ed : n / 256 / 256 / 256 % 256 ≡ d = omega arith in
    cc

-- bytes
abbrev pub AreBytes : List ℕ → Type 0
AreBytes bytes = (i : ℕ) → get_or bytes i 0 < 256

number_first : (xs : List ℕ) → 4 ≤ length xs → AreBytes xs → xs ≡ bytes_of_number 4 (little_endian (take 4 xs)) ++ drop 4 xs
number_first [] h fit = absurd (omega arith)
number_first (a ∷ []) h fit = absurd (omega arith)
number_first (a ∷ b ∷ []) h fit = absurd (omega arith)
number_first (a ∷ b ∷ c ∷ []) h fit = absurd (omega arith)
number_first (a ∷ b ∷ c ∷ d ∷ rest) h fit = ap (λ l. l ++ rest) (sym (four a b c d (fit 0) (fit 1) (fit 2) (fit 3)))

-- bytes, by the number behind so many of them
pub number_next :
    (bytes : List ℕ) (from : ℕ) → from + 4 ≤ length bytes → AreBytes bytes
    → drop from bytes ≡ bytes_of_number 4 (number_in bytes from) ++ drop (from + 4) bytes
unfolding number_in
number_next bytes from h fit =
    let long : 4 ≤ length (drop from bytes) = omega (arith, length-drop from bytes) in
    let bytes_there : (i : ℕ) → get_or (drop from bytes) i 0 < 256 = λ i. omega (arith, get_or-drop from bytes i 0, fit (from + i)) in
    number_first (drop from bytes) long bytes_there
    ∙ ap (λ l. bytes_of_number 4 (little_endian (take 4 (drop from bytes))) ++ l) (drop-drop 4 from bytes)
