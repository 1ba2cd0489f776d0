-- The bytes of a string are in the words.
use Rattle.std.proofs.Common.{◌≡◌, ℕ, ◌+◌, ◌*◌, ◌/◌, ◌%◌, ◌^◌, ◌<◌, List, [], ◌∷◌, ◌++◌, length, take, refl, sym, ap, ◌∙◌, arith}
use Rattle.std.specs.Prelude.{slice_get}
use Rattle.std.specs.Option.{unwrap_or}
use Rattle.std.proofs.lemmas.Option.{slice_get-get_or}
use Rattle.base.specs.model.DataRest.{take_at}
use Rattle.mid_arena.specs.Layouts.{packed, byte_at}
use Rattle.mid_arena.proofs.ArithmeticBytes.{byte_of_packed, word_of_byte_there}
use Rattle.mid_told.specs.Parts.{BytesIn}
use Rattle.mid_told.proofs.Reading.{word_read}

-- one byte more
pub one_more_byte :
    (words : List ℕ) (at count i word byte : ℕ) (read : List ℕ) → i < count → word ≡ unwrap_or (slice_get words (at + i / 4)) 0
    → byte ≡ word / 256 ^ (i % 4) % 256 → ((bytes : List ℕ) → length bytes ≡ count → BytesIn words at bytes → read ≡ take i bytes)
    → (bytes : List ℕ) → length bytes ≡ count → BytesIn words at bytes → read ++ byte ∷ [] ≡ take (i + 1) bytes
one_more_byte words at count i word byte read below stands is before bytes n there =
    let low : i < length bytes = omega (arith, below, n) in
    let word_is : word ≡ packed bytes (4 * (i / 4)) =
    word_read words (at + i / 4) (at + i / 4) word (packed bytes (4 * (i / 4))) stands refl (there.each (i / 4) (word_of_byte_there (length bytes) i low)) in
    let byte_is : byte ≡ byte_at bytes i = is ∙ ap (λ w. w / 256 ^ (i % 4) % 256) word_is ∙ byte_of_packed bytes i there.are_bytes in
    let here : take (i + 1) bytes ≡ take i bytes ++ byte_at bytes i ∷ [] = take_at bytes i (byte_at bytes i) (slice_get-get_or bytes i 0 low) in
    ap (λ xs. xs ++ byte ∷ []) (before bytes n there) ∙ ap (λ b. take i bytes ++ b ∷ []) byte_is ∙ sym here
