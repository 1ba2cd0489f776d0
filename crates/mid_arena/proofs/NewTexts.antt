-- The words of a text one after another, and a new string in which they were stored.
use Rattle.std.proofs.Common.{◌≡◌, ℕ, zero, suc, ◌+◌, ◌*◌, ◌<◌, ◌≤◌, List, [], ◌∷◌, length, Some, refl, ap, ◌∙◌, arith}
use Rattle.std.specs.Prelude.{slice_get}
use Rattle.mid_code.specs.Arena.{Arena, left, word_at}
use Rattle.mid_arena.specs.Tags.{object_tag, string_header}
use Rattle.mid_arena.specs.Standing.{ArenaStands}
use Rattle.mid_arena.specs.Layouts.{AreBytes, byte_words, packed, TextAt}
use Rattle.mid_arena.proofs.Making.{begun, begun_word}

-- so many words of a text, from one on
abbrev pub words_from : List ℕ → (i count : ℕ) → List ℕ
words_from bytes i zero = []
words_from bytes i (suc count) = packed bytes (4 * i) ∷ words_from bytes (suc i) count

pub words_from_count : (bytes : List ℕ) (i count : ℕ) → length (words_from bytes i count) ≡ count
words_from_count bytes i zero = refl
words_from_count bytes i (suc count) = ap (λ n. suc n) (words_from_count bytes (suc i) count)

pub word_there : (bytes : List ℕ) (i count j : ℕ) → j < count → slice_get (words_from bytes i count) j ≡ Some (packed bytes (4 * (i + j)))
word_there bytes i zero j h = absurd (omega arith)
word_there bytes i (suc count) zero h = ap (λ n. Some (packed bytes (4 * n))) (omega arith)
word_there bytes i (suc count) (suc j) h = word_there bytes (suc i) count j (omega arith) ∙ ap (λ n. Some (packed bytes (4 * n))) (omega arith)

-- all of them
abbrev pub text_words : List ℕ → List ℕ
text_words bytes = words_from bytes 0 (byte_words (length bytes))

pub text_word_there : (bytes : List ℕ) (i : ℕ) → i < byte_words (length bytes) → slice_get (text_words bytes) i ≡ Some (packed bytes (4 * i))
text_word_there bytes i h = word_there bytes 0 (byte_words (length bytes)) i h ∙ ap (λ n. Some (packed bytes (4 * n))) (omega arith)

-- a string whose words are begun with its header and its count stands
pub string_begun : {a : Arena} (bytes : List ℕ) → ArenaStands a → 2 + byte_words (length bytes) ≤ left a → AreBytes bytes
    → TextAt (begun (2 + byte_words (length bytes)) (string_header ∷ 4 * length bytes ∷ text_words bytes) a)
    (record { address = a.heap_to; words = 2 + byte_words (length bytes); tag = object_tag }) string_header bytes
string_begun {a} bytes h room bounded = record {
  size = record { words = refl; tag = refl };
  bytes = bounded;
  header = at a.heap_to 0 string_header (omega arith) refl;
  count = at (a.heap_to + 4) 1 (4 * length bytes) (omega arith) refl;
  words = λ i low. at (a.heap_to + 8 + 4 * i) (suc (suc i)) (packed bytes (4 * i)) (omega arith) (text_word_there bytes i low);
}
  where
    all : List ℕ
    all = string_header ∷ 4 * length bytes ∷ text_words bytes

    at : (x i w : ℕ) → x ≡ a.heap_to + 4 * i → slice_get all i ≡ Some w → word_at (begun (2 + byte_words (length bytes)) all a) x ≡ Some w
    at x i w same found =
        begun_word (2 + byte_words (length bytes)) all x i w h room (omega (arith, words_from_count bytes 0 (byte_words (length bytes)))) same found
