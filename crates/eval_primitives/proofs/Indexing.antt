-- Integers as lengths, bytes and places.
use Rattle.std.proofs.Common.{◌≡◌, ℕ, ◌<◌, ◌≤◌, arith, true, false, ℤ, pos, negsuc, ◌≤ℤ◌, ◌<ℤ◌, List, Some, None, refl}
use Rattle.std.specs.Prelude.{nat_lt, leb}
use Rattle.std.specs.Int.RustNames.{unsigned_abs}
use Rattle.std.proofs.lemmas.Bool.{lt-ltb, le-ltb, le-leb, lt-leb}
use Rattle.std.proofs.lemmas.Int.{ints}
use Rattle.lang_meaning.specs.Primitives.{as_integer, length_of, byte_of, index_of}
use Rattle.eval_store.specs.declared.word.Word.{Word}
use Rattle.eval_store.specs.Words.{value_of_word}
use Rattle.eval_primitives.specs.declared.answer.Answer.TheVariants.{Fails, DomainError}
use Rattle.eval_primitives.specs.Words.{IsPlace, IsNoPlace}

pub natural_is : (n : ℤ) → pos 0 ≤ℤ n → length_of n ≡ Some (unsigned_abs n)
natural_is (pos k) h = refl
natural_is (negsuc k) h = absurd (omega (arith, ints))

pub negative_is : (n : ℤ) → n <ℤ pos 0 → length_of n ≡ None
negative_is (pos k) h = absurd (omega (arith, ints))
negative_is (negsuc k) h = refl

pub byte_there : (n : ℤ) (k : ℕ) → length_of n ≡ Some k → k ≤ 255 → byte_of n ≡ Some k
byte_there (pos j) k e h =
    let same : j ≡ k = cc in
    let test : leb j 255 ≡ true = le-leb j 255 (rw same h) in
    rw (test, same) refl
byte_there (negsuc j) k e h = absurd (cc)

pub byte_past : (n : ℤ) (k : ℕ) → length_of n ≡ Some k → 255 < k → byte_of n ≡ None
byte_past (pos j) k e h =
    let same : j ≡ k = cc in
    let test : leb j 255 ≡ false = lt-leb j 255 (rw same h) in
    rw test refl
byte_past (negsuc j) k e h = absurd (cc)

pub no_byte : (n : ℤ) → length_of n ≡ None → byte_of n ≡ None
no_byte (pos j) e = absurd (cc)
no_byte (negsuc j) e = refl

index_there : (n : ℤ) (k count : ℕ) → length_of n ≡ Some k → k < count → index_of n count ≡ Some k
index_there (pos j) k count e h =
    let same : j ≡ k = cc in
    let test : nat_lt j count ≡ true = lt-ltb j count (rw same h) in
    rw (test, same) refl
index_there (negsuc j) k count e h = absurd (cc)

index_past : (n : ℤ) (k count : ℕ) → length_of n ≡ Some k → count ≤ k → index_of n count ≡ None
index_past (pos j) k count e h =
    let same : j ≡ k = cc in
    let test : nat_lt j count ≡ false = le-ltb j count (rw same h) in
    rw test refl
index_past (negsuc j) k count e h = absurd (cc)

index_negative : (n : ℤ) (count : ℕ) → length_of n ≡ None → index_of n count ≡ None
index_negative (pos j) count e = absurd (cc)
index_negative (negsuc j) count e = refl

pub place_there : (w : Word) (n : ℤ) (k count : ℕ) → ((names : List (List ℕ)) → as_integer (value_of_word names w) ≡ Some n)
    → length_of n ≡ Some k → k < count → IsPlace w count k
place_there w n k count h e below = record { inside = below; seen = λ names z next. rw (h names, index_there n k count e below) refl }

pub place_past : (w : Word) (n : ℤ) (k count : ℕ) → ((names : List (List ℕ)) → as_integer (value_of_word names w) ≡ Some n)
    → length_of n ≡ Some k → count ≤ k → IsNoPlace w count (Fails 24)
place_past w n k count h e past = record { seen = λ names z next. rw (h names, index_past n k count e past) refl }

pub place_negative : (w : Word) (n : ℤ) (count : ℕ) → ((names : List (List ℕ)) → as_integer (value_of_word names w) ≡ Some n)
    → length_of n ≡ None → IsNoPlace w count (Fails 24)
place_negative w n count h e = record { seen = λ names z next. rw (h names, index_negative n count e) refl }

pub no_place : (w : Word) (count : ℕ) → ((names : List (List ℕ)) → as_integer (value_of_word names w) ≡ None) → IsNoPlace w count (DomainError w 13)
no_place w count h = record { seen = λ names z next. rw (h names) refl }
