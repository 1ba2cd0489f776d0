-- Pieces of a list of words, at their places.
use Rattle.std.proofs.Common.{◌≡◌, ℕ, zero, suc, ◌+◌, ◌<◌, ◌≤◌, List, [], ◌∷◌, ◌++◌, length, map, Some, refl, sym, ap, ◌∙◌, arith, append_assoc, append-nil, length-append}
use Rattle.std.specs.Prelude.{slice_get, slice_index}
use Rattle.rv_encode.specs.declared.instruction.Instr.{Instr}
use Rattle.rv_encode.specs.Encodes.{word_of}
use Rattle.back_places.specs.Relation.{HasCode}
use Rattle.back_layout.proofs.Instructions.{AreInstrs}

-- a piece stands in the words from a place on
pub record IsIn (words : List ℕ) (at : ℕ) (piece : List ℕ) : Type 0 where
  pub before : List ℕ
  pub after : List ℕ
  pub whole : words ≡ before ++ (piece ++ after)
  pub begins : length before ≡ at

pub front_of : (words : List ℕ) (at : ℕ) (a b : List ℕ) → IsIn words at (a ++ b) → IsIn words at a
front_of words at a b h = record {
  before = h.before;
  after = b ++ h.after;
  whole = h.whole ∙ ap (λ xs. h.before ++ xs) (append_assoc a b h.after);
  begins = h.begins;
}

pub back_of : (words : List ℕ) (at to : ℕ) (a b : List ℕ) → to ≡ at + length a → IsIn words at (a ++ b) → IsIn words to b
back_of words at to a b e h = record {
  before = h.before ++ a;
  after = h.after;
  whole = h.whole ∙ ap (λ xs. h.before ++ xs) (append_assoc a b h.after) ∙ sym (append_assoc h.before a (b ++ h.after));
  begins = let k = h.begins in omega (arith, e, k, length-append h.before a);
}

-- a whole list, from its front on
pub whole_in : (words : List ℕ) → IsIn words 0 words
whole_in words = record { before = []; after = []; whole = sym (append-nil words); begins = refl }

pub moved_to : (words : List ℕ) (at to : ℕ) (piece : List ℕ) → at ≡ to → IsIn words at piece → IsIn words to piece
moved_to words at to piece e h = record { before = h.before; after = h.after; whole = h.whole; begins = h.begins ∙ e }

pub same_piece : (words : List ℕ) (at : ℕ) (piece piece' : List ℕ) → piece ≡ piece' → IsIn words at piece → IsIn words at piece'
same_piece words at piece piece' e h = record {
  before = h.before;
  after = h.after;
  whole = h.whole ∙ ap (λ xs. h.before ++ (xs ++ h.after)) e;
  begins = h.begins;
}

pub within : (words : List ℕ) (at : ℕ) (piece : List ℕ) → IsIn words at piece → at + length piece ≤ length words
within words at piece h =
    let a = ap length h.whole in
    let k = h.begins in
    omega (arith, a, k, length-append h.before (piece ++ h.after), length-append piece h.after)

index_of : (before : List ℕ) (w : ℕ) (rest : List ℕ) → slice_index (before ++ w ∷ rest) (length before) ≡ w
index_of [] w rest = refl
index_of (b ∷ before) w rest = index_of before w rest

pub word_in : (words : List ℕ) (at w : ℕ) (rest : List ℕ) → IsIn words at (w ∷ rest) → slice_index words at ≡ w
word_in words at w rest h =
    ap (λ xs. slice_index xs at) h.whole ∙ ap (λ i. slice_index (h.before ++ w ∷ (rest ++ h.after)) i) (sym h.begins) ∙ index_of h.before w (rest ++ h.after)

-- a word of a piece
pub record WordAt (words : List ℕ) (at w : ℕ) : Type 0 where
  pub there : at < length words
  pub is : slice_index words at ≡ w

pub word_at : (words : List ℕ) (at k to w : ℕ) (piece : List ℕ) → to ≡ at + k → slice_get piece k ≡ Some w → IsIn words at piece → WordAt words to w
word_at words at k to w [] e g h = absurd (cc g)
word_at words at zero to w (x ∷ xs) e g h =
    let same : x ≡ w = cc g in
    let there : at ≡ to = omega (arith, e) in
    let longer = within words at (x ∷ xs) h in
    record {
      there = omega (arith, e, longer);
      is = ap (λ i. slice_index words i) (sym there) ∙ word_in words at x xs h ∙ same;
    }
word_at words at (suc k) to w (x ∷ xs) e g h = word_at words (at + 1) k to w xs (omega (arith, e)) g (back_of words at (at + 1) (x ∷ []) xs refl h)

-- the words of instructions are their code
pub code_in : (words : List ℕ) (at : ℕ) (code : List Instr) → AreInstrs code → IsIn words at (map word_of code) → HasCode words at code
code_in words at [] h k = tt
code_in words at (i ∷ more) h k =
    let longer = within words at (word_of i ∷ map word_of more) k in (
      omega (arith, longer),
      word_in words at (word_of i) (map word_of more) k,
      h.0,
      code_in words (at + 1) more h.1 (back_of words at (at + 1) (word_of i ∷ []) (map word_of more) refl k),
    )
