-- What parts take, and what is written of those that have nothing inside.
use Rattle.std.proofs.Common.{◌≡◌, ℕ, ◌+◌, ◌/◌, ◌<◌, true, false, List, ◌++◌, refl, sym, ap, subst, ◌∙◌, arith}
use Rattle.lang_taken.specs.Shapes.{Shape, shape_of, own_size, is_list}
use Rattle.lang_taken.specs.Shapes as shape
use Rattle.lang_told.specs.Spelled.{atom_text, is_atom}
use Rattle.lang_told.specs.Written.{Writes, writes_atom, IsUnwritten, is_no_datum, is_too_large}
use Rattle.mid_arena.specs.Places.{Places}
use Rattle.mid_told.specs.declared.parts.Atom.{Atom}
use Rattle.mid_told.specs.declared.parts.Atom.TheVariants.{Int, Char, Name, Fresh, Str}
use Rattle.mid_told.specs.declared.parts.Part.{Part}
use Rattle.mid_told.specs.declared.parts.Part.TheVariants as part
use Rattle.mid_told.specs.declared.writing.Halt.{Halt}
use Rattle.mid_told.specs.declared.writing.Halt.TheVariants.{Unwritten, NoMemory}
use Rattle.mid_told.specs.Parts.{IsAtomIn, IsPart, part_in, atom_size, part_size}
use Rattle.mid_told.specs.Writing.{HaltsBy, AtomWritten, PartWritten, PartUnwritten, WordWritten, WordUnwritten}
use Rattle.mid_told.proofs.Found.{part_told}

-- ---- sizes

atom_size_is : (words : List ℕ) (s : Shape) (atom : Atom) → IsAtomIn words s atom → own_size s ≡ atom_size atom
atom_size_is words s (Int n) h = ap own_size h
atom_size_is words s (Char code) h = ap own_size h
atom_size_is words s (Name at count) h = ap own_size h.shape_is
atom_size_is words s (Fresh serial) h = h.size
atom_size_is words s (Str at count) h = ap own_size h.shape_is ∙ ap (λ n. 1 + (n + 3) / 4) h.count_is

-- a part takes as much as what is of its shape
pub size_is : (places : Places) (words : List ℕ) (s : Shape) (one : Part) → IsPart places words s one → own_size s ≡ part_size one
size_is places words s (part.Atom atom) h = atom_size_is words s atom h
size_is places words s (part.Vector at count) h = ap own_size h.shape_is
size_is places words s part.Nil h = ap own_size h
size_is places words s (part.Cons car cdr) h = ap own_size h.shape_is
size_is places words s part.NoDatum h = ap own_size h

pub too_large : (words : List ℕ) (one : Part) (left : ℕ) → left < part_size one → PartUnwritten words one left
too_large words one left less = record {
  there = λ names classes z m s h. is_too_large left s (omega (arith, less, size_is m.places words s one h));
}

pub no_datum_unwritten : (words : List ℕ) (left : ℕ) → PartUnwritten words part.NoDatum left
no_datum_unwritten words left = record {
  there = λ names classes z m s h. subst (IsUnwritten z.store left) (sym h) (is_no_datum left);
}

-- ---- what has nothing inside

atom_is : (words : List ℕ) (s : Shape) (atom : Atom) → IsAtomIn words s atom → is_atom s ≡ true
atom_is words s (Int n) h = ap is_atom h
atom_is words s (Char code) h = ap is_atom h
atom_is words s (Name at count) h = ap is_atom h.shape_is
atom_is words s (Fresh serial) h = h.atom
atom_is words s (Str at count) h = ap is_atom h.shape_is

pub atom_written :
    (words : List ℕ) (atom : Atom) (left rest : ℕ) (before after : List ℕ) → left ≡ atom_size atom + rest → AtomWritten words atom before after
    → PartWritten words (part.Atom atom) left before after rest
atom_written words atom left rest before after enough t = record {
  text = t.text;
  appended = t.appended;
  there = λ names classes z m s h.
      let size : own_size s + rest ≡ left = omega (arith, enough, atom_size_is words s atom h) in
      let P : ℕ → Type 0 = λ n. Writes z.store n s t.text rest in
      let Q : List ℕ → Type 0 = λ text. Writes z.store (own_size s + rest) s text rest in
      subst P size (subst Q (t.there s h) (writes_atom rest s (atom_is words s atom h)));
}

pub nil_written :
    (words : List ℕ) (left rest : ℕ) (before after : List ℕ) → left ≡ 1 + rest → after ≡ before ++ atom_text shape.nil
    → PartWritten words part.Nil left before after rest
nil_written words left rest before after enough appended = record {
  text = atom_text shape.nil;
  appended = appended;
  there = λ names classes z m s h.
      let P : ℕ → Type 0 = λ n. Writes z.store n s (atom_text shape.nil) rest in
      let Q : Shape → Type 0 = λ x. Writes z.store (1 + rest) x (atom_text shape.nil) rest in
      subst P (sym enough) (subst Q (sym h) (writes_atom rest shape.nil refl));
}

-- ---- what is no list

no_atom_list : (words : List ℕ) (s : Shape) (atom : Atom) → IsAtomIn words s atom → is_list s ≡ false
no_atom_list words s (Int n) h = ap is_list h
no_atom_list words s (Char code) h = ap is_list h
no_atom_list words s (Name at count) h = ap is_list h.shape_is
no_atom_list words s (Fresh serial) h = h.no_list
no_atom_list words s (Str at count) h = ap is_list h.shape_is

-- what is neither a cons nor nil
pub no_list :
    (places : Places) (words : List ℕ) (s : Shape) (one : Part) → ((car cdr : ℕ) → one ≡ part.Cons car cdr → ⊥) → (one ≡ part.Nil → ⊥)
    → IsPart places words s one → is_list s ≡ false
no_list places words s (part.Atom atom) no_cons no_nil h = no_atom_list words s atom h
no_list places words s (part.Vector at count) no_cons no_nil h = ap is_list h.shape_is
no_list places words s part.Nil no_cons no_nil h = absurd (no_nil refl)
no_list places words s (part.Cons car cdr) no_cons no_nil h = absurd (no_cons car cdr refl)
no_list places words s part.NoDatum no_cons no_nil h = ap is_list h

-- ---- words

pub word_written :
    (words : List ℕ) (word left : ℕ) (one : Part) (before after : List ℕ) (rest : ℕ) → one ≡ part_in words word
    → PartWritten words one left before after rest → WordWritten words word left before after rest
word_written words word left one before after rest is t = record {
  text = t.text;
  appended = t.appended;
  there = λ names classes z m v e.
      t.there names classes z m (shape_of z.store v)
      (subst (λ p. IsPart m.places words (shape_of z.store v) p) (sym is) (part_told names classes z words m v word e));
}

pub word_unwritten : (words : List ℕ) (word left : ℕ) (one : Part) → one ≡ part_in words word → PartUnwritten words one left → WordUnwritten words word left
word_unwritten words word left one is t = record {
  there = λ names classes z m v e.
      t.there names classes z m (shape_of z.store v)
      (subst (λ p. IsPart m.places words (shape_of z.store v) p) (sym is) (part_told names classes z words m v word e));
}

-- ---- halts

pub halts_weaker : (P Q : Type 0) → (P → Q) → (halt : Halt) → HaltsBy P halt → HaltsBy Q halt
halts_weaker P Q f Unwritten h = f h
halts_weaker P Q f NoMemory h = tt

pub halts_unwritten : (P : Type 0) (halt : Halt) → halt ≡ Unwritten → P → HaltsBy P halt
halts_unwritten P halt is h = subst (HaltsBy P) (sym is) h

pub halts_wanting : (P : Type 0) (halt : Halt) → halt ≡ NoMemory → HaltsBy P halt
halts_wanting P halt is = subst (HaltsBy P) (sym is) tt

-- ---- parts that are known

-- what is left in front, where the part is known
pub left_is : (one known : Part) (left rest : ℕ) → left ≡ part_size one + rest → one ≡ known → left ≡ part_size known + rest
left_is one known left rest spent same = spent ∙ ap (λ p. part_size p + rest) same

pub written_as :
    (words : List ℕ) (one known : Part) (left : ℕ) (before after : List ℕ) (rest : ℕ) → one ≡ known → PartWritten words known left before after rest
    → PartWritten words one left before after rest
written_as words one known left before after rest same t = let P : Part → Type 0 = λ p. PartWritten words p left before after rest in subst P (sym same) t

pub unwritten_as : (words : List ℕ) (one known : Part) (left : ℕ) → one ≡ known → PartUnwritten words known left → PartUnwritten words one left
unwritten_as words one known left same t = let P : Part → Type 0 = λ p. PartUnwritten words p left in subst P (sym same) t

-- the same where so much of what is left was taken
pub written_of :
    (words : List ℕ) (one known : Part) (left between : ℕ) (before after : List ℕ) (rest : ℕ) → left ≡ part_size one + between → part_size known ≡ 1 → one ≡ known
    → PartWritten words known (1 + between) before after rest → PartWritten words one left before after rest
written_of words one known left between before after rest spent size same t =
    let is : left ≡ 1 + between = left_is one known left between spent same ∙ ap (λ n. n + between) size in
    let P : ℕ → Type 0 = λ n. PartWritten words one n before after rest in
    subst P (sym is) (written_as words one known (1 + between) before after rest same t)

pub unwritten_of :
    (words : List ℕ) (one known : Part) (left between : ℕ) → left ≡ part_size one + between → part_size known ≡ 1 → one ≡ known
    → PartUnwritten words known (1 + between) → PartUnwritten words one left
unwritten_of words one known left between spent size same t =
    let is : left ≡ 1 + between = left_is one known left between spent same ∙ ap (λ n. n + between) size in
    let P : ℕ → Type 0 = λ n. PartUnwritten words one n in
    subst P (sym is) (unwritten_as words one known (1 + between) same t)
