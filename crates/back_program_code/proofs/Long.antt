-- Where a part is too large, all is.
use Rattle.std.proofs.Common.{◌≡◌, ◌≤◌, ℕ, zero, suc, ◌+◌, ◌^◌, ◌<◌, Bool, true, false, List, [], ◌∷◌, ◌++◌, length, map, get_or, Some, refl, sym, ap, ◌∙◌, arith, length-append}
use Rattle.std.specs.Prelude.{slice_get, slice_index, ◌||◌}
use Rattle.std.specs.List.{list_any}
use Rattle.std.proofs.lemmas.List.{length-map}
use Rattle.std.proofs.lemmas.Option.{slice_get_read}
use Rattle.mid_lines.specs.declared.line.Line.{Line}
use Rattle.rv_encode.specs.Encodes.{word_of}
use Rattle.back_places.specs.declared.place.Place.{Place}
use Rattle.back_emit.specs.declared.spots.Spot.{Spot}
use Rattle.back_emit.specs.declared.errors.EmitError.{EmitError}
use Rattle.back_emit.specs.declared.errors.EmitError.TheVariants as emit
use Rattle.back_emit.specs.PlacedCode.{placed_entry, placed_line, placed_behind}
use Rattle.back_program_code.specs.declared.errors.ImageError.{ImageError}
use Rattle.back_program_code.specs.declared.errors.ImageError.TheVariants as image
use Rattle.back_program_code.specs.declared.front.Front.{Front}
use Rattle.back_program_code.specs.declared.shapes.Shape.{Shape}
use Rattle.back_program_code.specs.Errors.{image_error}
use Rattle.back_program_code.specs.ShapedImage.{line_instructions, shape_code, line_table, shape_image, numbered_image}
use Rattle.back_program_code.specs.Joined.{joined}
use Rattle.back_program_code.specs.Shapes.{full_position, listed, shape_lefts, shape_words, all_lefts, entry_position, code_end}
use Rattle.back_program_code.proofs.Joined.{joined_get}
use Rattle.back_program_code.proofs.Positions.{words_within}

-- errors

pub from_large : (from : EmitError) (e : ImageError) → e ≡ image_error from → e ≡ image.TooLarge → from ≡ emit.TooLarge
from_large emit.NoMemory e h g = absurd (cc (sym h ∙ g))
from_large emit.TooLarge e h g = refl

pub from_not_found : (from : EmitError) (e : ImageError) → e ≡ image_error from → e ≡ image.FrameNotFound → ⊥
from_not_found emit.NoMemory e h g = cc (sym h ∙ g)
from_not_found emit.TooLarge e h g = cc (sym h ∙ g)

-- an item that passes a test
any_at : {X : Type 0} (test : X → Bool) (xs : List X) (i : ℕ) (x : X) → slice_get xs i ≡ Some x → test x ≡ true → list_any test xs ≡ true
any_at test [] i x e h = absurd (cc e)
any_at test (y ∷ ys) zero x e h = let same : y ≡ x = cc e in first (test y) (list_any test ys) (ap test same ∙ h)
  where
    first : (a b : Bool) → a ≡ true → (a || b) ≡ true
    first true b k = refl
    first false b k = absurd (cc k)
any_at test (y ∷ ys) (suc i) x e h = later (test y) (list_any test ys) (any_at test ys i x e h)
  where
    later : (a b : Bool) → b ≡ true → (a || b) ≡ true
    later true b k = refl
    later false b k = k

pub any_item :
    {X : Type 0} (test : X → Bool) (xs items : List X) (i : ℕ) (x : X) → items ≡ xs → i < length items → x ≡ get_or items i x → test x ≡ true
    → list_any test xs ≡ true
any_item test xs items i x same lt e h = ap (list_any test) (sym same) ∙ any_at test items i x (slice_get_read items (length items) i x refl lt e) h

-- what is made of an item is part of what is made of all
pub joined_long :
    {X Y : Type 0} (make : ℕ → X → List Y) (from i j : ℕ) (x : X) (xs : List X) → j ≡ from + i → slice_get xs i ≡ Some x
    → length (make j x) ≤ length (joined make from xs)
joined_long make from i j x [] e h = absurd (cc h)
joined_long make from zero j x (y ∷ ys) e h =
    let there : from ≡ j = omega (arith, e) in
    let same : y ≡ x = cc h in
    let a = ap (λ k. length (make k y)) there in
    let b = ap (λ z. length (make j z)) same in
    let n = length-append (make from y) (joined make (from + 1) ys) in
    omega (arith, a, b, n)
joined_long make from (suc i) j x (y ∷ ys) e h =
    let k = joined_long make (from + 1) i j x ys (omega (arith, e)) h in
    let n = length-append (make from y) (joined make (from + 1) ys) in
    omega (arith, k, n)

-- a procedure in which too many words are left, or which is too large
module _ (f : Front) where
  pub lefts_long :
      (nears : List (List Bool)) (shapes : List Shape) (number : ℕ) (s : Shape) → slice_get shapes number ≡ Some s
      → 2 ^ 24 ≤ slice_index (shape_lefts f (listed (slice_get nears number)) s) 0 → 2 ^ 24 ≤ code_end f (all_lefts f nears shapes) shapes
  lefts_long nears shapes number s h long =
      let left = ap listed (joined_get (λ n t. shape_lefts f (listed (slice_get nears n)) t) 0 number number s shapes (omega arith) h) in
      let words = ap (λ l. slice_index l 0) left in
      let within = words_within f (all_lefts f nears shapes) 0 number number s shapes (omega arith) h in
      omega (arith, words, within, long)

  module _ (lefts : List (List ℕ)) (shapes : List Shape) (number : ℕ) (s : Shape) (left : List ℕ) (there : slice_get shapes number ≡ Some s) (listed_there : slice_get lefts number ≡ Some left) where
    pub words_long : 2 ^ 24 ≤ shape_words f left s → 2 ^ 24 ≤ code_end f lefts shapes
    words_long long =
        let same = ap (λ o. shape_words f (listed o) s) listed_there in
        let within = words_within f lefts 0 number number s shapes (omega arith) there in
        omega (arith, same, within, long)

    pub end_long : (at words : ℕ) → at ≡ entry_position f lefts shapes number → words ≡ shape_words f left s → 2 ^ 24 ≤ at + words → 2 ^ 24 ≤ code_end f lefts shapes
    end_long at words e w long =
        let same = ap (λ o. shape_words f (listed o) s) listed_there in
        let within = words_within f lefts 0 number number s shapes (omega arith) there in
        omega (arith, e, w, same, within, long)

-- the code of a line, and that of a procedure, is part of that of all

pub part_long :
    (places : List Place) (spot other : Spot) (x : Line) (total : ℕ) → spot ≡ other → length (placed_line places other x ++ placed_behind places other x) ≤ total
    → 2 ^ 24 ≤ length (placed_line places spot x) → 2 ^ 24 ≤ total
part_long places spot other x total e within long =
    let n = length-append (placed_line places other x) (placed_behind places other x) in
    let same = ap (λ s. length (placed_line places s x)) e in
    omega (arith, n, same, within, long)

module _ (f : Front) (entries : List ℕ) (at : ℕ) (nears : List Bool) (lefts : List ℕ) (s : Shape) where
  pub code_long :
      2 ^ 24 ≤ length (joined (line_instructions f entries at nears lefts s) 0 s.chosen.lines) → 2 ^ 24 ≤ length (shape_image f entries at nears lefts s)
  code_long long =
      let own = placed_entry (full_position f) f.arguments_at at s.procedure.frame s.chosen.parameters in
      let a = length-append own (joined (line_instructions f entries at nears lefts s) 0 s.chosen.lines) in
      let b = length-map (shape_code f entries at nears lefts s) word_of in
      let c = length-append (map word_of (shape_code f entries at nears lefts s)) (joined (line_table f entries at nears lefts s) 0 s.chosen.lines) in
      omega (arith, a, b, c, long)

pub image_part_long :
    (f : Front) (entries : List ℕ) (nears : List (List Bool)) (lefts : List (List ℕ)) (shapes : List Shape) (number at : ℕ) (near : List Bool) (left : List ℕ) (s : Shape)
    → slice_get shapes number ≡ Some s → slice_get nears number ≡ Some near → slice_get lefts number ≡ Some left → at ≡ slice_index entries number
    → 2 ^ 24 ≤ length (shape_image f entries at near left s) → 2 ^ 24 ≤ length (joined (numbered_image f entries nears lefts) 0 shapes)
image_part_long f entries nears lefts shapes number at near left s h n l a long =
    let same =
    ap (λ k. length (shape_image f entries k near left s)) a
    ∙ ap (λ o. length (shape_image f entries (slice_index entries number) (listed o) left s)) (sym n)
    ∙ ap (λ o. length (shape_image f entries (slice_index entries number) (listed (slice_get nears number)) (listed o) s)) (sym l) in
    let within = joined_long (numbered_image f entries nears lefts) 0 number number s shapes (omega arith) h in
    omega (arith, same, within, long)
