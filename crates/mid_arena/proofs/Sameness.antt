-- Two values are the same exactly where their words are.
use Rattle.std.proofs.Common.{◌≡◌, ℕ, ◌+◌, ◌%◌, ◌<◌, ◌≤◌, Bool, true, false, List, Some, refl, sym, ap, ◌∙◌, arith}
use Rattle.std.specs.Prelude.{◌==◌, ◌&&◌}
use Rattle.std.proofs.lemmas.Bool.Decides.{nat_tests}
use Rattle.std.proofs.lemmas.Slice.Eq.{bytes_eq-Decides}
use Rattle.lang_meaning.specs.declared.program.ProgramRows.{ProgramRows}
use Rattle.lang_meaning.specs.Values.{SymbolValue, named, unnamed, same_symbol, Value, integer, character, symbol, nil, object, int_equal, same}
use Rattle.lang_meaning.specs.State as meaning
use Rattle.mid_code.specs.State.{MidState}
use Rattle.mid_arena.specs.Tags.{integer_word, nil_word, tag_of}
use Rattle.mid_arena.specs.Places.{Spot, Places, Owner, of_object, of_symbol, same_owner, spot_of, word_of}
use Rattle.mid_arena.specs.Standing.{Apart, in_front, behind}
use Rattle.mid_arena.specs.Represents.{Represents}
use Rattle.mid_arena.proofs.Arguments.{integer_word_is, character_word_is, tag_in, value_tag, tag_told, symbol_there, object_there}
use Rattle.mid_arena.proofs.Telling.{object_low, nil_told}
use Rattle.mid_arena.proofs.WordFacts.{integer_word_one_to_one, int_equal_tells, int_equal_same}
use Rattle.std.proofs.lemmas.Bool.{eq-eqb, ne_eqb}
use Rattle.mid_arena.proofs.Keeping.{tag_some}

-- ---- symbols

symbol_same : (s r : SymbolValue) → same_symbol s r ≡ true → s ≡ r
symbol_same (named a) (named b) h = ap named ((bytes_eq-Decides a b).0 h)
symbol_same (named a) (unnamed x s) h = absurd (cc h)
symbol_same (unnamed x s) (named b) h = absurd (cc h)
symbol_same (unnamed x s) (unnamed y r) h =
    let first : x ≡ y = (parts_same x y s r h).0 in
    let second : s ≡ r = (parts_same x y s r h).1 in
    cc
  where
    parts_same : (x y s r : ℕ) → (x == y && s == r) ≡ true → (x ≡ y) × (s ≡ r)
    parts_same x y s r h = grind (arith, nat_tests)

-- ---- words

-- a test that says when two numbers are equal
decided : (b : Bool) (w u : ℕ) → (b ≡ true → w ≡ u) → (w ≡ u → b ≡ true) → (w == u) ≡ b
decided true w u g h = eq-eqb w u (g refl)
decided false w u g h = ne_eqb w u (λ e. absurd (cc (h e)))

turned : (w u : ℕ) → (w == u) ≡ (u == w)
turned w u = grind (arith, nat_tests)

tags_differ : (w u m n : ℕ) → w % 4 ≡ m → u % 4 ≡ n → (m ≡ n → ⊥) → (w == u) ≡ false
tags_differ w u m n d e h = decided false w u (λ f. absurd (cc f)) (λ f. absurd (h (omega arith)))

tag_not_zero : (w u : ℕ) → 1 ≤ w % 4 → u % 4 ≡ 0 → (w == u) ≡ false
tag_not_zero w u h e = decided false w u (λ f. absurd (cc f)) (λ f. absurd (omega arith))

tag_not_three : (w u : ℕ) → w % 4 < 3 → u % 4 ≡ 3 → (w == u) ≡ false
tag_not_three w u h e = decided false w u (λ f. absurd (cc f)) (λ f. absurd (omega arith))

-- pointers to spots that are apart
spots_differ :
    (s t : Spot) (w u : ℕ) → Apart s t → s.address % 4 ≡ 0 → t.address % 4 ≡ 0 → 1 ≤ s.words → 1 ≤ t.words → s.tag < 4 → t.tag < 4
    → w ≡ s.address + s.tag → u ≡ t.address + t.tag → (w == u) ≡ false
spots_differ s t w u (in_front h) d e f g m n p q = decided false w u (λ x. absurd (cc x)) (λ x. absurd (omega arith))
spots_differ s t w u (behind h) d e f g m n p q = decided false w u (λ x. absurd (cc x)) (λ x. absurd (omega arith))

module _ (names : List (List ℕ)) (program : ProgramRows) (places : Places) (z : meaning.State) (y : MidState) (r : Represents names program places z y) where
  -- the tag of an object is that of no integer, character or nil
  object_between : (i w : ℕ) → word_of places (object i) ≡ Some w → (1 ≤ w % 4) × (w % 4 < 3)
  object_between i w e =
      let there = object_there names program places z y r i w e in
      let told : w % 4 ≡ value_tag z (object i) = tag_told names program places z y r (object i) w e in
      let tag : value_tag z (object i) ≡ tag_of there.one = ap tag_in there.stored in
      (omega (arith, told, tag, tag_some there.one), object_low names program places z y r i w e)

  owners_differ :
      (p q : Owner) (s t : Spot) (w u : ℕ) → same_owner p q ≡ false → spot_of places p ≡ Some s → spot_of places q ≡ Some t
      → w ≡ s.address + s.tag → u ≡ t.address + t.tag → (w == u) ≡ false
  owners_differ p q s t w u different d e g h =
      let first = r.spots p s d in
      let second = r.spots q t e in
      spots_differ s t w u (r.apart p q s t different d e) first.aligned second.aligned first.some second.some first.tag second.tag g h

  -- the words of two values are equal exactly where the values are the same
  pub same_value_same_word : (v u : Value) (w x : ℕ) → word_of places v ≡ Some w → word_of places u ≡ Some x → (w == x) ≡ same v u
  same_value_same_word (integer a) (integer b) w x d e =
      let first = integer_word_is places a w d in
      let second = integer_word_is places b x e in
      decided (int_equal a b) w x
      (λ h. first.1 ∙ ap integer_word (int_equal_tells a b h) ∙ sym second.1)
      (λ h. let same_integer : a ≡ b = integer_word_one_to_one a b first.0 second.0 (sym first.1 ∙ h ∙ second.1) in rw same_integer (int_equal_same b))
  same_value_same_word (character a) (character b) w x d e =
      let first = character_word_is places a w d in
      let second = character_word_is places b x e in
      decided (a == b) w x
      (λ h. let same_code : a ≡ b = grind (arith, nat_tests) in omega (arith, first.1, second.1))
      (λ h. let same_code : a ≡ b = omega (arith, first.1, second.1) in grind (arith, nat_tests))
  same_value_same_word (symbol a) (symbol b) w x d e = by (same_symbol a b) refl
    where
      by : (t : Bool) → same_symbol a b ≡ t → (w == x) ≡ same_symbol a b
      by true h =
          let owner : a ≡ b = symbol_same a b h in
          let word : w ≡ x = cc (d, e, ap (λ s. word_of places (symbol s)) owner) in
          decided (same_symbol a b) w x (λ f. word) (λ f. h)
      by false h =
          let first = symbol_there names program places z y r a w d in
          let second = symbol_there names program places z y r b x e in
          owners_differ (of_symbol a) (of_symbol b) first.spot second.spot w x h first.found second.found
          (omega (arith, first.word, first.tag)) (omega (arith, second.word, second.tag))
          ∙ sym h
  same_value_same_word (object a) (object b) w x d e = by (a == b) refl
    where
      by : (t : Bool) → (a == b) ≡ t → (w == x) ≡ (a == b)
      by true h =
          let owner : a ≡ b = grind (arith, nat_tests) in
          let word : w ≡ x = cc (d, e, ap (λ i. word_of places (object i)) owner) in
          decided (a == b) w x (λ f. word) (λ f. h)
      by false h =
          let first = object_there names program places z y r a w d in
          let second = object_there names program places z y r b x e in
          owners_differ (of_object a) (of_object b) first.spot second.spot w x h first.found second.found
          (omega (arith, first.word, first.tag)) (omega (arith, second.word, second.tag))
          ∙ sym h
  same_value_same_word (symbol a) (object b) w x d e =
      let first = symbol_there names program places z y r a w d in
      let second = object_there names program places z y r b x e in
      owners_differ (of_symbol a) (of_object b) first.spot second.spot w x refl first.found second.found
      (omega (arith, first.word, first.tag)) (omega (arith, second.word, second.tag))
  same_value_same_word (object a) (symbol b) w x d e =
      let first = object_there names program places z y r a w d in
      let second = symbol_there names program places z y r b x e in
      owners_differ (of_object a) (of_symbol b) first.spot second.spot w x refl first.found second.found
      (omega (arith, first.word, first.tag)) (omega (arith, second.word, second.tag))
  same_value_same_word (integer a) (character c) w x d e =
      tags_differ w x 0 3 (tag_told names program places z y r (integer a) w d) (tag_told names program places z y r (character c) x e) (λ h. omega arith)
  same_value_same_word (integer a) (symbol s) w x d e =
      tags_differ w x 0 2 (tag_told names program places z y r (integer a) w d) (tag_told names program places z y r (symbol s) x e) (λ h. omega arith)
  same_value_same_word (integer a) (object i) w x d e =
      turned w x ∙ tag_not_zero x w (object_between i x e).0 (tag_told names program places z y r (integer a) w d)
  same_value_same_word (character c) (integer a) w x d e =
      tags_differ w x 3 0 (tag_told names program places z y r (character c) w d) (tag_told names program places z y r (integer a) x e) (λ h. omega arith)
  same_value_same_word (character c) (symbol s) w x d e =
      tags_differ w x 3 2 (tag_told names program places z y r (character c) w d) (tag_told names program places z y r (symbol s) x e) (λ h. omega arith)
  same_value_same_word (character c) (object i) w x d e =
      turned w x ∙ tag_not_three x w (object_between i x e).1 (tag_told names program places z y r (character c) w d)
  same_value_same_word (symbol s) (integer a) w x d e =
      tags_differ w x 2 0 (tag_told names program places z y r (symbol s) w d) (tag_told names program places z y r (integer a) x e) (λ h. omega arith)
  same_value_same_word (symbol s) (character c) w x d e =
      tags_differ w x 2 3 (tag_told names program places z y r (symbol s) w d) (tag_told names program places z y r (character c) x e) (λ h. omega arith)
  same_value_same_word (object i) (integer a) w x d e = tag_not_zero w x (object_between i w d).0 (tag_told names program places z y r (integer a) x e)
  same_value_same_word (object i) (character c) w x d e =
      tag_not_three w x (object_between i w d).1 (tag_told names program places z y r (character c) x e)
  same_value_same_word v nil w x d e =
      let h : nil_word ≡ x = cc e in ap (λ u. w == u) (sym h) ∙ nil_told names program places z y r v w d
  same_value_same_word nil u w x d e =
      let h : nil_word ≡ w = cc d in
      ap (λ v. v == x) (sym h) ∙ turned nil_word x ∙ nil_told names program places z y r u x e ∙ back u
    where
      back : (u : Value) → same u nil ≡ same nil u
      back nil = refl
      back u = refl
