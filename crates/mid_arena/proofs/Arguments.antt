-- What the word of a value tells of it in a represented state: its tag, and the header to which it points.
use Rattle.std.proofs.Common.{◌≡◌, ℕ, pos, zero, suc, ◌+◌, ◌-◌, ◌*◌, ◌%◌, ◌^◌, ◌<◌, ◌≤◌, ℤ, Bool, true, false, List, [], ◌∷◌, length, Option, Some, None, refl, sym, ap, ◌∙◌, arith}
use Rattle.std.specs.Prelude.{nat_le, slice_get, if◌then◌else◌}
use Rattle.std.proofs.lemmas.Bool.Decides.{nat_tests}
use Rattle.lang_meaning.specs.declared.program.ProgramRows.{ProgramRows}
use Rattle.lang_meaning.specs.Values.{SymbolValue, Value, integer, character, symbol, nil, object, in_range}
use Rattle.lang_meaning.specs.Objects.{Object}
use Rattle.lang_meaning.specs.State as meaning
use Rattle.lang_meaning.specs.Classes.{fetch}
use Rattle.mid_code.specs.Arena.{word_at}
use Rattle.mid_code.specs.State.{MidState}
use Rattle.mid_code.proofs.WordBounds.{low_word_bounded}
use Rattle.mid_arena.specs.Tags.{object_tag, integer_word, nil_word, character_word, tag_of}
use Rattle.mid_arena.specs.Places.{Spot, Places, of_object, of_symbol, spot_of, word_of}
use Rattle.mid_arena.specs.Standing.{SpotStands}
use Rattle.mid_arena.specs.Layouts.{ObjectAt, SymbolAt}
use Rattle.mid_arena.specs.Represents.{Represents}
use Rattle.mid_arena.proofs.Keeping.{pointer_tells, header_of, header_of_symbol, symbol_tag, header_at_symbol, object_tag_is, header_at_object}
use Rattle.mid_arena.proofs.Owners.{object_within}
use Rattle.mid_arena.proofs.WordFacts.{integer_word_tag, integer_word_of_pos, in_range_is}
use Rattle.mid_arena.proofs.Memory.{spot_low}

-- ---- words of atoms

-- a choice that comes to something
pub chosen : (b : Bool) (x w : ℕ) → (if b then Some x else None) ≡ Some w → (b ≡ true) × (w ≡ x)
chosen true x w e = (refl, cc e)
chosen false x w e = absurd (cc e)

pub integer_word_is : (places : Places) (n : ℤ) (w : ℕ) → word_of places (integer n) ≡ Some w → (in_range n ≡ true) × (w ≡ integer_word n)
integer_word_is places n w e = chosen (in_range n) (integer_word n) w e

pub character_word_is : (places : Places) (c w : ℕ) → word_of places (character c) ≡ Some w → (c ≤ 255) × (w ≡ 256 * c + 15)
character_word_is places c w e = let h = chosen (nat_le c 255) (character_word c) w e in (grind (arith, nat_tests), h.1)

-- an integer in range, a length and a character have their words
pub integer_word_there : (places : Places) (i : ℤ) → in_range i ≡ true → word_of places (integer i) ≡ Some (integer_word i)
integer_word_there places i range = rw range refl

pub length_word_is : (places : Places) (count : ℕ) → count < 2 ^ 29 → word_of places (integer (pos count)) ≡ Some (4 * count)
length_word_is places count h =
    integer_word_there places (pos count) (in_range_is (pos count) (omega arith) (omega arith)) ∙ ap (λ w. Some w) (integer_word_of_pos count (omega arith))

pub character_word_there : (places : Places) (c : ℕ) → c ≤ 255 → word_of places (character c) ≡ Some (character_word c)
character_word_there places c small = let is : nat_le c 255 ≡ true = grind (arith, nat_tests) in rw is refl

-- ---- the tag and the header that a value's word leads to

-- the tag of an object's word
abbrev pub tag_in : Option Object → ℕ
tag_in None = 3
tag_in (Some o) = tag_of o

abbrev pub header_in : Option Object → ℕ
header_in None = 0
header_in (Some o) = header_of o

-- the tag of a value's word: 0 of an integer, 1 of a cons, 2 of another object or a symbol, 3 of a character or nil
abbrev pub value_tag : meaning.State → Value → ℕ
value_tag z (integer n) = 0
value_tag z (character c) = 3
value_tag z (symbol s) = object_tag
value_tag z nil = 3
value_tag z (object i) = tag_in (slice_get z.store i)

-- the header of another object or a symbol
abbrev pub value_header : meaning.State → Value → ℕ
value_header z (integer n) = 0
value_header z (character c) = 0
value_header z (symbol s) = header_of_symbol s
value_header z nil = 0
value_header z (object i) = header_in (slice_get z.store i)

pub item_there : {X : Type 0} (xs : List X) (i : ℕ) → i < length xs → (x : X) × (slice_get xs i ≡ Some x)
item_there [] i h = absurd (omega arith)
item_there (x ∷ xs) zero h = (x, refl)
item_there (x ∷ xs) (suc i) h = item_there xs i (omega arith)

module _ (names : List (List ℕ)) (program : ProgramRows) (places : Places) (z : meaning.State) (y : MidState) (r : Represents names program places z y) where
  -- an object whose number has a spot
  pub record ObjectThere (i : ℕ) (w : ℕ) : Type 0 where
    pub one : Object
    pub stored : slice_get z.store i ≡ Some one
    pub spot : Spot
    pub found : spot_of places (of_object i) ≡ Some spot
    pub spot_stands : SpotStands y.arena spot
    pub stands : ObjectAt names program places y.arena spot one
    pub tag : spot.tag ≡ tag_of one
    pub word : w ≡ spot.address + tag_of one

  pub object_there : (i w : ℕ) → word_of places (object i) ≡ Some w → ObjectThere i w
  object_there i w e =
      let p = pointer_tells (spot_of places (of_object i)) w e in
      let within : i < length z.store = omega (arith, object_within places i p.spot p.found, r.count) in
      let there = item_there z.store i within in
      let stands : ObjectAt names program places y.arena p.spot there.0 = r.objects i there.0 p.spot there.1 p.found in
      let tag : p.spot.tag ≡ tag_of there.0 = object_tag_is names program places y.arena p.spot there.0 stands in
      record {
        one = there.0;
        stored = there.1;
        spot = p.spot;
        found = p.found;
        spot_stands = r.spots (of_object i) p.spot p.found;
        stands = stands;
        tag = tag;
        word = omega (arith, p.word, tag);
      }

  pub record SymbolThere (s : SymbolValue) (w : ℕ) : Type 0 where
    pub spot : Spot
    pub found : spot_of places (of_symbol s) ≡ Some spot
    pub spot_stands : SpotStands y.arena spot
    pub stands : SymbolAt y.arena spot s
    pub tag : spot.tag ≡ object_tag
    pub word : w ≡ spot.address + object_tag

  pub symbol_there : (s : SymbolValue) (w : ℕ) → word_of places (symbol s) ≡ Some w → SymbolThere s w
  symbol_there s w e =
      let p = pointer_tells (spot_of places (of_symbol s)) w e in
      let stands : SymbolAt y.arena p.spot s = r.symbols s p.spot p.found in
      let tag : p.spot.tag ≡ object_tag = symbol_tag y.arena p.spot s stands in
      record {
        spot = p.spot;
        found = p.found;
        spot_stands = r.spots (of_symbol s) p.spot p.found;
        stands = stands;
        tag = tag;
        word = omega (arith, p.word, tag);
      }

  -- the object of a value: its number, its spot, and the word that points to it
  pub record ObjectFound (v : Value) (w : ℕ) (o : Object) : Type 0 where
    pub number : ℕ
    pub value : v ≡ object number
    pub stored : slice_get z.store number ≡ Some o
    pub spot : Spot
    pub found : spot_of places (of_object number) ≡ Some spot
    pub spot_stands : SpotStands y.arena spot
    pub stands : ObjectAt names program places y.arena spot o
    pub tag : spot.tag ≡ tag_of o
    pub word : w ≡ spot.address + tag_of o

  pub object_found : (v : Value) (w : ℕ) (o : Object) → word_of places v ≡ Some w → fetch z v ≡ Some o → ObjectFound v w o
  object_found (object i) w o e f =
      let there = object_there i w e in
      let same : there.one ≡ o = cc (there.stored, f) in
      record {
        number = i;
        value = refl;
        stored = f;
        spot = there.spot;
        found = there.found;
        spot_stands = there.spot_stands;
        stands = rw same at there.stands;
        tag = rw same at there.tag;
        word = rw same at there.word;
      }
  object_found other w o e f = absurd (cc f)

  -- the tag of a word
  pub tag_told : (v : Value) (w : ℕ) → word_of places v ≡ Some w → w % 4 ≡ value_tag z v
  tag_told (integer n) w e = ap (λ x. x % 4) (integer_word_is places n w e).1 ∙ integer_word_tag n
  tag_told (character c) w e = let h = character_word_is places c w e in omega (arith, h.1)
  tag_told (symbol s) w e = let there = symbol_there s w e in omega (arith, there.word, there.spot_stands.aligned)
  tag_told nil w e = let h : nil_word ≡ w = cc e in omega arith
  tag_told (object i) w e =
      let there = object_there i w e in
      let low : tag_of there.one < 4 = omega (arith, there.tag, there.spot_stands.tag) in
      let told : w % 4 ≡ tag_of there.one = omega (arith, there.word, there.spot_stands.aligned, low) in
      told ∙ ap tag_in (sym there.stored)

  -- the header behind a word with that tag
  pub header_told : (v : Value) (w : ℕ) → word_of places v ≡ Some w → value_tag z v ≡ object_tag → word_at y.arena (w - 2) ≡ Some (value_header z v)
  header_told (integer n) w e h = absurd (omega (arith, h))
  header_told (character c) w e h = absurd (omega (arith, h))
  header_told (symbol s) w e h =
      let there = symbol_there s w e in
      let start : w - 2 ≡ there.spot.address = omega (arith, there.word) in
      rw start (header_at_symbol y.arena there.spot s there.stands)
  header_told nil w e h = absurd (omega (arith, h))
  header_told (object i) w e h =
      let there = object_there i w e in
      let tag : tag_of there.one ≡ object_tag = ap tag_in (sym there.stored) ∙ h in
      let start : w - 2 ≡ there.spot.address = omega (arith, there.word, tag) in
      rw (start, there.stored) (header_at_object names program places y.arena there.spot there.one tag there.stands)

  -- all words of values are words
  pub word_told : (v : Value) (w : ℕ) → word_of places v ≡ Some w → w < 2 ^ 32
  word_told (integer n) w e = rw (integer_word_is places n w e).1 (low_word_bounded _)
  word_told (character c) w e = let h = character_word_is places c w e in omega (arith, h.0, h.1)
  word_told (symbol s) w e =
      let there = symbol_there s w e in
      let below = spot_low r.arena there.spot_stands in
      omega (arith, there.word, below, there.spot_stands.some)
  word_told nil w e = let h : nil_word ≡ w = cc e in omega arith
  word_told (object i) w e =
      let there = object_there i w e in
      let below = spot_low r.arena there.spot_stands in
      omega (arith, there.word, there.tag, there.spot_stands.tag, below, there.spot_stands.some)
