-- By kind of object: its words say the same as long as they stay and its values have the words that they had.
use Rattle.std.proofs.Common.{◌≡◌, ℕ, suc, ◌+◌, ◌*◌, ◌<◌, ◌≤◌, true, List, [], ◌∷◌, length, Option, Some, None, refl, ap, ◌∙◌, arith}
use Rattle.std.specs.Prelude.{slice_index_or}
use Rattle.std.proofs.lemmas.Option.{slice_get_within}
use Rattle.base.specs.Names.{slice_get-front}
use Rattle.lang_meaning.specs.declared.program.ProgramRows.{ProgramRows}
use Rattle.lang_meaning.specs.declared.program.SlotRow.{SlotRow}
use Rattle.lang_meaning.specs.Values.{SymbolValue, named, unnamed, Value, nil, object}
use Rattle.lang_meaning.specs.Objects.{Object, cons, string, vector, instance, function, closure, generic_function, class_object, input_stream, output_stream, fresh_symbol, serious_condition_class}
use Rattle.lang_meaning.specs.Classes.{precedence, slots, is_below}
use Rattle.lang_meaning.specs.Primitives.{instance_words}
use Rattle.mid_code.specs.Arena.{Arena, word_at}
use Rattle.mid_arena.specs.Tags.{object_tag, string_header, vector_header, instance_header, function_header, generic_header}
use Rattle.mid_arena.specs.Tags.{class_header, input_header, output_header, symbol_header, fresh_header, tag_of}
use Rattle.mid_arena.specs.Places.{Spot, end_of, pointer_to, Places, Owner, of_object, of_symbol, of_other, spot_in, spot_of, with_object, pointer_in, word_of, WordsOf}
use Rattle.mid_arena.specs.Standing.{SameWords, ValueAt, SlotAt}
use Rattle.mid_arena.specs.Layouts.{TextAt, ConsAt, VectorAt, PairAt, StreamAt, FunctionAt, InstanceAt, SlotRowAt, ClassAt, ObjectAt, SymbolAt}

-- places

pub spot_in_tells : (o : Option (Option Spot)) (r : Spot) → spot_in o ≡ Some r → o ≡ Some (Some r)
spot_in_tells None r e = absurd (cc e)
spot_in_tells (Some s) r e = cc e

-- the spot to which a word points
pub record Pointer (o : Option Spot) (w : ℕ) : Type 0 where
  pub spot : Spot
  pub found : o ≡ Some spot
  pub word : w ≡ pointer_to spot

pub pointer_tells : (o : Option Spot) (w : ℕ) → pointer_in o ≡ Some w → Pointer o w
pointer_tells None w e = absurd (cc e)
pointer_tells (Some s) w e = record { spot = s; found = refl; word = cc e }

-- each owner has the spot that it had
pub old_spot : (s : Spot) (places : Places) (p : Owner) (r : Spot) → spot_of places p ≡ Some r → spot_of (with_object s places) p ≡ Some r
old_spot s places (of_object i) r e =
    ap spot_in (slice_get-front places.objects (Some s ∷ []) i (Some r) (spot_in_tells _ r e))
old_spot s places (of_symbol v) r e = e
old_spot s places (of_other n) r e = e

-- each value that had a word has the same word
pub record PlacesExtend (before after : Places) : Type 0 where
  pub word : (v : Value) (w : ℕ) → word_of before v ≡ Some w → word_of after v ≡ Some w

pub extends_same : (places : Places) → PlacesExtend places places
extends_same places = record { word = λ v w e. e }

pub same_word : (s : Spot) (places : Places) (v : Value) (w : ℕ) → word_of places v ≡ Some w → word_of (with_object s places) v ≡ Some w
same_word s places (object i) w e =
    let p = pointer_tells (spot_of places (of_object i)) w e in
    ap pointer_in (old_spot s places (of_object i) p.spot p.found) ∙ cc p.word
same_word s places other w e = e

pub extends_one : (s : Spot) (places : Places) → PlacesExtend places (with_object s places)
extends_one s places = record { word = same_word s places }

pub words_extended : (before after : Places) → PlacesExtend before after → (vs : List Value) (ws : List ℕ) → WordsOf before vs ws → WordsOf after vs ws
words_extended before after more [] [] h = tt
words_extended before after more [] (w ∷ ws) h = h
words_extended before after more (v ∷ vs) [] h = h
words_extended before after more (v ∷ vs) (w ∷ ws) h = (more.word v w h.0, words_extended before after more vs ws h.1)

-- the words of values are as many as the values
pub as_many_words : (places : Places) (vs : List Value) (ws : List ℕ) → WordsOf places vs ws → length ws ≡ length vs
as_many_words places [] [] h = refl
as_many_words places [] (w ∷ ws) h = absurd h
as_many_words places (v ∷ vs) [] h = absurd h
as_many_words places (v ∷ vs) (w ∷ ws) h = ap (λ n. suc n) (as_many_words places vs ws h.1)

-- a condition has one word more
pub words_of_condition : (program : ProgramRows) (c n : ℕ) → is_below program c serious_condition_class ≡ true → instance_words program c n ≡ 3 + n
words_of_condition program c n e = rw e (omega arith)

pub words_at_least : (program : ProgramRows) (c n : ℕ) → 2 + n ≤ instance_words program c n
words_at_least program c n = omega arith

-- from one arena to another in which the words of a spot are the same

module _ (a b : Arena) (s : Spot) (same : SameWords a b s) where
  pub text_kept : (kind : ℕ) (bytes : List ℕ) → TextAt a s kind bytes → TextAt b s kind bytes
  text_kept kind bytes t =
      let size = t.size.words in
      record {
        size = t.size;
        bytes = t.bytes;
        header = same s.address (omega arith) (omega arith) ∙ t.header;
        count = same (s.address + 4) (omega arith) (omega arith) ∙ t.count;
        words = λ i h. same (s.address + 8 + 4 * i) (omega arith) (omega arith) ∙ t.words i h;
      }

  pub pair_kept : (kind second : ℕ) → PairAt a s kind second → PairAt b s kind second
  pair_kept kind second t = record {
    size = t.size;
    header = same s.address (omega arith) (omega arith) ∙ t.header;
    word = same (s.address + 4) (omega arith) (omega arith) ∙ t.word;
  }

  pub stream_kept : (kind : ℕ) → StreamAt a s kind → StreamAt b s kind
  stream_kept kind t = record { size = t.size; header = same s.address (omega arith) (omega arith) ∙ t.header }

  pub function_kept : FunctionAt a s → FunctionAt b s
  function_kept t = record { words = t.words; tag = t.tag; header = same s.address (omega arith) (omega arith) ∙ t.header }

  -- a symbol keeps its words
  pub symbol_kept : (v : SymbolValue) → SymbolAt a s v → SymbolAt b s v
  symbol_kept (named name) t = text_kept symbol_header name t
  symbol_kept (unnamed expansion serial) t = pair_kept _ _ t

  module _ (before after : Places) (more : PlacesExtend before after) where
    pub value_kept : (address : ℕ) (v : Value) → s.address ≤ address → address < end_of s → ValueAt before a address v → ValueAt after b address v
    value_kept address v low high at = record {
      word = at.word;
      of_value = more.word v at.word at.of_value;
      stands = same address low high ∙ at.stands;
    }

    pub slot_kept : (address : ℕ) (o : Option Value) → s.address ≤ address → address < end_of s → SlotAt before a address o → SlotAt after b address o
    slot_kept address None low high at = same address low high ∙ at
    slot_kept address (Some v) low high at = value_kept address v low high at

    cons_kept : (first second : Value) → ConsAt before a s first second → ConsAt after b s first second
    cons_kept first second t = record {
      size = t.size;
      car = value_kept s.address first (omega arith) (omega arith) t.car;
      cdr = value_kept (s.address + 4) second (omega arith) (omega arith) t.cdr;
    }

    vector_kept : (vs : List Value) → VectorAt before a s vs → VectorAt after b s vs
    vector_kept vs t = record {
      size = t.size;
      header = same s.address (omega arith) (omega arith) ∙ t.header;
      count = same (s.address + 4) (omega arith) (omega arith) ∙ t.count;
      values = λ i h. value_kept (s.address + 8 + 4 * i) (slice_index_or vs i nil) (omega arith) (omega arith) (t.values i h);
    }

    module _ (names : List (List ℕ)) (program : ProgramRows) where
      instance_kept :
          (c : ℕ) (values : List (Option Value)) (m : Value) → InstanceAt names program before a s c values m
          → InstanceAt names program after b s c values m
      instance_kept c values m t = record {
        size = t.size;
        count = t.count;
        header = same s.address (omega arith) (omega (arith, t.size.words)) ∙ t.header;
        class = value_kept (s.address + 4) _ (omega arith) (omega (arith, t.size.words)) t.class;
        values_there = λ i h. slot_kept (s.address + 8 + 4 * i) (slice_index_or values i None) (omega arith) (omega (arith, t.size.words)) (t.values_there i h);
        mark = λ e.
            let size : s.words ≡ 3 + length values = t.size.words ∙ words_of_condition program c (length values) e in
            value_kept (s.address + 8 + 4 * length values) m (omega arith) (omega (arith, size)) (t.mark e);
      }

      slot_row_kept :
          (address class place : ℕ) (row : SlotRow) → s.address ≤ address → address + 8 < end_of s
          → SlotRowAt names program before a address class place row → SlotRowAt names program after b address class place row
      slot_row_kept address class place row low high t = record {
        name = value_kept address _ low (omega arith) t.name;
        initargs = value_kept (address + 4) _ (omega arith) (omega arith) t.initargs;
        initform = value_kept (address + 8) _ (omega arith) (omega arith) t.initform;
      }

      class_kept : (class : ℕ) → ClassAt names program before a s class → ClassAt names program after b s class
      class_kept class t = record {
        size = t.size;
        header = same s.address (omega arith) (omega arith) ∙ t.header;
        number = same (s.address + 4) (omega arith) (omega arith) ∙ t.number;
        name = value_kept (s.address + 8) _ (omega arith) (omega arith) t.name;
        made = value_kept (s.address + 12) _ (omega arith) (omega arith) t.made;
        condition = value_kept (s.address + 16) _ (omega arith) (omega arith) t.condition;
        above = same (s.address + 20) (omega arith) (omega arith) ∙ t.above;
        count = same (s.address + 24) (omega arith) (omega arith) ∙ t.count;
        classes = λ i h. same (s.address + 28 + 4 * i) (omega arith) (omega arith) ∙ t.classes i h;
        rows = λ i row e.
            let inside : i < length (slots program class) = slice_get_within (slots program class) i row e in
            slot_row_kept (s.address + 28 + 4 * length (precedence program class) + 12 * i) class i row (omega arith) (omega arith) (t.rows i row e);
      }

      -- an object keeps its words
      pub object_kept : (o : Object) → ObjectAt names program before a s o → ObjectAt names program after b s o
      object_kept (cons car cdr) t = cons_kept car cdr t
      object_kept (string bytes) t = text_kept string_header bytes t
      object_kept (vector vs) t = vector_kept vs t
      object_kept (instance class values mark) t = instance_kept class values mark t
      object_kept (function p) t = function_kept t
      object_kept (closure required rest body env) t = t
      object_kept (generic_function g) t = pair_kept _ _ t
      object_kept (class_object class) t = class_kept class t
      object_kept input_stream t = stream_kept _ t
      object_kept output_stream t = stream_kept _ t
      object_kept (fresh_symbol serial) t = pair_kept _ _ t

-- ---- the tag of an object is 1 or 2

pub tag_low : (o : Object) → tag_of o < 3
tag_low (cons car cdr) = omega arith
tag_low o = omega arith

pub tag_some : (o : Object) → 1 ≤ tag_of o
tag_some (cons car cdr) = omega arith
tag_some o = omega arith

-- ---- what the first word of an object says

-- the header of an object that is no cons
abbrev pub header_of : Object → ℕ
header_of (cons a d) = 0
header_of (string bytes) = string_header
header_of (vector vs) = vector_header
header_of (instance c values mark) = instance_header (length values)
header_of (function p) = function_header
header_of (closure required rest body env) = function_header
header_of (generic_function g) = generic_header
header_of (class_object c) = class_header
header_of input_stream = input_header
header_of output_stream = output_header
header_of (fresh_symbol serial) = fresh_header

abbrev pub header_of_symbol : SymbolValue → ℕ
header_of_symbol (named name) = symbol_header
header_of_symbol (unnamed expansion serial) = fresh_header

pub symbol_tag : (a : Arena) (s : Spot) (v : SymbolValue) → SymbolAt a s v → s.tag ≡ object_tag
symbol_tag a s (named name) t = t.size.tag
symbol_tag a s (unnamed expansion serial) t = t.size.tag

pub header_at_symbol : (a : Arena) (s : Spot) (v : SymbolValue) → SymbolAt a s v → word_at a s.address ≡ Some (header_of_symbol v)
header_at_symbol a s (named name) t = t.header
header_at_symbol a s (unnamed expansion serial) t = t.header

module _ (names : List (List ℕ)) (program : ProgramRows) (places : Places) (a : Arena) (s : Spot) where
  pub object_tag_is : (o : Object) → ObjectAt names program places a s o → s.tag ≡ tag_of o
  object_tag_is (function p) t = t.tag
  object_tag_is (closure required rest body env) t = absurd t
  object_tag_is w t = t.size.tag

  pub header_at_object : (o : Object) → tag_of o ≡ object_tag → ObjectAt names program places a s o → word_at a s.address ≡ Some (header_of o)
  header_at_object (cons car cdr) e t = absurd (omega (arith, e))
  header_at_object (closure required rest body env) e t = absurd t
  header_at_object w e t = t.header
