-- **A state of middle code that begins with the words at the start represents the state before the first form.**
use Rattle.std.proofs.Common.{◌≡◌, ℕ, ◌/◌, ◌%◌, ◌<◌, Bool, true, false, List, [], length, map, Option, Some, None, refl, sym, ◌∙◌, ap, length-append, arith}
use Rattle.std.specs.Prelude.{◌==◌, if◌then◌else◌, replicate, slice_get}
use Rattle.std.proofs.lemmas.List.{length-replicate, length-map}
use Rattle.std.proofs.lemmas.Bool.Decides.{nat_tests}
use Rattle.base.specs.Names.{slice_get-front}
use Rattle.lang_meaning.specs.declared.program.ProgramRows.{ProgramRows}
use Rattle.lang_meaning.specs.BuiltIn.{built_in_precedence, built_in_slots}
use Rattle.lang_meaning.specs.Facts.{begins_with_built_in}
use Rattle.lang_meaning.specs.State.{first_state}
use Rattle.lang_meaning.specs.Classes.{fetch}
use Rattle.lang_meaning.specs.Objects.{class_object}
use Rattle.lang_meaning.specs.InitialHeap.{objects_at_start, class_value}
use Rattle.mid_code.specs.Arena.{Arena, is_lent, word_in, word_at}
use Rattle.mid_code.specs.State.{MidState}
use Rattle.std.proofs.lemmas.Option.{slice_get_within}
use Rattle.lang_meaning.specs.Values.{object}
use Rattle.mid_arena.specs.Places.{spot_in, pointer_in, word_of, Spot, of_object, of_symbol, of_other}
use Rattle.mid_arena.specs.Standing.{ArenaStands, of_laid, SpotStands, SameWords}
use Rattle.mid_arena.specs.FixedWords.{FixedStand}
use Rattle.mid_arena.specs.Layouts.{AreBytes}
use Rattle.mid_arena.specs.Represents.{Represents}
use Rattle.mid_arena.proofs.ClassesAtStart.{classes_at_start}
use Rattle.mid_arena.proofs.Keeping.{extends_same, symbol_kept, object_kept}
use Rattle.mid_arena.proofs.Memory.{lent_in_laid}
use Rattle.mid_arena.proofs.Arguments.{item_there}
use Rattle.mid_arena.proofs.Representing.{fixed_kept}
use Rattle.mid_start.specs.declared.words.ArenaWords.{ArenaWords}
use Rattle.mid_start.specs.LaidArena.{end_address, memory_of, arena_of}
use Rattle.mid_start.proofs.LaidWords.{spot_among}
use Rattle.mid_start.specs.declared.static_data.StaticData.{StaticData}
use Rattle.mid_start.specs.StaticData.{fixed_spot, OwnWordsAt, IsStaticData, BeginsWithData}
use Rattle.mid_start.specs.Law.{LawOfStaticData}
use Rattle.mid_start.proofs.OwnSpots.{own_words_kept}
use Rattle.mid_start.proofs.ClassPlaces.{class_value_is, class_at_start}
use Rattle.mid_start.proofs.FixedFront.{none_between}

found : (a : Arena) (at : ℕ) → is_lent a at ≡ true → word_at a at ≡ word_in (slice_get a.memory (at / 4))
found a at e = ap (λ b. if b then word_in (slice_get a.memory (at / 4)) else None) e

module _ (words : ArenaWords) (input : List ℕ) (y : MidState) (first : words.first ≡ 0) (begins : BeginsWithData words input y) where
  laid_from : y.arena.laid_from ≡ 0
  laid_from = begins.laid_from ∙ first

  -- the word at the address of a laid one is lent, and the memory has it
  lent : (x : ℕ) → x % 4 ≡ 0 → x < end_address words → is_lent y.arena x ≡ true
  lent x aligned low = lent_in_laid y.arena x aligned (omega (arith, laid_from)) (omega (arith, begins.laid_to))

  memory_length : length (memory_of words) ≡ length words.words
  memory_length =
      let empty : List (Option ℕ) = replicate {A = Option ℕ} (words.first / 4) None in
      let none : words.first / 4 ≡ 0 = omega (arith, first) in
      omega (arith, length-append empty (map (λ w. Some w) words.words), length-replicate {A = Option ℕ} (words.first / 4) None, length-map words.words (λ w. Some w), none)

  pub same_words : (s : Spot) → SpotStands (arena_of words) s → SameWords (arena_of words) y.arena s
  same_words s h x low high = by (x % 4 == 0) refl
    where
      by : (b : Bool) → (x % 4 == 0) ≡ b → word_at y.arena x ≡ word_at (arena_of words) x
      by false between = none_between y.arena x between ∙ sym (none_between (arena_of words) x between)
      by true exact =
          let aligned : x % 4 ≡ 0 = grind (arith, nat_tests) in
          let among = spot_among words s h in
          let here : is_lent y.arena x ≡ true = lent x aligned (omega (arith, among.high)) in
          let there : is_lent (arena_of words) x ≡ true = lent_in_laid (arena_of words) x aligned (omega (arith, among.low)) (omega (arith, among.high)) in
          let item = item_there (memory_of words) (x / 4) (omega (arith, among.high, memory_length, first)) in
          let was : slice_get (memory_of words) (x / 4) ≡ Some item.0 = item.1 in
          let now : slice_get y.arena.memory (x / 4) ≡ Some item.0 =
          ap (λ ws. slice_get ws (x / 4)) begins.memory ∙ slice_get-front (memory_of words) _ (x / 4) item.0 was in
          found y.arena x here ∙ ap word_in now ∙ sym (found (arena_of words) x there ∙ ap word_in was)

  spot_stands : (s : Spot) → SpotStands (arena_of words) s → SpotStands y.arena s
  spot_stands s h =
      let among = spot_among words s h in
      record {
        aligned = h.aligned;
        some = h.some;
        tag = h.tag;
        part = of_laid (omega (arith, among.low, laid_from)) (omega (arith, among.high, begins.laid_to));
      }

  arena_stands : ArenaStands y.arena
  arena_stands = record {
    size = begins.size;
    laid = omega (arith, begins.laid_to, begins.heap_from);
    heap = omega (arith, begins.heap_to);
    aligned = begins.aligned;
    room = rw begins.blocks (omega (arith, begins.room));
    blocks = rw begins.blocks (omega arith);
  }

-- the state is represented
start_represented :
    (names : List (List ℕ)) (program : ProgramRows) (low further : List ℕ) (words : StaticData) (input : List ℕ) (y : MidState)
    → begins_with_built_in program.classes built_in_precedence built_in_slots ≡ true → (start : IsStaticData names program low further words) → AreBytes input
    → BeginsWithData words.arena input y → Represents names program start.places (first_state (objects_at_start names program) input) y
start_represented names program low further words input y built_in start bytes begins = record {
  built_in = built_in;
  arena = arena_stands words.arena input y start.first begins;
  spots = λ p s e. spot_stands words.arena input y start.first begins s (start.stands.spots p s e);
  apart = start.stands.apart;
  count = start.stands.count;
  classes = classes_at_start names program input;
  objects = λ i o s stored e.
      object_kept (arena_of words.arena) y.arena s (same_words words.arena input y start.first begins s (start.stands.spots (of_object i) s e)) start.places start.places
      (extends_same start.places) names program o (start.stands.objects i o s stored e);
  symbols = λ v s e.
      symbol_kept (arena_of words.arena) y.arena s (same_words words.arena input y start.first begins s (start.stands.spots (of_symbol v) s e)) v (start.stands.symbols v s e);
  no_nil = start.no_nil;
  fixed =
      let fixed : FixedStand names program start.places (arena_of words.arena) 0 [] input input = start.fixed input in
      rw (begins.input_left)
      (fixed_kept names program start.places start.places (arena_of words.arena) y.arena 0 [] input input (extends_same start.places) refl
      (same_words words.arena input y start.first begins fixed_spot (start.stands.spots (of_other 0) fixed_spot fixed.spot)) fixed);
  input = bytes;
  printed = begins.printed;
}

-- and the program's own words stand
own_words_begin :
    (names : List (List ℕ)) (program : ProgramRows) (low further : List ℕ) (words : StaticData) (input : List ℕ) (y : MidState)
    → (start : IsStaticData names program low further words) → BeginsWithData words.arena input y → OwnWordsAt low further start.further_at y.arena
own_words_begin names program low further words input y start begins =
    own_words_kept low further start.further_at start.places (arena_of words.arena) y.arena start.others
    (λ n s e. same_words words.arena input y start.first begins s (start.stands.spots (of_other n) s e)) start.own

pub law_static_data : LawOfStaticData
law_static_data names program low further words input y built_in start bytes begins =
    (start_represented names program low further words input y built_in start bytes begins, own_words_begin names program low further words input y start begins)

-- what stands for a class is its object
pub class_fetched :
    (names : List (List ℕ)) (program : ProgramRows) (input : List ℕ) (class : ℕ) → class < length program.classes
    → fetch (first_state (objects_at_start names program) input) (class_value names program class) ≡ Some (class_object class)
class_fetched names program input class within =
    ap (fetch (first_state (objects_at_start names program) input)) (class_value_is names program class within) ∙ class_at_start names program class within

none_some : (o : Option ℕ) (w : ℕ) → o ≡ None → o ≡ Some w → ⊥
none_some o w e f = cc

-- no object is left without a spot
pub no_gap :
    (names : List (List ℕ)) (program : ProgramRows) (low further : List ℕ) (words : StaticData) (start : IsStaticData names program low further words) (i : ℕ)
    → slice_get start.places.objects i ≡ Some None → ⊥
no_gap names program low further words start i gap =
    let inside = slice_get_within start.places.objects i None gap in
    let there = start.all i (omega (arith, inside, start.stands.count)) in
    let gone : word_of start.places (object i) ≡ None = ap (λ o. pointer_in (spot_in o)) gap in
    none_some (word_of start.places (object i)) there.word gone there.of_value
