-- The fixed words, and low words of a program's own, in front of those that were laid behind them.
use Rattle.std.proofs.Common.{◌≡◌, ℕ, zero, suc, ◌+◌, ◌-◌, ◌*◌, ◌/◌, ◌%◌, ◌<◌, ◌≤◌, Bool, true, false, List, [], ◌∷◌, ◌++◌, length}
use Rattle.std.proofs.Common.{take, Some, None, refl, sym, ◌∙◌, ap, length-append, lit<, lit≤, arith}
use Rattle.std.specs.Prelude.{◌==◌, ◌&&◌, ◌||◌, slice_get, if◌then◌else◌}
use Rattle.std.specs.Str.{bytes_eq}
use Rattle.std.proofs.lemmas.Slice.Eq.{bytes_eq-Decides}
use Rattle.std.proofs.lemmas.Bool.Decides.{nat_tests}
use Rattle.std.proofs.lemmas.List.{length-take-le}
use Rattle.std.proofs.lemmas.Option.{slice_get-get_or}
use Rattle.base.specs.Names.{slice_get-front}
use Rattle.base.specs.DataMeasures.{SymbolBelow}
use Rattle.base.specs.declared.datum.Symbol.{Symbol}
use Rattle.base.specs.declared.datum.Symbol.TheVariants.{Named, Fresh}
use Rattle.lang_meaning.specs.declared.program.ProgramRows.{ProgramRows}
use Rattle.lang_meaning.specs.Values.{SymbolValue, named, same_symbol, Value, integer, character, symbol, nil, object, t}
use Rattle.lang_meaning.specs.Objects.{Object}
use Rattle.lang_meaning.specs.Lookup.{text}
use Rattle.lang_meaning.specs.Literals.{symbol_of}
use Rattle.lang_meaning.specs.InitialHeap.{class_value, standard_input, standard_output}
use Rattle.mid_code.specs.Arena.{Arena, is_within, is_in_record, word_in, word_at}
use Rattle.mid_arena.specs.Tags.{nil_word, symbol_header}
use Rattle.mid_arena.specs.Places.{Spot, Places, Owner, of_object, of_symbol, of_other, same_owner, spot_of_symbol, spot_of, word_of}
use Rattle.mid_arena.specs.Standing.{of_laid, SpotStands, Apart, in_front, behind, SameWords}
use Rattle.mid_arena.specs.FixedWords.{low_address, nil_text, FixedStand, untouched}
use Rattle.mid_arena.specs.Layouts.{AreBytes, byte_words, packed}
use Rattle.mid_arena.proofs.Keeping.{PlacesExtend, symbol_kept, object_kept}
use Rattle.mid_arena.proofs.Arguments.{item_there}
use Rattle.mid_start.specs.declared.symbol_words.SymbolWord.{SymbolWord}
use Rattle.mid_start.specs.declared.words.ArenaWords.{ArenaWords}
use Rattle.mid_start.specs.LaidArena.{end_address, arena_of}
use Rattle.mid_start.specs.LaidWell.{AreSymbolsThere, LaidWell}
use Rattle.mid_start.proofs.Lists.{item_behind}
use Rattle.mid_start.proofs.LaidWords.{word_laid, spot_among}
use Rattle.mid_start.specs.Making.{AreNumbered}
use Rattle.mid_start.proofs.Numbered.{number_kept}
use Rattle.mid_start.specs.StaticData.{fixed_spot, spot_for, fixed_contents, front_contents}

-- ---- no symbol is nil

-- a symbol with a name of the table is not nil, where no name of the table is
symbol_no_nil : (names : List (List ℕ)) → ((i : ℕ) → slice_get names i ≡ Some nil_text → ⊥) → (s : Symbol) → SymbolBelow (length names) s
    → same_symbol (named nil_text) (symbol_of names s) ≡ false
symbol_no_nil names none (Fresh x s) below = refl
symbol_no_nil names none (Named name) below = by (bytes_eq nil_text (text names name.0)) refl
  where
    by : (b : Bool) → bytes_eq nil_text (text names name.0) ≡ b → b ≡ false
    by false e = refl
    by true e =
        let same : nil_text ≡ text names name.0 = (bytes_eq-Decides nil_text (text names name.0)).0 e in
        absurd (none name.0 (slice_get-get_or names name.0 [] below ∙ ap (λ bytes. Some bytes) (sym same)))

pub no_nil_there :
    (names : List (List ℕ)) → ((i : ℕ) → slice_get names i ≡ Some nil_text → ⊥) → (xs : List SymbolWord) (ps : List (SymbolValue × Spot))
    → AreSymbolsThere names xs ps → spot_of_symbol (named nil_text) ps ≡ None
no_nil_there names none [] [] h = refl
no_nil_there names none [] (p ∷ ps) h = absurd h
no_nil_there names none (x ∷ xs) [] h = absurd h
no_nil_there names none (x ∷ xs) (p ∷ ps) h =
    let other : same_symbol (named nil_text) p.0 ≡ false = ap (same_symbol (named nil_text)) h.0.symbol ∙ symbol_no_nil names none x.symbol h.0.named in
    ap (λ b. if b then Some p.1 else spot_of_symbol (named nil_text) ps) other ∙ no_nil_there names none xs ps h.1

-- ---- words in front

-- at other addresses than those of words there is none
pub none_between : (a : Arena) (x : ℕ) → (x % 4 == 0) ≡ false → word_at a x ≡ None
none_between a x e =
    ap
    (λ b. if b && (is_within a.laid_from a.laid_to x || is_within a.heap_from a.heap_to x || is_in_record (length a.memory) a.blocks x)
    then word_in (slice_get a.memory (x / 4)) else None) e

module _
    (low_count : ℕ) (fixed : List ℕ) (laid words : ArenaWords) (count : length fixed ≡ 46 + low_count) (from : laid.first ≡ 184 + 4 * low_count)
    (first : words.first ≡ 0) (all : words.words ≡ fixed ++ laid.words)
  where
    pub end_same : end_address words ≡ end_address laid
    end_same = omega (arith, ap (λ ws. length ws) all, length-append fixed laid.words)

    -- a word in front
    pub fixed_word : (i w : ℕ) → slice_get fixed i ≡ Some w → word_at (arena_of words) (4 * i) ≡ Some w
    fixed_word i w e =
        let address : 4 * i ≡ words.first + 4 * i = omega (arith, first) in
        ap (word_at (arena_of words)) address
        ∙ word_laid words i w (ap (λ n. n % 4) first) (ap (λ ws. slice_get ws i) all ∙ slice_get-front fixed laid.words i w e)

    laid_word : (i w : ℕ) → slice_get laid.words i ≡ Some w → word_at (arena_of words) (laid.first + 4 * i) ≡ Some w
    laid_word i w e =
        let address : laid.first + 4 * i ≡ words.first + 4 * (length fixed + i) = omega (arith, first, from, count) in
        ap (word_at (arena_of words)) address
        ∙ word_laid words (length fixed + i) w (ap (λ n. n % 4) first) (ap (λ ws. slice_get ws (length fixed + i)) all ∙ item_behind fixed laid.words i ∙ e)

    -- what was laid has the same words
    same_words : (s : Spot) → SpotStands (arena_of laid) s → SameWords (arena_of laid) (arena_of words) s
    same_words s h x low high = by (x % 4 == 0) refl
      where
        by : (b : Bool) → (x % 4 == 0) ≡ b → word_at (arena_of words) x ≡ word_at (arena_of laid) x
        by false between = none_between (arena_of words) x between ∙ sym (none_between (arena_of laid) x between)
        by true aligned =
            let among = spot_among laid s h in
            let exact : x % 4 ≡ 0 = grind (arith, nat_tests) in
            let i : ℕ = (x - laid.first) / 4 in
            let address : x ≡ laid.first + 4 * i = omega (arith, among.low, from) in
            let there = item_there laid.words i (omega (arith, among.low, among.high, from)) in
            let was : word_at (arena_of laid) (laid.first + 4 * i) ≡ Some there.0 = word_laid laid i there.0 (omega (arith, from)) there.1 in
            let now : word_at (arena_of words) (laid.first + 4 * i) ≡ Some there.0 = laid_word i there.0 there.1 in
            rw address (◌∙◌ {b = Some there.0} now (sym {b = Some there.0} was))

-- ---- places with the spots in front

abbrev pub with_front : (low : ℕ) → Places → Places
with_front low places = record places { others = fixed_spot ∷ spot_for low_address low }

pub same_values : (low : ℕ) (places : Places) → PlacesExtend places (with_front low places)
same_values low places = record { word = kept }
  where
    kept : (v : Value) (w : ℕ) → word_of places v ≡ Some w → word_of (with_front low places) v ≡ Some w
    kept (integer n) w e = e
    kept (character c) w e = e
    kept (symbol v) w e = e
    kept nil w e = e
    kept (object i) w e = e

-- whose spot one is
data InFrontOrNot (low : ℕ) (places : Places) (p : Owner) (s : Spot) : Type 0 where
  of_laid_one : spot_of places p ≡ Some s → InFrontOrNot low places p s
  of_fixed : p ≡ of_other 0 → s ≡ fixed_spot → InFrontOrNot low places p s
  of_low : p ≡ of_other 1 → 1 ≤ low → s ≡ record { address = low_address; words = low; tag = 0 } → InFrontOrNot low places p s

in_front_or_not : (low : ℕ) (places : Places) (p : Owner) (s : Spot) → spot_of (with_front low places) p ≡ Some s → InFrontOrNot low places p s
in_front_or_not low places (of_object i) s e = of_laid_one e
in_front_or_not low places (of_symbol v) s e = of_laid_one e
in_front_or_not low places (of_other zero) s e = of_fixed refl (cc e)
in_front_or_not zero places (of_other (suc n)) s e = absurd (cc e)
in_front_or_not (suc low) places (of_other (suc zero)) s e = of_low refl (omega arith) (cc e)
in_front_or_not (suc low) places (of_other (suc (suc n))) s e = absurd (cc e)

module _
    (names : List (List ℕ)) (program : ProgramRows) (places : Places) (store : List Object) (low : ℕ) (fixed : List ℕ) (laid words : ArenaWords)
    (count : length fixed ≡ 46 + low) (from : laid.first ≡ 184 + 4 * low) (first : words.first ≡ 0) (all : words.words ≡ fixed ++ laid.words)
    (symbols : words.symbols ≡ laid.symbols) (h : LaidWell names program places store laid)
  where
    kept : (p : Owner) (s : Spot) → spot_of places p ≡ Some s → SameWords (arena_of laid) (arena_of words) s
    kept p s e = same_words low fixed laid words count from first all s (h.spots p s e)

    high : end_address words ≡ end_address laid
    high = end_same low fixed laid words count from first all

    -- all words in front are among the words
    front_ends : 184 + 4 * low ≤ end_address words
    front_ends = omega (arith, first, count, ap (λ ws. length ws) all, length-append fixed laid.words)

    spot_stands : (p : Owner) (s : Spot) → InFrontOrNot low places p s → SpotStands (arena_of words) s
    spot_stands p s (of_laid_one e) =
        let stands = h.spots p s e in
        let among = spot_among laid s stands in
        record { aligned = stands.aligned; some = stands.some; tag = stands.tag; part = of_laid (omega (arith, first)) (omega (arith, among.high, high)) }
    spot_stands p s (of_fixed e same) =
        rw same
        (record { aligned = refl; some = lit≤ tt; tag = lit< tt; part = of_laid (omega (arith, first)) (omega (arith, front_ends)) })
    spot_stands p s (of_low e some same) =
        rw same (record { aligned = refl; some = some; tag = lit< tt; part = of_laid (omega (arith, first)) (omega (arith, front_ends)) })

    -- what was laid stands behind the words in front
    behind_front : (p : Owner) (s : Spot) → spot_of places p ≡ Some s → 184 + 4 * low ≤ s.address
    behind_front p s e = let among = spot_among laid s (h.spots p s e) in omega (arith, among.low, from)

    apart : (p q : Owner) (s r : Spot) → same_owner p q ≡ false → InFrontOrNot low places p s → InFrontOrNot low places q r → Apart s r
    apart p q s r different (of_laid_one d) (of_laid_one e) = h.apart p q s r different d e
    apart p q s r different (of_laid_one d) (of_fixed e same) = rw same (behind (omega (arith, behind_front p s d)))
    apart p q s r different (of_fixed d same) (of_laid_one e) = rw same (in_front (omega (arith, behind_front q r e)))
    apart p q s r different (of_laid_one d) (of_low e some same) = rw same (behind (omega (arith, behind_front p s d)))
    apart p q s r different (of_low d some same) (of_laid_one e) = rw same (in_front (omega (arith, behind_front q r e)))
    apart p q s r different (of_fixed d same) (of_low e some also) = rw (same, also) (in_front (lit≤ tt))
    apart p q s r different (of_low d some same) (of_fixed e also) = rw (same, also) (behind (lit≤ tt))
    apart p q s r different (of_low d some same) (of_low e more also) =
        let self : same_owner p q ≡ true = rw (d, e) refl in
        absurd (cc)
    apart p q s r different (of_fixed d same) (of_fixed e also) =
        let self : same_owner p q ≡ true = rw (d, e) refl in
        absurd (cc)

    pub front_laid : LaidWell names program (with_front low places) store words
    front_laid = record {
      aligned = ap (λ n. n % 4) first;
      spots = λ p s e. spot_stands p s (in_front_or_not low places p s e);
      apart = λ p q s r different d e. apart p q s r different (in_front_or_not low places p s d) (in_front_or_not low places q r e);
      count = h.count;
      objects = λ i o s stored e.
          object_kept (arena_of laid) (arena_of words) s (kept (of_object i) s e) places (with_front low places) (same_values low places) names program o (h.objects i o s stored e);
      symbols = λ v s e. symbol_kept (arena_of laid) (arena_of words) s (kept (of_symbol v) s e) v (h.symbols v s e);
      listed = rw symbols h.listed;
      once = h.once;
    }

    -- functions keep their numbers
    pub front_numbered : AreNumbered places store laid → AreNumbered (with_front low places) store words
    front_numbered numbered = record {
      each = λ i p s there e. number_kept laid words s p (kept (of_object i) s e) (numbered.each i p s there e);
    }

-- ---- the fixed words

pub fixed_count : (classes : List ℕ) (input output truth : ℕ) → 34 ≤ length classes → length (fixed_contents classes input output truth) ≡ 46
fixed_count classes input output truth enough =
    omega (
      arith,
      length-take-le 34 classes enough,
      length-append (take 34 classes) (input ∷ output ∷ truth ∷ 0 ∷ truth ∷ nil_word ∷ nil_word ∷ symbol_header ∷ 12 ∷ 7104878 ∷ symbol_header ∷ 0 ∷ []),
    )

pub front_count : (classes : List ℕ) (input output truth : ℕ) (low : List ℕ) → 34 ≤ length classes
    → length (front_contents classes input output truth low) ≡ 46 + length low
front_count classes input output truth low enough =
    omega (
      arith,
      fixed_count classes input output truth enough,
      length-append (fixed_contents classes input output truth) low,
    )

taken_at : {X : Type 0} (n : ℕ) (xs : List X) (i : ℕ) → i < n → slice_get (take n xs) i ≡ slice_get xs i
taken_at zero xs i h = absurd (omega arith)
taken_at (suc n) [] i h = refl
taken_at (suc n) (x ∷ xs) zero h = refl
taken_at (suc n) (x ∷ xs) (suc i) h = taken_at n xs i (omega arith)

nil_bytes : AreBytes nil_text
nil_bytes zero h = lit< tt
nil_bytes (suc zero) h = lit< tt
nil_bytes (suc (suc zero)) h = lit< tt
nil_bytes (suc (suc (suc i))) h = absurd (omega arith)

module _
    (names : List (List ℕ)) (program : ProgramRows) (places : Places) (low : List ℕ) (laid words : ArenaWords) (classes : List ℕ) (input output truth : ℕ)
    (enough : 34 ≤ length classes) (from : laid.first ≡ 184 + 4 * length low) (first : words.first ≡ 0)
    (all : words.words ≡ front_contents classes input output truth low ++ laid.words)
    (of_classes : (class w : ℕ) → slice_get classes class ≡ Some w → class < 34 → word_of places (class_value names program class) ≡ Some w)
    (of_input : word_of places (standard_input names program) ≡ Some input)
    (of_output : word_of places (standard_output names program) ≡ Some output)
    (of_truth : word_of places t ≡ Some truth)
  where
    abbrev fixed : List ℕ
    fixed = fixed_contents classes input output truth

    count : length (front_contents classes input output truth low) ≡ 46 + length low
    count = front_count classes input output truth low enough

    word_there : (i w : ℕ) → slice_get fixed i ≡ Some w → word_at (arena_of words) (4 * i) ≡ Some w
    word_there i w e =
        fixed_word (length low) (front_contents classes input output truth low) laid words count from first all i w (slice_get-front fixed low i w e)

    -- the low words stand behind them
    pub low_there : (i w : ℕ) → slice_get low i ≡ Some w → word_at (arena_of words) (low_address + 4 * i) ≡ Some w
    low_there i w e =
        let fixed_many : length fixed ≡ 46 = fixed_count classes input output truth enough in
        let address : low_address + 4 * i ≡ 4 * (length fixed + i) = omega (arith, fixed_many) in
        ap (word_at (arena_of words)) address
        ∙ fixed_word (length low) (front_contents classes input output truth low) laid words count from first all (length fixed + i) w (item_behind fixed low i ∙ e)

    -- behind the classes
    behind_classes : (i w : ℕ) → slice_get (input ∷ output ∷ truth ∷ 0 ∷ truth ∷ nil_word ∷ nil_word ∷ symbol_header ∷ 12 ∷ 7104878 ∷ symbol_header ∷ 0 ∷ []) i ≡ Some w
        → slice_get fixed (34 + i) ≡ Some w
    behind_classes i w e =
        let place : 34 + i ≡ length (take 34 classes) + i = omega (arith, length-take-le 34 classes enough) in
        ap (slice_get fixed) place ∙ item_behind (take 34 classes) _ i ∙ e

    pub fixed_stand : (left : List ℕ) → FixedStand names program (with_front (length low) places) (arena_of words) 0 [] left left
    fixed_stand left = record {
      spot = refl;
      classes = λ class small.
          let there = item_there classes class (omega (arith, enough)) in
          let w : ℕ = there.0 in
          record {
            word = w;
            of_value = (same_values (length low) places).word (class_value names program class) w (of_classes class w there.1 small);
            stands =
                word_there class w
                (slice_get-front (take 34 classes) (input ∷ output ∷ truth ∷ 0 ∷ truth ∷ nil_word ∷ nil_word ∷ symbol_header ∷ 12 ∷ 7104878 ∷ symbol_header ∷ 0 ∷ []) class w
                (taken_at 34 classes class small ∙ there.1));
          };
      input_stream = record {
        word = input;
        of_value = (same_values (length low) places).word (standard_input names program) input of_input;
        stands = word_there 34 input (behind_classes 0 input refl);
      };
      output_stream = record {
        word = output;
        of_value = (same_values (length low) places).word (standard_output names program) output of_output;
        stands = word_there 35 output (behind_classes 1 output refl);
      };
      true_value = record { word = truth; of_value = (same_values (length low) places).word t truth of_truth; stands = word_there 36 truth (behind_classes 2 truth refl) };
      serial = word_there 37 0 (behind_classes 3 0 refl);
      line = record { word = truth; of_value = (same_values (length low) places).word t truth of_truth; stands = word_there 38 truth (behind_classes 4 truth refl) };
      input = untouched (word_there 39 nil_word (behind_classes 5 nil_word refl));
      nil_name = record {
        size = record { words = refl; tag = refl };
        bytes = nil_bytes;
        header = word_there 41 symbol_header (behind_classes 7 symbol_header refl);
        count = word_there 42 12 (behind_classes 8 12 refl);
        words = nil_words;
      };
      no_name = record {
        size = record { words = refl; tag = refl };
        bytes = λ i h. absurd (omega arith);
        header = word_there 44 symbol_header (behind_classes 10 symbol_header refl);
        count = word_there 45 0 (behind_classes 11 0 refl);
        words = λ i h. absurd (omega arith);
      };
    }
      where
        nil_words : (i : ℕ) → i < byte_words (length nil_text) → word_at (arena_of words) (164 + 8 + 4 * i) ≡ Some (packed nil_text (4 * i))
        nil_words zero h = word_there 43 7104878 (behind_classes 9 7104878 refl)
        nil_words (suc i) h = absurd (omega arith)
