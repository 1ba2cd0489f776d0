-- What stands where in laid words, and that it stays there where more words are laid.
use Rattle.std.proofs.Common.{◌≡◌, ℕ, ◌+◌, ◌-◌, ◌*◌, ◌/◌, ◌%◌, ◌<◌, ◌≤◌, Bool, true, false, List, ◌++◌, length, Option, Some, None, map, refl, sym, ◌∙◌, ap, arith}
use Rattle.std.specs.Prelude.{◌==◌, ◌&&◌, ◌||◌, if◌then◌else◌, option_map, replicate, slice_get}
use Rattle.std.proofs.lemmas.Option.{slice_get-map, slice_get_within}
use Rattle.std.proofs.lemmas.List.{length-replicate}
use Rattle.std.proofs.lemmas.Bool.Decides.{nat_tests}
use Rattle.mid_code.specs.Arena.{Arena, is_within, is_in_record, is_lent, word_in, word_at}
use Rattle.mid_arena.specs.Places.{Spot, end_of}
use Rattle.mid_arena.specs.Standing.{IsLentPart, of_laid, of_heap, SpotStands, SameWords}
use Rattle.mid_arena.proofs.Memory.{lent_in_laid}
use Rattle.mid_arena.proofs.Arguments.{item_there}
use Rattle.mid_start.specs.declared.words.ArenaWords.{ArenaWords}
use Rattle.mid_start.specs.LaidArena.{end_address, memory_of, arena_of}
use Rattle.mid_start.specs.Laying.{Grown, with_more}
use Rattle.mid_start.proofs.Lists.{no_shorter, item_stays, item_behind, beginning_same, beginning_of, beginning_both}

word_found : (a : Arena) (x : ℕ) → is_lent a x ≡ true → word_at a x ≡ word_in (slice_get a.memory (x / 4))
word_found a x h = ap (λ t. if t then word_in (slice_get a.memory (x / 4)) else None) h

-- behind places with no word
memory_at :
    (k i : ℕ) (ws : List ℕ) → slice_get (replicate {A = Option ℕ} k None ++ map (λ w. Some w) ws) (k + i) ≡ option_map (λ w. Some w) (slice_get ws i)
memory_at k i ws =
    let empty : List (Option ℕ) = replicate {A = Option ℕ} k None in
    let same : k + i ≡ length empty + i = omega (arith, length-replicate {A = Option ℕ} k None) in
    ap (slice_get (empty ++ map (λ w. Some w) ws)) same ∙ item_behind empty (map (λ w. Some w) ws) i ∙ slice_get-map (λ w. Some w) ws i

-- a laid word stands at its address
pub word_laid :
    (words : ArenaWords) (i w : ℕ) → words.first % 4 ≡ 0 → slice_get words.words i ≡ Some w → word_at (arena_of words) (words.first + 4 * i) ≡ Some w
word_laid words i w e found =
    let within : i < length words.words = slice_get_within words.words i w found in
    let place : (words.first + 4 * i) / 4 ≡ words.first / 4 + i = omega arith in
    word_found (arena_of words) (words.first + 4 * i) (lent_in_laid (arena_of words) (words.first + 4 * i) (omega arith) (omega arith) (omega arith))
    ∙ ap (λ n. word_in (slice_get (memory_of words) n)) place
    ∙ ap word_in (memory_at (words.first / 4) i words.words ∙ ap (option_map (λ v. Some v)) found)

-- at other addresses than those of words there is none
none_between : (a : Arena) (x : ℕ) → (x % 4 == 0) ≡ false → word_at a x ≡ None
none_between a x e =
    ap
    (λ t. if t && (is_within a.laid_from a.laid_to x || is_within a.heap_from a.heap_to x || is_in_record (length a.memory) a.blocks x)
    then word_in (slice_get a.memory (x / 4)) else None) e

-- a spot that stands is among the words
pub record IsAmong (words : ArenaWords) (s : Spot) : Type 0 where
  pub low : words.first ≤ s.address
  pub high : end_of s ≤ end_address words

pub spot_among : (words : ArenaWords) (s : Spot) → SpotStands (arena_of words) s → IsAmong words s
spot_among words s h = by h.part
  where
    by : IsLentPart (arena_of words) s → IsAmong words s
    by (of_laid low high) = record { low = low; high = high }
    by (of_heap low high) = absurd (omega (arith, h.some))

-- ---- where words and symbols are laid behind others

pub grown_same : (words : ArenaWords) → Grown words words
grown_same words = record { first = refl; words = beginning_same words.words; symbols = beginning_same words.symbols }

pub grown_both : (a b c : ArenaWords) → Grown a b → Grown b c → Grown a c
grown_both a b c g h = record {
  first = h.first ∙ g.first;
  words = beginning_both a.words b.words c.words g.words h.words;
  symbols = beginning_both a.symbols b.symbols c.symbols g.symbols h.symbols;
}

-- these words were laid behind the others, and no symbol
pub record Appended (before after : ArenaWords) (ws : List ℕ) : Type 0 where
  pub first : after.first ≡ before.first
  pub symbols : after.symbols ≡ before.symbols
  pub words : after.words ≡ before.words ++ ws

pub appended_grown : (before after : ArenaWords) (ws : List ℕ) → Appended before after ws → Grown before after
appended_grown before after ws p = record {
  first = p.first;
  words = beginning_of before.words ws after.words p.words;
  symbols = rw p.symbols (beginning_same before.symbols);
}

-- one of them stands behind where the others end
pub word_behind :
    (before after : ArenaWords) (ws : List ℕ) (i w : ℕ) → before.first % 4 ≡ 0 → after.first ≡ before.first → after.words ≡ before.words ++ ws
    → slice_get ws i ≡ Some w → word_at (arena_of after) (end_address before + 4 * i) ≡ Some w
word_behind before after ws i w e first words found =
    let address : end_address before + 4 * i ≡ after.first + 4 * (length before.words + i) = omega arith in
    let there : slice_get after.words (length before.words + i) ≡ Some w =
    ap (λ vs. slice_get vs (length before.words + i)) words ∙ item_behind before.words ws i ∙ found in
    ap (word_at (arena_of after)) address ∙ word_laid after (length before.words + i) w (rw first e) there

pub spot_grown : (before after : ArenaWords) (s : Spot) → Grown before after → SpotStands (arena_of before) s → SpotStands (arena_of after) s
spot_grown before after s g h =
    let among = spot_among before s h in
    let more = no_shorter before.words after.words g.words in
    record { aligned = h.aligned; some = h.some; tag = h.tag; part = of_laid (omega (arith, g.first, among.low)) (omega (arith, g.first, among.high, more)) }

-- a word stays at its address
laid_same :
    (before after : ArenaWords) (i : ℕ) → before.first % 4 ≡ 0 → Grown before after → i < length before.words
    → word_at (arena_of after) (before.first + 4 * i) ≡ word_at (arena_of before) (before.first + 4 * i)
laid_same before after i e g h =
    let there = item_there before.words i h in
    let same : before.first + 4 * i ≡ after.first + 4 * i = omega (arith, g.first) in
    let now : word_at (arena_of after) (after.first + 4 * i) ≡ Some there.0 =
    word_laid after i there.0 (rw g.first e) (item_stays before.words after.words i there.0 g.words there.1) in
    ap (word_at (arena_of after)) same ∙ now ∙ sym (word_laid before i there.0 e there.1)

-- the words of a spot stay
pub words_grown :
    (before after : ArenaWords) (s : Spot) → before.first % 4 ≡ 0 → Grown before after → SpotStands (arena_of before) s
    → SameWords (arena_of before) (arena_of after) s
words_grown before after s e g h x low high = by (x % 4 == 0) refl
  where
    by : (b : Bool) → (x % 4 == 0) ≡ b → word_at (arena_of after) x ≡ word_at (arena_of before) x
    by false between = none_between (arena_of after) x between ∙ sym (none_between (arena_of before) x between)
    by true aligned =
        let among = spot_among before s h in
        let exact : x % 4 ≡ 0 = grind (arith, nat_tests) in
        let address : x ≡ before.first + 4 * ((x - before.first) / 4) = omega (arith, among.low) in
        rw address (laid_same before after ((x - before.first) / 4) e g (omega (arith, among.low, among.high)))

pub appended_of : (before after : ArenaWords) (ws : List ℕ) → after ≡ with_more ws before → Appended before after ws
appended_of before after ws e = record { first = ap (λ (a : ArenaWords). a.first) e; symbols = ap (λ (a : ArenaWords). a.symbols) e; words = ap (λ (a : ArenaWords). a.words) e }
