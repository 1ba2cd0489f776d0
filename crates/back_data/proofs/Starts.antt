-- States that begin with the words before the first form, and images.
use Rattle.std.proofs.Common.{◌≡◌, inl, inr, ℕ, ◌+◌, ◌-◌, ◌/◌, ◌^◌, ◌<◌, ◌≤◌, List, ◌++◌, length, map, replicate, Option, Some, None, refl, sym, ap, ◌∙◌, arith, length-append}
use Rattle.std.specs.Prelude.{slice_get, slice_index}
use Rattle.std.proofs.lemmas.Bool.{cases_lt}
use Rattle.std.proofs.lemmas.Grind.{common_steps}
use Rattle.std.proofs.lemmas.List.{get_or_past}
use Rattle.mid_arena.specs.Layouts.{AreBytes}
use Rattle.mid_start.specs.declared.words.ArenaWords.{ArenaWords}
use Rattle.mid_start.specs.LaidArena.{memory_of}
use Rattle.back_runs.proofs.Padding.{in_front}
use Rattle.back_data.specs.Laws.{LawOfStartsFromData, LawOfBeginningsWithData}

-- from address 0 on there is nothing in front of the words
front_memory : (words : ArenaWords) → words.first ≡ 0 → memory_of words ≡ map (λ w. Some w) words.words
front_memory words e =
    let none : words.first / 4 ≡ 0 = omega (arith, e) in
    ap (λ n. replicate {A = Option ℕ} n None ++ map (λ w. Some w) words.words) none

bytes_small : (input : List ℕ) → AreBytes input → (i : ℕ) → slice_index input i < 2 ^ 32
bytes_small input bytes i = elim (cases_lt i (length input)) [
  | inl within ↦ let h = bytes i within in omega (arith, h)
  | inr past ↦ let h : slice_index input i ≡ 0 = get_or_past input i 0 past in omega (arith, h)
]

memory_long : (laid : List ℕ) (arena : ℕ) → length laid ≤ arena → length (map (λ w. Some w) laid ++ replicate {A = Option ℕ} (arena - length laid) None) ≡ arena
memory_long laid arena le = grind (arith, common_steps)

pub law_of_starts_from_data : LawOfStartsFromData
law_of_starts_from_data program l at entry image words input y h f b heap bytes = record {
  size = refl;
  small = b.size;
  room = omega (arith, b.room, heap);
  lent = λ i w lent is.
      ap (λ x. slice_index x i) f.front
      ∙ in_front words.words f.rest b.empty i w
      (sym (ap (λ x. slice_get x i) (b.memory ∙ ap (λ x. x ++ replicate {A = Option ℕ} b.empty None) (front_memory words f.first))) ∙ is);
  laid_below = omega (arith, b.laid_to, f.first, f.before);
  heap_above = omega (arith, b.heap_to, heap, h.whole);
  aligned = omega (arith, b.aligned, b.heap_to);
  grown = omega (arith, b.heap_to);
  heap = heap;
  no_block = b.blocks;
  printed = b.printed;
  input_is = b.input_left;
  input_small = bytes_small input bytes;
}

pub law_of_beginnings_with_data : LawOfBeginningsWithData
law_of_beginnings_with_data l image words arena input f room small =
    let long : length image ≡ length words.words + length f.rest = ap length f.front ∙ length-append words.words f.rest in
    let size = memory_long words.words arena (omega (arith, long, room)) in
    record {
      empty = arena - length words.words;
      memory = sym (ap (λ x. x ++ replicate {A = Option ℕ} (arena - length words.words) None) (front_memory words f.first));
      laid_from = sym f.first;
      laid_to = omega (arith, f.first);
      heap_from = omega (arith, f.first, long);
      heap_to = refl;
      aligned = omega arith;
      blocks = refl;
      size = omega (arith, size, small);
      room = omega (arith, size, room);
      printed = refl;
      input_left = refl;
    }
