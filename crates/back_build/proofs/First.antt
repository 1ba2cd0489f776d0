-- The state with which a run of an image begins, as one that begins with the words that were laid.
use Rattle.std.proofs.Common.{◌≡◌, ℕ, ◌-◌, ◌/◌, ◌^◌, ◌≤◌, List, ◌++◌, length, refl, sym, ap, arith, Some, None, Option}
use Rattle.std.specs.Prelude.{map, replicate}
use Rattle.std.proofs.lemmas.Grind.{common_steps}
use Rattle.lang_meaning.specs.State.{State, words}
use Rattle.mid_start.specs.declared.words.ArenaWords.{ArenaWords}
use Rattle.mid_start.specs.LaidArena.{memory_of}
use Rattle.mid_start.specs.StaticData.{BeginsWithData}
use Rattle.back_relation.specs.Around.{RoomFor}
use Rattle.back_claims.specs.Program.{start_words}
use Rattle.back_runs.specs.Images.{first_state}
use Rattle.back_build.specs.Means.{Holds}

abbrev memory_with : (laid : List ℕ) (empty : ℕ) → List (Option ℕ)
memory_with laid empty = map (λ w. Some w) laid ++ replicate {A = Option ℕ} empty None

-- its memory has as many words as the arena
memory_long : (laid : List ℕ) (arena : ℕ) → length laid ≤ arena → length (memory_with laid (arena - length laid)) ≡ arena
memory_long laid arena h = grind (arith, common_steps)

-- from address 0 on there is nothing in front of the words
front_memory : (ws : ArenaWords) → ws.first ≡ 0 → memory_of ws ≡ map (λ w. Some w) ws.words
front_memory ws e =
    let none : ws.first / 4 ≡ 0 = omega (arith, e) in
    ap (λ n. replicate {A = Option ℕ} n None ++ map (λ w. Some w) ws.words) none

module _ (ws : ArenaWords) (image : List ℕ) (arena : ℕ) (input : List ℕ) (first : ws.first ≡ 0) (front : length ws.words ≤ length image)
    (fits : length image ≤ arena) (small : arena ≤ 2 ^ 24) where
  long : length (memory_with ws.words (arena - length ws.words)) ≡ arena
  long = memory_long ws.words arena (omega (arith, front, fits))

  pub begins_with : BeginsWithData ws input (first_state ws.words (length image) arena input)
  begins_with = record {
    empty = arena - length ws.words;
    memory = sym (ap (λ x. x ++ replicate {A = Option ℕ} (arena - length ws.words) None) (front_memory ws first));
    laid_from = sym first;
    laid_to = omega (arith, first);
    heap_from = omega (arith, first, front);
    heap_to = refl;
    aligned = omega arith;
    blocks = refl;
    size = let e = long in omega (arith, e, small);
    room = let e = long in omega (arith, e, fits);
    printed = refl;
    input_left = refl;
  }

  pub room_for : (charge : ℕ) (z : State) → Holds arena image charge → RoomFor (words charge) start_words z (first_state ws.words (length image) arena input)
  room_for charge z holds = let e = long in omega (arith, e, holds, fits)
