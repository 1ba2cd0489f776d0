-- The machine comes from the image's first instruction to the first procedure.
use Rattle.std.proofs.Common.{◌≡◌, ℕ, ◌+◌, ◌-◌, ◌*◌, ◌^◌, ◌<◌, ◌≤◌, List, [], ◌++◌, length, refl, sym, ap, subst, ◌∙◌, arith, Some, Option, None, length-append}
use Rattle.std.specs.Prelude.{map, replicate, slice_index, slice_set}
use Rattle.std.proofs.lemmas.List.{length-set}
use Rattle.std.proofs.lemmas.Grind.{common_steps}
use Rattle.base.specs.Arithmetic.{sum32}
use Rattle.rv_machine.specs.State.{laid as laid_words, start_registers}
use Rattle.rv_machine.specs.Run.{Moment}
use Rattle.rv_machine.proofs.Laid.{length-laid}
use Rattle.mid_code.specs.Arena.{words_of, stack_from}
use Rattle.mid_code.specs.State.{MidState}
use Rattle.mid_lines.specs.declared.line.LineProgram.{LineProgram}
use Rattle.back_places.specs.declared.place.Place.{Place}
use Rattle.back_places.specs.Places.{Located}
use Rattle.back_places.specs.Operands.{high_part}
use Rattle.back_places.specs.Selection.{far_offset}
use Rattle.back_places.specs.Good.{IsGood}
use Rattle.back_places.specs.Relation.{HasArena, IsApart, InForm, Machine, Enters}
use Rattle.back_places.specs.StepLaw.{Comes, Known}
use Rattle.back_emission.specs.Moments.{state_at, later, moment, beside, AreSmall, Ready}
use Rattle.back_emission.proofs.Coming.{sets_none}
use Rattle.back_emission.proofs.Operands.{set_small}
use Rattle.back_emission.proofs.Scratch.{far_jumps}
use Rattle.back_runs.specs.Images.{HasStart, IsFirst}
use Rattle.back_runs.specs.Laws.{loaded, LawOfFirst, LawOfStart}
use Rattle.back_runs.proofs.Padding.{zeros, padded, stands_padded, program_padded, in_front}

-- as many words as there are
memory_long : (laid : List ℕ) (arena : ℕ) → length laid ≤ arena → length (map (λ w. Some w) laid ++ replicate {A = Option ℕ} (arena - length laid) None) ≡ arena
memory_long laid arena le = grind (arith, common_steps)

pub law_of_first : LawOfFirst
law_of_first program l at entry image laid rest arena input i e few room small bytes =
    let long : length image ≡ length laid + length rest = ap length e ∙ length-append laid rest in
    record {
      size = memory_long laid arena (omega (arith, long, room));
      small = small;
      room = room;
      lent = λ j w lent there. ap (λ x. slice_index x j) e ∙ in_front laid rest (arena - length laid) j w there;
      laid_below = omega (arith, few);
      heap_above = omega (arith, i.whole);
      aligned = omega arith;
      grown = omega arith;
      heap = refl;
      no_block = refl;
      printed = refl;
      input_is = refl;
      input_small = bytes;
    }

-- the registers at the start

start_ready : (words arena : ℕ) → Ready (start_registers words arena)
start_ready words arena = record {
  long = length-set (slice_set (replicate 32 0) 2 (4 * arena)) 3 (4 * words) ∙ length-set (replicate 32 0) 2 (4 * arena);
  zero_is = refl;
}

zeros_small : AreSmall (replicate 32 0)
zeros_small i = let e = zeros 32 i in omega (arith, e)

start_small : (words arena : ℕ) → words ≤ 2 ^ 24 → arena ≤ 2 ^ 24 → AreSmall (start_registers words arena)
start_small words arena few small i =
    set_small (slice_set (replicate 32 0) 2 (4 * arena)) 3 (4 * words) i
    (λ j. set_small (replicate 32 0) 2 (4 * arena) j zeros_small (omega (arith, small))) (omega (arith, few))

-- behind the jump

module _ (program : LineProgram) (l : Located) (Fact : (number line register : ℕ) → Place → Type 0) (good : IsGood program l Fact)
    (at entry : ℕ) (image : List ℕ) (arena : ℕ) (input : List ℕ) (z : MidState) (i : HasStart program l at entry image) (f : IsFirst l image arena input z) where
  abbrev words : List ℕ
  words = laid_words image arena

  abbrev registers : List ℕ
  registers = start_registers (length image) arena

  -- what comes into register 7
  abbrev upper : ℕ
  upper = sum32 (4 * at) (high_part (far_offset at (l.entry_at entry)) * 4096)

  abbrev behind : List ℕ
  behind = slice_set (slice_set registers 7 upper) 1 (4 * (at + 2))

  abbrev there : Moment
  there = moment (state_at (l.entry_at entry) behind words) (later 1 (later 1 (later 0 (beside (loaded image at arena input)))))

  words_small : AreSmall words
  words_small j = let e = padded image (arena - length image) j in omega (arith, e, i.are_words j)

  has_arena : HasArena words z.arena
  has_arena = record {
    long = length-laid image arena f.room ∙ sym f.size;
    words_small = words_small;
    lent = λ j w lent is. padded image (arena - length image) j ∙ f.lent j w lent is;
  }

  is_apart : IsApart l z.arena
  is_apart = record { laid_below = f.laid_below; arguments_below = i.arguments; heap_above = f.heap_above }

  stack_is : stack_from z.arena ≡ 4 * arena
  stack_is =
      ap (λ b. 4 * (length z.arena.memory - words_of b)) f.no_block ∙ (let e : 4 * (length z.arena.memory - 0) ≡ 4 * arena = omega (arith, f.size) in e)

  in_form : InForm z.arena
  in_form = record {
    small = omega (arith, f.size, f.small);
    fits = let e : words_of z.arena.blocks ≡ 0 = ap words_of f.no_block in omega (arith, e);
    heap = (f.aligned, omega (arith, f.heap));
    grown = f.grown;
    below = omega (arith, f.heap, f.room, stack_is);
    laid = omega (arith, f.laid_below, f.heap_above, i.arguments, i.start.from, i.start.to);
  }

  behind_ready : Ready behind
  behind_ready =
      let r = start_ready (length image) arena in
      record {
        long = length-set (slice_set registers 7 upper) 1 (4 * (at + 2)) ∙ length-set registers 7 upper ∙ r.long;
        zero_is = refl;
      }

  behind_small : AreSmall behind
  behind_small j =
      set_small (slice_set registers 7 upper) 1 (4 * (at + 2)) j
      (λ k. set_small registers 7 upper k (start_small (length image) arena (omega (arith, f.room, f.small)) f.small) (omega arith))
      (omega (arith, i.start.to, good.low))

  machine : Machine program l Fact z.arena.blocks z words there
  machine = record {
    memory = refl;
    arena = has_arena;
    code = program_padded image (arena - length image) program l i.code;
    apart = is_apart;
    form = in_form;
    long = behind_ready.long;
    zero_is = behind_ready.zero_is;
    registers_small = behind_small;
    stack = sym stack_is;
    heap = sym f.heap;
    printed = sym f.printed;
    input = sym f.input_is;
    input_small = subst (λ x. (j : ℕ) → slice_index x j < 2 ^ 32) (sym f.input_is) f.input_small;
  }

  enters : Enters program l Fact z.arena.blocks entry [] [] z there
  enters = record {
    words = words;
    machine = machine;
    pc = refl;
    passed = tt;
    waiting = ap (λ x. 4 * x) (sym i.behind);
  }

  pub starts : l.entry_at entry < 2 ^ 24 → Comes 2 (loaded image at arena input) there
  starts low =
      far_jumps (loaded image at arena input) at words registers [] at (l.entry_at entry) 1 words_small refl refl (sets_none words registers)
      (stands_padded image (arena - length image) l at _ i.start).has (omega (arith, i.start.to, good.low)) low (omega arith) (start_ready (length image) arena)

pub law_of_start : LawOfStart
law_of_start program l known good at entry image arena input z p i f e = record {
  moment = there program l (Known known) good at entry image arena input z i f;
  comes = starts program l (Known known) good at entry image arena input z i f (let to = (i.code.entries entry p e).to in omega (arith, to, good.low));
  begins = record { procedure = p; there = e; enters = enters program l (Known known) good at entry image arena input z i f };
}
