-- The stack pointer goes up: blocks are given back, and what is lent and private beside the others is as before.
use Rattle.std.proofs.Common.{◌≡◌, ℕ, ◌+◌, ◌-◌, ◌*◌, ◌%◌, ◌^◌, ◌<◌, ◌≤◌, Bool, true, false, List, [], ◌∷◌, ◌++◌, length, refl, sym, ap, subst, ◌∙◌, arith, eqb-true}
use Rattle.std.specs.Prelude.{◌||◌, ◌&&◌, slice_index, if◌then◌else◌, ◌==◌}
use Rattle.base.specs.Arithmetic.{sum32}
use Rattle.rv_encode.specs.declared.instruction.Instr.TheVariants.{Addi, Add}
use Rattle.rv_machine.specs.Arithmetic.{sign_extended}
use Rattle.rv_machine.specs.Step.{gives}
use Rattle.rv_machine.specs.Run.{Moment}
use Rattle.mid_code.specs.Arena.{Arena, Block, words_of, is_lent, is_within, is_in_record, lent_from, begin_of, is_record, with_blocks}
use Rattle.mid_code.specs.State.{MidState, with_arena}
use Rattle.mid_lines.specs.declared.line.LineProgram.{LineProgram}
use Rattle.back_places.specs.declared.place.Place.{Place}
use Rattle.back_places.specs.Places.{Located}
use Rattle.back_places.specs.Operands.{low_part, is_short, constant_code}
use Rattle.back_places.specs.Blocks.{stack_code, raise_code}
use Rattle.back_places.specs.Relation.{Machine}
use Rattle.back_emission.specs.Moments.{state_at, AreSmall, Ready, Prepared}
use Rattle.back_emission.proofs.Parts.{short_is}
use Rattle.back_emission.proofs.Operands.{prepared_one, prepared_none, prepared_on, constant_prepared}

-- a word is added to the stack pointer
pub stack_prepared :
    (words registers : List ℕ) (word sp' : ℕ) → AreSmall words → Ready registers → word < 2 ^ 32 → sum32 (slice_index registers 2) word ≡ sp'
    → Prepared words registers (stack_code word) 2 sp' 2
stack_prepared words registers word sp' small ready fits is = by (is_short word) refl
  where
    below : sp' < 2 ^ 32
    below = omega (arith, is)

    by : (t : Bool) → is_short word ≡ t → Prepared words registers (if t then Addi 2 2 (low_part word) ∷ [] else constant_code 7 word ++ Add 2 2 7 ∷ []) 2 sp' 2
    by true e =
        let v : sum32 (slice_index registers 2) (sign_extended 12 (low_part word)) ≡ sp' = ap (λ x. sum32 (slice_index registers 2) x) (short_is word fits e) ∙ is in
        prepared_one words registers (Addi 2 2 (low_part word)) 2 sp' small ready (omega arith) (omega arith) below (λ i. ap (λ x. gives 2 x (state_at i registers words)) v)
    by false e =
        let one = constant_prepared words registers 7 word small ready (omega arith) (omega arith) fits in
        let sp : slice_index one.registers' 2 ≡ slice_index registers 2 = one.others 2 (λ h. omega (arith, h)) (λ h. omega (arith, h)) in
        let v : sum32 (slice_index one.registers' 2) (slice_index one.registers' 7) ≡ sp' =
        ap (λ x. sum32 x (slice_index one.registers' 7)) sp ∙ ap (λ x. sum32 (slice_index registers 2) x) one.holds ∙ is in
        prepared_on one (λ q ne n7. n7)
        (prepared_one words one.registers' (Add 2 2 7) 2 sp' small one.ready (omega arith) (omega arith) below (λ i. ap (λ x. gives 2 x (state_at i one.registers' words)) v))

pub raise_prepared :
    (words registers : List ℕ) (n sp' : ℕ) → AreSmall words → Ready registers → slice_index registers 2 + 4 * n ≡ sp' → sp' < 2 ^ 32
    → Prepared words registers (raise_code n) 2 sp' 2
raise_prepared words registers n sp' small ready is fits = by (n == 0) refl
  where
    by : (t : Bool) → (n == 0) ≡ t → Prepared words registers (if t then [] else stack_code (4 * n)) 2 sp' 2
    by true e = let none : n ≡ 0 = eqb-true n 0 e in prepared_none words registers 2 sp' 2 ready (omega (arith, is, none))
    by false e = stack_prepared words registers (4 * n) sp' small ready (omega (arith, is, fits)) (omega (arith, is, fits))

-- what is lent beside fewer blocks was lent
pub or_more : (x y z : Bool) → (y ≡ true → z ≡ true) → (x || y) ≡ true → (x || z) ≡ true
or_more true y z f h = refl
or_more false y z f h = f h

and_more : (x y z : Bool) → (y ≡ true → z ≡ true) → (x && y) ≡ true → (x && z) ≡ true
and_more true y z f h = f h
and_more false y z f h = h

or_back : (x y : Bool) → y ≡ true → (x || y) ≡ true
or_back true y h = refl
or_back false y h = h

pub lent_in_more :
    (size : ℕ) (before bs : List Block) (address : ℕ) → is_in_record size bs address ≡ true → is_in_record size (before ++ bs) address ≡ true
lent_in_more size [] bs address h = h
lent_in_more size (b ∷ before) bs address h =
    or_back (is_record b.kind && is_within (lent_from size (b ∷ (before ++ bs))) (begin_of size (before ++ bs)) address) _ (lent_in_more size before bs address h)

pub lent_before :
    (arena : Arena) (before bs : List Block) (address : ℕ) → arena.blocks ≡ before ++ bs
    → is_lent (with_blocks bs arena) address ≡ true → is_lent arena address ≡ true
lent_before arena before bs address e h =
    and_more (address % 4 == 0) _ _ (or_more (is_within arena.laid_from arena.laid_to address || is_within arena.heap_from arena.heap_to address) _ _
    (λ k. subst (λ b. is_in_record (length arena.memory) b address ≡ true) (sym e) (lent_in_more (length arena.memory) before bs address k))) h

pub fewer_words : (before bs : List Block) → words_of bs ≤ words_of (before ++ bs)
fewer_words [] bs = omega arith
fewer_words (b ∷ before) bs = let h = fewer_words before bs in omega (arith, h)

module _ (program : LineProgram) (l : Located) (Fact : (number line register : ℕ) → Place → Type 0) (first : List Block) where
  -- the machine of an arena with fewer blocks, whose stack pointer is where they begin
  pub machine_left :
      (z : MidState) (words : List ℕ) (m m' : Moment) (before bs : List Block) → z.arena.blocks ≡ before ++ bs → Machine program l Fact first z words m
      → m'.state.memory ≡ m.state.memory → Ready m'.state.registers → AreSmall m'.state.registers
      → slice_index m'.state.registers 2 ≡ 4 * (length z.arena.memory - words_of bs) → slice_index m'.state.registers 3 ≡ slice_index m.state.registers 3
      → m'.printed ≡ m.printed → m'.input ≡ m.input
      → Machine program l Fact first (with_arena (with_blocks bs z.arena) z) words m'
  machine_left z words m m' before bs e r memory ready small stack heap printed input =
      let fewer = fewer_words before bs in
      let same : words_of z.arena.blocks ≡ words_of (before ++ bs) = ap words_of e in
      record {
        memory = memory ∙ r.memory;
        arena = record { long = r.arena.long; words_small = r.arena.words_small; lent = λ j w h k. r.arena.lent j w (lent_before z.arena before bs (4 * j) e h) k };
        code = r.code;
        apart = record { laid_below = r.apart.laid_below; arguments_below = r.apart.arguments_below; heap_above = r.apart.heap_above };
        form = record {
          small = r.form.small;
          fits = omega (arith, fewer, same, r.form.fits);
          heap = r.form.heap;
          grown = r.form.grown;
          below = omega (arith, fewer, same, r.form.fits, r.form.below);
          laid = r.form.laid;
        };
        long = ready.long;
        zero_is = ready.zero_is;
        registers_small = small;
        stack = stack;
        heap = heap ∙ r.heap;
        printed = printed ∙ r.printed;
        input = input ∙ r.input;
        input_small = r.input_small;
      }
