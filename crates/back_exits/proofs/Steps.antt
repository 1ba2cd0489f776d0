-- The step of a control record: where its words are left, the code inside runs, and a cut to it is caught; and what registers hold.
use Rattle.std.proofs.Common.{◌≡◌, ℕ, zero, suc, ◌+◌, ◌/◌, ◌<◌, ◌≤◌, true, List, [], ◌∷◌, ◌++◌, length, Option, Some, None, refl, ap, ◌∙◌, arith}
use Rattle.std.specs.Prelude.{slice_get, ◌==◌, ◌%◌, ◌^◌, ◌-◌, ◌&&◌, pos, if◌then◌else◌}
use Rattle.std.proofs.lemmas.Bool.{le-leb, lt-leb, lt-ltb, eq-eqb, and_from, or_left, or_right}
use Rattle.mid_code.specs.declared.operation.Operation.TheVariants.{Draw}
use Rattle.mid_code.specs.MidCode.{MidCode, perform, with_block}
use Rattle.mid_code.specs.Arena.{Arena, Block, record_of, is_record, is_open, closed_record, begin_of, lent_from, left, stack_from, is_within, is_lent, word_at, with_new_block, with_blocks, blocks_outside, blocks_closed}
use Rattle.mid_code.specs.Costs.{record_cost, give_back_cost}
use Rattle.mid_code.specs.Meaning.{Context, draw, run_inside, run_landing, give_back, close, exec, exec_step}
use Rattle.mid_code.specs.Meaning.{store as mid_store}
use Rattle.mid_code.specs.State.{Registers, register, falls, no_room, exhausted, ends, gives, MidState, Next, charged, with_arena, with_some, choose_by, landed}
use Rattle.mid_code.specs.Words.{address}
use Rattle.mid_code.proofs.Growth.{length-emptied}
use Rattle.mid_arena.specs.Standing.{ArenaStands}
use Rattle.mid_arena.proofs.Memory.{room_below}
use Rattle.mid_arena.proofs.Running.{StepsTo, address_up}
use Rattle.back_lowering.specs.ControlWords.{record_words}
use Rattle.back_relation.specs.Worlds.{record_bytes}
use Rattle.back_relation.proofs.Windows.{here}

module _ (c : Context) (block words word : ℕ) (inside landing : MidCode) (regs : Registers) (y : MidState) where
  -- the state where the record was laid
  abbrev pub laid_state : MidState
  laid_state = with_arena (with_new_block (record_of words) y.arena) (charged record_cost y)

  -- its words are left
  pub record_runs :
      (record_of words).words ≤ left y.arena
      → exec_step c (with_block block words word inside landing) regs y
      ≡ landed (length y.arena.blocks) (run_landing (length y.arena.blocks) word (λ rs x. exec c landing rs x))
      (run_inside (length y.arena.blocks) block (λ rs x. exec c inside rs x) regs laid_state)
  unfolding exec choose_by
  record_runs h =
      ap (λ t. choose_by t
      (λ rs x. landed (length y.arena.blocks) (run_landing (length y.arena.blocks) word (λ rs x. exec c landing rs x))
      (run_inside (length y.arena.blocks) block (λ rs x. exec c inside rs x) rs (with_arena (with_new_block (record_of words) x.arena) x)))
      (λ rs x. ends (no_room (record_of words).words (left x.arena)) rs x) regs (charged record_cost y)) (le-leb _ _ h)

  -- they are not left
  pub record_wanting :
      left y.arena < (record_of words).words
      → exec_step c (with_block block words word inside landing) regs y ≡ ends (no_room (record_of words).words (left y.arena)) regs (charged record_cost y)
  unfolding exec choose_by
  record_wanting h =
      ap (λ t. choose_by t
      (λ rs x. landed (length y.arena.blocks) (run_landing (length y.arena.blocks) word (λ rs x. exec c landing rs x))
      (run_inside (length y.arena.blocks) block (λ rs x. exec c inside rs x) rs (with_arena (with_new_block (record_of words) x.arena) x)))
      (λ rs x. ends (no_room (record_of words).words (left x.arena)) rs x) regs (charged record_cost y)) (lt-leb _ _ h)

-- the record is given back behind the inside, where it is the innermost block
pub gives_back :
    (b : Block) (bs : List Block) (regs : Registers) (y : MidState) → y.arena.blocks ≡ b ∷ bs → is_record b.kind ≡ true
    → give_back (length bs) regs y ≡ ends falls regs (with_arena (with_blocks bs y.arena) (charged give_back_cost y))
unfolding with_some
gives_back b bs regs y e r =
    ap (λ o. with_some o (λ cs rs x. ends falls rs (with_arena (with_blocks cs x.arena) x)) regs (charged give_back_cost y))
    (ap (blocks_outside (length bs)) e ∙ ap (λ t. if t && (length bs == length bs) then Some bs else None) r ∙ ap (λ t. if t then Some bs else None) (eq-eqb (length bs) (length bs) refl))

-- and closed where a cut to it is caught, which leaves it the innermost one
pub closes :
    (b : Block) (bs : List Block) (next : Next) (regs : Registers) (y : MidState) → y.arena.blocks ≡ b ∷ bs → is_open b.kind ≡ true
    → close (length bs) next regs y ≡ next regs (with_arena (with_blocks (record b { kind = closed_record } ∷ bs) y.arena) y)
unfolding with_some
closes b bs next regs y e r =
    ap (λ o. with_some o (λ cs rs x. next rs (with_arena (with_blocks cs x.arena) x)) regs y)
    (ap (blocks_closed (length bs)) e ∙ ap (λ t. if t && (length bs == length bs) then Some (record b { kind = closed_record } ∷ bs) else None) r
    ∙ ap (λ t. if t then Some (record b { kind = closed_record } ∷ bs) else None) (eq-eqb (length bs) (length bs) refl))

-- no serial number is left to draw
pub draw_ends :
    (c : Context) (front : Registers) (d : ℕ) (many : length front ≡ d) (win : Registers) (y : MidState) (r base j b k w : ℕ) → base ≡ d + j → register j win ≡ Some b
    → b + k < 2 ^ 32 → word_at y.arena (b + k) ≡ Some w → (w == 2 ^ 32 - 1) ≡ true
    → StepsTo c (perform (Draw r base (pos k))) (front ++ win) y (ends exhausted (front ++ win) (charged 26 y))
unfolding exec with_some choose_by
draw_ends c front d many win y r base j b k w f h low word last = record {
  same =
      ap (λ o. with_some o (λ x. draw r (address x (pos k))) (front ++ win) (charged 26 y)) (here c front d many win base j f ∙ h)
      ∙ ap (λ x. draw r x (front ++ win) (charged 26 y)) (address_up b k low)
      ∙ ap (λ o. with_some o (λ n. choose_by (n == 2 ^ 32 - 1) (ends exhausted) (mid_store (b + k) (n + 1) (gives r (n + 1)))) (front ++ win) (charged 26 y)) word
      ∙ ap (λ t. choose_by t (ends exhausted) (mid_store (b + k) (w + 1) (gives r (w + 1))) (front ++ win) (charged 26 y)) last;
}

-- ---- the words of a record that was laid are lent

module _ {a : Arena} (stands : ArenaStands a) (room : 8 ≤ left a) where
  abbrev pub laid_arena : Arena
  laid_arena = with_new_block (record_of record_words) a

  abbrev pub laid_at : ℕ
  laid_at = lent_from (length laid_arena.memory) laid_arena.blocks

  pub laid_size : length laid_arena.memory ≡ length a.memory
  laid_size = length-emptied _ (record_of record_words).words a.memory

  -- it stands in front of the stack of before, behind the heap
  pub laid_from : stack_from laid_arena + 8 ≡ laid_at
  laid_from = omega arith

  pub laid_to : laid_at + record_bytes ≡ stack_from a
  laid_to = omega (arith, laid_size, room_below 8 stands room)

  pub laid_low : a.heap_to + 8 ≤ laid_at
  laid_low = omega (arith, laid_to, room_below 8 stands room)

  pub laid_aligned : laid_at % 4 ≡ 0
  laid_aligned = omega arith

  pub record_lent : (k : ℕ) → k < record_bytes → k % 4 ≡ 0 → is_lent laid_arena (laid_at + k) ≡ true
  record_lent k few aligned =
      let word : (laid_at + k) % 4 ≡ 0 = omega (arith, aligned) in
      let low : laid_at ≤ laid_at + k = omega arith in
      let high : laid_at + k < begin_of (length laid_arena.memory) a.blocks = omega (arith, few, laid_size, laid_to) in
      let inside : is_within laid_at (begin_of (length laid_arena.memory) a.blocks) (laid_at + k) ≡ true =
      and_from _ _ (le-leb laid_at (laid_at + k) low) (lt-ltb (laid_at + k) (begin_of (length laid_arena.memory) a.blocks) high) in
      and_from _ _ (eq-eqb ((laid_at + k) % 4) 0 word) (or_right _ _ (or_left _ _ inside))

  pub record_there : (k : ℕ) → k < record_bytes → (laid_at + k) / 4 < length laid_arena.memory
  record_there k few = omega (arith, few, laid_size, laid_to)

-- ---- registers

-- registers from one on, written out
pub record Window (regs : Registers) (d : ℕ) : Type 0 where
  pub front : Registers
  pub r0 : Option ℕ
  pub r1 : Option ℕ
  pub r2 : Option ℕ
  pub r3 : Option ℕ
  pub r4 : Option ℕ
  pub r5 : Option ℕ
  pub r6 : Option ℕ
  pub r7 : Option ℕ
  pub tail : Registers
  pub many : length front ≡ d
  pub parts : regs ≡ front ++ r0 ∷ r1 ∷ r2 ∷ r3 ∷ r4 ∷ r5 ∷ r6 ∷ r7 ∷ tail

pub window_of : (regs : Registers) (d : ℕ) → d + 8 ≤ length regs → Window regs d
window_of (r0 ∷ r1 ∷ r2 ∷ r3 ∷ r4 ∷ r5 ∷ r6 ∷ r7 ∷ tail) zero h =
    record { front = []; r0 = r0; r1 = r1; r2 = r2; r3 = r3; r4 = r4; r5 = r5; r6 = r6; r7 = r7; tail = tail; many = refl; parts = refl }
window_of [] (suc d) h = absurd (omega (arith, h))
window_of (x ∷ xs) (suc d) h =
    let w = window_of xs d (omega (arith, h)) in
    record { front = x ∷ w.front; r0 = w.r0; r1 = w.r1; r2 = w.r2; r3 = w.r3; r4 = w.r4; r5 = w.r5; r6 = w.r6; r7 = w.r7; tail = w.tail; many = ap suc w.many; parts = ap (λ rs. x ∷ rs) w.parts }
window_of regs zero h = absurd (omega (arith, h))

-- those in front are the same
pub same_front : (front p q : Registers) (i : ℕ) → i < length front → slice_get (front ++ p) i ≡ slice_get (front ++ q) i
same_front [] p q i h = absurd (omega (arith, h))
same_front (x ∷ front) p q zero h = refl
same_front (x ∷ front) p q (suc i) h = same_front front p q i (omega (arith, h))
