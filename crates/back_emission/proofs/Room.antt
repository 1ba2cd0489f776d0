-- The code that lays a block: where there is room the stack pointer goes down, and else the run ends with the words that were asked for and
-- those that were left.
use Rattle.std.proofs.Common.{◌≡◌, ◌≢◌, ℕ, ◌+◌, ◌-◌, ◌*◌, ◌/◌, ◌%◌, ◌^◌, ◌<◌, ◌≤◌, Bool, true, false, List, [], ◌∷◌, ◌++◌, length, refl, sym, ap, subst, ◌∙◌, arith, length-append, append_assoc, eqb-true, eq-eqb}
use Rattle.std.specs.Prelude.{not, slice_index, slice_set, if◌then◌else◌, ◌==◌, nat_lt}
use Rattle.std.proofs.lemmas.Bool.Decides.{nat_tests}
use Rattle.std.proofs.lemmas.List.{get_or-set_other, length-set}
use Rattle.base.specs.Arithmetic.{sum32, difference32, shift_left, shift_right, less_signed}
use Rattle.rv_encode.specs.declared.instruction.Instr.{Instr}
use Rattle.rv_encode.specs.declared.instruction.Instr.TheVariants.{Lui, Bge, Addi, Add, Sub, Slli, Srli}
use Rattle.rv_machine.specs.Memory.{bytes_of}
use Rattle.rv_machine.specs.Step.{next, execute, gives, branch}
use Rattle.rv_machine.specs.Run.{Moment}
use Rattle.mid_code.specs.Arena.{Block}
use Rattle.mid_code.specs.State.{MidState, charged}
use Rattle.mid_lines.specs.declared.line.LineProgram.{LineProgram}
use Rattle.back_places.specs.declared.place.Place.{Place}
use Rattle.back_places.specs.Places.{Located}
use Rattle.back_places.specs.Operands.{high_part, low_part}
use Rattle.back_places.specs.Selection.{far_offset, far_jump_code}
use Rattle.back_places.specs.Blocks.{stack_code, room_test_code, room_code, full_code}
use Rattle.back_places.specs.Relation.{HasCode, Stands}
use Rattle.back_places.specs.StepLaw.{Comes}
use Rattle.back_emission.specs.Moments.{state_at, Beside, later, moment, beside, AreSmall, Sets, Ready, Prepared}
use Rattle.back_emission.proofs.Coming.{stays, same_moment, and_on, and_one, sets_on, has_front, has_back}
use Rattle.back_emission.proofs.Operands.{prepared_one, parts_prepared}
use Rattle.back_emission.proofs.Arithmetic.{room_test}
use Rattle.back_emission.proofs.Lengths.{stack_length}
use Rattle.back_emission.specs.Laying.{Asking, Lowered}
use Rattle.back_emission.proofs.Leaving.{stack_prepared}
use Rattle.back_emission.proofs.Scratch.{far_jumps}
use Rattle.back_emission.proofs.Ends.{Holds, Called, called_with}

-- the stack pointer goes down
lowered : (m : Moment) (at : ℕ) (words : List ℕ) (sp hp n : ℕ) → Asking m at words sp hp n → 0 < n
    → Prepared words m.state.registers (stack_code (2 ^ 32 - 4 * n)) 2 ((sp + (2 ^ 32 - 4 * n)) % 2 ^ 32) 2
lowered m at words sp hp n a some =
    stack_prepared words m.state.registers (2 ^ 32 - 4 * n) ((sp + (2 ^ 32 - 4 * n)) % 2 ^ 32) a.small a.ready (omega (arith, some)) (ap (λ k. sum32 k (2 ^ 32 - 4 * n)) a.stack)

test_length : (full_at at n : ℕ) → length (room_test_code full_at at n) ≡ 5
test_length full_at at n = refl

-- what the test for room does: behind it where there is room, and on to the next instruction where there is none
test_does :
    (k sp hp n : ℕ) (registers words : List ℕ) (t : Bool) → slice_index registers 2 ≡ (sp + (2 ^ 32 - 4 * n)) % 2 ^ 32 → slice_index registers 3 ≡ hp
    → hp ≤ sp → sp ≤ 2 ^ 26 → n ≤ 2 ^ 24 + 2 → nat_lt sp (hp + 4 * n) ≡ t → k < 2 ^ 25
    → execute (Bge 2 3 20) (state_at k registers words) ≡ next (state_at (if t then k + 1 else k + 5) registers words)
test_does k sp hp n registers words t h2 h3 grown low few e inside =
    ap (λ x. branch (not (less_signed x (slice_index registers 3))) 20 (state_at k registers words)) h2
    ∙ ap (λ x. branch (not (less_signed ((sp + (2 ^ 32 - 4 * n)) % 2 ^ 32) x)) 20 (state_at k registers words)) h3
    ∙ ap (λ x. branch (not x) 20 (state_at k registers words)) (room_test sp hp n grown low few ∙ e)
    ∙ by t
  where
    by : (t : Bool) → branch (not t) 20 (state_at k registers words) ≡ next (state_at (if t then k + 1 else k + 5) registers words)
    by true = let p : sum32 (4 * k) 4 ≡ 4 * (k + 1) = omega (arith, inside) in ap (λ x. next (record { pc = x; registers = registers; memory = bytes_of words })) p
    by false = let p : sum32 (4 * k) 20 ≡ 4 * (k + 5) = omega (arith, inside) in ap (λ x. next (record { pc = x; registers = registers; memory = bytes_of words })) p

-- where there is room
pub room_there :
    (m : Moment) (full_at at : ℕ) (words : List ℕ) (sp hp n : ℕ) (more : List Instr) → Asking m at words sp hp n → hp + 4 * n ≤ sp
    → HasCode words at (room_code full_at at n ++ more) → at + length (room_code full_at at n) < 2 ^ 25
    → Lowered m at words sp n (length (room_code full_at at n))
room_there m full_at at words sp hp n more a room has inside = by (n == 0) refl has inside
  where
    none : n ≡ 0 → Lowered m at words sp n 0
    none e =
        let zero_is : at ≡ at + 0 = omega arith in
        record {
          registers' = m.state.registers;
          count = 0;
          cheap = omega arith;
          comes = subst (λ k. Comes 0 m (moment (state_at k m.state.registers words) (later 0 (beside m)))) zero_is
              (subst (λ y. Comes 0 y (moment (state_at at m.state.registers words) (later 0 (beside m)))) (sym (same_moment m at words a.pc a.memory)) (executed_same (beside m) (stays (moment (state_at at m.state.registers words) (beside m)))));
          stack = omega (arith, a.stack, e);
          others = λ q n2 n7. refl;
          ready = a.ready;
          bounded = a.bounded;
        }
      where
        executed_same : (o : Beside) → Comes 0 (moment (state_at at m.state.registers words) o) (moment (state_at at m.state.registers words) o)
            → Comes 0 (moment (state_at at m.state.registers words) o) (moment (state_at at m.state.registers words) (later 0 o))
        executed_same o c = let x : o.executed ≡ o.executed + 0 = omega arith in subst (λ k. Comes 0 (moment (state_at at m.state.registers words) o) (moment (state_at at m.state.registers words) (record o { executed = k }))) x c

    by : (t : Bool) → (n == 0) ≡ t
        → HasCode words at ((if t then [] else stack_code (2 ^ 32 - 4 * n) ++ room_test_code full_at (at + length (stack_code (2 ^ 32 - 4 * n))) n) ++ more)
        → at + length (if t then [] else stack_code (2 ^ 32 - 4 * n) ++ room_test_code full_at (at + length (stack_code (2 ^ 32 - 4 * n))) n) < 2 ^ 25
        → Lowered m at words sp n (length (if t then [] else stack_code (2 ^ 32 - 4 * n) ++ room_test_code full_at (at + length (stack_code (2 ^ 32 - 4 * n))) n))
    by true e code fits = none (eqb-true n 0 e)
    by false e code fits =
        let some : 0 < n = grind (arith, nat_tests, e) in
        let S = stack_code (2 ^ 32 - 4 * n) in
        let k = at + length S in
        let T = room_test_code full_at k n in
        let rest = Lui 10 (high_part n) ∷ Addi 10 10 (low_part n) ∷ far_jump_code 0 (k + 3) full_at in
        let p = lowered m at words sp hp n a some in
        let long : length (S ++ T) ≡ length S + 5 = length-append S T in
        let is_room : nat_lt sp (hp + 4 * n) ≡ false = grind (arith, nat_tests, room) in
        let h3 : slice_index p.registers' 3 ≡ hp = p.others 3 (λ q. omega (arith, q)) (λ q. omega (arith, q)) ∙ a.heap in
        let does = test_does k sp hp n p.registers' words false p.holds h3 a.grown a.low a.few is_room (omega (arith, fits, long)) in
        let same : (S ++ T) ++ more ≡ S ++ (Bge 2 3 20 ∷ (rest ++ more)) = append_assoc S T more in
        let comes = and_one m at words p.registers' S (rest ++ more) (Bge 2 3 20) (state_at (k + 5) p.registers' words) a.small a.pc a.memory p.sets (subst (λ c. HasCode words at c) same code) (omega (arith, fits, long)) does in
        let n3 = stack_length (2 ^ 32 - 4 * n) in
        let place : k + 5 ≡ at + length (S ++ T) = omega (arith, long) in
        let time : m.executed + length S + 1 ≡ m.executed + (length S + 1) = omega arith in
        let down : (sp + (2 ^ 32 - 4 * n)) % 2 ^ 32 ≡ sp - 4 * n = omega (arith, room, a.low, some, a.few) in
        record {
          registers' = p.registers';
          count = length S + 1;
          cheap = omega (arith, n3);
          comes = subst (λ x. Comes (length S + 1) m (moment (state_at x p.registers' words) (later (length S + 1) (beside m)))) place
              (subst (λ x. Comes (length S + 1) m (moment (state_at (k + 5) p.registers' words) (record (beside m) { executed = x }))) time comes);
          stack = p.holds ∙ down;
          others = p.others;
          ready = p.ready;
          bounded = p.bounded a.bounded;
        }

up_again : (sp n : ℕ) → sp ≤ 2 ^ 26 → n ≤ 2 ^ 24 + 2 → sum32 ((sp + (2 ^ 32 - 4 * n)) % 2 ^ 32) (4 * n) ≡ sp
up_again sp n low few = omega arith

words_between : (sp hp : ℕ) → sp ≤ 2 ^ 26 → hp ≤ sp → difference32 sp hp ≡ sp - hp
words_between sp hp low grown = omega arith

four_times : (n : ℕ) → n ≤ 2 ^ 24 + 2 → shift_left n 2 ≡ 4 * n
four_times n few = omega arith

-- numbers that are not the same
differ : (a b : ℕ) → (a == b) ≡ false → a ≢ b
differ a b h e = absurd (cc (h, eq-eqb a b e))

left_small : (sp hp : ℕ) → sp ≤ 2 ^ 26 → sp - hp < 2 ^ 32
left_small sp hp low = omega arith

quarter_small : (sp hp : ℕ) → sp ≤ 2 ^ 26 → (sp - hp) / 4 < 2 ^ 32
quarter_small sp hp low = omega arith

-- the registers behind the code for want of words: what was asked for, and what was left
record Wanting (words registers : List ℕ) (sp hp n : ℕ) : Type 0 where
  registers' : List ℕ
  sets : Sets words (Slli 5 10 2 ∷ Add 2 2 5 ∷ Sub 11 2 3 ∷ Srli 11 11 2 ∷ []) registers registers'
  ready : Ready registers'
  asked : slice_index registers' 10 ≡ n
  left_is : slice_index registers' 11 ≡ (sp - hp) / 4

wanting :
    (words registers : List ℕ) (sp hp n : ℕ) → AreSmall words → Ready registers → slice_index registers 10 ≡ n → slice_index registers 2 ≡ (sp + (2 ^ 32 - 4 * n)) % 2 ^ 32
    → slice_index registers 3 ≡ hp → hp ≤ sp → sp ≤ 2 ^ 26 → n ≤ 2 ^ 24 + 2 → Wanting words registers sp hp n
wanting words registers sp hp n small ready h10 h2 h3 grown low few =
    let v5 : shift_left (slice_index registers 10) 2 ≡ 4 * n = ap (λ x. shift_left x 2) h10 ∙ four_times n few in
    let one = prepared_one words registers (Slli 5 10 2) 5 (4 * n) small ready (omega arith) (omega arith) (omega (arith, few)) (λ i. ap (λ x. gives 5 x (state_at i registers words)) v5) in
    let r2 : slice_index one.registers' 2 ≡ (sp + (2 ^ 32 - 4 * n)) % 2 ^ 32 = one.others 2 (differ 2 5 refl) (differ 2 7 refl) ∙ h2 in
    let v2 : sum32 (slice_index one.registers' 2) (slice_index one.registers' 5) ≡ sp =
    ap (λ x. sum32 x (slice_index one.registers' 5)) r2 ∙ ap (λ x. sum32 ((sp + (2 ^ 32 - 4 * n)) % 2 ^ 32) x) one.holds ∙ up_again sp n low few in
    let two = prepared_one words one.registers' (Add 2 2 5) 2 sp small one.ready (omega arith) (omega arith) (omega (arith, low)) (λ i. ap (λ x. gives 2 x (state_at i one.registers' words)) v2) in
    let r3 : slice_index two.registers' 3 ≡ hp = two.others 3 (differ 3 2 refl) (differ 3 7 refl) ∙ one.others 3 (differ 3 5 refl) (differ 3 7 refl) ∙ h3 in
    let v11 : difference32 (slice_index two.registers' 2) (slice_index two.registers' 3) ≡ sp - hp =
    ap (λ x. difference32 x (slice_index two.registers' 3)) two.holds ∙ ap (λ x. difference32 sp x) r3 ∙ words_between sp hp low grown in
    let three = prepared_one words two.registers' (Sub 11 2 3) 11 (sp - hp) small two.ready (omega arith) (omega arith) (left_small sp hp low) (λ i. ap (λ x. gives 11 x (state_at i two.registers' words)) v11) in
    let v4 : shift_right (slice_index three.registers' 11) 2 ≡ (sp - hp) / 4 = ap (λ x. shift_right x 2) three.holds in
    let four = prepared_one words three.registers' (Srli 11 11 2) 11 ((sp - hp) / 4) small three.ready (omega arith) (omega arith) (quarter_small sp hp low) (λ i. ap (λ x. gives 11 x (state_at i three.registers' words)) v4) in
    record {
      registers' = four.registers';
      sets = sets_on {r' = one.registers'} {r'' = four.registers'} one.sets (sets_on {r' = two.registers'} {r'' = four.registers'} two.sets (sets_on {r'' = four.registers'} three.sets four.sets));
      ready = four.ready;
      asked = four.others 10 (differ 10 11 refl) (differ 10 7 refl) ∙ three.others 10 (differ 10 11 refl) (differ 10 7 refl)
          ∙ two.others 10 (differ 10 2 refl) (differ 10 7 refl) ∙ one.others 10 (differ 10 5 refl) (differ 10 7 refl) ∙ h10;
      left_is = four.holds;
    }

module _ (program : LineProgram) (l : Located) (Fact : (number line register : ℕ) → Place → Type 0) (first : List Block) where
  -- From the jump to the end for want of words on.
  at_full :
      (z : MidState) (cost : ℕ) (words : List ℕ) (m : Moment) (registers : List ℕ) (sp hp n : ℕ) → Holds program l Fact first z words m → m.state.pc ≡ 4 * l.full_at → m.state.registers ≡ registers
      → Stands l words l.full_at full_code → l.code_to < 2 ^ 24 → AreSmall words → Ready registers → slice_index registers 10 ≡ n → slice_index registers 2 ≡ (sp + (2 ^ 32 - 4 * n)) % 2 ^ 32
      → slice_index registers 3 ≡ hp → hp ≤ sp → sp ≤ 2 ^ 26 → n ≤ 2 ^ 24 + 2
      → (registers' : List ℕ) × Called program l Fact first 4 (charged cost z) m 5 registers' × (slice_index registers' 10 ≡ n) × (slice_index registers' 11 ≡ (sp - hp) / 4)
  at_full z cost words m registers sp hp n holds pc same full low small ready h10 h2 h3 grown below few =
      let w = wanting words registers sp hp n small ready h10 h2 h3 grown below few in
      let sets = subst (λ r. Sets words (Slli 5 10 2 ∷ Add 2 2 5 ∷ Sub 11 2 3 ∷ Srli 11 11 2 ∷ []) r w.registers') (sym same) w.sets in
      let c = called_with program l Fact first z cost words m l.full_at (Slli 5 10 2 ∷ Add 2 2 5 ∷ Sub 11 2 3 ∷ Srli 11 11 2 ∷ []) [] 4 w.registers' holds pc full sets w.ready (omega (arith, full.to, low)) (omega arith) in
      (c.0, c.1, c.2 10 (differ 10 17 refl) (differ 10 7 refl) ∙ w.asked, c.2 11 (differ 11 17 refl) (differ 11 7 refl) ∙ w.left_is)

  -- where there is no room
  pub room_gone :
      (z : MidState) (cost : ℕ) (m : Moment) (at : ℕ) (words : List ℕ) (sp hp n : ℕ) (more : List Instr) → Holds program l Fact first z words m → Asking m at words sp hp n → sp < hp + 4 * n
      → Stands l words at (room_code l.full_at at n ++ more) → Stands l words l.full_at full_code → l.code_to < 2 ^ 24
      → (count : ℕ) × (registers' : List ℕ) × (count ≤ 13) × Called program l Fact first 4 (charged cost z) m count registers' × (slice_index registers' 10 ≡ n) × (slice_index registers' 11 ≡ (sp - hp) / 4)
  room_gone z cost m at words sp hp n more holds a want stands full low = by (n == 0) refl stands
    where
      by : (t : Bool) → (n == 0) ≡ t
          → Stands l words at ((if t then [] else stack_code (2 ^ 32 - 4 * n) ++ room_test_code l.full_at (at + length (stack_code (2 ^ 32 - 4 * n))) n) ++ more)
          → (count : ℕ) × (registers' : List ℕ) × (count ≤ 13) × Called program l Fact first 4 (charged cost z) m count registers' × (slice_index registers' 10 ≡ n) × (slice_index registers' 11 ≡ (sp - hp) / 4)
      by true e code = let none = eqb-true n 0 e in absurd (omega (arith, none, want, a.grown))
      by false e code =
          let some : 0 < n = grind (arith, nat_tests, e) in
          let S = stack_code (2 ^ 32 - 4 * n) in
          let k = at + length S in
          let T = room_test_code l.full_at k n in
          let two_parts = Lui 10 (high_part n) ∷ Addi 10 10 (low_part n) ∷ [] in
          let rest = Lui 10 (high_part n) ∷ Addi 10 10 (low_part n) ∷ far_jump_code 0 (k + 3) l.full_at in
          let p = lowered m at words sp hp n a some in
          let long : length ((S ++ T) ++ more) ≡ length S + 5 + length more = length-append (S ++ T) more ∙ ap (λ x. x + length more) (length-append S T) in
          let is_none : nat_lt sp (hp + 4 * n) ≡ true = grind (arith, nat_tests, want) in
          let h3 : slice_index p.registers' 3 ≡ hp = p.others 3 (differ 3 2 refl) (differ 3 7 refl) ∙ a.heap in
          let does = test_does k sp hp n p.registers' words true p.holds h3 a.grown a.low a.few is_none (omega (arith, code.to, low, long)) in
          let same : (S ++ T) ++ more ≡ S ++ (Bge 2 3 20 ∷ (rest ++ more)) = append_assoc S T more in
          let has = subst (λ c. HasCode words at c) same code.has in
          let one = and_one m at words p.registers' S (rest ++ more) (Bge 2 3 20) (state_at (k + 1) p.registers' words) a.small a.pc a.memory p.sets has (omega (arith, code.to, low, long)) does in
          let m1 = moment (state_at (k + 1) p.registers' words) (later 1 (later (length S) (beside m))) in
          let behind = has_back words at S (Bge 2 3 20 ∷ (rest ++ more)) has in
          let q = parts_prepared words p.registers' 10 n a.small p.ready (omega arith) (omega arith) (omega (arith, a.few)) in
          let place : k + 3 ≡ k + 1 + 2 = omega arith in
          let far = far_jumps m1 (k + 1) words q.registers' two_parts (k + 3) l.full_at 0 a.small refl refl q.sets (has_front words (k + 1) rest more behind.3) (omega (arith, code.to, low, long)) (omega (arith, full.to, low)) place q.ready in
          let v = sum32 (4 * (k + 3)) (high_part (far_offset (k + 3) l.full_at) * 4096) in
          let r7 = slice_set q.registers' 7 v in
          let ready7 : Ready r7 = record { long = length-set q.registers' 7 v ∙ q.ready.long; zero_is = get_or-set_other q.registers' 7 0 v 0 (differ 0 7 refl) ∙ q.ready.zero_is } in
          let o2 = later 1 (later 1 (later 2 (later 1 (later (length S) (beside m))))) in
          let m2 = moment (state_at l.full_at r7 words) o2 in
          let holds2 : Holds program l Fact first z words m2 = record { memory = refl; arena = holds.arena; printed = holds.printed; input = holds.input } in
          let over = at_full z cost words m2 r7 sp hp n holds2 refl refl full low a.small ready7
          (get_or-set_other q.registers' 7 10 v 0 (differ 10 7 refl) ∙ q.holds)
          (get_or-set_other q.registers' 7 2 v 0 (differ 2 7 refl) ∙ q.others 2 (differ 2 10 refl) (differ 2 7 refl) ∙ p.holds)
          (get_or-set_other q.registers' 7 3 v 0 (differ 3 7 refl) ∙ q.others 3 (differ 3 10 refl) (differ 3 7 refl) ∙ h3)
          a.grown a.low a.few in
          let n3 = stack_length (2 ^ 32 - 4 * n) in (
            length S + 1 + (4 + 5),
            over.0,
            omega (arith, n3),
            record { moment' = over.1.moment'; comes = and_on one (and_on far over.1.comes); calls = over.1.calls; same = over.1.same },
            over.2,
            over.3,
          )
