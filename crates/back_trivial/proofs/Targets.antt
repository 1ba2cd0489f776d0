-- Where lines give words: to the slots of their registers, within reach of all registers.
use Rattle.std.proofs.Common.{◌≡◌, ℕ, ◌<◌, true, ◌&&◌, refl, arith}
use Rattle.std.specs.List.{list_all}
use Rattle.mid_code.specs.declared.operation.Operation.{Operation}
use Rattle.mid_code.specs.declared.operation.Operation.TheVariants as operation
use Rattle.mid_code.specs.Checked.{is_register, is_constant, is_block_size, is_offset, callee_fits, operation_fits}
use Rattle.mid_lines.specs.declared.line.Line.{Line}
use Rattle.mid_lines.specs.declared.line.Line.TheVariants.{Do, Lay, Landed, Lend}
use Rattle.mid_lines.specs.LinesChecked.{is_target, line_fits}
use Rattle.mid_lines.proofs.Conjunctions.{front_true}
use Rattle.back_places.specs.Facts.{IsPlace}
use Rattle.back_places.specs.Trivial.{own_slot, TargetIs}
use Rattle.back_places.proofs.LinesInForm.{register_below}
use Rattle.back_trivial.specs.OwnSlots.{operation_target, line_target, no_target}

-- what a line gives goes to the slot of its register

operation_target_is : (o : Operation) → TargetIs (operation_target o) (Do o)
operation_target_is (operation.Move to from) = refl
operation_target_is (operation.Constant to word) = refl
operation_target_is (operation.Compute to which first second) = refl
operation_target_is (operation.Load to base offset) = refl
operation_target_is (operation.Store from base offset) = tt
operation_target_is (operation.Request to words) = refl
operation_target_is (operation.Draw to base offset) = refl
operation_target_is (operation.Put from) = tt
operation_target_is (operation.Get to) = refl
operation_target_is (operation.Call to callee arguments) = refl

pub line_target_is : (x : Line) → TargetIs (line_target x) x
line_target_is (Do o) = operation_target_is o
line_target_is (Lay block words landing) = refl
line_target_is (Landed r) = refl
line_target_is (Lend block words) = refl
line_target_is x = tt

-- where a line of so many registers gives a word is within reach of as many
module _ (reach : ℕ) where
  slot_within : (registers v : ℕ) → is_register registers v ≡ true → registers < reach → IsPlace reach (own_slot v)
  slot_within registers v h k = let below = register_below registers v h in (omega arith, omega (arith, below, k))

  pub nowhere_within : IsPlace reach no_target
  nowhere_within = omega arith

  operation_within : (registers : ℕ) (o : Operation) → operation_fits registers o ≡ true → registers < reach → IsPlace reach (operation_target o)
  operation_within c (operation.Move to from) h k = slot_within c to (front_true (is_register c to) (is_register c from) h) k
  operation_within c (operation.Constant to word) h k = slot_within c to (front_true (is_register c to) (is_constant word) h) k
  operation_within c (operation.Compute to which first second) h k =
      slot_within c to (front_true (is_register c to) (is_register c first) (front_true (is_register c to && is_register c first) (is_register c second) h)) k
  operation_within c (operation.Load to base offset) h k =
      slot_within c to (front_true (is_register c to) (is_register c base) (front_true (is_register c to && is_register c base) (is_offset offset) h)) k
  operation_within c (operation.Store from base offset) h k = nowhere_within
  operation_within c (operation.Request to words) h k = slot_within c to (front_true (is_register c to) (is_register c words) h) k
  operation_within c (operation.Draw to base offset) h k =
      slot_within c to (front_true (is_register c to) (is_register c base) (front_true (is_register c to && is_register c base) (is_offset offset) h)) k
  operation_within c (operation.Put from) h k = nowhere_within
  operation_within c (operation.Get to) h k = slot_within c to h k
  operation_within c (operation.Call to callee arguments) h k =
      slot_within c to
      (front_true (is_register c to) (callee_fits c callee)
      (front_true (is_register c to && callee_fits c callee) (list_all (is_register c) arguments) h)) k

  pub line_within : (registers lines : ℕ) (x : Line) → line_fits registers lines x ≡ true → registers < reach → IsPlace reach (line_target x)
  line_within c n (Do o) h k = operation_within c o h k
  line_within c n (Lay block words landing) h k = slot_within c block (front_true (is_register c block) (is_block_size words && is_target n landing) h) k
  line_within c n (Landed r) h k = slot_within c r h k
  line_within c n (Lend block words) h k = slot_within c block (front_true (is_register c block) (is_register c words) h) k
  line_within c n x h k = nowhere_within
