-- Lines in form give words to registers that are there.
use Rattle.std.proofs.Common.{◌≡◌, ℕ, ◌<◌, true, ◌&&◌, Some, subst}
use Rattle.std.specs.List.{list_all}
use Rattle.mid_code.specs.declared.operation.Operation.{Operation}
use Rattle.mid_code.specs.declared.operation.Operation.TheVariants as operation
use Rattle.mid_code.specs.Checked.{is_register, is_constant, is_block_size, is_offset, callee_fits, operation_fits}
use Rattle.mid_lines.specs.declared.line.Line.{Line}
use Rattle.mid_lines.specs.declared.line.Line.TheVariants.{Do, Lay, Landed, Lend}
use Rattle.mid_lines.specs.LinesChecked.{is_target, line_fits}
use Rattle.mid_lines.proofs.Conjunctions.{front_true}
use Rattle.back_places.proofs.LinesInForm.{register_below}
use Rattle.back_allocation.specs.LineSteps.{operation_gives, line_gives}

module _ (registers : ℕ) where
  there : (r to : ℕ) → is_register registers r ≡ true → Some r ≡ Some to → to < registers
  there r to h e = let same : r ≡ to = cc e in subst (λ n. n < registers) same (register_below registers r h)

  operation_given : (o : Operation) (to : ℕ) → operation_fits registers o ≡ true → operation_gives o ≡ Some to → to < registers
  operation_given (operation.Move r from) to h e = there r to (front_true (is_register registers r) (is_register registers from) h) e
  operation_given (operation.Constant r word) to h e = there r to (front_true (is_register registers r) (is_constant word) h) e
  operation_given (operation.Compute r which first second) to h e =
      there r to
      (front_true (is_register registers r) (is_register registers first)
      (front_true (is_register registers r && is_register registers first) (is_register registers second) h)) e
  operation_given (operation.Load r base offset) to h e =
      there r to
      (front_true (is_register registers r) (is_register registers base) (front_true (is_register registers r && is_register registers base) (is_offset offset) h)) e
  operation_given (operation.Store from base offset) to h e = absurd (cc e)
  operation_given (operation.Request r words) to h e = there r to (front_true (is_register registers r) (is_register registers words) h) e
  operation_given (operation.Draw r base offset) to h e =
      there r to
      (front_true (is_register registers r) (is_register registers base) (front_true (is_register registers r && is_register registers base) (is_offset offset) h)) e
  operation_given (operation.Put from) to h e = absurd (cc e)
  operation_given (operation.Get r) to h e = there r to h e
  operation_given (operation.Call r callee arguments) to h e =
      there r to
      (front_true (is_register registers r) (callee_fits registers callee)
      (front_true (is_register registers r && callee_fits registers callee) (list_all (is_register registers) arguments) h)) e

  pub line_given : (lines : ℕ) (x : Line) (to : ℕ) → line_fits registers lines x ≡ true → line_gives x ≡ Some to → to < registers
  line_given n (Do o) to h e = operation_given o to h e
  line_given n (Lay block words landing) to h e =
      there block to (front_true (is_register registers block) (is_block_size words && is_target n landing) h) e
  line_given n (Landed r) to h e = there r to h e
  line_given n (Lend block words) to h e = there block to (front_true (is_register registers block) (is_register registers words) h) e
  line_given n x to h e = absurd (cc e)
