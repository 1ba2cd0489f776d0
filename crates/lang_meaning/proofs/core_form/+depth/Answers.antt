-- The depth of a form is that of the forms right inside it and its own.
use Rattle.std.proofs.Common.{◌≡◌, true, false, arith}
use Rattle.lang_meaning.specs.Subforms.{outer, inner}
use Rattle.lang_meaning.specs.Counts.{is_function}
use Rattle.lang_meaning.proofs.Counting.{depth_of_function, depth_of_other, deepest_of}
use Rattle.lang_meaning.proofs.core_form.+depth.Goals as goal
use Rattle.lang_meaning.proofs.core_form.+depth.Goals.{Core::depth-then-is_function, Core::depth-else-is_function}

pub Core::depth-returns : goal.Core::depth-returns
Core::depth-returns t c =
    elim c.if-is_function.branch [
      | Core::depth-then-is_function w ↦
          (let yes : is_function c.args.self.now ≡ true = cc in
          omega (arith, depth_of_function c.args.self.now yes, deepest_of c.outer.result (outer c.args.self.now) c.deepest.result c.deepest.ensures c.outer.ensures))
      | Core::depth-else-is_function w ↦
          (let no : is_function c.args.self.now ≡ false = cc in
          omega (
            arith,
            depth_of_other c.args.self.now no,
            deepest_of c.outer.result (outer c.args.self.now) c.deepest.result c.deepest.ensures c.outer.ensures,
            deepest_of w.inner.result (inner c.args.self.now) w.deepest-inner.result w.deepest-inner.ensures w.inner.ensures,
          ))
    ]
