-- The procedures of the primitives so far.
use Rattle.std.proofs.Common.{◌≡◌, ◌++◌, take}
use Rattle.back_programs.specs.Parts as parts
use Rattle.back_programs.proofs.primitives.written.Given as goal

abbrev pub invariant-loop-primitive_here : goal.invariant-loop-primitive_here
invariant-loop-primitive_here l = l.list ≡ l.initial.list ++ parts.written (take l.primitive_here-index l.which)
