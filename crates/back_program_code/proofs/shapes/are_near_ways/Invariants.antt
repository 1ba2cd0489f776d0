-- The ways are near where those that are left are.
use Rattle.std.proofs.Common.{◌≡◌, drop}
use Rattle.std.specs.List.{list_all}
use Rattle.back_program_code.specs.Shapes.{is_near_way}
use Rattle.back_program_code.proofs.shapes.are_near_ways.Given as goal

abbrev pub invariant-loop-way : goal.invariant-loop-way
invariant-loop-way l = list_all (is_near_way l.slots l.frame) (drop l.way-index l.ways) ≡ list_all (is_near_way l.slots l.frame) l.ways
