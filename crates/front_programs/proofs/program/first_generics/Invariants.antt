-- Those in front are copied, with their first methods.
use Rattle.std.proofs.Common.{◌≡◌, take}
use Rattle.front_profile.specs.Cuts.{cut_generics}
use Rattle.front_programs.proofs.program.first_generics.Given as goal

abbrev pub invariant-loop-at : goal.invariant-loop-at
invariant-loop-at l = l.copied ≡ cut_generics (take l.at l.counts) l.list
