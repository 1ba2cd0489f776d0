-- Those that are passed are counted.
use Rattle.std.proofs.Common.{◌≡◌, ◌≤◌, take, length}
use Rattle.front_profile.specs.Elaborations.{forms_found}
use Rattle.front_elaboration.proofs.elaborate.taken.count_forms.Given as goal

abbrev pub invariant-loop-part : goal.invariant-loop-part
invariant-loop-part l = record {
  counted : l.count ≡ length (forms_found (take l.part-index l.found));
  below : l.count ≤ l.part-index;
}
