-- What is sorted stands in front of what is still to be sorted.
use Rattle.std.proofs.Common.{◌≡◌, ◌++◌, length, drop}
use Rattle.front_profile.specs.Elaborations.{forms_found, variables_found, bindings_found}
use Rattle.front_elaboration.proofs.MakingFound.{bindings_before}
use Rattle.front_elaboration.proofs.elaborate.sort.sort_found.Given as goal

abbrev pub invariant-loop-at : goal.invariant-loop-at
invariant-loop-at l = record {
  forms : l.sorted.forms ++ forms_found (drop l.at l.found) ≡ forms_found l.fn.found;
  variables : l.sorted.variables ++ variables_found (drop l.at l.found) ≡ variables_found l.fn.found;
  bindings : bindings_before l.sorted.bindings (bindings_found (drop l.at l.found)) ≡ bindings_found l.fn.found;
  length : length l.found ≡ length l.fn.found;
}
