-- The addresses are those of the program whose names these are.
use Rattle.std.proofs.Common.{◌+◌, ◌*◌, ap}
use Rattle.back_lowered.proofs.Addressed.{globals_at, dynamics_at, count_is}
use Rattle.back_lowered.proofs.variables.variables_of.Goals as goal

pub returns-clause-laid : goal.returns-clause-laid
returns-clause-laid c = λ program are. record {
  globals =
      globals_at c.args.names.now program c.args.used.now are c.in_ok-globals.globals c.in_ok-globals.ensures c.in_ok-addresses.field-0
      c.in_ok-addresses.ensures;
  dynamics =
      dynamics_at c.args.names.now program c.args.used.now are c.in_ok-globals.globals c.in_ok-globals.ensures c.in_ok-dynamics.dynamics
      c.in_ok-dynamics.ensures (220 + 4 * c.len-2.result) c.in_ok-addresses-2.field-0 (ap (λ n. 220 + 4 * n) c.len-2.ensures)
      c.in_ok-addresses-2.ensures;
  count =
      count_is c.args.names.now program c.args.used.now are c.in_ok-globals.globals c.in_ok-globals.ensures c.in_ok-dynamics.dynamics
      c.in_ok-dynamics.ensures c.len-3.result c.len-4.result c.len-3.ensures c.len-4.ensures;
}
