-- The rest has one where all have one.
use Rattle.std.proofs.Common.{◌≡◌, drop}
use Rattle.std.specs.List.{list_any}
use Rattle.lang_dispatch.specs.Methods.{is_same}
use Rattle.lang_dispatch.proofs.methods.is_among.Given as goal

abbrev pub invariant-loop-other : goal.invariant-loop-other
invariant-loop-other l = list_any (is_same l.method) (drop l.other-index l.methods) ≡ list_any (is_same l.method) l.methods
