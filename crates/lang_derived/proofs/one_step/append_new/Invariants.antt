-- What is still to be appended, behind what was there.
use Rattle.std.proofs.Common.{◌≡◌, ◌++◌, ◌-◌, length}
use Rattle.lang_derived.specs.Derived.{new_symbols}
use Rattle.lang_derived.specs.Prefixes.{IsPrefix}
use Rattle.lang_derived.proofs.one_step.append_new.Given as goal

abbrev pub invariant-loop-turn : goal.invariant-loop-turn
invariant-loop-turn l = record {
  left : l.fresh ++ new_symbols (length l.fresh) (l.count - l._turn) ≡ l.initial.fresh ++ new_symbols (length l.initial.fresh) l.count;
  kept : IsPrefix l.initial.fresh l.fresh;
}
