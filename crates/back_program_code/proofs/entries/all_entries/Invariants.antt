-- The positions of as many entries as were looked at, and of the next one.
use Rattle.std.proofs.Common.{◌≡◌, ◌<◌, ◌^◌, [], ◌∷◌, take}
use Rattle.back_program_code.specs.Joined.{joined}
use Rattle.back_program_code.specs.Shapes.{entry_position}
use Rattle.back_program_code.proofs.entries.all_entries.Given as goal

abbrev pub invariant-loop-number : goal.invariant-loop-number
invariant-loop-number l =
    (l.entries ≡ joined (λ number s. entry_position l.front l.lefts l.shapes number ∷ []) 0 (take l.number l.shapes))
    × (l.at ≡ entry_position l.front l.lefts l.shapes l.number) × (l.at < 2 ^ 24)
