-- As many addresses are appended as entries were looked at.
use Rattle.std.proofs.Common.{◌≡◌, ◌*◌, ◌++◌, map, take}
use Rattle.back_program_code.proofs.images.put_addresses.Given as goal

abbrev pub invariant-loop-number : goal.invariant-loop-number
invariant-loop-number l = l.words ≡ l.fn.words ++ map (λ at. 4 * at) (take l.number l.entries)
