-- The words of as many instructions as were looked at.
use Rattle.std.proofs.Common.{◌≡◌, ◌++◌, map, take}
use Rattle.rv_encode.specs.Encodes.{word_of}
use Rattle.back_program_code.proofs.words.put_encoded.Given as goal

abbrev pub invariant-loop-instr : goal.invariant-loop-instr
invariant-loop-instr l = l.words ≡ l.fn.words ++ map word_of (take l.instr-index l.code)
