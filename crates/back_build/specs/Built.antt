-- The code of a program that was lowered.
use Rattle.std.specs.Prelude.{ℕ, List}
use Rattle.flat_language.specs.declared.program.FlatProgram.{FlatProgram}
use Rattle.mid_code.specs.declared.program.MidProcedure.{MidProcedure}
use Rattle.mid_code.specs.declared.program.MidProgram.{MidProgram}
use Rattle.mid_start.specs.declared.symbol_words.SymbolWord.{SymbolWord}
use Rattle.back_lowering.specs.Program.{start_number}
use Rattle.back_lowered.specs.declared.lowering.LoweredProgram.{LoweredProgram}

-- its procedures, with the frames that are used, and the words laid beside them
abbrev pub code_with : LoweredProgram → (used : List MidProcedure) → MidProgram
code_with l used = record { procedures = used; laid = l.words.data.arena.words }

-- the number of the procedure with which it begins
abbrev pub entry_of : (names : List (List ℕ)) → FlatProgram → LoweredProgram → ℕ
entry_of names program l = start_number names l.words.placement program

-- the symbols that are laid in it, with their words
abbrev pub symbols_of : LoweredProgram → List SymbolWord
symbols_of l = l.words.data.arena.symbols
