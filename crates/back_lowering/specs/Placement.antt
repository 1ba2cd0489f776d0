-- Where words are laid and which numbers procedures have: all that code depends on besides the form that it is of.
use Rattle.std.specs.Prelude.{ℕ, ◌+◌, List, slice_index_or}
use Rattle.mid_arena.specs.Tags.{nil_word}
use Rattle.back_lowering.specs.declared.placement.Placement.{Placement}

-- Procedures of middle code are numbered so: the entries of the program's procedures and of the functions of its forms, their bodies in the
-- same order, the procedures of primitives, the routines, the main forms, and the start.

abbrev pub functions : Placement → ℕ
functions at = at.procedures + at.lambdas

-- the entry, and the body, of a procedure and of a function of a form
abbrev pub entry_of_lambda : Placement → ℕ → ℕ
entry_of_lambda at n = at.procedures + n

abbrev pub body_of_procedure : Placement → ℕ → ℕ
body_of_procedure at n = functions at + n

abbrev pub primitives_from : Placement → ℕ
primitives_from at = functions at + functions at

-- how many primitives there are
abbrev pub primitive_count : ℕ
primitive_count = 58

abbrev pub routines_from : Placement → ℕ
routines_from at = primitives_from at + primitive_count

abbrev pub literal_word : Placement → ℕ → ℕ
literal_word at n = slice_index_or at.literals n nil_word

abbrev pub symbol_word : Placement → ℕ → ℕ
symbol_word at n = slice_index_or at.symbols n nil_word

abbrev pub global_address : Placement → ℕ → ℕ
global_address at n = slice_index_or at.globals n 0

abbrev pub dynamic_address : Placement → ℕ → ℕ
dynamic_address at n = slice_index_or at.dynamics n 0
