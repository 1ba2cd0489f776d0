-- What operations, steps and entries cost. What is begun is charged at its beginning.
use Rattle.std.specs.Prelude.{ℕ, ◌+◌, ◌*◌, length}
use Rattle.mid_code.specs.declared.operation.Operation.{Operation}
use Rattle.mid_code.specs.declared.operation.Operation.TheVariants.{Move, Constant, Compute, Load, Store, Request, Draw, Put, Get, Call}

abbrev pub operation_cost : Operation → ℕ
operation_cost (Move to from) = 6
operation_cost (Constant to word) = 6
operation_cost (Compute to which first second) = 10
operation_cost (Load to base offset) = 8
operation_cost (Store from base offset) = 8
operation_cost (Request to words) = 20
operation_cost (Draw to base offset) = 26
operation_cost (Put from) = 8
operation_cost (Get to) = 8
operation_cost (Call to callee arguments) = 40 + 6 * length arguments

-- a test, or the choice of a code by its number
abbrev pub test_cost : ℕ
test_cost = 12

-- a code of a switch has a word in a table, which no run executes
abbrev pub table_cost : ℕ
table_cost = 1

-- the jump behind a branch, behind a code of a switch, behind a turn, and behind the inside of a control record
abbrev pub jump_cost : ℕ
jump_cost = 2

-- a control record is laid, or a block is lent, and its header written
abbrev pub record_cost : ℕ
record_cost = 20 + 16

-- it is given back, behind the inside or behind the landing
abbrev pub give_back_cost : ℕ
give_back_cost = 10

abbrev pub return_cost : ℕ
return_cost = 14

abbrev pub cut_cost : ℕ
cut_cost = 16

abbrev pub halt_cost : ℕ
halt_cost = 6

abbrev pub unhandled_cost : ℕ
unhandled_cost = 14

-- the entry of a procedure with so many parameters
abbrev pub entry_cost : ℕ → ℕ
entry_cost parameters = 20 + 6 * parameters
