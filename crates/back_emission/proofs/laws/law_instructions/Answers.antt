use Rattle.back_emission.proofs.Arithmetic.{arithmetic_same, immediate_same, branch_unless_same, branch_where_same, room_test}
use Rattle.back_emission.proofs.laws.law_instructions.Goals as goal

pub returns : goal.returns
returns c = record { arithmetic = arithmetic_same; immediate = immediate_same; unless = branch_unless_same; branches_where = branch_where_same; room = room_test }
