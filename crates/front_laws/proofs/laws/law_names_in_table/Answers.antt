-- The law is the lemma, with the laws of files and of programs.
use Rattle.front_laws.proofs.NamesInTable.{names_in_table}
use Rattle.front_laws.proofs.laws.law_names_in_table.Goals as goal

pub returns : goal.returns
returns c = λ prelude text mode names program g. names_in_table c.law_names_apart.ensures.without c.law_one_program.ensures prelude text mode program names g
