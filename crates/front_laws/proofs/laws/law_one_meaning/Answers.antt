-- The law is the lemma, with the laws of programs, of their names and of meanings.
use Rattle.front_laws.proofs.OneMeaning.{means_the_same}
use Rattle.front_laws.proofs.laws.law_one_meaning.Goals as goal

pub returns : goal.returns
returns c = λ prelude text mode a b p q g h.
    means_the_same c.law_meaning.ensures a p b q (c.law_one_program.ensures prelude text mode a b p q g.accepts h) (c.law_one_program.ensures prelude text mode a a p p g.accepts g)
    (c.law_names_in_table.ensures prelude text mode a p g) (c.law_names_in_table.ensures prelude text mode b q h)
