-- The two programs mean the same, so what is evaluated of the one is so of the other.
use Rattle.lang_meaning.specs.State.{words}
use Rattle.lang_meaning.specs.Meaning.{meaning}
use Rattle.front_laws.proofs.laws.law_one_evaluation.Goals as goal

pub returns : goal.returns
returns c = λ prelude text mode a b p q levels size left left' given given' end g h.
    let x = c.law_one_meaning.ensures prelude text mode a b p q g h in
    c.law_same_runs.ensures (record { names = a; program = p; levels = levels; words = size }) (record { names = b; program = q; levels = levels; words = size }) left left' given given' end
    (λ input. c.law_renamed_runs.ensures x.numbers_a x.numbers_b (meaning a p input levels (words size)) (meaning b q input levels (words size)) (x.same input levels (words size)))
