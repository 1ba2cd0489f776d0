use Rattle.mid_examples.proofs.Vectors.{make_vector_rows, vector_length_rows, vector_ref_rows, set_vector_ref_rows}
use Rattle.mid_examples.proofs.worked.worked_vectors.Goals as goal

pub returns-clause-make_vector_rows : goal.returns-clause-make_vector_rows
returns-clause-make_vector_rows c = make_vector_rows

pub returns-clause-vector_length_rows : goal.returns-clause-vector_length_rows
returns-clause-vector_length_rows c = vector_length_rows

pub returns-clause-vector_ref_rows : goal.returns-clause-vector_ref_rows
returns-clause-vector_ref_rows c = vector_ref_rows

pub returns-clause-set_vector_ref_rows : goal.returns-clause-set_vector_ref_rows
returns-clause-set_vector_ref_rows c = set_vector_ref_rows
