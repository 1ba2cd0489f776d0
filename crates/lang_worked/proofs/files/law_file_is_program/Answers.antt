use Rattle.lang_worked.proofs.FileProgram.{file_is_program}
use Rattle.lang_worked.proofs.files.law_file_is_program.Goals as goal

pub returns : goal.returns
returns c = file_is_program
