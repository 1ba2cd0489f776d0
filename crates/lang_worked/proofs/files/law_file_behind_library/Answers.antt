use Rattle.lang_worked.proofs.FileCalling.{file_behind_library}
use Rattle.lang_worked.proofs.files.law_file_behind_library.Goals as goal

pub returns : goal.returns
returns c = file_behind_library
