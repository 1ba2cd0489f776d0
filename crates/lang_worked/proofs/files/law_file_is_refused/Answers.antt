use Rattle.lang_worked.proofs.FileRefused.{file_is_refused}
use Rattle.lang_worked.proofs.files.law_file_is_refused.Goals as goal

pub returns : goal.returns
returns c = file_is_refused
