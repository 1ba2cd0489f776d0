use Rattle.lang_library_laws.proofs.Mapcar.{law_of_mapcar}
use Rattle.lang_library_laws.proofs.laws.law_mapcar.Goals as goal

pub returns : goal.returns
returns c = law_of_mapcar
