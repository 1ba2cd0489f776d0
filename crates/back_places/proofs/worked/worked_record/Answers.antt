use Rattle.back_places.proofs.Examples.{record_code}
use Rattle.back_places.proofs.worked.worked_record.Goals as goal

pub returns : goal.returns
returns c = record_code
