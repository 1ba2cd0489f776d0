use Rattle.rv_encode.proofs.Decides.{Encodes-read, read-Encodes}
use Rattle.rv_encode.proofs.laws.law_read.Goals as goal

pub returns : goal.returns
returns c = record {
  read = Encodes-read;
  word = read-Encodes;
}
