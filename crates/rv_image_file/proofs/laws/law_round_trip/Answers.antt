use Rattle.std.proofs.Common.{refl}
use Rattle.rv_image_file.proofs.OneText.{one_written}
use Rattle.rv_image_file.proofs.laws.law_round_trip.Goals as goal

pub returns : goal.returns
returns c = record {
  text = λ version image sites is range. record { spelled = refl; version_is = is; in_range = range };
  same = one_written;
}
