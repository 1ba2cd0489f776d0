-- What is seen of an image that was built.
use Rattle.top_main.proofs.Seen.{seen}
use Rattle.top_main.proofs.build.build_whole.Goals as goal

pub write_file-answer-requires : goal.write_file-answer-requires
write_file-answer-requires g c = record { is_image = seen _ _ c.in-Ok.built c.in-Ok.ensures.image c.in-Ok.ensures.size c.in-Ok.ensures.reached_size }
