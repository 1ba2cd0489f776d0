use Rattle.back_program_code.proofs.images.words_of.Goals as goal

pub put_front-requires : goal.put_front-requires
put_front-requires c = let is = c.requires in (is.low, is.entries_low)
