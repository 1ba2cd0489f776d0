use Rattle.std.proofs.Common.{sym, ◌∙◌}
use Rattle.rv_image_file.proofs.NumberBytes.{number_in-bytes}
use Rattle.rv_image_file.proofs.numbers.number_at.Goals as goal

pub returns : goal.returns
returns c = c.from_le_bytes.ensures ∙ sym (number_in-bytes c.args.bytes.now c.args.from c.requires)
