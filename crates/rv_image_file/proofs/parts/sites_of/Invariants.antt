use Rattle.std.proofs.Common.{◌≡◌, ◌*◌, ◌++◌, drop}
use Rattle.std.specs.Prelude.{All}
use Rattle.rv_machine.specs.Memory.{bytes_of}
use Rattle.rv_image_file.specs.ImageText.{site_numbers, IsSite}
use Rattle.rv_image_file.proofs.parts.sites_of.Given as goal

abbrev pub invariant-loop-at : goal.invariant-loop-at
invariant-loop-at l = (l.bytes ≡ bytes_of (site_numbers l.sites) ++ drop (8 * l.at) l.bytes) × All IsSite l.sites
