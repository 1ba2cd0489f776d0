use Rattle.std.proofs.Common.{◌≡◌, ◌++◌, take}
use Rattle.std.specs.Prelude.{All}
use Rattle.rv_machine.specs.Memory.{bytes_of}
use Rattle.rv_image_file.specs.ImageText.{site_numbers, IsSite}
use Rattle.rv_image_file.proofs.parts.put_sites.Given as goal

abbrev pub invariant-loop-site : goal.invariant-loop-site
invariant-loop-site l =
    (l.out ≡ l.initial.out ++ bytes_of (site_numbers (take l.site-index l.sites)))
    × All IsSite (take l.site-index l.sites)
