-- The number and the name of each reason.
use Rattle.std.specs.Prelude.{ℕ, List, codes}
use Rattle.rv_image_file.specs.declared.faults.BadImage.{BadImage}
use Rattle.rv_image_file.specs.declared.faults.BadImage.TheVariants.{Magic, Version, Short, Long, Entry}

abbrev pub number_of : BadImage → ℕ
number_of Magic = 1
number_of Version = 2
number_of Short = 3
number_of Long = 4
number_of Entry = 5

abbrev pub text_of : BadImage → List ℕ
text_of Magic = codes "Magic"
text_of Version = codes "Version"
text_of Short = codes "Short"
text_of Long = codes "Long"
text_of Entry = codes "Entry"
