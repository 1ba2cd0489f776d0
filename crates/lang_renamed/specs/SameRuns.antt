-- When two programs do the same, all that an evaluation tells of them.
use Rattle.std.specs.Prelude.{◌≡◌}
use Rattle.lang_meaning.specs.Meaning.{Meant, ending_of}

-- the same end, with the class and the site where it is by a condition; the same bytes printed, input left, units and peak of words
pub record DoesTheSame (m n : Meant) : Type 0 where
  pub ending : ending_of m.end m.store ≡ ending_of n.end n.store
  pub printed : m.printed ≡ n.printed
  pub left : m.left ≡ n.left
  pub units : m.units ≡ n.units
  pub peak : m.peak ≡ n.peak
