-- Before anything is laid the words represent no objects and no symbols.
use Rattle.std.proofs.Common.{◌≡◌, ℕ, ◌%◌, List, [], Some, refl}
use Rattle.lang_meaning.specs.declared.program.ProgramRows.{ProgramRows}
use Rattle.mid_arena.specs.Places.{Spot, Places, Owner, of_object, of_symbol, of_other, spot_of}
use Rattle.mid_start.specs.declared.words.ArenaWords.{ArenaWords}
use Rattle.mid_start.specs.LaidWell.{LaidWell}

abbrev pub no_places : Places
no_places = record { objects = []; symbols = []; others = [] }

nowhere : (p : Owner) (s : Spot) → spot_of no_places p ≡ Some s → ⊥
nowhere (of_object i) s e = cc e
nowhere (of_symbol v) s e = cc e
nowhere (of_other n) s e = cc e

pub nothing_there :
    (names : List (List ℕ)) (program : ProgramRows) (words : ArenaWords) → words.first % 4 ≡ 0 → words.symbols ≡ []
    → LaidWell names program no_places [] words
nothing_there names program words aligned none = record {
  aligned = aligned;
  spots = λ p s e. absurd (nowhere p s e);
  apart = λ p q s r different d e. absurd (nowhere p s d);
  count = refl;
  objects = λ i o s found e. absurd (nowhere (of_object i) s e);
  symbols = λ v s e. absurd (nowhere (of_symbol v) s e);
  listed = rw none tt;
  once = λ i j p q d e same. absurd (cc d);
}
