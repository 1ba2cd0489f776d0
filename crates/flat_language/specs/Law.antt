-- That a program means the same when it is made flat.
use Rattle.std.specs.Prelude.{◌≡◌, ℕ, List, true}
use Rattle.lang_meaning.specs.declared.program.ProgramRows.{ProgramRows}
use Rattle.lang_meaning.specs.Counts.{nodes}
use Rattle.lang_meaning.specs.Form.{Form}
use Rattle.lang_meaning.specs.State.{Limit}
use Rattle.lang_meaning.specs.Facts.{is_whole}
use Rattle.lang_meaning.specs.Meaning.{Meant, class_in, meaning}
use Rattle.lang_meaning.specs.Values.{Value}
use Rattle.flat_language.specs.FlatMeaning.{flat_meaning}
use Rattle.flat_language.specs.FlatNodes as flat_nodes
use Rattle.flat_language.specs.FlatExits.{ProgramLeads}
use Rattle.flat_language.specs.FlatFits.{ProgramFits}
use Rattle.flat_language.specs.FlatStanding.{ProgramStands}
use Rattle.flat_language.specs.Flatten.{flat, flat_program}
use Rattle.flat_language.specs.Scope.{Scope}

-- two runs with the same end, bytes, input left, units and peak, in whose stores each value is of the same class
pub record SameRun (one other : Meant) : Type 0 where
  pub end : other.end ≡ one.end
  pub printed : other.printed ≡ one.printed
  pub left : other.left ≡ one.left
  pub units : other.units ≡ one.units
  pub peak : other.peak ≡ one.peak
  pub class : (v : Value) → class_in other.store v ≡ class_in one.store v

-- the law of closures: for every input, number of levels and words
abbrev pub LawOfClosures : Type 0
LawOfClosures =
    (names : List (List ℕ)) (program : ProgramRows) → is_whole program ≡ true → (input : List ℕ) (k : ℕ) (limit : Limit)
    → SameRun (meaning names program input k limit) (flat_meaning names (flat_program program) input k limit)

-- the law of flat nodes: a form that is made flat, in any scope and with any first number, has as many nodes as before
abbrev pub LawOfFlatNodes : Type 0
LawOfFlatNodes = (s : Scope) (n : ℕ) (f : Form) → flat_nodes.nodes (flat s n f) ≡ nodes f

-- the law of flat programs: what code may rest on in a whole program that is made flat
abbrev pub LawOfFlatPrograms : Type 0
LawOfFlatPrograms =
    (program : ProgramRows) → is_whole program ≡ true
    → ProgramStands (flat_program program) × ProgramFits (flat_program program) × ProgramLeads (flat_program program)
