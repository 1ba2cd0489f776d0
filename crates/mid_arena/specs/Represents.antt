-- When an arena represents a state of the meaning: each object, symbol and counter stands where it is said to stand.
use Rattle.std.specs.Prelude.{◌≡◌, ℕ, true, List, length, Some, None, slice_get}
use Rattle.lang_meaning.specs.declared.program.ProgramRows.{ProgramRows}
use Rattle.lang_meaning.specs.BuiltIn.{built_in_precedence, built_in_slots}
use Rattle.lang_meaning.specs.Facts.{begins_with_built_in}
use Rattle.lang_meaning.specs.Values.{SymbolValue, named}
use Rattle.lang_meaning.specs.Objects.{Object}
use Rattle.lang_meaning.specs.State as meaning
use Rattle.mid_code.specs.State.{MidState}
use Rattle.mid_arena.specs.Places.{Spot, Places, Owner, of_object, of_symbol, spot_of}
use Rattle.mid_arena.specs.Standing.{ArenaStands, SpotStands, AllApart}
use Rattle.mid_arena.specs.ClassesThere.{ClassesThere}
use Rattle.mid_arena.specs.FixedWords.{nil_text, FixedStand}
use Rattle.mid_arena.specs.Layouts.{AreBytes, ObjectAt, SymbolAt}

pub record Represents (names : List (List ℕ)) (program : ProgramRows) (places : Places) (z : meaning.State) (y : MidState) : Type 0 where
  pub built_in : begins_with_built_in program.classes built_in_precedence built_in_slots ≡ true
  pub arena : ArenaStands y.arena
  pub spots : (p : Owner) (s : Spot) → spot_of places p ≡ Some s → SpotStands y.arena s
  pub apart : AllApart places
  pub count : length places.objects ≡ length z.store
  pub classes : ClassesThere names program z
  pub objects :
      (i : ℕ) (o : Object) (s : Spot) → slice_get z.store i ≡ Some o → spot_of places (of_object i) ≡ Some s
      → ObjectAt names program places y.arena s o
  pub symbols : (v : SymbolValue) (s : Spot) → spot_of places (of_symbol v) ≡ Some s → SymbolAt y.arena s v
  pub no_nil : spot_of places (of_symbol (named nil_text)) ≡ None
  pub fixed : FixedStand names program places y.arena z.symbols z.printed z.input y.input
  pub input : AreBytes z.input
  pub printed : y.printed ≡ z.printed
