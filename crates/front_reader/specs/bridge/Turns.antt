-- What a call that takes a lexeme does with the data that are open.
use Rattle.std.specs.Prelude.{◌≡◌, ◌≤◌, length, ℕ, List, [], ◌∷◌, ◌++◌, reverse, Option, Some, None, Result, Ok, Err}
use Rattle.base.specs.declared.reason.Stop.{Stop}
use Rattle.base.specs.declared.reason.Stop.TheVariants.{Refused, NoMemory}
use Rattle.base.specs.Data.{Item}
use Rattle.base.specs.model.DataView.{view_content}
use Rattle.base.specs.declared.datum.Kind.{Kind}
use Rattle.base.specs.declared.place.Place.{Place}
use Rattle.front_reader.specs.declared.opening.Opening.{Opening}
use Rattle.front_reader.specs.declared.lexeme.Lexeme.{Lexeme}
use Rattle.front_reader.specs.declared.lexeme.Lexeme.TheVariants.{Close, Dot, Open, Integer, Character, Token, Bar, Text}
use Rattle.front_reader.specs.Atoms.{Atom}
use Rattle.front_reader.specs.bridge.Lexemes.{between_quotes}
use Rattle.front_reader.specs.Meanings.{atom_content}
use Rattle.base.specs.Names.{IsTable, Extends}
use Rattle.front_reader.specs.declared.pending.Pending.{Pending}
use Rattle.front_reader.specs.bridge.Machine.{LexemeState, stopped, LexemeStep, next, over, pending_place, opened}

-- a table of names that begins with these
pub record IsLater (names table : List (List ℕ)) : Type 0 where
  pub is_table : IsTable table
  pub extends : Extends names table

-- with these data open, the outermost first; or with a whole datum more, and then none is open
abbrev pub with_open : LexemeState → Option Item → List Pending → LexemeState
with_open s None os = record s { pending = reverse os }
with_open s (Some d) os = record s { done = s.done ++ d ∷ []; pending = [] }

-- the state with these data open, the outermost first
abbrev pub open_state : LexemeState → List Pending → LexemeState
open_state s os = record s { pending = reverse os }

-- a name has at most 256 bytes
abbrev pub NameFits : Lexeme → List ℕ → Type 0
NameFits Close w = Unit {0}
NameFits Dot w = Unit {0}
NameFits (Open o) w = Unit {0}
NameFits (Integer n) w = Unit {0}
NameFits (Character c) w = Unit {0}
NameFits Token w = length w ≤ 256
NameFits Bar w = length (between_quotes w) ≤ 256
NameFits Text w = Unit {0}

-- the kind is what the atom is
abbrev pub IsContent : (List ℕ → Option ℕ) → Option Atom → Option Kind → Type 0
IsContent number None None = Unit {0}
IsContent number None (Some k) = ⊥
IsContent number (Some a) None = ⊥
IsContent number (Some a) (Some k) = atom_content number a ≡ Some (view_content k)

-- the place of the innermost opening
abbrev pub innermost_of : List Pending → Option Place
innermost_of [] = None
innermost_of (o ∷ os) = Some (pending_place o)

-- the opening begins this open datum
abbrev pub OpeningBegins : (List ℕ → Option ℕ) → Place → Opening → Pending → Type 0
OpeningBegins number p o u = (s : LexemeState) → opened number s p o ≡ next (record s { pending = u ∷ s.pending })

-- the step that was to be made leads to these open data and perhaps a whole datum, or stops there
abbrev pub Turns : (LexemeState → List ℕ → LexemeStep) → Result (Option Item) Stop → List Pending → Type 0
Turns f (Ok o) os = (s : LexemeState) (r : List ℕ) → f s r ≡ next (with_open s o os)
Turns f (Err (Refused x)) os = (s : LexemeState) (r : List ℕ) → f s r ≡ over (stopped x.place x.reason r)
Turns f (Err NoMemory) os = Unit {0}
