-- What holds of the step for each kind of lexeme holds of the step for a lexeme.
use Rattle.std.proofs.Common.{ℕ, List as Seq, Option}
use Rattle.base.specs.declared.place.Place.{Place}
use Rattle.front_reader.specs.declared.opening.Opening.{Opening}
use Rattle.front_reader.specs.declared.lexeme.Lexeme.{Lexeme}
use Rattle.front_reader.specs.declared.lexeme.Lexeme.TheVariants.{Close, Dot, Open, Integer, Character, Token, Bar, Text}
use Rattle.front_reader.specs.Atoms.{Atom}
use Rattle.front_reader.specs.bridge.Lexemes.{atom_of}
use Rattle.front_reader.specs.bridge.Machine.{LexemeState, LexemeStep, closing, dot_step, opening_step, atom_step, act}
use Rattle.front_reader.proofs.Stepping.{Numbers}

pub record AtEach (P : LexemeStep → Type 0) (number : Numbers) (s : LexemeState) (p : Place) (r : Seq ℕ) : Type 0 where
  pub closes : P (closing s p r s.pending)
  pub dots : P (dot_step s p r s.pending)
  pub opens : (o : Opening) → P (opening_step number s p r o)
  pub reads : (a : Option Atom) → P (atom_step number s p r a)

pub at-act : (P : LexemeStep → Type 0) (number : Numbers) (s : LexemeState) (p : Place) (r w : Seq ℕ) → AtEach P number s p r → (x : Lexeme) → P (act number s p r w x)
at-act P number s p r w e Close = e.closes
at-act P number s p r w e Dot = e.dots
at-act P number s p r w e (Open o) = e.opens o
at-act P number s p r w e (Integer n) = e.reads (atom_of (Integer n) w)
at-act P number s p r w e (Character n) = e.reads (atom_of (Character n) w)
at-act P number s p r w e Token = e.reads (atom_of Token w)
at-act P number s p r w e Bar = e.reads (atom_of Bar w)
at-act P number s p r w e Text = e.reads (atom_of Text w)
