-- **A program that is laid**: where its words are, and the words with which its run begins.
use Rattle.std.specs.Prelude.{◌≡◌, ◌≤◌, ℕ, ◌+◌, ◌*◌, List, length}
use Rattle.flat_language.specs.declared.program.FlatProgram.{FlatProgram}
use Rattle.flat_language.specs.FlatNodes.{tables}
use Rattle.mid_start.specs.NamedSymbols.{HaveSymbols}
use Rattle.mid_start.specs.Rows.{unit_words, most_static_words}
use Rattle.mid_start.specs.StaticData.{IsStaticData}
use Rattle.back_words.specs.Start.{wanted_names, laid_symbols, literals_from}
use Rattle.back_words.specs.Variables.{low_words}
use Rattle.back_words.specs.Words.{further_words, placement_of}
use Rattle.back_lowered.specs.declared.program.LaidProgram.{LaidProgram}

pub record IsLaidProgram (names : List (List ℕ)) (program : FlatProgram) (l : LaidProgram) : Type 0 where
  pub further : List ℕ
  pub start : IsStaticData names (tables program) (low_words names program) further l.data
  pub further_is : further ≡ further_words program (laid_symbols names l.data.arena.symbols) start.further_at
  pub placement :
      l.placement
      ≡ placement_of names program (literals_from names program.functions l.data program.literals 0) (laid_symbols names l.data.arena.symbols)
      start.further_at
  pub within :
      length l.data.arena.words
      ≤ 46 + length (low_words names program) + most_static_words program.classes program.functions program.literals
      + unit_words * length (wanted_names names program)
      + length further
  pub symbols : HaveSymbols (wanted_names names program) l.data.arena.symbols
