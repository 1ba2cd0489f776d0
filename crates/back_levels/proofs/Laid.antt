-- A whole program that is made flat and laid: it stands and fits, its words are placed, its frames are paid, and its code does what it means.
use Rattle.std.proofs.Common.{◌≡◌, List, sym, subst}
use Rattle.lang_meaning.specs.declared.program.ProgramRows.{ProgramRows}
use Rattle.lang_meaning.proofs.NamesBound.{law_of_names}
use Rattle.flat_language.specs.FlatFits.{ProgramFits}
use Rattle.flat_language.specs.FlatStanding.{ProgramStands}
use Rattle.flat_language.proofs.Law.{law_of_flat_programs}
use Rattle.flat_boxes.specs.Boxes.{ProgramBoxes}
use Rattle.flat_boxes.proofs.Whole.{boxes_captured}
use Rattle.mid_start.specs.declared.static_data.StaticData.{StaticData}
use Rattle.back_relation.specs.Setting.{Setting}
use Rattle.back_relation.specs.Right.{ProgramIsRight}
use Rattle.back_frames.proofs.Whole.{frames_paid}
use Rattle.back_words.specs.Asked.{RowsAsked, FormsAsked, SymbolsGiven}
use Rattle.back_words.specs.Start.{laid_symbols, world_at_start}
use Rattle.back_words.proofs.Programs.{placed_programs}
use Rattle.back_words.proofs.Start.{beginnings}
use Rattle.back_words.proofs.Symbols.{given_symbols}
use Rattle.back_words.proofs.Keeping.{forms_asked}
use Rattle.back_words.proofs.Whole.{rows_asked}
use Rattle.back_levels.proofs.Levels.{lowering_law}
use Rattle.back_levels.specs.Laid.{IsLaid, LawOfRightPrograms, LawOfLaidRuns}

module _ (program : ProgramRows) (setting : Setting) (laid : StaticData) (is : IsLaid program setting laid) where
  stands : ProgramStands setting.program
  stands = subst ProgramStands (sym is.flat) (law_of_flat_programs law_of_names program is.whole).0

  fits : ProgramFits setting.program
  fits = subst ProgramFits (sym is.flat) (law_of_flat_programs law_of_names program is.whole).1

  rows : RowsAsked setting.program
  rows = subst RowsAsked (sym is.flat) (rows_asked program is.whole)

  forms : FormsAsked setting.program
  forms = subst FormsAsked (sym is.flat) (forms_asked program is.whole)

  symbols : SymbolsGiven setting.names setting.program (laid_symbols setting.names laid.arena.symbols)
  symbols = given_symbols setting.names setting.program _ setting.further laid is.table is.names is.starts.start is.symbols

  pub right : ProgramIsRight setting
  right = record {
    stands = stands;
    fits = fits;
    placed = placed_programs setting _ _ is.starts.words is.further fits rows is.names symbols forms;
    frames_paid = frames_paid setting fits is.boxes;
  }

pub right_programs_law : LawOfRightPrograms
right_programs_law program setting laid is = right program setting laid is

pub laid_runs_law : LawOfLaidRuns
laid_runs_law program setting laid is input k y bytes begins paid room enough =
    lowering_law setting (right program setting laid is) input k (world_at_start is.starts.start.places) y
    (beginnings setting laid is.starts is.table (rows program setting laid is) input y bytes begins paid room) enough
