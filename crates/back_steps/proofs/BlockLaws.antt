-- The laws of the lines that lay blocks.
use Rattle.mid_lines.specs.declared.line.Line.TheVariants.{Lay, Lend}
use Rattle.back_places.specs.StepLaw.{Known, LawOfLine}
use Rattle.back_steps.specs.LayingKinds.{IsLay, IsLend}
use Rattle.back_steps.proofs.Lays.{lay_follows}
use Rattle.back_steps.proofs.Lends.{lend_follows}

pub law_of_lays : LawOfLine IsLay
law_of_lays program l known first checked good a line rs callers z m (Lay block words landing) e kind r =
    lay_follows program l (Known known) first checked good a line block words landing rs callers z m e r
law_of_lays program l known first checked good a line rs callers z m x e kind r = absurd kind

pub law_of_lends : LawOfLine IsLend
law_of_lends program l known first checked good a line rs callers z m (Lend block words) e kind r =
    lend_follows program l (Known known) first good a line block words rs callers z m e r
law_of_lends program l known first checked good a line rs callers z m x e kind r = absurd kind
