-- By the laws of the crates below.
use Rattle.back_build.proofs.Compiled.{compiled_law}
use Rattle.back_build.proofs.laws.law_compiled.Goals as goal

pub returns : goal.returns
returns c =
    compiled_law (record {
      flat_programs = c.law_flat_programs.ensures;
      whole_programs = c.law_whole_programs.ensures;
      right_programs = c.law_right_programs.ensures;
      beginnings = c.law_beginnings.ensures;
      lowering = c.law_lowering.ensures;
      meant_runs = c.law_meant_runs.ensures;
      whole_meaning = c.law_whole_meaning.ensures;
    })
