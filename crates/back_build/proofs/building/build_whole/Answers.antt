-- The rows of the program were tested, and so the program that is made flat can be lowered; its image is that of the program.
use Rattle.std.proofs.Common.{◌≡◌, true, inl, sym, subst}
use Rattle.std.proofs.lemmas.Result.{IfOk-weaker, IfErr-weaker}
use Rattle.lang_meaning.specs.declared.program.ProgramRows.{ProgramRows}
use Rattle.lang_meaning.specs.Facts.{is_whole}
use Rattle.flat_language.specs.Flatten.{flat_program}
use Rattle.flat_language.specs.declared.program.FlatProgram.{FlatProgram}
use Rattle.mid_start.specs.Rows.{NamesThere}
use Rattle.back_build.specs.Faults.{FailsFlat, Fails}
use Rattle.back_build.specs.declared.building.Built.{Built}
use Rattle.back_build.specs.Means.{IsBuilt}
use Rattle.back_build.specs.Reached.{IsSized}
use Rattle.back_build.proofs.Failing.{of_flat, no_other, failed}
use Rattle.back_build.proofs.Tested.{rows_fit}
use Rattle.back_build.proofs.building.build_whole.Goals as goal

pub build_flat-built-requires : goal.build_flat-built-requires
build_flat-built-requires c =
    rows_fit c.law_whole_rows.ensures c.args.names.now c.in-Some.true_name c.args.program.now c.rows-rows.result.now c.in_ok-flat.flat c.rows-rows.ensures.whole
    c.rows-rows.ensures.same (c.in_ok-are.ensures.0 c.if-not-are.false) c.in_ok-flat.ensures.made

pub returns-clause-image : goal.returns-clause-image
returns-clause-image c =
    IfOk-weaker c.build_flat-built.result
    (λ (b : Built). (program : ProgramRows) → is_whole program ≡ true → c.in_ok-flat.flat ≡ flat_program program → IsBuilt c.args.names.now program b.symbols b.image)
    (λ (b : Built). IsBuilt c.args.names.now c.args.program.now b.symbols b.image)
    (λ b built. built c.args.program.now c.rows-rows.ensures.whole c.in_ok-flat.ensures.made)
    c.build_flat-built.ensures.image

pub returns-then-not-are-clause-fault : goal.returns-then-not-are-clause-fault
returns-then-not-are-clause-fault c =
    inl (λ name h. failed c.in_ok-are.are c.in_ok-are.ensures c.if-not-are.true
    (subst (λ (rows : ProgramRows). NamesThere c.args.names.now c.in-Some.true_name rows) (sym c.rows-rows.ensures.same)
    (no_other c.args.names.now c.in-Some.true_name name c.args.program.now c.in-Some.ensures h)))

pub returns-clause-fault : goal.returns-clause-fault
returns-clause-fault c =
    IfErr-weaker c.build_flat-built.result (FailsFlat c.args.names.now c.in_ok-flat.flat) (Fails c.args.names.now c.args.program.now)
    (λ e h. of_flat c.args.names.now c.args.program.now e (subst (λ (f : FlatProgram). FailsFlat c.args.names.now f e) c.in_ok-flat.ensures.made h))
    c.build_flat-built.ensures.fault

pub returns-clause-size : goal.returns-clause-size
returns-clause-size c =
    IfOk-weaker c.build_flat-built.result
    (λ (b : Built). (program : ProgramRows) → is_whole program ≡ true → c.in_ok-flat.flat ≡ flat_program program → IsSized b.image program)
    (λ (b : Built). IsSized b.image c.args.program.now)
    (λ b within. within c.args.program.now c.rows-rows.ensures.whole c.in_ok-flat.ensures.made)
    c.build_flat-built.ensures.size
