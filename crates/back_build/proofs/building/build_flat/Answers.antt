-- An image that is made is built of the program that was made flat; where there is none, a test failed, or a lowering did.
use Rattle.std.proofs.Common.{◌≡◌, true, inl, inr, sym, ap, subst, Err}
use Rattle.std.specs.Prelude.{IfErr}
use Rattle.std.proofs.lemmas.Result.{IfOk-weaker, IfErr-weaker, err_from_is_err_and}
use Rattle.lang_meaning.specs.declared.program.ProgramRows.{ProgramRows}
use Rattle.lang_meaning.specs.Facts.{is_whole}
use Rattle.flat_language.specs.declared.program.FlatProgram.{FlatProgram}
use Rattle.flat_language.specs.Flatten.{flat_program}
use Rattle.back_lowered.specs.Lowered.{IsLoweredProgram}
use Rattle.back_build.specs.declared.building.Built.{Built}
use Rattle.back_build.specs.Means.{IsBuilt}
use Rattle.back_build.specs.Reached.{IsSized}
use Rattle.back_build.specs.Compiled.{IsMade}
use Rattle.back_build.specs.Faults.{FailsLowered, FailsFlat}
use Rattle.back_build.proofs.Tested.{built_of}
use Rattle.back_build.proofs.Failing.{of_lowering, of_fault, some_procedures, boxes_captured, boxes_tested}
use Rattle.back_build.proofs.building.build_flat.Goals as goal

pub returns-clause-image : goal.returns-clause-image
returns-clause-image c =
    IfOk-weaker c.image_of.result (IsMade c.in_ok-lowered.lowered)
    (λ (b : Built). (program : ProgramRows) → is_whole program ≡ true → c.args.flat.now ≡ flat_program program → IsBuilt c.args.names.now program b.symbols b.image)
    (λ b made. built_of c.law_built.ensures c.args.names.now c.args.flat.now c.in_ok-lowered.lowered b c.len-count.ensures.table
    (c.in_ok-asked.ensures.0 c.if-not-asked.false)
    (boxes_captured c.args.flat.now c.in_ok-captured.captured c.in_ok-captured.ensures c.if-not-captured.false)
    c.in_ok-lowered.ensures.lowered made)
    c.image_of.ensures.image

pub image_of-requires : goal.image_of-requires
image_of-requires c = some_procedures c.args.names.now c.args.flat.now c.in_ok-lowered.lowered c.in_ok-lowered.ensures.lowered

pub returns-then-not-captured-clause-fault : goal.returns-then-not-captured-clause-fault
returns-then-not-captured-clause-fault c =
    inr (inl (boxes_tested c.args.flat.now c.in_ok-captured.captured c.in_ok-captured.ensures c.if-not-captured.true))

pub returns-in_err-lowered-clause-fault : goal.returns-in_err-lowered-clause-fault
returns-in_err-lowered-clause-fault c =
    let told = err_from_is_err_and c.from_residual-in_err-lowered.result c.from_residual-in_err-lowered.ensures.1 in
    subst (λ r. IfErr r (λ e. FailsFlat c.args.names.now c.args.flat.now e)) (sym told.1)
    (of_fault c.args.names.now c.args.flat.now c.in_err-lowered.field-0.0 told.0 told.2 (λ e. c.in_err-lowered.ensures.too_large (ap Err e)))

pub returns-clause-fault : goal.returns-clause-fault
returns-clause-fault c =
    IfErr-weaker c.image_of.result (FailsLowered c.in_ok-lowered.lowered) (FailsFlat c.args.names.now c.args.flat.now)
    (λ e h. of_lowering c.args.names.now c.args.flat.now e (c.in_ok-lowered.lowered, c.in_ok-lowered.ensures.lowered, h)) c.image_of.ensures.fault

pub returns-clause-size : goal.returns-clause-size
returns-clause-size c =
    IfOk-weaker c.image_of.result (IsMade c.in_ok-lowered.lowered)
    (λ (b : Built). (program : ProgramRows) → is_whole program ≡ true → c.args.flat.now ≡ flat_program program → IsSized b.image program)
    (λ b made program whole same.
    c.law_built_size.ensures c.args.names.now program c.in_ok-lowered.lowered b.image whole
    (subst (λ (f : FlatProgram). IsLoweredProgram c.args.names.now f c.in_ok-lowered.lowered) same c.in_ok-lowered.ensures.lowered) made.image)
    c.image_of.ensures.image
