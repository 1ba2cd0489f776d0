use Rattle.std.proofs.Common.{◌≡◌, IfErr, sym, subst}
use Rattle.std.proofs.lemmas.Result.{err_from_is_err_and}
use Rattle.back_images.specs.Laws.{LaidAreWords}
use Rattle.back_program_code.specs.declared.errors.ImageError.TheVariants as image
use Rattle.back_program_code.specs.Shapes.{chosen_in}
use Rattle.back_program_code.specs.TooLarge.{IsTooLarge}
use Rattle.back_program_code.proofs.Made.{made_long, made, words_large}
use Rattle.back_program_code.proofs.images.emit.Goals as goal

pub image_of-requires : goal.image_of-requires
image_of-requires c = made_long c.args.program.now (chosen_in c.in_ok-plan.plan.shapes) c.in_ok-plan.plan c.in_ok-plan.ensures.ok c.args.entry c.requires.0 c.requires.1 c.in_ok-words.words c.in_ok-words.ensures.ok

pub returns-clause-ok : goal.returns-clause-ok
returns-clause-ok c =
    made c.args.program.now (chosen_in c.in_ok-plan.plan.shapes) c.in_ok-plan.plan c.in_ok-plan.ensures.ok c.args.entry c.requires.0 c.requires.1 c.image_of.result c.in_ok-words.words c.in_ok-words.ensures.ok
    c.image_of.ensures.words c.image_of.ensures.starts (subst LaidAreWords c.as_slice.ensures c.are_words.ensures)

pub returns-in_err-words-clause-large : goal.returns-in_err-words-clause-large
returns-in_err-words-clause-large c =
    let program = c.args.program.now in
    let plan = c.in_ok-plan.plan in
    let told = err_from_is_err_and c.from_residual-in_err-words.result c.from_residual-in_err-words.ensures.1 in
    subst (λ r. IfErr r (λ e. e ≡ image.TooLarge → IsTooLarge program)) (sym told.1)
    (words_large program (chosen_in plan.shapes) plan c.in_ok-plan.ensures.ok c.args.entry c.requires.0 c.requires.1 c.in_err-words.field-0.0 told.0 told.2
    c.in_err-words.ensures.err)
