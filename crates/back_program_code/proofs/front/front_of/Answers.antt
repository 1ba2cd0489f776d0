use Rattle.std.proofs.Common.{◌∙◌, arith}
use Rattle.back_program_code.specs.Shapes.{chosen_in}
use Rattle.back_program_code.proofs.Most.{most_of_shapes, count_of_shapes}
use Rattle.back_program_code.proofs.front.front_of.Goals as goal

pub returns-clause-ok : goal.returns-clause-ok
returns-clause-ok c =
    let laid = c.len-laid.ensures in
    let most = c.most_arguments-most.ensures ∙ most_of_shapes (chosen_in c.args.shapes.now) c.args.program.now c.args.shapes.now c.requires in
    let count = c.len-count.ensures ∙ count_of_shapes (chosen_in c.args.shapes.now) c.args.program.now c.args.shapes.now c.requires in
    cc (laid, most, count)

pub returns-then-laid-ge16777216-clause-err : goal.returns-then-laid-ge16777216-clause-err
returns-then-laid-ge16777216-clause-err c = omega (arith, c.len-laid.ensures, c.if-laid-ge16777216.true)

pub returns-then-most-ge16777216-clause-err : goal.returns-then-most-ge16777216-clause-err
returns-then-most-ge16777216-clause-err c =
    let most = c.most_arguments-most.ensures ∙ most_of_shapes (chosen_in c.args.shapes.now) c.args.program.now c.args.shapes.now c.requires in
    omega (arith, most, c.if-most-ge16777216.true)

pub returns-then-count-ge16777216-clause-err : goal.returns-then-count-ge16777216-clause-err
returns-then-count-ge16777216-clause-err c =
    let count = c.len-count.ensures ∙ count_of_shapes (chosen_in c.args.shapes.now) c.args.program.now c.args.shapes.now c.requires in
    omega (arith, count, c.if-count-ge16777216.true)

pub returns-then-laid-most-ge16777205-clause-err : goal.returns-then-laid-most-ge16777205-clause-err
returns-then-laid-most-ge16777205-clause-err c =
    let most = c.most_arguments-most.ensures ∙ most_of_shapes (chosen_in c.args.shapes.now) c.args.program.now c.args.shapes.now c.requires in
    let count = c.len-count.ensures ∙ count_of_shapes (chosen_in c.args.shapes.now) c.args.program.now c.args.shapes.now c.requires in
    omega (arith, c.len-laid.ensures, most, count, c.if-laid-most-ge16777205.true)
