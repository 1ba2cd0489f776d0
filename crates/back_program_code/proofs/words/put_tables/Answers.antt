use Rattle.std.proofs.Common.{◌*◌, ◌++◌, map, ap, ◌∙◌}
use Rattle.back_layout.specs.Sizes.{switch_targets}
use Rattle.back_emit.specs.PlacedLines.{line_position}
use Rattle.back_program_code.specs.ShapedImage.{line_table}
use Rattle.back_program_code.proofs.Joined.{joined_more}
use Rattle.back_program_code.proofs.words.put_tables.Goals as goal

pub loop-i-preserved : goal.loop-i-preserved
loop-i-preserved c =
    let x = c.in-Some.line.now in
    joined_more (line_table c.args.front c.args.entries.now c.args.at c.args.nears.now c.args.lefts.now c.args.shape.now) c.loop-i.i x _ c.args.words.now _ _
    (c.in_ok-put_table.ensures ∙ ap (λ b. c.loop-i.words ++ map (λ to. 4 * line_position c.args.lefts.now b to) (switch_targets x)) c.in_ok-body.ensures)
    c.loop-i.invariant c.in-Some.ensures
