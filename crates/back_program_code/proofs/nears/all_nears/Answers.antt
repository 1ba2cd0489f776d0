use Rattle.std.proofs.Common.{[], ◌∷◌, ◌++◌, sym, ap, subst, ◌∙◌}
use Rattle.std.specs.Prelude.{slice_get, slice_index}
use Rattle.back_program_code.specs.Shapes.{listed, shape_nears, AreLow}
use Rattle.back_program_code.proofs.Joined.{joined_one}
use Rattle.back_program_code.proofs.Positions.{within, are_low}
use Rattle.back_program_code.proofs.nears.all_nears.Goals as goal

pub shape_nears-requires : goal.shape_nears-requires
shape_nears-requires c =
    let f = c.args.front in
    let lefts = c.args.lefts.now in
    let shapes = c.args.shapes.now in
    let n = c.loop-number.number in
    let low = c.requires.3 in
    let is = c.requires.2 in (
      c.requires.0 n c.in-Some.shape.now c.in-Some.ensures,
      within f lefts shapes n c.entry_position-at.result c.in-Some-get.left.now c.in-Some.shape.now c.in-Some.ensures c.in-Some-get.ensures
          (c.entry_position-at.ensures ∙ ap (λ es. slice_index es n) is) low,
      subst AreLow (sym is) (are_low f lefts shapes low),
    )

pub loop-number-preserved : goal.loop-number-preserved
loop-number-preserved c =
    let f = c.args.front in
    let n = c.loop-number.number in
    let s = c.in-Some.shape.now in
    joined_one (λ number t. shape_nears f c.args.entries.now (slice_index c.args.entries.now number) (listed (slice_get c.args.lefts.now number)) t ∷ []) n s _ _ _
    (c.in_ok-push.ensures.ok
    ∙ ap (λ x. c.loop-number.nears ++ x ∷ [])
    (c.in_ok-shape_nears.ensures
    ∙ ap (λ at. shape_nears f c.args.entries.now at c.in-Some-get.left.now s) c.entry_position-at.ensures
    ∙ ap (λ o. shape_nears f c.args.entries.now (slice_index c.args.entries.now n) (listed o) s) (sym c.in-Some-get.ensures)))
    c.loop-number.invariant c.in-Some.ensures
