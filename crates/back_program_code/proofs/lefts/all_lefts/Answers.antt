use Rattle.std.proofs.Common.{rules, ◌++◌, [], ◌∷◌, length, ap, ◌∙◌, arith, length-append}
use Rattle.std.specs.Prelude.{slice_get}
use Rattle.back_program_code.specs.Shapes.{listed, shape_lefts}
use Rattle.back_program_code.proofs.Joined.{joined_one}
use Rattle.back_program_code.proofs.Long.{lefts_long}
use Rattle.back_program_code.proofs.lefts.all_lefts.Goals as goal

pub numbered_lefts-requires : goal.numbered_lefts-requires
numbered_lefts-requires c = c.requires c.loop-number.number c.in-Some.shape.now c.in-Some.ensures

pub loop-number-preserved : goal.loop-number-preserved
loop-number-preserved c = (
  joined_one (λ number s. shape_lefts c.args.front (listed (slice_get c.args.nears.now number)) s ∷ []) c.loop-number.number _ _ _ _
      (c.in_ok-push.ensures.ok ∙ ap (λ x. c.loop-number.lefts ++ x ∷ []) c.in_ok-numbered_lefts.ensures.ok) c.loop-number.invariant.0 c.in-Some.ensures,
  ap length c.in_ok-push.ensures.ok ∙ length-append c.loop-number.lefts _ ∙ omega (arith, c.loop-number.invariant.1),
)

pub returns-in_err-numbered_lefts-clause-err : goal.returns-in_err-numbered_lefts-clause-err
returns-in_err-numbered_lefts-clause-err c =
    search (rules, lefts_long c.args.front c.args.nears.now c.args.shapes.now c.loop-number.number c.in-Some.shape.now c.in-Some.ensures)
