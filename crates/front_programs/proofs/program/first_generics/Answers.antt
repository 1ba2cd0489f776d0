-- There are as many generic functions as counts, and one more is copied in its turn.
use Rattle.std.proofs.Common.{◌++◌, ◌∷◌, [], ◌∙◌, ap, sym, take, arith}
use Rattle.std.proofs.lemmas.Option.{slice_get_within}
use Rattle.front_profile.specs.Cuts.{cut_generics}
use Rattle.front_profile.specs.bridge.CutGenerics.{reach_enough}
use Rattle.front_programs.proofs.Programs.{reach_at, cut_next}
use Rattle.front_programs.proofs.program.first_generics.Goals as goal

pub unreachable-requires-in_default-get : goal.unreachable-requires-in_default-get
unreachable-requires-in_default-get c =
    omega (
      arith,
      c.in_default-get.ensures,
      slice_get_within c.args.counts.now c.loop-at.at c.in-Some.count.now c.in-Some.ensures,
      reach_enough c.args.counts.now c.args.list.now c.requires,
    )

pub first_methods-requires : goal.first_methods-requires
first_methods-requires c =
    reach_at c.loop-at.at c.args.counts.now c.args.list.now c.in-Some.count.now c.in-Some-get.row.now c.requires c.in-Some.ensures c.in-Some-get.ensures

pub loop-at-preserved : goal.loop-at-preserved
loop-at-preserved c =
    c.in_ok-push.ensures.ok
    ∙ ap (λ gs. gs ++ c.in_ok-first_methods.field-0 ∷ []) c.loop-at.invariant
    ∙ ap (λ g. cut_generics (take c.loop-at.at c.args.counts.now) c.args.list.now ++ g ∷ []) c.in_ok-first_methods.ensures
    ∙ sym (cut_next c.loop-at.at c.args.counts.now c.args.list.now c.in-Some.count.now c.in-Some-get.row.now c.in-Some.ensures c.in-Some-get.ensures)
