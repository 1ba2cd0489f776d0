-- Each has its methods cut in its turn.
use Rattle.std.proofs.Common.{◌<◌, ◌∙◌, ap, arith, length, take}
use Rattle.std.proofs.lemmas.Option.{slice_get_within}
use Rattle.lang_dispatch.specs.Methods.{with_first_methods}
use Rattle.front_profile.specs.bridge.CutGenerics.{reach_enough, reach_taken, next_there, next_enough, one_cut, all_cut}
use Rattle.front_scope.proofs.mark.cut_generics.Goals as goal

pub cut-requires : goal.cut-requires
cut-requires c = omega (arith, c.len.ensures, reach_enough c.args.methods.now c.args.generics.now c.requires)

pub cut_methods-requires-clause-there : goal.cut_methods-requires-clause-there
cut_methods-requires-clause-there c =
    let there : c.loop-at.at < length c.args.methods.now = slice_get_within c.args.methods.now c.loop-at.at c.in-Some.len.now c.in-Some.ensures in
    rw c.loop-at.invariant
    (next_there c.loop-at.at c.args.methods.now (take (length c.args.methods.now) c.args.generics.now)
    (reach_taken c.args.methods.now c.args.generics.now c.requires) there)

pub cut_methods-requires-clause-enough : goal.cut_methods-requires-clause-enough
cut_methods-requires-clause-enough c =
    rw c.loop-at.invariant
    (next_enough c.loop-at.at c.args.methods.now (take (length c.args.methods.now) c.args.generics.now) c.in-Some.len.now
    (reach_taken c.args.methods.now c.args.generics.now c.requires) c.in-Some.ensures)

pub loop-at-preserved : goal.loop-at-preserved
loop-at-preserved c =
    c.cut_methods.ensures
    ∙ ap (λ gs. with_first_methods gs c.loop-at.at c.in-Some.len.now) c.loop-at.invariant
    ∙ one_cut c.loop-at.at c.args.methods.now (take (length c.args.methods.now) c.args.generics.now) c.in-Some.len.now
    (reach_taken c.args.methods.now c.args.generics.now c.requires) c.in-Some.ensures

pub returns : goal.returns
returns c =
    c.loop-at.invariant
    ∙ all_cut c.loop-at.at c.args.methods.now c.args.generics.now c.requires (omega (arith, c.loop-at-test.false, c.len-at-end.ensures, c.loop-at.auto.at-end))
