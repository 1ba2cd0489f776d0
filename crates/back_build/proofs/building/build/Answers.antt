-- The image of what is left is one of the whole program; its words are those of what is left, and so no more than those of the whole.
use Rattle.std.proofs.lemmas.Result.{IfOk-weaker, IfErr-weaker}
use Rattle.back_build.specs.Faults.{Fails, FailsReached}
use Rattle.back_build.specs.declared.building.Built.{Built}
use Rattle.back_build.specs.Means.{IsBuilt}
use Rattle.back_build.specs.Reached.{IsSized, OfReached}
use Rattle.back_build.proofs.Left.{sized_whole, of_reached}
use Rattle.back_build.proofs.building.build.Goals as goal

pub returns-clause-image : goal.returns-clause-image
returns-clause-image c =
    IfOk-weaker c.build_whole-built.result (λ (b : Built). IsBuilt c.args.names.now c.in_ok-left.left b.symbols b.image)
    (λ (b : Built). IsBuilt c.args.names.now c.args.program.now b.symbols b.image)
    (λ b built. c.law_left.ensures c.args.names.now c.args.program.now c.in_ok-left.left c.in_ok-left.ensures.left c.in_ok-left.ensures.means b.symbols b.image built)
    c.build_whole-built.ensures.image

pub returns-clause-size : goal.returns-clause-size
returns-clause-size c =
    IfOk-weaker c.build_whole-built.result (λ (b : Built). IsSized b.image c.in_ok-left.left) (λ (b : Built). IsSized b.image c.args.program.now)
    (λ b sized. sized_whole c.args.names.now c.args.program.now c.in_ok-left.left b.image c.in_ok-left.ensures.left c.in_ok-left.ensures.nodes sized)
    c.build_whole-built.ensures.size

pub returns-clause-reached_size : goal.returns-clause-reached_size
returns-clause-reached_size c =
    IfOk-weaker c.build_whole-built.result (λ (b : Built). IsSized b.image c.in_ok-left.left) (λ (b : Built). OfReached c.args.names.now c.args.program.now (IsSized b.image))
    (λ b sized. (c.in_ok-left.left, c.in_ok-left.ensures.left, sized))
    c.build_whole-built.ensures.size

pub returns-clause-fault : goal.returns-clause-fault
returns-clause-fault c =
    IfErr-weaker c.build_whole-built.result (Fails c.args.names.now c.in_ok-left.left) (FailsReached c.args.names.now c.args.program.now)
    (λ e h. of_reached c.args.names.now c.args.program.now c.in_ok-left.left c.in_ok-left.ensures.left e h)
    c.build_whole-built.ensures.fault
