use Rattle.std.proofs.Common.{◌∙◌}
use Rattle.front_reader.proofs.Chaining.{chained-turn}
use Rattle.front_reader.proofs.chain.all_in_front.Goals as goal

pub loop-link-preserved : goal.loop-link-preserved
loop-link-preserved c = λ d.
    c.loop-link.invariant d
    ∙ chained-turn c.loop-link.links.items c.pop.new.self.items c.in-Some.link c.loop-link.items c.append_list.new.self d
    c.in-Some.ensures.items c.in_ok-append_list.ensures.ok
