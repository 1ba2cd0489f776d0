-- An option and its value are added.
use Rattle.front_syntax.proofs.AskedNames.{pair_turn}
use Rattle.front_syntax.proofs.setters.add_by_options.Goals as goal

pub loop-left-preserved : goal.loop-left-preserved
loop-left-preserved c =
    let h = c.in_ok-add_by_option.ensures in
    pair_turn _ _ _ c.loop-left.left.now c.option-item.result c.value-item.result _ c.loop-left.invariant c.in-len2-up.len_at_least
    c.option-item.is c.value-item.is h.names h.given
