-- One number more.
use Rattle.std.proofs.Common.{refl, subst, sym, ◌∙◌}
use Rattle.top_made.specs.Text.{first_lines}
use Rattle.top_made.proofs.Filling.{no_lines, more_lines}
use Rattle.top_made.proofs.making.generate.Goals as goal

pub loop-at-init : goal.loop-at-init
loop-at-init c = c.in_ok-text.ensures ∙ no_lines first_lines

pub loop-at-preserved : goal.loop-at-preserved
loop-at-preserved c = more_lines first_lines _ _ c.loop-at.at _ refl c.loop-at.invariant c.in_ok-append_numbered.ensures
