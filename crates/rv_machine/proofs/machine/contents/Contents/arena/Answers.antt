use Rattle.std.proofs.Common.{◌/◌, length, ap, sym, ◌∙◌}
use Rattle.rv_machine.specs.Held.{Held}
use Rattle.rv_machine.specs.Words.{words-count}
use Rattle.rv_machine.proofs.machine.contents.Contents.arena.Goals as goal

pub returns-clause-words : goal.returns-clause-words
returns-clause-words c =
    ap length c.as_slice.ensures.value
    ∙ (sym (words-count c.self.inside.arena.items) ∙ ap (λ (h : Held). length h.memory / 4) c.self.view_is)
