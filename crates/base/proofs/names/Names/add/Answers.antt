-- A text that is not there gets the number of texts before it.
use Rattle.std.proofs.Common.{◌≡◌, false, ap, ◌∙◌}
use Rattle.base.specs.Names.{has_text}
use Rattle.base.specs.NameNumbers.{text_pushed}
use Rattle.base.proofs.names.Names.add.Goals as goal

pub invariant_of-self-in-Ok-insert : goal.invariant_of-self-in-Ok-insert
invariant_of-self-in-Ok-insert c =
    let new : has_text c.self.inside.texts c.args.text.now ≡ false = ap (λ ts. has_text ts c.args.text.now) c.self.view_is ∙ c.requires.new in
    text_pushed c.self.inside.texts c.push.new.self c.self.inside.numbers.entries c.insert.new.self.entries
    c.in-Ok.key c.args.text.now c.in_ok-kept.kept c.len-number.result
    c.self.invariant new c.requires.short
    c.in-Ok.ensures.items c.in_ok-kept.ensures c.len-number.ensures c.in_ok-push.ensures.ok c.in-Ok-insert.ensures.entries
