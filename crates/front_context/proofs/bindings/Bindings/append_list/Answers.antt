-- Each namespace has what is bound.
use Rattle.std.proofs.Common.{sym, ap, ◌∙◌}
use Rattle.front_context.specs.Spaces.{no_names, spaces_of, with_all}
use Rattle.front_context.proofs.Places.{with_more}
use Rattle.front_context.proofs.bindings.Bindings.append_list.Goals as goal

pub invariant_of-self : goal.invariant_of-self
invariant_of-self c =
    c.in-Ok.ensures.spaces ∙ ap (with_all c.args.more) c.self.invariant ∙ sym (with_more c.self.inside.bound c.args.more no_names) ∙ ap spaces_of (sym c.in-Ok.ensures.bound)
