-- The innermost thing is taken away from its namespace.
use Rattle.std.proofs.Common.{◌-◌, sym, ap, ◌∙◌, length, arith}
use Rattle.front_context.specs.Spaces.{spaces_of}
use Rattle.front_context.proofs.Places.{last_bound, last_gone}
use Rattle.front_context.proofs.bindings.Bindings.release_last.Goals as goal

pub release-requires : goal.release-requires
release-requires c =
    last_bound c.self.inside.bound c.self.inside.spaces (c.len-last.result - 1) c.in-Some.one.now
    (omega (arith, c.len-last.ensures, c.requires, ap length c.self.view_is)) c.in-Some.ensures c.self.invariant

pub invariant_of-self : goal.invariant_of-self
invariant_of-self c =
    last_gone c.self.inside.bound c.self.inside.spaces c.release.new.self (c.len-last.result - 1) c.in-Some.one.now
    (omega (arith, c.len-last.ensures, c.requires, ap length c.self.view_is)) c.in-Some.ensures c.self.invariant c.release.ensures
    ∙ ap spaces_of (sym c.cut.ensures)
