-- As many tags as were bound are released.
use Rattle.std.proofs.Common.{◌≡◌, List, ◌++◌, length, drop, sym, ap, ◌∙◌, arith}
use Rattle.std.proofs.lemmas.List.{length-append}
use Rattle.front_profile.specs.declared.bound.Target.{Target}
use Rattle.base.specs.declared.datum.Symbol.{Symbol}
use Rattle.front_context.specs.Spaces.{Spaces, targets, with_one}
use Rattle.front_context.proofs.Places.{as_many_targets, behind_targets}
use Rattle.front_context.proofs.spaces.Spaces.release.Goals as goal

abbrev with_tags : Spaces → List (Symbol × Target) → Spaces
with_tags s ts = record s { tags = ts }

pub release-requires-in-Tags : goal.release-requires-in-Tags
release-requires-in-Tags g c =
    let ys = c.in-Tags.tags in
    let same = c.self.view_is ∙ c.requires ∙ ap (λ b. with_one b g.before) c.in-Tags.is in
    omega (arith, c.len.ensures, ap (λ s. length s.tags) same, length-append (targets c.in-Tags.field-1 1 ys) g.before.tags, as_many_targets c.in-Tags.field-1 1 ys)

pub returns-in-Tags : goal.returns-in-Tags
returns-in-Tags g c =
    let ys = c.in-Tags.tags in
    let same = c.self.view_is ∙ c.requires ∙ ap (λ b. with_one b g.before) c.in-Tags.is in
    ap (with_tags (record { variables = c.self.inside.variables; functions = c.self.inside.functions; blocks = c.self.inside.blocks; tags = c.self.inside.tags })) c.release-in-Tags.ensures
    ∙ ap (λ s. with_tags s (drop c.len.result s.tags)) same
    ∙ ap (λ n. with_tags g.before (drop n (targets c.in-Tags.field-1 1 ys ++ g.before.tags))) c.len.ensures
    ∙ ap (with_tags g.before) (behind_targets c.in-Tags.field-1 1 ys g.before.tags)
