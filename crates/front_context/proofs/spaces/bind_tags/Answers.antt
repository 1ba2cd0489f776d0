-- One tag more in front.
use Rattle.std.proofs.Common.{◌≡◌, ◌+◌, ◌-◌, [], ◌++◌, length, drop, sym, ap, ◌∙◌, arith}
use Rattle.std.proofs.lemmas.List.{drop_all}
use Rattle.front_context.specs.Spaces.{targets}
use Rattle.front_context.proofs.Places.{front_target}
use Rattle.front_context.proofs.spaces.bind_tags.Goals as goal

pub loop-later-init : goal.loop-later-init
loop-later-init c =
    let ys = c.args.tags.now in
    let none : drop (length ys - 0) ys ≡ [] = drop_all (length ys - 0) ys (omega arith) in
    ap (λ zs. targets c.args.exit (length ys - 0 + 1) zs ++ c.args.names.now) (sym none)

pub loop-later-preserved : goal.loop-later-preserved
loop-later-preserved c =
    let ys = c.args.tags.now in
    front_target c.args.exit ys (length ys - c.loop-later.later) (length ys - (c.loop-later.later + 1)) _ _ c.loop-later.names c.bind.new.self c.args.names.now
    (omega (arith, c.loop-later-test.true)) (omega (arith, c.loop-later-test.true)) (omega (arith, c.loop-later-test.true))
    c.in_ok-bind.ensures.ok c.loop-later.invariant

pub returns : goal.returns
returns c =
    let ys = c.args.tags.now in
    c.loop-later.invariant
    ∙ (let none : length ys - c.loop-later.later ≡ 0 = omega (arith, c.loop-later-test.false) in
    ap (λ k. targets c.args.exit (k + 1) (drop k ys) ++ c.args.names.now) none)
