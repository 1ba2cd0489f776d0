-- One more is made flat; and at the end all are.
use Rattle.std.proofs.Common.{◌≤◌, ap, ◌∙◌, length, arith}
use Rattle.flat_language.specs.Scope.{no_scope}
use Rattle.flat_language.specs.Flatten.{flat, functions, inner_procedures}
use Rattle.flat_language.specs.bridge.Counted.{all_counted}
use Rattle.flat_conversion.specs.Binders.{binders}
use Rattle.flat_conversion.specs.Places.{scope_of}
use Rattle.flat_conversion.proofs.Going.{gone_on, mains_so}
use Rattle.flat_conversion.proofs.Made.{seen_in}
use Rattle.flat_conversion.proofs.program.flat_mains.Goals as goal

pub loop-at-preserved : goal.loop-at-preserved
loop-at-preserved c =
    let f = c.in-Some.form.now in
    let table = c.args.binders.now in
    let made = c.in_ok-flat.ensures in
    record {
      alone = ap scope_of made.same ∙ c.loop-at.invariant.alone;
      going = gone_on (flat no_scope) (inner_procedures no_scope) functions binders table (all_counted no_scope) c.args.list.now c.args.progress.now c.loop-at.at c.loop-at.made c.loop-at.progress c.flat.new.progress f _ c.push.new.self
          c.loop-at.invariant.going c.in-Some.ensures c.in_ok-push.ensures.ok
          (seen_in (λ s n. flat s n f) (λ s n. inner_procedures s n f) (binders f) table no_scope _ _ _ _ _ c.loop-at.invariant.alone made);
    }

pub returns : goal.returns
returns c =
    let xs = c.args.list.now in
    let all : length xs ≤ c.loop-at.at = omega (arith, c.loop-at-test.false, c.len-at-end.ensures) in
    mains_so c.args.binders.now xs c.args.progress.now c.loop-at.at c.loop-at.made c.loop-at.progress c.loop-at.invariant.going all
