-- One element after another, up to the end or a cons that was passed before.
use Rattle.std.proofs.Common.{◌≡◌, ◌∙◌, ℕ, suc, true, false, sym, ap, subst, arith}
use Rattle.eval_state.specs.Frames.{frame_slots}
use Rattle.eval_application.specs.Spreading.{IsSpread}
use Rattle.eval_application.proofs.Spreads.{one_spread, spread_ended, spread_repeated, spread_exhausted}
use Rattle.eval_application.proofs.spreading.push_unseen.Goals as goal

pub returns-then-contains : goal.returns-then-contains
returns-then-contains c =
    spread_repeated c.args.machine.now c.loop-count.machine c.args.list c.loop-count.left c.loop-count.count c.in_ok-limit.limit _ c.loop-count.invariant
    (λ names b. c.in_ok-limit.ensures ∙ ap suc (c.object_count.ensures names (record b { frame = frame_slots names c.args.machine.now.current c.args.machine.now.slots.items })))
    c.in-Cons.number c.in-Cons.car c.in-Cons.cdr (omega (arith, c.loop-count-test.true)) c.in-Cons.ensures (sym c.contains.ensures ∙ c.if-contains.true)

pub returns-in-End : goal.returns-in-End
returns-in-End c =
    spread_ended c.args.machine.now c.loop-count.machine c.args.list c.loop-count.left c.loop-count.count c.in_ok-limit.limit _ c.loop-count.invariant
    (λ names b. c.in_ok-limit.ensures ∙ ap suc (c.object_count.ensures names (record b { frame = frame_slots names c.args.machine.now.current c.args.machine.now.slots.items })))
    true (omega (arith, c.loop-count-test.true)) c.in-End.ensures

pub returns-in-NoList : goal.returns-in-NoList
returns-in-NoList c =
    spread_ended c.args.machine.now c.loop-count.machine c.args.list c.loop-count.left c.loop-count.count c.in_ok-limit.limit _ c.loop-count.invariant
    (λ names b. c.in_ok-limit.ensures ∙ ap suc (c.object_count.ensures names (record b { frame = frame_slots names c.args.machine.now.current c.args.machine.now.slots.items })))
    false (omega (arith, c.loop-count-test.true)) c.in-NoList.ensures

pub loop-count-preserved : goal.loop-count-preserved
loop-count-preserved c =
    one_spread c.args.machine.now c.loop-count.machine c.push_operand.new.self c.args.list c.loop-count.left c.in-Cons.car c.in-Cons.cdr c.loop-count.count c.in-Cons.number _ _ c.loop-count.invariant c.in-Cons.ensures
    (sym c.contains.ensures ∙ c.if-contains.false) c.in_ok-push_operand-in-Cons.ensures c.in_ok-insert-in-Cons.ensures.updates.0

pub returns : goal.returns
returns c =
    let e : c.loop-count.count ≡ c.in_ok-limit.limit = omega (arith, c.loop-count-test.false) in
    subst (λ (n : ℕ). IsSpread c.args.machine.now c.loop-count.machine c.args.list (record { count = n; proper = false })) e
    (spread_exhausted c.args.machine.now c.loop-count.machine c.args.list c.loop-count.left c.loop-count.count c.in_ok-limit.limit _ c.loop-count.invariant
    (λ names b. c.in_ok-limit.ensures ∙ ap suc (c.object_count.ensures names (record b { frame = frame_slots names c.args.machine.now.current c.args.machine.now.slots.items })))
    e)
