-- One word more.
use Rattle.std.proofs.Common.{◌≡◌, ℕ, ◌+◌, ◌*◌, ◌++◌, ap, sym, ◌∙◌, arith}
use Rattle.back_lowering.specs.Steps.{Steps, words_stored, store_far}
use Rattle.back_leaves.proofs.Stored.{stored_step}
use Rattle.back_leaves.proofs.registers.words_stored.Goals as goal

pub loop-i-preserved : goal.loop-i-preserved
loop-i-preserved c =
    let o : 4 * c.loop-i.i ≡ 0 + 4 * c.loop-i.i = omega arith in
    stored_step _ c.loop-i.code c.store_far.new.code c.args.count c.loop-i.i c.args.d c.args.base c.args.t 0
    c.loop-i-test.true c.loop-i.invariant
    (c.in_ok-store_far.ensures
    ∙ ap (λ (k : ℕ). c.loop-i.code ++ store_far (c.args.d + c.loop-i.i) c.args.base c.args.t k) o)
