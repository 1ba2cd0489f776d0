-- One word more.
use Rattle.std.proofs.Common.{◌≡◌, ℕ, ◌+◌, ◌*◌, ◌++◌, ap, ◌∙◌, arith}
use Rattle.back_lowering.specs.Steps.{load_far}
use Rattle.back_procedures.proofs.Walking.{loaded_step}
use Rattle.back_procedures.proofs.entries.words_loaded.Goals as goal

pub loop-i-preserved : goal.loop-i-preserved
loop-i-preserved c =
    let o : 4 * c.loop-i.i ≡ 0 + 4 * c.loop-i.i = omega arith in
    loaded_step _ c.loop-i.code c.load_far.new.code c.args.count c.loop-i.i c.args.d c.args.base 0
    c.loop-i-test.true c.loop-i.invariant
    (c.in_ok-load_far.ensures
    ∙ ap (λ (k : ℕ). c.loop-i.code ++ load_far (c.args.d + c.loop-i.i) c.args.base (c.args.d + c.loop-i.i) k) o)
