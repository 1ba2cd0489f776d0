use Rattle.std.proofs.Common.{◌∙◌, ap, ◌%◌, ◌^◌}
use Rattle.base.specs.Arithmetic.{shifted_down, low_word, shift_right_signed}
use Rattle.rv_machine.proofs.Numbers.{shifted_low}
use Rattle.rv_machine.proofs.machine.arithmetic.shift_right_signed.Goals as goal

pub returns : goal.returns
unfolding shift_right_signed
returns c =
    shifted_low c.cast_signed.result (2 ^ (c.args.b % 32)) c.cast_unsigned.result c.cast_signed.type_inv c.cast_unsigned.ensures
    ∙ ap (λ z. low_word (shifted_down z (c.args.b % 32))) c.cast_signed.ensures
