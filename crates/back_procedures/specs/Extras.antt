-- What bodies take behind their variables, in the words of the lowering.
use Rattle.back_lowering.specs.Program as lowering
use Rattle.back_procedures.specs.declared.extra.Extra.{Extra}
use Rattle.back_procedures.specs.declared.extra.Extra.TheVariants as extra

abbrev pub meant : Extra → lowering.Extra
meant extra.Nothing = lowering.nothing
meant extra.Method = lowering.its_method
meant extra.Itself = lowering.itself
