-- The kinds of lines that ask for something, as the laws of their steps speak of them.
use Rattle.mid_code.specs.declared.operation.Operation.TheVariants as operation
use Rattle.mid_lines.specs.declared.line.Line.{Line}
use Rattle.mid_lines.specs.declared.line.Line.TheVariants.{Do}

-- bytes that are read
abbrev pub IsGet : Line → Type 0
IsGet (Do (operation.Get to)) = Unit {0}
IsGet x = ⊥

-- serial numbers that are drawn
abbrev pub IsDraw : Line → Type 0
IsDraw (Do (operation.Draw to base offset)) = Unit {0}
IsDraw x = ⊥

-- words that are requested
abbrev pub IsRequest : Line → Type 0
IsRequest (Do (operation.Request to words)) = Unit {0}
IsRequest x = ⊥
