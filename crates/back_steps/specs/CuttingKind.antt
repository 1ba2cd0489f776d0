-- The kind of lines that cut, as the law of their steps speaks of it.
use Rattle.mid_lines.specs.declared.line.Line.{Line}
use Rattle.mid_lines.specs.declared.line.Line.TheVariants.{Cut}

-- cuts
abbrev pub IsCut : Line → Type 0
IsCut (Cut block word) = Unit {0}
IsCut x = ⊥
