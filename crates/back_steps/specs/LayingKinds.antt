-- The kinds of lines that lay blocks, as the laws of their steps speak of them.
use Rattle.mid_lines.specs.declared.line.Line.{Line}
use Rattle.mid_lines.specs.declared.line.Line.TheVariants.{Lay, Lend}

-- control records that are laid
abbrev pub IsLay : Line → Type 0
IsLay (Lay block words landing) = Unit {0}
IsLay x = ⊥

-- blocks that are lent
abbrev pub IsLend : Line → Type 0
IsLend (Lend block words) = Unit {0}
IsLend x = ⊥
