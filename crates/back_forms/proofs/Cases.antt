-- Codes of a switch, one after another.
use Rattle.std.proofs.Common.{◌≡◌, List, [], ◌∷◌, ◌++◌, refl, ap}
use Rattle.mid_code.specs.MidCode.{MidCodes, no_code, code_and, code_of}
use Rattle.mid_code.specs.declared.code.SwitchCase.{SwitchCase}
use Rattle.mid_code.specs.model.View.{codes_of}

-- these codes in front of others
abbrev pub codes_behind : List SwitchCase → MidCodes → MidCodes
codes_behind [] more = more
codes_behind (c ∷ cs) more = code_and (code_of c.code) (codes_behind cs more)

pub behind_none : (cs : List SwitchCase) → codes_behind cs no_code ≡ codes_of cs
behind_none [] = refl
behind_none (c ∷ cs) = ap (λ (m : MidCodes). code_and (code_of c.code) m) (behind_none cs)

pub behind_more : (cs : List SwitchCase) (c : SwitchCase) (more : MidCodes) → codes_behind (cs ++ c ∷ []) more ≡ codes_behind cs (code_and (code_of c.code) more)
behind_more [] c more = refl
behind_more (b ∷ cs) c more = ap (λ (m : MidCodes). code_and (code_of b.code) m) (behind_more cs c more)
