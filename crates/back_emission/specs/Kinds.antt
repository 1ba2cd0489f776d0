-- The kinds of lines, as the laws of their steps speak of them.
use Rattle.mid_code.specs.declared.operation.Operation.TheVariants as operation
use Rattle.mid_lines.specs.declared.line.Line.{Line}
use Rattle.mid_lines.specs.declared.line.Line.TheVariants.{Do, Branch, Switch, Jump, Landed, GiveBack, GiveBackLent, Return, Halt, Unhandled}

-- moves, constants and computations
abbrev pub IsComputation : Line → Type 0
IsComputation (Do (operation.Move to from)) = Unit {0}
IsComputation (Do (operation.Constant to word)) = Unit {0}
IsComputation (Do (operation.Compute to which first second)) = Unit {0}
IsComputation x = ⊥

-- jumps, branches and switches
abbrev pub IsChoice : Line → Type 0
IsChoice (Branch test otherwise) = Unit {0}
IsChoice (Switch r targets) = Unit {0}
IsChoice (Jump to) = Unit {0}
IsChoice x = ⊥

-- the ends of activations, and of the run
abbrev pub IsEnd : Line → Type 0
IsEnd (Return r) = Unit {0}
IsEnd (Halt r) = Unit {0}
IsEnd (Unhandled class site condition) = Unit {0}
IsEnd x = ⊥

-- calls
abbrev pub IsCall : Line → Type 0
IsCall (Do (operation.Call to callee arguments)) = Unit {0}
IsCall x = ⊥

-- loads and stores
abbrev pub IsAccess : Line → Type 0
IsAccess (Do (operation.Load to base offset)) = Unit {0}
IsAccess (Do (operation.Store from base offset)) = Unit {0}
IsAccess x = ⊥

-- records and lent blocks that are given back
abbrev pub IsGivenBack : Line → Type 0
IsGivenBack (GiveBack words) = Unit {0}
IsGivenBack GiveBackLent = Unit {0}
IsGivenBack x = ⊥

-- bytes that are printed
abbrev pub IsPut : Line → Type 0
IsPut (Do (operation.Put from)) = Unit {0}
IsPut x = ⊥

-- heads of landings: only a cut leads behind them
abbrev pub IsLanding : Line → Type 0
IsLanding (Landed r) = Unit {0}
IsLanding x = ⊥
