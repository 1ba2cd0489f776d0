-- The numbers of traps.
use Rattle.std.specs.Prelude.{ℕ}
use Rattle.rv_machine.specs.declared.ending.TrapKind.{TrapKind}
use Rattle.rv_machine.specs.declared.ending.TrapKind.TheVariants.{FetchAddress, BadWord, LoadAddress, StoreAddress, BadCall, Break}

abbrev pub trap_number : TrapKind → ℕ
trap_number FetchAddress = 1
trap_number BadWord = 2
trap_number LoadAddress = 3
trap_number StoreAddress = 4
trap_number BadCall = 5
trap_number Break = 6
