-- What a step comes to, by what its instruction does once all that it reads is worked out.
use Rattle.rv_machine.specs.declared.machine.effects.Effect.{Effect}
use Rattle.rv_machine.specs.declared.machine.effects.Effect.TheVariants.{Gives, Link, Branch, Load, StoreByte, StoreHalf, StoreWord, Nothing, Call, Break}
use Rattle.rv_machine.specs.declared.ending.TrapKind.TheVariants.{Break as BreakTrap}
use Rattle.rv_machine.specs.State.{State, register}
use Rattle.rv_machine.specs.Memory.{stored_at}
use Rattle.rv_machine.specs.Step.{Result, next, trapped, behind, gives, link, branch, load, store, call}

abbrev pub result_of : Effect → State → Result
result_of (Gives rd value) s = gives rd value s
result_of (Link rd target) s = link rd target s
result_of (Branch taken offset) s = branch taken offset s
result_of (Load rd found) s = load rd found s
result_of (StoreByte address value) s = store (stored_at 1 address value s.memory) s
result_of (StoreHalf address value) s = store (stored_at 2 address value s.memory) s
result_of (StoreWord address value) s = store (stored_at 4 address value s.memory) s
result_of Nothing s = next (behind s)
result_of Call s = call (register s 17) s
result_of Break s = trapped BreakTrap s.pc
