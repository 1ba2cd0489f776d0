-- What the faults of the crates below are called here.
use Rattle.std.specs.Prelude.{◌≡◌}
use Rattle.mid_start.specs.declared.static_data.StaticDataFault.{StaticDataFault}
use Rattle.mid_start.specs.declared.static_data.StaticDataFault.TheVariants as data_fault
use Rattle.back_laying.specs.declared.faults.LayingFault.{LayingFault}
use Rattle.back_laying.specs.declared.faults.LayingFault.TheVariants as laying_fault
use Rattle.back_lowered.specs.declared.faults.LoweringFault.{LoweringFault}
use Rattle.back_lowered.specs.declared.faults.LoweringFault.TheVariants as fault

abbrev pub IsFaultOfData : StaticDataFault → LoweringFault → Type 0
IsFaultOfData data_fault.NoMemory e = e ≡ fault.NoMemory
IsFaultOfData data_fault.TooLarge e = e ≡ fault.TooLarge

abbrev pub IsFaultOfLaying : LayingFault → LoweringFault → Type 0
IsFaultOfLaying laying_fault.NoMemory e = e ≡ fault.NoMemory
IsFaultOfLaying laying_fault.TooLarge e = e ≡ fault.TooLarge
