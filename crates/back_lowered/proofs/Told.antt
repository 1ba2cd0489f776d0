-- Which fault of a crate below is told as too large.
use Rattle.std.proofs.Common.{◌≡◌, refl, sym, subst}
use Rattle.std.specs.declared.result.Result.{Result}
use Rattle.std.specs.declared.result.Result.TheVariants.{Err}
use Rattle.std.specs.Result.{IsErrAnd}
use Rattle.mid_start.specs.declared.static_data.StaticDataFault.{StaticDataFault}
use Rattle.mid_start.specs.declared.static_data.StaticDataFault.TheVariants as data_fault
use Rattle.back_laying.specs.declared.faults.LayingFault.{LayingFault}
use Rattle.back_laying.specs.declared.faults.LayingFault.TheVariants as laying_fault
use Rattle.back_lowered.specs.declared.faults.LoweringFault.{LoweringFault}
use Rattle.back_lowered.specs.declared.faults.LoweringFault.TheVariants as fault
use Rattle.back_lowered.specs.Faults.{IsFaultOfData, IsFaultOfLaying}

of_data : (f : StaticDataFault) → IsFaultOfData f fault.TooLarge → f ≡ data_fault.TooLarge
of_data data_fault.NoMemory e = absurd (cc)
of_data data_fault.TooLarge e = refl

of_laying : (f : LayingFault) → IsFaultOfLaying f fault.TooLarge → f ≡ laying_fault.TooLarge
of_laying laying_fault.NoMemory e = absurd (cc)
of_laying laying_fault.TooLarge e = refl

pub told_of_data : {X : Type 0} (f : StaticDataFault) (r : Result X LoweringFault) → IsErrAnd r (IsFaultOfData f) → r ≡ Err fault.TooLarge
    → f ≡ data_fault.TooLarge
told_of_data f r is e = of_data f (subst (λ r. IsErrAnd r (IsFaultOfData f)) e is)

pub told_of_laying : {X : Type 0} (f : LayingFault) (r : Result X LoweringFault) → IsErrAnd r (IsFaultOfLaying f) → r ≡ Err fault.TooLarge
    → f ≡ laying_fault.TooLarge
told_of_laying f r is e = of_laying f (subst (λ r. IsErrAnd r (IsFaultOfLaying f)) e is)

pub told_of_own : {X : Type 0} (f : LoweringFault) (r : Result X LoweringFault) → IsErrAnd r (λ given. given ≡ f) → r ≡ Err fault.TooLarge
    → f ≡ fault.TooLarge
told_of_own f r is e = let same : fault.TooLarge ≡ f = subst (λ r. IsErrAnd r (λ given. given ≡ f)) e is in sym same
