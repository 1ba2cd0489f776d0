-- Which environment calls a step can be.
use Rattle.std.proofs.Common.{◌≡◌, ℕ, ◌<◌, Bool, true, false, List, Some, None, refl, subst, arith}
use Rattle.std.specs.Prelude.{Option, nat_lt, if◌then◌else◌}
use Rattle.std.proofs.lemmas.Bool.Decides.{nat_tests}
use Rattle.rv_encode.specs.declared.instruction.Instr.{Instr}
use Rattle.rv_encode.specs.declared.instruction.Instr.TheVariants.{Beq, Bne, Blt, Bge, Bltu, Bgeu, Lb, Lh, Lw, Lbu, Lhu, Sb, Sh, Sw, Ecall, Ebreak}
use Rattle.rv_machine.specs.declared.ending.TrapKind.TheVariants.{BadCall}
use Rattle.rv_machine.specs.declared.ending.StepEnd.{StepEnd}
use Rattle.rv_machine.specs.declared.ending.StepEnd.TheVariants.{Call}
use Rattle.rv_machine.specs.State.{State, Counted, register}
use Rattle.rv_machine.specs.Step.{next, environment_call, trapped, branch, load, store, execute, ResultIs}

next-none : (s : State) (w : ℕ) → next s ≡ environment_call w → w < 5
next-none s w e = absurd (cc)

branch-none : (taken : Bool) (offset w : ℕ) (s : State) → branch taken offset s ≡ environment_call w → w < 5
branch-none true offset w s e = next-none _ w e
branch-none false offset w s e = next-none _ w e

load-none : (rd w : ℕ) (found : Option ℕ) (s : State) → load rd found s ≡ environment_call w → w < 5
load-none rd w None s e = absurd (cc)
load-none rd w (Some value) s e = next-none _ w e

store-none : (w : ℕ) (stored : Option (List ℕ)) (s : State) → store stored s ≡ environment_call w → w < 5
store-none w None s e = absurd (cc)
store-none w (Some memory) s e = next-none _ w e

chosen : (test : Bool) (which w pc : ℕ) → nat_lt which 5 ≡ test → (if test then environment_call which else trapped BadCall pc) ≡ environment_call w → w < 5
chosen true which w pc t e = let same : which ≡ w = cc in let below : which < 5 = grind (arith, nat_tests) in omega arith
chosen false which w pc t e = absurd (cc)

-- a row that is a call is one of five
pub one_of_five : (i : Instr) (s : State) (w : ℕ) → execute i s ≡ environment_call w → w < 5
one_of_five (Beq rs1 rs2 offset) s w e = branch-none _ offset w s e
one_of_five (Bne rs1 rs2 offset) s w e = branch-none _ offset w s e
one_of_five (Blt rs1 rs2 offset) s w e = branch-none _ offset w s e
one_of_five (Bge rs1 rs2 offset) s w e = branch-none _ offset w s e
one_of_five (Bltu rs1 rs2 offset) s w e = branch-none _ offset w s e
one_of_five (Bgeu rs1 rs2 offset) s w e = branch-none _ offset w s e
one_of_five (Lb rd rs1 offset) s w e = load-none _ w _ s e
one_of_five (Lh rd rs1 offset) s w e = load-none _ w _ s e
one_of_five (Lw rd rs1 offset) s w e = load-none _ w _ s e
one_of_five (Lbu rd rs1 offset) s w e = load-none _ w _ s e
one_of_five (Lhu rd rs1 offset) s w e = load-none _ w _ s e
one_of_five (Sb rs2 rs1 offset) s w e = store-none w _ s e
one_of_five (Sh rs2 rs1 offset) s w e = store-none w _ s e
one_of_five (Sw rs2 rs1 offset) s w e = store-none w _ s e
one_of_five Ecall s w e = chosen (nat_lt (register s 17) 5) (register s 17) w s.pc refl e
one_of_five Ebreak s w e = absurd (cc)
one_of_five other s w e = next-none _ w e

-- so is a call that a step answers
pub answered : (i : Instr) (old new : Counted) (end : StepEnd) (w : ℕ) → ResultIs (execute i old.state) old end new → end ≡ Call w → w < 5
answered i old new end w does e =
    let here : ResultIs (execute i old.state) old (Call w) new = subst (λ (x : StepEnd). ResultIs (execute i old.state) old x new) e does in
    one_of_five i old.state w here.0
