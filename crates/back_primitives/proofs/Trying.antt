-- Steps that try something: it is done, and its word stands in the first register, or the registers of the arguments are as they were. A register
-- behind them says which.
use Rattle.std.proofs.Common.{◌≡◌, ℕ, ◌+◌, ◌≤◌, Bool, true, false, [], ◌∷◌, Option, Some, None, sym, ap, subst, arith}
use Rattle.std.specs.Prelude.{◌==◌, not, if◌then◌else◌}
use Rattle.mid_code.specs.declared.operation.Comparison.{Comparison}
use Rattle.mid_code.specs.declared.operation.Comparison.TheVariants.{Different}
use Rattle.mid_code.specs.Meaning.{Context}
use Rattle.mid_code.specs.MidCode.{MidStep, code_of}
use Rattle.mid_code.specs.State.{Registers, register, falls, ends, MidState}
use Rattle.mid_code.specs.State.{charged as mid_charged}
use Rattle.mid_code.specs.Words.{compares}
use Rattle.mid_arena.proofs.Running.{RunsTo, StepsTo, and_then, none_left, costing, choose_first_falls, choose_second_falls}
use Rattle.back_lowering.specs.Steps.{Steps, where_so, if_likely_equal}
use Rattle.back_primitives.proofs.Choosing.{Beside, beside_none, beside_less, beside_then, other_way}

-- what is tried has a word, or not
abbrev pub IsKept : (d t : ℕ) → (regs regs' : Registers) → Option ℕ → Type 0
IsKept d t regs regs' None = Beside (d + 2) regs regs' × (register t regs' ≡ Some 1)
IsKept d t regs regs' (Some w) = Beside d regs regs' × (register d regs' ≡ Some w) × (register t regs' ≡ Some 0)

pub record Tried (c : Context) (d t : ℕ) (regs : Registers) (y : MidState) (most : ℕ) (code : Steps) (o : Option ℕ) : Type 0 where
  pub regs' : Registers
  pub cost : ℕ
  pub run : RunsTo c (code_of code) regs y (ends falls regs' (mid_charged cost y))
  pub within : cost ≤ most
  pub kept : IsKept d t regs regs' o

module _ (c : Context) (d t : ℕ) where
  -- nothing is done
  pub tried_none : (regs : Registers) (y : MidState) (most : ℕ) → register t regs ≡ Some 1 → Tried c d t regs y most [] None
  tried_none regs y most flag = record {
    regs' = regs;
    cost = 0;
    run = costing {n = y.cost + 0} none_left (omega arith);
    within = omega arith;
    kept = (beside_none (d + 2) regs, flag);
  }

  later_kept : (regs regs1 regs' : Registers) (o : Option ℕ) → Beside (d + 2) regs regs1 → IsKept d t regs1 regs' o → IsKept d t regs regs' o
  later_kept regs regs1 regs' None b k = (beside_then b k.0, k.1)
  later_kept regs regs1 regs' (Some w) b k = (beside_then (beside_less {regs' = regs1} (omega arith) b) k.0, k.1, k.2)

  -- a step in front that sets registers
  pub tried_behind :
      {o : Option ℕ} {most whole : ℕ} (s : MidStep) (code : Steps) (n : ℕ) (regs regs1 : Registers) (y : MidState)
      → StepsTo c s regs y (ends falls regs1 (mid_charged n y)) → Beside (d + 2) regs regs1 → n + most ≤ whole → Tried c d t regs1 (mid_charged n y) most code o
      → Tried c d t regs y whole (s ∷ code) o
  tried_behind {o} {most} {whole} s code n regs regs1 y g b enough h = record {
    regs' = h.regs';
    cost = n + h.cost;
    run = costing {n = y.cost + (n + h.cost)} (and_then g h.run) (omega arith);
    within = let few = h.within in omega (arith, few, enough);
    kept = later_kept regs regs1 h.regs' o b h.kept;
  }

  -- one or the other
  pub tried_where :
      {o : Option ℕ} {most whole : ℕ} (how : Comparison) (p q v w : ℕ) (first second : Steps) (b : Bool) (regs : Registers) (y : MidState)
      → register p regs ≡ Some v → register q regs ≡ Some w → compares how v w ≡ b → most + 14 ≤ whole
      → Tried c d t regs (mid_charged 12 y) most (if b then first else second) o → Tried c d t regs y whole (where_so how p q first second ∷ []) o
  tried_where how p q v w first second true regs y e f so enough h = record {
    regs' = h.regs';
    cost = 12 + h.cost + 2;
    run = costing {n = y.cost + (12 + h.cost + 2)} (and_then (choose_first_falls e f so h.run) none_left) (omega arith);
    within = let few = h.within in omega (arith, few, enough);
    kept = h.kept;
  }
  tried_where how p q v w first second false regs y e f so enough h = record {
    regs' = h.regs';
    cost = 12 + h.cost + 2;
    run = costing {n = y.cost + (12 + h.cost + 2)} (and_then (choose_second_falls e f so h.run) none_left) (omega arith);
    within = let few = h.within in omega (arith, few, enough);
    kept = h.kept;
  }

  -- the same where the likely one stands second
  pub tried_likely :
      {o : Option ℕ} {most whole : ℕ} (p q v w : ℕ) (likely other : Steps) (b : Bool) (regs : Registers) (y : MidState)
      → register p regs ≡ Some v → register q regs ≡ Some w → (v == w) ≡ b → most + 14 ≤ whole
      → Tried c d t regs (mid_charged 12 y) most (if b then likely else other) o → Tried c d t regs y whole (if_likely_equal p q likely other ∷ []) o
  tried_likely {o} {most} p q v w likely other b regs y e f so enough h =
      tried_where {most = most} Different p q v w other likely (not b) regs y e f (ap not so) enough
      (subst (λ ss. Tried c d t regs (mid_charged 12 y) most ss o) (sym (other_way b likely other)) h)
