-- A routine that a form calls last: an end that is not its return passes.
use Rattle.std.proofs.Common.{◌≡◌, ℕ, List, [], ◌∷◌, Option, Some, None, refl, ap, ◌∙◌}
use Rattle.std.specs.Prelude.{slice_get}
use Rattle.mid_code.specs.declared.program.MidProcedure.{MidProcedure}
use Rattle.mid_code.specs.declared.operation.Callee.TheVariants.{Procedure}
use Rattle.mid_code.specs.Meaning.{Context, enter, count, called_from, exec, exec_step, with_callee}
use Rattle.mid_code.specs.Meaning.{called as mid_called}
use Rattle.mid_code.specs.State.{Registers, register, End, falls, returns, cuts, no_room, no_level, no_turn, halts, unhandled, exhausted, stuck, MidState, MidOutcome, Next, ends, with_some, with_registers}
use Rattle.mid_code.specs.State.{charged as mid_charged}
use Rattle.mid_arena.proofs.Running.{IsLast, some_found}
use Rattle.back_lowering.specs.Steps.{call}
use Rattle.back_relation.specs.Procedures.{called}

-- an end that passes a call
abbrev pub Passes : End → Type 0
Passes falls = ⊥
Passes (returns w) = ⊥
Passes other = Unit {0}

pub passes_last : (e : End) → Passes e → IsLast e
passes_last falls h = absurd h
passes_last (returns w) h = absurd h
passes_last (cuts n w) h = tt
passes_last (no_room asked left) h = tt
passes_last no_level h = tt
passes_last no_turn h = tt
passes_last (halts w) h = tt
passes_last (unhandled class site condition) h = tt
passes_last exhausted h = tt
passes_last stuck h = tt

pub called_passes : (q : MidOutcome) (d : ℕ) (rs : Registers) (e : End) → Passes e → q.end ≡ e → mid_called q d rs ≡ ends e rs q.state
unfolding mid_called
called_passes q d rs falls h same = absurd h
called_passes q d rs (returns w) h same = absurd h
called_passes q d rs (cuts n w) h same = ap (λ l. called_from l d rs q.state) same
called_passes q d rs (no_room asked left) h same = ap (λ l. called_from l d rs q.state) same
called_passes q d rs no_level h same = ap (λ l. called_from l d rs q.state) same
called_passes q d rs no_turn h same = ap (λ l. called_from l d rs q.state) same
called_passes q d rs (halts w) h same = ap (λ l. called_from l d rs q.state) same
called_passes q d rs (unhandled class site condition) h same = ap (λ l. called_from l d rs q.state) same
called_passes q d rs exhausted h same = ap (λ l. called_from l d rs q.state) same
called_passes q d rs stuck h same = ap (λ l. called_from l d rs q.state) same

module _ (c : Context) (regs : Registers) (y : MidState) (d number r1 r2 w1 w2 : ℕ) (e1 : register r1 regs ≡ Some w1) (e2 : register r2 regs ≡ Some w2) where
  abbrev paid : MidState
  paid = mid_charged 52 y

  abbrev entering : List ℕ → MidProcedure → Next
  entering vs p rs x = mid_called (count c p.counted (enter p vs) x) d rs

  found_or_not : (o : Option MidProcedure) → with_some o (entering (w1 ∷ w2 ∷ [])) regs paid ≡ mid_called (with_some o (λ p rs x. count c p.counted (enter p (w1 ∷ w2 ∷ [])) x) [] paid) d regs
  unfolding with_some mid_called
  found_or_not None = refl
  found_or_not (Some p) = refl

  -- a call with the words in two registers
  pub call_of_two : exec_step c (call d number (r1 ∷ r2 ∷ [])) regs y ≡ mid_called (called c number (w1 ∷ w2 ∷ []) paid) d regs
  unfolding exec with_registers
  call_of_two =
      some_found (λ v. with_registers (r2 ∷ []) (λ vs. with_callee c (Procedure number) (entering (v ∷ vs)))) regs paid e1
      ∙ some_found (λ v. with_callee c (Procedure number) (entering (w1 ∷ v ∷ []))) regs paid e2 ∙ found_or_not (slice_get c.procedures number)
