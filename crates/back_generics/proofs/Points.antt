-- From one point of a routine's body to another: straight steps, and branches that the rest of the body is in.
use Rattle.std.proofs.Common.{◌≡◌, ℕ, ◌+◌, ◌≤◌, List, ◌∷◌, Bool, true, false, Some, refl, sym, ap, ◌∙◌, subst, arith}
use Rattle.std.specs.Prelude.{if◌then◌else◌}
use Rattle.lang_meaning.specs.State.{DynamicContext, Limit, words, unlimited}
use Rattle.flat_language.specs.FlatState.{FlatState, FlatEvaluated}
use Rattle.mid_code.specs.declared.operation.Test.{Test}
use Rattle.mid_code.specs.Law.{Grown}
use Rattle.mid_code.specs.Meaning.{exec}
use Rattle.mid_code.specs.MidCode.{choose, code_of}
use Rattle.mid_code.specs.State.{Registers, register, falls, ends, jumped, MidState, MidOutcome}
use Rattle.mid_code.specs.State.{charged as mid_charged, go_on as mid_go_on}
use Rattle.mid_code.specs.Words.{compares}
use Rattle.mid_code.proofs.Growth.{charged_grown, exec_grown, levels_grow, turns_grow}
use Rattle.mid_arena.proofs.Running.{choose_first, choose_second}
use Rattle.back_lowering.specs.Steps.{Steps}
use Rattle.back_relation.specs.Setting.{Setting}
use Rattle.back_relation.specs.Worlds.{World, Standing}
use Rattle.back_relation.specs.Things.{Things}
use Rattle.back_relation.specs.Around.{RoomFor}
use Rattle.back_relation.specs.Ends.{CallEnds}
use Rattle.back_relation.specs.Forms.{code_at}
use Rattle.back_relation.proofs.Parts.{step_then}
use Rattle.back_relation.proofs.Straight.{world_cost, around_cost}
use Rattle.back_calling.proofs.Inner.{going_on_law, passing_law}

-- one of two that a test tells
pub second_of : {X : Type 0} (x y : X) {b : Bool} → b ≡ false → (if b then x else y) ≡ y
second_of x y e = ap (λ b. if b then x else y) e

pub first_one : {X : Type 0} (x y : X) {b : Bool} → b ≡ true → (if b then x else y) ≡ x
first_one x y e = ap (λ b. if b then x else y) e

-- where there is room for more words, there is for fewer
pub fewer_room : (l : Limit) (m m' : ℕ) (z : FlatState) (y : MidState) → m' ≤ m → RoomFor l m z.state y → RoomFor l m' z.state y
fewer_room unlimited m m' z y few h = tt
fewer_room (words n) m m' z y few h = omega (arith, h, few)

pub steps_grown : (setting : Setting) (k n : ℕ) (ss : Steps) (g : Registers) (x : MidState) → Grown x (exec (code_at setting k n) (code_of ss) g x).state
steps_grown setting k n ss g x =
    exec_grown (code_at setting k n) (levels_grow setting.procedures setting.turns_each k)
    (turns_grow setting.procedures _ (levels_grow setting.procedures setting.turns_each k) n) (code_of ss) g x

module _ (setting : Setting) (k n m : ℕ) (rs valid : List Standing) (w : World) (around : DynamicContext) (z : FlatState) (r : FlatEvaluated) where
  abbrev pub Comes : (credit : ℕ) → MidState → MidOutcome → Type 0
  Comes credit y q = CallEnds setting credit m rs valid w around z y r q

  -- **straight steps**
  pub straight :
      (p c2 : ℕ) {credit : ℕ} {y : MidState} {q q' : MidOutcome} → p + c2 ≤ credit → Things setting w z y → q ≡ q' → Comes c2 (mid_charged p y) q' → Comes credit y q
  straight p c2 {credit} {y} {q} {q'} enough t same h =
      subst (λ o. Comes credit y o) (sym same)
      (going_on_law setting p c2 credit m m rs valid w w around z z y (mid_charged p y) r q' (world_cost setting p t) (around_cost setting {credit = p} z y p (omega arith)) enough (omega arith) refl h)

  -- what a branch comes to, the code comes to
  pub branch : {credit : ℕ} {y : MidState} {q : MidOutcome} (ss : Steps) → Comes credit y q → Comes credit y (mid_go_on (jumped q) (λ g x. exec (code_at setting k n) (code_of ss) g x))
  branch {credit} {y} {q} ss h =
      passing_law setting credit m rs valid w around z y r (jumped q) (λ g x. exec (code_at setting k n) (code_of ss) g x) (λ g x. steps_grown setting k n ss g x)
      (passing_law setting credit m rs valid w around z y r q (λ g x. ends falls g (mid_charged 2 x)) (λ g x. charged_grown 2 x) h)

  -- **the first branch, or the second**
  pub first_branch :
      (c2 : ℕ) {credit : ℕ} {a b : ℕ} (t : Test) (first second ss : Steps) (regs : Registers) (y : MidState) → 12 + c2 ≤ credit → Things setting w z y
      → register t.first regs ≡ Some a → register t.second regs ≡ Some b → compares t.comparison a b ≡ true
      → Comes c2 (mid_charged 12 y) (exec (code_at setting k n) (code_of first) regs (mid_charged 12 y))
      → Comes credit y (exec (code_at setting k n) (code_of (choose t (code_of first) (code_of second) ∷ ss)) regs y)
  first_branch c2 t first second ss regs y enough things e f so h =
      straight 12 c2 enough things
      (step_then (code_at setting k n) (choose t (code_of first) (code_of second)) ss regs y
      ∙ ap (λ q. mid_go_on q (λ g x. exec (code_at setting k n) (code_of ss) g x)) (choose_first e f so (record { same = refl })).same)
      (branch ss h)

  pub second_branch :
      (c2 : ℕ) {credit : ℕ} {a b : ℕ} (t : Test) (first second ss : Steps) (regs : Registers) (y : MidState) → 12 + c2 ≤ credit → Things setting w z y
      → register t.first regs ≡ Some a → register t.second regs ≡ Some b → compares t.comparison a b ≡ false
      → Comes c2 (mid_charged 12 y) (exec (code_at setting k n) (code_of second) regs (mid_charged 12 y))
      → Comes credit y (exec (code_at setting k n) (code_of (choose t (code_of first) (code_of second) ∷ ss)) regs y)
  second_branch c2 t first second ss regs y enough things e f so h =
      straight 12 c2 enough things
      (step_then (code_at setting k n) (choose t (code_of first) (code_of second)) ss regs y
      ∙ ap (λ q. mid_go_on q (λ g x. exec (code_at setting k n) (code_of ss) g x)) (choose_second e f so (record { same = refl })).same)
      (branch ss h)
