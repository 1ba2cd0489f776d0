-- **A procedure that is entered**: its frame is laid, and its body runs from where all words are as they were. What the body comes to is what the
-- call comes to.
use Rattle.std.specs.Prelude.{◌≡◌, ℕ, zero, suc, ◌+◌, ◌<◌, ◌≤◌, List, Some, length, slice_get}
use Rattle.lang_meaning.specs.State.{DynamicContext, more}
use Rattle.flat_language.specs.declared.program.FlatProcedure.{FlatProcedure}
use Rattle.flat_language.specs.FlatState.{FlatState, FlatEvaluated}
use Rattle.mid_code.specs.declared.operation.Counted.TheVariants.{Level, Turn}
use Rattle.mid_code.specs.declared.program.MidProcedure.{MidProcedure}
use Rattle.mid_code.specs.Arena.{stack_from, left, word_at}
use Rattle.mid_code.specs.Costs.{entry_cost}
use Rattle.mid_code.specs.Meaning.{Context, exec}
use Rattle.mid_code.specs.MidCode.{code_of}
use Rattle.mid_code.specs.State.{first_registers, MidState}
use Rattle.mid_arena.specs.Growing.{Grows}
use Rattle.back_lowering.specs.Placement.{entry_of_lambda, body_of_procedure, routines_from}
use Rattle.back_lowering.specs.Program.{itself, extra_of, entry, body_of, routines, lowered}
use Rattle.back_relation.specs.Setting.{Setting}
use Rattle.back_relation.specs.Placed.{IsPlaced}
use Rattle.back_relation.specs.Worlds.{World, Standing}
use Rattle.back_relation.specs.Things.{Things}
use Rattle.back_relation.specs.Around.{AroundStands, CallBegins}
use Rattle.back_relation.specs.Ends.{RoomEnded, CallEnds}
use Rattle.back_relation.specs.Forms.{code_at}
use Rattle.back_relation.specs.Procedures.{called}
use Rattle.back_relation.specs.Starts.{FlatGrown}

-- where the body of a procedure begins behind y: so many words of the stack are left for it, all words are as they were, and the entry was paid
pub record Inside (setting : Setting) (rs valid : List Standing) (room paid : ℕ) (w : World) (around : DynamicContext) (z : FlatState) (y y' : MidState) : Type 0 where
  pub call : CallBegins setting rs valid room w around z y'
  pub words : (x : ℕ) → word_at y'.arena x ≡ word_at y.arena x
  pub grows : Grows y.arena y'.arena
  pub heap : y'.arena.heap_to ≡ y.arena.heap_to
  pub from : stack_from y'.arena ≤ stack_from y.arena
  pub cost : y'.cost ≡ y.cost + paid

-- The same where nothing is known of the room: of the words that were left at most the frame is gone.
pub record InsideFrame (setting : Setting) (rs valid : List Standing) (frame paid : ℕ) (w : World) (around : DynamicContext) (z : FlatState) (y y' : MidState) : Type 0 where
  pub things : Things setting w z y'
  pub around_stands : AroundStands setting w rs valid around z y'
  pub words : (x : ℕ) → word_at y'.arena x ≡ word_at y.arena x
  pub grows : Grows y.arena y'.arena
  pub heap : y'.arena.heap_to ≡ y.arena.heap_to
  pub from : stack_from y'.arena ≤ stack_from y.arena
  pub left_here : left y.arena ≤ left y'.arena + frame
  pub cost : y'.cost ≡ y.cost + paid

module _ (setting : Setting) where
  -- what is to be shown of the body of a procedure, in its context
  abbrev pub BodyComes :
      Context → MidProcedure → (credit m room : ℕ) → List ℕ → (rs valid : List Standing) → World → DynamicContext → FlatState → MidState → FlatEvaluated → Type 0
  BodyComes c p credit m room ws rs valid w around z y r =
      (y' : MidState) → Inside setting rs valid room (entry_cost p.parameters) w around z y y'
      → CallEnds setting credit m rs valid w around z y' r (exec c (code_of p.body) (first_registers p.registers ws) y')

  -- A procedure that counts a turn. `room` words are left for it, of which `inside` are left in its body, and at least so many turns as m says, but for
  -- a few, are what the meaning has to use up.
  abbrev pub LawOfTurns : Type 0
  LawOfTurns =
      (k turns number m room inside credit : ℕ) (p : MidProcedure) (ws : List ℕ) (rs valid : List Standing) (w : World) (around : DynamicContext) (z : FlatState) (y : MidState)
      (r : FlatEvaluated)
      → slice_get (lowered setting.names setting.at setting.program) number ≡ Some p → p.counted ≡ Turn → length ws ≡ p.parameters → p.frame + inside ≤ room
      → m ≤ turns + 50 → FlatGrown z r.state → CallBegins setting rs valid room w around z y
      → ((n : ℕ) → turns ≡ suc n → BodyComes (code_at setting k n) p credit m inside ws rs valid w around z y r)
      → CallEnds setting (credit + entry_cost p.parameters) m rs valid w around z y r (called (code_at setting k turns) number ws y)

  -- one that counts a level, which has all turns
  abbrev pub LawOfEnteredLevels : Type 0
  LawOfEnteredLevels =
      (k turns number m room inside credit : ℕ) (p : MidProcedure) (ws : List ℕ) (rs valid : List Standing) (w : World) (around : DynamicContext) (z : FlatState) (y : MidState)
      (r : FlatEvaluated)
      → slice_get (lowered setting.names setting.at setting.program) number ≡ Some p → p.counted ≡ Level → length ws ≡ p.parameters → p.frame + inside ≤ room
      → FlatGrown z r.state → CallBegins setting rs valid room w around z y → (k ≡ zero → r.outcome ≡ more)
      → ((j : ℕ) → k ≡ suc j → BodyComes (code_at setting j setting.turns_each) p credit m inside ws rs valid w around z y r)
      → CallEnds setting (credit + entry_cost p.parameters) m rs valid w around z y r (called (code_at setting k turns) number ws y)

  -- A procedure that counts a turn, whose frame the meaning pays inside: where it is not left, the meaning has no words.
  abbrev pub LawOfPaidTurns : Type 0
  LawOfPaidTurns =
      (k turns number m credit : ℕ) (p : MidProcedure) (ws : List ℕ) (rs valid : List Standing) (w : World) (around : DynamicContext) (z : FlatState) (y : MidState) (r : FlatEvaluated)
      → slice_get (lowered setting.names setting.at setting.program) number ≡ Some p → p.counted ≡ Turn → length ws ≡ p.parameters → m ≤ turns + 50 → FlatGrown z r.state
      → Things setting w z y → AroundStands setting w rs valid around z y → (left y.arena < p.frame → RoomEnded setting setting.limit r.outcome)
      → ((n : ℕ) → turns ≡ suc n → (y' : MidState) → InsideFrame setting rs valid p.frame (entry_cost p.parameters) w around z y y'
      → CallEnds setting credit m rs valid w around z y' r (exec (code_at setting k n) (code_of p.body) (first_registers p.registers ws) y'))
      → CallEnds setting (credit + entry_cost p.parameters) m rs valid w around z y r (called (code_at setting k turns) number ws y)

  -- which procedures are entered by which numbers
  pub record LawOfNumbers : Type 0 where
    pub routine :
        (i : ℕ) (p : MidProcedure) → IsPlaced setting → slice_get (routines setting.names setting.at setting.program) i ≡ Some p
        → slice_get (lowered setting.names setting.at setting.program) (routines_from setting.at + i) ≡ Some p
    pub entry_of :
        (i : ℕ) (q : FlatProcedure) → IsPlaced setting → slice_get setting.program.procedures i ≡ Some q
        → slice_get (lowered setting.names setting.at setting.program) i
        ≡ Some (entry setting.names setting.at setting.program (body_of_procedure setting.at i) (extra_of setting.names setting.at setting.program i) q)
    pub lambda_entry_of :
        (i : ℕ) (q : FlatProcedure) → IsPlaced setting → slice_get setting.program.lambdas i ≡ Some q
        → slice_get (lowered setting.names setting.at setting.program) (entry_of_lambda setting.at i)
        ≡ Some (entry setting.names setting.at setting.program (body_of_procedure setting.at (entry_of_lambda setting.at i)) itself q)
    pub body :
        (i : ℕ) (q : FlatProcedure) → IsPlaced setting → slice_get setting.program.procedures i ≡ Some q
        → slice_get (lowered setting.names setting.at setting.program) (body_of_procedure setting.at i)
        ≡ Some (body_of setting.names setting.at setting.program (extra_of setting.names setting.at setting.program i) q)
    pub lambda_body :
        (i : ℕ) (q : FlatProcedure) → IsPlaced setting → slice_get setting.program.lambdas i ≡ Some q
        → slice_get (lowered setting.names setting.at setting.program) (body_of_procedure setting.at (entry_of_lambda setting.at i))
        ≡ Some (body_of setting.names setting.at setting.program itself q)
