-- Each line is of a kind whose steps are matched.
use Rattle.std.proofs.Common.{◌≡◌, ℕ, List, refl, ap, arith, Some, None}
use Rattle.std.specs.Prelude.{Option, Bool, true}
use Rattle.rv_machine.specs.Run.{Moment}
use Rattle.mid_code.specs.declared.operation.Operation.{Operation}
use Rattle.mid_code.specs.declared.operation.Operation.TheVariants as operation
use Rattle.mid_code.specs.Arena.{Block}
use Rattle.mid_code.specs.State.{Registers, MidState}
use Rattle.mid_lines.specs.declared.line.Line.{Line}
use Rattle.mid_lines.specs.declared.line.Line.TheVariants.{Do, Branch, Switch, Jump, Lay, Landed, GiveBack, Lend, GiveBackLent, Return, Cut, Halt, Unhandled}
use Rattle.mid_lines.specs.declared.line.LineProgram.{LineProgram}
use Rattle.mid_lines.specs.Lines.{line_of}
use Rattle.mid_lines.specs.LinesChecked.{is_checked_line_program}
use Rattle.mid_lines.specs.LineMeaning.{Activation, Caller, running, entering, ended, do_line}
use Rattle.back_places.specs.declared.place.Place.{Place}
use Rattle.back_places.specs.Places.{Located}
use Rattle.back_places.specs.Good.{IsGood}
use Rattle.back_places.specs.Relation.{Relates}
use Rattle.back_places.specs.StepLaw.{Follows, Known, LawOfSteps}
use Rattle.back_emission.proofs.Coming.{stays}
use Rattle.back_emission.proofs.Steps.{nothing}
use Rattle.back_emission.proofs.KindLaws.{law_of_computations, law_of_choices, law_of_ends, law_of_calls, law_of_accesses, law_of_given_back, law_of_puts, law_of_landings}
use Rattle.back_steps.proofs.AskingLaws.{law_of_gets}
use Rattle.back_steps.proofs.DrawingLaws.{law_of_draws}
use Rattle.back_steps.proofs.RequestLaws.{law_of_requests}
use Rattle.back_steps.proofs.BlockLaws.{law_of_lays, law_of_lends}
use Rattle.back_steps.proofs.CutLaws.{law_of_cuts}
use Rattle.back_steps.proofs.Entries.{law_of_entries}

module _ (program : LineProgram) (l : Located) (known : (number line register : ℕ) → Place → Bool) (first : List Block)
    (checked : is_checked_line_program program ≡ true) (good : IsGood program l (Known known)) where
  -- a step of an operation
  of_operation :
      (a : Activation) (line : ℕ) (rs : Registers) (callers : List Caller) (z : MidState) (m : Moment) (o : Operation) → line_of program a.procedure line ≡ Some (Do o)
      → Relates program l (Known known) first (running a line rs callers z) m → Follows program l (Known known) first (running a line rs callers z) m
  of_operation a line rs callers z m (operation.Move to from) e r = law_of_computations program l known first checked good a line rs callers z m (Do (operation.Move to from)) e tt r
  of_operation a line rs callers z m (operation.Constant to word) e r = law_of_computations program l known first checked good a line rs callers z m (Do (operation.Constant to word)) e tt r
  of_operation a line rs callers z m (operation.Compute to which v w) e r = law_of_computations program l known first checked good a line rs callers z m (Do (operation.Compute to which v w)) e tt r
  of_operation a line rs callers z m (operation.Load to base offset) e r = law_of_accesses program l known first checked good a line rs callers z m (Do (operation.Load to base offset)) e tt r
  of_operation a line rs callers z m (operation.Store from base offset) e r = law_of_accesses program l known first checked good a line rs callers z m (Do (operation.Store from base offset)) e tt r
  of_operation a line rs callers z m (operation.Request to words) e r = law_of_requests program l known first checked good a line rs callers z m (Do (operation.Request to words)) e tt r
  of_operation a line rs callers z m (operation.Draw to base offset) e r = law_of_draws program l known first checked good a line rs callers z m (Do (operation.Draw to base offset)) e tt r
  of_operation a line rs callers z m (operation.Put from) e r = law_of_puts program l known first checked good a line rs callers z m (Do (operation.Put from)) e tt r
  of_operation a line rs callers z m (operation.Get to) e r = law_of_gets program l known first checked good a line rs callers z m (Do (operation.Get to)) e tt r
  of_operation a line rs callers z m (operation.Call to callee arguments) e r = law_of_calls program l known first checked good a line rs callers z m (Do (operation.Call to callee arguments)) e tt r

  -- a step of any line
  of_line :
      (a : Activation) (line : ℕ) (rs : Registers) (callers : List Caller) (z : MidState) (m : Moment) (x : Line) → line_of program a.procedure line ≡ Some x
      → Relates program l (Known known) first (running a line rs callers z) m → Follows program l (Known known) first (running a line rs callers z) m
  of_line a line rs callers z m (Do o) e r = of_operation a line rs callers z m o e r
  of_line a line rs callers z m (Branch t otherwise) e r = law_of_choices program l known first checked good a line rs callers z m (Branch t otherwise) e tt r
  of_line a line rs callers z m (Switch v targets) e r = law_of_choices program l known first checked good a line rs callers z m (Switch v targets) e tt r
  of_line a line rs callers z m (Jump to) e r = law_of_choices program l known first checked good a line rs callers z m (Jump to) e tt r
  of_line a line rs callers z m (Lay block words landing) e r = law_of_lays program l known first checked good a line rs callers z m (Lay block words landing) e tt r
  of_line a line rs callers z m (Landed v) e r = law_of_landings program l known first checked good a line rs callers z m (Landed v) e tt r
  of_line a line rs callers z m (GiveBack words) e r = law_of_given_back program l known first checked good a line rs callers z m (GiveBack words) e tt r
  of_line a line rs callers z m (Lend block words) e r = law_of_lends program l known first checked good a line rs callers z m (Lend block words) e tt r
  of_line a line rs callers z m GiveBackLent e r = law_of_given_back program l known first checked good a line rs callers z m GiveBackLent e tt r
  of_line a line rs callers z m (Return v) e r = law_of_ends program l known first checked good a line rs callers z m (Return v) e tt r
  of_line a line rs callers z m (Cut block word) e r = law_of_cuts program l known first checked good a line rs callers z m (Cut block word) e tt r
  of_line a line rs callers z m (Halt v) e r = law_of_ends program l known first checked good a line rs callers z m (Halt v) e tt r
  of_line a line rs callers z m (Unhandled class site condition) e r = law_of_ends program l known first checked good a line rs callers z m (Unhandled class site condition) e tt r

  -- a step from a line that may not be there
  of_running :
      (a : Activation) (line : ℕ) (rs : Registers) (callers : List Caller) (z : MidState) (m : Moment) (o : Option Line) → line_of program a.procedure line ≡ o
      → Relates program l (Known known) first (running a line rs callers z) m → Follows program l (Known known) first (running a line rs callers z) m
  of_running a line rs callers z m None e r =
      nothing program l (Known known) first good (running a line rs callers z) m z (ap (λ x. do_line program x a line rs callers z) e) (omega arith)
  of_running a line rs callers z m (Some x) e r = of_line a line rs callers z m x e r

pub law_of_steps : LawOfSteps
law_of_steps program l known first checked good (running a line rs callers z) m r =
    of_running program l known first checked good a line rs callers z m (line_of program a.procedure line) refl r
law_of_steps program l known first checked good (entering number arguments callers z) m r =
    law_of_entries program l known first checked good number arguments callers z m r
law_of_steps program l known first checked good (ended e z) m r = record {
  count = 0;
  moment = m;
  comes = stays m;
  relates = r;
  cheap = omega arith;
  heavy = λ h. omega arith;
}
