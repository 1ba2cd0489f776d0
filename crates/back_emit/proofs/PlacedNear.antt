-- Jumps that are near by their spots are near by the layout.
use Rattle.std.proofs.Common.{◌≡◌, ℕ, ◌+◌, List, length, map, refl, ap, ◌∙◌}
use Rattle.mid_code.specs.declared.operation.Callee.TheVariants.{Procedure, Word}
use Rattle.mid_code.specs.declared.operation.Operation.{Operation}
use Rattle.mid_code.specs.declared.operation.Operation.TheVariants as operation
use Rattle.mid_lines.specs.declared.line.Line.{Line}
use Rattle.mid_lines.specs.declared.line.Line.TheVariants.{Do, Branch, Switch, Jump, Lay, Landed, GiveBack, Lend, GiveBackLent, Return, Cut, Halt, Unhandled}
use Rattle.back_places.specs.declared.place.Place.{Place}
use Rattle.back_places.specs.Places.{Located}
use Rattle.back_layout.specs.Layout.{is_near_branch, is_near_jump, line_is_near}
use Rattle.back_allocation.specs.Names.{named_operation, named_line}
use Rattle.back_emit.specs.declared.spots.Spot.{Spot}
use Rattle.back_emit.specs.Agree.{AgreesAt}
use Rattle.back_emit.specs.PlacedCode.{placed_before_call, placed_tested}
use Rattle.back_emit.specs.PlacedNear.{placed_is_near, LawOfPlacedNear}
use Rattle.back_emit.proofs.FromSpots.{before_same, tested_same}

module _ (l : Located) (places : List Place) (number frame line : ℕ) (s : Spot) (f g : ℕ → ℕ) where
  operation_near :
      (o : Operation) → AgreesAt l places number frame line s (Do o) f g → line_is_near l number line (Do o) ≡ placed_is_near places s (Do (named_operation f g o))
  operation_near (operation.Call to (Procedure n) vs) a =
      ap (λ b. is_near_jump (l.line_at number line + length b) (l.entry_at n)) (before_same l places number frame line s f g (Do (operation.Call to (Procedure n) vs)) a (Procedure n) vs)
      ∙ ap (λ at. is_near_jump (at + length (placed_before_call places s (Procedure n) (map f vs))) (l.entry_at n)) a.at
      ∙ ap (is_near_jump (s.at + length (placed_before_call places s (Procedure n) (map f vs)))) a.goes
  operation_near (operation.Call to (Word r) vs) a = refl
  operation_near (operation.Move to from) a = refl
  operation_near (operation.Constant to word) a = refl
  operation_near (operation.Compute to which first second) a = refl
  operation_near (operation.Load to base offset) a = refl
  operation_near (operation.Store from base offset) a = refl
  operation_near (operation.Request to words) a = refl
  operation_near (operation.Draw to base offset) a = refl
  operation_near (operation.Put from) a = refl
  operation_near (operation.Get to) a = refl

  near_same : (x : Line) → AgreesAt l places number frame line s x f g → line_is_near l number line x ≡ placed_is_near places s (named_line f g x)
  near_same (Do o) a = operation_near o a
  near_same (Branch test otherwise) a =
      ap (λ b. is_near_branch (l.line_at number line + length b) (l.line_at number otherwise)) (tested_same l places number frame line s f g (Branch test otherwise) a test.first test.second)
      ∙ ap (λ at. is_near_branch (at + length (placed_tested places s (f test.first) (f test.second))) (l.line_at number otherwise)) a.at
      ∙ ap (is_near_branch (s.at + length (placed_tested places s (f test.first) (f test.second)))) a.goes
  near_same (Jump to) a = ap (λ at. is_near_jump at (l.line_at number to)) a.at ∙ ap (is_near_jump s.at) a.goes
  near_same (Switch r targets) a = refl
  near_same (Lay block words landing) a = refl
  near_same (Landed r) a = refl
  near_same (GiveBack words) a = refl
  near_same (Lend block words) a = refl
  near_same GiveBackLent a = refl
  near_same (Return r) a = refl
  near_same (Cut block word) a = refl
  near_same (Halt r) a = refl
  near_same (Unhandled class site condition) a = refl

pub law_of_placed_near : LawOfPlacedNear
law_of_placed_near l places number frame line s x f g a = near_same l places number frame line s f g x a
