-- What is left from each line on, counted from the spots of lines, is what the layout counts.
use Rattle.std.proofs.Common.{◌≡◌, ℕ, suc, ◌+◌, Bool, List, [], ◌∷◌, length, Some, refl, sym, ap, ◌∙◌, arith}
use Rattle.std.specs.Prelude.{slice_get, slice_index}
use Rattle.mid_lines.specs.declared.line.Line.{Line}
use Rattle.mid_lines.specs.declared.line.Line.TheVariants.{Do, Branch, Switch, Jump, Lay, Landed, GiveBack, Lend, GiveBackLent, Return, Cut, Halt, Unhandled}
use Rattle.back_places.specs.declared.place.Place.{Place}
use Rattle.back_places.specs.Places.{Located}
use Rattle.back_places.specs.LineCode.{behind_code}
use Rattle.back_layout.specs.Sizes.{unplaced, jump_size, goes_over_nothing, own_size, line_size, rests}
use Rattle.back_allocation.specs.Names.{named_line}
use Rattle.back_emit.specs.declared.spots.Spot.{Spot}
use Rattle.back_emit.specs.declared.spots.Sizing.{Sizing}
use Rattle.back_emit.specs.declared.ways.FrameWay.{FrameWay}
use Rattle.back_emit.specs.Agree.{AgreesAt}
use Rattle.back_emit.specs.PlacedCode.{placed_line, placed_behind}
use Rattle.back_emit.specs.PlacedSizes.{sizing_spot, placed_line_size, placed_rests, AgreesNamed, LawOfPlacedRests}
use Rattle.back_emit.proofs.FromSpots.{line_same, behind_same}

module _ (l : Located) (places : List Place) (number frame : ℕ) (z : Sizing) (ways : List FrameWay) (nears : List Bool) where
  abbrev spot : ℕ → Spot
  spot line = sizing_spot z ways nears line

  other_same :
      (line : ℕ) (x : Line) (f g : ℕ → ℕ) → AgreesAt (unplaced l) places number frame line (spot line) x f g
      → own_size l number frame line x
      ≡ length (placed_line places (spot line) (named_line f g x)) + length (placed_behind places (spot line) (named_line f g x))
  other_same line x f g a =
      ap (λ c. length c + length (behind_code (unplaced l) number line x)) (line_same (unplaced l) places number frame line (spot line) f g x a)
      ∙ ap (λ c. length (placed_line places (spot line) (named_line f g x)) + length c) (behind_same (unplaced l) places number frame line (spot line) f g x a)

  named_same :
      (line : ℕ) (x : Line) (f g : ℕ → ℕ) (left : List ℕ) → AgreesAt (unplaced l) places number frame line (spot line) x f g
      → line_size l number frame line x left ≡ placed_line_size places z ways nears line (named_line f g x) left
  named_same line (Jump to) f g left a = ap (jump_size (goes_over_nothing line to left)) a.near
  named_same line (Do o) f g left a = other_same line (Do o) f g a
  named_same line (Branch t otherwise) f g left a = other_same line (Branch t otherwise) f g a
  named_same line (Switch r targets) f g left a = other_same line (Switch r targets) f g a
  named_same line (Lay block words landing) f g left a = other_same line (Lay block words landing) f g a
  named_same line (Landed r) f g left a = other_same line (Landed r) f g a
  named_same line (GiveBack words) f g left a = other_same line (GiveBack words) f g a
  named_same line (Lend block words) f g left a = other_same line (Lend block words) f g a
  named_same line GiveBackLent f g left a = other_same line GiveBackLent f g a
  named_same line (Return r) f g left a = other_same line (Return r) f g a
  named_same line (Cut block word) f g left a = other_same line (Cut block word) f g a
  named_same line (Halt r) f g left a = other_same line (Halt r) f g a
  named_same line (Unhandled class site condition) f g left a = other_same line (Unhandled class site condition) f g a

  size_same :
      (line : ℕ) (x y : Line) (left : List ℕ) → AgreesNamed (unplaced l) places number frame line (spot line) x y
      → line_size l number frame line x left ≡ placed_line_size places z ways nears line y left
  size_same line x y left a =
      named_same line x a.read a.given left a.agrees ∙ ap (λ k. placed_line_size places z ways nears line k left) (sym a.is)

  rests_same :
      (from : ℕ) (xs ys : List Line) → length ys ≡ length xs
      → ((i line : ℕ) (x y : Line) → line ≡ from + i → slice_get xs i ≡ Some x → slice_get ys i ≡ Some y
      → AgreesNamed (unplaced l) places number frame line (spot line) x y)
      → rests l number frame from xs ≡ placed_rests places z ways nears from ys
  rests_same from [] [] count h = refl
  rests_same from [] (y ∷ ys) count h = absurd (omega (arith, count))
  rests_same from (x ∷ xs) [] count h = absurd (omega (arith, count))
  rests_same from (x ∷ xs) (y ∷ ys) count h =
      let a = h 0 from x y (omega arith) refl refl in
      let k = rests_same (from + 1) xs ys (omega (arith, count)) (λ i line u w e g n. h (suc i) line u w (omega (arith, e)) g n) in
      ap (λ r. (slice_index r 0 + line_size l number frame from x r) ∷ r) k
      ∙ ap (λ n. (slice_index (placed_rests places z ways nears (from + 1) ys) 0 + n) ∷ placed_rests places z ways nears (from + 1) ys)
      (size_same from x y (placed_rests places z ways nears (from + 1) ys) a)

pub law_of_placed_rests : LawOfPlacedRests
law_of_placed_rests l places number frame z ways nears xs ys count h =
    rests_same l places number frame z ways nears 0 xs ys count
    (λ i line x y e g n.
    let same : line ≡ i = omega (arith, e) in h line x y (ap (λ k. slice_get xs k) same ∙ g) (ap (λ k. slice_get ys k) same ∙ n))
