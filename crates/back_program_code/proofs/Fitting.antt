-- What is asked of a procedure gives what is asked of the spots of its lines.
use Rattle.std.proofs.Common.{◌≡◌, ◌≤◌, ℕ, zero, suc, ◌+◌, ◌^◌, ◌<◌, Bool, true, List, [], ◌∷◌, length, Some, refl, sym, ap, subst, ◌∙◌, arith}
use Rattle.std.specs.Prelude.{slice_get, slice_index, nat_lt}
use Rattle.std.specs.List.{list_all}
use Rattle.std.proofs.lemmas.Bool.Decides.{nat_tests}
use Rattle.mid_code.specs.declared.operation.Callee.TheVariants.{Procedure, Word}
use Rattle.mid_code.specs.declared.operation.Operation.{Operation}
use Rattle.mid_code.specs.declared.operation.Operation.TheVariants as operation
use Rattle.mid_lines.specs.declared.line.Line.{Line}
use Rattle.mid_lines.specs.declared.line.Line.TheVariants.{Do, Branch, Jump, Lay, Return}
use Rattle.mid_lines.proofs.Conjunctions.{front_true, back_true}
use Rattle.back_places.specs.declared.place.Place.{Place}
use Rattle.back_places.specs.declared.place.Place.TheVariants.{InRegister, InSlot, AsConstant}
use Rattle.back_places.specs.Facts.{IsPlace}
use Rattle.back_allocation.specs.Places.{place_at}
use Rattle.back_emit.specs.declared.spots.Spot.{Spot}
use Rattle.back_emit.specs.declared.spots.Sizing.{Sizing}
use Rattle.back_emit.specs.declared.ways.FrameWay.{FrameWay}
use Rattle.back_emit.specs.declared.ways.FrameWay.TheVariants.{FromStack, PastLent, NoWay}
use Rattle.back_emit.specs.Ways.{IsReached, IsInReach, depth_of}
use Rattle.back_emit.specs.Fits.{AreInReach, FitsLine, ReachesLink, passed_by}
use Rattle.back_emit.specs.PlacedSizes.{way_in, sizing_spot, EachFits}
use Rattle.back_emit.specs.PlacedLines.{line_position, operation_goes, line_goes, placed_spot}
use Rattle.back_program_code.specs.declared.front.Front.{Front}
use Rattle.back_program_code.specs.declared.shapes.Shape.{Shape}
use Rattle.back_program_code.specs.Shapes.{is_near_way, FitsShape, sizing_of, body_position, spot_in}

less : (a b : ℕ) → nat_lt a b ≡ true → a < b
less a b h = grind (arith, nat_tests, h)

-- a way that is near
abbrev Near : (slots frame : ℕ) → FrameWay → Type 0
Near slots frame way = IsReached way slots × (depth_of way + frame < 2 ^ 30)

near_is : (slots frame : ℕ) (way : FrameWay) → is_near_way slots frame way ≡ true → Near slots frame way
near_is slots frame (FromStack depth) h = (
  less (depth + slots) (2 ^ 30) (front_true (nat_lt (depth + slots) (2 ^ 30)) (nat_lt (depth + frame) (2 ^ 30)) h),
  less (depth + frame) (2 ^ 30) (back_true (nat_lt (depth + slots) (2 ^ 30)) (nat_lt (depth + frame) (2 ^ 30)) h),
)
near_is slots frame (PastLent depth) h = (
  less (depth + slots) (2 ^ 10) (front_true (nat_lt (depth + slots) (2 ^ 10)) (nat_lt (depth + frame) (2 ^ 30)) h),
  less (depth + frame) (2 ^ 30) (back_true (nat_lt (depth + slots) (2 ^ 10)) (nat_lt (depth + frame) (2 ^ 30)) h),
)
near_is slots frame NoWay h = let low = less frame (2 ^ 30) h in (tt, omega (arith, low))

way_near :
    (slots frame : ℕ) (ways : List FrameWay) (i : ℕ) → frame < 2 ^ 30 → list_all (is_near_way slots frame) ways ≡ true
    → Near slots frame (way_in (slice_get ways i))
way_near slots frame [] i low h = (tt, omega (arith, low))
way_near slots frame (w ∷ ways) zero low h = near_is slots frame w (front_true (is_near_way slots frame w) (list_all (is_near_way slots frame) ways) h)
way_near slots frame (w ∷ ways) (suc i) low h = way_near slots frame ways i low (back_true (is_near_way slots frame w) (list_all (is_near_way slots frame) ways) h)

-- where so many slots are reached, each of them is, and the return address
reached_fewer : (way : FrameWay) (slots slot : ℕ) → slot ≤ slots → IsReached way slots → IsReached way slot
reached_fewer (FromStack depth) slots slot le h = omega (arith, le, h)
reached_fewer (PastLent depth) slots slot le h = omega (arith, le, h)
reached_fewer NoWay slots slot le h = tt

pub in_reach : (way : FrameWay) (slots : ℕ) (p : Place) → IsReached way slots → IsPlace (slots + 1) p → IsInReach way p
in_reach way slots (InRegister r) h k = k.1
in_reach way slots (InSlot slot) h k = let low = k.1 in reached_fewer way slots slot (omega (arith, low)) h
in_reach way slots (AsConstant w) h k = tt

reaches_link : (s : Spot) (slots : ℕ) (x : Line) → IsReached s.way slots → ReachesLink s x
reaches_link s slots (Return r) h = reached_fewer s.way slots 0 (omega arith) h
reaches_link s slots x h = tt

-- a spot of a line whose positions are low
pub record LowSpot (s : Spot) : Type 0 where
  pub at_low : s.at < 2 ^ 24
  pub to_low : s.to < 2 ^ 24
  pub table_low : s.table < 2 ^ 24

module _ (f : Front) (s : Shape) (fits : FitsShape f s) where
  line_fits_in :
      (spot : Spot) (line : ℕ) (x : Line) → slice_get s.chosen.lines line ≡ Some x → LowSpot spot → spot.way ≡ way_in (slice_get s.ways line)
      → spot.next_way ≡ way_in (slice_get s.ways (line + 1)) → spot.frame ≡ s.procedure.frame → spot.arguments_at ≡ f.arguments_at
      → spot.procedures_at ≡ f.procedures_at → spot.full_at ≡ f.start_at + 5 → FitsLine spot s.chosen.places x
  line_fits_in spot line x e low way next frame arguments procedures full =
      let slots = s.chosen.slots in
      let near = way_near slots s.procedure.frame s.ways line fits.framed fits.ways in
      let near_next = way_near slots s.procedure.frame s.ways (line + 1) fits.framed fits.ways in
      let reached : IsReached spot.way slots = subst (λ w. IsReached w slots) (sym way) near.0 in
      let reached_next : IsReached spot.next_way slots = subst (λ w. IsReached w slots) (sym next) near_next.0 in
      let depth : depth_of spot.way + s.procedure.frame < 2 ^ 30 = subst (λ w. depth_of w + s.procedure.frame < 2 ^ 30) (sym way) near.1 in
      let first = fits.low in
      let arguments_low = fits.arguments_low in
      let procedures_low = fits.procedures_low in
      record {
        registers = fits.names;
        lines = length s.procedure.lines;
        spot = record {
          reached = λ v. in_reach spot.way slots (place_at s.chosen.places v) reached (fits.placed v);
          reached_next = λ v. in_reach spot.next_way slots (place_at s.chosen.places v) reached_next (fits.placed v);
          framed = subst (λ n. depth_of spot.way + n < 2 ^ 30) (sym frame) depth;
          at_low = low.at_low;
          to_low = low.to_low;
          table_low = low.table_low;
          arguments_low = subst (λ n. n < 2 ^ 24) (sym arguments) arguments_low;
          procedures_low = subst (λ n. n < 2 ^ 24) (sym procedures) procedures_low;
          full_low = omega (arith, full, first);
        };
        fits = fits.lines line x e;
        passed = subst (λ n. n + passed_by x ≤ 2 ^ 24) (sym arguments) (fits.passed line x e);
        link = reaches_link spot slots x reached;
      }

  -- where the entry brings parameters
  pub entry_in_reach : AreInReach (FromStack 0) s.chosen.parameters
  entry_in_reach v =
      let few = fits.few in
      in_reach (FromStack 0) s.chosen.slots (place_at s.chosen.parameters v) (omega (arith, few)) (fits.entered v)

  -- with no positions yet
  pub sizing_fits : (nears : List Bool) → EachFits s.chosen.places (sizing_of f s) s.ways nears s.chosen.lines
  sizing_fits nears line x e =
      line_fits_in (sizing_spot (sizing_of f s) s.ways nears line) line x e (record { at_low = omega arith; to_low = omega arith; table_low = omega arith }) refl refl refl refl refl
      refl

  -- with positions, where the procedure ends below 2^24
  module _ (entries : List ℕ) (at : ℕ) (nears : List Bool) (lefts : List ℕ) (low : (n : ℕ) → slice_index entries n < 2 ^ 24) (ends : body_position f at s + slice_index lefts 0 < 2 ^ 24) where
    position_low : (line : ℕ) → line_position lefts (body_position f at s) line < 2 ^ 24
    position_low line = omega (arith, ends)

    operation_low : (o : Operation) → operation_goes entries o < 2 ^ 24
    operation_low (operation.Call to (Procedure n) arguments) = low n
    operation_low (operation.Call to (Word r) arguments) = omega arith
    operation_low o = omega arith

    goes_low : (x : Line) → line_goes lefts entries (body_position f at s) x < 2 ^ 24
    goes_low (Do o) = operation_low o
    goes_low (Branch t otherwise) = position_low otherwise
    goes_low (Jump to) = position_low to
    goes_low (Lay block words landing) = position_low landing
    goes_low x = omega arith

    placed_fits :
        (table line : ℕ) (x : Line) → table < 2 ^ 24 → slice_get s.chosen.lines line ≡ Some x
        → FitsLine (spot_in f entries at nears lefts s table line x) s.chosen.places x
    placed_fits table line x t e =
        line_fits_in (spot_in f entries at nears lefts s table line x) line x e (record { at_low = position_low line; to_low = goes_low x; table_low = t }) refl refl refl refl refl refl

    -- the spot that is made of what was found
    pub spot_is :
        (spot : Spot) (z : Sizing) (ns : List Bool) (body table line : ℕ) (x : Line) → spot ≡ placed_spot z s.ways ns lefts entries body line table x
        → z ≡ sizing_of f s → ns ≡ nears → body ≡ body_position f at s → spot ≡ spot_in f entries at nears lefts s table line x
    spot_is spot z ns body table line x e sizing near position =
        e ∙ ap (λ k. placed_spot k s.ways ns lefts entries body line table x) sizing
        ∙ ap (λ k. placed_spot (sizing_of f s) s.ways k lefts entries body line table x) near
        ∙ ap (λ k. placed_spot (sizing_of f s) s.ways nears lefts entries k line table x) position

    pub spot_fits :
        (spot : Spot) (z : Sizing) (ns : List Bool) (body table line : ℕ) (x : Line) → spot ≡ placed_spot z s.ways ns lefts entries body line table x
        → z ≡ sizing_of f s → ns ≡ nears → body ≡ body_position f at s → table < 2 ^ 24 → slice_get s.chosen.lines line ≡ Some x
        → FitsLine spot s.chosen.places x
    spot_fits spot z ns body table line x e sizing near position t there =
        subst (λ k. FitsLine k s.chosen.places x) (sym (spot_is spot z ns body table line x e sizing near position)) (placed_fits table line x t there)
