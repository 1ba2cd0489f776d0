-- Why a name stands in a slot: it has to outlast a call or a cut; or it is passed there; or no value register was left.
use Rattle.std.specs.Prelude.{◌≡◌, ◌≢◌, ◌≤◌, ◌<◌, ◌⊎◌, ℕ, ◌+◌, ◌==◌, Bool, true, false, List, length, slice_get, slice_index_or, Option, Some, None}
use Rattle.std.specs.List.{list_any}
use Rattle.mid_lines.specs.declared.line.Line.{Line}
use Rattle.back_liveness.specs.declared.barrier.Barrier.{Barrier}
use Rattle.back_liveness.specs.declared.barrier.Barrier.TheVariants.{Open, Closed, ClosedBut, ClosedAmong}
use Rattle.back_liveness.specs.declared.step.Interval.{Interval}
use Rattle.back_liveness.specs.Barriers.{Crosses, barrier_at}
use Rattle.back_liveness.specs.declared.step.Step.{Step}
use Rattle.back_liveness.specs.Liveness.{IsWithin, IsCovered, IsLive}
use Rattle.back_scan.specs.declared.spot.Spot.{Spot}
use Rattle.back_scan.specs.declared.spot.Spot.TheVariants.{Slot}
use Rattle.back_scan.specs.declared.spot.Wish.{Wish}
use Rattle.back_scan.specs.declared.spot.Wish.TheVariants.{Any, Only, InSlot}
use Rattle.back_scan.specs.Spots.{spot_of, interval_of, HasHolder}
use Rattle.back_allocation.specs.Barriers.{call_result, may_cut}
use Rattle.back_allocation.specs.Constants.{constant_in}
use Rattle.back_allocation.specs.Wishes.{wish_at}

-- A register has to outlast something at a line: the line is behind a call of which the register has not the result, or a landing to which a cut
-- may go.
pub data HasToOutlast (lines : List Line) (landings : ℕ → List ℕ) (v : ℕ) : (line : ℕ) → Type 0 where
  a_call : (line to : ℕ) (x : Line) → slice_get lines line ≡ Some x → call_result x ≡ Some to → v ≢ to → HasToOutlast lines landings v (line + 1)
  a_cut :
      (line landing : ℕ) (x : Line) → slice_get lines line ≡ Some x → may_cut x ≡ true → list_any (λ t. t == landing) (landings line) ≡ true
      → HasToOutlast lines landings v landing

-- a name is one of a parameter: by itself, or by the register of which it is a name
abbrev pub IsOfParameter : (parameters v owner q : ℕ) → Type 0
IsOfParameter parameters v owner q = (q < parameters) × ((q ≡ v) ⊎ (q ≡ owner))

abbrev pub owner_at : (owners : List ℕ) → (name : ℕ) → ℕ
owner_at owners v = slice_index_or owners v v

-- The intervals of so many names have the lines at which these are alive, and those behind lines that write them.
pub record AreLives (steps : List Step) (names : ℕ) (lives : List (Option Interval)) : Type 0 where
  pub alive : (v line : ℕ) → v < names → IsLive steps v line → IsCovered lives v line
  pub written : (v line : ℕ) (s : Step) → v < names → slice_get steps line ≡ Some s → s.written ≡ Some v → IsCovered lives v (line + 1)

-- The reasons for which a name with that interval stands in a slot: it has to outlast something at some line of the interval; it is passed there, or in a
-- value register that another name has at the first line; or others have all fourteen value registers where its interval begins.
pub data IsSlotWanted
    (lines : List Line) (landings : ℕ → List ℕ) (parameters : ℕ) (owners : List ℕ) (lives : List (Option Interval)) (parts : List (List Interval))
    (spots : List (Option Spot)) (v : ℕ) (i : Interval) : Type 0 where
  outlasting :
      (line : ℕ) → IsWithin (Some i) line → HasToOutlast lines landings v line → IsSlotWanted lines landings parameters owners lives parts spots v i
  passed :
      (q : ℕ) → i.from ≡ 0 → IsOfParameter parameters v (owner_at owners v) q → (q < 14 → HasHolder lives parts spots 0 q)
      → IsSlotWanted lines landings parameters owners lives parts spots v i
  full : ((r : ℕ) → r < 14 → HasHolder lives parts spots i.from r) → IsSlotWanted lines landings parameters owners lives parts spots v i

-- each name in a slot stands there for such a reason, but names of constants, which stand nowhere
abbrev pub AreSlotsWanted :
    (lines : List Line) (landings : ℕ → List ℕ) (parameters : ℕ) (owners : List ℕ) (constants : List (Option ℕ)) (lives : List (Option Interval))
    (parts : List (List Interval)) (spots : List (Option Spot)) → Type 0
AreSlotsWanted lines landings parameters owners constants lives parts spots =
    (v k : ℕ) (i : Interval) → spot_of spots v ≡ Some (Slot k) → interval_of lives v ≡ Some i → constant_in constants v ≡ None
    → IsSlotWanted lines landings parameters owners lives parts spots v i

-- barriers that speak of no group of names
abbrev pub IsPlain : Barrier → Type 0
IsPlain Open = Unit {0}
IsPlain Closed = Unit {0}
IsPlain (ClosedBut to) = Unit {0}
IsPlain (ClosedAmong register from to written) = ⊥

abbrev pub ArePlain : List Barrier → Type 0
ArePlain barriers = (x : ℕ) → IsPlain (barrier_at barriers x)

-- barriers cross registers only where these have to outlast something
abbrev pub OnlyOutlasting : List Line → (landings : ℕ → List ℕ) → List Barrier → Type 0
OnlyOutlasting lines landings barriers =
    (x v : ℕ) → x < length barriers → Crosses (barrier_at barriers x) v → HasToOutlast lines landings v x

-- What a name asks for: a slot where it is told to be crossed; the value register in which its parameter is passed, or a slot where that is passed in
-- none; else any.
pub data IsAskedFor (parameters v owner : ℕ) (i : Interval) (crossed : Bool) : Wish → Type 0 where
  for_crossed : crossed ≡ true → IsAskedFor parameters v owner i crossed InSlot
  for_passed : (q : ℕ) → i.from ≡ 0 → IsOfParameter parameters v owner q → q < 14 → IsAskedFor parameters v owner i crossed (Only q)
  for_passed_in_none : (q : ℕ) → i.from ≡ 0 → IsOfParameter parameters v owner q → 14 ≤ q → IsAskedFor parameters v owner i crossed InSlot
  for_other : IsAskedFor parameters v owner i crossed Any

abbrev pub AreAsked :
    (intervals : List (Option Interval)) (crossed : List Bool) (parameters : ℕ) (owners : List ℕ) (count : ℕ) (wishes : List Wish) → Type 0
AreAsked intervals crossed parameters owners count wishes =
    (v : ℕ) (i : Interval) → v < count → interval_of intervals v ≡ Some i
    → IsAskedFor parameters v (owner_at owners v) i (slice_index_or crossed v false) (wish_at wishes v)
