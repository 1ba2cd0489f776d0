-- What blocks, catches, tagbodies, cleanups and ways to exits cost, besides what is inside.
use Rattle.std.proofs.Common.{◌≡◌, ℕ, ◌+◌, ◌≤◌, [], ◌∷◌, ◌++◌, arith}
use Rattle.mid_code.specs.MidCode.{MidCodes}
use Rattle.mid_arena.specs.CodeCosts.{codes_cost}
use Rattle.back_lowering.specs.ControlWords.{landing_address}
use Rattle.back_lowering.specs.declared.scope.SitePlace.{SitePlace}
use Rattle.back_lowering.specs.declared.scope.Reach.{Reach}
use Rattle.back_lowering.specs.declared.scope.Reach.TheVariants.{AtOnce, ByTransfer, BySearch}
use Rattle.back_lowering.specs.declared.scope.OwnExit.{OwnExit}
use Rattle.back_lowering.specs.declared.placement.Placement.{Placement}
use Rattle.back_lowering.specs.Routines.{transfer_routine, leave_routine}
use Rattle.back_lowering.specs.Steps.{Steps, move, constant, store, call, if_different}
use Rattle.back_lowering.specs.Leaves.{site_stored}
use Rattle.back_lowering.specs.Records.{record_left, block_code, catch_code, tagbody_code, unwind_code, by_serial, to_own}
use Rattle.back_code_sizes.specs.Passed.{codes_pass}
use Rattle.back_code_sizes.proofs.Costs.{cost, append_cost}
use Rattle.back_code_sizes.proofs.Leaves.{site_cost}

pub block_cost : (d : ℕ) (body : Steps) → cost (block_code d body) ≡ 242 + cost body
block_cost d body = omega (arith, append_cost body (record_left (d + 1) (d + 7) ++ (move d (d + 6) ∷ [])))

pub catch_cost : (d : ℕ) (body : Steps) → cost (catch_code d body) ≡ 250 + cost body
catch_cost d body = omega (arith, append_cost body (record_left (d + 1) (d + 7) ++ (move d (d + 6) ∷ [])))

-- each segment costs its word in the table and its jump besides
pub tagbody_cost : (d segments : ℕ) (bodies : MidCodes) → cost (tagbody_code d segments bodies) ≡ 330 + (codes_cost bodies + codes_pass bodies)
tagbody_cost d segments bodies = omega arith

pub unwind_cost : (at : Placement) (d : ℕ) (form cleanup : Steps) → cost (unwind_code at d form cleanup) ≡ 306 + cost form + cost cleanup
unwind_cost at d form cleanup =
    omega (
      arith,
      append_cost form (record_left (d + 1) (d + 7) ++ (move d (d + 6) ∷ constant (d + 1) 0 ∷ [])),
      append_cost cleanup
          (constant (d + 3) 0
          ∷ if_different (d + 1) (d + 3)
          (store (d + 2) (d + 3) landing_address ∷ call d (transfer_routine at) ((d + 1) ∷ d ∷ []) ∷ []) []
          ∷ []),
    )

-- ways to exits

pub by_serial_cost :
    (at : Placement) (site : SitePlace) (serial : Steps) (d t landing : ℕ) → cost (by_serial at site serial d t landing) ≤ 87 + cost serial
by_serial_cost at site serial d t landing =
    let last : Steps = constant (t + 1) landing ∷ call d (leave_routine at) (t ∷ d ∷ (t + 1) ∷ []) ∷ [] in
    omega (
      arith,
      append_cost serial (site_stored site (t + 1) (t + 2) ++ last),
      append_cost (site_stored site (t + 1) (t + 2)) last,
      site_cost site (t + 1) (t + 2),
    )

pub to_own_cost : (at : Placement) (site : SitePlace) (x : OwnExit) (d t landing : ℕ) → cost (to_own at site x d t landing) ≤ 111
to_own_cost at site x d t landing = by x.reach
  where
    by : (r : Reach) → cost (to_own at site (record x { reach = r }) d t landing) ≤ 111
    by AtOnce = omega arith
    by ByTransfer = omega arith
    by BySearch = omega (arith, by_serial_cost at site (move t x.serial ∷ []) d t landing)
