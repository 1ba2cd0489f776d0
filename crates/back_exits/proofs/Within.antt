-- What a call comes to, where it is paid more, has more words of the stack, or leaves fewer turns over.
use Rattle.std.proofs.Common.{ℕ, ◌≤◌, List, arith}
use Rattle.lang_meaning.specs.State.{DynamicContext, Landing, at_segment, at_site, Limit, words, unlimited}
use Rattle.lang_meaning.specs.State as base
use Rattle.flat_language.specs.FlatState.{FlatState, FlatEvaluated}
use Rattle.mid_code.specs.State.{MidState, MidOutcome}
use Rattle.back_relation.specs.Setting.{Setting}
use Rattle.back_relation.specs.Placed.{IsPlaced}
use Rattle.back_relation.specs.Worlds.{World, Standing}
use Rattle.back_relation.specs.Around.{RoomFor, CallBegins}
use Rattle.back_relation.specs.Ends.{Around, CallEnds, landing_cost, done, left_by, full_there, stopped, few_turns}
use Rattle.back_relation.specs.RoutineClaims.{TransferDoes}
use Rattle.back_relation.proofs.Stops.{stopped_less}
use Rattle.back_relation.proofs.Then.{transfers_less}
use Rattle.back_exits.specs.Within.{transfer_words}
use Rattle.back_exits.proofs.Transfer.{transfer_does}

-- no landing costs more than that of a tagbody
pub landing_most : (landing : Landing) → landing_cost landing ≤ 250
landing_most (at_segment i) = omega arith
landing_most (at_site place) = omega arith

module _ (setting : Setting) where
  around_less : {c c' : ℕ} {z z' : FlatState} {y y' : MidState} → c ≤ c' → Around setting c z z' y y' → Around setting c' z z' y y'
  around_less enough a = record { control = a.control; blocks = a.blocks; charged = a.charged; paid = omega (arith, a.paid) }

  -- a call that is paid more, with fewer turns over
  pub call_less :
      {c c' t t' : ℕ} {rs valid : List Standing} {w : World} {around : DynamicContext} {z : FlatState} {y : MidState} {r : FlatEvaluated} {q : MidOutcome} → c ≤ c' → t' ≤ t
      → CallEnds setting c t rs valid w around z y r q → CallEnds setting c' t' rs valid w around z y r q
  call_less enough few (done x) =
      done (record {
        result = x.result;
        outcome = x.outcome;
        word = x.word;
        end = x.end;
        w' = x.w';
        world = x.world;
        back = around_less enough x.back;
        of_value = x.of_value;
        frame = x.frame;
      })
  call_less enough few (left_by x) = left_by (record { transfer = transfers_less setting enough x.transfer; frame = x.frame })
  call_less enough few (full_there x) = full_there x
  call_less enough few (stopped x) = stopped (stopped_less setting (omega (arith, enough)) x)
  call_less enough few (few_turns x) = few_turns (omega (arith, x, few))

  room_less : (l : Limit) (n n' : ℕ) (z : base.State) (y : MidState) → n' ≤ n → RoomFor l n z y → RoomFor l n' z y
  room_less unlimited n n' z y few h = tt
  room_less (words m) n n' z y few h = omega (arith, h, few)

  -- where fewer words of the stack are asked for
  pub begins_less :
      {rs valid : List Standing} {n : ℕ} (n' : ℕ) {w : World} {around : DynamicContext} {z : FlatState} {y : MidState} → n' ≤ n → CallBegins setting rs valid n w around z y
      → CallBegins setting rs valid n' w around z y
  begins_less {n = n} n' {around = around} {z = z} {y = y} few b =
      record { things = b.things; around_stands = b.around_stands; room = room_less setting.limit _ _ z.state y (omega (arith, few)) b.room }

  -- **the routine of transfers**
  pub transfer_routine_does :
      IsPlaced setting → (k turns : ℕ) (rs valid : List Standing) (w : World) (around : DynamicContext) (z : FlatState) (y : MidState) → TransferDoes setting k turns rs valid w around z y
  transfer_routine_does placed k turns rs valid w around z y e v landing target word landing_word valid_target of_value landing_there landing_is lands begins =
      call_less (let most = landing_most landing in omega (arith, most)) (omega arith)
      (transfer_does setting placed k turns rs valid w around z y e v landing target word landing_word valid_target of_value landing_there landing_is lands
      (begins_less transfer_words (omega arith) begins))
