-- Transfers behind what was done, and transfers where the code ends in the same way.
use Rattle.std.proofs.Common.{ℕ, ◌+◌, ◌≤◌, List, length, sym, ap, ◌∙◌, arith}
use Rattle.lang_meaning.specs.State.{DynamicContext}
use Rattle.flat_language.specs.FlatState.{FlatState, FlatEvaluated}
use Rattle.mid_code.specs.Arena.{blocks_from}
use Rattle.mid_code.specs.State.{Registers, MidState, MidOutcome, ends}
use Rattle.back_relation.specs.Setting.{Setting}
use Rattle.back_relation.specs.Worlds.{World, Standing}
use Rattle.back_relation.specs.Ends.{WorldKept, Around, Transfers}
use Rattle.back_relation.proofs.Then.{from_same, world_then}

module _ (setting : Setting) {c1 : ℕ} {w w1 : World} {z z1 : FlatState} {y y1 : MidState} (k1 : WorldKept setting w w1 z z1 y y1) (a1 : Around setting c1 z z1 y y1) where
  -- its fields compute
  abbrev pub transfers_behind :
      {c2 c : ℕ} {rs valid : List Standing} {around : DynamicContext} {r : FlatEvaluated} {q : MidOutcome} → c1 + c2 ≤ c
      → Transfers setting c2 rs valid w1 around z1 y1 r q → Transfers setting c rs valid w around z y r q
  transfers_behind enough t = record {
    exit_number = t.exit_number;
    result = t.result;
    landing = t.landing;
    outcome = t.outcome;
    target = t.target;
    valid_target = t.valid_target;
    to = t.to;
    outer = t.outer;
    stop = t.stop;
    word = t.word;
    end = t.end;
    blocks =
        ap (λ n. blocks_from n y.arena.blocks t.to.address) (sym k1.same_size)
        ∙ ap (λ bs. blocks_from (length y1.arena.memory) bs t.to.address) (sym a1.blocks) ∙ t.blocks;
    w' = t.w';
    of_value = t.of_value;
    world = world_then setting k1 a1 t.world;
    charged = let from = from_same setting k1 a1 in omega (arith, a1.charged, t.charged, from);
    paid = omega (arith, a1.paid, t.paid, enough);
    pending = t.pending;
    landing_word = t.landing_word;
    landing_stands = t.landing_stands;
    landing_is = t.landing_is;
    lands = t.lands;
  }

-- whatever the registers
abbrev pub transfers_as :
    (setting : Setting) {c : ℕ} {rs valid : List Standing} {w : World} {around : DynamicContext} {z : FlatState} {y : MidState} {r : FlatEvaluated} {q : MidOutcome} (regs : Registers)
    → Transfers setting c rs valid w around z y r q → Transfers setting c rs valid w around z y r (ends q.end regs q.state)
transfers_as setting regs t = record {
  exit_number = t.exit_number;
  result = t.result;
  landing = t.landing;
  outcome = t.outcome;
  target = t.target;
  valid_target = t.valid_target;
  to = t.to;
  outer = t.outer;
  stop = t.stop;
  word = t.word;
  end = t.end;
  blocks = t.blocks;
  w' = t.w';
  of_value = t.of_value;
  world = t.world;
  charged = t.charged;
  paid = t.paid;
  pending = t.pending;
  landing_word = t.landing_word;
  landing_stands = t.landing_stands;
  landing_is = t.landing_is;
  lands = t.lands;
}
