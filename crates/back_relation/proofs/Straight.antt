-- Steps that leave the arena: units that are charged, costs, and registers that are set.
use Rattle.std.proofs.Common.{◌≡◌, ℕ, ◌≤◌, length, Some, refl, ap, arith}
use Rattle.std.specs.Prelude.{slice_set}
use Rattle.std.proofs.Math.ListN.{length-set}
use Rattle.lang_meaning.specs.State.{Limit, words, unlimited}
use Rattle.flat_language.specs.FlatNodes.{tables}
use Rattle.flat_language.specs.FlatState.{FlatState, charged}
use Rattle.mid_code.specs.Arena.{word_at}
use Rattle.mid_code.specs.State.{Registers, MidState}
use Rattle.mid_code.specs.State.{charged as mid_charged}
use Rattle.mid_arena.proofs.Lists.{set_elsewhere}
use Rattle.mid_arena.proofs.Growing.{grows_same}
use Rattle.mid_arena.proofs.Registers.{register_beside}
use Rattle.mid_arena.proofs.Representing.{represents_same, represents_grown}
use Rattle.back_lowering.specs.declared.scope.Scope.{Scope}
use Rattle.back_relation.specs.Setting.{Setting}
use Rattle.back_relation.specs.Worlds.{World}
use Rattle.back_relation.specs.Things.{Things, WithinLimit}
use Rattle.back_relation.specs.Activation.{RegistersKept}
use Rattle.back_relation.specs.Ends.{WorldKept, Around}
use Rattle.back_relation.proofs.Activations.{SameBelow}
use Rattle.back_relation.proofs.Worlds.{later_same, Same}

-- nothing is done to the arena
pub same_here : (w : World) {y y' : MidState} → y'.arena ≡ y.arena → Same w w y y'
same_here w {y} {y'} e = record {
  blocks = ap (λ a. a.blocks) e;
  size = ap (λ a. length a.memory) e;
  stack = record { words = λ x low high plain. ap (λ a. word_at a x) e; bindings = λ i a f low high. f };
}

-- a register behind the first ones is set
pub set_beside : {d : ℕ} (regs : Registers) (r word : ℕ) → d ≤ r → SameBelow d regs (slice_set regs r (Some word))
set_beside regs r word l i few = register_beside regs r i (Some word) (λ e. omega arith)

pub registers_set : {s : Scope} {d : ℕ} (regs : Registers) (r word : ℕ) → d ≤ r → RegistersKept s d regs (slice_set regs r (Some word))
registers_set regs r word l = record {
  count = length-set regs r (Some word);
  same = λ i few n. set_elsewhere regs r i (Some word) (λ e. omega arith);
}

module _ (setting : Setting) where
  -- units are no words
  pub things_units : {w : World} {z : FlatState} {y : MidState} (u : ℕ) → Things setting w z y → Things setting w (charged u z) y
  things_units {w} {z} {y} u t = record {
    represents = represents_same setting.names (tables setting.program) w.places z.state (charged u z).state y refl refl refl refl t.represents;
    within_limit = limit_same setting.limit t.within_limit;
    control = t.control;
    further = t.further;
    serials = t.serials;
    globals = t.globals;
    dynamics = t.dynamics;
    literals = t.literals;
    symbols = t.symbols;
    laid_symbols = t.laid_symbols;
    fresh_symbols = t.fresh_symbols;
    box_count = t.box_count;
    boxes_apart = t.boxes_apart;
    boxes = λ i b e. t.boxes i b e;
    methods = t.methods;
    exit_forms = t.exit_forms;
    functions = λ i p s e f. t.functions i p s e f;
    captured = t.captured;
    generics = t.generics;
  }
    where
      limit_same : (l : Limit) → WithinLimit l z.state → WithinLimit l (charged u z).state
      limit_same unlimited h = tt
      limit_same (words m) h = h

  -- nor are costs
  pub things_cost : {w : World} {z : FlatState} {y : MidState} (n : ℕ) → Things setting w z y → Things setting w z (mid_charged n y)
  things_cost {w} {z} {y} n t = record {
    represents =
        represents_grown setting.names (tables setting.program) w.places z.state y t.represents (mid_charged n y) (grows_same y.arena t.represents.arena).heap
        refl refl;
    within_limit = t.within_limit;
    control = t.control;
    further = t.further;
    serials = t.serials;
    globals = t.globals;
    dynamics = t.dynamics;
    literals = t.literals;
    symbols = t.symbols;
    laid_symbols = t.laid_symbols;
    fresh_symbols = t.fresh_symbols;
    box_count = t.box_count;
    boxes_apart = t.boxes_apart;
    boxes = λ i b e. t.boxes i b e;
    methods = t.methods;
    exit_forms = t.exit_forms;
    functions = λ i p s e f. t.functions i p s e f;
    captured = t.captured;
    generics = t.generics;
  }

  -- the world is as it was
  pub world_units : {w : World} {z : FlatState} {y : MidState} (u : ℕ) → Things setting w z y → WorldKept setting w w z (charged u z) y y
  world_units {w} {z} {y} u t = record {
    later = later_same w;
    things = things_units u t;
    stack = (same_here w {y = y} {y' = y} refl).stack;
    end = λ k e. e;
    more_exits = omega arith;
    same_size = refl;
  }

  pub world_cost : {w : World} {z : FlatState} {y : MidState} (n : ℕ) → Things setting w z y → WorldKept setting w w z z y (mid_charged n y)
  world_cost {w} {z} {y} n t = record {
    later = later_same w;
    things = things_cost n t;
    stack = (same_here w {y = y} {y' = mid_charged n y} refl).stack;
    end = λ k e. e;
    more_exits = omega arith;
    same_size = refl;
  }

  pub around_units : (z : FlatState) (y : MidState) (u : ℕ) → Around setting 0 z (charged u z) y y
  around_units z y u = record {
    control = record { current = λ k e. e; link = λ k e. e; handlers = λ k e. e; bindings = λ k e. e };
    blocks = refl;
    charged = omega arith;
    paid = omega arith;
  }

  pub around_cost : {credit : ℕ} (z : FlatState) (y : MidState) (n : ℕ) → n ≤ credit → Around setting credit z z y (mid_charged n y)
  around_cost z y n h = record {
    control = record { current = λ k e. e; link = λ k e. e; handlers = λ k e. e; bindings = λ k e. e };
    blocks = refl;
    charged = omega arith;
    paid = omega arith;
  }
