-- Variables whose place is in no block of the stack that stands are nowhere: no result has to say more of them.
use Rattle.std.proofs.Common.{◌≡◌, ℕ, Some, refl, ◌∙◌, arith}
use Rattle.std.specs.Prelude.{slice_get}
use Rattle.flat_language.specs.FlatState.{FlatState}
use Rattle.mid_code.specs.Arena.{stack_from}
use Rattle.mid_code.specs.State.{MidState}
use Rattle.mid_arena.specs.Places.{Owner}
use Rattle.back_relation.specs.Setting.{Setting}
use Rattle.back_relation.specs.Worlds.{World, BoxPlace, on_heap, on_stack, gone, Later}
use Rattle.back_relation.specs.StackWords.{StackKept}
use Rattle.back_relation.specs.Things.{Things, BoxStands}
use Rattle.back_relation.specs.Cuts.{world_cut}
use Rattle.back_relation.specs.Starts.{Start, ReachedFrom}
use Rattle.back_relation.proofs.Activations.{activation_later}
use Rattle.back_relation.proofs.Cuts.{later_cut}
use Rattle.back_relation.proofs.Starts.{start_after}
use Rattle.back_relation.proofs.Boxes.{cut_count, heap_was, stack_above, stack_stays}
use Rattle.back_values.specs.Boxes.{Clean}
use Rattle.back_values.proofs.Moved.{literals_move, method_moves, functions_move, box_moves}

module _ (setting : Setting) {w : World} {z : FlatState} {y : MidState} (t : Things setting w z y) where
  abbrev pub cleaned : World
  cleaned = world_cut (stack_from y.arena) w

  pub is_clean : Clean cleaned y
  is_clean i a e = stack_above (stack_from y.arena) i a w.boxes e

  abbrev All : Owner → Type 0
  All p = Unit {0}

  box_stands : (i : ℕ) (c : BoxPlace) → slice_get cleaned.boxes i ≡ Some c → BoxStands setting cleaned z.state y.arena i c
  box_stands i (on_heap a) e =
      box_moves setting y t (later_cut (stack_from y.arena) w) All (λ p s stays f x low high. refl) i (on_heap a) z.state refl (λ k. tt) (t.boxes i (on_heap a) (heap_was (stack_from y.arena) i a w.boxes e))
  box_stands i (on_stack a) e =
      box_moves setting y t (later_cut (stack_from y.arena) w) All (λ p s stays f x low high. refl) i (on_stack a) z.state refl refl
      (t.boxes i (on_stack a) ((later_cut (stack_from y.arena) w).none_new i a e))
  box_stands i gone e = tt

  pub things_cleaned : Things setting cleaned z y
  things_cleaned =
      let l : Later w cleaned = later_cut (stack_from y.arena) w in
      record {
        represents = t.represents;
        within_limit = t.within_limit;
        control = t.control;
        further = t.further;
        serials = t.serials;
        globals = t.globals;
        dynamics = t.dynamics;
        literals = literals_move setting y t l All (λ p s stays f x low high. refl);
        symbols = t.symbols;
        laid_symbols = t.laid_symbols;
        fresh_symbols = t.fresh_symbols;
        box_count = cut_count (stack_from y.arena) w.boxes ∙ t.box_count;
        boxes_apart = record {
          heap = λ i j a e f. t.boxes_apart.heap i j a (heap_was (stack_from y.arena) i a w.boxes e) (heap_was (stack_from y.arena) j a w.boxes f);
          stack = λ i j a e f. t.boxes_apart.stack i j a (l.none_new i a e) (l.none_new j a f);
        };
        boxes = box_stands;
        methods = λ i a called e. method_moves setting y t l All (λ p s stays f x low high. refl) a called (λ k late f. tt) (t.methods i a called e);
        exit_forms = t.exit_forms;
        functions = λ i p s e f. functions_move setting y t l All (λ p s stays f x low high. refl) (λ i. tt) i p s e f;
        captured = t.captured;
        generics = t.generics;
      }

  pub stack_cleaned : StackKept w cleaned y y
  stack_cleaned = record {
    words = λ x low high plain. refl;
    bindings = λ i a e low high. stack_stays (stack_from y.arena) i a w.boxes e high;
  }

module _ (setting : Setting) where
  -- **any point is one where all places on the stack are in blocks that stand**
  pub reached_clean : (a : Start setting) → ReachedFrom setting 0 a a.d (cleaned setting a.begins.call.things) a.z a.regs a.y
  reached_clean a = record {
    kept = record {
      world = record {
        later = later_cut (stack_from a.y.arena) a.w;
        things = things_cleaned setting a.begins.call.things;
        stack = stack_cleaned setting a.begins.call.things;
        end = λ k e. e;
        more_exits = omega arith;
        same_size = refl;
      };
      activation =
          activation_later setting {d = a.d} {y = a.y} (later_cut (stack_from a.y.arena) a.w)
          (record { blocks = refl; size = refl; stack = stack_cleaned setting a.begins.call.things }) refl (λ n cs k. k) (λ r few. refl) a.begins.scope
          a.begins.activation;
      registers = record { count = refl; same = λ i few n. refl };
    };
    back = record {
      control = record { current = λ k e. e; link = λ k e. e; handlers = λ k e. e; bindings = λ k e. e };
      blocks = refl;
      charged = omega arith;
      paid = omega arith;
    };
  }

  abbrev pub start_clean : Start setting → Start setting
  start_clean a = start_after setting a a.d a.d a.n (omega arith) (omega arith) (omega arith) a.begins.first (reached_clean a)
