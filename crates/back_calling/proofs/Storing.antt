-- A control word is stored: what words say goes on being said, and so does what is on the stack.
use Rattle.std.proofs.Common.{◌≡◌, ℕ, ◌+◌, ◌<◌, ◌≤◌, true, length, Some, refl, sym, ◌∙◌, arith}
use Rattle.std.specs.Prelude.{slice_get, ◌%◌, ◌/◌}
use Rattle.std.proofs.Math.ListN.{length-set}
use Rattle.std.proofs.lemmas.Bool.{ne_eqb}
use Rattle.flat_language.specs.FlatNodes.{tables}
use Rattle.flat_language.specs.FlatState.{FlatState}
use Rattle.mid_code.specs.Arena.{stack_from, is_lent, word_at}
use Rattle.mid_code.specs.State.{MidState}
use Rattle.mid_arena.specs.Places.{of_other}
use Rattle.mid_arena.specs.Represents.{Represents}
use Rattle.mid_arena.specs.Standing.{SpotStands}
use Rattle.mid_arena.proofs.Growing.{spot_below}
use Rattle.mid_arena.proofs.Memory.{word_elsewhere, word_here, in_spot_lent, in_spot_there}
use Rattle.mid_arena.proofs.OwnWords.{own_words, changes_in_spot}
use Rattle.back_lowering.specs.ControlWords.{control_address, variables_address, current_address, link_address, handlers_address, bindings_address, end_address}
use Rattle.back_relation.specs.Setting.{Setting, control_spot}
use Rattle.back_relation.specs.Worlds.{World, BoxPlace, on_heap, on_stack, gone}
use Rattle.back_relation.specs.StackWords.{HasWordAt}
use Rattle.back_relation.specs.Things.{Things}
use Rattle.back_relation.specs.Ends.{WorldKept, Around}
use Rattle.back_relation.specs.Cuts.{boxes_cut}
use Rattle.back_relation.proofs.Cuts.{later_cut}
use Rattle.back_relation.proofs.Boxes.{cut_count, heap_was, stack_above, stack_stays}
use Rattle.back_relation.proofs.Moving.{BoxWas}
use Rattle.back_calling.specs.Storing.{IsControl, stored_at, standing_world, LawOfStoring}
use Rattle.back_calling.proofs.Moving.{Moves, things_moved}

-- ---- a control word

module _ (setting : Setting) {w : World} {z : FlatState} {y : MidState} (t : Things setting w z y) where
  pub control_stands : SpotStands y.arena (control_spot setting)
  control_stands = t.represents.spots (of_other 1) (control_spot setting) t.control

  -- control words stand below the heap's end, and that below the stack
  pub control_below : variables_address ≤ y.arena.heap_to
  control_below = omega (arith, spot_below t.represents.arena control_stands)

  pub stack_higher : variables_address ≤ stack_from y.arena
  stack_higher = omega (arith, control_below, t.represents.arena.room)

  -- so an arena has some words
  pub some_words : 55 ≤ length y.arena.memory
  some_words = omega (arith, stack_higher)

  pub control_lent : (x : ℕ) → control_address ≤ x → x < variables_address → x % 4 ≡ 0 → is_lent y.arena x ≡ true
  control_lent x low high aligned = in_spot_lent x control_stands aligned low (omega arith)

  module _ (skip word cost : ℕ) (control : IsControl skip) (aligned : skip % 4 ≡ 0) where
    abbrev y' : MidState
    y' = stored_at skip word cost y

    pub word_beside : (x : ℕ) → (x ≡ skip → ⊥) → word_at y'.arena x ≡ word_at y.arena x
    word_beside x h = word_elsewhere y.arena skip word x aligned (ne_eqb skip x (λ e. h (sym e)))

    pub word_stored : HasWordAt y' skip word
    word_stored =
        word_here y.arena skip word (control_lent skip control.low control.high aligned)
        (in_spot_there skip t.represents.arena control_stands (omega (arith, control.high)))

    moves : Moves w (boxes_cut (stack_from y.arena) w.boxes) y y' skip
    moves = record {
      same = word_beside;
      heap = omega arith;
      count = cut_count (stack_from y.arena) w.boxes;
      were = were;
      kept = (later_cut (stack_from y.arena) w).boxes;
    }
      where
        were : (i : ℕ) (b : BoxPlace) → slice_get (boxes_cut (stack_from y.arena) w.boxes) i ≡ Some b → BoxWas w y.arena y'.arena i b
        were i (on_heap x) e = heap_was (stack_from y.arena) i x w.boxes e
        were i (on_stack x) e = (
          (later_cut (stack_from y.arena) w).none_new i x e,
          word_beside x (λ same. omega (arith, same, control.high, stack_higher, stack_above (stack_from y.arena) i x w.boxes e)),
        )
        were i gone e = tt

    represents : Represents setting.names (tables setting.program) w.places z.state y'
    represents =
        (own_words setting.names (tables setting.program) w.places z.state y y' 0 (control_spot setting) t.represents t.control
        (changes_in_spot skip word t.represents.arena control_stands aligned control.low (omega (arith, control.high)))
        (record { printed = refl; input = refl })).0

    pub same_memory : length y'.arena.memory ≡ length y.arena.memory
    same_memory = length-set y.arena.memory (skip / 4) (Some word)

    -- **the world goes on**
    pub world_stored : (skip ≡ end_address → ⊥) → WorldKept setting w (standing_world w y) z z y y'
    world_stored no_end = record {
      later = later_cut (stack_from y.arena) w;
      things = things_moved setting control t moves represents;
      stack = record {
        words = λ x low high plain. word_beside x (λ same. omega (arith, same, control.high, stack_higher, low));
        bindings = λ i a e low high. stack_stays (stack_from y.arena) i a w.boxes e low;
      };
      end = λ n e. word_beside end_address (λ same. no_end (sym same)) ∙ e;
      more_exits = omega arith;
      same_size = same_memory;
    }

    -- and what is around, where the word is none of those that say what that is
    pub around_stored :
        (credit : ℕ) → cost ≤ y.cost + credit → (skip ≡ current_address → ⊥) → (skip ≡ link_address → ⊥) → (skip ≡ handlers_address → ⊥) → (skip ≡ bindings_address → ⊥)
        → Around setting credit z z y y'
    around_stored credit few no_current no_link no_handlers no_bindings = record {
      control = record {
        current = λ n e. word_beside current_address (λ same. no_current (sym same)) ∙ e;
        link = λ n e. word_beside link_address (λ same. no_link (sym same)) ∙ e;
        handlers = λ n e. word_beside handlers_address (λ same. no_handlers (sym same)) ∙ e;
        bindings = λ n e. word_beside bindings_address (λ same. no_bindings (sym same)) ∙ e;
      };
      blocks = refl;
      charged = omega (arith, same_memory);
      paid = omega (arith, few);
    }

pub storing_law : (setting : Setting) → LawOfStoring setting
storing_law setting w z y address word cost t control aligned no_end =
    (word_stored setting t address word cost control aligned, world_stored setting t address word cost control aligned no_end)
