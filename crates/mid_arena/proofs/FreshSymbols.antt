-- A fresh symbol is made with the serial that comes next, as the meaning says.
use Rattle.std.proofs.Common.{◌≡◌, ℕ, ◌+◌, ◌*◌, ◌/◌, ◌%◌, ◌^◌, ◌≤◌, List, [], ◌∷◌, Some, None, refl, ap, ◌∙◌, arith}
use Rattle.std.specs.Prelude.{slice_get}
use Rattle.std.proofs.Math.ListN.{length-set}
use Rattle.lang_meaning.specs.declared.program.ProgramRows.{ProgramRows}
use Rattle.lang_meaning.specs.declared.primitive.Primitive.TheVariants.{Gensym}
use Rattle.lang_meaning.specs.Objects.{Object, fresh_symbol}
use Rattle.lang_meaning.specs.State as meaning
use Rattle.lang_meaning.specs.Primitives.{makes_symbol, primitive}
use Rattle.mid_code.specs.declared.program.MidProcedure.{MidProcedure}
use Rattle.mid_code.specs.Arena.{Arena, words_of, left, word_at, with_word}
use Rattle.mid_code.specs.MidCode.{code_of}
use Rattle.mid_code.specs.State.{Registers, MidState, MidOutcome, returns, no_room, ends, first_registers}
use Rattle.mid_code.specs.Meaning.{Task, Context}
use Rattle.mid_arena.specs.Tags.{object_tag, fresh_header}
use Rattle.mid_arena.specs.Places.{Spot, Places, with_object}
use Rattle.mid_arena.specs.FixedWords.{serial_address}
use Rattle.mid_arena.specs.Layouts.{PairAt}
use Rattle.mid_arena.specs.Represents.{Represents}
use Rattle.mid_arena.specs.Answers.{Done, done}
use Rattle.mid_arena.specs.Codes.{code_of_primitive}
use Rattle.mid_arena.proofs.Memory.{heap_below}
use Rattle.mid_arena.specs.Growing.{Changes, Grows}
use Rattle.mid_arena.proofs.WordFacts.{next_serial}
use Rattle.mid_arena.proofs.Running.{RunsTo, and_then, and_ends, costing, constant_falls, compute_falls, compute_known, load_falls, store_falls, store_in_heap, request_falls, request_wanting}
use Rattle.mid_arena.proofs.Running.{return_ends, address_above, address_here}
use Rattle.mid_arena.proofs.Representing.{kept_both, kept_made, kept_grown, kept_fixed}
use Rattle.mid_arena.proofs.FixedChanges.{one_word, represents_serial, word_of_fixed}
use Rattle.mid_arena.proofs.Making.{Room, is_left, is_wanting, room_for, begun, begun_grows, begun_heap, begun_blocks, begun_word}
use Rattle.mid_arena.proofs.Making.{changes_stored, fixed_below, answers_wanting, fixed_still_lent, stored_fixed}
use Rattle.mid_arena.proofs.Making.{represents_new, pointer_made}
use Rattle.mid_arena.proofs.Doing.{alike_self, Run, paid}
use Rattle.mid_arena.proofs.Taking.{does_none}
use Rattle.mid_arena.proofs.Entering.{InEveryFrame}

-- the word of the serial that comes next, and that of the one behind it
abbrev serial_word : meaning.State → ℕ
serial_word z = 4 * (z.symbols % 2 ^ 29)

abbrev next_word : meaning.State → ℕ
next_word z = 4 * ((z.symbols + 1) % 2 ^ 29)

module _ (names : List (List ℕ)) (program : ProgramRows) (places : Places) (z : meaning.State) (y : MidState) (r : Represents names program places z y) (room : 2 ≤ left y.arena) where
  -- the arena where the two words of the symbol were stored, and the one where the serial was, too
  abbrev symbol_arena : Arena
  symbol_arena = begun 2 (fresh_header ∷ serial_word z ∷ []) y.arena

  abbrev serial_arena : Arena
  serial_arena = with_word serial_address (next_word z) symbol_arena

  grown : Grows y.arena symbol_arena
  grown = begun_grows 2 (fresh_header ∷ serial_word z ∷ []) r.arena room (omega arith)

  -- the code comes to the pointer to the symbol, with these words stored
  gensym_ends :
      {c : Context} (k : ℕ)
      → RunsTo c (code_of (code_of_primitive Gensym)) (first_registers 8 []) (paid y k)
      (ends (returns (y.arena.heap_to + 2))
      (None ∷ None ∷ None ∷ Some (y.arena.heap_to + 2) ∷ Some (next_word z) ∷ None ∷ Some 2 ∷ None ∷ [])
      (record y { arena = serial_arena; cost = k + 154 }))
  gensym_ends k =
      let small = heap_below r.arena in
      let fixed = fixed_below names program places z y r in
      let loaded : word_at (begun 2 (fresh_header ∷ []) y.arena) serial_address ≡ Some (serial_word z) =
      (begun_grows 2 (fresh_header ∷ []) r.arena room (omega arith)).words serial_address (omega arith) ∙ r.fixed.serial in
      costing
      (and_then constant_falls
      (and_then (request_falls refl room)
      (and_then constant_falls
      (and_then (store_in_heap refl refl (address_here y.arena.heap_to (omega arith)) r.arena.aligned (omega (arith, r.arena.heap)) (omega arith))
      (and_then constant_falls
      (and_then (load_falls refl (address_above 0 serial_address serial_address refl (omega arith)) loaded)
      (and_then (store_in_heap refl refl (address_above y.arena.heap_to 4 (y.arena.heap_to + 4) refl (omega arith)) (omega (arith, r.arena.aligned)) (omega (arith, r.arena.heap)) (omega arith))
      (and_then constant_falls
      (and_then (compute_falls refl refl)
      (and_then constant_falls
      (and_then (compute_falls refl refl)
      (and_then constant_falls
      (and_then (compute_known refl refl (next_serial z.symbols))
      (and_then constant_falls
      (and_then
      (store_falls refl refl (address_above 0 serial_address serial_address refl (omega arith))
      (fixed_still_lent names program places z y r symbol_arena grown serial_address refl (omega arith)))
      (and_then constant_falls
      (and_then (compute_known refl refl (omega arith))
      (and_ends tt (return_ends refl))))))))))))))))))) (omega arith)

  -- the fresh symbol is made, and the serial behind it comes next
  gensym_done : (rs : Registers) (k : ℕ) → Done names program places z y (makes_symbol z) (ends (returns (y.arena.heap_to + 2)) rs (record y { arena = serial_arena; cost = k }))
  gensym_done rs k = record {
    word = y.arena.heap_to + 2;
    end = refl;
    of_value = pointer_made names program places z y r 2 object_tag one with_symbol grown to blocks refl refl (omega arith) (omega arith) z (alike_self z) made tt;
    represents = represents_serial names program after (meaning.stored one z) with_symbol there (z.symbols + 1) last changes serial refl refl;
    arena = record {
      size = length-set symbol_arena.memory (serial_address / 4) (Some (next_word z)) ∙ grown.size;
      laid_from = grown.laid_from;
      laid_to = grown.laid_to;
      heap_from = grown.heap_from;
      heap_to = to;
    };
    blocks = blocks;
    kept =
        kept_both places z y.arena symbol_arena serial_arena (kept_grown names program places z y r symbol_arena grown)
        (kept_made places z spot one symbol_arena serial_arena
        (kept_fixed names program after (meaning.stored one z) with_symbol there serial_arena
        (word_of_fixed names program after (meaning.stored one z) with_symbol there serial_address serial_arena (omega arith) changes)))
        (omega (arith, grown.size, ap words_of blocks));
  }
    where
      one : Object
      one = fresh_symbol z.symbols

      spot : Spot
      spot = record { address = y.arena.heap_to; words = 2; tag = object_tag }

      after : Places
      after = with_object spot places

      with_symbol : MidState
      with_symbol = record y { arena = symbol_arena }

      last : MidState
      last = record y { arena = serial_arena; cost = k }

      to : symbol_arena.heap_to ≡ y.arena.heap_to + 4 * 2
      to = begun_heap 2 (fresh_header ∷ serial_word z ∷ []) y.arena

      blocks : symbol_arena.blocks ≡ y.arena.blocks
      blocks = begun_blocks 2 (fresh_header ∷ serial_word z ∷ []) y.arena

      stored : (x i w : ℕ) → x ≡ y.arena.heap_to + 4 * i → slice_get (fresh_header ∷ serial_word z ∷ []) i ≡ Some w → word_at symbol_arena x ≡ Some w
      stored x i w same e = begun_word 2 (fresh_header ∷ serial_word z ∷ []) x i w r.arena room (omega arith) same e

      made : PairAt symbol_arena spot fresh_header (serial_word z)
      made = record {
        size = record { words = refl; tag = refl };
        header = stored y.arena.heap_to 0 fresh_header (omega arith) refl;
        word = stored (y.arena.heap_to + 4) 1 (serial_word z) (omega arith) refl;
      }

      there : Represents names program after (meaning.stored one z) with_symbol
      there = represents_new names program places z y r 2 object_tag one with_symbol grown to blocks refl refl (omega arith) (omega arith) z (alike_self z) made tt

      changes : Changes (one_word serial_address) symbol_arena serial_arena
      changes = changes_stored serial_address (next_word z) grown.stands refl (omega (arith, fixed_below names program after (meaning.stored one z) with_symbol there))

      serial : word_at serial_arena serial_address ≡ Some (next_word z)
      serial = stored_fixed names program after (meaning.stored one z) with_symbol there serial_address (next_word z) refl (omega arith)

module _
    (names : List (List ℕ)) (program : ProgramRows) (places : Places) (z : meaning.State) (y : MidState) (r : Represents names program places z y)
    (procedures : List MidProcedure) (below : Task → MidState → MidOutcome)
  where
    -- it is made, or its words are not left
    gensym_run :
        (n : ℕ) → Run names program places z y procedures below n (y.cost + 130 + 244 * 0) (primitive names program Gensym [] z) (code_of (code_of_primitive Gensym))
        (first_registers 8 []) y.cost
    gensym_run n = by (room_for 2 y.arena)
      where
        by : Room 2 y.arena → Run names program places z y procedures below n (y.cost + 130 + 244 * 0) (makes_symbol z) (code_of (code_of_primitive Gensym)) (first_registers 8 []) y.cost
        by (is_wanting lacking) = record {
          outcome = ends (no_room 2 (left y.arena)) (None ∷ None ∷ None ∷ Some 2 ∷ None ∷ None ∷ None ∷ None ∷ []) (paid y (y.cost + 26));
          runs = costing (and_then constant_falls (and_ends tt (request_wanting refl lacking))) (omega arith);
          answers = answers_wanting names program places z y r 2 _ (y.cost + 26) lacking refl (omega arith);
        }
        by (is_left room) = record {
          outcome = _;
          runs = gensym_ends names program places z y r room y.cost;
          answers = record { comes = done (gensym_done names program places z y r room _ (y.cost + 154)); cost = omega arith };
        }

pub gensym_does : InEveryFrame Gensym
gensym_does = does_none Gensym refl (λ names program places z y procedures below n r are units. gensym_run names program places z y r procedures below n)
