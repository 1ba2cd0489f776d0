-- What stands where control words and words of a new block are stored.
use Rattle.std.proofs.Common.{◌≡◌, ◌⊎◌, inl, inr, ℕ, ◌<◌, ◌≤◌, List, [], ◌∷◌, length, Option, Some, refl, ap, ◌∙◌, arith}
use Rattle.std.specs.Prelude.{slice_get}
use Rattle.lang_meaning.specs.declared.scope.ExitForm.{ExitForm}
use Rattle.flat_language.specs.FlatState.{FlatState}
use Rattle.mid_code.specs.Arena.{Arena, begin_of, stack_from, word_at, with_word}
use Rattle.mid_code.specs.State.{MidState}
use Rattle.mid_arena.specs.Growing.{Changes}
use Rattle.mid_arena.specs.Places.{Spot, end_of, of_other}
use Rattle.mid_arena.specs.Standing.{ArenaStands, SpotStands}
use Rattle.mid_arena.proofs.Growing.{changes_of_growing, spot_below}
use Rattle.mid_arena.proofs.OwnWords.{changes_further, changes_behind}
use Rattle.back_lowering.specs.ControlWords.{control_address, end_address}
use Rattle.back_lowering.specs.Placement.{global_address, dynamic_address}
use Rattle.back_relation.specs.Setting.{Setting, control_spot}
use Rattle.back_relation.specs.Placed.{IsPlaced}
use Rattle.back_relation.specs.Worlds.{World, BoxPlace, on_heap, on_stack, gone}
use Rattle.back_relation.specs.Things.{Things}
use Rattle.back_relation.specs.Ends.{WorldKept}
use Rattle.back_relation.specs.Cuts.{boxes_cut}
use Rattle.back_relation.specs.Stores.{stores, Aligned, Differs}
use Rattle.back_relation.proofs.Cuts.{later_cut}
use Rattle.back_relation.proofs.Windows.{stored_elsewhere, stored_size}
use Rattle.back_relation.proofs.Boxes.{cut_count, heap_was, stack_above, stack_stays}
use Rattle.back_exits.specs.Going.{BoxWas, world_with, exits_counted, GoesOn}
use Rattle.back_exits.specs.Touching.{IsStored, Touches, Touched, touched, ExitsMade, LawOfTouching}
use Rattle.back_exits.proofs.Moving.{things_go_on}

-- ---- stores

pub stored_blocks : (ps : List (ℕ × ℕ)) (a : Arena) → (stores ps a).blocks ≡ a.blocks
stored_blocks [] a = refl
stored_blocks (p ∷ ps) a = stored_blocks ps (with_word p.0 p.1 a)

pub stored_from : (ps : List (ℕ × ℕ)) (a : Arena) → stack_from (stores ps a) ≡ stack_from a
stored_from ps a = ap (λ n. begin_of n (stores ps a).blocks) (stored_size ps a) ∙ ap (begin_of (length a.memory)) (stored_blocks ps a)

pub stored_heap : (ps : List (ℕ × ℕ)) (a : Arena) → (stores ps a).heap_to ≡ a.heap_to
stored_heap [] a = refl
stored_heap (p ∷ ps) a = stored_heap ps (with_word p.0 p.1 a)

pub touches_aligned : (from to : ℕ) (ps : List (ℕ × ℕ)) → Touches from to ps → Aligned ps
touches_aligned from to [] t = tt
touches_aligned from to (p ∷ ps) t = (t.0, touches_aligned from to ps t.2)

pub touches_beside : (from to : ℕ) (ps : List (ℕ × ℕ)) (x : ℕ) → end_address ≤ x → (x < from) ⊎ (to ≤ x) → Touches from to ps → Differs x ps
touches_beside from to [] x far beside t = tt
touches_beside from to (p ∷ ps) x far beside t = (λ same. apart same t.1 beside, touches_beside from to ps x far beside t.2)
  where
    apart : p.0 ≡ x → IsStored p.0 ⊎ ((from ≤ p.0) × (p.0 < to)) → (x < from) ⊎ (to ≤ x) → ⊥
    apart same (inl h) b = omega (arith, same, h, far)
    apart same (inr h) (inl g) = omega (arith, same, h, g)
    apart same (inr h) (inr g) = omega (arith, same, h, g)

module _ {a : Arena} {s : Spot} (arena : ArenaStands a) (spot : SpotStands a s) (first : s.address ≤ control_address) (last : end_address ≤ end_of s) where
  changes_touched : (from to : ℕ) (ps : List (ℕ × ℕ)) (b : Arena) → a.heap_to ≤ from → to ≤ stack_from a → Touches from to ps → Changes s a b → Changes s a (stores ps b)
  changes_touched from to [] b low high t c = c
  changes_touched from to (p ∷ ps) b low high t c = changes_touched from to ps (with_word p.0 p.1 b) low high t.2 (one t.1)
    where
      one : IsStored p.0 ⊎ ((from ≤ p.0) × (p.0 < to)) → Changes s a (with_word p.0 p.1 b)
      one (inl h) = changes_further p.0 p.1 arena spot c t.0 (omega (arith, first, h)) (omega (arith, last, h))
      one (inr h) = changes_behind p.0 p.1 arena spot c t.0 (omega (arith, low, h)) (omega (arith, high, h))

-- ---- **all things stand**

module _ (setting : Setting) {w : World} {z : FlatState} {y : MidState} {b : Arena} {ps : List (ℕ × ℕ)} {cut : ℕ} {forms : List (Option ExitForm)} {exits : ℕ} (cost : ℕ) (made : List ℕ)
    (placed : IsPlaced setting) (t : Things setting w z y) (h : Touched y.arena b ps cut) (e : ExitsMade w z forms exits (stores ps b)) where
  abbrev y' : MidState
  y' = touched ps b cost y

  abbrev w' : World
  w' = world_with (boxes_cut cut w.boxes) forms w

  spot : SpotStands y.arena (control_spot setting)
  spot = t.represents.spots (of_other 1) (control_spot setting) t.control

  below_heap : end_of (control_spot setting) ≤ y.arena.heap_to
  below_heap = spot_below t.represents.arena spot

  changes : Changes (control_spot setting) y.arena (stores ps b)
  changes =
      changes_touched t.represents.arena spot (omega arith) (omega arith) h.from h.to ps b h.low h.high h.touches
      (changes_of_growing y.arena b (control_spot setting) h.grows below_heap)

  -- a word below the heap's end that is no control word which is stored
  word_below : (x : ℕ) → end_address ≤ x → x < y.arena.heap_to → word_at (stores ps b) x ≡ word_at y.arena x
  word_below x far low =
      let from = h.low in
      stored_elsewhere ps b x (touches_aligned h.from h.to ps h.touches) (touches_beside h.from h.to ps x far (inl (omega (arith, low, from))) h.touches)
      ∙ h.grows.words x low

  after : stack_from y'.arena ≡ stack_from b
  after = stored_from ps b

  box_was : (i : ℕ) (p : BoxPlace) → slice_get (boxes_cut cut w.boxes) i ≡ Some p → BoxWas w y.arena y'.arena i p
  box_was i (on_heap x) f = heap_was cut i x w.boxes f
  box_was i (on_stack x) f =
      let high = stack_above cut i x w.boxes f in
      ((later_cut cut w).none_new i x f, changes.stack x (omega (arith, high, h.before)) (omega (arith, high, h.after, after)))
  box_was i gone f = tt

  goes_on : GoesOn setting w (boxes_cut cut w.boxes) forms exits y y'
  goes_on = record {
    changes = changes;
    streams = record { printed = refl; input = refl };
    globals = λ n has. let word = placed.globals.there n has in word_below (global_address setting.at n) (omega (arith, has)) (omega (arith, word.below, below_heap));
    dynamics = λ n has. let word = placed.dynamics.there n has in word_below (dynamic_address setting.at n) (omega (arith, has)) (omega (arith, word.below, below_heap));
    serials = (e.drawn, e.word, e.count, e.low);
    box_count = cut_count cut w.boxes;
    boxes_were = box_was;
    boxes_kept = λ i x f. (later_cut cut w).boxes i x f;
    form_count = e.form_count;
    forms_kept = e.forms_kept;
  }

  pub world_touched : WorldKept setting w w' z (exits_counted exits made z) y y'
  world_touched = record {
    later = record {
      spots = λ p s f. f;
      boxes = λ i x f. (later_cut cut w).boxes i x f;
      methods = λ i m f. f;
      exit_forms = e.forms_kept;
      none_new = λ i x f. (later_cut cut w).none_new i x f;
    };
    things = things_go_on setting made t goes_on;
    stack = record {
      words = λ x low high plain. changes.stack x low high;
      bindings = λ i x f low high. stack_stays cut i x w.boxes f (h.least x low (omega (arith, high, after)));
    };
    end = λ n f. word_below end_address (omega arith) (omega (arith, below_heap)) ∙ f;
    more_exits = e.more;
    same_size = stored_size ps b ∙ h.grows.size;
  }

pub touching_law : LawOfTouching
touching_law setting w z y b ps cut cost forms exits made placed t h e = world_touched setting cost made placed t h e
