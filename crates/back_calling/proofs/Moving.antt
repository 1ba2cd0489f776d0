-- Where a control word is stored or a frame is laid, what words say goes on being said.
use Rattle.std.proofs.Common.{◌≡◌, ℕ, ◌<◌, ◌≤◌, false, List, length, Some, refl, sym, ◌∙◌, arith}
use Rattle.std.specs.Prelude.{slice_get}
use Rattle.std.proofs.lemmas.Bool.{ne_eqb}
use Rattle.flat_language.specs.FlatNodes.{tables}
use Rattle.flat_language.specs.FlatState.{FlatState}
use Rattle.mid_code.specs.Arena.{word_at}
use Rattle.mid_code.specs.State.{MidState}
use Rattle.mid_arena.specs.Places.{Spot, end_of, Owner, of_object, of_other, same_owner, spot_of}
use Rattle.mid_arena.specs.Represents.{Represents}
use Rattle.mid_arena.specs.Standing.{Apart, in_front, behind}
use Rattle.back_lowering.specs.ControlWords.{variables_address, serials_address}
use Rattle.back_relation.specs.Setting.{Setting, control_spot}
use Rattle.back_relation.specs.Worlds.{World, BoxPlace, on_heap}
use Rattle.back_relation.specs.Things.{Things}
use Rattle.back_relation.proofs.Moving.{BoxWas, Goes, things_go_on}
use Rattle.back_calling.specs.Storing.{IsControl}

-- all words but one are as they were, and no variable stands there; the heap is no smaller
pub record Moves (w : World) (boxes : List BoxPlace) (y y' : MidState) (skip : ℕ) : Type 0 where
  pub same : (x : ℕ) → (x ≡ skip → ⊥) → word_at y'.arena x ≡ word_at y.arena x
  pub heap : y.arena.heap_to ≤ y'.arena.heap_to
  pub count : length boxes ≡ length w.boxes
  pub were : (i : ℕ) (b : BoxPlace) → slice_get boxes i ≡ Some b → BoxWas w y.arena y'.arena i b
  pub kept : (i a : ℕ) → slice_get w.boxes i ≡ Some (on_heap a) → slice_get boxes i ≡ Some (on_heap a)

module _ (setting : Setting) {w : World} {z : FlatState} {y y' : MidState} {boxes : List BoxPlace} {skip : ℕ} (control : IsControl skip)
    (t : Things setting w z y) (g : Moves w boxes y y' skip) (represents : Represents setting.names (tables setting.program) w.places z.state y') where
  -- no word of another spot is a control word
  beside : (p : Owner) (s : Spot) → same_owner p (of_other 1) ≡ false → spot_of w.places p ≡ Some s → (x : ℕ) → s.address ≤ x → x < end_of s → word_at y'.arena x ≡ word_at y.arena x
  beside p s other e x low high = g.same x (λ same. by same (t.represents.apart p (of_other 1) s (control_spot setting) other e t.control))
    where
      by : x ≡ skip → Apart s (control_spot setting) → ⊥
      by same (in_front h) = omega (arith, same, h, high, control.low)
      by same (behind h) = omega (arith, same, h, low, control.high)

  -- the words of variables stand behind the control words
  named : (x : ℕ) → variables_address ≤ x → word_at y'.arena x ≡ word_at y.arena x
  named x h = g.same x (λ same. omega (arith, same, h, control.high))

  goes : Goes setting w boxes w.exit_forms z.state.exits z y y'
  goes = record {
    represents = represents;
    heap = g.heap;
    objects = λ i s e. beside (of_object i) s refl e;
    others = λ n s late e. beside (of_other n) s (ne_eqb n 1 (λ same. omega arith)) e;
    globals = λ n has. named _ has;
    dynamics = λ n has. named _ has;
    serials = (t.serials.0, g.same serials_address (λ same. control.no_serial (sym same)) ∙ t.serials.1, t.serials.2, t.serials.3);
    count = g.count;
    were = g.were;
    kept = g.kept;
    form_count = t.exit_forms;
    forms_kept = λ x o e. e;
  }

  -- **all things stand**
  pub things_moved : Things setting (record w { boxes = boxes }) z y'
  things_moved = things_go_on setting z.state.made t goes
