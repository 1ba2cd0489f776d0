-- Where control words are stored and boxes are gone, what words say goes on being said.
use Rattle.std.proofs.Common.{ℕ, List, Option, refl, arith}
use Rattle.std.proofs.lemmas.Bool.{ne_eqb}
use Rattle.lang_meaning.specs.declared.scope.ExitForm.{ExitForm}
use Rattle.flat_language.specs.FlatNodes.{tables}
use Rattle.flat_language.specs.FlatState.{FlatState}
use Rattle.mid_code.specs.State.{MidState}
use Rattle.mid_arena.specs.Law.{KeepsOthers}
use Rattle.mid_arena.specs.Places.{of_object, of_other}
use Rattle.mid_arena.specs.Represents.{Represents}
use Rattle.mid_arena.proofs.OwnWords.{own_words}
use Rattle.back_relation.specs.Setting.{Setting, control_spot}
use Rattle.back_relation.specs.Worlds.{World, BoxPlace, on_heap, on_stack, gone}
use Rattle.back_relation.specs.Things.{Things}
use Rattle.back_relation.proofs.Moving as moving
use Rattle.back_exits.specs.Going.{BoxWas, world_with, exits_counted, GoesOn, LawOfGoing}

module _ (setting : Setting) {w : World} {z : FlatState} {y y' : MidState} {boxes : List BoxPlace} {forms : List (Option ExitForm)} {exits : ℕ} (made : List ℕ)
    (t : Things setting w z y) (g : GoesOn setting w boxes forms exits y y') where
  moved : Represents setting.names (tables setting.program) w.places z.state y' × KeepsOthers w.places (of_other 1) y.arena y'.arena
  moved = own_words setting.names (tables setting.program) w.places z.state y y' 0 (control_spot setting) t.represents t.control g.changes g.streams

  was : (i : ℕ) (b : BoxPlace) → BoxWas w y.arena y'.arena i b → moving.BoxWas w y.arena y'.arena i b
  was i (on_heap x) h = h
  was i (on_stack x) h = h
  was i gone h = tt

  goes : moving.Goes setting w boxes forms exits z y y'
  goes = record {
    represents = moved.0;
    heap = g.changes.heap_to;
    objects = λ i s e. moved.1 (of_object i) s refl e;
    others = λ n s late e. moved.1 (of_other n) s (ne_eqb n 1 (λ same. omega arith)) e;
    globals = g.globals;
    dynamics = g.dynamics;
    serials = g.serials;
    count = g.box_count;
    were = λ i b e. was i b (g.boxes_were i b e);
    kept = g.boxes_kept;
    form_count = g.form_count;
    forms_kept = g.forms_kept;
  }

  -- **all things stand**
  pub things_go_on : Things setting (world_with boxes forms w) (exits_counted exits made z) y'
  things_go_on = moving.things_go_on setting made t goes

pub going_law : (setting : Setting) → LawOfGoing setting
going_law setting w z y y' boxes forms exits made t g = things_go_on setting made t g
