-- A serial number is drawn for an exit that no form made.
use Rattle.std.proofs.Common.{◌≡◌, ℕ, ◌+◌, ◌<◌, ◌≤◌, true, false, List, [], ◌∷◌, ◌++◌, Option, Some, None, refl, ap, ◌∙◌, arith}
use Rattle.std.specs.Prelude.{slice_get, ◌==◌, ◌/◌, ◌^◌, ◌-◌, pos}
use Rattle.std.proofs.Math.ListN.{length-set}
use Rattle.std.proofs.lemmas.Bool.{ne_eqb}
use Rattle.std.proofs.lemmas.Bool.Decides.{nat_tests}
use Rattle.std.proofs.lemmas.List.{length-append}
use Rattle.base.specs.Names.{slice_get-front}
use Rattle.lang_meaning.specs.declared.scope.ExitForm.{ExitForm}
use Rattle.flat_language.specs.FlatState.{FlatState, exit_made}
use Rattle.mid_code.specs.declared.operation.Operation.TheVariants.{Draw}
use Rattle.mid_code.specs.Arena.{stack_from, word_at, with_word}
use Rattle.mid_code.specs.Meaning.{Context, draw, exec_step}
use Rattle.mid_code.specs.Meaning.{store as mid_store}
use Rattle.mid_code.specs.MidCode.{perform}
use Rattle.mid_code.specs.State.{Registers, register, exhausted, ends, gives, with_some, choose_by, charged, MidState}
use Rattle.mid_code.specs.Words.{address}
use Rattle.mid_arena.specs.Places.{of_other}
use Rattle.mid_arena.specs.Standing.{SpotStands}
use Rattle.mid_arena.proofs.Growing.{spot_below}
use Rattle.mid_arena.proofs.Memory.{in_spot_lent, in_spot_there, word_here, word_elsewhere}
use Rattle.mid_arena.proofs.OwnWords.{changes_in_spot}
use Rattle.mid_arena.proofs.Running.{address_up}
use Rattle.back_lowering.specs.ControlWords.{serials_address, current_address, link_address, handlers_address, bindings_address, site_address, end_address}
use Rattle.back_lowering.specs.Placement.{global_address, dynamic_address}
use Rattle.back_relation.specs.Setting.{Setting, control_spot}
use Rattle.back_relation.specs.Worlds.{World, BoxPlace, on_heap, on_stack, gone}
use Rattle.back_relation.specs.StackWords.{HasWordAt}
use Rattle.back_relation.specs.Things.{Things}
use Rattle.back_relation.specs.Around.{SiteStored}
use Rattle.lang_meaning.specs.State.{DynamicContext}
use Rattle.back_relation.specs.Ends.{WorldKept, Around}
use Rattle.back_relation.specs.Cuts.{boxes_cut}
use Rattle.back_relation.proofs.Cuts.{later_cut}
use Rattle.back_relation.proofs.Boxes.{cut_count, heap_was, stack_above, stack_stays}
use Rattle.back_exits.specs.Going.{BoxWas, GoesOn, world_with}
use Rattle.back_exits.proofs.Moving.{things_go_on}

-- serial numbers have ended
pub draw_ends :
    (c : Context) (regs : Registers) (y : MidState) (r base b k w : ℕ) → register base regs ≡ Some b → b + k < 2 ^ 32 → word_at y.arena (b + k) ≡ Some w → (w == 2 ^ 32 - 1) ≡ true
    → exec_step c (perform (Draw r base (pos k))) regs y ≡ ends exhausted regs (charged 26 y)
unfolding exec_step with_some choose_by
draw_ends c regs y r base b k w held low word last =
    ap (λ o. with_some o (λ x. draw r (address x (pos k))) regs (charged 26 y)) held
    ∙ ap (λ x. draw r x regs (charged 26 y)) (address_up b k low)
    ∙ ap (λ o. with_some o (λ n. choose_by (n == 2 ^ 32 - 1) (ends exhausted) (mid_store (b + k) (n + 1) (gives r (n + 1)))) regs (charged 26 y)) word
    ∙ ap (λ t. choose_by t (ends exhausted) (mid_store (b + k) (w + 1) (gives r (w + 1))) regs (charged 26 y)) last

module _ (setting : Setting) {w : World} {z : FlatState} {y : MidState} (t : Things setting w z y) (cost drawn : ℕ) (drawn_there : HasWordAt y serials_address drawn)
    (counted : drawn + 1 ≡ z.state.exits) (small : drawn < 2 ^ 32) (fewer : (drawn == 2 ^ 32 - 1) ≡ false) where
  abbrev forms : List (Option ExitForm)
  forms = w.exit_forms ++ None ∷ []

  abbrev from : ℕ
  from = stack_from y.arena

  -- the world where no form made the exit
  abbrev pub drawn_world : World
  drawn_world = world_with (boxes_cut from w.boxes) forms w

  abbrev pub drawn_state : MidState
  drawn_state = record y { arena = with_word serials_address (drawn + 1) y.arena; cost = cost }

  control_stands : SpotStands y.arena (control_spot setting)
  control_stands = t.represents.spots (of_other 1) (control_spot setting) t.control

  beside : (x : ℕ) → (serials_address ≡ x → ⊥) → word_at drawn_state.arena x ≡ word_at y.arena x
  beside x other = word_elsewhere y.arena serials_address (drawn + 1) x refl (ne_eqb serials_address x other)

  box_was : (i : ℕ) (b : BoxPlace) → slice_get (boxes_cut from w.boxes) i ≡ Some b → BoxWas w y.arena drawn_state.arena i b
  box_was i (on_heap x) e = heap_was from i x w.boxes e
  box_was i (on_stack x) e =
      let low = stack_above from i x w.boxes e in
      let high = t.represents.arena.room in
      let ends = t.represents.spots (of_other 1) (control_spot setting) t.control in
      ((later_cut from w).none_new i x e, beside x (λ same. low_control x same (omega (arith, low, high))))
    where
      low_control : (x : ℕ) → serials_address ≡ x → y.arena.heap_to ≤ x → ⊥
      low_control x same h =
          let low = spot_below t.represents.arena control_stands in omega (arith, same, h, low)
  box_was i gone e = tt

  goes_on : GoesOn setting w (boxes_cut from w.boxes) forms (z.state.exits + 1) y drawn_state
  goes_on = record {
    changes = changes_in_spot serials_address (drawn + 1) t.represents.arena control_stands refl (omega arith) (omega arith);
    streams = record { printed = refl; input = refl };
    globals = λ n has. beside (global_address setting.at n) (λ same. omega (arith, same, has));
    dynamics = λ n has. beside (dynamic_address setting.at n) (λ same. omega (arith, same, has));
    serials = (
      drawn + 1,
      word_here y.arena serials_address (drawn + 1) (in_spot_lent serials_address control_stands refl (omega arith) (omega arith)) (in_spot_there serials_address t.represents.arena control_stands (omega arith)),
      ap (λ n. n + 1) counted,
      few drawn small fewer,
    );
    box_count = cut_count from w.boxes;
    boxes_were = box_was;
    boxes_kept = λ i a e. (later_cut from w).boxes i a e;
    form_count = let many = t.exit_forms in length-append w.exit_forms (None ∷ []) ∙ ap (λ n. n + 1) many;
    forms_kept = λ e o h. slice_get-front w.exit_forms (None ∷ []) e o h;
  }
    where
      few : (n : ℕ) → n < 2 ^ 32 → (n == 2 ^ 32 - 1) ≡ false → n + 1 < 2 ^ 32
      few n h e = grind (arith, nat_tests)

  pub drawn_kept : WorldKept setting w drawn_world z (exit_made z) y drawn_state
  drawn_kept = record {
    later =
        let cut = later_cut from w in
        record { spots = λ p s e. e; boxes = cut.boxes; methods = λ i m e. e; exit_forms = λ e o h. slice_get-front w.exit_forms (None ∷ []) e o h; none_new = cut.none_new };
    things = things_go_on setting (z.state.exits ∷ z.state.made) t goes_on;
    stack = record {
      words = λ x low high plain. goes_on.changes.stack x low high;
      bindings = λ i a e low high. stack_stays from i a w.boxes e low;
    };
    end = λ n e. beside end_address (λ e. absurd (omega arith)) ∙ e;
    more_exits = omega arith;
    same_size = length-set y.arena.memory (serials_address / 4) (Some (drawn + 1));
  }

  pub drawn_around : Around setting cost z (exit_made z) y drawn_state
  drawn_around = record {
    control = record {
      current = λ n e. beside current_address (λ e. absurd (omega arith)) ∙ e;
      link = λ n e. beside link_address (λ e. absurd (omega arith)) ∙ e;
      handlers = λ n e. beside handlers_address (λ e. absurd (omega arith)) ∙ e;
      bindings = λ n e. beside bindings_address (λ e. absurd (omega arith)) ∙ e;
    };
    blocks = refl;
    charged = let size = length-set y.arena.memory (serials_address / 4) (Some (drawn + 1)) in omega (arith, size);
    paid = omega arith;
  }

  pub drawn_site : (a : DynamicContext) → SiteStored setting a y → SiteStored setting a drawn_state
  drawn_site a s = (s.0, beside site_address (λ e. absurd (omega arith)) ∙ s.1, s.2)
