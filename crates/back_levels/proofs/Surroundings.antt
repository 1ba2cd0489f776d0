-- What is around where the record of the end stands, and where the form begins.
use Rattle.std.proofs.Common.{◌≡◌, inl, inr, ℕ, ◌+◌, ◌*◌, [], ◌∷◌, length, refl, sym, ap, ◌∙◌, subst, arith}
use Rattle.lang_meaning.specs.State.{State, Exit, main_context, Limit, words, unlimited}
use Rattle.flat_language.specs.FlatState.{FlatState}
use Rattle.mid_code.specs.State.{MidState}
use Rattle.back_relation.specs.Setting.{Setting}
use Rattle.back_relation.specs.Room.{words_for_handler}
use Rattle.back_relation.specs.Worlds.{World, for_exit, Standing, IsIn, IsTagged}
use Rattle.back_relation.specs.StackWords.{RecordAt}
use Rattle.back_relation.specs.Things.{Things}
use Rattle.back_relation.specs.Around.{RoomFor, AroundStands}
use Rattle.back_levels.specs.Surroundings.{the_end, EndStands, LawOfMainSurroundings, LawOfMainForms}

module _ (setting : Setting) {w : World} {z : FlatState} {y : MidState} {r : Standing} (t : Things setting w z y) (e : EndStands w y r) where
  is_there : (v : Standing) → IsIn v (r ∷ []) → RecordAt w y v
  is_there v (inl same) = subst (λ u. RecordAt w y u) (sym same) e.there
  is_there v (inr none) = absurd none

  not_tagged : (x : Exit) (v : Standing) → IsIn v (r ∷ []) → v.role ≡ for_exit x → IsTagged x.kind → ⊥
  not_tagged x v (inl same) role tagged =
      let is : for_exit the_end ≡ for_exit x = sym e.role ∙ ap (λ (s : Standing). s.role) (sym same) ∙ role in
      let exit_is : the_end ≡ x = cc is in
      subst (λ (o : Exit). IsTagged o.kind) (sym exit_is) tagged
  not_tagged x v (inr none) role tagged = none

  pub surroundings : AroundStands setting w (r ∷ []) (r ∷ []) main_context z y
  surroundings =
      let made = t.serials.2 in
      record {
        current = r.address;
        link = r.address;
        handlers_cell = 0;
        bindings_cell = 0;
        current_word = e.current;
        link_word = e.link;
        handlers_word = e.no_handler;
        bindings_word = e.no_binding;
        chain = (refl, e.there.low, tt);
        records = is_there;
        links = (refl, inl refl, e.role, omega (arith, made), tt);
        handlers = refl;
        bindings = refl;
        ends_at_end = refl;
        end_record = r;
        end_valid = refl;
        end_word = e.end;
        end_form = e.end_form;
        tags_land = λ x v i role tagged. absurd (not_tagged x v i role tagged);
      }

main_room : (l : Limit) (n : ℕ) (z : State) (y : MidState) → RoomFor l n z y → RoomFor l (n + words_for_handler * 0) z y
main_room unlimited n z y h = tt
main_room (words m) n z y h = omega (arith, h)

pub main_surroundings_law : LawOfMainSurroundings
main_surroundings_law setting w z y r t e = surroundings setting t e

pub main_forms_law : LawOfMainForms
main_forms_law setting n w z y r regs t e room none many = record {
  call = record { things = t; around_stands = surroundings setting t e; room = main_room setting.limit n z.state y room };
  activation = record {
    slot_count = ap length (sym none);
    home_count = ap length (sym none);
    homes = λ i h f. absurd (cc f);
    slots = λ i x f g. absurd (cc g);
    exit_count = refl;
    flat_count = refl;
    exits = λ i x f. absurd (cc f);
    exit_forms = λ i x f. absurd (cc f);
    kinds = tt;
    made_by = tt;
    self = tt;
    method = tt;
    site = inl (refl, refl);
  };
  scope = record {
    slots_below = λ i x f. absurd (cc f);
    slots_apart = λ i j x f g. absurd (cc f);
    exits = λ i x f. absurd (cc f);
    self = (omega arith, λ i f. absurd (cc f));
    method = λ m f. absurd (cc f);
    site = λ x f. absurd (cc f);
  };
  method_there = tt;
  first = many;
}
