-- A function is entered at its body, where there is a level and the words of its application.
use Rattle.std.proofs.Common.{◌≡◌, ℕ, zero, suc, ◌+◌, ◌*◌, ◌≤◌, Bool, true, List, [], ◌++◌, length, None, refl, sym, ap, ◌∙◌, subst, arith}
use Rattle.std.specs.Prelude.{slice_get, is_some, option_to_list, if◌then◌else◌}
use Rattle.std.proofs.lemmas.Bool.{eq-eqb}
use Rattle.std.proofs.lemmas.List.{append-nil}
use Rattle.lang_meaning.specs.Counts.{application_words}
use Rattle.lang_meaning.specs.Objects.{program_error_class}
use Rattle.lang_meaning.specs.Signals.{takes}
use Rattle.lang_meaning.specs.State.{DynamicContext, Limit, words, unlimited, has_room}
use Rattle.lang_meaning.specs.Values.{Value}
use Rattle.flat_language.specs.declared.program.FlatProcedure.{FlatProcedure}
use Rattle.flat_language.specs.FlatNodes.{homes, nodes}
use Rattle.flat_language.specs.FlatSignals.{FlatSignals, form, enter, gathered, with_record, with_boxes}
use Rattle.flat_language.specs.FlatState.{Captured, no_environment, FlatState, FlatEvaluated, charged, in_frame, in_own_frame, with_slots}
use Rattle.flat_laws.specs.FlatLater.{FlatLater}
use Rattle.flat_laws.proofs.Applied.{boxes}
use Rattle.flat_laws.proofs.Combined.{own_slots_left}
use Rattle.flat_laws.proofs.Later.{later_kept}
use Rattle.mid_code.specs.Law.{Grown}
use Rattle.mid_code.specs.Meaning.{enter as mid_enter, count}
use Rattle.mid_code.specs.State.{MidState}
use Rattle.mid_code.specs.State.{charged as mid_charged}
use Rattle.mid_code.proofs.Growth.{both_grown, charged_grown, with_some_grown, count_grown, levels_grow, turns_grow}
use Rattle.mid_arena.specs.Places.{WordsOf}
use Rattle.back_lowering.specs.Placement.{body_of_procedure}
use Rattle.back_lowering.specs.Program.{Extra, nothing, its_method, itself, body_of}
use Rattle.back_lowering.specs.Sites.{asks_site}
use Rattle.back_relation.specs.Setting.{Setting}
use Rattle.back_relation.specs.Room.{routine_words, words_for_handler}
use Rattle.back_relation.specs.Things.{Things}
use Rattle.back_relation.specs.Worlds.{World, Standing}
use Rattle.back_relation.specs.Around.{RoomFor, CallBegins, SiteStored}
use Rattle.back_relation.specs.Ends.{SparingCall}
use Rattle.back_relation.specs.Forms.{below_at, context_at, code_at}
use Rattle.back_relation.specs.Procedures.{called, mean_inside, body_room, body_credit, ExtraGiven, BodyBegins}
use Rattle.back_relation.proofs.Growth.{same_flat}
use Rattle.back_relation.proofs.Straight.{things_units, world_cost, around_cost}
use Rattle.back_calling.proofs.Entered.{no_level_at}
use Rattle.back_calling.proofs.Growing.{tasks_below}
use Rattle.back_calling.proofs.Inner.{going_on_law}
use Rattle.back_calling.proofs.Units.{calls_recounted}
use Rattle.back_calling.specs.Applying.{LawOfApplyingBodies}
use Rattle.back_calling.proofs.Charging.{asked, things_charged, around_charged, framed_ends, within_asked}
use Rattle.back_calling.proofs.Levels.{level_there}

module _ (setting : Setting) where
  pub called_grows : (k turns number : ℕ) (ws : List ℕ) (y : MidState) → Grown y (called (code_at setting k turns) number ws y).state
  called_grows k turns number ws y =
      with_some_grown (slice_get setting.procedures number) (λ p rs x. count (code_at setting k turns) p.counted (mid_enter p ws) x) [] y
      (λ p.
      count_grown (code_at setting k turns) (levels_grow setting.procedures setting.turns_each k)
      (turns_grow setting.procedures _ (levels_grow setting.procedures setting.turns_each k) turns) p.counted (mid_enter p ws) y)

  -- ---- bodies

  module _ (j m n entry : ℕ) (extra : Extra) (q : FlatProcedure) (cs : List Captured) (vs : List Value) (around : DynamicContext) where
    abbrev size : ℕ
    size = application_words (nodes q.body) + length vs

    abbrev inner : FlatState → FlatEvaluated
    inner entered = mean_inside (context_at setting (suc j)) q cs None vs around (charged (length vs) entered)

    -- where the body begins
    abbrev at_body : FlatState → FlatState
    at_body z = charged (length vs) (asked size z)

    inside_later : (x : FlatState) → FlatLater x (mean_inside (context_at setting (suc j)) q cs None vs around x).state
    inside_later x =
        (boxes {R = FlatLater} {k = later_kept} setting.limit around.exits (homes q) x
        (λ ready. own_slots_left (homes q) vs ready (λ y. tasks_below setting (suc j) (form q.body) (record no_environment { captured = cs; method = None }) around y))).grows

    -- a function without further arguments
    entered_is : (wrong : FlatSignals) (z : FlatState) → q.rest ≡ None → length vs ≡ length q.required
        → enter (context_at setting (suc j)) wrong q cs None vs around z ≡ in_frame setting.limit size inner z
    entered_is wrong z none same =
        ap (λ t. either t (is_some q.rest)) takes_them ∙ ap (λ o. either true (is_some o)) none
      where
        either : Bool → Bool → FlatEvaluated
        either t rest =
            if t then
            in_frame setting.limit size
            (λ entered. gathered setting.limit (length q.required) rest vs (charged (length vs) entered) (λ ws gone.
            with_record setting.limit None q.keeps_method gone (λ recorded.
            with_boxes setting.limit (homes q) recorded (λ ready.
            in_own_frame (λ y.
            below_at setting (suc j) (form q.body) (record no_environment { captured = cs; method = None }) around (with_slots (homes q) ws y))
            ready))))
            z
            else wrong program_error_class [] around z

        takes_them : takes (length q.required) (is_some q.rest) (length vs) ≡ true
        takes_them = ap (λ o. takes (length q.required) (is_some o) (length vs)) none ∙ eq-eqb _ _ (sym same)

    homes_count : q.rest ≡ None → length (homes q) ≡ length q.required
    homes_count none = ap (λ o. length (q.required ++ option_to_list o)) none ∙ ap length (append-nil q.required)

    extra_charged : (w : World) (z z' : FlatState) (y : MidState) (given : List ℕ) (x : Extra) → z'.captured ≡ z.captured → ExtraGiven setting w z y x q cs None given
        → ExtraGiven setting w z' y x q cs None given
    extra_charged w z z' y given nothing e g = g
    extra_charged w z z' y given its_method e g = g
    extra_charged w z z' y given itself e g = rw e g

    begun :
        {rs valid : List Standing} {w : World} {z : FlatState} {y : MidState} {ws given : List ℕ} → has_room setting.limit (z.state.heap + z.state.stack + 0 + size) ≡ true → q.rest ≡ None → routine_words ≤ n
        → length vs ≡ length q.required → CallBegins setting rs valid n w around z y → WordsOf w.places vs ws → ExtraGiven setting w z y extra q cs None given
        → (asks_site q.body ≡ true → SiteStored setting around y)
        → BodyBegins setting rs valid extra q cs None vs ws given w around (charged (length vs) (asked size z)) y
    begun {w = w} {z = z} {y = y} {given = given} room none reserve same b variables extras site = record {
      call = record {
        things = things_units setting (length vs) (things_charged setting (asked size z) b.things refl refl refl refl refl (within_asked setting size z room));
        around_stands = around_charged setting (charged (length vs) (asked size z)) refl b.around_stands;
        room = room_by setting.limit b.room;
      };
      variables = variables;
      variable_count = same ∙ sym (homes_count none);
      extras = extra_charged w z (charged (length vs) (asked size z)) y given extra refl extras;
      site = site;
    }
      where
        room_by : (l : Limit) → RoomFor l (n + words_for_handler * length around.handlers) z.state y
            → RoomFor l (body_room q + words_for_handler * length around.handlers) (charged (length vs) (asked size z)).state y
        room_by unlimited h = tt
        room_by (words k) h = omega (arith, h, same, homes_count none, reserve)

  pub applying_bodies_law : LawOfApplyingBodies setting
  applying_bodies_law zero turns m n entry paid credit extra q wrong cs vs ws given rs valid w around z y found function fits none same fewer enough does reserve b things variables extras site =
      no_level_at setting turns (body_of_procedure setting.at entry) m (body_of setting.names setting.at setting.program extra q) (ws ++ given) w z y (mid_charged paid y) (charged 1 z) _ found refl refl
      (same_flat z) b.things
  applying_bodies_law (suc j) turns m n entry paid credit extra q wrong cs vs ws given rs valid w around z y found function fits none same fewer enough does reserve b things variables extras site =
      subst
      (λ r. SparingCall setting credit m rs valid w around z y r (called (code_at setting (suc j) turns) (body_of_procedure setting.at entry) (ws ++ given) (mid_charged paid y)))
      (sym (level_there setting j (λ entered. enter (context_at setting (suc j)) wrong q cs None vs around entered) around z ∙ entered_is j m n entry extra q cs vs around wrong z none same))
      (framed_ends setting 1 (size j m n entry extra q cs vs around) (inner j m n entry extra q cs vs around) things.represents.printed
      (both_grown (charged_grown paid y) (called_grows (suc j) turns (body_of_procedure setting.at entry) (ws ++ given) (mid_charged paid y)))
      (λ room. (
        (inside_later j m n entry extra q cs vs around (at_body j m n entry extra q cs vs around z)).stack,
        calls_recounted setting {c1 = body_credit q + paid} {m1 = setting.turns_each} (asked (size j m n entry extra q cs vs around) z) ((at_body j m n entry extra q cs vs around z).state.units + 1) (z.state.units + 1) (omega (arith, enough)) (omega (arith, fewer))
            (going_on_law setting paid (body_credit q) (body_credit q + paid) setting.turns_each setting.turns_each rs valid w w around (charged 1 (at_body j m n entry extra q cs vs around z)) (charged 1 (at_body j m n entry extra q cs vs around z)) y (mid_charged paid y) _ _
            (world_cost setting paid (things_units setting 1 (things_there room))) (around_cost setting (charged 1 (at_body j m n entry extra q cs vs around z)) y paid (omega arith)) (omega arith) (omega arith) refl
            (does j refl rs valid turns cs None vs ws given w around (at_body j m n entry extra q cs vs around z) (mid_charged paid y) function fits
            (begun j m n entry extra q cs vs around room none reserve same b variables extras site))),
      )))
    where
      things_there : (room : has_room setting.limit (z.state.heap + z.state.stack + 0 + size j m n entry extra q cs vs around) ≡ true) → Things setting w (at_body j m n entry extra q cs vs around z) y
      things_there room =
          things_units setting (length vs)
          (things_charged setting (asked (size j m n entry extra q cs vs around) z) things refl refl refl refl refl (within_asked setting (size j m n entry extra q cs vs around) z room))
