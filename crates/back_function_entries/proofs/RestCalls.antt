-- A function that takes further arguments is called by its number: their list is made in the words of the application, and the body is entered.
use Rattle.std.proofs.Common.{◌≡◌, inl, ℕ, suc, ◌+◌, ◌*◌, ◌<◌, ◌≤◌, Bool, true, false, List, [], ◌∷◌, ◌++◌, length, Option, Some, None, refl, sym, ap, ◌∙◌, subst, append_assoc, length-append, arith, zero}
use Rattle.std.specs.Prelude.{◌-◌, take, drop, slice_get, is_some, option_to_list, if◌then◌else◌}
use Rattle.std.proofs.lemmas.Bool.{le-leb}
use Rattle.mid_arena.proofs.Registers.{register_beside}
use Rattle.std.proofs.Math.ListN.{length-set}
use Rattle.back_lowering.specs.declared.scope.SitePlace.{SitePlace}
use Rattle.back_relation.specs.Ends.{full_there}
use Rattle.lang_meaning.specs.Counts.{application_words}
use Rattle.lang_meaning.specs.Objects.{program_error_class}
use Rattle.lang_meaning.specs.Signals.{takes}
use Rattle.lang_meaning.specs.State.{Limit, words, unlimited, has_room, room_left, full}
use Rattle.lang_meaning.specs.Values.{Value, nil}
use Rattle.flat_language.specs.declared.program.FlatProcedure.{FlatProcedure}
use Rattle.flat_language.specs.FlatNodes.{homes, nodes}
use Rattle.flat_language.specs.FlatSignals.{FlatSignals, form, descend, enter, make_list, gathered, with_record, with_boxes}
use Rattle.flat_language.specs.FlatState.{no_environment, FlatState, FlatEvaluated, charged, gives, with_stack, in_frame, in_own_frame, with_slots}
use Rattle.flat_laws.specs.FlatLater.{FlatLater}
use Rattle.flat_laws.proofs.Applied.{boxes, lists}
use Rattle.flat_laws.proofs.Combined.{own_slots_left}
use Rattle.flat_laws.proofs.Later.{later_kept}
use Rattle.mid_code.specs.Arena.{word_in}
use Rattle.mid_code.specs.Meaning.{Context, exec}
use Rattle.mid_code.specs.MidCode.{MidStep, code_of}
use Rattle.mid_code.specs.State.{Registers, MidState, MidOutcome}
use Rattle.mid_code.specs.State.{charged as mid_charged}
use Rattle.mid_arena.specs.Places.{WordsOf}
use Rattle.mid_arena.proofs.Running.{parts_then}
use Rattle.back_lowering.specs.Calls.{is_method, list_of, call_with_rest, enter_body, site_for, no_method}
use Rattle.back_lowering.specs.Placement.{body_of_procedure}
use Rattle.back_lowering.specs.Program.{extra_of}
use Rattle.back_lowering.specs.Registers.{of_code, enough_for}
use Rattle.back_lowering.specs.Routines.{level_routine}
use Rattle.back_lowering.specs.Scope.{registers_from}
use Rattle.back_lowering.specs.Sites.{asks_site}
use Rattle.back_lowering.specs.Steps.{Steps, constant}
use Rattle.back_lowering.specs.Steps as steps
use Rattle.back_relation.specs.Setting.{Setting}
use Rattle.back_relation.specs.Placed.{IsPlaced}
use Rattle.back_relation.specs.Room.{routine_words, words_for_handler}
use Rattle.back_relation.specs.Worlds.{World, Standing}
use Rattle.back_relation.specs.Around.{RoomFor}
use Rattle.back_relation.specs.Ends.{CallEnds, done, left_by, full_there, stopped, few_turns}
use Rattle.back_relation.specs.Forms.{FormEnds, below_at, context_at, code_at}
use Rattle.back_relation.specs.Procedures.{called, mean_inside, body_room, body_credit, BodyDoes, BodyBegins}
use Rattle.back_relation.specs.Starts.{FlatGrown, Start, EndsAt}
use Rattle.back_relation.proofs.Activations.{activation_later}
use Rattle.back_relation.proofs.Fitting.{registers_front, registers_behind}
use Rattle.back_relation.proofs.Growth.{grown_later, same_flat}
use Rattle.back_relation.proofs.Parts.{single_step, step_then}
use Rattle.back_relation.proofs.Starts.{start_after, reached_cost, behind}
use Rattle.back_relation.proofs.Straight.{things_units}
use Rattle.back_relation.proofs.Then.{ends_then}
use Rattle.back_relation.proofs.Worlds.{later_same}
use Rattle.back_relation.proofs.Straight.{same_here}
use Rattle.back_values.specs.Arguments as arguments
use Rattle.back_values.proofs.WordLists.{of_values_later, of_values_and_one}
use Rattle.back_calling.specs.Calling.{WordsIn, call_cost}
use Rattle.back_calling.proofs.Formed.{form_calls_law}
use Rattle.back_calling.proofs.Growing.{tasks_below}
use Rattle.back_calling.proofs.Units.{calls_spared}
use Rattle.back_calling.specs.Applying.{judging_cost}
use Rattle.back_calling.proofs.Levels.{form_levels_law}
use Rattle.back_calling.proofs.Charging.{asked, things_charged, around_charged, within_asked}
use Rattle.back_function_entries.proofs.KnownCalls.{Ready, ready, arguments_kept, registers_count, method_words, method_words_in, method_count, fits_nothing, extras_given, site_names}
use Rattle.back_values.proofs.BoxesMade.{steps_grow, full_printed}
use Rattle.back_function_entries.specs.Lists.{ListThere, list_credit}
use Rattle.back_function_entries.specs.RestCalls.{rest_credit, LawOfRestCalls}
use Rattle.back_function_entries.proofs.Framed.{form_framed}
use Rattle.back_function_entries.proofs.Lists.{lists_at_law}
use Rattle.back_function_entries.proofs.Words.{take_count, drop_count, words_taken, words_dropped, of_values_taken, of_values_dropped, as_many, words_and_rest}

-- a call does the same where fewer turns are left
fewer_turns :
    {setting : Setting} {credit m1 : ℕ} {rs valid : List Standing} {w : World} {around : _} {z : FlatState} {y : MidState} {r : FlatEvaluated} {q : MidOutcome} (m : ℕ) → m ≤ m1
    → CallEnds setting credit m1 rs valid w around z y r q → CallEnds setting credit m rs valid w around z y r q
fewer_turns m few (done x) = done x
fewer_turns m few (left_by x) = left_by x
fewer_turns m few (full_there x) = full_there x
fewer_turns m few (stopped x) = stopped x
fewer_turns m few (few_turns x) = few_turns (omega (arith, x, few))

one_home : {X : Type 0} (o : Option X) → is_some o ≡ true → length (option_to_list o) ≡ 1
one_home (Some x) e = refl
one_home None e = absurd (cc e)

first_named : (r : ℕ) (others : List ℕ) (m : ℕ) → enough_for (r ∷ others) ≤ m → r < m
first_named r others m h = omega (arith, h)

-- what comes behind the level: the list, and the body
abbrev behind_level : Setting → (number count : ℕ) → FlatProcedure → (d : ℕ) → SitePlace → Steps
behind_level setting number count q d site =
    list_of (count - length q.required) (d + length q.required) (d + count)
    ++ enter_body setting.at setting.program number q (registers_from d (length q.required) ++ (d + count) ∷ []) d (d + count + 1) site

-- what is paid of them
abbrev made_credit : ℕ → ℕ
made_credit n = 270 + 20 * n

module _ (setting : Setting) (placed : IsPlaced setting) (a : Start setting) (number : ℕ) (q : FlatProcedure) (wrong : FlatSignals) (vs : List Value) (ws : List ℕ)
    (found : slice_get setting.program.procedures number ≡ Some q) (takes_more : is_some q.rest ≡ true) (enough : length q.required ≤ length vs)
    (of_values : WordsOf a.w.places vs ws) (inside : arguments.WordsIn a.d ws a.regs) (reserve : routine_words ≤ a.n)
    (names : enough_for (of_code (code_of (behind_level setting number (length ws) q a.d a.s.code.site))) ≤ length a.regs) where
  abbrev required : ℕ
  required = length q.required

  abbrev e : ℕ
  e = a.d + length ws

  abbrev t : ℕ
  t = a.d + length ws + 1

  abbrev method : Bool
  method = is_method setting.program number

  abbrev args : List ℕ
  args = (registers_from a.d required ++ e ∷ []) ++ no_method method t

  abbrev the_call : MidStep
  the_call = steps.call a.d (body_of_procedure setting.at number) args

  abbrev before_call : Steps
  before_call = site_for (asks_site q.body) a.s.code.site t (t + 1) ++ (constant t 0 ∷ [])

  abbrev entering : Steps
  entering = enter_body setting.at setting.program number q (registers_from a.d required ++ e ∷ []) a.d t a.s.code.site

  abbrev listing : Steps
  listing = list_of (length ws - required) (a.d + required) e

  abbrev size : ℕ
  size = application_words (nodes q.body) + length vs

  -- ---- counts

  word_count : length ws ≡ length vs
  word_count = as_many a.w.places vs ws of_values

  rest_count : length (drop required ws) ≡ length ws - required
  rest_count = let all = drop_count required ws (omega (arith, enough, word_count)) in omega (arith, all)

  home_count : length (homes q) ≡ required + 1
  home_count = length-append q.required (option_to_list q.rest) ∙ ap (λ n. required + n) (one_home q.rest takes_more)

  args_count : length args ≤ required + 4
  args_count =
      let few = method_count method t in
      omega (arith, few, length-append (registers_from a.d required ++ e ∷ []) (no_method method t), length-append (registers_from a.d required) (e ∷ []), registers_count a.d required)

  listing_names : enough_for (of_code (code_of listing)) ≤ length a.regs
  listing_names = registers_front listing entering (length a.regs) names

  entering_names : enough_for (of_code (code_of entering)) ≤ length a.regs
  entering_names = registers_behind listing entering (length a.regs) names

  constant_there : t < length a.regs
  constant_there =
      first_named t (of_code (code_of (the_call ∷ []))) (length a.regs)
      (registers_behind (site_for (asks_site q.body) a.s.code.site t (t + 1)) (constant t 0 ∷ the_call ∷ []) (length a.regs) entering_names)

  both_there : asks_site q.body ≡ true → t + 1 < length a.regs
  both_there asks =
      let h = registers_front (site_for (asks_site q.body) a.s.code.site t (t + 1)) (constant t 0 ∷ the_call ∷ []) (length a.regs) entering_names in
      site_names a.s.code.site t (length a.regs) (subst (λ x. enough_for (of_code (code_of (site_for x a.s.code.site t (t + 1)))) ≤ length a.regs) asks h)

  -- ---- with a level

  module _ (j : ℕ) (fewer : a.turns ≤ setting.turns_each) (bodies : BodyDoes setting j number (extra_of setting.names setting.at setting.program number) q) where
    abbrev c : Context
    c = code_at setting (suc j) a.turns

    -- ---- the meaning

    abbrev inner : List Value → FlatState → FlatEvaluated
    inner variables x = mean_inside (context_at setting (suc j)) q [] None variables a.around x

    abbrev listed : FlatState → FlatEvaluated
    listed x = make_list setting.limit (drop required vs) x (λ tail after. inner (take required vs ++ tail ∷ []) after)

    inner_later : (variables : List Value) (x : FlatState) → FlatLater x (inner variables x).state
    inner_later variables x =
        (boxes {R = FlatLater} {k = later_kept} setting.limit a.around.exits (homes q) x
        (λ got. own_slots_left (homes q) variables got (λ y. tasks_below setting (suc j) (form q.body) (record no_environment { captured = []; method = None }) a.around y))).grows

    listed_later : (x : FlatState) → FlatLater x (listed x).state
    listed_later x =
        (lists {R = FlatLater} {k = later_kept} setting.limit a.around.exits (drop required vs) x
        (λ tail after.
        boxes {R = FlatLater} {k = later_kept} setting.limit a.around.exits (homes q) after
        (λ got.
        own_slots_left (homes q) (take required vs ++ tail ∷ []) got
        (λ y. tasks_below setting (suc j) (form q.body) (record no_environment { captured = []; method = None }) a.around y)))).grows

    entered_is : (z : FlatState) → enter (context_at setting (suc j)) wrong q [] None vs a.around z ≡ in_frame setting.limit size (λ entered. listed (charged (length vs) entered)) z
    entered_is z = ap (λ b. either b (is_some q.rest)) takes_them ∙ ap (λ b. either true b) takes_more
      where
        either : Bool → Bool → FlatEvaluated
        either b rest =
            if b then
            in_frame setting.limit size
            (λ entered. gathered setting.limit required rest vs (charged (length vs) entered) (λ us gone.
            with_record setting.limit None q.keeps_method gone (λ recorded.
            with_boxes setting.limit (homes q) recorded (λ got.
            in_own_frame (λ y.
            below_at setting (suc j) (form q.body) (record no_environment { captured = []; method = None }) a.around (with_slots (homes q) us y))
            got))))
            z
            else wrong program_error_class [] a.around z

        takes_them : takes required (is_some q.rest) (length vs) ≡ true
        takes_them = ap (λ b. takes required b (length vs)) takes_more ∙ le-leb _ _ enough

    -- ---- in the words of the application

    module _ (fits : has_room setting.limit (a.z.state.heap + a.z.state.stack + 0 + size) ≡ true) where
      abbrev z1 : FlatState
      z1 = charged (length vs) (asked size a.z)

      room_by : (l : Limit) → RoomFor l (a.n + words_for_handler * length a.around.handlers) a.z.state a.y
          → RoomFor l (body_room q + words_for_handler * length a.around.handlers) z1.state a.y
      room_by unlimited h = tt
      room_by (words k) h = omega (arith, h, home_count, enough, reserve)

      abbrev a1 : Start setting
      a1 = record {
        turns = a.turns;
        rs = a.rs;
        valid = a.valid;
        s = a.s;
        d = a.d;
        n = body_room q;
        w = a.w;
        env = a.env;
        around = a.around;
        z = z1;
        regs = a.regs;
        y = a.y;
        begins = record {
          call = record {
            things =
                things_units setting (length vs)
                (things_charged setting (asked size a.z) a.begins.call.things refl refl refl refl refl (within_asked setting size a.z fits));
            around_stands = around_charged setting z1 refl a.begins.call.around_stands;
            room = room_by setting.limit a.begins.call.room;
          };
          activation =
              activation_later setting {d = a.d} {y = a.y} {y' = a.y} (later_same a.w) (same_here a.w {y = a.y} {y' = a.y} refl) refl (λ n cs k. k) (λ r few. refl) a.begins.scope
              a.begins.activation;
          scope = a.begins.scope;
          method_there = a.begins.method_there;
          first = a.begins.first;
        };
      }

      module _ (tail : Value) (w' : World) (z' : FlatState) (regs' : Registers) (y' : MidState) (x : ListThere setting a1 e tail w' z' regs' y') where
        abbrev b : Start setting
        b = start_after setting a1 a1.d a1.d a1.n (omega arith) (omega arith) (omega arith) a1.begins.first x.reached

        abbrev variables : List Value
        variables = take required vs ++ tail ∷ []

        abbrev variable_words : List ℕ
        variable_words = take required ws ++ x.made.word ∷ []

        abbrev given : List ℕ
        given = method_words method

        abbrev paid : ℕ
        paid = call_cost args

        abbrev result : FlatEvaluated
        result = inner variables z'

        entered : Ready setting c b (asks_site q.body) before_call t → FormEnds setting (126 + 10 * (required + 1) + 40 + 6 * (required + 4)) a.turns a.rs a.valid a.s a.d w' a.env a.around z' regs' y' result (exec c (code_of entering) regs' y')
        entered r0 =
            let b2 : Start setting = start_after setting b b.d b.d b.n (omega arith) (omega arith) (omega arith) b.begins.first r0.reached in
            let b3 : Start setting = start_after setting b2 b2.d b2.d b2.n (omega arith) (omega arith) (omega arith) b2.begins.first
            (reached_cost setting {credit = paid} b2 b2.d paid (omega arith)) in
            let size0 = r0.reached.kept.registers.count in
            let taken : length (take required ws) ≡ required = take_count required ws (omega (arith, enough, word_count)) in
            let taken_values : length (take required vs) ≡ required = take_count required vs enough in
            let still : arguments.WordsIn a.d (take required ws) r0.regs =
            arguments_kept a.d (take required ws) a.regs r0.regs
            (λ r few. r0.below r (omega (arith, few, taken, enough, word_count)) ∙ ap word_in (x.made.below r (omega (arith, few, taken, enough, word_count))))
            (words_taken required a.d ws a.regs inside) in
            let words_there : WordsIn r0.regs args (variable_words ++ given) =
            words_and_rest a.d (take required ws) required e x.made.word r0.regs (no_method method t) given taken still (r0.below e (omega arith) ∙ x.made.in_register)
            (method_words_in method t r0.regs r0.none) in
            let of_variables : WordsOf w'.places variables variable_words =
            of_values_and_one w' (take required vs) (take required ws) tail x.made.word
            (of_values_taken required w'.places vs ws (of_values_later x.made.world.later vs ws of_values)) x.made.of_value in
            let begins : BodyBegins setting a.rs a.valid (extra_of setting.names setting.at setting.program number) q [] None variables variable_words given r0.w a.around z' (mid_charged paid r0.y) =
            record {
              call = b3.begins.call;
              variables = subst (λ places. WordsOf places variables variable_words) (sym r0.same_places) of_variables;
              variable_count = omega (arith, length-append (take required vs) (tail ∷ []), taken_values, home_count);
              extras = extras_given setting number q r0.w z' (mid_charged paid r0.y);
              site = r0.stored;
            } in
            let ends : CallEnds setting (10 * (required + 1)) a.turns a.rs a.valid r0.w a.around z' (mid_charged paid r0.y) result
            (called c (body_of_procedure setting.at number) (variable_words ++ given) (mid_charged paid r0.y)) =
            fewer_turns a.turns fewer
            (calls_spared setting {credit = body_credit q} (omega (arith, home_count))
            (bodies a.rs a.valid a.turns [] None variables variable_words given r0.w a.around z' (mid_charged paid r0.y) (inl (found, refl)) (fits_nothing setting number q r0.w) begins)) in
            let code : entering ≡ before_call ++ (the_call ∷ []) =
            sym (append_assoc (site_for (asks_site q.body) a.s.code.site t (t + 1)) (constant t 0 ∷ []) (the_call ∷ [])) in
            let run = parts_then {c = c} before_call (the_call ∷ []) r0.runs (record { same = single_step c the_call r0.regs r0.y }) in
            subst (λ o. EndsAt setting (126 + 10 * (required + 1) + 40 + 6 * (required + 4)) b result o) (sym (ap (λ ss. exec c (code_of ss) regs' y') code ∙ run.same))
            (ends_then setting {d = a.d} {d1 = a.d} (omega arith) r0.reached {c2 = 10 * (required + 1) + paid} {c = 126 + 10 * (required + 1) + 40 + 6 * (required + 4)}
            (omega (arith, home_count, args_count)) (omega arith)
            ((form_calls_law setting).by_number c b2 (10 * (required + 1)) a.d (body_of_procedure setting.at number) args (variable_words ++ given) result (omega arith) b2.begins.first words_there
            (inner_later variables z') ends))

        body_entered : FormEnds setting (126 + 10 * (required + 1) + 40 + 6 * (required + 4)) a.turns a.rs a.valid a.s a.d w' a.env a.around z' regs' y' result (exec c (code_of entering) regs' y')
        body_entered =
            let same = x.made.count in
            entered (ready setting c b t (omega arith) (omega (arith, same, constant_there)) (asks_site q.body) (λ asks. let both = both_there asks in omega (arith, same, both)))

      in_words : EndsAt setting (list_credit + (126 + 10 * (required + 1) + 40 + 6 * (required + 4))) a1 (listed z1) (exec c (code_of (listing ++ entering)) a.regs a.y)
      in_words =
          subst
          (λ n.
          EndsAt setting (list_credit + (126 + 10 * (required + 1) + 40 + 6 * (required + 4))) a1 (listed z1)
          (exec c (code_of (list_of n (a.d + required) e ++ entering)) a.regs a.y))
          rest_count
          (lists_at_law setting (suc j) (126 + 10 * (required + 1) + 40 + 6 * (required + 4)) a1 (drop required vs) (drop required ws) (a.d + required) e entering
          (λ tail after. inner (take required vs ++ tail ∷ []) after) placed (of_values_dropped required a.w.places vs ws of_values)
          (words_dropped required a.d (a.d + required) ws a.regs refl inside) (omega arith) (omega (arith, drop_count required ws (omega (arith, enough, word_count))))
          (subst (λ n. enough_for (of_code (code_of (list_of n (a.d + required) e))) ≤ length a.regs) (sym rest_count) listing_names)
          (λ tail after. grown_later (inner_later (take required vs ++ tail ∷ []) after))
          (λ tail w' z' regs' y' x. body_entered tail w' z' regs' y' x))

    -- the meaning only grows
    pub enter_grows : FlatGrown a.z (enter (context_at setting (suc j)) wrong q [] None vs a.around a.z).state
    enter_grows = subst (λ (r : FlatEvaluated). FlatGrown a.z r.state) (sym (entered_is a.z)) (by (has_room setting.limit (a.z.state.heap + a.z.state.stack + 0 + size)))
      where
        by : (b : Bool)
            → FlatGrown a.z
            (if b then with_stack a.z.state.stack (listed (charged (length vs) (asked size a.z)))
            else record { outcome = full (0 + size) (room_left setting.limit (a.z.state.heap + a.z.state.stack)); state = a.z }).state
        by true =
            let g = grown_later (listed_later (charged (length vs) (asked size a.z))) in
            let up = g.units in
            record { printed = g.printed; units = omega (arith, up); exits = g.exits }
        by false = same_flat a.z

    pub rest_calls : EndsAt setting (made_credit (length vs)) a (enter (context_at setting (suc j)) wrong q [] None vs a.around a.z) (exec c (code_of (listing ++ entering)) a.regs a.y)
    rest_calls =
        subst (λ r. EndsAt setting (made_credit (length vs)) a r (exec c (code_of (listing ++ entering)) a.regs a.y)) (sym (entered_is a.z))
        (by (has_room setting.limit (a.z.state.heap + a.z.state.stack + 0 + size)) refl)
      where
        by : (b : Bool) → has_room setting.limit (a.z.state.heap + a.z.state.stack + 0 + size) ≡ b
            → EndsAt setting (made_credit (length vs)) a
            (if b then with_stack a.z.state.stack (listed (charged (length vs) (asked size a.z)))
            else record { outcome = full (0 + size) (room_left setting.limit (a.z.state.heap + a.z.state.stack)); state = a.z })
            (exec c (code_of (listing ++ entering)) a.regs a.y)
        by true fits =
            form_framed setting a size (length vs) (listed (z1 fits)) (listed_later (z1 fits)).stack {c2 = made_credit (length vs)} (omega (arith, enough)) (in_words fits)
        by false fits =
            full_there (record {
              asked = 0 + size;
              left_then = room_left setting.limit (a.z.state.heap + a.z.state.stack);
              outcome = refl;
              printed =
                  full_printed a.z a.y (exec c (code_of (listing ++ entering)) a.regs a.y) a.begins.call.things.represents.printed
                  (steps_grow setting (suc j) a.turns (listing ++ entering) a.regs a.y);
            })

-- where the level is judged there is a register for what its routine returns
judged_there : (setting : Setting) (number count : ℕ) (q : FlatProcedure) (d size : ℕ) (site : SitePlace)
    → enough_for (of_code (code_of (call_with_rest setting.at setting.program number q count d site))) ≤ size → d + count < size
judged_there setting number count q d size site names =
    first_named (d + count) [] size
    (registers_front (steps.call (d + count) (level_routine setting.at) [] ∷ []) (behind_level setting number count q d site) size names)

pub rest_calls_law : LawOfRestCalls
rest_calls_law setting zero a number q wrong vs ws placed found takes_more enough fewer bodies of_values inside reserve names =
    let others : Steps = behind_level setting number (length ws) q a.d a.s.code.site in
    subst
    (λ p.
    EndsAt setting (rest_credit (length vs)) a (descend (below_at setting zero) (λ entered. enter (context_at setting zero) wrong q [] None vs a.around entered) a.around a.z) p)
    (sym (step_then (code_at setting zero a.turns) (steps.call (a.d + length ws) (level_routine setting.at) []) others a.regs a.y))
    (form_levels_law setting zero (rest_credit (length vs)) a a.d (a.d + length ws) (λ entered. gives nil entered) (λ g x. exec (code_at setting zero a.turns) (code_of others) g x) placed
    (omega (arith, reserve)) (omega arith) (judged_there setting number (length ws) q a.d (length a.regs) a.s.code.site names) (omega arith) (same_flat a.z)
    (λ g x. steps_grow setting zero a.turns others g x) (λ j same word y' x site. absurd (cc same)))
rest_calls_law setting (suc j) a number q wrong vs ws placed found takes_more enough fewer bodies of_values inside reserve names =
    let others : Steps = behind_level setting number (length ws) q a.d a.s.code.site in
    let behind_names : enough_for (of_code (code_of others)) ≤ length a.regs =
    registers_behind (steps.call (a.d + length ws) (level_routine setting.at) [] ∷ []) others (length a.regs) names in
    subst
    (λ p.
    EndsAt setting (rest_credit (length vs)) a (descend (below_at setting (suc j)) (λ entered. enter (context_at setting (suc j)) wrong q [] None vs a.around entered) a.around a.z) p)
    (sym (step_then (code_at setting (suc j) a.turns) (steps.call (a.d + length ws) (level_routine setting.at) []) others a.regs a.y))
    (form_levels_law setting (suc j) (rest_credit (length vs)) a a.d (a.d + length ws) (λ entered. enter (context_at setting (suc j)) wrong q [] None vs a.around entered)
    (λ g x. exec (code_at setting (suc j) a.turns) (code_of others) g x) placed (omega (arith, reserve)) (omega arith)
    (judged_there setting number (length ws) q a.d (length a.regs) a.s.code.site names) (omega arith)
    (enter_grows setting placed a number q wrong vs ws found takes_more enough of_values inside reserve behind_names j fewer (bodies j refl))
    (λ g x. steps_grow setting (suc j) a.turns others g x)
    (λ i same word y' x site.
    let a2 : Start setting = start_after setting a (a.d + length ws) a.d a.n (omega arith) (omega arith) (omega arith) a.begins.first x in
    behind setting {c1 = judging_cost} {c2 = made_credit (length vs)} {c = rest_credit (length vs)} a (a.d + length ws) (omega arith) x (omega arith) (omega arith)
    (rest_calls setting placed a2 number q wrong vs ws found takes_more enough of_values
    (arguments_kept a.d ws a.regs a2.regs (λ r few. register_beside a.regs (a.d + length ws) r (Some word) (λ e. omega (arith, e, few))) inside) reserve
    (subst (λ m. enough_for (of_code (code_of others)) ≤ m) (sym (length-set a.regs (a.d + length ws) (Some word))) behind_names) j fewer (bodies j refl))))
