-- The entry of a function that makes a list or keeps a call: it is entered, and its arguments are given.
use Rattle.std.specs.Prelude.{◌||◌, is_some, option_to_list, if◌then◌else◌}
use Rattle.std.proofs.Common.{◌≡◌, inl, ℕ, zero, suc, ◌+◌, ◌*◌, ◌≤◌, Bool, true, false, List, [], ◌∷◌, ◌++◌, length, Option, Some, None, refl, sym, ap, ◌∙◌, subst, arith}
use Rattle.std.proofs.lemmas.Bool.Decides.{nat_tests}
use Rattle.std.proofs.lemmas.List.{length-append}
use Rattle.lang_meaning.specs.Counts.{application_words, unit_cost}
use Rattle.lang_meaning.specs.Objects.{Called, program_error_class}
use Rattle.lang_meaning.specs.Signals.{takes}
use Rattle.lang_meaning.specs.State.{DynamicContext, Limit, words, unlimited, has_room, more}
use Rattle.lang_meaning.specs.Values.{Value}
use Rattle.flat_language.specs.declared.program.FlatProcedure.{FlatProcedure}
use Rattle.flat_language.specs.FlatNodes.{homes, nodes}
use Rattle.flat_language.specs.FlatSignals.{FlatSignals, signal, descend, enter, gathered, form, with_record}
use Rattle.flat_language.specs.FlatState.{Captured, FlatState, FlatEvaluated, charged, in_frame, no_environment}
use Rattle.flat_laws.specs.FlatLater.{FlatLater}
use Rattle.flat_laws.proofs.Applied.{gathers, records, boxes}
use Rattle.flat_laws.proofs.Combined.{own_slots_left}
use Rattle.flat_laws.proofs.Later.{later_kept}
use Rattle.mid_code.specs.declared.operation.Counted.TheVariants.{Level}
use Rattle.mid_code.specs.declared.program.MidProcedure.{MidProcedure}
use Rattle.mid_code.specs.Costs.{entry_cost, return_cost}
use Rattle.mid_code.specs.Meaning.{exec}
use Rattle.mid_code.specs.MidCode.{code_of, return_word}
use Rattle.mid_code.specs.State.{Registers, first_registers, MidState}
use Rattle.mid_code.specs.State.{charged as mid_charged}
use Rattle.mid_code.specs.declared.operation.Arithmetic.TheVariants as which
use Rattle.back_lowering.specs.ControlWords.{site_address}
use Rattle.back_lowering.specs.Placement.{body_of_procedure}
use Rattle.back_lowering.specs.Program.{Extra, its_method, procedure_with, entry}
use Rattle.back_lowering.specs.RoutineCodes.{level_code}
use Rattle.back_lowering.specs.Routines.{level_routine, list_routine, method_routine}
use Rattle.back_lowering.specs.Steps.{Steps, call, constant, compute, if_equal, words_loaded}
use Rattle.back_lowering.specs.Scope.{registers_from}
use Rattle.back_relation.specs.Procedures.{mean_inside, called, body_words, body_room, body_credit, entry_credit, IsFunction, CapturedFits, BodyDoes, EntryBegins, CalledFits}
use Rattle.back_relation.specs.Setting.{Setting}
use Rattle.back_relation.specs.Placed.{IsPlaced}
use Rattle.back_relation.specs.Room.{entry_words, words_for_handler}
use Rattle.back_relation.specs.Things.{Things}
use Rattle.back_relation.specs.Worlds.{World, Standing}
use Rattle.back_relation.specs.Around.{RoomFor, AroundStands, CallBegins}
use Rattle.back_relation.specs.Ends.{Returned, LeftCall, CallEnds, SparingCall}
use Rattle.back_relation.specs.Forms.{below_at, context_at, code_at}
use Rattle.back_relation.specs.RoutineClaims.{list_credit}
use Rattle.back_relation.proofs.Growth.{same_flat, grown_later}
use Rattle.back_relation.proofs.Parts.{step_then}
use Rattle.back_relation.proofs.Straight.{things_cost, things_units}
use Rattle.back_values.proofs.BoxesMade.{steps_grow}
use Rattle.back_calling.specs.Calling.{call_cost}
use Rattle.back_calling.specs.Entering.{Inside}
use Rattle.back_calling.proofs.Growing.{tasks_below}
use Rattle.back_calling.proofs.Entered.{turns_entered, no_level_at}
use Rattle.back_calling.proofs.Inner.{looked}
use Rattle.back_calling.proofs.Numbers.{numbers_law}
use Rattle.back_calling.proofs.Units.{begins_recounted, calls_recounted}
use Rattle.back_function_entries.proofs.Held.{extra_below, given_below}
use Rattle.back_function_entries.proofs.Scopes.{first_count}
use Rattle.back_calling.proofs.Applied.{called_grows}
use Rattle.back_calling.proofs.Charging.{asked, things_charged, around_charged, framed_ends, within_asked}
use Rattle.back_calling.proofs.Levels.{level_there}
use Rattle.back_function_entries.specs.Entries.{ListDoesAnywhere, MethodDoesAnywhere, LawOfEntries}
use Rattle.back_calling.specs.Lending.{with_lent}
use Rattle.back_function_entries.specs.Lending.{LawOfLentEntries}
use Rattle.back_function_entries.proofs.AllEntries.{Given, few_args, level_ends}
use Rattle.back_function_entries.proofs.Ready.{EntryReady, EntryReserve}
use Rattle.back_function_entries.proofs.FunctionEntries.{extras, found, method_there, without_level, function_entries}

takes_enough : (a b : ℕ) (r : Bool) → takes a r b ≡ true → a ≤ b
takes_enough a b true e = grind (arith, nat_tests)
takes_enough a b false e = grind (arith, nat_tests)

takes_exactly : (a b : ℕ) (r : Bool) → takes a r b ≡ true → r ≡ false → b ≡ a
takes_exactly a b true e f = absurd (cc f)
takes_exactly a b false e f = grind (arith, nat_tests)

few_more : {X : Type 0} (o : Option X) → length (option_to_list o) ≤ 1
few_more None = omega arith
few_more (Some x) = omega arith

module _ (setting : Setting) (turns number : ℕ) (extra : Extra) (q : FlatProcedure) (placed : IsPlaced setting) (few : turns ≤ setting.turns_each) (some : (is_some q.rest || q.keeps_method) ≡ true)
    (rs valid : List Standing) (cs : List Captured) (called_as : Option Called) (vs : List Value) (self chain address : ℕ) (w : World) (around : DynamicContext) (z : FlatState) (y : MidState)
    (function : IsFunction setting number extra q) (fits : CapturedFits setting w number extra q cs) (as_extra : CalledFits setting extra called_as)
    (b : EntryReady setting rs valid q cs called_as vs self chain address w around z y) where
  abbrev made_entry : MidProcedure
  made_entry = entry setting.names setting.at setting.program (body_of_procedure setting.at number) extra q

  abbrev entry_given : List ℕ
  entry_given = self ∷ chain ∷ length vs ∷ address ∷ []

  abbrev regs0 : Registers
  regs0 = first_registers (7 + length q.required) entry_given

  enough : length q.required ≤ length vs
  enough = takes_enough (length q.required) (length vs) (is_some q.rest) b.takes_so_many

  exactly : is_some q.rest ≡ false → length vs ≡ length q.required
  exactly e = takes_exactly (length q.required) (length vs) (is_some q.rest) b.takes_so_many e

  abbrev size : ℕ
  size = application_words (nodes q.body) + length vs

  abbrev z1 : FlatState
  z1 = charged (length vs) (asked size z)

  -- ---- inside the frame

  given_inside :
      {y' : MidState} → Inside setting rs valid (body_room q) (entry_cost 4) w around (charged 1 z1) y y'
      → Given setting number extra q rs valid cs called_as vs self chain address around w z1 y' regs0
  given_inside {y'} here =
      record {
        call = begins_recounted setting z1.state.units here.call;
        count = first_count (7 + length q.required) entry_given (omega arith);
        self_there = refl;
        chain_there = refl;
        count_there = refl;
        at_there = refl;
        arguments = given_below setting w y y' address vs here.words here.from b.arguments;
        method_arguments = b.method_arguments;
        held = b.function_word;
        method =
            (extra_below setting its_method (record q { keeps_method = false }) cs called_as (chain ∷ length vs ∷ address ∷ []) w z y y' here.words here.from
            (refl, b.method, method_there setting w y chain (length vs) address vs called_as b.method_arguments b.arguments)).1;
        site = (b.site.0, here.words site_address ∙ b.site.1, b.site.2);
        fits = fits;
      }

  -- ---- with a level

  module _ (j : ℕ) (does : BodyDoes setting j number extra q) (made : (i : ℕ) → turns ≡ suc i → ListDoesAnywhere setting (suc j) i × MethodDoesAnywhere setting (suc j) i) where
    abbrev body_of_all : List Value → FlatState → FlatEvaluated
    body_of_all us gone = with_record setting.limit called_as q.keeps_method gone (λ recorded. mean_inside (context_at setting (suc j)) q cs called_as us around recorded)

    abbrev meant_all : FlatState → FlatEvaluated
    meant_all x = gathered setting.limit (length q.required) (is_some q.rest) vs x (λ us gone. body_of_all us gone)

    meant_all_later : (x : FlatState) → FlatLater x (meant_all x).state
    meant_all_later x =
        (gathers {R = FlatLater} {k = later_kept} setting.limit around.exits (length q.required) (is_some q.rest) vs x
        (λ us gone.
        records {R = FlatLater} {k = later_kept} setting.limit around.exits called_as q.keeps_method gone
        (λ a.
        boxes {R = FlatLater} {k = later_kept} setting.limit around.exits (homes q) a
        (λ got. own_slots_left (homes q) us got (λ e. tasks_below setting (suc j) (form q.body) (record no_environment { captured = cs; method = called_as }) around e))))).grows

    abbrev others : Steps
    others =
        (if is_some q.rest then
        constant 5 (4 * length q.required) ∷ compute 5 which.Add 3 5 ∷ constant 6 (length q.required) ∷ compute 6 which.Subtract 2 6
        ∷ call 4 (list_routine setting.at) (5 ∷ 6 ∷ []) ∷ []
        else [])
        ++ ((if q.keeps_method then constant 5 0 ∷ if_equal 1 5 [] (call 3 (method_routine setting.at) (1 ∷ 2 ∷ 3 ∷ []) ∷ []) ∷ [] else [])
        ++ (words_loaded (length q.required) 7 3 0
        ++ (call 4 (body_of_procedure setting.at number) (registers_from 7 (length q.required) ++ ((if is_some q.rest then 4 ∷ [] else []) ++ extras setting extra)) ∷ return_word 4 ∷ [])))

    code_is : made_entry.body ≡ call 4 (level_routine setting.at) [] ∷ others
    code_is = ap (λ t. (if t then call 4 (level_routine setting.at) [] ∷ [] else []) ++ others) some

    abbrev inside_paid : ℕ
    inside_paid =
        80 + (84 + list_credit (length vs)
        + (20
        + (24 * length q.required + (body_credit q + call_cost (registers_from 7 (length q.required) ++ ((if is_some q.rest then 4 ∷ [] else []) ++ extras setting extra)) + return_cost))))

    entered_ends : has_room setting.limit (z.state.heap + z.state.stack + 0 + size) ≡ true
        → CallEnds setting (inside_paid + entry_cost 4) turns rs valid w around (charged 1 z1) y (meant_all z1) (called (code_at setting (suc j) turns) number entry_given y)
    entered_ends room =
        let grown = grown_later (meant_all_later z1) in
        turns_entered setting (suc j) turns number turns (entry_words + body_words q) (body_room q) inside_paid made_entry entry_given rs valid w around (charged 1 z1) y (meant_all z1)
        (found setting number extra q placed function) refl refl (omega arith) (omega (arith, grown.units)) grown.printed (λ ended. omega (arith, grown.units)) (begins_recounted setting (z1.state.units + 1) (b.begun room))
        (λ i e y' here.
        let all_made = made i e in
        subst (λ ss. CallEnds setting inside_paid turns rs valid w around (charged 1 z1) y' (meant_all z1) (exec (code_at setting (suc j) i) (code_of ss) regs0 y')) (sym code_is)
        (level_ends setting number extra q rs valid cs called_as vs self chain address around j i turns does function few enough as_extra all_made.0 all_made.1 (omega (arith, e)) placed
        exactly regs0 (given_inside here)))

    entered_is :
        (wrong : FlatSignals) → enter (context_at setting (suc j)) wrong q cs called_as vs around z ≡ in_frame setting.limit size (λ entered. meant_all (charged (length vs) entered)) z
    entered_is wrong =
        ap
        (λ t. if t then in_frame setting.limit size (λ entered. meant_all (charged (length vs) entered)) z else wrong program_error_class [] around z)
        b.takes_so_many

    cost_fits : inside_paid + entry_cost 4 ≤ unit_cost * length vs + entry_credit (length vs)
    cost_fits =
        let most = few_args setting number extra q rs valid cs called_as vs self chain address around in
        let one = few_more q.rest in
        omega (arith, most, one, enough, length-append q.required (option_to_list q.rest))

    level_there_ends :
        (wrong : FlatSignals)
        → SparingCall setting (entry_credit (length vs)) turns rs valid w around z y
        (descend (below_at setting (suc j)) (λ entered. enter (context_at setting (suc j)) wrong q cs called_as vs around entered) around z) (called (code_at setting (suc j) turns) number entry_given y)
    level_there_ends wrong =
        subst (λ r. SparingCall setting (entry_credit (length vs)) turns rs valid w around z y r (called (code_at setting (suc j) turns) number entry_given y))
        (sym (level_there setting j (λ entered. enter (context_at setting (suc j)) wrong q cs called_as vs around entered) around z ∙ entered_is wrong))
        (framed_ends setting 1 size (λ entered. meant_all (charged (length vs) entered)) b.things.represents.printed (called_grows setting (suc j) turns number entry_given y)
        (λ room. (
          (meant_all_later z1).stack,
          calls_recounted setting {c1 = inside_paid + entry_cost 4} {m1 = turns} (asked size z) (z1.state.units + 1) (z.state.units + 1) (omega (arith, cost_fits)) (omega arith) (entered_ends room),
        )))

  -- ---- without one

  none_there_ends :
      EntryReserve setting rs valid w around z y → (credit : ℕ) (r : FlatEvaluated) → r ≡ record { outcome = more; state = z } → SparingCall setting credit turns rs valid w around z y r (called (code_at setting zero turns) number entry_given y)
  none_there_ends reserve credit r is_none =
      let none : FlatEvaluated = record { outcome = more; state = z } in
      let enough_words = reserve.enough in
      subst (λ p. SparingCall setting credit turns rs valid w around z y p (called (code_at setting zero turns) number entry_given y)) (sym is_none)
      (without_level setting (0 + entry_cost 4) credit refl
      (turns_entered setting zero turns number turns reserve.count 0 0 made_entry entry_given rs valid w around (charged 1 z) y none (found setting number extra q placed function) refl refl
      (omega (arith, enough_words)) (omega arith) (same_flat z).printed (λ ended. absurd (ended refl)) (begins_recounted setting (z.state.units + 1) reserve.call)
      (λ i e y' here.
      let behind : Steps = behind_level in
      subst (λ ss. CallEnds setting 0 turns rs valid w around (charged 1 z) y' none (exec (code_at setting zero i) (code_of ss) regs0 y')) (sym behind_is)
      (subst (λ o. CallEnds setting 0 turns rs valid w around (charged 1 z) y' none o) (sym (step_then (code_at setting zero i) (call 4 (level_routine setting.at) []) behind regs0 y'))
      (looked setting 0 unit_cost (λ p. Returned setting 0 w (charged 1 z) y' none p) (λ p. LeftCall setting 0 rs valid w around (charged 1 z) y' none p) ⊥ (λ x. 0) (code_at setting zero i) turns turns 4
      (level_routine setting.at) [] [] (charged 1 z) y' regs0 none none (λ g x. exec (code_at setting zero i) (code_of behind) g x) tt (omega arith) (omega arith) (same_flat z)
      (λ g x. steps_grow setting zero i behind g x) (λ end because. because) (λ asked left_then same. absurd (cc same)) (λ x. absurd x)
      (no_level_at setting i (level_routine setting.at) turns (procedure_with Level 0 (level_code setting.at)) [] w z (mid_charged 40 y') (mid_charged 40 y') (charged 1 z) none
      ((numbers_law setting).routine 15 _ placed refl) refl refl (same_flat z) (things_cost setting 40 (begins_recounted setting z.state.units here.call).things))
      (λ x. absurd x))))))
    where
      behind_level : Steps
      behind_level =
          (if is_some q.rest then
          constant 5 (4 * length q.required) ∷ compute 5 which.Add 3 5 ∷ constant 6 (length q.required) ∷ compute 6 which.Subtract 2 6
          ∷ call 4 (list_routine setting.at) (5 ∷ 6 ∷ []) ∷ []
          else [])
          ++ ((if q.keeps_method then constant 5 0 ∷ if_equal 1 5 [] (call 3 (method_routine setting.at) (1 ∷ 2 ∷ 3 ∷ []) ∷ []) ∷ [] else [])
          ++ (words_loaded (length q.required) 7 3 0
          ++ (call 4 (body_of_procedure setting.at number) (registers_from 7 (length q.required) ++ ((if is_some q.rest then 4 ∷ [] else []) ++ extras setting extra)) ∷ return_word 4 ∷ [])))

      behind_is : made_entry.body ≡ call 4 (level_routine setting.at) [] ∷ behind_level
      behind_is = ap (λ t. (if t then call 4 (level_routine setting.at) [] ∷ [] else []) ++ behind_level) some

none_there : {X : Type 0} (o : Option X) → is_some o ≡ false → o ≡ None
none_there None e = refl
none_there (Some x) e = absurd (cc e)

neither : (a b : Bool) → (a || b) ≡ false → (a ≡ false) × (b ≡ false)
neither true b e = absurd (cc e)
neither false b e = (refl, e)

-- ---- what an entry is given, with all words of its own or with those of a block among the ones that are charged

module _ (setting : Setting) (rs valid : List Standing) (q : FlatProcedure) (vs : List Value) (w : World) (around : DynamicContext) (z : FlatState) (y : MidState) where
  abbrev size_of : ℕ
  size_of = application_words (nodes q.body) + length vs

  -- the words of the application were charged
  charged_begins :
      Things setting w z y → AroundStands setting w rs valid around z y
      → RoomFor setting.limit (entry_words + body_words q + words_for_handler * length around.handlers) (charged (length vs) (asked size_of z)).state y
      → has_room setting.limit (z.state.heap + z.state.stack + 0 + size_of) ≡ true
      → CallBegins setting rs valid (entry_words + body_words q) w around (charged (length vs) (asked size_of z)) y
  charged_begins things stands left room = record {
    things = things_units setting (length vs) (things_charged setting (asked size_of z) things refl refl refl refl refl (within_asked setting size_of z room));
    around_stands = around_charged setting (charged (length vs) (asked size_of z)) refl stands;
    room = left;
  }

  room_of_call : (l : Limit) (n : ℕ) → entry_words ≤ n → RoomFor l (n + words_for_handler * length around.handlers) z.state y
      → RoomFor l (entry_words + body_words q + words_for_handler * length around.handlers) (charged (length vs) (asked size_of z)).state y
  room_of_call unlimited n enough h = tt
  room_of_call (words k) n enough h = omega (arith, h, enough)

  room_of_lent : (l : Limit) → RoomFor l (entry_words + words_for_handler * length around.handlers) (with_lent (length vs) z.state) y
      → RoomFor l (entry_words + body_words q + words_for_handler * length around.handlers) (charged (length vs) (asked size_of z)).state y
  room_of_lent unlimited h = tt
  room_of_lent (words k) h = omega (arith, h)

ready_of :
    (setting : Setting) (rs valid : List Standing) (n : ℕ) (q : FlatProcedure) (cs : List Captured) (called_as : Option Called) (vs : List Value) (self chain address : ℕ) (w : World) (around : DynamicContext)
    (z : FlatState) (y : MidState) → EntryBegins setting rs valid n q cs called_as vs self chain address w around z y → EntryReady setting rs valid q cs called_as vs self chain address w around z y
ready_of setting rs valid n q cs called_as vs self chain address w around z y b = record {
  things = b.call.things;
  begun = charged_begins setting rs valid q vs w around z y b.call.things b.call.around_stands (room_of_call setting rs valid q vs w around z y setting.limit n b.enough b.call.room);
  site = b.site;
  arguments = b.arguments;
  takes_so_many = b.takes_so_many;
  function_word = b.function_word;
  method = b.method;
  method_arguments = b.method_arguments;
}

-- ---- all functions

module _ (setting : Setting) (k turns number : ℕ) (extra : Extra) (q : FlatProcedure) (placed : IsPlaced setting) (few : turns ≤ setting.turns_each)
    (made : (n : ℕ) → turns ≡ suc n → ListDoesAnywhere setting k n × MethodDoesAnywhere setting k n) (does : (j : ℕ) → k ≡ suc j → BodyDoes setting j number extra q)
    (rs valid : List Standing) (wrong : FlatSignals) (cs : List Captured) (called_as : Option Called) (vs : List Value) (self chain address : ℕ) (w : World) (around : DynamicContext) (z : FlatState) (y : MidState)
    (function : IsFunction setting number extra q) (fits : CapturedFits setting w number extra q cs) (as_extra : CalledFits setting extra called_as)
    (b : EntryReady setting rs valid q cs called_as vs self chain address w around z y) (none : k ≡ zero → EntryReserve setting rs valid w around z y) where
  abbrev Comes : ℕ → Type 0
  Comes l =
      SparingCall setting (entry_credit (length vs)) turns rs valid w around z y
      (descend (below_at setting l) (λ entered. enter (context_at setting l) wrong q cs called_as vs around entered) around z)
      (called (code_at setting l turns) number (self ∷ chain ∷ length vs ∷ address ∷ []) y)

  at_level : (l : ℕ) → k ≡ l → (is_some q.rest || q.keeps_method) ≡ true → Comes k
  at_level zero e some =
      subst Comes (sym e)
      (none_there_ends setting turns number extra q placed few some rs valid cs called_as vs self chain address w around z y function fits as_extra b (none e) (entry_credit (length vs)) _ refl)
  at_level (suc j) e some =
      subst Comes (sym e)
      (level_there_ends setting turns number extra q placed few some rs valid cs called_as vs self chain address w around z y function fits as_extra b j (does j e)
      (λ i same. subst (λ l. ListDoesAnywhere setting l i × MethodDoesAnywhere setting l i) e (made i same)) wrong)

  by_extras : (t : Bool) → (is_some q.rest || q.keeps_method) ≡ t → Comes k
  by_extras true some = at_level k refl some
  by_extras false nothing_more =
      let no = neither (is_some q.rest) q.keeps_method nothing_more in
      function_entries setting k turns number extra q placed few (none_there q.rest no.0) no.1 does rs valid wrong cs called_as vs self chain address w around z y function fits as_extra b none

  pub any_entry_ends : Comes k
  any_entry_ends = by_extras (is_some q.rest || q.keeps_method) refl

pub entries_law : LawOfEntries
entries_law setting k turns number extra q placed few made does rs valid n wrong cs called_as vs self chain address w around z y function fits as_extra b =
    any_entry_ends setting k turns number extra q placed few made does rs valid wrong cs called_as vs self chain address w around z y function fits as_extra
    (ready_of setting rs valid n q cs called_as vs self chain address w around z y b) (λ e. record { count = n; enough = b.enough; call = b.call })

-- **entries whose arguments are lent in words that the application pays**
pub lent_entries_law : LawOfLentEntries
lent_entries_law setting k turns number extra q placed few made does rs valid cs vs self address w around z y function fits as_extra lent site arguments takes_many held =
    any_entry_ends setting (suc k) turns number extra q placed few made (λ j e. let same : k ≡ j = omega (arith, e) in subst (λ l. BodyDoes setting l number extra q) same does) rs valid
    (signal (context_at setting (suc k))) cs None vs self 0 address w around z y function fits as_extra
    (record {
      things = lent.things;
      begun = charged_begins setting rs valid q vs w around z y lent.things lent.around_stands (room_of_lent setting rs valid q vs w around z y setting.limit lent.room);
      site = site;
      arguments = inl arguments;
      takes_so_many = takes_many;
      function_word = held;
      method = (length vs, address, refl, refl, refl);
      method_arguments = λ c e. absurd (cc e);
    }) (λ e. absurd (omega (arith, e)))
