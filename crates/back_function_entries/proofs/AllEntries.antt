-- The entry of any function: from its body upwards, and then to the level that is judged first.
use Rattle.std.specs.Prelude.{◌-◌, take, drop, slice_get, slice_set, slice_index_or, is_some, option_to_list, if◌then◌else◌}
use Rattle.std.proofs.Common.{◌≡◌, inl, inr, ℕ, zero, suc, ◌+◌, ◌*◌, ◌^◌, ◌<◌, ◌≤◌, Bool, true, false, List, [], ◌∷◌, ◌++◌, length, Option, Some, None, refl, sym, ap, ◌∙◌, subst, append_assoc, take-append-drop, arith}
use Rattle.std.proofs.Math.ListN.{length-set}
use Rattle.std.proofs.lemmas.List.{length-append}
use Rattle.std.proofs.lemmas.Bool.{eq-eqb, ne_eqb}
use Rattle.base.specs.Arithmetic.{sum32, difference32}
use Rattle.lang_meaning.specs.Objects.{Called}
use Rattle.lang_meaning.specs.State.{DynamicContext, Limit, words, unlimited}
use Rattle.lang_meaning.specs.Values.{Value, nil}
use Rattle.flat_language.specs.declared.program.FlatProcedure.{FlatProcedure}
use Rattle.flat_language.specs.FlatNodes.{homes}
use Rattle.flat_language.specs.FlatState.{Captured, FlatState, FlatEvaluated, charged, gives, go_on, no_environment}
use Rattle.flat_language.specs.FlatSignals.{with_record, make_list, form, gathered}
use Rattle.flat_laws.specs.FlatLater.{FlatLater}
use Rattle.flat_laws.proofs.Applied.{records, lists, boxes, gathers}
use Rattle.flat_laws.proofs.Combined.{given, own_slots_left}
use Rattle.flat_laws.proofs.Later.{later_kept}
use Rattle.mid_code.specs.Arena.{stack_from, Arena}
use Rattle.mid_code.specs.Costs.{return_cost, test_cost, jump_cost}
use Rattle.mid_code.specs.Meaning.{Context, exec, exec_step}
use Rattle.mid_code.specs.MidCode.{return_word, code_of, MidStep}
use Rattle.mid_code.specs.State.{Registers, register, MidState, MidOutcome, falls, ends}
use Rattle.mid_code.specs.State.{charged as mid_charged}
use Rattle.mid_code.specs.declared.operation.Comparison.TheVariants.{Equal}
use Rattle.mid_code.specs.Law.{Grown}
use Rattle.mid_code.specs.State.{go_on as mid_go_on}
use Rattle.mid_code.specs.declared.operation.Arithmetic.TheVariants as which
use Rattle.mid_code.proofs.Growth.{both_grown, charged_grown}
use Rattle.mid_arena.specs.Places.{Places, WordsOf}
use Rattle.mid_arena.specs.Standing.{ValueAt}
use Rattle.mid_arena.proofs.Running.{parts_then, RunsTo, and_then, none_left, costing, constant_falls, choose_first_falls, choose_second, go_on_twice, compute_known}
use Rattle.mid_arena.proofs.Registers.{register_here, register_beside}
use Rattle.mid_arena.proofs.WordFacts.{sum_fits}
use Rattle.back_lowering.specs.Placement.{body_of_procedure}
use Rattle.back_lowering.specs.Program.{Extra, nothing, its_method, itself}
use Rattle.back_lowering.specs.Scope.{registers_from}
use Rattle.back_lowering.specs.Steps.{Steps, call, words_loaded, constant, if_equal, test_of, compute}
use Rattle.back_lowering.specs.Routines.{method_routine, list_routine, level_routine}
use Rattle.back_relation.specs.Setting.{Setting}
use Rattle.back_relation.specs.Room.{routine_words, words_for_handler, level_words}
use Rattle.back_relation.specs.Worlds.{World, Later, Standing, Plain}
use Rattle.back_relation.specs.Around.{CallBegins, SiteStored, RoomFor}
use Rattle.back_relation.specs.Activation.{SelfHeld, ArgumentsKept, MethodHeld, MethodThere, in_heap, CallHeld}
use Rattle.back_relation.specs.Ends.{WorldKept, Around, SparingCall}
use Rattle.back_relation.specs.Forms.{context_at, code_at}
use Rattle.back_relation.specs.Procedures.{called, as_registers, mean_inside, body_room, body_credit, IsFunction, CapturedFits, ExtraGiven, BodyDoes, ArgumentsGiven, CalledFits}
use Rattle.back_relation.specs.Chains.{ChainAt, ChainTakes}
use Rattle.back_relation.specs.RoutineClaims.{list_credit, argument_credit, level_credit, entry_spare, LevelThere, ListThere, MethodKept, no_words_cost}
use Rattle.back_relation.specs.Placed.{IsPlaced}
use Rattle.back_relation.proofs.Activations.{made_by_later}
use Rattle.back_relation.proofs.Starts.{room_after}
use Rattle.back_relation.proofs.Straight.{things_cost, things_units, world_cost, around_cost}
use Rattle.back_relation.proofs.Then.{call_then, from_same, world_then, back_then}
use Rattle.back_relation.proofs.Growth.{grown_later}
use Rattle.back_relation.proofs.Parts.{go_on_falls, single_step, step_then}
use Rattle.back_values.proofs.WordLists.{of_values_later}
use Rattle.back_values.proofs.BoxesMade.{steps_grow}
use Rattle.back_calling.specs.Calling.{WordsIn, call_cost}
use Rattle.back_calling.proofs.Inner.{going_on_law, returned}
use Rattle.back_calling.proofs.Outward.{captured_later, self_out, method_out}
use Rattle.back_calling.proofs.Numbers.{behind_front}
use Rattle.back_calling.proofs.Units.{world_both, around_both, calls_spared, calls_recounted}
use Rattle.back_calling.proofs.Growing.{tasks_below}
use Rattle.back_frames.proofs.Mentioned.{mentions_few}
use Rattle.back_function_entries.proofs.Held.{extra_below, given_values, given_then}
use Rattle.back_calling.proofs.Applied.{called_grows}
use Rattle.back_calling.proofs.Levels.{levels_there_at}
use Rattle.back_function_entries.specs.Entries.{ListDoesAnywhere, MethodDoesAnywhere}
use Rattle.back_function_entries.proofs.FunctionEntries.{extras, extra_words, extras_in, few_extras, count_from, fewer_turns, room_cost, meant_later, method_there}
use Rattle.back_function_entries.proofs.Made.{record_in_parts, made_after, made_then, list_in_parts}
use Rattle.back_function_entries.proofs.Loading.{word_below, loads_run}

-- ---- the first values of a list

taken_count : {X : Type 0} (n : ℕ) (xs : List X) → n ≤ length xs → length (take n xs) ≡ n
taken_count zero [] h = refl
taken_count zero (x ∷ xs) h = refl
taken_count (suc n) [] h = absurd (omega (arith, h))
taken_count (suc n) (x ∷ xs) h = ap (λ m. suc m) (taken_count n xs (omega (arith, h)))

taken_same : (n : ℕ) (vs : List Value) (i : ℕ) → i < n → slice_index_or (take n vs) i nil ≡ slice_index_or vs i nil
taken_same zero vs i few = absurd (omega (arith, few))
taken_same (suc n) [] i few = refl
taken_same (suc n) (v ∷ vs) zero few = refl
taken_same (suc n) (v ∷ vs) (suc i) few = taken_same n vs i (omega (arith, few))

both_words : (places : Places) (us xs : List Value) (ws zs : List ℕ) → WordsOf places us ws → WordsOf places xs zs → WordsOf places (us ++ xs) (ws ++ zs)
both_words places [] xs [] zs h k = k
both_words places [] xs (w ∷ ws) zs h k = absurd h
both_words places (u ∷ us) xs [] zs h k = absurd h
both_words places (u ∷ us) xs (w ∷ ws) zs h k = (h.0, both_words places us xs ws zs h.1 k)

dropped_count : {X : Type 0} (n : ℕ) (xs : List X) → n ≤ length xs → length (drop n xs) + n ≡ length xs
dropped_count zero [] h = refl
dropped_count zero (x ∷ xs) h = omega arith
dropped_count (suc n) [] h = absurd (omega (arith, h))
dropped_count (suc n) (x ∷ xs) h = let inner = dropped_count n xs (omega (arith, h)) in omega (arith, inner)

dropped_same : (n : ℕ) (vs : List Value) (i : ℕ) → slice_index_or (drop n vs) i nil ≡ slice_index_or vs (n + i) nil
dropped_same zero [] i = refl
dropped_same zero (v ∷ vs) i = let same : i ≡ 0 + i = omega arith in ap (λ k. slice_index_or (v ∷ vs) k nil) same
dropped_same (suc n) [] i = refl
dropped_same (suc n) (v ∷ vs) i = let same : suc (n + i) ≡ suc n + i = omega arith in dropped_same n vs i ∙ ap (λ k. slice_index_or (v ∷ vs) k nil) same

all_taken : (n : ℕ) (vs : List Value) → length vs ≡ n → take n vs ++ [] ≡ vs
all_taken zero [] e = refl
all_taken zero (v ∷ vs) e = absurd (omega (arith, e))
all_taken (suc n) [] e = absurd (omega (arith, e))
all_taken (suc n) (v ∷ vs) e = ap (λ us. v ∷ us) (all_taken n vs (omega (arith, e)))

no_rest_many : {X : Type 0} (o : Option X) → is_some o ≡ false → length {A = Value} [] ≡ length (option_to_list o)
no_rest_many None e = refl
no_rest_many (Some x) e = absurd (cc e)

one_rest_many : {X : Type 0} (v : Value) (o : Option X) → is_some o ≡ true → length (v ∷ []) ≡ length (option_to_list o)
one_rest_many v (Some x) e = refl
one_rest_many v None e = absurd (cc e)

-- values that stand in memory are no more than a word counts
values_fit : (us : List Value) (places : Places) (a : Arena) (x : ℕ) → length a.memory ≤ 2 ^ 24 → ((i : ℕ) → i < length us → ValueAt places a (x + 4 * i) (slice_index_or us i nil)) → length us < 2 ^ 32
values_fit [] places a x size values = omega arith
values_fit (u ∷ us) places a x size values =
    let last = values (length us) (omega arith) in let limit = word_below a (x + 4 * length us) last.word last.stands in omega (arith, limit, size)

difference_fits : (a b d : ℕ) → a < 2 ^ 32 → a ≡ b + d → difference32 a b ≡ d
difference_fits a b d h e = omega (arith, h, e)

-- a register of further arguments, where there is one, and others
rest_and_others : (b : Bool) (rw others os : List ℕ) (regs regs' : Registers) → register 4 regs' ≡ register 4 regs → WordsIn regs (if b then 4 ∷ [] else []) rw → WordsIn regs' others os
    → WordsIn regs' ((if b then 4 ∷ [] else []) ++ others) (rw ++ os)
rest_and_others true [] others os regs regs' same h k = absurd h
rest_and_others true (w ∷ []) others os regs regs' same h k = (same ∙ h.0, k)
rest_and_others true (w ∷ v ∷ rw) others os regs regs' same h k = absurd h.1
rest_and_others false [] others os regs regs' same h k = k
rest_and_others false (w ∷ rw) others os regs regs' same h k = absurd h

rest_beside : (b : Bool) (rw : List ℕ) (regs' regs : Registers) → register 4 regs' ≡ register 4 regs → WordsIn regs (if b then 4 ∷ [] else []) rw → WordsIn regs' (if b then 4 ∷ [] else []) rw
rest_beside true [] regs' regs same h = absurd h
rest_beside true (w ∷ []) regs' regs same h = (same ∙ h.0, tt)
rest_beside true (w ∷ v ∷ rw) regs' regs same h = absurd h.1
rest_beside false [] regs' regs same h = tt
rest_beside false (w ∷ rw) regs' regs same h = absurd h

few_rest : (b : Bool) → length {A = ℕ} (if b then 4 ∷ [] else []) ≤ 1
few_rest true = omega arith
few_rest false = omega arith

module _ (setting : Setting) (number : ℕ) (extra : Extra) (q : FlatProcedure) (rs valid : List Standing) (cs : List Captured) (called_as : Option Called) (vs : List Value)
    (self chain address : ℕ) (around : DynamicContext) where
  abbrev req : ℕ
  req = length q.required

  abbrev inside_words : ℕ
  inside_words = body_room q

  -- the reserve is among them
  reserve_there : routine_words ≤ inside_words
  reserve_there = let few = mentions_few q.body in omega (arith, few)

  -- ---- where the arguments are given, and what else an entry is given is there

  pub record Given (w : World) (x : FlatState) (y : MidState) (regs : Registers) : Type 0 where
    pub call : CallBegins setting rs valid inside_words w around x y
    pub count : length regs ≡ 7 + req
    pub self_there : register 0 regs ≡ Some self
    pub chain_there : register 1 regs ≡ Some chain
    pub count_there : register 2 regs ≡ Some (length vs)
    pub at_there : register 3 regs ≡ Some address
    pub arguments : ArgumentsGiven setting w y.arena address vs
    pub method_arguments : (c : Called) → called_as ≡ Some c → c.arguments ≡ vs
    pub held : SelfHeld w x.captured (Some self) cs
    pub method : MethodHeld setting w y.arena false (as_registers (chain ∷ length vs ∷ address ∷ [])) (Some 0) called_as
    pub site : SiteStored setting around y
    pub fits : CapturedFits setting w number extra q cs

  fits_later : {w w' : World} (e : Extra) → Later w w' → CapturedFits setting w number e q cs → CapturedFits setting w' number e q cs
  fits_later nothing l h = h
  fits_later its_method l h = h
  fits_later itself l h = (h.0, λ p forms at there. made_by_later l cs forms (h.1 p forms at there))

  -- so it is behind what was done
  given_on :
      {c : ℕ} {w w' : World} {x x' : FlatState} {y y' : MidState} {regs : Registers} (regs' : Registers) → Given w x y regs → WorldKept setting w w' x x' y y'
      → Around setting c x x' y y' → FlatLater x x' → SiteStored setting around y' → length regs' ≡ length regs → ((r : ℕ) → r < 4 → register r regs' ≡ register r regs)
      → Given w' x' y' regs'
  given_on {w = w} {w' = w'} {x = x} {x' = x'} {y = y} {y' = y'} regs' g k a later site count same =
      let from : stack_from y'.arena ≡ stack_from y.arena = from_same setting k a in
      record {
        call = call_then setting k a inside_words g.call (room_after setting.limit _ _ x x' y y' (omega arith) a.charged g.call.room);
        count = count ∙ g.count;
        self_there = same 0 (omega arith) ∙ g.self_there;
        chain_there = same 1 (omega arith) ∙ g.chain_there;
        count_there = same 2 (omega arith) ∙ g.count_there;
        at_there = same 3 (omega arith) ∙ g.at_there;
        arguments = given_then setting address vs k from g.arguments;
        method_arguments = g.method_arguments;
        held = self_out x.captured x'.captured (Some self) k.later (captured_later setting g.call.things later) cs g.held;
        method =
            method_out setting k.later (record { from = omega (arith, from); stack = k.stack }) false (as_registers (chain ∷ length vs ∷ address ∷ [])) (Some 0) called_as g.method;
        site = site;
        fits = fits_later extra k.later g.fits;
      }

  -- ---- the arguments are loaded, and the body is called

  abbrev rest_registers : List ℕ
  rest_registers = if is_some q.rest then 4 ∷ [] else []

  abbrev pub args : List ℕ
  args = registers_from 7 req ++ (rest_registers ++ extras setting extra)

  abbrev body_steps : ℕ → Steps
  body_steps n = words_loaded n 7 3 0 ++ (call 4 (body_of_procedure setting.at number) args ∷ return_word 4 ∷ [])

  pub few_args : length args ≤ req + 4
  few_args =
      let e1 = length-append (registers_from 7 req) (rest_registers ++ extras setting extra) in
      let e2 = length-append (rest_registers) (extras setting extra) in
      let e3 = count_from 7 req in
      let e4 = few_extras setting extra in
      let e5 = few_rest (is_some q.rest) in
      omega (arith, e1, e2, e3, e4, e5)

  abbrev loaded_paid : ℕ
  loaded_paid = 24 * req + (body_credit q + call_cost args + return_cost)

  -- a cost leaves room for what begins
  cost_begins : {w : World} {x : FlatState} {y : MidState} (paid : ℕ) → CallBegins setting rs valid inside_words w around x y → CallBegins setting rs valid inside_words w around x (mid_charged paid y)
  cost_begins {w} {x} {y} paid b =
      call_then setting (world_cost setting paid b.things) (around_cost setting {credit = paid} x y paid (omega arith)) inside_words b (room_cost setting setting.limit _ paid x y b.room)

  -- and with fewer words
  fewer_begins : {w : World} {x : FlatState} {y : MidState} (words_here : ℕ) → words_here ≤ inside_words → CallBegins setting rs valid inside_words w around x y → CallBegins setting rs valid words_here w around x y
  fewer_begins {w} {x} {y} words_here enough b = record { things = b.things; around_stands = b.around_stands; room = fewer setting.limit b.room }
    where
      fewer : (l : Limit) → RoomFor l (inside_words + words_for_handler * length around.handlers) x.state y → RoomFor l (words_here + words_for_handler * length around.handlers) x.state y
      fewer unlimited h = tt
      fewer (words k) h = omega (arith, h, enough)

  module _ (j n m : ℕ) (does : BodyDoes setting j number extra q) (function : IsFunction setting number extra q) (few_turns_left : m ≤ setting.turns_each) (enough : req ≤ length vs)
      (rv : List Value) (rw : List ℕ) (rest_many : length rv ≡ length (option_to_list q.rest)) (as_extra : CalledFits setting extra called_as) where
    abbrev c : Context
    c = code_at setting (suc j) n

    abbrev variables : List Value
    variables = take req vs ++ rv

    abbrev meant : FlatState → FlatEvaluated
    meant x = mean_inside (context_at setting (suc j)) q cs called_as variables around x

    loaded_ends :
        {w : World} {x : FlatState} {y : MidState} (at : ℕ) (regs : Registers) → CallBegins setting rs valid inside_words w around x y → length regs ≡ 7 + req → register 0 regs ≡ Some self
        → register 1 regs ≡ Some chain → register 2 regs ≡ Some (length vs) → register 3 regs ≡ Some at
        → ((i : ℕ) → i < req → ValueAt w.places y.arena (at + 4 * i) (slice_index_or vs i nil))
        → ExtraGiven setting w x y extra q cs called_as (extra_words extra self chain (length vs) at) → SiteStored setting around y → CapturedFits setting w number extra q cs
        → WordsOf w.places rv rw → WordsIn regs (rest_registers) rw
        → SparingCall setting loaded_paid m rs valid w around x y (meant x) (exec c (code_of (body_steps req)) regs y)
    loaded_ends {w} {x} {y} at regs begins count r0 r1 r2 r3 values given site fits of_rest rest_there =
        let same : length (take req vs) ≡ req = taken_count req vs enough in
        let loads = loads_run c w.places y.arena 7 0 at (take req vs) regs y refl begins.things.represents.arena.size (omega arith) (omega (arith, count, same)) r3
        (λ i few.
        let here : at + 4 * i ≡ at + 0 + 4 * i = omega arith in
        let below : i < req = omega (arith, few, same) in
        subst (λ a. ValueAt w.places y.arena a (slice_index_or (take req vs) i nil)) here
        (subst (λ v. ValueAt w.places y.arena (at + 4 * i) v) (sym (taken_same req vs i below)) (values i below))) in
        let more : List ℕ = extra_words extra self chain (length vs) at in
        let others : WordsIn loads.after (rest_registers ++ extras setting extra) (rw ++ more) =
        rest_and_others (is_some q.rest) rw (extras setting extra) more regs loads.after (loads.below 4 (omega arith)) rest_there
        (extras_in setting extra self chain (length vs) at loads.after (loads.below 0 (omega arith) ∙ r0) (loads.below 1 (omega arith) ∙ r1) (loads.below 2 (omega arith) ∙ r2)
        (loads.below 3 (omega arith) ∙ r3)) in
        let all_there : WordsIn loads.after args (loads.ws ++ (rw ++ more)) =
        subst (λ l. WordsIn loads.after (registers_from 7 l ++ (rest_registers ++ extras setting extra)) (loads.ws ++ (rw ++ more))) same
        (loads.there (rest_registers ++ extras setting extra) (rw ++ more) others) in
        let size = loads.count in
        let within = loads.within in
        let paid : ℕ = call_cost args in
        let y2 : MidState = mid_charged loads.cost y in
        let last : Steps = call 4 (body_of_procedure setting.at number) args ∷ return_word 4 ∷ [] in
        let behind : MidOutcome = exec c (code_of last) loads.after y2 in
        let runs : exec c (code_of (body_steps (length (take req vs)))) regs y ≡ behind =
        (parts_then (words_loaded (length (take req vs)) 7 3 0) last loads.run (record { same = refl })).same in
        let body_ends : SparingCall setting (body_credit q) m rs valid w around x (mid_charged paid y2) (meant x)
        (called c (body_of_procedure setting.at number) (loads.ws ++ (rw ++ more)) (mid_charged paid y2)) =
        fewer_turns setting setting.turns_each m few_turns_left
        (subst (λ ws. SparingCall setting (body_credit q) setting.turns_each rs valid w around x (mid_charged paid y2) (meant x) (called c (body_of_procedure setting.at number) ws (mid_charged paid y2)))
        (append_assoc loads.ws rw more)
        (does rs valid n cs called_as variables (loads.ws ++ rw) more w around x (mid_charged paid y2) function fits
        (record {
          call = cost_begins paid (cost_begins loads.cost begins);
          variables = both_words w.places (take req vs) rv loads.ws rw loads.of_values of_rest;
          variable_count =
              omega (arith, length-append (take req vs) rv, length-append q.required (option_to_list q.rest), same, rest_many);
          extras = extra_below setting extra q cs called_as more w x y (mid_charged paid y2) (λ a. refl) (omega arith) given;
          site = λ asks. site;
        }))) in
        subst (λ l. SparingCall setting loaded_paid m rs valid w around x y (meant x) (exec c (code_of (body_steps l)) regs y)) same
        (subst (λ o. SparingCall setting loaded_paid m rs valid w around x y (meant x) o) (sym runs)
        (going_on_law setting loads.cost (body_credit q + paid + return_cost) loaded_paid m m rs valid w w around (charged 1 x) (charged 1 x) y y2 (meant x) behind
        (world_cost setting loads.cost (things_units setting 1 begins.things)) (around_cost setting (charged 1 x) y loads.cost (omega arith)) (omega (arith, within, same)) (omega arith) refl
        (returned setting (suc j) n (body_credit q) m 4 (body_of_procedure setting.at number) args (loads.ws ++ (rw ++ more)) [] rs valid w around (charged 1 x) y2 loads.after (meant x)
        all_there (omega (arith, size, count)) (things_cost setting loads.cost (things_units setting 1 begins.things)) body_ends)))

    -- ---- the call of a method is kept

    abbrev loaded : Registers → MidState → MidOutcome
    loaded g x = exec c (code_of (body_steps req)) g x

    abbrev keep_call : MidStep
    keep_call = call 3 (method_routine setting.at) (1 ∷ 2 ∷ 3 ∷ [])

    extras_held :
        (w : World) (x : FlatState) (y : MidState) (at : ℕ) (e : Extra) → CalledFits setting e called_as → SelfHeld w x.captured (Some self) cs
        → MethodHeld setting w y.arena q.keeps_method (as_registers (chain ∷ length vs ∷ at ∷ [])) (Some 0) called_as
        → MethodThere setting w y.arena (as_registers (chain ∷ length vs ∷ at ∷ [])) (Some 0) called_as
        → ExtraGiven setting w x y e q cs called_as (extra_words e self chain (length vs) at)
    unfolding extra_words
    extras_held w x y at nothing fits held method there = (fits, refl)
    extras_held w x y at itself fits held method there = (fits, refl, held)
    extras_held w x y at its_method fits held method there = (refl, method, there)

    -- where nothing is kept, the arguments are loaded from where they were lent
    unkept_ends :
        {w : World} {x : FlatState} {y : MidState} (paid : ℕ) (regs regs' : Registers) → Given w x y regs → length regs' ≡ length regs → ((r : ℕ) → r < 5 → register r regs' ≡ register r regs)
        → MethodHeld setting w y.arena q.keeps_method (as_registers (chain ∷ length vs ∷ address ∷ [])) (Some 0) called_as → WordsOf w.places rv rw → WordsIn regs' rest_registers rw
        → SparingCall setting loaded_paid m rs valid w around x (mid_charged paid y) (meant x) (loaded regs' (mid_charged paid y))
    unkept_ends {w} {x} {y} paid regs regs' g count same method of_rest rest_there =
        loaded_ends address regs' (cost_begins paid g.call) (count ∙ g.count) (same 0 (omega arith) ∙ g.self_there) (same 1 (omega arith) ∙ g.chain_there) (same 2 (omega arith) ∙ g.count_there)
        (same 3 (omega arith) ∙ g.at_there) (λ i few. given_values setting g.call.things address vs g.arguments i (omega (arith, few, enough)))
        (extras_held w x (mid_charged paid y) address extra as_extra g.held method (method_there setting w y chain (length vs) address vs called_as g.method_arguments g.arguments)) g.site g.fits
        of_rest rest_there

    abbrev kept_paid : ℕ
    kept_paid = 20 + loaded_paid

    -- no method was called
    none_kept :
        {w : World} {x : FlatState} {y : MidState} (regs : Registers) → called_as ≡ None → Given w x y regs → WordsOf w.places rv rw → WordsIn regs rest_registers rw
        → SparingCall setting kept_paid m rs valid w around x y (meant x) (exec c (code_of (constant 5 0 ∷ if_equal 1 5 [] (keep_call ∷ []) ∷ body_steps req)) regs y)
    none_kept {w} {x} {y} regs none g of_rest rest_there =
        let regs5 : Registers = slice_set regs 5 (Some 0) in
        let size = g.count in
        let zero_chain : chain ≡ 0 = no_chain called_as none g.method in
        let run : RunsTo c (code_of (constant 5 0 ∷ if_equal 1 5 [] (keep_call ∷ []) ∷ [])) regs y (ends falls regs5 (mid_charged 20 y)) =
        costing {n = y.cost + 20}
        (and_then constant_falls
        (and_then
        (choose_first_falls {a = chain} {b = 0} (register_beside regs 5 1 (Some 0) (λ e. omega (arith, e)) ∙ g.chain_there) (register_here regs 5 0 (omega (arith, size))) (eq-eqb _ _ zero_chain) none_left)
        none_left))
        (omega arith) in
        let whole = parts_then (constant 5 0 ∷ if_equal 1 5 [] (keep_call ∷ []) ∷ []) (body_steps req) run (record { same = refl }) in
        subst (λ o. SparingCall setting kept_paid m rs valid w around x y (meant x) o) (sym whole.same)
        (going_on_law setting 20 loaded_paid kept_paid m m rs valid w w around (charged 1 x) (charged 1 x) y (mid_charged 20 y) (meant x) (loaded regs5 (mid_charged 20 y))
        (world_cost setting 20 (things_units setting 1 g.call.things)) (around_cost setting (charged 1 x) y 20 (omega arith)) (omega arith) (omega arith) refl
        (unkept_ends 20 regs regs5 g (length-set regs 5 (Some 0)) (λ r few. register_beside regs 5 r (Some 0) (λ e. omega (arith, e, few))) (held_none called_as q.keeps_method none g.method) of_rest
        (rest_beside (is_some q.rest) rw regs5 regs (register_beside regs 5 4 (Some 0) (λ e. omega (arith, e))) rest_there)))
      where
        held_none :
            (o : Option Called) (b : Bool) → o ≡ None → MethodHeld setting w y.arena false (as_registers (chain ∷ length vs ∷ address ∷ [])) (Some 0) o
            → MethodHeld setting w y.arena b (as_registers (chain ∷ length vs ∷ address ∷ [])) (Some 0) o
        held_none None b e h = h
        held_none (Some k) b e h = absurd (cc e)

        no_chain : (o : Option Called) → o ≡ None → MethodHeld setting w y.arena false (as_registers (chain ∷ length vs ∷ address ∷ [])) (Some 0) o → chain ≡ 0
        no_chain None e h = cc h.2
        no_chain (Some k) e h = absurd (cc e)

    -- a method was called: its arguments are kept behind its chain
    module _ (keeps : MethodDoesAnywhere setting (suc j) n) (left_over : m + 16 ≤ n + entry_spare) (called_there : Called) (is_called : called_as ≡ Some called_there) (same_arguments : called_there.arguments ≡ vs)
        (w : World) (x : FlatState) (y : MidState) (regs : Registers) (g : Given w x y regs) (of_rest : WordsOf w.places rv rw) (rest_there : WordsIn regs rest_registers rw) where
      abbrev regs5 : Registers
      regs5 = slice_set regs 5 (Some 0)

      abbrev y5 : MidState
      y5 = mid_charged 6 y

      abbrev y6 : MidState
      y6 = mid_charged test_cost y5

      abbrev y7 : MidState
      y7 = mid_charged 58 y6

      abbrev choice : MidStep
      choice = if_equal 1 5 [] (keep_call ∷ [])

      abbrev jumping : Registers → MidState → MidOutcome
      jumping g1 x1 = mid_go_on (ends falls g1 (mid_charged jump_cost x1)) (λ g2 x2. loaded g2 x2)

      abbrev keep_words : List ℕ
      keep_words = chain ∷ length called_there.arguments ∷ address ∷ []

      abbrev kept_record : FlatEvaluated
      kept_record = with_record setting.limit (Some called_there) true x (λ a. gives nil a)

      abbrev kept_outcome : MidOutcome
      kept_outcome = called c (method_routine setting.at) keep_words y7

      abbrev Kept : Type 0
      Kept = MethodKept setting (suc j) n rs valid w around x y7 called_there (argument_credit (length called_there.arguments)) kept_record kept_outcome

      held : CallHeld setting w y.arena false (as_registers (chain ∷ length vs ∷ address ∷ [])) 0 called_there
      held = subst (λ o. MethodHeld setting w y.arena false (as_registers (chain ∷ length vs ∷ address ∷ [])) (Some 0) o) is_called g.method

      same_chain : held.chain ≡ chain
      same_chain = sym (cc held.chain_word)

      counted : length called_there.arguments ≡ length vs
      counted = ap length same_arguments

      chain_at : ChainAt setting chain called_there.rest
      chain_at = subst (λ a. ChainAt setting a called_there.rest) same_chain held.chain_stands

      takes_them : ChainTakes setting (length called_there.arguments) called_there.rest
      takes_them = held.takes

      later : FlatLater x kept_record.state
      later = (records {R = FlatLater} {k = later_kept} setting.limit around.exits (Some called_there) true x (λ a. given around.exits nil a (later_kept.none a))).grows

      begins7 : CallBegins setting rs valid inside_words w around x y7
      begins7 = cost_begins 58 (cost_begins test_cost (cost_begins 6 g.call))

      five_below : (r : ℕ) → r < 5 → register r regs5 ≡ register r regs
      five_below r few = register_beside regs 5 r (Some 0) (λ e. omega (arith, e, few))

      words_there : WordsIn regs5 (1 ∷ 2 ∷ 3 ∷ []) keep_words
      words_there = (
        five_below 1 (omega arith) ∙ g.chain_there,
        (five_below 2 (omega arith) ∙ g.count_there ∙ ap (λ k. Some k) (sym counted), (five_below 3 (omega arith) ∙ g.at_there, tt)),
      )

      jumping_grows : (g1 : Registers) (x1 : MidState) → Grown x1 (jumping g1 x1).state
      jumping_grows g1 x1 =
          subst (λ (p : MidOutcome). Grown x1 p.state) (sym (go_on_falls (ends falls g1 (mid_charged jump_cost x1)) (λ g2 x2. loaded g2 x2) refl))
          (both_grown (charged_grown jump_cost x1) (steps_grow setting (suc j) n (body_steps req) g1 (mid_charged jump_cost x1)))

      -- behind the call, where the routine left a unit
      abbrev kept_behind : ℕ
      kept_behind = 58 + (loaded_paid - 700)

      kept_on :
          (t : Kept) → SparingCall setting kept_behind m rs valid w around x y6 (meant kept_record.state) (jumping (slice_set regs5 3 (Some (t.start + 8))) kept_outcome.state)
      kept_on t =
          let b6 : CallBegins setting rs valid inside_words w around x y6 = cost_begins test_cost (cost_begins 6 g.call) in
          let world : WorldKept setting w t.w' x kept_record.state y6 kept_outcome.state =
          world_then setting (world_cost setting 58 b6.things) (around_cost setting {credit = 58} x y6 58 (omega arith)) t.world in
          let back : Around setting (58 + argument_credit (length called_there.arguments)) x kept_record.state y6 kept_outcome.state =
          back_then setting (world_cost setting 58 b6.things) (around_cost setting {credit = 58} x y6 58 (omega arith)) (omega arith) t.back in
          let regs' : Registers = slice_set regs5 3 (Some (t.start + 8)) in
          let w2 : World = t.w' in
          let x2 : FlatState = kept_record.state in
          let y8 : MidState = kept_outcome.state in
          let size = g.count in
          let size5 : length regs5 ≡ length regs = length-set regs 5 (Some 0) in
          let place : slice_get w2.methods (length w.methods) ≡ Some (t.start, called_there) =
          ap (λ (u : World). slice_get u.methods (length w.methods)) t.added ∙ behind_front w.methods ((t.start, called_there) ∷ []) 0 (length w.methods) (t.start, called_there) (omega arith) refl in
          let stands = t.world.things.methods (length w.methods) t.start called_there place in
          let beside : (r : ℕ) → r < 5 → (r ≡ 3 → ⊥) → register r regs' ≡ register r regs =
          λ r few other. register_beside regs5 3 r (Some (t.start + 8)) (λ e. other (sym e)) ∙ five_below r few in
          let kept_there : ArgumentsKept w2 (t.start + 8) called_there.arguments =
          record { number = length w.methods; start = t.start; call = called_there; is_kept = place; before = []; arguments = refl; here = omega arith } in
          let method : MethodHeld setting w2 y8.arena q.keeps_method (as_registers (chain ∷ length vs ∷ (t.start + 8) ∷ [])) (Some 0) called_as =
          subst (λ o. MethodHeld setting w2 y8.arena q.keeps_method (as_registers (chain ∷ length vs ∷ (t.start + 8) ∷ [])) (Some 0) o) (sym is_called)
          (record {
            chain = chain;
            arguments = t.start + 8;
            chain_word = refl;
            count_word = ap (λ k. Some k) (sym counted);
            arguments_word = refl;
            chain_stands = chain_at;
            takes = takes_them;
            held = in_heap kept_there;
            kept = λ keep. (t.start, refl, (length w.methods, place));
          }) in
          let method_is_there : MethodThere setting w2 y8.arena (as_registers (chain ∷ length vs ∷ (t.start + 8) ∷ [])) (Some 0) called_as =
          subst (λ o. MethodThere setting w2 y8.arena (as_registers (chain ∷ length vs ∷ (t.start + 8) ∷ [])) (Some 0) o) (sym is_called)
          (λ a e. let same : t.start + 8 ≡ a = cc e in inl (subst (λ x. ArgumentsKept w2 x called_there.arguments) same kept_there)) in
          let call8 : CallBegins setting rs valid inside_words w2 around x2 y8 =
          call_then setting world back inside_words (cost_begins test_cost (cost_begins 6 g.call)) (room_after setting.limit _ _ x x2 y6 y8 (omega arith) back.charged (cost_begins test_cost (cost_begins 6 g.call)).room) in
          let y9 : MidState = mid_charged jump_cost y8 in
          let behind_ends : SparingCall setting (2 + loaded_paid) m rs valid w2 around x2 y8 (meant x2) (jumping regs' y8) =
          subst (λ o. SparingCall setting (2 + loaded_paid) m rs valid w2 around x2 y8 (meant x2) o) (sym (go_on_falls (ends falls regs' y9) (λ g2 x3. loaded g2 x3) refl))
          (going_on_law setting jump_cost loaded_paid (2 + loaded_paid) m m rs valid w2 w2 around (charged 1 x2) (charged 1 x2) y8 y9 (meant x2) (loaded regs' y9)
          (world_cost setting jump_cost (things_units setting 1 call8.things)) (around_cost setting (charged 1 x2) y8 jump_cost (omega arith)) (omega arith) (omega arith) refl
          (loaded_ends (t.start + 8) regs' (cost_begins jump_cost call8) (length-set regs5 3 (Some (t.start + 8)) ∙ size5 ∙ g.count) (beside 0 (omega arith) (λ e. omega (arith, e)) ∙ g.self_there)
          (beside 1 (omega arith) (λ e. omega (arith, e)) ∙ g.chain_there) (beside 2 (omega arith) (λ e. omega (arith, e)) ∙ g.count_there)
          (register_here regs5 3 (t.start + 8) (omega (arith, size5, size)))
          (λ i few.
          subst (λ us. ValueAt w2.places y9.arena (t.start + 8 + 4 * i) (slice_index_or us i nil)) same_arguments (stands.arguments i (omega (arith, few, enough, counted))))
          (extras_held w2 x2 y9 (t.start + 8) extra as_extra
          (self_out x.captured x2.captured (Some self) world.later (captured_later setting g.call.things later) cs g.held) method method_is_there)
          (t.site g.site) (fits_later extra world.later g.fits) (of_values_later world.later rv rw of_rest)
          (rest_beside (is_some q.rest) rw regs' regs (beside 4 (omega arith) (λ e. omega (arith, e))) rest_there))) in
          let spared = t.spared in
          let costs = (called_grows setting (suc j) n (method_routine setting.at) keep_words y7).cost in
          going_on_law setting 58 (loaded_paid - 700) kept_behind m m rs valid w w2 around (charged 1 x) x2 y6 y8 (meant x2) (jumping regs' y8)
          (record { later = world.later; things = world.things; stack = world.stack; end = world.end; more_exits = world.more_exits; same_size = world.same_size })
          (record { control = back.control; blocks = back.blocks; charged = back.charged; paid = omega (arith, spared) }) (omega arith) (omega (arith, spared, costs)) t.frame
          (calls_spared setting {credit = 2 + loaded_paid} {c = loaded_paid - 700} (omega arith) behind_ends)

      one_kept :
          SparingCall setting kept_paid m rs valid w around x y (with_record setting.limit (Some called_there) true x (λ recorded. meant recorded))
          (exec c (code_of (constant 5 0 ∷ choice ∷ body_steps req)) regs y)
      one_kept =
          let size = g.count in
          let some_chain = chain_at.some in
          let chosen = choose_second {c = c} {t = test_of Equal 1 5} {first = code_of []} {second = code_of (keep_call ∷ [])} {a = chain} {b = 0} {rs = regs5} {z = y5} {r = exec_step c keep_call regs5 y6}
          (five_below 1 (omega arith) ∙ g.chain_there) (register_here regs 5 0 (omega (arith, size))) (ne_eqb chain 0 (λ e. omega (arith, e, some_chain)))
          (record { same = single_step c keep_call regs5 y6 }) in
          let run : exec c (code_of (constant 5 0 ∷ choice ∷ body_steps req)) regs y ≡ mid_go_on (exec_step c keep_call regs5 y6) jumping =
          (parts_then (constant 5 0 ∷ []) (choice ∷ body_steps req) {r = mid_go_on (exec_step c keep_call regs5 y6) jumping} (and_then constant_falls none_left)
          (record {
            same =
                step_then c choice (body_steps req) regs5 y5 ∙ ap (λ o. mid_go_on o (λ g2 x2. loaded g2 x2)) chosen.same
                ∙ go_on_twice (exec_step c keep_call regs5 y6) (λ g1 x1. ends falls g1 (mid_charged jump_cost x1)) (λ g2 x2. loaded g2 x2);
          })).same in
          subst (λ p. SparingCall setting kept_paid m rs valid w around x y p (exec c (code_of (constant 5 0 ∷ choice ∷ body_steps req)) regs y))
          (sym (record_in_parts setting.limit called_there x (λ recorded. meant recorded)))
          (subst (λ p. SparingCall setting kept_paid m rs valid w around x y (go_on kept_record (λ v a. meant a)) p) (sym run)
          (going_on_law setting 18 kept_behind kept_paid m m rs valid w w around (charged 1 x) (charged 1 x) y y6 (go_on kept_record (λ v a. meant a))
          (mid_go_on (exec_step c keep_call regs5 y6) jumping) (world_both setting 1 twice_world) (around_both setting 1 twice_around) (omega arith) (omega arith) refl
          (made_after setting Kept (λ t. nil) (λ t. t.start + 8) c no_words_cost kept_behind (n + entry_spare) m 3 (method_routine setting.at) (1 ∷ 2 ∷ 3 ∷ []) keep_words rs valid w around x y6 regs5
          kept_record (λ v a. meant a) jumping words_there left_over (omega arith) (λ v a. grown_later (meant_later setting j q cs called_as variables around a)) (λ g1 x1. jumping_grows g1 x1)
          (λ t. ap (λ (e : FlatEvaluated). e.outcome) t.outcome) (λ t. t.end)
          (keeps rs valid w around x y7 called_there chain address chain_at takes_them (subst (λ us. ArgumentsGiven setting w y7.arena address us) (sym same_arguments) g.arguments)
          (fewer_begins routine_words reserve_there begins7))
          (λ t. kept_on t))))
        where
          twice_world : WorldKept setting w w x x y y6
          twice_world = world_then setting (world_cost setting 6 g.call.things) (around_cost setting {credit = 6} x y 6 (omega arith)) (world_cost setting test_cost (cost_begins 6 g.call).things)

          twice_around : Around setting 18 x x y y6
          twice_around =
              back_then setting (world_cost setting 6 g.call.things) (around_cost setting {credit = 6} x y 6 (omega arith)) (omega arith) (around_cost setting {credit = test_cost} x y5 test_cost (omega arith))

    -- **behind the list**: the call of a method is kept where it has to be
    abbrev kept_code : Bool → Steps
    kept_code b = (if b then constant 5 0 ∷ if_equal 1 5 [] (keep_call ∷ []) ∷ [] else []) ++ body_steps req

    not_kept : {w : World} {x : FlatState} {y : MidState} (regs : Registers) → q.keeps_method ≡ false → Given w x y regs → WordsOf w.places rv rw → WordsIn regs rest_registers rw
        → SparingCall setting kept_paid m rs valid w around x y (meant x) (loaded regs y)
    not_kept {w} {x} {y} regs keeps_none g of_rest rest_there =
        let no_cost : y.cost + 0 ≡ y.cost = omega arith in
        calls_recounted setting {c1 = loaded_paid} {m1 = m} x (x.state.units + 1) (x.state.units + 1) (omega arith) (omega arith)
        (subst (λ k. SparingCall setting loaded_paid m rs valid w around x (record y { cost = k }) (meant x) (loaded regs (record y { cost = k }))) no_cost
        (unkept_ends 0 regs regs g refl (λ r few. refl)
        (subst (λ b. MethodHeld setting w y.arena b (as_registers (chain ∷ length vs ∷ address ∷ [])) (Some 0) called_as) (sym keeps_none) g.method) of_rest rest_there))

    method_ends :
        MethodDoesAnywhere setting (suc j) n → m + 16 ≤ n + entry_spare → (b : Bool) → q.keeps_method ≡ b → (o : Option Called)
        → called_as ≡ o → {w : World} {x : FlatState} {y : MidState} (regs : Registers) → Given w x y regs → WordsOf w.places rv rw → WordsIn regs rest_registers rw
        → SparingCall setting kept_paid m rs valid w around x y (with_record setting.limit o b x (λ recorded. meant recorded)) (exec c (code_of (kept_code b)) regs y)
    method_ends keeps left_over false same None e regs g of_rest rest_there = not_kept regs same g of_rest rest_there
    method_ends keeps left_over false same (Some k) e regs g of_rest rest_there = not_kept regs same g of_rest rest_there
    method_ends keeps left_over true same None e regs g of_rest rest_there = none_kept regs e g of_rest rest_there
    method_ends keeps left_over true same (Some k) e {w} {x} {y} regs g of_rest rest_there =
        one_kept keeps left_over k e (g.method_arguments k e) w x y regs g of_rest rest_there

  -- ---- further arguments become a list

  module _ (j n m : ℕ) (does : BodyDoes setting j number extra q) (function : IsFunction setting number extra q) (few_turns_left : m ≤ setting.turns_each) (enough : req ≤ length vs)
      (as_extra : CalledFits setting extra called_as) (lists_made : ListDoesAnywhere setting (suc j) n) (keeps : MethodDoesAnywhere setting (suc j) n) (left_over : m + 16 ≤ n + entry_spare) where
    abbrev code_here : Context
    code_here = code_at setting (suc j) n

    abbrev list_call : MidStep
    list_call = call 4 (list_routine setting.at) (5 ∷ 6 ∷ [])

    abbrev kept_steps : Steps
    kept_steps = (if q.keeps_method then constant 5 0 ∷ if_equal 1 5 [] (call 3 (method_routine setting.at) (1 ∷ 2 ∷ 3 ∷ []) ∷ []) ∷ [] else []) ++ body_steps req

    abbrev front : Steps
    front = constant 5 (4 * req) ∷ compute 5 which.Add 3 5 ∷ constant 6 req ∷ compute 6 which.Subtract 2 6 ∷ []

    abbrev pub recorded_body : List Value → FlatState → FlatEvaluated
    recorded_body us gone = with_record setting.limit called_as q.keeps_method gone (λ recorded. mean_inside (context_at setting (suc j)) q cs called_as us around recorded)

    recorded_later : (us : List Value) (x : FlatState) → FlatLater x (recorded_body us x).state
    recorded_later us x =
        (records {R = FlatLater} {k = later_kept} setting.limit around.exits called_as q.keeps_method x
        (λ a.
        boxes {R = FlatLater} {k = later_kept} setting.limit around.exits (homes q) a
        (λ got. own_slots_left (homes q) us got (λ b. tasks_below setting (suc j) (form q.body) (record no_environment { captured = cs; method = called_as }) around b)))).grows

    abbrev all_kept_paid : ℕ
    all_kept_paid = 20 + (24 * req + (body_credit q + call_cost args + return_cost))

    abbrev rest_paid : ℕ
    rest_paid = 84 + list_credit (length vs) + all_kept_paid

    abbrev pub rest_code : Bool → Steps
    rest_code b = (if b then constant 5 (4 * req) ∷ compute 5 which.Add 3 5 ∷ constant 6 req ∷ compute 6 which.Subtract 2 6 ∷ list_call ∷ [] else []) ++ kept_steps

    no_list : (o : Bool) (regs : Registers) → o ≡ false → WordsIn regs (if o then 4 ∷ [] else []) []
    no_list true regs e = absurd (cc e)
    no_list false regs e = tt

    one_list : (o : Bool) (word : ℕ) (regs : Registers) → o ≡ true → register 4 regs ≡ Some word → WordsIn regs (if o then 4 ∷ [] else []) (word ∷ [])
    one_list true word regs e h = (h, tt)
    one_list false word regs e h = absurd (cc e)

    without_rest : {w : World} {x : FlatState} {y : MidState} (regs : Registers) → is_some q.rest ≡ false → length vs ≡ req → Given w x y regs
        → SparingCall setting rest_paid m rs valid w around x y (recorded_body vs x) (exec code_here (code_of kept_steps) regs y)
    without_rest {w} {x} {y} regs none many g =
        calls_recounted setting {c1 = all_kept_paid} {m1 = m} x (x.state.units + 1) (x.state.units + 1) (omega arith) (omega arith)
        (subst (λ us. SparingCall setting all_kept_paid m rs valid w around x y (recorded_body us x) (exec code_here (code_of kept_steps) regs y)) (all_taken req vs many)
        (method_ends j n m does function few_turns_left enough [] [] (no_rest_many q.rest none) as_extra keeps left_over q.keeps_method refl called_as refl regs g tt
        (no_list (is_some q.rest) regs none)))

    module _ (w : World) (x : FlatState) (y : MidState) (regs : Registers) (g : Given w x y regs) (more : is_some q.rest ≡ true) where
      abbrev tail_values : List Value
      tail_values = drop req vs

      tail_count : length tail_values + req ≡ length vs
      tail_count = dropped_count req vs enough

      abbrev listed : FlatEvaluated
      listed = make_list setting.limit tail_values x (λ v a. gives v a)

      listed_later : FlatLater x listed.state
      listed_later = (lists {R = FlatLater} {k = later_kept} setting.limit around.exits tail_values x (λ v a. given around.exits v a (later_kept.none a))).grows

      abbrev at : ℕ
      at = sum32 address (4 * req)

      abbrev r1 : Registers
      r1 = slice_set regs 5 (Some (4 * req))

      abbrev r2 : Registers
      r2 = slice_set r1 5 (Some at)

      abbrev r3 : Registers
      r3 = slice_set r2 6 (Some req)

      abbrev r4 : Registers
      r4 = slice_set r3 6 (Some (length tail_values))

      size4 : length r4 ≡ length regs
      size4 = length-set r3 6 (Some (length tail_values)) ∙ length-set r2 6 (Some req) ∙ length-set r1 5 (Some at) ∙ length-set regs 5 (Some (4 * req))

      below4 : (r : ℕ) → r < 5 → register r r4 ≡ register r regs
      below4 r few =
          register_beside r3 6 r (Some (length tail_values)) (λ e. omega (arith, e, few)) ∙ register_beside r2 6 r (Some req) (λ e. omega (arith, e, few))
          ∙ register_beside r1 5 r (Some at) (λ e. omega (arith, e, few)) ∙ register_beside regs 5 r (Some (4 * req)) (λ e. omega (arith, e, few))

      abbrev y32 : MidState
      y32 = mid_charged 32 y

      memory_small : length y.arena.memory ≤ 2 ^ 24
      memory_small = g.call.things.represents.arena.size

      few_values : length vs < 2 ^ 32
      few_values = values_fit vs w.places y.arena address memory_small (given_values setting g.call.things address vs g.arguments)

      front_runs : RunsTo code_here (code_of front) regs y (ends falls r4 y32)
      front_runs =
          let size = g.count in
          let s1 : length r1 ≡ length regs = length-set regs 5 (Some (4 * req)) in
          let s2 : length r2 ≡ length r1 = length-set r1 5 (Some at) in
          let counted = tail_count in
          let fits = few_values in
          costing {n = y.cost + 32}
          (and_then constant_falls
          (and_then
          (compute_known (register_beside regs 5 3 (Some (4 * req)) (λ e. omega (arith, e)) ∙ g.at_there) (register_here regs 5 (4 * req) (omega (arith, size))) refl)
          (and_then constant_falls
          (and_then
          (compute_known
          (register_beside r2 6 2 (Some req) (λ e. omega (arith, e)) ∙ register_beside r1 5 2 (Some at) (λ e. omega (arith, e)) ∙ register_beside regs 5 2 (Some (4 * req)) (λ e. omega (arith, e))
          ∙ g.count_there)
          (register_here r2 6 req (omega (arith, size, s1, s2))) (difference_fits (length vs) req (length tail_values) fits (omega (arith, counted))))
          none_left))))
          (omega arith)

      abbrev list_words : List ℕ
      list_words = at ∷ length tail_values ∷ []

      list_there : WordsIn r4 (5 ∷ 6 ∷ []) list_words
      list_there =
          let size = g.count in
          let s1 : length r1 ≡ length regs = length-set regs 5 (Some (4 * req)) in
          let s2 : length r2 ≡ length r1 = length-set r1 5 (Some at) in
          let s3 : length r3 ≡ length r2 = length-set r2 6 (Some req) in (
            register_beside r3 6 5 (Some (length tail_values)) (λ e. omega (arith, e)) ∙ register_beside r2 6 5 (Some req) (λ e. omega (arith, e)) ∙ register_here r1 5 at (omega (arith, size, s1)),
            (register_here r3 6 (length tail_values) (omega (arith, size, s1, s2, s3)), tt),
          )

      abbrev y84 : MidState
      y84 = mid_charged 52 y32

      abbrev list_outcome : MidOutcome
      list_outcome = called code_here (list_routine setting.at) list_words y84

      abbrev Made : Type 0
      Made = ListThere setting (suc j) n rs valid w around x y84 (list_credit (length tail_values)) listed list_outcome

      begins32 : CallBegins setting rs valid inside_words w around x y32
      begins32 = cost_begins 32 g.call

      -- the further arguments are given too
      tail_given : (v : Value) (others : List Value) → tail_values ≡ v ∷ others → ArgumentsGiven setting w y84.arena at tail_values
      tail_given v others e = by g.arguments
        where
          counted : length tail_values + req ≡ length vs
          counted = tail_count

          in_memory : address + 4 * req < 4 * length y.arena.memory
          in_memory =
              let some : length tail_values ≡ suc (length others) = ap length e in
              let first = given_values setting g.call.things address vs g.arguments req (omega (arith, counted, some)) in
              word_below y.arena (address + 4 * req) first.word first.stands

          at_is : at ≡ address + 4 * req
          at_is = let limit = in_memory in let small = memory_small in sum_fits address (4 * req) (omega (arith, limit, small))

          by : ArgumentsGiven setting w y.arena address vs → ArgumentsGiven setting w y84.arena at tail_values
          by (inl lent) =
              let low = lent.low in
              let limit = in_memory in
              let small = memory_small in
              inl (record {
                low = omega (arith, low, at_is);
                is_word = omega (arith, limit, small, at_is);
                values = λ i few.
                    let here : address + 4 * (req + i) ≡ at + 4 * i = omega (arith, at_is) in
                    subst (λ a. ValueAt w.places y.arena a (slice_index_or tail_values i nil)) here
                    (subst (λ u. ValueAt w.places y.arena (address + 4 * (req + i)) u) (sym (dropped_same req vs i)) (lent.values (req + i) (omega (arith, few, counted))));
                plain = λ i few.
                    let here : address + (4 * req + i) ≡ at + i = omega (arith, at_is) in subst (λ a. Plain w a) here (lent.plain (4 * req + i) (omega (arith, few, counted)));
              })
          by (inr kept) =
              let here = kept.here in
              let more = length-append kept.before (take req vs) in
              let taken = taken_count req vs enough in
              inr (record {
                number = kept.number;
                start = kept.start;
                call = kept.call;
                is_kept = kept.is_kept;
                before = kept.before ++ take req vs;
                arguments = kept.arguments ∙ ap (λ us. kept.before ++ us) (sym (take-append-drop req vs)) ∙ sym (append_assoc kept.before (take req vs) tail_values);
                here = omega (arith, at_is, here, more, taken);
              })

      -- behind the list
      listed_on :
          (t : Made) → WorldKept setting w t.returned.w' x listed.state y32 list_outcome.state
          → Around setting (list_credit (length tail_values) + call_cost (5 ∷ 6 ∷ [])) x listed.state y32 list_outcome.state
          → SparingCall setting all_kept_paid m rs valid t.returned.w' around listed.state list_outcome.state (recorded_body (take req vs ++ t.returned.result ∷ []) listed.state)
          (exec code_here (code_of kept_steps) (slice_set r4 4 (Some t.returned.word)) list_outcome.state)
      listed_on t world back =
          let size = g.count in
          let g32 : Given w x y32 r4 =
          given_on r4 g (world_cost setting 32 g.call.things) (around_cost setting {credit = 32} x y 32 (omega arith)) (later_kept.none x) g.site size4 (λ r few. below4 r (omega (arith, few))) in
          let regs' : Registers = slice_set r4 4 (Some t.returned.word) in
          let g2 : Given t.returned.w' listed.state list_outcome.state regs' =
          given_on regs' g32 world back listed_later (t.site g.site) (length-set r4 4 (Some t.returned.word)) (λ r few. register_beside r4 4 r (Some t.returned.word) (λ e. omega (arith, e, few))) in
          method_ends j n m does function few_turns_left enough (t.returned.result ∷ []) (t.returned.word ∷ []) (one_rest_many t.returned.result q.rest more) as_extra keeps left_over q.keeps_method refl called_as
          refl regs' g2 (t.returned.of_value, tt) (one_list (is_some q.rest) t.returned.word regs' more (register_here r4 4 t.returned.word (omega (arith, size, size4))))

      with_rest :
          SparingCall setting rest_paid m rs valid w around x y (make_list setting.limit tail_values x (λ tail after. recorded_body (take req vs ++ tail ∷ []) after))
          (exec code_here (code_of (front ++ (list_call ∷ kept_steps))) regs y)
      with_rest =
          let counted = tail_count in
          let run : exec code_here (code_of (front ++ (list_call ∷ kept_steps))) regs y
          ≡ mid_go_on (exec_step code_here list_call r4 y32) (λ g1 x1. exec code_here (code_of kept_steps) g1 x1) =
          (parts_then front (list_call ∷ kept_steps) {r = mid_go_on (exec_step code_here list_call r4 y32) (λ g1 x1. exec code_here (code_of kept_steps) g1 x1)} front_runs
          (record { same = step_then code_here list_call kept_steps r4 y32 })).same in
          subst (λ p. SparingCall setting rest_paid m rs valid w around x y p (exec code_here (code_of (front ++ (list_call ∷ kept_steps))) regs y))
          (sym (list_in_parts setting.limit tail_values x (λ tail after. recorded_body (take req vs ++ tail ∷ []) after)))
          (subst (λ p. SparingCall setting rest_paid m rs valid w around x y (go_on listed (λ tail after. recorded_body (take req vs ++ tail ∷ []) after)) p) (sym run)
          (going_on_law setting 32 (52 + list_credit (length vs) + all_kept_paid) rest_paid m m rs valid w w around (charged 1 x) (charged 1 x) y y32
          (go_on listed (λ tail after. recorded_body (take req vs ++ tail ∷ []) after)) (mid_go_on (exec_step code_here list_call r4 y32) (λ g1 x1. exec code_here (code_of kept_steps) g1 x1))
          (world_cost setting 32 (things_units setting 1 g.call.things)) (around_cost setting (charged 1 x) y 32 (omega arith)) (omega arith) (omega arith) refl
          (made_then setting Made (λ t. t.returned.w') (λ t. t.returned.result) (λ t. t.returned.word) code_here (list_credit (length tail_values)) all_kept_paid
          (52 + list_credit (length vs) + all_kept_paid) (n + entry_spare) m 4 (list_routine setting.at) (5 ∷ 6 ∷ []) list_words rs valid w around x y32 r4 listed
          (λ tail after. recorded_body (take req vs ++ tail ∷ []) after) (λ g1 x1. exec code_here (code_of kept_steps) g1 x1) list_there begins32.things (omega (arith, counted)) left_over
          (grown_later listed_later).units (λ tail after. grown_later (recorded_later (take req vs ++ tail ∷ []) after)) (λ g1 x1. steps_grow setting (suc j) n kept_steps g1 x1)
          (λ t. record { outcome = t.returned.outcome; end = t.returned.end; world = t.returned.world; back = t.returned.back; frame = t.returned.frame })
          (lists_made rs valid w around x y84 tail_values at tail_given (fewer_begins routine_words reserve_there (cost_begins 52 begins32)))
          (λ t world back. listed_on t world back))))

    -- ---- a level is judged

    rest_ends :
        (b : Bool) → is_some q.rest ≡ b → (b ≡ false → length vs ≡ req) → {w : World} {x : FlatState} {y : MidState} (regs : Registers) → Given w x y regs
        → SparingCall setting rest_paid m rs valid w around x y (gathered setting.limit req b vs x (λ us gone. recorded_body us gone)) (exec code_here (code_of (rest_code b)) regs y)
    rest_ends false none many regs g = without_rest regs none (many refl) g
    rest_ends true more many {w} {x} {y} regs g = with_rest w x y regs g more

    pub gathered_later : (b : Bool) (x : FlatState) → FlatLater x (gathered setting.limit req b vs x (λ us gone. recorded_body us gone)).state
    gathered_later b x =
        (gathers {R = FlatLater} {k = later_kept} setting.limit around.exits req b vs x
        (λ us gone.
        records {R = FlatLater} {k = later_kept} setting.limit around.exits called_as q.keeps_method gone
        (λ a.
        boxes {R = FlatLater} {k = later_kept} setting.limit around.exits (homes q) a
        (λ got. own_slots_left (homes q) us got (λ e. tasks_below setting (suc j) (form q.body) (record no_environment { captured = cs; method = called_as }) around e))))).grows

    abbrev level_call : MidStep
    level_call = call 4 (level_routine setting.at) []

    abbrev pub level_paid : ℕ
    level_paid = 80 + rest_paid

    pub level_ends :
        IsPlaced setting → (is_some q.rest ≡ false → length vs ≡ req) → {w : World} {x : FlatState} {y : MidState} (regs : Registers) → Given w x y regs
        → SparingCall setting level_paid m rs valid w around x y (gathered setting.limit req (is_some q.rest) vs x (λ us gone. recorded_body us gone))
        (exec code_here (code_of (level_call ∷ rest_code (is_some q.rest))) regs y)
    level_ends placed many {w} {x} {y} regs g =
        let others : Steps = rest_code (is_some q.rest) in
        subst (λ o. SparingCall setting level_paid m rs valid w around x y (gathered setting.limit req (is_some q.rest) vs x (λ us gone. recorded_body us gone)) o)
        (sym (step_then code_here level_call others regs y))
        (made_then setting (LevelThere setting (suc j) n rs valid w around x (mid_charged 40 y) (called code_here (level_routine setting.at) [] (mid_charged 40 y))) (λ t. w) (λ t. nil) (λ t. t.word)
        code_here level_credit rest_paid level_paid (m + 16) m 4 (level_routine setting.at) [] [] rs valid w around x y regs (gives nil x)
        (λ v a. gathered setting.limit req (is_some q.rest) vs a (λ us gone. recorded_body us gone)) (λ g1 x1. exec code_here (code_of others) g1 x1) tt g.call.things (omega arith) (omega arith)
        (omega arith) (λ v a. grown_later (gathered_later (is_some q.rest) a)) (λ g1 x1. steps_grow setting (suc j) n others g1 x1)
        (λ t. record { outcome = refl; end = t.end; world = t.world; back = t.back; frame = refl })
        (levels_there_at setting j n (m + 16) rs valid w around x (mid_charged 40 y) placed (fewer_begins level_words (omega arith) (cost_begins 40 g.call)))
        (λ t world back.
        rest_ends (is_some q.rest) refl many (slice_set regs 4 (Some t.word))
        (given_on (slice_set regs 4 (Some t.word)) g world back (later_kept.none x) (t.site g.site) (length-set regs 4 (Some t.word))
        (λ r few. register_beside regs 4 r (Some t.word) (λ e. omega (arith, e, few))))))
