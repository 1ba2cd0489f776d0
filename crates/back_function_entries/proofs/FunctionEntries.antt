-- The entry of a function without further arguments, which keeps no call: its arguments are loaded, its body is called, and its word returned.
use Rattle.std.proofs.Common.{◌≡◌, inl, inr, ℕ, zero, suc, ◌+◌, ◌*◌, ◌==◌, ◌<◌, ◌≤◌, Bool, true, false, List, [], ◌∷◌, ◌++◌, length, Option, Some, None, refl, sym, ap, ◌∙◌, subst, arith}
use Rattle.std.specs.Prelude.{◌||◌, slice_get, slice_index_or, is_some, option_to_list, if◌then◌else◌}
use Rattle.std.proofs.lemmas.Bool.Decides.{nat_tests}
use Rattle.std.proofs.lemmas.List.{append-nil, length-append}
use Rattle.lang_meaning.specs.Counts.{application_words, unit_cost}
use Rattle.lang_meaning.specs.Objects.{Called, program_error_class}
use Rattle.lang_meaning.specs.Signals.{takes}
use Rattle.lang_meaning.specs.State.{DynamicContext, Limit, words, unlimited, has_room, more}
use Rattle.lang_meaning.specs.Values.{Value, nil}
use Rattle.flat_language.specs.declared.place.Home.{Home}
use Rattle.flat_language.specs.declared.program.FlatProcedure.{FlatProcedure}
use Rattle.flat_language.specs.FlatNodes.{homes, nodes}
use Rattle.flat_language.specs.FlatSignals.{FlatSignals, form, descend, enter, gathered, with_record, with_boxes}
use Rattle.flat_language.specs.FlatState.{Captured, no_environment, FlatState, FlatEvaluated, charged, in_frame, in_own_frame, with_slots}
use Rattle.flat_laws.specs.FlatLater.{FlatLater}
use Rattle.flat_laws.proofs.Applied.{boxes}
use Rattle.flat_laws.proofs.Combined.{own_slots_left}
use Rattle.flat_laws.proofs.Later.{later_kept}
use Rattle.mid_code.specs.declared.program.MidProcedure.{MidProcedure}
use Rattle.mid_code.specs.Arena.{word_at}
use Rattle.mid_code.specs.Costs.{entry_cost, return_cost}
use Rattle.mid_code.specs.Meaning.{exec}
use Rattle.mid_code.specs.MidCode.{return_word, code_of}
use Rattle.mid_code.specs.State.{Registers, register, first_registers, MidState, MidOutcome}
use Rattle.mid_code.specs.State.{charged as mid_charged}
use Rattle.mid_arena.specs.Places.{WordsOf}
use Rattle.mid_arena.specs.Standing.{ValueAt, ValuesAt}
use Rattle.mid_arena.proofs.Running.{parts_then}
use Rattle.back_lowering.specs.ControlWords.{site_address}
use Rattle.back_lowering.specs.Placement.{entry_of_lambda, body_of_procedure}
use Rattle.back_lowering.specs.Program.{Extra, nothing, its_method, itself, entry_extras, entry, body_of, lowered}
use Rattle.back_lowering.specs.Routines.{level_routine, list_routine, method_routine}
use Rattle.back_lowering.specs.Scope.{registers_from}
use Rattle.back_lowering.specs.Steps.{Steps, constant, compute, call, if_equal, words_loaded}
use Rattle.mid_code.specs.declared.operation.Arithmetic.TheVariants as which
use Rattle.back_relation.specs.Setting.{Setting}
use Rattle.back_relation.specs.Placed.{IsPlaced}
use Rattle.back_relation.specs.Room.{entry_words, words_for_handler}
use Rattle.back_relation.specs.Worlds.{World, Standing}
use Rattle.back_relation.specs.Things.{Things}
use Rattle.back_relation.specs.Around.{RoomFor, AroundStands, CallBegins}
use Rattle.back_relation.specs.Activation.{SelfHeld, ArgumentsThere, MethodHeld, MethodThere}
use Rattle.back_relation.specs.Ends.{done, left_by, full_there, stopped, few_turns, CallEnds, SparingCall}
use Rattle.back_relation.specs.Forms.{below_at, context_at, code_at}
use Rattle.back_relation.specs.Procedures.{called, as_registers, mean_inside, body_words, body_room, body_credit, entry_credit, IsFunction, CapturedFits, ExtraGiven, BodyDoes, ArgumentsGiven, CalledFits}
use Rattle.back_function_entries.proofs.Ready.{EntryReady, EntryReserve}
use Rattle.back_relation.proofs.Growth.{same_flat, grown_later}
use Rattle.back_relation.proofs.Worlds.{later_same, around_again}
use Rattle.back_relation.proofs.Straight.{same_here, things_units, things_cost, world_cost, around_cost}
use Rattle.back_calling.specs.Calling.{WordsIn, call_cost}
use Rattle.back_calling.proofs.Entered.{turns_entered, no_level_at}
use Rattle.back_calling.proofs.Growing.{tasks_below}
use Rattle.back_calling.proofs.Inner.{going_on_law, returned}
use Rattle.back_calling.proofs.Numbers.{numbers_law}
use Rattle.back_calling.proofs.Units.{begins_recounted, calls_recounted}
use Rattle.back_function_entries.proofs.Held.{extra_below, values_below, given_values, given_there}
use Rattle.back_function_entries.proofs.Scopes.{first_count}
use Rattle.back_calling.proofs.Applied.{called_grows}
use Rattle.back_calling.proofs.Levels.{level_there}
use Rattle.back_calling.proofs.Charging.{asked, things_charged, around_charged, framed_ends, within_asked}
use Rattle.back_function_entries.proofs.Loading.{loads_run}

same_numbers : (a b : ℕ) → (a == b) ≡ true → a ≡ b
same_numbers a b e = grind (arith, nat_tests)

pub taken : (o : Option Home) (a b : ℕ) → o ≡ None → takes a (is_some o) b ≡ true → b ≡ a
taken o a b none e = sym (same_numbers a b (ap (λ (u : Option Home). takes a (is_some u) b) (sym none) ∙ e))

-- the registers, and the words, behind those of the variables
abbrev pub extras : Setting → Extra → List ℕ
extras setting extra = entry_extras setting.names setting.at setting.program extra

unfoldable pub extra_words : Extra → (self chain count address : ℕ) → List ℕ
extra_words nothing self chain count address = []
extra_words its_method self chain count address = chain ∷ count ∷ address ∷ []
extra_words itself self chain count address = self ∷ []

pub extras_in : (setting : Setting) (extra : Extra) (self chain count address : ℕ) (regs : Registers) → register 0 regs ≡ Some self → register 1 regs ≡ Some chain → register 2 regs ≡ Some count
    → register 3 regs ≡ Some address → WordsIn regs (extras setting extra) (extra_words extra self chain count address)
unfolding extra_words
extras_in setting nothing self chain count address regs r0 r1 r2 r3 = tt
extras_in setting its_method self chain count address regs r0 r1 r2 r3 = (r1, (r2, (r3, tt)))
extras_in setting itself self chain count address regs r0 r1 r2 r3 = (r0, tt)

pub few_extras : (setting : Setting) (extra : Extra) → length (extras setting extra) ≤ 3
few_extras setting nothing = omega arith
few_extras setting its_method = omega arith
few_extras setting itself = omega arith

pub count_from : (d n : ℕ) → length (registers_from d n) ≡ n
count_from d zero = refl
count_from d (suc n) = let e = count_from (d + 1) n in omega (arith, e)

module _ (setting : Setting) where
  -- ---- two ways to say less

  pub fewer_turns :
      {credit : ℕ} {rs valid : List Standing} {w : World} {around : DynamicContext} {z : FlatState} {y : MidState} {r : FlatEvaluated} {o : MidOutcome} (m1 m : ℕ) → m ≤ m1
      → CallEnds setting credit m1 rs valid w around z y r o → CallEnds setting credit m rs valid w around z y r o
  fewer_turns m1 m l (done x) = done x
  fewer_turns m1 m l (left_by x) = left_by x
  fewer_turns m1 m l (full_there x) = full_there x
  fewer_turns m1 m l (stopped x) = stopped x
  fewer_turns m1 m l (few_turns x) = few_turns (omega (arith, x, l))

  -- where the meaning has no level, nothing was done, whatever was paid
  pub without_level :
      {m : ℕ} {rs valid : List Standing} {w : World} {around : DynamicContext} {z : FlatState} {y : MidState} {r : FlatEvaluated} {o : MidOutcome} (c1 c2 : ℕ) → r.outcome ≡ more
      → CallEnds setting c1 m rs valid w around z y r o → CallEnds setting c2 m rs valid w around z y r o
  without_level c1 c2 e (done x) = absurd (cc (sym x.outcome ∙ e))
  without_level c1 c2 e (left_by x) = absurd (cc (sym x.transfer.outcome ∙ e))
  without_level c1 c2 e (full_there x) = full_there x
  without_level c1 c2 e (stopped x) =
      stopped (record { because = x.because; printed = x.printed; paid = λ ended. absurd (ended e) })
  without_level c1 c2 e (few_turns x) = few_turns x

  -- ---- the code of an entry

  abbrev made : ℕ → Extra → FlatProcedure → MidProcedure
  made number extra q = entry setting.names setting.at setting.program (body_of_procedure setting.at number) extra q

  abbrev body_made : Extra → FlatProcedure → MidProcedure
  body_made extra q = body_of setting.names setting.at setting.program extra q

  abbrev procedures : List MidProcedure
  procedures = lowered setting.names setting.at setting.program

  pub found : (number : ℕ) (extra : Extra) (q : FlatProcedure) → IsPlaced setting → IsFunction setting number extra q → slice_get procedures number ≡ Some (made number extra q)
  found number extra q placed (inl h) = subst (λ x. slice_get procedures number ≡ Some (made number x q)) (sym h.1) ((numbers_law setting).entry_of number q placed h.0)
  found number extra q placed (inr h) =
      subst (λ i. slice_get procedures i ≡ Some (made i extra q)) (sym h.2)
      (subst (λ x. slice_get procedures (entry_of_lambda setting.at h.0) ≡ Some (made (entry_of_lambda setting.at h.0) x q)) (sym h.3) ((numbers_law setting).lambda_entry_of h.0 q placed h.1))

  pub body_found : (number : ℕ) (extra : Extra) (q : FlatProcedure) → IsPlaced setting → IsFunction setting number extra q
      → slice_get procedures (body_of_procedure setting.at number) ≡ Some (body_made extra q)
  body_found number extra q placed (inl h) =
      subst (λ x. slice_get procedures (body_of_procedure setting.at number) ≡ Some (body_made x q)) (sym h.1) ((numbers_law setting).body number q placed h.0)
  body_found number extra q placed (inr h) =
      subst (λ i. slice_get procedures (body_of_procedure setting.at i) ≡ Some (body_made extra q)) (sym h.2)
      (subst (λ x. slice_get procedures (body_of_procedure setting.at (entry_of_lambda setting.at h.0)) ≡ Some (body_made x q)) (sym h.3) ((numbers_law setting).lambda_body h.0 q placed h.1))

  abbrev arguments_of : ℕ → Extra → List ℕ
  arguments_of n extra = registers_from 7 n ++ extras setting extra

  abbrev last_steps : (number n : ℕ) → Extra → Steps
  last_steps number n extra = call 4 (body_of_procedure setting.at number) (arguments_of n extra) ∷ return_word 4 ∷ []

  code_is : (number : ℕ) (extra : Extra) (q : FlatProcedure) → q.rest ≡ None → q.keeps_method ≡ false
      → (made number extra q).body ≡ words_loaded (length q.required) 7 3 0 ++ last_steps number (length q.required) extra
  code_is number extra q no_rest keeps_none = ap (λ (o : Option Home). either (is_some o) q.keeps_method) no_rest ∙ ap (λ b. either false b) keeps_none
    where
      either : (rest keeps : Bool) → Steps
      either rest keeps =
          (if rest || keeps then call 4 (level_routine setting.at) [] ∷ [] else [])
          ++ ((if rest then
          constant 5 (4 * length q.required) ∷ compute 5 which.Add 3 5 ∷ constant 6 (length q.required) ∷ compute 6 which.Subtract 2 6
          ∷ call 4 (list_routine setting.at) (5 ∷ 6 ∷ []) ∷ []
          else [])
          ++ ((if keeps then constant 5 0 ∷ if_equal 1 5 [] (call 3 (method_routine setting.at) (1 ∷ 2 ∷ 3 ∷ []) ∷ []) ∷ [] else [])
          ++ (words_loaded (length q.required) 7 3 0
          ++ (call 4 (body_of_procedure setting.at number) (registers_from 7 (length q.required) ++ ((if rest then 4 ∷ [] else []) ++ extras setting extra)) ∷ return_word 4 ∷ []))))

  -- ---- what is behind the frame

  module _ (number : ℕ) (extra : Extra) (q : FlatProcedure) (no_rest : q.rest ≡ None) (keeps_none : q.keeps_method ≡ false) (rs valid : List Standing) (vs : List Value)
      (self chain address : ℕ) (w : World) (around : DynamicContext) (many : length vs ≡ length q.required) where
    abbrev given : List ℕ
    given = extra_words extra self chain (length vs) address

    abbrev first : Registers
    first = first_registers (7 + length q.required) (self ∷ chain ∷ length vs ∷ address ∷ [])

    abbrev call_paid : ℕ
    call_paid = call_cost (arguments_of (length vs) extra)

    few_arguments : length (arguments_of (length vs) extra) ≤ length vs + 3
    few_arguments =
        let e1 = length-append (registers_from 7 (length vs)) (extras setting extra) in let e2 = count_from 7 (length vs) in let e3 = few_extras setting extra in omega (arith, e1, e2, e3)

    inside_ends :
        (k turns m credit : ℕ) (z : FlatState) (y : MidState) (r : FlatEvaluated) → Things setting w z y → ((i : ℕ) → i < length vs → ValueAt w.places y.arena (address + 4 * i) (slice_index_or vs i nil))
        → ((ws : List ℕ) (paid : ℕ) → WordsOf w.places vs ws
        → CallEnds setting credit m rs valid w around z (mid_charged call_paid (mid_charged paid y)) r
        (called (code_at setting k turns) (body_of_procedure setting.at number) (ws ++ given) (mid_charged call_paid (mid_charged paid y))))
        → CallEnds setting (24 * length vs + (credit + call_paid + return_cost)) m rs valid w around z y r
        (exec (code_at setting k turns) (code_of (made number extra q).body) first y)
    inside_ends k turns m credit z y r things values comes =
        let count : length first ≡ 7 + length q.required = first_count (7 + length q.required) (self ∷ chain ∷ length vs ∷ address ∷ []) (omega arith) in
        let loads = loads_run (code_at setting k turns) w.places y.arena 7 0 address vs first y refl things.represents.arena.size (omega arith) (omega (arith, count, many)) refl
        (λ i few. let at : address + 4 * i ≡ address + 0 + 4 * i = omega arith in subst (λ x. ValueAt w.places y.arena x (slice_index_or vs i nil)) at (values i few)) in
        let others : WordsIn loads.after (extras setting extra) given =
        extras_in setting extra self chain (length vs) address loads.after (loads.below 0 (omega arith) ∙ refl) (loads.below 1 (omega arith) ∙ refl) (loads.below 2 (omega arith) ∙ refl)
        (loads.below 3 (omega arith) ∙ refl) in
        let size = loads.count in
        let within = loads.within in
        let y2 : MidState = mid_charged loads.cost y in
        let behind : MidOutcome = exec (code_at setting k turns) (code_of (last_steps number (length vs) extra)) loads.after y2 in
        let runs : exec (code_at setting k turns) (code_of (words_loaded (length vs) 7 3 0 ++ last_steps number (length vs) extra)) first y ≡ behind =
        (parts_then (words_loaded (length vs) 7 3 0) (last_steps number (length vs) extra) loads.run (record { same = refl })).same in
        let code : (made number extra q).body ≡ words_loaded (length vs) 7 3 0 ++ last_steps number (length vs) extra =
        code_is number extra q no_rest keeps_none ∙ ap (λ n. words_loaded n 7 3 0 ++ last_steps number n extra) (sym many) in
        subst (λ o. CallEnds setting (24 * length vs + (credit + call_paid + return_cost)) m rs valid w around z y r o)
        (sym (ap (λ ss. exec (code_at setting k turns) (code_of ss) first y) code ∙ runs))
        (going_on_law setting loads.cost (credit + call_paid + return_cost) (24 * length vs + (credit + call_paid + return_cost)) m m rs valid w w around z z y y2 r behind
        (world_cost setting loads.cost things) (around_cost setting z y loads.cost (omega arith)) (omega (arith, within)) (omega arith) refl
        (returned setting k turns credit m 4 (body_of_procedure setting.at number) (arguments_of (length vs) extra) (loads.ws ++ given) [] rs valid w around z y2 loads.after r
        (loads.there (extras setting extra) given others) (omega (arith, size, count)) (things_cost setting loads.cost things) (comes loads.ws loads.cost loads.of_values)))

  -- ---- the meaning of an entry

  abbrev size_of : FlatProcedure → List Value → ℕ
  size_of q vs = application_words (nodes q.body) + length vs

  abbrev meant : (j : ℕ) → FlatProcedure → List Captured → Option Called → List Value → DynamicContext → FlatState → FlatEvaluated
  meant j q cs called_as vs around x = mean_inside (context_at setting (suc j)) q cs called_as vs around x

  pub meant_later : (j : ℕ) (q : FlatProcedure) (cs : List Captured) (called_as : Option Called) (vs : List Value) (around : DynamicContext) (x : FlatState)
      → FlatLater x (meant j q cs called_as vs around x).state
  meant_later j q cs called_as vs around x =
      (boxes {R = FlatLater} {k = later_kept} setting.limit around.exits (homes q) x
      (λ ready. own_slots_left (homes q) vs ready (λ y. tasks_below setting (suc j) (form q.body) (record no_environment { captured = cs; method = called_as }) around y))).grows

  entered_is :
      (j : ℕ) (q : FlatProcedure) (cs : List Captured) (called_as : Option Called) (vs : List Value) (around : DynamicContext) (wrong : FlatSignals) (z : FlatState) → q.rest ≡ None
      → q.keeps_method ≡ false → takes (length q.required) (is_some q.rest) (length vs) ≡ true
      → enter (context_at setting (suc j)) wrong q cs called_as vs around z ≡ in_frame setting.limit (size_of q vs) (λ entered. meant j q cs called_as vs around (charged (length vs) entered)) z
  entered_is j q cs called_as vs around wrong z none keeps_none right =
      ap (λ t. either called_as t (is_some q.rest) q.keeps_method) right ∙ ap (λ (o : Option Home). either called_as true (is_some o) q.keeps_method) none
      ∙ ap (λ b. either called_as true false b) keeps_none ∙ last called_as
    where
      either : Option Called → (t rest keeps : Bool) → FlatEvaluated
      either m t rest keeps =
          if t then
          in_frame setting.limit (size_of q vs)
          (λ entered. gathered setting.limit (length q.required) rest vs (charged (length vs) entered) (λ ws gone.
          with_record setting.limit m keeps gone (λ recorded.
          with_boxes setting.limit (homes q) recorded (λ ready.
          in_own_frame (λ y. below_at setting (suc j) (form q.body) (record no_environment { captured = cs; method = m }) around (with_slots (homes q) ws y))
          ready))))
          z
          else wrong program_error_class [] around z

      last : (m : Option Called) → either m true false false ≡ in_frame setting.limit (size_of q vs) (λ entered. meant j q cs m vs around (charged (length vs) entered)) z
      last None = refl
      last (Some c) = refl

  homes_count : (q : FlatProcedure) → q.rest ≡ None → length (homes q) ≡ length q.required
  homes_count q none = ap (λ (o : Option Home). length (q.required ++ option_to_list o)) none ∙ ap length (append-nil q.required)

  -- ---- what the body takes

  pub method_there :
      (w : World) (y : MidState) (chain count address : ℕ) (vs : List Value) (called_as : Option Called) → ((c : Called) → called_as ≡ Some c → c.arguments ≡ vs)
      → ArgumentsGiven setting w y.arena address vs → MethodThere setting w y.arena (as_registers (chain ∷ count ∷ address ∷ [])) (Some 0) called_as
  method_there w y chain count address vs None of_method arguments = tt
  method_there w y chain count address vs (Some c) of_method arguments =
      λ x e.
      let same : address ≡ x = cc e in
      subst (λ a. ArgumentsThere w y.arena a c) same (given_there setting w y.arena address vs c (of_method c refl) arguments)

  extras_given :
      (extra : Extra) (q : FlatProcedure) (cs : List Captured) (called_as : Option Called) (self chain count address : ℕ) (w : World) (z : FlatState) (y : MidState) → q.keeps_method ≡ false
      → CalledFits setting extra called_as → SelfHeld w z.captured (Some self) cs
      → MethodHeld setting w y.arena false (as_registers (chain ∷ count ∷ address ∷ [])) (Some 0) called_as
      → MethodThere setting w y.arena (as_registers (chain ∷ count ∷ address ∷ [])) (Some 0) called_as
      → ExtraGiven setting w z y extra q cs called_as (extra_words extra self chain count address)
  unfolding extra_words
  extras_given nothing q cs called_as self chain count address w z y none fits held method there = (fits, refl)
  extras_given itself q cs called_as self chain count address w z y none fits held method there = (fits, refl, held)
  extras_given its_method q cs called_as self chain count address w z y none fits held method there = (
    refl,
    subst (λ b. MethodHeld setting w y.arena b (as_registers (chain ∷ count ∷ address ∷ [])) (Some 0) called_as) (sym none) method,
    there,
  )

  -- a cost takes no room
  pub room_cost : (l : Limit) (m paid : ℕ) (z : FlatState) (y : MidState) → RoomFor l m z.state y → RoomFor l m z.state (mid_charged paid y)
  room_cost unlimited m paid z y h = tt
  room_cost (words n) m paid z y h = h

  -- a cost is nothing around
  cost_around : {rs valid : List Standing} {w : World} {around : DynamicContext} {z : FlatState} {y : MidState} (paid : ℕ) → AroundStands setting w rs valid around z y
      → AroundStands setting w rs valid around z (mid_charged paid y)
  cost_around {w = w} {z = z} {y = y} paid t =
      around_again setting {z = z} {z' = z} (later_same w) (same_here w {y = y} {y' = mid_charged paid y} refl) (around_cost setting {credit = paid} z y paid (omega arith)).control (λ n e. e)
      (omega arith) t

  -- ---- the law

  module _ (turns number : ℕ) (extra : Extra) (q : FlatProcedure) (placed : IsPlaced setting) (few : turns ≤ setting.turns_each) (no_rest : q.rest ≡ None) (keeps_none : q.keeps_method ≡ false)
      (rs valid : List Standing) (cs : List Captured) (called_as : Option Called) (vs : List Value) (self chain address : ℕ) (w : World) (around : DynamicContext) (z : FlatState) (y : MidState)
      (function : IsFunction setting number extra q) (fits : CapturedFits setting w number extra q cs) (as_extra : CalledFits setting extra called_as)
      (b : EntryReady setting rs valid q cs called_as vs self chain address w around z y) where
    many : length vs ≡ length q.required
    many = taken q.rest (length q.required) (length vs) no_rest b.takes_so_many

    -- the words of the arguments stand below the frame too
    values_inside : (y' : MidState) → ((x : ℕ) → word_at y'.arena x ≡ word_at y.arena x) → ValuesAt w.places y'.arena address vs
    values_inside y' same = values_below w y y' address vs same (given_values setting b.things address vs b.arguments)

    abbrev entry_given : List ℕ
    entry_given = self ∷ chain ∷ length vs ∷ address ∷ []

    abbrev credit_inside : ℕ → ℕ
    credit_inside credit = 24 * length vs + (credit + call_paid number extra q no_rest keeps_none rs valid vs self chain address w around many + return_cost)

    -- with a level, behind the unit of which the body leaves something
    entered_ends : (j : ℕ) → BodyDoes setting j number extra q → (z1 : FlatState) → z1.captured ≡ z.captured → CallBegins setting rs valid (entry_words + body_words q) w around z1 y
        → CallEnds setting (credit_inside (body_credit q) + entry_cost 4) turns rs valid w around (charged 1 z1) y (meant j q cs called_as vs around z1) (called (code_at setting (suc j) turns) number entry_given y)
    entered_ends j does z1 captured begins =
        let later = meant_later j q cs called_as vs around z1 in
        let grown = grown_later later in
        turns_entered setting (suc j) turns number turns (entry_words + body_words q) (body_room q) (credit_inside (body_credit q)) (made number extra q) entry_given rs valid w around (charged 1 z1) y
        (meant j q cs called_as vs around z1) (found number extra q placed function) refl refl (omega arith) (omega (arith, grown.units)) grown.printed (λ ended. omega (arith, grown.units)) (begins_recounted setting (z1.state.units + 1) begins)
        (λ i e y' here.
        inside_ends number extra q no_rest keeps_none rs valid vs self chain address w around many (suc j) i turns (body_credit q) (charged 1 z1) y' (meant j q cs called_as vs around z1) here.call.things
        (values_inside y' here.words)
        (λ ws paid of_values.
        let inner : CallBegins setting rs valid (body_room q) w around z1 y' = begins_recounted setting z1.state.units here.call in
        fewer_turns setting.turns_each turns few
        (does rs valid i cs called_as vs ws (given number extra q no_rest keeps_none rs valid vs self chain address w around many) w around z1
        (mid_charged (call_paid number extra q no_rest keeps_none rs valid vs self chain address w around many) (mid_charged paid y')) function fits
        (record {
          call = record {
            things = things_cost setting (call_paid number extra q no_rest keeps_none rs valid vs self chain address w around many) (things_cost setting paid inner.things);
            around_stands = cost_around (call_paid number extra q no_rest keeps_none rs valid vs self chain address w around many) (cost_around paid inner.around_stands);
            room = room_cost setting.limit _ (call_paid number extra q no_rest keeps_none rs valid vs self chain address w around many) z1 (mid_charged paid y') (room_cost setting.limit _ paid z1 y' inner.room);
          };
          variables = of_values;
          variable_count = many ∙ sym (homes_count q no_rest);
          extras =
              extra_below setting extra q cs called_as (given number extra q no_rest keeps_none rs valid vs self chain address w around many) w z1 y
              (mid_charged (call_paid number extra q no_rest keeps_none rs valid vs self chain address w around many) (mid_charged paid y')) here.words here.from
              (extras_given extra q cs called_as self chain (length vs) address w z1 y keeps_none as_extra
              (subst (λ kept. SelfHeld w kept (Some self) cs) (sym captured) b.function_word) b.method
              (method_there w y chain (length vs) address vs called_as b.method_arguments b.arguments));
          site = λ asks. (b.site.0, here.words site_address ∙ b.site.1, b.site.2);
        }))))

    cost_all : credit_inside (body_credit q) + entry_cost 4 ≤ unit_cost * length vs + entry_credit (length vs)
    cost_all =
        let l = few_arguments number extra q no_rest keeps_none rs valid vs self chain address w around many in
        let h = homes_count q no_rest in
        omega (arith, l, h, many)

    entry_ends : (k : ℕ) (wrong : FlatSignals) → ((j : ℕ) → k ≡ suc j → BodyDoes setting j number extra q) → (k ≡ zero → EntryReserve setting rs valid w around z y)
        → SparingCall setting (entry_credit (length vs)) turns rs valid w around z y
        (descend (below_at setting k) (λ entered. enter (context_at setting k) wrong q cs called_as vs around entered) around z) (called (code_at setting k turns) number entry_given y)
    entry_ends zero wrong does none =
        let r : FlatEvaluated = descend (below_at setting zero) (λ entered. enter (context_at setting zero) wrong q cs called_as vs around entered) around z in
        let reserve = none refl in
        let enough = reserve.enough in
        without_level (credit_inside 0 + entry_cost 4) (entry_credit (length vs)) refl
        (turns_entered setting zero turns number turns reserve.count 0 (credit_inside 0) (made number extra q) entry_given rs valid w around (charged 1 z) y r (found number extra q placed function) refl refl
        (omega (arith, enough)) (omega arith) (same_flat z).printed (λ ended. absurd (ended refl)) (begins_recounted setting (z.state.units + 1) reserve.call)
        (λ i e y' here.
        inside_ends number extra q no_rest keeps_none rs valid vs self chain address w around many zero i turns 0 (charged 1 z) y' r here.call.things (values_inside y' here.words)
        (λ ws paid of_values.
        no_level_at setting i (body_of_procedure setting.at number) turns (body_made extra q) (ws ++ given number extra q no_rest keeps_none rs valid vs self chain address w around many) w z
        (mid_charged (call_paid number extra q no_rest keeps_none rs valid vs self chain address w around many) (mid_charged paid y'))
        (mid_charged (call_paid number extra q no_rest keeps_none rs valid vs self chain address w around many) (mid_charged paid y')) (charged 1 z) r (body_found number extra q placed function) refl refl
        (same_flat z)
        (things_cost setting (call_paid number extra q no_rest keeps_none rs valid vs self chain address w around many)
        (things_cost setting paid (begins_recounted setting z.state.units here.call).things)))))
    entry_ends (suc j) wrong does none =
        let z1 : FlatState = charged (length vs) (asked (size_of q vs) z) in
        subst (λ r. SparingCall setting (entry_credit (length vs)) turns rs valid w around z y r (called (code_at setting (suc j) turns) number entry_given y))
        (sym (level_there setting j (λ entered. enter (context_at setting (suc j)) wrong q cs called_as vs around entered) around z
        ∙ entered_is j q cs called_as vs around wrong z no_rest keeps_none b.takes_so_many))
        (framed_ends setting 1 (size_of q vs) (λ entered. meant j q cs called_as vs around (charged (length vs) entered)) b.things.represents.printed
        (called_grows setting (suc j) turns number entry_given y)
        (λ room. (
          (meant_later j q cs called_as vs around z1).stack,
          calls_recounted setting {c1 = credit_inside (body_credit q) + entry_cost 4} {m1 = turns} (asked (size_of q vs) z) (z1.state.units + 1) (z.state.units + 1) (omega (arith, cost_all)) (omega arith)
              (entered_ends j (does j refl) z1 refl (b.begun room)),
        )))

pub function_entries :
    (setting : Setting) (k turns number : ℕ) (extra : Extra) (q : FlatProcedure) → IsPlaced setting → turns ≤ setting.turns_each → q.rest ≡ None → q.keeps_method ≡ false
    → ((j : ℕ) → k ≡ suc j → BodyDoes setting j number extra q)
    → (rs valid : List Standing) (wrong : FlatSignals) (cs : List Captured) (called_as : Option Called) (vs : List Value) (self chain address : ℕ) (w : World) (around : DynamicContext) (z : FlatState) (y : MidState)
    → IsFunction setting number extra q → CapturedFits setting w number extra q cs → CalledFits setting extra called_as
    → EntryReady setting rs valid q cs called_as vs self chain address w around z y → (k ≡ zero → EntryReserve setting rs valid w around z y)
    → SparingCall setting (entry_credit (length vs)) turns rs valid w around z y
    (descend (below_at setting k) (λ entered. enter (context_at setting k) wrong q cs called_as vs around entered) around z)
    (called (code_at setting k turns) number (self ∷ chain ∷ length vs ∷ address ∷ []) y)
function_entries setting k turns number extra q placed few no_rest keeps_none does rs valid wrong cs called_as vs self chain address w around z y function fits as_extra b none =
    entry_ends setting turns number extra q placed few no_rest keeps_none rs valid cs called_as vs self chain address w around z y function fits as_extra b k wrong does none
