-- The routine that keeps the call of a method: its body, and the call.
use Rattle.std.proofs.Common.{◌≡◌, ◌⊎◌, inl, inr, ℕ, suc, ◌+◌, ◌*◌, ◌^◌, ◌<◌, ◌≤◌, Bool, true, false, List, [], ◌∷◌, length, Some, refl, sym, ap, ◌∙◌, subst, arith}
use Rattle.std.proofs.lemmas.Bool.{cases_lt}
use Rattle.std.proofs.lemmas.Bool.Decides.{nat_tests}
use Rattle.lang_meaning.specs.Objects.{Called}
use Rattle.lang_meaning.specs.Prefixes.{IsPrefix}
use Rattle.lang_meaning.specs.State.{DynamicContext, Limit, words, unlimited, has_room, room_left}
use Rattle.lang_meaning.specs.Values.{Value, nil}
use Rattle.flat_language.specs.FlatSignals.{with_record}
use Rattle.flat_language.specs.FlatState.{FlatState, FlatEvaluated, gives, charged}
use Rattle.mid_code.specs.declared.operation.Counted.TheVariants.{Turn}
use Rattle.mid_code.specs.declared.program.MidProcedure.{MidProcedure}
use Rattle.mid_code.specs.Arena.{left}
use Rattle.mid_code.specs.Meaning.{exec, levels}
use Rattle.mid_code.specs.MidCode.{code_of}
use Rattle.mid_code.specs.State.{first_registers, returns, MidState, MidOutcome}
use Rattle.mid_arena.specs.Standing.{ValuesAt}
use Rattle.mid_arena.proofs.Making.{Room, is_left, is_wanting, room_for}
use Rattle.back_lowering.specs.ControlWords.{site_address}
use Rattle.back_lowering.specs.Program.{procedure_with}
use Rattle.back_lowering.specs.RoutineCodes.{method_code}
use Rattle.back_lowering.specs.Routines.{method_routine}
use Rattle.back_relation.specs.Setting.{Setting}
use Rattle.back_relation.specs.Chains.{ChainAt, ChainTakes}
use Rattle.back_relation.specs.Placed.{IsPlaced}
use Rattle.back_relation.specs.Room.{routine_words, words_for_handler}
use Rattle.back_relation.specs.Worlds.{World, Standing}
use Rattle.back_relation.specs.Things.{Things, WithinLimit}
use Rattle.back_relation.specs.Around.{CallBegins}
use Rattle.back_relation.specs.Ends.{Ends, done, left_by, full_there, stopped, few_turns}
use Rattle.back_relation.specs.Forms.{code_at}
use Rattle.back_relation.specs.Procedures.{called, ArgumentsGiven}
use Rattle.back_relation.specs.RoutineClaims.{argument_credit, entry_spare, MethodKept, no_words_cost}
use Rattle.back_relation.specs.Starts.{FlatGrown}
use Rattle.back_relation.proofs.Growth.{same_flat}
use Rattle.back_relation.proofs.Stops.{stopped_before}
use Rattle.back_calling.specs.Entering.{Inside}
use Rattle.back_calling.proofs.Numbers.{numbers_law}
use Rattle.back_calling.proofs.Storing.{some_words, control_below}
use Rattle.back_function_entries.proofs.Held.{given_values, given_below}
use Rattle.back_conditions.proofs.Frames.{word_there}
use Rattle.back_primitives.proofs.Answered.{room_ended}
use Rattle.back_primitives.proofs.Behind.{request_granted, request_refused}
use Rattle.back_values.proofs.BoxesMade.{full_printed, steps_grow}
use Rattle.back_function_entries.specs.Making.{Makes}
use Rattle.back_function_entries.specs.Methods.{CallSays, LawOfMethods}
use Rattle.back_function_entries.proofs.Copying.{LentWords, lent_words, keeping_wanting, keeping_runs}
use Rattle.back_function_entries.proofs.Entering.{makes_with_turn}
use Rattle.back_function_entries.proofs.Lying.{given_lie, given_word}
use Rattle.back_function_entries.proofs.Keeping.{kept_charged, kept_world, kept_grows, kept_blocks, kept_whole, kept_control, kept_taken}

abbrev given : Setting → MidProcedure
given setting = procedure_with Turn 3 (method_code setting.at)

given_small : (setting : Setting) → (given setting).frame ≤ 30
unfolding method_code
given_small setting = omega arith

-- the words charged are within the limit
within_kept : (l : Limit) (size : ℕ) (z : FlatState) → has_room l (z.state.heap + z.state.stack + size + 0) ≡ true → WithinLimit l (kept_charged size z).state
within_kept unlimited size z e = tt
within_kept (words m) size z e =
    let h : z.state.heap + z.state.stack + size + 0 ≤ m = grind (arith, nat_tests) in
    omega (arith, h)

-- where the words of arguments end is below 2 ^ 32, and they are not many
record EndsLow (address count : ℕ) : Type 0 where
  low : address + 4 * count < 2 ^ 32
  few : count ≤ 2 ^ 24

ends_low :
    (setting : Setting) (w : World) (z : FlatState) (y : MidState) (address : ℕ) (vs : List Value) → Things setting w z y → ValuesAt w.places y.arena address vs → address < 2 ^ 32
    → EndsLow address (length vs)
ends_low setting w z y address [] t values is_word = record { low = omega (arith, is_word); few = omega arith }
ends_low setting w z y address (v ∷ vs) t values is_word =
    let last = values (length vs) (omega arith) in
    let there = word_there y.arena (address + 4 * length vs) last.word t.represents.arena last.stands in
    let size = t.represents.arena.size in
    record { low = omega (arith, there.below, size); few = omega (arith, there.below, size) }

module _ (setting : Setting) (k turns : ℕ) (placed : IsPlaced setting) (rs valid : List Standing) (w : World) (around : DynamicContext) (z : FlatState) (y : MidState) (c : Called) (chain address : ℕ)
    (chain_at : ChainAt setting chain c.rest) (takes_them : ChainTakes setting (length c.arguments) c.rest) (arguments : ArgumentsGiven setting w y.arena address c.arguments)
    (begins : CallBegins setting rs valid routine_words w around z y) where
  abbrev count : ℕ
  count = length c.arguments

  abbrev size : ℕ
  size = 2 + count

  abbrev r : FlatEvaluated
  r = with_record setting.limit (Some c) true z (λ after. gives nil after)

  abbrev fits : Bool
  fits = has_room setting.limit (z.state.heap + z.state.stack + size + 0)

  abbrev spare : ℕ
  spare = turns + entry_spare

  abbrev there : FlatEvaluated
  there = gives nil (kept_charged size z)

  abbrev following : FlatState → FlatEvaluated
  following entered = gives nil (charged size entered)

  granted : fits ≡ true → r ≡ there
  granted e = request_granted setting.limit size z following e

  r_grows : FlatGrown z r.state
  r_grows = by fits refl
    where
      by : (b : Bool) → fits ≡ b → FlatGrown z r.state
      by true e = subst (λ (x : FlatEvaluated). FlatGrown z x.state) (sym (granted e)) (record { printed = (same_flat z).printed; units = omega arith; exits = omega arith })
      by false e = subst (λ (x : FlatEvaluated). FlatGrown z x.state) (sym (request_refused setting.limit size z following e)) (same_flat z)

  -- ---- the body

  module _ (n : ℕ) (left_turns : turns ≡ suc n) (y' : MidState) (i : Inside setting rs valid 0 38 w around z y y') where
    abbrev outcome : MidOutcome
    outcome = exec (code_at setting k n) (code_of (given setting).body) (first_registers (given setting).registers (chain ∷ count ∷ address ∷ [])) y'

    abbrev Comes : FlatEvaluated → MidOutcome → Type 0
    Comes x q = Ends setting 0 (Makes setting (120 + 62 * count) (λ word w'. CallSays c w z x word w') w z y' x q) ⊥ spare z y' x q

    things : Things setting w z y'
    things = i.call.things

    given_inside : ArgumentsGiven setting w y'.arena address c.arguments
    given_inside = given_below setting w y y' address c.arguments i.words i.from arguments

    values : ValuesAt w.places y'.arena address c.arguments
    values = given_values setting things address c.arguments given_inside

    lent : LentWords w.places y'.arena address c.arguments
    lent = lent_words w.places y'.arena address c.arguments values

    low : EndsLow address count
    low = ends_low setting w z y' address c.arguments things values (given_word setting things address c.arguments given_inside)

    made : fits ≡ true → size ≤ left y'.arena → count ≤ n → Comes there outcome
    unfolding method_code
    made e room enough =
        let within = within_kept setting.limit size z e in
        let l = lent in
        let run =
        keeping_runs setting.procedures (levels setting.procedures setting.turns_each k) n chain count address y' things.represents.arena low.few room l.words l.count l.at
        (given_lie setting things address c.arguments given_inside) low.low enough in
        subst (λ q. Comes there q) (sym run.same)
        (done (record {
          word = y'.arena.heap_to + 4 + 4;
          end = refl;
          w' = kept_world setting placed things c chain l.words chain_at takes_them l.are (120 + 62 * count) room within;
          world = kept_whole setting placed things c chain l.words chain_at takes_them l.are (120 + 62 * count) room within;
          control = kept_control setting placed things c chain l.words chain_at takes_them l.are (120 + 62 * count) room within;
          blocks = kept_blocks setting placed things c chain l.words chain_at takes_them l.are (120 + 62 * count) room within;
          charged = kept_taken setting placed things c chain l.words chain_at takes_them l.are (120 + 62 * count) room within;
          grows = kept_grows setting placed things c chain l.words chain_at takes_them l.are (120 + 62 * count) room within;
          cost = omega arith;
          said = record {
            start = y'.arena.heap_to;
            behind = omega arith;
            places = kept_world setting placed things c chain l.words chain_at takes_them l.are (120 + 62 * count) room within;
            added = refl;
            outcome = refl;
            frame = refl;
            units = omega arith;
          };
        }))

    wanting : fits ≡ true → left y'.arena < size → Comes there outcome
    unfolding method_code
    wanting e wants =
        let run = keeping_wanting setting.procedures (levels setting.procedures setting.turns_each k) n chain count address y' things.represents.arena low.few wants in
        subst (λ q. Comes there q) (sym run.same)
        (stopped (record {
          because = (room_ended setting setting.limit there.outcome (0 + words_for_handler * length around.handlers) size 0 z y' i.call.room e (omega arith) (omega (arith, wants)), wants);
          printed = subst (λ p. IsPrefix p z.state.printed) (sym things.represents.printed) (same_flat z).printed;
          paid = λ ended. omega arith;
        }))

    body_makes : Comes r outcome
    body_makes = by fits refl (room_for size y'.arena) (cases_lt n count)
      where
        grown : IsPrefix z.state.printed outcome.state.printed
        grown = full_printed z y' outcome things.represents.printed (steps_grow setting k n (method_code setting.at) (first_registers (given setting).registers (chain ∷ count ∷ address ∷ [])) y')

        by : (b : Bool) → fits ≡ b → Room size y'.arena → (n < count) ⊎ (count ≤ n) → Comes r outcome
        by false e any turn =
            subst (λ x. Comes x outcome) (sym (request_refused setting.limit size z following e))
            (full_there (record { asked = size + 0; left_then = room_left setting.limit (z.state.heap + z.state.stack); outcome = refl; printed = grown }))
        by true e (is_wanting wants) turn = subst (λ x. Comes x outcome) (sym (granted e)) (wanting e wants)
        by true e (is_left room) (inr enough) = subst (λ x. Comes x outcome) (sym (granted e)) (made e room enough)
        by true e (is_left room) (inl few) =
            subst (λ x. Comes x outcome) (sym (granted e)) (few_turns (let some = some_words setting things in omega (arith, few, left_turns, some)))

  -- **the call is kept**
  pub call_kept :
      Ends setting no_words_cost (MethodKept setting k turns rs valid w around z y c (argument_credit count) r (called (code_at setting k turns) (method_routine setting.at) (chain ∷ count ∷ address ∷ []) y)) ⊥ spare z y r
      (called (code_at setting k turns) (method_routine setting.at) (chain ∷ count ∷ address ∷ []) y)
  call_kept =
      there_kept
      (makes_with_turn setting routine_words 0 0 (120 + 62 * count) spare (given setting) (chain ∷ count ∷ address ∷ []) rs valid w around z y r (λ word w'. CallSays c w z r word w') k turns (method_routine setting.at)
      ((numbers_law setting).routine 17 _ placed refl) refl refl (let small = given_small setting in omega (arith, small)) (let units = r_grows.units in omega (arith, units)) r_grows.printed r_grows.units begins
      (λ n e y' i. body_makes n e y' i))
    where
      there_kept :
          {q : MidOutcome} → Ends setting (0 + 38) (Makes setting (120 + 62 * count + 38) (λ word w'. CallSays c w z r word w') w z y r q) ⊥ spare z y r q
          → Ends setting no_words_cost (MethodKept setting k turns rs valid w around z y c (argument_credit count) r q) ⊥ spare z y r q
      there_kept (done x) =
          done (record {
            outcome = x.said.outcome;
            start = x.said.start;
            end = x.end ∙ ap (λ word. returns word) x.said.behind;
            places = x.said.places;
            w' = x.w';
            added = x.said.added;
            world = x.world;
            back = record { control = x.control; blocks = x.blocks; charged = x.charged; paid = let units = x.said.units in omega (arith, x.cost, units) };
            spared = let units = x.said.units in omega (arith, x.cost, units);
            site = λ s. (s.0, x.grows.heap.words site_address (let below = control_below setting begins.things in omega (arith, below)) ∙ s.1, s.2);
            frame = x.said.frame;
          })
      there_kept (left_by x) = absurd x
      there_kept (full_there x) = full_there x
      there_kept (stopped x) = stopped (stopped_before setting (omega arith) x)
      there_kept (few_turns x) = few_turns x

pub methods_law : LawOfMethods
methods_law setting k turns rs valid w around z y placed c chain address chain_at takes_them arguments begins =
    call_kept setting k turns placed rs valid w around z y c chain address chain_at takes_them arguments begins
