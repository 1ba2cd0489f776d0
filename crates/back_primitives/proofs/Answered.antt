-- **A primitive is applied by its procedure**: whatever it answers, the code does what the answer means.
use Rattle.std.proofs.Common.{◌≡◌, ◌⊎◌, inl, inr, ℕ, suc, ◌+◌, ◌-◌, ◌*◌, ◌/◌, ◌<◌, ◌≤◌, Bool, true, false, List, [], ◌∷◌, ◌++◌, length, map, Some, refl, sym, ap, ◌∙◌, subst, arith}
use Rattle.std.specs.Prelude.{nat_le}
use Rattle.std.proofs.lemmas.Bool.{ne_eqb, le-leb}
use Rattle.std.proofs.lemmas.Bool.Decides.{nat_tests}
use Rattle.std.proofs.Math.ListN.{length-set}
use Rattle.base.specs.Names.{slice_get-behind}
use Rattle.lang_meaning.specs.Arity.{arity}
use Rattle.lang_meaning.specs.Classes.{class_of_object, is_below, is_condition}
use Rattle.lang_meaning.specs.declared.primitive.Primitive.{Primitive}
use Rattle.lang_meaning.specs.InitialHeap.{class_value}
use Rattle.lang_meaning.specs.model.ShapeCode.{primitive_number}
use Rattle.lang_meaning.specs.Objects.{Object, instance, fresh_symbol, built_in_classes, serious_condition_class, domain_error_class}
use Rattle.lang_meaning.specs.Prefixes.{IsPrefix}
use Rattle.lang_meaning.specs.Primitives.{Answer, result, makes, makes_symbol, fails, domain_error, instance_words, primitive}
use Rattle.lang_meaning.specs.State.{Limit, words, unlimited, Outcome, value, has_room, room_left}
use Rattle.lang_meaning.specs.State as meaning
use Rattle.lang_meaning.specs.Values.{Value, nil, object}
use Rattle.lang_meaning.specs.Counts.{unit_cost}
use Rattle.flat_language.specs.FlatNodes.{tables}
use Rattle.flat_language.specs.FlatSignals.{answered, signal, signal_under}
use Rattle.flat_language.specs.FlatState.{FlatState, FlatEvaluated, on_state, gives}
use Rattle.flat_laws.specs.FlatLater.{FlatLater}
use Rattle.flat_laws.specs.PrimitiveKeeps.{set_by, PrimitiveKeeps, IsCounted, AnswerKeeps}
use Rattle.flat_laws.proofs.Keeps.{law_of_primitives}
use Rattle.mid_code.specs.Arena.{Arena, begin_of, stack_from, left}
use Rattle.mid_code.specs.Meaning.{exec, exec_step}
use Rattle.mid_code.specs.Meaning as mid
use Rattle.mid_code.specs.MidCode.{code_of}
use Rattle.mid_code.specs.State.{MidState, MidOutcome}
use Rattle.mid_code.specs.State.{charged as mid_charged}
use Rattle.mid_arena.specs.Answers.{Returned, Pending, RoomWanting, Comes, done, no_words, units_after}
use Rattle.mid_arena.specs.CodeCosts.{cost_of}
use Rattle.mid_arena.specs.Places.{Spot, with_object, WordsOf}
use Rattle.mid_arena.specs.Standing.{ArenaStands}
use Rattle.mid_arena.specs.Tags.{object_tag, signal_word, tag_of}
use Rattle.mid_arena.proofs.BuiltInFacts.{is_condition_class, condition_words}
use Rattle.mid_arena.proofs.Conditions.{PlainCondition, program_error, division_by_zero, integer_overflow}
use Rattle.mid_arena.proofs.Keeping.{as_many_words}
use Rattle.mid_arena.proofs.Representing.{represents_same}
use Rattle.mid_arena.proofs.ValueWords.{tells_value}
use Rattle.back_lowering.specs.Leaves.{site_stored}
use Rattle.back_lowering.specs.Placement.{primitives_from}
use Rattle.back_lowering.specs.Primitives.{by_procedure}
use Rattle.back_lowering.specs.Routines.{pending_routine}
use Rattle.back_lowering.specs.Scope.{registers_from}
use Rattle.back_lowering.specs.Steps.{Steps, call}
use Rattle.back_relation.specs.Setting.{Setting}
use Rattle.back_relation.specs.Placed.{IsPlaced}
use Rattle.back_relation.specs.Room.{routine_words, words_for_handler}
use Rattle.back_relation.specs.Around.{RoomFor}
use Rattle.back_relation.specs.Ends.{RoomEnded}
use Rattle.back_relation.specs.Forms.{context_at, code_at}
use Rattle.back_relation.specs.Things.{FreshCounted, Things, WithinLimit}
use Rattle.back_relation.specs.Starts.{Start, EndsAt}
use Rattle.back_relation.proofs.Fresh.{IsNotFresh, fresh_was, fresh_from, fresh_made}
use Rattle.back_relation.proofs.Straight.{things_cost}
use Rattle.back_primitives.specs.Calling.{WordsIn, PrimitiveThere, PendingDoesAnywhere}
use Rattle.back_primitives.proofs.Answers.{IsNoFunction, IsProper, answers_proper}
use Rattle.back_primitives.proofs.Applied.{full_ends, few_ends, HandedBack, called_registers, behind_test, value_ends, signal_ends, wanting_ends}
use Rattle.back_primitives.proofs.Behind.{OneMore, value_stands, object_stands, request_granted, request_refused}
use Rattle.back_primitives.proofs.Called.{call_cost, call_is, CameTo, came_or_few, the_call}
use Rattle.back_primitives.proofs.Costs.{repeated}
use Rattle.back_primitives.proofs.EachCost.{loop_costs, loops_small, repeated_paid}
use Rattle.back_primitives.proofs.Signalled.{under_later, signalling_credit, pending_ends}

-- ---- numbers

quarters : (x h n : ℕ) → h + 4 * n ≤ x → (x - (h + 4 * n)) / 4 + n ≡ (x - h) / 4
quarters x h n low = omega arith

pub left_behind :
    (a b : Arena) (n : ℕ) → ArenaStands b → length b.memory ≡ length a.memory → b.blocks ≡ a.blocks → b.heap_to ≡ a.heap_to + 4 * n → left b + n ≡ left a
left_behind a b n s size blocks to =
    let from : stack_from b ≡ stack_from a = ap (λ m. begin_of m b.blocks) size ∙ ap (begin_of (length a.memory)) blocks in
    let room : a.heap_to + 4 * n ≤ stack_from a = subst (λ x. a.heap_to + 4 * n ≤ x) from (subst (λ x. x ≤ stack_from b) to s.room) in
    ap (λ x. x + n) (ap (λ x. (x - b.heap_to) / 4) from ∙ ap (λ h. (stack_from a - h) / 4) to) ∙ quarters (stack_from a) a.heap_to n room

pub charged_by : (l l' h h' s s' n : ℕ) → l' + n ≡ l → h' ≡ h + n → s' ≡ s + 0 → l + h + s ≤ l' + h' + s'
charged_by l l' h h' s s' n e f g = omega (arith, e, f, g)

paid_value :
    (q y len n u u' : ℕ) → q + 250 * u ≤ y + (40 + 6 * len) + 150 + 250 * (n + u') → len ≡ n → u ≤ u' → q + unit_cost * u ≤ y + unit_cost * u' + (190 + 256 * n)
paid_value q y len n u u' h e up = omega (arith, h, e, up)

paid_signal :
    (q y len n cost rep loops u w z credit : ℕ) → q ≤ y + (40 + 6 * len) + cost + rep → rep + 3 * unit_cost ≤ 3 * loops + unit_cost * (u + w) → len ≡ n
    → 530 ≤ credit → cost + 3 * loops + 6 * n ≤ credit + 3330 → q + unit_cost * z ≤ y + unit_cost * (z + u + (w + 0)) + (credit - 530)
paid_signal q y len n cost rep loops u w z credit h r e some enough = omega (arith, h, r, e, some, enough)

no_wonder : (l m n s f h k : ℕ) → m + n ≤ l + h + k → h + k + s + 0 ≤ m → f ≤ n → l < f + s → ⊥
no_wonder l m n s f h k room fits small few = omega (arith, room, fits, small, few)

at_most : (a b : ℕ) → nat_le a b ≡ true → a ≤ b
at_most a b e = grind (arith, nat_tests)

pub room_ended :
    (setting : Setting) (l : Limit) (o : Outcome) (n size frame : ℕ) (z : FlatState) (y : MidState) → RoomFor l n z.state y
    → has_room l (z.state.heap + z.state.stack + size + 0) ≡ true → frame ≤ n → left y.arena < frame + size → RoomEnded setting l o
room_ended setting unlimited o n size frame z y room fits small few = tt
room_ended setting (words m) o n size frame z y room fits small few =
    absurd (no_wonder (left y.arena) m n size frame z.state.heap z.state.stack room (at_most _ m fits) small few)

within_room : (l : Limit) (z : meaning.State) → WithinLimit l z → has_room l (z.heap + z.stack + 0 + 0) ≡ true
within_room unlimited z h = refl
within_room (words m) z h = le-leb _ _ (omega (arith, h))

plain_low : {class : ℕ} → PlainCondition class → serious_condition_class < suc class
plain_low program_error = omega arith
plain_low division_by_zero = omega arith
plain_low integer_overflow = omega arith

plain_high : {class : ℕ} → PlainCondition class → class < built_in_classes
plain_high program_error = omega arith
plain_high division_by_zero = omega arith
plain_high integer_overflow = omega arith

-- an answer that signals a condition
abbrev pub IsSignal : Answer → Type 0
IsSignal (fails class slots z) = Unit {0}
IsSignal (domain_error v expected z) = Unit {0}
IsSignal answer = ⊥

-- what is paid before is enough where a condition is signalled
abbrev pub SignalPaid : Primitive → ℕ → Type 0
SignalPaid which credit = (530 ≤ credit) × (cost_of which + 3 * loop_costs which + 6 * arity which ≤ credit + 3330)

counted_none : (z z2 : meaning.State) → z2 ≡ z → IsCounted z z2
counted_none z z2 e = record { units = 0; is = e ∙ (let same : z.units ≡ z.units + 0 = omega arith in ap (λ n. record z { units = n }) same) }

module _ (setting : Setting) (placed : IsPlaced setting) (k : ℕ) (a : Start setting) (two : a.d + 1 < length a.regs) (which : Primitive) (there : PrimitiveThere setting which)
    (vs : List Value) (ws : List ℕ) (room : routine_words ≤ a.n) (pending : PendingDoesAnywhere setting k a.turns a.rs a.valid a.around) (count : length ws ≡ arity which)
    (q : MidOutcome)
    (is : exec_step (code_at setting k a.turns) (call a.d (primitives_from setting.at + primitive_number which) (registers_from a.d (length ws))) a.regs a.y ≡ mid.called q a.d a.regs)
  where
    abbrev number : ℕ
    number = primitives_from setting.at + primitive_number which

    abbrev arguments : List ℕ
    arguments = registers_from a.d (length ws)

    abbrev signalling : Steps
    signalling = site_stored a.s.code.site a.d (a.d + 1) ++ (call a.d (pending_routine setting.at) [] ∷ [])

    abbrev y1 : MidState
    y1 = mid_charged (call_cost (length ws)) a.y

    abbrev Does : ℕ → FlatEvaluated → Type 0
    Does credit r =
        EndsAt setting credit a r
        (exec (code_at setting k a.turns) (code_of (by_procedure setting.at which (length ws) a.d a.s.code.site)) a.regs a.y)

    abbrev Outcomes : Answer → Type 0
    Outcomes answer =
        CameTo setting k a.turns which there a.w.places a.z.state y1 vs ws answer q
        ⊎ (a.turns ≤ units_after setting.names (tables setting.program) answer - a.z.state.units)

    t : Things setting a.w a.z a.y
    t = a.begins.call.things

    frame_small : there.procedure.frame ≤ a.n + words_for_handler * length a.around.handlers
    frame_small = let small = there.within.frame in omega (arith, small, room)

    no_room_ended : (o : Outcome) (size : ℕ) → has_room setting.limit (a.z.state.heap + a.z.state.stack + size + 0) ≡ true → left a.y.arena < there.procedure.frame + size
        → RoomEnded setting setting.limit o
    no_room_ended o size fits few =
        room_ended setting setting.limit o (a.n + words_for_handler * length a.around.handlers) size there.procedure.frame a.z a.y a.begins.call.room fits frame_small few

    -- ---- a value

    result_ends :
        {credit : ℕ} (v : Value) (z2 : meaning.State) → PrimitiveKeeps (set_by which vs) a.z.state z2 → Outcomes (result v z2) → 210 + 256 * arity which ≤ credit
        → Does credit (gives v (record a.z { state = z2 }))
    result_ends v z2 keeps (inr few) enough =
        few_ends setting a (z2.units - a.z.state.units) (gives v (record a.z { state = z2 })) _ few (let up = keeps.units in omega (arith, up))
    result_ends {credit} v z2 keeps (inl came) enough = by came.comes
      where
        by : Comes setting.names (tables setting.program) a.w.places a.z.state y1 there.procedure.frame (result v z2) q → Does credit (gives v (record a.z { state = z2 }))
        by (no_words x) =
            wanting_ends setting placed k a two number arguments signalling q is x.asked_for x.left_then (gives v (record a.z { state = z2 })) x.end x.wanting
            (no_room_ended (value v) 0 (within_room setting.limit a.z.state t.within_limit) x.together)
            (subst (λ ps. IsPrefix ps z2.printed) (sym x.represents.printed) keeps.printed)
            (let paid = paid_value q.state.cost a.y.cost (length ws) (arity which) a.z.state.units z2.units came.cost count keeps.units in omega (arith, paid, enough))
        by (done x) =
            value_ends setting placed k a two number arguments signalling q is {word = x.word} {places = a.w.places} {z2 = z2} {c1 = 190 + 256 * arity which}
            (record {
              end = x.end;
              stands = value_stands setting t (set_by which vs) z2 q.state keeps x.represents x.kept x.arena.size x.blocks (let to = x.arena.heap_to in omega (arith, to));
              charged =
                  charged_by (left a.y.arena) (left q.state.arena) a.z.state.heap z2.heap a.z.state.stack z2.stack 0
                  (left_behind a.y.arena q.state.arena 0 x.represents.arena x.arena.size x.blocks x.arena.heap_to) (omega (arith, keeps.heap)) (omega (arith, keeps.stack));
              paid = paid_value q.state.cost a.y.cost (length ws) (arity which) a.z.state.units z2.units came.cost count keeps.units;
              up = keeps.units;
            })
            v x.of_value
            (ne_eqb x.word signal_word (tells_value setting.names (tables setting.program) a.w.places z2 q.state x.represents v x.word x.of_value).no_signal) (omega (arith, enough))

    -- ---- an object

    -- what the call came to where an object was to be made
    abbrev Made : (size : ℕ) → Spot → meaning.State → Type 0
    Made size s z3 =
        (Returned setting.names (tables setting.program) a.w.places a.z.state y1 (with_object s a.w.places) (object (length a.z.state.store)) z3 size q
        ⊎ RoomWanting setting.names (tables setting.program) a.w.places a.z.state y1 there.procedure.frame size q)
        × (q.state.cost + 250 * a.z.state.units ≤ y1.cost + 150 + 250 * (arity which + z3.units))

    made_ends :
        {credit : ℕ} (size : ℕ) (o : Object) (s : Spot) (z3 : meaning.State) → OneMore size o a.z.state z3 → IsNoFunction o
        → ((to : ℕ) → to ≡ a.y.arena.heap_to + 4 * size → FreshCounted z3.store z3.symbols to) → a.z.state.units ≤ z3.units → z3.printed ≡ a.z.state.printed → has_room setting.limit (a.z.state.heap + a.z.state.stack + size + 0) ≡ true
        → Made size s z3 ⊎ (a.turns ≤ z3.units - a.z.state.units) → 210 + 256 * arity which ≤ credit
        → Does credit (gives (object (length a.z.state.store)) (record a.z { state = z3 }))
    made_ends size o s z3 one other fresh up same fits (inr few) enough =
        few_ends setting a (z3.units - a.z.state.units) (gives (object (length a.z.state.store)) (record a.z { state = z3 })) _ few (omega (arith, up))
    made_ends {credit} size o s z3 one other fresh up same fits (inl came) enough = by came.0
      where
        by : Returned setting.names (tables setting.program) a.w.places a.z.state y1 (with_object s a.w.places) (object (length a.z.state.store)) z3 size q
            ⊎ RoomWanting setting.names (tables setting.program) a.w.places a.z.state y1 there.procedure.frame size q
            → Does credit (gives (object (length a.z.state.store)) (record a.z { state = z3 }))
        by (inr x) =
            wanting_ends setting placed k a two number arguments signalling q is x.asked_for x.left_then
            (gives (object (length a.z.state.store)) (record a.z { state = z3 })) x.end x.wanting (no_room_ended (value (object (length a.z.state.store))) size fits x.together)
            (subst (λ ps. IsPrefix ps z3.printed) (same ∙ sym x.represents.printed) (itself z3.printed))
            (let paid = paid_value q.state.cost a.y.cost (length ws) (arity which) a.z.state.units z3.units came.1 count up in omega (arith, paid, enough))
          where
            itself : (ps : List ℕ) → IsPrefix ps ps
            itself ps = record { rest = []; is = nothing_more ps }
              where
                nothing_more : (xs : List ℕ) → xs ++ [] ≡ xs
                nothing_more [] = refl
                nothing_more (x ∷ xs) = ap (λ ys. x ∷ ys) (nothing_more xs)
        by (inl x) =
            value_ends setting placed k a two number arguments signalling q is {word = x.word} {places = with_object s a.w.places} {z2 = z3} {c1 = 190 + 256 * arity which}
            (record {
              end = x.end;
              stands = object_stands setting t size o s z3 q.state one other fits x.represents x.kept x.arena.size x.blocks (fresh q.state.arena.heap_to x.arena.heap_to);
              charged =
                  charged_by (left a.y.arena) (left q.state.arena) a.z.state.heap z3.heap a.z.state.stack z3.stack size
                  (left_behind a.y.arena q.state.arena size x.represents.arena x.arena.size x.blocks x.arena.heap_to) one.heap one.stack;
              paid = paid_value q.state.cost a.y.cost (length ws) (arity which) a.z.state.units z3.units came.1 count up;
              up = up;
            })
            (object (length a.z.state.store)) x.of_value
            (ne_eqb x.word signal_word
            (tells_value setting.names (tables setting.program) (with_object s a.w.places) z3 q.state x.represents (object (length a.z.state.store)) x.word x.of_value).no_signal)
            (omega (arith, enough))

    -- an object of so many words, and units beside them
    makes_ends :
        {credit : ℕ} (size besides : ℕ) (o : Object) (z2 : meaning.State) → z2 ≡ a.z.state → IsNoFunction o × IsNotFresh o → Outcomes (makes size besides o z2)
        → 210 + 256 * arity which ≤ credit → Does credit (answered (context_at setting k) (makes size besides o z2) a.around a.z)
    makes_ends {credit} size besides o z2 same other outcome enough =
        subst (λ x. Outcomes (makes size besides o x) → Does credit (answered (context_at setting k) (makes size besides o x) a.around a.z)) (sym same)
        (λ outcome. by outcome (has_room setting.limit (a.z.state.heap + a.z.state.stack + size + 0)) refl) outcome
      where
        following : FlatState → FlatEvaluated
        following entered = gives (object (length entered.state.store)) (on_state (λ y. meaning.stored o (meaning.charged (size + besides) y)) entered)

        after : meaning.State
        after = meaning.stored o (meaning.charged (size + besides) (meaning.with_words size 0 a.z.state))

        made : Outcomes (makes size besides o a.z.state)
            → Made size (record { address = y1.arena.heap_to; words = size; tag = tag_of o }) after ⊎ (a.turns ≤ after.units - a.z.state.units)
        made (inr few) = inr (omega (arith, few))
        made (inl came) = inl (by came.comes, omega (arith, came.cost))
          where
            by : Comes setting.names (tables setting.program) a.w.places a.z.state y1 there.procedure.frame (makes size besides o a.z.state) q
                → Returned setting.names (tables setting.program) a.w.places a.z.state y1 (with_object (record { address = y1.arena.heap_to; words = size; tag = tag_of o }) a.w.places)
                (object (length a.z.state.store)) after size q
                ⊎ RoomWanting setting.names (tables setting.program) a.w.places a.z.state y1 there.procedure.frame size q
            by (no_words x) = inr x
            by (done x) = inl (record {
              word = x.word;
              end = x.end;
              of_value = x.of_value;
              represents = represents_same setting.names (tables setting.program) _ (meaning.stored o a.z.state) after q.state refl refl refl refl x.represents;
              arena = x.arena;
              blocks = x.blocks;
              kept = x.kept;
            })

        by : Outcomes (makes size besides o a.z.state) → (b : Bool) → has_room setting.limit (a.z.state.heap + a.z.state.stack + size + 0) ≡ b
            → Does credit (answered (context_at setting k) (makes size besides o a.z.state) a.around a.z)
        by outcome true e =
            subst (Does credit) (sym (request_granted setting.limit size a.z following e))
            (made_ends size o (record { address = y1.arena.heap_to; words = size; tag = tag_of o }) after
            (record { store = refl; variables = refl; globals = refl; dynamics = refl; exits = refl; heap = refl; stack = refl }) other.0
            (λ to at. fresh_from (fresh_was a.z.state.store o other.1) refl (omega (arith, at)) t.fresh_symbols) (omega arith) refl e (made outcome) enough)
        by outcome false e =
            subst (Does credit) (sym (request_refused setting.limit size a.z following e))
            (full_ends setting k a (code_of (by_procedure setting.at which (length ws) a.d a.s.code.site)) (size + 0) (room_left setting.limit (a.z.state.heap + a.z.state.stack))
            a.z.state refl)

    -- the next fresh symbol
    symbols_end :
        {credit : ℕ} (z2 : meaning.State) → z2 ≡ a.z.state → Outcomes (makes_symbol z2) → 210 + 256 * arity which ≤ credit
        → Does credit (answered (context_at setting k) (makes_symbol z2) a.around a.z)
    symbols_end {credit} z2 same outcome enough =
        subst (λ x. Outcomes (makes_symbol x) → Does credit (answered (context_at setting k) (makes_symbol x) a.around a.z)) (sym same)
        (λ outcome. by outcome (has_room setting.limit (a.z.state.heap + a.z.state.stack + 2 + 0)) refl) outcome
      where
        o : Object
        o = fresh_symbol a.z.state.symbols

        following : FlatState → FlatEvaluated
        following entered =
            gives (object (length entered.state.store))
            (on_state (λ (x : meaning.State). record x { symbols = x.symbols + 1 }) (on_state (λ y. meaning.stored o (meaning.charged (2 + 0) y)) entered))

        after : meaning.State
        after = record (meaning.stored o (meaning.charged (2 + 0) (meaning.with_words 2 0 a.z.state))) { symbols = a.z.state.symbols + 1 }

        made : Outcomes (makes_symbol a.z.state)
            → Made 2 (record { address = y1.arena.heap_to; words = 2; tag = object_tag }) after ⊎ (a.turns ≤ after.units - a.z.state.units)
        made (inr few) = inr (omega (arith, few))
        made (inl came) = inl (by came.comes, omega (arith, came.cost))
          where
            by : Comes setting.names (tables setting.program) a.w.places a.z.state y1 there.procedure.frame (makes_symbol a.z.state) q
                → Returned setting.names (tables setting.program) a.w.places a.z.state y1 (with_object (record { address = y1.arena.heap_to; words = 2; tag = object_tag }) a.w.places)
                (object (length a.z.state.store)) after 2 q
                ⊎ RoomWanting setting.names (tables setting.program) a.w.places a.z.state y1 there.procedure.frame 2 q
            by (no_words x) = inr x
            by (done x) = inl (record {
              word = x.word;
              end = x.end;
              of_value = x.of_value;
              represents =
                  represents_same setting.names (tables setting.program) _ (record (meaning.stored o a.z.state) { symbols = a.z.state.symbols + 1 }) after q.state refl refl
                  refl refl x.represents;
              arena = x.arena;
              blocks = x.blocks;
              kept = x.kept;
            })

        by : Outcomes (makes_symbol a.z.state) → (b : Bool) → has_room setting.limit (a.z.state.heap + a.z.state.stack + 2 + 0) ≡ b
            → Does credit (answered (context_at setting k) (makes_symbol a.z.state) a.around a.z)
        by outcome true e =
            subst (Does credit) (sym (request_granted setting.limit 2 a.z following e))
            (made_ends 2 o (record { address = y1.arena.heap_to; words = 2; tag = object_tag }) after
            (record { store = refl; variables = refl; globals = refl; dynamics = refl; exits = refl; heap = refl; stack = refl }) tt
            (λ to at. fresh_made (omega (arith, at)) t.fresh_symbols) (omega arith) refl e (made outcome) enough)
        by outcome false e =
            subst (Does credit) (sym (request_refused setting.limit 2 a.z following e))
            (full_ends setting k a (code_of (by_procedure setting.at which (length ws) a.d a.s.code.site)) (2 + 0) (room_left setting.limit (a.z.state.heap + a.z.state.stack))
            a.z.state refl)

    -- ---- a condition

    -- what the call came to where a condition was to be made
    abbrev Signalled : (class : ℕ) → List Value → (size charged : ℕ) → meaning.State → Type 0
    Signalled class slots size charged z2 =
        (Pending setting.names (tables setting.program) a.w.places a.z.state y1
        (with_object (record { address = y1.arena.heap_to; words = size; tag = object_tag }) a.w.places) class slots z2 size q
        ⊎ RoomWanting setting.names (tables setting.program) a.w.places a.z.state y1 there.procedure.frame size q)
        × (q.state.cost ≤ y1.cost + cost_of which + repeated (charged + size) (loop_costs which))

    module _ (class : ℕ) (slots : List Value) (low : serious_condition_class < suc class) (high : class < built_in_classes) (charged : ℕ) where
      abbrev size : ℕ
      size = instance_words (tables setting.program) class (length slots)

      abbrev condition : Object
      condition = instance class (map (λ v. Some v) slots) nil

      abbrev before : FlatState
      before = record a.z { state = meaning.charged charged a.z.state }

      abbrev behind : meaning.State
      behind = meaning.stored condition (meaning.charged (size + 0) (meaning.with_words size 0 (meaning.charged charged a.z.state)))

      abbrev meant : FlatEvaluated
      meant = signal_under (context_at setting k) a.around.handlers (object (length a.z.state.store)) nil a.around (record a.z { state = behind })

      some_words : 3 ≤ size
      some_words = let known = condition_words (tables setting.program) t.represents.built_in class (length slots) low high in omega (arith, known)

      meant_later : FlatLater (record a.z { state = behind }) meant.state
      meant_later = under_later setting k a.around.handlers (object (length a.z.state.store)) a.around (record a.z { state = behind })

      is_condition_there : is_condition (tables setting.program) behind (object (length a.z.state.store)) ≡ true
      is_condition_there =
          ap (λ o. is_below (tables setting.program) (class_of_object o) serious_condition_class) (slice_get-behind a.z.state.store condition)
          ∙ is_condition_class (tables setting.program) t.represents.built_in class low high

      signalled_ends :
          {credit : ℕ} → has_room setting.limit (a.z.state.heap + a.z.state.stack + size + 0) ≡ true
          → Signalled class slots size charged (meaning.charged charged a.z.state) ⊎ (a.turns ≤ charged + size) → SignalPaid which credit → Does credit meant
      signalled_ends fits (inr few) enough =
          few_ends setting a (charged + size) meant _ few (let up = meant_later.later.units in omega (arith, up))
      signalled_ends {credit} fits (inl came) enough = by came.0
        where
          by : Pending setting.names (tables setting.program) a.w.places a.z.state y1
              (with_object (record { address = y1.arena.heap_to; words = size; tag = object_tag }) a.w.places) class slots (meaning.charged charged a.z.state) size q
              ⊎ RoomWanting setting.names (tables setting.program) a.w.places a.z.state y1 there.procedure.frame size q
              → Does credit meant
          by (inr x) =
              wanting_ends setting placed k a two number arguments signalling q is x.asked_for x.left_then meant x.end x.wanting
              (no_room_ended meant.outcome size fits x.together)
              (subst (λ ps. IsPrefix ps meant.state.state.printed) (sym x.represents.printed) meant_later.later.printed)
              (let paid =
              paid_signal q.state.cost a.y.cost (length ws) (arity which) (cost_of which) (repeated (charged + size) (loop_costs which)) (loop_costs which) charged size
              a.z.state.units credit came.1 (repeated_paid (charged + size) (loop_costs which) (loops_small which) (omega (arith, some_words))) count enough.0 enough.1 in
              let units = meant_later.later.units in
              omega (arith, paid, units))
          by (inl x) =
              let handed : HandedBack setting placed k a two number arguments signalling q is signal_word
              (with_object (record { address = y1.arena.heap_to; words = size; tag = object_tag }) a.w.places) behind (credit - 530) =
              record {
                end = x.end;
                stands =
                    object_stands setting t size condition (record { address = y1.arena.heap_to; words = size; tag = object_tag }) behind q.state
                    (record { store = refl; variables = refl; globals = refl; dynamics = refl; exits = refl; heap = refl; stack = refl }) tt fits
                    (represents_same setting.names (tables setting.program) _ (meaning.stored condition (meaning.charged charged a.z.state)) behind q.state refl refl refl refl x.represents)
                    x.kept x.arena.size x.blocks
                    (fresh_from (fresh_was a.z.state.store condition tt) refl (let to = x.arena.heap_to in omega (arith, to)) t.fresh_symbols);
                charged =
                    charged_by (left a.y.arena) (left q.state.arena) a.z.state.heap behind.heap a.z.state.stack behind.stack size
                    (left_behind a.y.arena q.state.arena size x.represents.arena x.arena.size x.blocks x.arena.heap_to) refl refl;
                paid =
                    paid_signal q.state.cost a.y.cost (length ws) (arity which) (cost_of which) (repeated (charged + size) (loop_costs which)) (loop_costs which) charged size
                    a.z.state.units credit came.1 (repeated_paid (charged + size) (loop_costs which) (loops_small which) (omega (arith, some_words))) count enough.0 enough.1;
                up = omega arith;
              } in
              signal_ends setting placed k a two number arguments signalling q is {c1 = credit - 530} handed {c2 = signalling_credit setting k} meant refl
              (omega (arith, enough.0)) meant_later.later.units
              (pending_ends setting k (behind_test setting placed k a two number arguments signalling q is handed) (object (length a.z.state.store)) pending
              (omega (arith, two, length-set (called_registers setting placed k a two number arguments signalling q is handed) (a.d + 1) (Some signal_word), length-set a.regs a.d (Some signal_word)))
              room is_condition_there (record { word = x.pending.word; of_value = x.pending.of_value; stands = x.pending.stands }))

      condition_ends :
          {credit : ℕ} → Signalled class slots size charged (meaning.charged charged a.z.state) ⊎ (a.turns ≤ charged + size) → SignalPaid which credit
          → Does credit (signal (context_at setting k) class slots a.around before)
      condition_ends {credit} outcome enough = by (has_room setting.limit (a.z.state.heap + a.z.state.stack + size + 0)) refl
        where
          following : FlatState → FlatEvaluated
          following entered =
              signal_under (context_at setting k) a.around.handlers (object (length entered.state.store)) nil a.around
              (on_state (λ y. meaning.stored condition (meaning.charged (size + 0) y)) entered)

          by : (b : Bool) → has_room setting.limit (a.z.state.heap + a.z.state.stack + size + 0) ≡ b
              → Does credit (signal (context_at setting k) class slots a.around before)
          by true e = subst (Does credit) (sym (request_granted setting.limit size before following e)) (signalled_ends e outcome enough)
          by false e =
              subst (Does credit) (sym (request_refused setting.limit size before following e))
              (full_ends setting k a (code_of (by_procedure setting.at which (length ws) a.d a.s.code.site)) (size + 0)
              (room_left setting.limit (a.z.state.heap + a.z.state.stack)) (meaning.charged charged a.z.state) refl)

    -- the condition of a class without slots
    fails_end :
        {credit : ℕ} (class : ℕ) (slots : List Value) (z2 : meaning.State) → PlainCondition class → IsCounted a.z.state z2 → Outcomes (fails class slots z2)
        → SignalPaid which credit → Does credit (answered (context_at setting k) (fails class slots z2) a.around a.z)
    fails_end {credit} class slots z2 plain counted outcome enough =
        subst (λ x. Outcomes (fails class slots x) → Does credit (answered (context_at setting k) (fails class slots x) a.around a.z)) (sym counted.is)
        (λ outcome. condition_ends class slots (plain_low plain) (plain_high plain) counted.units (by outcome) enough) outcome
      where
        words_made : ℕ
        words_made = instance_words (tables setting.program) class (length slots)

        difference : a.z.state.units + counted.units + words_made - a.z.state.units ≡ counted.units + words_made
        difference = omega arith

        by : Outcomes (fails class slots (meaning.charged counted.units a.z.state))
            → Signalled class slots words_made counted.units (meaning.charged counted.units a.z.state) ⊎ (a.turns ≤ counted.units + words_made)
        by (inr few) = inr (omega (arith, few, difference))
        by (inl came) =
            inl (comes came.comes, subst (λ n. q.state.cost ≤ y1.cost + cost_of which + repeated n (loop_costs which)) difference came.plain)
          where
            comes : Comes setting.names (tables setting.program) a.w.places a.z.state y1 there.procedure.frame (fails class slots (meaning.charged counted.units a.z.state)) q
                → Pending setting.names (tables setting.program) a.w.places a.z.state y1
                (with_object (record { address = y1.arena.heap_to; words = words_made; tag = object_tag }) a.w.places) class slots (meaning.charged counted.units a.z.state) words_made q
                ⊎ RoomWanting setting.names (tables setting.program) a.w.places a.z.state y1 there.procedure.frame words_made q
            comes (no_words x) = inr x
            comes (done x) = inl x

    -- a domain error
    domain_ends :
        {credit : ℕ} (v : Value) (expected : ℕ) (z2 : meaning.State) → IsCounted a.z.state z2 → Outcomes (domain_error v expected z2)
        → SignalPaid which credit → Does credit (answered (context_at setting k) (domain_error v expected z2) a.around a.z)
    domain_ends {credit} v expected z2 counted outcome enough =
        subst (λ x. Outcomes (domain_error v expected x) → Does credit (answered (context_at setting k) (domain_error v expected x) a.around a.z)) (sym counted.is)
        (λ outcome. condition_ends domain_error_class slots (omega arith) (omega arith) counted.units (by outcome) enough) outcome
      where
        slots : List Value
        slots = v ∷ class_value setting.names (tables setting.program) expected ∷ []

        words_made : ℕ
        words_made = instance_words (tables setting.program) domain_error_class 2

        difference : a.z.state.units + counted.units + words_made - a.z.state.units ≡ counted.units + words_made
        difference = omega arith

        by : Outcomes (domain_error v expected (meaning.charged counted.units a.z.state))
            → Signalled domain_error_class slots words_made counted.units (meaning.charged counted.units a.z.state) ⊎ (a.turns ≤ counted.units + words_made)
        by (inr few) = inr (omega (arith, few, difference))
        by (inl came) =
            inl (comes came.comes, subst (λ n. q.state.cost ≤ y1.cost + cost_of which + repeated n (loop_costs which)) difference came.plain)
          where
            comes : Comes setting.names (tables setting.program) a.w.places a.z.state y1 there.procedure.frame (domain_error v expected (meaning.charged counted.units a.z.state)) q
                → Pending setting.names (tables setting.program) a.w.places a.z.state y1
                (with_object (record { address = y1.arena.heap_to; words = words_made; tag = object_tag }) a.w.places) domain_error_class slots
                (meaning.charged counted.units a.z.state) words_made q
                ⊎ RoomWanting setting.names (tables setting.program) a.w.places a.z.state y1 there.procedure.frame words_made q
            comes (no_words x) = inr x
            comes (done x) = inl x

    -- ---- any answer

    pub answer_ends :
        {credit : ℕ} (answer : Answer) → AnswerKeeps (set_by which vs) a.z.state answer → IsProper answer → Outcomes answer → 210 + 256 * arity which ≤ credit
        → (IsSignal answer → SignalPaid which credit) → Does credit (answered (context_at setting k) answer a.around a.z)
    answer_ends (result v z2) keeps proper outcome enough signals = result_ends v z2 keeps outcome enough
    answer_ends (makes n besides o z2) keeps proper outcome enough signals = makes_ends n besides o z2 keeps proper outcome enough
    answer_ends (makes_symbol z2) keeps proper outcome enough signals = symbols_end z2 keeps outcome enough
    answer_ends (fails class slots z2) keeps proper outcome enough signals = fails_end class slots z2 proper.0 keeps outcome (signals tt)
    answer_ends (domain_error v expected z2) keeps proper outcome enough signals =
        domain_ends v expected z2 (counted_none a.z.state z2 keeps) outcome (signals tt)

-- **a primitive is applied by its procedure** to the words in registers from the first one on
pub by_procedure_ends :
    (setting : Setting) (placed : IsPlaced setting) (k credit : ℕ) (a : Start setting) (which : Primitive) (vs : List Value) (ws : List ℕ)
    → PrimitiveThere setting which → PendingDoesAnywhere setting k a.turns a.rs a.valid a.around → a.d + 1 < length a.regs → routine_words ≤ a.n
    → WordsOf a.w.places vs ws → WordsIn a.d ws a.regs → length vs ≡ arity which → 210 + 256 * arity which ≤ credit
    → (IsSignal (primitive setting.names (tables setting.program) which vs a.z.state) → SignalPaid which credit)
    → EndsAt setting credit a (answered (context_at setting k) (primitive setting.names (tables setting.program) which vs a.z.state) a.around a.z)
    (exec (code_at setting k a.turns) (code_of (by_procedure setting.at which (length ws) a.d a.s.code.site)) a.regs a.y)
by_procedure_ends setting placed k credit a which vs ws there pending two room are has many enough signals =
    let y1 : MidState = mid_charged (call_cost (length ws)) a.y in
    answer_ends setting placed k a two which there vs ws room pending (as_many_words a.w.places vs ws are ∙ many)
    (the_call setting k a.turns which there a.w.places a.z.state y1 vs ws)
    (call_is (code_at setting k a.turns) a.d (primitives_from setting.at + primitive_number which) a.d ws a.regs a.y has)
    (primitive setting.names (tables setting.program) which vs a.z.state)
    (law_of_primitives setting.names (tables setting.program) which vs a.z.state)
    (answers_proper setting.names (tables setting.program) which vs a.z.state)
    (came_or_few setting k a.turns which there a.w.places a.z.state y1 vs ws (things_cost setting (call_cost (length ws)) a.begins.call.things).represents are many)
    enough signals
