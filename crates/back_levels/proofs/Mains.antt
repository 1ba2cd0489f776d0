-- **A main form** is entered, its code runs inside the record of the end, and it is left.
use Rattle.std.proofs.Common.{◌≡◌, ◌⊎◌, inl, inr, ℕ, zero, suc, ◌+◌, ◌*◌, ◌-◌, ◌<◌, ◌≤◌, Bool, true, false, List, [], ◌∷◌, ◌++◌, length, replicate, Option, Some, None, refl, sym, ap, ◌∙◌, subst, arith}
use Rattle.std.specs.Prelude.{slice_get, nat_le, max, if◌then◌else◌}
use Rattle.std.proofs.lemmas.Bool.{cases_lt}
use Rattle.std.proofs.lemmas.Bool.Decides.{nat_tests}
use Rattle.base.specs.AllOf.{all_at}
use Rattle.base.specs.declared.place.Place.{Place}
use Rattle.lang_meaning.specs.Classes.{fetch}
use Rattle.lang_meaning.specs.Counts.{application_words, unit_cost}
use Rattle.lang_meaning.specs.Meaning.{class_in}
use Rattle.lang_meaning.specs.Objects.{instance, serious_condition_class}
use Rattle.lang_meaning.specs.Prefixes.{IsPrefix}
use Rattle.lang_meaning.specs.State.{State, main_context, Landing, at_site, exit, full, Limit, words, unlimited, has_room, room_left}
use Rattle.lang_meaning.specs.Values.{Value}
use Rattle.flat_language.specs.FlatExits.{Leads, no_exits}
use Rattle.flat_language.specs.FlatFits.{Fits}
use Rattle.flat_language.specs.FlatForm.{FlatForm}
use Rattle.flat_language.specs.FlatMeaning.{mean, mean_main, flat_meaning_at}
use Rattle.flat_language.specs.FlatNodes.{nodes, tables}
use Rattle.flat_language.specs.FlatSignals.{form}
use Rattle.flat_language.specs.FlatStanding.{MainStands}
use Rattle.flat_language.specs.FlatState.{FlatState, FlatEvaluated, no_environment, charged, gives, go_on, on_state, with_frame}
use Rattle.mid_code.specs.declared.operation.Arithmetic.TheVariants as which
use Rattle.mid_code.specs.declared.operation.Counted.TheVariants.{Turn}
use Rattle.mid_code.specs.declared.program.MidProcedure.{MidProcedure}
use Rattle.mid_code.specs.Arena.{Arena, Block, words_of, record_of, closed_record, stack_from, left, with_blocks}
use Rattle.mid_code.specs.Costs.{record_cost}
use Rattle.mid_code.specs.Law.{Grown}
use Rattle.mid_code.specs.Meaning.{Context, enter, run_procedure, left_from, leaves, exec, exec_step, turns}
use Rattle.mid_code.specs.MidCode.{return_word, code_of}
use Rattle.mid_code.specs.State.{Registers, first_registers, returns, unhandled, no_room, ends, MidState, MidOutcome, no_level}
use Rattle.mid_code.specs.State.{charged as mid_charged}
use Rattle.mid_code.specs.Words.{computed}
use Rattle.mid_code.proofs.Growth.{levels_grow, turns_grow}
use Rattle.mid_arena.specs.Growing.{Grows}
use Rattle.mid_arena.specs.Standing.{ArenaStands}
use Rattle.mid_arena.proofs.BuiltInFacts.{condition_from}
use Rattle.mid_arena.proofs.Growing.{spot_below}
use Rattle.mid_arena.proofs.Leaving.{leaves_returned}
use Rattle.mid_arena.proofs.Memory.{grows_with_new_block, left_with_new_block, grows_with_blocks, grows_closed}
use Rattle.mid_arena.proofs.Running.{frame_of, entered}
use Rattle.flat_ends.specs.Laws.{EndsAtSite, Safe, Came}
use Rattle.flat_ends.proofs.Runs.{law_of_main_ends}
use Rattle.back_lowering.specs.Codes.{lower}
use Rattle.back_lowering.specs.ControlWords.{record_words, current_address, link_address, handlers_address, bindings_address, end_address}
use Rattle.back_lowering.specs.Program.{main_scope, main_form, mains_from}
use Rattle.back_lowering.specs.Registers.{of_code, enough_for}
use Rattle.back_lowering.specs.Steps.{Steps}
use Rattle.back_relation.specs.Setting.{Setting}
use Rattle.back_relation.specs.Right.{ProgramIsRight}
use Rattle.back_relation.specs.Room.{main_reserve, words_for}
use Rattle.back_relation.specs.Placed.{IsPlaced, Placed}
use Rattle.back_relation.specs.Worlds.{World}
use Rattle.back_relation.specs.StackWords.{HasWordAt}
use Rattle.back_relation.specs.Things.{Things, WithinLimit}
use Rattle.back_relation.specs.Around.{RoomFor}
use Rattle.back_relation.specs.Ends.{LandingIs, RoomEnded, Because, Ends, done, left_by, full_there, stopped, few_turns, form_credit}
use Rattle.back_relation.specs.Forms.{FormStands, DoesForm, context_at, code_at}
use Rattle.back_relation.specs.Procedures.{called}
use Rattle.back_claims.specs.Mains.{MainBegins, MainReturned, Unhandled, main_credit}
use Rattle.back_relation.specs.Starts.{FlatGrown}
use Rattle.back_relation.proofs.Fitting.{registers_front, registers_behind}
use Rattle.back_relation.proofs.FormGrowth.{task_later, form_grows}
use Rattle.back_relation.proofs.Growth.{both_prefix, both_flat, same_prefix, then_value, then_other, then_grown}
use Rattle.back_relation.proofs.Parts.{single_step}
use Rattle.back_relation.proofs.Then.{because_then}
use Rattle.back_exits.proofs.Steps.{record_wanting}
use Rattle.back_exits.proofs.Whole.{inside_registers}
use Rattle.back_exits.proofs.Words.{control_of}
use Rattle.back_exits.specs.Touching.{touched}
use Rattle.back_calling.proofs.Entered.{framed, UsedAt, used_at, called_by, leaves_printed, leaves_because, things_same_words, words_inside, with_room, without_room, leaves_costs}
use Rattle.back_calling.proofs.Storing.{some_words}
use Rattle.back_levels.specs.Beginning.{NothingAround, EndBegins}
use Rattle.back_levels.specs.MainEnds.{end_closed, main_step, MainValue, MainLeft}
use Rattle.back_levels.specs.Mains.{LawOfMains}
use Rattle.back_levels.specs.MainSteps.{end_laid, end_landed}
use Rattle.back_levels.specs.Surroundings.{main_form_scope}
use Rattle.back_levels.proofs.Beginning.{beginnings_law, words_left}
use Rattle.back_levels.proofs.Classes.{class_word, word_low, class_low, class_there, number_there, class_is}
use Rattle.back_levels.proofs.Kept.{world_outside, outside_kept, with_rest, things_rest}
use Rattle.back_levels.proofs.MainEnds.{main_ends_law}
use Rattle.back_levels.proofs.Numbers.{main_numbers_law}

-- ---- small things

-- nine registers and more, written out
record Nine (regs : Registers) : Type 0 where
  r0 : Option ℕ
  r1 : Option ℕ
  r2 : Option ℕ
  r3 : Option ℕ
  r4 : Option ℕ
  r5 : Option ℕ
  r6 : Option ℕ
  r7 : Option ℕ
  r8 : Option ℕ
  tail : Registers
  parts : regs ≡ r0 ∷ r1 ∷ r2 ∷ r3 ∷ r4 ∷ r5 ∷ r6 ∷ r7 ∷ r8 ∷ tail

nine : (regs : Registers) → 9 ≤ length regs → Nine regs
nine (r0 ∷ r1 ∷ r2 ∷ r3 ∷ r4 ∷ r5 ∷ r6 ∷ r7 ∷ r8 ∷ tail) h =
    record { r0 = r0; r1 = r1; r2 = r2; r3 = r3; r4 = r4; r5 = r5; r6 = r6; r7 = r7; r8 = r8; tail = tail; parts = refl }
nine regs h = absurd (omega (arith, h))

replicated : (n : ℕ) → length (replicate {A = Option ℕ} n None) ≡ n
replicated zero = refl
replicated (suc n) = ap suc (replicated n)

none_given : (count : ℕ) → length (first_registers count []) ≡ count
none_given count = replicated (count - 0) ∙ omega arith

leaves_unhandled : (bs : List Block) (q : MidOutcome) (class site condition : ℕ) → q.end ≡ unhandled class site condition → leaves bs q ≡ q
unfolding leaves
leaves_unhandled bs q class site condition e = ap (λ l. left_from l bs q) e

-- a transfer to the end lands at a site, and its value is an instance
record IsUnhandled (z : FlatState) (v : Value) (landing : Landing) : Type 0 where
  place : Place
  at : landing ≡ at_site place
  class : ℕ
  slots : List (Option Value)
  mark : Value
  stored : fetch z.state v ≡ Some (instance class slots mark)

-- the classes before that of conditions
not_from : (c : ℕ) → c < serious_condition_class → nat_le serious_condition_class c ≡ false
not_from c low = grind (arith, nat_tests)

-- a form with so many levels
at_level :
    (setting : Setting) (k : ℕ) (f : FlatForm) (z : FlatState)
    → flat_meaning_at setting.names setting.program setting.limit k (form f) no_environment main_context z ≡ mean (context_at setting k) f no_environment main_context z
unfolding flat_meaning_at
at_level setting zero f z = refl
at_level setting (suc k) f z = refl

module _ (setting : Setting) (right : ProgramIsRight setting) (k number n : ℕ) (f : FlatForm) (there : slice_get setting.program.main number ≡ Some f) (reserve : main_reserve ≤ n) (w : World) (z : FlatState) (y : MidState)
    (b : MainBegins setting n w z y) (most : ℕ) (does : (t : ℕ) → t ≤ most → DoesForm setting t (context_at setting k) (code_at setting k t) f) where
  placed : IsPlaced setting
  placed = right.placed.placed

  abbrev p : MidProcedure
  p = main_form setting.names setting.at setting.program f

  abbrev steps : Steps
  steps = (lower setting.names setting.at setting.program (main_scope setting.names setting.at setting.program) 8 f).value

  abbrev many : ℕ
  many = application_words (nodes f)

  -- ---- the meaning

  -- where the form begins
  abbrev zi : FlatState
  zi = with_rest [] (z.state.heap + 0) (z.state.stack + many) (max z.state.peak (z.state.heap + z.state.stack + 0 + many)) z

  abbrev r : FlatEvaluated
  r = mean_main setting.names setting.program setting.limit k f z

  -- only a condition that is not handled goes to the end
  comes : Came r
  comes =
      law_of_main_ends setting.names setting.program setting.limit k f z
      (λ c low. condition_from (tables setting.program) b.things.represents.built_in c (omega (arith, low)) ∙ not_from c low) b.safe

  goes : (v : Value) (landing : Landing) → r.outcome ≡ exit 0 v landing → IsUnhandled r.state v landing
  goes v landing e =
      let at = subst (λ o. EndsAtSite o r.state) e comes.ends in record {
        place = at.0;
        at = at.1;
        class = at.2.class;
        slots = at.2.slots;
        mark = at.2.mark;
        stored = ap (fetch r.state.state) at.2.is ∙ at.2.stands;
      }

  abbrev rf : FlatEvaluated
  rf = mean (context_at setting k) f no_environment main_context zi

  abbrev r0 : FlatEvaluated
  r0 = with_frame z.frame rf

  abbrev restored : Value → FlatState → FlatEvaluated
  restored v after = gives v (on_state (λ (x : State). record x { stack = z.state.stack }) after)

  abbrev fits : Bool
  fits = has_room setting.limit (z.state.heap + z.state.stack + 0 + many)

  abbrev full_so : FlatEvaluated
  full_so = record { outcome = full (0 + many) (room_left setting.limit (z.state.heap + z.state.stack)); state = z }

  abbrev by_room : Bool → FlatEvaluated
  by_room t =
      if t then go_on (with_frame z.frame (flat_meaning_at setting.names setting.program setting.limit k (form f) no_environment main_context zi)) restored else full_so

  meant : fits ≡ true → r ≡ go_on r0 restored
  meant e = ap by_room e ∙ ap (λ o. go_on (with_frame z.frame o) restored) (at_level setting k f zi)

  full_meant : fits ≡ false → r ≡ full_so
  full_meant e = ap by_room e

  restored_grows : (v : Value) (after : FlatState) → FlatGrown after (restored v after).state
  restored_grows v after = record { printed = same_prefix after.state.printed; units = omega arith; exits = omega arith }

  form_grown : FlatGrown z r0.state
  form_grown = let g = form_grows setting k f no_environment main_context zi in record { printed = g.printed; units = g.units; exits = g.exits }

  behind_grown : FlatGrown r0.state (go_on r0 restored).state
  behind_grown = then_grown r0 restored restored_grows

  grown : fits ≡ true → FlatGrown z r.state
  grown e = subst (λ (o : FlatEvaluated). FlatGrown z o.state) (sym (meant e)) (both_flat form_grown behind_grown)

  stack_same : rf.state.state.stack ≡ z.state.stack + many
  stack_same = (task_later setting k (form f) no_environment main_context zi).stack

  -- ---- what it comes to

  abbrev E : ℕ → MidOutcome → Type 0
  E m q = Ends setting main_credit (MainReturned setting n main_credit (charged 1 z) y r q) (Unhandled setting main_credit (charged 1 z) y r q) m z y r q

  -- there are no words in the meaning
  full_ends : fits ≡ false → (m : ℕ) (q : MidOutcome) → Grown y q.state → E m q
  full_ends e m q g =
      full_there (record {
        asked = 0 + many;
        left_then = room_left setting.limit (z.state.heap + z.state.stack);
        outcome = ap (λ (o : FlatEvaluated). o.outcome) (full_meant e);
        printed =
            subst (λ (o : FlatEvaluated). IsPrefix o.state.state.printed q.state.printed) (sym (full_meant e))
            (record { rest = g.printed.0; is = ap (λ l. l ++ g.printed.0) (sym b.things.represents.printed) ∙ sym g.printed.1 });
      })

  printed_before : fits ≡ true → IsPrefix y.printed r.state.state.printed
  printed_before e = subst (λ ps. IsPrefix ps r.state.state.printed) (sym b.things.represents.printed) (grown e).printed

  -- the words that are charged and the reserve are enough for the frame, the record and the form
  paid_for : p.frame + 8 + words_for setting.names setting.program f ≤ 16 + 16 * nodes f + main_reserve
  paid_for =
      all_at
      (λ (g : FlatForm). (main_form setting.names setting.at setting.program g).frame + 8 + words_for setting.names setting.program g ≤ 16 + 16 * nodes g + main_reserve)
      setting.program.main number f right.frames_paid.main there

  no_room_so : (l : Limit) (some : ℕ) → some ≤ p.frame + 8 → RoomFor l n z.state y → has_room l (z.state.heap + z.state.stack + 0 + many) ≡ true → left y.arena < some → RoomEnded setting l r.outcome
  no_room_so unlimited some low room e few = tt
  no_room_so (words m) some low room e few =
      let within : z.state.heap + z.state.stack + 0 + many ≤ m = grind (arith, nat_tests) in
      let paid = paid_for in
      absurd (omega (arith, low, room, within, few, paid, reserve))

  -- ---- inside the frame

  module _ (fr : ℕ) (within : fr ≤ p.frame) (some : fr ≤ left y.arena) (e : fits ≡ true) (t : ℕ) (fewer_turns : t ≤ most) where
    abbrev pf : MidProcedure
    pf = framed p fr

    abbrev yi : MidState
    yi = entered pf y

    abbrev c : Context
    c = code_at setting k t

    grows : Grows y.arena yi.arena
    grows = grows_with_new_block (frame_of pf) b.things.represents.arena some

    left_there : left yi.arena + fr ≡ left y.arena
    left_there = left_with_new_block (frame_of pf) b.things.represents.arena some

    limit_inside : (l : Limit) → has_room l (z.state.heap + z.state.stack + 0 + many) ≡ true → WithinLimit l zi.state
    limit_inside unlimited h = tt
    limit_inside (words m) h =
        let low : z.state.heap + z.state.stack + 0 + many ≤ m = grind (arith, nat_tests) in
        omega (arith, low)

    things_inside : Things setting w zi yi
    things_inside =
        things_rest setting [] (z.state.heap + 0) (z.state.stack + many) (max z.state.peak (z.state.heap + z.state.stack + 0 + many)) (limit_inside setting.limit e)
        (things_same_words setting b.things (words_inside setting pf b.things some) grows refl refl)

    room_inside : (l : Limit) → RoomFor l n z.state y → RoomFor l (8 + words_for setting.names setting.program f) zi.state yi
    room_inside unlimited h = tt
    room_inside (words m) h = let paid = paid_for in let fewer = left_there in omega (arith, h, paid, fewer, within, reserve)

    -- ---- registers

    abbrev regs : Registers
    regs = first_registers p.registers []

    abbrev inner : Steps
    inner = end_laid ++ (steps ++ (return_word 8 ∷ []))

    size : length regs ≡ p.registers
    size = none_given p.registers

    all_fits : enough_for (of_code (code_of p.body)) ≤ length regs
    all_fits = let same = size in omega (arith, same)

    inner_fits : enough_for (of_code (code_of inner)) ≤ length regs
    inner_fits = inside_registers 0 5 (of_code (code_of inner)) (of_code (code_of end_landed)) (length regs) all_fits

    behind_fits : enough_for (of_code (code_of (steps ++ (return_word 8 ∷ [])))) ≤ length regs
    behind_fits = registers_behind end_laid (steps ++ (return_word 8 ∷ [])) (length regs) inner_fits

    form_fits : enough_for (of_code (code_of steps)) ≤ length regs
    form_fits = registers_front steps (return_word 8 ∷ []) (length regs) behind_fits

    wide : 9 ≤ length regs
    wide =
        let last : enough_for (of_code (code_of (return_word 8 ∷ []))) ≤ length regs = registers_behind steps (return_word 8 ∷ []) (length regs) behind_fits in
        omega (arith, last)

    win : Nine regs
    win = nine regs wide

    form_stands : FormStands setting (main_form_scope setting) 0 f
    form_stands = record {
      stands = all_at (MainStands setting.program.lambdas) setting.program.main number f right.stands.main there;
      fits = all_at (Fits setting.program) setting.program.main number f right.fits.main there;
      leads = all_at (Leads setting.leads.functions no_exits) setting.program.main number f setting.leads.main there;
      placed = all_at (Placed setting true) setting.program.main number f right.placed.main there;
      forms_known = refl;
    }

    -- ---- inside the record

    abbrev current : ℕ
    current = b.current.0

    abbrev link : ℕ
    link = b.link.0

    -- what the code of the main form comes to
    abbrev qs : MidOutcome
    qs = exec_step c (main_step steps) regs yi

    nothing : 8 ≤ left yi.arena → NothingAround setting current link w zi yi
    nothing room = record {
      things = things_inside;
      current_word = words_inside setting pf b.things some current_address ∙ b.current.1;
      link_word = words_inside setting pf b.things some link_address ∙ b.link.1;
      no_handler = words_inside setting pf b.things some handlers_address ∙ b.no_handler;
      no_binding = words_inside setting pf b.things some bindings_address ∙ b.no_binding;
      end_form = b.end_form;
      room = room;
    }

    Inner : MidOutcome → Type 0
    Inner q = Ends setting (form_credit + 142 + unit_cost) (MainValue setting current link w zi yi rf q) (MainLeft setting zi yi rf q) t (charged 1 zi) yi rf q

    inner_ends : 8 ≤ left yi.arena → Inner qs
    unfolding Inner
    inner_ends room =
        subst (λ g. Inner (exec_step c (main_step steps) g yi)) (sym win.parts)
        (main_ends_law setting k t current link (words_for setting.names setting.program f) 0 f w zi yi win.tail win.r0 win.r1 win.r2 win.r3 win.r4 win.r5 win.r6 win.r7 win.r8 placed (nothing room)
        (room_inside setting.limit b.room) refl form_stands (subst (λ g. enough_for (of_code (code_of steps)) ≤ length g) win.parts form_fits) (omega arith) (does t fewer_turns))

    -- ---- it is left

    module _ (room : 8 ≤ left yi.arena) where
      begin : EndBegins setting current link (words_for setting.names setting.program f) w zi yi win.tail win.r1 win.r2 win.r3 win.r4 win.r5 win.r6 win.r7 win.r8
      begin = beginnings_law setting current link (words_for setting.names setting.program f) w zi yi win.tail win.r1 win.r2 win.r3 win.r4 win.r5 win.r6 win.r7 win.r8 placed (nothing room)

      -- with a value
      module _ (x : MainValue setting current link w zi yi rf qs) where
        abbrev outer : Arena
        outer = with_blocks y.arena.blocks qs.state.arena

        abbrev yq : MidState
        yq = touched [] (with_blocks y.arena.blocks qs.state.arena) qs.state.cost qs.state

        stands : ArenaStands qs.state.arena
        stands = x.things.represents.arena

        sum : words_of qs.state.arena.blocks ≡ words_of (record_of record_words ∷ frame_of pf ∷ y.arena.blocks)
        sum = ap words_of x.blocks

        outer_grows : Grows qs.state.arena outer
        outer_grows = grows_with_blocks (record_of record_words ∷ frame_of pf ∷ []) y.arena.blocks stands x.blocks

        outer_from : stack_from qs.state.arena ≤ stack_from outer
        outer_from = let s = sum in omega (arith, s)

        abbrev wq : World
        wq = world_outside setting placed x.things outer outer_grows outer_from qs.state.cost

        abbrev rv : FlatEvaluated
        rv = restored x.result r0.state

        limit_behind : (l : Limit) → WithinLimit l rf.state.state → WithinLimit l rv.state.state
        limit_behind unlimited h = tt
        limit_behind (words m) h = let same = stack_same in omega (arith, h, same)

        things_behind : Things setting wq rv.state yq
        things_behind =
            things_rest setting z.frame rf.state.state.heap z.state.stack rf.state.state.peak (limit_behind setting.limit x.things.within_limit)
            (outside_kept setting placed x.things outer outer_grows outer_from qs.state.cost).things

        word_behind : (a m : ℕ) → a < 220 → HasWordAt qs.state a m → HasWordAt yq a m
        word_behind a m low h = let far = spot_below stands (control_of setting x.things) in outer_grows.words a (omega (arith, low, far)) ∙ h

        room_behind : (l : Limit) → RoomFor l n z.state y → RoomFor l n rv.state.state yq
        room_behind unlimited h = tt
        room_behind (words m) h =
            let taken = x.charged in
            let same = stack_same in
            let laid = words_left setting placed (nothing room) in
            let frame = left_there in
            let s = sum in
            let heap = stands.room in
            let fits = stands.blocks in
            let aligned = stands.aligned in
            let more : left qs.state.arena + 8 + fr ≤ left yq.arena = omega (arith, s, heap, fits, aligned) in
            omega (arith, h, taken, same, laid, frame, more)

        returned : MainReturned setting n main_credit (charged 1 z) y rv (ends (returns x.word) qs.registers yq)
        returned = record {
          result = x.result;
          outcome = refl;
          word = x.word;
          end = refl;
          w' = wq;
          of_value = x.of_value;
          begins = record {
            things = things_behind;
            current = (_, word_behind current_address _ (omega arith) (x.control.current _ begin.stands.current));
            link = (_, word_behind link_address _ (omega arith) (x.control.link _ begin.stands.link));
            end = (_, word_behind end_address _ (omega arith) (x.end_kept _ begin.stands.end));
            no_handler = word_behind handlers_address 0 (omega arith) (x.control.handlers 0 begin.stands.no_handler);
            no_binding = word_behind bindings_address 0 (omega arith) (x.control.bindings 0 begin.stands.no_binding);
            end_form = x.later.exit_forms 0 None b.end_form;
            safe = subst (λ (o : FlatEvaluated). Safe o.state) (meant e ∙ then_value r0 restored x.result x.outcome) comes.safe;
            room = room_behind setting.limit b.room;
          };
          blocks = refl;
          same_size = x.same_size ∙ grows.heap.size;
          frame = refl;
          paid = let paid = x.paid in omega (arith, paid);
        }

        value_ends : E (suc t) (leaves y.arena.blocks qs)
        value_ends =
            subst (λ q. E (suc t) q) (sym (leaves_returned y.arena.blocks qs x.end))
            (done (subst (λ o. MainReturned setting n main_credit (charged 1 z) y o (ends (returns x.word) qs.registers yq)) (sym (meant e ∙ then_value r0 restored x.result x.outcome)) returned))

      -- by a transfer to the end
      module _ (x : MainLeft setting zi yi rf qs) where
        left_meant : r ≡ r0
        left_meant = meant e ∙ then_other r0 restored _ x.outcome tt

        it : IsUnhandled r.state x.result x.landing
        it = goes x.result x.landing (ap (λ (o : FlatEvaluated). o.outcome) left_meant ∙ x.outcome)

        stored : fetch rf.state.state x.result ≡ Some (instance it.class it.slots it.mark)
        stored = subst (λ (o : FlatEvaluated). fetch o.state.state x.result ≡ Some (instance it.class it.slots it.mark)) left_meant it.stored

        abbrev of_class : ℕ
        of_class = class_word setting x.things x.result x.word it.class it.slots it.mark x.of_value stored

        ended : (regs : Registers)
            × (qs ≡ ends (unhandled (computed which.ShiftRight (4 * it.class) 2) x.landing_word x.word) regs (mid_charged 60 (end_closed yi.arena.blocks x.there)))
        ended =
            x.ends of_class (4 * it.class) (word_low setting x.things x.result x.word it.class it.slots it.mark x.of_value stored)
            (class_low setting x.things x.result x.word it.class it.slots it.mark x.of_value stored) (class_there setting x.things x.result x.word it.class it.slots it.mark x.of_value stored)
            (number_there setting x.things x.result x.word it.class it.slots it.mark x.of_value stored)

        abbrev closed : Arena
        closed = with_blocks (record (record_of record_words) { kind = closed_record } ∷ yi.arena.blocks) x.there.arena

        closed_grows : Grows x.there.arena closed
        closed_grows = grows_closed (record_of record_words) yi.arena.blocks x.things.represents.arena x.blocks refl

        closed_from : stack_from x.there.arena ≤ stack_from closed
        closed_from =
            let sum : words_of x.there.arena.blocks ≡ words_of (record_of record_words ∷ yi.arena.blocks) = ap words_of x.blocks in
            omega (arith, sum)

        abbrev yz : MidState
        yz = mid_charged 60 (end_closed yi.arena.blocks x.there)

        abbrev wz : World
        wz = world_outside setting placed x.things closed closed_grows closed_from (x.there.cost + 60)

        things_ended : Things setting wz r0.state yz
        things_ended =
            things_rest setting z.frame rf.state.state.heap rf.state.state.stack rf.state.state.peak x.things.within_limit
            (outside_kept setting placed x.things closed closed_grows closed_from (x.there.cost + 60)).things

        number_is : computed which.ShiftRight (4 * it.class) 2 ≡ class_in rf.state.state.store x.result
        number_is =
            let shifted : computed which.ShiftRight (4 * it.class) 2 ≡ it.class = omega arith in
            shifted ∙ sym (class_is setting x.things x.result x.word it.class it.slots it.mark x.of_value stored)

        ends_unhandled : (regs : Registers)
            → Unhandled setting main_credit (charged 1 z) y r0 (ends (unhandled (computed which.ShiftRight (4 * it.class) 2) x.landing_word x.word) regs yz)
        ends_unhandled regs = record {
          condition = x.result;
          place = it.place;
          outcome = x.outcome ∙ ap (λ l. exit 0 x.result l) it.at;
          site = x.landing_word;
          word = x.word;
          end = ap (λ m. unhandled m x.landing_word x.word) number_is;
          site_is = subst (λ l. LandingIs setting x.landing_word l) it.at x.landing_is;
          w' = wz;
          of_value = x.of_value;
          things = things_ended;
          paid = let paid = x.paid in omega (arith, paid);
        }

        left_ends : E (suc t) (leaves y.arena.blocks qs)
        left_ends =
            let q : MidOutcome = ends (unhandled (computed which.ShiftRight (4 * it.class) 2) x.landing_word x.word) ended.0 yz in
            subst (λ o. E (suc t) o) (sym (ap (leaves y.arena.blocks) ended.1 ∙ leaves_unhandled y.arena.blocks q _ _ _ refl))
            (left_by (subst (λ o. Unhandled setting main_credit (charged 1 z) y o q) (sym left_meant) (ends_unhandled ended.0)))

      -- in any case
      leave : Inner qs → E (suc t) (leaves y.arena.blocks qs)
      unfolding Inner
      leave (done x) = value_ends x
      leave (left_by x) = left_ends x
      leave (full_there x) =
          let same : r ≡ r0 = meant e ∙ then_other r0 restored _ x.outcome tt in
          full_there (record {
            asked = x.asked;
            left_then = x.left_then;
            outcome = ap (λ (o : FlatEvaluated). o.outcome) same ∙ x.outcome;
            printed =
                subst (λ (o : FlatEvaluated). IsPrefix o.state.state.printed (leaves y.arena.blocks qs).state.printed) (sym same)
                (subst (λ ps. IsPrefix rf.state.state.printed ps) (sym (leaves_printed y.arena.blocks qs)) x.printed);
          })
      leave (stopped x) =
          stopped (record {
            because =
                leaves_because setting r y.arena.blocks qs
                (subst (λ o. Because setting o qs.end) (sym (meant e)) (because_then setting r0 restored qs.end behind_grown x.because));
            printed =
                subst (λ ps. IsPrefix ps r.state.state.printed) (sym (leaves_printed y.arena.blocks qs))
                (subst (λ (o : FlatEvaluated). IsPrefix qs.state.printed o.state.state.printed) (sym (meant e)) (both_prefix x.printed behind_grown.printed));
            paid = λ ended.
                let here =
                x.paid (λ none.
                ended (ap (λ (o : FlatEvaluated). o.outcome) (meant e) ∙ because_then setting r0 restored no_level behind_grown none)) in
                let up : r0.state.state.units ≤ r.state.state.units = subst (λ (o : FlatEvaluated). r0.state.state.units ≤ o.state.state.units) (sym (meant e)) behind_grown.units in
                omega (arith, here, up, leaves_costs y.arena.blocks qs);
          })
      leave (few_turns x) =
          let up : r0.state.state.units ≤ r.state.state.units = subst (λ (o : FlatEvaluated). r0.state.state.units ≤ o.state.state.units) (sym (meant e)) behind_grown.units in
          let same = grows.heap.size in
          few_turns (omega (arith, x, up, same))

    body_ends : E (suc t) (leaves y.arena.blocks (exec c (code_of p.body) regs yi))
    body_ends = subst (λ q. E (suc t) (leaves y.arena.blocks q)) (sym (single_step c (main_step steps) regs yi)) (by (cases_lt (left yi.arena) 8))
      where
        by : (left yi.arena < 8) ⊎ (8 ≤ left yi.arena) → E (suc t) (leaves y.arena.blocks qs)
        by (inr room) = leave room (inner_ends room)
        by (inl few) =
            let fewer = left_there in
            let wants = record_wanting c 0 record_words 5 (code_of inner) (code_of end_landed) regs yi few in
            let q : MidOutcome = ends (no_room 8 (left yi.arena)) regs (mid_charged record_cost yi) in
            subst (λ o. E (suc t) (leaves y.arena.blocks o)) (sym wants)
            (stopped (record {
              because =
                  leaves_because setting r y.arena.blocks q
                  (no_room_so setting.limit (fr + 8) (omega (arith, within)) b.room e (omega (arith, few, fewer)), few);
              printed = subst (λ ps. IsPrefix ps r.state.state.printed) (sym (leaves_printed y.arena.blocks q)) (printed_before e);
              paid = λ ended. let up = (grown e).units in omega (arith, up, leaves_costs y.arena.blocks q);
            }))

  -- ---- it is entered

  number_at : UsedAt setting.procedures (mains_from setting.names setting.at setting.program + number) p
  number_at = used_at _ setting.procedures (mains_from setting.names setting.at setting.program + number) p setting.frames ((main_numbers_law setting).main number f placed there)

  entered_ends : (m : ℕ) → m ≤ most → fits ≡ true → E m ((code_at setting k m).further (enter (framed p number_at.frame) []) y)
  unfolding turns
  entered_ends zero low e = let g = grown e in few_turns (omega (arith, g.units, some_words setting b.things))
  entered_ends (suc t) low e = by (cases_lt (left y.arena) number_at.frame)
    where
      by : (left y.arena < number_at.frame) ⊎ (number_at.frame ≤ left y.arena) → E (suc t) (run_procedure (code_at setting k t) (framed p number_at.frame) [] y)
      by (inl few) =
          subst (λ o. E (suc t) o) (sym (without_room (code_at setting k t) (framed p number_at.frame) [] y refl few))
          (stopped (record {
            because = (no_room_so setting.limit number_at.frame (let within = number_at.within in omega (arith, within)) b.room e few, few);
            printed = printed_before e;
            paid = λ ended. let up = (grown e).units in omega (arith, up);
          }))
      by (inr some) =
          subst (λ o. E (suc t) o) (sym (with_room (code_at setting k t) (framed p number_at.frame) [] y refl some)) (body_ends number_at.frame number_at.within some e t (omega (arith, low)))

  main_does : (m : ℕ) → m ≤ most → E m (called (code_at setting k m) (mains_from setting.names setting.at setting.program + number) [] y)
  main_does m low =
      subst (λ q. E m q) (sym (called_by setting k m (mains_from setting.names setting.at setting.program + number) p [] y Turn refl number_at))
      (by fits refl)
    where
      by : (t : Bool) → fits ≡ t → E m ((code_at setting k m).further (enter (framed p number_at.frame) []) y)
      by true e = entered_ends m low e
      by false e =
          full_ends e m ((code_at setting k m).further (enter (framed p number_at.frame) []) y)
          ((turns_grow setting.procedures _ (levels_grow setting.procedures setting.turns_each k) m).at (enter (framed p number_at.frame) []) y)

-- **main forms do what they mean**
pub mains_law : LawOfMains
mains_law setting k m number f right does n w z y there reserve b = main_does setting right k number n f there reserve w z y b m does m (omega arith)
