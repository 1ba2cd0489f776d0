-- **The exit of a signal**: the innermost handler is applied inside it, and a transfer to it gives its value.
use Rattle.std.proofs.Common.{◌≡◌, ℕ, ◌+◌, ◌*◌, ◌<◌, ◌≤◌, Bool, true, false, List, [], ◌∷◌, ◌++◌, length, Option, Some, None, refl, sym, ap, ◌∙◌, subst, arith}
use Rattle.std.specs.Prelude.{◌==◌, ◌%◌, ◌^◌, ◌-◌, ◌||◌, nat_le, slice_set, if◌then◌else◌}
use Rattle.std.proofs.lemmas.Bool.{leb-true, leb-false, eq-eqb, ne_eqb, eqb-true, eqb-false}
use Rattle.lang_meaning.specs.Objects.{control_error_class}
use Rattle.lang_meaning.specs.Prefixes.{IsPrefix}
use Rattle.lang_meaning.specs.State.{DynamicContext, signal_exit, Landing, exit, Outcome, Limit, words, unlimited}
use Rattle.lang_meaning.specs.Values.{Value}
use Rattle.lang_meaning.specs.Counts.{unit_cost}
use Rattle.flat_language.specs.FlatState.{FlatState, FlatEvaluated, charged, exit_made, gives, caught}
use Rattle.flat_language.specs.FlatState.{landed_from as flat_landed_from}
use Rattle.mid_code.specs.Arena.{Arena, Block, record_of, closed_record, left, stack_from, with_blocks, blocks_from, word_at}
use Rattle.mid_code.specs.Law.{Grown}
use Rattle.mid_code.specs.Meaning.{Context, exec, give_back, run_landing}
use Rattle.mid_code.specs.MidCode.{with_block, return_word, code_of}
use Rattle.mid_code.specs.State.{Registers, returns, cuts, falls, ends, MidState, MidOutcome, Next, jumped, landed, with_arena, no_level}
use Rattle.mid_code.specs.State.{go_on as mid_go_on}
use Rattle.mid_code.proofs.Growth.{go_on_grown, landed_grown, same_grown, exec_grown, levels_grow, turns_grow, after_inside_grown, run_landing_grown}
use Rattle.mid_arena.proofs.Growing.{spot_stands}
use Rattle.mid_arena.proofs.Running.{and_ends, return_ends}
use Rattle.back_lowering.specs.ControlWords.{control_address, record_words, record_tag, record_mark, signal_kind, handler_outer, handler_function, handlers_address, site_address}
use Rattle.back_lowering.specs.Records.{exit_laid, record_left, record_landed}
use Rattle.back_lowering.specs.Routines.{function_routine, failing_routine}
use Rattle.back_lowering.specs.Steps.{Steps, constant, load, store, call}
use Rattle.back_relation.specs.Setting.{Setting, control_spot}
use Rattle.back_relation.specs.Placed.{IsPlaced}
use Rattle.back_relation.specs.Room.{words_for_handler, applying_words}
use Rattle.back_relation.specs.Worlds.{World, Standing, IsIn, record_of_exit, first_stop}
use Rattle.back_relation.specs.StackWords.{HandlersAt}
use Rattle.back_relation.specs.Things.{Things, WithinLimit}
use Rattle.back_relation.specs.Around.{RoomFor, AroundStands, CallBegins, SiteStored}
use Rattle.back_relation.specs.Ends.{Around, Transfers, RoomEnded, Ends, CallEnds, done, left_by, full_there, stopped, few_turns}
use Rattle.back_relation.specs.Forms.{context_at, code_at}
use Rattle.back_relation.specs.RoutineClaims.{WordIs}
use Rattle.back_relation.specs.Starts.{FlatGrown}
use Rattle.back_relation.specs.Stores.{stores}
use Rattle.back_relation.proofs.Growth.{same_flat, both_prefix}
use Rattle.back_relation.proofs.Parts.{go_on_last, step_then}
use Rattle.back_relation.proofs.Reaches.{first_stop_in}
use Rattle.back_relation.proofs.Then.{stopped_last}
use Rattle.back_relation.proofs.Worlds.{word_later}
use Rattle.back_exits.specs.RecordSteps.{landed_stores, with_stores}
use Rattle.back_exits.specs.Touching.{touched}
use Rattle.back_exits.proofs.Exits.{cut_passes, cut_lands, stop_passes, blocks_fewer, found_record, landed_other, landed_grows, because_landed}
use Rattle.back_exits.proofs.Landing.{control_back}
use Rattle.back_exits.proofs.Laying.{record_steps_law}
use Rattle.back_exits.proofs.Leaving.{AreControls}
use Rattle.back_exits.proofs.Puts.{Put, of_control, or_before, last_control}
use Rattle.back_exits.proofs.Steps.{record_runs, record_wanting, gives_back, closes}
use Rattle.back_exits.proofs.Words.{control_lent, control_of}
use Rattle.back_leaving.proofs.Leaving.{functions_leave_law}
use Rattle.back_conditions.specs.Handled.{FunctionsDo, FailsPaid}
use Rattle.back_conditions.proofs.Blocks.{Opened, words_left, found_new, at_to, transfer_out, state_back, world_back, world_given, charged_back}
use Rattle.back_conditions.proofs.Laid.{at, lays, lays_none, regs_before, block_laid, y_laid, w_laid, new, around_laid, site_laid, opened}
use Rattle.back_conditions.proofs.Inner.{inside_credit, meant_inside, inside_grows, LeftInside, inside_ends, regs_inside}

landed_controls : (current link handlers bindings : ℕ) → AreControls (landed_stores current link handlers bindings)
landed_controls current link handlers bindings = (
  refl,
  (omega arith, omega arith),
  (λ e. absurd (omega (arith, e))),
  (
    refl,
    (omega arith, omega arith),
    (λ e. absurd (omega (arith, e))),
    (refl, (omega arith, omega arith), (λ e. absurd (omega (arith, e))), (refl, (omega arith, omega arith), (λ e. absurd (omega (arith, e))), tt)),
  ),
)

module _ (setting : Setting) (placed : IsPlaced setting) (k t : ℕ) (rs valid : List Standing) (w : World) (around : DynamicContext) (z : FlatState) (y : MidState)
    {m : ℕ} (begins : CallBegins setting rs valid m w around z y)
    (c mark h : Value) (hs : List Value) (fewer_room : RoomFor setting.limit (applying_words + 3 + 8 + words_for_handler * length hs) z.state y) (c_word mark_word : ℕ)
    (of_condition : WordIs setting w c_word c) (of_mark : WordIs setting w mark_word mark) (handlers : HandlersAt w y begins.around_stands.handlers_cell (h ∷ hs)) (site : SiteStored setting around y) (r2 : ℕ) where
  abbrev things : Things setting w z y
  things = begins.things

  abbrev ar : AroundStands setting w rs valid around z y
  ar = begins.around_stands

  abbrev cx : Context
  cx = code_at setting k t

  abbrev n : ℕ
  n = length y.arena.blocks

  abbrev rest : Steps
  rest =
      with_block 16 1 6 (code_of (store 0 16 0 ∷ constant 17 1 ∷ call 6 (function_routine setting.at) (5 ∷ 17 ∷ 16 ∷ []) ∷ [])) (code_of [])
      ∷ constant 5 0 ∷ store 7 5 site_address ∷ constant 5 control_error_class ∷ call 6 (failing_routine setting.at) (5 ∷ []) ∷ record_left 8 14

  abbrev inner_around : DynamicContext
  inner_around = record around { exits = record { number = z.state.exits; kind = signal_exit c mark } ∷ around.exits; handlers = hs }

  abbrev inner_state : FlatState
  inner_state = charged 1 (exit_made z)

  abbrev r1 : FlatEvaluated
  r1 = meant_inside (context_at setting k) h c inner_around inner_state

  abbrev pub r : FlatEvaluated
  r = caught z.state.exits r1

  abbrev gives_there : Value → Landing → FlatState → FlatEvaluated
  gives_there v landing s = gives v s

  r1_grown : FlatGrown inner_state r1.state
  r1_grown = inside_grows setting k h c inner_around inner_state

  landed_grown_so : FlatGrown r1.state r.state
  landed_grown_so = landed_grows setting z.state.exits gives_there (λ v l s. same_flat s) r1

  grown : FlatGrown z r.state
  grown = record {
    printed = both_prefix r1_grown.printed landed_grown_so.printed;
    units = let a = r1_grown.units in let b = landed_grown_so.units in omega (arith, a, b);
    exits = let a = r1_grown.exits in let b = landed_grown_so.exits in omega (arith, a, b);
  }

  abbrev after : Next
  after g x = jumped (give_back n g x)

  abbrev catch : ℕ → Next
  catch v g x = run_landing n 6 (λ g' x'. exec cx (code_of (record_landed 8 14)) g' x') v g x

  abbrev ret : Next
  ret g x = exec cx (code_of (return_word 6 ∷ [])) g x

  abbrev code : MidOutcome → MidOutcome
  code q = mid_go_on (landed n catch (mid_go_on q after)) ret

  abbrev regs0 : Registers
  regs0 =
      Some c_word ∷ Some mark_word ∷ Some r2 ∷ Some 0 ∷ Some ar.handlers_cell ∷ None ∷ None ∷ Some site.0 ∷ None ∷ None ∷ None ∷ None ∷ None ∷ None ∷ None ∷ None ∷ None ∷ None ∷ []

  abbrev inside_code : Steps
  inside_code =
      store 0 8 record_tag ∷ store 1 8 record_mark
      ∷ (exit_laid 13 8 14 signal_kind ++ (load 5 4 handler_outer ∷ store 5 14 handlers_address ∷ load 5 4 handler_function ∷ rest))

  abbrev pub whole : Steps
  whole = with_block 8 record_words 6 (code_of inside_code) (code_of (record_landed 8 14)) ∷ return_word 6 ∷ []

  abbrev pub Whole : FlatEvaluated → MidOutcome → Type 0
  Whole p q = CallEnds setting 220 (t + 1 + 1) rs valid w around z y p q

  code_grown : (ss : Steps) (g : Registers) (x : MidState) → Grown x (exec cx (code_of ss) g x).state
  code_grown ss g x =
      exec_grown cx (levels_grow setting.procedures setting.turns_each k) (turns_grow setting.procedures _ (levels_grow setting.procedures setting.turns_each k) t) (code_of ss) g x

  whole_grown : (q : MidOutcome) → Grown q.state (code q).state
  whole_grown q =
      go_on_grown (landed n catch (mid_go_on q after)) ret q.state
      (landed_grown n catch (mid_go_on q after) q.state (go_on_grown q after q.state (same_grown q.state) (λ g x. after_inside_grown n g x))
      (λ v g x. run_landing_grown n 6 (λ g' x'. exec cx (code_of (record_landed 8 14)) g' x') v g x (λ g' x'. code_grown (record_landed 8 14) g' x')))
      (λ g x. code_grown (return_word 6 ∷ []) g x)

  printed_before : IsPrefix y.printed r.state.state.printed
  printed_before = subst (λ ps. IsPrefix ps r.state.state.printed) (sym things.represents.printed) grown.printed

  -- there are no words left for a block of the stack
  room_wants : (l : Limit) (m : ℕ) (o : Outcome) → m ≤ 11 → RoomFor l (applying_words + 3 + 8 + words_for_handler * length hs) z.state y → WithinLimit l z.state → left y.arena < m → RoomEnded setting l o
  room_wants unlimited m o few h within wants = tt
  room_wants (words limit) m o few h within wants = absurd (omega (arith, few, h, within, wants))

  -- ---- the record was laid

  module _ (room : 8 ≤ left y.arena) where
    step_is : exec cx (code_of whole) regs0 y ≡ code (exec cx (code_of inside_code) (regs_before setting placed k t rs valid w around z y things ar c mark h hs c_word mark_word of_condition of_mark handlers room r2 site.0)
        (block_laid setting placed k t rs valid w around z y things ar c mark h hs c_word mark_word of_condition of_mark handlers room))
    step_is =
        step_then cx (with_block 8 record_words 6 (code_of inside_code) (code_of (record_landed 8 14))) (return_word 6 ∷ []) regs0 y
        ∙ ap (λ q. mid_go_on q ret) (record_runs cx 8 record_words 6 (code_of inside_code) (code_of (record_landed 8 14)) regs0 y room)

    -- no serial number is left
    none_ends : (things.serials.0 == 2 ^ 32 - 1) ≡ true → Whole r (exec cx (code_of whole) regs0 y)
    unfolding mid_go_on landed
    none_ends last =
        let s = things.serials in
        let drawn : s.0 ≡ 2 ^ 32 - 1 = eqb-true s.0 (2 ^ 32 - 1) last in
        let count = s.2 in
        let more : z.state.exits + 1 ≤ r.state.state.exits = (let a = r1_grown.exits in let b = landed_grown_so.exits in omega (arith, a, b)) in
        subst (λ q. Whole r q)
        (sym (step_is ∙ ap code (lays_none setting placed k t rs valid w around z y things ar c mark h hs c_word mark_word of_condition of_mark handlers room r2 site.0 last rest)))
        (stopped (record {
          because = omega (arith, drawn, count, more);
          printed = printed_before;
          paid = λ ended. let up = grown.units in omega (arith, up);
        }))

    module _ (fewer : (things.serials.0 == 2 ^ 32 - 1) ≡ false) where
      abbrev o : Opened setting 6 w (w_laid setting placed k t rs valid w around z y things ar c mark h hs c_word mark_word of_condition of_mark handlers room fewer) z inner_state y
          (y_laid setting placed k t rs valid w around z y things ar c mark h hs c_word mark_word of_condition of_mark handlers room)
      o = opened setting placed k t rs valid w around z y things ar c mark h hs c_word mark_word of_condition of_mark handlers room fewer

      abbrev yl : MidState
      yl = y_laid setting placed k t rs valid w around z y things ar c mark h hs c_word mark_word of_condition of_mark handlers room

      abbrev wl : World
      wl = w_laid setting placed k t rs valid w around z y things ar c mark h hs c_word mark_word of_condition of_mark handlers room fewer

      abbrev record_new : Standing
      record_new = new setting placed k t rs valid w around z y things ar c mark h hs c_word mark_word of_condition of_mark handlers room fewer

      begins_laid : CallBegins setting (record_new ∷ rs) (record_new ∷ valid) (applying_words + 3) wl inner_around inner_state yl
      begins_laid = record {
        things = o.world.things;
        around_stands = around_laid setting placed k t rs valid w around z y things ar c mark h hs c_word mark_word of_condition of_mark handlers room fewer;
        room = by setting.limit fewer_room;
      }
        where
          by : (l : Limit) → RoomFor l (applying_words + 3 + 8 + words_for_handler * length hs) z.state y → RoomFor l (applying_words + 3 + words_for_handler * length hs) inner_state.state yl
          by unlimited e = tt
          by (words m) e = let fewer = words_left setting o in omega (arith, e, fewer)

      -- the registers inside
      abbrev regs : Option ℕ → Option ℕ → Option ℕ → Option ℕ → Registers
      regs r5 r6 r16 r17 =
          regs_inside c_word mark_word r2 ar.handlers_cell site.0 (at setting placed k t rs valid w around z y things ar c mark h hs c_word mark_word of_condition of_mark handlers room) ar.current ar.link ar.bindings_cell
          (things.serials.0 + 1) r5 r6 r16 r17

      abbrev inside_q : MidOutcome
      inside_q = exec cx (code_of rest) (regs (Some handlers.0.word) None None None) yl

      abbrev Inside : FlatEvaluated → MidOutcome → Type 0
      Inside p q = Ends setting (inside_credit + unit_cost) ⊥ (LeftInside setting (record_new ∷ rs) (record_new ∷ valid) wl inner_around inner_state yl regs z.state.exits p q) t inner_state yl p q

      whole_is : exec cx (code_of whole) regs0 y ≡ code inside_q
      whole_is = step_is ∙ ap code (lays setting placed k t rs valid w around z y things ar c mark h hs c_word mark_word of_condition of_mark handlers room r2 site.0 fewer rest)

      -- ---- a transfer leaves the inside

      module _ (q : MidOutcome) (l : LeftInside setting (record_new ∷ rs) (record_new ∷ valid) wl inner_around inner_state yl regs z.state.exits r1 q) where
        abbrev x : Transfers setting inside_credit (record_new ∷ rs) (record_new ∷ valid) wl inner_around inner_state yl r1 q
        x = l.transfer

        low_record : (s : Standing) → IsIn s rs → stack_from y.arena ≤ s.address
        low_record s i = (ar.records s i).low

        -- it passes
        module _ (other : (z.state.exits == x.exit_number) ≡ false) where
          valid_outside : record_of_exit x.exit_number around.exits valid ≡ Some x.target
          valid_outside = sym (ap (λ b. if b then Some record_new else record_of_exit x.exit_number around.exits valid) other) ∙ x.valid_target

          target_in : IsIn x.target rs
          target_in = found_record rs ar.link z.state.exits x.exit_number around.exits valid x.target ar.links valid_outside

          stop_outside : first_stop x.target.address rs ≡ x.to ∷ x.outer
          stop_outside =
              sym (ap (λ b. if b || false then record_new ∷ rs else first_stop x.target.address rs)
              (ne_eqb record_new.address x.target.address (λ e. let low = low_record x.target target_in in let to = at_to setting o in omega (arith, e, low, to))))
              ∙ x.stop

          to_in : IsIn x.to rs
          to_in = first_stop_in x.target.address rs x.to x.outer stop_outside

          passes_by : (x.to.outside == n) ≡ false
          passes_by =
              let stands = (ar.records x.to to_in).block in
              let fewer = blocks_fewer (length y.arena.memory) x.to.address y.arena.blocks stands.blocks stands.found in
              let count = stands.count in
              ne_eqb x.to.outside n (λ e. omega (arith, e, fewer, count))

          out : Transfers setting 220 rs valid w around z y r1 (ends (cuts x.to.outside x.word) q.registers q.state)
          out = transfer_out setting o (omega arith) x q.registers valid_outside stop_outside (low_record x.to to_in) (omega arith)

          passing : Whole r1 (code q)
          passing =
              subst (λ p. Whole r1 p)
              (sym
              (ap (λ p. mid_go_on p ret) (cut_passes n after catch q x.to.outside x.word x.end passes_by)
              ∙ go_on_last (cuts x.to.outside x.word) q ret x.end tt ∙ ap (λ e. ends e q.registers q.state) x.end))
              (left_by (record { transfer = out; frame = l.frame }))

        -- it lands
        module _ (number : x.exit_number ≡ z.state.exits) where
          same : (z.state.exits == x.exit_number) ≡ true
          same = eq-eqb z.state.exits x.exit_number (sym number)

          stops : record_new ∷ rs ≡ x.to ∷ x.outer
          stops =
              let target : record_new ≡ x.target = cc (sym (ap (λ b. if b then Some record_new else record_of_exit x.exit_number around.exits valid) same) ∙ x.valid_target) in
              let stop : first_stop record_new.address (record_new ∷ rs) ≡ record_new ∷ rs =
              ap (λ b. if b || false then record_new ∷ rs else first_stop record_new.address rs) (eq-eqb record_new.address record_new.address refl) in
              sym stop ∙ ap (λ (s : Standing). first_stop s.address (record_new ∷ rs)) target ∙ x.stop

          to_here : record_new ≡ x.to
          to_here = let all : record_new ∷ rs ≡ x.to ∷ x.outer = stops in cc all

          blocks : q.state.arena.blocks ≡ record_of 6 ∷ y.arena.blocks
          blocks =
              let found : blocks_from (length yl.arena.memory) yl.arena.blocks record_new.address ≡ Some q.state.arena.blocks =
              ap (λ (s : Standing). blocks_from (length yl.arena.memory) yl.arena.blocks s.address) to_here ∙ x.blocks in
              cc (sym found ∙ found_new setting o)

          abbrev lands : List (ℕ × ℕ)
          lands = landed_stores ar.current ar.link ar.handlers_cell ar.bindings_cell

          abbrev controls : AreControls lands
          controls = landed_controls ar.current ar.link ar.handlers_cell ar.bindings_cell

          abbrev total : ℕ
          total = q.state.cost + 38 + 10 + 14

          abbrev y4 : MidState
          y4 = state_back setting o (omega arith) placed x.world blocks lands controls total

          abbrev w4 : World
          w4 = world_back setting o (omega arith) placed x.world blocks lands controls total

          abbrev closed : Block
          closed = record (record_of record_words) { kind = closed_record }

          abbrev yc : MidState
          yc = with_arena (with_blocks (closed ∷ y.arena.blocks) q.state.arena) q.state

          abbrev g1 : Registers
          g1 = regs l.r5 (Some x.word) l.r16 l.r17

          abbrev b4 : Arena
          b4 = with_blocks y.arena.blocks q.state.arena

          landing_runs : exec cx (code_of (record_landed 8 14)) g1 yc ≡ ends falls g1 (with_stores lands 38 yc)
          landing_runs =
              record_steps_law.landed cx g1 8 14 ar.current ar.link ar.handlers_cell ar.bindings_cell yc (omega arith) (omega arith) refl refl refl refl
              (control_lent setting (spot_stands q.state.arena yc.arena (control_spot setting) refl refl refl (omega arith) (control_of setting x.world.things)))

          catch_is : catch x.word q.registers q.state ≡ ends falls g1 (touched lands b4 (q.state.cost + 38 + 10) q.state)
          unfolding mid_go_on
          catch_is =
              closes (record_of record_words) y.arena.blocks (λ rs' s. mid_go_on (exec cx (code_of (record_landed 8 14)) (slice_set rs' 6 (Some x.word)) s) (give_back n)) q.registers q.state blocks refl
              ∙ ap (λ g. mid_go_on (exec cx (code_of (record_landed 8 14)) (slice_set g 6 (Some x.word)) yc) (give_back n)) l.registers
              ∙ ap (λ p. mid_go_on p (give_back n)) landing_runs ∙ gives_back closed y.arena.blocks g1 (with_stores lands 38 yc) refl refl

          code_lands : code q ≡ ends (returns x.word) g1 y4
          unfolding mid_go_on
          code_lands =
              ap (λ p. mid_go_on p ret) (cut_lands n after catch q x.to.outside x.word x.end (ap (λ (s : Standing). s.outside) (sym to_here)) ∙ catch_is)
              ∙ (and_ends tt (return_ends refl)).same

          abbrev puts4 : List Put
          puts4 = of_control 0 ar.current ∷ of_control 4 ar.link ∷ of_control 20 ar.handlers_cell ∷ of_control 24 ar.bindings_cell ∷ []

          says4 : (i m : ℕ) → i < 36 → i % 4 ≡ 0 → last_control i puts4 ≡ Some m → word_at (stores lands b4) (control_address + i) ≡ Some m
          says4 i m few word e =
              control_back setting x.world.things (record_of record_words) y.arena.blocks blocks 220 refl (omega arith) i puts4 refl few word
              ∙ ap (λ p. or_before p (word_at b4 (control_address + i))) e

          around4 : Around setting 220 z r1.state y y4
          around4 = record {
            control = record {
              current = λ m e. says4 0 ar.current (omega arith) refl refl ∙ sym ar.current_word ∙ e;
              link = λ m e. says4 4 ar.link (omega arith) refl refl ∙ sym ar.link_word ∙ e;
              handlers = λ m e. says4 20 ar.handlers_cell (omega arith) refl refl ∙ sym ar.handlers_word ∙ e;
              bindings = λ m e. says4 24 ar.bindings_cell (omega arith) refl refl ∙ sym ar.bindings_word ∙ e;
            };
            blocks = refl;
            charged = charged_back setting o (omega arith) placed x.world blocks lands controls total x.charged;
            paid =
                let paid = l.landing_paid number in
                let same_length : length (x.to ∷ x.outer) ≡ length (record_new ∷ rs) = ap length (sym stops) in
                omega (arith, paid, same_length);
          }

          landing : Whole (gives x.result r1.state) (code q)
          landing =
              subst (λ p. Whole (gives x.result r1.state) p) (sym code_lands)
              (done (record {
                result = x.result;
                outcome = refl;
                word = x.word;
                end = refl;
                w' = w4;
                world = world_given setting o (omega arith) placed x.world blocks lands controls total;
                back = around4;
                of_value = x.of_value;
                frame = l.frame;
              }))

      -- ---- all cases

      ends_so : Inside r1 inside_q → Whole r (code inside_q)
      ends_so (done f) = absurd f
      ends_so (left_by l) = by (l.transfer.exit_number == z.state.exits) refl
        where
          source : r ≡ (if l.transfer.exit_number == z.state.exits then gives l.transfer.result r1.state else record { outcome = exit l.transfer.exit_number l.transfer.result l.transfer.landing; state = r1.state })
          source = ap (λ p. flat_landed_from z.state.exits gives_there p r1.state) l.transfer.outcome

          by : (b : Bool) → (l.transfer.exit_number == z.state.exits) ≡ b → Whole r (code inside_q)
          by true e =
              subst (λ p. Whole p (code inside_q))
              (sym (source ∙ ap (λ b. if b then gives l.transfer.result r1.state else record { outcome = exit l.transfer.exit_number l.transfer.result l.transfer.landing; state = r1.state }) e))
              (landing inside_q l (eqb-true l.transfer.exit_number z.state.exits e))
          by false e =
              subst (λ p. Whole p (code inside_q))
              (sym (source ∙ ap (λ b. if b then gives l.transfer.result r1.state else record { outcome = exit l.transfer.exit_number l.transfer.result l.transfer.landing; state = r1.state }) e
              ∙ ap (λ p. record { outcome = p; state = r1.state }) (sym l.transfer.outcome)))
              (passing inside_q l (ne_eqb z.state.exits l.transfer.exit_number (λ g. eqb-false l.transfer.exit_number z.state.exits e (sym g))))
      ends_so (full_there f) =
          let g = whole_grown inside_q in
          subst (λ p. Whole p (code inside_q)) (sym (landed_other setting z.state.exits gives_there (λ v l s. same_flat s) r1 _ f.outcome tt))
          (full_there (record { asked = f.asked; left_then = f.left_then; outcome = f.outcome; printed = both_prefix f.printed (record { rest = g.printed.0; is = sym g.printed.1 }) }))
      ends_so (stopped f) =
          let g = landed_grown_so in
          subst (λ p. Whole r p)
          (sym
          (ap (λ p. mid_go_on p ret) (stop_passes n after catch setting r1 inside_q inside_q.end refl f.because)
          ∙ go_on_last inside_q.end inside_q ret refl (stopped_last setting r1 inside_q.end f.because)))
          (stopped (record {
            because = because_landed setting z.state.exits gives_there (λ v l s. same_flat s) r1 inside_q.end f.because;
            printed = both_prefix f.printed g.printed;
            paid = λ ended.
                let paid = f.paid (λ none. ended (because_landed setting z.state.exits gives_there (λ v l s. same_flat s) r1 no_level none)) in
                omega (arith, paid, g.units);
          }))
      ends_so (few_turns f) =
          let g = landed_grown_so in
          let size = o.world.same_size in
          few_turns (omega (arith, f, g.units, size))

      -- there is no room for the block of the argument
      argument_wants : left yl.arena < 3 → Inside r1 inside_q
      unfolding mid_go_on exec
      argument_wants wants =
          subst (λ q. Inside r1 q)
          (sym
          (ap (λ q. mid_go_on q (λ g s. exec cx (code_of (constant 5 0 ∷ store 7 5 site_address ∷ constant 5 control_error_class ∷ call 6 (failing_routine setting.at) (5 ∷ []) ∷ record_left 8 14)) g s))
          (record_wanting cx 16 1 6 (code_of (store 0 16 0 ∷ constant 17 1 ∷ call 6 (function_routine setting.at) (5 ∷ 17 ∷ 16 ∷ []) ∷ [])) (code_of []) (regs (Some handlers.0.word) None None None) yl wants)))
          (stopped (record {
            because = (
              room_wants setting.limit 11 r1.outcome (omega arith) fewer_room things.within_limit (let fewer = words_left setting o in omega (arith, wants, fewer)),
              wants,
            );
            printed = subst (λ ps. IsPrefix ps r1.state.state.printed) (sym things.represents.printed) r1_grown.printed;
            paid = λ ended. let up = r1_grown.units in omega (arith, up);
          }))

      module _ (applies : FunctionsDo setting k t inner_around) (fails : FailsPaid setting k t inner_around) where
        inside_so : Inside r1 inside_q
        inside_so = by (nat_le 3 (left yl.arena)) refl
          where
            by : (b : Bool) → nat_le 3 (left yl.arena) ≡ b → Inside r1 inside_q
            by false e = argument_wants (leb-false 3 (left yl.arena) e)
            by true e =
                inside_ends setting placed k t (record_new ∷ rs) (record_new ∷ valid) wl inner_around inner_state yl begins_laid
                (site_laid setting placed k t rs valid w around z y things ar c mark h hs c_word mark_word of_condition of_mark handlers room fewer site) h c handlers.0.word c_word
                (word_later o.world.later h handlers.0.word handlers.0.of_value) (word_later o.world.later c c_word of_condition) mark_word r2 ar.handlers_cell
                (at setting placed k t rs valid w around z y things ar c mark h hs c_word mark_word of_condition of_mark handlers room) ar.current ar.link ar.bindings_cell (things.serials.0 + 1) z.state.exits
                (let count = things.serials.2 in omega (arith, count)) (leb-true 3 (left yl.arena) e) fails
                (functions_leave_law setting k inner_around (applying_words + 3) (record_new ∷ rs) (record_new ∷ valid) wl inner_state yl begins_laid h (c ∷ []))
                (applies (record_new ∷ rs) (record_new ∷ valid) _ inner_state _)

        laid_ends : Whole r (exec cx (code_of whole) regs0 y)
        laid_ends = subst (λ q. Whole r q) (sym whole_is) (ends_so inside_so)

  module _ (applies : FunctionsDo setting k t inner_around) (fails : FailsPaid setting k t inner_around) where
    -- **in all cases**
    pub outer_ends : Whole r (exec cx (code_of whole) regs0 y)
    unfolding mid_go_on
    outer_ends = by (nat_le 8 (left y.arena)) refl
      where
        by : (b : Bool) → nat_le 8 (left y.arena) ≡ b → Whole r (exec cx (code_of whole) regs0 y)
        by true e = drawn_or_not (things.serials.0 == 2 ^ 32 - 1) refl
          where
            room : 8 ≤ left y.arena
            room = leb-true 8 (left y.arena) e

            drawn_or_not : (b : Bool) → (things.serials.0 == 2 ^ 32 - 1) ≡ b → Whole r (exec cx (code_of whole) regs0 y)
            drawn_or_not true last = none_ends room last
            drawn_or_not false fewer = laid_ends room fewer applies fails
        by false e =
            let wants = leb-false 8 (left y.arena) e in
            subst (λ q. Whole r q)
            (sym
            (step_then cx (with_block 8 record_words 6 (code_of inside_code) (code_of (record_landed 8 14))) (return_word 6 ∷ []) regs0 y
            ∙ ap (λ q. mid_go_on q ret) (record_wanting cx 8 record_words 6 (code_of inside_code) (code_of (record_landed 8 14)) regs0 y wants)))
            (stopped (record {
              because = (room_wants setting.limit 8 r.outcome (omega arith) fewer_room things.within_limit wants, wants);
              printed = printed_before;
              paid = λ ended. let up = grown.units in omega (arith, up);
            }))
