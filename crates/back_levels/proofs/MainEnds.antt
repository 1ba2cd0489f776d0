-- What the form comes to inside the record of the end, and the code around it.
use Rattle.std.proofs.Common.{◌≡◌, ℕ, ◌+◌, ◌^◌, ◌<◌, ◌≤◌, Bool, true, false, List, [], ◌∷◌, ◌++◌, length, Option, Some, None, refl, sym, ap, ◌∙◌, subst, arith}
use Rattle.std.specs.Prelude.{◌==◌, slice_set, if◌then◌else◌, ◌||◌}
use Rattle.std.proofs.lemmas.Bool.{eq-eqb, eqb-true}
use Rattle.lang_meaning.specs.State.{main_context, exit}
use Rattle.lang_meaning.specs.Counts.{unit_cost}
use Rattle.flat_language.specs.FlatMeaning.{mean}
use Rattle.flat_language.specs.FlatState.{no_environment, FlatState, FlatEvaluated, charged}
use Rattle.mid_code.specs.declared.operation.Arithmetic.TheVariants as which
use Rattle.mid_code.specs.Arena.{Arena, Block, record_of, closed_record, blocks_from, word_at, with_blocks}
use Rattle.mid_code.specs.Law.{Grown}
use Rattle.mid_code.specs.Meaning.{Context, run_landing, give_back, exec}
use Rattle.mid_code.specs.MidCode.{return_word, code_of}
use Rattle.mid_code.specs.State.{Registers, returns, cuts, unhandled, ends, MidState, MidOutcome, Next, with_arena, jumped, landed}
use Rattle.mid_code.specs.State.{charged as mid_charged, go_on as mid_go_on}
use Rattle.mid_code.specs.Words.{computed}
use Rattle.mid_code.proofs.Growth.{go_on_grown, landed_grown, same_grown, exec_grown, levels_grow, turns_grow, after_inside_grown, run_landing_grown}
use Rattle.mid_arena.proofs.Running.{RunsTo, and_ends, parts_then, in_two_parts, return_ends}
use Rattle.back_lowering.specs.Codes.{lower}
use Rattle.back_lowering.specs.Program.{main_scope}
use Rattle.back_lowering.specs.ControlWords.{record_words, landing_address}
use Rattle.back_lowering.specs.Steps.{Steps}
use Rattle.back_relation.specs.Setting.{Setting}
use Rattle.back_relation.specs.Worlds.{World, Later, Standing}
use Rattle.back_relation.specs.StackWords.{HasWordAt}
use Rattle.back_relation.specs.Ends.{done, left_by, full_there, stopped, few_turns, Ends, form_credit}
use Rattle.back_relation.specs.Forms.{context_at, code_at, SparingForm}
use Rattle.back_relation.proofs.Growth.{both_prefix}
use Rattle.back_relation.proofs.Parts.{go_on_falls, go_on_last}
use Rattle.back_relation.proofs.Straight.{things_cost}
use Rattle.back_relation.proofs.Then.{stopped_last}
use Rattle.back_relation.proofs.Windows.{stored_size}
use Rattle.back_relation.proofs.Worlds.{later_then}
use Rattle.back_exits.proofs.Exits.{cut_lands, stop_passes}
use Rattle.back_exits.proofs.Steps.{record_runs, closes, laid_size}
use Rattle.back_exits.proofs.Touching.{stored_blocks}
use Rattle.back_levels.specs.Beginning.{arena_laid, laid_at, block_laid, end_there, end_record}
use Rattle.back_levels.specs.MainEnds.{end_closed, MainValue, MainLeft, LawOfMainEnds}
use Rattle.back_levels.specs.MainSteps.{end_laid, end_landed, end_stores}
use Rattle.back_levels.specs.Surroundings.{main_form_scope}
use Rattle.back_levels.proofs.Beginning.{beginnings_law, found}
use Rattle.back_levels.proofs.MainSteps.{landed_runs}

-- eight registers and more, written out
record Eight (regs : Registers) : Type 0 where
  r0 : Option ℕ
  r1 : Option ℕ
  r2 : Option ℕ
  r3 : Option ℕ
  r4 : Option ℕ
  r5 : Option ℕ
  r6 : Option ℕ
  r7 : Option ℕ
  tail : Registers
  parts : regs ≡ r0 ∷ r1 ∷ r2 ∷ r3 ∷ r4 ∷ r5 ∷ r6 ∷ r7 ∷ tail

eight : (regs : Registers) → 8 ≤ length regs → Eight regs
eight (r0 ∷ r1 ∷ r2 ∷ r3 ∷ r4 ∷ r5 ∷ r6 ∷ r7 ∷ tail) h =
    record { r0 = r0; r1 = r1; r2 = r2; r3 = r3; r4 = r4; r5 = r5; r6 = r6; r7 = r7; tail = tail; parts = refl }
eight regs h = absurd (omega (arith, h))

-- the end is the exit with the number 0, and a transfer to it stops at its record
at_end : (e : ℕ) (r t : Standing) → (if 0 == e then Some r else None) ≡ Some t → (0 ≡ e) × (r ≡ t)
at_end e r t f = by (0 == e) refl f
  where
    by : (b : Bool) → (0 == e) ≡ b → (if b then Some r else None) ≡ Some t → (0 ≡ e) × (r ≡ t)
    by true same g = (eqb-true 0 e same, cc g)
    by false same g = absurd (cc g)

-- words are the same where the innermost record is closed
closed_word : (a : Arena) (bs : List Block) (x : ℕ) → a.blocks ≡ record_of record_words ∷ bs
    → word_at (with_blocks (record (record_of record_words) { kind = closed_record } ∷ bs) a) x ≡ word_at a x
closed_word a bs x e = sym (ap (λ l. word_at (with_blocks l a) x) e)

module _ (setting : Setting) (k turns : ℕ) (form : Steps) (y : MidState) where
  abbrev c : Context
  c = code_at setting k turns

  abbrev outside : ℕ
  outside = length y.arena.blocks

  abbrev catch : ℕ → Next
  catch = run_landing outside 5 (λ rs x. exec c (code_of end_landed) rs x)

  abbrev rest : Next
  rest rs x = jumped (give_back outside rs x)

  abbrev ret : Next
  ret rs x = exec c (code_of (return_word 8 ∷ [])) rs x

  code_grown : (ss : Steps) (rs : Registers) (x : MidState) → Grown x (exec c (code_of ss) rs x).state
  code_grown ss rs x =
      exec_grown c (levels_grow setting.procedures setting.turns_each k) (turns_grow setting.procedures _ (levels_grow setting.procedures setting.turns_each k) turns) (code_of ss) rs x

  abbrev whole : MidOutcome → MidOutcome
  whole q = landed outside catch (mid_go_on (mid_go_on q ret) rest)

  whole_grown : (q : MidOutcome) → Grown q.state (whole q).state
  whole_grown q =
      landed_grown outside catch (mid_go_on (mid_go_on q ret) rest) q.state
      (go_on_grown (mid_go_on q ret) rest q.state (go_on_grown q ret q.state (same_grown q.state) (λ rs x. code_grown (return_word 8 ∷ []) rs x)) (λ rs x. after_inside_grown outside rs x))
      (λ v rs x. run_landing_grown outside 5 (λ g u. exec c (code_of end_landed) g u) v rs x (λ g u. code_grown end_landed g u))

  whole_returns : (q : MidOutcome) (word : ℕ) → mid_go_on q ret ≡ ends (returns word) q.registers (mid_charged 14 q.state)
      → whole q ≡ ends (returns word) q.registers (mid_charged 14 q.state)
  unfolding landed
  whole_returns q word e =
      ap (λ p. landed outside catch (mid_go_on p rest)) e
      ∙ ap (landed outside catch) (go_on_last (returns word) (ends (returns word) q.registers (mid_charged 14 q.state)) rest refl tt)

  whole_lands : (q : MidOutcome) (n word : ℕ) → q.end ≡ cuts n word → n ≡ outside → whole q ≡ catch word q.registers q.state
  whole_lands q n word e same =
      ap (λ p. landed outside catch (mid_go_on p rest)) (go_on_last (cuts n word) q ret e tt) ∙ cut_lands outside rest catch q n word e same

module _ (setting : Setting) (k turns current link n : ℕ) (w : World) (z : FlatState) (y : MidState) (tail : Registers) (r1 r2 r3 r4 r5 r6 r7 r8 : Option ℕ) (form : Steps)
    (size : length (end_there current link y).arena.memory ≡ length y.arena.memory)
    (found_end : blocks_from (length (end_there current link y).arena.memory) (end_there current link y).arena.blocks (laid_at y.arena) ≡ Some (record_of record_words ∷ y.arena.blocks))
    (blocks_there : (end_there current link y).arena.blocks ≡ record_of record_words ∷ y.arena.blocks)
    (wb : World) (later : Later w wb) where
  abbrev y2 : MidState
  y2 = end_there current link y

  abbrev regs2 : Registers
  regs2 = Some (laid_at y.arena) ∷ Some current ∷ Some link ∷ Some 0 ∷ Some 0 ∷ r5 ∷ Some 0 ∷ Some 0 ∷ r8 ∷ tail

  ends_then :
      (r : FlatEvaluated) (q : MidOutcome)
      → SparingForm setting turns (end_record current link y ∷ []) (end_record current link y ∷ []) (main_form_scope setting) 8 wb no_environment main_context z regs2 y2 r q
      → Ends setting (form_credit + 142 + unit_cost) (MainValue setting current link w z y r (whole setting k turns form y q)) (MainLeft setting z y r (whole setting k turns form y q)) turns (charged 1 z) y r (whole setting k turns form y q)
  ends_then r q (done x) =
      let run : RunsTo (c setting k turns form y) (code_of (return_word 8 ∷ [])) q.registers q.state (ends (returns x.word) q.registers (mid_charged 14 q.state)) =
      and_ends tt (return_ends x.in_register) in
      let back = x.reached.back in
      subst
      (λ p. Ends setting (form_credit + 142 + unit_cost) (MainValue setting current link w z y r p) (MainLeft setting z y r p) turns (charged 1 z) y r p)
      (sym (whole_returns setting k turns form y q x.word (go_on_falls q (ret setting k turns form y) x.end ∙ run.same)))
      (done (record {
        result = x.result;
        outcome = x.outcome;
        word = x.word;
        end = refl;
        w' = x.w';
        later = later_then later x.reached.kept.world.later;
        things = things_cost setting 14 x.reached.kept.world.things;
        of_value = x.of_value;
        control = record { current = back.control.current; link = back.control.link; handlers = back.control.handlers; bindings = back.control.bindings };
        end_kept = x.reached.kept.world.end;
        charged = back.charged;
        blocks = back.blocks ∙ blocks_there;
        same_size = x.reached.kept.world.same_size ∙ size;
        frame = sym x.reached.kept.activation.slot_count;
        paid = let paid = back.paid in omega (arith, paid);
      }))
  ends_then r q (left_by x) =
      let t = x.transfer in
      let valid = at_end t.exit_number (end_record current link y) t.target t.valid_target in
      let stop : end_record current link y ∷ [] ≡ t.to ∷ t.outer =
      sym (ap (λ b. if b || false then end_record current link y ∷ [] else []) (eq-eqb (laid_at y.arena) t.target.address (ap (λ (s : Standing). s.address) valid.1))) ∙ t.stop in
      let to : end_record current link y ≡ t.to = cc stop in
      let blocks : record_of record_words ∷ y.arena.blocks ≡ q.state.arena.blocks =
      cc (sym found_end ∙ ap (λ (s : Standing). blocks_from (length y2.arena.memory) y2.arena.blocks s.address) to ∙ t.blocks) in
      left_by (record {
        result = t.result;
        landing = t.landing;
        outcome = subst (λ e. r.outcome ≡ exit e t.result t.landing) (sym valid.0) t.outcome;
        there = q.state;
        w' = t.w';
        things = t.world.things;
        blocks = sym blocks;
        word = t.word;
        of_value = t.of_value;
        landing_word = t.landing_word;
        landing_is = t.landing_is;
        paid = let paid = t.paid in omega (arith, paid);
        ends = λ class number low below e f.
            lands t.word t.landing_word class number (sym blocks) t.end (sym (ap (λ (s : Standing). s.outside) to)) low below e f t.landing_stands (x.registers.count);
      })
    where
      lands :
          (word site class number : ℕ) {outside_there : ℕ} → q.state.arena.blocks ≡ record_of record_words ∷ y.arena.blocks → q.end ≡ cuts outside_there word → outside_there ≡ length y.arena.blocks
          → word + 2 < 2 ^ 32 → class + 2 < 2 ^ 32 → HasWordAt q.state (word + 2) class → HasWordAt q.state (class + 2) number → HasWordAt q.state landing_address site
          → length q.registers ≡ length regs2
          → (regs : Registers) × (whole setting k turns form y q ≡ ends (unhandled (computed which.ShiftRight number 2) site word) regs (mid_charged 60 (end_closed y.arena.blocks q.state)))
      lands word site class number {outside_there} blocks end same low below e f g count =
          let win = eight q.registers (omega (arith, count)) in
          let yc : MidState = with_arena (with_blocks (record (record_of record_words) { kind = closed_record } ∷ y.arena.blocks) q.state.arena) q.state in
          let run =
          landed_runs (c setting k turns form y) win.tail win.r0 win.r1 win.r2 win.r3 win.r4 win.r6 win.r7 word class number site yc low below
          (closed_word q.state.arena y.arena.blocks (word + 2) blocks ∙ e) (closed_word q.state.arena y.arena.blocks (class + 2) blocks ∙ f)
          (closed_word q.state.arena y.arena.blocks landing_address blocks ∙ g) in (
            win.r0 ∷ win.r1 ∷ win.r2 ∷ win.r3 ∷ win.r4 ∷ Some word ∷ Some (computed which.ShiftRight number 2) ∷ Some site ∷ win.tail,
            whole_lands setting k turns form y q outside_there word end same
                ∙ closes (record_of record_words) y.arena.blocks
                (λ rs x. mid_go_on (exec (c setting k turns form y) (code_of end_landed) (slice_set rs 5 (Some word)) x) (give_back (outside setting k turns form y))) q.registers q.state blocks refl
                ∙ ap (λ rs. mid_go_on (exec (c setting k turns form y) (code_of end_landed) (slice_set rs 5 (Some word)) yc) (give_back (outside setting k turns form y))) win.parts
                ∙ go_on_last (unhandled (computed which.ShiftRight number 2) site word) _ (give_back (outside setting k turns form y)) (ap (λ (p : MidOutcome). p.end) run.same) tt
                ∙ run.same,
          )
  ends_then r q (full_there x) =
      let later = whole_grown setting k turns form y q in
      full_there (record {
        asked = x.asked;
        left_then = x.left_then;
        outcome = x.outcome;
        printed = both_prefix x.printed (record { rest = later.printed.0; is = sym later.printed.1 });
      })
  ends_then r q (stopped x) =
      subst
      (λ p. Ends setting (form_credit + 142 + unit_cost) (MainValue setting current link w z y r p) (MainLeft setting z y r p) turns (charged 1 z) y r p)
      (sym (ap (λ p. landed (outside setting k turns form y) (catch setting k turns form y) (mid_go_on p (rest setting k turns form y)))
      (go_on_last q.end q (ret setting k turns form y) refl (stopped_last setting r q.end x.because))
      ∙ stop_passes (outside setting k turns form y) (rest setting k turns form y) (catch setting k turns form y) setting r q q.end refl x.because))
      (stopped (record { because = x.because; printed = x.printed; paid = λ ended. omega (arith, x.paid ended) }))
  ends_then r q (few_turns x) = few_turns (omega (arith, x, size))

pub main_ends_law : LawOfMainEnds
main_ends_law setting k turns current link n first f w z y tail r0 r1 r2 r3 r4 r5 r6 r7 r8 placed b room none form_stands many few does =
    let begin = beginnings_law setting current link n w z y tail r1 r2 r3 r4 r5 r6 r7 r8 placed b in
    let form : Steps = (lower setting.names setting.at setting.program (main_scope setting.names setting.at setting.program) 8 f).value in
    let context : Context = code_at setting k turns in
    let y2 : MidState = end_there current link y in
    let regs2 : Registers = Some (laid_at y.arena) ∷ Some current ∷ Some link ∷ Some 0 ∷ Some 0 ∷ r5 ∷ Some 0 ∷ Some 0 ∷ r8 ∷ tail in
    let inside : RunsTo context (code_of (end_laid ++ (form ++ (return_word 8 ∷ [])))) (Some (laid_at y.arena) ∷ r1 ∷ r2 ∷ r3 ∷ r4 ∷ r5 ∷ r6 ∷ r7 ∷ r8 ∷ tail) (block_laid y)
    (mid_go_on (exec context (code_of form) regs2 y2) (ret setting k turns form y)) =
    parts_then end_laid (form ++ (return_word 8 ∷ [])) (record { same = begin.runs context }) (record { same = in_two_parts context form (return_word 8 ∷ []) regs2 y2 }) in
    let stands_size = laid_size b.things.represents.arena b.room in
    subst
    (λ p. Ends setting (form_credit + 142 + unit_cost) (MainValue setting current link w z y (mean (context_at setting k) f no_environment main_context z) p) (MainLeft setting z y (mean (context_at setting k) f no_environment main_context z) p) turns (charged 1 z) y
    (mean (context_at setting k) f no_environment main_context z) p)
    (sym (record_runs context 0 record_words 5 (code_of (end_laid ++ (form ++ (return_word 8 ∷ [])))) (code_of end_landed) (r0 ∷ r1 ∷ r2 ∷ r3 ∷ r4 ∷ r5 ∷ r6 ∷ r7 ∷ r8 ∷ tail) y b.room
    ∙ ap (λ p. landed (length y.arena.blocks) (catch setting k turns form y) (mid_go_on p (rest setting k turns form y))) inside.same))
    (ends_then setting k turns current link n w z y tail r1 r2 r3 r4 r5 r6 r7 r8 form
    (stored_size (end_stores (laid_at y.arena) current link) (arena_laid y.arena) ∙ stands_size)
    (found setting placed b)
    (stored_blocks (end_stores (laid_at y.arena) current link) (arena_laid y.arena))
    begin.w' begin.later (mean (context_at setting k) f no_environment main_context z) (exec context (code_of form) regs2 y2)
    (does (end_record current link y ∷ []) (end_record current link y ∷ []) (main_form_scope setting) 8 n first begin.w' no_environment main_context z regs2 y2 form_stands (begin.begins room none) many few))
