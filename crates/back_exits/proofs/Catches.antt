-- **A catch**, in all five cases.
use Rattle.std.proofs.Common.{◌≡◌, ℕ, ◌+◌, ◌≤◌, Bool, true, false, [], ◌∷◌, ◌++◌, length, Some, refl, sym, ap, ◌∙◌, subst, arith}
use Rattle.std.specs.Prelude.{◌^◌, ◌-◌, ◌==◌, drop, nat_le, slice_set}
use Rattle.std.proofs.lemmas.Bool.{leb-true, leb-false, eq-eqb}
use Rattle.lang_meaning.specs.State.{DynamicContext, catch_exit}
use Rattle.lang_meaning.specs.Values.{Value}
use Rattle.flat_language.specs.FlatForm.{FlatForm}
use Rattle.flat_language.specs.FlatMeaning.{mean}
use Rattle.flat_language.specs.FlatSignals.{inside}
use Rattle.flat_language.specs.FlatState.{FlatEnvironment, FlatState, FlatEvaluated, charged, exit_made, caught, go_on}
use Rattle.mid_code.specs.Arena.{left}
use Rattle.mid_code.specs.Costs.{record_cost}
use Rattle.mid_code.specs.Meaning.{run_landing, give_back, exec, exec_step}
use Rattle.mid_code.specs.MidCode.{MidStep, with_block, code_of}
use Rattle.mid_code.specs.State.{Registers, register, exhausted, ends, MidState, MidOutcome, jumped, landed}
use Rattle.mid_code.specs.State.{go_on as mid_go_on}
use Rattle.mid_arena.specs.Places.{word_of}
use Rattle.mid_arena.proofs.Running.{in_two_parts, go_on_twice}
use Rattle.back_lowering.specs.Codes.{lower}
use Rattle.back_lowering.specs.ControlWords.{record_words, catch_kind, record_tag}
use Rattle.back_lowering.specs.Records.{exit_laid, catch_code}
use Rattle.back_lowering.specs.Registers.{of_code, enough_for}
use Rattle.back_lowering.specs.Steps.{Steps, store}
use Rattle.back_relation.specs.Setting.{Setting}
use Rattle.back_relation.specs.Placed.{IsPlaced}
use Rattle.back_relation.specs.Room.{words_for}
use Rattle.back_relation.specs.Worlds.{for_exit}
use Rattle.back_relation.specs.Activation.{FormScope}
use Rattle.back_relation.specs.Forms.{Begins, context_at, code_at}
use Rattle.back_relation.specs.Points.{Point, start_at, value_steps, Here}
use Rattle.back_relation.specs.Starts.{FlatGrown, Start, FellFrom, EndsAt, SparingAt}
use Rattle.back_relation.proofs.Fitting.{registers_front, registers_behind}
use Rattle.back_relation.proofs.FormGrowth.{form_grows}
use Rattle.back_relation.proofs.Growth.{same_flat, both_flat, same_prefix}
use Rattle.back_relation.proofs.Parts.{single_step}
use Rattle.back_relation.proofs.Points.{code_grows}
use Rattle.back_relation.proofs.Starts.{start_charged, ends_sparing, ends_spared, scope_later}
use Rattle.back_exits.specs.Blocks.{LawOfCatches, LawOfWholeCatches}
use Rattle.back_exits.specs.Inside.{around_with, address_inside, record_inside, LaidAt, IsInnermost}
use Rattle.back_exits.proofs.BlockRecords.{no_words, no_serial}
use Rattle.back_exits.proofs.Blocks.{gives_there}
use Rattle.back_exits.proofs.CatchRecords.{drawn, block_laid, laid_registers, lays, lays_none, ended_registers, ended_state, the_exit, world_of_catch, flat_of_catch, state_of_catch, catch_stands, catch_first}
use Rattle.back_exits.proofs.Charging.{next_start, whole_then, value_then}
use Rattle.back_exits.proofs.Exits.{exit_ends, landed_grows}
use Rattle.back_exits.proofs.Inside.{around_exit, begins_inside}
use Rattle.back_exits.proofs.Landing.{behind_body, landing_steps, after, rest, catch, rest_grows, catch_grows, falls_out, lands_then}
use Rattle.back_exits.proofs.OwnExits.{same_exits}
use Rattle.back_exits.proofs.Steps.{record_runs, record_wanting, Window, window_of}
use Rattle.back_relation.proofs.Points.{does_here}
use Rattle.back_exits.proofs.Whole.{inside_registers, second_register}

-- what a body inside a catch of a tag comes to
abbrev pub caught_by : (setting : Setting) (k : ℕ) (body : FlatForm) → FlatEnvironment → DynamicContext → Value → FlatState → FlatEvaluated
caught_by setting k body env around v z = caught z.state.exits (mean (context_at setting k) body env (inside (catch_exit v) around z) (exit_made z))

made_grows : (z : FlatState) → FlatGrown z (exit_made z)
made_grows z = record { printed = same_prefix z.state.printed; units = omega arith; exits = omega arith }

body_grows : (setting : Setting) (k : ℕ) (body : FlatForm) (env : FlatEnvironment) (around : DynamicContext) (v : Value) (z : FlatState)
    → FlatGrown (exit_made z) (caught_by setting k body env around v z).state
body_grows setting k body env around v z =
    both_flat (form_grows setting k body env (inside (catch_exit v) around z) (exit_made z))
    (landed_grows setting z.state.exits gives_there (λ u l y. same_flat y) (mean (context_at setting k) body env (inside (catch_exit v) around z) (exit_made z)))

caught_grows : (setting : Setting) (k : ℕ) (body : FlatForm) (env : FlatEnvironment) (around : DynamicContext) (v : Value) (z : FlatState) → FlatGrown z (caught_by setting k body env around v z).state
caught_grows setting k body env around v z = both_flat (made_grows z) (body_grows setting k body env around v z)

-- ---- from where the tag is there

module _ (setting : Setting) (placed : IsPlaced setting) (m size k : ℕ) (body : FlatForm) (a : Start setting) (wide : a.d + 8 ≤ length a.regs) (size_is : length a.regs ≡ size) (enough : 8 + m ≤ a.n)
    (body_here : Here setting a.s (a.d + 6) m size k a.turns body) (v : Value) (word : ℕ) (in_register : register a.d a.regs ≡ Some word) (of_value : word_of a.w.places v ≡ Some word) where
  abbrev body_steps : Steps
  body_steps = value_steps setting a.s (a.d + 6) m size k a.turns body

  abbrev laying : Steps
  laying = store a.d (a.d + 1) record_tag ∷ exit_laid a.d (a.d + 1) (a.d + 6) catch_kind

  abbrev inside_steps : Steps
  inside_steps = laying ++ (body_steps ++ behind_body a.d)

  abbrev step : MidStep
  step = with_block (a.d + 1) record_words a.d (code_of inside_steps) (code_of (landing_steps a.d))

  abbrev result : FlatEvaluated
  result = caught_by setting k body a.env a.around v a.z

  grown : FlatGrown a.z result.state
  grown = caught_grows setting k body a.env a.around v a.z

  module _ (room : 8 ≤ left a.y.arena) where
    abbrev win : Window a.regs a.d
    win = window_of a.regs a.d wide

    abbrev laid_then : MidState
    laid_then = block_laid setting placed k a.turns a room win v word in_register of_value

    abbrev at : ℕ
    at = address_inside setting a

    abbrev set : Registers
    set = slice_set a.regs (a.d + 1) (Some at)

    -- the step, where its words are left
    step_is :
        exec_step (code_at setting k a.turns) step a.regs a.y
        ≡ landed (length a.y.arena.blocks) (λ v rs y. run_landing (length a.y.arena.blocks) a.d (λ rs' x. exec (code_at setting k a.turns) (code_of (landing_steps a.d)) rs' x) v rs y)
        (mid_go_on (exec (code_at setting k a.turns) (code_of inside_steps) set laid_then) (λ rs y. jumped (give_back (length a.y.arena.blocks) rs y)))
    step_is = record_runs (code_at setting k a.turns) (a.d + 1) record_words a.d (code_of inside_steps) (code_of (landing_steps a.d)) a.regs a.y room

    abbrev number : ℕ
    number = drawn setting placed k a.turns a room win v word in_register of_value

    ended : (number == 2 ^ 32 - 1) ≡ true
        → exec_step (code_at setting k a.turns) step a.regs a.y ≡ ends exhausted (ended_registers setting placed k a.turns a room win v word in_register of_value) (ended_state setting placed k a.turns a room win v word in_register of_value)
    unfolding mid_go_on landed
    ended last =
        step_is
        ∙ ap (λ q. landed (length a.y.arena.blocks) (λ v rs y. run_landing (length a.y.arena.blocks) a.d (λ rs' x. exec (code_at setting k a.turns) (code_of (landing_steps a.d)) rs' x) v rs y)
        (mid_go_on q (λ rs y. jumped (give_back (length a.y.arena.blocks) rs y))))
        (in_two_parts (code_at setting k a.turns) laying (body_steps ++ behind_body a.d) set laid_then
        ∙ ap (λ q. mid_go_on q (λ rs y. exec (code_at setting k a.turns) (code_of (body_steps ++ behind_body a.d)) rs y)) (lays_none setting placed k a.turns a room win v word in_register of_value last))

    -- ---- the record was laid

    module _ (fewer : (number == 2 ^ 32 - 1) ≡ false) where
      abbrev laid : LaidAt setting a 0 162 (for_exit (the_exit setting placed k a.turns a room win v word in_register of_value fewer)) at (world_of_catch setting placed k a.turns a room win v word in_register of_value fewer)
          (flat_of_catch setting placed k a.turns a room win v word in_register of_value fewer) (laid_registers setting placed k a.turns a room win v word in_register of_value)
          (state_of_catch setting placed k a.turns a room win v word in_register of_value fewer)
      laid = catch_stands setting placed k a.turns a room win v word in_register of_value fewer

      abbrev first : IsInnermost setting a (the_exit setting placed k a.turns a room win v word in_register of_value fewer) (world_of_catch setting placed k a.turns a room win v word in_register of_value fewer) (flat_of_catch setting placed k a.turns a room win v word in_register of_value fewer)
      first = catch_first setting placed k a.turns a room win v word in_register of_value fewer

      abbrev begins : Begins setting (record_inside setting a (for_exit (the_exit setting placed k a.turns a room win v word in_register of_value fewer)) ∷ a.rs)
          (record_inside setting a (for_exit (the_exit setting placed k a.turns a room win v word in_register of_value fewer)) ∷ a.valid) a.s (a.d + 6) m
          (world_of_catch setting placed k a.turns a room win v word in_register of_value fewer) a.env
          (around_with (the_exit setting placed k a.turns a room win v word in_register of_value fewer ∷ a.around.exits) a.around) (flat_of_catch setting placed k a.turns a room win v word in_register of_value fewer)
          (laid_registers setting placed k a.turns a room win v word in_register of_value) (state_of_catch setting placed k a.turns a room win v word in_register of_value fewer)
      begins =
          begins_inside setting a laid (around_exit setting a laid first) (same_exits setting a laid refl) 6 m
          (scope_later a.s.code a.d (a.d + 6) (omega arith) a.begins.scope) enough (omega (arith, wide))

      abbrev point : Point setting a.s (a.d + 6) m size
      point = record {
        rs = record_inside setting a (for_exit (the_exit setting placed k a.turns a room win v word in_register of_value fewer)) ∷ a.rs;
        valid = record_inside setting a (for_exit (the_exit setting placed k a.turns a room win v word in_register of_value fewer)) ∷ a.valid;
        w = world_of_catch setting placed k a.turns a room win v word in_register of_value fewer;
        env = a.env;
        around = around_with (the_exit setting placed k a.turns a room win v word in_register of_value fewer ∷ a.around.exits) a.around;
        z = flat_of_catch setting placed k a.turns a room win v word in_register of_value fewer;
        regs = laid_registers setting placed k a.turns a room win v word in_register of_value;
        y = state_of_catch setting placed k a.turns a room win v word in_register of_value fewer;
        begins = begins;
        count = laid.count ∙ size_is;
      }

      abbrev came : FlatEvaluated
      came = mean (context_at setting k) body point.env point.around point.z

      abbrev ran : MidOutcome
      ran = exec (code_at setting k a.turns) (code_of body_steps) point.regs point.y

      runs_so : exec_step (code_at setting k a.turns) step a.regs a.y ≡ landed (length a.y.arena.blocks) (catch setting placed k a.turns a laid first m begins wide) (mid_go_on ran (rest setting placed k a.turns a laid first m begins wide))
      unfolding mid_go_on
      runs_so =
          step_is
          ∙ ap (λ q. landed (length a.y.arena.blocks) (catch setting placed k a.turns a laid first m begins wide) (mid_go_on q (after setting placed k a.turns a laid first m begins wide)))
          (in_two_parts (code_at setting k a.turns) laying (body_steps ++ behind_body a.d) set laid_then
          ∙ ap (λ q. mid_go_on q (λ rs y. exec (code_at setting k a.turns) (code_of (body_steps ++ behind_body a.d)) rs y)) (lays setting placed k a.turns a room win v word in_register of_value fewer)
          ∙ in_two_parts (code_at setting k a.turns) body_steps (behind_body a.d) point.regs point.y)
          ∙ ap (landed (length a.y.arena.blocks) (catch setting placed k a.turns a laid first m begins wide))
          (go_on_twice ran (λ rs y. exec (code_at setting k a.turns) (code_of (behind_body a.d)) rs y) (after setting placed k a.turns a laid first m begins wide))

      ends_so : EndsAt setting 600 a result (landed (length a.y.arena.blocks) (catch setting placed k a.turns a laid first m begins wide) (mid_go_on ran (rest setting placed k a.turns a laid first m begins wide)))
      ends_so =
          exit_ends setting a laid first 6 m begins 0 600 (omega arith) (rest setting placed k a.turns a laid first m begins wide) (catch setting placed k a.turns a laid first m begins wide)
          (rest_grows setting placed k a.turns a laid first m begins wide) (catch_grows setting placed k a.turns a laid first m begins wide) gives_there (λ v l z. same_flat z)
          (λ r q. FellFrom setting 600 a a.d r q) came ran (λ f. falls_out setting placed k a.turns a laid first m begins wide 0 600 (omega arith) came ran f)
          (λ t to same. lands_then setting placed k a.turns a laid first m begins wide 0 600 (omega arith) came ran t to (eq-eqb a.z.state.exits t.transfer.exit_number (sym same)))
          (ends_spared setting (start_at setting a.s (a.d + 6) m size a.turns point) (body_here point))

    with_words : (b : Bool) → (number == 2 ^ 32 - 1) ≡ b → EndsAt setting 600 a result (exec_step (code_at setting k a.turns) step a.regs a.y)
    with_words true last =
        let more = body_grows setting k body a.env a.around v a.z in
        subst (λ q. EndsAt setting 600 a result q) (sym (ended last))
        (no_serial setting a result (ended_registers setting placed k a.turns a room win v word in_register of_value) (ended_state setting placed k a.turns a room win v word in_register of_value) refl (omega arith) grown more.exits last)
    with_words false fewer = subst (λ q. EndsAt setting 600 a result q) (sym (runs_so fewer)) (ends_so fewer)

  pub catch_step : EndsAt setting 600 a result (exec_step (code_at setting k a.turns) step a.regs a.y)
  catch_step = by (nat_le 8 (left a.y.arena)) refl
    where
      by : (b : Bool) → nat_le 8 (left a.y.arena) ≡ b → EndsAt setting 600 a result (exec_step (code_at setting k a.turns) step a.regs a.y)
      by true same = let room = leb-true 8 (left a.y.arena) same in with_words room (number room == 2 ^ 32 - 1) refl
      by false same =
          let few = leb-false 8 (left a.y.arena) same in
          subst (λ q. EndsAt setting 600 a result q) (sym (record_wanting (code_at setting k a.turns) (a.d + 1) record_words a.d (code_of inside_steps) (code_of (landing_steps a.d)) a.regs a.y few))
          (no_words setting a record_cost (omega arith) result grown (omega (arith, enough)) few)

  -- the code of the catch behind its tag
  pub catch_sim : EndsAt setting 600 a result (exec (code_at setting k a.turns) (code_of (catch_code a.d body_steps)) a.regs a.y)
  catch_sim = subst (λ q. EndsAt setting 600 a result q) (sym (single_step (code_at setting k a.turns) step a.regs a.y)) catch_step

-- ---- the form

module _ (setting : Setting) (placed : IsPlaced setting) (s : FormScope) (d m n size k turns : ℕ) (tag body : FlatForm) (there : d + 8 ≤ size) (enough : 8 + m ≤ n)
    (tag_here : Here setting s d n size k turns tag) (body_here : Here setting s (d + 6) m size k turns body) (p : Point setting s d n size) where
  abbrev a0 : Start setting
  a0 = start_at setting s d n size turns p

  abbrev a1 : Start setting
  a1 = start_charged setting a0 2

  abbrev charged_point : Point setting s d n size
  charged_point = record {
    rs = p.rs;
    valid = p.valid;
    w = p.w;
    env = p.env;
    around = p.around;
    z = charged 2 p.z;
    regs = p.regs;
    y = p.y;
    begins = a1.begins;
    count = p.count;
  }

  abbrev tag_steps : Steps
  tag_steps = value_steps setting s d n size k turns tag

  abbrev catching : Steps
  catching = catch_code d (value_steps setting s (d + 6) m size k turns body)

  abbrev r : FlatEvaluated
  r = mean (context_at setting k) tag p.env p.around (charged 2 p.z)

  abbrev q : MidOutcome
  q = exec (code_at setting k turns) (code_of tag_steps) p.regs p.y

  pub form_sim : SparingAt setting a0 (go_on r (λ v z. caught_by setting k body p.env p.around v z)) (exec (code_at setting k turns) (code_of (tag_steps ++ catching)) p.regs p.y)
  form_sim =
      subst (λ o. SparingAt setting a0 (go_on r (λ v z. caught_by setting k body p.env p.around v z)) o)
      (sym (in_two_parts (code_at setting k turns) tag_steps catching p.regs p.y))
      (ends_sparing setting {c1 = 600} a0 2 (omega arith) (omega arith)
      (value_then setting (λ o t. FellFrom setting 600 a1 d o t) 0 600 a1 d r q (λ v z. caught_by setting k body p.env p.around v z)
      (λ regs y. exec (code_at setting k turns) (code_of catching) regs y) (omega arith) (omega arith)
      (λ v z. caught_grows setting k body p.env p.around v z) (λ regs y. code_grows setting s d n size k turns catching regs y)
      (ends_spared setting a1 (tag_here charged_point))
      (λ g.
      let count = g.reached.kept.registers.count in
      let same = p.count in
      whole_then setting 600 600 a1 d d n (omega arith) (omega arith) (omega arith) p.begins.first g.reached (omega arith) (form_grows setting k tag p.env p.around (charged 2 p.z)).units
      (catch_sim setting placed m size k body (next_start setting 600 600 a1 d d n (omega arith) (omega arith) (omega arith) p.begins.first g.reached (omega arith))
      (omega (arith, count, same, there)) (count ∙ p.count) enough body_here g.result g.word g.in_register g.of_value))))

pub catches_law : LawOfCatches
unfolding mean lower
catches_law setting s d m n size k turns tag body placed there enough tag_here body_here p =
    form_sim setting placed s d m n size k turns tag body there enough tag_here body_here p

pub whole_catches_law : LawOfWholeCatches
unfolding lower
whole_catches_law setting k turns tag body placed tag_does body_does rs valid s d n first w env around z regs y stands begins registers words =
    let size : ℕ = length regs in
    let laying : Steps = store d (d + 1) record_tag ∷ exit_laid d (d + 1) (d + 6) catch_kind in
    let tag_code : Steps = (lower setting.names setting.at setting.program s.code d tag).value in
    let steps : Steps = (lower setting.names setting.at setting.program s.code (d + 6) body).value in
    let tag_fits : enough_for (of_code (code_of tag_code)) ≤ size = registers_front tag_code (catch_code d steps) size registers in
    let block_fits : enough_for (of_code (code_of (catch_code d steps))) ≤ size = registers_behind tag_code (catch_code d steps) size registers in
    let inside : enough_for (of_code (code_of (laying ++ (steps ++ behind_body d)))) ≤ size =
    inside_registers (d + 1) d (of_code (code_of (laying ++ (steps ++ behind_body d)))) (of_code (code_of (landing_steps d))) size block_fits in
    let front : enough_for (of_code (code_of (exit_laid d (d + 1) (d + 6) catch_kind))) ≤ size =
    registers_behind (store d (d + 1) record_tag ∷ []) (exit_laid d (d + 1) (d + 6) catch_kind) size (registers_front laying (steps ++ behind_body d) size inside) in
    let wide : d + 6 + 1 + 1 ≤ size = second_register (d + 6) (d + 6 + 1) (of_code (code_of (drop 2 (exit_laid d (d + 1) (d + 6) catch_kind)))) size front in
    let own : enough_for (of_code (code_of steps)) ≤ size = registers_front steps (behind_body d) size (registers_behind laying (steps ++ behind_body d) size inside) in
    catches_law setting s d (words_for setting.names setting.program body) n size k turns tag body placed (omega (arith, wide)) (omega (arith, words))
    (does_here setting s d n size k turns tag first tag_does (record { stands = stands.stands.0; fits = stands.fits.0; leads = stands.leads.0; placed = stands.placed.0; forms_known = stands.forms_known }) tag_fits (omega (arith, words)))
    (does_here setting s (d + 6) (words_for setting.names setting.program body) size k turns body first body_does
    (record { stands = stands.stands.1; fits = stands.fits.1; leads = stands.leads.1; placed = stands.placed.1; forms_known = stands.forms_known }) own (omega arith))
    (record { rs = rs; valid = valid; w = w; env = env; around = around; z = z; regs = regs; y = y; begins = begins; count = refl })
