-- **A block**, in all five cases.
use Rattle.std.proofs.Common.{◌≡◌, ℕ, ◌+◌, ◌≤◌, Bool, true, false, [], ◌∷◌, ◌++◌, length, Some, refl, sym, ap, ◌∙◌, subst, arith}
use Rattle.std.specs.Prelude.{◌^◌, ◌-◌, ◌==◌, nat_le, slice_get, slice_set}
use Rattle.std.proofs.lemmas.Bool.{leb-true, leb-false, eq-eqb}
use Rattle.base.specs.Names.{slice_get-behind}
use Rattle.lang_meaning.specs.declared.scope.ExitForm.TheVariants.{Block}
use Rattle.lang_meaning.specs.State.{block_exit, Landing}
use Rattle.lang_meaning.specs.Values.{Value}
use Rattle.flat_language.specs.FlatForm.{FlatForm, block}
use Rattle.flat_language.specs.FlatMeaning.{mean}
use Rattle.flat_language.specs.FlatMeaning.{with_exit as flat_with_exit}
use Rattle.flat_language.specs.FlatSignals.{inside}
use Rattle.flat_language.specs.FlatState.{FlatState, FlatEvaluated, gives, exit_made}
use Rattle.flat_language.specs.FlatState.{landed as flat_landed}
use Rattle.mid_code.specs.Arena.{left}
use Rattle.mid_code.specs.Costs.{record_cost}
use Rattle.mid_code.specs.Meaning.{run_landing, give_back, exec, exec_step}
use Rattle.mid_code.specs.MidCode.{MidStep, with_block, code_of}
use Rattle.mid_code.specs.State.{Registers, register, exhausted, ends, MidState, MidOutcome, jumped, landed}
use Rattle.mid_code.specs.State.{go_on as mid_go_on}
use Rattle.mid_arena.proofs.Running.{in_two_parts, go_on_twice}
use Rattle.back_lowering.specs.Codes.{lower}
use Rattle.back_lowering.specs.ControlWords.{record_words, exit_kind}
use Rattle.back_lowering.specs.Records.{exit_laid}
use Rattle.back_lowering.specs.Steps.{Steps}
use Rattle.back_exits.specs.Known.{FormsKnown}
use Rattle.back_relation.specs.Setting.{Setting}
use Rattle.back_relation.specs.Placed.{IsPlaced}
use Rattle.back_relation.specs.Worlds.{for_exit}
use Rattle.back_relation.specs.Activation.{FormScope, with_exit}
use Rattle.back_relation.specs.Forms.{Begins, context_at, code_at}
use Rattle.back_relation.specs.Points.{Point, start_at, value_steps, Here}
use Rattle.back_relation.specs.Starts.{FlatGrown, Start, FellFrom, EndsAt, SparingAt}
use Rattle.back_relation.proofs.FormGrowth.{form_grows}
use Rattle.back_relation.proofs.Growth.{same_flat, both_flat, same_prefix}
use Rattle.back_relation.proofs.Parts.{single_step}
use Rattle.back_relation.proofs.Starts.{start_charged, ends_sparing, ends_spared}
use Rattle.back_relation.proofs.Windows.{here}
use Rattle.back_exits.specs.Blocks.{LawOfBlocks}
use Rattle.back_exits.specs.Inside.{environment_with, around_with, address_inside, record_inside, LaidAt, IsInnermost}
use Rattle.back_exits.proofs.BlockRecords.{no_words, no_serial, drawn, block_laid, laid_registers, lays, lays_none, ended_registers, ended_state, the_exit, world_of_block, flat_of_block, state_of_block, block_stands, block_first}
use Rattle.back_exits.proofs.Exits.{exit_ends, landed_grows}
use Rattle.back_exits.proofs.Inside.{around_exit, begins_inside}
use Rattle.back_exits.proofs.Landing.{behind_body, landing_steps, after, rest, catch, rest_grows, catch_grows, falls_out, lands_then}
use Rattle.back_exits.proofs.OwnExits.{older, more_exits, scope_with_exit}
use Rattle.back_exits.proofs.Steps.{record_runs, record_wanting, Window, window_of}

-- a transfer to a block gives its value
abbrev pub gives_there : Value → Landing → FlatState → FlatEvaluated
gives_there v landing z = gives v z

module _ (setting : Setting) (placed : IsPlaced setting) (s : FormScope) (d m n size k turns : ℕ) (body : FlatForm) (known : FormsKnown s) (there : d + 8 ≤ size) (enough : 8 + m ≤ n)
    (body_here : Here setting (with_exit Block d (d + 1) s) (d + 6) m size k turns body) (p : Point setting s d n size) where
  abbrev a0 : Start setting
  a0 = start_at setting s d n size turns p

  abbrev a : Start setting
  a = start_charged setting a0 2

  wide : d + 8 ≤ length p.regs
  wide = let same = p.count in omega (arith, there, same)

  abbrev body_steps : Steps
  body_steps = value_steps setting (with_exit Block d (d + 1) s) (d + 6) m size k turns body

  abbrev laying : Steps
  laying = exit_laid d (d + 1) (d + 6) exit_kind

  abbrev inside_steps : Steps
  inside_steps = laying ++ (body_steps ++ behind_body d)

  abbrev step : MidStep
  step = with_block (d + 1) record_words d (code_of inside_steps) (code_of (landing_steps d))

  -- what the body comes to, behind the units of the block
  abbrev within : FlatEvaluated
  within = mean (context_at setting k) body (flat_with_exit p.z p.env) (inside block_exit p.around p.z) (exit_made a.z)

  abbrev result : FlatEvaluated
  result = flat_landed p.z.state.exits gives_there within

  grown_behind : FlatGrown (exit_made a.z) result.state
  grown_behind =
      both_flat (form_grows setting k body (flat_with_exit p.z p.env) (inside block_exit p.around p.z) (exit_made a.z))
      (landed_grows setting p.z.state.exits gives_there (λ v l z. same_flat z) within)

  grown : FlatGrown a.z result.state
  grown = both_flat (record { printed = same_prefix a.z.state.printed; units = omega arith; exits = omega arith }) grown_behind

  one_more_exit : p.z.state.exits + 1 ≤ result.state.state.exits
  one_more_exit = let g = grown_behind in omega (arith, g.exits)

  module _ (room : 8 ≤ left p.y.arena) where
    abbrev win : Window p.regs d
    win = window_of p.regs d wide

    abbrev laid_then : MidState
    laid_then = block_laid setting placed k turns a room win

    abbrev at : ℕ
    at = address_inside setting a

    abbrev set : Registers
    set = slice_set p.regs (d + 1) (Some at)

    -- the step, where its words are left
    step_is :
        exec_step (code_at setting k turns) step p.regs p.y
        ≡ landed (length p.y.arena.blocks) (λ v rs y. run_landing (length p.y.arena.blocks) d (λ rs' x. exec (code_at setting k turns) (code_of (landing_steps d)) rs' x) v rs y)
        (mid_go_on (exec (code_at setting k turns) (code_of inside_steps) set laid_then) (λ rs y. jumped (give_back (length p.y.arena.blocks) rs y)))
    step_is = record_runs (code_at setting k turns) (d + 1) record_words d (code_of inside_steps) (code_of (landing_steps d)) p.regs p.y room

    -- ---- no serial number

    ended : (drawn setting placed k turns a room win == 2 ^ 32 - 1) ≡ true → exec_step (code_at setting k turns) step p.regs p.y ≡ ends exhausted (ended_registers setting placed k turns a room win) (ended_state setting placed k turns a room win)
    unfolding mid_go_on landed
    ended last =
        step_is
        ∙ ap (λ q. landed (length p.y.arena.blocks) (λ v rs y. run_landing (length p.y.arena.blocks) d (λ rs' x. exec (code_at setting k turns) (code_of (landing_steps d)) rs' x) v rs y)
        (mid_go_on q (λ rs y. jumped (give_back (length p.y.arena.blocks) rs y))))
        (in_two_parts (code_at setting k turns) laying (body_steps ++ behind_body d) set laid_then
        ∙ ap (λ q. mid_go_on q (λ rs y. exec (code_at setting k turns) (code_of (body_steps ++ behind_body d)) rs y)) (lays_none setting placed k turns a room win last))

    -- ---- the record was laid

    module _ (fewer : (drawn setting placed k turns a room win == 2 ^ 32 - 1) ≡ false) where
      abbrev laid : LaidAt setting a 0 154 (for_exit (the_exit setting placed k turns a room win fewer)) at (world_of_block setting placed k turns a room win fewer) (flat_of_block setting placed k turns a room win fewer)
          (laid_registers setting placed k turns a room win) (state_of_block setting placed k turns a room win fewer)
      laid = block_stands setting placed k turns a room win fewer

      abbrev first : IsInnermost setting a (the_exit setting placed k turns a room win fewer) (world_of_block setting placed k turns a room win fewer) (flat_of_block setting placed k turns a room win fewer)
      first = block_first setting placed k turns a room win fewer

      serial : register d (laid_registers setting placed k turns a room win) ≡ Some p.z.state.exits
      serial = here (code_at setting k turns) win.front d win.many _ d 0 (omega arith) ∙ ap Some a.begins.call.things.serials.2

      made_form : slice_get (world_of_block setting placed k turns a room win fewer).exit_forms p.z.state.exits ≡ Some (Some Block)
      made_form = ap (slice_get (p.w.exit_forms ++ Some Block ∷ [])) (sym a.begins.call.things.exit_forms) ∙ slice_get-behind p.w.exit_forms (Some Block)

      abbrev begins : Begins setting (record_inside setting a (for_exit (the_exit setting placed k turns a room win fewer)) ∷ p.rs) (record_inside setting a (for_exit (the_exit setting placed k turns a room win fewer)) ∷ p.valid)
          (with_exit Block d (d + 1) s) (d + 6) m (world_of_block setting placed k turns a room win fewer) (environment_with (p.env.exits ++ p.z.state.exits ∷ []) p.env)
          (around_with (the_exit setting placed k turns a room win fewer ∷ p.around.exits) p.around) (flat_of_block setting placed k turns a room win fewer)
          (laid_registers setting placed k turns a room win) (state_of_block setting placed k turns a room win fewer)
      begins =
          begins_inside setting a laid (around_exit setting a laid first) (more_exits setting a laid Block known (older setting a laid refl) serial made_form) 6 m
          (scope_with_exit a Block 6 (omega arith)) enough (omega (arith, wide))

      abbrev point : Point setting (with_exit Block d (d + 1) s) (d + 6) m size
      point = record {
        rs = record_inside setting a (for_exit (the_exit setting placed k turns a room win fewer)) ∷ p.rs;
        valid = record_inside setting a (for_exit (the_exit setting placed k turns a room win fewer)) ∷ p.valid;
        w = world_of_block setting placed k turns a room win fewer;
        env = environment_with (p.env.exits ++ p.z.state.exits ∷ []) p.env;
        around = around_with (the_exit setting placed k turns a room win fewer ∷ p.around.exits) p.around;
        z = flat_of_block setting placed k turns a room win fewer;
        regs = laid_registers setting placed k turns a room win;
        y = state_of_block setting placed k turns a room win fewer;
        begins = begins;
        count = laid.count ∙ p.count;
      }

      abbrev came : FlatEvaluated
      came = mean (context_at setting k) body point.env point.around point.z

      abbrev ran : MidOutcome
      ran = exec (code_at setting k turns) (code_of body_steps) point.regs point.y

      runs_so : exec_step (code_at setting k turns) step p.regs p.y ≡ landed (length p.y.arena.blocks) (catch setting placed k turns a laid first m begins wide) (mid_go_on ran (rest setting placed k turns a laid first m begins wide))
      unfolding mid_go_on
      runs_so =
          step_is
          ∙ ap (λ q. landed (length p.y.arena.blocks) (catch setting placed k turns a laid first m begins wide) (mid_go_on q (after setting placed k turns a laid first m begins wide)))
          (in_two_parts (code_at setting k turns) laying (body_steps ++ behind_body d) set laid_then
          ∙ ap (λ q. mid_go_on q (λ rs y. exec (code_at setting k turns) (code_of (body_steps ++ behind_body d)) rs y)) (lays setting placed k turns a room win fewer)
          ∙ in_two_parts (code_at setting k turns) body_steps (behind_body d) point.regs point.y)
          ∙ ap (landed (length p.y.arena.blocks) (catch setting placed k turns a laid first m begins wide))
          (go_on_twice ran (λ rs y. exec (code_at setting k turns) (code_of (behind_body d)) rs y) (after setting placed k turns a laid first m begins wide))

      ends_so : EndsAt setting 600 a result (landed (length p.y.arena.blocks) (catch setting placed k turns a laid first m begins wide) (mid_go_on ran (rest setting placed k turns a laid first m begins wide)))
      ends_so =
          exit_ends setting a laid first 6 m begins 0 600 (omega arith) (rest setting placed k turns a laid first m begins wide) (catch setting placed k turns a laid first m begins wide)
          (rest_grows setting placed k turns a laid first m begins wide) (catch_grows setting placed k turns a laid first m begins wide) gives_there (λ v l z. same_flat z)
          (λ r q. FellFrom setting 600 a a.d r q) came ran (λ f. falls_out setting placed k turns a laid first m begins wide 0 600 (omega arith) came ran f)
          (λ t to number. lands_then setting placed k turns a laid first m begins wide 0 600 (omega arith) came ran t to (eq-eqb p.z.state.exits t.transfer.exit_number (sym number)))
          (ends_spared setting (start_at setting (with_exit Block d (d + 1) s) (d + 6) m size turns point) (body_here point))

    with_words : (b : Bool) → (drawn setting placed k turns a room win == 2 ^ 32 - 1) ≡ b → EndsAt setting 600 a result (exec_step (code_at setting k turns) step p.regs p.y)
    with_words true last =
        subst (λ q. EndsAt setting 600 a result q) (sym (ended last))
        (no_serial setting a result (ended_registers setting placed k turns a room win) (ended_state setting placed k turns a room win) refl (omega arith) grown more last)
      where
        more : p.z.state.exits + 1 ≤ result.state.state.exits
        more = one_more_exit
    with_words false fewer = subst (λ q. EndsAt setting 600 a result q) (sym (runs_so fewer)) (ends_so fewer)

  pub block_sim : EndsAt setting 600 a result (exec_step (code_at setting k turns) step p.regs p.y)
  block_sim = by (nat_le 8 (left p.y.arena)) refl
    where
      by : (b : Bool) → nat_le 8 (left p.y.arena) ≡ b → EndsAt setting 600 a result (exec_step (code_at setting k turns) step p.regs p.y)
      by true same = let room = leb-true 8 (left p.y.arena) same in with_words room (drawn setting placed k turns a room (win room) == 2 ^ 32 - 1) refl
      by false same =
          let few = leb-false 8 (left p.y.arena) same in
          subst (λ q. EndsAt setting 600 a result q) (sym (record_wanting (code_at setting k turns) (d + 1) record_words d (code_of inside_steps) (code_of (landing_steps d)) p.regs p.y few))
          (no_words setting a record_cost (omega arith) result grown (omega (arith, enough)) few)

pub blocks_law : LawOfBlocks
unfolding mean lower
blocks_law setting s d m n size k turns body placed known there enough here p =
    subst (λ q. SparingAt setting (start_at setting s d n size turns p) (mean (context_at setting k) (block body) p.env p.around p.z) q)
    (sym (single_step (code_at setting k turns) (step setting placed s d m n size k turns body known there enough here p) p.regs p.y))
    (ends_sparing setting {c1 = 600} (start_at setting s d n size turns p) 2 (omega arith) (omega arith) (block_sim setting placed s d m n size k turns body known there enough here p))
