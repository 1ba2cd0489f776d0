-- **A form with a cleanup**, in all cases: the cleanup runs once, however the form is left.
use Rattle.std.proofs.Common.{◌≡◌, ℕ, ◌+◌, ◌<◌, ◌≤◌, Bool, true, false, [], ◌∷◌, ◌++◌, length, Some, refl, sym, ap, ◌∙◌, subst, arith}
use Rattle.std.specs.Prelude.{drop, nat_le, slice_get, slice_set}
use Rattle.std.proofs.lemmas.Bool.{leb-true, leb-false}
use Rattle.lang_meaning.specs.State.{exits_from}
use Rattle.flat_language.specs.FlatForm.{FlatForm}
use Rattle.flat_language.specs.FlatMeaning.{mean}
use Rattle.flat_language.specs.FlatState.{FlatState, FlatEvaluated, gives, leaves, go_on, cleaned}
use Rattle.mid_code.specs.Arena.{left, word_in}
use Rattle.mid_code.specs.Costs.{record_cost}
use Rattle.mid_code.specs.Law.{Grown}
use Rattle.mid_code.specs.Meaning.{Context, exec, exec_step}
use Rattle.mid_code.specs.MidCode.{MidStep, with_block, code_of}
use Rattle.mid_code.specs.State.{Registers, register, no_level, MidState, MidOutcome, Next, landed}
use Rattle.mid_code.specs.State.{go_on as mid_go_on}
use Rattle.mid_code.proofs.Growth.{go_on_grown, landed_grown, same_grown, exec_grown, levels_grow, turns_grow, after_inside_grown, run_landing_grown}
use Rattle.mid_arena.proofs.Running.{in_two_parts, go_on_twice}
use Rattle.back_lowering.specs.Codes.{lower}
use Rattle.back_lowering.specs.ControlWords.{record_words, cleanup_kind}
use Rattle.back_lowering.specs.Records.{record_laid}
use Rattle.back_lowering.specs.Registers.{of_code, enough_for}
use Rattle.back_lowering.specs.Scope.{behind_cleanup}
use Rattle.back_lowering.specs.Steps.{Steps}
use Rattle.back_relation.specs.Setting.{Setting}
use Rattle.back_relation.specs.Placed.{IsPlaced}
use Rattle.back_relation.specs.Room.{routine_words, words_for}
use Rattle.back_relation.specs.Worlds.{World, LandsIn, for_cleanup, Standing}
use Rattle.back_relation.specs.Around.{AroundStands}
use Rattle.back_relation.specs.Activation.{NoSlot, inside_cleanup, in_cleanup}
use Rattle.back_relation.specs.Ends.{AreFew, Transfers, Stopped, Ends, done, left_by, full_there, stopped, few_turns}
use Rattle.back_relation.specs.Forms.{Begins, context_at, code_at}
use Rattle.back_relation.specs.Points.{Point, start_at, value_steps, Here}
use Rattle.back_relation.specs.Starts.{FlatGrown, Start, FellFrom, ReachedFrom, LeftFrom, EndsAt}
use Rattle.back_relation.proofs.Fitting.{registers_front, registers_behind}
use Rattle.back_relation.proofs.FormGrowth.{form_grows}
use Rattle.back_relation.proofs.Growth.{same_flat, both_prefix, both_flat, then_value}
use Rattle.back_relation.proofs.Parts.{go_on_falls, go_on_last, step_then}
use Rattle.back_relation.proofs.Starts.{start_charged, ends_sparing, ends_spared, scope_later}
use Rattle.back_relation.proofs.Stops.{stopped_before}
use Rattle.back_relation.proofs.Then.{same_world, stopped_last}
use Rattle.back_relation.proofs.Worlds.{around_again, word_later}
use Rattle.back_exits.specs.Inside.{around_with, around_at, address_inside, record_inside, LaidAt}
use Rattle.back_exits.proofs.BlockRecords.{no_words, block_laid}
use Rattle.back_exits.proofs.Charging.{part_then}
use Rattle.back_exits.proofs.Exits.{cut_lands, stop_passes}
use Rattle.back_exits.proofs.Inside.{around_cleanup, begins_inside}
use Rattle.back_exits.proofs.Steps.{record_runs, record_wanting, Window, window_of}
use Rattle.back_relation.proofs.Points.{does_here}
use Rattle.back_exits.proofs.Whole.{inside_registers, second_register}
use Rattle.back_exits.specs.Cleanups.{TransferGoes, LawOfUnwinds, LawOfWholeUnwinds}
use Rattle.back_exits.proofs.Behind.{behind_form, landing_steps, inside, after, rest, catch, g3, y3, w3, fell_code, fell_reached, word_held, none_held, to_here, g4, y4, w4, catch_code, during_says, target_held, landing_held, value_held, landed_came}
use Rattle.back_exits.proofs.Cleaned.{cleans, within, cleaned_value, cleaned_exit, cleaned_other, cleaned_grows, because_cleaned, lands_later}
use Rattle.back_exits.proofs.CleanupRecords.{lays, laid_registers, state_of_cleanup, world_of_cleanup, cleanup_stands}
use Rattle.back_exits.proofs.Cutoffs.{found_number, LinksFrom, cutoff, around_during}
use Rattle.back_exits.proofs.Ending.{end_steps, value_ends, transfer_ends}
use Rattle.back_exits.proofs.Outside.{Came, came_of, around_of, came_same, cleanup_begins, cleanup_start, came_behind, left_outside, reached_behind}
use Rattle.back_exits.proofs.Scopes.{scope_mapped, exits_inside}

-- the same ends, with other words for what was done, for what a transfer leaves, and for few turns
ends_so :
    {D D' L L' : Type 0} {setting : Setting} {c c' turns : ℕ} {z z' : FlatState} {y y' : MidState} {r : FlatEvaluated} {q : MidOutcome} → (D → D') → (L → L') → (Stopped setting c z y r q → Stopped setting c' z' y' r q)
    → (AreFew turns z y r.state → AreFew turns z' y' r.state) → Ends setting c D L turns z y r q → Ends setting c' D' L' turns z' y' r q
ends_so f g s h (done x) = done (f x)
ends_so f g s h (left_by x) = left_by (g x)
ends_so f g s h (full_there x) = full_there x
ends_so f g s h (stopped x) = stopped (s x)
ends_so f g s h (few_turns x) = few_turns (h x)

module _ (setting : Setting) (placed : IsPlaced setting) (m size k : ℕ) (f cleanup : FlatForm) (a : Start setting) (wide : a.d + 8 ≤ length a.regs) (size_is : length a.regs ≡ size) (enough : 8 + m ≤ a.n)
    (enough_words : routine_words ≤ a.n) (goes : TransferGoes setting k a.turns) (f_here : Here setting (inside_cleanup a.s) (a.d + 6) m size k a.turns f)
    (cleanup_here : Here setting (in_cleanup a.s) (a.d + 3) a.n size k a.turns cleanup) where
  abbrev c : Context
  c = code_at setting k a.turns

  abbrev f_steps : Steps
  f_steps = value_steps setting (inside_cleanup a.s) (a.d + 6) m size k a.turns f

  abbrev cleanup_steps : Steps
  cleanup_steps = value_steps setting (in_cleanup a.s) (a.d + 3) a.n size k a.turns cleanup

  abbrev laying : Steps
  laying = record_laid (a.d + 1) (a.d + 6) cleanup_kind

  abbrev inside_steps : Steps
  inside_steps = laying ++ (f_steps ++ behind_form a.d)

  abbrev step : MidStep
  step = with_block (a.d + 1) record_words a.d (code_of inside_steps) (code_of (landing_steps a.d))

  abbrev behind_steps : Steps
  behind_steps = cleanup_steps ++ end_steps setting a.d

  abbrev after_step : Next
  after_step g y = exec c (code_of behind_steps) g y

  abbrev result : FlatEvaluated → FlatEvaluated
  result r = cleaned (cleans setting k cleanup a.env a.around) a.around r

  code_grown : (ss : Steps) (rs : Registers) (y : MidState) → Grown y (exec c (code_of ss) rs y).state
  code_grown ss rs y =
      exec_grown c (levels_grow setting.procedures setting.turns_each k) (turns_grow setting.procedures _ (levels_grow setting.procedures setting.turns_each k) a.turns) (code_of ss) rs y

  not_slot : (r : ℕ) → a.d ≤ r → NoSlot a.s.code r
  not_slot r high n e = let low = a.begins.scope.slots_below n r e in omega (arith, low, high)

  there : a.d + 3 < length a.regs
  there = omega (arith, wide)

  module _ (room : 8 ≤ left a.y.arena) where
    abbrev win : Window a.regs a.d
    win = window_of a.regs a.d wide

    abbrev laid : LaidAt setting a 0 104 for_cleanup (around_at setting a).link (world_of_cleanup setting placed k a.turns a room win) a.z (laid_registers setting placed k a.turns a room win)
        (state_of_cleanup setting placed k a.turns a room win)
    laid = cleanup_stands setting placed k a.turns a room win

    abbrev begins : Begins setting (record_inside setting a for_cleanup ∷ a.rs) a.valid (inside_cleanup a.s) (a.d + 6) m (world_of_cleanup setting placed k a.turns a room win) a.env a.around a.z
        (laid_registers setting placed k a.turns a room win) (state_of_cleanup setting placed k a.turns a room win)
    begins =
        begins_inside setting a laid {exits = a.around.exits} (around_cleanup setting a laid) (exits_inside setting a laid) 6 m
        (scope_mapped behind_cleanup a.s.code (a.d + 6) (scope_later a.s.code a.d (a.d + 6) (omega arith) a.begins.scope)) enough (omega (arith, wide))

    abbrev point : Point setting (inside_cleanup a.s) (a.d + 6) m size
    point = record {
      rs = record_inside setting a for_cleanup ∷ a.rs;
      valid = a.valid;
      w = world_of_cleanup setting placed k a.turns a room win;
      env = a.env;
      around = a.around;
      z = a.z;
      regs = laid_registers setting placed k a.turns a room win;
      y = state_of_cleanup setting placed k a.turns a room win;
      begins = begins;
      count = laid.count ∙ size_is;
    }

    abbrev came : FlatEvaluated
    came = mean (context_at setting k) f a.env a.around a.z

    abbrev ran : MidOutcome
    ran = exec c (code_of f_steps) point.regs point.y

    abbrev landing : ℕ → Next
    landing = catch setting placed k a.turns a laid m begins wide

    abbrev behind : Next
    behind = rest setting placed k a.turns a laid m begins wide

    up : a.z.state.units ≤ came.state.state.units
    up = (form_grows setting k f a.env a.around a.z).units

    step_is : exec_step c step a.regs a.y ≡ landed (length a.y.arena.blocks) landing (mid_go_on ran behind)
    unfolding mid_go_on
    step_is =
        record_runs c (a.d + 1) record_words a.d (code_of inside_steps) (code_of (landing_steps a.d)) a.regs a.y room
        ∙ ap (λ q. landed (length a.y.arena.blocks) landing (mid_go_on q (after setting placed k a.turns a laid m begins wide)))
        (in_two_parts c laying (f_steps ++ behind_form a.d) (slice_set a.regs (a.d + 1) (Some (address_inside setting a))) (block_laid setting placed k a.turns a room win)
        ∙ ap (λ q. mid_go_on q (λ rs y. exec c (code_of (f_steps ++ behind_form a.d)) rs y)) (lays setting placed k a.turns a room win)
        ∙ in_two_parts c f_steps (behind_form a.d) point.regs point.y)
        ∙ ap (landed (length a.y.arena.blocks) landing)
        (go_on_twice ran (λ rs y. exec c (code_of (behind_form a.d)) rs y) (after setting placed k a.turns a laid m begins wide))

    -- ---- the form fell out

    module _ (x : FellFrom setting 0 (inside setting placed k a.turns a laid m begins wide) (a.d + 6) came ran) where
      abbrev x3 : ReachedFrom setting 150 a a.d (w3 setting placed k a.turns a laid m begins wide came ran x) came.state (g3 setting placed k a.turns a laid m begins wide came ran x) (y3 setting placed k a.turns a laid m begins wide came ran x)
      x3 = fell_reached setting placed k a.turns a laid m begins wide came ran x

      abbrev came3 : Came setting a 150 (w3 setting placed k a.turns a laid m begins wide came ran x) came.state (g3 setting placed k a.turns a laid m begins wide came ran x) (y3 setting placed k a.turns a laid m begins wide came ran x)
      came3 = came_of setting a x3

      abbrev around3 : AroundStands setting (w3 setting placed k a.turns a laid m begins wide came ran x) a.rs a.valid a.around came.state (y3 setting placed k a.turns a laid m begins wide came ran x)
      around3 = around_of setting a x3

      abbrev o3 : Start setting
      o3 = cleanup_start setting a came3 {valid = a.valid} {exits = a.around.exits} around3 a.n (omega arith) there

      abbrev rc : FlatEvaluated
      rc = mean (context_at setting k) cleanup a.env a.around came.state

      abbrev qc : MidOutcome
      qc = exec c (code_of cleanup_steps) (g3 setting placed k a.turns a laid m begins wide came ran x) (y3 setting placed k a.turns a laid m begins wide came ran x)

      cleaned_here : EndsAt setting 0 o3 rc qc
      cleaned_here = ends_spared setting o3 (cleanup_here (record {
        rs = a.rs;
        valid = a.valid;
        w = w3 setting placed k a.turns a laid m begins wide came ran x;
        env = a.env;
        around = a.around;
        z = came.state;
        regs = g3 setting placed k a.turns a laid m begins wide came ran x;
        y = y3 setting placed k a.turns a laid m begins wide came ran x;
        begins = cleanup_begins setting a came3 {valid = a.valid} {exits = a.around.exits} around3 a.n (omega arith) there;
        count = x3.kept.registers.count ∙ size_is;
      }))

      left3 : LeftFrom setting 0 o3 (a.d + 3) rc qc → LeftFrom setting 1000 a a.d rc qc
      left3 t =
          left_outside setting a came3 1000 (omega arith) t.transfer t.transfer.valid_target t.transfer.charged
          (record { count = t.registers.count; same = λ i low none. t.registers.same i (omega (arith, low)) none }) t.activation

      few3 : AreFew a.turns came.state (y3 setting placed k a.turns a laid m begins wide came ran x) rc.state → AreFew a.turns a.z a.y rc.state
      few3 h = let size = x3.kept.world.same_size in let more = up in omega (arith, h, size, more)

      kept3 : (xc : FellFrom setting 0 o3 (a.d + 3) rc qc) (r : ℕ) (n : ℕ) → a.d ≤ r → r < a.d + 3 → register r (g3 setting placed k a.turns a laid m begins wide came ran x) ≡ Some n → register r qc.registers ≡ Some n
      kept3 xc r n high low e = ap word_in (xc.reached.kept.registers.same r low (not_slot r high)) ∙ e

      abbrev Whole : FlatEvaluated → MidOutcome → Type 0
      Whole r q = EndsAt setting 1000 a r q

      pub fell_sim : Whole (result came) (mid_go_on (landed (length a.y.arena.blocks) landing (mid_go_on ran behind)) after_step)
      unfolding mid_go_on
      fell_sim =
          subst (λ p. Whole p (mid_go_on (landed (length a.y.arena.blocks) landing (mid_go_on ran behind)) after_step)) (sym (cleaned_value setting k cleanup a.env a.around came x.result x.outcome))
          (subst (λ q. Whole (go_on rc (λ w s. gives x.result s)) q)
          (sym (ap (λ q. mid_go_on q after_step) (fell_code setting placed k a.turns a laid m begins wide came ran x)
          ∙ in_two_parts c cleanup_steps (end_steps setting a.d) (g3 setting placed k a.turns a laid m begins wide came ran x) (y3 setting placed k a.turns a laid m begins wide came ran x)))
          (part_then setting (λ r q. FellFrom setting 1000 a a.d r q) 1000 1000 a a.d rc qc (λ w s. gives x.result s) (λ g y. exec c (code_of (end_steps setting a.d)) g y) (omega arith) (omega arith)
          (λ v s. same_flat s) (λ g y. code_grown (end_steps setting a.d) g y)
          (ends_so (λ (d : FellFrom setting 0 o3 (a.d + 3) rc qc). d) left3 (stopped_before setting (omega (arith, came3.paid))) few3 cleaned_here)
          (λ xc.
          subst (λ p. Whole p (mid_go_on qc (λ g y. exec c (code_of (end_steps setting a.d)) g y))) (sym (then_value rc (λ w s. gives x.result s) xc.result xc.outcome))
          (subst (λ q. Whole (gives x.result rc.state) q) (sym (go_on_falls qc (λ g y. exec c (code_of (end_steps setting a.d)) g y) xc.end))
          (value_ends setting c a (reached_behind setting a came3 around3 a.n (omega arith) there x3 xc) wide
          (kept3 xc (a.d + 1) 0 (omega arith) (omega arith) (none_held setting placed k a.turns a laid m begins wide came ran x)) 1000 x.result x.word (omega arith)
          (let more = up in let grown = (form_grows setting k cleanup a.env a.around came.state).units in omega (arith, more, grown))
          (kept3 xc a.d x.word (omega arith) (omega arith) (word_held setting placed k a.turns a laid m begins wide came ran x)) (word_later xc.reached.kept.world.later x.result x.word x.of_value))))))

    -- ---- a transfer landed

    module _ (t : LeftFrom setting 0 (inside setting placed k a.turns a laid m begins wide) (a.d + 6) came ran) where
      abbrev l : Transfers setting 0 (record_inside setting a for_cleanup ∷ a.rs) a.valid (world_of_cleanup setting placed k a.turns a room win) a.around a.z (state_of_cleanup setting placed k a.turns a room win) came ran
      l = t.transfer

      abbrev went4 : World
      went4 = w4 setting placed k a.turns a laid m begins wide came ran t

      abbrev h4 : Registers
      h4 = g4 setting placed k a.turns a laid m begins wide came ran t

      abbrev s4 : MidState
      s4 = y4 setting placed k a.turns a laid m begins wide came ran t

      abbrev came4 : Came setting a 176 went4 came.state h4 s4
      came4 = landed_came setting placed k a.turns a laid m begins wide came ran t

      abbrev cut4 : LinksFrom a.rs l.exit_number came.state.state.exits a.around.exits a.valid l.target
      cut4 =
          cutoff setting came.state l.exit_number l.target came4.world.later (came_same setting a came4) came4.world.more_exits (around_at setting a) l.valid_target came4.world.end
          (during_says setting placed k a.turns a laid m begins wide came ran t)

      abbrev around4 : AroundStands setting went4 a.rs cut4.valid (around_with (exits_from l.exit_number a.around.exits) a.around) came.state s4
      around4 =
          around_during setting came.state l.exit_number l.target came4.world.later (came_same setting a came4) came4.world.more_exits (around_at setting a) l.valid_target came4.world.end
          (during_says setting placed k a.turns a laid m begins wide came ran t)

      abbrev o4 : Start setting
      o4 = cleanup_start setting a came4 {valid = cut4.valid} {exits = exits_from l.exit_number a.around.exits} around4 a.n (omega arith) there

      abbrev rd : FlatEvaluated
      rd = mean (context_at setting k) cleanup a.env (within setting k cleanup a.env a.around l.exit_number) came.state

      abbrev qd : MidOutcome
      qd = exec c (code_of cleanup_steps) h4 s4

      cleaned_there : EndsAt setting 0 o4 rd qd
      cleaned_there = ends_spared setting o4 (cleanup_here (record {
        rs = a.rs;
        valid = cut4.valid;
        w = went4;
        env = a.env;
        around = around_with (exits_from l.exit_number a.around.exits) a.around;
        z = came.state;
        regs = h4;
        y = s4;
        begins = cleanup_begins setting a came4 {valid = cut4.valid} {exits = exits_from l.exit_number a.around.exits} around4 a.n (omega arith) there;
        count = came4.registers.count ∙ size_is;
      }))

      left4 : LeftFrom setting 0 o4 (a.d + 3) rd qd → LeftFrom setting 1000 a a.d rd qd
      left4 u =
          left_outside setting a came4 1000 (omega arith) u.transfer (cut4.outer u.transfer.exit_number u.transfer.target u.transfer.valid_target) u.transfer.charged
          (record { count = u.registers.count; same = λ i low none. u.registers.same i (omega (arith, low)) none }) u.activation

      few4 : AreFew a.turns came.state s4 rd.state → AreFew a.turns a.z a.y rd.state
      few4 h = let size = came4.world.same_size in let more = up in omega (arith, h, size, more)

      kept4 : (xc : FellFrom setting 0 o4 (a.d + 3) rd qd) (r : ℕ) (n : ℕ) → a.d ≤ r → r < a.d + 3 → register r h4 ≡ Some n → register r qd.registers ≡ Some n
      kept4 xc r n high low e = ap word_in (xc.reached.kept.registers.same r low (not_slot r high)) ∙ e

      abbrev Whole4 : FlatEvaluated → MidOutcome → Type 0
      Whole4 r q = EndsAt setting 1000 a r q

      around5 : (xc : FellFrom setting 0 o4 (a.d + 3) rd qd) → AroundStands setting xc.w' a.rs cut4.valid (around_with (exits_from l.exit_number a.around.exits) a.around) rd.state qd.state
      around5 xc =
          around_again setting xc.reached.kept.world.later (same_world setting xc.reached.kept.world xc.reached.back) xc.reached.back.control xc.reached.kept.world.end xc.reached.kept.world.more_exits around4

      lands5 : (xc : FellFrom setting 0 o4 (a.d + 3) rd qd) → LandsIn (slice_get xc.w'.exit_forms l.exit_number) l.landing
      lands5 xc =
          let number = found_number a.rs (around_at setting a).link a.z.state.exits l.exit_number a.around.exits a.valid l.target (around_at setting a).links l.valid_target in
          let count = came4.world.things.exit_forms in
          let more = came4.world.more_exits in
          lands_later l.exit_number l.landing xc.reached.kept.world.later (omega (arith, number, count, more)) l.lands

      pub left_sim : Whole4 (result came) (mid_go_on (landed (length a.y.arena.blocks) landing (mid_go_on ran behind)) after_step)
      unfolding mid_go_on
      left_sim =
          subst (λ p. Whole4 p (mid_go_on (landed (length a.y.arena.blocks) landing (mid_go_on ran behind)) after_step))
          (sym (cleaned_exit setting k cleanup a.env a.around came l.exit_number l.result l.landing l.outcome))
          (subst (λ q. Whole4 (go_on rd (λ w s. leaves l.exit_number l.result l.landing s)) q)
          (sym (ap (λ q. mid_go_on q after_step)
          (cut_lands (length a.y.arena.blocks) behind landing ran l.to.outside l.word l.end (ap (λ (s : Standing). s.outside) (sym (to_here setting placed k a.turns a laid m begins wide came ran t)))
          ∙ catch_code setting placed k a.turns a laid m begins wide came ran t)
          ∙ in_two_parts c cleanup_steps (end_steps setting a.d) h4 s4))
          (part_then setting (λ r q. FellFrom setting 1000 a a.d r q) 1000 1000 a a.d rd qd (λ w s. leaves l.exit_number l.result l.landing s) (λ g y. exec c (code_of (end_steps setting a.d)) g y) (omega arith) (omega arith)
          (λ v s. same_flat s) (λ g y. code_grown (end_steps setting a.d) g y)
          (ends_so (λ (d : FellFrom setting 0 o4 (a.d + 3) rd qd). d) left4 (stopped_before setting (omega (arith, came4.paid))) few4 cleaned_there)
          (λ xc.
          subst (λ p. Whole4 p (mid_go_on qd (λ g y. exec c (code_of (end_steps setting a.d)) g y))) (sym (then_value rd (λ w s. leaves l.exit_number l.result l.landing s) xc.result xc.outcome))
          (subst (λ q. Whole4 (leaves l.exit_number l.result l.landing rd.state) q) (sym (go_on_falls qd (λ g y. exec c (code_of (end_steps setting a.d)) g y) xc.end))
          (transfer_ends setting placed k a goes (came_behind setting a came4 {valid = cut4.valid} {exits = exits_from l.exit_number a.around.exits} around4 a.n (omega arith) there xc) (around5 xc)
          (λ i r e. cut4.outer i r e) wide enough_words l.exit_number l.result l.landing l.target l.word l.landing_word
          (kept4 xc a.d l.word (omega arith) (omega arith) (value_held setting placed k a.turns a laid m begins wide came ran t))
          (kept4 xc (a.d + 1) l.target.address (omega arith) (omega arith) (target_held setting placed k a.turns a laid m begins wide came ran t))
          (kept4 xc (a.d + 2) l.landing_word (omega arith) (omega arith) (landing_held setting placed k a.turns a laid m begins wide came ran t))
          (word_later xc.reached.kept.world.later l.result l.word l.of_value) cut4.target l.landing_is (lands5 xc) 1000 (omega arith)
          (let more = up in let grown = (form_grows setting k cleanup a.env (within setting k cleanup a.env a.around l.exit_number) came.state).units in omega (arith, more, grown)))))))

    -- ---- all cases

    catch_grows : (v : ℕ) (rs : Registers) (y : MidState) → Grown y (landing v rs y).state
    catch_grows v rs y = run_landing_grown (length a.y.arena.blocks) a.d (λ rs' x. exec c (code_of (landing_steps a.d)) rs' x) v rs y (λ rs' y'. code_grown (landing_steps a.d) rs' y')

    rest_grows : (rs : Registers) (y : MidState) → Grown y (behind rs y).state
    rest_grows rs y =
        go_on_grown (exec c (code_of (behind_form a.d)) rs y) (after setting placed k a.turns a laid m begins wide) y (code_grown (behind_form a.d) rs y) (λ rs' y'. after_inside_grown (length a.y.arena.blocks) rs' y')

    by_form : EndsAt setting 0 (inside setting placed k a.turns a laid m begins wide) came ran
        → EndsAt setting 1000 a (result came) (mid_go_on (landed (length a.y.arena.blocks) landing (mid_go_on ran behind)) after_step)
    by_form (done x) = fell_sim x
    by_form (left_by t) = left_sim t
    by_form (full_there x) =
        let g : Grown ran.state (mid_go_on (landed (length a.y.arena.blocks) landing (mid_go_on ran behind)) after_step).state =
        go_on_grown (landed (length a.y.arena.blocks) landing (mid_go_on ran behind)) after_step ran.state
        (landed_grown (length a.y.arena.blocks) landing (mid_go_on ran behind) ran.state (go_on_grown ran behind ran.state (same_grown ran.state) rest_grows) catch_grows)
        (λ g y. code_grown behind_steps g y) in
        subst (λ p. EndsAt setting 1000 a p (mid_go_on (landed (length a.y.arena.blocks) landing (mid_go_on ran behind)) after_step)) (sym (cleaned_other setting k cleanup a.env a.around came _ x.outcome tt))
        (full_there (record { asked = x.asked; left_then = x.left_then; outcome = x.outcome; printed = both_prefix x.printed (record { rest = g.printed.0; is = sym g.printed.1 }) }))
    by_form (stopped x) =
        let g = cleaned_grows setting k cleanup a.env a.around came in
        subst (λ q. EndsAt setting 1000 a (result came) q)
        (sym (ap (λ q. mid_go_on q after_step) (stop_passes (length a.y.arena.blocks) behind landing setting came ran ran.end refl x.because)
        ∙ go_on_last ran.end ran after_step refl (stopped_last setting came ran.end x.because)))
        (stopped (record {
          because = because_cleaned setting k cleanup a.env a.around came ran.end x.because;
          printed = both_prefix x.printed g.printed;
          paid = λ ended.
              let paid = x.paid (λ none. ended (because_cleaned setting k cleanup a.env a.around came no_level none)) in
              omega (arith, paid, g.units, laid.paid, laid.units_there);
        }))
    by_form (few_turns x) =
        let g = cleaned_grows setting k cleanup a.env a.around came in
        let same = laid.world.same_size in
        few_turns (omega (arith, x, g.units, same))

    pub with_words : EndsAt setting 1000 a (result came) (mid_go_on (exec_step c step a.regs a.y) after_step)
    with_words = subst (λ q. EndsAt setting 1000 a (result came) (mid_go_on q after_step)) (sym step_is) (by_form (ends_spared setting (inside setting placed k a.turns a laid m begins wide) (f_here point)))

  abbrev whole : FlatEvaluated
  whole = result (mean (context_at setting k) f a.env a.around a.z)

  grown : FlatGrown a.z whole.state
  grown = both_flat (form_grows setting k f a.env a.around a.z) (cleaned_grows setting k cleanup a.env a.around (mean (context_at setting k) f a.env a.around a.z))

  pub unwind_step : EndsAt setting 1000 a whole (mid_go_on (exec_step c step a.regs a.y) after_step)
  unwind_step = by (nat_le 8 (left a.y.arena)) refl
    where
      by : (b : Bool) → nat_le 8 (left a.y.arena) ≡ b → EndsAt setting 1000 a whole (mid_go_on (exec_step c step a.regs a.y) after_step)
      by true same = with_words (leb-true 8 (left a.y.arena) same)
      by false same =
          let few = leb-false 8 (left a.y.arena) same in
          let wants = record_wanting c (a.d + 1) record_words a.d (code_of inside_steps) (code_of (landing_steps a.d)) a.regs a.y few in
          subst (λ q. EndsAt setting 1000 a whole q) (sym (ap (λ q. mid_go_on q after_step) wants ∙ go_on_last _ _ after_step refl tt)) (no_words setting a record_cost (omega arith) whole grown (omega (arith, enough)) few)

  pub unwind_code_sim : EndsAt setting 1000 a whole (exec c (code_of (step ∷ behind_steps)) a.regs a.y)
  unwind_code_sim = subst (λ q. EndsAt setting 1000 a whole q) (sym (step_then c step behind_steps a.regs a.y)) unwind_step

pub unwinds_law : LawOfUnwinds
unfolding mean lower
unwinds_law setting s d m n size k turns f cleanup placed there enough enough_words goes f_here cleanup_here p =
    let a0 : Start setting = start_at setting s d n size turns p in
    let same = p.count in
    ends_sparing setting {c1 = 1000} a0 2 (omega arith) (omega arith)
    (unwind_code_sim setting placed m size k f cleanup (start_charged setting a0 2) (omega (arith, there, same)) p.count enough enough_words goes f_here cleanup_here)

pub whole_unwinds_law : LawOfWholeUnwinds
unfolding lower
whole_unwinds_law setting k turns f cleanup placed goes f_does cleanup_does rs valid s d n first w env around z regs y stands begins registers words =
    let size : ℕ = length regs in
    let laying : Steps = record_laid (d + 1) (d + 6) cleanup_kind in
    let f_code : Steps = (lower setting.names setting.at setting.program (inside_cleanup s).code (d + 6) f).value in
    let cleanup_code : Steps = (lower setting.names setting.at setting.program (in_cleanup s).code (d + 3) cleanup).value in
    let block : MidStep = with_block (d + 1) record_words d (code_of (laying ++ (f_code ++ behind_form d))) (code_of (landing_steps d)) in
    let behind : Steps = cleanup_code ++ end_steps setting d in
    let block_fits : enough_for (of_code (code_of (block ∷ []))) ≤ size = registers_front (block ∷ []) behind size registers in
    let behind_fits : enough_for (of_code (code_of behind)) ≤ size = registers_behind (block ∷ []) behind size registers in
    let inside_fits : enough_for (of_code (code_of (laying ++ (f_code ++ behind_form d)))) ≤ size =
    inside_registers (d + 1) d (of_code (code_of (laying ++ (f_code ++ behind_form d)))) (of_code (code_of (landing_steps d))) size block_fits in
    let front : enough_for (of_code (code_of laying)) ≤ size = registers_front laying (f_code ++ behind_form d) size inside_fits in
    let wide : d + 6 + 1 + 1 ≤ size = second_register (d + 6) (d + 6 + 1) (of_code (code_of (drop 2 laying))) size front in
    let f_fits : enough_for (of_code (code_of f_code)) ≤ size = registers_front f_code (behind_form d) size (registers_behind laying (f_code ++ behind_form d) size inside_fits) in
    let cleanup_fits : enough_for (of_code (code_of cleanup_code)) ≤ size = registers_front cleanup_code (end_steps setting d) size behind_fits in
    unwinds_law setting s d (words_for setting.names setting.program f) n size k turns f cleanup placed (omega (arith, wide)) (omega (arith, words)) (omega (arith, words)) goes
    (does_here setting (inside_cleanup s) (d + 6) (words_for setting.names setting.program f) size k turns f first f_does
    (record { stands = stands.stands.0; fits = stands.fits.0; leads = stands.leads.0; placed = stands.placed.0; forms_known = stands.forms_known }) f_fits (omega arith))
    (does_here setting (in_cleanup s) (d + 3) n size k turns cleanup first cleanup_does
    (record { stands = stands.stands.1; fits = stands.fits.1; leads = stands.leads.1; placed = stands.placed.1; forms_known = stands.forms_known }) cleanup_fits (omega (arith, words)))
    (record { rs = rs; valid = valid; w = w; env = env; around = around; z = z; regs = regs; y = y; begins = begins; count = refl })
