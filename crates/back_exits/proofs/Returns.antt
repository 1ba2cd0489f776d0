-- `return-from` and `go` to own exits that are left by a transfer.
use Rattle.std.proofs.Common.{◌≡◌, ℕ, ◌+◌, ◌<◌, ◌≤◌, true, [], ◌∷◌, ◌++◌, length, Some, refl, sym, ◌∙◌, subst, arith}
use Rattle.std.specs.Prelude.{slice_get, slice_set}
use Rattle.std.proofs.Math.ListN.{length-set}
use Rattle.lang_meaning.specs.Objects.{control_error_class}
use Rattle.lang_meaning.specs.Standing.{is_block, is_segment}
use Rattle.lang_meaning.specs.State.{at_segment}
use Rattle.lang_meaning.specs.Values.{Value, nil}
use Rattle.flat_language.specs.declared.place.ExitPlace.TheVariants.{Own}
use Rattle.flat_language.specs.FlatForm.{FlatForm, return_from, go}
use Rattle.flat_language.specs.FlatMeaning.{mean}
use Rattle.flat_language.specs.FlatSignals.{signal, transfer}
use Rattle.flat_language.specs.FlatState.{FlatEvaluated, charged, leaves, exit_of}
use Rattle.mid_code.specs.Meaning.{Context, exec}
use Rattle.mid_code.specs.MidCode.{code_of}
use Rattle.mid_code.specs.State.{Registers, register, End, falls, ends, MidState, MidOutcome}
use Rattle.mid_code.specs.State.{charged as mid_charged}
use Rattle.mid_arena.specs.Places.{word_of}
use Rattle.mid_arena.specs.Tags.{nil_word}
use Rattle.mid_arena.proofs.Lists.{set_elsewhere}
use Rattle.mid_arena.proofs.Registers.{register_here, register_beside}
use Rattle.mid_arena.proofs.Running.{RunsTo, and_then, none_left, constant_falls, store_falls, in_two_parts, parts_then, address_above}
use Rattle.back_lowering.specs.Codes.{lower, exit_code}
use Rattle.back_lowering.specs.ControlWords.{landing_address}
use Rattle.back_lowering.specs.declared.scope.OwnExit.{OwnExit}
use Rattle.back_lowering.specs.declared.scope.Reach.TheVariants.{ByTransfer}
use Rattle.back_lowering.specs.declared.scope.Scope.{Scope}
use Rattle.back_lowering.specs.Records.{landing_kept}
use Rattle.back_lowering.specs.Routines.{transfer_routine}
use Rattle.back_lowering.specs.Steps.{Steps, constant, call}
use Rattle.back_relation.specs.Setting.{Setting}
use Rattle.back_relation.specs.Placed.{IsPlaced}
use Rattle.back_relation.specs.Room.{routine_words}
use Rattle.back_relation.specs.Worlds.{World, LandsIn}
use Rattle.back_relation.specs.Activation.{FormScope, ExitReached}
use Rattle.back_relation.specs.Forms.{context_at, code_at}
use Rattle.back_relation.specs.Procedures.{called}
use Rattle.back_relation.specs.Points.{Point, start_at, Here}
use Rattle.back_relation.specs.Starts.{Start, FellFrom, ReachedFrom, EndsAt, SparingAt}
use Rattle.back_relation.proofs.FormGrowth.{form_grows}
use Rattle.back_relation.proofs.Parts.{single_step}
use Rattle.back_relation.proofs.Points.{code_grows}
use Rattle.back_relation.proofs.Starts.{start_charged, ends_sparing, ends_spared, reached_set, reached_same, reached_units}
use Rattle.back_relation.proofs.Then.{reached_then}
use Rattle.back_exits.specs.Touching.{touched}
use Rattle.back_exits.proofs.AtOnce.{transfer_grows, lands_in_block, lands_in_segment}
use Rattle.back_exits.proofs.Charging.{next_start, whole_then, value_then}
use Rattle.back_exits.proofs.Cutting.{search_finds}
use Rattle.back_exits.proofs.Words.{control_lent, control_of}
use Rattle.back_exits.specs.Cleanups.{TransferGoes}
use Rattle.back_exits.specs.Returns.{LawOfReturnsByTransfer, LawOfGoesByTransfer}
use Rattle.back_exits.proofs.Calls.{Passes, called_passes, call_of_two}
use Rattle.back_exits.proofs.Going.{transfer_passes}
use Rattle.back_exits.proofs.Outside.{came_of, around_of}

abbrev pub transfer_steps : (setting : Setting) (d landing record_register : ℕ) → Steps
transfer_steps setting d landing record_register = landing_kept (d + 1) landing ++ (call d (transfer_routine setting.at) (record_register ∷ d ∷ []) ∷ [])

-- the code of an own exit that is left by a transfer
transfer_code :
    (setting : Setting) (s : Scope) (d landing i : ℕ) (x : OwnExit) → slice_get s.exits i ≡ Some x → x.reach ≡ ByTransfer
    → exit_code setting.names setting.at setting.program s d landing (Own i) ≡ transfer_steps setting d landing x.record_register
transfer_code setting s d landing i x e f = rw e (rw f refl)

module _ (setting : Setting) (placed : IsPlaced setting) (k : ℕ) (a : Start setting) (goes : TransferGoes setting k a.turns) (enough_words : routine_words ≤ a.n) {w : World} {g : Registers} {y : MidState}
    (x0 : ReachedFrom setting 100 a a.d w a.z g y) (i landing : ℕ) (x : OwnExit) (there : a.d + 3 ≤ length a.regs) (found : slice_get a.s.code.exits i ≡ Some x) (by_transfer : x.reach ≡ ByTransfer)
    (lands : (e : ℕ) → slice_get w.exit_forms e ≡ Some (slice_get a.s.exits.own i) → LandsIn (slice_get w.exit_forms e) (at_segment landing))
    (v : Value) (word : ℕ) (in_register : register a.d g ≡ Some word) (of_value : word_of w.places v ≡ Some word) where
  abbrev c : Context
  c = code_at setting k a.turns

  abbrev g6 : Registers
  g6 = slice_set (slice_set g (a.d + 1) (Some landing)) (a.d + 1 + 1) (Some 0)

  abbrev total : ℕ
  total = y.cost + 6 + 6 + 8 + 52

  abbrev y8 : MidState
  y8 = touched ((landing_address, landing) ∷ []) y.arena (y.cost + 6 + 6 + 8 + 52) y

  wide : a.d + 3 ≤ length g
  wide = let same = x0.kept.registers.count in omega (arith, same, there)

  beside : (r n : ℕ) → r < a.d + 1 → register r g ≡ Some n → register r g6 ≡ Some n
  beside r n low e =
      register_beside (slice_set g (a.d + 1) (Some landing)) (a.d + 1 + 1) r (Some 0) (λ same. omega (arith, same, low)) ∙ register_beside g (a.d + 1) r (Some landing) (λ same. omega (arith, same, low)) ∙ e

  same6 : (r : ℕ) → r < a.d → slice_get g6 r ≡ slice_get g r
  same6 r low =
      set_elsewhere (slice_set g (a.d + 1) (Some landing)) (a.d + 1 + 1) r (Some 0) (λ f. omega (arith, f, low)) ∙ set_elsewhere g (a.d + 1) r (Some landing) (λ f. omega (arith, f, low))

  call_runs :
      (address : ℕ) → register x.record_register g ≡ Some address → (last : End) → Passes last → (called c (transfer_routine setting.at) (address ∷ word ∷ []) y8).end ≡ last
      → RunsTo c (code_of (transfer_steps setting a.d landing x.record_register)) g y (ends last g6 (called c (transfer_routine setting.at) (address ∷ word ∷ []) y8).state)
  call_runs address held last passes same =
      let own = a.begins.scope.exits i x found in
      let low : x.record_register < a.d = own.1.0 in
      and_then constant_falls
      (and_then constant_falls
      (and_then
      (store_falls
      (register_beside (slice_set g (a.d + 1) (Some landing)) (a.d + 1 + 1) (a.d + 1) (Some 0) (λ f. omega (arith, f)) ∙ register_here g (a.d + 1) landing (let big = wide in omega (arith, big)))
      (register_here (slice_set g (a.d + 1) (Some landing)) (a.d + 1 + 1) 0 (let big = wide in let size = length-set g (a.d + 1) (Some landing) in omega (arith, big, size)))
      (address_above 0 landing_address landing_address (omega arith) (omega arith)) (control_lent setting (control_of setting x0.kept.world.things) 16 (omega arith) refl))
      (record {
        same =
            single_step c (call a.d (transfer_routine setting.at) (x.record_register ∷ a.d ∷ [])) g6 _
            ∙ call_of_two c g6 _ a.d (transfer_routine setting.at) x.record_register a.d address word (beside x.record_register address (omega (arith, low)) held) (beside a.d word (omega arith) in_register)
            ∙ called_passes (called c (transfer_routine setting.at) (address ∷ word ∷ []) y8) a.d g6 last passes same;
      })))

  -- **the word in the first register goes to the exit**
  pub goes_to : EndsAt setting 450 a (transfer (context_at setting k) (exit_of (Own i) a.env) v (at_segment landing) a.around a.z)
      (exec c (code_of (exit_code setting.names setting.at setting.program a.s.code a.d landing (Own i))) g y)
  goes_to =
      let own = x0.kept.activation.exits i x found in
      let e : ℕ = own.0 in
      let reached : ExitReached ByTransfer a.rs a.valid a.around.exits e (register x.record_register g) =
      subst (λ r. ExitReached r a.rs a.valid a.around.exits e (register x.record_register g)) by_transfer own.3 in
      let search = search_finds e v (at_segment landing) (signal (context_at setting k) control_error_class [] a.around) a.around.exits a.valid reached.0 a.z reached.2 in
      let some = search.1 in
      let b : Start setting = next_start setting 0 100 a a.d a.d a.n (omega arith) (omega arith) (omega arith) a.begins.first x0 (omega arith) in
      let x1 : ReachedFrom setting 100 a a.d w (charged search.0 a.z) g y = reached_then setting (omega arith) x0 (omega arith) (reached_units setting b search.0) in
      let paid = x0.back.paid in
      subst (λ o. EndsAt setting 450 a (transfer (context_at setting k) o v (at_segment landing) a.around a.z)
      (exec c (code_of (exit_code setting.names setting.at setting.program a.s.code a.d landing (Own i))) g y)) (sym own.1)
      (subst (λ r. EndsAt setting 450 a r (exec c (code_of (exit_code setting.names setting.at setting.program a.s.code a.d landing (Own i))) g y)) (sym search.2)
      (subst (λ ss. EndsAt setting 450 a (leaves e v (at_segment landing) (charged search.0 a.z)) (exec c (code_of ss) g y)) (sym (transfer_code setting a.s.code a.d landing i x found by_transfer))
      (transfer_passes setting placed k a goes (came_of setting a x1) {valid = a.valid} {exits = a.around.exits} (around_of setting a x1) (λ n r f. f) enough_words e v (at_segment landing) reached.0 word landing
      of_value reached.2 refl (lands e (x0.kept.activation.exit_forms i e own.1)) 450 0 total g6
      (length-set (slice_set g (a.d + 1) (Some landing)) (a.d + 1 + 1) (Some 0) ∙ length-set g (a.d + 1) (Some landing)) same6 (omega (arith, paid, some)) (omega arith) (omega arith)
      (exec c (code_of (transfer_steps setting a.d landing x.record_register)) g y) (λ last passes same. (call_runs reached.0.address reached.1 last passes same).same))))

module _ (setting : Setting) (placed : IsPlaced setting) (s : FormScope) (d n size k turns : ℕ) (there : d + 3 ≤ size) (enough_words : routine_words ≤ n) (goes : TransferGoes setting k turns)
    (i : ℕ) (x : OwnExit) (found : slice_get s.code.exits i ≡ Some x) (by_transfer : x.reach ≡ ByTransfer) where
  abbrev a0 : Point setting s d n size → Start setting
  a0 p = start_at setting s d n size turns p

  abbrev a1 : Point setting s d n size → Start setting
  a1 p = start_charged setting (a0 p) 1

  wide_at : (p : Point setting s d n size) → d + 3 ≤ length p.regs
  wide_at p = let same = p.count in omega (arith, there, same)

  abbrev charged_point : Point setting s d n size → Point setting s d n size
  charged_point p = record {
    rs = p.rs;
    valid = p.valid;
    w = p.w;
    env = p.env;
    around = p.around;
    z = charged 1 p.z;
    regs = p.regs;
    y = p.y;
    begins = (a1 p).begins;
    count = p.count;
  }

  abbrev leaving : (landing : ℕ) → Steps
  leaving landing = exit_code setting.names setting.at setting.program s.code d landing (Own i)

  pub return_sim : (f : FlatForm) → is_block (slice_get s.exits.own i) ≡ true → Here setting s d n size k turns f → Here setting s d n size k turns (return_from (Own i) f)
  unfolding mean lower
  return_sim f block here p =
      let steps : Steps = (lower setting.names setting.at setting.program s.code d f).value in
      let r : FlatEvaluated = mean (context_at setting k) f p.env p.around (charged 1 p.z) in
      let q : MidOutcome = exec (code_at setting k turns) (code_of steps) p.regs p.y in
      subst (λ o. SparingAt setting (a0 p) (mean (context_at setting k) (return_from (Own i) f) p.env p.around p.z) o)
      (sym (in_two_parts (code_at setting k turns) steps (leaving 0) p.regs p.y))
      (ends_sparing setting {c1 = 450} (a0 p) 1 (omega arith) (omega arith)
      (value_then setting (λ o t. FellFrom setting 450 (a1 p) d o t) 0 450 (a1 p) d r q
      (λ v after. transfer (context_at setting k) (exit_of (Own i) p.env) v (at_segment 0) p.around after)
      (λ regs y. exec (code_at setting k turns) (code_of (leaving 0)) regs y) (omega arith) (omega arith)
      (λ v z. transfer_grows setting k (exit_of (Own i) p.env) v (at_segment 0) p.around z) (λ regs y. code_grows setting s d n size k turns (leaving 0) regs y)
      (ends_spared setting (a1 p) (here (charged_point p)))
      (λ h.
      let count = h.reached.kept.registers.count in
      let width = wide_at p in
      let b : Start setting = next_start setting 450 450 (a1 p) d d n (omega arith) (omega arith) (omega arith) p.begins.first h.reached (omega arith) in
      whole_then setting 450 450 (a1 p) d d n (omega arith) (omega arith) (omega arith) p.begins.first h.reached (omega arith) (form_grows setting k f p.env p.around (charged 1 p.z)).units
      (goes_to setting placed k b goes enough_words (reached_same setting b d) i 0 x (omega (arith, count, width)) found by_transfer
      (λ e j. subst (λ o. LandsIn o (at_segment 0)) (sym j) (lands_in_block (slice_get s.exits.own i) block)) h.result h.word h.in_register h.of_value))))

  pub go_sim : (segment : ℕ) → is_segment segment (slice_get s.exits.own i) ≡ true → Here setting s d n size k turns (go (Own i) segment)
  unfolding mean lower
  go_sim segment is_there p =
      let width = wide_at p in
      let set : ReachedFrom setting 100 (a1 p) d p.w (charged 1 p.z) (slice_set p.regs d (Some nil_word)) (mid_charged 6 p.y) =
      reached_set setting (a1 p) d d nil_word 6 (omega arith) (omega arith) (omega arith) in
      let r : FlatEvaluated = transfer (context_at setting k) (exit_of (Own i) p.env) nil (at_segment segment) p.around (charged 1 p.z) in
      let one : RunsTo (code_at setting k turns) (code_of (constant d nil_word ∷ [])) p.regs p.y (ends falls (slice_set p.regs d (Some nil_word)) (mid_charged 6 p.y)) = and_then constant_falls none_left in
      subst (λ q. SparingAt setting (a0 p) r q) (sym (parts_then (constant d nil_word ∷ []) (leaving segment) one (record { same = refl })).same)
      (ends_sparing setting {c1 = 450} (a0 p) 1 (omega arith) (omega arith)
      (goes_to setting placed k (a1 p) goes enough_words set i segment x width found by_transfer
      (λ e j. subst (λ o. LandsIn o (at_segment segment)) (sym j) (lands_in_segment (slice_get s.exits.own i) segment is_there)) nil nil_word (register_here p.regs d nil_word (omega (arith, width))) refl))

pub returns_by_transfer_law : LawOfReturnsByTransfer
returns_by_transfer_law setting s d n size k turns i x f placed there enough_words goes found by_transfer block here =
    return_sim setting placed s d n size k turns there enough_words goes i x found by_transfer f block here

pub goes_by_transfer_law : LawOfGoesByTransfer
goes_by_transfer_law setting s d n size k turns i segment x placed there enough_words goes found by_transfer is_there =
    go_sim setting placed s d n size k turns there enough_words goes i x found by_transfer segment is_there
