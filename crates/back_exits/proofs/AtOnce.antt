-- `return-from` and `go` to own exits that may be left at once.
use Rattle.std.proofs.Common.{◌≡◌, ℕ, zero, suc, ◌+◌, ◌≤◌, true, [], ◌∷◌, ◌++◌, length, Option, Some, None, refl, sym, subst, arith}
use Rattle.std.specs.Prelude.{slice_get, slice_set}
use Rattle.std.proofs.lemmas.Bool.{ltb-true}
use Rattle.std.proofs.Math.ListN.{length-set}
use Rattle.lang_meaning.specs.declared.scope.ExitForm.{ExitForm}
use Rattle.lang_meaning.specs.declared.scope.ExitForm.TheVariants.{Block, Tagbody}
use Rattle.lang_meaning.specs.Objects.{control_error_class}
use Rattle.lang_meaning.specs.Standing.{is_block, is_segment}
use Rattle.lang_meaning.specs.State.{DynamicContext, Landing, at_segment}
use Rattle.lang_meaning.specs.Values.{Value, nil}
use Rattle.flat_language.specs.declared.place.ExitPlace.TheVariants.{Own}
use Rattle.flat_language.specs.FlatForm.{FlatForm, return_from, go}
use Rattle.flat_language.specs.FlatMeaning.{mean}
use Rattle.flat_language.specs.FlatSignals.{signal, transfer}
use Rattle.flat_language.specs.FlatState.{FlatState, FlatEvaluated, charged, leaves, exit_of}
use Rattle.flat_laws.specs.FlatLater.{FlatLater}
use Rattle.flat_laws.proofs.Applied.{transfers}
use Rattle.flat_laws.proofs.Combined.{Tasks}
use Rattle.flat_laws.proofs.Later.{later_kept}
use Rattle.flat_laws.proofs.Levels.{nothing_below, levels_come}
use Rattle.mid_code.specs.Meaning.{exec}
use Rattle.mid_code.specs.MidCode.{cut_to, code_of}
use Rattle.mid_code.specs.State.{register, falls, ends, MidOutcome}
use Rattle.mid_code.specs.State.{charged as mid_charged}
use Rattle.mid_arena.specs.Places.{word_of}
use Rattle.mid_arena.specs.Tags.{nil_word}
use Rattle.mid_arena.proofs.Registers.{register_here}
use Rattle.mid_arena.proofs.Running.{RunsTo, and_then, none_left, constant_falls, in_two_parts, parts_then}
use Rattle.back_lowering.specs.Codes.{lower, exit_code}
use Rattle.back_lowering.specs.declared.scope.OwnExit.{OwnExit}
use Rattle.back_lowering.specs.declared.scope.Reach.TheVariants.{AtOnce}
use Rattle.back_lowering.specs.declared.scope.Scope.{Scope}
use Rattle.back_lowering.specs.Records.{landing_kept}
use Rattle.back_lowering.specs.Steps.{Steps, constant}
use Rattle.back_relation.specs.Setting.{Setting}
use Rattle.back_relation.specs.Placed.{IsPlaced}
use Rattle.back_relation.specs.Worlds.{World, LandsIn}
use Rattle.back_relation.specs.Activation.{FormScope, ExitReached}
use Rattle.back_relation.specs.Ends.{left_by}
use Rattle.back_relation.specs.Forms.{below_at, context_at, code_at}
use Rattle.back_relation.specs.Points.{Point, start_at, Here}
use Rattle.back_relation.specs.Starts.{FlatGrown, Start, FellFrom, ReachedFrom, EndsAt, SparingAt}
use Rattle.back_relation.proofs.FormGrowth.{form_grows}
use Rattle.back_relation.proofs.Growth.{grown_later}
use Rattle.back_relation.proofs.Points.{code_grows}
use Rattle.back_relation.proofs.Starts.{start_charged, ends_sparing, ends_spared, reached_set}
use Rattle.back_exits.specs.AtOnce.{LawOfReturnsAtOnce, LawOfGoesAtOnce}
use Rattle.back_exits.proofs.Charging.{next_start, whole_then, value_then}
use Rattle.back_exits.proofs.Cutting.{search_finds, runs, left_at_once}

-- the code of an own exit that is left at once
cut_code : (setting : Setting) (s : Scope) (d landing i : ℕ) (x : OwnExit) → slice_get s.exits i ≡ Some x → x.reach ≡ AtOnce
    → exit_code setting.names setting.at setting.program s d landing (Own i) ≡ landing_kept (d + 1) landing ++ (cut_to x.record_register d ∷ [])
cut_code setting s d landing i x e f = rw e (rw f refl)

-- a transfer lands in its form
pub lands_in_block : (o : Option ExitForm) → is_block o ≡ true → LandsIn (Some o) (at_segment 0)
lands_in_block None h = tt
lands_in_block (Some Block) h = tt
lands_in_block (Some (Tagbody segments)) h = absurd (cc h)

pub lands_in_segment : (o : Option ExitForm) (i : ℕ) → is_segment i o ≡ true → LandsIn (Some o) (at_segment i)
lands_in_segment None i h = tt
lands_in_segment (Some Block) i h = tt
lands_in_segment (Some (Tagbody segments)) i h = ltb-true i segments h

module _ (setting : Setting) (placed : IsPlaced setting) (k : ℕ) (a : Start setting) (i landing : ℕ) (x : OwnExit) (there : a.d + 3 ≤ length a.regs) (found : slice_get a.s.code.exits i ≡ Some x)
    (at_once : x.reach ≡ AtOnce) (lands : (w : World) (e : ℕ) → slice_get w.exit_forms e ≡ Some (slice_get a.s.exits.own i) → LandsIn (slice_get w.exit_forms e) (at_segment landing))
    (v : Value) (word : ℕ) (in_register : register a.d a.regs ≡ Some word) (of_value : word_of a.w.places v ≡ Some word) where
  -- **the word in the first register goes to the exit**
  pub cuts_to : {credit : ℕ} → EndsAt setting credit a (transfer (context_at setting k) (exit_of (Own i) a.env) v (at_segment landing) a.around a.z)
      (exec (code_at setting k a.turns) (code_of (exit_code setting.names setting.at setting.program a.s.code a.d landing (Own i))) a.regs a.y)
  cuts_to {credit} =
      let own = a.begins.activation.exits i x found in
      let e : ℕ = own.0 in
      let reached : ExitReached AtOnce a.rs a.valid a.around.exits e (register x.record_register a.regs) =
      subst (λ r. ExitReached r a.rs a.valid a.around.exits e (register x.record_register a.regs)) at_once own.3 in
      let search = search_finds e v (at_segment landing) (signal (context_at setting k) control_error_class [] a.around) a.around.exits a.valid reached.0 a.z reached.3 in
      let in_form = lands a.w e (a.begins.activation.exit_forms i e own.1) in
      subst (λ o. EndsAt setting credit a (transfer (context_at setting k) o v (at_segment landing) a.around a.z)
      (exec (code_at setting k a.turns) (code_of (exit_code setting.names setting.at setting.program a.s.code a.d landing (Own i))) a.regs a.y)) (sym own.1)
      (subst (λ r. EndsAt setting credit a r (exec (code_at setting k a.turns) (code_of (exit_code setting.names setting.at setting.program a.s.code a.d landing (Own i))) a.regs a.y)) (sym search.2)
      (subst (λ ss. EndsAt setting credit a (leaves e v (at_segment landing) (charged search.0 a.z)) (exec (code_at setting k a.turns) (code_of ss) a.regs a.y))
      (sym (cut_code setting a.s.code a.d landing i x found at_once))
      (subst (λ q. EndsAt setting credit a (leaves e v (at_segment landing) (charged search.0 a.z)) q)
      (sym (runs setting placed (code_at setting k a.turns) a e v word landing x.record_register reached.0 reached.1 there in_register of_value (a.begins.scope.exits i x found).1.0 reached.2 reached.3 reached.4
      in_form search.0 search.1).same)
      (left_by (left_at_once setting placed (code_at setting k a.turns) a e v word landing x.record_register reached.0 reached.1 there in_register of_value (a.begins.scope.exits i x found).1.0 reached.2 reached.3 reached.4
      in_form search.0 search.1)))))

-- the tasks one level below only grow
tasks_below : (setting : Setting) (k : ℕ) → Tasks FlatLater later_kept (below_at setting k)
tasks_below setting zero = nothing_below {R = FlatLater} {k = later_kept}
tasks_below setting (suc k) = levels_come {R = FlatLater} {k = later_kept} setting.names setting.program setting.limit k

pub transfer_grows :
    (setting : Setting) (k : ℕ) (o : Option ℕ) (v : Value) (landing : Landing) (around : DynamicContext) (z : FlatState)
    → FlatGrown z (transfer (context_at setting k) o v landing around z).state
transfer_grows setting k o v landing around z =
    grown_later (transfers {R = FlatLater} {k = later_kept} (context_at setting k) (tasks_below setting k) o v landing around z).grows

module _ (setting : Setting) (placed : IsPlaced setting) (s : FormScope) (d n size k turns : ℕ) (there : d + 3 ≤ size) where
  abbrev a0 : Point setting s d n size → Start setting
  a0 p = start_at setting s d n size turns p

  wide : (p : Point setting s d n size) → d + 3 ≤ length p.regs
  wide p = let same = p.count in omega (arith, there, same)

  -- where the form's own unit was charged
  abbrev a1 : Point setting s d n size → Start setting
  a1 p = start_charged setting (a0 p) 1

  abbrev charged_point : Point setting s d n size → Point setting s d n size
  charged_point p = record {
    rs = p.rs;
    valid = p.valid;
    w = p.w;
    env = p.env;
    around = p.around;
    z = charged 1 p.z;
    regs = p.regs;
    y = p.y;
    begins = (a1 p).begins;
    count = p.count;
  }

  module _ (i : ℕ) (x : OwnExit) (found : slice_get s.code.exits i ≡ Some x) (at_once : x.reach ≡ AtOnce) where
    abbrev goes : (landing : ℕ) → Steps
    goes landing = exit_code setting.names setting.at setting.program s.code d landing (Own i)

    block_lands : is_block (slice_get s.exits.own i) ≡ true → (w : World) (e : ℕ) → slice_get w.exit_forms e ≡ Some (slice_get s.exits.own i) → LandsIn (slice_get w.exit_forms e) (at_segment 0)
    block_lands block w e f = subst (λ o. LandsIn o (at_segment 0)) (sym f) (lands_in_block (slice_get s.exits.own i) block)

    pub return_sim : (f : FlatForm) → is_block (slice_get s.exits.own i) ≡ true → Here setting s d n size k turns f → Here setting s d n size k turns (return_from (Own i) f)
    unfolding mean lower
    return_sim f block here p =
        let steps : Steps = (lower setting.names setting.at setting.program s.code d f).value in
        let r : FlatEvaluated = mean (context_at setting k) f p.env p.around (charged 1 p.z) in
        let q : MidOutcome = exec (code_at setting k turns) (code_of steps) p.regs p.y in
        subst (λ o. SparingAt setting (a0 p) (mean (context_at setting k) (return_from (Own i) f) p.env p.around p.z) o)
        (sym (in_two_parts (code_at setting k turns) steps (goes 0) p.regs p.y))
        (ends_sparing setting {c1 = 0} (a0 p) 1 (omega arith) (omega arith)
        (value_then setting (λ o t. FellFrom setting 0 (a1 p) d o t) 0 0 (a1 p) d r q
        (λ v after. transfer (context_at setting k) (exit_of (Own i) p.env) v (at_segment 0) p.around after)
        (λ regs y. exec (code_at setting k turns) (code_of (goes 0)) regs y) (omega arith) (omega arith)
        (λ v z. transfer_grows setting k (exit_of (Own i) p.env) v (at_segment 0) p.around z) (λ regs y. code_grows setting s d n size k turns (goes 0) regs y)
        (ends_spared setting (a1 p) (here (charged_point p)))
        (λ g.
        let count = g.reached.kept.registers.count in
        let width = wide p in
        whole_then setting 0 0 (a1 p) d d n (omega arith) (omega arith) (omega arith) p.begins.first g.reached (omega arith) (form_grows setting k f p.env p.around (charged 1 p.z)).units
        (cuts_to setting placed k (next_start setting 0 0 (a1 p) d d n (omega arith) (omega arith) (omega arith) p.begins.first g.reached (omega arith)) i 0 x (omega (arith, count, width)) found at_once
        (block_lands block) g.result g.word g.in_register g.of_value))))

    segment_lands : (segment : ℕ) → is_segment segment (slice_get s.exits.own i) ≡ true → (w : World) (e : ℕ) → slice_get w.exit_forms e ≡ Some (slice_get s.exits.own i) → LandsIn (slice_get w.exit_forms e) (at_segment segment)
    segment_lands segment there w e f = subst (λ o. LandsIn o (at_segment segment)) (sym f) (lands_in_segment (slice_get s.exits.own i) segment there)

    pub go_sim : (segment : ℕ) → is_segment segment (slice_get s.exits.own i) ≡ true → Here setting s d n size k turns (go (Own i) segment)
    unfolding mean lower
    go_sim segment there p =
        let width = wide p in
        let set : ReachedFrom setting 6 (a1 p) d p.w (charged 1 p.z) (slice_set p.regs d (Some nil_word)) (mid_charged 6 p.y) = reached_set setting (a1 p) d d nil_word 6 (omega arith) (omega arith) (omega arith) in
        let r : FlatEvaluated = transfer (context_at setting k) (exit_of (Own i) p.env) nil (at_segment segment) p.around (charged 1 p.z) in
        let one : RunsTo (code_at setting k turns) (code_of (constant d nil_word ∷ [])) p.regs p.y (ends falls (slice_set p.regs d (Some nil_word)) (mid_charged 6 p.y)) = and_then constant_falls none_left in
        let size_then = length-set p.regs d (Some nil_word) in
        subst (λ q. SparingAt setting (a0 p) r q)
        (sym (parts_then (constant d nil_word ∷ []) (goes segment) one (record { same = refl })).same)
        (ends_sparing setting {c1 = 300} (a0 p) 1 (omega arith) (omega arith)
        (whole_then setting 294 300 (a1 p) d d n (omega arith) (omega arith) (omega arith) p.begins.first set (omega arith) (omega arith)
        (cuts_to setting placed k (next_start setting 294 300 (a1 p) d d n (omega arith) (omega arith) (omega arith) p.begins.first set (omega arith)) i segment x (omega (arith, width, size_then)) found at_once
        (segment_lands segment there) nil nil_word (register_here p.regs d nil_word (omega (arith, width))) refl)))

pub returns_at_once_law : LawOfReturnsAtOnce
returns_at_once_law setting s d n size k turns i x f placed there found at_once block here = return_sim setting placed s d n size k turns there i x found at_once f block here

pub goes_at_once_law : LawOfGoesAtOnce
goes_at_once_law setting s d n size k turns i segment x placed there found at_once segments = go_sim setting placed s d n size k turns there i x found at_once segment segments
