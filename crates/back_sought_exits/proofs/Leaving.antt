-- `return-from` and `go` at points of one scope, to exits that are sought.
use Rattle.std.proofs.Common.{◌≡◌, ℕ, ◌+◌, ◌≤◌, true, [], ◌∷◌, length, Option, Some, refl, sym, ◌∙◌, subst, arith}
use Rattle.std.specs.Prelude.{slice_get, slice_set}
use Rattle.std.proofs.Math.ListN.{length-set}
use Rattle.lang_meaning.specs.declared.scope.ExitForm.{ExitForm}
use Rattle.lang_meaning.specs.Standing.{is_block, is_segment}
use Rattle.lang_meaning.specs.State.{at_segment}
use Rattle.lang_meaning.specs.Values.{Value, nil}
use Rattle.flat_language.specs.declared.place.ExitPlace.{ExitPlace}
use Rattle.flat_language.specs.declared.place.ExitPlace.TheVariants as place
use Rattle.flat_language.specs.FlatExits.{made_by}
use Rattle.flat_language.specs.FlatForm.{FlatForm, return_from, go}
use Rattle.flat_language.specs.FlatMeaning.{mean}
use Rattle.flat_language.specs.FlatSignals.{transfer}
use Rattle.flat_language.specs.FlatState.{FlatEvaluated, charged, exit_of}
use Rattle.mid_code.specs.Meaning.{exec}
use Rattle.mid_code.specs.MidCode.{code_of}
use Rattle.mid_code.specs.State.{register, falls, ends, MidOutcome}
use Rattle.mid_code.specs.State.{charged as mid_charged}
use Rattle.mid_arena.specs.Places.{word_of}
use Rattle.mid_arena.specs.Tags.{nil_word}
use Rattle.mid_arena.proofs.Registers.{register_here}
use Rattle.mid_arena.proofs.Running.{RunsTo, and_then, none_left, constant_falls, in_two_parts, parts_then}
use Rattle.back_lowering.specs.Codes.{lower, exit_code}
use Rattle.back_lowering.specs.Steps.{Steps, constant}
use Rattle.back_relation.specs.Setting.{Setting}
use Rattle.back_relation.specs.Worlds.{World, LandsIn}
use Rattle.back_relation.specs.Activation.{FormScope}
use Rattle.back_relation.specs.Forms.{context_at, code_at}
use Rattle.back_relation.specs.Points.{Point, start_at, Here}
use Rattle.back_relation.specs.Starts.{Start, FellFrom, ReachedFrom, EndsAt, SparingAt}
use Rattle.back_relation.proofs.FormGrowth.{form_grows}
use Rattle.back_relation.proofs.Points.{code_grows}
use Rattle.back_relation.proofs.Starts.{start_charged, reached_set, ends_sparing, ends_spared}
use Rattle.back_exits.proofs.AtOnce.{transfer_grows, lands_in_block, lands_in_segment}
use Rattle.back_exits.proofs.Charging.{next_start, whole_then, value_then}
use Rattle.back_sought_exits.specs.Sought.{LawOfReturnsBySearch, LawOfGoesBySearch, LawOfReturnsToCaptured, LawOfGoesToCaptured}
use Rattle.back_sought_exits.proofs.Seeking.{own_sought, captured_sought}

-- what is known of the form that made an exit, of the exit
in_block : (o : Option ExitForm) (w : World) (e : ℕ) → is_block o ≡ true → slice_get w.exit_forms e ≡ Some o → LandsIn (slice_get w.exit_forms e) (at_segment 0)
in_block o w e block same = subst (λ f. LandsIn f (at_segment 0)) (sym same) (lands_in_block o block)

in_segment : (o : Option ExitForm) (w : World) (e segment : ℕ) → is_segment segment o ≡ true → slice_get w.exit_forms e ≡ Some o → LandsIn (slice_get w.exit_forms e) (at_segment segment)
in_segment o w e segment is_there same = subst (λ f. LandsIn f (at_segment segment)) (sym same) (lands_in_segment o segment is_there)

module _ (setting : Setting) (s : FormScope) (d n size k turns : ℕ) (p : ExitPlace) where
  -- at all points the word in the first register goes to the exit
  abbrev LeavesHere : (credit landing : ℕ) → Type 0
  LeavesHere credit landing =
      (q : Point setting s d n size) (v : Value) (word : ℕ) → register d q.regs ≡ Some word → word_of q.w.places v ≡ Some word
      → EndsAt setting credit (start_at setting s d n size turns q) (transfer (context_at setting k) (exit_of p q.env) v (at_segment landing) q.around q.z)
      (exec (code_at setting k turns) (code_of (exit_code setting.names setting.at setting.program s.code d landing p)) q.regs q.y)

  abbrev a0 : Point setting s d n size → Start setting
  a0 q = start_at setting s d n size turns q

  abbrev a1 : Point setting s d n size → Start setting
  a1 q = start_charged setting (a0 q) 1

  abbrev charged_point : Point setting s d n size → Point setting s d n size
  charged_point q = record {
    rs = q.rs;
    valid = q.valid;
    w = q.w;
    env = q.env;
    around = q.around;
    z = charged 1 q.z;
    regs = q.regs;
    y = q.y;
    begins = (a1 q).begins;
    count = q.count;
  }

  abbrev leaving : (landing : ℕ) → Steps
  leaving landing = exit_code setting.names setting.at setting.program s.code d landing p

  return_sim : (f : FlatForm) → LeavesHere 600 0 → Here setting s d n size k turns f → Here setting s d n size k turns (return_from p f)
  unfolding mean lower
  return_sim f leaves here q =
      let steps : Steps = (lower setting.names setting.at setting.program s.code d f).value in
      let r : FlatEvaluated = mean (context_at setting k) f q.env q.around (charged 1 q.z) in
      let o : MidOutcome = exec (code_at setting k turns) (code_of steps) q.regs q.y in
      subst (λ t. SparingAt setting (a0 q) (mean (context_at setting k) (return_from p f) q.env q.around q.z) t)
      (sym (in_two_parts (code_at setting k turns) steps (leaving 0) q.regs q.y))
      (ends_sparing setting {c1 = 600} (a0 q) 1 (omega arith) (omega arith)
      (value_then setting (λ m t. FellFrom setting 600 (a1 q) d m t) 0 600 (a1 q) d r o
      (λ v after. transfer (context_at setting k) (exit_of p q.env) v (at_segment 0) q.around after)
      (λ regs y. exec (code_at setting k turns) (code_of (leaving 0)) regs y) (omega arith) (omega arith)
      (λ v z. transfer_grows setting k (exit_of p q.env) v (at_segment 0) q.around z) (λ regs y. code_grows setting s d n size k turns (leaving 0) regs y)
      (ends_spared setting (a1 q) (here (charged_point q)))
      (λ h.
      let count = h.reached.kept.registers.count in
      let b : Start setting = next_start setting 600 600 (a1 q) d d n (omega arith) (omega arith) (omega arith) q.begins.first h.reached (omega arith) in
      let next : Point setting s d n size =
      record { rs = q.rs; valid = q.valid; w = h.w'; env = q.env; around = q.around; z = r.state; regs = o.registers; y = o.state; begins = b.begins; count = count ∙ q.count } in
      whole_then setting 600 600 (a1 q) d d n (omega arith) (omega arith) (omega arith) q.begins.first h.reached (omega arith) (form_grows setting k f q.env q.around (charged 1 q.z)).units
      (leaves next h.result h.word h.in_register h.of_value))))

  go_sim : (segment : ℕ) → LeavesHere 594 segment → Here setting s d n size k turns (go p segment)
  unfolding mean lower
  go_sim segment leaves q =
      let set : ReachedFrom setting 6 (a1 q) d q.w (charged 1 q.z) (slice_set q.regs d (Some nil_word)) (mid_charged 6 q.y) =
      reached_set setting (a1 q) d d nil_word 6 (omega arith) (omega arith) (omega arith) in
      let r : FlatEvaluated = transfer (context_at setting k) (exit_of p q.env) nil (at_segment segment) q.around (charged 1 q.z) in
      let one : RunsTo (code_at setting k turns) (code_of (constant d nil_word ∷ [])) q.regs q.y (ends falls (slice_set q.regs d (Some nil_word)) (mid_charged 6 q.y)) =
      and_then constant_falls none_left in
      let b : Start setting = next_start setting 594 600 (a1 q) d d n (omega arith) (omega arith) (omega arith) q.begins.first set (omega arith) in
      let next : Point setting s d n size =
      record {
        rs = q.rs;
        valid = q.valid;
        w = q.w;
        env = q.env;
        around = q.around;
        z = charged 1 q.z;
        regs = slice_set q.regs d (Some nil_word);
        y = mid_charged 6 q.y;
        begins = b.begins;
        count = length-set q.regs d (Some nil_word) ∙ q.count;
      } in
      subst (λ t. SparingAt setting (a0 q) r t) (sym (parts_then (constant d nil_word ∷ []) (leaving segment) one (record { same = refl })).same)
      (ends_sparing setting {c1 = 600} (a0 q) 1 (omega arith) (omega arith)
      (whole_then setting 594 600 (a1 q) d d n (omega arith) (omega arith) (omega arith) q.begins.first set (omega arith) (omega arith)
      (leaves next nil nil_word (register_here q.regs d nil_word q.begins.first) refl)))

wide_at : (setting : Setting) (s : FormScope) (d n size : ℕ) → d + 4 ≤ size → (q : Point setting s d n size) → d + 4 ≤ length q.regs
wide_at setting s d n size there q = let same = q.count in omega (arith, there, same)

pub returns_by_search_law : LawOfReturnsBySearch
returns_by_search_law setting s d n size k turns i x f there enough_words does found by_search block here =
    return_sim setting s d n size k turns (place.Own i) f
    (λ q v word in_register of_value.
    own_sought setting k (start_at setting s d n size turns q) (wide_at setting s d n size there q) enough_words does 0 v word in_register of_value 600 i x (omega arith) found by_search
    (λ e same. in_block (made_by s.exits (place.Own i)) q.w e block same))
    here

pub goes_by_search_law : LawOfGoesBySearch
goes_by_search_law setting s d n size k turns i segment x there enough_words does found by_search is_there =
    go_sim setting s d n size k turns (place.Own i) segment
    (λ q v word in_register of_value.
    own_sought setting k (start_at setting s d n size turns q) (wide_at setting s d n size there q) enough_words does segment v word in_register of_value 594 i x (omega arith) found by_search
    (λ e same. in_segment (made_by s.exits (place.Own i)) q.w e segment is_there same))

pub returns_to_captured_law : LawOfReturnsToCaptured
returns_to_captured_law setting s d n size k turns i f there enough_words does stands block here =
    return_sim setting s d n size k turns (place.Captured i) f
    (λ q v word in_register of_value.
    captured_sought setting k (start_at setting s d n size turns q) (wide_at setting s d n size there q) enough_words does 0 v word in_register of_value 600 i (omega arith) stands
    (λ e same. in_block (made_by s.exits (place.Captured i)) q.w e block same))
    here

pub goes_to_captured_law : LawOfGoesToCaptured
goes_to_captured_law setting s d n size k turns i segment there enough_words does stands is_there =
    go_sim setting s d n size k turns (place.Captured i) segment
    (λ q v word in_register of_value.
    captured_sought setting k (start_at setting s d n size turns q) (wide_at setting s d n size there q) enough_words does segment v word in_register of_value 594 i (omega arith) stands
    (λ e same. in_segment (made_by s.exits (place.Captured i)) q.w e segment is_there same))
