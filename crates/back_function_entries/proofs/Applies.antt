-- The application of a function to a list: both forms run, each of which leaves something of its first unit, and the routine is called.
use Rattle.std.proofs.Common.{◌≡◌, ℕ, ◌+◌, ◌<◌, ◌≤◌, [], ◌∷◌, ◌++◌, length, Some, refl, sym, ap, ◌∙◌, subst, arith}
use Rattle.lang_meaning.specs.State.{DynamicContext}
use Rattle.lang_meaning.specs.Values.{Value}
use Rattle.flat_language.specs.FlatForm.{FlatForm}
use Rattle.flat_language.specs.FlatMeaning.{mean, mean_apply}
use Rattle.flat_language.specs.FlatState.{FlatEnvironment, FlatState, FlatEvaluated, go_on, charged}
use Rattle.flat_laws.specs.FlatLater.{FlatLater}
use Rattle.flat_laws.proofs.Forms.{lists_apply}
use Rattle.flat_laws.proofs.Later.{later_kept}
use Rattle.mid_code.specs.Arena.{word_in}
use Rattle.mid_code.specs.Meaning.{exec}
use Rattle.mid_code.specs.MidCode.{code_of}
use Rattle.mid_code.specs.State.{register, MidOutcome}
use Rattle.mid_arena.proofs.Running.{in_two_parts}
use Rattle.back_lowering.specs.Codes.{lower, with_two}
use Rattle.back_lowering.specs.ControlWords.{site_address}
use Rattle.back_lowering.specs.Leaves.{site_stored}
use Rattle.back_lowering.specs.Registers.{of_code, enough_for}
use Rattle.back_lowering.specs.Routines.{apply_routine}
use Rattle.back_lowering.specs.Steps.{Steps}
use Rattle.back_lowering.specs.Steps as steps
use Rattle.back_relation.specs.Setting.{Setting}
use Rattle.back_relation.specs.Room.{apply_words}
use Rattle.back_relation.specs.Activation.{FormScope}
use Rattle.back_relation.specs.Ends.{form_credit}
use Rattle.back_relation.specs.Forms.{context_at, code_at}
use Rattle.back_relation.specs.RoutineClaims.{WordIs, apply_credit}
use Rattle.back_relation.specs.Points.{Point, start_at, value_steps, Here}
use Rattle.back_relation.specs.Starts.{Start, EndsAt, FellFrom}
use Rattle.back_relation.proofs.Fitting.{registers_front, registers_behind}
use Rattle.back_relation.proofs.FormGrowth.{form_grows}
use Rattle.back_relation.proofs.Growth.{both_flat, grown_later, then_grown}
use Rattle.back_relation.proofs.Points.{charged_point, code_grows, does_here}
use Rattle.back_relation.proofs.Starts.{start_after, start_charged, ends_sparing, reached_same}
use Rattle.back_relation.proofs.Worlds.{word_later}
use Rattle.back_calling.specs.Storing.{stored_at, standing_world}
use Rattle.back_calling.proofs.Growing.{tasks_below}
use Rattle.back_calling.proofs.Sited.{failing_law}
use Rattle.back_calling.proofs.Spared.{two_sparing}
use Rattle.back_function_entries.specs.Applies.{AppliesWithin, LawOfApplies}
use Rattle.back_function_entries.proofs.KnownCalls.{site_names}

-- what is paid of the routine's call, behind the second form, and behind the first one
abbrev routine_paid : ℕ
routine_paid = apply_credit + 72

abbrev list_paid : ℕ
list_paid = 872

abbrev whole_paid : ℕ
whole_paid = 172

-- the code that calls the routine has registers for both words
two_there :
    (setting : Setting) (s : FormScope) (d size : ℕ)
    → enough_for (of_code (code_of (with_two setting.names setting.at setting.program s.code.site d (apply_routine setting.at)))) ≤ size → d + 1 < size
two_there setting s d size names =
    let next_register : d + 2 + 1 ≡ d + 3 = omega arith in
    let all_there : d + 2 + 1 < size =
    site_names s.code.site (d + 2) size
    (subst (λ r. enough_for (of_code (code_of (site_stored s.code.site (d + 2) r))) ≤ size) (sym next_register)
    (registers_front (site_stored s.code.site (d + 2) (d + 3)) (steps.call d (apply_routine setting.at) (d ∷ (d + 1) ∷ []) ∷ []) size names)) in
    omega (arith, all_there)

module _ (setting : Setting) (k turns : ℕ) (applies : AppliesWithin setting k turns) (s : FormScope) (d n size : ℕ) (list : FlatForm) (there : d + 1 < size) where
  apply_later : (f v : Value) (around : DynamicContext) (z : FlatState) → FlatLater z (mean_apply (context_at setting k) f v around z).state
  apply_later f v around z = (lists_apply {R = FlatLater} {k = later_kept} (context_at setting k) (tasks_below setting k) f v around z).grows

  abbrev rest : Steps
  rest = with_two setting.names setting.at setting.program s.code.site d (apply_routine setting.at)

  -- both words are in registers
  both_values :
      (p : Point setting s d n size) → enough_for (of_code (code_of rest)) ≤ size → apply_words ≤ n → (f v : Value) (word list_word : ℕ) → WordIs setting p.w word f → WordIs setting p.w list_word v
      → register d p.regs ≡ Some word → register (d + 1) p.regs ≡ Some list_word
      → EndsAt setting routine_paid (start_at setting s d n size turns p) (mean_apply (context_at setting k) f v p.around p.z) (exec (code_at setting k turns) (code_of rest) p.regs p.y)
  both_values p names room f v word list_word is list_is held list_held =
      let site_enough : enough_for (of_code (code_of (site_stored s.code.site (d + 2) (d + 3)))) ≤ size =
      registers_front (site_stored s.code.site (d + 2) (d + 3)) (steps.call d (apply_routine setting.at) (d ∷ (d + 1) ∷ []) ∷ []) size names in
      let next_register : d + 2 + 1 ≡ d + 3 = omega arith in
      let all_there : d + 2 + 1 < size =
      site_names s.code.site (d + 2) size (subst (λ r. enough_for (of_code (code_of (site_stored s.code.site (d + 2) r))) ≤ size) (sym next_register) site_enough) in
      (failing_law setting).two k apply_words apply_credit (start_at setting s d n size turns p) d (apply_routine setting.at) word list_word (mean_apply (context_at setting k) f v p.around p.z)
      (omega arith) (omega (arith, all_there, p.count)) room held list_held (apply_later f v p.around p.z)
      (λ number paid. applies p.rs p.valid (standing_world p.w p.y) p.around p.z (stored_at site_address number paid p.y) f v word list_word is list_is)

  -- a point behind a part whose value came at or behind the first register
  abbrev point_behind :
      (p : Point setting s d n size) (d1 e : ℕ) (low : d ≤ d1) (below : d ≤ e) (fits : e < size) {r : FlatEvaluated} {q : MidOutcome}
      → FellFrom setting form_credit (start_charged setting (start_at setting s d n size turns p) 1) d1 r q → Point setting s e n size
  point_behind p d1 e low below fits {r} {q} x = record {
    rs = p.rs;
    valid = p.valid;
    w = x.w';
    env = p.env;
    around = p.around;
    z = r.state;
    regs = q.registers;
    y = q.state;
    begins = (start_after setting (start_charged setting (start_at setting s d n size turns p) 1) d1 e n low below (omega arith) (omega (arith, fits, p.count)) x.reached).begins;
    count = x.reached.kept.registers.count ∙ p.count;
  }

  abbrev two_steps : Steps
  two_steps = value_steps setting s (d + 1) n size k turns list

  abbrev with_function : Value → FlatEnvironment → DynamicContext → FlatState → FlatEvaluated
  with_function f env around z = go_on (mean (context_at setting k) list env around z) (λ v ready. mean_apply (context_at setting k) f v around ready)

  -- the list, and the application
  behind_function :
      (p : Point setting s d n size) → Here setting s (d + 1) n size k turns list → enough_for (of_code (code_of rest)) ≤ size → apply_words ≤ n → (f : Value) (word : ℕ) → WordIs setting p.w word f
      → register d p.regs ≡ Some word
      → EndsAt setting list_paid (start_at setting s d n size turns p) (with_function f p.env p.around p.z) (exec (code_at setting k turns) (code_of (two_steps ++ rest)) p.regs p.y)
  behind_function p here names room f word is held =
      let a : Start setting = start_at setting s d n size turns p in
      let at_list : Point setting s (d + 1) n size = record {
        rs = p.rs;
        valid = p.valid;
        w = p.w;
        env = p.env;
        around = p.around;
        z = p.z;
        regs = p.regs;
        y = p.y;
        begins = (start_after setting {credit = 0} a d (d + 1) n (omega arith) (omega arith) (omega arith) (omega (arith, there, p.count)) (reached_same setting a d)).begins;
        count = p.count;
      } in
      subst (λ q. EndsAt setting list_paid a (with_function f p.env p.around p.z) q) (sym (in_two_parts (code_at setting k turns) two_steps rest p.regs p.y))
      (two_sparing setting {c2 = routine_paid} {c = list_paid} a (d + 1) (λ v ready. mean_apply (context_at setting k) f v p.around ready) (λ g y. exec (code_at setting k turns) (code_of rest) g y)
      (omega arith) (omega arith) (code_grows setting s (d + 1) n size k turns two_steps p.regs p.y) (here at_list) (λ v z. grown_later (apply_later f v p.around z))
      (λ g y. code_grows setting s d n size k turns rest g y)
      (λ x.
      both_values (point_behind p (d + 1) d (omega arith) (omega arith) (omega (arith, there)) x) names room f x.result word x.word (word_later x.reached.kept.world.later f word is) x.of_value
      (ap word_in (x.reached.kept.registers.same d (omega arith) (λ i e. let below = p.begins.scope.slots_below i d e in omega (arith, below))) ∙ held) x.in_register))

pub applies_law : LawOfApplies
unfolding mean lower
applies_law setting k turns f list does_f does_list applies rs valid s d n first w env around z regs y stands begins registers words =
    let size : ℕ = length regs in
    let one = (lower setting.names setting.at setting.program s.code d f).value in
    let two = (lower setting.names setting.at setting.program s.code (d + 1) list).value in
    let last : Steps = with_two setting.names setting.at setting.program s.code.site d (apply_routine setting.at) in
    let behind_one = registers_behind one (two ++ last) size registers in
    let names = registers_behind two last size behind_one in
    let there : d + 1 < size = two_there setting s d size names in
    let p0 : Point setting s d n size = record { rs = rs; valid = valid; w = w; env = env; around = around; z = z; regs = regs; y = y; begins = begins; count = refl } in
    let p1 : Point setting s d n size = charged_point setting s d n size turns p0 in
    let here_f = does_here setting s d n size k turns f first does_f
    (record { stands = stands.stands.0; fits = stands.fits.0; leads = stands.leads.0; placed = stands.placed.0; forms_known = stands.forms_known })
    (registers_front one (two ++ last) size registers) (omega (arith, words)) in
    let here_list = does_here setting s (d + 1) n size k turns list first does_list
    (record { stands = stands.stands.1; fits = stands.fits.1; leads = stands.leads.1; placed = stands.placed.1; forms_known = stands.forms_known })
    (registers_front two last size behind_one) (omega (arith, words)) in
    ends_sparing setting {c1 = whole_paid} (start_at setting s d n size turns p0) 1 (omega arith) (omega arith)
    (subst
    (λ q.
    EndsAt setting whole_paid (start_at setting s d n size turns p1)
    (go_on (mean (context_at setting k) f env around (charged 1 z)) (λ v after. with_function setting k turns applies s d n size list there v env around after)) q)
    (sym (in_two_parts (code_at setting k turns) one (two ++ last) regs y))
    (two_sparing setting {c2 = list_paid} {c = whole_paid} (start_at setting s d n size turns p1) d (λ v after. with_function setting k turns applies s d n size list there v env around after)
    (λ g x. exec (code_at setting k turns) (code_of (two ++ last)) g x) (omega arith) (omega arith) (code_grows setting s d n size k turns one regs y) (here_f p1)
    (λ v x. both_flat (form_grows setting k list env around x)
    (then_grown (mean (context_at setting k) list env around x) (λ u ready. mean_apply (context_at setting k) v u around ready) (λ u ready. grown_later (apply_later setting k turns applies s d n size list there v u around ready))))
    (λ g x. code_grows setting s d n size k turns (two ++ last) g x)
    (λ x.
    behind_function setting k turns applies s d n size list there (point_behind setting k turns applies s d n size list there p1 d d (omega arith) (omega arith) begins.first x) here_list names
    (omega (arith, words)) x.result x.word x.of_value x.in_register)))
