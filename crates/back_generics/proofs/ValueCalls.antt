-- A call of a value: its parts run, the words of the arguments are lent, and the routine that applies values is called.
use Rattle.std.proofs.Common.{◌≡◌, ℕ, ◌+◌, ◌*◌, ◌<◌, ◌≤◌, List, [], ◌∷◌, ◌++◌, length, Some, refl, sym, ap, ◌∙◌, subst, append_assoc, arith}
use Rattle.std.specs.Prelude.{slice_set}
use Rattle.std.proofs.Math.ListN.{length-set}
use Rattle.lang_meaning.specs.Values.{Value, nil}
use Rattle.flat_language.specs.FlatForm.{call_value, no_form, form_and}
use Rattle.flat_language.specs.FlatMeaning.{mean, mean_call_value}
use Rattle.flat_language.specs.FlatNodes.{count_forms}
use Rattle.flat_language.specs.FlatState.{FlatEvaluated, charged}
use Rattle.flat_laws.specs.FlatLater.{FlatLater}
use Rattle.flat_laws.proofs.Forms.{calls}
use Rattle.flat_laws.proofs.Later.{later_kept}
use Rattle.mid_code.specs.Arena.{word_in}
use Rattle.mid_code.specs.Meaning.{exec}
use Rattle.mid_code.specs.MidCode.{code_of}
use Rattle.mid_code.specs.State.{Registers, register, MidState}
use Rattle.mid_arena.specs.Places.{WordsOf, word_of}
use Rattle.mid_arena.proofs.Lists.{set_elsewhere}
use Rattle.mid_arena.proofs.Registers.{register_here, register_beside}
use Rattle.mid_arena.proofs.Running.{and_then, none_left, constant_falls}
use Rattle.back_lowering.specs.Calls.{call_value_code}
use Rattle.back_lowering.specs.Codes.{lower, lower_arguments}
use Rattle.back_lowering.specs.ControlWords.{site_address}
use Rattle.back_lowering.specs.Leaves.{site_stored}
use Rattle.back_lowering.specs.Registers.{of_code, enough_for}
use Rattle.back_lowering.specs.Routines.{function_routine}
use Rattle.back_lowering.specs.Steps.{Steps, constant, words_stored}
use Rattle.back_lowering.specs.Steps as steps
use Rattle.back_relation.specs.Setting.{Setting}
use Rattle.back_relation.specs.Room.{applying_words}
use Rattle.back_relation.specs.Placed.{IsPlaced}
use Rattle.back_relation.specs.Worlds.{World}
use Rattle.back_relation.specs.Forms.{FormEnds, context_at, code_at}
use Rattle.back_relation.specs.RoutineClaims.{WordIs, applying_credit}
use Rattle.back_relation.specs.Points.{Point, start_at}
use Rattle.back_relation.specs.Starts.{Start, EndsAt}
use Rattle.back_relation.proofs.Fitting.{registers_front, registers_behind}
use Rattle.back_relation.proofs.Growth.{grown_later}
use Rattle.back_relation.proofs.Parts.{single_step}
use Rattle.back_relation.proofs.Starts.{start_after, start_charged, ends_sparing, gives_run}
use Rattle.back_relation.proofs.Worlds.{word_later}
use Rattle.back_values.specs.Arguments.{WordsIn}
use Rattle.back_values.proofs.Arguments.{arguments_law}
use Rattle.back_values.proofs.Lists.{argument_lists_law}
use Rattle.back_conditions.proofs.Cells.{WordsFrom}
use Rattle.back_conditions.proofs.DynamicForms.{names_inside}
use Rattle.back_calling.specs.Storing.{stored_at, standing_world}
use Rattle.back_calling.proofs.Growing.{tasks_below}
use Rattle.back_calling.proofs.Sited.{sited_calls_law, reached_sited}
use Rattle.back_function_entries.proofs.KnownCalls.{site_names}
use Rattle.back_generics.specs.ValueCalls.{AppliesValues, LawOfValueCalls}
use Rattle.back_generics.proofs.Given.{lent_then}
use Rattle.back_generics.proofs.Words.{Inside, words_lent_to}

pub words_from : (d : ℕ) (ws : List ℕ) (regs : Registers) → WordsIn d ws regs → WordsFrom d ws regs
words_from d [] regs h = tt
words_from d (w ∷ ws) regs h = (h.0, words_from (d + 1) ws regs h.1)

module _ (setting : Setting) (placed : IsPlaced setting) (k : ℕ) (a : Start setting) (applies : AppliesValues setting k a.turns) (f : Value) (word : ℕ) (is : WordIs setting a.w word f)
    (held : register a.d a.regs ≡ Some word) (vs : List Value) (ws : List ℕ) (of_values : WordsOf a.w.places vs ws) (many : length vs ≡ length ws) (words_held : WordsFrom (a.d + 1) ws a.regs) where
  abbrev u : ℕ
  u = a.d + length ws + 2

  abbrev e : ℕ
  e = a.d + 1 + length ws

  abbrev site : Steps
  site = site_stored a.s.code.site u (a.d + length ws + 3)

  abbrev the_call : Steps
  the_call = constant u (length ws) ∷ steps.call a.d (function_routine setting.at) (a.d ∷ u ∷ e ∷ []) ∷ []

  abbrev applied : FlatEvaluated
  applied = mean_call_value (context_at setting k) (f ∷ vs) a.around a.z

  abbrev call_credit : ℕ
  call_credit = applying_credit (length vs) + 84

  grows : FlatLater a.z applied.state
  grows = (calls {R = FlatLater} {k = later_kept} (context_at setting k) (tasks_below setting k) (f ∷ vs) a.around a.z).grows

  inside_does :
      (there : a.d + length ws + 3 < length a.regs) (low : a.d ≤ a.d + 1) (fits : a.d + 1 + length ws + 2 < length a.regs) (w1 : World) (regs : Registers) (y : MidState)
      → Inside setting placed a k (a.d + 1) vs ws of_values many words_held low fits applying_words w1 regs y
      → FormEnds setting call_credit a.turns a.rs a.valid a.s a.d w1 a.env a.around a.z regs y applied (exec (code_at setting k a.turns) (code_of (site ++ the_call)) regs y)
  inside_does there low fits w1 regs y x =
      let b : Start setting =
      record { turns = a.turns; rs = a.rs; valid = a.valid; s = a.s; d = a.d; n = applying_words; w = w1; env = a.env; around = a.around; z = a.z; regs = regs; y = y; begins = x.laid.begins } in
      let count = x.laid.register_count in
      let word_held : register a.d regs ≡ Some word = ap word_in (x.others a.d (omega arith)) ∙ held in
      sited_calls_law setting k b call_credit applying_words (applying_credit (length vs)) 6 a.d u (a.d + length ws + 3) (function_routine setting.at) (constant u (length ws) ∷ [])
      (a.d ∷ u ∷ e ∷ []) (word ∷ length vs ∷ x.address ∷ []) applied (omega arith) (omega arith) (omega arith) (omega arith) (omega (arith, there, count)) (omega arith) grows
      (λ g number paid others. record {
        regs' = slice_set g u (Some (length ws));
        runs = (and_then constant_falls none_left).same;
        arguments_there = (
          register_beside g u a.d (Some (length ws)) (λ i. omega (arith, i)) ∙ ap word_in (others.same a.d (λ i. omega (arith, i)) (λ i. omega (arith, i))) ∙ word_held,
          (
            register_here g u (length ws) (let same = others.count in omega (arith, there, count, same)) ∙ ap (λ i. Some i) (sym many),
            (
              register_beside g u e (Some (length ws)) (λ i. omega (arith, i)) ∙ ap word_in (others.same e (λ i. omega (arith, i)) (λ i. omega (arith, i))) ∙ x.block_held,
              tt,
            ),
          ),
        );
        below = λ i h. set_elsewhere g u i (Some (length ws)) (λ same. omega (arith, same, h));
        count = length-set g u (Some (length ws));
      })
      (λ number paid.
      let r = reached_sited setting b a.d number paid paid regs (omega arith) (omega arith) (λ i h. refl) refl in
      applies a.rs a.valid (standing_world w1 y) a.around a.z (stored_at site_address number paid y) f vs word x.address
      (word_later r.kept.world.later f word (ap (λ p. word_of p f) x.places ∙ is))
      (lent_then setting r.kept.world r.back x.lent))

  pub value_applied :
      enough_for (of_code (code_of (call_value_code setting.at setting.program (length ws) a.d a.s.code.site))) ≤ length a.regs → applying_words + (length ws + 2) ≤ a.n
      → EndsAt setting (48 + 24 * length ws + call_credit) a applied
      (exec (code_at setting k a.turns) (code_of (call_value_code setting.at setting.program (length ws) a.d a.s.code.site)) a.regs a.y)
  value_applied names room =
      let stored : Steps = words_stored (length ws) (a.d + 1) e (e + 1) 0 in
      let inner_names : enough_for (of_code (code_of (stored ++ (site ++ the_call)))) ≤ length a.regs = names_inside e (length ws) (a.d + 1) (length a.regs) (code_of (stored ++ (site ++ the_call))) (code_of []) names in
      let site_enough = registers_front site the_call (length a.regs) (registers_behind stored (site ++ the_call) (length a.regs) inner_names) in
      let next_register : u + 1 ≡ a.d + length ws + 3 = omega arith in
      let two : u + 1 < length a.regs =
      site_names a.s.code.site u (length a.regs) (subst (λ r. enough_for (of_code (code_of (site_stored a.s.code.site u r))) ≤ length a.regs) (sym next_register) site_enough) in
      subst (λ q. EndsAt setting (48 + 24 * length ws + call_credit) a applied q) (sym (single_step (code_at setting k a.turns) _ a.regs a.y))
      (words_lent_to setting placed a k (a.d + 1) vs ws of_values many words_held (omega arith) (omega (arith, two)) applying_words call_credit (a.d + 1) (site ++ the_call) room (grown_later grows)
      (registers_front stored (site ++ the_call) (length a.regs) inner_names)
      (λ w1 regs y x. inside_does (omega (arith, two)) (omega arith) (omega (arith, two)) w1 regs y x))

module _ (setting : Setting) (placed : IsPlaced setting) (k : ℕ) (a : Start setting) (applies : AppliesValues setting k a.turns) (count : ℕ) where
  abbrev whole_credit : ℕ
  whole_credit = 842 + 484 * count

  -- the words of the function and the arguments are in registers
  pub values_there :
      (vs : List Value) (ws : List ℕ) → length vs ≡ count + 1 → length ws ≡ count + 1 → WordsOf a.w.places vs ws → WordsIn a.d ws a.regs
      → enough_for (of_code (code_of (call_value_code setting.at setting.program count a.d a.s.code.site))) ≤ length a.regs → applying_words + (count + 2) ≤ a.n
      → EndsAt setting whole_credit a (mean_call_value (context_at setting k) vs a.around a.z)
      (exec (code_at setting k a.turns) (code_of (call_value_code setting.at setting.program count a.d a.s.code.site)) a.regs a.y)
  values_there [] ws m l of_values held names room = absurd (omega (arith, m))
  values_there (f ∷ vs) [] m l of_values held names room = absurd (omega (arith, l))
  values_there (f ∷ vs) (word ∷ ws) m l of_values held names room =
      let same : length ws ≡ count = omega (arith, l) in
      let many : length vs ≡ length ws = omega (arith, m, l) in
      let cost : 48 + 24 * length ws + (applying_credit (length vs) + 84) ≡ whole_credit = omega (arith, same, many) in
      subst
      (λ i. EndsAt setting whole_credit a (mean_call_value (context_at setting k) (f ∷ vs) a.around a.z)
      (exec (code_at setting k a.turns) (code_of (call_value_code setting.at setting.program i a.d a.s.code.site)) a.regs a.y))
      same
      (subst
      (λ i. EndsAt setting i a (mean_call_value (context_at setting k) (f ∷ vs) a.around a.z)
      (exec (code_at setting k a.turns) (code_of (call_value_code setting.at setting.program (length ws) a.d a.s.code.site)) a.regs a.y))
      cost
      (value_applied setting placed k a applies f word of_values.0 held.0 vs ws of_values.1 many (words_from (a.d + 1) ws a.regs held.1)
      (subst (λ i. enough_for (of_code (code_of (call_value_code setting.at setting.program i a.d a.s.code.site))) ≤ length a.regs) (sym same) names) (omega (arith, room, same))))

pub value_calls_law : LawOfValueCalls
unfolding mean lower
value_calls_law setting k turns no_form placed does applies rs valid s d n first w env around z regs y stands begins registers words =
    let p0 : Point setting s d n (length regs) = record { rs = rs; valid = valid; w = w; env = env; around = around; z = z; regs = regs; y = y; begins = begins; count = refl } in
    ends_sparing setting {c1 = 6} (start_at setting s d n (length regs) turns p0) 1 (omega arith) (omega arith)
    (gives_run setting {credit = 6} (start_charged setting (start_at setting s d n (length regs) turns p0) 1) nil (omega arith) refl (and_then constant_falls none_left))
value_calls_law setting k turns (form_and f fs) placed does applies rs valid s d n first w env around z regs y stands begins registers words =
    let size : ℕ = length regs in
    let one : Steps = (lower setting.names setting.at setting.program s.code d f).value in
    let others : Steps = lower_arguments setting.names setting.at setting.program s.code (d + 1) fs in
    let after_them : Steps = call_value_code setting.at setting.program (count_forms fs) d s.code.site in
    let together : (one ++ others) ++ after_them ≡ one ++ (others ++ after_them) = append_assoc one others after_them in
    let names : enough_for (of_code (code_of ((one ++ others) ++ after_them))) ≤ size = subst (λ ss. enough_for (of_code (code_of ss)) ≤ size) (sym together) registers in
    let units : ℕ = 1 + count_forms (form_and f fs) in
    let p0 : Point setting s d n size = record { rs = rs; valid = valid; w = w; env = env; around = around; z = z; regs = regs; y = y; begins = begins; count = refl } in
    let pc : Point setting s d n size = record {
      rs = rs;
      valid = valid;
      w = w;
      env = env;
      around = around;
      z = charged units z;
      regs = regs;
      y = y;
      begins = (start_charged setting (start_at setting s d n size turns p0) units).begins;
      count = refl;
    } in
    let lists =
    argument_lists_law setting s d n size k turns first (form_and f fs) does stands.stands stands.fits.1 stands.leads stands.placed stands.forms_known begins.first
    (registers_front (one ++ others) after_them size names) (omega (arith, words)) in
    let total : ℕ = 842 + 484 * count_forms fs in
    ends_sparing setting {c1 = total} (start_at setting s d n size turns p0) units (omega arith) (omega arith)
    (subst
    (λ ss. EndsAt setting total (start_at setting s d n size turns pc) (mean (context_at setting k) (call_value (form_and f fs)) env around z) (exec (code_at setting k turns) (code_of ss) regs y))
    together
    (arguments_law setting s d n size k turns total (form_and f fs) pc (λ vs after. mean_call_value (context_at setting k) vs around after) after_them lists.0 lists.1
    (λ vs x. grown_later ((calls {R = FlatLater} {k = later_kept} (context_at setting k) (tasks_below setting k) vs around x).grows))
    (λ vs z' regs' y' x.
    let b : Start setting = start_after setting (start_at setting s d n size turns pc) d d n (omega arith) (omega arith) (omega arith) begins.first x.reached in
    let count = x.reached.kept.registers.count in
    values_there setting placed k b applies (count_forms fs) vs x.words x.value_count x.word_count x.of_values x.in_registers
    (subst (λ m. enough_for (of_code (code_of after_them)) ≤ m) (sym count) (registers_behind (one ++ others) after_them size names)) (omega (arith, words)))))
