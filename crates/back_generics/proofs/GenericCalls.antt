-- A call of a generic function by its name: its arguments run, their words are lent, and the routine is called; or a condition is signalled.
use Rattle.std.proofs.lemmas.Option.{slice_get_within}
use Rattle.std.specs.Prelude.{map, take, slice_get, Bool, true, false, if◌then◌else◌}
use Rattle.lang_meaning.specs.declared.program.GenericRow.{GenericRow}
use Rattle.lang_meaning.specs.Literals.{function_row}
use Rattle.lang_meaning.specs.Lookup.{text}
use Rattle.lang_meaning.specs.Signals.{takes}
use Rattle.lang_meaning.specs.Objects.{program_error_class}
use Rattle.flat_laws.proofs.Applied.{row_applies}
use Rattle.flat_laws.proofs.Applied.{signals as all_signals}
use Rattle.back_lowering.specs.Calls.{call_name, call_callee, call_generic}
use Rattle.back_lowering.specs.Leaves.{failing}
use Rattle.back_lowering.specs.Routines.{failing_routine}
use Rattle.back_relation.specs.Room.{row_of, words_for_call, words_for_callee}
use Rattle.back_relation.specs.Things.{Things}
use Rattle.back_relation.specs.RoutineClaims.{routine_credit}
use Rattle.back_function_entries.specs.KnownCalls.{Fails}
use Rattle.back_calling.proofs.Sited.{failing_law}
use Rattle.std.proofs.Common.{◌≡◌, ℕ, ◌+◌, ◌*◌, ◌^◌, ◌<◌, ◌≤◌, List, [], ◌∷◌, ◌++◌, length, Some, refl, sym, ap, ◌∙◌, subst, arith}
use Rattle.std.specs.Prelude.{slice_set}
use Rattle.std.proofs.Math.ListN.{length-set}
use Rattle.lang_meaning.specs.Values.{Value}
use Rattle.flat_language.specs.FlatMeaning.{mean}
use Rattle.flat_language.specs.FlatNodes.{count_forms}
use Rattle.flat_language.specs.FlatSignals.{signal, apply_row, apply_callee, apply_generic_row, apply_chain}
use Rattle.lang_meaning.specs.Classes.{class_of, chain}
use Rattle.flat_language.specs.FlatNodes.{tables}
use Rattle.flat_language.specs.FlatState.{FlatState, FlatEvaluated, charged}
use Rattle.flat_laws.specs.FlatLater.{FlatLater}
use Rattle.flat_laws.proofs.Later.{later_kept}
use Rattle.mid_code.specs.Arena.{word_in, word_at}
use Rattle.mid_code.specs.Meaning.{exec}
use Rattle.mid_code.specs.MidCode.{code_of}
use Rattle.mid_code.specs.State.{Registers, MidState}
use Rattle.mid_arena.specs.Places.{of_other, WordsOf}
use Rattle.mid_arena.proofs.Memory.{spot_low}
use Rattle.mid_arena.proofs.Lists.{set_elsewhere}
use Rattle.mid_arena.proofs.Registers.{register_here, register_beside}
use Rattle.mid_arena.proofs.Running.{and_then, none_left, costing, constant_falls, load_falls, address_here}
use Rattle.back_lowering.specs.Calls.{with_words}
use Rattle.back_lowering.specs.Codes.{lower, lower_arguments}
use Rattle.back_lowering.specs.ControlWords.{site_address}
use Rattle.back_lowering.specs.Leaves.{site_stored}
use Rattle.back_lowering.specs.Registers.{of_code, enough_for}
use Rattle.back_lowering.specs.Routines.{generic_routine}
use Rattle.back_lowering.specs.Steps.{Steps, constant, load, words_stored}
use Rattle.back_lowering.specs.Steps as steps
use Rattle.back_relation.specs.Setting.{Setting, ConstantAt}
use Rattle.back_relation.specs.Room.{generic_words}
use Rattle.back_relation.specs.Placed.{IsPlaced}
use Rattle.back_relation.specs.Worlds.{World}
use Rattle.back_relation.specs.Forms.{FormEnds, context_at, code_at}
use Rattle.back_relation.specs.RoutineClaims.{generic_credit, IsBuiltInCondition}
use Rattle.back_relation.specs.Points.{Point, start_at}
use Rattle.back_relation.specs.Starts.{Start, EndsAt}
use Rattle.back_relation.proofs.Fitting.{registers_front, registers_behind}
use Rattle.back_relation.proofs.Growth.{grown_later}
use Rattle.back_relation.proofs.Parts.{single_step}
use Rattle.back_relation.proofs.Starts.{start_after, start_charged, reached_same, behind, ends_sparing}
use Rattle.back_values.specs.Arguments.{WordsIn}
use Rattle.back_values.proofs.Arguments.{arguments_law}
use Rattle.back_values.proofs.Lists.{argument_lists_law}
use Rattle.back_conditions.proofs.Cells.{WordsFrom}
use Rattle.back_conditions.proofs.DynamicForms.{names_inside}
use Rattle.back_calling.specs.Storing.{stored_at, standing_world}
use Rattle.back_calling.proofs.Growing.{tasks_below}
use Rattle.back_calling.proofs.Sited.{sited_calls_law, reached_sited}
use Rattle.back_function_entries.proofs.KnownCalls.{site_names}
use Rattle.back_generics.specs.GenericCalls.{AppliesGenerics, LawOfGenericCalls}
use Rattle.back_generics.proofs.Given.{lent_then}
use Rattle.back_generics.proofs.ValueCalls.{words_from}
use Rattle.back_generics.proofs.Words.{Inside, words_lent_to}

program_error_is : IsBuiltInCondition program_error_class 0
program_error_is = record { low = omega arith; high = omega arith; slots = refl }

-- a word behind all objects
constant_at : (setting : Setting) {w : World} {z : FlatState} {y : MidState} → Things setting w z y → (address word : ℕ) → ConstantAt setting address word
    → (address < 2 ^ 26) × (word_at y.arena address ≡ Some word)
constant_at setting {w} {z} {y} t address word h =
    let old = t.further h.number word h.found in
    let end = spot_low t.represents.arena (t.represents.spots (of_other 2) _ old.0) in
    let few = slice_get_within setting.further h.number word h.found in
    let here = h.here in
    (omega (arith, end, few, here), subst (λ x. word_at y.arena x ≡ Some word) (sym here) old.1)

module _ (setting : Setting) (placed : IsPlaced setting) (k : ℕ) (a : Start setting) (applies : AppliesGenerics setting k a.turns) (g : ℕ) (row : GenericRow)
    (found : slice_get setting.program.generics g ≡ Some row) (vs : List Value) (ws : List ℕ) (of_values : WordsOf a.w.places vs ws) (many : length vs ≡ length ws)
    (words_held : WordsFrom a.d ws a.regs) where
  abbrev e : ℕ
  e = a.d + length ws

  abbrev u : ℕ
  u = a.d + length ws + 1

  abbrev site : Steps
  site = site_stored a.s.code.site u (a.d + length ws + 2)

  abbrev between : Steps
  between = constant u (setting.at.generics + 4 * g) ∷ load u u 0 ∷ constant (a.d + length ws + 2) (length ws) ∷ []

  abbrev the_call : Steps
  the_call = between ++ (steps.call a.d (generic_routine setting.at) (u ∷ (a.d + length ws + 2) ∷ e ∷ []) ∷ [])

  abbrev applied : FlatEvaluated
  applied = apply_generic_row (context_at setting k) (signal (context_at setting k)) (Some row) vs a.around a.z

  abbrev call_credit : ℕ
  call_credit = generic_credit (length vs) + 98

  module _ (grows : FlatLater a.z applied.state) where
    inside_does :
        (there : a.d + length ws + 2 < length a.regs) (low : a.d ≤ a.d) (fits : a.d + length ws + 2 < length a.regs) (w1 : World) (regs : Registers) (y : MidState)
        → Inside setting placed a k a.d vs ws of_values many words_held low fits generic_words w1 regs y
        → FormEnds setting call_credit a.turns a.rs a.valid a.s a.d w1 a.env a.around a.z regs y applied (exec (code_at setting k a.turns) (code_of (site ++ the_call)) regs y)
    inside_does there low fits w1 regs y x =
        let b : Start setting =
        record { turns = a.turns; rs = a.rs; valid = a.valid; s = a.s; d = a.d; n = generic_words; w = w1; env = a.env; around = a.around; z = a.z; regs = regs; y = y; begins = x.laid.begins } in
        let count = x.laid.register_count in
        let at = placed.generics g row found in
        let t : ℕ = a.d + length ws + 2 in
        sited_calls_law setting k b call_credit generic_words (generic_credit (length vs)) 20 a.d u t (generic_routine setting.at) between
        (u ∷ t ∷ e ∷ []) (at.0 ∷ length vs ∷ x.address ∷ []) applied (omega arith) (omega arith) (omega arith) (omega arith) (omega (arith, there, count)) (omega arith) grows
        (λ h number paid others.
        let r = reached_sited setting b a.d number paid paid regs (omega arith) (omega arith) (λ i f. refl) refl in
        let word = constant_at setting r.kept.world.things (setting.at.generics + 4 * g) at.0 at.1 in
        let few = word.0 in
        let size = others.count in
        let h1 : Registers = slice_set h u (Some (setting.at.generics + 4 * g)) in
        let h2 : Registers = slice_set h1 u (Some at.0) in
        let h3 : Registers = slice_set h2 t (Some (length ws)) in
        let c1 : length h1 ≡ length h = length-set h u (Some (setting.at.generics + 4 * g)) in
        let c2 : length h2 ≡ length h = length-set h1 u (Some at.0) ∙ c1 in
        record {
          regs' = h3;
          runs =
              (costing
              (and_then constant_falls
              (and_then (load_falls (register_here h u (setting.at.generics + 4 * g) (omega (arith, there, count, size))) (address_here (setting.at.generics + 4 * g) (omega (arith, few))) word.1)
              (and_then constant_falls none_left)))
              (omega arith)).same;
          arguments_there = (
            register_beside h2 t u (Some (length ws)) (λ i. omega (arith, i)) ∙ register_here h1 u at.0 (omega (arith, there, count, size, c1)),
            (
              register_here h2 t (length ws) (omega (arith, there, count, size, c2)) ∙ ap (λ i. Some i) (sym many),
              (
                register_beside h2 t e (Some (length ws)) (λ i. omega (arith, i)) ∙ register_beside h1 u e (Some at.0) (λ i. omega (arith, i))
                    ∙ register_beside h u e (Some (setting.at.generics + 4 * g)) (λ i. omega (arith, i)) ∙ ap word_in (others.same e (λ i. omega (arith, i)) (λ i. omega (arith, i))) ∙ x.block_held,
                tt,
              ),
            ),
          );
          below = λ i f.
              set_elsewhere h2 t i (Some (length ws)) (λ same. omega (arith, same, f)) ∙ set_elsewhere h1 u i (Some at.0) (λ same. omega (arith, same, f))
              ∙ set_elsewhere h u i (Some (setting.at.generics + 4 * g)) (λ same. omega (arith, same, f));
          count = length-set h2 t (Some (length ws)) ∙ c2;
        })
        (λ number paid.
        let r = reached_sited setting b a.d number paid paid regs (omega arith) (omega arith) (λ i f. refl) refl in
        applies a.rs a.valid (standing_world w1 y) a.around a.z (stored_at site_address number paid y) row vs at.0 x.address at.2
        (placed.generic_names g row found) (lent_then setting r.kept.world r.back x.lent))

    abbrev code : Steps
    code = with_words setting.at setting.program (length ws) a.d (site ++ the_call)

    pub generic_applied :
        enough_for (of_code (code_of code)) ≤ length a.regs → generic_words + (length ws + 2) ≤ a.n
        → EndsAt setting (48 + 24 * length ws + call_credit) a applied (exec (code_at setting k a.turns) (code_of code) a.regs a.y)
    generic_applied names room =
        let stored : Steps = words_stored (length ws) a.d e (e + 1) 0 in
        let inner_names : enough_for (of_code (code_of (stored ++ (site ++ the_call)))) ≤ length a.regs = names_inside e (length ws) a.d (length a.regs) (code_of (stored ++ (site ++ the_call))) (code_of []) names in
        let site_enough = registers_front site the_call (length a.regs) (registers_behind stored (site ++ the_call) (length a.regs) inner_names) in
        let next_register : u + 1 ≡ a.d + length ws + 2 = omega arith in
        let two : u + 1 < length a.regs =
        site_names a.s.code.site u (length a.regs) (subst (λ r. enough_for (of_code (code_of (site_stored a.s.code.site u r))) ≤ length a.regs) (sym next_register) site_enough) in
        subst (λ q. EndsAt setting (48 + 24 * length ws + call_credit) a applied q) (sym (single_step (code_at setting k a.turns) _ a.regs a.y))
        (words_lent_to setting placed a k a.d vs ws of_values many words_held (omega arith) (omega (arith, two)) generic_words call_credit a.d (site ++ the_call) room (grown_later grows)
        (registers_front stored (site ++ the_call) (length a.regs) inner_names)
        (λ w1 regs y x. inside_does (omega (arith, two)) (omega arith) (omega (arith, two)) w1 regs y x))

module _ (setting : Setting) (placed : IsPlaced setting) (k : ℕ) (a : Start setting) (applies : AppliesGenerics setting k a.turns) (fails : Fails setting k a.turns) (g : ℕ) (row : GenericRow)
    (found : slice_get setting.program.generics g ≡ Some row) (count : ℕ) where
  abbrev whole_credit : ℕ
  whole_credit = 636 + 484 * count

  abbrev means : List Value → FlatEvaluated
  means vs = apply_generic_row (context_at setting k) (signal (context_at setting k)) (Some row) vs a.around a.z

  abbrev failing_code : Steps
  failing_code = failing setting.at a.s.code.site a.d program_error_class

  abbrev right_code : ℕ → Steps
  right_code n =
      with_words setting.at setting.program n a.d
      (site_stored a.s.code.site (a.d + n + 1) (a.d + n + 2)
      ++ (constant (a.d + n + 1) (setting.at.generics + 4 * g) ∷ load (a.d + n + 1) (a.d + n + 1) 0 ∷ constant (a.d + n + 2) n
      ∷ steps.call a.d (generic_routine setting.at) ((a.d + n + 1) ∷ (a.d + n + 2) ∷ (a.d + n) ∷ []) ∷ []))

  pub generics_there :
      (vs : List Value) (ws : List ℕ) → length vs ≡ count → length ws ≡ count → WordsOf a.w.places vs ws → WordsIn a.d ws a.regs → generic_words + (count + 2) ≤ a.n
      → FlatLater a.z (means vs).state → (t : Bool) → takes row.required row.rest count ≡ t
      → enough_for (of_code (code_of (if t then right_code count else failing_code))) ≤ length a.regs
      → EndsAt setting whole_credit a (means vs) (exec (code_at setting k a.turns) (code_of (if t then right_code count else failing_code)) a.regs a.y)
  generics_there vs ws m l of_values held room grows true is names =
      let many : length vs ≡ length ws = omega (arith, m, l) in
      let cost : 48 + 24 * length ws + (generic_credit (length vs) + 98) ≡ whole_credit = omega (arith, l, m) in
      subst (λ i. EndsAt setting whole_credit a (means vs) (exec (code_at setting k a.turns) (code_of (right_code i)) a.regs a.y)) l
      (subst (λ i. EndsAt setting i a (means vs) (exec (code_at setting k a.turns) (code_of (right_code (length ws))) a.regs a.y)) cost
      (generic_applied setting placed k a applies g row found vs ws of_values many (words_from a.d ws a.regs held) grows
      (subst (λ i. enough_for (of_code (code_of (right_code i))) ≤ length a.regs) (sym l) names) (omega (arith, room, l))))
  generics_there vs ws m l of_values held room grows false is names =
      let wrong : takes row.required row.rest (length vs) ≡ false = ap (λ i. takes row.required row.rest i) m ∙ is in
      let two : a.d + 1 < length a.regs =
      site_names a.s.code.site a.d (length a.regs)
      (registers_front (site_stored a.s.code.site a.d (a.d + 1)) (constant a.d program_error_class ∷ steps.call a.d (failing_routine setting.at) (a.d ∷ []) ∷ []) (length a.regs) names) in
      subst (λ r. EndsAt setting whole_credit a r (exec (code_at setting k a.turns) (code_of failing_code) a.regs a.y))
      (sym (ap (λ t. if t then apply_chain (context_at setting k) (signal (context_at setting k)) row (chain (tables setting.program) row (map (class_of a.z.state) (take row.required vs))) vs a.around a.z else signal (context_at setting k) program_error_class [] a.around a.z) wrong))
      (behind setting {c1 = 0} {c2 = routine_credit + 72} {c = whole_credit} a a.d (omega arith) (reached_same setting a a.d) (omega arith) (omega arith)
      ((failing_law setting).class_alone k routine_credit a a.d program_error_class (omega arith) two (omega (arith, room))
      (λ number paid. fails a.rs a.valid (standing_world a.w a.y) a.around a.z (stored_at site_address number paid a.y) program_error_class program_error_is)))

pub generic_calls_law : LawOfGenericCalls
unfolding mean lower
generic_calls_law setting k turns name fs placed known does applies fails rs valid s d n first w env around z regs y stands begins registers words =
    let size : ℕ = length regs in
    let count : ℕ = count_forms fs in
    let front = lower_arguments setting.names setting.at setting.program s.code d fs in
    let after_them : Steps = call_name setting.at setting.program name (function_row setting.names setting.program.functions (text setting.names name)) count d s.code.site in
    let right : Steps = call_generic setting.at setting.program known.number (Some known.generic) count d s.code.site in
    let code_is : after_them ≡ right =
    ap (λ o. call_name setting.at setting.program name o count d s.code.site) known.there ∙ ap (λ x. call_callee setting.at setting.program x count d s.code.site) known.callee
    ∙ ap (λ o. call_generic setting.at setting.program known.number o count d s.code.site) known.found in
    let call_words : words_for_call setting.names setting.program (row_of setting.names setting.program name) count ≤ n = omega (arith, words) in
    let row_words : words_for_callee setting.names setting.program known.row.callee count ≤ n = subst (λ o. words_for_call setting.names setting.program o count ≤ n) known.there call_words in
    let room : generic_words + (count + 2) ≤ n = omega (arith, subst (λ x. words_for_callee setting.names setting.program x count ≤ n) known.callee row_words) in
    let units : ℕ = 2 + count in
    let p0 : Point setting s d n size = record { rs = rs; valid = valid; w = w; env = env; around = around; z = z; regs = regs; y = y; begins = begins; count = refl } in
    let pc : Point setting s d n size = record {
      rs = rs;
      valid = valid;
      w = w;
      env = env;
      around = around;
      z = charged units z;
      regs = regs;
      y = y;
      begins = (start_charged setting (start_at setting s d n size turns p0) units).begins;
      count = refl;
    } in
    let next : List Value → FlatState → FlatEvaluated =
    λ vs x. apply_row (context_at setting k) (signal (context_at setting k)) (text setting.names name) (function_row setting.names setting.program.functions (text setting.names name)) vs around x in
    let next_is : (vs : List Value) (x : FlatState) → next vs x ≡ apply_generic_row (context_at setting k) (signal (context_at setting k)) (Some known.generic) vs around x =
    λ vs x. ap (λ o. apply_row (context_at setting k) (signal (context_at setting k)) (text setting.names name) o vs around x) known.there
    ∙ ap (λ c. apply_callee (context_at setting k) (signal (context_at setting k)) c vs around x) known.callee
    ∙ ap (λ o. apply_generic_row (context_at setting k) (signal (context_at setting k)) o vs around x) known.found in
    let later : (vs : List Value) (x : FlatState) → FlatLater x (next vs x).state =
    λ vs x. (row_applies {R = FlatLater} {k = later_kept} (context_at setting k) (tasks_below setting k) (signal (context_at setting k))
    (all_signals {R = FlatLater} {k = later_kept} (context_at setting k) (tasks_below setting k)) (text setting.names name)
    (function_row setting.names setting.program.functions (text setting.names name)) vs around x).grows in
    let lists =
    argument_lists_law setting s d n size k turns first fs does stands.stands stands.fits stands.leads stands.placed.1 stands.forms_known begins.first
    (registers_front front after_them size registers) (omega (arith, words)) in
    let total : ℕ = 636 + 484 * count in
    ends_sparing setting {c1 = total} (start_at setting s d n size turns p0) units (omega arith) (omega arith)
    (arguments_law setting s d n size k turns total fs pc next after_them lists.0 lists.1 (λ vs x. grown_later (later vs x))
    (λ vs z' regs' y' x.
    let b : Start setting = start_after setting (start_at setting s d n size turns pc) d d n (omega arith) (omega arith) (omega arith) begins.first x.reached in
    let same = x.reached.kept.registers.count in
    let names : enough_for (of_code (code_of right)) ≤ length regs' =
    subst (λ m. enough_for (of_code (code_of right)) ≤ m) (sym same) (subst (λ ss. enough_for (of_code (code_of ss)) ≤ size) code_is (registers_behind front after_them size registers)) in
    subst (λ ss. EndsAt setting total b (next vs z') (exec (code_at setting k turns) (code_of ss) regs' y')) (sym code_is)
    (subst (λ r. EndsAt setting total b r (exec (code_at setting k turns) (code_of right) regs' y')) (sym (next_is vs z'))
    (generics_there setting placed k b applies fails known.number known.generic known.found count vs x.words x.value_count x.word_count x.of_values x.in_registers room
    (subst (λ (r : FlatEvaluated). FlatLater z' r.state) (next_is vs z') (later vs z')) (takes known.generic.required known.generic.rest count) refl names))))
