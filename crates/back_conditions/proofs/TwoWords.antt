-- **Forms that call a routine with two words**: a throw, a signal, and a signal that is continued.
use Rattle.std.proofs.Common.{ℕ, ◌+◌, ◌<◌, ◌≤◌, Bool, true, false, List, [], ◌∷◌, ◌++◌, length, sym, ap, ◌∙◌, subst, arith}
use Rattle.std.specs.Prelude.{if◌then◌else◌}
use Rattle.lang_meaning.specs.Objects.{serious_condition_class}
use Rattle.lang_meaning.specs.Classes.{is_condition}
use Rattle.lang_meaning.specs.State.{DynamicContext}
use Rattle.lang_meaning.specs.Values.{Value}
use Rattle.flat_language.specs.FlatForm.{FlatForm}
use Rattle.flat_language.specs.FlatMeaning.{mean, mean_signal}
use Rattle.flat_language.specs.FlatNodes.{tables}
use Rattle.flat_language.specs.FlatSignals.{signal, signal_under, signal_domain_error, throw_to, continue_with}
use Rattle.flat_language.specs.FlatState.{FlatEnvironment, FlatState, FlatEvaluated, charged, go_on}
use Rattle.flat_laws.specs.FlatLater.{FlatLater}
use Rattle.flat_laws.proofs.Applied.{signals_under, throws, continues}
use Rattle.flat_laws.proofs.Later.{later_kept}
use Rattle.mid_code.specs.Arena.{word_in}
use Rattle.mid_code.specs.Meaning.{exec}
use Rattle.mid_code.specs.MidCode.{code_of}
use Rattle.mid_code.specs.State.{Registers, MidState, MidOutcome}
use Rattle.mid_arena.proofs.Running.{in_two_parts}
use Rattle.back_lowering.specs.declared.scope.SitePlace.{SitePlace}
use Rattle.back_lowering.specs.declared.scope.SitePlace.TheVariants.{Known, Held}
use Rattle.back_lowering.specs.Codes.{lower, with_two}
use Rattle.back_lowering.specs.ControlWords.{site_address}
use Rattle.back_lowering.specs.Leaves.{site_stored}
use Rattle.back_lowering.specs.Registers.{of_code, enough_for}
use Rattle.back_lowering.specs.Routines.{throw_routine, continue_routine, signal_routine}
use Rattle.back_lowering.specs.Steps.{Steps, call}
use Rattle.back_relation.specs.Setting.{Setting}
use Rattle.back_relation.specs.Room.{words_for, routine_words}
use Rattle.back_relation.specs.Worlds.{World, Standing}
use Rattle.back_relation.specs.Activation.{FormScope}
use Rattle.back_relation.specs.Forms.{Begins, FormStands, context_at, code_at}
use Rattle.back_relation.specs.RoutineClaims.{routine_credit, WordIs, signal_credit}
use Rattle.back_relation.specs.RoutineClaims.{Does as RoutineDoes}
use Rattle.back_relation.specs.Ends.{form_credit, form_spare}
use Rattle.back_relation.specs.Starts.{FlatGrown, Start, EndsAt, SparingAt}
use Rattle.back_relation.proofs.Fitting.{registers_front, registers_behind}
use Rattle.back_relation.proofs.FormGrowth.{form_grows}
use Rattle.back_relation.proofs.Growth.{grown_later, then_grown, both_flat}
use Rattle.back_relation.proofs.Starts.{scope_later, start_after, start_charged, reached_same, behind, two, ends_sparing}
use Rattle.back_relation.proofs.Worlds.{word_later}
use Rattle.back_calling.specs.Storing.{stored_at, standing_world}
use Rattle.back_calling.proofs.Growing.{tasks_below, domain_error_later}
use Rattle.back_calling.proofs.Sited.{failing_law}
use Rattle.back_conditions.specs.Forms.{Does as FormDoes, LawOfThrows, LawOfSignalForms, LawOfContinuing}
use Rattle.back_conditions.proofs.DynamicForms.{from_here}
use Rattle.back_conditions.proofs.Points.{code_grows, form_spared, two_paying}

-- the storing of the site names the second of its two registers
names_site : (p : SitePlace) (d t : ℕ) → t < enough_for (of_code (code_of (site_stored p d t)))
names_site (Known n) d t = omega arith
names_site (Held r) d t = omega arith

-- A routine that is called with the words of two values does what they mean, for so much.
abbrev TwoWordsDo : Setting → (k turns credit routine : ℕ) → (Value → Value → DynamicContext → FlatState → FlatEvaluated) → Type 0
TwoWordsDo setting k turns credit routine act =
    (rs valid : List Standing) (w : World) (around : DynamicContext) (z : FlatState) (y : MidState) (v x : Value) (word second : ℕ) → WordIs setting w word v
    → WordIs setting w second x → RoutineDoes setting k turns rs valid w around z y routine_words credit routine (word ∷ second ∷ []) (act v x around z)

-- what there is for the call, with what the first form leaves
abbrev two_credit : ℕ
two_credit = form_credit + form_spare

module _ (setting : Setting) (k turns credit routine : ℕ) (pays : credit + 72 ≤ two_credit) (act : Value → Value → DynamicContext → FlatState → FlatEvaluated)
    (later : (v x : Value) (around : DynamicContext) (z : FlatState) → FlatLater z (act v x around z).state) (claims : TwoWordsDo setting k turns credit routine act)
    (f g : FlatForm) (f_does : FormDoes setting k turns f) (g_does : FormDoes setting k turns g) where
  module _ (rs valid : List Standing) (s : FormScope) (d n first : ℕ) (w : World) (env : FlatEnvironment) (around : DynamicContext) (z : FlatState) (regs : Registers) (y : MidState)
      (f_stands : FormStands setting s first f) (g_stands : FormStands setting s first g) (begins : Begins setting rs valid s d n w env around z regs y) where
    abbrev pub first_steps : Steps
    first_steps = (lower setting.names setting.at setting.program s.code d f).value

    abbrev pub second_steps : Steps
    second_steps = (lower setting.names setting.at setting.program s.code (d + 1) g).value

    abbrev pub call_steps : Steps
    call_steps = with_two setting.names setting.at setting.program s.code.site d routine

    abbrev meant : Value → FlatState → FlatEvaluated
    meant v after = go_on (mean (context_at setting k) g env around after) (λ x ready. act v x around ready)

    meant_grows : (v : Value) (x : FlatState) → FlatGrown x (meant v x).state
    meant_grows v x =
        both_flat (form_grows setting k g env around x)
        (then_grown (mean (context_at setting k) g env around x) (λ u ready. act v u around ready) (λ u ready. grown_later (later v u around ready)))

    -- **both values, and the routine**
    pub two_words :
        enough_for (of_code (code_of (first_steps ++ (second_steps ++ call_steps)))) ≤ length regs → words_for setting.names setting.program f ≤ n
        → words_for setting.names setting.program g ≤ n → routine_words ≤ n
        → SparingAt setting (from_here setting k turns rs valid s d n env around w z regs y begins)
        (go_on (mean (context_at setting k) f env around (charged 1 z)) (λ v after. meant v after)) (exec (code_at setting k turns) (code_of (first_steps ++ (second_steps ++ call_steps))) regs y)
    two_words names f_words g_words room =
        ends_sparing setting {c1 = form_credit} (from_here setting k turns rs valid s d n env around w z regs y begins) 1 (omega arith) (omega arith)
        (subst (λ q. EndsAt setting form_credit a (go_on (mean (context_at setting k) f env around (charged 1 z)) (λ v after. meant v after)) q)
        (sym (in_two_parts (code_at setting k turns) first_steps (second_steps ++ call_steps) regs y))
        (two_paying setting {c2 = two_credit} {c = form_credit} a d (λ v after. meant v after) (λ r v. exec (code_at setting k turns) (code_of (second_steps ++ call_steps)) r v) (omega arith) (omega arith)
        (code_grows setting k turns (code_of first_steps) regs y).cost
        (f_does rs valid s d n first w env around (charged 1 z) regs y f_stands a.begins (registers_front first_steps (second_steps ++ call_steps) (length regs) names) f_words)
        (λ v x. meant_grows v x) (λ r v. code_grows setting k turns (code_of (second_steps ++ call_steps)) r v)
        (λ x.
        let b = start_after setting (start_charged setting a 1) d d n (omega arith) (omega arith) (omega arith) begins.first x.reached in
        let size = x.reached.kept.registers.count in
        subst (λ q. EndsAt setting two_credit b (meant x.result (mean (context_at setting k) f env around (charged 1 z)).state) q)
        (sym (in_two_parts (code_at setting k turns) second_steps call_steps b.regs b.y))
        (two setting {c1 = 0} {c2 = two_credit} b (d + 1) (λ u ready. act x.result u around ready) (λ r v. exec (code_at setting k turns) (code_of call_steps) r v) (omega arith) (omega arith)
        (form_grows setting k g env around (mean (context_at setting k) f env around (charged 1 z)).state).units
        (form_spared setting turns (begins_second b (omega (arith, fits, size)))
        (g_does rs valid s (d + 1) n first x.w' env around (mean (context_at setting k) f env around (charged 1 z)).state b.regs b.y g_stands
        (begins_second b (omega (arith, fits, size)))
        (subst (λ m. enough_for (of_code (code_of second_steps)) ≤ m) (sym size)
        (registers_front second_steps call_steps (length regs) (registers_behind first_steps (second_steps ++ call_steps) (length regs) names)))
        g_words))
        (λ u ready. grown_later (later x.result u around ready)) (λ r v. code_grows setting k turns (code_of call_steps) r v)
        (λ x2.
        let e = start_after setting b (d + 1) d n (omega arith) (omega arith) (omega arith) b.begins.first x2.reached in
        let second = x2.reached.kept.registers in
        less e
        ((failing_law setting).two k routine_words credit e d routine x.word x2.word (act x.result x2.result around e.z) (omega arith) (omega (arith, fits, size, second.count)) room
        (ap word_in (second.same d (omega arith) (λ i slot. let low = begins.scope.slots_below i d slot in omega (arith, low))) ∙ x.in_register) x2.in_register
        (later x.result x2.result around e.z)
        (λ number paid.
        claims e.rs e.valid (standing_world e.w e.y) e.around e.z (stored_at site_address number paid e.y) x.result x2.result x.word x2.word
        (word_later x2.reached.kept.world.later x.result x.word x.of_value) x2.of_value)))))))
      where
        a : Start setting
        a = start_charged setting (from_here setting k turns rs valid s d n env around w z regs y begins) 1

        fits : d + 3 < length regs
        fits =
            let behind = registers_behind second_steps call_steps (length regs) (registers_behind first_steps (second_steps ++ call_steps) (length regs) names) in
            let front = registers_front (site_stored s.code.site (d + 2) (d + 3)) (call d routine (d ∷ (d + 1) ∷ []) ∷ []) (length regs) behind in
            let site = names_site s.code.site (d + 2) (d + 3) in
            omega (arith, front, site)

        -- where the second value's code begins
        begins_second :
            (b : Start setting) → b.d + 1 < length b.regs → Begins setting b.rs b.valid b.s (b.d + 1) b.n b.w b.env b.around b.z b.regs b.y
        begins_second b there = record {
          call = b.begins.call;
          activation = b.begins.activation;
          scope = scope_later b.s.code b.d (b.d + 1) (omega arith) b.begins.scope;
          method_there = b.begins.method_there;
          first = there;
        }

        less : (e : Start setting) {r : FlatEvaluated} {q : MidOutcome} → EndsAt setting (credit + 72) e r q → EndsAt setting two_credit e r q
        less e {r} {q} x = behind setting {c1 = 0} {c2 = credit + 72} e e.d (omega arith) (reached_same setting e e.d) (omega (arith, pays)) (omega arith) x

-- ---- the forms

module _ (setting : Setting) (k : ℕ) where
  signal_later : (c mark : Value) (around : DynamicContext) (z : FlatState) → FlatLater z (mean_signal (context_at setting k) c mark around z).state
  signal_later c mark around z = by (is_condition (tables setting.program) z.state c)
    where
      by :
          (b : Bool)
          → FlatLater z
          (if b then signal_under (context_at setting k) around.handlers c mark around z
          else signal_domain_error (context_at setting k) (signal (context_at setting k)) c serious_condition_class around z).state
      by true = (signals_under {R = FlatLater} {k = later_kept} (context_at setting k) (tasks_below setting k) around.handlers c mark around z).grows
      by false = domain_error_later setting k c serious_condition_class around z

pub throws_law : LawOfThrows
unfolding mean lower
throws_law setting k turns tag f claims tag_does f_does rs valid s d n first w env around z regs y stands begins registers words =
    two_words setting k turns routine_credit (throw_routine setting.at) (omega arith) (λ v x inner q. throw_to (context_at setting k) v x inner q)
    (λ v x inner q. (throws {R = FlatLater} {k = later_kept} (context_at setting k) (tasks_below setting k) v x inner q).grows) claims tag f tag_does f_does rs valid s d n first w env around z regs y
    (record { stands = stands.stands.0; fits = stands.fits.0; leads = stands.leads.0; placed = stands.placed.0; forms_known = stands.forms_known })
    (record { stands = stands.stands.1; fits = stands.fits.1; leads = stands.leads.1; placed = stands.placed.1; forms_known = stands.forms_known }) begins registers (omega (arith, words)) (omega (arith, words))
    (omega (arith, words))

pub signals_law : LawOfSignalForms
unfolding mean lower
signals_law setting k turns condition mark claims condition_does mark_does rs valid s d n first w env around z regs y stands begins registers words =
    two_words setting k turns signal_credit (signal_routine setting.at) (omega arith) (λ v x inner q. mean_signal (context_at setting k) v x inner q) (λ v x inner q. signal_later setting k v x inner q) claims
    condition mark condition_does mark_does rs valid s d n first w env around z regs y
    (record { stands = stands.stands.0; fits = stands.fits.0; leads = stands.leads.0; placed = stands.placed.0; forms_known = stands.forms_known })
    (record { stands = stands.stands.1; fits = stands.fits.1; leads = stands.leads.1; placed = stands.placed.1; forms_known = stands.forms_known }) begins registers (omega (arith, words)) (omega (arith, words))
    (omega (arith, words))

pub continuing_law : LawOfContinuing
unfolding mean lower
continuing_law setting k turns condition f claims condition_does f_does rs valid s d n first w env around z regs y stands begins registers words =
    two_words setting k turns routine_credit (continue_routine setting.at) (omega arith) (λ v x inner q. continue_with (context_at setting k) v x inner q)
    (λ v x inner q. (continues {R = FlatLater} {k = later_kept} (context_at setting k) (tasks_below setting k) v x inner q).grows) claims condition f condition_does f_does rs valid s d n first w env around z
    regs y (record { stands = stands.stands.0; fits = stands.fits.0; leads = stands.leads.0; placed = stands.placed.0; forms_known = stands.forms_known })
    (record { stands = stands.stands.1; fits = stands.fits.1; leads = stands.leads.1; placed = stands.placed.1; forms_known = stands.forms_known }) begins registers (omega (arith, words)) (omega (arith, words))
    (omega (arith, words))
