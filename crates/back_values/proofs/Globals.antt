-- Global variables are read, set and defined.
use Rattle.std.proofs.Common.{◌≡◌, ℕ, ◌+◌, ◌^◌, ◌<◌, ◌≤◌, true, false, List, [], ◌∷◌, ◌++◌, length, Option, Some, None, refl, sym, ap, ◌∙◌, subst, arith}
use Rattle.std.specs.Prelude.{slice_get, slice_set}
use Rattle.std.proofs.lemmas.Bool.{eq-eqb, ne_eqb}
use Rattle.std.proofs.Math.ListN.{length-set}
use Rattle.lang_meaning.specs.Lookup.{text, under_text}
use Rattle.lang_meaning.specs.Objects.{unbound_variable_class}
use Rattle.lang_meaning.specs.State.{State, DynamicContext}
use Rattle.lang_meaning.specs.Values.{Value, symbol, named}
use Rattle.flat_language.specs.FlatForm.{FlatForm, global, set_global, def_global}
use Rattle.flat_language.specs.FlatMeaning.{mean, mean_global, set_global_to}
use Rattle.flat_language.specs.FlatNodes.{tables}
use Rattle.flat_language.specs.FlatSignals.{signal, unbound_variable}
use Rattle.flat_language.specs.FlatSignals.{with_some as flat_with_some}
use Rattle.flat_language.specs.FlatState.{FlatState, FlatAct, gives, charged, on_state}
use Rattle.mid_code.specs.declared.operation.Comparison.TheVariants.{Equal}
use Rattle.mid_code.specs.Arena.{word_in, word_at, with_word}
use Rattle.mid_code.specs.Meaning.{Context, exec}
use Rattle.mid_code.specs.MidCode.{code_of}
use Rattle.mid_code.specs.State.{Registers, register, MidState, with_arena}
use Rattle.mid_code.specs.State.{charged as mid_charged}
use Rattle.mid_arena.specs.Places.{of_other, word_of}
use Rattle.mid_arena.proofs.Growing.{spot_below}
use Rattle.mid_arena.specs.Standing.{SlotAt}
use Rattle.mid_arena.specs.Tags.{unbound_word}
use Rattle.mid_arena.proofs.Lists.{set_elsewhere}
use Rattle.mid_arena.proofs.Registers.{register_here, register_beside}
use Rattle.mid_arena.proofs.Running.{RunsTo, and_then, none_left, constant_falls, parts_then, in_two_parts}
use Rattle.mid_arena.proofs.ValueWords.{tells_value}
use Rattle.back_lowering.specs.Codes.{lower, global_code, set_global_code, def_global_code}
use Rattle.back_lowering.specs.Leaves.{failing_with}
use Rattle.back_lowering.specs.Placement.{global_address, symbol_word}
use Rattle.back_lowering.specs.Steps.{Steps, constant, if_equal, test_of, load_from, store_to}
use Rattle.back_relation.specs.Setting.{Setting, control_spot}
use Rattle.back_relation.specs.Worlds.{World}
use Rattle.back_relation.specs.Activation.{FormScope}
use Rattle.back_relation.specs.Placed.{HasGlobal, HasSymbol, IsPlaced}
use Rattle.back_relation.specs.Forms.{context_at, code_at}
use Rattle.back_relation.specs.Ends.{form_credit}
use Rattle.back_relation.specs.Points.{Point, start_at, run, value_steps, Here}
use Rattle.back_relation.specs.Starts.{FlatGrown, Start, EndsAt, ReachedFrom}
use Rattle.back_relation.proofs.Activations.{activation_later}
use Rattle.back_relation.proofs.Choices.{choice, tested}
use Rattle.back_relation.proofs.FormGrowth.{form_grows}
use Rattle.back_relation.proofs.Growth.{same_prefix}
use Rattle.back_relation.proofs.Parts.{single_step}
use Rattle.back_relation.proofs.Points.{point_after, code_grows}
use Rattle.back_relation.proofs.Starts.{start_charged, behind, two, given_already, gives_run, ends_sparing, ends_spared}
use Rattle.back_relation.proofs.Straight.{same_here, world_cost, around_cost}
use Rattle.back_relation.proofs.Then.{same_world}
use Rattle.back_relation.proofs.Worlds.{later_same}
use Rattle.back_values.specs.Boxes.{Clean}
use Rattle.back_values.specs.Globals.{FailsHere, LawOfGlobals, LawOfSettingGlobals, LawOfDefinitions, named_credit}
use Rattle.back_values.proofs.Cleaning.{is_clean, reached_clean}
use Rattle.back_values.proofs.Far.{Stored, load_from_runs, store_to_runs, charged_twice}
use Rattle.back_values.proofs.NewGlobals.{new_global}
use Rattle.back_values.proofs.SetVariables.{given_where}
use Rattle.back_values.proofs.Signals.{signal_grows}

-- registers that code may use are others
pub reached_registers :
    (setting : Setting) {credit : ℕ} (a : Start setting) (regs : Registers) (cost : ℕ) → length regs ≡ length a.regs
    → ((i : ℕ) → i < a.d → slice_get regs i ≡ slice_get a.regs i) → cost ≤ credit → ReachedFrom setting credit a a.d a.w a.z regs (mid_charged cost a.y)
reached_registers setting {credit} a regs cost count same h = record {
  kept = record {
    world = world_cost setting cost a.begins.call.things;
    activation =
        activation_later setting {d = a.d} {y = a.y} (later_same a.w) (same_here a.w refl) refl (λ n cs k. k) (λ i few. ap word_in (same i few)) a.begins.scope
        a.begins.activation;
    registers = record { count = count; same = λ i few free. same i few };
  };
  back = around_cost setting a.z a.y cost h;
}

-- the word of a slot, whatever it has
abbrev WordFor : World → Option Value → ℕ → Type 0
WordFor w None word = word ≡ unbound_word
WordFor w (Some v) word = word_of w.places v ≡ Some word

slot_word : (w : World) (y : MidState) (x : ℕ) (o : Option Value) → SlotAt w.places y.arena x o → (word : ℕ) × (word_at y.arena x ≡ Some word) × WordFor w o word
slot_word w y x None h = (unbound_word, h, refl)
slot_word w y x (Some v) h = (h.word, h.stands, h.of_value)

module _ (setting : Setting) (placed : IsPlaced setting) (s : FormScope) (d m size k n name : ℕ) (has : HasGlobal setting name) where
  abbrev start : Point setting s d m size → Start setting
  start p = start_at setting s d m size n p

  abbrev c : Context
  c = code_at setting k n

  abbrev name_text : List ℕ
  name_text = text setting.names name

  abbrev failing : Steps
  failing = failing_with setting.at s.code.site d unbound_variable_class (symbol_word setting.at name)

  abbrev wrong : FlatAct
  wrong = unbound_variable (signal (context_at setting k)) name_text

  abbrev tested_point : Point setting s d m size → Point setting s d m size
  tested_point p = record {
    rs = p.rs;
    valid = p.valid;
    w = p.w;
    env = p.env;
    around = p.around;
    z = p.z;
    regs = p.regs;
    y = mid_charged 12 p.y;
    begins = (tested setting (start p)).begins;
    count = p.count;
  }

  -- the word of the variable is compared with the one that says that there is no value
  bound_tested :
      (q : Point setting s d m size) (r1 r2 word : ℕ) (o : Option Value) (otherwise : Steps) (next : Value → FlatAct) → register r1 q.regs ≡ Some word
      → register r2 q.regs ≡ Some unbound_word → WordFor q.w o word → FailsHere setting s d m size k n unbound_variable_class name
      → ((v : Value) → q.z.state.units ≤ (next v q.around q.z).state.state.units)
      → ((v : Value) → word_of q.w.places v ≡ Some word
      → EndsAt setting named_credit (start (tested_point q)) (next v q.around q.z) (run setting s d m size k n otherwise q.regs (mid_charged 12 q.y)))
      → EndsAt setting (named_credit + 14) (start q) (flat_with_some o wrong next q.around q.z) (run setting s d m size k n (if_equal r1 r2 failing otherwise ∷ []) q.regs q.y)
  bound_tested q r1 r2 word None otherwise next e1 e2 is fails up goes =
      subst (λ t. EndsAt setting (named_credit + 14) (start q) (wrong q.around q.z) t) (sym (single_step c (if_equal r1 r2 failing otherwise) q.regs q.y))
      (choice setting {c1 = named_credit} c (start q) (test_of Equal r1 r2) (code_of failing) (code_of otherwise) word unbound_word true (wrong q.around q.z) (wrong q.around q.z) e1 e2
      (eq-eqb word unbound_word is) (omega arith) (signal_grows setting k unbound_variable_class (symbol (named name_text) ∷ []) q.around q.z).units
      (signal_grows setting k unbound_variable_class (symbol (named name_text) ∷ []) q.around q.z).units (λ e. fails (tested_point q)) (λ e. absurd (cc e)))
  bound_tested q r1 r2 word (Some v) otherwise next e1 e2 is fails up goes =
      let tells = tells_value setting.names (tables setting.program) q.w.places q.z.state q.y q.begins.call.things.represents v word is in
      subst (λ t. EndsAt setting (named_credit + 14) (start q) (next v q.around q.z) t) (sym (single_step c (if_equal r1 r2 failing otherwise) q.regs q.y))
      (choice setting {c1 = named_credit} c (start q) (test_of Equal r1 r2) (code_of failing) (code_of otherwise) word unbound_word false (next v q.around q.z) (next v q.around q.z) e1 e2
      (ne_eqb word unbound_word tells.no_unbound) (omega arith) (up v) (up v) (λ e. absurd (cc e)) (λ e. goes v is))

  -- the word of the variable comes in r, and the other one behind it
  record Looked (q : Point setting s d m size) (r : ℕ) : Type 0 where
    pub word : ℕ
    pub is : WordFor q.w (under_text name_text q.z.state.globals) word
    pub cost : ℕ
    pub within : cost ≤ 30
    pub run : (rest : Steps)
        → exec c (code_of (load_from r r (global_address setting.at name) ++ (constant (r + 1) unbound_word ∷ rest))) q.regs q.y
        ≡ exec c (code_of rest) (slice_set (slice_set q.regs r (Some word)) (r + 1) (Some unbound_word)) (mid_charged cost q.y)

  looked : (q : Point setting s d m size) (r : ℕ) → r + 1 < size → Looked q r
  looked q r there =
      let x = slot_word q.w q.y (global_address setting.at name) (under_text name_text q.z.state.globals) (q.begins.call.things.globals name has) in
      let low : global_address setting.at name < 2 ^ 32 = by q in
      let l = load_from_runs c q.regs q.y r (global_address setting.at name) x.0 (omega (arith, there, q.count)) low x.1 in
      let within = l.within in
      record {
        word = x.0;
        is = x.2;
        cost = l.cost + 6;
        within = omega (arith, within);
        run = λ rest.
            let both : RunsTo c (code_of (load_from r r (global_address setting.at name) ++ (constant (r + 1) unbound_word ∷ rest))) q.regs q.y
            (exec c (code_of rest) (slice_set (slice_set q.regs r (Some x.0)) (r + 1) (Some unbound_word)) (mid_charged 6 (mid_charged l.cost q.y))) =
            parts_then (load_from r r (global_address setting.at name)) (constant (r + 1) unbound_word ∷ rest) l.run (and_then constant_falls (record { same = refl })) in
            both.same
            ∙ ap (λ y. exec c (code_of rest) (slice_set (slice_set q.regs r (Some x.0)) (r + 1) (Some unbound_word)) y) (charged_twice l.cost 6 (l.cost + 6) q.y refl);
      }
    where
      by : (q : Point setting s d m size) → global_address setting.at name < 2 ^ 32
      by q =
          let below = (placed.globals.there name has).below in
          let end = spot_below q.begins.call.things.represents.arena (q.begins.call.things.represents.spots (of_other 1) (control_spot setting) q.begins.call.things.control) in
          omega (arith, below, end, q.begins.call.things.represents.arena.room, q.begins.call.things.represents.arena.size)

  reached_looked :
      (q : Point setting s d m size) (r : ℕ) → d ≤ r → (l : Looked q r)
      → ReachedFrom setting 30 (start q) d q.w q.z (slice_set (slice_set q.regs r (Some l.word)) (r + 1) (Some unbound_word)) (mid_charged l.cost q.y)
  reached_looked q r low l =
      let within = l.within in
      reached_registers setting {credit = 30} (start q) (slice_set (slice_set q.regs r (Some l.word)) (r + 1) (Some unbound_word)) l.cost
      (length-set (slice_set q.regs r (Some l.word)) (r + 1) (Some unbound_word) ∙ length-set q.regs r (Some l.word))
      (λ i few.
      set_elsewhere (slice_set q.regs r (Some l.word)) (r + 1) i (Some unbound_word) (λ e. omega (arith, e, few, low))
      ∙ set_elsewhere q.regs r i (Some l.word) (λ e. omega (arith, e, few, low)))
      (omega (arith, within))

  abbrev looked_point : (q : Point setting s d m size) (r : ℕ) → d ≤ r → Looked q r → Point setting s d m size
  looked_point q r low l = point_after setting s d m size n q (reached_looked q r low l)

  first_there : (q : Point setting s d m size) (r word : ℕ) → r + 1 < size → register r (slice_set (slice_set q.regs r (Some word)) (r + 1) (Some unbound_word)) ≡ Some word
  first_there q r word there =
      register_beside (slice_set q.regs r (Some word)) (r + 1) r (Some unbound_word) (λ e. omega (arith, e)) ∙ register_here q.regs r word (omega (arith, there, q.count))

  second_there :
      (q : Point setting s d m size) (r word : ℕ) → r + 1 < size → register (r + 1) (slice_set (slice_set q.regs r (Some word)) (r + 1) (Some unbound_word)) ≡ Some unbound_word
  second_there q r word there =
      register_here (slice_set q.regs r (Some word)) (r + 1) unbound_word (omega (arith, there, q.count, length-set q.regs r (Some word)))

  -- ---- read

  read :
      (q : Point setting s d m size) → d + 1 < size → FailsHere setting s d m size k n unbound_variable_class name
      → EndsAt setting form_credit (start q) (mean_global (context_at setting k) name_text q.around q.z) (run setting s d m size k n (global_code setting.names setting.at setting.program s.code.site d name) q.regs q.y)
  unfolding exec
  read q there fails =
      let l = looked q d there in
      let q2 = looked_point q d (omega arith) l in
      subst (λ t. EndsAt setting form_credit (start q) (mean_global (context_at setting k) name_text q.around q.z) t) (sym (l.run (if_equal d (d + 1) failing [] ∷ [])))
      (behind setting {c1 = 30} {c2 = named_credit + 14} (start q) d (omega arith) (reached_looked q d (omega arith) l) (omega arith) (omega arith)
      (bound_tested q2 d (d + 1) l.word (under_text name_text q.z.state.globals) [] (λ v a x. gives v x) (first_there q d l.word there) (second_there q d l.word there) l.is fails
      (λ v. omega arith)
      (λ v is. given_already setting (start (tested_point q2)) v l.word (first_there q d l.word there) is)))

  -- ---- set

  -- the word in d is stored
  reached_stored :
      (q : Point setting s d m size) → Clean q.w q.y → (v : Value) (word t : ℕ) → d < t → (is : word_of q.w.places v ≡ Some word) → (ss : Steps)
      → (l : Stored c ss t q.regs q.y (global_address setting.at name) word)
      → ReachedFrom setting 24 (start q) d q.w (on_state (λ (x : State). record x { globals = (name_text, v) ∷ x.globals }) q.z) l.after
      (with_arena (with_word (global_address setting.at name) word q.y.arena) (mid_charged l.cost q.y))
  reached_stored q clean v word t few is ss l =
      let within = l.within in
      let new = new_global setting placed q.begins.call.things clean name has v word l.cost is in
      let back = new.around 24 (omega (arith, within)) in
      record {
        kept = record {
          world = new.world;
          activation =
              activation_later setting {d = d} {y = q.y} (later_same q.w) (same_world setting new.world back) refl (λ n cs k. k)
              (λ i low. ap word_in (l.others i (λ e. omega (arith, e, low, few)))) q.begins.scope q.begins.activation;
          registers = record { count = l.count; same = λ i low free. l.others i (λ e. omega (arith, e, low, few)) };
        };
        back = back;
      }

  abbrev cleaned_point : Point setting s d m size → Point setting s d m size
  cleaned_point q = point_after setting s d m size n q (reached_clean setting (start q))

  stored :
      (q : Point setting s d m size) → Clean q.w q.y → (v : Value) (word t : ℕ) → d < t → t < size → register d q.regs ≡ Some word → word_of q.w.places v ≡ Some word
      → Stored c (store_to d t (global_address setting.at name)) t q.regs q.y (global_address setting.at name) word
  stored q clean v word t few there here is =
      let new = new_global setting placed q.begins.call.things clean name has v word 0 is in
      let low = new.low in
      store_to_runs c q.regs q.y d t (global_address setting.at name) word (omega (arith, there, q.count)) (λ e. omega (arith, e, few)) here (omega (arith, low)) new.lent

  store_there :
      (q : Point setting s d m size) (v : Value) (word : ℕ) → d + 1 < size → register d q.regs ≡ Some word → word_of q.w.places v ≡ Some word
      → EndsAt setting named_credit (start q) (gives v (on_state (λ (x : State). record x { globals = (name_text, v) ∷ x.globals }) q.z))
      (run setting s d m size k n (store_to d (d + 1) (global_address setting.at name)) q.regs q.y)
  store_there q v word there here is =
      let r = reached_clean setting (start q) in
      let clean = is_clean setting q.begins.call.things in
      let p = cleaned_point q in
      let l = stored p clean v word (d + 1) (omega arith) there here is in
      behind setting {c1 = 0} {c2 = named_credit} (start q) d (omega arith) r (omega arith) (omega arith)
      (subst (λ t. EndsAt setting named_credit (start p) (gives v (on_state (λ (x : State). record x { globals = (name_text, v) ∷ x.globals }) q.z)) t) (sym l.run.same)
      (given_where setting placed s d m size k n (start p) (reached_stored p clean v word (d + 1) (omega arith) is (store_to d (d + 1) (global_address setting.at name)) l) v word (omega arith)
      (ap word_in (l.others d (λ e. omega (arith, e))) ∙ here) is))

  set :
      (q : Point setting s d m size) (v : Value) (word : ℕ) → d + 2 < size → FailsHere setting s d m size k n unbound_variable_class name → register d q.regs ≡ Some word
      → word_of q.w.places v ≡ Some word
      → EndsAt setting form_credit (start q) (set_global_to (context_at setting k) name_text v q.around q.z)
      (run setting s d m size k n (set_global_code setting.names setting.at setting.program s.code.site d name) q.regs q.y)
  set q v word there fails here is =
      let there1 : d + 1 + 1 < size = omega (arith, there) in
      let two : d + 1 + 1 ≡ d + 2 = omega arith in
      let l = looked q (d + 1) there1 in
      let q2 = looked_point q (d + 1) (omega arith) l in
      let store_steps : Steps = store_to d (d + 1) (global_address setting.at name) in
      let value : register d q2.regs ≡ Some word =
      register_beside (slice_set q.regs (d + 1) (Some l.word)) (d + 1 + 1) d (Some unbound_word) (λ e. omega (arith, e)) ∙ register_beside q.regs (d + 1) d (Some l.word) (λ e. omega (arith, e)) ∙ here in
      subst (λ i. EndsAt setting form_credit (start q) (set_global_to (context_at setting k) name_text v q.around q.z)
      (run setting s d m size k n (load_from (d + 1) (d + 1) (global_address setting.at name) ++ (constant i unbound_word ∷ if_equal (d + 1) i failing store_steps ∷ [])) q.regs q.y)) two
      (subst (λ t. EndsAt setting form_credit (start q) (set_global_to (context_at setting k) name_text v q.around q.z) t) (sym (l.run (if_equal (d + 1) (d + 1 + 1) failing store_steps ∷ [])))
      (behind setting {c1 = 30} {c2 = named_credit + 14} (start q) d (omega arith) (reached_looked q (d + 1) (omega arith) l) (omega arith) (omega arith)
      (bound_tested q2 (d + 1) (d + 1 + 1) l.word (under_text name_text q.z.state.globals) store_steps
      (λ old a x. gives v (on_state (λ (y : State). record y { globals = (name_text, v) ∷ y.globals }) x)) (first_there q (d + 1) l.word there1)
      (second_there q (d + 1) l.word there1) l.is fails (λ old. omega arith)
      (λ old is_old. store_there (tested_point q2) v word (omega (arith, there)) value is))))

  -- ---- defined

  defined :
      (q : Point setting s d m size) (v : Value) (word : ℕ) → d + 1 < size → HasSymbol setting name → register d q.regs ≡ Some word → word_of q.w.places v ≡ Some word
      → EndsAt setting form_credit (start q) (gives (symbol (named name_text)) (on_state (λ (x : State). record x { globals = (name_text, v) ∷ x.globals }) q.z))
      (run setting s d m size k n (def_global_code setting.names setting.at setting.program d name) q.regs q.y)
  defined q v word there symbol_there here is =
      let r = reached_clean setting (start q) in
      let clean = is_clean setting q.begins.call.things in
      let p = cleaned_point q in
      let steps : Steps = store_to d (d + 1) (global_address setting.at name) in
      let l = stored p clean v word (d + 1) (omega arith) there here is in
      let reached = reached_stored p clean v word (d + 1) (omega arith) is steps l in
      let q2 = point_after setting s d m size n p reached in
      let symbol_steps : Steps = constant d (symbol_word setting.at name) ∷ [] in
      let runs : RunsTo c (code_of (steps ++ symbol_steps)) p.regs p.y (exec c (code_of symbol_steps) q2.regs q2.y) = parts_then steps symbol_steps l.run (record { same = refl }) in
      behind setting {c1 = 0} {c2 = form_credit} (start q) d (omega arith) r (omega arith) (omega arith)
      (subst (λ t. EndsAt setting form_credit (start p) (gives (symbol (named name_text)) (on_state (λ (x : State). record x { globals = (name_text, v) ∷ x.globals }) q.z)) t) (sym runs.same)
      (behind setting {c1 = 24} {c2 = 6} (start p) d (omega arith) reached (omega arith) (omega arith)
      (gives_run setting {credit = 6} (start q2) (symbol (named name_text)) (omega arith) (q2.begins.call.things.symbols name symbol_there) (and_then constant_falls none_left))))

  set_global_grows : (v : Value) (around : DynamicContext) (z : FlatState) → FlatGrown z (set_global_to (context_at setting k) name_text v around z).state
  set_global_grows v around z = by (under_text name_text z.state.globals)
    where
      by :
          (o : Option Value)
          → FlatGrown z (flat_with_some o wrong (λ old a y. gives v (on_state (λ (x : State). record x { globals = (name_text, v) ∷ x.globals }) y)) around z).state
      by None = signal_grows setting k unbound_variable_class (symbol (named name_text) ∷ []) around z
      by (Some old) = record { printed = same_prefix z.state.printed; units = omega arith; exits = omega arith }

  abbrev charged_point : Point setting s d m size → Point setting s d m size
  charged_point q = record {
    rs = q.rs;
    valid = q.valid;
    w = q.w;
    env = q.env;
    around = q.around;
    z = charged 2 q.z;
    regs = q.regs;
    y = q.y;
    begins = (start_charged setting (start q) 2).begins;
    count = q.count;
  }

  pub global_here : d + 1 < size → FailsHere setting s d m size k n unbound_variable_class name → Here setting s d m size k n (global name)
  unfolding mean lower
  global_here there fails q = ends_sparing setting {c1 = form_credit} (start q) 2 (omega arith) (omega arith) (read (charged_point q) there fails)

  pub set_global_here :
      (f : FlatForm) → d + 2 < size → FailsHere setting s d m size k n unbound_variable_class name → Here setting s d m size k n f
      → Here setting s d m size k n (set_global name f)
  unfolding mean lower
  set_global_here f there fails here q =
      let b = charged_point q in
      let steps : Steps = set_global_code setting.names setting.at setting.program s.code.site d name in
      ends_sparing setting {c1 = form_credit} (start q) 2 (omega arith) (omega arith)
      (subst (λ o. EndsAt setting form_credit (start b) (mean (context_at setting k) (set_global name f) q.env q.around q.z) o)
      (sym (in_two_parts c (value_steps setting s d m size k n f) steps q.regs q.y))
      (two setting {c1 = 0} {c2 = form_credit} (start b) d (λ v z. set_global_to (context_at setting k) name_text v q.around z) (λ g y. run setting s d m size k n steps g y) (omega arith) (omega arith)
      (form_grows setting k f q.env q.around (charged 2 q.z)).units (ends_spared setting (start b) (here b)) (λ v z. set_global_grows v q.around z) (λ g y. code_grows setting s d m size k n steps g y)
      (λ x. set (point_after setting s d m size n b x.reached) x.result x.word there fails x.in_register x.of_value)))

  pub def_global_here :
      (f : FlatForm) → d + 1 < size → HasSymbol setting name → Here setting s d m size k n f → Here setting s d m size k n (def_global name f)
  unfolding mean lower
  def_global_here f there symbol_there here q =
      let b = charged_point q in
      let steps : Steps = def_global_code setting.names setting.at setting.program d name in
      ends_sparing setting {c1 = form_credit} (start q) 2 (omega arith) (omega arith)
      (subst (λ o. EndsAt setting form_credit (start b) (mean (context_at setting k) (def_global name f) q.env q.around q.z) o)
      (sym (in_two_parts c (value_steps setting s d m size k n f) steps q.regs q.y))
      (two setting {c1 = 0} {c2 = form_credit} (start b) d
      (λ v z. gives (symbol (named name_text)) (on_state (λ (x : State). record x { globals = (name_text, v) ∷ x.globals }) z)) (λ g y. run setting s d m size k n steps g y) (omega arith) (omega arith)
      (form_grows setting k f q.env q.around (charged 2 q.z)).units (ends_spared setting (start b) (here b)) (λ v z. record { printed = same_prefix z.state.printed; units = omega arith; exits = omega arith })
      (λ g y. code_grows setting s d m size k n steps g y)
      (λ x. defined (point_after setting s d m size n b x.reached) x.result x.word there symbol_there x.in_register x.of_value)))

pub globals_law : LawOfGlobals
globals_law setting s d m size k turns name placed has there fails = global_here setting placed s d m size k turns name has there fails

pub setting_globals_law : LawOfSettingGlobals
setting_globals_law setting s d m size k turns name f placed has there fails here = set_global_here setting placed s d m size k turns name has f there fails here

pub definitions_law : LawOfDefinitions
definitions_law setting s d m size k turns name f placed has symbol_there there here = def_global_here setting placed s d m size k turns name has f there symbol_there here
