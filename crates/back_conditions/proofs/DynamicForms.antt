-- The values of dynamic bindings come one after another into registers; then the bindings stand around the body.
use Rattle.std.proofs.Common.{◌≡◌, ℕ, ◌+◌, ◌*◌, ◌<◌, ◌≤◌, List, [], ◌∷◌, ◌++◌, length, Some, refl, sym, ap, ◌∙◌, subst, append_assoc, arith}
use Rattle.std.specs.Prelude.{slice_get}
use Rattle.std.proofs.Math.ListN.{length-append}
use Rattle.lang_meaning.specs.Lookup.{numbered}
use Rattle.lang_meaning.specs.State.{DynamicContext}
use Rattle.lang_meaning.specs.Values.{Value}
use Rattle.flat_language.specs.FlatExits.{LeadDynamics}
use Rattle.flat_language.specs.FlatFits.{FitDynamics}
use Rattle.flat_language.specs.FlatForm.{FlatDynamics, no_dynamic, dynamic_and}
use Rattle.flat_language.specs.FlatMeaning.{mean, mean_dynamics, bound_names}
use Rattle.flat_language.specs.FlatNodes.{count_dynamics}
use Rattle.flat_language.specs.FlatStanding.{StandDynamics}
use Rattle.flat_language.specs.FlatState.{FlatEnvironment, FlatState, FlatEvaluated, charged, with_values}
use Rattle.mid_code.specs.Arena.{word_in}
use Rattle.mid_code.specs.Law.{Grown}
use Rattle.mid_code.specs.Meaning.{Context, exec}
use Rattle.mid_code.specs.MidCode.{MidCode, with_block, code_of}
use Rattle.mid_code.specs.State.{Registers, register, MidState}
use Rattle.mid_code.proofs.Growth.{exec_grown, levels_grow, turns_grow}
use Rattle.mid_arena.specs.Places.{WordsOf, word_of}
use Rattle.mid_arena.proofs.Running.{in_two_parts}
use Rattle.back_lowering.specs.Codes.{lower, lower_dynamics, bindings_laid, innermost, dynamic_let_code}
use Rattle.back_lowering.specs.ControlWords.{bindings_address, binding_words}
use Rattle.back_lowering.specs.Registers.{of_code, enough_for}
use Rattle.back_lowering.specs.Steps.{Steps, move, constant, load, store}
use Rattle.back_relation.specs.Setting.{Setting}
use Rattle.back_relation.specs.Placed.{PlacedDynamics}
use Rattle.back_relation.specs.Room.{words_for, words_for_dynamics}
use Rattle.back_relation.specs.Worlds.{World, Later, Standing}
use Rattle.back_relation.specs.Activation.{FormScope}
use Rattle.back_relation.specs.Forms.{Begins, context_at, code_at}
use Rattle.back_relation.specs.Starts.{FlatGrown, Start, EndsAt, EndsFrom}
use Rattle.back_relation.proofs.Fitting.{enough_front, registers_front, registers_behind}
use Rattle.back_relation.proofs.FormGrowth.{form_grows}
use Rattle.back_relation.proofs.Growth.{both_flat, then_grown}
use Rattle.back_relation.proofs.Parts.{single_step}
use Rattle.back_relation.proofs.Starts.{scope_later, start_after, start_charged, two, ends_sparing}
use Rattle.back_relation.proofs.Worlds.{word_later}
use Rattle.back_conditions.specs.Forms.{DynamicsDo, LawOfDynamicLets}
use Rattle.back_conditions.proofs.Within.{tail}
use Rattle.back_conditions.proofs.Lending.{lends}
use Rattle.back_conditions.proofs.Cells.{WordsFrom}
use Rattle.back_conditions.proofs.DynamicLet.{head, code_is, opened}
use Rattle.back_conditions.proofs.Points.{form_spared}

-- ---- words of values

words_and_one : (w w' : World) (vs : List Value) (ws : List ℕ) (v : Value) (word : ℕ) → Later w w' → WordsOf w.places vs ws → word_of w'.places v ≡ Some word
    → WordsOf w'.places (vs ++ v ∷ []) (ws ++ word ∷ [])
words_and_one w w' [] [] v word l h e = (e, tt)
words_and_one w w' [] (x ∷ ws) v word l h e = absurd h
words_and_one w w' (u ∷ vs) [] v word l h e = absurd h
words_and_one w w' (u ∷ vs) (x ∷ ws) v word l h e = (word_later l u x h.0, words_and_one w w' vs ws v word l h.1 e)

held_and_one :
    (d e : ℕ) (ws : List ℕ) (word : ℕ) (regs regs' : Registers) → e ≡ d + length ws → ((i : ℕ) → d ≤ i → i < e → slice_get regs' i ≡ slice_get regs i) → WordsFrom d ws regs
    → register e regs' ≡ Some word → WordsFrom d (ws ++ word ∷ []) regs'
held_and_one d e [] word regs regs' at same h there = (let one : e ≡ d = omega (arith, at) in ap (λ i. register i regs') (sym one) ∙ there, tt)
held_and_one d e (x ∷ ws) word regs regs' at same h there =
    (ap word_in (same d (omega arith) (omega (arith, at))) ∙ h.0, held_and_one (d + 1) e ws word regs regs' (omega (arith, at)) (λ i low high. same i (omega (arith, low)) high) h.1 there)

module _ (setting : Setting) (k turns : ℕ) (rs valid : List Standing) (s : FormScope) (d n : ℕ) (env : FlatEnvironment) (around : DynamicContext) where
  abbrev c : Context
  c = code_at setting k turns

  abbrev pub from_here : (w : World) (z : FlatState) (regs : Registers) (y : MidState) → Begins setting rs valid s d n w env around z regs y → Start setting
  from_here w z regs y b = record {
    turns = turns;
    rs = rs;
    valid = valid;
    s = s;
    d = d;
    n = n;
    w = w;
    env = env;
    around = around;
    z = z;
    regs = regs;
    y = y;
    begins = b;
  }

  code_grows : (code : MidCode) (g : Registers) (v : MidState) → Grown v (exec c code g v).state
  code_grows code g v = exec_grown c (levels_grow setting.procedures setting.turns_each k) (turns_grow setting.procedures _ (levels_grow setting.procedures setting.turns_each k) turns) code g v

  module _ (next : List Value → FlatState → FlatEvaluated) (next_grows : (vs : List Value) (z : FlatState) → FlatGrown z (next vs z).state) where
    dynamics_grow : (ds : FlatDynamics) (vs : List Value) (z : FlatState) → FlatGrown z (mean_dynamics (context_at setting k) ds vs env around z next).state
    unfolding mean
    dynamics_grow no_dynamic vs z = next_grows vs z
    dynamics_grow (dynamic_and m f ds) vs z =
        both_flat (form_grows setting k f env around z)
        (then_grown (mean (context_at setting k) f env around z) (λ v after. mean_dynamics (context_at setting k) ds (vs ++ v ∷ []) env around after next)
        (λ v after. dynamics_grow ds (vs ++ v ∷ []) after))

    module _ (rest : Steps) (credit size total : ℕ)
        (behind : (vs : List Value) (ws : List ℕ) (w : World) (z : FlatState) (regs : Registers) (y : MidState) → (b : Begins setting rs valid s d n w env around z regs y) → length regs ≡ size
        → WordsOf w.places vs ws → WordsFrom d ws regs → length ws ≡ total → EndsAt setting credit (from_here w z regs y b) (next vs z) (exec c (code_of rest) regs y)) where
      abbrev value_steps : ℕ → FlatDynamics → Steps
      value_steps e ds = lower_dynamics setting.names setting.at setting.program s.code e ds

      -- **the values of dynamic bindings**, behind those that are in registers
      dynamics_sim :
          (ds : FlatDynamics) (first e : ℕ) (vs : List Value) (ws : List ℕ) → DynamicsDo setting k turns ds → StandDynamics setting.program.lambdas s.flat first ds
          → FitDynamics setting.program ds → LeadDynamics setting.leads.functions s.exits ds → PlacedDynamics setting s.keeps_method ds
          → length s.exits.own ≡ s.flat.exits
          → enough_for (of_code (code_of (value_steps e ds))) ≤ size → words_for_dynamics setting.names setting.program ds ≤ n → e ≡ d + length ws
          → length ws + count_dynamics ds ≡ total → d + total < size → (w : World) (z : FlatState) (regs : Registers) (y : MidState)
          → (b : Begins setting rs valid s d n w env around z regs y) → length regs ≡ size → WordsOf w.places vs ws → WordsFrom d ws regs
          → EndsAt setting credit (from_here w z regs y b) (mean_dynamics (context_at setting k) ds vs env around z next) (exec c (code_of (value_steps e ds ++ rest)) regs y)
      unfolding mean lower
      dynamics_sim no_dynamic first e vs ws does stands fits leads placed known names words at many small w z regs y b count of_values held =
          behind vs ws w z regs y b count of_values held (omega (arith, many))
      dynamics_sim (dynamic_and m f ds) first e vs ws does stands fits leads placed known names words at many small w z regs y b count of_values held =
          subst (λ ss. EndsAt setting credit a (mean_dynamics (context_at setting k) (dynamic_and m f ds) vs env around z next) (exec c (code_of ss) regs y))
          (sym (append_assoc one_value (value_steps (e + 1) ds) rest))
          (subst (λ q. EndsAt setting credit a (mean_dynamics (context_at setting k) (dynamic_and m f ds) vs env around z next) q)
          (sym (in_two_parts c one_value (value_steps (e + 1) ds ++ rest) regs y))
          (two setting {c1 = 0} {c2 = credit} a e (λ v after. mean_dynamics (context_at setting k) ds (vs ++ v ∷ []) env around after next)
          (λ g v. exec c (code_of (value_steps (e + 1) ds ++ rest)) g v) (omega (arith, at)) (omega arith) (form_grows setting k f env around z).units one
          (λ v after. dynamics_grow ds (vs ++ v ∷ []) after) (λ g v. code_grows (code_of (value_steps (e + 1) ds ++ rest)) g v)
          (λ x.
          let kept = x.reached.kept.registers in
          dynamics_sim ds first (e + 1) (vs ++ x.result ∷ []) (ws ++ x.word ∷ []) does.1 stands.1 fits.1 leads.1 placed.2 known
          (registers_behind one_value (value_steps (e + 1) ds) size names) (omega (arith, words)) (omega (arith, at, length-append ws (x.word ∷ [])))
          (omega (arith, many, length-append ws (x.word ∷ []))) small x.w' (mean (context_at setting k) f env around z).state _ _
          (start_after setting a e d n (omega (arith, at)) (omega arith) (omega arith) b.first x.reached).begins (kept.count ∙ count)
          (words_and_one w x.w' vs ws x.result x.word x.reached.kept.world.later of_values x.of_value)
          (held_and_one d e ws x.word regs _ at (λ i low high. kept.same i high (λ j slot. omega (arith, low, b.scope.slots_below j i slot))) held x.in_register))))
        where
          a : Start setting
          a = from_here w z regs y b

          one_value : Steps
          one_value = (lower setting.names setting.at setting.program s.code e f).value

          begins_at : Begins setting rs valid s e n w env around z regs y
          begins_at = record {
            call = b.call;
            activation = b.activation;
            scope = scope_later s.code d e (omega (arith, at)) b.scope;
            method_there = b.method_there;
            first = omega (arith, at, many, small, count);
          }

          one : EndsFrom setting 0 a e (mean (context_at setting k) f env around z) (exec c (code_of one_value) regs y)
          one =
              form_spared setting turns begins_at
              (does.0 rs valid s e n first w env around z regs y (record { stands = stands.0; fits = fits.0; leads = leads.0; placed = placed.1; forms_known = known }) begins_at
              (subst (λ m. enough_for (of_code (code_of one_value)) ≤ m) (sym count) (registers_front one_value (value_steps (e + 1) ds) size names)) (omega (arith, words)))

-- ---- the form

pub names_inside :
    (block size word limit : ℕ) (inside landing : MidCode) → enough_for (of_code (code_of (with_block block size word inside landing ∷ []))) ≤ limit
    → enough_for (of_code inside) ≤ limit
names_inside block size word limit inside landing h =
    let all = enough_front (of_code inside ++ of_code landing) [] in
    let front = enough_front (of_code inside) (of_code landing) in
    omega (arith, h, all, front)

-- **dynamic bindings around a form**
pub dynamic_lets_law : LawOfDynamicLets
unfolding mean lower
dynamic_lets_law setting k turns ds body placed values_do body_does rs valid s d n first w env around z regs y stands begins registers words =
    ends_sparing setting {c1 = 100 * (1 + count_dynamics ds)} (from_here setting k turns rs valid s d n env around w z regs y begins) (1 + count_dynamics ds) (omega arith) (omega arith)
    (dynamics_sim setting k turns rs valid s d n env around next next_grows rest (100 * (1 + count_dynamics ds)) (length regs) (count_dynamics ds) behind ds first d [] [] values_do
    stands.stands.0 stands.fits.0 stands.leads.0 stands.placed.0 stands.forms_known (registers_front values rest (length regs) registers) (omega (arith, words)) (omega arith) (omega arith) (omega (arith, fits)) w
    (charged (1 + count_dynamics ds) z) regs y
    (start_charged setting (from_here setting k turns rs valid s d n env around w z regs y begins) (1 + count_dynamics ds)).begins refl tt tt)
  where
    count : ℕ
    count = count_dynamics ds

    body_steps : Steps
    body_steps = (lower setting.names setting.at setting.program s.code (d + count_dynamics ds + 2) body).value

    values : Steps
    values = lower_dynamics setting.names setting.at setting.program s.code d ds

    rest : Steps
    rest = dynamic_let_code setting.names setting.at setting.program d (count_dynamics ds) ds body_steps

    e : ℕ
    e = d + count_dynamics ds

    laid : Steps
    laid = bindings_laid setting.names setting.at setting.program d e (e + 1) (e + 2) 0 ds

    begun : Steps
    begun = constant (e + 2) 0 ∷ load (e + 1) (e + 2) bindings_address ∷ []

    ended : Steps
    ended = constant (e + 2) 0 ∷ store (innermost e (e + 1) ds) (e + 2) bindings_address ∷ []

    last : Steps
    last = constant d 0 ∷ store (e + 1) d bindings_address ∷ move d (e + 2) ∷ []

    names_all : enough_for (of_code (code_of (begun ++ (laid ++ (ended ++ (body_steps ++ last)))))) ≤ length regs
    names_all =
        names_inside e (binding_words * count_dynamics ds) d (length regs) (code_of (begun ++ (laid ++ (ended ++ (body_steps ++ last))))) (code_of [])
        (registers_behind values rest (length regs) registers)

    names_behind : enough_for (of_code (code_of (laid ++ (ended ++ (body_steps ++ last))))) ≤ length regs
    names_behind = registers_behind begun (laid ++ (ended ++ (body_steps ++ last))) (length regs) names_all

    names_body : enough_for (of_code (code_of body_steps)) ≤ length regs
    names_body =
        registers_front body_steps last (length regs)
        (registers_behind ended (body_steps ++ last) (length regs) (registers_behind laid (ended ++ (body_steps ++ last)) (length regs) names_behind))

    next : List Value → FlatState → FlatEvaluated
    next vs after =
        mean (context_at setting k) body env (record around { bindings = numbered (bound_names setting.names ds) (length after.state.variables) ++ around.bindings }) (with_values vs after)

    next_grows : (vs : List Value) (x : FlatState) → FlatGrown x (next vs x).state
    next_grows vs x =
        let g =
        form_grows setting k body env (record around { bindings = numbered (bound_names setting.names ds) (length x.state.variables) ++ around.bindings }) (with_values vs x)
        in
        record { printed = g.printed; units = g.units; exits = g.exits }

    fits : d + count_dynamics ds + 2 < length regs
    fits = let h = registers_front begun (laid ++ (ended ++ (body_steps ++ last))) (length regs) names_all in omega (arith, h)

    behind :
        (vs : List Value) (ws : List ℕ) (w' : World) (z' : FlatState) (g : Registers) (v : MidState) → (b : Begins setting rs valid s d n w' env around z' g v) → length g ≡ length regs
        → WordsOf w'.places vs ws → WordsFrom d ws g → length ws ≡ count_dynamics ds
        → EndsAt setting (100 * (1 + count_dynamics ds)) (from_here setting k turns rs valid s d n env around w' z' g v b) (next vs z') (exec (code_at setting k turns) (code_of rest) g v)
    behind vs ws w' z' g v b size of_values held many =
        subst (λ q. EndsAt setting (100 * (1 + count_dynamics ds)) a (next vs z') q)
        (sym
        (ap (λ ss. exec (code_at setting k turns) (code_of ss) g v) (code_is setting placed a k s.keeps_method ds vs ws many of_values held stands.placed.0 body_steps)
        ∙ single_step (code_at setting k turns)
        (with_block e (binding_words * count_dynamics ds) d
        (code_of (head setting placed a k s.keeps_method ds vs ws many of_values held stands.placed.0 body_steps ++ (body_steps ++ tail setting placed a bindings_address (e + 1) (e + 2)))) (code_of [])) g v))
        (lends setting placed a k e (binding_words * count_dynamics ds) bindings_address (e + 1) (e + 2) (words_for setting.names setting.program body) (100 * (1 + count_dynamics ds))
        (head setting placed a k s.keeps_method ds vs ws many of_values held stands.placed.0 body_steps) body_steps (omega (arith, words)) (omega arith) (next_grows vs z')
        (λ some.
        opened setting placed a k s.keeps_method ds vs ws many of_values held stands.placed.0 body_steps some (omega (arith, fits, size))
        (subst (λ m. enough_for (of_code (code_of laid)) ≤ m) (sym size) (registers_front laid (ended ++ (body_steps ++ last)) (length regs) names_behind))
        (words_for setting.names setting.program body) (100 * (1 + count_dynamics ds)) (omega (arith, words)) (omega arith)
        (λ regs1 y1 inside count_one.
        form_spared setting turns inside
        (body_does rs valid s (e + 2) (words_for setting.names setting.program body) first _ env _ _ regs1 y1
        (record { stands = stands.stands.1; fits = stands.fits.1; leads = stands.leads.1; placed = stands.placed.1; forms_known = stands.forms_known }) inside
        (subst (λ m. enough_for (of_code (code_of body_steps)) ≤ m) (sym (count_one ∙ size)) names_body) (omega arith)))))
      where
        a : Start setting
        a = from_here setting k turns rs valid s d n env around w' z' g v b
