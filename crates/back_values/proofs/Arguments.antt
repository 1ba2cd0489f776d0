-- Forms whose values come in registers one after another.
use Rattle.std.proofs.Common.{◌≡◌, ℕ, ◌+◌, ◌<◌, ◌≤◌, List, [], ◌∷◌, ◌++◌, length, Some, refl, sym, ap, ◌∙◌, subst, append_assoc, length-append, arith}
use Rattle.std.specs.Prelude.{slice_get}
use Rattle.lang_meaning.specs.Values.{Value}
use Rattle.lang_meaning.specs.State.{DynamicContext}
use Rattle.lang_meaning.specs.Counts.{unit_cost}
use Rattle.flat_language.specs.FlatForm.{FlatForms, no_form, form_and}
use Rattle.flat_language.specs.FlatMeaning.{mean, mean_arguments}
use Rattle.flat_language.specs.FlatNodes.{count_forms}
use Rattle.flat_language.specs.FlatState.{FlatEnvironment, FlatState, FlatEvaluated, go_on}
use Rattle.mid_code.specs.Arena.{word_in}
use Rattle.mid_code.specs.State.{Registers, MidState, MidOutcome}
use Rattle.mid_code.specs.State.{go_on as mid_go_on}
use Rattle.mid_arena.specs.Places.{WordsOf}
use Rattle.mid_arena.proofs.Running.{in_two_parts}
use Rattle.back_lowering.specs.Codes.{lower}
use Rattle.back_lowering.specs.Steps.{Steps}
use Rattle.back_relation.specs.Setting.{Setting}
use Rattle.back_relation.specs.Worlds.{World}
use Rattle.back_relation.specs.Activation.{FormScope}
use Rattle.back_relation.specs.Ends.{Reached, Ends, Left, Fell}
use Rattle.back_relation.specs.Forms.{FellJudged, context_at, code_at}
use Rattle.back_relation.specs.Starts.{FlatGrown, FellFrom}
use Rattle.back_relation.specs.Points.{Point, start_at, run, value_steps}
use Rattle.back_relation.proofs.FormGrowth.{form_grows}
use Rattle.back_relation.proofs.Growth.{both_flat, then_grown, then_value}
use Rattle.back_relation.proofs.Parts.{go_on_falls}
use Rattle.back_relation.proofs.Points.{code_grows}
use Rattle.back_relation.proofs.Starts.{start_after, ends_spared, reached_same}
use Rattle.back_relation.proofs.Then.{reached_then, ends_behind, ends_then, ends_go_on}
use Rattle.back_values.specs.Arguments.{WordsIn, arguments_steps, ArgumentsHere, ArgumentsThere, LawOfArguments, LawOfJudgedArguments}
use Rattle.back_values.proofs.Lowering.{reached_earlier, ends_earlier}
use Rattle.back_values.proofs.WordLists.{words_kept, words_and_one, of_values_later, of_values_and_one}

pub arguments_grow :
    (setting : Setting) (k : ℕ) (fs : FlatForms) (vs : List Value) (env : FlatEnvironment) (around : DynamicContext) (z : FlatState)
    (next : List Value → FlatState → FlatEvaluated) → ((vs : List Value) (z : FlatState) → FlatGrown z (next vs z).state)
    → FlatGrown z (mean_arguments (context_at setting k) fs vs env around z next).state
unfolding mean
arguments_grow setting k no_form vs env around z next grown = grown vs z
arguments_grow setting k (form_and f fs) vs env around z next grown =
    both_flat (form_grows setting k f env around z)
    (then_grown (mean (context_at setting k) f env around z) (λ v x. mean_arguments (context_at setting k) fs (vs ++ v ∷ []) env around x next)
    (λ v x. arguments_grow setting k fs (vs ++ v ∷ []) env around x next grown))

-- what ends so that something is done, which may be said of what the meaning comes to and how the code ends, or a transfer leaves it
abbrev pub EndsSo :
    (setting : Setting) (s : FormScope) (d m size : ℕ) → (Done : FlatEvaluated → MidOutcome → Type 0) → (credit turns : ℕ) → Point setting s d m size → FlatEvaluated → MidOutcome
    → Type 0
EndsSo setting s d m size Done credit turns p r q =
    Ends setting (credit + unit_cost) (Done r q) (Left setting credit p.rs p.valid s d p.w p.env p.around p.z p.regs p.y r q) turns p.z p.y r q

module _ (setting : Setting) (s : FormScope) (d m size k n credit : ℕ) (p : Point setting s d m size) (Done : FlatEvaluated → MidOutcome → Type 0)
    (next : List Value → FlatState → FlatEvaluated) (rest : Steps) (grown : (vs : List Value) (z : FlatState) → FlatGrown z (next vs z).state) (count : ℕ)
    (goes_on : (vs : List Value) (z : FlatState) (regs : Registers) (y : MidState) → ArgumentsThere setting s d m size p count vs z regs y
    → EndsSo setting s d m size Done credit n p (next vs z) (run setting s d m size k n rest regs y)) where
  -- so many values came, and the next one comes in e
  record Came (e : ℕ) (vs : List Value) (ws : List ℕ) (w : World) (z : FlatState) (regs : Registers) (y : MidState) : Type 0 where
    pub reached : Reached setting 0 s d p.rs p.valid p.w w p.env p.around p.z z p.regs regs p.y y
    pub up : p.z.state.units ≤ z.state.units
    pub of_values : WordsOf w.places vs ws
    pub in_registers : WordsIn d ws regs
    pub value_count : e ≡ d + length vs
    pub word_count : e ≡ d + length ws

  -- the point where the next form begins
  abbrev next_point : {e : ℕ} {vs : List Value} {ws : List ℕ} {w : World} {z : FlatState} {regs : Registers} {y : MidState} → e < size → Came e vs ws w z regs y
      → Point setting s e m size
  next_point {e} {vs} {ws} {w} {z} {regs} {y} there x = record {
    rs = p.rs;
    valid = p.valid;
    w = w;
    env = p.env;
    around = p.around;
    z = z;
    regs = regs;
    y = y;
    begins =
        (start_after setting (start_at setting s d m size n p) d e m (omega arith) (omega (arith, x.word_count)) (omega arith) (omega (arith, there, p.count)) x.reached).begins;
    count = x.reached.kept.registers.count ∙ p.count;
  }

  -- one more value came
  came_too :
      {e : ℕ} {vs : List Value} {ws : List ℕ} {w : World} {z : FlatState} {regs : Registers} {y : MidState} (there : e < size) (c : Came e vs ws w z regs y)
      {r : FlatEvaluated} {q : MidOutcome} → z.state.units ≤ r.state.state.units
      → (x : FellFrom setting 0 (start_at setting s e m size n (next_point there c)) e r q)
      → Came (e + 1) (vs ++ x.result ∷ []) (ws ++ x.word ∷ []) x.w' r.state q.registers q.state
  came_too {e} {vs} {ws} {w} {z} {regs} {y} there c {r} {q} up x = record {
    reached = reached_then setting (omega arith) c.reached (omega arith) (reached_earlier setting (omega (arith, c.word_count)) x.reached);
    up = omega (arith, up, c.up);
    of_values = of_values_and_one x.w' vs ws x.result x.word (of_values_later x.reached.kept.world.later vs ws c.of_values) x.of_value;
    in_registers =
        words_and_one d e ws x.word q.registers c.word_count
        (words_kept d ws regs q.registers
        (λ r low high. ap word_in (x.reached.kept.registers.same r (omega (arith, high, c.word_count)) (λ i g. slot_free r low i g)))
        c.in_registers)
        x.in_register;
    value_count = omega (arith, c.value_count, length-append vs (x.result ∷ []));
    word_count = omega (arith, c.word_count, length-append ws (x.word ∷ []));
  }
    where
      slot_free : (r : ℕ) → d ≤ r → (i : ℕ) → slice_get s.code.slots i ≡ Some r → ⊥
      slot_free r low i g = let below = p.begins.scope.slots_below i r g in omega (arith, low, below)

  arguments_from :
      (fs : FlatForms) (e : ℕ) → e + count_forms fs ≤ size → e + count_forms fs ≡ d + count → ArgumentsHere setting s e m size k n fs
      → (vs : List Value) (ws : List ℕ) (w : World) (z : FlatState) (regs : Registers) (y : MidState) → Came e vs ws w z regs y
      → EndsSo setting s d m size Done credit n p (mean_arguments (context_at setting k) fs vs p.env p.around z next)
      (run setting s d m size k n (arguments_steps setting s e fs ++ rest) regs y)
  unfolding mean lower
  arguments_from no_form e there last h vs ws w z regs y c =
      goes_on vs z regs y (record {
        w' = w;
        reached = c.reached;
        up = c.up;
        words = ws;
        of_values = c.of_values;
        in_registers = c.in_registers;
        value_count = omega (arith, c.value_count, last);
        word_count = omega (arith, c.word_count, last);
      })
  arguments_from (form_and f fs) e there last h vs ws w z regs y c =
      let more : Steps = arguments_steps setting s (e + 1) fs ++ rest in
      let here : e < size = omega (arith, there) in
      let q : Point setting s e m size = next_point here c in
      let r : FlatEvaluated = mean (context_at setting k) f p.env p.around z in
      let o : MidOutcome = run setting s d m size k n (value_steps setting s e m size k n f) regs y in
      let f1 : (Value → FlatState → FlatEvaluated) = λ v x. mean_arguments (context_at setting k) fs (vs ++ v ∷ []) p.env p.around x next in
      let g1 : (Registers → MidState → MidOutcome) = λ g x. run setting s d m size k n more g x in
      let up : z.state.units ≤ r.state.state.units = (form_grows setting k f p.env p.around z).units in
      subst (λ t. EndsSo setting s d m size Done credit n p (go_on r f1) t)
      (sym (ap (λ ss. run setting s d m size k n ss regs y) (append_assoc (value_steps setting s e m size k n f) (arguments_steps setting s (e + 1) fs) rest)
      ∙ in_two_parts (code_at setting k n) (value_steps setting s e m size k n f) more regs y))
      (ends_go_on setting {D = FellFrom setting 0 (start_at setting s e m size n q) e r o} {c1 = 0} {d1 = d} {r = r} {q = o} f1 g1 (omega arith) (omega arith)
      (ends_behind setting (omega arith) c.reached {c2 = 0} {c = 0} (λ x. x) (omega arith) c.up (ends_earlier setting (omega (arith, c.word_count)) (ends_spared setting (start_at setting s e m size n q) (h.0 q))))
      (λ v x. arguments_grow setting k fs (vs ++ v ∷ []) p.env p.around x next grown) (λ g x. code_grows setting s d m size k n more g x)
      (λ x.
      subst (λ t. EndsSo setting s d m size Done credit n p t (mid_go_on o g1)) (sym (then_value r f1 x.result x.outcome))
      (subst (λ t. EndsSo setting s d m size Done credit n p (f1 x.result r.state) t) (sym (go_on_falls o g1 x.end))
      (arguments_from fs (e + 1) (omega (arith, there)) (omega (arith, last)) h.1 (vs ++ x.result ∷ []) (ws ++ x.word ∷ []) x.w' r.state o.registers o.state
      (came_too here c up x)))))

  nothing_came : Came d [] [] p.w p.z p.regs p.y
  nothing_came = record {
    reached = reached_same setting (start_at setting s d m size n p) d;
    up = omega arith;
    of_values = tt;
    in_registers = tt;
    value_count = omega arith;
    word_count = omega arith;
  }

  -- **all of them**, and what goes on
  pub arguments_go_on :
      (fs : FlatForms) → d + count_forms fs ≤ size → count_forms fs ≡ count → ArgumentsHere setting s d m size k n fs
      → EndsSo setting s d m size Done credit n p (mean_arguments (context_at setting k) fs [] p.env p.around p.z next)
      (run setting s d m size k n (arguments_steps setting s d fs ++ rest) p.regs p.y)
  arguments_go_on fs there same h = arguments_from fs d there (omega (arith, same)) h [] [] p.w p.z p.regs p.y nothing_came

pub arguments_law : LawOfArguments
arguments_law setting s d m size k turns credit fs p next rest there here grown goes_on =
    arguments_go_on setting s d m size k turns credit p
    (λ r q. Fell setting credit p.rs p.valid s d p.w p.env p.around p.z p.regs p.y r q) next rest grown (count_forms fs)
    (λ vs z regs y x. ends_then setting (omega arith) x.reached {c2 = credit} {c = credit} (omega arith) x.up (goes_on vs z regs y x))
    fs there refl here

pub judged_arguments_law : LawOfJudgedArguments
judged_arguments_law setting s d m size k turns credit fs p test next rest there here grown goes_on =
    arguments_go_on setting s d m size k turns credit p
    (λ r q. FellJudged setting credit p.rs p.valid s d p.w p.env p.around p.z p.regs p.y test r q) next rest grown (count_forms fs)
    (λ vs z regs y x.
    ends_behind setting (omega arith) x.reached {c2 = credit} {c = credit}
    (λ (f : FellJudged setting credit p.rs p.valid s d x.w' p.env p.around z regs y test (next vs z) (run setting s d m size k turns rest regs y)).
    record {
      result = f.result;
      outcome = f.outcome;
      end = f.end;
      w' = f.w';
      reached = reached_then setting (omega arith) x.reached {c2 = credit} {c = credit} (omega arith) f.reached;
      first = f.first;
      second = f.second;
      first_word = f.first_word;
      second_word = f.second_word;
      judged = f.judged;
    })
    (omega arith) x.up (goes_on vs z regs y x))
    fs there refl here
