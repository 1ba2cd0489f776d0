-- Registers that the steps of boxes do not name are as they were.
use Rattle.std.proofs.Common.{◌≡◌, ℕ, ◌+◌, ◌<◌, ◌≤◌, Bool, true, false, List, [], ◌∷◌, ◌++◌, length, Option, Some, None, refl, sym, ap, ◌∙◌, subst, arith}
use Rattle.std.specs.Prelude.{slice_get, slice_set, nat_le}
use Rattle.std.proofs.lemmas.List.{append-nil}
use Rattle.lang_meaning.specs.Prefixes.{IsPrefix}
use Rattle.lang_meaning.specs.Values.{Value}
use Rattle.flat_language.specs.declared.place.Home.{Home}
use Rattle.flat_language.specs.declared.place.Home.TheVariants as home
use Rattle.flat_language.specs.FlatSignals.{with_boxes}
use Rattle.flat_language.specs.FlatState.{FlatState, FlatEvaluated}
use Rattle.mid_code.specs.Law.{Grown}
use Rattle.mid_code.specs.Meaning.{Context, exec, exec_step, request}
use Rattle.mid_code.specs.Arena.{left, is_lent}
use Rattle.mid_code.specs.MidCode.{MidStep, MidCode, no_step, step_and, code_of}
use Rattle.mid_code.specs.State.{Registers, register, End, falls, MidState, MidOutcome, Next, ends, go_on, go_on_from, with_some, choose_by}
use Rattle.mid_code.proofs.Growth.{go_on_grown, same_grown}
use Rattle.mid_arena.specs.Places.{WordsOf}
use Rattle.mid_arena.proofs.Lists.{set_elsewhere}
use Rattle.mid_arena.proofs.Running.{in_two_parts, none_left}
use Rattle.back_lowering.specs.Leaves.{boxes_made}
use Rattle.back_lowering.specs.Registers.{of_code, enough_for}
use Rattle.back_lowering.specs.Steps.{Steps, constant, request as request_step, store, move}
use Rattle.back_relation.specs.Setting.{Setting}
use Rattle.back_relation.specs.Placed.{IsPlaced}
use Rattle.back_relation.specs.Worlds.{World}
use Rattle.back_relation.specs.Things.{Things}
use Rattle.back_relation.specs.Around.{RoomFor}
use Rattle.back_relation.specs.Ends.{FullThere, Stopped}
use Rattle.back_relation.specs.Forms.{code_at}
use Rattle.back_relation.specs.Starts.{FlatGrown}
use Rattle.back_relation.proofs.Growth.{both_prefix}
use Rattle.back_relation.proofs.Parts.{go_on_falls, go_on_last}
use Rattle.back_relation.proofs.Then.{stopped_last}
use Rattle.back_values.specs.Arguments.{WordsIn}
use Rattle.back_values.specs.Boxes.{Clean, BoxesMade, BoxesEnd, made, no_words, no_space, box_cost}
use Rattle.back_values.proofs.BoxesMade.{boxes_law, steps_grow}

module _ (c : Context) (r : ℕ) (o : Option (Option ℕ)) where
  abbrev Has : Registers → Type 0
  Has regs = slice_get regs r ≡ o

  go_on_has : (q : MidOutcome) (next : Next) → Has q.registers → ((g : Registers) (x : MidState) → Has g → Has (next g x).registers) → Has (go_on q next).registers
  unfolding go_on
  go_on_has q next h k = from q.end
    where
      from : (e : End) → Has (go_on_from e q next).registers
      from falls = k q.registers q.state h
      from e = h

  some_has : {X : Type 0} (found : Option X) (next : X → Next) (g : Registers) (x : MidState) → Has g → ((v : X) → Has (next v g x).registers) → Has (with_some found next g x).registers
  unfolding with_some
  some_has None next g x h k = h
  some_has (Some v) next g x h k = k v

  choose_has : (b : Bool) (first second : Next) (g : Registers) (x : MidState) → Has (first g x).registers → Has (second g x).registers → Has (choose_by b first second g x).registers
  unfolding choose_by
  choose_has true first second g x h k = h
  choose_has false first second g x h k = k

  set_has : (g : Registers) (to w : ℕ) → (to ≡ r → ⊥) → Has g → Has (slice_set g to (Some w))
  set_has g to w other h = set_elsewhere g to r (Some w) other ∙ h

  constant_has : (to w : ℕ) (g : Registers) (x : MidState) → (to ≡ r → ⊥) → Has g → Has (exec_step c (constant to w) g x).registers
  unfolding exec
  constant_has to w g x other h = set_has g to w other h

  move_has : (to from : ℕ) (g : Registers) (x : MidState) → (to ≡ r → ⊥) → Has g → Has (exec_step c (move to from) g x).registers
  unfolding exec
  move_has to from g x other h = some_has (register from g) _ g _ h (λ w. set_has g to w other h)

  request_has : (to words : ℕ) (g : Registers) (x : MidState) → (to ≡ r → ⊥) → Has g → Has (exec_step c (request_step to words) g x).registers
  unfolding exec
  request_has to words g x other h =
      some_has (register words g) (request to) g _ h (λ n. choose_has (nat_le n (left x.arena)) _ _ g _ (set_has g to x.arena.heap_to other h) h)

  store_has : (from base offset : ℕ) (g : Registers) (x : MidState) → Has g → Has (exec_step c (store from base offset) g x).registers
  unfolding exec
  store_has from base offset g x h =
      some_has (register from g) _ g _ h (λ w. some_has (register base g) _ g _ h (λ b. choose_has (is_lent x.arena _) _ _ g _ h h))

  step_has : (s : MidStep) (code : MidCode) (g : Registers) (x : MidState) → Has (exec_step c s g x).registers → ((g' : Registers) (x' : MidState) → Has g' → Has (exec c code g' x').registers)
      → Has (exec c (step_and s code) g x).registers
  unfolding exec
  step_has s code g x h k = go_on_has (exec_step c s g x) (λ g' x'. exec c code g' x') h k

  -- **registers between those of the variables and those that the steps use**
  pub boxes_has : (hs : List Home) (d t : ℕ) → d + length hs ≤ r → r < t → (g : Registers) (x : MidState) → Has g → Has (exec c (code_of (boxes_made hs d t)) g x).registers
  unfolding exec
  boxes_has [] d t low high g x h = h
  boxes_has (home.Slot ∷ hs) d t low high g x h = boxes_has hs (d + 1) t (omega (arith, low)) high g x h
  boxes_has (home.Boxed ∷ hs) d t low high g x h =
      step_has (constant t 1) (code_of (request_step (t + 1) t ∷ store d (t + 1) 0 ∷ move d (t + 1) ∷ boxes_made hs (d + 1) t)) g x (constant_has t 1 g x (λ e. omega (arith, e, high)) h)
      (λ g1 x1 h1. step_has (request_step (t + 1) t) (code_of (store d (t + 1) 0 ∷ move d (t + 1) ∷ boxes_made hs (d + 1) t)) g1 x1 (request_has (t + 1) t g1 x1 (λ e. omega (arith, e, high)) h1)
      (λ g2 x2 h2. step_has (store d (t + 1) 0) (code_of (move d (t + 1) ∷ boxes_made hs (d + 1) t)) g2 x2 (store_has d (t + 1) 0 g2 x2 h2)
      (λ g3 x3 h3. step_has (move d (t + 1)) (code_of (boxes_made hs (d + 1) t)) g3 x3 (move_has d (t + 1) g3 x3 (λ e. omega (arith, e, low)) h3)
      (λ g4 x4 h4. boxes_has hs (d + 1) t (omega (arith, low)) high g4 x4 h4))))

-- what new variables come to, with the registers between as they were
pub data BoxesCome (setting : Setting) (hs : List Home) (vs : List Value) (d t : ℕ) (w : World) (z : FlatState) (regs : Registers) (y : MidState) (next : FlatState → FlatEvaluated) (rest : Next) (r : FlatEvaluated) (q : MidOutcome) : Type 0 where
  were_made : (w' : World) (z' : FlatState) (regs' : Registers) (y' : MidState) → BoxesMade setting hs vs d z.state.variables w w' z z' regs regs' y y'
      → ((i : ℕ) → d + length hs ≤ i → i < t → slice_get regs' i ≡ slice_get regs i) → r ≡ next z' → q ≡ rest regs' y' → BoxesCome setting hs vs d t w z regs y next rest r q
  are_full : FullThere setting r q → BoxesCome setting hs vs d t w z regs y next rest r q
  are_stopped : Stopped setting box_cost z y r q → BoxesCome setting hs vs d t w z regs y next rest r q

pub boxes_come :
    (setting : Setting) (k n room : ℕ) (hs : List Home) (vs : List Value) (ws : List ℕ) (d t : ℕ) (w : World) (z : FlatState) (regs : Registers) (y : MidState) (rest : Steps)
    (next : FlatState → FlatEvaluated) → IsPlaced setting → Things setting w z y → Clean w y → RoomFor setting.limit room z.state y → length vs ≡ length hs
    → WordsOf w.places vs ws → WordsIn d ws regs → d + length hs ≤ t → enough_for (of_code (code_of (boxes_made hs d t))) ≤ length regs → ((z : FlatState) → FlatGrown z (next z).state)
    → BoxesCome setting hs vs d t w z regs y next (λ g x. exec (code_at setting k n) (code_of rest) g x) (with_boxes setting.limit hs z next)
    (exec (code_at setting k n) (code_of (boxes_made hs d t ++ rest)) regs y)
boxes_come setting k n room hs vs ws d t w z regs y rest next placed things clean h same is inside fits there grown =
    subst (λ p. BoxesCome setting hs vs d t w z regs y next behind (with_boxes setting.limit hs z next) p) (sym (in_two_parts (code_at setting k n) (boxes_made hs d t) rest regs y))
    (by (boxes_law setting k n room hs vs ws d t w z regs y [] next placed things clean h same is inside fits there grown))
  where
    behind : Next
    behind g x = exec (code_at setting k n) (code_of rest) g x

    alone : MidOutcome
    alone = exec (code_at setting k n) (code_of (boxes_made hs d t)) regs y

    alone_is : exec (code_at setting k n) (code_of (boxes_made hs d t ++ [])) regs y ≡ alone
    alone_is = ap (λ ss. exec (code_at setting k n) (code_of ss) regs y) (append-nil (boxes_made hs d t))

    nothing_left : (g : Registers) (x : MidState) → exec (code_at setting k n) no_step g x ≡ ends falls g x
    nothing_left g x = (none_left {c = code_at setting k n} {rs = g} {z = x}).same

    later : Grown alone.state (go_on alone behind).state
    later = go_on_grown alone behind alone.state (same_grown alone.state) (λ g x. steps_grow setting k n rest g x)

    by :
        BoxesEnd setting hs vs d w z regs y next (λ g x. exec (code_at setting k n) (code_of []) g x) (with_boxes setting.limit hs z next)
        (exec (code_at setting k n) (code_of (boxes_made hs d t ++ [])) regs y)
        → BoxesCome setting hs vs d t w z regs y next behind (with_boxes setting.limit hs z next) (go_on alone behind)
    by (made w' z' regs' y' m e f) =
        let all : alone ≡ ends falls regs' y' = sym alone_is ∙ f ∙ nothing_left regs' y' in
        were_made w' z' regs' y' m
        (λ i low high. ap (λ (p : MidOutcome). slice_get p.registers i) (sym all) ∙ boxes_has (code_at setting k n) i (slice_get regs i) hs d t low high regs y refl)
        e (ap (λ p. go_on p behind) all ∙ go_on_falls (ends falls regs' y') behind refl)
    by (no_words x) =
        let before = x.printed in
        let printed = subst (λ (p : MidOutcome). IsPrefix (with_boxes setting.limit hs z next).state.state.printed p.state.printed) alone_is before in
        are_full (record {
          asked = x.asked;
          left_then = x.left_then;
          outcome = x.outcome;
          printed = both_prefix printed (record { rest = later.printed.0; is = sym later.printed.1 });
        })
    by (no_space x) =
        let stop : Stopped setting box_cost z y (with_boxes setting.limit hs z next) alone = subst (λ p. Stopped setting box_cost z y (with_boxes setting.limit hs z next) p) alone_is x in
        subst (λ p. BoxesCome setting hs vs d t w z regs y next behind (with_boxes setting.limit hs z next) p)
        (sym (go_on_last alone.end alone behind refl (stopped_last setting (with_boxes setting.limit hs z next) alone.end stop.because))) (are_stopped stop)
