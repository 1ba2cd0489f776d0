-- What a routine made inside an entry, and what goes on with it; and lists and kept calls in two parts.
use Rattle.std.proofs.Common.{◌≡◌, ℕ, ◌+◌, ◌≤◌, Bool, true, false, List, [], ◌∷◌, length, Some, refl, sym, ap, ◌∙◌, subst, arith}
use Rattle.std.specs.Prelude.{slice_set, if◌then◌else◌}
use Rattle.lang_meaning.specs.Objects.{Called, Object, cons}
use Rattle.lang_meaning.specs.Prefixes.{IsPrefix}
use Rattle.lang_meaning.specs.State.{DynamicContext, value, Limit, has_room, room_left, full}
use Rattle.lang_meaning.specs.Values.{Value, nil}
use Rattle.flat_language.specs.FlatSignals.{make_list, with_record}
use Rattle.flat_language.specs.FlatState.{FlatState, FlatEvaluated, gives, go_on, charged, make}
use Rattle.mid_code.specs.Law.{Grown}
use Rattle.mid_code.specs.Meaning.{Context, exec_step}
use Rattle.mid_code.specs.Meaning.{called as mid_called}
use Rattle.mid_code.specs.State.{Registers, returns, falls, ends, MidState, MidOutcome, Next, no_level}
use Rattle.mid_code.specs.State.{charged as mid_charged, go_on as mid_go_on}
use Rattle.mid_code.proofs.Growth.{go_on_grown, same_grown}
use Rattle.back_lowering.specs.Steps.{call}
use Rattle.back_relation.specs.Setting.{Setting}
use Rattle.back_relation.specs.Worlds.{World, Standing}
use Rattle.back_relation.specs.Things.{Things}
use Rattle.back_relation.specs.Ends.{WorldKept, Around, Because, Ends, done, left_by, full_there, stopped, few_turns, SparingCall}
use Rattle.back_relation.specs.Procedures.{called}
use Rattle.back_relation.specs.Starts.{FlatGrown}
use Rattle.back_relation.proofs.Growth.{both_prefix, then_value, then_other, then_grown}
use Rattle.back_relation.proofs.Parts.{go_on_falls, go_on_last}
use Rattle.back_relation.proofs.Straight.{world_cost, around_cost}
use Rattle.back_relation.proofs.Then.{world_then, back_then, stopped_last, because_then}
use Rattle.back_calling.specs.Calling.{WordsIn, call_cost}
use Rattle.back_calling.proofs.Formed.{called_state, called_returned, called_because, call_comes, called_costs}
use Rattle.back_calling.proofs.Inner.{going_on_law}
use Rattle.back_calling.proofs.Units.{world_both, around_both}

-- ---- the meaning in two parts

-- one of two
either_same : (b : Bool) (x y other : FlatEvaluated) → x ≡ y → (if b then x else other) ≡ (if b then y else other)
either_same true x y other h = h
either_same false x y other h = refl

either_then : (b : Bool) (x other : FlatEvaluated) (next : Value → FlatState → FlatEvaluated) → go_on other next ≡ other → (if b then go_on x next else other) ≡ go_on (if b then x else other) next
either_then true x other next h = refl
either_then false x other next h = sym h

make_same :
    (limit : Limit) (size besides : ℕ) (o : Object) (z : FlatState) (f g : Value → FlatState → FlatEvaluated) → ((v : Value) (a : FlatState) → f v a ≡ g v a)
    → make limit size besides o z f ≡ make limit size besides o z g
make_same limit size besides o z f g h =
    either_same (has_room limit (z.state.heap + z.state.stack + size + 0)) _ _
    (record { outcome = full (size + 0) (room_left limit (z.state.heap + z.state.stack)); state = z }) (h _ _)

lists_same :
    (limit : Limit) (vs : List Value) (z : FlatState) (f g : Value → FlatState → FlatEvaluated) → ((v : Value) (a : FlatState) → f v a ≡ g v a)
    → make_list limit vs z f ≡ make_list limit vs z g
lists_same limit [] z f g h = h nil z
lists_same limit (v ∷ vs) z f g h =
    lists_same limit vs z (λ tail after. make limit 2 0 (cons v tail) after f) (λ tail after. make limit 2 0 (cons v tail) after g)
    (λ tail after. make_same limit 2 0 (cons v tail) after f g h)

make_then :
    (limit : Limit) (size besides : ℕ) (o : Object) (z : FlatState) (f next : Value → FlatState → FlatEvaluated)
    → make limit size besides o z (λ v a. go_on (f v a) next) ≡ go_on (make limit size besides o z f) next
make_then limit size besides o z f next =
    either_then (has_room limit (z.state.heap + z.state.stack + size + 0)) _
    (record { outcome = full (size + 0) (room_left limit (z.state.heap + z.state.stack)); state = z }) next refl

lists_then :
    (limit : Limit) (vs : List Value) (z : FlatState) (f next : Value → FlatState → FlatEvaluated)
    → make_list limit vs z (λ v a. go_on (f v a) next) ≡ go_on (make_list limit vs z f) next
lists_then limit [] z f next = refl
lists_then limit (v ∷ vs) z f next =
    lists_same limit vs z (λ tail after. make limit 2 0 (cons v tail) after (λ u a. go_on (f u a) next)) (λ tail after. go_on (make limit 2 0 (cons v tail) after f) next)
    (λ tail after. make_then limit 2 0 (cons v tail) after f next)
    ∙ lists_then limit vs z (λ tail after. make limit 2 0 (cons v tail) after f) next

-- **a list is made, and what goes on with it**
pub list_in_parts :
    (limit : Limit) (vs : List Value) (z : FlatState) (next : Value → FlatState → FlatEvaluated)
    → make_list limit vs z next ≡ go_on (make_list limit vs z (λ v a. gives v a)) next
list_in_parts limit vs z next = lists_then limit vs z (λ v a. gives v a) next

-- a call is kept, and what goes on
pub record_in_parts :
    (limit : Limit) (c : Called) (z : FlatState) (next : FlatState → FlatEvaluated)
    → with_record limit (Some c) true z next ≡ go_on (with_record limit (Some c) true z (λ a. gives nil a)) (λ v a. next a)
record_in_parts limit c z next =
    either_then (has_room limit (z.state.heap + z.state.stack + (2 + length c.arguments) + 0)) (gives nil _)
    (record { outcome = full (2 + length c.arguments + 0) (room_left limit (z.state.heap + z.state.stack)); state = z }) (λ v a. next a) refl

-- ---- what a routine made

abbrev after : Context → (number : ℕ) → (arguments ws : List ℕ) → MidState → MidOutcome
after c number arguments ws y = called c number ws (mid_charged (call_cost arguments) y)

-- what was made behind a call
pub record MadeBy (setting : Setting) (credit : ℕ) (w w' : World) (v : Value) (word : ℕ) (z : FlatState) (y : MidState) (r : FlatEvaluated) (q : MidOutcome) : Type 0 where
  pub outcome : r.outcome ≡ value v
  pub end : q.end ≡ returns word
  pub world : WorldKept setting w w' z r.state y q.state
  pub back : Around setting credit z r.state y q.state
  pub frame : r.state.frame ≡ z.frame

-- **a routine is called that makes something**, and what all comes to where it did
pub made_after :
    (setting : Setting) (There : Type 0) (value_of : There → Value) (word_of : There → ℕ) (c : Context) (c1 credit m1 m t number : ℕ)
    (arguments ws : List ℕ) (rs valid : List Standing) (w : World) (around : DynamicContext) (z : FlatState) (y : MidState) (regs : Registers) (r : FlatEvaluated)
    (f : Value → FlatState → FlatEvaluated) (next : Next)
    → WordsIn regs arguments ws → m + 16 ≤ m1 → c1 + call_cost arguments ≤ credit
    → ((v : Value) (x : FlatState) → FlatGrown x (f v x).state) → ((g : Registers) (x : MidState) → Grown x (next g x).state)
    → ((x : There) → r.outcome ≡ value (value_of x)) → ((x : There) → (after c number arguments ws y).end ≡ returns (word_of x))
    → Ends setting c1 There ⊥ m1 z (mid_charged (call_cost arguments) y) r (after c number arguments ws y)
    → ((x : There)
    → SparingCall setting credit m rs valid w around z y (f (value_of x) r.state) (next (slice_set regs t (Some (word_of x))) (after c number arguments ws y).state))
    → SparingCall setting credit m rs valid w around z y (go_on r f) (mid_go_on (exec_step c (call t number arguments) regs y) next)
made_after setting There value_of word_of c c1 credit m1 m t number arguments ws rs valid w around z y regs r f next there fewer enough flat_grown grown outcome end e h =
    subst (λ p. SparingCall setting credit m rs valid w around z y (go_on r f) p) (sym (ap (λ p. mid_go_on p next) (call_comes c regs y t number arguments ws there))) (cases e)
  where
    flat_later : FlatGrown r.state (go_on r f).state
    flat_later = then_grown r f flat_grown

    later : Grown (mid_called (after c number arguments ws y) t regs).state (mid_go_on (mid_called (after c number arguments ws y) t regs) next).state
    later =
        go_on_grown (mid_called (after c number arguments ws y) t regs) next (mid_called (after c number arguments ws y) t regs).state
        (same_grown (mid_called (after c number arguments ws y) t regs).state) grown

    cases : Ends setting c1 There ⊥ m1 z (mid_charged (call_cost arguments) y) r (after c number arguments ws y)
        → SparingCall setting credit m rs valid w around z y (go_on r f) (mid_go_on (mid_called (after c number arguments ws y) t regs) next)
    cases (done x) =
        subst (λ p. SparingCall setting credit m rs valid w around z y p (mid_go_on (mid_called (after c number arguments ws y) t regs) next)) (sym (then_value r f (value_of x) (outcome x)))
        (subst (λ p. SparingCall setting credit m rs valid w around z y (f (value_of x) r.state) p)
        (sym (ap (λ p. mid_go_on p next) (called_returned (after c number arguments ws y) t regs (end x))
        ∙ go_on_falls (ends falls (slice_set regs t (Some (word_of x))) (after c number arguments ws y).state) next refl))
        (h x))
    cases (left_by x) = absurd x
    cases (full_there x) =
        subst (λ p. SparingCall setting credit m rs valid w around z y p (mid_go_on (mid_called (after c number arguments ws y) t regs) next)) (sym (then_other r f _ x.outcome tt))
        (full_there (record {
          asked = x.asked;
          left_then = x.left_then;
          outcome = x.outcome;
          printed =
              both_prefix (subst (λ (s : MidState). IsPrefix r.state.state.printed s.printed) (sym (called_state (after c number arguments ws y) t regs)) x.printed)
              (record { rest = later.printed.0; is = sym later.printed.1 });
        }))
    cases (stopped x) =
        let because : Because setting r (mid_called (after c number arguments ws y) t regs).end = called_because setting r (after c number arguments ws y) t regs x.because in
        subst (λ p. SparingCall setting credit m rs valid w around z y (go_on r f) p)
        (sym (go_on_last (mid_called (after c number arguments ws y) t regs).end (mid_called (after c number arguments ws y) t regs) next refl
        (stopped_last setting r (mid_called (after c number arguments ws y) t regs).end because)))
        (stopped (record {
          because = because_then setting r f (mid_called (after c number arguments ws y) t regs).end flat_later because;
          printed =
              both_prefix (subst (λ (s : MidState). IsPrefix s.printed r.state.state.printed) (sym (called_state (after c number arguments ws y) t regs)) x.printed) flat_later.printed;
          paid = λ ended.
              omega (arith, enough, x.paid (λ none. ended (because_then setting r f no_level flat_later none)), flat_later.units, called_costs (after c number arguments ws y) t regs);
        }))
    cases (few_turns x) = few_turns (omega (arith, x, fewer, flat_later.units))

-- **and the code goes on with it**, which leaves something of the first unit that is charged there
pub made_then :
    (setting : Setting) (There : Type 0) (world_of : There → World) (value_of : There → Value) (word_of : There → ℕ) (c : Context) (c1 c2 credit m1 m t number : ℕ)
    (arguments ws : List ℕ) (rs valid : List Standing) (w : World) (around : DynamicContext) (z : FlatState) (y : MidState) (regs : Registers) (r : FlatEvaluated)
    (f : Value → FlatState → FlatEvaluated) (next : Next)
    → WordsIn regs arguments ws → Things setting w z y → c1 + call_cost arguments + c2 ≤ credit → m + 16 ≤ m1 → z.state.units ≤ r.state.state.units
    → ((v : Value) (x : FlatState) → FlatGrown x (f v x).state) → ((g : Registers) (x : MidState) → Grown x (next g x).state)
    → ((x : There) → MadeBy setting c1 w (world_of x) (value_of x) (word_of x) z (mid_charged (call_cost arguments) y) r (after c number arguments ws y))
    → Ends setting c1 There ⊥ m1 z (mid_charged (call_cost arguments) y) r (after c number arguments ws y)
    → ((x : There) → WorldKept setting w (world_of x) z r.state y (after c number arguments ws y).state → Around setting (c1 + call_cost arguments) z r.state y (after c number arguments ws y).state
    → SparingCall setting c2 m rs valid (world_of x) around r.state (after c number arguments ws y).state (f (value_of x) r.state)
    (next (slice_set regs t (Some (word_of x))) (after c number arguments ws y).state))
    → SparingCall setting credit m rs valid w around z y (go_on r f) (mid_go_on (exec_step c (call t number arguments) regs y) next)
made_then setting There world_of value_of word_of c c1 c2 credit m1 m t number arguments ws rs valid w around z y regs r f next there things enough fewer up flat_grown grown made e h =
    made_after setting There value_of word_of c c1 credit m1 m t number arguments ws rs valid w around z y regs r f next there fewer (omega (arith, enough)) flat_grown grown (λ x. (made x).outcome) (λ x. (made x).end) e
    (λ x.
    let k = made x in
    let world : WorldKept setting w (world_of x) z r.state y (after c number arguments ws y).state =
    world_then setting (world_cost setting (call_cost arguments) things) (around_cost setting {credit = call_cost arguments} z y (call_cost arguments) (omega arith)) k.world in
    let back : Around setting (c1 + call_cost arguments) z r.state y (after c number arguments ws y).state =
    back_then setting (world_cost setting (call_cost arguments) things) (around_cost setting {credit = call_cost arguments} z y (call_cost arguments) (omega arith)) (omega arith) k.back in
    going_on_law setting (c1 + call_cost arguments) c2 credit m m rs valid w (world_of x) around (charged 1 z) (charged 1 r.state) y (after c number arguments ws y).state
    (f (value_of x) r.state) (next (slice_set regs t (Some (word_of x))) (after c number arguments ws y).state) (world_both setting 1 world) (around_both setting 1 back) enough
    (omega (arith, up)) k.frame (h x world back))
