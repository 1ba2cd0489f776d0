-- **A value is applied to the elements of a list**: it is judged to be a function, the list is counted, and what there is is entered.
use Rattle.std.proofs.Common.{◌≡◌, ℕ, zero, suc, ◌+◌, ◌-◌, ◌<◌, ◌≤◌, true, false, List, [], ◌∷◌, ◌++◌, length, Option, Some, None, refl, sym, ap, ◌∙◌, subst, arith}
use Rattle.std.specs.Prelude.{not, slice_set}
use Rattle.std.proofs.lemmas.Bool.{ne_eqb}
use Rattle.lang_meaning.specs.Classes.{fetch}
use Rattle.lang_meaning.specs.Objects.{program_error_class, function_class, list_class, built_in_classes}
use Rattle.lang_meaning.specs.Primitives.{is_function}
use Rattle.lang_meaning.specs.State.{DynamicContext}
use Rattle.lang_meaning.specs.Values.{Value, nil}
use Rattle.lang_meaning.specs.Counts.{unit_cost}
use Rattle.flat_language.specs.FlatSignals.{signal, signal_domain_error}
use Rattle.flat_language.specs.FlatState.{FlatState, FlatEvaluated, gives}
use Rattle.mid_code.specs.declared.operation.Comparison.TheVariants.{Equal, Different}
use Rattle.mid_code.specs.Meaning.{Context, levels, exec}
use Rattle.mid_code.specs.MidCode.{lend, return_word, code_of}
use Rattle.mid_code.specs.State.{Registers, MidState, MidOutcome}
use Rattle.mid_code.specs.State.{charged as mid_charged}
use Rattle.mid_arena.specs.Tags.{nil_word}
use Rattle.mid_arena.proofs.Running.{and_then, none_left, constant_falls, move_falls, choose_second_falls}
use Rattle.back_lowering.specs.ControlWords.{generic_arity}
use Rattle.back_lowering.specs.RoutineCodes.{apply_code, signals_domain, list_counted, by_function, arity_into, where_takes, wrong_number, generic_into, chain_sought, element_into, list_copied}
use Rattle.back_lowering.specs.RoutineCodes.{signals as signals_steps}
use Rattle.back_lowering.specs.Routines.{domain_routine, failing_routine, is_function_routine, level_routine, chain_routine}
use Rattle.back_lowering.specs.Steps.{Steps, move, constant, load, call, call_number, test_of, if_equal, if_different}
use Rattle.back_relation.specs.Setting.{Setting}
use Rattle.back_relation.specs.Placed.{IsPlaced}
use Rattle.back_relation.specs.Room.{entry_words, failing_words}
use Rattle.back_relation.specs.Worlds.{World, Standing}
use Rattle.back_relation.specs.Around.{CallBegins, SiteStored}
use Rattle.back_relation.specs.Ends.{WorldKept, Around, CallEnds, Returned, LeftCall}
use Rattle.back_relation.specs.Forms.{context_at, code_at}
use Rattle.back_relation.specs.Procedures.{called}
use Rattle.back_relation.specs.RoutineClaims.{WordIs, is_function_cost}
use Rattle.back_relation.specs.Starts.{FlatGrown}
use Rattle.back_relation.proofs.Parts.{step_then}
use Rattle.back_relation.proofs.Straight.{world_cost, around_cost}
use Rattle.back_relation.proofs.Then.{world_then, back_then}
use Rattle.back_calling.specs.Calling.{WordsIn}
use Rattle.back_calling.proofs.Inner.{going_on_law, looked, nothing_because, returned}
use Rattle.back_conditions.proofs.Finding.{routine_used}
use Rattle.back_conditions.proofs.FunctionTests.{told_word, given, given_small, body_says}
use Rattle.back_generics.proofs.Looking.{LookThere, looks_called}
use Rattle.back_generics.proofs.Points.{fewer_room, steps_grown, straight, first_branch}
use Rattle.back_generics.specs.Law.{ApplyParts}
use Rattle.back_generics.proofs.Counting.{Counted, counting}
use Rattle.back_generics.proofs.Entering.{Here, here_later}

-- what holds at each level with one below it, holds where there is a level
pub at_level : (P : ℕ → Type 0) (k : ℕ) → 1 ≤ k → ((j : ℕ) → k ≡ suc j → P (suc j)) → P k
at_level P zero some h = absurd (omega (arith, some))
at_level P (suc j) some h = h j refl

module _ (setting : Setting) (placed : IsPlaced setting) (k t : ℕ) (few : suc t ≤ setting.turns_each) (rs valid : List Standing) (around : DynamicContext) (parts : ApplyParts setting k around)
    (w : World) (z : FlatState) (f list : Value) (word list_word : ℕ) (is_f : WordIs setting w word f) (is_list : WordIs setting w list_word list) where
  abbrev pub c : Context
  c = code_at setting k (suc t)

  abbrev pub m : ℕ
  m = suc t + 1

  abbrev pub HereAt : MidState → Type 0
  HereAt y = Here setting placed k t rs valid around w z y

  pub here_then : {credit : ℕ} {y y' : MidState} → WorldKept setting w w z z y y' → Around setting credit z z y y' → SiteStored setting around y' → HereAt y → HereAt y'
  here_then kept back site h = here_later setting placed k t rs valid around w z kept back site h

  pub here_cost : {y : MidState} (p : ℕ) → HereAt y → HereAt (mid_charged p y)
  here_cost {y} p h = here_then {credit = p} (world_cost setting p h.call.things) (around_cost setting z y p (omega arith)) h.site h

  pub fewer_begins : {y : MidState} (words_here : ℕ) → words_here ≤ entry_words → CallBegins setting rs valid entry_words w around z y → CallBegins setting rs valid words_here w around z y
  fewer_begins {y} words_here enough b = record { things = b.things; around_stands = b.around_stands; room = fewer_room setting.limit _ _ z y (omega (arith, enough)) b.room }

  abbrev pub Comes : ℕ → MidState → FlatEvaluated → MidOutcome → Type 0
  Comes credit y r q = CallEnds setting credit m rs valid w around z y r q

  abbrev pub file : (r2 r3 r4 r5 r6 r7 r8 r9 r10 r11 : Option ℕ) → Registers
  file r2 r3 r4 r5 r6 r7 r8 r9 r10 r11 = Some word ∷ Some list_word ∷ r2 ∷ r3 ∷ r4 ∷ r5 ∷ r6 ∷ r7 ∷ r8 ∷ r9 ∷ r10 ∷ r11 ∷ []

  abbrev pub begun : Registers
  begun = file None None None None None None None None None None

  -- ---- what goes wrong

  abbrev pub domain_of : Value → ℕ → FlatEvaluated
  domain_of v expected = signal_domain_error (context_at setting k) (signal (context_at setting k)) v expected around z

  pub domain_comes :
      (v : Value) (v_word expected of r : ℕ) (regs : Registers) (y : MidState) → WordIs setting w v_word v → expected < built_in_classes
      → WordsIn (slice_set regs r (Some expected)) (of ∷ r ∷ []) (v_word ∷ expected ∷ []) → r < length (slice_set regs r (Some expected)) → HereAt y
      → Comes 122 y (domain_of v expected) (exec c (code_of (signals_domain setting.at of r expected)) regs y)
  domain_comes v v_word expected of r regs y is low there inside h =
      straight setting k (suc t) m rs valid w around z (domain_of v expected) 6 116 (omega arith) h.call.things
      ((and_then constant_falls (record { same = refl })).same)
      (returned setting k (suc t) 50 m r (domain_routine setting.at) (of ∷ r ∷ []) (v_word ∷ expected ∷ []) [] rs valid w around z (mid_charged 6 y) (slice_set regs r (Some expected)) (domain_of v expected)
      there inside (here_cost 6 h).call.things
      ((parts.conditions (suc t) rs valid w z (mid_charged 52 (mid_charged 6 y)) few).domain v expected v_word low is (here_cost 52 (here_cost 6 h)).site
      (fewer_begins failing_words (omega arith) (here_cost 52 (here_cost 6 h)).call)))

  abbrev pub wrong_many : FlatEvaluated
  wrong_many = signal (context_at setting k) program_error_class [] around z

  pub fails_comes :
      (r : ℕ) (regs : Registers) (y : MidState) → WordsIn (slice_set regs r (Some program_error_class)) (r ∷ []) (program_error_class ∷ []) → r < length (slice_set regs r (Some program_error_class)) → HereAt y
      → Comes 116 y wrong_many (exec c (code_of (signals_steps setting.at r program_error_class)) regs y)
  fails_comes r regs y there inside h =
      straight setting k (suc t) m rs valid w around z wrong_many 6 110 (omega arith) h.call.things
      ((and_then constant_falls (record { same = refl })).same)
      (returned setting k (suc t) 50 m r (failing_routine setting.at) (r ∷ []) (program_error_class ∷ []) [] rs valid w around z (mid_charged 6 y) (slice_set regs r (Some program_error_class)) wrong_many
      there inside (here_cost 6 h).call.things
      ((parts.conditions (suc t) rs valid w z (mid_charged 46 (mid_charged 6 y)) few).class_alone program_error_class (record { low = omega arith; high = omega arith; slots = refl }) (here_cost 46 (here_cost 6 h)).site
      (fewer_begins failing_words (omega arith) (here_cost 46 (here_cost 6 h)).call)))

  -- ---- the value is judged

  abbrev pub function_part : Steps
  function_part =
      arity_into setting.at 3 11 0
      ++ (where_takes setting.at 3 2 5 (wrong_number setting.at 5)
      ++ (call 10 (level_routine setting.at) [] ∷ lend 9 2 (code_of (list_copied setting.at ++ (constant 3 0 ∷ call_number 10 11 (0 ∷ 3 ∷ 2 ∷ 9 ∷ []) ∷ []))) ∷ return_word 10 ∷ []))

  abbrev pub generic_part : Steps
  generic_part =
      generic_into setting.at 11 4 0
      ++ (move 0 11 ∷ load 3 0 generic_arity
      ∷ (where_takes setting.at 3 2 4 (signals_steps setting.at 4 program_error_class)
      ++ (move 10 1 ∷ constant 11 0 ∷ (chain_sought setting.at (element_into setting.at)
      ++ (move 11 4 ∷ call 10 (level_routine setting.at) [] ∷ lend 9 2 (code_of (list_copied setting.at ++ (call 10 (chain_routine setting.at) (11 ∷ 2 ∷ 9 ∷ []) ∷ []))) ∷ return_word 10 ∷ [])))))

  abbrev pub applied_steps : Steps
  applied_steps = by_function setting.at 3 function_part generic_part ++ signals_domain setting.at 0 3 function_class

  abbrev pub judged_steps : Steps
  judged_steps = constant 4 nil_word ∷ if_different 3 4 (signals_domain setting.at 1 2 list_class) [] ∷ applied_steps

  abbrev pub counted_steps : Steps
  counted_steps = list_counted setting.at ++ judged_steps

  abbrev pub asked_steps : Steps
  asked_steps = constant 3 0 ∷ if_equal 2 3 (signals_domain setting.at 0 2 function_class) [] ∷ counted_steps

  abbrev pub answer : ℕ
  answer = told_word (is_function (fetch z.state f))

  abbrev asked_file : Registers
  asked_file = file (Some answer) None None None None None None None None None

  pub asked_comes :
      (r : FlatEvaluated) (c2 credit : ℕ) (y : MidState) → FlatGrown z r.state → 196 + c2 ≤ credit → HereAt y → ((y' : MidState) → HereAt y' → Comes c2 y' r (exec c (code_of asked_steps) asked_file y'))
      → Comes credit y r (exec c (code_of (apply_code setting.at)) begun y)
  unfolding apply_code
  asked_comes r c2 credit y grown enough h behind =
      let number : ℕ = is_function_routine setting.at in
      let y0 : MidState = mid_charged 46 y in
      let q : MidOutcome = called c number (word ∷ []) y0 in
      subst (λ o. Comes credit y r o) (sym (step_then c (call 2 number (0 ∷ [])) asked_steps begun y))
      (looked setting is_function_cost (credit + unit_cost) (λ o. Returned setting credit w z y r o) (λ o. LeftCall setting credit rs valid w around z y r o)
      (LookThere setting k t m rs valid w around z y0 is_function_cost answer q) (λ x. answer) c m m 2 number (0 ∷ []) (word ∷ []) z y begun (gives nil z) r (λ g x. exec c (code_of asked_steps) g x)
      (refl, tt) (omega arith) (omega arith) grown (λ g x. steps_grown setting k (suc t) asked_steps g x) (nothing_because setting r h.call.things grown) (λ asked left_then e. absurd (cc e)) (λ x. x.end)
      (looks_called setting k t m rs valid w around z y0 entry_words is_function_cost number answer (word ∷ []) (given setting) (routine_used setting 19 (given setting) placed refl) refl refl (given_small setting)
      (omega arith) (omega arith) (here_cost 46 h).call (λ frame some. body_says setting k t frame w z y0 f word (here_cost 46 h).call.things is_f some))
      (λ x.
      let world = world_then setting (world_cost setting 46 h.call.things) (around_cost setting {credit = 46} z y 46 (omega arith)) x.world in
      let back : Around setting 196 z z y q.state = back_then setting (world_cost setting 46 h.call.things) (around_cost setting {credit = 46} z y 46 (omega arith)) (omega arith) x.back in
      going_on_law setting 196 c2 credit m m rs valid w w around z z y q.state r (exec c (code_of asked_steps) asked_file q.state) world back enough (omega arith) refl
      (behind q.state (here_then world back (x.site h.site) h))))

  -- it is no function
  pub no_function_comes : is_function (fetch z.state f) ≡ false → (y : MidState) → HereAt y → Comes 140 y (domain_of f function_class) (exec c (code_of asked_steps) asked_file y)
  no_function_comes none y h =
      subst (λ b. Comes 140 y (domain_of f function_class) (exec c (code_of asked_steps) (file (Some (told_word b)) None None None None None None None None None) y)) (sym none)
      (straight setting k (suc t) m rs valid w around z (domain_of f function_class) 6 134 (omega arith) h.call.things
      ((and_then constant_falls (record { same = refl })).same)
      (first_branch setting k (suc t) m rs valid w around z (domain_of f function_class) 122 (test_of Equal 2 3) (signals_domain setting.at 0 2 function_class) [] counted_steps
      (file (Some 0) (Some 0) None None None None None None None None) (mid_charged 6 y) (omega arith) (here_cost 6 h).call.things refl refl refl
      (domain_comes f word function_class 0 2 (file (Some 0) (Some 0) None None None None None None None None) (mid_charged 12 (mid_charged 6 y)) is_f (omega arith) (refl, (refl, tt)) (omega arith)
      (here_cost 12 (here_cost 6 h)))))

  -- ---- the list is counted

  abbrev counting_file : Registers
  counting_file = counting word list_word 0 list_word list_word 1 1 None None None None None

  abbrev before_loop : MidState → MidState
  before_loop y = record y { cost = y.cost + 6 + 12 + 2 + 6 + 6 + 6 + 6 + 6 }

  -- what was counted, where the loop begins
  abbrev pub CountedAt : (count now most : ℕ) → MidState → Type 0
  CountedAt count now most y =
      Counted setting.procedures (levels setting.procedures setting.turns_each k) word list_word None None None (suc t) counting_file (before_loop y) count now most

  pub counted_comes :
      is_function (fetch z.state f) ≡ true → (r : FlatEvaluated) (count now most c2 credit : ℕ) (y : MidState) → HereAt y → CountedAt count now most y → 50 + most + c2 ≤ credit
      → ((began steps left : ℕ) (r7 r8 : Option ℕ) (y' : MidState) → HereAt y' → Comes c2 y' r (exec c (code_of judged_steps) (counting word list_word count now began steps left r7 r8 None None None) y'))
      → Comes credit y r (exec c (code_of asked_steps) asked_file y)
  counted_comes there r count now most c2 credit y h counted enough behind =
      let least = counted.least in
      let within = counted.within in
      let p : ℕ = counted.total - y.cost in
      let whole : counted.total ≡ y.cost + p = omega (arith, least) in
      subst (λ b. Comes credit y r (exec c (code_of asked_steps) (file (Some (told_word b)) None None None None None None None None None) y)) (sym there)
      (straight setting k (suc t) m rs valid w around z r p c2 (omega (arith, within, least, enough)) h.call.things
      ((and_then constant_falls
      (and_then (choose_second_falls refl refl refl none_left)
      (and_then constant_falls
      (and_then (move_falls refl)
      (and_then (move_falls refl)
      (and_then constant_falls
      (and_then constant_falls
      (and_then counted.runs (record { same = refl }))))))))).same
      ∙ ap (λ x. exec c (code_of judged_steps) (counting word list_word count now counted.began counted.steps counted.left counted.r7 counted.r8 None None None) (record y { cost = x })) whole)
      (behind counted.began counted.steps counted.left counted.r7 counted.r8 (mid_charged p y) (here_cost p h)))

  -- it is no list
  pub no_list_comes :
      (count now began steps left : ℕ) (r7 r8 : Option ℕ) (y : MidState) → (now ≡ nil_word → ⊥) → HereAt y
      → Comes 140 y (domain_of list list_class) (exec c (code_of judged_steps) (counting word list_word count now began steps left r7 r8 None None None) y)
  no_list_comes count now began steps left r7 r8 y other h =
      straight setting k (suc t) m rs valid w around z (domain_of list list_class) 6 134 (omega arith) h.call.things
      ((and_then constant_falls (record { same = refl })).same)
      (first_branch setting k (suc t) m rs valid w around z (domain_of list list_class) 122 (test_of Different 3 4) (signals_domain setting.at 1 2 list_class) [] applied_steps
      (counting word list_word count now nil_word steps left r7 r8 None None None) (mid_charged 6 y) (omega arith) (here_cost 6 h).call.things refl refl (ap not (ne_eqb now nil_word other))
      (domain_comes list list_word list_class 1 2 (counting word list_word count now nil_word steps left r7 r8 None None None) (mid_charged 12 (mid_charged 6 y)) is_list (omega arith) (refl, (refl, tt)) (omega arith)
      (here_cost 12 (here_cost 6 h))))

  -- it is one
  pub list_comes :
      (r : FlatEvaluated) (count c2 credit began steps left : ℕ) (r7 r8 : Option ℕ) (y : MidState) → 20 + c2 ≤ credit → HereAt y
      → ((y' : MidState) → HereAt y' → Comes c2 y' r (exec c (code_of applied_steps) (counting word list_word count nil_word nil_word steps left r7 r8 None None None) y'))
      → Comes credit y r (exec c (code_of judged_steps) (counting word list_word count nil_word began steps left r7 r8 None None None) y)
  list_comes r count c2 credit began steps left r7 r8 y enough h behind =
      straight setting k (suc t) m rs valid w around z r 20 c2 enough h.call.things
      ((and_then constant_falls (and_then (choose_second_falls refl refl refl none_left) (record { same = refl }))).same
      ∙ ap (λ x. exec c (code_of applied_steps) (counting word list_word count nil_word nil_word steps left r7 r8 None None None) (record y { cost = x })) (omega arith))
      (behind (mid_charged 20 y) (here_cost 20 h))
