-- **The whole routine**: what it comes to by whether the value is a function, by how the list ends, and by what the function is.
use Rattle.std.proofs.Common.{◌≡◌, ◌⊎◌, inl, inr, ℕ, zero, suc, ◌+◌, ◌*◌, ◌%◌, ◌^◌, ◌<◌, ◌≤◌, Bool, true, false, List, [], ◌∷◌, length, Option, Some, None, refl, sym, ap, ◌∙◌, subst, arith}
use Rattle.std.specs.Prelude.{slice_get, if◌then◌else◌}
use Rattle.std.proofs.lemmas.Bool.{cases_lt}
use Rattle.lang_meaning.specs.declared.program.GenericRow.{GenericRow}
use Rattle.lang_meaning.specs.Classes.{fetch}
use Rattle.lang_meaning.specs.Meaning.{Spread, spread}
use Rattle.lang_meaning.specs.Objects.{Object, function, closure, generic_function, function_class, list_class}
use Rattle.lang_meaning.specs.Primitives.{is_function}
use Rattle.lang_meaning.specs.State.{DynamicContext}
use Rattle.lang_meaning.specs.Counts.{unit_cost}
use Rattle.lang_meaning.specs.Values.{Value, nil, object}
use Rattle.flat_language.specs.FlatMeaning.{mean_apply}
use Rattle.flat_language.specs.FlatNodes.{tables}
use Rattle.flat_language.specs.FlatSignals.{signal, signal_domain_error, apply_object, apply_generic_row, apply_value}
use Rattle.flat_language.specs.FlatState.{FlatState, FlatEvaluated, captured_by, charged}
use Rattle.flat_laws.specs.FlatLater.{FlatLater}
use Rattle.flat_laws.proofs.Applied.{signals, value_applies}
use Rattle.flat_laws.proofs.Later.{later_kept}
use Rattle.mid_code.specs.declared.operation.Counted.TheVariants.{Turn}
use Rattle.mid_code.specs.declared.program.MidProcedure.{MidProcedure}
use Rattle.mid_code.specs.Costs.{entry_cost}
use Rattle.mid_code.specs.Meaning.{Context, levels, exec}
use Rattle.mid_code.specs.MidCode.{code_of}
use Rattle.mid_code.specs.State.{Registers, MidState, MidOutcome}
use Rattle.mid_arena.specs.Places.{word_of}
use Rattle.mid_arena.specs.Tags.{cons_tag, nil_word}
use Rattle.mid_arena.proofs.Arguments.{object_found}
use Rattle.mid_arena.proofs.ValueWords.{tells_value}
use Rattle.back_lowering.specs.ControlWords.{site_address}
use Rattle.back_lowering.specs.Program.{procedure_with}
use Rattle.back_lowering.specs.RoutineCodes.{apply_code}
use Rattle.back_lowering.specs.Routines.{apply_routine}
use Rattle.back_relation.specs.Setting.{Setting, ConstantAt}
use Rattle.back_relation.specs.Chains.{GenericAt}
use Rattle.back_relation.specs.Placed.{IsPlaced, HasSymbol}
use Rattle.back_relation.specs.Room.{apply_words, entry_words}
use Rattle.back_relation.specs.Worlds.{World, Standing}
use Rattle.back_relation.specs.Around.{CallBegins, SiteStored}
use Rattle.back_relation.specs.Ends.{CallEnds, few_turns}
use Rattle.back_relation.specs.Forms.{context_at, code_at}
use Rattle.back_relation.specs.RoutineClaims.{WordIs}
use Rattle.back_relation.specs.Starts.{FlatGrown}
use Rattle.back_relation.proofs.Growth.{grown_later, both_flat, same_prefix}
use Rattle.back_calling.proofs.Entered.{turns_law}
use Rattle.back_calling.proofs.Growing.{tasks_below, domain_error_later}
use Rattle.back_calling.proofs.Numbers.{numbers_law}
use Rattle.back_calling.proofs.Storing.{some_words}
use Rattle.back_calling.proofs.Units.{calls_recounted, begins_recounted}
use Rattle.back_conditions.proofs.FunctionTests.{told_word}
use Rattle.back_generics.proofs.Generics.{enough_taken}
use Rattle.back_generics.proofs.Points.{second_of, first_one}
use Rattle.back_generics.specs.Law.{ApplyParts, LawOfListApplications}
use Rattle.back_generics.proofs.Applying.{asked_comes, no_function_comes, counted_comes, no_list_comes, list_comes, asked_steps, applied_steps, CountedAt}
use Rattle.back_generics.proofs.Circles.{begins_to_go}
use Rattle.back_generics.proofs.Counting.{counting, turn_cost, ending_cost, ending, Behind, Found, circling}
use Rattle.back_generics.proofs.Entering.{Here, many_cars}
use Rattle.back_generics.proofs.ListedFunctions.{function_found}
use Rattle.back_generics.proofs.ListedGenerics.{generic_found}
use Rattle.back_generics.proofs.Numbers.{IsNew, AreDifferent}
use Rattle.back_generics.proofs.Spreads.{Path, numbers, cars, IsAmong, IsCons, Ending, at_nil, at_other, at_one_seen, at_one_passed, at_last_step, ListIs, list_is}
use Rattle.back_generics.proofs.ListWords.{first_of, ConsesAt, ListWords, list_words, different_words, passed_word, other_tag, fewer_conses}

-- where a word is among others
record IndexOf (x : ℕ) (xs : List ℕ) : Type 0 where
  pub front : ℕ
  pub circle : ℕ
  pub some : 1 ≤ circle
  pub whole : length xs ≡ front + circle
  pub there : slice_get xs front ≡ Some x

index_of : (x : ℕ) (xs : List ℕ) → IsAmong x xs → IndexOf x xs
index_of x [] h = absurd h
index_of x (y ∷ ys) (inl same) = record { front = 0; circle = suc (length ys); some = omega arith; whole = omega arith; there = ap (λ n. Some n) (sym same) }
index_of x (y ∷ ys) (inr h) =
    let r = index_of x ys h in
    record { front = suc r.front; circle = r.circle; some = r.some; whole = let w = r.whole in omega (arith, w); there = r.there }

module _ (setting : Setting) (placed : IsPlaced setting) (k t : ℕ) (few : suc t ≤ setting.turns_each) (rs valid : List Standing) (around : DynamicContext) (parts : ApplyParts setting k around)
    (w : World) (z : FlatState) (f list : Value) (word list_word : ℕ) (is_f : WordIs setting w word f) (is_list : WordIs setting w list_word list)
    (cells : List (ℕ × Value)) (last : Value) (path : Path z.state cells list last) (different : AreDifferent (numbers cells)) (few_cells : 3 * length cells ≤ t) where
  abbrev c : Context
  c = code_at setting k (suc t)

  abbrev HereY : MidState → Type 0
  HereY y = Here setting placed k t rs valid around w z y

  abbrev Ends : ℕ → MidState → FlatEvaluated → MidOutcome → Type 0
  Ends credit y r q = CallEnds setting credit (suc t + 1) rs valid w around z y r q

  abbrev n : ℕ
  n = length cells

  abbrev begun : Registers
  begun = Some word ∷ Some list_word ∷ None ∷ None ∷ None ∷ None ∷ None ∷ None ∷ None ∷ None ∷ None ∷ None ∷ []

  abbrev asked_file : Registers
  asked_file = Some word ∷ Some list_word ∷ Some 1 ∷ None ∷ None ∷ None ∷ None ∷ None ∷ None ∷ None ∷ None ∷ None ∷ []

  -- the words of the conses where they are counted
  module _ (y : MidState) (h : HereY y) where
    l : ListWords w.places y.arena cells last list_word
    l = list_words setting.names (tables setting.program) w.places z.state y h.call.things.represents cells list last list_word path is_list

    words_differ : AreDifferent l.words
    words_differ = different_words setting.names (tables setting.program) w.places z.state y h.call.things.represents l.words (numbers cells) l.pointers different

    heap_low : y.arena.heap_to ≤ 4 * length y.arena.memory
    heap_low = let room = h.call.things.represents.arena.room in omega (arith, room)

    heap_small : y.arena.heap_to ≤ 2 ^ 26
    heap_small = let size = h.call.things.represents.arena.size in omega (arith, heap_low, size)

    few_conses : length l.words ≤ 2 ^ 26
    few_conses =
        let all = fewer_conses y.arena (length y.arena.memory) l.words l.car_words l.behind heap_low l.conses words_differ in
        let size = h.call.things.represents.arena.size in
        omega (arith, all, size)

    -- a list that ends: with what is no cons
    counted_end : (l.behind % 4 ≡ cons_tag → ⊥)
        → CountedAt setting placed k t few rs valid around parts w z f list word list_word is_f is_list (length l.words) l.behind (turn_cost * length l.words + ending_cost) y
    counted_end other =
        let many = l.many in
        subst (λ a. CountedAt setting placed k t few rs valid around parts w z f list word list_word is_f is_list a l.behind (turn_cost * length l.words + ending_cost) y) (zero_before (length l.words))
        (ending setting.procedures (levels setting.procedures setting.turns_each k) word list_word None None None l.behind other l.words l.car_words (suc t) 0 list_word list_word 1 1 None None
        (record y { cost = y.cost + 6 + 12 + 2 + 6 + 6 + 6 + 6 + 6 }) l.conses heap_small l.first words_differ (behind_first l.words l.car_words l.conses words_differ l.first) (omega (arith, many, few_cells))
        (omega (arith, few_conses)) refl (omega arith) (omega arith))
      where
        zero_before : (a : ℕ) → 0 + a ≡ a
        zero_before a = omega arith

        behind_first : (xs cs : List ℕ) → ConsesAt y.arena xs cs l.behind → AreDifferent xs → list_word ≡ first_of xs l.behind
            → Behind setting.procedures (levels setting.procedures setting.turns_each k) word list_word None None None list_word xs
        behind_first [] cs at differ e = tt
        behind_first (x ∷ xs) [] at differ e = absurd at
        behind_first (x ∷ xs) (c ∷ cs) at differ e =
            (let here = at.0.here in let aligned = at.0.aligned in omega (arith, here, aligned, e), subst (λ a. IsNew a xs) (sym e) differ.0)

    -- one that goes in a circle
    counted_circle : (i : IndexOf l.behind l.words)
        → Found setting.procedures (levels setting.procedures setting.turns_each k) word list_word None None None l.words l.car_words l.behind i.front i.circle i.some i.whole words_differ i.there few_conses (suc t)
        (counting word list_word 0 list_word list_word 1 1 None None None None None) (record y { cost = y.cost + 6 + 12 + 2 + 6 + 6 + 6 + 6 + 6 }) (turn_cost * (3 * (i.front + i.circle)) + ending_cost)
    counted_circle i =
        let many = l.many in
        let whole = i.whole in
        circling setting.procedures (levels setting.procedures setting.turns_each k) word list_word None None None l.words l.car_words l.behind i.front i.circle i.some i.whole words_differ i.there few_conses
        (3 * (i.front + i.circle)) (suc t) 0 0 0 list_word list_word 1 1 None None (record y { cost = y.cost + 6 + 12 + 2 + 6 + 6 + 6 + 6 + 6 }) l.conses heap_small (begins l.words i.front l.behind l.behind l.first i.there) (begins l.words i.front l.behind l.behind l.first i.there)
        (omega (arith, many, whole, few_cells)) (omega arith) (omega arith) (begins_to_go i.front i.circle i.some)
      where
        begins : (xs : List ℕ) (j u v : ℕ) → list_word ≡ first_of xs u → slice_get xs j ≡ Some v → slice_get xs 0 ≡ Some list_word
        begins [] j u v e g = absurd (cc g)
        begins (x ∷ xs) j u v e g = ap (λ a. Some a) (sym e)

  -- ---- by how the list ends

  abbrev no_list : FlatEvaluated
  no_list = signal_domain_error (context_at setting k) (signal (context_at setting k)) list list_class around z

  abbrev all_steps : (y : MidState) → MidOutcome
  all_steps y = exec c (code_of (asked_steps setting placed k t few rs valid around parts w z f list word list_word is_f is_list)) (Some word ∷ Some list_word ∷ Some (told_word (is_function (fetch z.state f))) ∷ None ∷ None ∷ None ∷ None ∷ None ∷ None ∷ None ∷ None ∷ None ∷ []) y

  other_comes : is_function (fetch z.state f) ≡ true → (last ≡ nil → ⊥) → (IsCons z.state last → ⊥) → (y : MidState) → HereY y → Ends (224 + 396 * n) y no_list (all_steps y)
  other_comes is_one no_nil no_cons y h =
      let lw = l y h in
      let many = lw.many in
      let told = tells_value setting.names (tables setting.program) w.places z.state y h.call.things.represents last lw.behind lw.of_last in
      counted_comes setting placed k t few rs valid around parts w z f list word list_word is_f is_list is_one no_list (length lw.words) lw.behind (turn_cost * length lw.words + ending_cost) 140 (224 + 396 * n) y h
      (counted_end y h (other_tag setting.names (tables setting.program) w.places z.state y h.call.things.represents last lw.behind lw.of_last no_cons)) (omega (arith, many))
      (λ began steps left r7 r8 y' h'.
      no_list_comes setting placed k t few rs valid around parts w z f list word list_word is_f is_list (length lw.words) lw.behind began steps left r7 r8 y' (λ e. no_nil (told.nil_alone e)) h')

  circle_comes : is_function (fetch z.state f) ≡ true → (i : ℕ) → last ≡ object i → IsAmong i (numbers cells) → (y : MidState) → HereY y → Ends (224 + 396 * n) y no_list (all_steps y)
  circle_comes is_one i is among y h =
      let lw = l y h in
      let many = lw.many in
      let at = index_of lw.behind lw.words (passed_word setting.names (tables setting.program) w.places z.state y h.call.things.represents i lw.behind lw.words (numbers cells) (ap (word_of w.places) (sym is) ∙ lw.of_last) lw.pointers among) in
      let whole = at.whole in
      let found = counted_circle y h at in
      counted_comes setting placed k t few rs valid around parts w z f list word list_word is_f is_list is_one no_list found.count 0 (turn_cost * (3 * (at.front + at.circle)) + ending_cost) 140 (224 + 396 * n) y h
      found.counted (omega (arith, many, whole))
      (λ began steps left r7 r8 y' h'.
      no_list_comes setting placed k t few rs valid around parts w z f list word list_word is_f is_list found.count 0 began steps left r7 r8 y' (λ e. absurd (cc e)) h')

  -- a list, with what is applied to its elements
  module _ (ends_nil : last ≡ nil) where
    nil_path : Path z.state cells list nil
    nil_path = subst (λ v. Path z.state cells list v) ends_nil path

    abbrev applies : FlatEvaluated
    applies = apply_value (context_at setting k) (signal (context_at setting k)) f (cars cells) around z

    listed_comes :
        (cost : ℕ) → is_function (fetch z.state f) ≡ true
        → ((r5 r6 r7 r8 : Option ℕ) (y' : MidState) → HereY y'
        → Ends cost y' applies
        (exec c (code_of (applied_steps setting placed k t few rs valid around parts w z f list word list_word is_f is_list))
        (Some word ∷ Some list_word ∷ Some n ∷ Some nil_word ∷ Some nil_word ∷ r5 ∷ r6 ∷ r7 ∷ r8 ∷ None ∷ None ∷ None ∷ []) y'))
        → (y : MidState) → HereY y → Ends (104 + 132 * n + cost) y applies (all_steps y)
    listed_comes cost is_one inner y h =
        let lw = l y h in
        let many = lw.many in
        let is_nil : lw.behind ≡ nil_word = cc (lw.of_last, ap (word_of w.places) ends_nil) in
        let counted : CountedAt setting placed k t few rs valid around parts w z f list word list_word is_f is_list n nil_word (turn_cost * n + ending_cost) y =
        subst (λ a. CountedAt setting placed k t few rs valid around parts w z f list word list_word is_f is_list a nil_word (turn_cost * a + ending_cost) y) many
        (subst (λ a. CountedAt setting placed k t few rs valid around parts w z f list word list_word is_f is_list (length lw.words) a (turn_cost * length lw.words + ending_cost) y) is_nil
        (counted_end y h (λ tag. absurd (omega (arith, tag, is_nil))))) in
        counted_comes setting placed k t few rs valid around parts w z f list word list_word is_f is_list is_one applies n nil_word (turn_cost * n + ending_cost) (20 + cost) (104 + 132 * n + cost) y h counted (omega arith)
        (λ began steps left r7 r8 y' h'.
        list_comes setting placed k t few rs valid around parts w z f list word list_word is_f is_list applies n cost (20 + cost) began steps left r7 r8 y' (omega arith) h'
        (λ x here. inner (Some steps) (Some left) r7 r8 x here))

    function_list_comes : (p : ℕ) → fetch z.state f ≡ Some (function p) → (y : MidState) → HereY y → Ends (104 + 132 * n + (402 + 54 * n)) y applies (all_steps y)
    function_list_comes p e y h =
        listed_comes (402 + 54 * n) (ap is_function e)
        (λ r5 r6 r7 r8 y' h'. function_found setting placed k t few rs valid around parts w z f list word list_word is_f is_list cells nil_path different (omega (arith, few_cells)) p e r5 r6 r7 r8 y' h') y h

    few_cells_there : (y : MidState) → HereY y → n < 2 ^ 26
    few_cells_there y h =
        let lw = l y h in
        let many = lw.many in
        let all = fewer_conses y.arena (length y.arena.memory) lw.words lw.car_words lw.behind (heap_low y h) lw.conses (words_differ y h) in
        let size = h.call.things.represents.arena.size in
        omega (arith, many, all, size)

    generic_list_comes :
        (number start : ℕ) (g : GenericRow) (at : GenericAt setting start g) → ConstantAt setting (setting.at.generics + 4 * number) start → HasSymbol setting g.name.0 → fetch z.state f ≡ Some (generic_function number)
        → slice_get setting.program.generics number ≡ Some g → (y : MidState) → HereY y → Ends (104 + 132 * n + (724 + 552 * n)) y applies (all_steps y)
    generic_list_comes number start g at at_number named_so e there y h =
        listed_comes (724 + 552 * n) (ap is_function e)
        (λ r5 r6 r7 r8 y' h'.
        generic_found setting placed k t few rs valid around parts w z f list word list_word is_f is_list cells nil_path different few_cells (few_cells_there y h) start g at named_so number at_number e
        (ap (λ o. apply_object (context_at setting k) (signal (context_at setting k)) o (captured_by f z) f (cars cells) around z) e
        ∙ ap (λ o. apply_generic_row (context_at setting k) (signal (context_at setting k)) o (cars cells) around z) there)
        (724 + 552 * n) (omega arith)
        (λ taken.
        let required = enough_taken g.required (length (cars cells)) g.rest taken in
        let same = many_cars cells in
        let less = at.few in
        omega (arith, required, same, less)) r5 r6 r7 r8 y' h') y h

-- ---- the units of the conses change nothing but units

same_fetch : (u : ℕ) (z : FlatState) (v : Value) → fetch (charged u z).state v ≡ fetch z.state v
same_fetch u z nil = refl
same_fetch u z v = refl

path_units : (u : ℕ) (z : FlatState) (cells : List (ℕ × Value)) (v last : Value) → Path z.state cells v last → Path (charged u z).state cells v last
path_units u z [] v last h = h
path_units u z (c ∷ cs) v last h = (h.0, h.1, same_fetch u z v ∙ h.2, path_units u z cs h.0 last h.3)

units_grown : (u : ℕ) (z : FlatState) → FlatGrown z (charged u z)
units_grown u z = record { printed = same_prefix z.state.printed; units = omega arith; exits = omega arith }

-- ---- the law

abbrev given : Setting → MidProcedure
given setting = procedure_with Turn 2 (apply_code setting.at)

pub applications_law : LawOfListApplications
unfolding apply_code
applications_law setting k turns rs valid w around z y placed few parts f list word list_word is_f is_list site begins =
    calls_recounted setting {c1 = 1468 + entry_cost 2} {m1 = turns} z z.state.units z.state.units (omega arith) (omega arith)
    (turns_law setting k turns (apply_routine setting.at) turns apply_words entry_words 1468 (given setting) (word ∷ list_word ∷ []) rs valid w around z y meant
    ((numbers_law setting).routine 11 (given setting) placed refl) refl refl (omega arith) (omega arith) grown begins
    (λ n e y' here. body n e y' here.call (site.0, here.words site_address ∙ site.1, site.2)))
  where
    meant : FlatEvaluated
    meant = mean_apply (context_at setting k) f list around z

    s : Spread
    s = spread (length z.state.store + 1) z.state [] list

    li : ListIs z.state list
    li = list_is z.state list

    zl : FlatState
    zl = charged (length s.elements) z

    size : length s.elements ≡ length li.cells
    size = ap length li.elements ∙ many_cars li.cells

    -- what it means where the value is a function
    listed : FlatEvaluated
    listed =
        if s.proper then apply_value (context_at setting k) (signal (context_at setting k)) f s.elements around zl
        else signal_domain_error (context_at setting k) (signal (context_at setting k)) list list_class around zl

    domain_grows : (v : Value) (expected : ℕ) (x : FlatState) → FlatGrown x (signal_domain_error (context_at setting k) (signal (context_at setting k)) v expected around x).state
    domain_grows v expected x = grown_later (domain_error_later setting k v expected around x)

    applied_grows : (vs : List Value) (x : FlatState) → FlatGrown x (apply_value (context_at setting k) (signal (context_at setting k)) f vs around x).state
    applied_grows vs x =
        grown_later
        (value_applies {R = FlatLater} {k = later_kept} (context_at setting k) (tasks_below setting k) (signal (context_at setting k))
        (signals {R = FlatLater} {k = later_kept} (context_at setting k) (tasks_below setting k)) f vs around x).grows

    listed_grows : FlatGrown zl listed.state
    listed_grows = by s.proper
      where
        by : (b : Bool) → FlatGrown zl (if b then apply_value (context_at setting k) (signal (context_at setting k)) f s.elements around zl else signal_domain_error (context_at setting k) (signal (context_at setting k)) list list_class around zl).state
        by true = applied_grows s.elements zl
        by false = domain_grows list list_class zl

    grown : FlatGrown z meant.state
    grown = by (is_function (fetch z.state f))
      where
        by : (b : Bool) → FlatGrown z (if b then listed else signal_domain_error (context_at setting k) (signal (context_at setting k)) f function_class around z).state
        by true = both_flat (units_grown (length s.elements) z) listed_grows
        by false = domain_grows f function_class z

    begun : Registers
    begun = Some word ∷ Some list_word ∷ None ∷ None ∷ None ∷ None ∷ None ∷ None ∷ None ∷ None ∷ None ∷ None ∷ []

    Comes : ℕ → MidState → Type 0
    Comes j y' = CallEnds setting 1468 turns rs valid w around z y' meant (exec (code_at setting k j) (code_of (apply_code setting.at)) begun y')

    body : (j : ℕ) → turns ≡ suc j → (y' : MidState) → CallBegins setting rs valid entry_words w around z y' → SiteStored setting around y' → Comes j y'
    body zero e y' call stored = let up = grown.units in let memory = some_words setting call.things in few_turns (omega (arith, e, up, memory))
    body (suc t) e y' call stored = by_kind (is_function (fetch z.state f)) refl
      where
        few_t : suc t ≤ setting.turns_each
        few_t = omega (arith, e, few)

        same_turns : suc t + 1 ≡ turns
        same_turns = omega (arith, e)

        code_end : MidOutcome
        code_end = exec (code_at setting k (suc t)) (code_of (apply_code setting.at)) begun y'

        none_there : is_function (fetch z.state f) ≡ false → Comes (suc t) y'
        none_there none =
            subst (λ a. CallEnds setting 1468 a rs valid w around z y' meant code_end) same_turns
            (subst (λ r. CallEnds setting 1468 (suc t + 1) rs valid w around z y' r code_end) (sym (second_of _ _ none))
            (asked_comes setting placed k t few_t rs valid around parts w z f list word list_word is_f is_list (signal_domain_error (context_at setting k) (signal (context_at setting k)) f function_class around z) 140 1468 y'
            (domain_grows f function_class z) (omega arith) (record { call = call; site = stored })
            (λ x h. no_function_comes setting placed k t few_t rs valid around parts w z f list word list_word is_f is_list none x h)))

        -- with the units of the conses charged
        there : Here setting placed k t rs valid around w zl y'
        there = record { call = begins_recounted setting (z.state.units + length s.elements) call; site = stored }

        path : Path zl.state li.cells list li.last
        path = path_units (length s.elements) z li.cells list li.last li.path

        Listed : Type 0
        Listed = CallEnds setting (1468 + unit_cost * length s.elements) (suc t + 1) rs valid w around zl y' listed code_end

        by_value : 3 * length li.cells ≤ t → is_function (fetch z.state f) ≡ true → li.last ≡ nil → s.proper ≡ true → (o : Option Object) → fetch z.state f ≡ o → Listed
        by_value enough is_one ends proper None e' = absurd (cc (is_one, ap is_function e'))
        by_value enough is_one ends proper (Some (function p)) e' =
            subst (λ r. CallEnds setting (1468 + unit_cost * length s.elements) (suc t + 1) rs valid w around zl y' r code_end) (sym (first_one _ _ proper ∙ ap (λ vs. apply_value (context_at setting k) (signal (context_at setting k)) f vs around zl) li.elements))
            (asked_comes setting placed k t few_t rs valid around parts w zl f list word list_word is_f is_list (apply_value (context_at setting k) (signal (context_at setting k)) f (cars li.cells) around zl)
            (104 + 132 * length li.cells + (402 + 54 * length li.cells)) (1468 + unit_cost * length s.elements) y' (applied_grows (cars li.cells) zl) (omega (arith, size)) there
            (λ x h.
            function_list_comes setting placed k t few_t rs valid around parts w zl f list word list_word is_f is_list li.cells li.last path li.different enough ends p (same_fetch (length s.elements) z f ∙ e') x h))
        by_value enough is_one ends proper (Some (generic_function g)) e' =
            let it = object_found setting.names (tables setting.program) w.places z.state y' call.things.represents f word (generic_function g) is_f e' in
            let row = call.things.generics it.number g it.stored in
            let at = placed.generics g row.0 row.1 in
            subst (λ r. CallEnds setting (1468 + unit_cost * length s.elements) (suc t + 1) rs valid w around zl y' r code_end) (sym (first_one _ _ proper ∙ ap (λ vs. apply_value (context_at setting k) (signal (context_at setting k)) f vs around zl) li.elements))
            (asked_comes setting placed k t few_t rs valid around parts w zl f list word list_word is_f is_list (apply_value (context_at setting k) (signal (context_at setting k)) f (cars li.cells) around zl)
            (104 + 132 * length li.cells + (724 + 552 * length li.cells)) (1468 + unit_cost * length s.elements) y' (applied_grows (cars li.cells) zl) (omega (arith, size)) there
            (λ x h.
            generic_list_comes setting placed k t few_t rs valid around parts w zl f list word list_word is_f is_list li.cells li.last path li.different enough ends g at.0 row.0 at.2 at.1 (placed.generic_names g row.0 row.1)
            (same_fetch (length s.elements) z f ∙ e') row.1 x h))
        by_value enough is_one ends proper (Some (closure vs rest inner env)) e' =
            absurd (object_found setting.names (tables setting.program) w.places z.state y' call.things.represents f word (closure vs rest inner env) is_f e').stands
        by_value enough is_one ends proper (Some o) e' = absurd (cc (is_one, ap is_function e'))

        no_list_is : s.proper ≡ false → listed ≡ signal_domain_error (context_at setting k) (signal (context_at setting k)) list list_class around zl
        no_list_is h = second_of _ _ h

        no_list :
            is_function (fetch z.state f) ≡ true → s.proper ≡ false
            → ((x : MidState) → Here setting placed k t rs valid around w zl x
            → CallEnds setting (224 + 396 * length li.cells) (suc t + 1) rs valid w around zl x (signal_domain_error (context_at setting k) (signal (context_at setting k)) list list_class around zl)
            (exec (code_at setting k (suc t)) (code_of (asked_steps setting placed k t few_t rs valid around parts w zl f list word list_word is_f is_list))
            (Some word ∷ Some list_word ∷ Some (told_word (is_function (fetch zl.state f))) ∷ None ∷ None ∷ None ∷ None ∷ None ∷ None ∷ None ∷ None ∷ None ∷ []) x))
            → Listed
        no_list is_one h inner =
            subst (λ r. CallEnds setting (1468 + unit_cost * length s.elements) (suc t + 1) rs valid w around zl y' r code_end) (sym (no_list_is h))
            (asked_comes setting placed k t few_t rs valid around parts w zl f list word list_word is_f is_list (signal_domain_error (context_at setting k) (signal (context_at setting k)) list list_class around zl)
            (224 + 396 * length li.cells) (1468 + unit_cost * length s.elements) y' (domain_grows list list_class zl) (omega (arith, size)) there inner)

        by_end : 3 * length li.cells ≤ t → is_function (fetch z.state f) ≡ true → Ending z.state (suc (length (numbers li.cells))) [] (numbers li.cells) li.last s.proper → Listed
        by_end enough is_one (at_nil x h) = by_value enough is_one x h (fetch z.state f) refl
        by_end enough is_one (at_other x no_cons h) =
            no_list is_one h
            (λ v here.
            other_comes setting placed k t few_t rs valid around parts w zl f list word list_word is_f is_list li.cells li.last path li.different enough (ap is_function (same_fetch (length s.elements) z f) ∙ is_one) x
            (λ it. no_cons (it.0, it.1, sym (same_fetch (length s.elements) z li.last) ∙ it.2)) v here)
        by_end enough is_one (at_one_seen m x seen h) = absurd (cc seen)
        by_end enough is_one (at_one_passed m x among h) =
            no_list is_one h
            (λ v here.
            circle_comes setting placed k t few_t rs valid around parts w zl f list word list_word is_f is_list li.cells li.last path li.different enough (ap is_function (same_fetch (length s.elements) z f) ∙ is_one) m x among v here)
        by_end enough is_one (at_last_step h) = absurd (omega (arith, h))

        listed_comes_to : is_function (fetch z.state f) ≡ true → Comes (suc t) y'
        listed_comes_to is_one = split (cases_lt t (3 * length li.cells))
          where
            split : (t < 3 * length li.cells) ⊎ (3 * length li.cells ≤ t) → Comes (suc t) y'
            split (inl less) =
                let meant_is : meant ≡ listed = first_one _ _ is_one in
                let up = listed_grows.units in
                let memory = some_words setting call.things in
                let units : meant.state.state.units ≡ listed.state.state.units = ap (λ (r : FlatEvaluated). r.state.state.units) meant_is in
                few_turns (omega (arith, less, e, up, memory, units, size))
            split (inr enough) =
                subst (λ r. CallEnds setting 1468 turns rs valid w around z y' r code_end) (sym (first_one _ _ is_one))
                (calls_recounted setting {c1 = 1468 + unit_cost * length s.elements} {m1 = suc t + 1} z (z.state.units + length s.elements) z.state.units (omega arith) (omega (arith, same_turns)) (by_end enough is_one li.end))

        by_kind : (b : Bool) → is_function (fetch z.state f) ≡ b → Comes (suc t) y'
        by_kind false none = none_there none
        by_kind true is_one = listed_comes_to is_one
