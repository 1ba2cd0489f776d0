-- **The segments of a tagbody**, one after another: each pays for its step of the loop with what it leaves of its first unit.
use Rattle.std.proofs.Common.{◌≡◌, ℕ, zero, suc, ◌+◌, ◌*◌, ◌<◌, ◌≤◌, Bool, true, false, [], ◌∷◌, length, Some, refl, sym, ap, ◌∙◌, subst, arith}
use Rattle.std.specs.Prelude.{◌^◌, ◌==◌, not, slice_get, slice_set}
use Rattle.std.proofs.lemmas.Bool.{eqb-true, eqb-false}
use Rattle.std.proofs.Math.ListN.{length-set}
use Rattle.lang_meaning.specs.Counts.{unit_cost}
use Rattle.lang_meaning.specs.State.{DynamicContext, Outcome, value, exit, full, more}
use Rattle.lang_meaning.specs.Values.{Value, nil}
use Rattle.flat_language.specs.FlatForm.{FlatForm, FlatForms, no_form, form_and}
use Rattle.flat_language.specs.FlatMeaning.{mean, mean_sequence, from_segment}
use Rattle.flat_language.specs.FlatNodes.{count_forms}
use Rattle.flat_language.specs.FlatState.{FlatEnvironment, FlatState, FlatEvaluated, gives, go_on, go_on_from, charged}
use Rattle.mid_code.specs.declared.operation.Arithmetic.TheVariants as which
use Rattle.mid_code.specs.declared.operation.Comparison.TheVariants.{Different}
use Rattle.mid_code.specs.declared.operation.Counted.TheVariants.{Turn}
use Rattle.mid_code.specs.Arena.{word_in}
use Rattle.mid_code.specs.Costs.{test_cost, jump_cost}
use Rattle.mid_code.specs.Law.{Grown}
use Rattle.mid_code.specs.Meaning.{Task, again, Context, count, test, exec, exec_step, exec_number, turns}
use Rattle.mid_code.specs.MidCode.{MidStep, MidCodes, switch, code_of}
use Rattle.mid_code.specs.State.{Registers, register, falls, no_turn, ends, MidState, MidOutcome, Next, jumped}
use Rattle.mid_code.specs.State.{charged as mid_charged, go_on as mid_go_on}
use Rattle.mid_code.proofs.Growth.{both_grown, charged_grown, levels_grow, turns_grow, exec_grown, go_on_grown, test_grown, jumped_grown, same_grown}
use Rattle.mid_arena.proofs.Lists.{set_elsewhere}
use Rattle.mid_arena.proofs.Registers.{register_here, register_beside}
use Rattle.mid_arena.proofs.Running.{RunsTo, and_then, none_left, constant_falls, compute_known, go_on_twice, some_found, test_true, test_false}
use Rattle.back_lowering.specs.Codes.{lower, lower_segments}
use Rattle.back_lowering.specs.Steps.{Steps, constant, compute, test_of}
use Rattle.back_relation.specs.Setting.{Setting}
use Rattle.back_relation.specs.Worlds.{World}
use Rattle.back_relation.specs.Activation.{FormScope, NoSlot}
use Rattle.back_relation.specs.Ends.{Reached, Ends, Fell, Left, done, left_by, full_there, stopped, few_turns, form_credit}
use Rattle.back_relation.specs.Forms.{context_at, code_at, value_code}
use Rattle.back_relation.specs.Points.{Point, start_at, Here, AllHere}
use Rattle.back_relation.specs.Starts.{FlatGrown, Start, EndsBy, LeftFrom, ReachedFrom}
use Rattle.back_relation.proofs.Activations.{activation_later}
use Rattle.back_relation.proofs.Growth.{same_flat, both_flat, then_grown, then_value}
use Rattle.back_relation.proofs.Parts.{go_on_falls}
use Rattle.back_relation.proofs.Points.{point_after, charged_point}
use Rattle.back_relation.proofs.Sequences.{sequence_grows}
use Rattle.back_relation.proofs.Starts.{start_after, start_charged, ends_charged_by, reached_repaid, reached_cost, reached_same}
use Rattle.back_relation.proofs.Stops.{stopped_before}
use Rattle.back_relation.proofs.Straight.{same_here, world_cost, around_cost}
use Rattle.back_relation.proofs.Then.{ends_go_on, ends_behind, reached_then}
use Rattle.back_relation.proofs.Worlds.{later_same}
use Rattle.back_exits.specs.Turns.{segments_loop}

-- ---- what is said of fewer turns, and of the unit of a part

pub go_twice : (r : FlatEvaluated) (f g : Value → FlatState → FlatEvaluated) → go_on (go_on r f) g ≡ go_on r (λ v z. go_on (f v z) g)
go_twice r f g = from r.outcome
  where
    from : (o : Outcome) → go_on (go_on_from o r.state f) g ≡ go_on_from o r.state (λ v z. go_on (f v z) g)
    from (value v) = refl
    from (exit e v landing) = refl
    from (full asked left_then) = refl
    from more = refl

pub fewer_turns :
    {setting : Setting} {c : ℕ} {D L : Type 0} {t u : ℕ} {z : FlatState} {y : MidState} {r : FlatEvaluated} {q : MidOutcome} → u ≤ t → Ends setting c D L t z y r q
    → Ends setting c D L u z y r q
fewer_turns l (done x) = done x
fewer_turns l (left_by x) = left_by x
fewer_turns l (full_there x) = full_there x
fewer_turns l (stopped x) = stopped x
fewer_turns l (few_turns x) = few_turns (omega (arith, x, l))

-- a unit pays for turns too
unit_paid :
    (setting : Setting) {D E : Type 0} {c1 c2 : ℕ} (a : Start setting) (u : ℕ) {r : FlatEvaluated} {q : MidOutcome} → a.turns ≤ u + 16 → (D → E) → c1 ≤ unit_cost * 1 + c2
    → Ends setting (c1 + unit_cost) D (LeftFrom setting c1 (start_charged setting a 1) a.d r q) u (charged 1 a.z) a.y r q → EndsBy setting E c2 a r q
unit_paid setting a u few f h (done x) = done (f x)
unit_paid setting {D} a u few f h (left_by x) = ends_charged_by setting {D = D} a 1 f h (left_by x)
unit_paid setting a u few f h (full_there x) = full_there x
unit_paid setting a u few f h (stopped x) = stopped (stopped_before setting (omega (arith, h)) x)
unit_paid setting a u few f h (few_turns x) = few_turns (omega (arith, x, few))

-- registers behind the first ones were set
changed :
    (setting : Setting) {credit : ℕ} (a : Start setting) (regs' : Registers) (cost : ℕ) → length regs' ≡ length a.regs
    → ((i : ℕ) → i < a.d → slice_get regs' i ≡ slice_get a.regs i) → cost ≤ credit → ReachedFrom setting credit a a.d a.w a.z regs' (mid_charged cost a.y)
changed setting a regs' cost count same h = record {
  kept = record {
    world = world_cost setting cost a.begins.call.things;
    activation =
        activation_later setting {d = a.d} {y = a.y} (later_same a.w) (same_here a.w refl) refl (λ n cs k. k) (λ r few. ap word_in (same r few)) a.begins.scope
        a.begins.activation;
    registers = record { count = count; same = λ i few n. same i few };
  };
  back = around_cost setting a.z a.y cost h;
}

pub reached_changed :
    (setting : Setting) {credit : ℕ} (a : Start setting) (regs' : Registers) (cost total : ℕ) → total ≡ a.y.cost + cost → length regs' ≡ length a.regs
    → ((i : ℕ) → i < a.d → slice_get regs' i ≡ slice_get a.regs i) → cost ≤ credit → ReachedFrom setting credit a a.d a.w a.z regs' (record a.y { cost = total })
reached_changed setting {credit} a regs' cost total sum count same h =
    subst (λ n. ReachedFrom setting credit a a.d a.w a.z regs' (record a.y { cost = n })) (sym sum) (changed setting a regs' cost count same h)

-- ---- the segment of a number

module _ (setting : Setting) (s : FormScope) (d m size k : ℕ) where
  pub record SegmentAt (all : FlatForms) (i : ℕ) : Type 0 where
    pub form : FlatForm
    pub rest_is : from_segment i all ≡ form_and form (from_segment (suc i) all)
    pub code_is :
        (c : Context) (regs : Registers) (y : MidState)
        → exec_number c (lower_segments setting.names setting.at setting.program s.code d all) i regs y ≡ exec c (value_code setting s d form) regs y
    pub here : (t : ℕ) → AllHere setting s d m size k t all → Here setting s d m size k t form

  segment_at : (all : FlatForms) (i : ℕ) → i < count_forms all → SegmentAt all i
  unfolding lower exec
  segment_at no_form i h = absurd (omega (arith, h))
  segment_at (form_and f fs) zero h = record { form = f; rest_is = refl; code_is = λ c regs y. refl; here = λ t h. h.0 }
  segment_at (form_and f fs) (suc i) h =
      let o = segment_at fs i (omega (arith, h)) in record { form = o.form; rest_is = o.rest_is; code_is = o.code_is; here = λ t h. o.here t h.1 }

none_behind : (all : FlatForms) (i : ℕ) → i ≡ count_forms all → from_segment i all ≡ no_form
none_behind no_form zero e = refl
none_behind no_form (suc i) e = refl
none_behind (form_and f fs) zero e = absurd (omega (arith, e))
none_behind (form_and f fs) (suc i) e = none_behind fs i (omega (arith, e))

-- ---- the loop

-- the loop fell out, with the number of segments
pub record SegmentsEnded (setting : Setting) (credit : ℕ) (s : FormScope) (d m size segments : ℕ) (p : Point setting s (d + 6) m size) (r : FlatEvaluated) (q : MidOutcome) : Type 0 where
  pub outcome : r.outcome ≡ value nil
  pub end : q.end ≡ falls
  pub w' : World
  pub reached : Reached setting credit s (d + 6) p.rs p.valid p.w w' p.env p.around p.z r.state p.regs q.registers p.y q.state
  pub last : register (d + 6) q.registers ≡ Some segments

module _ (setting : Setting) (s : FormScope) (d m size k : ℕ) (all : FlatForms) (small : count_forms all < 2 ^ 32) (wide : d + 8 ≤ size) (free : NoSlot s.code (d + 6)) where
  abbrev P : Type 0
  P = Point setting s (d + 6) m size

  abbrev Ended : (credit : ℕ) → P → FlatEvaluated → MidOutcome → Type 0
  Ended credit p r q = SegmentsEnded setting credit s d m size (count_forms all) p r q

  -- what the loop comes to, with so many turns
  abbrev pub Whole : (credit turns : ℕ) → P → FlatEvaluated → MidOutcome → Type 0
  Whole credit t p r q = Ends setting (credit + unit_cost) (Ended credit p r q) (Left setting credit p.rs p.valid s (d + 6) p.w p.env p.around p.z p.regs p.y r q) t p.z p.y r q

  abbrev bodies : MidCodes
  bodies = lower_segments setting.names setting.at setting.program s.code (d + 7) all

  abbrev the_loop : MidStep
  the_loop = segments_loop d (count_forms all) bodies

  abbrev nothing_then : Value → FlatState → FlatEvaluated
  nothing_then v z = gives nil z

  abbrev pub from : (i : ℕ) → Value → FlatEnvironment → DynamicContext → FlatState → FlatEvaluated
  from i v env around z = go_on (mean_sequence (context_at setting k) v (from_segment i all) env around z) nothing_then

  abbrev pub from_grows : (i : ℕ) (v : Value) (env : FlatEnvironment) (around : DynamicContext) (z : FlatState) → FlatGrown z (from i v env around z).state
  from_grows i v env around z =
      both_flat (sequence_grows setting k v (from_segment i all) env around z)
      (then_grown (mean_sequence (context_at setting k) v (from_segment i all) env around z) nothing_then (λ v z. same_flat z))

  wide_at : (p : P) → d + 8 ≤ length p.regs
  wide_at p = let same = p.count in omega (arith, wide, same)

  module _ (t : ℕ) where
    abbrev c : Context
    c = code_at setting k t

    abbrev tail : Steps
    tail = constant (d + 7) 1 ∷ compute (d + 6) which.Add (d + 6) (d + 7) ∷ constant (d + 7) (count_forms all) ∷ []

    abbrev again_next : Next
    again_next regs y = mid_go_on (jumped (exec c (code_of []) regs y)) (λ g x. count c Turn (again the_loop g) x)

    abbrev test_next : Next
    test_next regs y = test (test_of Different (d + 6) (d + 7)) again_next (ends falls) regs y

    abbrev behind_next : Next
    behind_next regs y = mid_go_on (exec c (code_of tail) regs (mid_charged jump_cost y)) test_next

    switch_is : (regs : Registers) (y : MidState) (i : ℕ) → register (d + 6) regs ≡ Some i → exec_step c (switch (d + 6) bodies) regs y ≡ jumped (exec_number c bodies i regs (mid_charged test_cost y))
    unfolding exec
    switch_is regs y i e = some_found (λ n rs x. jumped (exec_number c bodies n rs x)) regs (mid_charged test_cost y) e

    parts_are : (q : MidOutcome) → mid_go_on (mid_go_on (jumped q) (λ rs y. exec c (code_of tail) rs y)) test_next ≡ mid_go_on q behind_next
    unfolding mid_go_on
    parts_are q =
        ap (λ o. mid_go_on o test_next) (go_on_twice q (λ rs y. ends falls rs (mid_charged jump_cost y)) (λ rs y. exec c (code_of tail) rs y))
        ∙ go_on_twice q (λ rs y. exec c (code_of tail) rs (mid_charged jump_cost y)) test_next

    loop_is :
        (i : ℕ) (f : SegmentAt setting s (d + 7) m size k all i) (regs : Registers) (y : MidState) → register (d + 6) regs ≡ Some i
        → exec_step c the_loop regs y ≡ mid_go_on (exec c (value_code setting s (d + 7) f.form) regs (mid_charged test_cost y)) behind_next
    unfolding exec
    loop_is i f regs y e =
        ap (λ o. mid_go_on (mid_go_on o (λ rs x. exec c (code_of tail) rs x)) test_next) (switch_is regs y i e ∙ ap (λ o. jumped o) (f.code_is c regs (mid_charged test_cost y)))
        ∙ parts_are (exec c (value_code setting s (d + 7) f.form) regs (mid_charged test_cost y))

    again_is : (regs : Registers) (y : MidState) → again_next regs y ≡ count c Turn (again the_loop regs) (mid_charged jump_cost y)
    unfolding exec mid_go_on
    again_is regs y = refl

    code_grows : (ss : Steps) (g : Registers) (y : MidState) → Grown y (exec c (code_of ss) g y).state
    code_grows ss g y =
        exec_grown c (levels_grow setting.procedures setting.turns_each k)
        (turns_grow setting.procedures _ (levels_grow setting.procedures setting.turns_each k) t) (code_of ss) g y

    test_grows : (g : Registers) (y : MidState) → Grown y (test_next g y).state
    test_grows g y =
        test_grown (test_of Different (d + 6) (d + 7)) again_next (ends falls) g y
        (λ g y. go_on_grown _ _ y (jumped_grown _ y (code_grows [] g y)) (λ g y. (turns_grow setting.procedures _ (levels_grow setting.procedures setting.turns_each k) t).at _ y))
        (λ g y. same_grown y)

    behind_grows : (g : Registers) (y : MidState) → Grown y (behind_next g y).state
    behind_grows g y = go_on_grown _ test_next y (both_grown (charged_grown jump_cost y) (code_grows tail g (mid_charged jump_cost y))) test_grows

    -- ---- behind a segment

    module _ (u : ℕ)
        (further :
        (p : P) (i : ℕ) (v : Value) → i < count_forms all → register (d + 6) p.regs ≡ Some i
        → Whole 0 u p (from i v p.env p.around p.z) (count c Turn (again the_loop p.regs) p.y)) where
      module _ (p : P) (i : ℕ) (v : Value) (there : i < count_forms all) (number : register (d + 6) p.regs ≡ Some i) where
        abbrev g1 : Registers
        g1 = slice_set p.regs (d + 7) (Some 1)

        abbrev g2 : Registers
        g2 = slice_set g1 (d + 6) (Some (suc i))

        abbrev g3 : Registers
        g3 = slice_set g2 (d + 7) (Some (count_forms all))

        abbrev y3 : MidState
        y3 = mid_charged 6 (mid_charged 10 (mid_charged 6 (mid_charged jump_cost p.y)))

        size1 : length g1 ≡ length p.regs
        size1 = length-set p.regs (d + 7) (Some 1)

        size2 : length g2 ≡ length p.regs
        size2 = length-set g1 (d + 6) (Some (suc i)) ∙ size1

        size3 : length g3 ≡ length p.regs
        size3 = length-set g2 (d + 7) (Some (count_forms all)) ∙ size2

        runs : RunsTo c (code_of tail) p.regs (mid_charged jump_cost p.y) (ends falls g3 y3)
        runs =
            and_then constant_falls
            (and_then
            (compute_known {x = suc i} (register_beside p.regs (d + 7) (d + 6) (Some 1) (λ e. omega (arith, e)) ∙ number)
            (register_here p.regs (d + 7) 1 (let w = wide_at p in omega (arith, w))) (omega (arith, there, small)))
            (and_then constant_falls none_left))

        next_is : behind_next p.regs p.y ≡ test_next g3 y3
        unfolding mid_go_on
        next_is = ap (λ o. mid_go_on o test_next) runs.same

        six : register (d + 6) g3 ≡ Some (suc i)
        six =
            register_beside g2 (d + 7) (d + 6) (Some (count_forms all)) (λ e. omega (arith, e))
            ∙ register_here g1 (d + 6) (suc i) (let w = wide_at p in omega (arith, w, size1))

        seven : register (d + 7) g3 ≡ Some (count_forms all)
        seven = register_here g2 (d + 7) (count_forms all) (let w = wide_at p in omega (arith, w, size2))

        same : (j : ℕ) → j < d + 6 → slice_get g3 j ≡ slice_get p.regs j
        same j few =
            set_elsewhere g2 (d + 7) j (Some (count_forms all)) (λ e. omega (arith, e, few)) ∙ set_elsewhere g1 (d + 6) j (Some (suc i)) (λ e. omega (arith, e, few))
            ∙ set_elsewhere p.regs (d + 7) j (Some 1) (λ e. omega (arith, e, few))

        reached_last : ReachedFrom setting 50 (start_at setting s (d + 6) m size u p) (d + 6) p.w p.z g3 (mid_charged test_cost y3)
        reached_last = reached_changed setting {credit = 50} (start_at setting s (d + 6) m size u p) g3 36 (y3.cost + test_cost) (omega arith) size3 same (omega arith)

        reached_next : ReachedFrom setting 50 (start_at setting s (d + 6) m size u p) (d + 6) p.w p.z g3 (mid_charged jump_cost (mid_charged test_cost y3))
        reached_next = reached_changed setting {credit = 50} (start_at setting s (d + 6) m size u p) g3 38 (y3.cost + test_cost + jump_cost) (omega arith) size3 same (omega arith)

        -- **behind a segment**: the next one, or nothing
        behind_sim : Whole 50 u p (from (suc i) v p.env p.around p.z) (behind_next p.regs p.y)
        unfolding mean
        behind_sim = by (suc i == count_forms all) refl
          where
            by : (b : Bool) → (suc i == count_forms all) ≡ b → Whole 50 u p (from (suc i) v p.env p.around p.z) (behind_next p.regs p.y)
            by true e =
                let last : suc i ≡ count_forms all = eqb-true (suc i) (count_forms all) e in
                subst (λ q. Whole 50 u p (from (suc i) v p.env p.around p.z) q)
                (sym (next_is ∙ test_false (test_of Different (d + 6) (d + 7)) again_next (ends falls) g3 y3 six seven (ap not e)))
                (subst (λ fs. Whole 50 u p (go_on (mean_sequence (context_at setting k) v fs p.env p.around p.z) nothing_then) (ends falls g3 (mid_charged test_cost y3)))
                (sym (none_behind all (suc i) last))
                (done (record { outcome = refl; end = refl; w' = p.w; reached = reached_last; last = six ∙ ap Some last })))
            by false e =
                let other : suc i ≡ count_forms all → ⊥ = eqb-false (suc i) (count_forms all) e in
                let p3 : P = point_after setting s (d + 6) m size u p reached_next in
                subst (λ q. Whole 50 u p (from (suc i) v p.env p.around p.z) q)
                (sym (next_is ∙ test_true (test_of Different (d + 6) (d + 7)) again_next (ends falls) g3 y3 six seven (ap not e) ∙ again_is g3 (mid_charged test_cost y3)))
                (ends_behind setting (omega arith) reached_next
                (λ x. record {
                  outcome = x.outcome;
                  end = x.end;
                  w' = x.w';
                  reached = reached_then setting (omega arith) reached_next (omega arith) x.reached;
                  last = x.last;
                })
                (omega arith) (omega arith) (further p3 (suc i) v (omega (arith, there, other)) six))

      -- ---- a segment, and what is behind it

      module _ (fewer : u ≤ t) (enough : t ≤ u + 16) (segments_here : AllHere setting s (d + 7) m size k t all) (p : P) (i : ℕ) (v : Value) (there : i < count_forms all) (number : register (d + 6) p.regs ≡ Some i) where
        f : SegmentAt setting s (d + 7) m size k all i
        f = segment_at setting s (d + 7) m size k all i there

        abbrev a : Start setting
        a = start_at setting s (d + 6) m size t p

        -- behind the choice of the segment
        abbrev pd : P
        pd = point_after setting s (d + 6) m size t p (reached_cost setting {credit = test_cost} a (d + 6) test_cost (omega arith))

        abbrev ps : Point setting s (d + 7) m size
        ps = record {
          rs = pd.rs;
          valid = pd.valid;
          w = pd.w;
          env = pd.env;
          around = pd.around;
          z = pd.z;
          regs = pd.regs;
          y = pd.y;
          begins =
              (start_after setting (start_at setting s (d + 6) m size t pd) (d + 6) (d + 7) m (omega arith) (omega arith) (omega arith) (let w = wide_at pd in omega (arith, w))
              (reached_same setting {credit = 0} (start_at setting s (d + 6) m size t pd) (d + 6))).begins;
          count = pd.count;
        }

        abbrev pc : P
        pc = charged_point setting s (d + 6) m size t pd

        abbrev r1 : FlatEvaluated
        r1 = mean (context_at setting k) f.form p.env p.around p.z

        abbrev q1 : MidOutcome
        q1 = exec c (value_code setting s (d + 7) f.form) p.regs (mid_charged test_cost p.y)

        abbrev rest_then : Value → FlatState → FlatEvaluated
        rest_then x after = from (suc i) x p.env p.around after

        form_ends : Ends setting (form_credit + unit_cost) (Fell setting form_credit p.rs p.valid s (d + 7) p.w p.env p.around (charged 1 p.z) p.regs (mid_charged test_cost p.y) r1 q1)
            (Left setting form_credit p.rs p.valid s (d + 7) p.w p.env p.around (charged 1 p.z) p.regs (mid_charged test_cost p.y) r1 q1) u (charged 1 p.z) (mid_charged test_cost p.y) r1 q1
        form_ends = fewer_turns fewer (f.here t segments_here ps)

        -- the segment fell out
        module _ (x : Fell setting form_credit p.rs p.valid s (d + 7) p.w p.env p.around (charged 1 p.z) p.regs (mid_charged test_cost p.y) r1 q1) where
          abbrev p1 : P
          p1 = record {
            rs = p.rs;
            valid = p.valid;
            w = x.w';
            env = p.env;
            around = p.around;
            z = r1.state;
            regs = q1.registers;
            y = q1.state;
            begins =
                (start_after setting {credit = form_credit} (start_at setting s (d + 6) m size t pc) (d + 7) (d + 6) m (omega arith) (omega arith) (omega arith) pc.begins.first x.reached).begins;
            count = x.reached.kept.registers.count ∙ p.count;
          }

          -- it was charged a unit
          up : p.z.state.units + 1 ≤ r1.state.state.units
          up =
              let paid = x.reached.back.paid in
              let cost = (exec_grown c (levels_grow setting.procedures setting.turns_each k) (turns_grow setting.procedures _ (levels_grow setting.procedures setting.turns_each k) t)
              (value_code setting s (d + 7) f.form) p.regs (mid_charged test_cost p.y)).cost in
              omega (arith, paid, cost)

          number_kept : register (d + 6) q1.registers ≡ Some i
          number_kept = ap word_in (x.reached.kept.registers.same (d + 6) (omega arith) free) ∙ number

          goes_on : Whole 650 u pc (go_on r1 rest_then) (mid_go_on q1 behind_next)
          goes_on =
              subst (λ o. Whole 650 u pc o (mid_go_on q1 behind_next)) (sym (then_value r1 rest_then x.result x.outcome))
              (subst (λ o. Whole 650 u pc (rest_then x.result r1.state) o) (sym (go_on_falls q1 behind_next x.end))
              (ends_behind setting {c1 = form_credit} {d = d + 6} {d1 = d + 7} (omega arith) x.reached
              (λ k. record {
                outcome = k.outcome;
                end = k.end;
                w' = k.w';
                reached = reached_then setting {c1 = form_credit} (omega arith) x.reached (omega arith) k.reached;
                last = k.last;
              })
              (omega arith) up (behind_sim p1 i x.result there number_kept)))

        -- **a segment**, and those behind it
        segment_sim : Whole 0 t p (from i v p.env p.around p.z) (exec_step c the_loop p.regs p.y)
        unfolding mean
        segment_sim =
            subst (λ q. Whole 0 t p (from i v p.env p.around p.z) q) (sym (loop_is i f p.regs p.y number))
            (subst (λ fs. Whole 0 t p (go_on (mean_sequence (context_at setting k) v fs p.env p.around p.z) nothing_then) (mid_go_on q1 behind_next)) (sym f.rest_is)
            (subst (λ r. Whole 0 t p r (mid_go_on q1 behind_next)) (sym (go_twice r1 (λ x after. mean_sequence (context_at setting k) x (from_segment (suc i) all) p.env p.around after) nothing_then))
            (unit_paid setting {c1 = 650 + test_cost} {c2 = 0} a u enough
            (λ k. record {
              outcome = k.outcome;
              end = k.end;
              w' = k.w';
              reached = reached_repaid setting {c1 = 650 + test_cost} {c2 = 0} a 1 (omega arith) k.reached;
              last = k.last;
            })
            (omega arith) whole)))
          where
            b : ReachedFrom setting test_cost (start_charged setting a 1) (d + 6) p.w (charged 1 p.z) p.regs (mid_charged test_cost p.y)
            b = reached_cost setting {credit = test_cost} (start_charged setting a 1) (d + 6) test_cost (omega arith)

            whole : Whole (650 + test_cost) u (charged_point setting s (d + 6) m size t p) (go_on r1 rest_then) (mid_go_on q1 behind_next)
            whole =
                ends_behind setting (omega arith) b
                (λ k. record {
                  outcome = k.outcome;
                  end = k.end;
                  w' = k.w';
                  reached = reached_then setting (omega arith) b (omega arith) k.reached;
                  last = k.last;
                })
                (omega arith) (omega arith)
                (ends_go_on setting {c1 = form_credit} {c = 650} {d = d + 6} {d1 = d + 7} rest_then behind_next (omega arith) (omega arith) form_ends
                (λ v z. from_grows (suc i) v p.env p.around z) behind_grows (λ x. goes_on x))

  -- ---- one turn further

  no_further : (task : Task) (y : MidState) → count (code_at setting k zero) Turn task y ≡ ends no_turn [] y
  unfolding turns
  no_further task y = refl

  further_again : (u : ℕ) (l : MidStep) (regs : Registers) (y : MidState) → count (code_at setting k (suc u)) Turn (again l regs) y ≡ exec_step (code_at setting k u) l regs y
  unfolding turns
  further_again u l regs y = refl

  -- **the segments from one on**
  pub segments_sim :
      (t : ℕ) → ((u : ℕ) → u ≤ t → AllHere setting s (d + 7) m size k u all) → (p : P) (i : ℕ) (v : Value) → i < count_forms all → register (d + 6) p.regs ≡ Some i
      → Whole 0 t p (from i v p.env p.around p.z) (exec_step (code_at setting k t) the_loop p.regs p.y)
  segments_sim zero here p i v there number =
      segment_sim zero zero
      (λ p j w few held.
      subst (λ q. Whole 0 zero p (from j w p.env p.around p.z) q) (sym (no_further (again the_loop p.regs) p.y))
      (few_turns (let g = from_grows j w p.env p.around p.z in omega (arith, g.units))))
      (omega arith) (omega arith) (here zero (omega arith)) p i v there number
  segments_sim (suc t) here p i v there number =
      segment_sim (suc t) t
      (λ p j w few held.
      subst (λ q. Whole 0 t p (from j w p.env p.around p.z) q) (sym (further_again t the_loop p.regs p.y))
      (segments_sim t (λ u h. here u (omega (arith, h))) p j w few held))
      (omega arith) (omega arith) (here (suc t) (omega arith)) p i v there number
