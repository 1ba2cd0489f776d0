-- The procedure of a primitive is called: what the call comes to, with turns enough, and what it costs.
use Rattle.std.proofs.Common.{◌≡◌, ◌⊎◌, inl, inr, true, ℕ, zero, suc, ◌+◌, ◌-◌, ◌*◌, ◌<◌, ◌≤◌, List, [], ◌∷◌, length, Option, Some, None, refl, sym, ap, ◌∙◌, subst, ⊎_elim, arith}
use Rattle.std.specs.Prelude.{slice_get, slice_set}
use Rattle.std.proofs.lemmas.Bool.{cases_lt}
use Rattle.lang_meaning.specs.Arity.{arity}
use Rattle.lang_meaning.specs.declared.primitive.Primitive.{Primitive}
use Rattle.lang_meaning.specs.declared.program.ProgramRows.{ProgramRows}
use Rattle.lang_meaning.specs.model.ShapeCode.{primitive_number}
use Rattle.lang_meaning.specs.Primitives.{Answer, result, makes, makes_symbol, fails, domain_error, primitive}
use Rattle.lang_meaning.specs.State as meaning
use Rattle.lang_meaning.specs.Values.{Value}
use Rattle.flat_language.specs.FlatNodes.{tables}
use Rattle.mid_code.specs.declared.operation.Counted.TheVariants.{Turn}
use Rattle.mid_code.specs.declared.program.MidProcedure.{MidProcedure}
use Rattle.mid_code.specs.Law.{IsReached}
use Rattle.mid_code.specs.Meaning.{Context, Task, enter, count, exec, exec_step, levels, turns}
use Rattle.mid_code.specs.Meaning as mid
use Rattle.mid_code.specs.MidCode.{code_of}
use Rattle.mid_code.specs.State.{Registers, MidState, MidOutcome, Next, falls, returns, no_room, ends, with_some, with_registers}
use Rattle.mid_code.specs.State.{charged as mid_charged}
use Rattle.mid_arena.specs.Answers.{Done, Comes, done, no_words, units_after, IsWithin, IsPrimitive}
use Rattle.mid_arena.specs.CodeCosts.{procedure_cost, cost_of}
use Rattle.mid_arena.specs.Codes.{code_of_primitive}
use Rattle.mid_arena.specs.Places.{Places, WordsOf}
use Rattle.mid_arena.specs.Represents.{Represents}
use Rattle.mid_arena.proofs.EachPrimitive.{each_costs, each_in_frames}
use Rattle.back_lowering.specs.Placement.{primitives_from}
use Rattle.back_lowering.specs.Scope.{registers_from}
use Rattle.back_lowering.specs.Steps.{call}
use Rattle.back_relation.specs.Setting.{Setting}
use Rattle.back_relation.specs.Forms.{code_at}
use Rattle.back_relation.specs.Procedures.{called}
use Rattle.back_primitives.specs.Calling.{WordsIn, PrimitiveThere}
use Rattle.back_primitives.proofs.Costs.{is_plain, loops_of, repeated, procedure_at_most}
use Rattle.back_primitives.proofs.EachCost.{each_plain, loop_costs}
use Rattle.back_primitives.proofs.Turns.{same_with_more}

-- ---- the step of a call

words_found :
    (regs : Registers) (d : ℕ) (ws : List ℕ) (following : List ℕ → Next) (y : MidState) → WordsIn d ws regs
    → with_registers (registers_from d (length ws)) following regs y ≡ following ws regs y
unfolding with_registers with_some
words_found regs d [] following y h = refl
words_found regs d (w ∷ ws) following y h =
    ap (λ o. with_some o (λ v. with_registers (registers_from (d + 1) (length ws)) (λ us. following (v ∷ us))) regs y) h.0
    ∙ words_found regs (d + 1) ws (λ us. following (w ∷ us)) y h.1

abbrev pub call_cost : (arguments : ℕ) → ℕ
call_cost n = 40 + 6 * n

registers_count : (d n : ℕ) → length (registers_from d n) ≡ n
registers_count d zero = refl
registers_count d (suc n) = omega (arith, registers_count (d + 1) n)

-- the callee is sought, and entered
callee_found :
    (c : Context) (o : Option MidProcedure) (to : ℕ) (ws : List ℕ) (regs : Registers) (y : MidState)
    → with_some o (λ p rs x. mid.called (count c p.counted (enter p ws) x) to rs) regs y
    ≡ mid.called (with_some o (λ p rs x. count c p.counted (enter p ws) x) [] y) to regs
unfolding with_some mid.called
callee_found c None to ws regs y = refl
callee_found c (Some p) to ws regs y = refl

-- **a call is what the procedure comes to**
pub call_is :
    (c : Context) (to number d : ℕ) (ws : List ℕ) (regs : Registers) (y : MidState) → WordsIn d ws regs
    → exec_step c (call to number (registers_from d (length ws))) regs y ≡ mid.called (called c number ws (mid_charged (call_cost (length ws)) y)) to regs
unfolding exec
call_is c to number d ws regs y h =
    words_found regs d ws _ (mid_charged (40 + 6 * length (registers_from d (length ws))) y) h
    ∙ callee_found c (slice_get c.procedures number) to ws regs (mid_charged (40 + 6 * length (registers_from d (length ws))) y)
    ∙ ap (λ n. mid.called (called c number ws (mid_charged (40 + 6 * n) y)) to regs) (registers_count d (length ws))

pub called_returns : (q : MidOutcome) (word to : ℕ) (regs : Registers) → q.end ≡ returns word → mid.called q to regs ≡ ends falls (slice_set regs to (Some word)) q.state
unfolding mid.called
called_returns q word to regs e = ap (λ e. mid.called_from e to regs q.state) e

pub called_wanting :
    (q : MidOutcome) (asked left_then to : ℕ) (regs : Registers) → q.end ≡ no_room asked left_then
    → mid.called q to regs ≡ ends (no_room asked left_then) regs q.state
unfolding mid.called
called_wanting q asked left_then to regs e = ap (λ e. mid.called_from e to regs q.state) e

called_there :
    (setting : Setting) (k n number : ℕ) (p : MidProcedure) (ws : List ℕ) (y : MidState) → slice_get setting.procedures number ≡ Some p → p.counted ≡ Turn
    → called (code_at setting k n) number ws y ≡ turns setting.procedures (levels setting.procedures setting.turns_each k) n (enter p ws) y
unfolding with_some
called_there setting k n number p ws y there counted =
    ap (λ o. with_some o (λ p rs x. count (code_at setting k n) p.counted (enter p ws) x) [] y) there
    ∙ ap (λ h. count (code_at setting k n) h (enter p ws) y) counted

-- ---- what the procedure comes to

comes_reached :
    (names : List (List ℕ)) (program : ProgramRows) (places : Places) (z : meaning.State) (y : MidState) (frame : ℕ) (answer : Answer) (q : MidOutcome)
    → Comes names program places z y frame answer q → IsReached q.end
comes_reached names program places z y frame answer q (no_words x) = subst IsReached (sym x.end) tt
comes_reached names program places z y frame answer q (done x) = by answer x
  where
    by : (answer : Answer) → Done names program places z y answer q → IsReached q.end
    by (result v z2) d = subst IsReached (sym d.end) tt
    by (makes size besides o z2) d = subst IsReached (sym d.end) tt
    by (makes_symbol z2) d = subst IsReached (sym d.end) tt
    by (fails class slots z2) d = subst IsReached (sym d.end) tt
    by (domain_error v expected z2) d = subst IsReached (sym d.end) tt

module _ (setting : Setting) (k n : ℕ) (which : Primitive) (there : PrimitiveThere setting which) (places : Places) (z : meaning.State) (y : MidState) (vs : List Value) (ws : List ℕ) where
  abbrev pub the_answer : Answer
  the_answer = primitive setting.names (tables setting.program) which vs z

  abbrev pub units_behind : ℕ
  units_behind = units_after setting.names (tables setting.program) the_answer

  abbrev pub the_call : MidOutcome
  the_call = called (code_at setting k n) (primitives_from setting.at + primitive_number which) ws y

  -- what the call came to, within both bounds of its cost
  pub record CameTo (answer : Answer) (q : MidOutcome) : Type 0 where
    pub comes : Comes setting.names (tables setting.program) places z y there.procedure.frame answer q
    pub cost : IsWithin setting.names (tables setting.program) places z y (arity which) answer q
    pub plain :
        q.state.cost
        ≤ y.cost + cost_of which + repeated (units_after setting.names (tables setting.program) answer - z.units) (loop_costs which)

  -- it does what the primitive does, whatever its frame is
  in_its_frame : IsPrimitive which there.procedure
  in_its_frame = subst (IsPrimitive which) (sym there.within.same) (each_in_frames which there.procedure.frame)

  came :
      Represents setting.names (tables setting.program) places z y → WordsOf places vs ws → length vs ≡ arity which → units_behind - z.units < n
      → CameTo the_answer the_call
  came r are many turns_left =
      let p = there.procedure in
      let below = levels setting.procedures setting.turns_each k in
      let du : ℕ = units_behind - z.units in
      let did = in_its_frame setting.names (tables setting.program) setting.procedures below du places z y vs ws r are many (omega arith) in
      let same_body : code_of p.body ≡ code_of (code_of_primitive which) = ap (λ (p : MidProcedure). code_of p.body) there.within.same in
      let same_cost : procedure_cost p ≡ cost_of which = ap procedure_cost there.within.same ∙ each_costs which in
      let plain_body : is_plain (code_of p.body) ≡ true = ap is_plain same_body ∙ each_plain which in
      let most = procedure_at_most setting.procedures below du p ws y plain_body in
      let loops : repeated du (loops_of (code_of p.body)) ≡ repeated du (loop_costs which) = ap (λ c. repeated du (loops_of c)) same_body in
      let reached = comes_reached setting.names (tables setting.program) places z y p.frame the_answer _ did.comes in
      let same = same_with_more setting.procedures setting.turns_each k (suc du) n (enter p ws) y (omega (arith, turns_left)) reached in
      subst (CameTo the_answer)
      (sym (called_there setting k n (primitives_from setting.at + primitive_number which) p ws y there.there (ap (λ (p : MidProcedure). p.counted) there.within.same) ∙ same))
      (record { comes = did.comes; cost = did.cost; plain = omega (arith, most, same_cost, loops) })

  -- **with turns enough**, or there were few for what was charged
  pub came_or_few :
      Represents setting.names (tables setting.program) places z y → WordsOf places vs ws → length vs ≡ arity which
      → CameTo the_answer the_call ⊎ (n ≤ units_behind - z.units)
  came_or_few r are many = ⊎_elim (λ enough. inl (came r are many enough)) (λ few. inr few) (cases_lt (units_behind - z.units) n)
