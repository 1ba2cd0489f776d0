-- The steps of lines that print a byte and read one.
use Rattle.std.proofs.Common.{◌≡◌, ◌≢◌, ℕ, zero, suc, ◌+◌, ◌%◌, ◌^◌, ◌<◌, ◌≤◌, List, [], ◌∷◌, ◌++◌, length, refl, sym, ap, subst, ◌∙◌, arith, Some, None, append-nil, length-append, append_assoc}
use Rattle.std.specs.Prelude.{Option, slice_index}
use Rattle.base.specs.Arithmetic.{sum32}
use Rattle.rv_encode.specs.declared.instruction.Instr.{Instr}
use Rattle.rv_encode.specs.declared.instruction.Instr.TheVariants.{Addi, Ecall}
use Rattle.rv_machine.specs.declared.ending.Ending.TheVariants.{Budget}
use Rattle.rv_machine.specs.Memory.{bytes_of}
use Rattle.rv_machine.specs.Arithmetic.{sign_extended}
use Rattle.rv_machine.specs.Step.{step_of, environment_call, gives}
use Rattle.rv_machine.specs.Run.{Moment, act, run_from}
use Rattle.mid_code.specs.declared.operation.Operation.TheVariants.{Put}
use Rattle.mid_code.specs.Arena.{Block}
use Rattle.mid_code.specs.State.{Registers, MidState, charged, register, with_some}
use Rattle.mid_code.specs.Meaning.{exec_step, put}
use Rattle.mid_lines.specs.declared.line.Line.TheVariants.{Do}
use Rattle.mid_lines.specs.declared.line.LineProgram.{LineProgram}
use Rattle.mid_lines.specs.Lines.{line_of}
use Rattle.mid_lines.specs.LineMeaning.{Activation, Caller, running, next, proceed, state_of}
use Rattle.mid_lines.specs.StackLaw.{StageStands}
use Rattle.back_places.specs.declared.place.Place.{Place}
use Rattle.back_places.specs.declared.place.Place.TheVariants.{InRegister, InSlot, AsConstant}
use Rattle.back_places.specs.Places.{Located, way_at}
use Rattle.back_places.specs.Operands.{load_into}
use Rattle.back_places.specs.Facts.{IsPlace}
use Rattle.back_places.specs.Good.{IsGood}
use Rattle.back_places.specs.Relation.{HasCode, IsAt, Machine, Runs, Relates}
use Rattle.back_places.specs.StepLaw.{Comes, Follows, weight}
use Rattle.back_emission.specs.Moments.{state_at, Beside, later, moment, beside, AreSmall, Sets, Ready}
use Rattle.back_emission.proofs.Coming.{next_place, and_on, sets_on, step_at, has_front, has_back, same_moment}
use Rattle.back_emission.proofs.Operands.{prepared_one}
use Rattle.back_emission.proofs.Lengths.{load_length}
use Rattle.back_emission.proofs.Going.{all_kept, point_of, stands_at}
use Rattle.back_emission.proofs.Ends.{call_is, into}
use Rattle.back_emission.proofs.Steps.{nothing, at_line, weighs, next_line}

-- a byte is printed
abbrev after_print : (registers : List ℕ) → Beside → Beside
after_print registers o = record o { printed = o.printed ++ slice_index registers 10 % 256 ∷ []; executed = o.executed + 1 }

put_step :
    (i : ℕ) (registers words : List ℕ) (o : Beside) → step_of (state_at i registers words) ≡ environment_call 1 → i < 2 ^ 25
    → Comes 1 (moment (state_at i registers words) o) (moment (state_at (i + 1) registers words) (after_print registers o))
unfolding run_from
put_step i registers words o e low = record {
  whole = λ n.
      let one_more : 1 + n ≡ suc n = omega arith in
      ap (λ x. run_from x (moment (state_at i registers words) o)) one_more ∙ ap (λ r. act (run_from n) r (moment (state_at i registers words) o)) e
      ∙ ap (λ k. run_from n (moment (record { pc = k; registers = registers; memory = bytes_of words }) (after_print registers o))) (next_place i low);
  goes_on = λ n h. by n h;
  within = λ n h. prints n h;
}
  where
    by : (n : ℕ) → n ≤ 1 → (run_from n (moment (state_at i registers words) o)).ending ≡ Budget
    by zero h = refl
    by (suc zero) h = ap (λ r. (act (run_from 0) r (moment (state_at i registers words) o)).ending) e
    by (suc (suc n)) h = absurd (omega (arith, h))

    prints : (n : ℕ) → n ≤ 1 → (rest : List ℕ) × ((run_from n (moment (state_at i registers words) o)).at.printed ++ rest ≡ o.printed ++ slice_index registers 10 % 256 ∷ [])
    prints zero h = (slice_index registers 10 % 256 ∷ [], refl)
    prints (suc zero) h = ([], ap (λ r. (act (run_from 0) r (moment (state_at i registers words) o)).at.printed ++ []) e ∙ append-nil (o.printed ++ slice_index registers 10 % 256 ∷ []))
    prints (suc (suc n)) h = absurd (omega (arith, h))

-- the registers before an environment call, whose number is in register 17
record Asked (words registers : List ℕ) (code : List Instr) (which : ℕ) : Type 0 where
  registers' : List ℕ
  sets : Sets words (code ++ Addi 17 0 which ∷ []) registers registers'
  others : (q : ℕ) → q ≢ 17 → q ≢ 7 → q ≢ 10 → slice_index registers' q ≡ slice_index registers q
  bounded : AreSmall registers → AreSmall registers'
  ready : Ready registers'
  asks : slice_index registers' 17 ≡ which

module _ (program : LineProgram) (l : Located) (Fact : (number line register : ℕ) → Place → Type 0) (first : List Block)
    (good : IsGood program l Fact) where
  -- what is known is in no register of environment calls
  past_env :
      (registers registers' words : List ℕ) (base frame : ℕ) (p : Place) (w : ℕ)
      → ((q : ℕ) → q ≢ 17 → q ≢ 7 → q ≢ 10 → slice_index registers' q ≡ slice_index registers q)
      → IsPlace frame p → IsAt registers words base p w → IsAt registers' words base p w
  past_env registers registers' words base frame (InRegister q) w others ok h = others q ok.4 (λ e. omega (arith, ok.0, e)) ok.2 ∙ h
  past_env registers registers' words base frame (InSlot k) w others ok h = h
  past_env registers registers' words base frame (AsConstant c) w others ok h = h

  -- behind the call the machine stands at the next line, with a byte more printed
  printed_at :
      (a : Activation) (line v w : ℕ) (rs : Registers) (callers : List Caller) (z : MidState) (m : Moment)
      → line_of program a.procedure line ≡ Some (Do (Put v))
      → (st : StageStands program first (running a line rs callers z)) → (r : Runs program l Fact first a line rs callers z m)
      → (s : Asked r.words m.state.registers (load_into (way_at l a.procedure line) 10 (l.source a.procedure line v)) 1) → slice_index s.registers' 10 ≡ w
      → (m' : Moment) × Comes (length (load_into (way_at l a.procedure line) 10 (l.source a.procedure line v)) + 1 + 1) m m'
      × Runs program l Fact first a (line + 1) rs callers (record (charged 8 z) { printed = z.printed ++ w % 256 ∷ [] }) m'
  printed_at a line v w rs callers z m e st r s ten =
      let g = good.lines a.procedure line (Do (Put v)) e in
      let A = load_into (way_at l a.procedure line) 10 (l.source a.procedure line v) in
      let code = A ++ Addi 17 0 1 ∷ [] in
      let at = l.line_at a.procedure line in
      let words = r.words in
      let small = r.machine.arena.words_small in
      let stands = r.machine.code.lines a.procedure line (Do (Put v)) e in
      let same : A ++ (Addi 17 0 1 ∷ Ecall ∷ []) ≡ code ++ Ecall ∷ [] = sym (append_assoc A (Addi 17 0 1 ∷ []) (Ecall ∷ [])) in
      let has = subst (λ c. HasCode words at c) same stands.has in
      let long : length code ≡ length A + 1 = length-append A (Addi 17 0 1 ∷ []) in
      let whole : length (A ++ (Addi 17 0 1 ∷ Ecall ∷ [])) ≡ length A + 2 = length-append A (Addi 17 0 1 ∷ Ecall ∷ []) in
      let behind = next_line program l Fact first good a.procedure line (Do (Put v)) e refl in
      let o = later (length code) (beside m) in
      let one = s.sets.by at (beside m) (has_front words at code (Ecall ∷ []) has) (omega (arith, stands.to, good.low, whole, long)) in
      let asked = step_at (at + length code) s.registers' words Ecall [] (has_back words at code (Ecall ∷ []) has) (small (at + length code))
      ∙ call_is 1 (slice_index s.registers' 17) s.registers' words (at + length code) (omega arith) s.asks in
      let two = put_step (at + length code) s.registers' words o asked (omega (arith, stands.to, good.low, whole, long)) in
      let there : at + length code + 1 ≡ l.line_at a.procedure (line + 1) = omega (arith, behind, whole, long) in
      let o2 = after_print s.registers' o in
      let m' = moment (state_at (l.line_at a.procedure (line + 1)) s.registers' words) o2 in
      let comes : Comes (length code + 1) m (moment (state_at (at + length code + 1) s.registers' words) o2) =
      subst (λ y. Comes (length code + 1) y (moment (state_at (at + length code + 1) s.registers' words) o2)) (sym (same_moment m at words r.pc r.machine.memory)) (and_on one two) in
      let h = r.machine in
      let machine : Machine program l Fact first (record (charged 8 z) { printed = z.printed ++ w % 256 ∷ [] }) words m' = record {
        memory = refl;
        arena = record { long = h.arena.long; words_small = h.arena.words_small; lent = h.arena.lent };
        code = h.code;
        apart = record { laid_below = h.apart.laid_below; arguments_below = h.apart.arguments_below; heap_above = h.apart.heap_above };
        form = record { small = h.form.small; fits = h.form.fits; heap = h.form.heap; grown = h.form.grown; below = h.form.below; laid = h.form.laid };
        long = s.ready.long;
        zero_is = s.ready.zero_is;
        registers_small = s.bounded h.registers_small;
        stack = s.others 2 (λ k. omega (arith, k)) (λ k. omega (arith, k)) (λ k. omega (arith, k)) ∙ h.stack;
        heap = s.others 3 (λ k. omega (arith, k)) (λ k. omega (arith, k)) (λ k. omega (arith, k)) ∙ h.heap;
        printed = ap (λ k. m.printed ++ k % 256 ∷ []) ten ∙ ap (λ k. k ++ w % 256 ∷ []) h.printed;
        input = h.input;
        input_small = h.input_small;
      } in (
        m',
        subst (λ n. Comes (n + 1) m m') long (subst (λ n. Comes (length code + 1) m (moment (state_at n s.registers' words) o2)) there comes),
        stands_at program l Fact first good a at (l.records a.procedure line) (line + 1) rs callers z (record (charged 8 z) { printed = z.printed ++ w % 256 ∷ [] }) m m' words st
            (point_of program l Fact first good a line rs callers z m r) (all_kept program l Fact first good a z.arena words words st.0 (λ j k. refl)) refl machine refl
            (λ u q x f k. past_env m.state.registers s.registers' words _ _ q x s.others (good.placed a.procedure line u q (g.keeps.facts u q f)) (r.there u q x (g.keeps.facts u q f) k))
            (λ k. s.others 1 (λ q. omega (arith, q)) (λ q. omega (arith, q)) (λ q. omega (arith, q)) ∙ r.links.linked (g.keeps.linked k)) g.keeps.records,
      )

  pub put_follows :
      (a : Activation) (line v : ℕ) (rs : Registers) (callers : List Caller) (z : MidState) (m : Moment)
      → line_of program a.procedure line ≡ Some (Do (Put v))
      → Relates program l Fact first (running a line rs callers z) m → Follows program l Fact first (running a line rs callers z) m
  unfolding exec_step with_some proceed
  put_follows a line v rs callers z m e r = by (register v rs) refl
    where
      light : weight program (running a line rs callers z) ≡ 0
      light = weighs program l Fact first good a line rs callers z (Do (Put v)) e

      goes : (x : Option ℕ) → register v rs ≡ x → next program (running a line rs callers z) ≡ proceed program a (line + 1) callers (with_some x put rs (charged 8 z))
      goes x h = at_line program l Fact first good a line rs callers z (Do (Put v)) e ∙ ap (λ u. proceed program a (line + 1) callers (with_some u put rs (charged 8 z))) h

      by : (x : Option ℕ) → register v rs ≡ x → Follows program l Fact first (running a line rs callers z) m
      by None h = nothing program l Fact first good (running a line rs callers z) m (charged 8 z) (goes None h) (omega arith)
      by (Some w) h =
          let g = good.lines a.procedure line (Do (Put v)) e in
          let A = load_into (way_at l a.procedure line) 10 (l.source a.procedure line v) in
          let p = into program l Fact first good a line v w 10 rs callers z m r.0.0 r.1 g.reads.0 h (omega arith) (omega arith) (λ k. omega (arith, k)) in
          let words = r.1.words in
          let v17 : sum32 (slice_index p.registers' 0) (sign_extended 12 1) ≡ 1 = ap (λ k. sum32 k (sign_extended 12 1)) p.ready.zero_is in
          let one = prepared_one words p.registers' (Addi 17 0 1) 17 1 r.1.machine.arena.words_small p.ready (omega arith) (omega arith) (omega arith) (λ i. ap (λ k. gives 17 k (state_at i p.registers' words)) v17) in
          let s : Asked words m.state.registers A 1 = record {
            registers' = one.registers';
            sets = sets_on p.sets one.sets;
            others = λ q n17 n7 n10. one.others q n17 n7 ∙ p.others q n10 n7;
            bounded = λ k. one.bounded (p.bounded k);
            ready = one.ready;
            asks = one.holds;
          } in
          let t = printed_at a line v w rs callers z m e r.0 r.1 s (one.others 10 (λ k. omega (arith, k)) (λ k. omega (arith, k)) ∙ p.holds) in
          record {
            count = length A + 1 + 1;
            moment = t.0;
            comes = t.1;
            relates = subst (λ y. Relates program l Fact first y t.0) (sym (goes (Some w) h)) (r.0, t.2);
            cheap = subst (λ y. length A + 1 + 1 + z.cost ≤ (state_of y).cost) (sym (goes (Some w) h)) (let n = load_length (way_at l a.procedure line) 10 (l.source a.procedure line v) in omega (arith, n));
            heavy = λ u. omega (arith, light);
          }
