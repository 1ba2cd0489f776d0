-- The step of a line that reads a byte.
use Rattle.std.proofs.Common.{◌≡◌, ◌≢◌, ℕ, zero, suc, ◌+◌, ◌-◌, ◌^◌, ◌<◌, ◌≤◌, List, [], ◌∷◌, ◌++◌, length, refl, sym, ap, subst, ◌∙◌, arith, Some, append-nil}
use Rattle.std.specs.Prelude.{drop, slice_index, slice_set}
use Rattle.std.proofs.lemmas.List.{get_or-set_same, get_or-set_other, length-set}
use Rattle.base.specs.Arithmetic.{sum32}
use Rattle.rv_encode.specs.declared.instruction.Instr.TheVariants.{Addi, Ecall}
use Rattle.rv_machine.specs.declared.ending.Ending.TheVariants.{Budget}
use Rattle.rv_machine.specs.Memory.{bytes_of}
use Rattle.rv_machine.specs.Arithmetic.{sign_extended}
use Rattle.rv_machine.specs.Step.{step_of, environment_call, gives}
use Rattle.rv_machine.specs.Run.{Moment, act, run_from, got}
use Rattle.mid_code.specs.declared.operation.Operation.TheVariants.{Get}
use Rattle.mid_code.specs.Arena.{Block}
use Rattle.mid_code.specs.State.{Registers, MidState, charged}
use Rattle.mid_code.specs.Meaning.{exec_step, get_from}
use Rattle.mid_lines.specs.declared.line.Line.TheVariants.{Do}
use Rattle.mid_lines.specs.declared.line.LineProgram.{LineProgram}
use Rattle.mid_lines.specs.Lines.{line_of}
use Rattle.mid_lines.specs.LineMeaning.{Activation, Caller, running, next, proceed, state_of}
use Rattle.mid_lines.specs.StackLaw.{StageStands}
use Rattle.back_places.specs.declared.place.Place.{Place}
use Rattle.back_places.specs.declared.place.Place.TheVariants.{InRegister}
use Rattle.back_places.specs.Places.{Located, way_at}
use Rattle.back_places.specs.Operands.{move_code}
use Rattle.back_places.specs.Good.{IsGood}
use Rattle.back_places.specs.Relation.{Machine, Runs, Relates}
use Rattle.back_places.specs.StepLaw.{Comes, Follows, weight}
use Rattle.back_emission.specs.Moments.{state_at, Beside, later, moment, beside, AreSmall, Ready}
use Rattle.back_emission.specs.Arriving.{Given}
use Rattle.back_emission.proofs.Coming.{next_place, and_on, step_at, has_front, same_moment}
use Rattle.back_emission.proofs.Operands.{prepared_one, set_small}
use Rattle.back_emission.proofs.Lengths.{move_from_register}
use Rattle.back_emission.proofs.Going.{all_kept, point_of}
use Rattle.back_emission.proofs.Giving.{arrives}
use Rattle.back_emission.proofs.Ends.{call_is}
use Rattle.back_emission.proofs.Steps.{at_line, weighs, next_line}
use Rattle.back_steps.proofs.Taken.{arrive_on, point_on, taken}

-- a byte is read
abbrev after_read : Beside → Beside
after_read o = record o { input = drop 1 o.input; executed = o.executed + 1; gets = o.gets + 1 }

get_step :
    (i : ℕ) (registers words : List ℕ) (o : Beside) → step_of (state_at i registers words) ≡ environment_call 2 → i < 2 ^ 25
    → Comes 1 (moment (state_at i registers words) o) (moment (state_at (i + 1) (slice_set registers 10 (got o.input)) words) (after_read o))
unfolding run_from
get_step i registers words o e low = record {
  whole = λ n.
      let one_more : 1 + n ≡ suc n = omega arith in
      ap (λ x. run_from x (moment (state_at i registers words) o)) one_more ∙ ap (λ r. act (run_from n) r (moment (state_at i registers words) o)) e
      ∙ ap (λ k. run_from n (moment (record { pc = k; registers = slice_set registers 10 (got o.input); memory = bytes_of words }) (after_read o))) (next_place i low);
  goes_on = λ n h. by n h;
  within = λ n h. prints n h;
}
  where
    by : (n : ℕ) → n ≤ 1 → (run_from n (moment (state_at i registers words) o)).ending ≡ Budget
    by zero h = refl
    by (suc zero) h = ap (λ r. (act (run_from 0) r (moment (state_at i registers words) o)).ending) e
    by (suc (suc n)) h = absurd (omega (arith, h))

    prints : (n : ℕ) → n ≤ 1 → (rest : List ℕ) × ((run_from n (moment (state_at i registers words) o)).at.printed ++ rest ≡ o.printed)
    prints zero h = ([], append-nil o.printed)
    prints (suc zero) h = ([], ap (λ r. (act (run_from 0) r (moment (state_at i registers words) o)).at.printed ++ []) e ∙ append-nil o.printed)
    prints (suc (suc n)) h = absurd (omega (arith, h))

-- what is read is a word, and so is what is left
got_small : (input : List ℕ) → AreSmall input → got input < 2 ^ 32
got_small [] h = omega arith
got_small (byte ∷ bytes) h = h 0

rest_small : (input : List ℕ) → AreSmall input → AreSmall (drop 1 input)
rest_small [] h i = h i
rest_small (byte ∷ bytes) h i = h (suc i)

-- the registers behind the call, which changes registers 10 and 17
record Read (words registers : List ℕ) (w : ℕ) : Type 0 where
  registers' : List ℕ
  others : (q : ℕ) → q ≢ 10 → q ≢ 17 → q ≢ 7 → slice_index registers' q ≡ slice_index registers q
  ready : Ready registers'
  bounded : AreSmall registers'
  holds : slice_index registers' 10 ≡ w

module _ (program : LineProgram) (l : Located) (Fact : (number line register : ℕ) → Place → Type 0) (first : List Block)
    (good : IsGood program l Fact) where
  -- the state with a byte less to read
  abbrev read_state : MidState → MidState
  read_state z = record z { input = drop 1 z.input }

  -- the machine behind the call
  read_machine :
      (z : MidState) (words : List ℕ) (m : Moment) (i : ℕ) → Machine program l Fact first z words m → (s : Read words m.state.registers (got z.input))
      → (executed gets : ℕ)
      → Machine program l Fact first (read_state z) words (moment (state_at i s.registers' words) (record { printed = m.printed; input = drop 1 m.input; executed = executed; gets = gets }))
  read_machine z words m i h s executed gets = record {
    memory = refl;
    arena = record { long = h.arena.long; words_small = h.arena.words_small; lent = h.arena.lent };
    code = h.code;
    apart = record { laid_below = h.apart.laid_below; arguments_below = h.apart.arguments_below; heap_above = h.apart.heap_above };
    form = record { small = h.form.small; fits = h.form.fits; heap = h.form.heap; grown = h.form.grown; below = h.form.below; laid = h.form.laid };
    long = s.ready.long;
    zero_is = s.ready.zero_is;
    registers_small = s.bounded;
    stack = s.others 2 (λ k. omega (arith, k)) (λ k. omega (arith, k)) (λ k. omega (arith, k)) ∙ h.stack;
    heap = s.others 3 (λ k. omega (arith, k)) (λ k. omega (arith, k)) (λ k. omega (arith, k)) ∙ h.heap;
    printed = h.printed;
    input = ap (λ k. drop 1 k) h.input;
    input_small = rest_small z.input h.input_small;
  }

  -- behind the call the word is in register 10
  read_at :
      (a : Activation) (line to : ℕ) (rs : Registers) (callers : List Caller) (z : MidState) (m : Moment)
      → line_of program a.procedure line ≡ Some (Do (Get to))
      → (st : StageStands program first (running a line rs callers z)) → Runs program l Fact first a line rs callers z m
      → Given program l Fact first a (line + 1) (slice_set rs to (Some (got z.input))) callers (charged 8 (read_state z)) m
      (2 + length (move_code (way_at l a.procedure line) (InRegister 10) (l.target a.procedure line)))
  read_at a line to rs callers z m e st r =
      let g = good.lines a.procedure line (Do (Get to)) e in
      let at = l.line_at a.procedure line in
      let words = r.words in
      let h = r.machine in
      let small = h.arena.words_small in
      let target = l.target a.procedure line in
      let M = move_code (way_at l a.procedure line) (InRegister 10) target in
      let stands = h.code.lines a.procedure line (Do (Get to)) e in
      let behind = next_line program l Fact first good a.procedure line (Do (Get to)) e refl in
      let ready : Ready m.state.registers = record { long = h.long; zero_is = h.zero_is } in
      let v : sum32 (slice_index m.state.registers 0) (sign_extended 12 2) ≡ 2 = ap (λ k. sum32 k (sign_extended 12 2)) h.zero_is in
      let one = prepared_one words m.state.registers (Addi 17 0 2) 17 2 small ready (omega arith) (omega arith) (omega arith) (λ i. ap (λ k. gives 17 k (state_at i m.state.registers words)) v) in
      let fits = got_small z.input h.input_small in
      let word : got m.input ≡ got z.input = ap got h.input in
      let s : Read words m.state.registers (got z.input) = record {
        registers' = slice_set one.registers' 10 (got m.input);
        others = λ q n10 n17 n7. get_or-set_other one.registers' 10 q (got m.input) 0 n10 ∙ one.others q n17 n7;
        ready = record {
          long = length-set one.registers' 10 (got m.input) ∙ one.ready.long;
          zero_is = get_or-set_other one.registers' 10 0 (got m.input) 0 (λ k. omega (arith, k)) ∙ one.ready.zero_is;
        };
        bounded = λ i. set_small one.registers' 10 (got m.input) i (one.bounded h.registers_small) (omega (arith, word, fits));
        holds = get_or-set_same one.registers' 10 (got m.input) 0 (omega (arith, one.ready.long)) ∙ word;
      } in
      let o = later 1 (beside m) in
      let low : at + 2 < 2 ^ 25 = omega (arith, stands.to, good.low) in
      let comes1 = one.sets.by at (beside m) (has_front words at (Addi 17 0 2 ∷ []) (Ecall ∷ M) stands.has) (omega (arith, low)) in
      let asked = step_at (at + 1) one.registers' words Ecall M stands.has.3 (small (at + 1))
      ∙ call_is 2 (slice_index one.registers' 17) one.registers' words (at + 1) (omega arith) one.holds in
      let comes2 = get_step (at + 1) one.registers' words o asked (omega (arith, low)) in
      let o2 = after_read o in
      let m' = moment (state_at (at + 1 + 1) s.registers' words) o2 in
      let comes : Comes 2 m m' = subst (λ y. Comes 2 y m') (sym (same_moment m at words r.pc h.memory)) (and_on comes1 comes2) in
      let machine = read_machine z words m (at + 1 + 1) h s (m.executed + 1 + 1) (m.gets + 1) in
      let p = point_of program l Fact first good a line rs callers z m r in
      let kept = all_kept program l Fact first good a z.arena words words st.0 (λ j k. refl) in
      let p2 = point_on program l Fact first good a at (at + 1 + 1) (l.records a.procedure line) callers z (read_state z) m m' words st p kept refl machine refl in
      let t = taken program l Fact first good a (at + 1 + 1) (l.records a.procedure line) (line + 1) (got z.input) 10 target (slice_set rs to (Some (got z.input))) callers (read_state z) 8 m' st p2
      (good.targets a.procedure line) g.somewhere (λ k. omega (arith, k)) fits s.holds
      (record { from = omega (arith, stands.from); to = omega (arith, stands.to); has = stands.has.3.3 })
      (omega (arith, behind))
      (arrive_on program l Fact first good a z (read_state z) m.state.registers s.registers' words words (line + 1) (got z.input) (slice_set rs to (Some (got z.input))) target refl
      (λ q high n10 n11 n17. s.others q n10 n17 (λ k. omega (arith, high, k))) (λ k low. refl)
      (arrives program l Fact first good a line (line + 1) to (got z.input) rs z m.state.registers words g.gives.flows r.there))
      (λ k. s.others 1 (λ j. omega (arith, j)) (λ j. omega (arith, j)) (λ j. omega (arith, j)) ∙ r.links.linked (g.gives.linked k)) g.gives.records in
      record { moment' = t.moment'; comes = and_on {m'' = t.moment'} comes t.comes; runs = t.runs }

  pub get_follows :
      (a : Activation) (line to : ℕ) (rs : Registers) (callers : List Caller) (z : MidState) (m : Moment)
      → line_of program a.procedure line ≡ Some (Do (Get to))
      → Relates program l Fact first (running a line rs callers z) m → Follows program l Fact first (running a line rs callers z) m
  unfolding exec_step proceed
  get_follows a line to rs callers z m e r =
      let light : weight program (running a line rs callers z) ≡ 0 = weighs program l Fact first good a line rs callers z (Do (Get to)) e in
      let few = move_from_register (way_at l a.procedure line) 10 (l.target a.procedure line) in
      let t = read_at a line to rs callers z m e r.0 r.1 in
      record {
        count = 2 + length (move_code (way_at l a.procedure line) (InRegister 10) (l.target a.procedure line));
        moment = t.moment';
        comes = t.comes;
        relates = subst (λ y. Relates program l Fact first y t.moment') (sym (goes z.input refl)) (r.0, t.runs);
        cheap = subst (λ y. 2 + length (move_code (way_at l a.procedure line) (InRegister 10) (l.target a.procedure line)) + z.cost ≤ (state_of y).cost) (sym (goes z.input refl)) (omega (arith, few));
        heavy = λ u. omega (arith, light);
      }
    where
      goes : (input : List ℕ) → z.input ≡ input
          → next program (running a line rs callers z) ≡ running a (line + 1) (slice_set rs to (Some (got input))) callers (record (charged 8 z) { input = drop 1 input })
      goes [] h =
          at_line program l Fact first good a line rs callers z (Do (Get to)) e ∙ ap (λ u. proceed program a (line + 1) callers (get_from u to rs (charged 8 z))) h
          ∙ ap (λ u. running a (line + 1) (slice_set rs to (Some (2 ^ 32 - 1))) callers (record (charged 8 z) { input = u })) h
      goes (byte ∷ bytes) h =
          at_line program l Fact first good a line rs callers z (Do (Get to)) e ∙ ap (λ u. proceed program a (line + 1) callers (get_from u to rs (charged 8 z))) h
