-- The whole steps of lines that request words of the heap.
use Rattle.std.proofs.Common.{◌≡◌, ℕ, suc, ◌+◌, ◌*◌, ◌^◌, ◌<◌, ◌≤◌, Bool, true, false, List, [], ◌∷◌, ◌++◌, length, refl, sym, ap, subst, ◌∙◌, arith, Some, None, length-append, append_assoc}
use Rattle.std.specs.Prelude.{not, Option, slice_index, slice_set, nat_le, nat_lt, if◌then◌else◌}
use Rattle.std.proofs.lemmas.Bool.Decides.{nat_tests}
use Rattle.base.specs.Arithmetic.{sum32}
use Rattle.rv_encode.specs.declared.instruction.Instr.{Instr}
use Rattle.rv_encode.specs.declared.instruction.Instr.TheVariants.{Addi, Add, Sub, Slli, Srli, Bgeu, Ecall}
use Rattle.rv_machine.specs.Memory.{bytes_of}
use Rattle.rv_machine.specs.Arithmetic.{sign_extended}
use Rattle.rv_machine.specs.Step.{next as goes_to, execute, gives, branch}
use Rattle.rv_machine.specs.Run.{Moment}
use Rattle.mid_code.specs.declared.operation.Operation.TheVariants.{Request}
use Rattle.mid_code.specs.Arena.{Block, stack_from, left, with_heap}
use Rattle.mid_code.specs.State.{Registers, MidState, charged, with_arena, register, with_some, choose_by, ends, no_room, gives as gives_word}
use Rattle.mid_code.specs.Meaning.{exec_step, request}
use Rattle.mid_lines.specs.declared.line.Line.TheVariants.{Do}
use Rattle.mid_lines.specs.declared.line.LineProgram.{LineProgram}
use Rattle.mid_lines.specs.Lines.{line_of}
use Rattle.mid_lines.specs.LineMeaning.{Activation, Caller, running, next, proceed, state_of}
use Rattle.mid_lines.specs.StackLaw.{StageStands}
use Rattle.back_places.specs.declared.place.Place.{Place}
use Rattle.back_places.specs.declared.place.Place.TheVariants.{InRegister, InSlot, AsConstant}
use Rattle.back_places.specs.Places.{Located, way_at}
use Rattle.back_places.specs.Operands.{load_into, move_code}
use Rattle.back_places.specs.LineCode.{few_requested_code, requested_code, request_code}
use Rattle.back_places.specs.Good.{IsGood}
use Rattle.back_places.specs.Relation.{Stands, Runs, Relates}
use Rattle.back_places.specs.StepLaw.{Follows, weight}
use Rattle.back_emission.specs.Moments.{state_at, later, moment, beside, Ready}
use Rattle.back_emission.specs.Arriving.{Given}
use Rattle.back_emission.proofs.Coming.{and_on, and_one}
use Rattle.back_emission.proofs.Parts.{small_extended}
use Rattle.back_emission.proofs.Operands.{prepared_one}
use Rattle.back_emission.proofs.Lengths.{load_length, move_from_register}
use Rattle.back_emission.proofs.Going.{no_change, all_kept, point_of}
use Rattle.back_emission.proofs.Giving.{arrives}
use Rattle.back_emission.proofs.Ends.{Holds, Called, called_with, into}
use Rattle.back_emission.proofs.Steps.{nothing, at_line, weighs, next_line}
use Rattle.back_steps.proofs.Taken.{arrive_on, point_on}
use Rattle.back_steps.proofs.Requests.{Counted, counted, request_there, request_gone}
use Rattle.back_steps.proofs.FewRequests.{slots_changed, moved_longer}

-- what the test of a request of few words does
few_test_does :
    (k sp top : ℕ) (registers words : List ℕ) (t : Bool) → slice_index registers 2 ≡ sp → slice_index registers 5 ≡ top → nat_lt sp top ≡ t → k + 6 < 2 ^ 25
    → execute (Bgeu 2 5 24) (state_at k registers words) ≡ goes_to (state_at (if t then k + 1 else k + 1 + 1 + 1 + 1 + 1 + 1) registers words)
few_test_does k sp top registers words t h2 h5 e inside =
    ap (λ x. branch (not (nat_lt x (slice_index registers 5))) 24 (state_at k registers words)) h2
    ∙ ap (λ x. branch (not (nat_lt sp x)) 24 (state_at k registers words)) h5
    ∙ ap (λ x. branch (not x) 24 (state_at k registers words)) e
    ∙ by t
  where
    by : (t : Bool) → branch (not t) 24 (state_at k registers words) ≡ goes_to (state_at (if t then k + 1 else k + 1 + 1 + 1 + 1 + 1 + 1) registers words)
    by true = let p : sum32 (4 * k) 4 ≡ 4 * (k + 1) = omega (arith, inside) in ap (λ x. goes_to (record { pc = x; registers = registers; memory = bytes_of words })) p
    by false = let p : sum32 (4 * k) 24 ≡ 4 * (k + 1 + 1 + 1 + 1 + 1 + 1) = omega (arith, inside) in ap (λ x. goes_to (record { pc = x; registers = registers; memory = bytes_of words })) p

-- the end of a longer heap
top_is : (hp w : ℕ) → hp ≤ 2 ^ 26 → w < 512 → sum32 hp (sign_extended 12 (4 * w)) ≡ hp + 4 * w
top_is hp w low few = ap (λ x. sum32 hp x) (small_extended (4 * w) (omega (arith, few))) ∙ omega (arith, low, few)

constant_is : (w : ℕ) → w < 512 → sum32 0 (sign_extended 12 w) ≡ w
constant_is w few = ap (λ x. sum32 0 x) (small_extended w (omega (arith, few))) ∙ omega (arith, few)

module _ (program : LineProgram) (l : Located) (Fact : (number line register : ℕ) → Place → Type 0) (first : List Block)
    (good : IsGood program l Fact) where
  -- a request of few words, where they are left
  few_there :
      (a : Activation) (line to v w : ℕ) (rs : Registers) (callers : List Caller) (z : MidState) (m : Moment)
      → (e : line_of program a.procedure line ≡ Some (Do (Request to v))) → (st : StageStands program first (running a line rs callers z)) → (r : Runs program l Fact first a line rs callers z m)
      → w < 512 → w ≤ left z.arena
      → request_code (way_at l a.procedure line) (l.source a.procedure line v) (l.target a.procedure line) ≡ few_requested_code (way_at l a.procedure line) w (l.target a.procedure line)
      → Given program l Fact first a (line + 1) (slice_set rs to (Some z.arena.heap_to)) callers (with_arena (with_heap w z.arena) (charged 20 z)) m
      (2 + (length (move_code (way_at l a.procedure line) (InRegister 3) (l.target a.procedure line)) + 1))
  few_there a line to v w rs callers z m e st r few room is =
      let g = good.lines a.procedure line (Do (Request to v)) e in
      let at = l.line_at a.procedure line in
      let words = r.words in
      let h = r.machine in
      let small = h.arena.words_small in
      let regs = m.state.registers in
      let hp = z.arena.heap_to in
      let sp = stack_from z.arena in
      let below = h.form.below in
      let size = h.form.small in
      let target = l.target a.procedure line in
      let way = way_at l a.procedure line in
      let known = l.records a.procedure line in
      let M = move_code way (InRegister 3) target in
      let C = few_requested_code way w target in
      let stands = subst (λ c. Stands l words at c) is (h.code.lines a.procedure line (Do (Request to v)) e) in
      let tail : length (M ++ Addi 3 5 0 ∷ []) ≡ length M + 1 = length-append M (Addi 3 5 0 ∷ []) in
      let long : length C ≡ suc (suc (suc (suc (suc (suc (suc (length (M ++ Addi 3 5 0 ∷ [])))))))) = refl in
      let low : at + 7 < 2 ^ 25 = omega (arith, stands.to, good.low, long) in
      let ready : Ready regs = record { long = h.long; zero_is = h.zero_is } in
      let top : hp + 4 * w ≤ sp = omega (arith, room, below) in
      let low26 : hp ≤ 2 ^ 26 = omega (arith, below, size) in
      let v5 : sum32 (slice_index regs 3) (sign_extended 12 (4 * w)) ≡ hp + 4 * w = ap (λ x. sum32 x (sign_extended 12 (4 * w))) h.heap ∙ top_is hp w low26 few in
      let one = prepared_one words regs (Addi 5 3 (4 * w)) 5 (hp + 4 * w) small ready (omega arith) (omega arith) (omega (arith, low26, few)) (λ i. ap (λ x. gives 5 x (state_at i regs words)) v5) in
      let h2 = one.others 2 (λ q. omega (arith, q)) (λ q. omega (arith, q)) ∙ h.stack in
      let yes : nat_lt sp (hp + 4 * w) ≡ false = grind (arith, nat_tests, top) in
      let k = at + 1 in
      let k6 = k + 1 + 1 + 1 + 1 + 1 + 1 in
      let does = few_test_does k sp (hp + 4 * w) one.registers' words false h2 one.holds yes (omega (arith, low)) in
      let rest = Addi 10 0 w ∷ Sub 11 2 3 ∷ Srli 11 11 2 ∷ Addi 17 0 4 ∷ Ecall ∷ (M ++ Addi 3 5 0 ∷ []) in
      let o1 = later 1 (later 1 (beside m)) in
      let m1 = moment (state_at k6 one.registers' words) o1 in
      let comes = and_one m at words one.registers' (Addi 5 3 (4 * w) ∷ []) rest (Bgeu 2 5 24) (state_at k6 one.registers' words) small r.pc h.memory one.sets stands.has (omega (arith, low)) does in
      let two = one.others 2 (λ q. omega (arith, q)) (λ q. omega (arith, q)) in
      let three = one.others 3 (λ q. omega (arith, q)) (λ q. omega (arith, q)) in
      let machine = slots_changed program l Fact first good a z words words m one.registers' k6 o1 h (no_change program l Fact first good a z.arena words small) one.ready (one.bounded h.registers_small) two three refl refl in
      let kept = all_kept program l Fact first good a z.arena words words st.0 (λ j q. refl) in
      let p1 = point_on program l Fact first good a at k6 known callers z z m m1 words st (point_of program l Fact first good a line rs callers z m r) kept refl machine refl in
      let behind = next_line program l Fact first good a.procedure line (Do (Request to v)) e refl ∙ ap (λ c. at + length c) is in
      let t = moved_longer program l Fact first good a k6 known (line + 1) w target (slice_set rs to (Some hp)) callers z one.registers' words o1 st p1 refl (good.targets a.procedure line) g.somewhere room one.holds
      (λ ws code. let s = subst (λ c. Stands l ws at c) is (code.lines a.procedure line (Do (Request to v)) e) in record { from = omega (arith, s.from); to = omega (arith, s.to, long); has = s.has.3.3.3.3.3.3.3 })
      (omega (arith, behind, long))
      (arrive_on program l Fact first good a z z regs one.registers' words words (line + 1) hp (slice_set rs to (Some hp)) target refl
      (λ q high n10 n11 n17. one.others q (λ j. omega (arith, high, j)) (λ j. omega (arith, high, j))) (λ j q. refl)
      (arrives program l Fact first good a line (line + 1) to hp rs z regs words g.gives.flows r.there))
      (λ q. one.others 1 (λ j. omega (arith, j)) (λ j. omega (arith, j)) ∙ r.links.linked (g.gives.linked q)) g.gives.records in
      record { moment' = t.moment'; comes = and_on {m' = m1} {m'' = t.moment'} comes t.comes; runs = t.runs }

  -- and where they are not
  few_gone :
      (a : Activation) (line to v w : ℕ) (rs : Registers) (callers : List Caller) (z : MidState) (m : Moment)
      → (e : line_of program a.procedure line ≡ Some (Do (Request to v))) → (r : Runs program l Fact first a line rs callers z m)
      → w < 512 → left z.arena < w
      → request_code (way_at l a.procedure line) (l.source a.procedure line v) (l.target a.procedure line) ≡ few_requested_code (way_at l a.procedure line) w (l.target a.procedure line)
      → (registers' : List ℕ) × Called program l Fact first 4 (charged 20 z) m (2 + (3 + 1)) registers' × (slice_index registers' 10 ≡ w) × (slice_index registers' 11 ≡ left z.arena)
  few_gone a line to v w rs callers z m e r few want is =
      let at = l.line_at a.procedure line in
      let words = r.words in
      let h = r.machine in
      let small = h.arena.words_small in
      let regs = m.state.registers in
      let hp = z.arena.heap_to in
      let sp = stack_from z.arena in
      let below = h.form.below in
      let size = h.form.small in
      let heap = h.form.heap in
      let way = way_at l a.procedure line in
      let M = move_code way (InRegister 3) (l.target a.procedure line) in
      let C = few_requested_code way w (l.target a.procedure line) in
      let more = M ++ Addi 3 5 0 ∷ [] in
      let stands = subst (λ c. Stands l words at c) is (h.code.lines a.procedure line (Do (Request to v)) e) in
      let long : length C ≡ suc (suc (suc (suc (suc (suc (suc (length more))))))) = refl in
      let low : at + 7 < 2 ^ 25 = omega (arith, stands.to, good.low, long) in
      let ready : Ready regs = record { long = h.long; zero_is = h.zero_is } in
      let short : sp < hp + 4 * w = omega (arith, want, below, heap.1) in
      let low26 : hp ≤ 2 ^ 26 = omega (arith, below, size) in
      let v5 : sum32 (slice_index regs 3) (sign_extended 12 (4 * w)) ≡ hp + 4 * w = ap (λ x. sum32 x (sign_extended 12 (4 * w))) h.heap ∙ top_is hp w low26 few in
      let one = prepared_one words regs (Addi 5 3 (4 * w)) 5 (hp + 4 * w) small ready (omega arith) (omega arith) (omega (arith, low26, few)) (λ i. ap (λ x. gives 5 x (state_at i regs words)) v5) in
      let h2 = one.others 2 (λ q. omega (arith, q)) (λ q. omega (arith, q)) ∙ h.stack in
      let h3 = one.others 3 (λ q. omega (arith, q)) (λ q. omega (arith, q)) ∙ h.heap in
      let no : nat_lt sp (hp + 4 * w) ≡ true = grind (arith, nat_tests, short) in
      let k = at + 1 in
      let does = few_test_does k sp (hp + 4 * w) one.registers' words true h2 one.holds no (omega (arith, low)) in
      let rest = Addi 10 0 w ∷ Sub 11 2 3 ∷ Srli 11 11 2 ∷ Addi 17 0 4 ∷ Ecall ∷ more in
      let o1 = later 1 (later 1 (beside m)) in
      let m1 = moment (state_at (k + 1) one.registers' words) o1 in
      let comes = and_one m at words one.registers' (Addi 5 3 (4 * w) ∷ []) rest (Bgeu 2 5 24) (state_at (k + 1) one.registers' words) small r.pc h.memory one.sets stands.has (omega (arith, low)) does in
      let v10 : sum32 (slice_index one.registers' 0) (sign_extended 12 w) ≡ w = ap (λ x. sum32 x (sign_extended 12 w)) one.ready.zero_is ∙ constant_is w few in
      let ten = prepared_one words one.registers' (Addi 10 0 w) 10 w small one.ready (omega arith) (omega arith) (omega (arith, few)) (λ i. ap (λ x. gives 10 x (state_at i one.registers' words)) v10) in
      let d = counted words one.registers' (Addi 10 0 w ∷ []) sp hp w small ten h2 h3 below (omega (arith, size)) in
      let holds1 : Holds program l Fact first z words m1 = record { memory = refl; arena = h.arena; printed = h.printed; input = h.input } in
      let called = called_with program l Fact first z 20 words m1 (k + 1) (Addi 10 0 w ∷ Sub 11 2 3 ∷ Srli 11 11 2 ∷ []) more 4 d.registers' holds1 refl
      (record { from = omega (arith, stands.from); to = omega (arith, stands.to, long); has = stands.has.3.3 }) d.sets d.ready (omega (arith, low)) (omega arith) in (
        called.0,
        record { moment' = called.1.moment'; comes = and_on {m' = m1} {m'' = called.1.moment'} comes called.1.comes; calls = called.1.calls; same = called.1.same },
        called.2 10 (λ q. omega (arith, q)) (λ q. omega (arith, q)) ∙ d.asked,
        called.2 11 (λ q. omega (arith, q)) (λ q. omega (arith, q)) ∙ d.left_is,
      )

  -- the code that asks by register 10
  by_register :
      (a : Activation) (line to v w : ℕ) (rs : Registers) (callers : List Caller) (z : MidState) (m : Moment) (t : Bool)
      → (e : line_of program a.procedure line ≡ Some (Do (Request to v))) → (r : Relates program l Fact first (running a line rs callers z) m)
      → register v rs ≡ Some w → nat_le w (left z.arena) ≡ t
      → next program (running a line rs callers z)
      ≡ proceed program a (line + 1) callers (choose_by t (λ rs' y. gives_word to y.arena.heap_to rs' (with_arena (with_heap w y.arena) y)) (λ rs' y. ends (no_room w (left y.arena)) rs' y) rs (charged 20 z))
      → weight program (running a line rs callers z) ≡ 0
      → request_code (way_at l a.procedure line) (l.source a.procedure line v) (l.target a.procedure line)
      ≡ load_into (way_at l a.procedure line) 10 (l.source a.procedure line v) ++ requested_code (way_at l a.procedure line) (l.target a.procedure line)
      → Follows program l Fact first (running a line rs callers z) m
  unfolding choose_by proceed
  by_register a line to v w rs callers z m t e r has fits goes light is =
      let g = good.lines a.procedure line (Do (Request to v)) e in
      let h = (r.1).machine in
      let way = way_at l a.procedure line in
      let target = l.target a.procedure line in
      let L = load_into way 10 (l.source a.procedure line v) in
      let M = move_code way (InRegister 5) target in
      let c = L ++ Sub 11 2 3 ∷ Srli 11 11 2 ∷ [] in
      let rest = Bgeu 11 10 12 ∷ Addi 17 0 4 ∷ Ecall ∷ Addi 5 3 0 ∷ Slli 10 10 2 ∷ Add 3 3 10 ∷ M in
      let whole = is ∙ sym (append_assoc L (Sub 11 2 3 ∷ Srli 11 11 2 ∷ []) rest) in
      let p = into program l Fact first good a line v w 10 rs callers z m r.0.0 r.1 g.gives.reads.0 has (omega arith) (omega arith) (λ k. omega (arith, k)) in
      let size = h.form.small in
      let d = counted (r.1).words m.state.registers L (stack_from z.arena) z.arena.heap_to w h.arena.words_small p h.stack h.heap h.form.below (omega (arith, size)) in
      let stands = subst (λ k. Stands l (r.1).words (l.line_at a.procedure line) k) whole (h.code.lines a.procedure line (Do (Request to v)) e) in
      let behind = next_line program l Fact first good a.procedure line (Do (Request to v)) e refl ∙ ap (λ k. l.line_at a.procedure line + length k) whole in
      let n1 = load_length way 10 (l.source a.procedure line v) in
      let n2 = move_from_register way 5 target in
      let n3 : length c ≡ length L + 2 = length-append L (Sub 11 2 3 ∷ Srli 11 11 2 ∷ []) in
      by t fits goes c d stands behind (omega (arith, n1, n3)) n2
    where
      by : (t : Bool) → nat_le w (left z.arena) ≡ t
          → next program (running a line rs callers z)
          ≡ proceed program a (line + 1) callers (choose_by t (λ rs' y. gives_word to y.arena.heap_to rs' (with_arena (with_heap w y.arena) y)) (λ rs' y. ends (no_room w (left y.arena)) rs' y) rs (charged 20 z))
          → (c : List Instr) → Counted (r.1).words m.state.registers c w (left z.arena)
          → Stands l (r.1).words (l.line_at a.procedure line) (c ++ Bgeu 11 10 12 ∷ Addi 17 0 4 ∷ Ecall ∷ Addi 5 3 0 ∷ Slli 10 10 2 ∷ Add 3 3 10 ∷ move_code (way_at l a.procedure line) (InRegister 5) (l.target a.procedure line))
          → l.line_at a.procedure (line + 1) ≡ l.line_at a.procedure line + length (c ++ Bgeu 11 10 12 ∷ Addi 17 0 4 ∷ Ecall ∷ Addi 5 3 0 ∷ Slli 10 10 2 ∷ Add 3 3 10 ∷ move_code (way_at l a.procedure line) (InRegister 5) (l.target a.procedure line))
          → length c ≤ 5 → length (move_code (way_at l a.procedure line) (InRegister 5) (l.target a.procedure line)) ≤ 3
          → Follows program l Fact first (running a line rs callers z) m
      by true fits goes c d stands behind n1 n2 =
          let room : w ≤ left z.arena = grind (arith, nat_tests, fits) in
          let g = good.lines a.procedure line (Do (Request to v)) e in
          let t = request_there program l Fact first good a line to w rs callers z m c (v ∷ []) r.0 r.1 g d room stands behind in
          record {
            count = length c + 1 + (3 + length (move_code (way_at l a.procedure line) (InRegister 5) (l.target a.procedure line)));
            moment = t.moment';
            comes = t.comes;
            relates = subst (λ y. Relates program l Fact first y t.moment') (sym goes) (r.0, t.runs);
            cheap = subst (λ y. length c + 1 + (3 + length (move_code (way_at l a.procedure line) (InRegister 5) (l.target a.procedure line))) + z.cost ≤ (state_of y).cost) (sym goes) (omega (arith, n1, n2));
            heavy = λ u. omega (arith, light);
          }
      by false fits goes c d stands behind n1 n2 =
          let want : left z.arena < w = grind (arith, nat_tests, fits) in
          let t = request_gone program l Fact first good a line w rs callers z m c _ r.1 d want stands in
          record {
            count = length c + 1 + 1;
            moment = t.1.moment';
            comes = t.1.comes;
            relates = subst (λ y. Relates program l Fact first y t.1.moment') (sym goes) (t.1.calls, ap (λ j. slice_index j 10) t.1.same ∙ t.2, ap (λ j. slice_index j 11) t.1.same ∙ t.3);
            cheap = subst (λ y. length c + 1 + 1 + z.cost ≤ (state_of y).cost) (sym goes) (omega (arith, n1));
            heavy = λ u. omega (arith, light);
          }

  -- the code that has the number written in it
  by_constant :
      (a : Activation) (line to v w : ℕ) (rs : Registers) (callers : List Caller) (z : MidState) (m : Moment) (t : Bool)
      → (e : line_of program a.procedure line ≡ Some (Do (Request to v))) → (r : Relates program l Fact first (running a line rs callers z) m)
      → nat_le w (left z.arena) ≡ t
      → next program (running a line rs callers z)
      ≡ proceed program a (line + 1) callers (choose_by t (λ rs' y. gives_word to y.arena.heap_to rs' (with_arena (with_heap w y.arena) y)) (λ rs' y. ends (no_room w (left y.arena)) rs' y) rs (charged 20 z))
      → weight program (running a line rs callers z) ≡ 0 → w < 512
      → request_code (way_at l a.procedure line) (l.source a.procedure line v) (l.target a.procedure line) ≡ few_requested_code (way_at l a.procedure line) w (l.target a.procedure line)
      → Follows program l Fact first (running a line rs callers z) m
  unfolding choose_by proceed
  by_constant a line to v w rs callers z m true e r fits goes light few is =
      let room : w ≤ left z.arena = grind (arith, nat_tests, fits) in
      let t = few_there a line to v w rs callers z m e r.0 r.1 few room is in
      let n = move_from_register (way_at l a.procedure line) 3 (l.target a.procedure line) in
      record {
        count = 2 + (length (move_code (way_at l a.procedure line) (InRegister 3) (l.target a.procedure line)) + 1);
        moment = t.moment';
        comes = t.comes;
        relates = subst (λ y. Relates program l Fact first y t.moment') (sym goes) (r.0, t.runs);
        cheap = subst (λ y. 2 + (length (move_code (way_at l a.procedure line) (InRegister 3) (l.target a.procedure line)) + 1) + z.cost ≤ (state_of y).cost) (sym goes) (omega (arith, n));
        heavy = λ u. omega (arith, light);
      }
  by_constant a line to v w rs callers z m false e r fits goes light few is =
      let want : left z.arena < w = grind (arith, nat_tests, fits) in
      let t = few_gone a line to v w rs callers z m e r.1 few want is in
      record {
        count = 2 + (3 + 1);
        moment = t.1.moment';
        comes = t.1.comes;
        relates = subst (λ y. Relates program l Fact first y t.1.moment') (sym goes) (t.1.calls, ap (λ j. slice_index j 10) t.1.same ∙ t.2, ap (λ j. slice_index j 11) t.1.same ∙ t.3);
        cheap = subst (λ y. 2 + (3 + 1) + z.cost ≤ (state_of y).cost) (sym goes) (omega arith);
        heavy = λ u. omega (arith, light);
      }

  pub request_follows :
      (a : Activation) (line to v : ℕ) (rs : Registers) (callers : List Caller) (z : MidState) (m : Moment)
      → line_of program a.procedure line ≡ Some (Do (Request to v))
      → Relates program l Fact first (running a line rs callers z) m → Follows program l Fact first (running a line rs callers z) m
  unfolding exec_step with_some choose_by proceed
  request_follows a line to v rs callers z m e r = by (register v rs) refl
    where
      light : weight program (running a line rs callers z) ≡ 0
      light = weighs program l Fact first good a line rs callers z (Do (Request to v)) e

      start : (x : Option ℕ) → register v rs ≡ x → next program (running a line rs callers z) ≡ proceed program a (line + 1) callers (with_some x (request to) rs (charged 20 z))
      start x h =
          at_line program l Fact first good a line rs callers z (Do (Request to v)) e
          ∙ ap (λ u. proceed program a (line + 1) callers (with_some u (request to) rs (charged 20 z))) h

      goes : (w : ℕ) (t : Bool) → register v rs ≡ Some w → nat_le w (left z.arena) ≡ t
          → next program (running a line rs callers z)
          ≡ proceed program a (line + 1) callers (choose_by t (λ rs' y. gives_word to y.arena.heap_to rs' (with_arena (with_heap w y.arena) y)) (λ rs' y. ends (no_room w (left y.arena)) rs' y) rs (charged 20 z))
      goes w t h k =
          start (Some w) h
          ∙ ap (λ u. proceed program a (line + 1) callers (choose_by u (λ rs' y. gives_word to y.arena.heap_to rs' (with_arena (with_heap w y.arena) y)) (λ rs' y. ends (no_room w (left y.arena)) rs' y) rs (charged 20 z))) k

      asked : (w : ℕ) → register v rs ≡ Some w
          → request_code (way_at l a.procedure line) (l.source a.procedure line v) (l.target a.procedure line)
          ≡ load_into (way_at l a.procedure line) 10 (l.source a.procedure line v) ++ requested_code (way_at l a.procedure line) (l.target a.procedure line)
          → Follows program l Fact first (running a line rs callers z) m
      asked w h is = by_register a line to v w rs callers z m (nat_le w (left z.arena)) e r h refl (goes w (nat_le w (left z.arena)) h refl) light is

      from_constant : (w c : ℕ) → register v rs ≡ Some w → l.source a.procedure line v ≡ AsConstant c → (t : Bool) → nat_lt c 512 ≡ t → Follows program l Fact first (running a line rs callers z) m
      from_constant w c h s true k =
          let way = way_at l a.procedure line in
          let target = l.target a.procedure line in
          let g = good.lines a.procedure line (Do (Request to v)) e in
          let same : c ≡ w = r.1.there v (AsConstant c) w (subst (λ p. Fact a.procedure line v p) s g.gives.reads.0) h in
          let few : c < 512 = grind (arith, nat_tests, k) in
          let is : request_code way (l.source a.procedure line v) target ≡ few_requested_code way w target =
          ap (λ p. request_code way p target) s ∙ ap (λ u. if u then few_requested_code way c target else load_into way 10 (AsConstant c) ++ requested_code way target) k
          ∙ ap (λ x. few_requested_code way x target) same in
          by_constant a line to v w rs callers z m (nat_le w (left z.arena)) e r refl (goes w (nat_le w (left z.arena)) h refl) light (omega (arith, few, same)) is
      from_constant w c h s false k =
          let way = way_at l a.procedure line in
          let target = l.target a.procedure line in
          asked w h
          (ap (λ p. request_code way p target) s ∙ ap (λ u. if u then few_requested_code way c target else load_into way 10 (AsConstant c) ++ requested_code way target) k
          ∙ ap (λ p. load_into way 10 p ++ requested_code way target) (sym s))

      from : (w : ℕ) → register v rs ≡ Some w → (p : Place) → l.source a.procedure line v ≡ p → Follows program l Fact first (running a line rs callers z) m
      from w h (InRegister q) s =
          asked w h (ap (λ p. request_code (way_at l a.procedure line) p (l.target a.procedure line)) s
          ∙ ap (λ p. load_into (way_at l a.procedure line) 10 p ++ requested_code (way_at l a.procedure line) (l.target a.procedure line)) (sym s))
      from w h (InSlot k) s =
          asked w h (ap (λ p. request_code (way_at l a.procedure line) p (l.target a.procedure line)) s
          ∙ ap (λ p. load_into (way_at l a.procedure line) 10 p ++ requested_code (way_at l a.procedure line) (l.target a.procedure line)) (sym s))
      from w h (AsConstant c) s = from_constant w c h s (nat_lt c 512) refl

      by : (x : Option ℕ) → register v rs ≡ x → Follows program l Fact first (running a line rs callers z) m
      by None h = nothing program l Fact first good (running a line rs callers z) m (charged 20 z) (start None h) (omega arith)
      by (Some w) h = from w h (l.source a.procedure line v) refl
