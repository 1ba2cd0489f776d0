-- The step of a line that requests words of the heap.
use Rattle.std.proofs.Common.{◌≡◌, ◌≢◌, ℕ, suc, ◌+◌, ◌-◌, ◌*◌, ◌/◌, ◌^◌, ◌<◌, ◌≤◌, Bool, true, false, List, [], ◌∷◌, ◌++◌, length, refl, ap, ◌∙◌, arith, Some, length-append}
use Rattle.std.specs.Prelude.{not, slice_index, slice_set, nat_lt, if◌then◌else◌}
use Rattle.std.proofs.lemmas.Bool.Decides.{nat_tests}
use Rattle.base.specs.Arithmetic.{sum32, difference32, shift_left, shift_right}
use Rattle.rv_encode.specs.declared.instruction.Instr.{Instr}
use Rattle.rv_encode.specs.declared.instruction.Instr.TheVariants.{Addi, Add, Sub, Slli, Srli, Bgeu, Ecall}
use Rattle.rv_machine.specs.Memory.{bytes_of}
use Rattle.rv_machine.specs.Arithmetic.{sign_extended}
use Rattle.rv_machine.specs.Step.{next as goes_to, execute, gives, branch}
use Rattle.rv_machine.specs.Run.{Moment}
use Rattle.mid_code.specs.Arena.{Block, left, with_heap}
use Rattle.mid_code.specs.State.{Registers, MidState, charged, with_arena}
use Rattle.mid_lines.specs.declared.line.LineProgram.{LineProgram}
use Rattle.mid_lines.specs.LineMeaning.{Activation, Caller, running}
use Rattle.mid_lines.specs.StackLaw.{StageStands}
use Rattle.back_places.specs.declared.place.Place.{Place}
use Rattle.back_places.specs.declared.place.Place.TheVariants.{InRegister}
use Rattle.back_places.specs.Places.{Located, way_at}
use Rattle.back_places.specs.Operands.{move_code}
use Rattle.back_places.specs.Facts.{Computes}
use Rattle.back_places.specs.Good.{IsGood}
use Rattle.back_places.specs.Relation.{Stands, Runs}
use Rattle.back_emission.specs.Moments.{state_at, later, moment, beside, AreSmall, Sets, Ready, Prepared}
use Rattle.back_emission.specs.Arriving.{Given}
use Rattle.back_emission.proofs.Coming.{and_on, and_one, sets_on, sets_none, has_front, has_back}
use Rattle.back_emission.proofs.Operands.{prepared_one}
use Rattle.back_emission.proofs.Going.{all_kept, point_of}
use Rattle.back_emission.proofs.Giving.{arrives}
use Rattle.back_emission.proofs.Ends.{Holds, Called, called_with}
use Rattle.back_emission.proofs.NewBlocks.{length_emptied}
use Rattle.back_steps.proofs.Taken.{arrive_on, point_on, taken}
use Rattle.back_steps.proofs.Heap.{heap_grown}

-- how many words are asked for is in register 10, and how many are left in register 11
pub record Counted (words registers : List ℕ) (code : List Instr) (w left : ℕ) : Type 0 where
  pub registers' : List ℕ
  pub sets : Sets words code registers registers'
  pub asked : slice_index registers' 10 ≡ w
  pub left_is : slice_index registers' 11 ≡ left
  pub others : (q : ℕ) → q ≢ 10 → q ≢ 11 → q ≢ 7 → slice_index registers' q ≡ slice_index registers q
  pub bounded : AreSmall registers → AreSmall registers'
  pub ready : Ready registers'

pub counted :
    (words registers : List ℕ) (code : List Instr) (sp hp w : ℕ) → AreSmall words → Prepared words registers code 10 w 10 → slice_index registers 2 ≡ sp → slice_index registers 3 ≡ hp
    → hp ≤ sp → sp ≤ 2 ^ 26 → Counted words registers (code ++ Sub 11 2 3 ∷ Srli 11 11 2 ∷ []) w ((sp - hp) / 4)
counted words registers code sp hp w small p stack heap grown low =
    let r2 : slice_index p.registers' 2 ≡ sp = p.others 2 (λ e. omega (arith, e)) (λ e. omega (arith, e)) ∙ stack in
    let r3 : slice_index p.registers' 3 ≡ hp = p.others 3 (λ e. omega (arith, e)) (λ e. omega (arith, e)) ∙ heap in
    let v : difference32 (slice_index p.registers' 2) (slice_index p.registers' 3) ≡ sp - hp =
    ap (λ x. difference32 x (slice_index p.registers' 3)) r2 ∙ ap (λ x. difference32 sp x) r3 ∙ omega (arith, grown, low) in
    let one = prepared_one words p.registers' (Sub 11 2 3) 11 (sp - hp) small p.ready (omega arith) (omega arith) (omega (arith, low)) (λ i. ap (λ x. gives 11 x (state_at i p.registers' words)) v) in
    let u : shift_right (slice_index one.registers' 11) 2 ≡ (sp - hp) / 4 = ap (λ x. shift_right x 2) one.holds in
    let two = prepared_one words one.registers' (Srli 11 11 2) 11 ((sp - hp) / 4) small one.ready (omega arith) (omega arith) (omega (arith, low)) (λ i. ap (λ x. gives 11 x (state_at i one.registers' words)) u) in
    record {
      registers' = two.registers';
      sets = sets_on {r'' = two.registers'} p.sets (sets_on {r'' = two.registers'} one.sets two.sets);
      asked = two.others 10 (λ e. omega (arith, e)) (λ e. omega (arith, e)) ∙ one.others 10 (λ e. omega (arith, e)) (λ e. omega (arith, e)) ∙ p.holds;
      left_is = two.holds;
      others = λ q n10 n11 n7. two.others q n11 n7 ∙ one.others q n11 n7 ∙ p.others q n10 n7;
      bounded = λ h. two.bounded (one.bounded (p.bounded h));
      ready = two.ready;
    }

-- what the test does
test_does :
    (k w left : ℕ) (registers words : List ℕ) (t : Bool) → slice_index registers 10 ≡ w → slice_index registers 11 ≡ left → nat_lt left w ≡ t → k + 3 < 2 ^ 25
    → execute (Bgeu 11 10 12) (state_at k registers words) ≡ goes_to (state_at (if t then k + 1 else k + 1 + 1 + 1) registers words)
test_does k w left registers words t h10 h11 e inside =
    ap (λ x. branch (not (nat_lt x (slice_index registers 10))) 12 (state_at k registers words)) h11
    ∙ ap (λ x. branch (not (nat_lt left x)) 12 (state_at k registers words)) h10
    ∙ ap (λ x. branch (not x) 12 (state_at k registers words)) e
    ∙ by t
  where
    by : (t : Bool) → branch (not t) 12 (state_at k registers words) ≡ goes_to (state_at (if t then k + 1 else k + 1 + 1 + 1) registers words)
    by true = let p : sum32 (4 * k) 4 ≡ 4 * (k + 1) = omega (arith, inside) in ap (λ x. goes_to (record { pc = x; registers = registers; memory = bytes_of words })) p
    by false = let p : sum32 (4 * k) 12 ≡ 4 * (k + 1 + 1 + 1) = omega (arith, inside) in ap (λ x. goes_to (record { pc = x; registers = registers; memory = bytes_of words })) p

-- where the heap ended in register 5, and where it ends now in its own
record Longer (words registers : List ℕ) (hp w : ℕ) : Type 0 where
  registers' : List ℕ
  sets : Sets words (Addi 5 3 0 ∷ Slli 10 10 2 ∷ Add 3 3 10 ∷ []) registers registers'
  five_is : slice_index registers' 5 ≡ hp
  three_is : slice_index registers' 3 ≡ hp + 4 * w
  others : (q : ℕ) → q ≢ 3 → q ≢ 5 → q ≢ 7 → q ≢ 10 → slice_index registers' q ≡ slice_index registers q
  bounded : AreSmall registers → AreSmall registers'
  ready : Ready registers'

longer :
    (words registers : List ℕ) (hp w : ℕ) → AreSmall words → Ready registers → slice_index registers 3 ≡ hp → slice_index registers 10 ≡ w → hp + 4 * w ≤ 2 ^ 26 → Longer words registers hp w
longer words registers hp w small ready h3 h10 few =
    let v5 : sum32 (slice_index registers 3) (sign_extended 12 0) ≡ hp = ap (λ x. sum32 x (sign_extended 12 0)) h3 ∙ omega (arith, few) in
    let one = prepared_one words registers (Addi 5 3 0) 5 hp small ready (omega arith) (omega arith) (omega (arith, few)) (λ i. ap (λ x. gives 5 x (state_at i registers words)) v5) in
    let ten = one.others 10 (λ e. omega (arith, e)) (λ e. omega (arith, e)) ∙ h10 in
    let v10 : shift_left (slice_index one.registers' 10) 2 ≡ 4 * w = ap (λ x. shift_left x 2) ten ∙ omega (arith, few) in
    let two = prepared_one words one.registers' (Slli 10 10 2) 10 (4 * w) small one.ready (omega arith) (omega arith) (omega (arith, few)) (λ i. ap (λ x. gives 10 x (state_at i one.registers' words)) v10) in
    let r3 : slice_index two.registers' 3 ≡ hp = two.others 3 (λ e. omega (arith, e)) (λ e. omega (arith, e)) ∙ one.others 3 (λ e. omega (arith, e)) (λ e. omega (arith, e)) ∙ h3 in
    let v3 : sum32 (slice_index two.registers' 3) (slice_index two.registers' 10) ≡ hp + 4 * w =
    ap (λ x. sum32 x (slice_index two.registers' 10)) r3 ∙ ap (λ x. sum32 hp x) two.holds ∙ omega (arith, few) in
    let three = prepared_one words two.registers' (Add 3 3 10) 3 (hp + 4 * w) small two.ready (omega arith) (omega arith) (omega (arith, few)) (λ i. ap (λ x. gives 3 x (state_at i two.registers' words)) v3) in
    record {
      registers' = three.registers';
      sets = sets_on {r'' = three.registers'} one.sets (sets_on {r'' = three.registers'} two.sets three.sets);
      five_is = three.others 5 (λ e. omega (arith, e)) (λ e. omega (arith, e)) ∙ two.others 5 (λ e. omega (arith, e)) (λ e. omega (arith, e)) ∙ one.holds;
      three_is = three.holds;
      others = λ q n3 n5 n7 n10. three.others q n3 n7 ∙ two.others q n10 n7 ∙ one.others q n5 n7;
      bounded = λ h. three.bounded (two.bounded (one.bounded h));
      ready = three.ready;
    }

module _ (program : LineProgram) (l : Located) (Fact : (number line register : ℕ) → Place → Type 0) (first : List Block)
    (good : IsGood program l Fact) where
  -- where so many words are left, and the line asks for them by register 10
  pub request_there :
      (a : Activation) (line to w : ℕ) (rs : Registers) (callers : List Caller) (z : MidState) (m : Moment) (c : List Instr) (reads : List ℕ)
      → (st : StageStands program first (running a line rs callers z)) → (r : Runs program l Fact first a line rs callers z m)
      → Computes l Fact a.procedure line to reads → (d : Counted r.words m.state.registers c w (left z.arena)) → w ≤ left z.arena
      → Stands l r.words (l.line_at a.procedure line) (c ++ Bgeu 11 10 12 ∷ Addi 17 0 4 ∷ Ecall ∷ Addi 5 3 0 ∷ Slli 10 10 2 ∷ Add 3 3 10 ∷ move_code (way_at l a.procedure line) (InRegister 5) (l.target a.procedure line))
      → l.line_at a.procedure (line + 1) ≡ l.line_at a.procedure line + length (c ++ Bgeu 11 10 12 ∷ Addi 17 0 4 ∷ Ecall ∷ Addi 5 3 0 ∷ Slli 10 10 2 ∷ Add 3 3 10 ∷ move_code (way_at l a.procedure line) (InRegister 5) (l.target a.procedure line))
      → Given program l Fact first a (line + 1) (slice_set rs to (Some z.arena.heap_to)) callers (charged 20 (with_arena (with_heap w z.arena) z)) m
      (length c + 1 + (3 + length (move_code (way_at l a.procedure line) (InRegister 5) (l.target a.procedure line))))
  request_there a line to w rs callers z m c reads st r g d room stands behind =
      let at = l.line_at a.procedure line in
      let words = r.words in
      let h = r.machine in
      let small = h.arena.words_small in
      let regs = m.state.registers in
      let hp = z.arena.heap_to in
      let below = h.form.below in
      let size = h.form.small in
      let z1 = with_arena (with_heap w z.arena) z in
      let target = l.target a.procedure line in
      let known = l.records a.procedure line in
      let M = move_code (way_at l a.procedure line) (InRegister 5) target in
      let rest = Addi 17 0 4 ∷ Ecall ∷ Addi 5 3 0 ∷ Slli 10 10 2 ∷ Add 3 3 10 ∷ M in
      let long : length (c ++ Bgeu 11 10 12 ∷ rest) ≡ length c + suc (suc (suc (suc (suc (suc (length M)))))) = length-append c (Bgeu 11 10 12 ∷ rest) in
      let k = at + length c in
      let reach : k + 6 < 2 ^ 25 = omega (arith, stands.to, good.low, long) in
      let yes : nat_lt (left z.arena) w ≡ false = grind (arith, nat_tests, room) in
      let does = test_does k w (left z.arena) d.registers' words false d.asked d.left_is yes (omega (arith, reach)) in
      let k3 = k + 1 + 1 + 1 in
      let m1 = moment (state_at k3 d.registers' words) (later 1 (later (length c) (beside m))) in
      let comes1 = and_one m at words d.registers' c rest (Bgeu 11 10 12) (state_at k3 d.registers' words) small r.pc h.memory d.sets stands.has (omega (arith, reach)) does in
      let h3 : slice_index d.registers' 3 ≡ hp = d.others 3 (λ e. omega (arith, e)) (λ e. omega (arith, e)) (λ e. omega (arith, e)) ∙ h.heap in
      let few : hp + 4 * w ≤ 2 ^ 26 = omega (arith, room, below, size) in
      let p = longer words d.registers' hp w small d.ready h3 d.asked few in
      let has = (has_back words at c (Bgeu 11 10 12 ∷ rest) stands.has).3.3.3 in
      let three = Addi 5 3 0 ∷ Slli 10 10 2 ∷ Add 3 3 10 ∷ [] in
      let o2 = later 3 (later 1 (later (length c) (beside m))) in
      let at2 = k3 + 3 in
      let m2 = moment (state_at at2 p.registers' words) o2 in
      let comes2 = p.sets.by k3 (later 1 (later (length c) (beside m))) (has_front words k3 three M has) (omega (arith, reach)) in
      let two = p.others 2 (λ e. omega (arith, e)) (λ e. omega (arith, e)) (λ e. omega (arith, e)) (λ e. omega (arith, e)) ∙ d.others 2 (λ e. omega (arith, e)) (λ e. omega (arith, e)) (λ e. omega (arith, e)) in
      let machine = heap_grown program l Fact first z words w m m2 h room refl p.ready (p.bounded (d.bounded h.registers_small)) two p.three_is refl refl in
      let same_size = length_emptied (hp / 4) w z.arena.memory in
      let kept = all_kept program l Fact first good a z.arena words words st.0 (λ j q. refl) in
      let p2 = point_on program l Fact first good a at at2 known callers z z1 m m2 words st (point_of program l Fact first good a line rs callers z m r) kept same_size machine refl in
      let t = taken program l Fact first good a at2 known (line + 1) hp 5 target (slice_set rs to (Some hp)) callers z1 20 m2 st p2
      (good.targets a.procedure line) g.somewhere (λ e. omega (arith, e)) (omega (arith, few)) p.five_is
      (record { from = omega (arith, stands.from); to = omega (arith, stands.to, long); has = has_back words k3 three M has })
      (omega (arith, behind, long))
      (arrive_on program l Fact first good a z z1 regs p.registers' words words (line + 1) hp (slice_set rs to (Some hp)) target same_size
      (λ q high n10 n11 n17. p.others q (λ e. omega (arith, high, e)) (λ e. omega (arith, high, e)) (λ e. omega (arith, high, e)) n10 ∙ d.others q n10 n11 (λ e. omega (arith, high, e))) (λ j low. refl)
      (arrives program l Fact first good a line (line + 1) to hp rs z regs words g.gives.flows r.there))
      (λ e. p.others 1 (λ j. omega (arith, j)) (λ j. omega (arith, j)) (λ j. omega (arith, j)) (λ j. omega (arith, j)) ∙ d.others 1 (λ j. omega (arith, j)) (λ j. omega (arith, j)) (λ j. omega (arith, j)) ∙ r.links.linked (g.gives.linked e)) g.gives.records in
      record { moment' = t.moment'; comes = and_on {m' = m1} {m'' = t.moment'} comes1 (and_on {m' = m2} {m'' = t.moment'} comes2 t.comes); runs = t.runs }

  -- where they are not
  pub request_gone :
      (a : Activation) (line w : ℕ) (rs : Registers) (callers : List Caller) (z : MidState) (m : Moment) (c more : List Instr)
      → (r : Runs program l Fact first a line rs callers z m) → (d : Counted r.words m.state.registers c w (left z.arena)) → left z.arena < w
      → Stands l r.words (l.line_at a.procedure line) (c ++ Bgeu 11 10 12 ∷ Addi 17 0 4 ∷ Ecall ∷ more)
      → (registers' : List ℕ) × Called program l Fact first 4 (charged 20 z) m (length c + 1 + 1) registers' × (slice_index registers' 10 ≡ w) × (slice_index registers' 11 ≡ left z.arena)
  request_gone a line w rs callers z m c more r d want stands =
      let at = l.line_at a.procedure line in
      let words = r.words in
      let h = r.machine in
      let small = h.arena.words_small in
      let long : length (c ++ Bgeu 11 10 12 ∷ Addi 17 0 4 ∷ Ecall ∷ more) ≡ length c + suc (suc (suc (length more))) = length-append c (Bgeu 11 10 12 ∷ Addi 17 0 4 ∷ Ecall ∷ more) in
      let k = at + length c in
      let reach : k + 3 < 2 ^ 25 = omega (arith, stands.to, good.low, long) in
      let no : nat_lt (left z.arena) w ≡ true = grind (arith, nat_tests, want) in
      let does = test_does k w (left z.arena) d.registers' words true d.asked d.left_is no (omega (arith, reach)) in
      let comes = and_one m at words d.registers' c (Addi 17 0 4 ∷ Ecall ∷ more) (Bgeu 11 10 12) (state_at (k + 1) d.registers' words) small r.pc h.memory d.sets stands.has (omega (arith, reach)) does in
      let m1 = moment (state_at (k + 1) d.registers' words) (later 1 (later (length c) (beside m))) in
      let holds1 : Holds program l Fact first z words m1 = record { memory = refl; arena = h.arena; printed = h.printed; input = h.input } in
      let has = (has_back words at c (Bgeu 11 10 12 ∷ Addi 17 0 4 ∷ Ecall ∷ more) stands.has).3 in
      let called = called_with program l Fact first z 20 words m1 (k + 1) [] more 4 d.registers' holds1 refl
      (record { from = omega (arith, stands.from); to = omega (arith, stands.to, long); has = has }) (sets_none words d.registers') d.ready (omega (arith, reach)) (omega arith) in (
        called.0,
        record { moment' = called.1.moment'; comes = and_on {m' = m1} {m'' = called.1.moment'} comes called.1.comes; calls = called.1.calls; same = called.1.same },
        called.2 10 (λ q. omega (arith, q)) (λ q. omega (arith, q)) ∙ d.asked,
        called.2 11 (λ q. omega (arith, q)) (λ q. omega (arith, q)) ∙ d.left_is,
      )
