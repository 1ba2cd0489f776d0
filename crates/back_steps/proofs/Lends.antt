-- The step of a line that lends a block of as many words as a register says.
use Rattle.std.proofs.Common.{◌≡◌, ◌≢◌, ℕ, suc, ◌+◌, ◌-◌, ◌*◌, ◌/◌, ◌%◌, ◌^◌, ◌<◌, ◌≤◌, Bool, true, false, List, [], ◌∷◌, ◌++◌, length, refl, sym, ap, subst, ◌∙◌, arith, Some, None, length-append, append_assoc}
use Rattle.std.specs.Prelude.{not, Option, slice_index, slice_set, nat_le, nat_lt, if◌then◌else◌}
use Rattle.std.proofs.lemmas.Bool.Decides.{nat_tests}
use Rattle.std.proofs.lemmas.List.{get_or-set_same, get_or-set_other, length-set}
use Rattle.base.specs.Arithmetic.{sum32, difference32, shift_left, shift_right, less_signed}
use Rattle.rv_encode.specs.declared.instruction.Instr.{Instr}
use Rattle.rv_encode.specs.declared.instruction.Instr.TheVariants.{Sw, Addi, Sub, Slli, Srli, Bge, Ecall}
use Rattle.rv_machine.specs.Memory.{bytes_of, stored_at}
use Rattle.rv_machine.specs.Words.{word_stored}
use Rattle.rv_machine.specs.Arithmetic.{sign_extended}
use Rattle.rv_machine.specs.Step.{next as goes_to, execute, gives, store, branch}
use Rattle.rv_machine.specs.Run.{Moment}
use Rattle.mid_code.specs.Arena.{Block, words_of, stack_from, lent_from, left, lent_block, with_new_block}
use Rattle.mid_code.specs.Checked.{is_block_size}
use Rattle.mid_code.specs.State.{Registers, MidState, charged, with_arena, register, choose_by, ends, falls, stuck, no_room}
use Rattle.mid_code.specs.Meaning.{lay}
use Rattle.mid_lines.specs.declared.line.Line.TheVariants.{Lend}
use Rattle.mid_lines.specs.declared.line.LineProgram.{LineProgram}
use Rattle.mid_lines.specs.Lines.{line_of}
use Rattle.mid_lines.specs.LineMeaning.{Standing, Activation, Caller, running, with_standing, arrive, lend_at, next, state_of}
use Rattle.mid_lines.specs.StackLaw.{StageStands}
use Rattle.back_places.specs.declared.place.Place.{Place}
use Rattle.back_places.specs.Places.{Located, way_at}
use Rattle.back_places.specs.Operands.{load_into, given_in, keep_code}
use Rattle.back_places.specs.LineCode.{lend_code}
use Rattle.back_places.specs.Good.{IsGood}
use Rattle.back_places.specs.Relation.{Stands, HasCode, Runs, Relates}
use Rattle.back_places.specs.StepLaw.{Comes, Follows, weight}
use Rattle.back_emission.specs.Moments.{state_at, Beside, later, moment, beside, AreSmall, Sets, Ready, Prepared}
use Rattle.back_emission.specs.Arriving.{Given}
use Rattle.back_emission.proofs.Coming.{and_on, and_one, one_step, step_at, sets_on, has_back, has_front, next_place}
use Rattle.back_emission.proofs.Operands.{prepared_one, set_small}
use Rattle.back_emission.proofs.Arithmetic.{room_test}
use Rattle.back_emission.proofs.Private.{program_kept}
use Rattle.back_emission.proofs.Lengths.{load_length, keep_length}
use Rattle.back_emission.proofs.Going.{point_of}
use Rattle.back_emission.proofs.Giving.{arrives}
use Rattle.back_emission.proofs.Keeping.{given_is, kept}
use Rattle.back_emission.proofs.Ends.{Holds, holding, Called, called_with, into}
use Rattle.back_emission.proofs.NewBlocks.{block_laid}
use Rattle.back_emission.proofs.Steps.{nothing, at_line, weighs, next_line}
use Rattle.back_steps.proofs.Headers.{stands_on_more, head_stored, InHeader, in_header, header_private, point_laid, arrives_laid}
use Rattle.back_steps.proofs.Lays.{lent_address}

-- the block that a line lends
abbrev lent_standing : (outside words : ℕ) → Standing
lent_standing outside words = record { outside = outside; words = words; landing = None; is_open = false }

-- the stack pointer that much lower is in register 5, and how much is in register 10
record SetsMeasured (words registers : List ℕ) (code : List Instr) (sp n : ℕ) : Type 0 where
  registers' : List ℕ
  sets : Sets words code registers registers'
  five_is : slice_index registers' 5 ≡ (sp + (2 ^ 32 - 4 * n)) % 2 ^ 32
  ten_is : slice_index registers' 10 ≡ n
  others : (q : ℕ) → q ≢ 10 → q ≢ 5 → q ≢ 7 → slice_index registers' q ≡ slice_index registers q
  bounded : AreSmall registers → AreSmall registers'
  ready : Ready registers'

measured :
    (words registers : List ℕ) (code : List Instr) (sp w : ℕ) → AreSmall words → Prepared words registers code 10 w 10 → slice_index registers 2 ≡ sp → sp ≤ 2 ^ 26 → w < 2 ^ 24
    → SetsMeasured words registers (code ++ Addi 10 10 2 ∷ Slli 5 10 2 ∷ Sub 5 2 5 ∷ []) sp (w + 2)
measured words registers code sp w small p stack low few =
    let v10 : sum32 (slice_index p.registers' 10) (sign_extended 12 2) ≡ w + 2 = ap (λ x. sum32 x (sign_extended 12 2)) p.holds ∙ omega (arith, few) in
    let one = prepared_one words p.registers' (Addi 10 10 2) 10 (w + 2) small p.ready (omega arith) (omega arith) (omega (arith, few)) (λ i. ap (λ x. gives 10 x (state_at i p.registers' words)) v10) in
    let v5 : shift_left (slice_index one.registers' 10) 2 ≡ 4 * (w + 2) = ap (λ x. shift_left x 2) one.holds ∙ omega (arith, few) in
    let two = prepared_one words one.registers' (Slli 5 10 2) 5 (4 * (w + 2)) small one.ready (omega arith) (omega arith) (omega (arith, few)) (λ i. ap (λ x. gives 5 x (state_at i one.registers' words)) v5) in
    let r2 : slice_index two.registers' 2 ≡ sp = two.others 2 (λ e. omega (arith, e)) (λ e. omega (arith, e)) ∙ one.others 2 (λ e. omega (arith, e)) (λ e. omega (arith, e)) ∙ p.others 2 (λ e. omega (arith, e)) (λ e. omega (arith, e)) ∙ stack in
    let d5 : difference32 (slice_index two.registers' 2) (slice_index two.registers' 5) ≡ (sp + (2 ^ 32 - 4 * (w + 2))) % 2 ^ 32 =
    ap (λ x. difference32 x (slice_index two.registers' 5)) r2 ∙ ap (λ x. difference32 sp x) two.holds ∙ omega (arith, low, few) in
    let three = prepared_one words two.registers' (Sub 5 2 5) 5 ((sp + (2 ^ 32 - 4 * (w + 2))) % 2 ^ 32) small two.ready (omega arith) (omega arith) (omega arith) (λ i. ap (λ x. gives 5 x (state_at i two.registers' words)) d5) in
    record {
      registers' = three.registers';
      sets = sets_on {r'' = three.registers'} p.sets (sets_on {r'' = three.registers'} one.sets (sets_on {r'' = three.registers'} two.sets three.sets));
      five_is = three.holds;
      ten_is = three.others 10 (λ e. omega (arith, e)) (λ e. omega (arith, e)) ∙ two.others 10 (λ e. omega (arith, e)) (λ e. omega (arith, e)) ∙ one.holds;
      others = λ q n10 n5 n7. three.others q n5 n7 ∙ two.others q n5 n7 ∙ one.others q n10 n7 ∙ p.others q n10 n7;
      bounded = λ h. three.bounded (two.bounded (one.bounded (p.bounded h)));
      ready = three.ready;
    }

-- what the test for room does
test_does :
    (k sp hp n : ℕ) (registers words : List ℕ) (t : Bool) → slice_index registers 5 ≡ (sp + (2 ^ 32 - 4 * n)) % 2 ^ 32 → slice_index registers 3 ≡ hp
    → hp ≤ sp → sp ≤ 2 ^ 26 → n ≤ 2 ^ 24 + 2 → nat_lt sp (hp + 4 * n) ≡ t → k < 2 ^ 25
    → execute (Bge 5 3 20) (state_at k registers words) ≡ goes_to (state_at (if t then k + 1 else k + 1 + 1 + 1 + 1 + 1) registers words)
test_does k sp hp n registers words t h5 h3 grown low few e inside =
    ap (λ x. branch (not (less_signed x (slice_index registers 3))) 20 (state_at k registers words)) h5
    ∙ ap (λ x. branch (not (less_signed ((sp + (2 ^ 32 - 4 * n)) % 2 ^ 32) x)) 20 (state_at k registers words)) h3
    ∙ ap (λ x. branch (not x) 20 (state_at k registers words)) (room_test sp hp n grown low few ∙ e)
    ∙ by t
  where
    by : (t : Bool) → branch (not t) 20 (state_at k registers words) ≡ goes_to (state_at (if t then k + 1 else k + 1 + 1 + 1 + 1 + 1) registers words)
    by true = let p : sum32 (4 * k) 4 ≡ 4 * (k + 1) = omega (arith, inside) in ap (λ x. goes_to (record { pc = x; registers = registers; memory = bytes_of words })) p
    by false = let p : sum32 (4 * k) 20 ≡ 4 * (k + 1 + 1 + 1 + 1 + 1) = omega (arith, inside) in ap (λ x. goes_to (record { pc = x; registers = registers; memory = bytes_of words })) p

-- the code behind the test where there is no room
abbrev gone_code : List Instr
gone_code = Sub 11 2 3 ∷ Srli 11 11 2 ∷ []

-- how many words were left comes into register 11
record Left (words registers : List ℕ) (sp hp n : ℕ) : Type 0 where
  registers' : List ℕ
  sets : Sets words gone_code registers registers'
  ready : Ready registers'
  asked : slice_index registers' 10 ≡ n
  left_is : slice_index registers' 11 ≡ (sp - hp) / 4

left_there :
    (words registers : List ℕ) (sp hp n : ℕ) → AreSmall words → Ready registers → slice_index registers 10 ≡ n → slice_index registers 2 ≡ sp → slice_index registers 3 ≡ hp
    → hp ≤ sp → sp ≤ 2 ^ 26 → Left words registers sp hp n
left_there words registers sp hp n small ready h10 h2 h3 grown low =
    let v : difference32 (slice_index registers 2) (slice_index registers 3) ≡ sp - hp =
    ap (λ x. difference32 x (slice_index registers 3)) h2 ∙ ap (λ x. difference32 sp x) h3 ∙ omega (arith, grown, low) in
    let one = prepared_one words registers (Sub 11 2 3) 11 (sp - hp) small ready (omega arith) (omega arith) (omega (arith, low)) (λ i. ap (λ x. gives 11 x (state_at i registers words)) v) in
    let u : shift_right (slice_index one.registers' 11) 2 ≡ (sp - hp) / 4 = ap (λ x. shift_right x 2) one.holds in
    let two = prepared_one words one.registers' (Srli 11 11 2) 11 ((sp - hp) / 4) small one.ready (omega arith) (omega arith) (omega (arith, low)) (λ i. ap (λ x. gives 11 x (state_at i one.registers' words)) u) in
    record {
      registers' = two.registers';
      sets = sets_on {r'' = two.registers'} one.sets two.sets;
      ready = two.ready;
      asked = two.others 10 (λ e. omega (arith, e)) (λ e. omega (arith, e)) ∙ one.others 10 (λ e. omega (arith, e)) (λ e. omega (arith, e)) ∙ h10;
      left_is = two.holds;
    }

-- the machine with the stack pointer of before in the header of a new block, and where the block begins in its register
record LentRoom (m : Moment) (words : List ℕ) (sp place count to : ℕ) : Type 0 where
  registers' : List ℕ
  o : Beside
  printed : o.printed ≡ m.printed
  input : o.input ≡ m.input
  comes : Comes count m (moment (state_at to registers' (slice_set words (place + 1) sp)) o)
  stack : slice_index registers' 2 ≡ 4 * place
  others : (q : ℕ) → q ≢ 2 → q ≢ 10 → q ≢ 5 → q ≢ 7 → slice_index registers' q ≡ slice_index m.state.registers q
  bounded : AreSmall registers'
  ready : Ready registers'

room_lent :
    (m : Moment) (at : ℕ) (words : List ℕ) (sp hp n place : ℕ) (c more : List Instr) → SetsMeasured words m.state.registers c sp n
    → m.state.pc ≡ 4 * at → m.state.memory ≡ bytes_of words → AreSmall words → AreSmall m.state.registers → slice_index m.state.registers 2 ≡ sp → slice_index m.state.registers 3 ≡ hp
    → hp ≤ sp → sp ≤ 2 ^ 26 → n ≤ 2 ^ 24 + 2 → hp + 4 * n ≤ sp → sp - 4 * n ≡ 4 * place → place + 1 < length words
    → HasCode words at (c ++ Bge 5 3 20 ∷ Sub 11 2 3 ∷ Srli 11 11 2 ∷ Addi 17 0 4 ∷ Ecall ∷ Sw 2 5 4 ∷ Addi 2 5 0 ∷ more)
    → HasCode (slice_set words (place + 1) sp) at (c ++ Bge 5 3 20 ∷ Sub 11 2 3 ∷ Srli 11 11 2 ∷ Addi 17 0 4 ∷ Ecall ∷ Sw 2 5 4 ∷ Addi 2 5 0 ∷ more)
    → at + length c + 7 < 2 ^ 25
    → LentRoom m words sp place (length c + 1 + (1 + 1)) (at + length c + 1 + 1 + 1 + 1 + 1 + 1 + 1)
room_lent m at words sp hp n place c more d pc memory small rsmall stack heap grown low few enough down inside has has' reach =
    let rest = Sub 11 2 3 ∷ Srli 11 11 2 ∷ Addi 17 0 4 ∷ Ecall ∷ Sw 2 5 4 ∷ Addi 2 5 0 ∷ more in
    let T = Bge 5 3 20 ∷ rest in
    let k = at + length c in
    let k5 = k + 1 + 1 + 1 + 1 + 1 in
    let words' = slice_set words (place + 1) sp in
    let yes : nat_lt sp (hp + 4 * n) ≡ false = grind (arith, nat_tests, enough) in
    let five : slice_index d.registers' 5 ≡ 4 * place = d.five_is ∙ omega (arith, down, enough, low, few) in
    let h2 : slice_index d.registers' 2 ≡ sp = d.others 2 (λ q. omega (arith, q)) (λ q. omega (arith, q)) (λ q. omega (arith, q)) ∙ stack in
    let h3 : slice_index d.registers' 3 ≡ hp = d.others 3 (λ q. omega (arith, q)) (λ q. omega (arith, q)) (λ q. omega (arith, q)) ∙ heap in
    let does = test_does k sp hp n d.registers' words false d.five_is h3 grown low few yes (omega (arith, reach)) in
    let here = state_at k5 d.registers' words in
    let o1 = later 1 (later (length c) (beside m)) in
    let comes1 = and_one m at words d.registers' c rest (Bge 5 3 20) here small pc memory d.sets has (omega (arith, reach)) does in
    let reached : sum32 (slice_index d.registers' 5) (sign_extended 12 4) ≡ 4 * (place + 1) = ap (λ y. sum32 y (sign_extended 12 4)) five ∙ omega (arith, down, low) in
    let on : sum32 (4 * k5) 4 ≡ 4 * (k5 + 1) = next_place k5 (omega (arith, reach)) in
    let stored = state_at (k5 + 1) d.registers' words' in
    let stores : execute (Sw 2 5 4) here ≡ goes_to stored =
    ap (λ y. store (stored_at 4 y (slice_index d.registers' 2) (bytes_of words)) here) reached
    ∙ ap (λ y. store (stored_at 4 (4 * (place + 1)) y (bytes_of words)) here) h2
    ∙ ap (λ y. store y here) (word_stored words (place + 1) sp inside)
    ∙ ap (λ y. goes_to (record { pc = y; registers = d.registers'; memory = bytes_of words' })) on in
    let there = has_back words at c T has in
    let comes2 = one_step here stored o1 (step_at k5 d.registers' words (Sw 2 5 4) (Addi 2 5 0 ∷ more) there.3.3.3.3.3 (small k5) ∙ stores) in
    let o2 = later 1 o1 in
    let small' : AreSmall words' = λ j. set_small words (place + 1) sp j small (omega (arith, low)) in
    let v2 : sum32 (slice_index d.registers' 5) (sign_extended 12 0) ≡ 4 * place = ap (λ y. sum32 y (sign_extended 12 0)) five ∙ omega (arith, down, low) in
    let p = prepared_one words' d.registers' (Addi 2 5 0) 2 (4 * place) small' d.ready (omega arith) (omega arith) (omega (arith, down, low)) (λ i. ap (λ y. gives 2 y (state_at i d.registers' words')) v2) in
    let there' = has_back words' at c T has' in
    let comes3 = p.sets.by (k5 + 1) o2 (has_front words' (k5 + 1) (Addi 2 5 0 ∷ []) more there'.3.3.3.3.3.3) (omega (arith, reach)) in
    let o3 = later 1 o2 in
    let m2 = moment (state_at (k5 + 1 + 1) p.registers' words') o3 in
    record {
      registers' = p.registers';
      o = o3;
      printed = refl;
      input = refl;
      comes = and_on {m' = moment here o1} {m'' = m2} comes1 (and_on {m' = moment stored o2} {m'' = m2} comes2 comes3);
      stack = p.holds;
      others = λ q n2 n10 n5 n7. p.others q n2 n7 ∙ d.others q n10 n5 n7;
      bounded = p.bounded (d.bounded rsmall);
      ready = p.ready;
    }

module _ (program : LineProgram) (l : Located) (Fact : (number line register : ℕ) → Place → Type 0) (first : List Block)
    (good : IsGood program l Fact) where
  -- the code of the line, up to its test and behind it
  measure_code : (number line v : ℕ) → List Instr
  measure_code number line v = load_into (way_at l number line) 10 (l.source number line v) ++ Addi 10 10 2 ∷ Slli 5 10 2 ∷ Sub 5 2 5 ∷ []

  abbrev lent_tail : (number line : ℕ) → List Instr
  lent_tail number line = Addi (given_in (l.target number line)) 2 8 ∷ keep_code (way_at l number (line + 1)) (l.target number line)

  abbrev test_tail : (number line : ℕ) → List Instr
  test_tail number line = Bge 5 3 20 ∷ Sub 11 2 3 ∷ Srli 11 11 2 ∷ Addi 17 0 4 ∷ Ecall ∷ Sw 2 5 4 ∷ Addi 2 5 0 ∷ lent_tail number line

  code_is : (number line v block : ℕ) → lend_code l number line v ≡ measure_code number line v ++ test_tail number line
  unfolding measure_code
  code_is number line v block = sym (append_assoc (load_into (way_at l number line) 10 (l.source number line v)) (Addi 10 10 2 ∷ Slli 5 10 2 ∷ Sub 5 2 5 ∷ []) (test_tail number line))

  code_length : (number line v : ℕ) → length (measure_code number line v) ≤ 6
  unfolding measure_code
  code_length number line v =
      let n = load_length (way_at l number line) 10 (l.source number line v) in
      let long = length-append (load_into (way_at l number line) 10 (l.source number line v)) (Addi 10 10 2 ∷ Slli 5 10 2 ∷ Sub 5 2 5 ∷ []) in
      omega (arith, n, long)

  -- where there is room, from the machine with the stack pointer of before in the header on
  lent :
      (a : Activation) (line block v w count : ℕ) (rs : Registers) (callers : List Caller) (z : MidState) (m : Moment)
      → (e : line_of program a.procedure line ≡ Some (Lend block v)) → (st : StageStands program first (running a line rs callers z)) → (r : Runs program l Fact first a line rs callers z m)
      → w + 2 ≤ left z.arena → (c : List Instr) → c ≡ measure_code a.procedure line v
      → (d : LentRoom m r.words (stack_from z.arena) (length z.arena.memory - (w + 2 + words_of z.arena.blocks)) count (l.line_at a.procedure line + length c + 1 + 1 + 1 + 1 + 1 + 1 + 1))
      → Given program l Fact first (with_standing (lent_standing (length z.arena.blocks) w ∷ a.standing) a) (line + 1)
      (slice_set rs block (Some (lent_from (length (with_new_block (lent_block w) z.arena).memory) (lent_block w ∷ z.arena.blocks)))) callers
      (charged 36 (with_arena (with_new_block (lent_block w) z.arena) z)) m (count + suc (length (keep_code (way_at l a.procedure (line + 1)) (l.target a.procedure line))))
  lent a line block v w count rs callers z m e st r room c c_is d =
      let number = a.procedure in
      let x = Lend block v in
      let g = good.lines number line x e in
      let at = l.line_at number line in
      let size = length z.arena.memory in
      let new = lent_standing (length z.arena.blocks) w in
      let z1 = with_arena (with_new_block (lent_block w) z.arena) z in
      let target = l.target number line in
      let T = test_tail number line in
      let is : lend_code l number line v ≡ c ++ T = code_is number line v block ∙ ap (λ k. k ++ T) (sym c_is) in
      let long : length (c ++ T) ≡ length c + suc (suc (suc (suc (suc (suc (suc (suc (length (keep_code (way_at l number (line + 1)) target))))))))) = length-append c T in
      let form = r.machine.form in
      let sp = stack_from z.arena in
      let header0 = in_header program l Fact first z new r.words m r.machine room in
      let place = size - (w + 2 + words_of z.arena.blocks) in
      let header : InHeader size new z.arena.blocks (place + 1) = record { fits = header0.fits; low = omega arith; high = omega arith } in
      let words' = slice_set r.words (place + 1) sp in
      let inside : place + 1 < length r.words = omega (arith, header.fits, header.high, r.machine.arena.long) in
      let at3 = at + length c + 1 + 1 + 1 + 1 + 1 + 1 + 1 in
      let mf = moment (state_at at3 d.registers' r.words) d.o in
      let other3 : slice_index d.registers' 3 ≡ slice_index m.state.registers 3 = d.others 3 (λ q. omega (arith, q)) (λ q. omega (arith, q)) (λ q. omega (arith, q)) (λ q. omega (arith, q)) in
      let M1 = block_laid program l Fact first z r.words (lent_block w) m mf r.machine room (sym r.machine.memory) d.ready d.bounded (omega (arith, d.stack, header0.fits, r.machine.stack)) other3 d.printed d.input in
      let M2 = head_stored program l Fact first z1 r.words mf sp (place + 1) d.o at3 d.registers' M1 (omega (arith, M1.stack, d.stack)) inside
      (header_private z.arena new (place + 1) header) (omega (arith, form.small)) d.ready d.bounded refl refl refl refl in
      let m2 = moment (state_at at3 d.registers' words') d.o in
      let stands2 = subst (λ q. Stands l words' at q) is (M2.code.lines number line x e) in
      let has2 = has_back words' at c T stands2.has in
      let same : (j : ℕ) → j ≢ place + 1 → slice_index words' j ≡ slice_index r.words j = λ j ne. get_or-set_other r.words (place + 1) j sp 0 ne in
      let point = point_laid program l Fact first good a at at3 (l.records number line) (l.records number (line + 1)) new callers z m m2 words' (place + 1) st
      (point_of program l Fact first good a line rs callers z m r) g.records header same (get_or-set_same r.words (place + 1) sp 0 inside) M2 refl in
      let address = lent_from (length (with_new_block (lent_block w) z.arena).memory) (lent_block w ∷ z.arena.blocks) in
      let address_is : address ≡ 4 * place + 8 = omega (arith, M1.stack, d.stack) in
      let few : place ≤ 2 ^ 24 = omega (arith, form.small) in
      let given = given_is _ target (good.targets number line) g.somewhere in
      let q = lent_address words' d.registers' (given_in target) place address M2.arena.words_small d.ready given.0 given.1 d.stack few address_is in
      let behind = next_line program l Fact first good number line x e refl in
      let t = kept program l Fact first good (with_standing (new ∷ a.standing) a) at3 (l.records number (line + 1)) (line + 1) address target (slice_set rs block (Some address)) callers z1 36 m2 (Addi (given_in target) 2 8 ∷ [])
      (stands_on_more program a new z.arena.blocks st.0 refl, st.1) point (good.behind number line x e tt) g.somewhere (omega (arith, address_is, few)) q
      (record { from = omega (arith, stands2.from); to = omega (arith, stands2.to, long); has = has2.3.3.3.3.3.3.3 }) (omega (arith, behind, ap length is, long))
      (arrives_laid program l Fact first good a new z m.state.registers d.registers' r.words words' (place + 1) (line + 1) address (slice_set rs block (Some address)) target st.0 header
      (λ j high n10. d.others j (λ i. omega (arith, high, i)) n10 (λ i. omega (arith, high, i)) (λ i. omega (arith, high, i))) same
      (arrives program l Fact first good a line (line + 1) block address rs z m.state.registers r.words g.flows r.there))
      (λ i. d.others 1 (λ j. omega (arith, j)) (λ j. omega (arith, j)) (λ j. omega (arith, j)) (λ j. omega (arith, j)) ∙ r.links.linked (g.linked i)) refl in
      record { moment' = t.moment'; comes = and_on {m' = m2} {m'' = t.moment'} d.comes t.comes; runs = t.runs }

  -- the machine with the stack pointer of before in the header
  lent_room :
      (a : Activation) (line block v w : ℕ) (rs : Registers) (callers : List Caller) (z : MidState) (m : Moment)
      → (e : line_of program a.procedure line ≡ Some (Lend block v)) → (r : Runs program l Fact first a line rs callers z m)
      → w < 2 ^ 24 → w + 2 ≤ left z.arena → (c : List Instr) → c ≡ measure_code a.procedure line v → (d : SetsMeasured r.words m.state.registers c (stack_from z.arena) (w + 2))
      → LentRoom m r.words (stack_from z.arena) (length z.arena.memory - (w + 2 + words_of z.arena.blocks)) (length c + 1 + (1 + 1)) (l.line_at a.procedure line + length c + 1 + 1 + 1 + 1 + 1 + 1 + 1)
  lent_room a line block v w rs callers z m e r fits room c c_is d =
      let number = a.procedure in
      let x = Lend block v in
      let at = l.line_at number line in
      let T = test_tail number line in
      let is : lend_code l number line v ≡ c ++ T = code_is number line v block ∙ ap (λ k. k ++ T) (sym c_is) in
      let stands = subst (λ k. Stands l r.words at k) is (r.machine.code.lines number line x e) in
      let long : length (c ++ T) ≡ length c + suc (suc (suc (suc (suc (suc (suc (suc (length (keep_code (way_at l number (line + 1)) (l.target number line)))))))))) = length-append c T in
      let form = r.machine.form in
      let below = form.below in
      let grown = form.grown in
      let above = r.machine.apart.heap_above in
      let sp = stack_from z.arena in
      let place = length z.arena.memory - (w + 2 + words_of z.arena.blocks) in
      let header0 = in_header program l Fact first z (lent_standing (length z.arena.blocks) w) r.words m r.machine room in
      let words' = slice_set r.words (place + 1) sp in
      let enough : z.arena.heap_to + 4 * (w + 2) ≤ sp = omega (arith, room, below) in
      let down : sp - 4 * (w + 2) ≡ 4 * place = omega (arith, header0.fits) in
      let high : z.arena.heap_to ≤ 4 * place = omega (arith, enough, down) in
      let code' = program_kept program l r.words words' (length-set r.words (place + 1) sp)
      (λ j low top. get_or-set_other r.words (place + 1) j sp 0 (λ q. omega (arith, top, q, high, above, grown))) r.machine.code in
      let stands' = subst (λ k. Stands l words' at k) is (code'.lines number line x e) in
      room_lent m at r.words sp z.arena.heap_to (w + 2) place c (lent_tail number line) d r.pc r.machine.memory r.machine.arena.words_small r.machine.registers_small r.machine.stack r.machine.heap
      below (omega (arith, form.small)) (omega (arith, fits)) enough down (omega (arith, header0.fits, header0.high, r.machine.arena.long)) stands.has stands'.has (omega (arith, stands.to, good.low, long))

  -- where there is none
  gone :
      (a : Activation) (line block v w : ℕ) (rs : Registers) (callers : List Caller) (z : MidState) (m : Moment)
      → (e : line_of program a.procedure line ≡ Some (Lend block v)) → (r : Runs program l Fact first a line rs callers z m)
      → w < 2 ^ 24 → left z.arena < w + 2 → (c : List Instr) → c ≡ measure_code a.procedure line v → (d : SetsMeasured r.words m.state.registers c (stack_from z.arena) (w + 2))
      → (registers' : List ℕ) × Called program l Fact first 4 (charged 36 z) m (length c + 1 + (2 + 1)) registers' × (slice_index registers' 10 ≡ w + 2) × (slice_index registers' 11 ≡ left z.arena)
  gone a line block v w rs callers z m e r fits want c c_is d =
      let number = a.procedure in
      let at = l.line_at number line in
      let T = test_tail number line in
      let is : lend_code l number line v ≡ c ++ T = code_is number line v block ∙ ap (λ k. k ++ T) (sym c_is) in
      let stands = subst (λ k. Stands l r.words at k) is (r.machine.code.lines number line (Lend block v) e) in
      let long : length (c ++ T) ≡ length c + suc (suc (suc (suc (suc (suc (suc (suc (length (keep_code (way_at l number (line + 1)) (l.target number line)))))))))) = length-append c T in
      let k = at + length c in
      let form = r.machine.form in
      let below = form.below in
      let heap = form.heap in
      let sp = stack_from z.arena in
      let small = r.machine.arena.words_small in
      let low26 : sp ≤ 2 ^ 26 = omega (arith, form.small) in
      let short : sp < z.arena.heap_to + 4 * (w + 2) = omega (arith, want, below, heap.1) in
      let no : nat_lt sp (z.arena.heap_to + 4 * (w + 2)) ≡ true = grind (arith, nat_tests, short) in
      let h2 : slice_index d.registers' 2 ≡ sp = d.others 2 (λ q. omega (arith, q)) (λ q. omega (arith, q)) (λ q. omega (arith, q)) ∙ r.machine.stack in
      let h3 : slice_index d.registers' 3 ≡ z.arena.heap_to = d.others 3 (λ q. omega (arith, q)) (λ q. omega (arith, q)) (λ q. omega (arith, q)) ∙ r.machine.heap in
      let reach : k + 8 < 2 ^ 25 = omega (arith, stands.to, good.low, long) in
      let does = test_does k sp z.arena.heap_to (w + 2) d.registers' r.words true d.five_is h3 below low26 (omega (arith, fits)) no (omega (arith, reach)) in
      let more = Sw 2 5 4 ∷ Addi 2 5 0 ∷ lent_tail number line in
      let comes = and_one m at r.words d.registers' c (Sub 11 2 3 ∷ Srli 11 11 2 ∷ Addi 17 0 4 ∷ Ecall ∷ more) (Bge 5 3 20) (state_at (k + 1) d.registers' r.words) small r.pc r.machine.memory d.sets stands.has (omega (arith, reach)) does in
      let m1 = moment (state_at (k + 1) d.registers' r.words) (later 1 (later (length c) (beside m))) in
      let h = holding program l Fact first z r.words m r.machine in
      let holds1 : Holds program l Fact first z r.words m1 = record { memory = refl; arena = h.arena; printed = h.printed; input = h.input } in
      let there = left_there r.words d.registers' sp z.arena.heap_to (w + 2) small d.ready d.ten_is h2 h3 below low26 in
      let has = has_back r.words at c T stands.has in
      let called = called_with program l Fact first z 36 r.words m1 (k + 1) gone_code more 4 there.registers' holds1 refl
      (record { from = omega (arith, stands.from); to = omega (arith, stands.to, long); has = has.3 }) there.sets there.ready (omega (arith, reach)) (omega arith) in (
        called.0,
        record { moment' = called.1.moment'; comes = and_on {m'' = called.1.moment'} comes called.1.comes; calls = called.1.calls; same = called.1.same },
        called.2 10 (λ q. omega (arith, q)) (λ q. omega (arith, q)) ∙ there.asked,
        called.2 11 (λ q. omega (arith, q)) (λ q. omega (arith, q)) ∙ there.left_is,
      )

  pub lend_follows :
      (a : Activation) (line block v : ℕ) (rs : Registers) (callers : List Caller) (z : MidState) (m : Moment)
      → line_of program a.procedure line ≡ Some (Lend block v)
      → Relates program l Fact first (running a line rs callers z) m → Follows program l Fact first (running a line rs callers z) m
  unfolding choose_by measure_code
  lend_follows a line block v rs callers z m e r = by (register v rs) refl
    where
      light : weight program (running a line rs callers z) ≡ 0
      light = weighs program l Fact first good a line rs callers z (Lend block v) e

      start : (x : Option ℕ) → register v rs ≡ x → next program (running a line rs callers z) ≡ lend_at block x a (line + 1) rs callers (charged 36 z)
      start x h = at_line program l Fact first good a line rs callers z (Lend block v) e ∙ ap (λ u. lend_at block u a (line + 1) rs callers (charged 36 z)) h

      sized : (w : ℕ) (t : Bool) → register v rs ≡ Some w → is_block_size w ≡ t
          → next program (running a line rs callers z)
          ≡ arrive (with_standing (lent_standing (length z.arena.blocks) w ∷ a.standing) a) (line + 1) callers
          (choose_by t (lay (lent_block w) (λ rs' y. ends falls (slice_set rs' block (Some (lent_from (length y.arena.memory) y.arena.blocks))) y)) (ends stuck) rs (charged 36 z))
      sized w t h k =
          start (Some w) h
          ∙ ap (λ u. arrive (with_standing (lent_standing (length z.arena.blocks) w ∷ a.standing) a) (line + 1) callers
          (choose_by u (lay (lent_block w) (λ rs' y. ends falls (slice_set rs' block (Some (lent_from (length y.arena.memory) y.arena.blocks))) y)) (ends stuck) rs (charged 36 z))) k

      goes : (w : ℕ) (t : Bool) → register v rs ≡ Some w → is_block_size w ≡ true → nat_le (w + 2) (left z.arena) ≡ t
          → next program (running a line rs callers z)
          ≡ arrive (with_standing (lent_standing (length z.arena.blocks) w ∷ a.standing) a) (line + 1) callers
          (choose_by t (λ rs' y. ends falls (slice_set rs' block (Some (lent_from (length (with_new_block (lent_block w) y.arena).memory) (lent_block w ∷ y.arena.blocks)))) (with_arena (with_new_block (lent_block w) y.arena) y))
          (λ rs' y. ends (no_room (w + 2) (left y.arena)) rs' y) rs (charged 36 z))
      goes w t h k q =
          sized w true h k
          ∙ ap (λ u. arrive (with_standing (lent_standing (length z.arena.blocks) w ∷ a.standing) a) (line + 1) callers
          (choose_by u (λ rs' y. ends falls (slice_set rs' block (Some (lent_from (length (with_new_block (lent_block w) y.arena).memory) (lent_block w ∷ y.arena.blocks)))) (with_arena (with_new_block (lent_block w) y.arena) y))
          (λ rs' y. ends (no_room (w + 2) (left y.arena)) rs' y) rs (charged 36 z))) q

      measure : (w : ℕ) → register v rs ≡ Some w → w < 2 ^ 24 → SetsMeasured (r.1).words m.state.registers (measure_code a.procedure line v) (stack_from z.arena) (w + 2)
      measure w h fits =
          let g = good.lines a.procedure line (Lend block v) e in
          let p = into program l Fact first good a line v w 10 rs callers z m r.0.0 r.1 g.reads.0 h (omega arith) (omega arith) (λ k. omega (arith, k)) in
          measured r.1.words m.state.registers (load_into (way_at l a.procedure line) 10 (l.source a.procedure line v)) (stack_from z.arena) w r.1.machine.arena.words_small p r.1.machine.stack
          (let f = r.1.machine.form.small in omega (arith, f)) fits

      roomed : (w : ℕ) → register v rs ≡ Some w → is_block_size w ≡ true → (t : Bool) → nat_le (w + 2) (left z.arena) ≡ t → Follows program l Fact first (running a line rs callers z) m
      roomed w h k true q =
          let fits : w < 2 ^ 24 = grind (arith, nat_tests, k) in
          let room : w + 2 ≤ left z.arena = grind (arith, nat_tests, q) in
          let d = lent_room a line block v w rs callers z m e r.1 fits room (measure_code a.procedure line v) refl (measure w h fits) in
          let t = lent a line block v w (length (measure_code a.procedure line v) + 1 + (1 + 1)) rs callers z m e r.0 r.1 room (measure_code a.procedure line v) refl d in
          let n = code_length a.procedure line v in
          let n2 = keep_length (way_at l a.procedure (line + 1)) (l.target a.procedure line) in
          record {
            count = length (measure_code a.procedure line v) + 1 + (1 + 1) + suc (length (keep_code (way_at l a.procedure (line + 1)) (l.target a.procedure line)));
            moment = t.moment';
            comes = t.comes;
            relates = subst (λ y. Relates program l Fact first y t.moment') (sym (goes w true h k q))
                ((stands_on_more program a (lent_standing (length z.arena.blocks) w) z.arena.blocks r.0.0 refl, r.0.1), t.runs);
            cheap = subst (λ y. length (measure_code a.procedure line v) + 1 + (1 + 1) + suc (length (keep_code (way_at l a.procedure (line + 1)) (l.target a.procedure line))) + z.cost ≤ (state_of y).cost) (sym (goes w true h k q)) (omega (arith, n, n2));
            heavy = λ u. omega (arith, light);
          }
      roomed w h k false q =
          let fits : w < 2 ^ 24 = grind (arith, nat_tests, k) in
          let want : left z.arena < w + 2 = grind (arith, nat_tests, q) in
          let t = gone a line block v w rs callers z m e r.1 fits want (measure_code a.procedure line v) refl (measure w h fits) in
          let n = code_length a.procedure line v in
          record {
            count = length (measure_code a.procedure line v) + 1 + (2 + 1);
            moment = t.1.moment';
            comes = t.1.comes;
            relates = subst (λ y. Relates program l Fact first y t.1.moment') (sym (goes w false h k q))
                (t.1.calls, ap (λ j. slice_index j 10) t.1.same ∙ t.2, ap (λ j. slice_index j 11) t.1.same ∙ t.3);
            cheap = subst (λ y. length (measure_code a.procedure line v) + 1 + (2 + 1) + z.cost ≤ (state_of y).cost) (sym (goes w false h k q)) (omega (arith, n));
            heavy = λ u. omega (arith, light);
          }

      in_size : (w : ℕ) → register v rs ≡ Some w → (t : Bool) → is_block_size w ≡ t → Follows program l Fact first (running a line rs callers z) m
      in_size w h false k = nothing program l Fact first good (running a line rs callers z) m (charged 36 z) (sized w false h k) (omega arith)
      in_size w h true k = roomed w h k (nat_le (w + 2) (left z.arena)) refl

      by : (x : Option ℕ) → register v rs ≡ x → Follows program l Fact first (running a line rs callers z) m
      by None h = nothing program l Fact first good (running a line rs callers z) m (charged 36 z) (start None h) (omega arith)
      by (Some w) h = in_size w h (is_block_size w) refl
