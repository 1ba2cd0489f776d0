-- The step of a line that draws a serial number.
use Rattle.std.proofs.Common.{inl, inr, ◌≡◌, ◌≢◌, ℕ, zero, suc, ◌+◌, ◌-◌, ◌*◌, ◌/◌, ◌^◌, ◌<◌, ◌≤◌, ℤ, Bool, true, false, ◌&&◌, List, [], ◌∷◌, ◌++◌, length, refl, sym, ap, subst, ◌∙◌, arith, Some, None, append_assoc, length-append}
use Rattle.std.specs.Prelude.{◌⊎◌, Option, slice_index, slice_set, ◌==◌}
use Rattle.std.proofs.lemmas.Bool.Decides.{nat_tests}
use Rattle.std.proofs.lemmas.List.{get_or-set_other, length-set}
use Rattle.base.specs.Arithmetic.{sum32}
use Rattle.rv_encode.specs.declared.instruction.Instr.{Instr}
use Rattle.rv_encode.specs.declared.instruction.Instr.TheVariants.{Beq, Lw, Addi, Sw}
use Rattle.rv_machine.specs.Memory.{bytes_of, number_at, stored_at}
use Rattle.rv_machine.specs.Words.{word_read, word_stored}
use Rattle.rv_machine.specs.Arithmetic.{sign_extended}
use Rattle.rv_machine.specs.Step.{next as goes_to, execute, gives, load, store}
use Rattle.rv_machine.specs.Run.{Moment}
use Rattle.mid_code.specs.declared.operation.Operation.TheVariants.{Draw}
use Rattle.mid_code.specs.Arena.{Block, is_lent, word_at, with_word}
use Rattle.mid_code.specs.Checked.{is_register, is_offset}
use Rattle.mid_code.specs.Words.{address}
use Rattle.mid_code.specs.State.{Registers, MidState, charged, with_arena, register, with_some, choose_by, ends, exhausted, stuck, gives as gives_word}
use Rattle.mid_code.specs.Meaning.{exec_step, draw, store as store_word}
use Rattle.mid_lines.proofs.Conjunctions.{back_true}
use Rattle.mid_lines.specs.declared.line.Line.TheVariants.{Do}
use Rattle.mid_lines.specs.declared.line.LineProgram.{LineProgram}
use Rattle.mid_lines.specs.Lines.{line_of}
use Rattle.mid_lines.specs.LinesChecked.{is_checked_line_program}
use Rattle.mid_lines.specs.LineMeaning.{Activation, Caller, running, next, proceed, state_of}
use Rattle.mid_lines.specs.StackLaw.{StageStands}
use Rattle.back_places.specs.declared.place.Place.{Place}
use Rattle.back_places.specs.declared.place.Place.TheVariants.{InRegister, InSlot, AsConstant}
use Rattle.back_places.specs.Places.{Way, Located, way_at}
use Rattle.back_places.specs.Operands.{read_in, read_code, move_code}
use Rattle.back_places.specs.Selection.{low_12}
use Rattle.back_places.specs.Facts.{IsPlace, Computes}
use Rattle.back_places.specs.Good.{IsGood}
use Rattle.back_places.specs.Relation.{Stands, HasProgram, IsPrivate, WaitsForEver, Machine, Runs, Relates}
use Rattle.back_places.specs.StepLaw.{Comes, Follows, weight}
use Rattle.back_places.proofs.LinesInForm.{line_is, line_in_form}
use Rattle.back_emission.specs.Moments.{state_at, Beside, later, moment, beside, AreSmall, Sets, Ready, Prepared}
use Rattle.back_emission.specs.Arriving.{Given}
use Rattle.back_emission.proofs.Coming.{next_place, and_on, and_one, same_moment, sets_none, sets_on, has_front, has_back}
use Rattle.back_emission.proofs.Operands.{prepared_one, read}
use Rattle.back_emission.proofs.Private.{lent_apart, lent_where, on_blocks, SamePrivate, program_kept}
use Rattle.back_emission.proofs.Lengths.{read_length, move_from_register}
use Rattle.back_emission.proofs.Going.{all_kept, point_of}
use Rattle.back_emission.proofs.Giving.{arrives}
use Rattle.back_emission.proofs.Moving.{place_small, frame_is}
use Rattle.back_emission.proofs.Addresses.{address_same, word_there}
use Rattle.back_emission.proofs.Stores.{arena_stored}
use Rattle.back_emission.proofs.Steps.{nothing, at_line, weighs, next_line}
use Rattle.back_steps.proofs.Taken.{arrive_on, point_on, taken}
use Rattle.back_steps.proofs.Waiting.{waits, passes}

-- where an address is read is neither register 5 nor register 7
read_elsewhere : (frame : ℕ) (p : Place) → IsPlace frame p → (read_in 6 p ≢ 5) × (read_in 6 p ≢ 7)
read_elsewhere frame (InRegister r) ok = (λ e. omega (arith, ok.0, e), λ e. omega (arith, ok.0, e))
read_elsewhere frame (InSlot k) ok = (λ e. omega (arith, e), λ e. omega (arith, e))
read_elsewhere frame (AsConstant zero) ok = (λ e. omega (arith, e), λ e. omega (arith, e))
read_elsewhere frame (AsConstant (suc c)) ok = (λ e. omega (arith, e), λ e. omega (arith, e))

-- a word that is not the last one
below : (w : ℕ) → w < 2 ^ 32 → (w == 2 ^ 32 - 1) ≡ false → w + 1 < 2 ^ 32
below w small q = grind (arith, nat_tests, small, q)

-- and the last one
last : (w : ℕ) → (w == 2 ^ 32 - 1) ≡ true → w ≡ 2 ^ 32 - 1
last w q = grind (arith, nat_tests, q)

-- a word is not 0, where one was added
not_none : (w r r0 : ℕ) → r ≡ w + 1 → r0 ≡ 0 → (r == r0) ≡ false
not_none w r r0 e none = grind (arith, nat_tests, e, none)

-- code that reads an address, and the word there with one added into register 5, which is a word again
record Raised (words registers : List ℕ) (code : List Instr) (rb b sum : ℕ) : Type 0 where
  registers' : List ℕ
  sets : Sets words code registers registers'
  base_is : slice_index registers' rb ≡ b
  five_is : slice_index registers' 5 ≡ sum
  others : (q : ℕ) → (q < 5) ⊎ (7 < q) → slice_index registers' q ≡ slice_index registers q
  bounded : AreSmall registers → AreSmall registers'
  ready : Ready registers'

out_of : (q s : ℕ) → (q < 5) ⊎ (7 < q) → 4 < s → s < 8 → q ≢ s
out_of q s h low high e = elim h [ inl k ↦ omega (arith, k, e, low) | inr k ↦ omega (arith, k, e, high) ]

-- with code behind it that changes no register
raised :
    (words registers : List ℕ) (code behind : List Instr) (rb b w sum off place : ℕ) → AreSmall words → (rb ≢ 5) × (rb ≢ 7) → Prepared words registers code rb b 6
    → sum32 b (sign_extended 12 off) ≡ 4 * place → place < length words → slice_index words place ≡ w → sum32 w (sign_extended 12 1) ≡ sum → sum < 2 ^ 32
    → ((registers' : List ℕ) → slice_index registers' 5 ≡ sum → slice_index registers' 0 ≡ 0 → Sets words behind registers' registers')
    → Raised words registers (code ++ Lw 5 rb off ∷ Addi 5 5 1 ∷ behind) rb b sum
raised words registers code behind rb b w sum off place small apart p reached inside word added fits still =
    let address : sum32 (slice_index p.registers' rb) (sign_extended 12 off) ≡ 4 * place = ap (λ x. sum32 x (sign_extended 12 off)) p.holds ∙ reached in
    let here = small place in
    let one = prepared_one words p.registers' (Lw 5 rb off) 5 w small p.ready (omega arith) (omega arith) (omega (arith, word, here))
    (λ n. ap (λ x. load 5 (number_at 4 x (bytes_of words)) (state_at n p.registers' words)) address
    ∙ ap (λ x. load 5 x (state_at n p.registers' words)) (word_read words place inside (small place))
    ∙ ap (λ x. gives 5 x (state_at n p.registers' words)) word) in
    let sum_is : sum32 (slice_index one.registers' 5) (sign_extended 12 1) ≡ sum = ap (λ x. sum32 x (sign_extended 12 1)) one.holds ∙ added in
    let two = prepared_one words one.registers' (Addi 5 5 1) 5 sum small one.ready (omega arith) (omega arith) fits (λ n. ap (λ x. gives 5 x (state_at n one.registers' words)) sum_is) in
    record {
      registers' = two.registers';
      sets = sets_on {r'' = two.registers'} p.sets (sets_on {r'' = two.registers'} one.sets (sets_on {r'' = two.registers'} two.sets (still two.registers' two.holds two.ready.zero_is)));
      base_is = two.others rb apart.0 apart.1 ∙ one.others rb apart.0 apart.1 ∙ p.holds;
      five_is = two.holds;
      others = λ q h.
          two.others q (out_of q 5 h (omega arith) (omega arith)) (out_of q 7 h (omega arith) (omega arith))
          ∙ one.others q (out_of q 5 h (omega arith) (omega arith)) (out_of q 7 h (omega arith) (omega arith))
          ∙ p.others q (out_of q 6 h (omega arith) (omega arith)) (out_of q 7 h (omega arith) (omega arith));
      bounded = λ all. two.bounded (one.bounded (p.bounded all));
      ready = two.ready;
    }

module _ (program : LineProgram) (l : Located) (Fact : (number line register : ℕ) → Place → Type 0) (first : List Block)
    (good : IsGood program l Fact) where
  -- where no number is left, the machine comes to the branch, and waits there
  over :
      (a : Activation) (line : ℕ) (rs : Registers) (callers : List Caller) (z : MidState) (m : Moment) (C more : List Instr) (rb b : ℕ)
      → (r : Runs program l Fact first a line rs callers z m) → Raised r.words m.state.registers C rb b 0
      → Stands l r.words (l.line_at a.procedure line) (C ++ Beq 5 0 0 ∷ more) → (m' : Moment) × Comes (length C) m m' × WaitsForEver (charged 26 z) m'
  over a line rs callers z m C more rb b r p stands =
      let at = l.line_at a.procedure line in
      let words = r.words in
      let small = r.machine.arena.words_small in
      let long : length (C ++ Beq 5 0 0 ∷ more) ≡ length C + suc (length more) = length-append C (Beq 5 0 0 ∷ more) in
      let low : at + length C < 2 ^ 25 = omega (arith, stands.to, good.low, long) in
      let o = later (length C) (beside m) in
      let m' = moment (state_at (at + length C) p.registers' words) o in (
        m',
        subst (λ y. Comes (length C) y m') (sym (same_moment m at words r.pc r.machine.memory))
            (p.sets.by at (beside m) (has_front words at C (Beq 5 0 0 ∷ more) stands.has) low),
        waits words p.registers' (at + length C) o (charged 26 z) more (has_back words at C (Beq 5 0 0 ∷ more) stands.has) (small (at + length C)) low p.five_is
            p.ready.zero_is r.machine.printed,
      )

  -- the machine with a word stored where it is lent
  drawn_machine :
      (z : MidState) (words : List ℕ) (m : Moment) (place w : ℕ) (registers' : List ℕ) (i : ℕ) (o : Beside) → Machine program l Fact first z words m
      → is_lent z.arena (4 * (place / 4)) ≡ true → place / 4 < length words → w < 2 ^ 32 → Ready registers' → AreSmall registers'
      → slice_index registers' 2 ≡ slice_index m.state.registers 2 → slice_index registers' 3 ≡ slice_index m.state.registers 3 → o.printed ≡ m.printed → o.input ≡ m.input
      → Machine program l Fact first (with_arena (with_word place w z.arena) z) (slice_set words (place / 4) w) (moment (state_at i registers' (slice_set words (place / 4) w)) o)
  drawn_machine z words m place w registers' i o r lent inside small ready bounded stack heap printed input =
      let k = place / 4 in
      let f = r.form in
      let size : length (slice_set z.arena.memory k (Some w)) ≡ length z.arena.memory = length-set z.arena.memory k (Some w) in
      let where_is = lent_where z.arena k f lent in
      let has = arena_stored z.arena words place w r.arena inside small in
      record {
        memory = refl;
        arena = record { long = has.long; words_small = has.words_small; lent = has.lent };
        code = program_kept program l words (slice_set words k w) (length-set words k w)
            (λ j low high. get_or-set_other words k j w 0 (λ e. elim where_is [ inl h ↦ omega (arith, h, low, e, r.apart.laid_below, r.apart.arguments_below) | inr h ↦ omega (arith, h, high, e, r.apart.heap_above) ])) r.code;
        apart = record { laid_below = r.apart.laid_below; arguments_below = r.apart.arguments_below; heap_above = r.apart.heap_above };
        form = record {
          small = omega (arith, size, f.small);
          fits = omega (arith, size, f.fits);
          heap = f.heap;
          grown = f.grown;
          below = omega (arith, size, f.below);
          laid = f.laid;
        };
        long = ready.long;
        zero_is = ready.zero_is;
        registers_small = bounded;
        stack = omega (arith, stack, r.stack, size);
        heap = heap ∙ r.heap;
        printed = printed ∙ r.printed;
        input = input ∙ r.input;
        input_small = r.input_small;
      }

  -- the word with one added is stored, and comes to its place
  drawn :
      (a : Activation) (line to : ℕ) (rs : Registers) (callers : List Caller) (z : MidState) (m : Moment) (C : List Instr) (rb b off place w : ℕ) (reads : List ℕ)
      → (st : StageStands program first (running a line rs callers z)) → (r : Runs program l Fact first a line rs callers z m)
      → Raised r.words m.state.registers C rb b (w + 1) → w + 1 < 2 ^ 32 → Computes l Fact a.procedure line to reads
      → ((words : List ℕ) → HasProgram program l words → Stands l words (l.line_at a.procedure line) (C ++ Sw 5 rb off ∷ move_code (way_at l a.procedure line) (InRegister 5) (l.target a.procedure line)))
      → l.line_at a.procedure (line + 1) ≡ l.line_at a.procedure line + length (C ++ Sw 5 rb off ∷ move_code (way_at l a.procedure line) (InRegister 5) (l.target a.procedure line))
      → sum32 b (sign_extended 12 off) ≡ 4 * (place / 4) → is_lent z.arena (4 * (place / 4)) ≡ true → place / 4 < length r.words
      → Given program l Fact first a (line + 1) (slice_set rs to (Some (w + 1))) callers (charged 26 (with_arena (with_word place (w + 1) z.arena) z)) m
      (length C + 1 + length (move_code (way_at l a.procedure line) (InRegister 5) (l.target a.procedure line)))
  drawn a line to rs callers z m C rb b off place w reads st r p fits g stands_in behind reached lent inside =
      let k = place / 4 in
      let at = l.line_at a.procedure line in
      let words = r.words in
      let h = r.machine in
      let stands = stands_in words h.code in
      let words' = slice_set words k (w + 1) in
      let size = length z.arena.memory in
      let z1 = with_arena (with_word place (w + 1) z.arena) z in
      let target = l.target a.procedure line in
      let known = l.records a.procedure line in
      let M = move_code (way_at l a.procedure line) (InRegister 5) target in
      let ins = Sw 5 rb off in
      let long : length (C ++ ins ∷ M) ≡ length C + suc (length M) = length-append C (ins ∷ M) in
      let here = state_at (at + length C) p.registers' words in
      let at' = at + length C + 1 in
      let pc : sum32 (4 * (at + length C)) 4 ≡ 4 * at' = next_place (at + length C) (omega (arith, stands.to, good.low, long)) in
      let does : execute ins here ≡ goes_to (state_at at' p.registers' words') =
      ap (λ y. store (stored_at 4 (sum32 y (sign_extended 12 off)) (slice_index p.registers' 5) (bytes_of words)) here) p.base_is
      ∙ ap (λ y. store (stored_at 4 y (slice_index p.registers' 5) (bytes_of words)) here) reached
      ∙ ap (λ y. store (stored_at 4 (4 * k) y (bytes_of words)) here) p.five_is
      ∙ ap (λ y. store y here) (word_stored words k (w + 1) inside)
      ∙ ap (λ y. goes_to (record { pc = y; registers = p.registers'; memory = bytes_of words' })) pc in
      let comes = and_one m at words p.registers' C M ins (state_at at' p.registers' words') h.arena.words_small r.pc h.memory p.sets stands.has (omega (arith, stands.to, good.low, long)) does in
      let o = later 1 (later (length C) (beside m)) in
      let m' = moment (state_at at' p.registers' words') o in
      let same : SamePrivate size z.arena.blocks words words' = λ j q. get_or-set_other words k j (w + 1) 0 (λ e. lent_apart z.arena k h.form lent (subst (λ n. IsPrivate size z.arena.blocks n) e q)) in
      let machine = drawn_machine z words m place (w + 1) p.registers' at' o h lent inside fits p.ready (p.bounded h.registers_small) (p.others 2 (inl (omega arith))) (p.others 3 (inl (omega arith))) refl refl in
      let kept = all_kept program l Fact first good a z.arena words words' st.0 same in
      let same_size = length-set z.arena.memory k (Some (w + 1)) in
      let p2 = point_on program l Fact first good a at at' known callers z z1 m m' words' st (point_of program l Fact first good a line rs callers z m r) kept same_size machine refl in
      let t = taken program l Fact first good a at' known (line + 1) (w + 1) 5 target (slice_set rs to (Some (w + 1))) callers z1 26 m' st p2
      (good.targets a.procedure line) g.somewhere (λ e. omega (arith, e)) fits p.five_is
      (record { from = omega (arith, stands.from); to = omega (arith, stands.to, long); has = (has_back words' at C (ins ∷ M) (stands_in words' machine.code).has).3 })
      (omega (arith, behind, long))
      (arrive_on program l Fact first good a z z1 m.state.registers p.registers' words words' (line + 1) (w + 1) (slice_set rs to (Some (w + 1))) target same_size
      (λ q high n10 n11 n17. p.others q (inr high)) (λ j low. same _ (on_blocks program size a z.arena.blocks j st.0 low))
      (arrives program l Fact first good a line (line + 1) to (w + 1) rs z m.state.registers words g.gives.flows r.there))
      (λ e. p.others 1 (inl (omega arith)) ∙ r.links.linked (g.gives.linked e)) g.gives.records in
      record { moment' = t.moment'; comes = and_on {m'' = t.moment'} comes t.comes; runs = t.runs }

module _ (program : LineProgram) (l : Located) (Fact : (number line register : ℕ) → Place → Type 0) (first : List Block)
    (checked : is_checked_line_program program ≡ true) (good : IsGood program l Fact) where
  offset_fits : (number line to base : ℕ) (offset : ℤ) → line_of program number line ≡ Some (Do (Draw to base offset)) → is_offset offset ≡ true
  offset_fits number line to base offset e =
      let i = line_is program number line (Do (Draw to base offset)) checked e in
      let c = i.procedure.registers in
      back_true (is_register c to && is_register c base) (is_offset offset) (line_in_form program number line (Do (Draw to base offset)) i)

  module _ (a : Activation) (line to v : ℕ) (offset : ℤ) (rs : Registers) (callers : List Caller) (z : MidState) (m : Moment)
      (e : line_of program a.procedure line ≡ Some (Do (Draw to v offset))) (r : Relates program l Fact first (running a line rs callers z) m) where
    abbrev p : Place
    p = l.source a.procedure line v

    abbrev way : Way
    way = way_at l a.procedure line

    abbrev A : List Instr
    A = read_code way 6 p

    abbrev rb : ℕ
    rb = read_in 6 p

    abbrev off : ℕ
    off = low_12 offset

    abbrev M : List Instr
    M = move_code way (InRegister 5) (l.target a.procedure line)

    -- where the address leads to
    reaches : (b w : ℕ) → register v rs ≡ Some b → word_at z.arena (address b offset) ≡ Some w → sum32 b (sign_extended 12 off) ≡ 4 * (address b offset / 4)
    reaches b w h k =
        let fact = (good.lines a.procedure line (Do (Draw to v offset)) e).gives.reads.0 in
        let ws = r.1.machine.arena.words_small in
        let base_small = place_small m.state.registers r.1.words _ _ p b r.1.machine.registers_small ws (good.sources a.procedure line v fact) (r.1.there v p b fact h) in
        address_same b offset base_small (offset_fits a.procedure line to v offset e) ∙ (word_there z.arena r.1.words (address b offset) w r.1.machine.arena k).place

    -- the word there, with one added, comes into register 5
    rises :
        (b w sum : ℕ) (behind : List Instr) → register v rs ≡ Some b → word_at z.arena (address b offset) ≡ Some w → sum32 w (sign_extended 12 1) ≡ sum → sum < 2 ^ 32
        → ((registers' : List ℕ) → slice_index registers' 5 ≡ sum → slice_index registers' 0 ≡ 0 → Sets r.1.words behind registers' registers')
        → Raised r.1.words m.state.registers (A ++ Lw 5 rb off ∷ Addi 5 5 1 ∷ behind) rb b sum
    rises b w sum behind h k added fits still =
        let fact = (good.lines a.procedure line (Do (Draw to v offset)) e).gives.reads.0 in
        let words = r.1.words in
        let ws = r.1.machine.arena.words_small in
        let regs = m.state.registers in
        let ready : Ready regs = record { long = r.1.machine.long; zero_is = r.1.machine.zero_is } in
        let f = frame_is program l Fact first good a (l.line_at a.procedure line) (l.records a.procedure line) callers z m r.0.0 (point_of program l Fact first good a line rs callers z m r.1) in
        let ok = good.sources a.procedure line v fact in
        let there = word_there z.arena words (address b offset) w r.1.machine.arena k in
        let one = read words regs way _ _ 6 p b ws ready f ok (omega arith) (omega arith) (r.1.there v p b fact h) in
        raised words regs A behind rb b w sum off (address b offset / 4) ws (read_elsewhere _ p ok) one (reaches b w h k) there.within there.is_word added fits still

    pub draw_follows : Follows program l Fact first (running a line rs callers z) m
    unfolding exec_step with_some choose_by proceed
    draw_follows = by (register v rs) refl
      where
        light : weight program (running a line rs callers z) ≡ 0
        light = weighs program l Fact first good a line rs callers z (Do (Draw to v offset)) e

        start : (x : Option ℕ) → register v rs ≡ x
            → next program (running a line rs callers z) ≡ proceed program a (line + 1) callers (with_some x (λ b. draw to (address b offset)) rs (charged 26 z))
        start x h =
            at_line program l Fact first good a line rs callers z (Do (Draw to v offset)) e
            ∙ ap (λ u. proceed program a (line + 1) callers (with_some u (λ b. draw to (address b offset)) rs (charged 26 z))) h

        found : (b : ℕ) (x : Option ℕ) → register v rs ≡ Some b → word_at z.arena (address b offset) ≡ x
            → next program (running a line rs callers z)
            ≡ proceed program a (line + 1) callers (with_some x (λ word. choose_by (word == 2 ^ 32 - 1) (ends exhausted) (store_word (address b offset) (word + 1) (gives_word to (word + 1)))) rs (charged 26 z))
        found b x h k =
            start (Some b) h
            ∙ ap (λ u. proceed program a (line + 1) callers (with_some u (λ word. choose_by (word == 2 ^ 32 - 1) (ends exhausted) (store_word (address b offset) (word + 1) (gives_word to (word + 1)))) rs (charged 26 z))) k

        chosen : (b w : ℕ) (t : Bool) → register v rs ≡ Some b → word_at z.arena (address b offset) ≡ Some w → (w == 2 ^ 32 - 1) ≡ t
            → next program (running a line rs callers z)
            ≡ proceed program a (line + 1) callers (choose_by t (ends exhausted) (store_word (address b offset) (w + 1) (gives_word to (w + 1))) rs (charged 26 z))
        chosen b w t h k q =
            found b (Some w) h k
            ∙ ap (λ u. proceed program a (line + 1) callers (choose_by u (ends exhausted) (store_word (address b offset) (w + 1) (gives_word to (w + 1))) rs (charged 26 z))) q

        goes : (b w : ℕ) → register v rs ≡ Some b → word_at z.arena (address b offset) ≡ Some w → (w == 2 ^ 32 - 1) ≡ false → is_lent z.arena (address b offset) ≡ true
            → next program (running a line rs callers z) ≡ running a (line + 1) (slice_set rs to (Some (w + 1))) callers (with_arena (with_word (address b offset) (w + 1) z.arena) (charged 26 z))
        goes b w h k q lent =
            chosen b w false h k q
            ∙ ap (λ u. proceed program a (line + 1) callers (choose_by u (λ rs' y. gives_word to (w + 1) rs' (with_arena (with_word (address b offset) (w + 1) y.arena) y)) (ends stuck) rs (charged 26 z))) lent

        with_word_there : (b w : ℕ) → register v rs ≡ Some b → word_at z.arena (address b offset) ≡ Some w → (t : Bool) → (w == 2 ^ 32 - 1) ≡ t → Follows program l Fact first (running a line rs callers z) m
        with_word_there b w h k true q =
            let words = r.1.words in
            let all = last w q in
            let c = rises b w 0 [] h k (omega (arith, all)) (omega arith) (λ registers' five none. sets_none words registers') in
            let C = A ++ Lw 5 rb off ∷ Addi 5 5 1 ∷ [] in
            let same = append_assoc A (Lw 5 rb off ∷ Addi 5 5 1 ∷ []) (Beq 5 0 0 ∷ Sw 5 rb off ∷ M) in
            let t = over program l Fact first good a line rs callers z m C (Sw 5 rb off ∷ M) rb b r.1 c
            (subst (λ x. Stands l words (l.line_at a.procedure line) x) (sym same) (r.1.machine.code.lines a.procedure line (Do (Draw to v offset)) e)) in
            let n1 = read_length way 6 p in
            let n2 : length C ≡ length A + 2 = length-append A (Lw 5 rb off ∷ Addi 5 5 1 ∷ []) in
            let goes_over = chosen b w true h k q in
            record {
              count = length C;
              moment = t.0;
              comes = t.1;
              relates = subst (λ y. Relates program l Fact first y t.0) (sym goes_over) t.2;
              cheap = subst (λ y. length C + z.cost ≤ (state_of y).cost) (sym goes_over) (omega (arith, n1, n2));
              heavy = λ u. omega (arith, light);
            }
        with_word_there b w h k false q =
            let g = good.lines a.procedure line (Do (Draw to v offset)) e in
            let words = r.1.words in
            let ws = r.1.machine.arena.words_small in
            let there = word_there z.arena words (address b offset) w r.1.machine.arena k in
            let place = address b offset in
            let small : w < 2 ^ 32 = let s = ws (place / 4) in omega (arith, s, there.is_word) in
            let fits : w + 1 < 2 ^ 32 = below w small q in
            let c = rises b w (w + 1) (Beq 5 0 0 ∷ []) h k (omega (arith, fits)) fits
            (λ registers' five none. passes words registers' ws (not_none w (slice_index registers' 5) (slice_index registers' 0) five none)) in
            let C = A ++ Lw 5 rb off ∷ Addi 5 5 1 ∷ Beq 5 0 0 ∷ [] in
            let same = append_assoc A (Lw 5 rb off ∷ Addi 5 5 1 ∷ Beq 5 0 0 ∷ []) (Sw 5 rb off ∷ M) in
            let lent = there.lent in
            let lent_there = subst (λ x. is_lent z.arena x ≡ true) (sym there.place) lent in
            let t = drawn program l Fact first good a line to rs callers z m C rb b off place w (v ∷ []) r.0 r.1 c fits g
            (λ words1 code. subst (λ x. Stands l words1 (l.line_at a.procedure line) x) (sym same) (code.lines a.procedure line (Do (Draw to v offset)) e))
            (next_line program l Fact first good a.procedure line (Do (Draw to v offset)) e refl ∙ ap (λ x. l.line_at a.procedure line + length x) (sym same))
            (reaches b w h k) lent there.within in
            let n1 = read_length way 6 p in
            let n2 = move_from_register way 5 (l.target a.procedure line) in
            let n3 : length C ≡ length A + 3 = length-append A (Lw 5 rb off ∷ Addi 5 5 1 ∷ Beq 5 0 0 ∷ []) in
            record {
              count = length C + 1 + length M;
              moment = t.moment';
              comes = t.comes;
              relates = subst (λ y. Relates program l Fact first y t.moment') (sym (goes b w h k q lent_there)) (r.0, t.runs);
              cheap = subst (λ y. length C + 1 + length M + z.cost ≤ (state_of y).cost) (sym (goes b w h k q lent_there)) (omega (arith, n1, n2, n3));
              heavy = λ u. omega (arith, light);
            }

        with_base : (b : ℕ) → register v rs ≡ Some b → (x : Option ℕ) → word_at z.arena (address b offset) ≡ x → Follows program l Fact first (running a line rs callers z) m
        with_base b h None k = nothing program l Fact first good (running a line rs callers z) m (charged 26 z) (found b None h k) (omega arith)
        with_base b h (Some w) k = with_word_there b w h k (w == 2 ^ 32 - 1) refl

        by : (x : Option ℕ) → register v rs ≡ x → Follows program l Fact first (running a line rs callers z) m
        by None h = nothing program l Fact first good (running a line rs callers z) m (charged 26 z) (start None h) (omega arith)
        by (Some b) h = with_base b h (word_at z.arena (address b offset)) refl
