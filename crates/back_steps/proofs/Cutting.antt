-- The steps of cuts: the machine goes to the landing of the record, with the stack pointer at its block.
use Rattle.std.proofs.Common.{inl, inr, ◌≡◌, ℕ, ◌+◌, ◌-◌, ◌*◌, ◌^◌, ◌<◌, ◌≤◌, List, [], ◌∷◌, ◌++◌, length, refl, sym, ap, subst, ◌∙◌, arith, Some, None, length-append, append_assoc}
use Rattle.std.specs.Prelude.{Option, slice_index}
use Rattle.base.specs.Arithmetic.{sum32}
use Rattle.rv_encode.specs.declared.instruction.Instr.{Instr}
use Rattle.rv_encode.specs.declared.instruction.Instr.TheVariants.{Addi, Lw, Jalr}
use Rattle.rv_machine.specs.Memory.{bytes_of, number_at}
use Rattle.rv_machine.specs.Words.{word_read}
use Rattle.rv_machine.specs.Arithmetic.{sign_extended, even}
use Rattle.rv_machine.specs.Step.{next as goes_to, gives, load}
use Rattle.rv_machine.specs.Run.{Moment}
use Rattle.mid_code.specs.Arena.{Block, header_words, words_of, lent_from, blocks_from, outside_of, with_blocks}
use Rattle.mid_code.specs.State.{Registers, MidState, charged, register, with_arena, with_some, with_register, ends, cuts}
use Rattle.mid_code.specs.Meaning.{cut, exec_step}
use Rattle.mid_lines.proofs.Stacking.{next_stands}
use Rattle.mid_lines.specs.declared.line.Line.TheVariants.{Cut}
use Rattle.mid_lines.specs.declared.line.LineProgram.{LineProgram}
use Rattle.mid_lines.specs.Lines.{line_of}
use Rattle.mid_lines.specs.LineMeaning.{Standing, Activation, Caller, Stage, running, closed, next, proceed, state_of, cut_from}
use Rattle.mid_lines.specs.StackLaw.{record_block, frame_of, blocks_of, StandsOn, StageStands}
use Rattle.back_places.specs.declared.place.Place.{Place}
use Rattle.back_places.specs.Places.{Located, way_at}
use Rattle.back_places.specs.Operands.{load_into}
use Rattle.back_places.specs.LineCode.{cut_code, taken_code}
use Rattle.back_places.specs.Good.{IsGood}
use Rattle.back_places.specs.Relation.{Stands, base_of, HeadHolds, HeadsHold, Machine, Runs, Relates}
use Rattle.back_places.specs.StepLaw.{Comes, Follows}
use Rattle.back_emission.specs.Moments.{state_at, later, moment, beside, AreSmall, Sets, Ready}
use Rattle.back_emission.proofs.Coming.{sets_on, and_one, and_on}
use Rattle.back_emission.proofs.Parts.{small_extended, high_extended}
use Rattle.back_emission.proofs.Operands.{prepared_one, loaded, frame_still, past_scratch}
use Rattle.back_emission.proofs.JumpSteps.{jumped_to}
use Rattle.back_emission.proofs.Lengths.{load_length, move_from_register}
use Rattle.back_emission.proofs.Going.{point_of}
use Rattle.back_emission.proofs.Moving.{place_small, frame_is}
use Rattle.back_emission.proofs.Ends.{into}
use Rattle.back_emission.proofs.Leaving.{machine_left, fewer_words}
use Rattle.back_emission.proofs.Steps.{nothing, at_line, weighs}
use Rattle.back_steps.proofs.Seeking.{CutPart, cut_part, Lands, cut_comes}
use Rattle.back_steps.proofs.Receiving.{Receiver, machine_closed, heads_from, runs_receives, callers_receive, received}

-- from the first lent word of a record down to its header, as the offset of an instruction
abbrev pub to_header : ℕ
to_header = 2 ^ 12 - 4 * header_words

-- both words of a cut, into registers 5 and 12
abbrev pub taken_words : (l : Located) (number line block word : ℕ) → List Instr
taken_words l number line block word =
    load_into (way_at l number line) 5 (l.source number line block) ++ load_into (way_at l number line) 12 (l.source number line word)

-- the code of a cut before its jump
abbrev pub before_jump : (l : Located) (number line block word : ℕ) → List Instr
before_jump l number line block word = taken_words l number line block word ++ (Addi 2 5 to_header ∷ Lw 5 2 0 ∷ [])

cut_parts : (l : Located) (number line block word : ℕ) → cut_code l number line block word ≡ before_jump l number line block word ++ Jalr 0 5 0 ∷ []
cut_parts l number line block word =
    let A = load_into (way_at l number line) 5 (l.source number line block) in
    let B = load_into (way_at l number line) 12 (l.source number line word) in
    sym (append_assoc A B (Addi 2 5 to_header ∷ Lw 5 2 0 ∷ Jalr 0 5 0 ∷ []))
    ∙ sym (append_assoc (A ++ B) (Addi 2 5 to_header ∷ Lw 5 2 0 ∷ []) (Jalr 0 5 0 ∷ []))

before_length : (l : Located) (number line block word : ℕ) → length (before_jump l number line block word) ≤ 8
before_length l number line block word =
    let A = load_into (way_at l number line) 5 (l.source number line block) in
    let B = load_into (way_at l number line) 12 (l.source number line word) in
    omega (
      arith,
      load_length (way_at l number line) 5 (l.source number line block),
      load_length (way_at l number line) 12 (l.source number line word),
      length-append A B,
      length-append (A ++ B) (Addi 2 5 to_header ∷ Lw 5 2 0 ∷ []),
    )

-- two words below an address
two_below : (b at : ℕ) → b ≡ 4 * at + 4 * header_words → at < 2 ^ 24 → sum32 b (sign_extended 12 to_header) ≡ 4 * at
two_below b at e low = ap (λ k. sum32 b k) (high_extended to_header (omega arith) (omega arith)) ∙ omega (arith, e, low)

no_offset : (r at : ℕ) → r ≡ 4 * at → at < 2 ^ 24 → sum32 r (sign_extended 12 0) ≡ 4 * at
no_offset r at e low = ap (λ k. sum32 r k) (small_extended 0 (omega arith)) ∙ omega (arith, e, low)

-- The registers before the jump of a cut: the stack pointer is at a word of the memory, and register 5 has that word. They come from those
-- at the line by way of those behind code that reads both words.
record AtBlock (words registers at_line : List ℕ) (code : List Instr) (at target w : ℕ) : Type 0 where
  registers' : List ℕ
  sets : Sets words (code ++ (Addi 2 5 to_header ∷ Lw 5 2 0 ∷ [])) at_line registers'
  ready : Ready registers'
  small : AreSmall registers'
  stack : slice_index registers' 2 ≡ 4 * at
  heap : slice_index registers' 3 ≡ slice_index registers 3
  target_is : slice_index registers' 5 ≡ target
  word : slice_index registers' 12 ≡ w

at_block :
    (words registers at_line : List ℕ) (code : List Instr) (b at target w : ℕ) → AreSmall words → Ready registers → AreSmall registers
    → Sets words code at_line registers → slice_index registers 5 ≡ b → slice_index registers 12 ≡ w
    → b ≡ 4 * at + 4 * header_words → at < 2 ^ 24 → at < length words → slice_index words at ≡ target
    → AtBlock words registers at_line code at target w
at_block words registers at_line code b at target w small ready bounded sets five twelve e low inside head =
    let v : sum32 (slice_index registers 5) (sign_extended 12 to_header) ≡ 4 * at = two_below (slice_index registers 5) at (five ∙ e) low in
    let one = prepared_one words registers (Addi 2 5 to_header) 2 (4 * at) small ready (omega arith) (omega arith) (omega (arith, low)) (λ i. ap (λ k. gives 2 k (state_at i registers words)) v) in
    let there : sum32 (slice_index one.registers' 2) (sign_extended 12 0) ≡ 4 * at = no_offset (slice_index one.registers' 2) at one.holds low in
    let fits : target < 2 ^ 32 = let s = small at in omega (arith, s, head) in
    let two = prepared_one words one.registers' (Lw 5 2 0) 5 target small one.ready (omega arith) (omega arith) fits
    (λ i. ap (λ k. load 5 (number_at 4 k (bytes_of words)) (state_at i one.registers' words)) there
    ∙ ap (λ k. load 5 k (state_at i one.registers' words)) (word_read words at inside (small at) ∙ ap Some head)) in
    record {
      registers' = two.registers';
      sets = sets_on {r'' = two.registers'} sets (sets_on {r'' = two.registers'} one.sets two.sets);
      ready = two.ready;
      small = two.bounded (one.bounded bounded);
      stack = two.others 2 (λ k. omega (arith, k)) (λ k. omega (arith, k)) ∙ one.holds;
      heap = two.others 3 (λ k. omega (arith, k)) (λ k. omega (arith, k)) ∙ one.others 3 (λ k. omega (arith, k)) (λ k. omega (arith, k));
      target_is = two.holds;
      word = two.others 12 (λ k. omega (arith, k)) (λ k. omega (arith, k)) ∙ one.others 12 (λ k. omega (arith, k)) (λ k. omega (arith, k)) ∙ twelve;
    }

module _ (program : LineProgram) (l : Located) (Fact : (number line register : ℕ) → Place → Type 0) (first : List Block)
    (good : IsGood program l Fact) where
  -- both words are in their registers
  record Taken (a : Activation) (line block word b w : ℕ) (words registers : List ℕ) : Type 0 where
    registers' : List ℕ
    sets : Sets words (taken_words l a.procedure line block word) registers registers'
    ready : Ready registers'
    small : AreSmall registers'
    block_is : slice_index registers' 5 ≡ b
    word_is : slice_index registers' 12 ≡ w
    heap : slice_index registers' 3 ≡ slice_index registers 3

  taken :
      (a : Activation) (line block word b w : ℕ) (rs : Registers) (callers : List Caller) (z : MidState) (m : Moment)
      → StandsOn program a z.arena.blocks → (r : Runs program l Fact first a line rs callers z m)
      → Fact a.procedure line block (l.source a.procedure line block) → Fact a.procedure line word (l.source a.procedure line word)
      → register block rs ≡ Some b → register word rs ≡ Some w → Taken a line block word b w r.words m.state.registers
  taken a line block word b w rs callers z m st r fb fw hb hw =
      let words = r.words in
      let small = r.machine.arena.words_small in
      let regs = m.state.registers in
      let way = way_at l a.procedure line in
      let frame = (frame_of program a.procedure).words in
      let base = base_of program (length z.arena.memory) a in
      let f = frame_is program l Fact first good a (l.line_at a.procedure line) (l.records a.procedure line) callers z m st (point_of program l Fact first good a line rs callers z m r) in
      let pw = l.source a.procedure line word in
      let ok = good.sources a.procedure line word fw in
      let tw = r.there word pw w fw hw in
      let sw = place_small regs words base _ pw w r.machine.registers_small small ok tw in
      let p1 = into program l Fact first good a line block b 5 rs callers z m st r fb hb (omega arith) (omega arith) (λ k. omega (arith, k)) in
      let f1 = frame_still regs p1.registers' words way base frame (p1.others 2 (λ k. omega (arith, k)) (λ k. omega (arith, k))) f in
      let tw1 = past_scratch regs p1.registers' words base _ 5 pw w (omega arith) p1.others ok tw in
      let p2 = loaded words p1.registers' way base frame 12 pw w small p1.ready sw f1 ok (omega arith) (omega arith) (λ k. omega (arith, k)) tw1 in
      record {
        registers' = p2.registers';
        sets = sets_on p1.sets p2.sets;
        ready = p2.ready;
        small = p2.bounded (p1.bounded r.machine.registers_small);
        block_is = p2.others 5 (λ k. omega (arith, k)) (λ k. omega (arith, k)) ∙ p1.holds;
        word_is = p2.holds;
        heap = p2.others 3 (λ k. omega (arith, k)) (λ k. omega (arith, k)) ∙ p1.others 3 (λ k. omega (arith, k)) (λ k. omega (arith, k));
      }

  -- what holds of the machine when it has cut: its blocks are those from a record on, and the program counter is at the landing
  record HasCut (z : MidState) (bs : List Block) (w position : ℕ) (words : List ℕ) (m m' : Moment) (count : ℕ) : Type 0 where
    comes : Comes count m m'
    machine : Machine program l Fact first (with_arena (with_blocks bs z.arena) z) words m'
    pc : m'.state.pc ≡ 4 * position
    word : slice_index m'.state.registers 12 ≡ w

  cuts_to :
      (a : Activation) (line block word b w : ℕ) (rs : Registers) (callers : List Caller) (z : MidState) (m : Moment) (inner bs : List Block) (position : ℕ)
      → StandsOn program a z.arena.blocks → (r : Runs program l Fact first a line rs callers z m) → line_of program a.procedure line ≡ Some (Cut block word)
      → register block rs ≡ Some b → register word rs ≡ Some w
      → z.arena.blocks ≡ inner ++ bs → b ≡ 4 * (length z.arena.memory - words_of bs) + 4 * header_words → 0 < words_of bs
      → slice_index r.words (length z.arena.memory - words_of bs) ≡ 4 * position → position < 2 ^ 24
      → (m' : Moment) × HasCut z bs w position r.words m m' (length (before_jump l a.procedure line block word) + 1)
  cuts_to a line block word b w rs callers z m inner bs position st r e hb hw parts begins some head low =
      let g = good.lines a.procedure line (Cut block word) e in
      let words = r.words in
      let size = length z.arena.memory in
      let at = size - words_of bs in
      let t = taken a line block word b w rs callers z m st r g.reads.0 g.reads.1.0 hb hw in
      let fewer : words_of bs ≤ words_of z.arena.blocks = subst (λ k. words_of bs ≤ words_of k) (sym parts) (fewer_words inner bs) in
      let inside : at < length words = omega (arith, r.machine.arena.long, some, fewer, r.machine.form.fits) in
      let s = at_block words t.registers' m.state.registers (taken_words l a.procedure line block word) b at (4 * position) w r.machine.arena.words_small t.ready t.small t.sets t.block_is t.word_is
      begins (omega (arith, inside, r.machine.arena.long, r.machine.form.small)) inside head in
      let code = before_jump l a.procedure line block word in
      let stands = subst (λ k. Stands l words (l.line_at a.procedure line) k) (cut_parts l a.procedure line block word) (r.machine.code.lines a.procedure line (Cut block word) e) in
      let long : length (code ++ Jalr 0 5 0 ∷ []) ≡ length code + 1 = length-append code (Jalr 0 5 0 ∷ []) in
      let there = state_at position s.registers' words in
      let o = later 1 (later (length code) (beside m)) in
      let reaches : even (sum32 (slice_index s.registers' 5) (sign_extended 12 0)) ≡ 4 * position = jumped_to (slice_index s.registers' 5) position (omega (arith, low)) s.target_is in (
        moment there o,
        record {
          comes = and_one m (l.line_at a.procedure line) words s.registers' code [] (Jalr 0 5 0) there r.machine.arena.words_small r.pc r.machine.memory s.sets stands.has
              (omega (arith, stands.to, good.low, long))
              (ap (λ x. goes_to (record { pc = x; registers = s.registers'; memory = bytes_of words })) reaches);
          machine = machine_left program l Fact first z words m (moment there o) inner bs parts r.machine (sym r.machine.memory) s.ready s.small s.stack (s.heap ∙ t.heap) refl refl;
          pc = refl;
          word = s.word;
        },
      )

  -- the head of a record that stands
  head_is :
      (words : List ℕ) (size : ℕ) (a : Activation) (before : List Standing) (s : Standing) (more : List Standing) (landing : ℕ)
      → HeadsHold program l Fact first words size a a.standing → a.standing ≡ before ++ s ∷ more → s.landing ≡ Some landing
      → slice_index words (size - words_of (record_block s ∷ blocks_of program a more)) ≡ 4 * l.line_at a.procedure landing
  head_is words size a before s more landing heads e el =
      let h = heads_from program l Fact first words size a before (s ∷ more) (subst (λ k. HeadsHold program l Fact first words size a k) e heads) in
      subst (λ k. HeadHolds program l Fact first words (size - words_of (record_block s ∷ blocks_of program a more)) (size - words_of (blocks_of program a more)) a.procedure k) el h.0

  -- the step, where the record was found
  lands_follows :
      (a : Activation) (line block word b w : ℕ) (rs : Registers) (callers : List Caller) (z : MidState) (m : Moment) (after : List Block) (s : Stage)
      → line_of program a.procedure line ≡ Some (Cut block word) → (r : Relates program l Fact first (running a line rs callers z) m)
      → register block rs ≡ Some b → register word rs ≡ Some w → CutPart (length z.arena.memory) b z.arena.blocks after
      → next program (running a line rs callers z) ≡ s
      → Lands program (Receiver program l Fact first (r.1).words (length z.arena.memory)) w (with_arena (with_blocks after z.arena) (charged 16 z)) s
      → Follows program l Fact first (running a line rs callers z) m
  lands_follows a line block word b w rs callers z m after s e r hb hw c goes x =
      let size = length z.arena.memory in
      let outer = blocks_of program x.a x.more in
      let bs = record_block x.found ∷ outer in
      let is : c.first ∷ c.outer ≡ bs = sym c.same ∙ x.blocks_are in
      let parts : z.arena.blocks ≡ c.inner ++ bs = c.parts ∙ ap (λ k. c.inner ++ k) is in
      let begins : b ≡ 4 * (size - words_of bs) + 4 * header_words = sym c.begins ∙ ap (λ k. lent_from size k) is in
      let head = head_is (r.1).words size x.a x.before x.found x.more x.landing x.receives.heads x.standing_is x.landing_is in
      let within = good.within x.a.procedure x.landing in
      let j = cuts_to a line block word b w rs callers z m c.inner bs (l.line_at x.a.procedure x.landing) r.0.0 r.1 e hb hw parts begins (omega arith) head (omega (arith, within, good.low)) in
      let z' = with_arena (with_blocks (record_block (closed x.found) ∷ outer) z.arena) z in
      let whole = goes ∙ x.stage_is in
      let st = subst (λ k. StageStands program first k) whole (next_stands program first (running a line rs callers z) r.0) in
      let machine = machine_closed program l Fact first z (r.1).words j.0 (x.found.words + header_words) x.found.is_open outer j.1.machine in
      let g = received program l Fact first good x.a x.rs x.callers z' w 16 (r.1).words j.0 x.before x.found x.more x.landing x.to x.receives x.standing_is x.landing_is x.is_landed st machine j.1.pc j.1.word in
      let few = before_length l a.procedure line block word in
      let n = move_from_register (way_at l x.a.procedure x.landing) 12 (l.target x.a.procedure x.landing) in
      let light = weighs program l Fact first good a line rs callers z (Cut block word) e in
      record {
        count = length (before_jump l a.procedure line block word) + 1 + length (taken_code l x.a.procedure x.landing);
        moment = g.moment';
        comes = and_on j.1.comes g.comes;
        relates = subst (λ t. Relates program l Fact first t g.moment') (sym whole) (st, g.runs);
        cheap = subst (λ t. length (before_jump l a.procedure line block word) + 1 + length (taken_code l x.a.procedure x.landing) + z.cost ≤ (state_of t).cost) (sym whole) (omega (arith, few, n));
        heavy = λ u. omega (arith, light);
      }

  pub cut_follows :
      (a : Activation) (line block word : ℕ) (rs : Registers) (callers : List Caller) (z : MidState) (m : Moment)
      → line_of program a.procedure line ≡ Some (Cut block word)
      → Relates program l Fact first (running a line rs callers z) m → Follows program l Fact first (running a line rs callers z) m
  unfolding exec_step with_some proceed
  cut_follows a line block word rs callers z m e r = by (register block rs) (register word rs) refl refl
    where
      start : (x : Option ℕ) → register block rs ≡ x
          → next program (running a line rs callers z)
          ≡ proceed program a (line + 1) callers (with_some x (λ b. with_register word (λ w. cut b w)) rs (charged 16 z))
      start x h =
          at_line program l Fact first good a line rs callers z (Cut block word) e
          ∙ ap (λ u. proceed program a (line + 1) callers (with_some u (λ b. with_register word (λ w. cut b w)) rs (charged 16 z))) h

      second : (b : ℕ) (x : Option ℕ) → register block rs ≡ Some b → register word rs ≡ x
          → next program (running a line rs callers z) ≡ proceed program a (line + 1) callers (with_some x (λ w. cut b w) rs (charged 16 z))
      second b x hb h = start (Some b) hb ∙ ap (λ u. proceed program a (line + 1) callers (with_some u (λ w. cut b w) rs (charged 16 z))) h

      third : (b w : ℕ) (x : Option (List Block)) → register block rs ≡ Some b → register word rs ≡ Some w → blocks_from (length z.arena.memory) z.arena.blocks b ≡ x
          → next program (running a line rs callers z)
          ≡ proceed program a (line + 1) callers (with_some x (λ bs rs' y. ends (cuts (outside_of bs) w) rs' (with_arena (with_blocks bs y.arena) y)) rs (charged 16 z))
      third b w x hb hw h =
          second b (Some w) hb hw
          ∙ ap (λ u. proceed program a (line + 1) callers (with_some u (λ bs rs' y. ends (cuts (outside_of bs) w) rs' (with_arena (with_blocks bs y.arena) y)) rs (charged 16 z))) h

      comes_to :
          (b w : ℕ) (after : List Block) → register block rs ≡ Some b → register word rs ≡ Some w → blocks_from (length z.arena.memory) z.arena.blocks b ≡ Some after
          → Follows program l Fact first (running a line rs callers z) m
      comes_to b w after hb hw h =
          let z1 = with_arena (with_blocks after z.arena) (charged 16 z) in
          let goes = third b w (Some after) hb hw h in
          let c = cut_part (length z.arena.memory) z.arena.blocks b after h in
          let g = good.lines a.procedure line (Cut block word) e in
          let found = cut_comes program (Receiver program l Fact first (r.1).words (length z.arena.memory)) first a rs callers z.arena.blocks after (length z.arena.memory) b w z1
          (runs_receives program l Fact first a line rs callers z m r.1 g.landings)
          (callers_receive program l Fact first good (r.1).words (length z.arena.memory) callers (r.1).link (r.1).waiting) r.0.0 r.0.1 c refl in
          elim found [
            | inl none ↦ nothing program l Fact first good (running a line rs callers z) m z1 (goes ∙ none) (omega arith)
            | inr x ↦ lands_follows a line block word b w rs callers z m after (cut_from program (outside_of after) w a rs callers z1) e r hb hw c goes x
          ]

      there : (b w : ℕ) (x : Option (List Block)) → register block rs ≡ Some b → register word rs ≡ Some w → blocks_from (length z.arena.memory) z.arena.blocks b ≡ x
          → Follows program l Fact first (running a line rs callers z) m
      there b w None hb hw h = nothing program l Fact first good (running a line rs callers z) m (charged 16 z) (third b w None hb hw h) (omega arith)
      there b w (Some after) hb hw h = comes_to b w after hb hw h

      by : (x y : Option ℕ) → register block rs ≡ x → register word rs ≡ y → Follows program l Fact first (running a line rs callers z) m
      by None y hx hy = nothing program l Fact first good (running a line rs callers z) m (charged 16 z) (start None hx) (omega arith)
      by (Some b) None hx hy = nothing program l Fact first good (running a line rs callers z) m (charged 16 z) (second b None hx hy) (omega arith)
      by (Some b) (Some w) hx hy = there b w (blocks_from (length z.arena.memory) z.arena.blocks b) hx hy refl
