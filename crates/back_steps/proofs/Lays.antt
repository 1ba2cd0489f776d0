-- The step of a line that lays a control record.
use Rattle.std.proofs.Common.{inl, inr, ◌≡◌, ◌≢◌, ℕ, suc, ◌+◌, ◌-◌, ◌*◌, ◌^◌, ◌<◌, ◌≤◌, Bool, true, false, ◌&&◌, List, [], ◌∷◌, ◌++◌, length, refl, sym, ap, subst, ◌∙◌, arith, Some, length-append}
use Rattle.std.specs.Prelude.{◌⊎◌, slice_index, slice_set, nat_le}
use Rattle.std.proofs.lemmas.Bool.Decides.{nat_tests}
use Rattle.std.proofs.lemmas.List.{get_or-set_same, get_or-set_other}
use Rattle.base.specs.Arithmetic.{sum32}
use Rattle.rv_encode.specs.declared.instruction.Instr.TheVariants.{Sw, Addi}
use Rattle.rv_machine.specs.Memory.{bytes_of, stored_at}
use Rattle.rv_machine.specs.Words.{word_stored}
use Rattle.rv_machine.specs.Arithmetic.{sign_extended}
use Rattle.rv_machine.specs.Step.{next as goes_to, execute, gives, store}
use Rattle.rv_machine.specs.Run.{Moment}
use Rattle.mid_code.specs.Arena.{Arena, Block, words_of, stack_from, lent_from, left, record_of, with_new_block}
use Rattle.mid_code.specs.Checked.{is_register, is_block_size}
use Rattle.mid_code.specs.State.{Registers, MidState, charged, with_arena, choose_by, ends, falls, no_room}
use Rattle.mid_lines.proofs.Conjunctions.{front_true, back_true}
use Rattle.mid_lines.specs.declared.line.Line.TheVariants.{Lay}
use Rattle.mid_lines.specs.declared.line.LineProgram.{LineProgram}
use Rattle.mid_lines.specs.Lines.{line_of}
use Rattle.mid_lines.specs.LinesChecked.{is_target, is_checked_line_program}
use Rattle.mid_lines.specs.LineMeaning.{Standing, Activation, Caller, running, with_standing, arrive, next, state_of}
use Rattle.mid_lines.specs.StackLaw.{StageStands}
use Rattle.back_places.specs.declared.place.Place.{Place}
use Rattle.back_places.specs.Places.{Located, way_at}
use Rattle.back_places.specs.Operands.{address_code, given_in, keep_code}
use Rattle.back_places.specs.Blocks.{room_code}
use Rattle.back_places.specs.LineCode.{lent_code}
use Rattle.back_places.specs.Good.{IsGood}
use Rattle.back_places.specs.Relation.{Runs, Relates}
use Rattle.back_places.specs.StepLaw.{Follows, weight}
use Rattle.back_places.proofs.LinesInForm.{line_is, line_in_form}
use Rattle.back_emission.specs.Moments.{state_at, later, moment, beside, AreSmall, Ready}
use Rattle.back_emission.specs.Arriving.{Given}
use Rattle.back_emission.proofs.Coming.{and_on, and_one, has_back, next_place}
use Rattle.back_emission.proofs.Operands.{prepared_one, parts_prepared}
use Rattle.back_emission.proofs.Lengths.{keep_length}
use Rattle.back_emission.proofs.Going.{point_of}
use Rattle.back_emission.proofs.Giving.{arrives}
use Rattle.back_emission.specs.Laying.{Asking, Lowered}
use Rattle.back_emission.proofs.Keeping.{Gave, given_is, kept}
use Rattle.back_emission.proofs.Ends.{holding}
use Rattle.back_emission.proofs.NewBlocks.{block_laid}
use Rattle.back_emission.proofs.Room.{room_there, room_gone}
use Rattle.back_emission.proofs.Steps.{at_line, weighs, next_line}
use Rattle.back_steps.proofs.Headers.{stands_on_more, head_stored, in_header, header_private, point_laid, arrives_laid}

-- the record that a line lays
abbrev laid_record : (outside words landing : ℕ) → Standing
laid_record outside words landing = record { outside = outside; words = words; landing = Some landing; is_open = true }

-- the address of the first lent word into a register
pub lent_address :
    (words registers : List ℕ) (to place w : ℕ) → AreSmall words → Ready registers → 4 < to → to < 32 → slice_index registers 2 ≡ 4 * place → place ≤ 2 ^ 24 → w ≡ 4 * place + 8
    → Gave words registers (Addi to 2 8 ∷ []) to w
lent_address words registers to place w small ready low high stack few is =
    let v : sum32 (slice_index registers 2) (sign_extended 12 8) ≡ w = ap (λ x. sum32 x (sign_extended 12 8)) stack ∙ omega (arith, few, is) in
    let p = prepared_one words registers (Addi to 2 8) to w small ready (omega (arith, low)) high (omega (arith, few, is)) (λ i. ap (λ x. gives to x (state_at i registers words)) v) in
    record {
      registers' = p.registers';
      sets = p.sets;
      holds = p.holds;
      others = λ q h ne. p.others q ne (out_of q h);
      bounded = p.bounded;
      ready = p.ready;
    }
  where
    out_of : (q : ℕ) → (q < 5) ⊎ (7 < q) → q ≢ 7
    out_of q h e = elim h [ inl k ↦ omega (arith, k, e) | inr k ↦ omega (arith, k, e) ]

module _ (program : LineProgram) (l : Located) (Fact : (number line register : ℕ) → Place → Type 0) (first : List Block)
    (checked : is_checked_line_program program ≡ true) (good : IsGood program l Fact) where
  words_fit : (number line block words landing : ℕ) → line_of program number line ≡ Some (Lay block words landing) → words < 2 ^ 24
  words_fit number line block words landing e =
      let i = line_is program number line (Lay block words landing) checked e in
      let lines = length i.procedure.lines in
      let rest = back_true (is_register i.procedure.registers block) (is_block_size words && is_target lines landing) (line_in_form program number line (Lay block words landing) i) in
      let fits = front_true (is_block_size words) (is_target lines landing) rest in
      grind (arith, nat_tests, fits)

  -- what is known before the block is laid
  asking :
      (a : Activation) (line block words landing : ℕ) (rs : Registers) (callers : List Caller) (z : MidState) (m : Moment)
      → line_of program a.procedure line ≡ Some (Lay block words landing) → (r : Runs program l Fact first a line rs callers z m)
      → Asking m (l.line_at a.procedure line) r.words (stack_from z.arena) z.arena.heap_to (words + 2)
  asking a line block words landing rs callers z m e r =
      let fits = words_fit a.procedure line block words landing e in
      record {
        pc = r.pc;
        memory = r.machine.memory;
        small = r.machine.arena.words_small;
        ready = record { long = r.machine.long; zero_is = r.machine.zero_is };
        bounded = r.machine.registers_small;
        stack = r.machine.stack;
        heap = r.machine.heap;
        grown = r.machine.form.below;
        low = omega (arith, r.machine.form.small);
        few = omega (arith, fits);
      }

  -- where there is room, from behind its test on
  laid :
      (a : Activation) (line block words landing : ℕ) (rs : Registers) (callers : List Caller) (z : MidState) (m : Moment)
      → (e : line_of program a.procedure line ≡ Some (Lay block words landing)) → (st : StageStands program first (running a line rs callers z)) → (r : Runs program l Fact first a line rs callers z m)
      → words + 2 ≤ left z.arena
      → Lowered m (l.line_at a.procedure line) r.words (stack_from z.arena) (words + 2) (length (room_code l.full_at (l.line_at a.procedure line) (words + 2)))
      → (count : ℕ) × (count ≤ 11) × Given program l Fact first (with_standing (laid_record (length z.arena.blocks) words landing ∷ a.standing) a) (line + 1)
      (slice_set rs block (Some (lent_from (length (with_new_block (record_of words) z.arena).memory) (record_of words ∷ z.arena.blocks)))) callers
      (charged 36 (with_arena (with_new_block (record_of words) z.arena) z)) m count
  laid a line block words landing rs callers z m e st r room low =
      let number = a.procedure in
      let x = Lay block words landing in
      let g = good.lines number line x e in
      let at = l.line_at number line in
      let size = length z.arena.memory in
      let new = laid_record (length z.arena.blocks) words landing in
      let z1 = with_arena (with_new_block (record_of words) z.arena) z in
      let R = room_code l.full_at at (words + 2) in
      let pos = l.line_at number landing in
      let A = address_code 5 pos in
      let target = l.target number line in
      let K = keep_code (way_at l number (line + 1)) target in
      let lent = Addi (given_in target) 2 8 ∷ K in
      let stands = r.machine.code.lines number line x e in
      let long : length (R ++ (A ++ (Sw 5 2 0 ∷ lent))) ≡ length R + suc (suc (suc (suc (length K)))) = length-append R (A ++ (Sw 5 2 0 ∷ lent)) in
      let at1 = at + length R in
      let form = r.machine.form in
      let sp = stack_from z.arena in
      let small = r.machine.arena.words_small in
      let header = in_header program l Fact first z new r.words m r.machine room in
      let place = size - (words + 2 + words_of z.arena.blocks) in
      let m1 = moment (state_at at1 low.registers' r.words) (later low.count (beside m)) in
      let other3 = low.others 3 (λ k. omega (arith, k)) (λ k. omega (arith, k)) in
      let down : sp - 4 * (words + 2) ≡ 4 * place = omega (arith, header.fits) in
      let stack1 : slice_index low.registers' 2 + 4 * (words + 2) ≡ slice_index m.state.registers 2 = omega (arith, low.stack, down, header.fits, r.machine.stack) in
      let M1 = block_laid program l Fact first z r.words (record_of words) m m1 r.machine room (sym r.machine.memory) low.ready low.bounded stack1 other3 refl refl in
      let reach : pos < 2 ^ 24 = let w = good.within number landing in let c = good.low in omega (arith, w, c) in
      let p = parts_prepared r.words low.registers' 5 (4 * pos) small low.ready (omega arith) (omega arith) (omega (arith, reach)) in
      let stack2 : slice_index p.registers' 2 ≡ 4 * place = p.others 2 (λ k. omega (arith, k)) (λ k. omega (arith, k)) ∙ low.stack ∙ down in
      let words' = slice_set r.words place (4 * pos) in
      let inside : place < length r.words = omega (arith, header.fits, header.high, r.machine.arena.long) in
      let at2 = at1 + 2 + 1 in
      let here = state_at (at1 + 2) p.registers' r.words in
      let reached : sum32 (slice_index p.registers' 2) (sign_extended 12 0) ≡ 4 * place = ap (λ y. sum32 y (sign_extended 12 0)) stack2 ∙ omega (arith, form.small) in
      let pc : sum32 (4 * (at1 + 2)) 4 ≡ 4 * at2 = next_place (at1 + 2) (omega (arith, stands.to, good.low, long)) in
      let does : execute (Sw 5 2 0) here ≡ goes_to (state_at at2 p.registers' words') =
      ap (λ y. store (stored_at 4 y (slice_index p.registers' 5) (bytes_of r.words)) here) reached
      ∙ ap (λ y. store (stored_at 4 (4 * place) y (bytes_of r.words)) here) p.holds
      ∙ ap (λ y. store y here) (word_stored r.words place (4 * pos) inside)
      ∙ ap (λ y. goes_to (record { pc = y; registers = p.registers'; memory = bytes_of words' })) pc in
      let has = has_back r.words at R (A ++ (Sw 5 2 0 ∷ lent)) stands.has in
      let comes = and_one m1 at1 r.words p.registers' A lent (Sw 5 2 0) (state_at at2 p.registers' words') small refl refl p.sets has (omega (arith, stands.to, good.low, long)) does in
      let o = later 1 (later 2 (beside m1)) in
      let m2 = moment (state_at at2 p.registers' words') o in
      let M2 = head_stored program l Fact first z1 r.words m1 (4 * pos) place o at2 p.registers' M1 (omega (arith, M1.stack, low.stack, down)) inside
      (header_private z.arena new place header) (omega (arith, reach)) p.ready (p.bounded low.bounded)
      (p.others 2 (λ k. omega (arith, k)) (λ k. omega (arith, k))) (p.others 3 (λ k. omega (arith, k)) (λ k. omega (arith, k))) refl refl in
      let same : (j : ℕ) → j ≢ place → slice_index words' j ≡ slice_index r.words j = λ j ne. get_or-set_other r.words place j (4 * pos) 0 ne in
      let point = point_laid program l Fact first good a at at2 (l.records number line) (l.records number (line + 1)) new callers z m m2 words' place st
      (point_of program l Fact first good a line rs callers z m r) g.records header same (get_or-set_same r.words place (4 * pos) 0 inside) M2 refl in
      let w = lent_from (length (with_new_block (record_of words) z.arena).memory) (record_of words ∷ z.arena.blocks) in
      let w_is : w ≡ 4 * place + 8 = omega (arith, M1.stack, low.stack, down) in
      let few : place ≤ 2 ^ 24 = omega (arith, form.small) in
      let is = given_is _ target (good.targets number line) g.somewhere in
      let c = lent_address words' p.registers' (given_in target) place w M2.arena.words_small p.ready is.0 is.1 stack2 few w_is in
      let stands2 = M2.code.lines number line x e in
      let has2 = has_back words' (at1) A (Sw 5 2 0 ∷ lent) (has_back words' at R (A ++ (Sw 5 2 0 ∷ lent)) stands2.has) in
      let behind = next_line program l Fact first good number line x e refl in
      let t = kept program l Fact first good (with_standing (new ∷ a.standing) a) at2 (l.records number (line + 1)) (line + 1) w target (slice_set rs block (Some w)) callers z1 36 m2 (Addi (given_in target) 2 8 ∷ [])
      (stands_on_more program a new z.arena.blocks st.0 refl, st.1) point (good.behind number line x e tt) g.somewhere (omega (arith, w_is, few)) c
      (record { from = omega (arith, stands.from); to = omega (arith, stands.to, long); has = has2.3 }) (omega (arith, behind, long))
      (arrives_laid program l Fact first good a new z m.state.registers p.registers' r.words words' place (line + 1) w (slice_set rs block (Some w)) target st.0 header
      (λ q high n10. p.others q (λ k. omega (arith, high, k)) (λ k. omega (arith, high, k)) ∙ low.others q (λ k. omega (arith, high, k)) (λ k. omega (arith, high, k))) same
      (arrives program l Fact first good a line (line + 1) block w rs z m.state.registers r.words g.flows r.there))
      (λ k. p.others 1 (λ j. omega (arith, j)) (λ j. omega (arith, j)) ∙ low.others 1 (λ j. omega (arith, j)) (λ j. omega (arith, j)) ∙ r.links.linked (g.linked k)) refl in
      let n = keep_length (way_at l number (line + 1)) target in
      let cheap = low.cheap in (
        low.count + (3 + suc (length K)),
        omega (arith, n, cheap),
        record { moment' = t.moment'; comes = and_on {m'' = t.moment'} low.comes (and_on {m'' = t.moment'} comes t.comes); runs = t.runs },
      )

  pub lay_follows :
      (a : Activation) (line block words landing : ℕ) (rs : Registers) (callers : List Caller) (z : MidState) (m : Moment)
      → line_of program a.procedure line ≡ Some (Lay block words landing)
      → Relates program l Fact first (running a line rs callers z) m → Follows program l Fact first (running a line rs callers z) m
  unfolding choose_by
  lay_follows a line block words landing rs callers z m e r = by (nat_le (words + 2) (left z.arena)) refl
    where
      light : weight program (running a line rs callers z) ≡ 0
      light = weighs program l Fact first good a line rs callers z (Lay block words landing) e

      arena' : Arena
      arena' = with_new_block (record_of words) z.arena

      goes : (t : Bool) → nat_le (words + 2) (left z.arena) ≡ t
          → next program (running a line rs callers z)
          ≡ arrive (with_standing (laid_record (length z.arena.blocks) words landing ∷ a.standing) a) (line + 1) callers
          (choose_by t (λ rs' y. ends falls (slice_set rs' block (Some (lent_from (length (with_new_block (record_of words) y.arena).memory) (record_of words ∷ y.arena.blocks)))) (with_arena (with_new_block (record_of words) y.arena) y))
          (λ rs' y. ends (no_room (words + 2) (left y.arena)) rs' y) rs (charged 36 z))
      goes t h =
          at_line program l Fact first good a line rs callers z (Lay block words landing) e
          ∙ ap (λ u. arrive (with_standing (laid_record (length z.arena.blocks) words landing ∷ a.standing) a) (line + 1) callers
          (choose_by u (λ rs' y. ends falls (slice_set rs' block (Some (lent_from (length (with_new_block (record_of words) y.arena).memory) (record_of words ∷ y.arena.blocks)))) (with_arena (with_new_block (record_of words) y.arena) y))
          (λ rs' y. ends (no_room (words + 2) (left y.arena)) rs' y) rs (charged 36 z))) h

      by : (t : Bool) → nat_le (words + 2) (left z.arena) ≡ t → Follows program l Fact first (running a line rs callers z) m
      by true h =
          let room : words + 2 ≤ left z.arena = grind (arith, nat_tests, h) in
          let at = l.line_at a.procedure line in
          let stands = r.1.machine.code.lines a.procedure line (Lay block words landing) e in
          let R = room_code l.full_at at (words + 2) in
          let rest = address_code 5 (l.line_at a.procedure landing) ++ (Sw 5 2 0 ∷ lent_code l a.procedure line) in
          let long : length (R ++ rest) ≡ length R + length rest = length-append R rest in
          let below = r.1.machine.form.below in
          let low = room_there m l.full_at at r.1.words (stack_from z.arena) z.arena.heap_to (words + 2) rest (asking a line block words landing rs callers z m e r.1) (omega (arith, room, below)) stands.has
          (omega (arith, stands.to, good.low, long)) in
          let t = laid a line block words landing rs callers z m e r.0 r.1 room low in
          record {
            count = t.0;
            moment = t.2.moment';
            comes = t.2.comes;
            relates = subst (λ y. Relates program l Fact first y t.2.moment') (sym (goes true h))
                ((stands_on_more program a (laid_record (length z.arena.blocks) words landing) z.arena.blocks r.0.0 refl, r.0.1), t.2.runs);
            cheap = subst (λ y. t.0 + z.cost ≤ (state_of y).cost) (sym (goes true h)) (let n = t.1 in omega (arith, n));
            heavy = λ u. omega (arith, light);
          }
      by false h =
          let at = l.line_at a.procedure line in
          let none : left z.arena < words + 2 = grind (arith, nat_tests, h) in
          let stands = r.1.machine.code.lines a.procedure line (Lay block words landing) e in
          let rest = address_code 5 (l.line_at a.procedure landing) ++ (Sw 5 2 0 ∷ lent_code l a.procedure line) in
          let below = r.1.machine.form.below in
          let heap = r.1.machine.form.heap in
          let gone = room_gone program l Fact first z 36 m at r.1.words (stack_from z.arena) z.arena.heap_to (words + 2) rest (holding program l Fact first z r.1.words m r.1.machine)
          (asking a line block words landing rs callers z m e r.1) (omega (arith, none, below, heap.1)) stands r.1.machine.code.full good.low in
          let c = gone.3 in
          record {
            count = gone.0;
            moment = c.moment';
            comes = c.comes;
            relates = subst (λ y. Relates program l Fact first y c.moment') (sym (goes false h))
                (c.calls, ap (λ k. slice_index k 10) c.same ∙ gone.4, ap (λ k. slice_index k 11) c.same ∙ gone.5);
            cheap = subst (λ y. gone.0 + z.cost ≤ (state_of y).cost) (sym (goes false h)) (let n = gone.2 in omega (arith, n));
            heavy = λ u. omega (arith, light);
          }
