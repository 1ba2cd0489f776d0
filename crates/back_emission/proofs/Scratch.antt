-- Code that changes scratch registers alone, and a jump behind it.
use Rattle.std.proofs.Common.{inl, inr, ◌≡◌, ℕ, ◌+◌, ◌*◌, ◌^◌, ◌<◌, ◌≤◌, Bool, true, false, List, [], ◌∷◌, ◌++◌, length, refl, sym, ap, subst, ◌∙◌, arith, length-append}
use Rattle.std.specs.Prelude.{◌⊎◌, slice_index, slice_set}
use Rattle.std.proofs.lemmas.List.{get_or-set_same, get_or-set_other, length-set}
use Rattle.base.specs.Arithmetic.{sum32, shift_left}
use Rattle.rv_encode.specs.declared.instruction.Instr.{Instr}
use Rattle.rv_encode.specs.declared.instruction.Instr.TheVariants.{Lui, Auipc, Jal, Jalr, Lw, Add, Slli}
use Rattle.rv_machine.specs.Memory.{number_at, bytes_of}
use Rattle.rv_machine.specs.Words.{word_read}
use Rattle.rv_machine.specs.Arithmetic.{sign_extended, even}
use Rattle.rv_machine.specs.Step.{next, execute, gives, load, behind}
use Rattle.rv_machine.specs.Run.{Moment}
use Rattle.mid_code.specs.Arena.{Block}
use Rattle.mid_code.specs.State.{Registers, MidState, charged}
use Rattle.mid_lines.specs.declared.line.LineProgram.{LineProgram}
use Rattle.mid_lines.specs.LineMeaning.{Activation, Caller, running}
use Rattle.mid_lines.specs.StackLaw.{StageStands}
use Rattle.back_places.specs.declared.place.Place.{Place}
use Rattle.back_places.specs.declared.place.Place.TheVariants.{InRegister, InSlot, AsConstant}
use Rattle.back_places.specs.Places.{Located}
use Rattle.back_places.specs.Operands.{high_part, low_part}
use Rattle.back_places.specs.Selection.{jump_offset, far_offset, WithinJump, jump_code, far_jump_code}
use Rattle.back_places.specs.Facts.{IsPlace, Keeps}
use Rattle.back_places.specs.Good.{IsGood}
use Rattle.back_places.specs.Relation.{HasCode, Stands, IsAt, Runs}
use Rattle.back_places.specs.StepLaw.{Comes}
use Rattle.back_emission.specs.Moments.{state_at, Beside, later, moment, with_word_in, beside, AreSmall, Sets, Ready, Prepared}
use Rattle.back_emission.specs.Arriving.{Given}
use Rattle.back_emission.proofs.Coming.{sets_none, sets_on, sets_one, has_back, one_step, step_at, next_place, and_on, and_one}
use Rattle.back_emission.proofs.Parts.{parts_sum}
use Rattle.back_emission.proofs.Operands.{prepared_one, set_small, BothRead, no_scratch}
use Rattle.back_emission.proofs.JumpSteps.{jump_reaches, far_reaches}
use Rattle.back_emission.proofs.Going.{no_change, point_of, goes_on}

pub record Scratched (words registers : List ℕ) (code : List Instr) : Type 0 where
  pub registers' : List ℕ
  pub sets : Sets words code registers registers'
  pub others : (q : ℕ) → (q < 5) ⊎ (7 < q) → slice_index registers' q ≡ slice_index registers q
  pub bounded : AreSmall registers → AreSmall registers'
  pub ready : Ready registers'

abbrev pub scratched_none : (words registers : List ℕ) → Ready registers → Scratched words registers []
scratched_none words registers ready = record { registers' = registers; sets = sets_none words registers; others = λ q h. refl; bounded = λ h. h; ready = ready }

abbrev pub scratched_both : {words registers : List ℕ} {code : List Instr} {ra rb a b : ℕ} → BothRead words registers code ra rb a b → Scratched words registers code
scratched_both {words} {registers} {code} {ra} {rb} {a} {b} p = record { registers' = p.registers'; sets = p.sets; others = p.others; bounded = p.bounded; ready = p.ready }

-- one scratch register more
abbrev pub scratched_on :
    {words registers : List ℕ} {code more : List Instr} {to scratch w : ℕ} (s : Scratched words registers code) → 4 < scratch → scratch < 8
    → Prepared words s.registers' more to w scratch → Scratched words registers (code ++ more)
scratched_on {words} {registers} {code} {more} {to} {scratch} {w} s low high p = record {
  registers' = p.registers';
  sets = sets_on s.sets p.sets;
  others = λ q h. p.others q (no_scratch q scratch h low high) (no_scratch q 7 h (omega arith) (omega arith)) ∙ s.others q h;
  bounded = λ h. p.bounded (s.bounded h);
  ready = p.ready;
}

-- an instruction that changes nothing and goes on
abbrev pub scratched_past :
    {words registers : List ℕ} {code : List Instr} (s : Scratched words registers code) (ins : Instr) → AreSmall words
    → ((i : ℕ) → execute ins (state_at i s.registers' words) ≡ next (behind (state_at i s.registers' words))) → Scratched words registers (code ++ ins ∷ [])
scratched_past {words} {registers} {code} s ins small does = record {
  registers' = s.registers';
  sets = sets_on s.sets (sets_one words s.registers' ins 0 0 small does);
  others = s.others;
  bounded = s.bounded;
  ready = s.ready;
}

-- A word of a table, by its number in a register, into a scratch register.
pub table_prepared :
    (words registers : List ℕ) (s r table n : ℕ) → AreSmall words → Ready registers → 4 < s → s < 7 → slice_index registers r ≡ n → table + n < 2 ^ 24 → table + n < length words
    → Prepared words registers (Slli s r 2 ∷ Lui 7 (high_part (4 * table)) ∷ Add s s 7 ∷ Lw s s (low_part (4 * table)) ∷ []) s (slice_index words (table + n)) s
table_prepared words registers s r table n small ready low high is fits inside =
    let hi = high_part (4 * table) in
    let shifted : shift_left (slice_index registers r) 2 ≡ 4 * n = ap (λ x. shift_left x 2) is ∙ omega (arith, fits) in
    let one = prepared_one words registers (Slli s r 2) s (4 * n) small ready (omega (arith, low)) (omega (arith, high)) (omega (arith, fits))
    (λ i. ap (λ x. gives s x (state_at i registers words)) shifted) in
    let two = prepared_one words one.registers' (Lui 7 hi) 7 (hi * 4096) small one.ready (omega arith) (omega arith) (omega arith) (λ i. refl) in
    let at_s : slice_index two.registers' s ≡ 4 * n = two.others s (λ e. omega (arith, high, e)) (λ e. omega (arith, high, e)) ∙ one.holds in
    let sum : sum32 (slice_index two.registers' s) (slice_index two.registers' 7) ≡ sum32 (4 * n) (hi * 4096) =
    ap (λ x. sum32 x (slice_index two.registers' 7)) at_s ∙ ap (λ x. sum32 (4 * n) x) two.holds in
    let three = prepared_one words two.registers' (Add s s 7) s (sum32 (4 * n) (hi * 4096)) small two.ready (omega (arith, low)) (omega (arith, high)) (omega arith)
    (λ i. ap (λ x. gives s x (state_at i two.registers' words)) sum) in
    let parts = parts_sum (4 * table) (omega (arith, fits)) in
    let address : sum32 (slice_index three.registers' s) (sign_extended 12 (low_part (4 * table))) ≡ 4 * (table + n) =
    ap (λ x. sum32 x (sign_extended 12 (low_part (4 * table)))) three.holds ∙ omega (arith, parts, fits) in
    let four = prepared_one words three.registers' (Lw s s (low_part (4 * table))) s (slice_index words (table + n)) small three.ready (omega (arith, low)) (omega (arith, high)) (small (table + n))
    (λ i. ap (λ x. load s (number_at 4 x (bytes_of words)) (state_at i three.registers' words)) address
    ∙ ap (λ x. load s x (state_at i three.registers' words)) (word_read words (table + n) inside (small (table + n)))) in
    record {
      registers' = four.registers';
      sets = sets_on {r' = one.registers'} {r'' = four.registers'} one.sets (sets_on {r' = two.registers'} {r'' = four.registers'} two.sets (sets_on {r'' = four.registers'} three.sets four.sets));
      holds = four.holds;
      others = λ q ne n7. four.others q ne n7 ∙ three.others q ne n7 ∙ two.others q n7 n7 ∙ one.others q ne n7;
      bounded = λ h. four.bounded (three.bounded (two.bounded (one.bounded h)));
      ready = four.ready;
    }

-- A jump by two instructions, behind code that sets registers: the program counter and the upper part of the offset come into register 7.
pub far_jumps :
    (m : Moment) (at : ℕ) (words registers' : List ℕ) (code : List Instr) (from to link : ℕ) → AreSmall words
    → m.state.pc ≡ 4 * at → m.state.memory ≡ bytes_of words → Sets words code m.state.registers registers'
    → HasCode words at (code ++ far_jump_code link from to) → at + length code + 2 ≤ 2 ^ 24 → to < 2 ^ 24 → from ≡ at + length code → Ready registers'
    → Comes (length code + 2) m
    (moment (state_at to (with_word_in link (4 * (from + 2)) (slice_set registers' 7 (sum32 (4 * from) (high_part (far_offset from to) * 4096)))) words)
    (later 1 (later 1 (later (length code) (beside m)))))
far_jumps m at words registers' code from to link small pc memory sets has low low_to place ready =
    let off = far_offset from to in
    let upper = Auipc 7 (high_part off) in
    let lower = Jalr link 7 (low_part off) in
    let v = sum32 (4 * from) (high_part off * 4096) in
    let set7 = slice_set registers' 7 v in
    let here = at + length code in
    let one_more : sum32 (4 * here) 4 ≡ 4 * (here + 1) = next_place here (omega (arith, low)) in
    let first_does : execute upper (state_at here registers' words) ≡ next (state_at (here + 1) set7 words) =
    ap (λ x. next (record { pc = sum32 (4 * here) 4; registers = slice_set registers' 7 (sum32 (4 * x) (high_part off * 4096)); memory = bytes_of words })) (sym place)
    ∙ ap (λ x. next (record { pc = x; registers = set7; memory = bytes_of words })) one_more in
    let first_part = and_one m at words registers' code (lower ∷ []) upper (state_at (here + 1) set7 words) small pc memory sets has (omega (arith, low)) first_does in
    let in7 : slice_index set7 7 ≡ v = get_or-set_same registers' 7 v 0 (omega (arith, ready.long)) in
    let reaches : even (sum32 (slice_index set7 7) (sign_extended 12 (low_part off))) ≡ 4 * to =
    ap (λ x. even (sum32 x (sign_extended 12 (low_part off)))) in7 ∙ far_reaches from to (omega (arith, place, low)) low_to in
    let link_is : sum32 (4 * (here + 1)) 4 ≡ 4 * (from + 2) = omega (arith, place, low) in
    let second_does : execute lower (state_at (here + 1) set7 words) ≡ next (state_at to (with_word_in link (4 * (from + 2)) set7) words) =
    ap (λ x. next (record { pc = x; registers = with_word_in link (sum32 (4 * (here + 1)) 4) set7; memory = bytes_of words })) reaches
    ∙ ap (λ x. next (record { pc = 4 * to; registers = with_word_in link x set7; memory = bytes_of words })) link_is in
    let there = has_back words at code (upper ∷ lower ∷ []) has in
    let second = one_step (state_at (here + 1) set7 words) (state_at to (with_word_in link (4 * (from + 2)) set7) words) (later 1 (later (length code) (beside m)))
    (step_at (here + 1) set7 words lower [] there.3 (small (here + 1)) ∙ second_does) in
    let count : length code + 1 + 1 ≡ length code + 2 = omega arith in
    subst (λ n. Comes n m (moment (state_at to (with_word_in link (4 * (from + 2)) set7) words) (later 1 (later 1 (later (length code) (beside m)))))) count (and_on first_part second)

module _ (program : LineProgram) (l : Located) (Fact : (number line register : ℕ) → Place → Type 0) (first : List Block)
    (good : IsGood program l Fact) where
  -- what is known at a place that is no scratch register is still there
  past :
      (registers registers' words : List ℕ) (base frame : ℕ) (p : Place) (w : ℕ) → ((q : ℕ) → (q < 5) ⊎ (7 < q) → slice_index registers' q ≡ slice_index registers q)
      → IsPlace frame p → IsAt registers words base p w → IsAt registers' words base p w
  past registers registers' words base frame (InRegister q) w others ok h = others q (inr ok.0) ∙ h
  past registers registers' words base frame (InSlot k) w others ok h = h
  past registers registers' words base frame (AsConstant c) w others ok h = h

  -- the machine has come to a line at which no more is known, and scratch registers alone have changed
  pub given_scratched :
      (a : Activation) (line line' : ℕ) (rs : Registers) (callers : List Caller) (z : MidState) (cost : ℕ) (m : Moment) (count : ℕ) (registers' : List ℕ) (o : Beside)
      → StageStands program first (running a line rs callers z) → (r : Runs program l Fact first a line rs callers z m)
      → Keeps l Fact a.procedure line line'
      → Comes count m (moment (state_at (l.line_at a.procedure line') registers' r.words) o) → o.printed ≡ m.printed → o.input ≡ m.input
      → ((q : ℕ) → (q < 5) ⊎ (7 < q) → slice_index registers' q ≡ slice_index m.state.registers q) → AreSmall registers' → Ready registers'
      → Given program l Fact first a line' rs callers (charged cost z) m count
  given_scratched a line line' rs callers z cost m count registers' o st r keeps comes printed input others small ready = record {
    moment' = moment (state_at (l.line_at a.procedure line') registers' r.words) o;
    comes = comes;
    runs = goes_on program l Fact first good a (l.line_at a.procedure line) (l.records a.procedure line) line' rs callers z cost m registers' r.words o
        st (point_of program l Fact first good a line rs callers z m r) (no_change program l Fact first good a z.arena r.words r.machine.arena.words_small)
        (record { ready = ready; small = small; stack = others 2 (inl (omega arith)); heap = others 3 (inl (omega arith)) })
        printed input
        (λ v p w f e. past m.state.registers registers' r.words _ _ p w others (good.placed a.procedure line v p (keeps.facts v p f)) (r.there v p w (keeps.facts v p f) e))
        (λ e. others 1 (inl (omega arith)) ∙ r.links.linked (keeps.linked e)) keeps.records;
  }

  -- Behind code that has changed scratch registers alone, an instruction goes to such a line.
  pub arrived :
      (a : Activation) (line line' : ℕ) (rs : Registers) (callers : List Caller) (z : MidState) (cost : ℕ) (m : Moment) (code more : List Instr) (ins : Instr)
      → StageStands program first (running a line rs callers z) → (r : Runs program l Fact first a line rs callers z m)
      → Keeps l Fact a.procedure line line' → (s : Scratched r.words m.state.registers code)
      → Stands l r.words (l.line_at a.procedure line) (code ++ ins ∷ more)
      → execute ins (state_at (l.line_at a.procedure line + length code) s.registers' r.words) ≡ next (state_at (l.line_at a.procedure line') s.registers' r.words)
      → Given program l Fact first a line' rs callers (charged cost z) m (length code + 1)
  arrived a line line' rs callers z cost m code more ins st r keeps s stands does =
      let at = l.line_at a.procedure line in
      let long : length (code ++ ins ∷ more) ≡ length code + length (ins ∷ more) = length-append code (ins ∷ more) in
      given_scratched a line line' rs callers z cost m (length code + 1) s.registers' (later 1 (later (length code) (beside m))) st r keeps
      (and_one m at r.words s.registers' code more ins (state_at (l.line_at a.procedure line') s.registers' r.words) r.machine.arena.words_small r.pc r.machine.memory s.sets stands.has (omega (arith, stands.to, good.low, long)) does)
      refl refl s.others (s.bounded r.machine.registers_small) s.ready

  -- a jump behind such code, in its short form or over two instructions
  pub jumped :
      (near : Bool) (a : Activation) (line line' : ℕ) (rs : Registers) (callers : List Caller) (z : MidState) (cost : ℕ) (m : Moment) (code : List Instr) (from : ℕ)
      → StageStands program first (running a line rs callers z) → (r : Runs program l Fact first a line rs callers z m)
      → Keeps l Fact a.procedure line line' → Scratched r.words m.state.registers code
      → from ≡ l.line_at a.procedure line + length code → (near ≡ true → WithinJump from (l.line_at a.procedure line'))
      → Stands l r.words (l.line_at a.procedure line) (code ++ jump_code near 0 from (l.line_at a.procedure line'))
      → Given program l Fact first a line' rs callers (charged cost z) m (length code + length (jump_code near 0 from (l.line_at a.procedure line')))
  jumped true a line line' rs callers z cost m code from st r keeps s place within stands =
      let to = l.line_at a.procedure line' in
      let here = l.line_at a.procedure line + length code in
      let low_to : to < 2 ^ 24 = let w = good.within a.procedure line' in omega (arith, w, good.low) in
      let long : length (code ++ Jal 0 (jump_offset from to) ∷ []) ≡ length code + 1 = length-append code (Jal 0 (jump_offset from to) ∷ []) in
      let low_from : from < 2 ^ 24 = omega (arith, place, stands.to, good.low, long) in
      let reaches : sum32 (4 * here) (sign_extended 21 (jump_offset from to)) ≡ 4 * to =
      ap (λ x. sum32 (4 * x) (sign_extended 21 (jump_offset from to))) (sym place) ∙ jump_reaches from to low_from low_to (within refl) in
      arrived a line line' rs callers z cost m code [] (Jal 0 (jump_offset from to)) st r keeps s stands
      (ap (λ x. next (record { pc = x; registers = s.registers'; memory = bytes_of r.words })) reaches)
  jumped false a line line' rs callers z cost m code from st r keeps s place within stands =
      let to = l.line_at a.procedure line' in
      let low_to : to < 2 ^ 24 = let w = good.within a.procedure line' in omega (arith, w, good.low) in
      let long : length (code ++ far_jump_code 0 from to) ≡ length code + 2 = length-append code (far_jump_code 0 from to) in
      let far = far_jumps m (l.line_at a.procedure line) r.words s.registers' code from to 0 r.machine.arena.words_small r.pc r.machine.memory s.sets stands.has
      (omega (arith, stands.to, good.low, long)) low_to place s.ready in
      let set7 = sum32 (4 * from) (high_part (far_offset from to) * 4096) in
      given_scratched a line line' rs callers z cost m (length code + 2) (slice_set s.registers' 7 set7) _ st r keeps far refl refl
      (λ q h. get_or-set_other s.registers' 7 q set7 0 (no_scratch q 7 h (omega arith) (omega arith)) ∙ s.others q h)
      (λ i. set_small s.registers' 7 set7 i (s.bounded r.machine.registers_small) (omega arith))
      (record { long = length-set s.registers' 7 set7 ∙ s.ready.long; zero_is = get_or-set_other s.registers' 7 0 set7 0 (λ e. omega (arith, e)) ∙ s.ready.zero_is })
