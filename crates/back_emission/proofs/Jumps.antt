-- The steps of jumps, branches and switches.
use Rattle.std.proofs.Common.{inr, ◌≡◌, ℕ, zero, suc, ◌+◌, ◌*◌, ◌^◌, ◌<◌, ◌≤◌, Bool, true, false, List, [], ◌∷◌, ◌++◌, length, refl, sym, ap, subst, ◌∙◌, arith, Some, None, eqb-true, length-append, append_assoc}
use Rattle.std.specs.Prelude.{Option, not, slice_index, slice_get, if◌then◌else◌, ◌==◌, nat_lt, nat_le}
use Rattle.std.proofs.lemmas.Bool.Decides.{nat_tests}
use Rattle.base.specs.Arithmetic.{sum32}
use Rattle.rv_encode.specs.declared.instruction.Instr.{Instr}
use Rattle.rv_encode.specs.declared.instruction.Instr.TheVariants.{Lui, Jalr, Lw, Add, Slli}
use Rattle.rv_machine.specs.Memory.{bytes_of}
use Rattle.rv_machine.specs.Arithmetic.{sign_extended, even}
use Rattle.rv_machine.specs.Step.{next as goes_to, execute, branch as machine_branch}
use Rattle.rv_machine.specs.Run.{Moment}
use Rattle.mid_code.specs.declared.operation.Comparison.{Comparison}
use Rattle.mid_code.specs.declared.operation.Test.{Test}
use Rattle.mid_code.specs.Words.{compares}
use Rattle.mid_code.specs.Arena.{Block}
use Rattle.mid_code.specs.State.{Registers, MidState, charged, register}
use Rattle.mid_lines.proofs.Conjunctions.{front_true, back_true}
use Rattle.mid_lines.specs.declared.line.Line.TheVariants.{Branch, Switch, Jump}
use Rattle.mid_lines.specs.declared.line.LineProgram.{LineProgram}
use Rattle.mid_lines.specs.Lines.{line_of}
use Rattle.mid_lines.specs.LineMeaning.{Activation, Caller, running, next, both, branch, target_in, switch_to}
use Rattle.mid_lines.specs.StackLaw.{StageStands}
use Rattle.back_places.specs.declared.place.Place.{Place}
use Rattle.back_places.specs.declared.place.Place.TheVariants.{InRegister, InSlot, AsConstant}
use Rattle.back_places.specs.Places.{Located, way_at}
use Rattle.back_places.specs.Operands.{high_part, low_part, read_in, read_code}
use Rattle.back_places.specs.Selection.{branch_offset, branch_unless, branch_where, jump_code, branch_code, far_jump_code, WithinBranch}
use Rattle.back_places.specs.LineCode.{is_silent_jump, tested_code}
use Rattle.back_places.specs.Facts.{Keeps, KeepsEach, Apart}
use Rattle.back_places.specs.Good.{IsGood}
use Rattle.back_places.specs.Relation.{Stands, Runs, Relates}
use Rattle.back_places.specs.StepLaw.{Follows, weight}
use Rattle.back_emission.specs.Moments.{state_at, Ready}
use Rattle.back_emission.specs.Arriving.{Given}
use Rattle.back_emission.proofs.Operands.{BothRead, both_read, read}
use Rattle.back_emission.proofs.Arithmetic.{branch_unless_same, branch_where_same}
use Rattle.back_emission.proofs.JumpSteps.{branch_reaches, jumped_to}
use Rattle.back_emission.proofs.Lengths.{read_length}
use Rattle.back_emission.proofs.Going.{point_of}
use Rattle.back_emission.proofs.Giving.{given_nowhere}
use Rattle.back_emission.proofs.Moving.{frame_is}
use Rattle.back_emission.proofs.Scratch.{scratched_none, scratched_both, scratched_on, scratched_past, table_prepared, arrived, jumped}
use Rattle.back_emission.proofs.Steps.{nothing, follows, at_line, weighs, next_line}

abbrev piece : Bool → List Instr → List Instr
piece t code = if t then [] else code

apart_constant : (p : Place) (c : ℕ) → Apart p (AsConstant c)
apart_constant (InRegister r) c = tt
apart_constant (InSlot k) c = tt
apart_constant (AsConstant d) c = tt

jump_length : (near : Bool) (link from to : ℕ) → (1 ≤ length (jump_code near link from to)) × (length (jump_code near link from to) ≤ 2)
jump_length true link from to = (omega arith, omega arith)
jump_length false link from to = (omega arith, omega arith)

at_most_one : (t : Bool) → (if t then 1 else 0) ≤ 1
at_most_one true = omega arith
at_most_one false = omega arith

no_weight : (t : Bool) → t ≡ false → (if t then 1 else 0) ≤ 0
no_weight true e = absurd (cc e)
no_weight false e = omega arith

module _ (program : LineProgram) (l : Located) (Fact : (number line register : ℕ) → Place → Type 0) (first : List Block)
    (good : IsGood program l Fact) where
  pub jump_follows :
      (a : Activation) (line to : ℕ) (rs : Registers) (callers : List Caller) (z : MidState) (m : Moment)
      → line_of program a.procedure line ≡ Some (Jump to)
      → Relates program l Fact first (running a line rs callers z) m → Follows program l Fact first (running a line rs callers z) m
  jump_follows a line to rs callers z m e r =
      by (is_silent_jump l a.procedure line to) refl (r.1.machine.code.lines a.procedure line (Jump to) e) (next_line program l Fact first good a.procedure line (Jump to) e refl)
    where
      keeps : Keeps l Fact a.procedure line to
      keeps = good.lines a.procedure line (Jump to) e

      goes : next program (running a line rs callers z) ≡ running a to rs callers (charged 2 z)
      goes = at_line program l Fact first good a line rs callers z (Jump to) e

      heavy : weight program (running a line rs callers z) ≡ (if nat_le to line then 1 else 0)
      heavy = weighs program l Fact first good a line rs callers z (Jump to) e

      by :
          (t : Bool) → is_silent_jump l a.procedure line to ≡ t
          → Stands l r.1.words (l.line_at a.procedure line) (piece t (jump_code (l.near a.procedure line) 0 (l.line_at a.procedure line) (l.line_at a.procedure to)))
          → l.line_at a.procedure (line + 1) ≡ l.line_at a.procedure line + length (piece t (jump_code (l.near a.procedure line) 0 (l.line_at a.procedure line) (l.line_at a.procedure to)))
          → Follows program l Fact first (running a line rs callers z) m
      by true q stands behind' =
          let forward = front_true (nat_lt line to) (l.line_at a.procedure to == l.line_at a.procedure (line + 1)) q in
          let there : l.line_at a.procedure to ≡ l.line_at a.procedure (line + 1) = eqb-true _ _ (back_true (nat_lt line to) (l.line_at a.procedure to == l.line_at a.procedure (line + 1)) q) in
          let back : nat_le to line ≡ false = grind (arith, nat_tests, forward) in
          let none = no_weight (nat_le to line) back in
          follows program l Fact first good a line to rs rs callers z 2 m 0 r.0 goes
          (given_nowhere program l Fact first good a (l.line_at a.procedure line) (l.records a.procedure line) to 0 rs callers z 2 m r.0
          (point_of program l Fact first good a line rs callers z m r.1) (omega (arith, there, behind'))
          (λ v p x f h. inr (r.1.there v p x (keeps.facts v p f) h, apart_constant p 0)) (λ h. r.1.links.linked (keeps.linked h)) keeps.records)
          (omega arith) (omega (arith, heavy, none))
      by false q stands behind' =
          let ready : Ready m.state.registers = record { long = r.1.machine.long; zero_is = r.1.machine.zero_is } in
          let at = l.line_at a.procedure line in
          let n = jump_length (l.near a.procedure line) 0 at (l.line_at a.procedure to) in
          let zero_is : at ≡ at + 0 = omega arith in
          let w = at_most_one (nat_le to line) in
          follows program l Fact first good a line to rs rs callers z 2 m _ r.0 goes
          (jumped program l Fact first good (l.near a.procedure line) a line to rs callers z 2 m [] at r.0 r.1 keeps (scratched_none r.1.words m.state.registers ready) zero_is
          (good.laid a.procedure line (Jump to) e).reaches stands)
          (omega (arith, n)) (omega (arith, heavy, w, n))

  -- what a branch does, by the words in its registers: it goes on, or to an offset
  machine_goes :
      (t : Bool) (offset at to : ℕ) (registers words : List ℕ) → sum32 (4 * at) (if t then sign_extended 13 offset else 4) ≡ 4 * to
      → machine_branch t offset (state_at at registers words) ≡ goes_to (state_at to registers words)
  machine_goes true offset at to registers words e = ap (λ k. goes_to (record { pc = k; registers = registers; memory = bytes_of words })) e
  machine_goes false offset at to registers words e = ap (λ k. goes_to (record { pc = k; registers = registers; memory = bytes_of words })) e

  unless_is :
      (c : Comparison) (ra rb x y offset at : ℕ) (registers words : List ℕ) (b : Bool) → slice_index registers ra ≡ x → slice_index registers rb ≡ y → compares c x y ≡ b
      → execute (branch_unless c ra rb offset) (state_at at registers words) ≡ machine_branch (not b) offset (state_at at registers words)
  unless_is c ra rb x y offset at registers words b hx hy is =
      branch_unless_same c ra rb offset (state_at at registers words)
      ∙ ap (λ k. machine_branch (not (compares c k (slice_index registers rb))) offset (state_at at registers words)) hx
      ∙ ap (λ k. machine_branch (not (compares c x k)) offset (state_at at registers words)) hy
      ∙ ap (λ k. machine_branch (not k) offset (state_at at registers words)) is

  where_is :
      (c : Comparison) (ra rb x y offset at : ℕ) (registers words : List ℕ) (b : Bool) → slice_index registers ra ≡ x → slice_index registers rb ≡ y → compares c x y ≡ b
      → execute (branch_where c ra rb offset) (state_at at registers words) ≡ machine_branch b offset (state_at at registers words)
  where_is c ra rb x y offset at registers words b hx hy is =
      branch_where_same c ra rb offset (state_at at registers words)
      ∙ ap (λ k. machine_branch (compares c k (slice_index registers rb)) offset (state_at at registers words)) hx
      ∙ ap (λ k. machine_branch (compares c x k) offset (state_at at registers words)) hy
      ∙ ap (λ k. machine_branch k offset (state_at at registers words)) is

  -- Both operands are read, and the branch goes to the next line where the test holds, and else to the other one.
  branched :
      (near b : Bool) (a : Activation) (line otherwise : ℕ) (c : Comparison) (rs : Registers) (callers : List Caller) (z : MidState) (m : Moment) (C : List Instr) (ra rb x y : ℕ)
      → StageStands program first (running a line rs callers z) → (r : Runs program l Fact first a line rs callers z m)
      → (p : BothRead r.words m.state.registers C ra rb x y) → compares c x y ≡ b
      → Keeps l Fact a.procedure line (line + 1) → Keeps l Fact a.procedure line otherwise
      → (near ≡ true → WithinBranch (l.line_at a.procedure line + length C) (l.line_at a.procedure otherwise))
      → Stands l r.words (l.line_at a.procedure line) (C ++ branch_code near c ra rb (l.line_at a.procedure line + length C) (l.line_at a.procedure otherwise))
      → l.line_at a.procedure (line + 1) ≡ l.line_at a.procedure line + length (C ++ branch_code near c ra rb (l.line_at a.procedure line + length C) (l.line_at a.procedure otherwise))
      → (count : ℕ) × (count ≤ length C + 3) × Given program l Fact first a (if b then line + 1 else otherwise) rs callers (charged 12 z) m count
  branched true true a line otherwise c rs callers z m C ra rb x y st r p is keeps keeps' within stands behind' =
      let at = l.line_at a.procedure line + length C in
      let off = branch_offset at (l.line_at a.procedure otherwise) in
      let ins = branch_unless c ra rb off in
      let long : length (C ++ ins ∷ []) ≡ length C + 1 = length-append C (ins ∷ []) in (
        length C + 1,
        omega arith,
        arrived program l Fact first good a line (line + 1) rs callers z 12 m C [] ins st r keeps (scratched_both p) stands
            (unless_is c ra rb x y off at p.registers' r.words true p.first_is p.second_is is ∙ machine_goes false off at (l.line_at a.procedure (line + 1)) p.registers' r.words (omega (arith, behind', long, stands.to, good.low))),
      )
  branched true false a line otherwise c rs callers z m C ra rb x y st r p is keeps keeps' within stands behind' =
      let at = l.line_at a.procedure line + length C in
      let to = l.line_at a.procedure otherwise in
      let off = branch_offset at to in
      let ins = branch_unless c ra rb off in
      let long : length (C ++ ins ∷ []) ≡ length C + 1 = length-append C (ins ∷ []) in
      let low_to : to < 2 ^ 24 = let w = good.within a.procedure otherwise in omega (arith, w, good.low) in (
        length C + 1,
        omega arith,
        arrived program l Fact first good a line otherwise rs callers z 12 m C [] ins st r keeps' (scratched_both p) stands
            (unless_is c ra rb x y off at p.registers' r.words false p.first_is p.second_is is
            ∙ machine_goes true off at to p.registers' r.words (branch_reaches at to (omega (arith, long, stands.to, good.low)) low_to (within refl))),
      )
  branched false true a line otherwise c rs callers z m C ra rb x y st r p is keeps keeps' within stands behind' =
      let at = l.line_at a.procedure line + length C in
      let to = l.line_at a.procedure otherwise in
      let ins = branch_where c ra rb 12 in
      let far = far_jump_code 0 (at + 1) to in
      let long : length (C ++ ins ∷ far) ≡ length C + 3 = length-append C (ins ∷ far) in (
        length C + 1,
        omega arith,
        arrived program l Fact first good a line (line + 1) rs callers z 12 m C far ins st r keeps (scratched_both p) stands
            (where_is c ra rb x y 12 at p.registers' r.words true p.first_is p.second_is is ∙ machine_goes true 12 at (l.line_at a.procedure (line + 1)) p.registers' r.words (omega (arith, behind', long, stands.to, good.low))),
      )
  branched false false a line otherwise c rs callers z m C ra rb x y st r p is keeps keeps' within stands behind' =
      let at = l.line_at a.procedure line + length C in
      let to = l.line_at a.procedure otherwise in
      let ins = branch_where c ra rb 12 in
      let same : C ++ ins ∷ far_jump_code 0 (at + 1) to ≡ (C ++ ins ∷ []) ++ far_jump_code 0 (at + 1) to = sym (append_assoc C (ins ∷ []) (far_jump_code 0 (at + 1) to)) in
      let one : length (C ++ ins ∷ []) ≡ length C + 1 = length-append C (ins ∷ []) in
      let s = scratched_past (scratched_both p) ins r.machine.arena.words_small (λ i. where_is c ra rb x y 12 i p.registers' r.words false p.first_is p.second_is is) in
      let g = jumped program l Fact first good false a line otherwise rs callers z 12 m (C ++ ins ∷ []) (at + 1) st r keeps' s (omega (arith, one)) (λ e. absurd (cc e))
      (subst (λ k. Stands l r.words (l.line_at a.procedure line) k) same stands) in
      (length (C ++ ins ∷ []) + 2, omega (arith, one), g)

  pub branch_follows :
      (a : Activation) (line otherwise : ℕ) (t : Test) (rs : Registers) (callers : List Caller) (z : MidState) (m : Moment)
      → line_of program a.procedure line ≡ Some (Branch t otherwise)
      → Relates program l Fact first (running a line rs callers z) m → Follows program l Fact first (running a line rs callers z) m
  branch_follows a line otherwise t rs callers z m e r = by (register t.first rs) (register t.second rs) refl refl
    where
      light : weight program (running a line rs callers z) ≡ 0
      light = weighs program l Fact first good a line rs callers z (Branch t otherwise) e

      goes : (x y : Option ℕ) → register t.first rs ≡ x → register t.second rs ≡ y
          → next program (running a line rs callers z) ≡ branch (both x y (compares t.comparison)) a (line + 1) otherwise rs callers (charged 12 z)
      goes x y hx hy =
          at_line program l Fact first good a line rs callers z (Branch t otherwise) e
          ∙ ap (λ o. branch (both o (register t.second rs) (compares t.comparison)) a (line + 1) otherwise rs callers (charged 12 z)) hx
          ∙ ap (λ o. branch (both x o (compares t.comparison)) a (line + 1) otherwise rs callers (charged 12 z)) hy

      chosen : (b : Bool) → branch (Some b) a (line + 1) otherwise rs callers (charged 12 z) ≡ running a (if b then line + 1 else otherwise) rs callers (charged 12 z)
      chosen true = refl
      chosen false = refl

      by : (x y : Option ℕ) → register t.first rs ≡ x → register t.second rs ≡ y → Follows program l Fact first (running a line rs callers z) m
      by None y hx hy = nothing program l Fact first good (running a line rs callers z) m (charged 12 z) (goes None y hx hy) (omega arith)
      by (Some x) None hx hy = nothing program l Fact first good (running a line rs callers z) m (charged 12 z) (goes (Some x) None hx hy) (omega arith)
      by (Some x) (Some y) hx hy =
          let g = good.lines a.procedure line (Branch t otherwise) e in
          let fa = g.0.reads.0 in
          let fb = g.0.reads.1.0 in
          let way = way_at l a.procedure line in
          let p = l.source a.procedure line t.first in
          let q = l.source a.procedure line t.second in
          let ready : Ready m.state.registers = record { long = r.1.machine.long; zero_is = r.1.machine.zero_is } in
          let f = frame_is program l Fact first good a (l.line_at a.procedure line) (l.records a.procedure line) callers z m r.0.0 (point_of program l Fact first good a line rs callers z m r.1) in
          let two = both_read r.1.words m.state.registers way _ _ p q x y r.1.machine.arena.words_small ready f
          (good.sources a.procedure line t.first fa) (good.sources a.procedure line t.second fb) (r.1.there t.first p x fa hx) (r.1.there t.second q y fb hy) in
          let b = branched (l.near a.procedure line) (compares t.comparison x y) a line otherwise t.comparison rs callers z m (tested_code l a.procedure line t.first t.second) (read_in 5 p) (read_in 6 q) x y r.0 r.1 two refl
          g.0.keeps g.1 (good.laid a.procedure line (Branch t otherwise) e).reaches
          (r.1.machine.code.lines a.procedure line (Branch t otherwise) e) (next_line program l Fact first good a.procedure line (Branch t otherwise) e refl) in
          let few = b.1 in
          follows program l Fact first good a line (if compares t.comparison x y then line + 1 else otherwise) rs rs callers z 12 m b.0 r.0
          (goes (Some x) (Some y) hx hy ∙ chosen (compares t.comparison x y)) b.2
          (omega (arith, few, length-append (read_code way 5 p) (read_code way 6 q), read_length way 5 p, read_length way 6 q)) (omega (arith, light))

  -- the line of a number in a table
  each_keeps : (number line : ℕ) (targets : List ℕ) (i to : ℕ) → KeepsEach l Fact number line targets → slice_get targets i ≡ Some to → Keeps l Fact number line to
  each_keeps number line [] i to h e = absurd (cc e)
  each_keeps number line (t ∷ targets) zero to h e = let same : t ≡ to = cc e in subst (λ k. Keeps l Fact number line k) same h.0
  each_keeps number line (t ∷ targets) (suc i) to h e = each_keeps number line targets i to h.1 e

  pub switch_follows :
      (a : Activation) (line v : ℕ) (targets : List ℕ) (rs : Registers) (callers : List Caller) (z : MidState) (m : Moment)
      → line_of program a.procedure line ≡ Some (Switch v targets)
      → Relates program l Fact first (running a line rs callers z) m → Follows program l Fact first (running a line rs callers z) m
  switch_follows a line v targets rs callers z m e r = by (register v rs) refl
    where
      light : weight program (running a line rs callers z) ≡ 0
      light = weighs program l Fact first good a line rs callers z (Switch v targets) e

      goes : (x : Option ℕ) → register v rs ≡ x → next program (running a line rs callers z) ≡ switch_to (target_in targets x) a rs callers (charged 12 z)
      goes x h = at_line program l Fact first good a line rs callers z (Switch v targets) e ∙ ap (λ o. switch_to (target_in targets o) a rs callers (charged 12 z)) h

      to_line : (n : ℕ) → register v rs ≡ Some n → (o : Option ℕ) → slice_get targets n ≡ o → Follows program l Fact first (running a line rs callers z) m
      to_line n h None there =
          nothing program l Fact first good (running a line rs callers z) m (charged 12 z) (goes (Some n) h ∙ ap (λ o. switch_to o a rs callers (charged 12 z)) there) (omega arith)
      to_line n h (Some to) there =
          let g = good.lines a.procedure line (Switch v targets) e in
          let fact = g.0.0 in
          let way = way_at l a.procedure line in
          let p = l.source a.procedure line v in
          let words = r.1.words in
          let small = r.1.machine.arena.words_small in
          let table = l.table_at a.procedure line in
          let named = r.1.machine.code.switches a.procedure line v targets n to e there in
          let ready : Ready m.state.registers = record { long = r.1.machine.long; zero_is = r.1.machine.zero_is } in
          let f = frame_is program l Fact first good a (l.line_at a.procedure line) (l.records a.procedure line) callers z m r.0.0 (point_of program l Fact first good a line rs callers z m r.1) in
          let one = read words m.state.registers way _ _ 5 p n small ready f (good.sources a.procedure line v fact) (omega arith) (omega arith) (r.1.there v p n fact h) in
          let two = table_prepared words one.registers' 5 (read_in 5 p) table n small one.ready (omega arith) (omega arith) one.holds (omega (arith, named.to, good.low)) named.within in
          let A = read_code way 5 p in
          let B = Slli 5 (read_in 5 p) 2 ∷ Lui 7 (high_part (4 * table)) ∷ Add 5 5 7 ∷ Lw 5 5 (low_part (4 * table)) ∷ [] in
          let s = scratched_on (scratched_on (scratched_none words m.state.registers ready) (omega arith) (omega arith) one) (omega arith) (omega arith) two in
          let place = l.line_at a.procedure to in
          let low_to : place < 2 ^ 25 = let w = good.within a.procedure to in omega (arith, w, good.low) in
          let stands = r.1.machine.code.lines a.procedure line (Switch v targets) e in
          let same : A ++ (B ++ Jalr 0 5 0 ∷ []) ≡ (A ++ B) ++ Jalr 0 5 0 ∷ [] = sym (append_assoc A B (Jalr 0 5 0 ∷ [])) in
          let reaches : even (sum32 (slice_index two.registers' 5) (sign_extended 12 0)) ≡ 4 * place = jumped_to (slice_index two.registers' 5) place low_to (two.holds ∙ named.names) in
          follows program l Fact first good a line to rs rs callers z 12 m (length (A ++ B) + 1) r.0
          (goes (Some n) h ∙ ap (λ o. switch_to o a rs callers (charged 12 z)) there)
          (arrived program l Fact first good a line to rs callers z 12 m (A ++ B) [] (Jalr 0 5 0) r.0 r.1 (each_keeps a.procedure line targets n to g.1 there) s
          (subst (λ k. Stands l words (l.line_at a.procedure line) k) same stands)
          (ap (λ x. goes_to (record { pc = x; registers = two.registers'; memory = bytes_of words })) reaches))
          (omega (arith, length-append A B, read_length way 5 p)) (omega (arith, light))

      by : (x : Option ℕ) → register v rs ≡ x → Follows program l Fact first (running a line rs callers z) m
      by None h = nothing program l Fact first good (running a line rs callers z) m (charged 12 z) (goes None h) (omega arith)
      by (Some n) h = to_line n h (slice_get targets n) refl
