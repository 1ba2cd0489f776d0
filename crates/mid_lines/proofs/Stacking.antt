-- The activations stand on the blocks of the arena: each kind of line keeps that.
use Rattle.std.proofs.Common.{◌≡◌, ℕ, zero, suc, ◌+◌, Bool, true, false, ◌&&◌, ◌==◌, List, [], ◌∷◌, ◌++◌, length, Option, Some, None, refl, sym, ap, ◌∙◌, subst, arith, if◌then◌else◌, length-append, eqb-true, eq-eqb}
use Rattle.std.specs.Prelude.{slice_get, slice_set}
use Rattle.mid_code.specs.declared.operation.Operation.{Operation}
use Rattle.mid_code.specs.declared.operation.Operation.TheVariants.{Move, Constant, Compute, Load, Store, Request, Draw, Put, Get, Call}
use Rattle.mid_code.specs.Arena.{Block, activation_frame, closed_record, is_open, is_record, record_of, lent_block, lent_from, left, with_blocks, with_new_block, blocks_from, outside_of, blocks_outside, blocks_closed}
use Rattle.mid_code.specs.Checked.{is_block_size}
use Rattle.mid_code.specs.Costs.{give_back_cost, entry_cost}
use Rattle.mid_code.specs.State.{Registers, first_registers, MidState, End, falls, returns, cuts, no_room, no_level, no_turn, halts, unhandled, exhausted, stuck, MidOutcome, Next, ends, charged, with_arena, with_some, choose_by, register}
use Rattle.mid_code.specs.Meaning.{lay, get_from, give_back, exec_step}
use Rattle.mid_lines.proofs.Conjunctions.{front_true, back_true, both_true}
use Rattle.mid_lines.specs.declared.line.Line.{Line}
use Rattle.mid_lines.specs.declared.line.Line.TheVariants.{Do, Branch, Switch, Jump, Lay, Landed, GiveBack, Lend, GiveBackLent, Return, Cut, Halt, Unhandled}
use Rattle.mid_lines.specs.declared.line.LineProcedure.{LineProcedure}
use Rattle.mid_lines.specs.declared.line.LineProgram.{LineProgram}
use Rattle.mid_lines.specs.Lines.{line_of}
use Rattle.mid_lines.specs.LineMeaning.{Standing, Activation, with_standing, Caller, Stage, running, entering, ended, return_to, standing_from, closed, arrive, arrive_from, land_at, land_in, land, cut_outwards, cut_from, proceed, proceed_from, enter_at, begin, holds, branch, words_in, callee_in, call, perform_at, target_in, switch_to, lend_at, is_record_of, is_only_lent, give_back_at, do_line, next, after}
use Rattle.mid_lines.specs.StackLaw.{record_kind, record_block, frame_in, frame_of, blocks_of, BlocksAreCounted, StandsOn, CallersStandOn, StageStands, LawOfStack}

-- where something falls out, a fact holds
abbrev IfFalls : End → Type 0 → Type 0
IfFalls falls T = T
IfFalls (returns w) T = Unit {0}
IfFalls (cuts n w) T = Unit {0}
IfFalls (no_room asked left) T = Unit {0}
IfFalls no_level T = Unit {0}
IfFalls no_turn T = Unit {0}
IfFalls (halts w) T = Unit {0}
IfFalls (unhandled class site condition) T = Unit {0}
IfFalls exhausted T = Unit {0}
IfFalls stuck T = Unit {0}

-- it neither returns nor cuts, and where it falls out, the blocks are these
abbrev KeepsAt : End → List Block → MidState → Type 0
KeepsAt falls bs z = z.arena.blocks ≡ bs
KeepsAt (returns w) bs z = ⊥
KeepsAt (cuts n w) bs z = ⊥
KeepsAt other bs z = Unit {0}

abbrev OutcomeKeepsBlocks : List Block → MidOutcome → Type 0
OutcomeKeepsBlocks bs r = KeepsAt r.end bs r.state

some_keeps : {X : Type 0} (bs : List Block) (o : Option X) (f : X → Next) (rs : Registers) (z : MidState) → ((x : X) → OutcomeKeepsBlocks bs (f x rs z)) → OutcomeKeepsBlocks bs (with_some o f rs z)
unfolding with_some
some_keeps bs None f rs z h = tt
some_keeps bs (Some x) f rs z h = h x

choice_keeps : (bs : List Block) (t : Bool) (f g : Next) (rs : Registers) (z : MidState) → OutcomeKeepsBlocks bs (f rs z) → OutcomeKeepsBlocks bs (g rs z) → OutcomeKeepsBlocks bs (choose_by t f g rs z)
unfolding choose_by
choice_keeps bs true f g rs z h k = h
choice_keeps bs false f g rs z h k = k

get_keeps : (bytes : List ℕ) (to : ℕ) (rs : Registers) (z : MidState) → OutcomeKeepsBlocks z.arena.blocks (get_from bytes to rs z)
get_keeps [] to rs z = refl
get_keeps (byte ∷ bytes) to rs z = refl

-- the blocks that a cut leaves: an outer part of those before, from an open record on
record CutPart (before : List Block) (after : List Block) : Type 0 where
  inner : List Block
  first : Block
  outer : List Block
  parts : before ≡ inner ++ first ∷ outer
  same : after ≡ first ∷ outer
  open_first : is_open first.kind ≡ true

abbrev CutTo : List Block → Option (List Block) → Type 0
CutTo before None = Unit {0}
CutTo before (Some after) = CutPart before after

cut_part : (size : ℕ) (bs : List Block) (address : ℕ) → CutTo bs (blocks_from size bs address)
cut_part size [] address = tt
cut_part size (b ∷ bs) address = by (is_open b.kind && (lent_from size (b ∷ bs) == address)) refl (blocks_from size bs address) (cut_part size bs address)
  where
    outwards : (o : Option (List Block)) → CutTo bs o → CutTo (b ∷ bs) o
    outwards None c = tt
    outwards (Some after) c = record { inner = b ∷ c.inner; first = c.first; outer = c.outer; parts = ap (λ l. b ∷ l) c.parts; same = c.same; open_first = c.open_first }

    by : (t : Bool) → (is_open b.kind && (lent_from size (b ∷ bs) == address)) ≡ t → (o : Option (List Block)) → CutTo bs o → CutTo (b ∷ bs) (if t then Some (b ∷ bs) else o)
    by true e o c = record { inner = []; first = b; outer = bs; parts = refl; same = refl; open_first = front_true _ _ e }
    by false e o c = outwards o c

-- what is closed, and what is given back
closed_part :
    (outside : ℕ) (b : Block) (outer bs : List Block) → blocks_closed outside (b ∷ outer) ≡ Some bs → bs ≡ record b { kind = closed_record } ∷ outer
closed_part outside b outer bs h = by (is_open b.kind && (length outer == outside)) h
  where
    by : (t : Bool) → (if t then Some (record b { kind = closed_record } ∷ outer) else None) ≡ Some bs → bs ≡ record b { kind = closed_record } ∷ outer
    by true h = cc h
    by false h = absurd (cc h)

outside_part : (outside : ℕ) (b : Block) (outer bs : List Block) → blocks_outside outside (b ∷ outer) ≡ Some bs → bs ≡ outer
outside_part outside b outer bs h = by (is_record b.kind && (length outer == outside)) h
  where
    by : (t : Bool) → (if t then Some outer else None) ≡ Some bs → bs ≡ outer
    by true h = cc h
    by false h = absurd (cc h)

frame_is_not_open : (o : Option LineProcedure) → is_open (frame_in o).kind ≡ false
frame_is_not_open None = refl
frame_is_not_open (Some p) = refl

open_record_is_open : (t : Bool) → is_open (record_kind t) ≡ true → t ≡ true
open_record_is_open true h = refl
open_record_is_open false h = h

module _ (program : LineProgram) (first : List Block) where
  arrive_stands :
      (a : Activation) (line : ℕ) (callers : List Caller) (r : MidOutcome) → IfFalls r.end (StandsOn program a r.state.arena.blocks)
      → CallersStandOn program first callers a.outer → StageStands program first (arrive a line callers r)
  arrive_stands a line callers r h k = from r.end h
    where
      from : (e : End) → IfFalls e (StandsOn program a r.state.arena.blocks) → StageStands program first (arrive_from e a line r.registers callers r.state)
      from falls h = (h, k)
      from e h = tt

  keeps_stands :
      (a : Activation) (line : ℕ) (callers : List Caller) (bs : List Block) (r : MidOutcome) → OutcomeKeepsBlocks bs r → StandsOn program a bs
      → CallersStandOn program first callers a.outer → StageStands program first (proceed program a line callers r)
  unfolding proceed
  keeps_stands a line callers bs r kept h k = from r.end kept
    where
      from : (e : End) → KeepsAt e bs r.state → StageStands program first (proceed_from program e a line r.registers callers r.state)
      from falls kept = (record { all = kept ∙ h.all; counted = h.counted }, k)
      from (returns w) kept = absurd kept
      from (cuts n w) kept = absurd kept
      from (no_room asked left) kept = tt
      from no_level kept = tt
      from no_turn kept = tt
      from (halts w) kept = tt
      from (unhandled class site condition) kept = tt
      from exhausted kept = tt
      from stuck kept = tt

  return_stands : (callers : List Caller) (word : ℕ) (z : MidState) → CallersStandOn program first callers z.arena.blocks → StageStands program first (return_to callers word z)
  return_stands [] word z k = tt
  return_stands (c ∷ callers) word z k = k

  -- the landing of a record, with the blocks from it on
  at_landing_stands :
      (o : Option Line) (landing word : ℕ) (s : Standing) (records : List Standing) (a : Activation) (rs : Registers) (callers : List Caller) (z : MidState)
      → z.arena.blocks ≡ record_block s ∷ blocks_of program a records → s.outside ≡ length (blocks_of program a records) → BlocksAreCounted program a records
      → CallersStandOn program first callers a.outer
      → StageStands program first (land_at o landing word s.outside (with_standing (closed s ∷ records) a) rs callers z)
  unfolding with_some
  at_landing_stands None landing word s records a rs callers z e n counted k = tt
  at_landing_stands (Some (Landed r)) landing word s records a rs callers z e n counted k =
      arrive_stands (with_standing (closed s ∷ records) a) (landing + 1) callers _
      (closing (blocks_closed s.outside z.arena.blocks) (λ bs h. closed_part s.outside (record_block s) (blocks_of program a records) bs (ap (blocks_closed s.outside) (sym e) ∙ h))) k
    where
      closing :
          (o : Option (List Block)) → ((bs : List Block) → o ≡ Some bs → bs ≡ record_block (closed s) ∷ blocks_of program a records)
          → IfFalls (with_some o (λ bs rs' y. ends falls (slice_set rs' r (Some word)) (with_arena (with_blocks bs y.arena) y)) rs z).end
          (StandsOn program (with_standing (closed s ∷ records) a)
          (with_some o (λ bs rs' y. ends falls (slice_set rs' r (Some word)) (with_arena (with_blocks bs y.arena) y)) rs z).state.arena.blocks)
      closing None h = tt
      closing (Some bs) h = record { all = h bs refl; counted = (n, counted) }
  at_landing_stands (Some x) landing word s records a rs callers z e n counted k = tt

  landing_stands :
      (o : Option ℕ) (word : ℕ) (s : Standing) (records : List Standing) (a : Activation) (rs : Registers) (callers : List Caller) (z : MidState)
      → z.arena.blocks ≡ record_block s ∷ blocks_of program a records → s.outside ≡ length (blocks_of program a records) → BlocksAreCounted program a records
      → CallersStandOn program first callers a.outer
      → StageStands program first (land_in program o word s.outside (with_standing (closed s ∷ records) a) rs callers z)
  landing_stands None word s records a rs callers z e n counted k = tt
  landing_stands (Some landing) word s records a rs callers z e n counted k =
      at_landing_stands (line_of program a.procedure landing) landing word s records a rs callers z e n counted k

  -- a cut that leaves the blocks from an open record on, in an activation and outside it

  seeking :
      (a : Activation) (records : List Standing) (inner : List Block) (b : Block) (outer : List Block) (word : ℕ) (rs : Registers) (callers : List Caller) (z : MidState) (otherwise : Stage)
      → blocks_of program a records ≡ inner ++ b ∷ outer → is_open b.kind ≡ true → z.arena.blocks ≡ b ∷ outer → BlocksAreCounted program a records
      → CallersStandOn program first callers a.outer
      → ((inner : List Block) → a.outer ≡ inner ++ b ∷ outer → StageStands program first otherwise)
      → StageStands program first (land program word (standing_from (length outer) records) a rs callers z otherwise)
  seeking a [] [] b outer word rs callers z otherwise e o m counted k h =
      let same : b ≡ frame_of program a.procedure = cc e in
      absurd (cc (o, same, frame_is_not_open (slice_get program.procedures a.procedure)))
  seeking a [] (x ∷ xs) b outer word rs callers z otherwise e o m counted k h = h xs (cc e)
  seeking a (s ∷ records) inner b outer word rs callers z otherwise e o m counted k h =
      by (s.is_open && (length outer == s.outside)) refl inner e
      (λ xs part. seeking a records xs b outer word rs callers z otherwise part o m counted.1 k h)
    where
      by :
          (t : Bool) → (s.is_open && (length outer == s.outside)) ≡ t → (inner : List Block)
          → record_block s ∷ blocks_of program a records ≡ inner ++ b ∷ outer
          → ((xs : List Block) → blocks_of program a records ≡ xs ++ b ∷ outer
          → StageStands program first (land program word (standing_from (length outer) records) a rs callers z otherwise))
          → StageStands program first (land program word (if t then s ∷ records else standing_from (length outer) records) a rs callers z otherwise)
      by true t [] e i =
          landing_stands s.landing word s records a rs callers z (m ∙ sym e) counted.0 counted.1 k
      by true t (x ∷ xs) e i =
          let rest : blocks_of program a records ≡ xs ++ b ∷ outer = cc e in
          let count : length outer ≡ s.outside = eqb-true (length outer) s.outside (back_true s.is_open (length outer == s.outside) t) in
          absurd (omega (arith, count, counted.0, ap length rest, length-append xs (b ∷ outer)))
      by false t [] e i =
          let same : b ≡ record_block s = cc e in
          let rest : outer ≡ blocks_of program a records = cc e in
          let count : length outer ≡ s.outside = ap length rest ∙ sym counted.0 in
          let is_it = both_true s.is_open (length outer == s.outside) (open_record_is_open s.is_open (ap (λ x. is_open x.kind) (sym same) ∙ o)) (eq-eqb _ _ count) in
          absurd (cc (t, is_it))
      by false t (x ∷ xs) e i = i xs (cc e)

  outwards_stands :
      (callers : List Caller) (blocks inner : List Block) (b : Block) (outer : List Block) (word : ℕ) (z : MidState)
      → blocks ≡ inner ++ b ∷ outer → is_open b.kind ≡ true → z.arena.blocks ≡ b ∷ outer → CallersStandOn program first callers blocks
      → StageStands program first (cut_outwards program (length outer) word callers z)
  outwards_stands [] blocks inner b outer word z e o m k = tt
  outwards_stands (c ∷ callers) blocks inner b outer word z e o m k =
      seeking c.activation c.activation.standing inner b outer word c.registers callers z _ (sym k.0.all ∙ e) o m k.0.counted k.1
      (λ xs part. outwards_stands callers c.activation.outer xs b outer word z part o m k.1)

  cut_stands :
      (a : Activation) (line : ℕ) (rs : Registers) (callers : List Caller) (z : MidState) (blocks : List Block) (word : ℕ) (o : Option (List Block))
      → CutTo blocks o → StandsOn program a blocks → CallersStandOn program first callers a.outer
      → StageStands program first
      (proceed program a line callers (with_some o (λ bs rs' y. ends (cuts (outside_of bs) word) rs' (with_arena (with_blocks bs y.arena) y)) rs z))
  unfolding with_some proceed
  cut_stands a line rs callers z blocks word None c h k = tt
  cut_stands a line rs callers z blocks word (Some bs) c h k =
      subst (λ n. StageStands program first (cut_from program n word a rs callers (with_arena (with_blocks bs z.arena) z))) (sym (ap outside_of c.same))
      (seeking a a.standing c.inner c.first c.outer word rs callers (with_arena (with_blocks bs z.arena) z) _ (sym h.all ∙ c.parts) c.open_first c.same h.counted k
      (λ xs part. outwards_stands callers a.outer xs c.first c.outer word (with_arena (with_blocks bs z.arena) z) part c.open_first c.same k))

  -- lines

  branch_stands :
      (o : Option Bool) (a : Activation) (after otherwise : ℕ) (rs : Registers) (callers : List Caller) (z : MidState)
      → StandsOn program a z.arena.blocks → CallersStandOn program first callers a.outer → StageStands program first (branch o a after otherwise rs callers z)
  branch_stands None a after otherwise rs callers z h k = tt
  branch_stands (Some true) a after otherwise rs callers z h k = (h, k)
  branch_stands (Some false) a after otherwise rs callers z h k = (h, k)

  call_stands :
      (o : Option (List ℕ)) (p : Option ℕ) (callers : List Caller) (z : MidState) → CallersStandOn program first callers z.arena.blocks
      → StageStands program first (call o p callers z)
  call_stands None p callers z k = tt
  call_stands (Some words) None callers z k = tt
  call_stands (Some words) (Some number) callers z k = k

  laid_stands :
      (b : Block) (f : Next) (a : Activation) (line : ℕ) (rs : Registers) (callers : List Caller) (z : MidState)
      → ((y : MidState) → y.arena.blocks ≡ b ∷ z.arena.blocks → IfFalls (f rs y).end (StandsOn program a (f rs y).state.arena.blocks))
      → CallersStandOn program first callers a.outer → StageStands program first (arrive a line callers (lay b f rs z))
  unfolding choose_by
  laid_stands b f a line rs callers z h k = by _
    where
      by :
          (t : Bool)
          → StageStands program first
          (arrive a line callers (choose_by t (λ rs' y. f rs' (with_arena (with_new_block b y.arena) y)) (λ rs' y. ends (no_room b.words (left y.arena)) rs' y) rs z))
      by true = arrive_stands a line callers (f rs (with_arena (with_new_block b z.arena) z)) (h _ refl) k
      by false = tt

  perform_stands :
      (o : Operation) (a : Activation) (line : ℕ) (rs : Registers) (callers : List Caller) (z : MidState)
      → StandsOn program a z.arena.blocks → CallersStandOn program first callers a.outer → StageStands program first (perform_at program o a line rs callers z)
  unfolding exec_step
  perform_stands (Move to from) a line rs callers z h k = keeps_stands a (line + 1) callers z.arena.blocks _ (some_keeps _ _ _ rs _ (λ w. refl)) h k
  perform_stands (Constant to word) a line rs callers z h k = keeps_stands a (line + 1) callers z.arena.blocks _ refl h k
  perform_stands (Compute to which one other) a line rs callers z h k =
      keeps_stands a (line + 1) callers z.arena.blocks _ (some_keeps _ _ _ rs _ (λ v. some_keeps _ _ _ rs _ (λ w. refl))) h k
  perform_stands (Load to base offset) a line rs callers z h k =
      keeps_stands a (line + 1) callers z.arena.blocks _ (some_keeps _ _ _ rs _ (λ v. some_keeps _ _ _ rs _ (λ w. refl))) h k
  perform_stands (Store from base offset) a line rs callers z h k =
      keeps_stands a (line + 1) callers z.arena.blocks _ (some_keeps _ _ _ rs _ (λ v. some_keeps _ _ _ rs _ (λ w. choice_keeps _ _ _ _ rs _ refl tt))) h k
  perform_stands (Request to words) a line rs callers z h k =
      keeps_stands a (line + 1) callers z.arena.blocks _ (some_keeps _ _ _ rs _ (λ w. choice_keeps _ _ _ _ rs _ refl tt)) h k
  perform_stands (Draw to base offset) a line rs callers z h k =
      keeps_stands a (line + 1) callers z.arena.blocks _
      (some_keeps _ _ _ rs _ (λ v. some_keeps _ _ _ rs _ (λ w. choice_keeps _ _ _ _ rs _ tt (choice_keeps _ _ _ _ rs _ refl tt)))) h k
  perform_stands (Put from) a line rs callers z h k = keeps_stands a (line + 1) callers z.arena.blocks _ (some_keeps _ _ _ rs _ (λ w. refl)) h k
  perform_stands (Get to) a line rs callers z h k = keeps_stands a (line + 1) callers z.arena.blocks _ (get_keeps z.input to rs _) h k
  perform_stands (Call to callee arguments) a line rs callers z h k = call_stands (words_in arguments rs) (callee_in callee rs) _ _ (h, k)

  give_back_stands :
      (is_such : Standing → Bool) (records : List Standing) (a : Activation) (line : ℕ) (rs : Registers) (callers : List Caller) (z : MidState)
      → z.arena.blocks ≡ blocks_of program a records → BlocksAreCounted program a records → CallersStandOn program first callers a.outer
      → StageStands program first (give_back_at is_such records a line rs callers z)
  unfolding with_some
  give_back_stands is_such [] a line rs callers z e counted k = tt
  give_back_stands is_such (s ∷ records) a line rs callers z e counted k = by (is_such s)
    where
      given :
          (o : Option (List Block)) → ((bs : List Block) → o ≡ Some bs → bs ≡ blocks_of program a records)
          → IfFalls (with_some o (λ bs rs' y. ends falls rs' (with_arena (with_blocks bs y.arena) y)) rs (charged give_back_cost z)).end
          (StandsOn program (with_standing records a)
          (with_some o (λ bs rs' y. ends falls rs' (with_arena (with_blocks bs y.arena) y)) rs (charged give_back_cost z)).state.arena.blocks)
      given None h = tt
      given (Some bs) h = record { all = h bs refl; counted = counted.1 }

      by : (t : Bool) → StageStands program first (if t then arrive (with_standing records a) (line + 1) callers (give_back s.outside rs z) else ended stuck z)
      by true =
          arrive_stands (with_standing records a) (line + 1) callers (give_back s.outside rs z)
          (given (blocks_outside s.outside z.arena.blocks)
          (λ bs h. outside_part s.outside (record_block s) (blocks_of program a records) bs (ap (blocks_outside s.outside) (sym e) ∙ h))) k
      by false = tt

  switch_stands :
      (o : Option ℕ) (a : Activation) (rs : Registers) (callers : List Caller) (z : MidState)
      → StandsOn program a z.arena.blocks → CallersStandOn program first callers a.outer → StageStands program first (switch_to o a rs callers z)
  switch_stands None a rs callers z h k = tt
  switch_stands (Some line) a rs callers z h k = (h, k)

  lend_stands :
      (block : ℕ) (o : Option ℕ) (a : Activation) (line : ℕ) (rs : Registers) (callers : List Caller) (z : MidState)
      → StandsOn program a z.arena.blocks → CallersStandOn program first callers a.outer → StageStands program first (lend_at block o a line rs callers z)
  unfolding choose_by
  lend_stands block None a line rs callers z h k = tt
  lend_stands block (Some n) a line rs callers z h k = by (is_block_size n)
    where
      by :
          (t : Bool)
          → StageStands program first
          (arrive (with_standing (record { outside = length z.arena.blocks; words = n; landing = None; is_open = false } ∷ a.standing) a) line callers
          (choose_by t (lay (lent_block n) (λ rs' y. ends falls (slice_set rs' block (Some (lent_from (length y.arena.memory) y.arena.blocks))) y)) (ends stuck) rs z))
      by true =
          laid_stands (lent_block n) (λ rs' y. ends falls (slice_set rs' block (Some (lent_from (length y.arena.memory) y.arena.blocks))) y) _ line rs callers z
          (λ y e. record { all = e ∙ ap (λ l. lent_block n ∷ l) h.all; counted = (ap length h.all, h.counted) }) k
      by false = tt

  returned_stands :
      (o : Option ℕ) (a : Activation) (line : ℕ) (rs : Registers) (callers : List Caller) (z : MidState) → CallersStandOn program first callers a.outer
      → StageStands program first (proceed program a line callers (with_some o (λ w. ends (returns w)) rs z))
  unfolding with_some proceed
  returned_stands None a line rs callers z k = tt
  returned_stands (Some w) a line rs callers z k = return_stands callers w (with_arena (with_blocks a.outer z.arena) z) k

  some_stands :
      {X : Type 0} (o : Option X) (f : X → Next) (a : Activation) (line : ℕ) (rs : Registers) (callers : List Caller) (z : MidState)
      → ((x : X) → StageStands program first (proceed program a line callers (f x rs z)))
      → StageStands program first (proceed program a line callers (with_some o f rs z))
  unfolding with_some proceed
  some_stands None f a line rs callers z h = tt
  some_stands (Some x) f a line rs callers z h = h x

  line_stands :
      (o : Option Line) (a : Activation) (line : ℕ) (rs : Registers) (callers : List Caller) (z : MidState)
      → StandsOn program a z.arena.blocks → CallersStandOn program first callers a.outer → StageStands program first (do_line program o a line rs callers z)
  unfolding exec_step
  line_stands None a line rs callers z h k = tt
  line_stands (Some (Do o)) a line rs callers z h k = perform_stands o a line rs callers z h k
  line_stands (Some (Branch t otherwise)) a line rs callers z h k = branch_stands (holds t rs) a (line + 1) otherwise rs callers _ h k
  line_stands (Some (Switch r targets)) a line rs callers z h k = switch_stands (target_in targets (register r rs)) a rs callers _ h k
  line_stands (Some (Jump to)) a line rs callers z h k = (h, k)
  line_stands (Some (Lay block words landing)) a line rs callers z h k =
      laid_stands (record_of words) (λ rs' y. ends falls (slice_set rs' block (Some (lent_from (length y.arena.memory) y.arena.blocks))) y) _ (line + 1) rs callers _
      (λ y e. record { all = e ∙ ap (λ l. record_of words ∷ l) h.all; counted = (ap length h.all, h.counted) }) k
  line_stands (Some (Landed r)) a line rs callers z h k = tt
  line_stands (Some (GiveBack words)) a line rs callers z h k = give_back_stands (is_record_of words) a.standing a line rs callers z h.all h.counted k
  line_stands (Some (Lend block words)) a line rs callers z h k = lend_stands block (register words rs) a (line + 1) rs callers _ h k
  line_stands (Some GiveBackLent) a line rs callers z h k = give_back_stands is_only_lent a.standing a line rs callers z h.all h.counted k
  line_stands (Some (Return r)) a line rs callers z h k = returned_stands (register r rs) a (line + 1) rs callers _ k
  line_stands (Some (Cut block word)) a line rs callers z h k =
      some_stands _ _ a (line + 1) rs callers _ (λ v. some_stands _ _ a (line + 1) rs callers _ (λ w.
      cut_stands a (line + 1) rs callers _ z.arena.blocks w (blocks_from (length z.arena.memory) z.arena.blocks v) (cut_part (length z.arena.memory) z.arena.blocks v) h k))
  line_stands (Some (Halt r)) a line rs callers z h k = keeps_stands a (line + 1) callers z.arena.blocks _ (some_keeps _ _ _ rs _ (λ w. tt)) h k
  line_stands (Some (Unhandled class site condition)) a line rs callers z h k =
      keeps_stands a (line + 1) callers z.arena.blocks _ (some_keeps _ _ _ rs _ (λ v. some_keeps _ _ _ rs _ (λ w. some_keeps _ _ _ rs _ (λ x. tt)))) h k

  entry_stands :
      (o : Option LineProcedure) (number : ℕ) (arguments : List ℕ) (callers : List Caller) (z : MidState) → slice_get program.procedures number ≡ o
      → CallersStandOn program first callers z.arena.blocks → StageStands program first (enter_at o number arguments callers z)
  unfolding choose_by
  entry_stands None number arguments callers z e k = tt
  entry_stands (Some p) number arguments callers z e k = by (length arguments == p.parameters)
    where
      by :
          (t : Bool)
          → StageStands program first
          (arrive (record { procedure = number; outer = z.arena.blocks; standing = [] }) 0 callers
          (choose_by t (lay (record { words = p.frame; kind = activation_frame }) (ends falls)) (ends stuck) (first_registers p.registers arguments) (charged (entry_cost p.parameters) z)))
      by true =
          laid_stands (record { words = p.frame; kind = activation_frame }) (ends falls) _ 0 _ callers _
          (λ y m. record { all = m ∙ ap (λ o. frame_in o ∷ z.arena.blocks) (sym e); counted = tt }) k
      by false = tt

  pub next_stands : (s : Stage) → StageStands program first s → StageStands program first (next program s)
  next_stands (running a line rs callers z) h = line_stands (line_of program a.procedure line) a line rs callers z h.0 h.1
  next_stands (entering number arguments callers z) h = entry_stands (slice_get program.procedures number) number arguments callers z refl h
  next_stands (ended e z) h = tt

  after_stands : (n : ℕ) (s : Stage) → StageStands program first s → StageStands program first (after program n s)
  unfolding after
  after_stands zero s h = h
  after_stands (suc n) s h = after_stands n (next program s) (next_stands s h)

pub law_of_stack : LawOfStack
law_of_stack program entry arguments z steps = after_stands program z.arena.blocks steps (begin entry arguments z) refl
