-- A cut seeks its record: in the activation that runs, and then in those that wait, from the innermost on.
use Rattle.std.proofs.Common.{inl, inr, ◌≡◌, ℕ, ◌+◌, Bool, true, false, ◌&&◌, ◌==◌, List, [], ◌∷◌, ◌++◌, length, refl, sym, ap, subst, ◌∙◌, arith, Some, None, eqb-true, eq-eqb, length-append, append_assoc}
use Rattle.std.specs.Prelude.{◌⊎◌, Option, slice_set, slice_get, if◌then◌else◌}
use Rattle.mid_code.specs.Arena.{Block, is_open, lent_from, with_blocks, blocks_from, outside_of, blocks_closed}
use Rattle.mid_code.specs.State.{Registers, MidState, falls, stuck, ends, with_arena, with_some}
use Rattle.mid_lines.proofs.Conjunctions.{front_true, back_true, both_true}
use Rattle.mid_lines.specs.declared.line.Line.{Line}
use Rattle.mid_lines.specs.declared.line.Line.TheVariants.{Landed}
use Rattle.mid_lines.specs.declared.line.LineProcedure.{LineProcedure}
use Rattle.mid_lines.specs.declared.line.LineProgram.{LineProgram}
use Rattle.mid_lines.specs.Lines.{line_of}
use Rattle.mid_lines.specs.LineMeaning.{Standing, Activation, Caller, Stage, running, ended, with_standing, standing_from, closed, arrive, land_at, land_in, land, cut_outwards, cut_from}
use Rattle.mid_lines.specs.StackLaw.{record_kind, record_block, frame_in, frame_of, blocks_of, BlocksAreCounted, StandsOn, CallersStandOn}

-- the blocks that a cut to an address leaves: an outer part of those before, from the open record on whose first lent word is there
pub record CutPart (size address : ℕ) (before after : List Block) : Type 0 where
  pub inner : List Block
  pub first : Block
  pub outer : List Block
  pub parts : before ≡ inner ++ first ∷ outer
  pub same : after ≡ first ∷ outer
  pub opened : is_open first.kind ≡ true
  pub begins : lent_from size (first ∷ outer) ≡ address

pub cut_part : (size : ℕ) (bs : List Block) (address : ℕ) (after : List Block) → blocks_from size bs address ≡ Some after → CutPart size address bs after
cut_part size [] address after h = absurd (cc h)
cut_part size (b ∷ bs) address after h = by (is_open b.kind && (lent_from size (b ∷ bs) == address)) refl h (λ k. cut_part size bs address after k)
  where
    outwards : CutPart size address bs after → CutPart size address (b ∷ bs) after
    outwards c = record {
      inner = b ∷ c.inner;
      first = c.first;
      outer = c.outer;
      parts = ap (λ k. b ∷ k) c.parts;
      same = c.same;
      opened = c.opened;
      begins = c.begins;
    }

    by : (t : Bool) → (is_open b.kind && (lent_from size (b ∷ bs) == address)) ≡ t → (if t then Some (b ∷ bs) else blocks_from size bs address) ≡ Some after
        → (blocks_from size bs address ≡ Some after → CutPart size address bs after) → CutPart size address (b ∷ bs) after
    by true e h deeper = record {
      inner = [];
      first = b;
      outer = bs;
      parts = refl;
      same = cc h;
      opened = front_true (is_open b.kind) (lent_from size (b ∷ bs) == address) e;
      begins = eqb-true (lent_from size (b ∷ bs)) address (back_true (is_open b.kind) (lent_from size (b ∷ bs) == address) e);
    }
    by false e h deeper = outwards (deeper h)

frame_is_not_open : (o : Option LineProcedure) → is_open (frame_in o).kind ≡ false
frame_is_not_open None = refl
frame_is_not_open (Some p) = refl

open_is_open : (t : Bool) → is_open (record_kind t) ≡ true → t ≡ true
open_is_open true h = refl
open_is_open false h = h

-- What is to be known of an activation and its registers, above callers, where a cut may go to it.
module _ (program : LineProgram) (Receives : Activation → Registers → List Caller → Type 0) where
  -- The record was found: the activation that laid it goes on behind the head of its landing, and the record is closed.
  pub record Lands (w : ℕ) (z : MidState) (s : Stage) : Type 0 where
    pub a : Activation
    pub rs : Registers
    pub callers : List Caller
    pub receives : Receives a rs callers
    pub before : List Standing
    pub found : Standing
    pub more : List Standing
    pub standing_is : a.standing ≡ before ++ found ∷ more
    pub landing : ℕ
    pub landing_is : found.landing ≡ Some landing
    pub to : ℕ
    pub is_landed : line_of program a.procedure landing ≡ Some (Landed to)
    pub blocks_are : z.arena.blocks ≡ record_block found ∷ blocks_of program a more
    pub stage_is :
        s ≡ running (with_standing (closed found ∷ more) a) (landing + 1) (slice_set rs to (Some w)) callers
        (with_arena (with_blocks (record_block (closed found) ∷ blocks_of program a more) z.arena) z)

  -- what a cut comes to
  abbrev pub ComesTo : (w : ℕ) → MidState → Stage → Type 0
  ComesTo w z s = (s ≡ ended stuck z) ⊎ Lands w z s

  -- the head of a landing, where it is one
  at_landing :
      (o : Option Line) (landing w : ℕ) (before : List Standing) (s : Standing) (more : List Standing) (a : Activation) (rs : Registers) (callers : List Caller) (z : MidState)
      → Receives a rs callers → a.standing ≡ before ++ s ∷ more → s.landing ≡ Some landing → line_of program a.procedure landing ≡ o
      → s.is_open ≡ true → s.outside ≡ length (blocks_of program a more) → z.arena.blocks ≡ record_block s ∷ blocks_of program a more
      → ComesTo w z (land_at o landing w s.outside (with_standing (closed s ∷ more) a) rs callers z)
  unfolding with_some
  at_landing None landing w before s more a rs callers z x e el eo opened counted blocks = inl refl
  at_landing (Some (Landed to)) landing w before s more a rs callers z x e el eo opened counted blocks =
      let bs = blocks_of program a more in
      let found : blocks_closed s.outside (record_block s ∷ bs) ≡ Some (record_block (closed s) ∷ bs) =
      ap (λ t. if t then Some (record_block (closed s) ∷ bs) else None)
      (both_true (is_open (record_kind s.is_open)) (length bs == s.outside) (ap (λ t. is_open (record_kind t)) opened) (eq-eqb (length bs) s.outside (sym counted))) in
      inr (record {
        a = a;
        rs = rs;
        callers = callers;
        receives = x;
        before = before;
        found = s;
        more = more;
        standing_is = e;
        landing = landing;
        landing_is = el;
        to = to;
        is_landed = eo;
        blocks_are = blocks;
        stage_is =
            ap (λ o. arrive (with_standing (closed s ∷ more) a) (landing + 1) callers
            (with_some o (λ bs' rs' y. ends falls (slice_set rs' to (Some w)) (with_arena (with_blocks bs' y.arena) y)) rs z))
            (ap (λ k. blocks_closed s.outside k) blocks ∙ found);
      })
  at_landing (Some y) landing w before s more a rs callers z x e el eo opened counted blocks = inl refl

  -- the landing of a record, where it has one
  in_landing :
      (o : Option ℕ) (w : ℕ) (before : List Standing) (s : Standing) (more : List Standing) (a : Activation) (rs : Registers) (callers : List Caller) (z : MidState)
      → Receives a rs callers → a.standing ≡ before ++ s ∷ more → s.landing ≡ o
      → s.is_open ≡ true → s.outside ≡ length (blocks_of program a more) → z.arena.blocks ≡ record_block s ∷ blocks_of program a more
      → ComesTo w z (land_in program o w s.outside (with_standing (closed s ∷ more) a) rs callers z)
  in_landing None w before s more a rs callers z x e el opened counted blocks = inl refl
  in_landing (Some landing) w before s more a rs callers z x e el opened counted blocks =
      at_landing (line_of program a.procedure landing) landing w before s more a rs callers z x e el refl opened counted blocks

  -- the record is one of these of an activation, or it stands outside the activation
  seeking :
      (a : Activation) (before records : List Standing) (inner : List Block) (b : Block) (outer : List Block) (w : ℕ) (rs : Registers) (callers : List Caller) (z : MidState) (otherwise : Stage)
      → Receives a rs callers → a.standing ≡ before ++ records
      → blocks_of program a records ≡ inner ++ b ∷ outer → is_open b.kind ≡ true → z.arena.blocks ≡ b ∷ outer → BlocksAreCounted program a records
      → ((inner : List Block) → a.outer ≡ inner ++ b ∷ outer → ComesTo w z otherwise)
      → ComesTo w z (land program w (standing_from (length outer) records) a rs callers z otherwise)
  seeking a before [] [] b outer w rs callers z otherwise x all e o m counted h =
      let same : b ≡ frame_of program a.procedure = cc e in
      absurd (cc (o, same, frame_is_not_open (slice_get program.procedures a.procedure)))
  seeking a before [] (y ∷ ys) b outer w rs callers z otherwise x all e o m counted h = h ys (cc e)
  seeking a before (s ∷ records) inner b outer w rs callers z otherwise x all e o m counted h =
      by (s.is_open && (length outer == s.outside)) refl inner e
      (λ ys part. seeking a (before ++ s ∷ []) records ys b outer w rs callers z otherwise x (all ∙ sym (append_assoc before (s ∷ []) records)) part o m counted.1 h)
    where
      by :
          (t : Bool) → (s.is_open && (length outer == s.outside)) ≡ t → (inner : List Block)
          → record_block s ∷ blocks_of program a records ≡ inner ++ b ∷ outer
          → ((ys : List Block) → blocks_of program a records ≡ ys ++ b ∷ outer
          → ComesTo w z (land program w (standing_from (length outer) records) a rs callers z otherwise))
          → ComesTo w z (land program w (if t then s ∷ records else standing_from (length outer) records) a rs callers z otherwise)
      by true t [] e i =
          in_landing s.landing w before s records a rs callers z x all refl (front_true s.is_open (length outer == s.outside) t) counted.0 (m ∙ sym e)
      by true t (y ∷ ys) e i =
          let rest : blocks_of program a records ≡ ys ++ b ∷ outer = cc e in
          let count : length outer ≡ s.outside = eqb-true (length outer) s.outside (back_true s.is_open (length outer == s.outside) t) in
          absurd (omega (arith, count, counted.0, ap length rest, length-append ys (b ∷ outer)))
      by false t [] e i =
          let same : b ≡ record_block s = cc e in
          let rest : outer ≡ blocks_of program a records = cc e in
          let count : length outer ≡ s.outside = ap length rest ∙ sym counted.0 in
          let is_it = both_true s.is_open (length outer == s.outside) (open_is_open s.is_open (ap (λ y. is_open y.kind) (sym same) ∙ o)) (eq-eqb _ _ count) in
          absurd (cc (t, is_it))
      by false t (y ∷ ys) e i = i ys (cc e)

  -- The callers, each of which may be gone to.
  abbrev pub EachReceives : List Caller → Type 0
  EachReceives [] = Unit {0}
  EachReceives (c ∷ callers) = Receives c.activation c.registers callers × EachReceives callers

  seeking_outwards :
      (first : List Block) (callers : List Caller) (blocks inner : List Block) (b : Block) (outer : List Block) (w : ℕ) (z : MidState)
      → EachReceives callers → blocks ≡ inner ++ b ∷ outer → is_open b.kind ≡ true → z.arena.blocks ≡ b ∷ outer → CallersStandOn program first callers blocks
      → ComesTo w z (cut_outwards program (length outer) w callers z)
  seeking_outwards first [] blocks inner b outer w z x e o m k = inl refl
  seeking_outwards first (c ∷ callers) blocks inner b outer w z x e o m k =
      seeking c.activation [] c.activation.standing inner b outer w c.registers callers z _ x.0 refl (sym k.0.all ∙ e) o m k.0.counted
      (λ ys part. seeking_outwards first callers c.activation.outer ys b outer w z x.1 part o m k.1)

  -- what a cut from an activation comes to
  pub cut_comes :
      (first : List Block) (a : Activation) (rs : Registers) (callers : List Caller) (blocks after : List Block) (size address w : ℕ) (z : MidState)
      → Receives a rs callers → EachReceives callers → StandsOn program a blocks → CallersStandOn program first callers a.outer
      → CutPart size address blocks after → z.arena.blocks ≡ after → ComesTo w z (cut_from program (outside_of after) w a rs callers z)
  cut_comes first a rs callers blocks after size address w z x xs st k c m =
      subst (λ n. ComesTo w z (cut_from program n w a rs callers z)) (sym (ap outside_of c.same))
      (seeking a [] a.standing c.inner c.first c.outer w rs callers z _ x refl (sym st.all ∙ c.parts) c.opened (m ∙ c.same) st.counted
      (λ ys part. seeking_outwards first callers a.outer ys c.first c.outer w z xs part c.opened (m ∙ c.same) k))
