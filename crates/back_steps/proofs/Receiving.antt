-- A cut comes to a landing: the activation that laid the record goes on with its records from there on, the first of them closed.
use Rattle.std.proofs.Common.{inl, inr, ◌≡◌, ℕ, ◌+◌, ◌*◌, Bool, true, false, List, [], ◌∷◌, ◌++◌, length, refl, sym, ap, subst, ◌∙◌, arith, Some, None}
use Rattle.std.specs.Prelude.{Option, slice_index, slice_set}
use Rattle.rv_machine.specs.Run.{Moment}
use Rattle.mid_code.specs.declared.operation.Operation.TheVariants.{Call}
use Rattle.mid_code.specs.Arena.{Arena, Block, closed_record, is_lent, with_blocks}
use Rattle.mid_code.specs.State.{Registers, MidState, charged, register, with_arena}
use Rattle.mid_lines.specs.declared.line.Line.TheVariants.{Do, Landed}
use Rattle.mid_lines.specs.declared.line.LineProgram.{LineProgram}
use Rattle.mid_lines.specs.Lines.{line_of}
use Rattle.mid_lines.specs.LineMeaning.{Standing, Activation, Caller, with_standing, closed}
use Rattle.mid_lines.specs.StackLaw.{record_kind, StandsOn, CallersStandOn}
use Rattle.back_places.specs.declared.place.Place.{Place}
use Rattle.back_places.specs.declared.place.Place.TheVariants.{InRegister}
use Rattle.back_places.specs.Places.{StaticRecord, Located}
use Rattle.back_places.specs.LineCode.{taken_code}
use Rattle.back_places.specs.Facts.{ToLanding, ToLandings}
use Rattle.back_places.specs.Good.{IsGood}
use Rattle.back_places.specs.Relation.{base_of, AreThere, HeadsHold, LandingHolds, LandingsHold, Machine, Point, Runs, CallersWait, static_of, statics}
use Rattle.back_emission.specs.Arriving.{Given}
use Rattle.back_emission.proofs.Giving.{register_other, register_same}
use Rattle.back_emission.proofs.Moving.{holds_somewhere, moved}
use Rattle.back_emission.proofs.Records.{heads_same}
use Rattle.back_emission.proofs.Returns.{outlasting}
use Rattle.back_emission.proofs.Steps.{next_line}
use Rattle.back_steps.proofs.Seeking.{EachReceives}

-- what is lent beside a record is lent beside the closed one
lent_as_before :
    (arena : Arena) (n : ℕ) (t : Bool) (bs : List Block) (address : ℕ) → is_lent (with_blocks (record { words = n; kind = closed_record } ∷ bs) arena) address ≡ true
    → is_lent (with_blocks (record { words = n; kind = record_kind t } ∷ bs) arena) address ≡ true
lent_as_before arena n true bs address h = h
lent_as_before arena n false bs address h = h

module _ (program : LineProgram) (l : Located) (Fact : (number line register : ℕ) → Place → Type 0) (first : List Block) where
  -- the machine with its innermost record closed
  pub machine_closed :
      (z : MidState) (words : List ℕ) (m : Moment) (n : ℕ) (t : Bool) (bs : List Block)
      → Machine program l Fact first (with_arena (with_blocks (record { words = n; kind = record_kind t } ∷ bs) z.arena) z) words m
      → Machine program l Fact first (with_arena (with_blocks (record { words = n; kind = closed_record } ∷ bs) z.arena) z) words m
  machine_closed z words m n t bs r = record {
    memory = r.memory;
    arena = record { long = r.arena.long; words_small = r.arena.words_small; lent = λ i w h k. r.arena.lent i w (lent_as_before z.arena n t bs (4 * i) h) k };
    code = r.code;
    apart = record { laid_below = r.apart.laid_below; arguments_below = r.apart.arguments_below; heap_above = r.apart.heap_above };
    form = record { small = r.form.small; fits = r.form.fits; heap = r.form.heap; grown = r.form.grown; below = r.form.below; laid = r.form.laid };
    long = r.long;
    zero_is = r.zero_is;
    registers_small = r.registers_small;
    stack = r.stack;
    heap = r.heap;
    printed = r.printed;
    input = r.input;
    input_small = r.input_small;
  }

  -- An activation to which a cut may go, with its registers: at one of its lines the landings of the records that stand find their facts,
  -- whatever the machine's registers are.
  pub record Receiver (words : List ℕ) (size : ℕ) (a : Activation) (rs : Registers) (callers : List Caller) : Type 0 where
    pub link : ℕ
    pub line : ℕ
    pub goes : ToLandings l Fact a.procedure line (statics a.standing)
    pub landings : LandingsHold program l Fact first words (base_of program size a) a.procedure rs a.standing
    pub heads : HeadsHold program l Fact first words size a a.standing
    pub saved : l.saves a.procedure ≡ true → slice_index words (base_of program size a) ≡ link
    pub waiting : CallersWait program l Fact first words size callers link

  -- what is known of records is known of those from one on

  pub heads_from :
      (words : List ℕ) (size : ℕ) (a : Activation) (before records : List Standing) → HeadsHold program l Fact first words size a (before ++ records)
      → HeadsHold program l Fact first words size a records
  heads_from words size a [] records h = h
  heads_from words size a (s ∷ before) records h = heads_from words size a before records h.1

  landings_from :
      (words : List ℕ) (base number : ℕ) (rs : Registers) (before records : List Standing) → LandingsHold program l Fact first words base number rs (before ++ records)
      → LandingsHold program l Fact first words base number rs records
  landings_from words base number rs [] records h = h
  landings_from words base number rs (s ∷ before) records h = landings_from words base number rs before records h.1

  goes_behind :
      (number line words : ℕ) (landing : Option ℕ) (records : List StaticRecord) → ToLandings l Fact number line (static_of words landing ∷ records)
      → ToLandings l Fact number line records
  goes_behind number line words None records h = h
  goes_behind number line words (Some landing) records h = h.1

  goes_from : (number line : ℕ) (before records : List Standing) → ToLandings l Fact number line (statics (before ++ records)) → ToLandings l Fact number line (statics records)
  goes_from number line [] records h = h
  goes_from number line (s ∷ before) records h =
      goes_from number line before records (goes_behind number line s.words s.landing (statics (before ++ records)) h)

  -- what is known at the landing of a record that stands
  pub facts_at :
      (words : List ℕ) (size : ℕ) (a : Activation) (rs : Registers) (callers : List Caller) (before : List Standing) (s : Standing) (more : List Standing) (landing : ℕ)
      → (x : Receiver words size a rs callers) → a.standing ≡ before ++ s ∷ more → s.landing ≡ Some landing
      → ToLanding l Fact a.procedure x.line s.words landing (statics more) × AreThere program l Fact first [] words (base_of program size a) a.procedure landing rs
  facts_at words size a rs callers before s more landing x e el =
      let goes = goes_from a.procedure x.line before (s ∷ more) (subst (λ k. ToLandings l Fact a.procedure x.line (statics k)) e x.goes) in
      let there = landings_from words (base_of program size a) a.procedure rs before (s ∷ more)
      (subst (λ k. LandingsHold program l Fact first words (base_of program size a) a.procedure rs k) e x.landings) in (
        (subst (λ k. ToLandings l Fact a.procedure x.line (static_of s.words k ∷ statics more)) el goes).0,
        subst (λ k. LandingHolds program l Fact first words (base_of program size a) a.procedure rs k) el there.0,
      )

  -- the facts of the landings of the records that stand at a line are there
  landings_hold :
      (words registers : List ℕ) (base number line : ℕ) (rs : Registers) (records : List Standing)
      → AreThere program l Fact first registers words base number line rs → ToLandings l Fact number line (statics records)
      → LandingsHold program l Fact first words base number rs records
  landings_hold words registers base number line rs [] there to = tt
  landings_hold words registers base number line rs (s ∷ records) there to = by (λ h. landings_hold words registers base number line rs records there h) s.landing to
    where
      by : (ToLandings l Fact number line (statics records) → LandingsHold program l Fact first words base number rs records)
          → (landing : Option ℕ) → ToLandings l Fact number line (static_of s.words landing ∷ statics records)
          → LandingHolds program l Fact first words base number rs landing × LandingsHold program l Fact first words base number rs records
      by deeper None h = (tt, deeper h)
      by deeper (Some landing) h = (
        λ v p w f e. let known = h.0.facts v p f in outlasting registers [] words base p w known.1 (there v p w known.0 e),
        deeper h.1,
      )

  -- the activation that runs
  pub runs_receives :
      (a : Activation) (line : ℕ) (rs : Registers) (callers : List Caller) (z : MidState) (m : Moment) → (r : Runs program l Fact first a line rs callers z m)
      → ToLandings l Fact a.procedure line (l.records a.procedure line) → Receiver r.words (length z.arena.memory) a rs callers
  runs_receives a line rs callers z m r to =
      let goes = subst (λ k. ToLandings l Fact a.procedure line k) r.records_are to in
      record {
        link = r.link;
        line = line;
        goes = goes;
        landings = landings_hold r.words m.state.registers _ a.procedure line rs a.standing r.there goes;
        heads = r.heads;
        saved = r.links.saved;
        waiting = r.waiting;
      }

module _ (program : LineProgram) (l : Located) (Fact : (number line register : ℕ) → Place → Type 0) (first : List Block)
    (good : IsGood program l Fact) where
  -- those that wait
  pub callers_receive :
      (words : List ℕ) (size : ℕ) (callers : List Caller) (link : ℕ) → CallersWait program l Fact first words size callers link
      → EachReceives program (Receiver program l Fact first words size) callers
  callers_receive words size [] link h = tt
  callers_receive words size (c ∷ callers) link h =
      let x = h.0 in
      let g = good.lines c.activation.procedure x.at (Do (Call c.result x.callee x.arguments)) x.is_call in (
        record {
          link = slice_index words (base_of program size c.activation);
          line = x.at;
          goes = subst (λ k. ToLandings l Fact c.activation.procedure x.at k) x.records_are g.landings;
          landings = x.landings;
          heads = x.heads;
          saved = λ e. refl;
          waiting = h.1;
        },
        callers_receive words size callers _ h.1,
      )

  -- The machine stands at the landing of a record, with the blocks from it on, and with the word of the cut in register 12: the word comes to
  -- its place.
  pub received :
      (a : Activation) (rs : Registers) (callers : List Caller) (z : MidState) (w cost : ℕ) (words : List ℕ) (m : Moment)
      (before : List Standing) (s : Standing) (more : List Standing) (landing to : ℕ)
      → Receiver program l Fact first words (length z.arena.memory) a rs callers → a.standing ≡ before ++ s ∷ more → s.landing ≡ Some landing
      → line_of program a.procedure landing ≡ Some (Landed to)
      → StandsOn program (with_standing (closed s ∷ more) a) z.arena.blocks × CallersStandOn program first callers a.outer
      → Machine program l Fact first z words m → m.state.pc ≡ 4 * l.line_at a.procedure landing → slice_index m.state.registers 12 ≡ w
      → Given program l Fact first (with_standing (closed s ∷ more) a) (landing + 1) (slice_set rs to (Some w)) callers (charged cost z) m (length (taken_code l a.procedure landing))
  received a rs callers z w cost words m before s more landing to x e el ed st machine pc word =
      let number = a.procedure in
      let size = length z.arena.memory in
      let a' = with_standing (closed s ∷ more) a in
      let g = good.lines number landing (Landed to) ed in
      let k = facts_at program l Fact first words size a rs callers before s more landing x e el in
      let heads = heads_same program l Fact first good words size a (closed s ∷ more) (s ∷ more)
      (heads_from program l Fact first words size a before (s ∷ more) (subst (λ y. HeadsHold program l Fact first words size a y) e x.heads)) in
      let p : Point program l Fact first a' (l.line_at number landing) (l.records number landing) callers z m = record {
        words = words;
        link = x.link;
        machine = machine;
        pc = pc;
        saved = x.saved;
        records_are = k.0.records ∙ ap (λ y. static_of s.words y ∷ statics more) (sym el);
        heads = heads;
        waiting = x.waiting;
      } in
      let target = l.target number landing in
      moved program l Fact first good a' (l.line_at number landing) (l.records number landing) (landing + 1) w (InRegister 12) target
      (slice_set rs to (Some w)) callers z cost m st p (good.targets number landing)
      (omega arith, omega arith, (λ y. omega (arith, y)), (λ y. omega (arith, y)), (λ y. omega (arith, y)))
      (holds_somewhere target w g.somewhere) word
      (machine.code.lines number landing (Landed to) ed)
      (next_line program l Fact first good number landing (Landed to) ed refl)
      (λ v q y f h. elim (g.flows v q f) [
        | inl same ↦ inl (same.1, register_same rs to w y (ap (λ u. register u (slice_set rs to (Some w))) (sym same.0) ∙ h))
        | inr other ↦ inr (
          outlasting [] m.state.registers words (base_of program size a) q y (k.0.facts v q other.1).1 (k.1 v q y other.1 (sym (register_other rs to v w other.0) ∙ h)),
          other.2,
        )
      ])
      (λ y. absurd (cc (y, g.unlinked)))
      g.records
