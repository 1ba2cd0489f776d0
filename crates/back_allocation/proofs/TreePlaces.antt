-- With a choice of places that fits a tree, decisions for its lines are good but for positions.
use Rattle.std.proofs.Common.{◌≡◌, ℕ, suc, ◌<◌, true, List, [], ◌∷◌, Option, Some, None, refl, sym, ap, ◌∙◌, subst}
use Rattle.std.specs.Prelude.{slice_get}
use Rattle.mid_code.specs.declared.operation.Operation.TheVariants as operation
use Rattle.mid_code.specs.declared.program.MidProcedure.{MidProcedure}
use Rattle.mid_code.specs.declared.program.MidProgram.{MidProgram}
use Rattle.mid_code.specs.MidCode.{code_of}
use Rattle.mid_lines.specs.declared.line.Line.{Line}
use Rattle.mid_lines.specs.declared.line.Line.TheVariants.{Do, Branch, Switch, Jump, Lay, Landed, GiveBack, Lend, GiveBackLent, Return, Cut, Halt, Unhandled}
use Rattle.mid_lines.specs.declared.line.LineProcedure.{LineProcedure}
use Rattle.mid_lines.specs.declared.line.LineProgram.{LineProgram}
use Rattle.mid_lines.specs.Lines.{line_of}
use Rattle.mid_lines.specs.Flattened.{code_lines, program_lines}
use Rattle.mid_lines.specs.StaticRecords.{StaticRecord, of_landing, only_lent, records_in, procedure_records, records_at, LineFlows}
use Rattle.mid_lines.proofs.TreeRecords.{law_of_records}
use Rattle.back_places.specs.Places as places
use Rattle.back_places.specs.Places.{Located, way_at, reachable, is_from_stack}
use Rattle.back_places.specs.Trivial.{ToRecords, SameRecords, RecordsFollow, ArgumentsFit}
use Rattle.back_trivial.specs.KnownRecords.{known_records, tree_records}
use Rattle.back_trivial.specs.OwnSlots.{PassesArguments}
use Rattle.mid_lines.proofs.Conjunctions.{both_true}
use Rattle.back_trivial.specs.FrameFound.{procedure_finds}
use Rattle.back_trivial.proofs.Finding.{LandingsHave, LineFinds}
use Rattle.back_trivial.proofs.TreeLines.{Found, found_at, of_tree, procedure_of_tree}
use Rattle.back_allocation.specs.Allocated.{Choice, IsAllocated}
use Rattle.back_allocation.specs.TreePlaces.{parameters_in, with_places, FitsTree, LawOfPlaces, LawOfGoodPlaces}
use Rattle.back_allocation.proofs.Allocating.{law_of_allocated}

-- what is found in a procedure, as that of a program that has it alone
pub found_alone :
    (p : MidProcedure) → procedure_finds p ≡ true → Found (procedure_records (Some p)) p.registers p.frame (code_lines 0 (code_of p.body))
found_alone p h =
    let alone : MidProgram = record { procedures = p ∷ []; laid = [] } in
    found_at alone 0 p (both_true (procedure_finds p) true h refl) refl

module _ (program : MidProgram) (l : Located) (c : Choice) (t : FitsTree program c) where
  abbrev decided : Located
  decided = with_places program c l

  abbrev listed : LineProgram
  listed = program_lines program

  abbrev all : ℕ → List (List StaticRecord)
  all number = procedure_records (slice_get program.procedures number)

  -- what is found in a procedure of the tree
  found_here :
      (number : ℕ) (p : MidProcedure) → slice_get program.procedures number ≡ Some p
      → Found (all number) (c.slots number) p.frame (code_lines 0 (code_of p.body))
  found_here number p h =
      subst (λ o. Found (procedure_records o) (c.slots number) p.frame (code_lines 0 (code_of p.body))) (sym h)
      (found_alone (record p { registers = c.slots number }) (t.finds number p h))

  arguments_fit : (x : Line) → ArgumentsFit l x → ArgumentsFit decided x
  arguments_fit (Do (operation.Call to callee arguments)) h = h
  arguments_fit (Do o) h = tt
  arguments_fit x h = tt

  to_records :
      (number registers frame : ℕ) (records : List StaticRecord) → LandingsHave (all number) registers frame records
      → ToRecords decided number (known_records records)
  to_records number registers frame [] h = tt
  to_records number registers frame (of_landing words landing ∷ records) h = (ap known_records h.0, to_records number registers frame records h.1)
  to_records number registers frame (only_lent ∷ records) h = to_records number registers frame records h

  same_records :
      (number line : ℕ) (targets : List ℕ) → ((n to : ℕ) → slice_get targets n ≡ Some to → records_at program number to ≡ records_at program number line)
      → SameRecords decided number line targets
  same_records number line [] h = tt
  same_records number line (to ∷ targets) h = (ap known_records (h 0 to refl), same_records number line targets (λ n i e. h (suc n) i e))

  follow :
      (number line registers frame : ℕ) (x : Line) → LineFlows (records_at program number) line x → LineFinds (all number) registers frame line x
      → RecordsFollow decided number line x
  follow number line registers frame (Do o) h f = ap known_records h
  follow number line registers frame (Branch test otherwise) h f = (ap known_records h.0, ap known_records h.1)
  follow number line registers frame (Switch r targets) h f = same_records number line targets h
  follow number line registers frame (Jump to) h f = ap known_records h
  follow number line registers frame (Lay block words landing) h f = ap known_records h.0
  follow number line registers frame (Landed r) h f = ap known_records h
  follow number line registers frame (GiveBack words) h f = (places.with_landing words h.0, ap known_records h.1)
  follow number line registers frame (Lend block words) h f = ap known_records h
  follow number line registers frame GiveBackLent h f = (places.only_lent, ap known_records h)
  follow number line registers frame (Return r) h f = ap is_from_stack f.inside.way_is ∙ f.returns
  follow number line registers frame (Cut block word) h f = tt
  follow number line registers frame (Halt r) h f = tt
  follow number line registers frame (Unhandled class site condition) h f = tt

  records : (number line : ℕ) (x : Line) → line_of listed number line ≡ Some x → RecordsFollow decided number line x
  records number line x e =
      let o = of_tree program number line x e in
      let flow = law_of_records program in
      follow number line (c.slots number) o.tree.frame x (flow.lines number line x e) ((found_here number o.tree o.there).at_line line x o.line_there)

  landings : (number line : ℕ) → ToRecords decided number (decided.records number line)
  landings number line = by (slice_get program.procedures number) refl
    where
      by : (o : Option MidProcedure) → slice_get program.procedures number ≡ o → ToRecords decided number (tree_records program number line)
      by None h = subst (λ o. ToRecords decided number (known_records (records_in (slice_get (procedure_records o) line)))) (sym h) tt
      by (Some p) h = to_records number (c.slots number) p.frame (records_at program number line) ((found_here number p h).everywhere line).1.landings

  frames : (number : ℕ) (p : LineProcedure) → slice_get listed.procedures number ≡ Some p → c.slots number < p.frame
  frames number p e =
      let o = procedure_of_tree program number p e in
      subst (λ q. c.slots number < q.frame) o.same (found_here number o.tree o.there).enough

  reach :
      (number line : ℕ) (p : LineProcedure) → slice_get listed.procedures number ≡ Some p → c.slots number < reachable (way_at decided number line) p.frame
  reach number line p e =
      let o = procedure_of_tree program number p e in
      let f = (found_here number o.tree o.there).everywhere line in
      subst (λ q. c.slots number < reachable (way_at decided number line) q.frame) o.same
      (subst (λ w. c.slots number < reachable w o.tree.frame) (sym f.1.way_is) f.1.within)

  pub is_allocated : PassesArguments listed l → IsAllocated listed decided c
  is_allocated passes = record {
    named = t.named;
    owned = t.owned;
    sources = λ number line v. refl;
    targets = λ number line. refl;
    parameters = λ number p e. ap (parameters_in c number) e;
    unlinked = λ number line. refl;
    saves = λ number. refl;
    records = records;
    landings = landings;
    first = λ number. ap known_records ((law_of_records program).entry number);
    arguments = λ number line x e. arguments_fit x (passes.calls number line x e);
    few = passes.entries;
    stand = t.stand;
    frames = frames;
    reach = reach;
  }

pub law_of_places : LawOfPlaces
law_of_places program l c t passes = law_of_allocated (program_lines program) (with_places program c l) c (is_allocated program l c t passes)

pub law_of_good_places : LawOfGoodPlaces
law_of_good_places program l c t passes laid =
    let placed = law_of_places program l c t passes in
    record {
      lines = placed.lines;
      laid = laid.laid;
      entries = placed.entries;
      begins = laid.begins;
      placed = placed.placed;
      sources = placed.sources;
      targets = placed.targets;
      behind = placed.behind;
      frames = placed.frames;
      within = laid.within;
      low = laid.low;
    }
