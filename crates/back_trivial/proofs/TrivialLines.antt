-- With each register in a slot of its own, and the records of the tree, decisions for the lines of a tree are good but for positions.
use Rattle.std.proofs.Common.{◌≡◌, ℕ, suc, ◌+◌, ◌<◌, true, List, [], ◌∷◌, length, Option, Some, None, refl, sym, ap, ◌∙◌, subst, arith}
use Rattle.std.specs.Prelude.{slice_get}
use Rattle.mid_code.specs.declared.operation.Operation.TheVariants as operation
use Rattle.mid_code.specs.declared.program.MidProcedure.{MidProcedure}
use Rattle.mid_code.specs.declared.program.MidProgram.{MidProgram}
use Rattle.mid_code.specs.Checked.{is_checked_program}
use Rattle.mid_lines.specs.declared.line.Line.{Line}
use Rattle.mid_lines.specs.declared.line.Line.TheVariants.{Do, Branch, Switch, Jump, Lay, Landed, GiveBack, Lend, GiveBackLent, Return, Cut, Halt, Unhandled}
use Rattle.mid_lines.specs.declared.line.LineProcedure.{LineProcedure}
use Rattle.mid_lines.specs.declared.line.LineProgram.{LineProgram}
use Rattle.mid_lines.specs.Lines.{line_of}
use Rattle.mid_lines.specs.Flattened.{program_lines}
use Rattle.mid_lines.specs.StackLaw.{frame_in}
use Rattle.mid_lines.specs.StaticRecords.{StaticRecord, of_landing, only_lent, records_in, procedure_records, records_at, LineFlows}
use Rattle.mid_lines.proofs.Checking.{law_of_form}
use Rattle.mid_lines.proofs.TreeRecords.{law_of_records}
use Rattle.back_places.specs.Places as places
use Rattle.back_places.specs.Places.{Located, way_at, reachable, is_from_stack}
use Rattle.back_places.specs.Facts.{IsPlace}
use Rattle.back_places.specs.Good.{reach_at}
use Rattle.back_places.specs.StepLaw.{Known}
use Rattle.back_places.specs.Trivial.{own_slot, InOwnSlot, ToRecords, SameRecords, RecordsFollow, TargetIs, ArgumentsFit, IsTrivial}
use Rattle.back_places.proofs.LinesInForm.{line_is, line_in_form, frame_words}
use Rattle.back_places.proofs.OwnSlots.{law_of_own_slots}
use Rattle.back_trivial.specs.KnownRecords.{known_records, tree_records}
use Rattle.back_trivial.specs.FrameFound.{finds_frames}
use Rattle.back_trivial.specs.OwnSlots.{target_in, parameters_in, with_own_slots, PassesArguments, is_there, is_in_own_slot, IsPlacedWell}
use Rattle.back_trivial.specs.Laws.{LawOfTrivialLines, LawOfGoodLines}
use Rattle.back_trivial.proofs.Carrying.{all_saved, good_line, good_entry}
use Rattle.back_trivial.proofs.Targets.{line_target_is, nowhere_within, line_within}
use Rattle.back_trivial.proofs.SlotFacts.{test_tells, told}
use Rattle.back_trivial.proofs.Finding.{LandingsHave, LineFinds}
use Rattle.back_trivial.proofs.TreeLines.{of_tree, procedure_of_tree, found_at}

module _ (program : MidProgram) (l : Located) where
  -- the decisions, but that a procedure that is not there saves its return address too
  abbrev own : Located
  own = all_saved (with_own_slots program l)

  -- the records at the lines of a procedure
  abbrev all : ℕ → List (List StaticRecord)
  all number = procedure_records (slice_get program.procedures number)

  arguments_fit : (x : Line) → ArgumentsFit l x → ArgumentsFit own x
  arguments_fit (Do (operation.Call to callee arguments)) h = h
  arguments_fit (Do o) h = tt
  arguments_fit x h = tt

  to_records :
      (number registers frame : ℕ) (records : List StaticRecord) → LandingsHave (all number) registers frame records
      → ToRecords own number (known_records records)
  to_records number registers frame [] h = tt
  to_records number registers frame (of_landing words landing ∷ records) h = (ap known_records h.0, to_records number registers frame records h.1)
  to_records number registers frame (only_lent ∷ records) h = to_records number registers frame records h

  same_records :
      (number line : ℕ) (targets : List ℕ) → ((n to : ℕ) → slice_get targets n ≡ Some to → records_at program number to ≡ records_at program number line)
      → SameRecords own number line targets
  same_records number line [] h = tt
  same_records number line (to ∷ targets) h = (ap known_records (h 0 to refl), same_records number line targets (λ n i e. h (suc n) i e))

  -- the records follow a line of which it is known that they go along with it
  follow :
      (number line registers frame : ℕ) (x : Line) → LineFlows (records_at program number) line x → LineFinds (all number) registers frame line x
      → RecordsFollow own number line x
  follow number line registers frame (Do o) h f = ap known_records h
  follow number line registers frame (Branch t otherwise) h f = (ap known_records h.0, ap known_records h.1)
  follow number line registers frame (Switch r targets) h f = same_records number line targets h
  follow number line registers frame (Jump to) h f = ap known_records h
  follow number line registers frame (Lay block words landing) h f = ap known_records h.0
  follow number line registers frame (Landed r) h f = ap known_records h
  follow number line registers frame (GiveBack words) h f = (places.with_landing words h.0, ap known_records h.1)
  follow number line registers frame (Lend block words) h f = ap known_records h
  follow number line registers frame GiveBackLent h f = (places.only_lent, ap known_records h)
  follow number line registers frame (Return r) h f = ap is_from_stack f.inside.way_is ∙ f.returns
  follow number line registers frame (Cut block word) h f = tt
  follow number line registers frame (Halt r) h f = tt
  follow number line registers frame (Unhandled class site condition) h f = tt

  module _ (finds : finds_frames program ≡ true) where
    records : (number line : ℕ) (x : Line) → line_of (program_lines program) number line ≡ Some x → RecordsFollow own number line x
    records number line x e =
        let t = of_tree program number line x e in
        let flow = law_of_records program in
        follow number line t.tree.registers t.tree.frame x (flow.lines number line x e)
        ((found_at program number t.tree finds t.there).at_line line x t.line_there)

    landings : (number line : ℕ) → ToRecords own number (own.records number line)
    landings number line = by (slice_get program.procedures number) refl
      where
        by : (o : Option MidProcedure) → slice_get program.procedures number ≡ o → ToRecords own number (tree_records program number line)
        by None h = subst (λ o. ToRecords own number (known_records (records_in (slice_get (procedure_records o) line)))) (sym h) tt
        by (Some p) h =
            to_records number p.registers p.frame (records_at program number line) ((found_at program number p finds h).everywhere line).1.landings

    frames : (number : ℕ) (p : LineProcedure) → slice_get (program_lines program).procedures number ≡ Some p → p.registers < p.frame
    frames number p e =
        let t = procedure_of_tree program number p e in
        subst (λ q. q.registers < q.frame) t.same (found_at program number t.tree finds t.there).enough

    reach :
        (number line : ℕ) (p : LineProcedure) → slice_get (program_lines program).procedures number ≡ Some p
        → p.registers < reachable (way_at own number line) p.frame
    reach number line p e =
        let t = procedure_of_tree program number p e in
        let f = (found_at program number t.tree finds t.there).everywhere line in
        subst (λ q. q.registers < reachable (way_at own number line) q.frame) t.same
        (subst (λ w. t.tree.registers < reachable w t.tree.frame) (sym f.1.way_is) f.1.within)

    is_trivial : PassesArguments (program_lines program) l → IsTrivial (program_lines program) own
    is_trivial passes = record {
      sources = λ number line v. refl;
      targets = λ number line x e. subst (λ o. TargetIs (target_in o) x) (sym e) (line_target_is x);
      parameters = λ number p e. ap parameters_in e;
      unlinked = λ number line. refl;
      saves = λ number. refl;
      records = records;
      landings = landings;
      first = λ number. ap known_records ((law_of_records program).entry number);
      arguments = λ number line x e. arguments_fit x (passes.calls number line x e);
      frames = frames;
      reach = reach;
      few = passes.entries;
    }

module _ (program : MidProgram) (l : Located) (checked : is_checked_program program ≡ true) (finds : finds_frames program ≡ true) where
  abbrev listed : LineProgram
  listed = program_lines program

  abbrev decided : Located
  decided = with_own_slots program l

  -- where a line gives its word, as far as one reaches at another
  target_reached :
      (number line next : ℕ) (x : Line) → line_of listed number line ≡ Some x → IsPlace (reach_at listed decided number next) (decided.target number line)
  target_reached number line next x e =
      let i = line_is listed number line x (law_of_form program checked) e in
      let far = reach program l finds number next i.procedure i.there in
      let words = ap (λ n. reachable (way_at decided number next) n) (frame_words listed number i.procedure i.there) in
      let within : i.procedure.registers < reach_at listed decided number next = subst (λ n. i.procedure.registers < n) (sym words) far in
      subst (λ o. IsPlace (reach_at listed decided number next) (target_in o)) (sym e)
      (line_within (reach_at listed decided number next) i.procedure.registers (length i.procedure.lines) x (line_in_form listed number line x i) within)

  target_placed : (number line : ℕ) (o : Option Line) → line_of listed number line ≡ o → IsPlace (reach_at listed decided number line) (decided.target number line)
  target_placed number line None e =
      subst (λ o. IsPlace (reach_at listed decided number line) (target_in o)) (sym e) (nowhere_within (reach_at listed decided number line))
  target_placed number line (Some x) e = target_reached number line line x e

  frame_there : (number : ℕ) (o : Option LineProcedure) → slice_get listed.procedures number ≡ o → is_there o ≡ true → 0 < (frame_in o).words
  frame_there number None e h = absurd (cc h)
  frame_there number (Some p) e h = let more = frames program l finds number p e in omega (arith, more)

  saved : (number line : ℕ) (x : Line) → line_of listed number line ≡ Some x → decided.saves number ≡ true
  saved number line x e =
      let i = line_is listed number line x (law_of_form program checked) e in
      ap is_there i.there

  placed_well : PassesArguments listed l → IsPlacedWell listed decided (Known (is_in_own_slot listed))
  placed_well passes =
      let is = law_of_own_slots listed (all_saved decided) (law_of_form program checked) (is_trivial program l finds passes) in
      record {
        lines = λ number line x e.
            good_line decided (InOwnSlot listed) (Known (is_in_own_slot listed)) (test_tells listed) (told listed) number (saved number line x e) line x
            (is.0 number line x e);
        entries = λ number p e.
            good_entry decided (InOwnSlot listed) (Known (is_in_own_slot listed)) (test_tells listed) (told listed) number p.frame p.parameters (is.1 number p e);
        placed = λ number line v p f. is.2 number line v p (told listed number line v p f);
        sources = λ number line v f. is.3 number line v (told listed number line v (own_slot v) f);
        targets = λ number line. target_placed number line (line_of listed number line) refl;
        behind = λ number line x e lays. target_reached number line (line + 1) x e;
        frames = λ number h. frame_there number (slice_get listed.procedures number) refl h;
      }

pub law_of_trivial_lines : LawOfTrivialLines
law_of_trivial_lines program l checked finds passes = placed_well program l checked finds passes

pub law_of_good_lines : LawOfGoodLines
law_of_good_lines program l checked finds passes laid =
    let placed = placed_well program l checked finds passes in
    record {
      lines = placed.lines;
      laid = laid.laid;
      entries = placed.entries;
      begins = laid.begins;
      placed = placed.placed;
      sources = placed.sources;
      targets = placed.targets;
      behind = placed.behind;
      frames = placed.frames;
      within = laid.within;
      low = laid.low;
    }
