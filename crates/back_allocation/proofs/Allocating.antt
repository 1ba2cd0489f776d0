-- With one place for each register, decisions are good but for positions.
use Rattle.std.proofs.Common.{inl, inr, ◌≡◌, ℕ, ◌+◌, ◌<◌, ◌≤◌, Bool, true, false, length, Option, Some, None, refl, sym, ap, subst, ◌∙◌, arith}
use Rattle.std.specs.Prelude.{◌⊎◌, slice_get, nat_le}
use borrow.Author.Tests.{leb-true, leb-false}
use Rattle.mid_lines.specs.declared.line.Line.{Line}
use Rattle.mid_lines.specs.declared.line.LineProcedure.{LineProcedure}
use Rattle.mid_lines.specs.declared.line.LineProgram.{LineProgram}
use Rattle.mid_lines.specs.Lines.{line_of}
use Rattle.mid_lines.specs.StackLaw.{frame_in, frame_of}
use Rattle.back_places.specs.declared.place.Place.{Place}
use Rattle.back_places.specs.declared.place.Place.TheVariants.{InRegister}
use Rattle.back_places.specs.Places.{Located, way_at, reachable, argument_register}
use Rattle.back_places.specs.Facts.{IsPlace, IsSomewhere, GoodEntry, AreParameterPlaces, EachApart}
use Rattle.back_places.specs.Good.{reach_at}
use Rattle.back_places.specs.StepLaw.{Known}
use Rattle.back_places.proofs.LinesInForm.{frame_words}
use Rattle.back_trivial.specs.OwnSlots.{is_there, IsPlacedWell}
use Rattle.back_allocation.specs.LineSteps.{line_gives}
use Rattle.back_allocation.specs.Allocated.{Choice, is_chosen, place_given, target_in, IsAllocated, LawOfAllocated}
use Rattle.back_allocation.proofs.Facts.{Stands, told, at_line}
use Rattle.back_allocation.proofs.GoodLines.{good_line}
use Rattle.back_allocation.proofs.Parameters.{more_frame, nowhere_placed, own_somewhere, place, count_of, place_at, place_there, place_entered, each_place, parameters_placed, all_apart}

module _ (program : LineProgram) (l : Located) (c : Choice) (t : IsAllocated program l c) where
  abbrev Fact : (number line register : ℕ) → Place → Type 0
  Fact = Known (is_chosen program c)

  -- all places are in the frame, and within reach at each line
  in_frame : (number v : ℕ) (p : LineProcedure) → slice_get program.procedures number ≡ Some p → IsPlace p.frame (c.spot number v)
  in_frame number v p h =
      let frame = t.frames number p h in
      more_frame (c.slots number + 1) p.frame (c.spot number v) (omega (arith, frame)) ((t.stand number p h).places v)

  in_reach :
      (number line v : ℕ) (p : LineProcedure) → slice_get program.procedures number ≡ Some p → IsPlace (reach_at program l number line) (c.spot number v)
  in_reach number line v p h =
      let reach = t.reach number line p h in
      let words = ap (λ n. reachable (way_at l number line) n) (frame_words program number p h) in
      more_frame (c.slots number + 1) (reach_at program l number line) (c.spot number v) (omega (arith, reach, words)) ((t.stand number p h).places v)

  given_in_reach :
      (number next : ℕ) (p : LineProcedure) → slice_get program.procedures number ≡ Some p → (o : Option ℕ)
      → IsPlace (reach_at program l number next) (place_given (c.spot number) o)
  given_in_reach number next p h None = nowhere_placed (reach_at program l number next)
  given_in_reach number next p h (Some to) = in_reach number next to p h

  target_reached :
      (number line next : ℕ) (x : Line) → line_of program number line ≡ Some x → IsPlace (reach_at program l number next) (l.target number line)
  target_reached number line next x e =
      let i = at_line program l c t number line x e in
      subst (IsPlace (reach_at program l number next))
      (sym (t.targets number line ∙ (ap (λ o. target_in (c.spot number) o (slice_get (c.lines number) line)) e ∙ ap (target_in (c.spot number) (Some x)) i.at)))
      (given_in_reach number next i.procedure i.there (line_gives i.named))

  target_placed : (number line : ℕ) (o : Option Line) → line_of program number line ≡ o → IsPlace (reach_at program l number line) (l.target number line)
  target_placed number line None e =
      subst (IsPlace (reach_at program l number line)) (sym (t.targets number line ∙ ap (λ o. target_in (c.spot number) o (slice_get (c.lines number) line)) e))
      (nowhere_placed (reach_at program l number line))
  target_placed number line (Some x) e = target_reached number line line x e

  frame_there : (number : ℕ) (o : Option LineProcedure) → slice_get program.procedures number ≡ o → is_there o ≡ true → 0 < (frame_in o).words
  frame_there number None e h = absurd (cc h)
  frame_there number (Some p) e h = let more = t.frames number p e in omega (arith, more)

  good_entry : (number : ℕ) (p : LineProcedure) → slice_get program.procedures number ≡ Some p → GoodEntry l Fact number p.frame p.parameters
  good_entry number p h =
      let is = t.parameters number p h in
      let spot = c.spot number in
      let alive : ℕ → Bool = c.enters number in
      let s = t.stand number p h in
      record {
        as_many = ap length is ∙ count_of spot alive 0 p.parameters;
        few = t.few number p h;
        places =
            subst (λ ps. AreParameterPlaces l Fact 0 ps) (sym is)
            (parameters_placed spot alive l Fact 0 p.parameters (λ u k e. s.passed u (omega (arith, k)) e));
        in_frame = λ i q e.
            let a = place_at spot alive 0 p.parameters i q (sym (ap (λ ps. slice_get ps i) is) ∙ e) in
            subst (IsPlace p.frame) (sym a.0) (each_place spot alive (IsPlace p.frame) (0 + i) (nowhere_placed p.frame) (λ k. in_frame number (0 + i) p h));
        apart = subst (λ ps. EachApart l Fact ps) (sym is) (all_apart spot alive l Fact s.apart 0 p.parameters);
        facts = λ v q f. put v q f (nat_le p.parameters v) refl;
        no_records = t.first number;
      }
    where
      put : (v : ℕ) (q : Place) → Fact number 0 v q → (b : Bool) → nat_le p.parameters v ≡ b
          → (p.parameters ≤ v) ⊎ ((v < 14) × (q ≡ InRegister (argument_register v))) ⊎ ((slice_get (l.parameters number) v ≡ Some q) × IsSomewhere q)
      put v q f true e = inl (leb-true p.parameters v e)
      put v q f false e =
          let below : v < p.parameters = leb-false p.parameters v e in
          let s = told program c number 0 v q f in
          elim ((t.owned number p h).entry s.name s.below s.alive) [
            | inl own ↦ by_itself below s own
            | inr stays ↦
                (let same = s.owner_is in
                inr (inl (omega (arith, stays.0, same), s.place_is ∙ (stays.1 ∙ ap (λ u. InRegister (argument_register u)) same))))
          ]
        where
          -- a parameter by its own name
          by_itself :
              v < p.parameters → (s : Stands program c number 0 v q) → s.name < p.registers
              → (p.parameters ≤ v) ⊎ ((v < 14) × (q ≡ InRegister (argument_register v))) ⊎ ((slice_get (l.parameters number) v ≡ Some q) × IsSomewhere q)
          by_itself below s low =
              let own : s.name ≡ v = sym ((t.owned number p h).own s.name low) ∙ s.owner_is in
              let alive : c.alive number v 0 ≡ true = ap (λ w. c.alive number w 0) (sym own) ∙ s.alive in
              let place_is : q ≡ c.spot number v = s.place_is ∙ ap (c.spot number) own in
              let z : 0 + v ≡ v = omega arith in
              let a = place_there (c.spot number) (c.enters number) 0 p.parameters v below in
              let b = ap (place (c.spot number) (c.enters number)) z ∙ place_entered (c.spot number) (c.enters number) v ((t.stand number p h).entered v below alive) in
              inr (inr (
                ap (λ ps. slice_get ps v) (t.parameters number p h) ∙ (a ∙ ap Some (b ∙ sym place_is)),
                subst IsSomewhere (sym place_is) (own_somewhere v (c.spot number v) ((t.stand number p h).passed v below ((t.stand number p h).entered v below alive))),
              ))

  pub placed_well : IsPlacedWell program l Fact
  placed_well = record {
    lines = λ number line x e. good_line program l c t number line x (at_line program l c t number line x e) (t.records number line x e) (t.arguments number line x e);
    entries = good_entry;
    placed = λ number line v p f.
        let s = told program c number line v p f in
        subst (IsPlace (frame_of program number).words) (sym s.place_is)
        (subst (λ n. IsPlace n (c.spot number s.name)) (sym (frame_words program number s.procedure s.there)) (in_frame number s.name s.procedure s.there));
    sources = λ number line v f.
        let s = told program c number line v (l.source number line v) f in
        subst (IsPlace (reach_at program l number line)) (sym s.place_is) (in_reach number line s.name s.procedure s.there);
    targets = λ number line. target_placed number line (line_of program number line) refl;
    behind = λ number line x e lays. target_reached number line (line + 1) x e;
    frames = λ number h. frame_there number (slice_get program.procedures number) refl (sym (t.saves number) ∙ h);
  }

pub law_of_allocated : LawOfAllocated
law_of_allocated program l c t = placed_well program l c t
