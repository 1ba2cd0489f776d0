-- Places that fit a program are a choice for all its procedures, by which decisions are good but for positions.
use Rattle.std.proofs.Common.{◌≡◌, ℕ, zero, suc, Bool, false, List, [], ◌∷◌, length, Option, Some, None, option_map, refl, sym, ap, subst, ◌∙◌, arith}
use mathlib.Core.Path.{fun_ext}
use Rattle.std.specs.Prelude.{slice_get}
use Rattle.std.proofs.lemmas.Option.{slice_get-map}
use Rattle.mid_code.specs.declared.program.MidProcedure.{MidProcedure}
use Rattle.mid_code.specs.declared.program.MidProgram.{MidProgram}
use Rattle.mid_lines.specs.declared.line.LineProcedure.{LineProcedure}
use Rattle.mid_lines.specs.Flattened.{procedure_lines, program_lines}
use Rattle.back_places.specs.declared.place.Place.{Place}
use Rattle.back_places.specs.Places.{Located}
use Rattle.back_places.specs.StepLaw.{Known}
use Rattle.back_trivial.specs.KnownRecords.{tree_records}
use Rattle.back_trivial.specs.OwnSlots.{IsPlacedWell}
use Rattle.back_trivial.proofs.TreeLines.{procedure_of_tree}
use Rattle.back_allocation.specs.declared.placing.RegisterPlaces.{RegisterPlaces}
use Rattle.back_allocation.specs.LineSteps.{landings_of, landings_in}
use Rattle.back_allocation.specs.StandingLandings.{line_landings}
use Rattle.back_allocation.specs.Names.{AreNamings, NamesStand}
use Rattle.back_allocation.specs.Standing.{AllStand}
use Rattle.back_allocation.specs.Allocated.{Choice, is_chosen, parameter_places}
use Rattle.back_allocation.specs.Places.{place_at}
use Rattle.back_allocation.specs.TreePlaces.{parameters_in, with_places, FitsTree}
use Rattle.back_allocation.specs.ProgramPlaces.{no_places, places_for, PlacesFit, with_chosen_places, LawOfProgramPlaces}
use Rattle.back_allocation.proofs.ToldLandings.{law_of_landings}
use Rattle.back_allocation.proofs.TreePlaces.{law_of_places}

-- behind the last one nothing is chosen
past_chosen : {X : Type 0} (ps : List X) (chosen : List RegisterPlaces) (number : ℕ) → length chosen ≡ length ps → slice_get ps number ≡ None → places_for chosen number ≡ no_places
past_chosen ps [] number e h = refl
past_chosen [] (a ∷ more) number e h = absurd (omega (arith, e))
past_chosen (p ∷ ps) (a ∷ more) zero e h = absurd (cc h)
past_chosen (p ∷ ps) (a ∷ more) (suc number) e h = past_chosen ps more number (omega (arith, e)) h

-- where the entry brings the parameters of a procedure that may be there
abbrev parameters_of : (spot : (register : ℕ) → Place) → (enters : (register : ℕ) → Bool) → Option LineProcedure → List Place
parameters_of spot enters None = []
parameters_of spot enters (Some p) = parameter_places spot enters 0 p.parameters

module _ (program : MidProgram) (chosen : List RegisterPlaces) (fit : PlacesFit program chosen) where
  -- the tests of a procedure that is there
  abbrev alive_in : (number : ℕ) (o : Option MidProcedure) → slice_get program.procedures number ≡ o → (register line : ℕ) → Bool
  alive_in number None h v line = false
  alive_in number (Some p) h v line = (fit.each number p h).stand.alive v line

  abbrev owner_in : (number : ℕ) (o : Option MidProcedure) → slice_get program.procedures number ≡ o → (name : ℕ) → ℕ
  owner_in number None h w = w
  owner_in number (Some p) h w = (fit.each number p h).stand.owner w

  abbrev names_in : (number : ℕ) (o : Option MidProcedure) → slice_get program.procedures number ≡ o → ℕ
  names_in number None h = 0
  names_in number (Some p) h = (fit.each number p h).stand.names

  abbrev enters_in : (number : ℕ) (o : Option MidProcedure) → slice_get program.procedures number ≡ o → (register : ℕ) → Bool
  enters_in number None h v = false
  enters_in number (Some p) h v = (fit.each number p h).stand.enters v

  -- the choice for all procedures
  abbrev choice : Choice
  choice = record {
    lines = λ number. (places_for chosen number).lines;
    owner = λ number w. owner_in number (slice_get program.procedures number) refl w;
    names = λ number. names_in number (slice_get program.procedures number) refl;
    spot = λ number v. place_at (places_for chosen number).places v;
    alive = λ number v line. alive_in number (slice_get program.procedures number) refl v line;
    enters = λ number v. enters_in number (slice_get program.procedures number) refl v;
    slots = λ number. (places_for chosen number).slots;
  }

  -- names of a procedure that is there are those of its lines, and say what registers have
  named_in :
      (number : ℕ) (o : Option MidProcedure) (e : slice_get program.procedures number ≡ o) (p : MidProcedure) → o ≡ Some p
      → AreNamings (owner_in number o e) (names_in number o e) (procedure_lines p).lines (places_for chosen number).lines
  named_in number None e p g = absurd (cc g)
  named_in number (Some q) e p g =
      let same : q ≡ p = cc g in
      let s = (fit.each number q e).stand in
      subst (λ r. AreNamings s.owner s.names (procedure_lines r).lines (places_for chosen number).lines) same s.named

  owned_in :
      (number : ℕ) (o : Option MidProcedure) (e : slice_get program.procedures number ≡ o) (p : MidProcedure) → o ≡ Some p
      → NamesStand (places_for chosen number).lines p.registers (owner_in number o e) (names_in number o e) (place_at (places_for chosen number).places) (alive_in number o e)
  owned_in number None e p g = absurd (cc g)
  owned_in number (Some q) e p g =
      let same : q ≡ p = cc g in
      let s = (fit.each number q e).stand in
      subst (λ r. NamesStand (places_for chosen number).lines r.registers s.owner s.names (place_at (places_for chosen number).places) s.alive) same s.owned

  -- all names stand well in it
  stand_in :
      (number : ℕ) (o : Option MidProcedure) (e : slice_get program.procedures number ≡ o) (p : MidProcedure) → o ≡ Some p
      → AllStand (places_for chosen number).lines p.parameters (landings_in (line_landings 0 [] (procedure_lines p).lines)) (place_at (places_for chosen number).places)
      (alive_in number o e) (enters_in number o e) (places_for chosen number).slots
  stand_in number None e p g = absurd (cc g)
  stand_in number (Some q) e p g =
      let same : q ≡ p = cc g in
      let s = (fit.each number q e).stand in
      subst
      (λ r. AllStand (places_for chosen number).lines r.parameters (landings_in (line_landings 0 [] (procedure_lines r).lines)) (place_at (places_for chosen number).places) s.alive s.enters
      (places_for chosen number).slots)
      same s.stand

  -- its entry brings parameters where the choice says
  entry_in :
      (number : ℕ) (o : Option MidProcedure) (e : slice_get program.procedures number ≡ o)
      → (places_for chosen number).parameters
      ≡ parameters_of (place_at (places_for chosen number).places) (enters_in number o e) (option_map procedure_lines o)
  entry_in number None e = ap (λ a. a.parameters) (past_chosen program.procedures chosen number fit.count e)
  entry_in number (Some q) e = (fit.each number q e).stand.entry

  fits_tree : FitsTree program choice
  fits_tree = record {
    named = λ number p e.
        let o = procedure_of_tree program number p e in
        subst (λ q. AreNamings (choice.owner number) (choice.names number) q.lines (choice.lines number)) o.same
        (named_in number (slice_get program.procedures number) refl o.tree o.there);
    owned = λ number p e.
        let o = procedure_of_tree program number p e in
        subst (λ q. NamesStand (choice.lines number) q.registers (choice.owner number) (choice.names number) (choice.spot number) (choice.alive number)) o.same
        (owned_in number (slice_get program.procedures number) refl o.tree o.there);
    stand = λ number p e.
        let o = procedure_of_tree program number p e in
        let known = law_of_landings program number o.tree o.there in
        let landings : landings_in (line_landings 0 [] (procedure_lines o.tree).lines) ≡ (λ line. landings_of (tree_records program number line)) =
        ap landings_in known.told ∙ fun_ext known.standing in
        let here = stand_in number (slice_get program.procedures number) refl o.tree o.there in
        subst
        (λ q. AllStand (choice.lines number) q.parameters (λ line. landings_of (tree_records program number line)) (choice.spot number) (choice.alive number) (choice.enters number)
        (choice.slots number))
        o.same
        (subst
        (λ t. AllStand (choice.lines number) o.tree.parameters t (choice.spot number) (choice.alive number) (choice.enters number) (choice.slots number))
        landings here);
    finds = λ number p h. (fit.each number p h).finds;
  }

  parameters_same : (number : ℕ) → parameters_in choice number (slice_get (program_lines program).procedures number) ≡ (places_for chosen number).parameters
  parameters_same number =
      ap (parameters_in choice number) (slice_get-map procedure_lines program.procedures number)
      ∙ told_by (slice_get program.procedures number) ∙ sym (entry_in number (slice_get program.procedures number) refl)
    where
      told_by :
          (o : Option MidProcedure)
          → parameters_in choice number (option_map procedure_lines o) ≡ parameters_of (choice.spot number) (choice.enters number) (option_map procedure_lines o)
      told_by None = refl
      told_by (Some p) = refl

  -- what is decided by the places is decided by the choice
  decided_same : (l : Located) → with_places program choice l ≡ with_chosen_places program chosen l
  decided_same l = ap (λ parameters. record (with_chosen_places program chosen l) { parameters = parameters }) (fun_ext parameters_same)

pub law_of_program_places : LawOfProgramPlaces
law_of_program_places program chosen l fit passes =
    let c = choice program chosen fit in
    record {
      known = is_chosen (program_lines program) c;
      well =
          subst (λ d. IsPlacedWell (program_lines program) d (Known (is_chosen (program_lines program) c))) (decided_same program chosen fit l)
          (law_of_places program l c (fits_tree program chosen fit) passes);
    }
